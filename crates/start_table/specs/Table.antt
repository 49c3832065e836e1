-- The table of starts.
use Rattle.std.specs.Prelude.{◌≡◌, ℕ, ◌<◌, Bool, true, false, List, length, ◌==◌, ◌≢◌, slice_index}
use Rattle.std.specs.Borrow.{MutBor}
use Rattle.start_table.specs.declared.StartTable.{StartTable}

-- of how many offsets the table tells
abbrev pub size : StartTable → ℕ
size t = length t.bytes.now

-- whether the table tells a start at y
unfoldable pub told : StartTable → ℕ → Bool
told t y = slice_index t.bytes.now y == 1

-- What every use of a table keeps: its size and the lent bytes.
pub record Kept (was after : StartTable) : Type 0 where
  pub size : size after ≡ size was
  pub same : after.bytes.ghost_name ≡ was.bytes.ghost_name

-- A new table over lent bytes tells no start.
pub record Over (work : MutBor (List ℕ)) (t : StartTable) : Type 0 where
  pub long : size t ≡ length work.now
  pub lent : t.bytes.ghost_name ≡ work.ghost_name
  pub none : (y : ℕ) → y < size t → told t y ≡ false

-- One start more is told.
pub record TellsMore (x : ℕ) (was after : StartTable) : Type 0 where
  pub there : told after x ≡ true
  pub others : (y : ℕ) → (y ≢ x) → told after y ≡ told was y
