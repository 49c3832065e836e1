-- The rows of a shape.
use Rattle.std.specs.Prelude.{◌≡◌, ◌-◌, ◌≤◌, List, ◌++◌, reverse, length, take, drop, replicate}
use Rattle.std.proofs.Common.{◌∙◌, arith}
use Rattle.std.proofs.lemmas.List.{length-reverse, length-take-le, reverse-reverse, take-append-drop}
use Rattle.entries.specs.declared.Entry.{Entry}
use Rattle.entries.specs.declared.EntryKind.TheVariants.{Byte}
use Rattle.shape.specs.declared.Shape.TheInside.{Inside}

-- what the rows hold, the top of the stack first
abbrev pub entries_of : Inside → List Entry
entries_of s = reverse (take s.count s.rows)

-- what a row holds that holds no entry
abbrev pub blank : Entry
blank = record { kind = Byte; number = 0 }

-- there are sixteen rows, and those behind the entries are blank
pub record BlankBehind (s : Inside) : Type 0 where
  pub few : s.count ≤ 16
  pub wide : length s.rows ≡ 16
  pub blanks : drop s.count s.rows ≡ replicate (16 - s.count) blank

-- the rows that hold some entries
abbrev pub rows_of : List Entry → Inside
rows_of σ = record { rows = reverse σ ++ replicate (16 - length σ) blank; count = length σ }

-- what the rows hold tells the rows
pub rows_back : (s : Inside) → BlankBehind s → rows_of (entries_of s) ≡ s
rows_back s h =
    let n = s.count in
    let held : length (reverse (take n s.rows)) ≡ n = length-reverse (take n s.rows) ∙ length-take-le n s.rows (omega (arith, h.few, h.wide)) in
    let all : reverse (reverse (take n s.rows)) ++ replicate (16 - length (reverse (take n s.rows))) blank ≡ s.rows =
    rw (reverse-reverse, held, ← h.blanks) (take-append-drop n s.rows) in
    λ i. record { rows = all i; count = held i }
