-- What the passes over the code answer and leave.
use Rattle.std.specs.Prelude.{◌≡◌, ℕ, ◌<◌, false, cond, List, length, Some, None, Ok, Err, Option, Result, nat_lt}
use Rattle.rules.specs.Starts.{is_start}
use Rattle.start_table.specs.declared.StartTable.{StartTable}
use Rattle.start_table.specs.Table.{size, told}
use Rattle.start_table.specs.Wiping.{wiped}
use Rattle.verdict.specs.declared.ClearFault.{ClearFault}
use Rattle.verdict.specs.declared.ClearFault.TheVariants.{Broken}
use Rattle.verdict.specs.Breaking.{Breach}

abbrev pub passed : Option Breach → Result (Unit {0}) ClearFault
passed None = Ok tt
passed (Some b) = Err (Broken b.rule b.place)

-- no start is told
abbrev pub Blank : StartTable → Type 0
Blank t = (y : ℕ) → y < size t → told t y ≡ false

-- below n, the starts of the code are told
abbrev pub TellsStarts : List ℕ → StartTable → ℕ → Type 0
TellsStarts code t n = (y : ℕ) → y < n → told t y ≡ is_start code y

-- what the work area holds after clearing c bytes of code: as before where it is too short; else the first c are zero
abbrev pub work_after : ℕ → List ℕ → List ℕ
work_after c xs = cond (nat_lt (length xs) c) xs (wiped c xs)
