-- What clearing answers.
use Rattle.std.specs.Prelude.{◌≡◌, ℕ, ◌<◌, ◌≤◌, cond, List, length, Some, None, Ok, Err, Option, Result, nat_lt}
use Rattle.entries.specs.declared.Entry.{Entry}
use Rattle.package.specs.Package.{Package}
use Rattle.rules.specs.Starts.{Start}
use Rattle.verdict.specs.declared.ClearFault.{ClearFault}
use Rattle.verdict.specs.declared.ClearFault.TheVariants.{WorkTooShort, Broken}
use Rattle.verdict.specs.Assignment.{Clears}
use Rattle.verdict.specs.Breaking.{Breach, Soonest, Unbroken, verdict}

abbrev pub ruled : Package → Option Breach → Result Package ClearFault
ruled k None = Ok k
ruled k (Some b) = Err (Broken b.rule b.place)

-- The answer with so many bytes of work area. It rests on code, procedures and marks, and on nothing else of the bytes.
unfoldable pub clearing : Package → ℕ → Result Package ClearFault
clearing k room = cond (nat_lt room (length k.code)) (Err WorkTooShort) (ruled k (verdict k))

-- There is a shape for each instruction, and no other, with which the rules hold.
pub record Cleared (k : Package) : Type 0 where
  pub shape : ℕ → List Entry
  pub clears : Clears k shape
  pub only : (other : ℕ → List Entry) → Clears k other → (x : ℕ) → Start k.code x → x < length k.code → other x ≡ shape x

-- Clears exactly: with enough work area a package is cleared exactly when there are such shapes.
abbrev pub ClearsExactly : Package → ℕ → Result Package ClearFault → Type 0
ClearsExactly k room (Ok j) = (length k.code ≤ room) × (j ≡ k) × Cleared k
ClearsExactly k room (Err WorkTooShort) = room < length k.code
ClearsExactly k room (Err (Broken r p)) = (length k.code ≤ room) × ((shape : ℕ → List Entry) → Clears k shape → ⊥)

-- First broken rule: a refusal names a rule that is broken at its place, and none is broken sooner; where there is no
-- refusal, none is broken anywhere.
abbrev pub FirstBroken : Package → Result Package ClearFault → Type 0
FirstBroken k (Ok j) = Unbroken k
FirstBroken k (Err WorkTooShort) = Unit {0}
FirstBroken k (Err (Broken r p)) = Soonest k (record { rule = r; place = p })
