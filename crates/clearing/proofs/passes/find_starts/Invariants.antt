use Rattle.std.proofs.Common.{◌≡◌, ℕ, ◌<◌, ◌≤◌, false, [], ◌∷◌, None}
use Rattle.rules.specs.declared.rule.Rule.TheVariants.{Undecoded}
use Rattle.rules.specs.Sites.{lowest}
use Rattle.rules.specs.Starts.{start_from}
use Rattle.start_table.specs.Table.{Kept, size, told}
use Rattle.verdict.specs.Breaking.{breaks, first_below}
use Rattle.clearing.specs.Passing.{TellsStarts}
use Rattle.clearing.proofs.passes.find_starts.Given as goal

abbrev pub invariant-loop-at : goal.invariant-loop-at
invariant-loop-at l =
    (l.next ≡ start_from l.read.code l.at)
    × (first_below (λ x. lowest (Undecoded ∷ []) (breaks l.read x)) l.at ≡ None)
    × TellsStarts l.read.code l.table l.at
    × ((y : ℕ) → l.at ≤ y → y < size l.table → told l.table y ≡ false)
    × Kept l.initial.table l.table
