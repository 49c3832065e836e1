use Rattle.std.proofs.Common.{◌≡◌, [], ◌∷◌, None}
use Rattle.rules.specs.declared.rule.Rule.TheVariants.{Misplaced}
use Rattle.rules.specs.Sites.{lowest}
use Rattle.verdict.specs.Breaking.{breaks, first_below}
use Rattle.clearing.proofs.passes.check_places.Given as goal

abbrev pub invariant-loop-at : goal.invariant-loop-at
invariant-loop-at l = first_below (λ x. lowest (Misplaced ∷ []) (breaks l.read x)) l.at ≡ None
