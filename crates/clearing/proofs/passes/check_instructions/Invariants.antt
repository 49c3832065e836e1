use Rattle.std.proofs.Common.{◌≡◌, None}
use Rattle.rules.specs.Sites.{instruction_rules, lowest}
use Rattle.verdict.specs.Breaking.{breaks, falls_into, first_below}
use Rattle.clearing.proofs.passes.check_instructions.Given as goal

abbrev pub invariant-loop-at : goal.invariant-loop-at
invariant-loop-at l =
    (first_below (λ x. lowest instruction_rules (breaks l.read x)) l.at ≡ None)
    × (l.carry ≡ falls_into l.read l.at)
