use Rattle.std.proofs.Common.{sym, ap, ◌∙◌}
use Rattle.shape.specs.Shapes.{taken}
use Rattle.rules.proofs.Needing.{arguments-missing, arguments-none, arguments-turn}
use Rattle.rules.proofs.needs.under_arguments.Goals as goal

pub returns-in_err-rest : goal.returns-in_err-rest
returns-in_err-rest c =
    let t = ap (λ want. taken want c.loop-kind.rest) c.argument_of.ensures in
    c.from_residual.ensures ∙ sym (c.loop-kind.invariant ∙ arguments-missing _ _ c.in-Some.kind c.loop-kind.rest c.in-Some.ensures.steps (c.in_err-rest.ensures ∙ t))

pub loop-kind-preserved : goal.loop-kind-preserved
loop-kind-preserved c =
    let t = ap (λ want. taken want c.loop-kind.rest) c.argument_of.ensures in
    c.loop-kind.invariant ∙ arguments-turn _ _ c.in-Some.kind c.loop-kind.rest c.in-Some.ensures.steps c.in_ok-rest.rest (c.in_ok-rest.ensures ∙ t)

pub returns : goal.returns
returns c = sym (c.loop-kind.invariant ∙ arguments-none _ c.loop-kind.rest c.in-None.ensures.steps.0)
