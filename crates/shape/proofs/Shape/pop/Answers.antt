use Rattle.std.proofs.Common.{rules}
use Rattle.shape.proofs.Rows.{rows-popped, blank-popped}
use Rattle.shape.proofs.Shape.pop.Goals as goal

pub invariant_of-self : goal.invariant_of-self
invariant_of-self c = search (rules, blank-popped)

pub returns : goal.returns
returns c = search (rules, rows-popped)
