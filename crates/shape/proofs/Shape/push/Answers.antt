use Rattle.std.proofs.Common.{rules}
use Rattle.shape.proofs.Rows.{rows_pushed, blank_pushed, entries-length}
use Rattle.shape.proofs.Shape.push.Goals as goal

pub invariant_of-self : goal.invariant_of-self
invariant_of-self c = search (rules, blank_pushed)

pub returns : goal.returns
returns c = search (rules, rows_pushed, entries-length)
