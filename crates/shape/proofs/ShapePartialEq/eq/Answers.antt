use Rattle.std.proofs.Common.{rules}
use Rattle.shape.proofs.Equal.{rows-same}
use Rattle.shape.proofs.ShapePartialEq.eq.Goals as goal

pub returns : goal.returns
returns c = search (rules, rows-same)
