use Rattle.std.proofs.Common.{rules}
use Rattle.shape.proofs.Rows.{top_row}
use Rattle.shape.proofs.Shape.top.Goals as goal

pub returns : goal.returns
returns c = search (rules, top_row)
