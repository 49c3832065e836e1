use Rattle.std.proofs.Common.{rules, ◌≤◌, length, take, arith}
use Rattle.std.proofs.lemmas.Iterator.{YieldsList-from_slice}
use Rattle.std.proofs.lemmas.Iterator.Adapters.{fits_from_length, at_most_from_yields_List}
use Rattle.std.proofs.lemmas.List.{length-take-le}
use Rattle.std.proofs.iter.runs.Made.{chains}
use Rattle.shape.specs.Shapes.{shape_size}
use Rattle.shape.proofs.Rows.{size-reversed}
use Rattle.shape.proofs.Shape.exceeds.Goals as goal

-- at most sixteen entries, each of fewer than 2 ^ 34 bytes
pub sum-size-requires-clause-fits : goal.sum-size-requires-clause-fits
sum-size-requires-clause-fits c =
    let held = take c.self.inside.count c.self.inside.rows in
    let few : length held ≤ 16 = search (rules, length-take-le) in
    fits_from_length _ _ 16 _ (at_most_from_yields_List (YieldsList-from_slice held cc) few) c.map.ensures.closure (omega arith) (λ x r q k. search rules)

pub returns : goal.returns
unfolding shape_size
returns c = search (rules, chains, size-reversed)
