use Rattle.std.proofs.Common.{◌≡◌, ◌≤◌, rules, arith, length, length-take, take}
use Rattle.std.proofs.lemmas.List.{length-map}
use Rattle.std.proofs.lemmas.Iterator.{YieldsList-from_map}
use Rattle.std.proofs.lemmas.Iterator.Consumers.{YieldsList-from_first, YieldsList-at, sum_by_from_yields_List}
use Rattle.std.proofs.lemmas.Iterator.Adapters.{fits_from_length, at_most_from_yields_List}
use Rattle.entries.specs.Sizes.{size_of}
use Rattle.declarations.specs.Kinds.{kind_of}
use Rattle.declarations.specs.Procedures.{parameters_size}
use Rattle.declarations.specs.Views.{parameters_left, procedure_seen}
use Rattle.declarations.proofs.Bodies.{size-le}
use Rattle.declarations.proofs.procedures.ProcedureView.parameters_size.Goals as goal

pub sum-requires-clause-fits : goal.sum-requires-clause-fits
sum-requires-clause-fits c =
    let few : length (procedure_seen c.args.self.now).parameters ≤ 8 = omega (arith, length-map (take 8 c.args.self.now.kinds.now) kind_of, length-take 8 c.args.self.now.kinds.now) in
    fits_from_length _ _ 8 _ (at_most_from_yields_List (YieldsList-at c.map.ensures.source (YieldsList-from_first (λ x. x) parameters_left _ c.parameters.ensures)) few) c.map.ensures.closure (omega arith) (λ x r q k. grind (arith, size-le))

pub returns : goal.returns
returns c =
    let summed : c.sum.result ≡ parameters_size (procedure_seen c.args.self.now).parameters =
    sum_by_from_yields_List size_of _ c.map.result _ c.sum.ensures.ran (YieldsList-from_map _ size_of (YieldsList-at c.map.ensures.source (YieldsList-from_first (λ x. x) parameters_left _ c.parameters.ensures)) c.map.ensures.closure (λ x r q k. search rules)) in
    omega (arith, summed)
