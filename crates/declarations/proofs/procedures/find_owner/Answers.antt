use Rattle.std.proofs.Common.{[], leb, rules, ap, ◌∙◌}
use Rattle.std.specs.Option.{unwrap_or}
use Rattle.std.proofs.lemmas.Iterator.{YieldsList-from_map_by}
use Rattle.std.proofs.lemmas.Iterator.Consumers.{YieldsList-from_first, YieldsList-at}
use Rattle.std.proofs.lemmas.Iterator.Search.{YieldsList-from_take_while}
use Rattle.fields.specs.Fields.{bodies_in, fields_left, seen_field}
use Rattle.declarations.specs.Procedures.{procedure_of}
use Rattle.declarations.proofs.Lists.{last_from_yields_List, unwrap_or-map}
use Rattle.declarations.proofs.Owners.{owner-last}
use Rattle.declarations.proofs.procedures.find_owner.Goals as goal

pub returns : goal.returns
returns c =
    c.of-2.ensures
    ∙ ap procedure_of (ap (λ b. b.now) c.unwrap_or-body.ensures ∙ unwrap_or-map (λ b. b.now) c.last.result _
    ∙ ap (λ o. unwrap_or o [])
    (last_from_yields_List c.last.result c.last.ensures.ran
    (YieldsList-from_take_while _ (λ b. leb (procedure_of b).offset c.args.offset)
    (YieldsList-at c.take_while.ensures.source
    (YieldsList-from_map_by _ (λ b. b.now) (λ f. f.body) (YieldsList-at c.map.ensures.source (YieldsList-from_first seen_field fields_left _ c.of.ensures)) c.map.ensures.closure (λ x r q k. search rules)))
    c.take_while.ensures.closure c.take_while.ensures.done (λ x b q k. search rules))))
    ∙ owner-last [] (bodies_in c.args.procedures.now) c.args.offset
