use Rattle.std.proofs.Common.{◌≡◌, length, sym, ap, arith, ◌∙◌, inl}
use Rattle.std.proofs.lemmas.List.{length-map}
use Rattle.std.proofs.lemmas.Iterator.Consumers.{count_from_yields_List, YieldsList-from_first}
use Rattle.fields.specs.Fields.{bodies_in, seen_field, fields_left}
use Rattle.fields.proofs.Bodies.{fields-few}
use Rattle.fields.proofs.field_count.Goals as goal

pub count-requires-clause-fits : goal.count-requires-clause-fits
count-requires-clause-fits c = inl (omega (arith, fields-few c.args.bytes.now, ap length c.of.ensures))

pub returns : goal.returns
returns c =
    let counted : c.count.result ≡ length (bodies_in c.args.bytes.now) =
    count_from_yields_List c.of.result c.count.result c.count.ensures.ran (YieldsList-from_first seen_field fields_left _ c.of.ensures)
    ∙ sym (length-map _ _) in
    omega (arith, counted)
