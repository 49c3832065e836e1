use Rattle.std.proofs.Common.{rules, arith, sym, ap, length}
use Rattle.fields.specs.Fields.{seen_field}
use Rattle.fields.proofs.Bodies.{fields-end, fields-more}
use Rattle.fields.proofs.FieldsIterator.next.Goals as goal

pub returns-in_err-field-clause-steps : goal.returns-in_err-field-clause-steps
returns-in_err-field-clause-steps c = grind (arith, fields-end)

pub returns-clause-steps : goal.returns-clause-steps
returns-clause-steps c = fields-more c.args.self.now.rest.now (seen_field c.in_ok-field.field) (sym c.in_ok-field.ensures)

pub returns-clause-goes : goal.returns-clause-goes
returns-clause-goes c =
    let m = ap length (fields-more c.args.self.now.rest.now (seen_field c.in_ok-field.field) (sym c.in_ok-field.ensures)) in
    search (rules, arith)
