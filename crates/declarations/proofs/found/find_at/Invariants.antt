use Rattle.std.proofs.Common.{◌≡◌, ◌==◌, map}
use Rattle.std.specs.List.{find}
use Rattle.fields.specs.Fields.{bodies_in, fields_left}
use Rattle.declarations.proofs.found.find_at.Given as goal

abbrev pub invariant-loop-field : goal.invariant-loop-field
invariant-loop-field g l =
    find (λ m. g.V.FieldView.place m == l.offset) (map g.V.FieldView.told (bodies_in l.fields))
    ≡ find (λ m. g.V.FieldView.place m == l.offset) (map g.V.FieldView.told (map (λ f. f.body) (fields_left l.field-iterator)))
