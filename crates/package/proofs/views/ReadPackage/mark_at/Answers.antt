use Rattle.std.proofs.Common.{◌≡◌, ℕ, [], None, refl, arith, sym, ap, ◌∙◌}
use Rattle.std.proofs.lemmas.List.{nil_from_length}
use Rattle.fields.specs.Fields.{fields_in, fields_up_to}
use Rattle.declarations.specs.Marks.{mark_at}
use Rattle.declarations.specs.Views.{marks_in}
use Rattle.package.proofs.views.ReadPackage.mark_at.Goals as goal

-- a package without marks has none at any offset
no-mark : (x : ℕ) → None ≡ mark_at (marks_in []) x
unfolding mark_at fields_in fields_up_to
no-mark x = refl

pub returns-then-is_empty : goal.returns-then-is_empty
returns-then-is_empty c =
    let none : c.self.inside.marks.now ≡ [] = nil_from_length _ (grind arith) in
    no-mark c.args.offset ∙ ap (λ xs. mark_at (marks_in xs) c.args.offset) (sym none) ∙ ap (λ p. mark_at p.marks c.args.offset) c.self.view_is
