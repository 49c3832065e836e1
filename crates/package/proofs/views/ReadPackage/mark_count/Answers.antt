use Rattle.std.proofs.Common.{length, sym, ap, ◌∙◌}
use Rattle.std.proofs.lemmas.List.{length-map}
use Rattle.declarations.specs.Marks.{mark_of}
use Rattle.package.specs.Package.{Package}
use Rattle.package.proofs.views.ReadPackage.mark_count.Goals as goal

pub returns : goal.returns
returns c = c.field_count.ensures ∙ sym (length-map _ mark_of) ∙ ap (λ (k : Package). length k.marks) c.self.view_is
