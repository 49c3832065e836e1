use Rattle.std.proofs.Common.{rules, ◌∙◌}
use Rattle.std.proofs.lemmas.Iterator.Search.{all_from_yields_List}
use Rattle.std.proofs.lemmas.Iterator.{YieldsList-from_slice}
use Rattle.declarations.specs.Kinds.{is_kind}
use Rattle.declarations.proofs.Checks.{kinds-all}
use Rattle.declarations.proofs.procedures.are_kinds.Goals as goal

pub returns : goal.returns
returns c =
    all_from_yields_List is_kind _ _ _ c.all.ensures.ran (YieldsList-from_slice _ c.iter.ensures.rest) (λ x b q k. search rules)
    ∙ kinds-all c.args.bytes.now
