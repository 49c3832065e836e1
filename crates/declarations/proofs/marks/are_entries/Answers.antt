use Rattle.std.proofs.Common.{rules, ap, ◌∙◌}
use Rattle.std.specs.List.{list_all}
use Rattle.std.proofs.lemmas.Iterator.Search.{all_from_yields_List}
use Rattle.std.proofs.lemmas.Iterator.{YieldsList-from_slice}
use Rattle.declarations.specs.Entries.{is_entry_in}
use Rattle.declarations.proofs.Triples.{entries-all}
use Rattle.declarations.proofs.marks.are_entries.Goals as goal

pub returns : goal.returns
returns c =
    all_from_yields_List is_entry_in _ _ _ c.all.ensures.ran (YieldsList-from_slice _ c.iter.ensures.rest) (λ x b q k. search rules)
    ∙ ap (list_all is_entry_in) c.as_chunks.ensures.front ∙ entries-all c.args.bytes.now
