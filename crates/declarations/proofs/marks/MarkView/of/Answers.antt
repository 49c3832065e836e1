use Rattle.std.proofs.Common.{map, ap, ◌∙◌, rules}
use Rattle.std.proofs.lemmas.List.{take_rest}
use Rattle.declarations.specs.Entries.{entry_in}
use Rattle.declarations.specs.Marks.{entries_of}
use Rattle.declarations.proofs.Bodies.{mark_made}
use Rattle.declarations.proofs.Triples.{entries-in}
use Rattle.declarations.proofs.marks.MarkView.of.Goals as goal

pub returns : goal.returns
returns c =
    mark_made c.args.body.now _ _ (search rules) c.from_be_bytes.ensures (ap (map entry_in) c.as_chunks.ensures.front ∙ entries-in _ ∙ ap entries_of (take_rest c.args.body.now 2))
