use Rattle.std.proofs.Common.{rules}
use Rattle.std.proofs.lemmas.List.{take_rest}
use Rattle.fields.proofs.Cuts.{cut-whole}
use Rattle.fields.proofs.next_field.Goals as goal

pub returns : goal.returns
returns c =
    cut-whole c.args.bytes.now _ _ _ _ (search rules) (take_rest c.args.bytes.now 3) c.from_be_bytes-length.ensures c.if-rest-length.false c.split_at.ensures.front c.split_at.ensures.back
