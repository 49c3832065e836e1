use Rattle.std.proofs.Common.{rules}
use Rattle.std.proofs.lemmas.List.{take_rest}
use Rattle.declarations.proofs.Bodies.{procedure-made}
use Rattle.declarations.proofs.procedures.ProcedureView.of.Goals as goal

pub returns : goal.returns
returns c =
    procedure-made c.args.body.now _ _ _ _ _ (search rules) c.from_be_bytes.ensures c.from_be_bytes-2.ensures c.from_be_bytes-3.ensures c.result_of.ensures (take_rest c.args.body.now 8)
