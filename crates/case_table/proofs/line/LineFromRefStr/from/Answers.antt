use Rattle.std.proofs.Common.{refl, arith}
use Rattle.case_table.specs.Lines.{colon}
use Rattle.case_table.proofs.Cut.{cut, uncut}
use Rattle.case_table.proofs.line.LineFromRefStr.from.Goals as goal

pub returns-in-Some : goal.returns-in-Some
returns-in-Some c =
    let k = cut colon (omega arith) _ _ c.split_once.ensures.cases _ c.in-Some.is in
    (k.lacks, k.joined)

pub returns-in-None : goal.returns-in-None
returns-in-None c =
    ((uncut colon (omega arith) _ _ c.split_once.ensures.cases c.in-None.is).1, refl)
