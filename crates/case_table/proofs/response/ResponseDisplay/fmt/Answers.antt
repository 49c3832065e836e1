use Rattle.std.proofs.Common.{refl}
use Rattle.case_table.proofs.Telling.{passed-text}
use Rattle.case_table.proofs.response.ResponseDisplay.fmt.Goals as goal

pub returns-in-Ok-clause-writes : goal.returns-in-Ok-clause-writes
returns-in-Ok-clause-writes g c =
    rw (c.in-Judged.is, c.in-Ok.is) (passed-text _ _ (g.T.Display.output c.in-Ok.passed) _ _ (λ text is. rw is refl) c.write-in-Ok.ensures.writes)
