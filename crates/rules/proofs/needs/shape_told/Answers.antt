use Rattle.std.proofs.Common.{◌++◌, reverse, take, sym, ◌∙◌, arith}
use Rattle.rules.proofs.Needing.{told_next}
use Rattle.rules.proofs.needs.shape_told.Goals as goal

pub loop-entry-preserved : goal.loop-entry-preserved
loop-entry-preserved c =
    let i = c.loop-entry.invariant in
    let s = c.in-Some.ensures.steps in
    let m = told_next _ _ c.in-Some.entry c.push.result c.loop-entry.shape c.push.new.self (omega (arith, i.room, s.1)) c.push.ensures in
    record { told = i.told ∙ (λ j. reverse (take (sym s.1 j) (s.0 j)) ++ c.loop-entry.shape) ∙ m.0; room = m.1 }
