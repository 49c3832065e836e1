use Rattle.std.proofs.Common.{◌+◌, ◌<◌, length, sym, ap, ◌∙◌, subst, arith}
use Rattle.instruction.specs.Decoding.{decoded}
use Rattle.rules.specs.declared.rule.Rule.TheVariants.{Undecoded}
use Rattle.rules.proofs.Starting.{from-none}
use Rattle.start_table.specs.declared.StartTable.{StartTable}
use Rattle.start_table.specs.Table.{Kept, size}
use Rattle.start_table.proofs.Keeping.{kept_refl, kept_trans}
use Rattle.clearing.specs.Passing.{TellsStarts}
use Rattle.clearing.proofs.Scans.{below_more, below_none, decoded-some, found, no_start, undecoded-none}
use Rattle.clearing.proofs.Telling.{BlankFrom, blank-more, next-behind, next-same, no-start-here, starts-here, tells_none, tells-start}
use Rattle.clearing.proofs.Turns.{err-ok}
use Rattle.clearing.proofs.passes.find_starts.Goals.{then-at-next+in-Some, else-at-next}
use Rattle.clearing.proofs.passes.find_starts.Goals as goal

pub loop-at-init : goal.loop-at-init
loop-at-init c =
    (sym (from-none _), below_none _, λ y l. absurd (omega (arith, l)), λ y l m. c.requires.blank y m, kept_refl _)

pub returns-in_default : goal.returns-in_default
returns-in_default c =
    let i = c.loop-at.invariant in
    let k = c.args.read.now in
    let x = c.loop-at.at in
    let same = c.code-code.ensures.is in
    let none = ap (λ xs. decoded xs x) (sym same) ∙ sym c.in_default.ensures.is in
    let s = starts-here k.code x c.loop-at.next i.0 c.if-at-next.true in
    record {
      answers = found _ x (length k.code) Undecoded (omega (arith, c.loop-at-test.true, ap length same)) i.1 (undecoded-none k x none s);
      starts = λ e. absurd (err-ok e);
      kept = kept_trans i.4 c.set_start.ensures.kept;
    }

pub loop-at-preserved : goal.loop-at-preserved
loop-at-preserved c =
    let i = c.loop-at.invariant in
    let k = c.args.read.now in
    let x = c.loop-at.at in
    let n = c.loop-at.next in
    let t = c.loop-at.table in
    let same = c.code-code.ensures.is in
    elim c.if-at-next.branch [
      | then-at-next+in-Some w ↦
          let d = w.in-Some.found in
          let e = ap (λ xs. decoded xs x) (sym same) ∙ sym w.in-Some.ensures.is in
          let more = w.set_start.ensures.tells in
          let kept = w.set_start.ensures.kept in (
            w.next-is ∙ next-behind k.code x n i.0 d w.if-at-next.true e,
            below_more _ x i.1 (decoded-some k x d e),
            subst (λ (u : StartTable). TellsStarts k.code u (x + 1)) (sym w.table-is) (tells-start k.code x n i.0 t i.2 w.set_start.new.self w.if-at-next.true more),
            subst (λ (u : StartTable). BlankFrom u (x + 1)) (sym w.table-is) (blank-more x t w.set_start.new.self i.3 more kept.size),
            subst (λ (u : StartTable). Kept c.args.table.now u) (sym w.table-is) (kept_trans i.4 kept),
          )
      | else-at-next w ↦
          let l : x < size t = omega (arith, c.loop-at-test.true, ap length same, c.requires.size, i.4.size) in (
            w.next-is ∙ next-same k.code x n i.0 w.if-at-next.false,
            below_more _ x i.1 (no_start k x (no-start-here k.code x n i.0 w.if-at-next.false)),
            subst (λ (u : StartTable). TellsStarts k.code u (x + 1)) (sym w.table-is) (tells_none k.code x n i.0 t i.2 w.if-at-next.false l i.3),
            subst (λ (u : StartTable). BlankFrom u (x + 1)) (sym w.table-is) (λ y m r. i.3 y (omega (arith, m)) r),
            subst (λ (u : StartTable). Kept c.args.table.now u) (sym w.table-is) i.4,
          )
    ]
