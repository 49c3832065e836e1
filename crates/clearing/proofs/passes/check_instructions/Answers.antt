use Rattle.std.proofs.Common.{◌<◌, length, sym, ap, ◌∙◌, arith}
use Rattle.clearing.proofs.Scans.{below_more, below_none, found}
use Rattle.clearing.proofs.Turns.{falls-none, falls-on, falls-past, no-instruction, none-broken, rule-broken}
use Rattle.clearing.proofs.passes.check_instructions.Goals.{then-is_start+in-Ok, else-is_start}
use Rattle.clearing.proofs.passes.check_instructions.Goals as goal

pub loop-at-init : goal.loop-at-init
loop-at-init c = (below_none _, falls-none c.args.read.now)

pub returns-in-Err : goal.returns-in-Err
returns-in-Err c =
    let k = c.args.read.now in
    let x = c.loop-at.at in
    let l : x < length k.code = omega (arith, c.loop-at-test.true, ap length c.code-at-end.ensures.is) in
    let s = sym (c.if-is_start.ensures ∙ c.requires x l) in
    let r = rule-broken k x s c.loop-at.carry c.in-Err.rule c.loop-at.invariant.1 c.in-Err.ensures in
    record { answers = found _ x (length k.code) c.in-Err.rule l c.loop-at.invariant.0 r }

pub loop-at-preserved : goal.loop-at-preserved
loop-at-preserved c =
    let k = c.args.read.now in
    let x = c.loop-at.at in
    let i = c.loop-at.invariant in
    let l : x < length k.code = omega (arith, c.loop-at-test.true, ap length c.code-at-end.ensures.is) in
    let told = c.requires x l in
    elim c.if-is_start.branch [
      | then-is_start+in-Ok w ↦
          let s = sym (w.if-is_start.ensures ∙ told) in
          let was = c.loop-at.carry in
          let left = w.in-Ok.left in (
            below_more _ x i.0 (none-broken k x s was left i.1 w.in-Ok.ensures),
            w.carry-is ∙ falls-on k x s was left i.1 w.in-Ok.ensures,
          )
      | else-is_start w ↦
          let s = sym (w.if-is_start.ensures ∙ told) in (
            below_more _ x i.0 (no-instruction k x s),
            w.carry-is ∙ i.1 ∙ sym (falls-past k x s),
          )
    ]
