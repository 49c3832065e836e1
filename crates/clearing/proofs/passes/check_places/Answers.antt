use Rattle.std.proofs.Common.{◌<◌, length, sym, ap, ◌∙◌, arith}
use Rattle.rules.specs.declared.rule.Rule.TheVariants.{Misplaced}
use Rattle.clearing.proofs.Scans.{below_more, below_none, found, misplaced-found, placed-well}
use Rattle.clearing.proofs.passes.check_places.Goals as goal

pub loop-at-init : goal.loop-at-init
loop-at-init c = below_none _

pub returns-then-is_misplaced : goal.returns-then-is_misplaced
returns-then-is_misplaced c =
    let k = c.args.read.now in
    let x = c.loop-at.at in
    let l : x < length k.code = omega (arith, c.loop-at-test.true, ap length c.code-at-end.ensures.is) in
    let s = c.is_start.ensures ∙ c.requires x l in
    record { answers = found _ x (length k.code) Misplaced l c.loop-at.invariant (misplaced-found k x c.is_start.result s (sym c.if-is_misplaced.ensures)) }

pub loop-at-preserved : goal.loop-at-preserved
loop-at-preserved c =
    let k = c.args.read.now in
    let x = c.loop-at.at in
    let l : x < length k.code = omega (arith, c.loop-at-test.true, ap length c.code-at-end.ensures.is) in
    let s = c.is_start.ensures ∙ c.requires x l in
    below_more _ x c.loop-at.invariant (placed-well k x c.is_start.result s (sym c.if-is_misplaced.ensures))
