use Rattle.std.proofs.Common.{◌≡◌, ◌/◌, arith, rules, ap, ◌∙◌, length, sym}
use Rattle.case_table.specs.Spelling.{behind}
use Rattle.case_table.proofs.Adding.{Adds-passed, none_behind}
use Rattle.case_table.proofs.Digits.{bytes_of_digits-odd, bytes_of_digits-paired, bytes_of_pairs, behind-pair, none-pair}
use Rattle.case_table.proofs.bytes.push_digits.Goals as goal

pub returns-then-not-is_empty : goal.returns-then-not-is_empty
returns-then-not-is_empty c = bytes_of_digits-odd c.args.digits.now (grind (arith, c.as_chunks.ensures.back_len))

-- no digit is left over, so the pairs are all
pub loop-high-init : goal.loop-high-init
loop-high-init c =
    let none_left : length c.as_chunks.result.1.now ≡ 0 = search rules in
    let paired = bytes_of_digits-paired (length c.args.digits.now / 2) c.args.digits.now (omega (arith, c.as_chunks.ensures.back_len)) in
    ap (behind c.args.bytes.now.items) (paired ∙ ap bytes_of_pairs (sym c.as_chunks.ensures.front))

-- a pair that is no byte
pub returns-in_err-ok_or : goal.returns-in_err-ok_or
returns-in_err-ok_or c =
    let bad = none-pair _ _ c.loop-high-test.true (sym c.byte.ensures ∙ c.in_err-ok_or.ensures.ok_part) in
    Adds-passed _ _ c.from_residual.result _ c.from_residual.ensures.1 (λ _. none_behind _ _ (c.loop-high.invariant ∙ ap (behind c.loop-high.bytes.items) bad))

pub loop-high-preserved : goal.loop-high-preserved
loop-high-preserved c =
    c.loop-high.invariant ∙ behind-pair _ _ c.loop-high-test.true _ _ _ (sym c.byte.ensures ∙ c.in_ok-ok_or.ensures.ok_part) c.in_ok-push.ensures.items
