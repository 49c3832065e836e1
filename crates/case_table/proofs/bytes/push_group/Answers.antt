use Rattle.std.proofs.Common.{◌≡◌, suc, ◌+◌, ◌-◌, Some, refl, arith, ap, ◌∙◌, append-nil}
use Rattle.std.specs.Result.{result_ok}
use Rattle.case_table.specs.Spelling.{star, behind}
use Rattle.case_table.proofs.Cut.{cut, uncut}
use Rattle.case_table.proofs.Groups.{count_of-parsed, bytes_of_group-cut, bytes_of_group-plain, behind-repeated, none-repeated}
use Rattle.case_table.proofs.Adding.{Adds-passed, none_behind}
use Rattle.case_table.proofs.bytes.push_group.Goals as goal
use Rattle.case_table.proofs.bytes.push_group.Goals.{in-Some+in_ok-parse-in-Some, in-None}

-- the count is none
pub returns-in_err-parse-in-Some : goal.returns-in_err-parse-in-Some
returns-in_err-parse-in-Some c =
    let k = cut star (omega arith) _ _ c.split_once.ensures.cases _ c.in-Some.is in
    let none = count_of-parsed c.in-Some.count.now c.parse.result c.parse.ensures.value.0 ∙ ap result_ok c.in_err-parse-in-Some.was in
    Adds-passed _ _ c.from_residual.result _ c.from_residual.ensures.1 (λ _. bytes_of_group-cut _ _ _ k ∙ rw none refl)

pub loop-init : goal.loop-init
loop-init c = elim c.match-split_once.branch [
  | in-Some+in_ok-parse-in-Some w ↦
      let k = cut star (omega arith) _ _ c.split_once.ensures.cases _ w.in-Some.is in
      let counted = count_of-parsed w.in-Some.count.now w.parse.result w.parse.ensures.value.0 ∙ ap result_ok w.in_ok-parse-in-Some.was in
      let all : w.in_ok-parse-in-Some.field-0 - 0 ≡ w.in_ok-parse-in-Some.field-0 = omega arith in
      rw (w.count-is, all, bytes_of_group-cut _ _ _ k, counted) refl
  | in-None w ↦
      let plain = bytes_of_group-plain _ (uncut star (omega arith) _ _ c.split_once.ensures.cases w.in-None.is).0 in
      rw (w.count-is, plain) refl
]

pub returns-in_err-push_digits : goal.returns-in_err-push_digits
returns-in_err-push_digits c =
    let left : c.match-split_once.count.1 - c.loop.counter ≡ suc (c.match-split_once.count.1 - (c.loop.counter + 1)) = omega arith in
    Adds-passed _ _ c.from_residual-in_err-push_digits.result _ c.from_residual-in_err-push_digits.ensures.1
    (λ is. none_behind _ _ (c.loop.invariant ∙ ap (behind c.loop.bytes.items) (none-repeated _ _ left _ (rw (is, c.as_bytes.ensures.value) at c.in_err-push_digits.ensures))))

pub loop-preserved : goal.loop-preserved
loop-preserved c =
    let left : c.match-split_once.count.1 - c.loop.counter ≡ suc (c.match-split_once.count.1 - (c.loop.counter + 1)) = omega arith in
    c.loop.invariant ∙ behind-repeated _ _ left _ _ _ (rw c.as_bytes.ensures.value at c.in_ok-push_digits.ensures)

pub returns : goal.returns
returns c =
    let done : c.match-split_once.count.1 - c.loop.counter ≡ 0 = omega arith in
    c.loop.invariant ∙ rw done (ap Some (append-nil c.loop.bytes.items))
