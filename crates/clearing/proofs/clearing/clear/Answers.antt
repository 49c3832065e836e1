use Rattle.std.proofs.Common.{◌≤◌, length, Ok, Err, ap, ◌∙◌, arith, rules}
use Rattle.std.proofs.lemmas.Result.{err_from_is_err_and}
use Rattle.clearing.proofs.Joining.{accepted, exact-by, first_by, refused, too_short}
use Rattle.clearing.proofs.clearing.clear.Goals as goal

pub returns-then-work-size-clause-answers : goal.returns-then-work-size-clause-answers
returns-then-work-size-clause-answers c = search (rules, too_short)

pub returns-in_err-check_within-clause-answers : goal.returns-in_err-check_within-clause-answers
returns-in_err-check_within-clause-answers c =
    let l : length c.args.read.code ≤ length c.args.work.now = omega (arith, c.if-work-size.false, ap length c.code-size.ensures.is) in
    let e = c.in_err-check_within.field-0.0 in
    let p = err_from_is_err_and c.from_residual.result c.from_residual.ensures.1 in
    p.1 ∙ ap Err p.2 ∙ refused c.args.read (length c.args.work.now) l e c.in_err-check_within.ensures.answers

pub returns-in_err-check_within-clause-clears_exactly : goal.returns-in_err-check_within-clause-clears_exactly
returns-in_err-check_within-clause-clears_exactly c = exact-by c.args.read (length c.args.work.now) c.from_residual.result (returns-in_err-check_within-clause-answers c)

pub returns-in_err-check_within-clause-first_broken : goal.returns-in_err-check_within-clause-first_broken
returns-in_err-check_within-clause-first_broken c = first_by c.args.read (length c.args.work.now) c.from_residual.result (returns-in_err-check_within-clause-answers c)

pub returns-clause-answers : goal.returns-clause-answers
returns-clause-answers c =
    let l : length c.args.read.code ≤ length c.args.work.now = omega (arith, c.if-work-size.false, ap length c.code-size.ensures.is) in
    accepted c.args.read (length c.args.work.now) l c.in_ok-check_within.ensures.answers

pub returns-clause-clears_exactly : goal.returns-clause-clears_exactly
returns-clause-clears_exactly c = exact-by c.args.read (length c.args.work.now) (Ok c.args.read) (returns-clause-answers c)

pub returns-clause-first_broken : goal.returns-clause-first_broken
returns-clause-first_broken c = first_by c.args.read (length c.args.work.now) (Ok c.args.read) (returns-clause-answers c)

-- the rules hold of what clears
pub invariant_of-result : goal.invariant_of-result
invariant_of-result c =
    let l : length c.args.read.code ≤ length c.args.work.now = omega (arith, c.if-work-size.false, ap length c.code-size.ensures.is) in
    (exact-by c.args.read (length c.args.work.now) (Ok c.args.read) (accepted c.args.read (length c.args.work.now) l c.in_ok-check_within.ensures.answers)).2
