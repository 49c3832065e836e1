use Rattle.std.proofs.Common.{◌≡◌, Err, ap, ◌∙◌}
use Rattle.std.proofs.lemmas.Result.{err_from_is_err_and}
use Rattle.clearing.proofs.Joining.{first_stops, second-stops, third-tells}
use Rattle.clearing.proofs.passes.check_rules.Goals as goal

pub returns-in_err-find_starts : goal.returns-in_err-find_starts
returns-in_err-find_starts c =
    let k = c.args.read.now in
    let e = c.in_err-find_starts.field-0.0 in
    let p = err_from_is_err_and c.from_residual.result c.from_residual.ensures.1 in
    let r : c.from_residual.result ≡ Err e = p.1 ∙ ap Err p.2 in
    record { answers = r ∙ first_stops k e c.in_err-find_starts.ensures.answers; kept = c.find_starts.ensures.kept }

pub returns-in_err-check_places : goal.returns-in_err-check_places
returns-in_err-check_places c =
    let k = c.args.read.now in
    let e = c.in_err-check_places.field-0.0 in
    let p = err_from_is_err_and c.from_residual-in_err-check_places.result c.from_residual-in_err-check_places.ensures.1 in
    let r : c.from_residual-in_err-check_places.result ≡ Err e = p.1 ∙ ap Err p.2 in
    record {
      answers = r ∙ second-stops k c.in_ok-find_starts.ensures.answers e c.in_err-check_places.ensures.answers;
      kept = c.find_starts.ensures.kept;
    }

pub returns : goal.returns
returns c =
    let k = c.args.read.now in
    record {
      answers = c.check_instructions.ensures.answers ∙ third-tells k c.in_ok-find_starts.ensures.answers c.in_ok-check_places.ensures.answers;
      kept = c.find_starts.ensures.kept;
    }
