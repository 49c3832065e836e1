use Rattle.std.proofs.Common.{◌≡◌, List, ℕ, IfOk, Result, Ok, Err, string_bytes}
use Rattle.std.specs.Option.{IfSome}
use Rattle.std.specs.Fn.{FnOnceReturnsAt}
use Rattle.case_table.specs.Responses.{response_text}
use Rattle.case_table.proofs.Telling.{answered}
use Rattle.case_table.proofs.response.respond.Goals as goal

then : {T E : Type 0} {P Q : T → Type 0} (r : Result T E) → ((x : T) → P x → Q x) → IfOk r P → IfOk r Q
then (Ok x) f h = f x h
then (Err e) f h = h

pub returns : goal.returns
returns g c =
    let (read, line, answer) = c.in_ok-response.ensures in
    let text : IfOk c.format.result (λ said. IfSome (response_text g.T.Display.output g.E.Display.output c.in_ok-response.response) (λ text. string_bytes said ≡ text)) = c.format.ensures.ok in
    then c.format.result (λ said is. (read, line, answered g.T.Display.output g.E.Display.output c.args.done.now (FnOnceReturnsAt g.F.FnOnce c.args.judge) (string_bytes said) read c.in_ok-response.response answer is)) text
