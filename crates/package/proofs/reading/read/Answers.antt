use Rattle.std.proofs.Common.{◌≡◌, Err, sym, refl, ap, ◌∙◌, subst, arith, false-eqb, true-eqb}
use Rattle.std.proofs.lemmas.Result.{err_from_is_err_and}
use Rattle.fields.specs.Fields.{seen_field}
use Rattle.package.specs.Reading.{nothing}
use Rattle.package.proofs.Tracking.{tracks-none}
use Rattle.package.proofs.Ending.{Promised, goes_on, goes-again, stops, ends-wrong, ends-fitting, ends-well}
use Rattle.package.proofs.reading.read.Goals as goal

pub loop-rest-init : goal.loop-rest-init
loop-rest-init c = (nothing, tracks-none c.args.bytes.now)

pub returns-in_err-shaped : goal.returns-in_err-shaped
returns-in_err-shaped c =
    let p = err_from_is_err_and c.from_residual.result c.from_residual.ensures.1 in
    let r : c.from_residual.result ≡ Err c.in_err-shaped.field-0.0 = p.1 ∙ ap Err p.2 in
    let a = subst (Promised c.args.bytes.now) (sym r) (stops c.args.bytes.now c.loop-rest.tally c.loop-rest.rest.now c.type_inv.bytes c.loop-rest.invariant c.in_err-shaped.field-0.0 (omega (arith, false-eqb _ 0 c.loop-rest-test.ensures)) c.in_err-shaped.ensures) in
    record { answers = a.answers; accepts_exactly = a.accepts; refuses_first = a.refuses }

pub include-requires : goal.include-requires
include-requires c =
    let g = goes_on c.args.bytes.now c.loop-rest.tally c.loop-rest.rest.now c.type_inv.bytes c.loop-rest.invariant (seen_field c.in_ok-shaped.shaped.field) c.in_ok-shaped.ensures in
    record { room = omega (arith, g.within); procedures = g.few.0; marks = g.few.1 }

pub loop-rest-smaller : goal.loop-rest-smaller
loop-rest-smaller c =
    (goes_on c.args.bytes.now c.loop-rest.tally c.loop-rest.rest.now c.type_inv.bytes c.loop-rest.invariant (seen_field c.in_ok-shaped.shaped.field) c.in_ok-shaped.ensures).shorter

pub loop-rest-preserved : goal.loop-rest-preserved
loop-rest-preserved c =
    goes-again c.args.bytes.now c.loop-rest.tally c.loop-rest.rest.now c.type_inv.bytes c.loop-rest.invariant (seen_field c.in_ok-shaped.shaped.field) c.include.new.self c.in_ok-shaped.ensures c.include.ensures

pub returns-then-miscounts : goal.returns-then-miscounts
returns-then-miscounts c =
    let a = ends-wrong c.args.bytes.now c.loop-rest.tally c.loop-rest.rest.now c.type_inv.bytes c.loop-rest.invariant (true-eqb _ 0 c.loop-rest-test.ensures) c.if-miscounts.ensures in
    record { answers = a.answers; accepts_exactly = a.accepts; refuses_first = a.refuses }

pub view-requires : goal.view-requires
view-requires c =
    let e = ends-fitting c.args.bytes.now c.loop-rest.tally c.loop-rest.rest.now c.type_inv.bytes c.loop-rest.invariant c.if-miscounts.ensures in
    let a = ends-well c.args.bytes.now c.loop-rest.tally c.loop-rest.rest.now c.type_inv.bytes c.loop-rest.invariant (true-eqb _ 0 c.loop-rest-test.ensures) c.if-miscounts.ensures _ refl in
    record { code = e.0; fore = e.1; valid = a.accepts.valid }

pub returns : goal.returns
returns c =
    let a = ends-well c.args.bytes.now c.loop-rest.tally c.loop-rest.rest.now c.type_inv.bytes c.loop-rest.invariant (true-eqb _ 0 c.loop-rest-test.ensures) c.if-miscounts.ensures c.view.result c.view.ensures in
    record { answers = a.answers; accepts_exactly = a.accepts; refuses_first = a.refuses }
