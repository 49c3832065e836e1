-- The rule on places: where procedures open and where marks stand.
use Rattle.std.specs.Prelude.{ℕ, Bool, true, false, cond, not, ◌&&◌, ◌||◌, is_some, Some, None, Option, ◌==◌}
use Rattle.declarations.specs.Marks.{mark_at}
use Rattle.declarations.specs.Procedures.{Procedure}
use Rattle.package.specs.Package.{Package}
use Rattle.instruction.specs.declared.operations.Opening.{Opening}
use Rattle.instruction.specs.declared.operations.Opening.TheVariants as opening
use Rattle.instruction.specs.declared.effects.Flow.{Flow}
use Rattle.instruction.specs.declared.effects.Flow.TheVariants as flow
use Rattle.instruction.specs.declared.decoding.Decoded.{Decoded}
use Rattle.instruction.specs.Decoding.{decoded}
use Rattle.instruction.specs.Effects.{effect_of}
use Rattle.rules.specs.Asking.{procedure_at}

abbrev pub is_opening : Flow → Bool
is_opening flow.Next = false
is_opening flow.Halt = false
is_opening (flow.Jump d) = false
is_opening (flow.Fork d) = false
is_opening (flow.Call d) = false
is_opening (flow.Return n) = false
is_opening (flow.Open o n) = true

-- the program, which opens at 0, has an instruction of its own for that
abbrev pub opens_with : Opening → ℕ → Bool
opens_with opening.Program x = x == 0
opens_with opening.Procedure x = not (x == 0)

-- whether an instruction at x opens a procedure with so many bytes of variables
abbrev pub opens_as : ℕ → ℕ → Flow → Bool
opens_as x locals flow.Next = false
opens_as x locals flow.Halt = false
opens_as x locals (flow.Jump d) = false
opens_as x locals (flow.Fork d) = false
opens_as x locals (flow.Call d) = false
opens_as x locals (flow.Return n) = false
opens_as x locals (flow.Open o n) = opens_with o x && n == locals

abbrev pub flow_in : Option Decoded → Flow
flow_in None = flow.Halt
flow_in (Some d) = (effect_of d.instruction).flow

-- At x, which is a start or not and has a mark or not, and which p owns: where p opens, its opening must start there,
-- without a mark; elsewhere a mark needs a start, and no opening may start.
abbrev pub misplaced_as : ℕ → Bool → Bool → Procedure → Flow → Bool
misplaced_as x start marked p f =
    cond (p.offset == x) (marked || not (start && opens_as x p.locals f)) ((marked && not start) || (start && is_opening f))

abbrev pub misplaced : Package → ℕ → Bool → Bool
misplaced k x start = misplaced_as x start (is_some (mark_at k.marks x)) (procedure_at k x) (flow_in (decoded k.code x))
