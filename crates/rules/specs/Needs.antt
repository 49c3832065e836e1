-- What an instruction needs on the shape before it, and what is there without that.
use Rattle.std.specs.Prelude.{ℕ, Bool, false, cond, not, List, [], ◌∷◌, Some, None, Option}
use Rattle.std.specs.Option.{option_and_then, option_map_or, option_or}
use Rattle.entries.specs.declared.Kind.{Kind}
use Rattle.entries.specs.declared.Entry.{Entry}
use Rattle.entries.specs.Alike.{same_entry}
use Rattle.entries.specs.Kinds.{plain_entry}
use Rattle.declarations.specs.Procedures.{Procedure}
use Rattle.package.specs.Package.{Package}
use Rattle.instruction.specs.declared.effects.Want.{Want}
use Rattle.instruction.specs.declared.effects.Want.TheVariants.{Exactly}
use Rattle.instruction.specs.declared.effects.Flow.{Flow}
use Rattle.instruction.specs.declared.effects.Flow.TheVariants as flow
use Rattle.instruction.specs.Effects.{displaced_by}
use Rattle.shape.specs.Shapes.{same_shape, taken, top_of}
use Rattle.rules.specs.Asking.{procedure_at}

abbrev pub and_then : {A B : Type 0} → Option A → (A → Option B) → Option B
and_then o f = option_and_then f o

-- the shape before an instruction

-- a mark's, or else what falls in
abbrev pub mark_or : Option (List Entry) → Option (List Entry) → Option (List Entry)
mark_or m c = option_or m c

-- an opening asks for nothing; the shape before it counts as empty
abbrev pub shape_before : Bool → Option (List Entry) → Option (List Entry) → Option (List Entry)
shape_before opens m c = cond opens (Some []) (mark_or m c)

abbrev pub unlike : Option (List Entry) → Option (List Entry) → Bool
unlike None c = false
unlike (Some m) None = false
unlike (Some m) (Some c) = not (same_shape m c)

-- calls and returns

-- what a call needs for a parameter of a kind
abbrev pub argument : Kind → Want
argument k = Exactly (plain_entry k)

-- what is under the arguments; the last parameter's is on top
unfoldable pub under_arguments : List Kind → List Entry → Option (List Entry)
under_arguments [] σ = Some σ
under_arguments (k ∷ ks) σ = and_then (under_arguments ks σ) (taken (argument k))

abbrev pub top_is : Entry → Option Entry → Bool
top_is e o = option_map_or (λ d. same_entry d e) o false

-- the result's entry, if there is a result, stands under the arguments, and stays
abbrev pub over_result : Option Kind → List Entry → Option (List Entry)
over_result None σ = Some σ
over_result (Some k) σ = cond (top_is (plain_entry k) (top_of σ)) (Some σ) None

abbrev pub called : Procedure → List Entry → Option (List Entry)
called p σ = and_then (under_arguments p.parameters σ) (over_result p.result)

-- a return needs an empty shape
abbrev pub emptied : List Entry → Option (List Entry)
emptied [] = Some []
emptied (e ∷ σ) = None

-- what is there without the upper part of what is needed: a call's arguments are told by the called procedure
abbrev pub under_upper : Package → ℕ → Want → Flow → List Entry → Option (List Entry)
under_upper k next w flow.Next σ = taken w σ
under_upper k next w flow.Halt σ = taken w σ
under_upper k next w (flow.Jump d) σ = taken w σ
under_upper k next w (flow.Fork d) σ = taken w σ
under_upper k next w (flow.Call d) σ = called (procedure_at k (displaced_by next d)) σ
under_upper k next w (flow.Return n) σ = emptied σ
under_upper k next w (flow.Open o n) σ = taken w σ
