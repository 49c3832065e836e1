-- The rules at an instruction where it stands.
use Rattle.std.specs.Prelude.{ℕ, Bool, false, cond, not, ◌&&◌, ◌||◌, List, [], ◌∷◌, length, is_some, None, Option, ◌==◌, nat_lt}
use Rattle.std.specs.List.{find}
use Rattle.std.specs.Option.{option_map, option_map_or}
use Rattle.entries.specs.declared.Entry.{Entry}
use Rattle.declarations.specs.Procedures.{Procedure}
use Rattle.package.specs.Package.{Package}
use Rattle.instruction.specs.declared.effects.Flow.{Flow}
use Rattle.instruction.specs.declared.effects.Effect.{Effect}
use Rattle.instruction.specs.declared.decoding.Decoded.{Decoded}
use Rattle.instruction.specs.Effects.{callee_of, effect_of, falls, target_of}
use Rattle.shape.specs.Shapes.{left, same_shape, shape_size, taken, top_of}
use Rattle.rules.specs.declared.rule.Rule.{Rule}
use Rattle.rules.specs.declared.rule.Rule.TheVariants as rule
use Rattle.rules.specs.Asking.{globals_size, inside_of, mark_shape, opens_at, procedure_at}
use Rattle.rules.specs.Needs.{and_then, shape_before, under_upper, unlike}
use Rattle.rules.specs.Regions.{strays}

-- An instruction where it stands, with the shapes about it: its mark's, what falls in, what is before it, and what is
-- there without the upper part and without all of what it needs.
pub record Site : Type 0 where
  pub owner : Procedure
  pub effect : Effect
  pub next : ℕ
  pub mark : Option (List Entry)
  pub carry : Option (List Entry)
  pub before : Option (List Entry)
  pub under : Option (List Entry)
  pub rest : Option (List Entry)

abbrev pub site_of : Package → Procedure → Effect → ℕ → ℕ → Option (List Entry) → Option (List Entry) → Site
site_of k p e x next m c =
    let b = shape_before (p.offset == x) m c in
    let u = and_then b (under_upper k next e.upper e.flow) in
    record { owner = p; effect = e; next = next; mark = m; carry = c; before = b; under = u; rest = and_then u (taken e.lower) }

-- the instruction that decodes at x, where c falls in
abbrev pub site_at : Package → ℕ → Option (List Entry) → Decoded → Site
site_at k x c d = site_of k (procedure_at k x) (effect_of d.instruction) x d.next (mark_shape k x) c

-- what the instruction leaves, and what falls on to the next
abbrev pub left_by : Site → Option (List Entry)
left_by s = option_map (left s.effect.leaves) s.rest

abbrev pub onward : Site → Option (List Entry)
onward s = cond (falls s.effect.flow) (left_by s) None

abbrev pub some : {A : Type 0} → Option A → (A → Bool) → Bool
some o f = option_map_or f o false

-- a branch must lead to a mark of its procedure, and a call to a procedure other than the program
abbrev pub no_mark : Package → Procedure → ℕ → Bool
no_mark k p t = not (is_some (mark_shape k t) && inside_of k p t)

abbrev pub no_callee : Package → ℕ → Bool
no_callee k t = not (opens_at k t && not (t == 0))

abbrev pub astray : Package → Procedure → ℕ → Flow → Bool
astray k p next f = some (target_of next f) (no_mark k p) || some (callee_of next f) (no_callee k)

-- at most 16 entries and at most so many bytes as the depth says
abbrev pub too_deep : Procedure → List Entry → Bool
too_deep p σ = nat_lt 16 (length σ) || nat_lt p.depth (shape_size σ)

abbrev pub unlike_target : Package → List Entry → ℕ → Bool
unlike_target k σ t = some (mark_shape k t) (λ m. not (same_shape m σ))

-- whether a rule on instructions is broken there; the rules on decoding and on places are not of that sort
abbrev pub broken_at : Package → Site → Rule → Bool
broken_at k s rule.Undecoded = false
broken_at k s rule.Misplaced = false
broken_at k s rule.Unreached = not (is_some s.before)
broken_at k s rule.UnlikeMark = unlike s.mark s.carry
broken_at k s rule.Astray = astray k s.owner s.next s.effect.flow
broken_at k s rule.Missing = not (is_some s.rest)
broken_at k s rule.OutOfRegion = strays (globals_size k) s.owner s.effect (and_then s.under top_of)
broken_at k s rule.TooDeep = some (left_by s) (too_deep s.owner)
broken_at k s rule.UnlikeTarget = some (left_by s) (λ σ. some (target_of s.next s.effect.flow) (unlike_target k σ))
broken_at k s rule.FallsOut = falls s.effect.flow && not (inside_of k s.owner s.next)

-- the rules on instructions, in their order
abbrev pub instruction_rules : List Rule
instruction_rules =
    rule.Unreached ∷ rule.UnlikeMark ∷ rule.Astray ∷ rule.Missing ∷ rule.OutOfRegion ∷ rule.TooDeep ∷ rule.UnlikeTarget ∷ rule.FallsOut ∷ []

-- the first of some rules that is broken
abbrev pub lowest : List Rule → (Rule → Bool) → Option Rule
lowest rs p = find p rs
