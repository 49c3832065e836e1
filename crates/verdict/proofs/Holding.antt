-- Where shapes meet the rules, no rule is broken, and there are no other such shapes.
use Rattle.std.proofs.Common.{◌≡◌, ℕ, zero, suc, ◌<◌, Bool, true, false, not, ◌&&◌, ◌||◌, eqb, ◌⊎◌, List, [], length, is_some, Some, None, sym, refl, ap, ◌∙◌, subst, inl, inr, arith}
use Rattle.std.specs.Option.{option_map}
use Rattle.std.proofs.lemmas.Bool.{and_from, and_left, and_right, cases_Bool, cond-false, cond-true, eq-eqb, le-ltb, lt-ltb, ne_eqb, not_from_false, not_from_true, or_from}
use Rattle.entries.specs.declared.Entry.{Entry}
use Rattle.declarations.specs.Marks.{mark_at}
use Rattle.declarations.specs.Procedures.{Procedure}
use Rattle.package.specs.Package.{Package}
use Rattle.instruction.specs.declared.effects.Flow.{Flow}
use Rattle.instruction.specs.declared.decoding.Decoded.{Decoded}
use Rattle.instruction.specs.Decoding.{decoded}
use Rattle.instruction.specs.Effects.{callee_of, falls, target_of}
use Rattle.instruction.proofs.Forward.{forward}
use Rattle.shape.specs.Shapes.{left, same_shape, taken, top_of}
use Rattle.shape.proofs.Equal.{shape_same}
use Rattle.rules.specs.declared.rule.Rule.{Rule}
use Rattle.rules.specs.declared.rule.Rule.TheVariants as rule
use Rattle.rules.specs.Asking.{globals_size, inside_of, mark_shape, opens_at, procedure_at}
use Rattle.rules.specs.Starts.{Start, first, next, is_start}
use Rattle.rules.specs.Places.{flow_in, is_opening, misplaced_as, opens_as}
use Rattle.rules.specs.Needs.{and_then, mark_or, under_upper, unlike}
use Rattle.rules.specs.Regions.{strays}
use Rattle.rules.specs.Sites.{broken_at, left_by, no_callee, no_mark, site_at, some, too_deep, unlike_target}
use Rattle.rules.proofs.Needing.{some_same}
use Rattle.rules.proofs.Starting.{is-start, start_is}
use Rattle.verdict.specs.Assignment.{Arrives, Clears, Meets, effect_in}
use Rattle.verdict.specs.Breaking.{Unbroken, breaks, breaks_there, falls_into}
use Rattle.verdict.proofs.Options.{none_or_some, some_of}
use Rattle.verdict.proofs.Here.{breaks-here, falls-first, falls-next, here}

-- the rule on places, by whether a procedure opens at x
module _ (x : ℕ) (start marked : Bool) (p : Procedure) (f : Flow) where
  placed-opening : eqb p.offset x ≡ true → marked ≡ false → start ≡ true → opens_as x p.locals f ≡ true → misplaced_as x start marked p f ≡ false
  placed-opening o m s a =
      cond-true (eqb p.offset x) (marked || not (start && opens_as x p.locals f)) ((marked && not start) || (start && is_opening f)) o
      ∙ or_from _ _ m (not_from_true _ (and_from _ _ s a))

  placed-else : eqb p.offset x ≡ false → (marked ≡ true → start ≡ true) → (start ≡ true → is_opening f ≡ false) → misplaced_as x start marked p f ≡ false
  placed-else o m s =
      cond-false (eqb p.offset x) (marked || not (start && opens_as x p.locals f)) ((marked && not start) || (start && is_opening f)) o
      ∙ or_from _ _
      (elim (cases_Bool marked) [ inl t ↦ and_right marked _ (not_from_true _ (m t)) | inr t ↦ and_left marked _ t ])
      (elim (cases_Bool start) [ inl t ↦ and_right start _ (s t) | inr t ↦ and_left start _ t ])

module _ (k : Package) (shape : ℕ → List Entry) (c : Clears k shape) where
  abbrev code : List ℕ
  code = k.code

  -- an instruction that has its shape before it
  module _ (x : ℕ) (d : Decoded) (s : Start code x) (e : decoded code x ≡ Some d) (b : (here k x d).before ≡ Some (shape x)) where
    met : Meets k shape x d
    met = c.meets x d s e

    result : List Entry
    result = left (effect_in d).leaves met.rest

    under-is : (here k x d).under ≡ Some met.under
    under-is = ap (λ o. and_then o (under_upper k d.next (effect_in d).upper (effect_in d).flow)) b ∙ met.upper

    rest-is : (here k x d).rest ≡ Some met.rest
    rest-is = ap (λ o. and_then o (taken (effect_in d).lower)) under-is ∙ met.lower

    left_is : left_by (here k x d) ≡ Some result
    unfolding result
    left_is = ap (option_map (left (effect_in d).leaves)) rest-is

    arrives : falls (effect_in d).flow ≡ true → Arrives k shape (procedure_at k x) result d.next
    unfolding result
    arrives g = met.falls_on g

    next-is : falls (effect_in d).flow ≡ true → falls_into k d.next ≡ Some (shape d.next)
    next-is g = falls-next k x d s e ∙ cond-true (falls (effect_in d).flow) (left_by (here k x d)) None g ∙ left_is ∙ ap Some (sym (arrives g).shape_is)

    next-none : falls (effect_in d).flow ≡ false → falls_into k d.next ≡ None
    next-none g = falls-next k x d s e ∙ cond-false (falls (effect_in d).flow) (left_by (here k x d)) None g

  before-up : (n x : ℕ) → x < n → (d : Decoded) → Start code x → decoded code x ≡ Some d → (here k x d).before ≡ Some (shape x)
  before-up zero x l d s e = absurd (omega (arith, l))
  before-up (suc n) x l d s e =
      let m = c.meets x d s e in
      elim (cases_Bool (opens_at k x)) [
        | inl o ↦ cond-true (opens_at k x) (Some []) (mark_or (mark_shape k x) (falls_into k x)) o ∙ ap Some (sym (m.opening o))
        | inr o ↦
            let t = cond-false (opens_at k x) (Some []) (mark_or (mark_shape k x) (falls_into k x)) o in
            none_or_some (mark_shape k x) ((here k x d).before ≡ Some (shape x))
            (λ q.
            let f = m.reached o q in
            let g = forward code f.from f.instruction f.decodes in
            let b = before-up n f.from (omega (arith, l, g.0, f.next)) f.instruction f.start f.decodes in
            let i = next-is f.from f.instruction f.start f.decodes b f.goes_on in
            t ∙ ap (λ a. mark_or a (falls_into k x)) q ∙ subst (λ y. falls_into k y ≡ Some (shape y)) f.next i)
            (λ σ q. t ∙ ap (λ a. mark_or a (falls_into k x)) q ∙ ap Some (sym (m.marked σ q)))
      ]

  before-is : (x : ℕ) (d : Decoded) → Start code x → decoded code x ≡ Some d → (here k x d).before ≡ Some (shape x)
  before-is x d s e = before-up (suc x) x (omega arith) d s e

  -- what falls in is the shape
  carry-is : (x : ℕ) → Start code x → (falls_into k x ≡ None) ⊎ (falls_into k x ≡ Some (shape x))
  carry-is x first = inl (falls-first k)
  carry-is x (next {x = y} d s e) =
      elim (cases_Bool (falls (effect_in d).flow))
      [ inl g ↦ inr (next-is y d s e (before-is y d s e) g) | inr g ↦ inl (next-none y d s e (before-is y d s e) g) ]

  module _ (x : ℕ) (d : Decoded) (s : Start code x) (e : decoded code x ≡ Some d) where
    abbrev p : Procedure
    p = procedure_at k x

    abbrev f : Flow
    f = (effect_in d).flow

    b : (here k x d).before ≡ Some (shape x)
    b = before-is x d s e

    m : Meets k shape x d
    m = c.meets x d s e

    abbrev ρ : List Entry
    ρ = left (effect_in d).leaves m.rest

    ρ-is : left_by (here k x d) ≡ Some ρ
    unfolding result met m
    ρ-is = left_is x d s e b

    inside_is : (y : ℕ) (σ : List Entry) → Arrives k shape p σ y → inside_of k p y ≡ true
    inside_is y σ a = and_from _ _ (lt-ltb _ _ a.inside) (eq-eqb _ _ a.same_procedure)

    alike : unlike (mark_shape k x) (falls_into k x) ≡ false
    alike =
        none_or_some (mark_shape k x) (unlike (mark_shape k x) (falls_into k x) ≡ false)
        (λ q. ap (λ a. unlike a (falls_into k x)) q)
        (λ μ q.
        elim (carry-is x s) [
          | inl h ↦ ap (λ a. unlike a (falls_into k x)) q ∙ ap (unlike (Some μ)) h
          | inr h ↦
              ap (λ a. unlike a (falls_into k x)) q
              ∙ ap (unlike (Some μ)) h
              ∙ ap (λ σ. not (same_shape μ σ)) (m.marked μ q)
              ∙ not_from_true _ (shape_same μ)
        ])

    led : some (target_of d.next f) (no_mark k p) ≡ false
    led =
        none_or_some (target_of d.next f) (some (target_of d.next f) (no_mark k p) ≡ false)
        (λ q. ap (λ a. some a (no_mark k p)) q)
        (λ t q. some_of _ t (no_mark k p) q ∙ (let a = m.branches t q in not_from_true _ (and_from _ _ a.0 (inside_is t ρ a.1))))

    invoked : some (callee_of d.next f) (no_callee k) ≡ false
    invoked =
        none_or_some (callee_of d.next f) (some (callee_of d.next f) (no_callee k) ≡ false)
        (λ q. ap (λ a. some a (no_callee k)) q)
        (λ t q. some_of _ t (no_callee k) q ∙ (let a = m.calls t q in not_from_true _ (and_from _ _ a.0 (not_from_false _ (ne_eqb t 0 a.1)))))

    target-alike : (t : ℕ) → target_of d.next f ≡ Some t → unlike_target k ρ t ≡ false
    target-alike t q =
        let a = (m.branches t q).1 in
        let there = c.decodes t a.start a.inside in
        none_or_some (mark_shape k t) (unlike_target k ρ t ≡ false)
        (λ h. ap (λ o. some o (λ μ. not (same_shape μ ρ))) h)
        (λ μ h.
        let same = (c.meets t there.0 a.start there.1).marked μ h in
        some_of _ μ (λ ω. not (same_shape ω ρ)) h ∙ not_from_true _ (ap (λ ω. same_shape ω ρ) (sym same ∙ a.shape_is) ∙ shape_same ρ))

    targets : some (target_of d.next f) (unlike_target k ρ) ≡ false
    targets =
        none_or_some (target_of d.next f) (some (target_of d.next f) (unlike_target k ρ) ≡ false)
        (λ q. ap (λ a. some a (unlike_target k ρ)) q)
        (λ t q. some_of _ t (unlike_target k ρ) q ∙ target-alike t q)

    holds : (r : Rule) → broken_at k (here k x d) r ≡ false
    unfolding met m
    holds rule.Undecoded = refl
    holds rule.Misplaced = refl
    holds rule.Unreached = not_from_true _ (ap is_some b)
    holds rule.UnlikeMark = alike
    holds rule.Astray = or_from _ _ led invoked
    holds rule.Missing = not_from_true _ (ap is_some (rest-is x d s e b))
    holds rule.OutOfRegion = ap (λ o. strays (globals_size k) p (effect_in d) (and_then o top_of)) (under-is x d s e b) ∙ m.regions
    holds rule.TooDeep = some_of _ ρ (too_deep p) ρ-is ∙ or_from _ _ (le-ltb _ _ m.few) (le-ltb _ _ m.fitting)
    holds rule.UnlikeTarget = some_of _ ρ (λ σ. some (target_of d.next f) (unlike_target k σ)) ρ-is ∙ targets
    holds rule.FallsOut =
        elim (cases_Bool (falls f))
        [ inl g ↦ and_right (falls f) _ (not_from_true _ (inside_is d.next ρ (m.falls_on g))) | inr g ↦ and_left (falls f) _ g ]

  there : (x : ℕ) → x < length code → (r : Rule) → breaks_there k x r ≡ false
  there x l r =
      elim (cases_Bool (is_start code x)) [
        | inl t ↦
            let s = start_is code x t in
            let d = c.decodes x s l in
            breaks-here k x d.0 s d.1 r ∙ holds x d.0 s d.1 r
        | inr t ↦ ap (λ o. some o (λ a. broken_at k a r)) (cond-false (is_start code x) (option_map (site_at k x (falls_into k x)) (decoded code x)) None t)
      ]

  decoded-there : (x : ℕ) → x < length code → (is_start code x && not (is_some (decoded code x))) ≡ false
  decoded-there x l =
      elim (cases_Bool (is_start code x))
      [ inl t ↦ and_right _ _ (not_from_true _ (ap is_some (c.decodes x (start_is code x t) l).1)) | inr t ↦ and_left _ _ t ]

  placed-there : (x : ℕ) → x < length code → misplaced_as x (is_start code x) (is_some (mark_at k.marks x)) (procedure_at k x) (flow_in (decoded code x)) ≡ false
  placed-there x l =
      let q = c.places in
      elim (cases_Bool (opens_at k x)) [
        | inl o ↦
            let a = q.opened x l o in
            placed-opening x _ _ (procedure_at k x) (flow_in (decoded code x)) o (ap is_some a.1) (is-start code x a.0) (ap (λ h. opens_as x (procedure_at k x).locals (flow_in h)) a.3 ∙ a.4)
        | inr o ↦
            placed-else x _ _ (procedure_at k x) (flow_in (decoded code x)) o
            (λ a. is-start code x (q.marks x l a))
            (λ t.
            let s = start_is code x t in
            let d = c.decodes x s l in
            ap (λ h. is_opening (flow_in h)) d.1 ∙ q.elsewhere x d.0 s d.1 o)
      ]

  pub holding : Unbroken k
  unfolding breaks
  holding rule.Undecoded x l = decoded-there x l
  holding rule.Misplaced x l = placed-there x l
  holding rule.Unreached x l = there x l rule.Unreached
  holding rule.UnlikeMark x l = there x l rule.UnlikeMark
  holding rule.Astray x l = there x l rule.Astray
  holding rule.Missing x l = there x l rule.Missing
  holding rule.OutOfRegion x l = there x l rule.OutOfRegion
  holding rule.TooDeep x l = there x l rule.TooDeep
  holding rule.UnlikeTarget x l = there x l rule.UnlikeTarget
  holding rule.FallsOut x l = there x l rule.FallsOut

-- shapes that meet the rules are the same at each instruction
pub one-assignment : (k : Package) (shape other : ℕ → List Entry) → Clears k shape → Clears k other → (x : ℕ) → Start k.code x → x < length k.code → shape x ≡ other x
one-assignment k shape other c e x s l =
    let d = c.decodes x s l in
    some_same (sym (before-is k shape c x d.0 s d.1) ∙ before-is k other e x d.0 s d.1)
