-- Where no rule is broken, the shapes that the rules tell meet them.
use Rattle.std.proofs.Common.{◌≡◌, ℕ, ◌<◌, Bool, true, false, not, ◌&&◌, ◌||◌, eqb, ltb, List, [], length, is_some, Some, None, Option, sym, refl, ap, ◌∙◌, inl, inr}
use Rattle.std.specs.Option.{option_map}
use Rattle.std.proofs.lemmas.Bool.{and_cases, and_parts, cases_Bool, cond-false, cond-true, eqb-false, eqb-true, false≢true, ltb-false, ltb-true, not-false, not-true, or_parts}
use Rattle.entries.specs.declared.Entry.{Entry}
use Rattle.declarations.specs.Marks.{mark_at}
use Rattle.declarations.specs.Procedures.{Procedure}
use Rattle.package.specs.Package.{Package}
use Rattle.instruction.specs.declared.effects.Flow.{Flow}
use Rattle.instruction.specs.declared.decoding.Decoded.{Decoded}
use Rattle.instruction.specs.Decoding.{decoded}
use Rattle.instruction.specs.Effects.{callee_of, falls, target_of}
use Rattle.instruction.proofs.Forward.{forward}
use Rattle.shape.specs.Shapes.{left, same_shape, shape_size, taken, top_of}
use Rattle.shape.proofs.Equal.{shape_is}
use Rattle.rules.specs.declared.rule.Rule.TheVariants as rule
use Rattle.rules.specs.Asking.{globals_size, inside_of, mark_shape, opens_at, procedure_at, shape_of}
use Rattle.rules.specs.Starts.{Start, next, is_start}
use Rattle.rules.specs.Places.{flow_in, is_opening, misplaced_as, opens_as}
use Rattle.rules.specs.Needs.{and_then, mark_or, under_upper, unlike}
use Rattle.rules.specs.Regions.{strays}
use Rattle.rules.specs.Sites.{left_by, no_callee, no_mark, some, too_deep, unlike_target}
use Rattle.rules.proofs.Starting.{is-start, start_is}
use Rattle.verdict.specs.Assignment.{Arrives, Clears, Meets, Placed, effect_in}
use Rattle.verdict.specs.Breaking.{Unbroken, breaks, falls_into}
use Rattle.verdict.proofs.Options.{first-there, none_or_some, some_mapped, some_of, there-is, there-is-none}
use Rattle.verdict.proofs.Here.{decodes-at, falls-from, falls-next, here, inside-code, kept, not-opening, or_empty, shape_at}

-- the rule on places, by whether a procedure opens at x
module _ (x : ℕ) (start marked : Bool) (p : Procedure) (f : Flow) (good : misplaced_as x start marked p f ≡ false) where
  placed-opening : eqb p.offset x ≡ true → (marked ≡ false) × (start ≡ true) × (opens_as x p.locals f ≡ true)
  placed-opening o =
      let c = sym (cond-true (eqb p.offset x) (marked || not (start && opens_as x p.locals f)) ((marked && not start) || (start && is_opening f)) o) ∙ good in
      let parts = or_parts marked (not (start && opens_as x p.locals f)) c in
      let both = and_parts start (opens_as x p.locals f) (not-false _ parts.1) in
      (parts.0, both.0, both.1)

  placed-else : eqb p.offset x ≡ false → ((marked && not start) ≡ false) × ((start && is_opening f) ≡ false)
  placed-else o =
      let c = sym (cond-false (eqb p.offset x) (marked || not (start && opens_as x p.locals f)) ((marked && not start) || (start && is_opening f)) o) ∙ good in
      or_parts (marked && not start) (start && is_opening f) c

module _ (k : Package) (u : Unbroken k) where
  abbrev code : List ℕ
  code = k.code

  -- the rule on places at x
  placed : (x : ℕ) → x < length code → misplaced_as x (is_start code x) (is_some (mark_at k.marks x)) (procedure_at k x) (flow_in (decoded code x)) ≡ false
  unfolding breaks
  placed x l = u rule.Misplaced x l

  opening-at : (x : ℕ) → x < length code → opens_at k x ≡ true → (is_some (mark_at k.marks x) ≡ false) × (is_start code x ≡ true) × (opens_as x (procedure_at k x).locals (flow_in (decoded code x)) ≡ true)
  opening-at x l o = placed-opening x (is_start code x) (is_some (mark_at k.marks x)) (procedure_at k x) (flow_in (decoded code x)) (placed x l) o

  -- a mark stands where an instruction starts that opens nothing
  marked-at : (x : ℕ) → x < length code → is_some (mark_at k.marks x) ≡ true → (is_start code x ≡ true) × (opens_at k x ≡ false)
  marked-at x l m =
      elim (cases_Bool (opens_at k x)) [
        | inl o ↦ absurd (false≢true (sym (opening-at x l o).0 ∙ m))
        | inr o ↦
            elim (and_cases _ _ (placed-else x (is_start code x) (is_some (mark_at k.marks x)) (procedure_at k x) (flow_in (decoded code x)) (placed x l) o).0)
            [ inl n ↦ absurd (false≢true (sym n ∙ m)) | inr n ↦ (not-false _ n, o) ]
      ]

  flow-opens : (x locals : ℕ) (o : Option Decoded) → opens_as x locals (flow_in o) ≡ true → (d : Decoded) × (o ≡ Some d) × (opens_as x locals (effect_in d).flow ≡ true)
  flow-opens x locals None e = absurd (false≢true e)
  flow-opens x locals (Some d) e = (d, refl, e)

  places : Placed k
  places =
      record {
        opened = λ x l o.
            let a = opening-at x l o in
            let b = flow-opens x (procedure_at k x).locals (decoded code x) a.2 in
            (start_is code x a.1, there-is-none _ a.0, b.0, b.1, b.2);
        elsewhere = λ x d s e o.
            let l = inside-code k x d e in
            elim (and_cases _ _ (placed-else x (is_start code x) (is_some (mark_at k.marks x)) (procedure_at k x) (flow_in (decoded code x)) (placed x l) o).1)
            [ inl n ↦ absurd (false≢true (sym n ∙ is-start code x s)) | inr n ↦ sym (ap (λ a. is_opening (flow_in a)) e) ∙ n ];
        marks = λ x l m. start_is code x (marked-at x l m).0;
      }

  marked-shape : (x : ℕ) (σ : List Entry) → mark_shape k x ≡ Some σ → is_some (mark_at k.marks x) ≡ true
  marked-shape x σ m = sym (some_mapped shape_of (mark_at k.marks x)) ∙ ap is_some m

  -- the shape at a mark, and where nothing but what falls in tells it
  shape-marked : (x : ℕ) (σ : List Entry) → opens_at k x ≡ false → mark_shape k x ≡ Some σ → shape_at k x ≡ σ
  shape-marked x σ o m =
      ap or_empty (cond-false (opens_at k x) (Some []) (mark_or (mark_shape k x) (falls_into k x)) o ∙ ap (λ a. mark_or a (falls_into k x)) m)

  shape-fallen : (x : ℕ) (σ : List Entry) → opens_at k x ≡ false → mark_shape k x ≡ None → falls_into k x ≡ Some σ → shape_at k x ≡ σ
  shape-fallen x σ o m f =
      ap or_empty (cond-false (opens_at k x) (Some []) (mark_or (mark_shape k x) (falls_into k x)) o ∙ ap (λ a. mark_or a (falls_into k x)) m ∙ f)

  module _ (x : ℕ) (d : Decoded) (s : Start code x) (e : decoded code x ≡ Some d) where
    abbrev p : Procedure
    p = procedure_at k x

    abbrev f : Flow
    f = (effect_in d).flow

    inside-x : x < length code
    inside-x = inside-code k x d e

    fallen : opens_at k x ≡ false → mark_shape k x ≡ None → (σ : List Entry) × (falls_into k x ≡ Some σ)
    fallen o m =
        let b = cond-false (opens_at k x) (Some []) (mark_or (mark_shape k x) (falls_into k x)) o ∙ ap (λ a. mark_or a (falls_into k x)) m in
        there-is (falls_into k x) (sym (ap is_some b) ∙ not-false _ (kept k u x d s e rule.Unreached))

    needs : (σ : List Entry) × ((here k x d).before ≡ Some σ) × (τ : List Entry) × (under_upper k d.next (effect_in d).upper f σ ≡ Some τ) × (ρ : List Entry) × (taken (effect_in d).lower τ ≡ Some ρ)
    needs =
        let m = first-there (here k x d).under (taken (effect_in d).lower) (not-false _ (kept k u x d s e rule.Missing)) in
        let n = first-there (here k x d).before (under_upper k d.next (effect_in d).upper f) (ap is_some m.1) in
        let h = sym (ap (λ o. and_then o (under_upper k d.next (effect_in d).upper f)) n.1) ∙ m.1 in
        let r = there-is (taken (effect_in d).lower m.0) m.2 in
        (n.0, n.1, m.0, h, r.0, r.1)

    abbrev σ : List Entry
    σ = needs.0

    abbrev τ : List Entry
    τ = needs.2

    abbrev ρ : List Entry
    ρ = needs.4

    abbrev result : List Entry
    result = left (effect_in d).leaves ρ

    under-is : (here k x d).under ≡ Some τ
    under-is = ap (λ o. and_then o (under_upper k d.next (effect_in d).upper f)) needs.1 ∙ needs.3

    rest-is : (here k x d).rest ≡ Some ρ
    rest-is = ap (λ o. and_then o (taken (effect_in d).lower)) under-is ∙ needs.5

    left_is : left_by (here k x d) ≡ Some result
    left_is = ap (option_map (left (effect_in d).leaves)) rest-is

    shape-x : shape_at k x ≡ σ
    shape-x = ap or_empty needs.1

    not-deep : too_deep p result ≡ false
    not-deep = sym (some_of (left_by (here k x d)) result (too_deep p) left_is) ∙ kept k u x d s e rule.TooDeep

    limits : (ltb 16 (length result) ≡ false) × (ltb p.depth (shape_size result) ≡ false)
    limits = or_parts _ _ not-deep

    -- where something is in the code of the procedure
    inside-parts : (y : ℕ) → inside_of k p y ≡ true → (y < length code) × ((procedure_at k y).offset ≡ p.offset)
    inside-parts y i =
        let a = and_parts (ltb y (length code)) (eqb (procedure_at k y).offset p.offset) i in
        (ltb-true _ _ a.0, eqb-true _ _ a.1)

    on : falls f ≡ true → Arrives k (shape_at k) p result d.next
    on g =
        let y = d.next in
        let out : inside_of k p y ≡ true = elim (and_cases (falls f) (not (inside_of k p y)) (kept k u x d s e rule.FallsOut)) [ inl n ↦ absurd (false≢true (sym n ∙ g)) | inr n ↦ not-false _ n ] in
        let i = inside-parts y out in
        let l = forward code x d e in
        let later = not-opening k x y l.0 i.1 in
        let start = next d s e in
        let c : falls_into k y ≡ Some result = falls-next k x d s e ∙ cond-true (falls f) _ None g ∙ left_is in
        let there = decodes-at k u y start i.0 in
        let alike = kept k u y there.0 start there.1 rule.UnlikeMark in
        record {
          start = start;
          inside = i.0;
          same_procedure = i.1;
          later = later;
          shape_is = none_or_some (mark_shape k y) (shape_at k y ≡ result)
              (λ m. shape-fallen y result later m c)
              (λ μ m.
              let same = sym (ap (λ a. unlike a (falls_into k y)) m ∙ ap (unlike (Some μ)) c) ∙ alike in
              shape-marked y μ later m ∙ shape_is μ result (not-false _ same));
        }

    to : (t : ℕ) → target_of d.next f ≡ Some t → (is_some (mark_shape k t) ≡ true) × Arrives k (shape_at k) p result t
    to t g =
        let a = (or_parts (some (target_of d.next f) (no_mark k p)) _ (kept k u x d s e rule.Astray)).0 in
        let b = not-false _ (sym (some_of (target_of d.next f) t (no_mark k p) g) ∙ a) in
        let both = and_parts (is_some (mark_shape k t)) (inside_of k p t) b in
        let i = inside-parts t both.1 in
        let told = there-is (mark_shape k t) both.0 in
        let m = marked-at t i.0 (marked-shape t told.0 told.1) in
        let w = kept k u x d s e rule.UnlikeTarget in
        let v = sym (some_of (left_by (here k x d)) result (λ ω. some (target_of d.next f) (unlike_target k ω)) left_is ∙ some_of (target_of d.next f) t (unlike_target k result) g ∙ some_of (mark_shape k t) told.0 (λ ω. not (same_shape ω result)) told.1) ∙ w in (
          both.0,
          record {
            start = start_is code t m.0;
            inside = i.0;
            same_procedure = i.1;
            later = m.1;
            shape_is = shape-marked t told.0 m.1 told.1 ∙ shape_is told.0 result (not-false _ v);
          },
        )

    into : (t : ℕ) → callee_of d.next f ≡ Some t → (opens_at k t ≡ true) × (t ≡ 0 → ⊥)
    into t g =
        let a = (or_parts (some (target_of d.next f) (no_mark k p)) (some (callee_of d.next f) (no_callee k)) (kept k u x d s e rule.Astray)).1 in
        let b = not-false _ (sym (some_of (callee_of d.next f) t (no_callee k) g) ∙ a) in
        let both = and_parts (opens_at k t) (not (eqb t 0)) b in
        (both.0, eqb-false t 0 (not-true _ both.1))

    meets_at : Meets k (shape_at k) x d
    meets_at =
        record {
          marked = λ μ m.
              let a = marked-at x inside-x (marked-shape x μ m) in
              shape-marked x μ a.1 m;
          opening = λ o. ap or_empty (cond-true (opens_at k x) (Some []) (mark_or (mark_shape k x) (falls_into k x)) o);
          reached = λ o m. let c = fallen o m in falls-from k x s c.0 c.1;
          under = τ;
          rest = ρ;
          upper = ap (under_upper k d.next (effect_in d).upper f) shape-x ∙ needs.3;
          lower = needs.5;
          regions = sym (ap (λ o. strays (globals_size k) p (effect_in d) (and_then o top_of)) under-is) ∙ kept k u x d s e rule.OutOfRegion;
          few = ltb-false _ _ limits.0;
          fitting = ltb-false _ _ limits.1;
          falls_on = on;
          branches = to;
          calls = into;
        }

  pub meeting : Clears k (shape_at k)
  meeting = record { decodes = decodes-at k u; places = places; meets = meets_at }
