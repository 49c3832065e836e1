-- An instruction where it stands, among what falls from start to start.
use Rattle.std.proofs.Common.{◌≡◌, ℕ, ◌<◌, false, cond, not, List, [], length, is_some, Some, None, Option, sym, refl, ap, ◌∙◌, inl, inr, arith}
use Rattle.std.specs.Option.{option_map}
use Rattle.std.proofs.lemmas.Bool.{and_cases, false≢true, ne_eqb, not-false}
use Rattle.entries.specs.declared.Entry.{Entry}
use Rattle.package.specs.Package.{Package}
use Rattle.declarations.proofs.Owners.{owner-le}
use Rattle.instruction.specs.declared.decoding.Decoded.{Decoded}
use Rattle.instruction.specs.Decoding.{decoded}
use Rattle.instruction.specs.Effects.{falls}
use Rattle.instruction.proofs.Forward.{forward}
use Rattle.rules.specs.declared.rule.Rule.{Rule}
use Rattle.rules.specs.declared.rule.Rule.TheVariants as rule
use Rattle.rules.specs.Asking.{mark_shape, opens_at, procedure_at}
use Rattle.rules.specs.Starts.{Start, first, next, is_start}
use Rattle.rules.specs.Needs.{and_then, shape_before}
use Rattle.rules.specs.Sites.{Site, broken_at, onward, site_at, some}
use Rattle.rules.proofs.Starting.{carried_none, carry-next, is-start}
use Rattle.rules.proofs.Needing.{none-some}
use Rattle.verdict.specs.Assignment.{FallsTo, effect_in}
use Rattle.verdict.specs.Breaking.{Unbroken, breaks, breaks_there, falls_into, passed_on, site_in}
use Rattle.verdict.proofs.Options.{cond-some, there-is}

abbrev pub here : Package → ℕ → Decoded → Site
here k x d = site_at k x (falls_into k x) d

-- the shape before an instruction, as the rules tell it
abbrev pub or_empty : Option (List Entry) → List Entry
or_empty None = []
or_empty (Some σ) = σ

abbrev pub shape_at : Package → ℕ → List Entry
shape_at k x = or_empty (shape_before (opens_at k x) (mark_shape k x) (falls_into k x))

module _ (k : Package) where
  site-here : (x : ℕ) (d : Decoded) → Start k.code x → decoded k.code x ≡ Some d → site_in k x ≡ Some (here k x d)
  site-here x d s e =
      ap (λ b. cond b (option_map (site_at k x (falls_into k x)) (decoded k.code x)) None) (is-start k.code x s)
      ∙ ap (option_map (site_at k x (falls_into k x))) e

  pub breaks-here : (x : ℕ) (d : Decoded) → Start k.code x → decoded k.code x ≡ Some d → (r : Rule) → breaks_there k x r ≡ broken_at k (here k x d) r
  breaks-here x d s e r = ap (λ o. some o (λ t. broken_at k t r)) (site-here x d s e)

  pub inside-code : (x : ℕ) (d : Decoded) → decoded k.code x ≡ Some d → x < length k.code
  inside-code x d e = let l = forward k.code x d e in omega (arith, l.0, l.1)

  -- where no rule is broken anywhere, none is at an instruction
  module _ (u : Unbroken k) (x : ℕ) (d : Decoded) (s : Start k.code x) (e : decoded k.code x ≡ Some d) where
    pub kept : (r : Rule) → broken_at k (here k x d) r ≡ false
    unfolding breaks
    kept rule.Undecoded = refl
    kept rule.Misplaced = refl
    kept rule.Unreached = sym (breaks-here x d s e rule.Unreached) ∙ u rule.Unreached x (inside-code x d e)
    kept rule.UnlikeMark = sym (breaks-here x d s e rule.UnlikeMark) ∙ u rule.UnlikeMark x (inside-code x d e)
    kept rule.Astray = sym (breaks-here x d s e rule.Astray) ∙ u rule.Astray x (inside-code x d e)
    kept rule.Missing = sym (breaks-here x d s e rule.Missing) ∙ u rule.Missing x (inside-code x d e)
    kept rule.OutOfRegion = sym (breaks-here x d s e rule.OutOfRegion) ∙ u rule.OutOfRegion x (inside-code x d e)
    kept rule.TooDeep = sym (breaks-here x d s e rule.TooDeep) ∙ u rule.TooDeep x (inside-code x d e)
    kept rule.UnlikeTarget = sym (breaks-here x d s e rule.UnlikeTarget) ∙ u rule.UnlikeTarget x (inside-code x d e)
    kept rule.FallsOut = sym (breaks-here x d s e rule.FallsOut) ∙ u rule.FallsOut x (inside-code x d e)

  -- what falls into the instruction behind one
  pub falls-next : (x : ℕ) (d : Decoded) → Start k.code x → decoded k.code x ≡ Some d → falls_into k d.next ≡ onward (here k x d)
  falls-next x d s e =
      carry-next k.code None (passed_on k) x d s e ∙ ap (λ o. and_then o (λ c. onward (site_at k x (falls_into k x) c))) e

  pub falls-first : falls_into k 0 ≡ None
  falls-first = carried_none k.code None (passed_on k)

  -- what falls in comes from an instruction that falls through
  pub falls-from : (x : ℕ) → Start k.code x → (σ : List Entry) → falls_into k x ≡ Some σ → FallsTo k x
  falls-from x first σ h = absurd (none-some (sym falls-first ∙ h))
  falls-from x (next {x = y} d s e) σ h =
      record {
        from = y;
        instruction = d;
        start = s;
        decodes = e;
        next = refl;
        goes_on = cond-some (falls (effect_in d).flow) _ σ (sym (falls-next y d s e) ∙ h);
      }

  -- what has the owner of something before it does not open
  pub not-opening : (x y : ℕ) → x < y → (procedure_at k y).offset ≡ (procedure_at k x).offset → opens_at k y ≡ false
  not-opening x y l e =
      let m = owner-le k.procedures x in
      ne_eqb _ _ (λ q. omega (arith, q, e, l, m))

  -- where each start decodes
  pub decodes-at : Unbroken k → (x : ℕ) → Start k.code x → x < length k.code → (d : Decoded) × (decoded k.code x ≡ Some d)
  unfolding breaks
  decodes-at u x s l =
      elim (and_cases (is_start k.code x) (not (is_some (decoded k.code x))) (u rule.Undecoded x l))
      [ inl n ↦ absurd (false≢true (sym n ∙ is-start k.code x s)) | inr n ↦ there-is (decoded k.code x) (not-false _ n) ]
