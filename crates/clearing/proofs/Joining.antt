-- One pass after another, and the laws of the answer.
use Rattle.std.proofs.Common.{◌≡◌, ℕ, ◌<◌, ◌≤◌, [], ◌∷◌, length, Some, None, Ok, Err, Option, Result, sym, refl, ◌∙◌, subst}
use Rattle.std.proofs.lemmas.Bool.{cond-false, cond-true, le-ltb, lt-ltb}
use Rattle.package.specs.Package.{Package}
use Rattle.rules.specs.declared.rule.Rule.TheVariants as rule
use Rattle.rules.specs.Sites.{instruction_rules}
use Rattle.verdict.specs.declared.ClearFault.{ClearFault}
use Rattle.verdict.specs.declared.ClearFault.TheVariants.{WorkTooShort}
use Rattle.verdict.specs.Answers.{ClearsExactly, FirstBroken, clearing, ruled}
use Rattle.verdict.specs.Breaking.{Breach, first_breach, or_else, verdict}
use Rattle.verdict.proofs.Exact.{clears-exactly, first-broken}
use Rattle.clearing.specs.Passing.{passed}
use Rattle.clearing.proofs.Turns.{err-ok}

-- a pass that stops settles the answer, and one that does not leaves it to those behind
stops : (a b : Option Breach) (e : ClearFault) → Err e ≡ passed a → Err e ≡ passed (or_else a b)
stops None b e h = absurd (err-ok h)
stops (Some x) b e h = h

goes_on : (a b : Option Breach) → Ok tt ≡ passed a → passed b ≡ passed (or_else a b)
goes_on None b h = refl
goes_on (Some x) b h = absurd (err-ok (sym h))

module _ (k : Package) where
  pub first_stops : (e : ClearFault) → Err e ≡ passed (first_breach k (rule.Undecoded ∷ [])) → Err e ≡ passed (verdict k)
  unfolding verdict
  first_stops e h = stops (first_breach k (rule.Undecoded ∷ [])) _ e h

  module _ (a : Ok tt ≡ passed (first_breach k (rule.Undecoded ∷ []))) where
    pub second-stops : (e : ClearFault) → Err e ≡ passed (first_breach k (rule.Misplaced ∷ [])) → Err e ≡ passed (verdict k)
    unfolding verdict
    second-stops e h = stops (first_breach k (rule.Misplaced ∷ [])) (first_breach k instruction_rules) e h ∙ goes_on (first_breach k (rule.Undecoded ∷ [])) _ a

    pub third-tells : Ok tt ≡ passed (first_breach k (rule.Misplaced ∷ [])) → passed (first_breach k instruction_rules) ≡ passed (verdict k)
    unfolding verdict
    third-tells b = goes_on (first_breach k (rule.Misplaced ∷ [])) (first_breach k instruction_rules) b ∙ goes_on (first_breach k (rule.Undecoded ∷ [])) _ a

  -- what the passes tell is the answer
  ruled-err : (o : Option Breach) (e : ClearFault) → Err e ≡ passed o → Err e ≡ ruled k o
  ruled-err None e h = absurd (err-ok h)
  ruled-err (Some b) e h = cc

  ruled-ok : (o : Option Breach) → Ok tt ≡ passed o → Ok k ≡ ruled k o
  ruled-ok None h = refl
  ruled-ok (Some b) h = absurd (err-ok (sym h))

  module _ (room : ℕ) where
    pub too_short : room < length k.code → Err WorkTooShort ≡ clearing k room
    unfolding clearing
    too_short l = sym (cond-true _ _ _ (lt-ltb _ _ l))

    module _ (l : length k.code ≤ room) where
      pub refused : (e : ClearFault) → Err e ≡ passed (verdict k) → Err e ≡ clearing k room
      unfolding clearing
      refused e h = ruled-err (verdict k) e h ∙ sym (cond-false _ _ _ (le-ltb _ _ l))

      pub accepted : Ok tt ≡ passed (verdict k) → Ok k ≡ clearing k room
      unfolding clearing
      accepted h = ruled-ok (verdict k) h ∙ sym (cond-false _ _ _ (le-ltb _ _ l))

    -- the answer keeps the laws
    module _ (r : Result Package ClearFault) (e : r ≡ clearing k room) where
      pub exact-by : ClearsExactly k room r
      exact-by = subst (ClearsExactly k room) (sym e) (clears-exactly k room)

      pub first_by : FirstBroken k r
      first_by = subst (FirstBroken k) (sym e) (first-broken k room)
