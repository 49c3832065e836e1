-- The first place at which a rule is found broken, along a loop.
use Rattle.std.proofs.Common.{◌≡◌, ℕ, zero, suc, ◌+◌, ◌<◌, ◌≤◌, Bool, true, false, cond, not, [], ◌∷◌, is_some, Some, None, Ok, Err, Option, sym, refl, ap, ◌∙◌, ⊎_elim, arith}
use Rattle.std.proofs.lemmas.Bool.{and_from, and_left, and_right, cases_eq, cond-false, cond-true, not_from_false, not_from_true}
use Rattle.package.specs.Package.{Package}
use Rattle.instruction.specs.declared.decoding.Decoded.{Decoded}
use Rattle.instruction.specs.Decoding.{decoded}
use Rattle.rules.specs.declared.rule.Rule.{Rule}
use Rattle.rules.specs.declared.rule.Rule.TheVariants as rule
use Rattle.rules.specs.Places.{misplaced}
use Rattle.rules.specs.Sites.{lowest}
use Rattle.rules.specs.Starts.{is_start}
use Rattle.verdict.specs.declared.ClearFault.TheVariants.{Broken}
use Rattle.verdict.specs.Breaking.{Breach, breach_at, breaks, first_below, or_else}
use Rattle.clearing.specs.Passing.{passed}

module _ (f : ℕ → Option Rule) where
  pub below_none : first_below f 0 ≡ None
  unfolding first_below
  below_none = refl

  below-turn : (x : ℕ) (o : Option Rule) → first_below f x ≡ None → f x ≡ o → first_below f (suc x) ≡ breach_at x o
  unfolding first_below
  below-turn x o e g = ap (λ a. or_else a (breach_at x (f x))) e ∙ ap (breach_at x) g

  pub below_more : (x : ℕ) → first_below f x ≡ None → f x ≡ None → first_below f (x + 1) ≡ None
  below_more x e g = let n : x + 1 ≡ suc x = omega arith in ap (first_below f) n ∙ below-turn x None e g

  stays : (x : ℕ) (b : Breach) → first_below f x ≡ Some b → first_below f (suc x) ≡ Some b
  unfolding first_below
  stays x b e = ap (λ a. or_else a (breach_at x (f x))) e

  stays_up : (x n : ℕ) (b : Breach) → first_below f x ≡ Some b → x ≤ n → first_below f n ≡ Some b
  stays_up x zero b e l = let q : x ≡ zero = omega arith in ap (first_below f) (sym q) ∙ e
  stays_up x (suc n) b e l = ⊎_elim (λ q. ap (first_below f) (sym q) ∙ e) (λ q. stays n b (stays_up x n b e (omega (arith, q, l)))) (cases_eq x (suc n))

  -- a pass that stops at x
  pub found : (x n : ℕ) (r : Rule) → x < n → first_below f x ≡ None → f x ≡ Some r → Err (Broken r x) ≡ passed (first_below f n)
  found x n r l e g = sym (ap passed (stays_up (suc x) n _ (below-turn x (Some r) e g) (omega (arith, l))))

  -- a pass that comes to the end
  pub ended : (n : ℕ) → first_below f n ≡ None → Ok tt ≡ passed (first_below f n)
  ended n e = sym (ap passed e)

-- decoding, at an offset
module _ (k : Package) (x : ℕ) where
  pub undecoded-none : decoded k.code x ≡ None → is_start k.code x ≡ true → lowest (rule.Undecoded ∷ []) (breaks k x) ≡ Some rule.Undecoded
  unfolding breaks
  undecoded-none e s = cond-true _ _ _ (and_from (is_start k.code x) (not (is_some (decoded k.code x))) s (not_from_false _ (ap is_some e)))

  pub decoded-some : (d : Decoded) → decoded k.code x ≡ Some d → lowest (rule.Undecoded ∷ []) (breaks k x) ≡ None
  unfolding breaks
  decoded-some d e = cond-false _ _ _ (and_right (is_start k.code x) (not (is_some (decoded k.code x))) (not_from_true _ (ap is_some e)))

  pub no_start : is_start k.code x ≡ false → lowest (rule.Undecoded ∷ []) (breaks k x) ≡ None
  unfolding breaks
  no_start s = cond-false _ _ _ (and_left (is_start k.code x) (not (is_some (decoded k.code x))) s)

  -- the rule on places, with the start as the table tells it
  placed-is : (b : Bool) → b ≡ is_start k.code x → lowest (rule.Misplaced ∷ []) (breaks k x) ≡ cond (misplaced k x b) (Some rule.Misplaced) None
  unfolding breaks
  placed-is b e = ap (λ a. cond (misplaced k x a) (Some rule.Misplaced) None) (sym e)

  pub misplaced-found : (b : Bool) → b ≡ is_start k.code x → misplaced k x b ≡ true → lowest (rule.Misplaced ∷ []) (breaks k x) ≡ Some rule.Misplaced
  misplaced-found b e m = placed-is b e ∙ cond-true _ _ _ m

  pub placed-well : (b : Bool) → b ≡ is_start k.code x → misplaced k x b ≡ false → lowest (rule.Misplaced ∷ []) (breaks k x) ≡ None
  placed-well b e m = placed-is b e ∙ cond-false _ _ _ m
