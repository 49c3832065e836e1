-- The first of some rules that is broken.
use Rattle.std.proofs.Common.{◌≡◌, Bool, true, false, cond, ◌⊎◌, List, [], ◌∷◌, Some, None, Option, sym, refl, subst, inl, inr}
use Rattle.rules.specs.declared.rule.Rule.{Rule}
use Rattle.rules.specs.Sites.{lowest}
use Rattle.rules.proofs.Needing.{none-some}

-- a rule among some
abbrev pub Among : Rule → List Rule → Type 0
Among r [] = ⊥
Among r (s ∷ rs) = (r ≡ s) ⊎ Among r rs

passed : (b : Bool) (r : Rule) (o : Option Rule) → cond b (Some r) o ≡ None → (b ≡ false) × (o ≡ None)
passed true r o e = absurd (none-some (sym e))
passed false r o e = (refl, e)

-- where none is found, none is broken
pub lowest-none : (rs : List Rule) (p : Rule → Bool) → lowest rs p ≡ None → (r : Rule) → Among r rs → p r ≡ false
lowest-none [] p e r a = absurd a
lowest-none (s ∷ rs) p e r (inl q) = subst (λ t. p t ≡ false) (sym q) (passed (p s) s (lowest rs p) e).0
lowest-none (s ∷ rs) p e r (inr a) = lowest-none rs p (passed (p s) s (lowest rs p) e).1 r a
