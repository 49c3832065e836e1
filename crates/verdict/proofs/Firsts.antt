-- The lowest rule of a list that is broken, and the first place at which one is found.
use Rattle.std.proofs.Common.{◌≡◌, ℕ, zero, suc, ◌<◌, Bool, true, false, cond, ◌⊎◌, List, [], ◌∷◌, length, Some, None, Option, sym, refl, ap, ◌∙◌, subst, inl, inr, ⊎_elim, arith}
use Rattle.std.proofs.lemmas.Bool.{cases_eq}
use Rattle.package.specs.Package.{Package}
use Rattle.rules.specs.declared.rule.Rule.{Rule}
use Rattle.rules.specs.Numbers.{number_of}
use Rattle.rules.specs.Sites.{lowest}
use Rattle.rules.proofs.Lowest.{Among}
use Rattle.rules.proofs.Needing.{none-some}
use Rattle.verdict.specs.Breaking.{Breach, breach_at, breaks, first_below, first_breach, or_else}

-- numbers rise along the list, from above n
abbrev pub Above : ℕ → List Rule → Type 0
Above n [] = Unit {0}
Above n (q ∷ rs) = (n < number_of q) × Above (number_of q) rs

above_in : (n : ℕ) (rs : List Rule) (r : Rule) → Above n rs → Among r rs → n < number_of r
above_in n [] r a i = absurd i
above_in n (q ∷ rs) r (h, a) (inl e) = subst (λ s. n < number_of s) (sym e) h
above_in n (q ∷ rs) r (h, a) (inr i) = let l = above_in (number_of q) rs r a i in omega (arith, h, l)

-- none of the rules is broken, or the lowest that is
abbrev Lowest : List Rule → (Rule → Bool) → Option Rule → Type 0
Lowest rs p None = (r : Rule) → Among r rs → p r ≡ false
Lowest rs p (Some s) = (p s ≡ true) × Among s rs × ((r : Rule) → Among r rs → number_of r < number_of s → p r ≡ false)

lowest_step : (q : Rule) (rs : List Rule) (p : Rule → Bool) (o : Option Rule) (b : Bool) → p q ≡ b → Above (number_of q) rs → Lowest rs p o → Lowest (q ∷ rs) p (cond b (Some q) o)
lowest_step q rs p o true e a l = (
  e,
  inl refl,
  λ r i h. elim i [ inl k ↦ absurd (omega (arith, h, ap number_of k)) | inr k ↦ absurd (omega (arith, h, above_in (number_of q) rs r a k)) ],
)
lowest_step q rs p None false e a l = λ r i. elim i [ inl k ↦ ap p k ∙ e | inr k ↦ l r k ]
lowest_step q rs p (Some s) false e a l = (l.0, inr l.1, λ r i h. elim i [ inl k ↦ ap p k ∙ e | inr k ↦ l.2 r k h ])

lowest-law : (n : ℕ) (rs : List Rule) (p : Rule → Bool) → Above n rs → Lowest rs p (lowest rs p)
lowest-law n [] p a = λ r i. absurd i
lowest-law n (q ∷ rs) p (h, a) = lowest_step q rs p (lowest rs p) (p q) refl a (lowest-law (number_of q) rs p a)

-- nothing is found below n, or the first that is
abbrev First : (ℕ → Option Rule) → ℕ → Option Breach → Type 0
First f n None = (x : ℕ) → x < n → f x ≡ None
First f n (Some b) = (b.place < n) × (f b.place ≡ Some b.rule) × ((x : ℕ) → x < b.place → f x ≡ None)

first_step : (f : ℕ → Option Rule) (n : ℕ) (o : Option Breach) (r : Option Rule) → f n ≡ r → First f n o → First f (suc n) (or_else o (breach_at n r))
first_step f n None None e l = λ x h. ⊎_elim (λ k. ap f k ∙ e) (λ k. l x (omega (arith, h, k))) (cases_eq x n)
first_step f n None (Some r) e l = (omega arith, e, l)
first_step f n (Some b) r e l = (omega (arith, l.0), l.1, l.2)

first-law : (f : ℕ → Option Rule) (n : ℕ) → First f n (first_below f n)
unfolding first_below
first-law f zero = λ x h. absurd (omega (arith, h))
first-law f (suc n) = first_step f n (first_below f n) (f n) refl (first-law f n)

-- one round over the code
abbrev pub Passed : Package → List Rule → Option Breach → Type 0
Passed k rs None = (r : Rule) (x : ℕ) → Among r rs → x < length k.code → breaks k x r ≡ false
Passed k rs (Some b) =
    (b.place < length k.code) × (breaks k b.place b.rule ≡ true) × Among b.rule rs
    × ((r : Rule) (x : ℕ) → Among r rs → ((x < b.place) ⊎ ((x ≡ b.place) × (number_of r < number_of b.rule))) → breaks k x r ≡ false)

at_none : (rs : List Rule) (p : Rule → Bool) (o : Option Rule) → o ≡ None → Lowest rs p o → (r : Rule) → Among r rs → p r ≡ false
at_none rs p None e l = l
at_none rs p (Some s) e l = absurd (none-some (sym e))

module _ (k : Package) (n : ℕ) (rs : List Rule) (a : Above n rs) where
  passed-from : (o : Option Breach) → First (λ x. lowest rs (breaks k x)) (length k.code) o → Passed k rs o
  passed-from None l = λ r x i h. at_none rs (breaks k x) _ (l x h) (lowest-law n rs (breaks k x) a) r i
  passed-from (Some b) l =
      let m = subst (Lowest rs (breaks k b.place)) l.1 (lowest-law n rs (breaks k b.place) a) in (
        l.0,
        m.0,
        m.1,
        λ r x i s. elim s [
          | inl h ↦ at_none rs (breaks k x) _ (l.2 x h) (lowest-law n rs (breaks k x) a) r i
          | inr h ↦ ap (λ y. breaks k y r) h.0 ∙ m.2 r i h.1
        ],
      )

  pub passed : Passed k rs (first_breach k rs)
  passed = passed-from _ (first-law _ (length k.code))
