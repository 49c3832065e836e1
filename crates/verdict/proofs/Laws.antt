-- The verdict names the soonest breach.
use Rattle.std.proofs.Common.{◌≡◌, ℕ, ◌+◌, ◌<◌, false, ◌⊎◌, List, [], ◌∷◌, length, Some, None, Option, sym, refl, ap, ◌∙◌, subst, inl, inr, ⊎_elim, arith}
use Rattle.std.proofs.lemmas.Bool.{cases_eq, false≢true}
use Rattle.package.specs.Package.{Package}
use Rattle.rules.specs.declared.rule.Rule.{Rule}
use Rattle.rules.specs.declared.rule.Rule.TheVariants as rule
use Rattle.rules.specs.Sites.{instruction_rules}
use Rattle.rules.proofs.Lowest.{Among}
use Rattle.rules.proofs.Needing.{none-some}
use Rattle.verdict.specs.Breaking.{Breach, Soonest, Unbroken, breaks, or_else, round, verdict}
use Rattle.verdict.proofs.Firsts.{Passed, passed}

abbrev one : List Rule
one = rule.Undecoded ∷ []

abbrev two : List Rule
two = rule.Misplaced ∷ []

-- in which round's list a rule stands
in-round : (r : Rule) → ((round r ≡ 1) × Among r one) ⊎ (((round r ≡ 2) × Among r two) ⊎ ((round r ≡ 3) × Among r instruction_rules))
in-round rule.Undecoded = inl (refl, inl refl)
in-round rule.Misplaced = inr (inl (refl, inl refl))
in-round rule.Unreached = inr (inr (refl, inl refl))
in-round rule.UnlikeMark = inr (inr (refl, inr (inl refl)))
in-round rule.Astray = inr (inr (refl, inr (inr (inl refl))))
in-round rule.Missing = inr (inr (refl, inr (inr (inr (inl refl)))))
in-round rule.OutOfRegion = inr (inr (refl, inr (inr (inr (inr (inl refl))))))
in-round rule.TooDeep = inr (inr (refl, inr (inr (inr (inr (inr (inl refl)))))))
in-round rule.UnlikeTarget = inr (inr (refl, inr (inr (inr (inr (inr (inr (inl refl))))))))
in-round rule.FallsOut = inr (inr (refl, inr (inr (inr (inr (inr (inr (inr (inl refl)))))))))

-- all rules of a list are of one round
abbrev Of : ℕ → List Rule → Type 0
Of n [] = Unit {0}
Of n (q ∷ rs) = (round q ≡ n) × Of n rs

of-in : (n : ℕ) (rs : List Rule) (r : Rule) → Of n rs → Among r rs → round r ≡ n
of-in n [] r a i = absurd i
of-in n (q ∷ rs) r (h, a) (inl e) = ap round e ∙ h
of-in n (q ∷ rs) r (h, a) (inr i) = of-in n rs r a i

module _ (k : Package) where
  -- no rule of a round before n is broken anywhere
  abbrev Before : ℕ → Type 0
  Before n = (r : Rule) (x : ℕ) → x < length k.code → round r < n → breaks k x r ≡ false

  -- a round that stops, where no rule of the rounds before it is broken
  stopped : (n : ℕ) (rs : List Rule) (b : Breach) → Of n rs → Passed k rs (Some b) → Before n → ((r : Rule) → round r ≡ n → Among r rs) → Soonest k b
  stopped n rs b o l lower mine =
      let m = of-in n rs b.rule o l.2 in
      record {
        within = l.0;
        holds = l.1;
        none = λ r x h s. elim s [ inl a ↦ lower r x h (omega (arith, a, m)) | inr a ↦ l.3 r x (mine r (a.0 ∙ m)) a.1 ];
      }

  of_one : (r : Rule) → round r ≡ 1 → Among r one
  of_one r e = elim (in-round r) [ inl a ↦ a.1 | inr a ↦ elim a [ inl b ↦ absurd (omega (arith, e, b.0)) | inr b ↦ absurd (omega (arith, e, b.0)) ] ]

  of_two : (r : Rule) → round r ≡ 2 → Among r two
  of_two r e = elim (in-round r) [ inl a ↦ absurd (omega (arith, e, a.0)) | inr a ↦ elim a [ inl b ↦ b.1 | inr b ↦ absurd (omega (arith, e, b.0)) ] ]

  of_three : (r : Rule) → round r ≡ 3 → Among r instruction_rules
  of_three r e = elim (in-round r) [ inl a ↦ absurd (omega (arith, e, a.0)) | inr a ↦ elim a [ inl b ↦ absurd (omega (arith, e, b.0)) | inr b ↦ b.1 ] ]

  before-one : Before 1
  before-one r x h l = elim (in-round r) [ inl a ↦ absurd (omega (arith, l, a.0)) | inr a ↦ elim a [ inl b ↦ absurd (omega (arith, l, b.0)) | inr b ↦ absurd (omega (arith, l, b.0)) ] ]

  before_more : (n : ℕ) (rs : List Rule) → ((r : Rule) → round r ≡ n → Among r rs) → Passed k rs None → Before n → Before (n + 1)
  before_more n rs mine p b r x h l = ⊎_elim (λ e. p r x (mine r e) h) (λ e. b r x h (omega (arith, e, l))) (cases_eq (round r) n)

  three-rounds : (r : Rule) → round r < 4
  three-rounds r = elim (in-round r) [ inl a ↦ omega (arith, a.0) | inr a ↦ elim a [ inl b ↦ omega (arith, b.0) | inr b ↦ omega (arith, b.0) ] ]

  abbrev Judged : Option Breach → Type 0
  Judged None = Unbroken k
  Judged (Some b) = Soonest k b

  joined : (s e l : Option Breach) → Passed k one s → Passed k two e → Passed k instruction_rules l → Judged (or_else s (or_else e l))
  joined (Some b) e l p q t = stopped 1 one b (refl, tt) p before-one of_one
  joined None (Some b) l p q t = stopped 2 two b (refl, tt) q (before_more 1 one of_one p before-one) of_two
  joined None None (Some b) p q t =
      stopped 3 instruction_rules b (refl, (refl, (refl, (refl, (refl, (refl, (refl, (refl, tt)))))))) t (before_more 2 two of_two q (before_more 1 one of_one p before-one)) of_three
  joined None None None p q t =
      λ r x h. before_more 3 instruction_rules of_three t (before_more 2 two of_two q (before_more 1 one of_one p before-one)) r x h (three-rounds r)

  law : Judged (verdict k)
  unfolding verdict
  law =
      joined _ _ _
      (passed k 0 one (omega arith, tt))
      (passed k 0 two (omega arith, tt))
      (passed k 0 instruction_rules (omega arith, (omega arith, (omega arith, (omega arith, (omega arith, (omega arith, (omega arith, (omega arith, tt)))))))))

  judged-none : (o : Option Breach) → o ≡ None → Judged o → Unbroken k
  judged-none None e j = j
  judged-none (Some b) e j = absurd (none-some (sym e))

  pub no-breach : verdict k ≡ None → Unbroken k
  no-breach e = judged-none (verdict k) e law

  pub some-breach : (b : Breach) → verdict k ≡ Some b → Soonest k b
  some-breach b e = subst Judged e law

  unbroken-none : (o : Option Breach) → Judged o → Unbroken k → o ≡ None
  unbroken-none None j u = refl
  unbroken-none (Some b) j u = absurd (false≢true (sym (u b.rule b.place j.within) ∙ j.holds))

  pub all_hold : Unbroken k → verdict k ≡ None
  all_hold u = unbroken-none (verdict k) law u
