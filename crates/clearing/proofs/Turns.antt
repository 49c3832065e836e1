-- One offset of the pass over instructions.
use Rattle.std.proofs.Common.{◌≡◌, ℕ, suc, ◌+◌, Bool, true, false, cond, List, Some, None, Ok, Err, Option, Result, sym, refl, ap, ◌∙◌, arith}
use Rattle.std.specs.Option.{option_map}
use Rattle.entries.specs.declared.Entry.{Entry}
use Rattle.package.specs.Package.{Package}
use Rattle.instruction.specs.declared.decoding.Decoded.{Decoded}
use Rattle.instruction.specs.Decoding.{decoded}
use Rattle.rules.specs.declared.rule.Rule.{Rule}
use Rattle.rules.specs.Needs.{and_then}
use Rattle.rules.specs.Sites.{broken_at, instruction_rules, lowest, onward, site_at, some}
use Rattle.rules.specs.Judging.{judged_at, settled}
use Rattle.rules.specs.Starts.{is_start}
use Rattle.rules.proofs.Starting.{carried_none, carried-turn}
use Rattle.verdict.specs.Breaking.{breaks, falls_into, passed_on}

pub err-ok : {A B : Type 0} {a : A} {b : B} → ◌≡◌ {A = Result A B} (Err b) (Ok a) → ⊥
err-ok e = absurd (let z : ◌≡◌ {A = ℕ} 0 1 = cc in omega arith)

settled-err : (q : Option Rule) (c : Option (List Entry)) (r : Rule) → Err r ≡ settled q c → q ≡ Some r
settled-err None c r e = absurd (err-ok e)
settled-err (Some s) c r e = cc

settled-ok : (q : Option Rule) (c l : Option (List Entry)) → Ok l ≡ settled q c → (q ≡ None) × (l ≡ c)
settled-ok None c l e = (refl, cc)
settled-ok (Some s) c l e = absurd (err-ok (sym e))

module _ (k : Package) (x : ℕ) where
  -- the first rule on instructions that is broken at x
  abbrev broken_here : Option Rule
  broken_here = lowest instruction_rules (breaks k x)

  -- the same of an instruction that is found there or not
  abbrev broken_with : Bool → Option Decoded → Option Rule
  broken_with b o = lowest instruction_rules (λ r. some (cond b (option_map (site_at k x (falls_into k x)) o) None) (λ s. broken_at k s r))

  broken-with : broken_here ≡ broken_with (is_start k.code x) (decoded k.code x)
  unfolding breaks
  broken-with = refl

  judged-with : (o : Option Decoded) → judged_at k x (falls_into k x) o ≡ settled (broken_with true o) (and_then o (λ d. onward (site_at k x (falls_into k x) d)))
  judged-with None = refl
  judged-with (Some d) = refl

  -- what falls on from x
  falls-turn : falls_into k (suc x) ≡ cond (is_start k.code x) (passed_on k x (falls_into k x)) (falls_into k x)
  falls-turn = carried-turn k.code None (passed_on k) x

  next_place : suc x ≡ x + 1
  next_place = omega arith

  pub no-instruction : is_start k.code x ≡ false → broken_here ≡ None
  no-instruction s = broken-with ∙ ap (λ b. broken_with b (decoded k.code x)) s

  pub falls-past : is_start k.code x ≡ false → falls_into k (x + 1) ≡ falls_into k x
  falls-past s = sym (ap (falls_into k) next_place) ∙ falls-turn ∙ ap (λ b. cond b (passed_on k x (falls_into k x)) (falls_into k x)) s

  module _ (s : is_start k.code x ≡ true) where
    broken-there : broken_here ≡ broken_with true (decoded k.code x)
    broken-there = broken-with ∙ ap (λ b. broken_with b (decoded k.code x)) s

    pub rule-broken : (c : Option (List Entry)) (r : Rule) → c ≡ falls_into k x → Err r ≡ judged_at k x c (decoded k.code x) → broken_here ≡ Some r
    rule-broken c r h e =
        broken-there ∙ settled-err _ _ r (e ∙ ap (λ a. judged_at k x a (decoded k.code x)) h ∙ judged-with (decoded k.code x))

    went-well : (c l : Option (List Entry)) → c ≡ falls_into k x → Ok l ≡ judged_at k x c (decoded k.code x) → (broken_with true (decoded k.code x) ≡ None) × (l ≡ passed_on k x (falls_into k x))
    went-well c l h e = settled-ok _ _ l (e ∙ ap (λ a. judged_at k x a (decoded k.code x)) h ∙ judged-with (decoded k.code x))

    pub none-broken : (c l : Option (List Entry)) → c ≡ falls_into k x → Ok l ≡ judged_at k x c (decoded k.code x) → broken_here ≡ None
    none-broken c l h e = broken-there ∙ (went-well c l h e).0

    pub falls-on : (c l : Option (List Entry)) → c ≡ falls_into k x → Ok l ≡ judged_at k x c (decoded k.code x) → l ≡ falls_into k (x + 1)
    falls-on c l h e =
        (went-well c l h e).1 ∙ sym (ap (λ b. cond b (passed_on k x (falls_into k x)) (falls_into k x)) s) ∙ sym falls-turn ∙ ap (falls_into k) next_place

pub falls-none : (k : Package) → None ≡ falls_into k 0
falls-none k = sym (carried_none k.code None (passed_on k))
