-- The laws of starts.
use Rattle.std.proofs.Common.{◌≡◌, ℕ, zero, suc, ◌+◌, ◌-◌, ◌≤◌, Bool, true, false, cond, List, Some, None, Option, sym, refl, ap, ◌∙◌, subst, arith}
use Rattle.std.proofs.lemmas.Bool.{eqb-true, eq-eqb, ne_eqb}
use Rattle.instruction.specs.declared.decoding.Decoded.{Decoded}
use Rattle.instruction.specs.Decoding.{decoded}
use Rattle.instruction.proofs.Forward.{forward}
use Rattle.rules.specs.Starts.{Start, first, next, behind, carried, is_start, start_from}

module _ (code : List ℕ) where
  pub from-none : start_from code 0 ≡ 0
  unfolding start_from
  from-none = refl

  pub from-turn : (x : ℕ) → start_from code (suc x) ≡ cond (is_start code x) (behind x (decoded code x)) (start_from code x)
  unfolding start_from
  from-turn x = refl

  -- behind an instruction at a start, up to the next start
  from_up : (x : ℕ) (d : Decoded) → start_from code x ≡ x → decoded code x ≡ Some d → (j : ℕ) → x + 1 + j ≤ d.next → start_from code (suc (x + j)) ≡ d.next
  from_up x d s e zero l =
      let q : x + 0 ≡ x = omega arith in
      ap (λ y. start_from code (suc y)) q ∙ from-turn x ∙ ap (λ b. cond b (behind x (decoded code x)) (start_from code x)) (eq-eqb _ _ s) ∙ ap (behind x) e
  from_up x d s e (suc j) l =
      let q : x + suc j ≡ suc (x + j) = omega arith in
      let r : start_from code (suc (x + j)) ≡ d.next = from_up x d s e j (omega arith) in
      let n : is_start code (suc (x + j)) ≡ false = ne_eqb _ _ (λ z. omega (arith, z, r, l)) in
      ap (λ y. start_from code (suc y)) q ∙ from-turn (suc (x + j)) ∙ ap (λ b. cond b (behind (suc (x + j)) (decoded code (suc (x + j)))) (start_from code (suc (x + j)))) n ∙ r

  next-from : (x : ℕ) (d : Decoded) → start_from code x ≡ x → decoded code x ≡ Some d → start_from code d.next ≡ d.next
  next-from x d s e =
      let l = forward code x d e in
      let q : suc (x + (d.next - x - 1)) ≡ d.next = omega (arith, l.0) in
      subst (λ v. start_from code v ≡ d.next) q (from_up x d s e (d.next - x - 1) (omega (arith, l.0)))

  started : (x : ℕ) (b : Bool) (o : Option Decoded) → is_start code x ≡ b → decoded code x ≡ o → Start code (start_from code x) → Start code (cond b (behind x o) (start_from code x))
  started x true None s e h = subst (Start code) (eqb-true _ _ s) h
  started x true (Some d) s e h = next d (subst (Start code) (eqb-true _ _ s) h) e
  started x false o s e h = h

  from-starts : (x : ℕ) → Start code (start_from code x)
  from-starts zero = subst (Start code) (sym from-none) first
  from-starts (suc x) = subst (Start code) (sym (from-turn x)) (started x (is_start code x) (decoded code x) refl refl (from-starts x))

  -- the test tells the starts
  pub start_is : (x : ℕ) → is_start code x ≡ true → Start code x
  start_is x e = subst (Start code) (eqb-true _ _ e) (from-starts x)

  start-from : (x : ℕ) → Start code x → start_from code x ≡ x
  start-from x first = from-none
  start-from x (next {x = y} d s e) = next-from y d (start-from y s) e

  pub is-start : (x : ℕ) → Start code x → is_start code x ≡ true
  is-start x s = eq-eqb _ _ (start-from x s)

  module _ {A : Type 0} (z : A) (f : ℕ → A → A) where
    pub carried_none : carried code z f 0 ≡ z
    unfolding carried
    carried_none = refl

    pub carried-turn : (x : ℕ) → carried code z f (suc x) ≡ cond (is_start code x) (f x (carried code z f x)) (carried code z f x)
    unfolding carried
    carried-turn x = refl

    carry-up : (x : ℕ) (d : Decoded) → start_from code x ≡ x → decoded code x ≡ Some d → (j : ℕ) → x + 1 + j ≤ d.next → carried code z f (suc (x + j)) ≡ f x (carried code z f x)
    carry-up x d s e zero l =
        let q : x + 0 ≡ x = omega arith in
        ap (λ y. carried code z f (suc y)) q ∙ carried-turn x ∙ ap (λ b. cond b (f x (carried code z f x)) (carried code z f x)) (eq-eqb _ _ s)
    carry-up x d s e (suc j) l =
        let q : x + suc j ≡ suc (x + j) = omega arith in
        let r : start_from code (suc (x + j)) ≡ d.next = from_up x d s e j (omega arith) in
        let n : is_start code (suc (x + j)) ≡ false = ne_eqb _ _ (λ w. omega (arith, w, r, l)) in
        ap (λ y. carried code z f (suc y)) q
        ∙ carried-turn (suc (x + j))
        ∙ ap (λ b. cond b (f (suc (x + j)) (carried code z f (suc (x + j)))) (carried code z f (suc (x + j)))) n
        ∙ carry-up x d s e j (omega arith)

    -- what comes to the next start is what was made at this one
    pub carry-next : (x : ℕ) (d : Decoded) → Start code x → decoded code x ≡ Some d → carried code z f d.next ≡ f x (carried code z f x)
    carry-next x d s e =
        let l = forward code x d e in
        let q : suc (x + (d.next - x - 1)) ≡ d.next = omega (arith, l.0) in
        subst (λ v. carried code z f v ≡ f x (carried code z f x)) q (carry-up x d (start-from x s) e (d.next - x - 1) (omega (arith, l.0)))
