-- A field at the front of some bytes.
use Rattle.std.proofs.Common.{◌≡◌, ℕ, ◌+◌, ◌<◌, ◌≤◌, Bool, true, false, cond, ltb, List, length, get_or, take, drop, Some, None, sym, refl, ◌∙◌, subst, arith, length-drop}
use Rattle.std.proofs.lemmas.List.{length-take-le}
use Rattle.std.proofs.lemmas.Bool.{cond-false, cond-true, le-ltb, lt-ltb, ltb-false}
use Rattle.fields.specs.Bytes.{two}
use Rattle.fields.specs.Fields.{cut, Cut}

pub cut-whole : (xs r b a : List ℕ) (n : ℕ) → 3 ≤ length xs → r ≡ drop 3 xs → n ≡ two xs 1 → n ≤ length r → b ≡ take n r → a ≡ drop n r → Some (record { tag = get_or xs 0 0; body = b; rest = a }) ≡ cut xs
cut-whole xs r b a n long er en fits eb ea =
    let e1 : ltb (length xs) 3 ≡ false = le-ltb (length xs) 3 long in
    let l : two xs 1 ≤ length (drop 3 xs) = subst (λ (ys : List ℕ). two xs 1 ≤ length ys) er (subst (λ (m : ℕ). m ≤ length r) en fits) in
    let e2 : ltb (length (drop 3 xs)) (two xs 1) ≡ false = le-ltb (length (drop 3 xs)) (two xs 1) l in
    let q : Some (record { tag = get_or xs 0 0; body = b; rest = a }) ≡ Some (record { tag = get_or xs 0 0; body = take (two xs 1) (drop 3 xs); rest = drop (two xs 1) (drop 3 xs) }) = cc in
    q ∙ sym (cond-false _ _ _ e1 ∙ cond-false _ _ _ e2)

-- what a field at the front is made of
pub cut-some : (xs : List ℕ) (f : Cut) → cut xs ≡ Some f → (3 ≤ length xs) × (two xs 1 ≤ length (drop 3 xs)) × (record { tag = get_or xs 0 0; body = take (two xs 1) (drop 3 xs); rest = drop (two xs 1) (drop 3 xs) } ≡ f)
cut-some xs f e = go (ltb (length xs) 3) (ltb (length (drop 3 xs)) (two xs 1)) refl refl e
  where
    go : (s t : Bool) → ltb (length xs) 3 ≡ s → ltb (length (drop 3 xs)) (two xs 1) ≡ t → cond s None (cond t None (Some (record { tag = get_or xs 0 0; body = take (two xs 1) (drop 3 xs); rest = drop (two xs 1) (drop 3 xs) }))) ≡ Some f → (3 ≤ length xs) × (two xs 1 ≤ length (drop 3 xs)) × (record { tag = get_or xs 0 0; body = take (two xs 1) (drop 3 xs); rest = drop (two xs 1) (drop 3 xs) } ≡ f)
    go true t es et q = let z : ◌≡◌ {A = ℕ} 0 1 = cc in absurd (omega arith)
    go false true es et q = let z : ◌≡◌ {A = ℕ} 0 1 = cc in absurd (omega arith)
    go false false es et q = (ltb-false _ _ es, ltb-false _ _ et, cc)

pub cut-length : (xs : List ℕ) (f : Cut) → cut xs ≡ Some f → 3 + length f.body + length f.rest ≡ length xs
cut-length xs f e =
    let p = cut-some xs f e in
    subst (λ (g : Cut). 3 + length g.body + length g.rest ≡ length xs) p.2 (sized (two xs 1) p.0 p.1)
  where
    sized : (n : ℕ) → 3 ≤ length xs → n ≤ length (drop 3 xs) → 3 + length (take n (drop 3 xs)) + length (drop n (drop 3 xs)) ≡ length xs
    sized n long fits =
        let d = length-drop 3 xs in
        let t = length-take-le n (drop 3 xs) fits in
        let r = length-drop n (drop 3 xs) in
        omega arith

pub cut-none : (xs : List ℕ) → length xs < 3 → cut xs ≡ None
cut-none xs l = cond-true _ _ _ (lt-ltb (length xs) 3 l)
