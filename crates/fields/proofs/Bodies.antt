-- Fields that stand one behind another.
use Rattle.std.proofs.Common.{◌≡◌, ℕ, zero, suc, ◌≤◌, List, [], ◌∷◌, map, length, Some, None, Option, sym, refl, ap, ◌∙◌, arith}
use Rattle.fields.specs.Fields.{cut, Cut, fields_by, fields_up_to, fields_in, bodies_in}
use Rattle.fields.proofs.Cuts.{cut-length, cut-none}

fields-turn : (n : ℕ) (xs : List ℕ) (o : Option Cut) → cut xs ≡ o → fields_up_to (suc n) xs ≡ fields_by (fields_up_to n) o
unfolding fields_up_to
fields-turn n xs o e = ap (fields_by (fields_up_to n)) e

-- any number that is enough gives the same
fields-agree : (n m : ℕ) (xs : List ℕ) (o : Option Cut) → cut xs ≡ o → length xs ≤ n → length xs ≤ m → fields_up_to n xs ≡ fields_up_to m xs
unfolding fields_up_to
fields-agree zero zero xs o e l k = refl
fields-agree zero (suc m) xs o e l k = sym (fields-turn m xs None (cut-none xs (omega arith)))
fields-agree (suc n) zero xs o e l k = fields-turn n xs None (cut-none xs (omega arith))
fields-agree (suc n) (suc m) xs None e l k = fields-turn n xs None e ∙ sym (fields-turn m xs None e)
fields-agree (suc n) (suc m) xs (Some f) e l k =
    let s = cut-length xs f e in
    fields-turn n xs (Some f) e
    ∙ ap (λ (fs : List Cut). f ∷ fs) (fields-agree n m f.rest (cut f.rest) refl (omega arith) (omega arith))
    ∙ sym (fields-turn m xs (Some f) e)

module _ (xs : List ℕ) where
  pub fields-end : cut xs ≡ None → fields_in xs ≡ []
  unfolding fields_in
  fields-end e =
      fields-agree (length xs) (suc (length xs)) xs None e (omega arith) (omega arith) ∙ fields-turn (length xs) xs None e

  pub fields-more : (f : Cut) → cut xs ≡ Some f → fields_in xs ≡ f ∷ fields_in f.rest
  unfolding fields_in
  fields-more f e =
      let s = cut-length xs f e in
      fields-agree (length xs) (suc (length xs)) xs (Some f) e (omega arith) (omega arith)
      ∙ fields-turn (length xs) xs (Some f) e
      ∙ ap (λ (fs : List Cut). f ∷ fs) (fields-agree (length xs) (length f.rest) f.rest (cut f.rest) refl (omega arith) (omega arith))

  pub bodies-end : cut xs ≡ None → bodies_in xs ≡ []
  bodies-end e = ap (map (λ (f : Cut). f.body)) (fields-end e)

  pub bodies-more : (f : Cut) → cut xs ≡ Some f → bodies_in xs ≡ f.body ∷ bodies_in f.rest
  bodies-more f e = ap (map (λ (g : Cut). g.body)) (fields-more f e)

few-up-to : (n : ℕ) (xs : List ℕ) (o : Option Cut) → cut xs ≡ o → length (fields_up_to n xs) ≤ n
unfolding fields_up_to
few-up-to zero xs o e = omega arith
few-up-to (suc n) xs None e = rw (fields-turn n xs None e) (omega arith)
few-up-to (suc n) xs (Some f) e = let l = few-up-to n f.rest (cut f.rest) refl in rw (fields-turn n xs (Some f) e) (omega arith)

-- no more fields than bytes
pub fields-few : (xs : List ℕ) → length (fields_in xs) ≤ length xs
unfolding fields_in
fields-few xs = few-up-to (length xs) xs (cut xs) refl
