-- Facts about lists and iterators that the library lacks.
use Rattle.std.proofs.Common.{◌≡◌, List, [], ◌∷◌, map, Some, None, Option, refl, sym, ap, ◌∙◌}
use Rattle.std.specs.List.{last_or}
use Rattle.std.specs.Iterator.{Drains}
use Rattle.std.specs.Option.{option_map, unwrap_or}
use Rattle.std.proofs.lemmas.Iterator.{YieldsList, items_from_drains}

module _ {A B : Type 0} (v : A → B) where
  pub last_or-map : (o : Option A) (xs : List A) → option_map v (last_or o xs) ≡ last_or (option_map v o) (map v xs)
  last_or-map o [] = refl
  last_or-map o (x ∷ xs) = last_or-map (Some x) xs

-- what `last` answers over a list that an iterator yields
pub last_from_yields_List : {S A B : Type 0} {steps : S → Option A → S → Type 0} {v : A → B} {s : S} {all : List B} (r : Option A) → ((xs : List A) × Drains steps s xs × (r ≡ last_or None xs)) → YieldsList steps v s all → option_map v r ≡ last_or None all
last_from_yields_List {v = v} {all = all} r (xs, d, e) y =
    ap (option_map v) e ∙ last_or-map v None xs ∙ ap (last_or None) (items_from_drains xs (d.1.0, d.1.1, λ _. (d.0, d.1.2)) y)

-- the last of some that stand behind another one
pub unwrap_or-last : {A : Type 0} (a b : A) (xs : List A) → unwrap_or (last_or (Some a) xs) b ≡ unwrap_or (last_or None xs) a
unwrap_or-last a b [] = refl
unwrap_or-last a b (x ∷ xs) = unwrap_or-last x b xs ∙ sym (unwrap_or-last x a xs)

pub unwrap_or-map : {A B : Type 0} (v : A → B) (o : Option A) (d : A) → v (unwrap_or o d) ≡ unwrap_or (option_map v o) (v d)
unwrap_or-map v None d = refl
unwrap_or-map v (Some x) d = refl
