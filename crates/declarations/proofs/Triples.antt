-- Entries stand in three bytes each.
use Rattle.std.proofs.Common.{◌≡◌, ℕ, suc, ◌/◌, Bool, false, cond, List, [], ◌∷◌, map, length, refl, ap, ◌∙◌, arith}
use Rattle.std.specs.List.{list_all}
use Rattle.std.specs.Simd.{first_chunks}
use Rattle.entries.specs.declared.Entry.{Entry}
use Rattle.declarations.specs.Entries.{are_entries, entry_in, is_entry_in}
use Rattle.declarations.specs.Marks.{entries_of}
use Rattle.declarations.proofs.Checks.{and-cond}

pub entries-length : (xs : List ℕ) → length (entries_of xs) ≡ length xs / 3
unfolding entries_of
entries-length [] = refl
entries-length (b ∷ []) = refl
entries-length (b ∷ h ∷ []) = refl
entries-length (b ∷ h ∷ l ∷ xs) = let e = entries-length xs in omega arith

triples : List ℕ → List (List ℕ)
triples xs = first_chunks 3 (length xs / 3) xs

triples-more : (b h l : ℕ) (xs : List ℕ) → triples (b ∷ h ∷ l ∷ xs) ≡ (b ∷ h ∷ l ∷ []) ∷ triples xs
unfolding triples
triples-more b h l xs =
    let e : length (b ∷ h ∷ l ∷ xs) / 3 ≡ suc (length xs / 3) = omega arith in
    ap (λ (n : ℕ). first_chunks 3 n (b ∷ h ∷ l ∷ xs)) e

pub entries-in : (xs : List ℕ) → map entry_in (first_chunks 3 (length xs / 3) xs) ≡ entries_of xs
unfolding entries_of triples
entries-in [] = refl
entries-in (b ∷ []) = refl
entries-in (b ∷ h ∷ []) = refl
entries-in (b ∷ h ∷ l ∷ xs) =
    ap (map entry_in) (triples-more b h l xs) ∙ ap (λ (es : List Entry). entry_in (b ∷ h ∷ l ∷ []) ∷ es) (entries-in xs)

pub entries-all : (xs : List ℕ) → list_all is_entry_in (first_chunks 3 (length xs / 3) xs) ≡ are_entries xs
unfolding are_entries triples
entries-all [] = refl
entries-all (b ∷ []) = refl
entries-all (b ∷ h ∷ []) = refl
entries-all (b ∷ h ∷ l ∷ xs) =
    let e = entries-all xs in
    ap (list_all is_entry_in) (triples-more b h l xs) ∙ and-cond (is_entry_in (b ∷ h ∷ l ∷ [])) _ ∙ ap (λ (t : Bool). cond (is_entry_in (b ∷ h ∷ l ∷ [])) t false) e
