-- The tests of bytes that stand one behind another are std's `all`.
use Rattle.std.proofs.Common.{◌≡◌, ℕ, ◌<◌, Bool, true, false, cond, ◌&&◌, List, [], ◌∷◌, length, refl, ap, ◌∙◌, arith}
use Rattle.std.specs.List.{list_all}
use Rattle.declarations.specs.Kinds.{is_kind, are_kinds}
use Rattle.declarations.specs.Entries.{are_entries}

pub and-cond : (s t : Bool) → (s && t) ≡ cond s t false
and-cond true t = refl
and-cond false t = refl

pub kinds-all : (bs : List ℕ) → list_all is_kind bs ≡ are_kinds bs
unfolding are_kinds
kinds-all [] = refl
kinds-all (b ∷ bs) = and-cond (is_kind b) _ ∙ ap (λ (t : Bool). cond (is_kind b) t false) (kinds-all bs)

-- bytes that are too few for an entry list none
pub entries_none : (xs : List ℕ) → length xs < 3 → are_entries xs ≡ true
unfolding are_entries
entries_none [] l = refl
entries_none (b ∷ []) l = refl
entries_none (b ∷ h ∷ []) l = refl
entries_none (b ∷ h ∷ k ∷ xs) l = absurd (omega arith)
