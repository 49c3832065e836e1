-- Shapes are the same exactly when they are equal.
use Rattle.std.proofs.Common.{◌≡◌, Bool, true, false, List, reverse, refl, ap, sym, ◌∙◌}
use Rattle.std.proofs.lemmas.Bool.{false_from_ne_true}
use Rattle.std.proofs.lemmas.Bool.Decides.{Decides-at, Decides-like, same_from_decides}
use Rattle.std.proofs.lemmas.List.{reverse-reverse}
use Rattle.std.proofs.lemmas.Slice.Eq.{slice_eq-Decides}
use Rattle.std.specs.Bool.{Decides}
use Rattle.std.specs.Cmp.Lexicographic.{pointwise}
use Rattle.entries.specs.declared.Entry.{Entry}
use Rattle.entries.specs.Alike.{same_entry}
use Rattle.entries.proofs.Same.{entry-is, entry-same}
use Rattle.shape.specs.Shapes.{same_shape}

same_entry-decides : (a b : Entry) → Decides (same_entry a b) (a ≡ b)
same_entry-decides a b = (entry-is a b, λ e. ap (same_entry a) (sym e) ∙ entry-same a)

same_shape-decides : (σ τ : List Entry) → Decides (same_shape σ τ) (σ ≡ τ)
unfolding same_shape
same_shape-decides σ τ = slice_eq-Decides same_entry-decides σ τ _ refl

pub shape_is : (σ τ : List Entry) → same_shape σ τ ≡ true → σ ≡ τ
shape_is σ τ = (same_shape-decides σ τ).0

pub shape_same : (σ : List Entry) → same_shape σ σ ≡ true
shape_same σ = (same_shape-decides σ σ).1 refl

pub shape_differs : (σ τ : List Entry) → (σ ≡ τ → ⊥) → same_shape σ τ ≡ false
shape_differs σ τ n = false_from_ne_true (same_shape σ τ) (λ e. n (shape_is σ τ e))

-- comparing the rows compares the stacks
pub rows-same : (E : Entry → Entry → Bool) → ((a b : Entry) → E a b ≡ same_entry a b) → (xs ys : List Entry) → pointwise E xs ys ≡ same_shape (reverse xs) (reverse ys)
rows-same E each xs ys =
    same_from_decides _ _
    (Decides-like _ (ap reverse) (λ e. sym (reverse-reverse xs) ∙ ap reverse e ∙ reverse-reverse ys)
    (slice_eq-Decides (λ a b. Decides-at _ _ (each a b) (same_entry-decides a b)) xs ys _ refl))
    (same_shape-decides (reverse xs) (reverse ys))
