-- The rows of a shape, as a stack.
use Rattle.std.proofs.Common.{◌≡◌, ℕ, suc, ◌+◌, ◌-◌, ◌<◌, ◌≤◌, List, [], ◌∷◌, ◌++◌, reverse, length, get_or, take, drop, replicate, set, refl, ap, sym, ◌∙◌, Some, arith}
use Rattle.std.proofs.lemmas.List.{take_more, take-set, take_more_set, reverse-append, drop-set, drop_more, drop-set-lt, drop-replicate, length-reverse, length-take-le, get_or-reverse}
use Rattle.std.proofs.lemmas.Option.{slice_get-get_or}
use Rattle.std.proofs.lemmas.List.Sorted.{sum_by-IsPermutation, IsPermutation-reverse}
use Rattle.std.specs.List.{slice_get, sum_by}
use Rattle.entries.specs.declared.Entry.{Entry}
use Rattle.entries.specs.Sizes.{entry_size}
use Rattle.shape.specs.declared.Shape.TheInside.{Inside}
use Rattle.shape.specs.Rows.{BlankBehind, entries_of}

reverse-push : {X : Type 0} (xs : List X) (x : X) → reverse (xs ++ x ∷ []) ≡ x ∷ reverse xs
reverse-push xs x = reverse-append xs (x ∷ [])

module _ {X : Type 0} (xs : List X) (n : ℕ) where
  pub rows_pushed : (x : X) → n < length xs → reverse (take (n + 1) (set xs n x)) ≡ x ∷ reverse (take n xs)
  rows_pushed x h = ap reverse (take_more_set xs n x h) ∙ reverse-push (take n xs) x

  pub rows-popped : (x d : X) → 0 < n → n ≤ length xs → reverse (take n xs) ≡ get_or xs (n - 1) d ∷ reverse (take (n - 1) (set xs (n - 1) x))
  rows-popped x d p h =
      let e : n ≡ n - 1 + 1 = omega arith in
      ap (λ k. reverse (take k xs)) e
      ∙ ap reverse (take_more xs (n - 1) d (omega arith))
      ∙ reverse-push (take (n - 1) xs) (get_or xs (n - 1) d)
      ∙ rw take-set refl

  -- rows behind the entries stay blank, where one is pushed and where one is popped
  pub blank_pushed : (w : ℕ) (x b : X) → length xs ≡ w → n < w → drop n xs ≡ replicate (w - n) b → drop (n + 1) (set xs n x) ≡ replicate (w - (n + 1)) b
  blank_pushed w x b l h e =
      let f : w - n - 1 ≡ w - (n + 1) = omega arith in
      drop-set-lt (n + 1) xs n x (omega arith)
      ∙ sym (ap (drop 1) (drop_more xs n b (omega arith)))
      ∙ ap (drop 1) e
      ∙ drop-replicate 1 (w - n) b
      ∙ ap (λ i. replicate i b) f

  pub blank-popped : (w : ℕ) (b : X) → length xs ≡ w → 0 < n → n ≤ w → drop n xs ≡ replicate (w - n) b → drop (n - 1) (set xs (n - 1) b) ≡ replicate (w - (n - 1)) b
  blank-popped w b l p h e =
      let g : n - 1 + 1 ≡ n = omega arith in
      let f : suc (w - n) ≡ w - (n - 1) = omega arith in
      drop-set xs (n - 1) b (omega arith) ∙ ap (λ i. b ∷ drop i xs) g ∙ ap (λ ys. b ∷ ys) e ∙ ap (λ i. replicate i b) f

-- how many entries the rows hold
pub entries-length : (s : Inside) → s.count ≤ 16 → length s.rows ≡ 16 → length (entries_of s) ≡ s.count
entries-length s f w = length-reverse (take s.count s.rows) ∙ length-take-le s.count s.rows (omega (arith, f, w))

pub stack-few : (s : Inside) → BlankBehind s → length (entries_of s) ≤ 16
stack-few s h = omega (arith, entries-length s h.few h.wide, h.few)

-- the last row is the top
pub top_row : {X : Type 0} (xs : List X) → slice_get xs (length xs - 1) ≡ slice_get (reverse xs) 0
top_row [] = refl
top_row (x ∷ xs) =
    let last : length (x ∷ xs) - 1 ≡ length (x ∷ xs) - 1 - 0 = omega arith in
    ap (slice_get (x ∷ xs)) last
    ∙ slice_get-get_or (x ∷ xs) (length (x ∷ xs) - 1 - 0) x (omega arith)
    ∙ ap Some (sym (get_or-reverse (x ∷ xs) 0 x (omega arith)))
    ∙ sym (slice_get-get_or (reverse (x ∷ xs)) 0 x (omega (arith, length-reverse (x ∷ xs))))

-- the entries take as many bytes in either order
pub size-reversed : (xs : List Entry) → sum_by entry_size (reverse xs) ≡ sum_by entry_size xs
size-reversed xs = sum_by-IsPermutation entry_size xs (reverse xs) (IsPermutation-reverse xs)
