-- The bytes that digits spell, by their pairs.
use Rattle.std.proofs.Common.{◌≡◌, ℕ, zero, suc, ◌+◌, ◌*◌, ◌%◌, List, [], ◌∷◌, ◌++◌, length, Option, Some, None, refl, sym, ap, append_assoc, arith, slice_index, get_or, drop, ◌<◌, add-one}
use Rattle.std.proofs.Math.Seq.{drop-cons}
use Rattle.std.specs.Simd.{first_chunks}
use Rattle.case_table.specs.Spelling.{◌>>=◌, byte_of, bytes_of_digits, behind}

-- the bytes of pairs of digits
abbrev pub bytes_of_pairs : List (List ℕ) → Option (List ℕ)
bytes_of_pairs [] = Some []
bytes_of_pairs (pair ∷ pairs) = do
  byte ← byte_of (slice_index pair 0) (slice_index pair 1)
  bytes ← bytes_of_pairs pairs
  Some (byte ∷ bytes)

-- digits that stand in pairs spell what the pairs do
pub bytes_of_digits-paired : (k : ℕ) (digits : List ℕ) → length digits ≡ 2 * k → bytes_of_digits digits ≡ bytes_of_pairs (first_chunks 2 k digits)
bytes_of_digits-paired zero [] even = refl
bytes_of_digits-paired zero (d ∷ rest) even = absurd (omega arith)
bytes_of_digits-paired (suc k) [] even = absurd (omega arith)
bytes_of_digits-paired (suc k) (d ∷ []) even = absurd (omega arith)
bytes_of_digits-paired (suc k) (high ∷ low ∷ rest) even = rw (bytes_of_digits-paired k rest (omega arith)) refl

then_none : {A B C : Type 0} (o : Option A) (f : A → B → Option C) → (o >>= λ a. None >>= f a) ≡ None
then_none (Some a) f = refl
then_none None f = refl

-- a digit too many spells nothing
pub bytes_of_digits-odd : (digits : List ℕ) → length digits % 2 ≡ 1 → bytes_of_digits digits ≡ None
bytes_of_digits-odd [] odd = absurd (omega arith)
bytes_of_digits-odd (d ∷ []) odd = refl
bytes_of_digits-odd (high ∷ low ∷ rest) odd = rw (bytes_of_digits-odd rest (omega arith)) (then_none (byte_of high low) (λ byte bytes. Some (byte ∷ bytes)))

-- a byte that is pushed stands behind the others
pub behind-push : (bytes : List ℕ) (byte : ℕ) (spelled : Option (List ℕ)) → behind (bytes ++ byte ∷ []) spelled ≡ behind bytes (spelled >>= λ more. Some (byte ∷ more))
behind-push bytes byte (Some more) = ap Some (append_assoc bytes (byte ∷ []) more)
behind-push bytes byte None = refl

-- what the pairs spell from the place i on: the byte of the pair there, and the others behind it
bytes_of_pairs-drop : (pairs : List (List ℕ)) (i : ℕ) → i < length pairs → bytes_of_pairs (drop i pairs) ≡ (byte_of (get_or (get_or pairs i []) 0 0) (get_or (get_or pairs i []) 1 0) >>= λ byte. bytes_of_pairs (drop (i + 1) pairs) >>= λ bytes. Some (byte ∷ bytes))
bytes_of_pairs-drop pairs i inside = rw add-one (ap bytes_of_pairs (drop-cons pairs i [] inside))

module _ (pairs : List (List ℕ)) (i : ℕ) (inside : i < length pairs) where
  pub behind-pair : (bytes new : List ℕ) (byte : ℕ) → byte_of (get_or (get_or pairs i []) 0 0) (get_or (get_or pairs i []) 1 0) ≡ Some byte → new ≡ bytes ++ byte ∷ []
      → behind bytes (bytes_of_pairs (drop i pairs)) ≡ behind new (bytes_of_pairs (drop (i + 1) pairs))
  behind-pair bytes new byte is pushed = rw (pushed, bytes_of_pairs-drop pairs i inside, is) (sym (behind-push bytes byte (bytes_of_pairs (drop (i + 1) pairs))))

  pub none-pair : byte_of (get_or (get_or pairs i []) 0 0) (get_or (get_or pairs i []) 1 0) ≡ None → bytes_of_pairs (drop i pairs) ≡ None
  none-pair is = rw (bytes_of_pairs-drop pairs i inside, is) refl
