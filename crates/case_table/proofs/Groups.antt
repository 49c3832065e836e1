-- The bytes that a group spells, from its digits and its count.
use Rattle.std.proofs.Common.{◌≡◌, ℕ, suc, ◌^◌, ◌<◌, ◌==◌, ◌&&◌, Bool, true, false, List, [], ◌∷◌, ◌++◌, length, Option, Some, None, Result, Ok, Err, refl, sym, ap, append_assoc, append-nil, arith, nat_lt, if◌then◌else◌, eq-eqb}
use Rattle.std.specs.Bool.{Decides}
use Rattle.std.specs.List.{list_all, position_or_len}
use Rattle.std.specs.Result.{result_ok}
use Rattle.std.specs.Char.{digit_value}
use Rattle.std.specs.Str.Parse.{AllDigits, IsNumeral, ParsesUnsigned, digits_value, without_leading_plus}
use Rattle.std.proofs.lemmas.Bool.Decides.{Decides-and, Decides-ltb, nat_tests}
use Rattle.case_table.specs.Spelling.{◌>>=◌, bytes_of_digits, repeated, is_numeral, count_of, star, bytes_of_group, behind}
use Rattle.case_table.proofs.Cut.{IsCut}

-- the tests of `count_of` decide what `parse` asks for
Decides-all_digits : (ds : List ℕ) → Decides (list_all (λ c. nat_lt (digit_value c) 10) ds) (AllDigits 10 ds)
Decides-all_digits [] = (λ _. tt, λ _. refl)
Decides-all_digits (d ∷ ds) = Decides-and _ _ (Decides-ltb (digit_value d) 10) (Decides-all_digits ds)

Decides-fits : (ds : List ℕ) → Decides (is_numeral ds && nat_lt (digits_value 10 ds) (2 ^ 16)) (IsNumeral 10 ds × (digits_value 10 ds < 2 ^ 16))
Decides-fits ds = Decides-and _ _ (Decides-and _ _ (Decides-ltb 0 (length ds)) (Decides-all_digits ds)) (Decides-ltb (digits_value 10 ds) (2 ^ 16))

none_unless : (b : Bool) (n : ℕ) → ¬ (b ≡ true) → (if b then Some n else None) ≡ None
none_unless true n unmet = absurd (unmet refl)
none_unless false n unmet = refl

-- what `parse` reads is the count
pub count_of-parsed : {E : Type 0} (text : List ℕ) (r : Result ℕ E) → ParsesUnsigned 16 10 text r → count_of text ≡ result_ok r
count_of-parsed text (Ok n) (fits, is) = rw ((Decides-fits (without_leading_plus text)).1 fits) (ap Some (sym is))
count_of-parsed text (Err e) unfit = none_unless _ _ (λ h. unfit ((Decides-fits (without_leading_plus text)).0 h))

-- a group that is cut at its first star
pub bytes_of_group-cut : (group digits count : List ℕ) → IsCut star group digits count → bytes_of_group group ≡ (count_of count >>= λ n. repeated n digits)
bytes_of_group-cut group digits count k =
    let has_star : (position_or_len (λ b. b == star) group == length group) ≡ false = grind (arith, nat_tests, k.inside) in
    rw (has_star, k.front_is, k.back_is) refl

once : (spelled : Option (List ℕ)) → (spelled >>= λ first. Some [] >>= λ others. Some (first ++ others)) ≡ spelled
once (Some first) = ap Some (append-nil first)
once None = refl

-- a group with no star
pub bytes_of_group-plain : (group : List ℕ) → position_or_len (λ b. b == star) group ≡ length group → bytes_of_group group ≡ repeated 1 group
bytes_of_group-plain group is = rw (eq-eqb _ _ is) (sym (once (bytes_of_digits group)))

once_more : (spelled others : Option (List ℕ)) (bytes new : List ℕ) → behind bytes spelled ≡ Some new → behind bytes (spelled >>= λ first. others >>= λ more. Some (first ++ more)) ≡ behind new others
once_more (Some first) (Some more) bytes new is = cc (append_assoc bytes first more)
once_more (Some first) None bytes new is = refl
once_more None others bytes new is = cc

module _ (n m : ℕ) (is : n ≡ suc m) (digits : List ℕ) where
  -- the digits are added once, and are to be added once less
  pub behind-repeated : (bytes new : List ℕ) → behind bytes (bytes_of_digits digits) ≡ Some new → behind bytes (repeated n digits) ≡ behind new (repeated m digits)
  behind-repeated bytes new added = rw is (once_more (bytes_of_digits digits) (repeated m digits) bytes new added)

  pub none-repeated : bytes_of_digits digits ≡ None → repeated n digits ≡ None
  none-repeated none = rw (is, none) refl
