-- The bytes that digits and groups of digits spell.
use Rattle.std.specs.Prelude.{◌≡◌, ℕ, zero, suc, ◌+◌, ◌-◌, ◌*◌, ◌^◌, ◌==◌, ◌&&◌, nat_le, nat_lt, Bool, if◌then◌else◌, List, [], ◌∷◌, ◌++◌, length, Option, Some, None, option_map, Result, Ok, Err, ⊤}
use Rattle.std.specs.List.{list_all, before_first, after_first, position_or_len}
use Rattle.std.specs.Char.{digit_value}
use Rattle.std.specs.Str.Parse.{digits_value, without_leading_plus}
use Rattle.case_table.specs.declared.error.CaseError.{CaseError}
use Rattle.case_table.specs.declared.error.CaseError.TheVariants.{NotACase, Alloc}

-- the second step, if the first gave a value
infixl 10 ◌>>=◌
abbrev pub ◌>>=◌ : {A B : Type 0} → Option A → (A → Option B) → Option B
Some x >>= f = f x
None >>= f = None

-- the value of a hexadecimal digit: `0` to `9` are 48 to 57, and the capitals `A` to `F` are 65 to 70
abbrev pub value_of : ℕ → Option ℕ
value_of c =
    if nat_le 48 c && nat_le c 57 then Some (c - 48)
    else if nat_le 65 c && nat_le c 70 then Some (c - 55)
    else None

-- the byte of two digits
abbrev pub byte_of : ℕ → ℕ → Option ℕ
byte_of high low = do
  h ← value_of high
  l ← value_of low
  Some (h * 16 + l)

-- the bytes that digits spell, two by two; an odd digit spells none
abbrev pub bytes_of_digits : List ℕ → Option (List ℕ)
bytes_of_digits [] = Some []
bytes_of_digits (digit ∷ []) = None
bytes_of_digits (high ∷ low ∷ rest) = do
  byte ← byte_of high low
  bytes ← bytes_of_digits rest
  Some (byte ∷ bytes)

-- the bytes that the digits spell, so many times; digits that stand no times are not looked at
abbrev pub repeated : ℕ → List ℕ → Option (List ℕ)
repeated zero digits = Some []
repeated (suc n) digits = do
  first ← bytes_of_digits digits
  others ← repeated n digits
  Some (first ++ others)

-- whether all are decimal digits, one or more
abbrev pub is_numeral : List ℕ → Bool
is_numeral ds = nat_lt 0 (length ds) && list_all (λ c. nat_lt (digit_value c) 10) ds

-- the number that a text writes as a `u16`, which a `+` may lead
abbrev pub count_of : List ℕ → Option ℕ
count_of text =
    let ds = without_leading_plus text in
    if is_numeral ds && nat_lt (digits_value 10 ds) (2 ^ 16) then Some (digits_value 10 ds) else None

-- the byte of `*`
abbrev pub star : ℕ
star = 42

-- the bytes of a group: its digits spell them as often as the count behind the first star says, and once where there is no star
abbrev pub bytes_of_group : List ℕ → Option (List ℕ)
bytes_of_group group =
    if position_or_len (λ b. b == star) group == length group then bytes_of_digits group
    else do
      count ← count_of (after_first (λ b. b == star) group)
      repeated count (before_first (λ b. b == star) group)

-- some bytes, and what is spelled behind them
abbrev pub behind : List ℕ → Option (List ℕ) → Option (List ℕ)
behind bytes spelled = option_map (λ more. bytes ++ more) spelled

-- what adding spelled bytes answers: they stand behind the others, or none are spelled; where memory runs out, nothing is said
abbrev pub Adds : Option (List ℕ) → List ℕ → List ℕ → Result Unit CaseError → Type 0
Adds spelled old new (Ok _) = behind old spelled ≡ Some new
Adds spelled old new (Err NotACase) = spelled ≡ None
Adds spelled old new (Err (Alloc _)) = ⊤
