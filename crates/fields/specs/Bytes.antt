-- Numbers of two bytes stand high byte first.
use Rattle.std.specs.Prelude.{ℕ, ◌+◌, ◌*◌, ◌/◌, ◌%◌, List, [], ◌∷◌, slice_index}

-- the two-byte number at a place
abbrev pub two : List ℕ → ℕ → ℕ
two xs at = slice_index xs at * 256 + slice_index xs (at + 1)

-- the two bytes of a number
abbrev pub two_bytes : ℕ → List ℕ
two_bytes n = n / 256 ∷ n % 256 ∷ []
