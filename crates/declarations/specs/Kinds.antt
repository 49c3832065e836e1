-- The byte that names a kind is its size: 1 is byte, 2 char, 4 int.
use Rattle.std.specs.Prelude.{ℕ, Bool, true, false, cond, ◌||◌, List, [], ◌∷◌, Some, None, Option, is_some, unwrap_or, ◌==◌}
use Rattle.entries.specs.declared.Kind.{Kind}
use Rattle.entries.specs.declared.Kind.TheVariants.{Int}
use Rattle.entries.specs.Kinds.{sized_kind}
use Rattle.entries.specs.Sizes.{size_of}

abbrev pub is_kind : ℕ → Bool
is_kind b = is_some (sized_kind b)

-- the kind that a byte names, if it names one
abbrev pub kind_of : ℕ → Kind
kind_of b = unwrap_or (sized_kind b) Int

-- a result may be none, named by 0
abbrev pub result_byte : Option Kind → ℕ
result_byte None = 0
result_byte (Some k) = size_of k

abbrev pub is_result : ℕ → Bool
is_result b = b == 0 || is_kind b

abbrev pub result_of : ℕ → Option Kind
result_of b = cond (b == 0) None (Some (kind_of b))

-- whether each byte names a kind
unfoldable pub are_kinds : List ℕ → Bool
are_kinds [] = true
are_kinds (b ∷ bs) = cond (is_kind b) (are_kinds bs) false
