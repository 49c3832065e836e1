-- The bytes that the words of a text spell.
use Rattle.std.specs.Prelude.{◌≡◌, ℕ, List, [], ◌∷◌, ◌++◌, map, Option, Some, None}
use Rattle.std.specs.Borrow.{Bor}
use Rattle.std.specs.Iterator.{Drains, Yields}
use Rattle.std.specs.Str.Iter.{split_whitespace_rest, split_whitespace_steps}
use Rattle.std.specs.declared.str.SplitWhitespace.{SplitWhitespace}
use Rattle.case_table.specs.Spelling.{◌>>=◌, bytes_of_group}

-- the bytes of groups, one behind another
abbrev pub bytes_of_groups : List (List ℕ) → Option (List ℕ)
bytes_of_groups [] = Some []
bytes_of_groups (group ∷ groups) = do
  first ← bytes_of_group group
  others ← bytes_of_groups groups
  Some (first ++ others)

-- the bytes of words that are borrowed
abbrev pub bytes_of_words : List (Bor (List ℕ)) → Option (List ℕ)
bytes_of_words words = bytes_of_groups (map (λ word. word.now) words)

-- the words of the text spell these bytes
pub record Spells (text bytes : List ℕ) : Type 0 where
  pub start : SplitWhitespace
  pub whole : split_whitespace_rest start ≡ text
  pub words : List (Bor (List ℕ))
  pub all : Drains split_whitespace_steps start words
  pub spelled : bytes_of_words words ≡ Some bytes

-- one of the first words of the text spells no bytes
pub record HasNoCase (text : List ℕ) : Type 0 where
  pub start : SplitWhitespace
  pub whole : split_whitespace_rest start ≡ text
  pub words : List (Bor (List ℕ))
  pub rest : SplitWhitespace
  pub some : Yields split_whitespace_steps start words rest
  pub spelled : bytes_of_words words ≡ None
