-- Marks.
use Rattle.std.specs.Prelude.{ℕ, cond, List, [], ◌∷◌, length, drop, Option, ◌==◌, nat_lt}
use Rattle.std.specs.List.{find}
use Rattle.entries.specs.declared.Entry.{Entry}
use Rattle.fields.specs.Bytes.{two}
use Rattle.declarations.specs.Entries.{entry_of}

-- A mark tells what the operand stack holds before the instruction at its offset, bottom first.
pub record Mark : Type 0 where
  pub offset : ℕ
  pub entries : List Entry

-- the entries that some bytes list, three bytes each
unfoldable pub entries_of : List ℕ → List Entry
entries_of [] = []
entries_of (b ∷ []) = []
entries_of (b ∷ h ∷ []) = []
entries_of (b ∷ h ∷ l ∷ xs) = entry_of b (two (h ∷ l ∷ []) 0) ∷ entries_of xs

-- the mark that a field's body holds
abbrev pub mark_of : List ℕ → Mark
mark_of body = cond (nat_lt (length body) 2) (record { offset = 0; entries = [] }) (record { offset = two body 0; entries = entries_of (drop 2 body) })

-- the mark at x
unfoldable pub mark_at : List Mark → ℕ → Option Mark
mark_at ms x = find (λ m. m.offset == x) ms
