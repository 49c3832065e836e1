-- Stack entries: a kind byte and a two-byte number.
use Rattle.std.specs.Prelude.{◌≡◌, ℕ, ◌+◌, ◌%◌, ◌<◌, ◌≤◌, Bool, true, false, cond, ◌||◌, ◌⊎◌, List, [], ◌∷◌, ◌==◌, nat_le, nat_lt, slice_index, Some, Option, option_map, unwrap_or}
use Rattle.entries.specs.declared.EntryKind.{EntryKind}
use Rattle.entries.specs.declared.EntryKind.TheVariants.{Byte, Char, Int, Local, Global, Text}
use Rattle.entries.specs.declared.Entry.{Entry}
use Rattle.entries.specs.Kinds.{plain_kind, sized_kind}
use Rattle.fields.specs.Bytes.{two, two_bytes}
use Rattle.declarations.specs.Kinds.{is_kind}

-- the byte that names a kind of entry
abbrev pub entry_kind_byte : EntryKind → ℕ
entry_kind_byte Byte = 1
entry_kind_byte Char = 2
entry_kind_byte Int = 4
entry_kind_byte Local = 5
entry_kind_byte Global = 6
entry_kind_byte Text = 7

-- an entry as bytes: of a local's number, which is signed, the low two bytes
abbrev pub entry_bytes : Entry → List ℕ
entry_bytes e = entry_kind_byte e.kind ∷ two_bytes (e.number % 65536)

-- a number that an entry of the kind may have: 0 for a plain value; for a local any signed number of 16 bits, held in
-- 32 bits; for a global any of 16 bits; for a text 0 to 32 units
abbrev pub GoodNumber : EntryKind → ℕ → Type 0
GoodNumber Byte n = n ≡ 0
GoodNumber Char n = n ≡ 0
GoodNumber Int n = n ≡ 0
GoodNumber Local n = (n < 32768) ⊎ ((4294934528 ≤ n) × (n < 4294967296))
GoodNumber Global n = n < 65536
GoodNumber Text n = n ≤ 32

abbrev pub GoodEntry : Entry → Type 0
GoodEntry e = GoodNumber e.kind e.number

abbrev pub is_entry : ℕ → ℕ → Bool
is_entry b n =
    cond (is_kind b) (n == 0)
    (cond (b == 5 || b == 6) true (cond (b == 7) (nat_le n 32) false))

-- a signed number of 16 bits in 32 bits
abbrev pub sign_extended : ℕ → ℕ
sign_extended n = cond (nat_lt n 32768) n (n + 4294901760)

-- the kind of entry that a byte names, if it names one
abbrev pub entry_kind_of : ℕ → Option EntryKind
entry_kind_of b =
    cond (b == 5) (Some Local)
    (cond (b == 6) (Some Global) (cond (b == 7) (Some Text) (option_map plain_kind (sized_kind b))))

-- the number that 16 bits give an entry of a kind: a local's is signed
abbrev pub number_of : EntryKind → ℕ → ℕ
number_of Byte n = n
number_of Char n = n
number_of Int n = n
number_of Local n = sign_extended n
number_of Global n = n
number_of Text n = n

abbrev pub entry_with : EntryKind → ℕ → Entry
entry_with k n = record { kind = k; number = number_of k n }

-- the entry that a kind byte and a number make up, if they make up one
abbrev pub entry_of : ℕ → ℕ → Entry
entry_of b n = entry_with (unwrap_or (entry_kind_of b) Text) n

-- whether three bytes make up an entry, and which
abbrev pub is_entry_in : List ℕ → Bool
is_entry_in bs = is_entry (slice_index bs 0) (two bs 1)

abbrev pub entry_in : List ℕ → Entry
entry_in bs = entry_of (slice_index bs 0) (two bs 1)

-- whether the bytes list entries, three bytes each
unfoldable pub are_entries : List ℕ → Bool
are_entries [] = true
are_entries (b ∷ []) = true
are_entries (b ∷ h ∷ []) = true
are_entries (b ∷ h ∷ l ∷ xs) = cond (is_entry b (two (h ∷ l ∷ []) 0)) (are_entries xs) false
