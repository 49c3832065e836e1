-- When entries are alike.
use Rattle.std.specs.Prelude.{ℕ, Bool, true, false, ◌&&◌, ◌==◌}
use Rattle.entries.specs.declared.EntryKind.{EntryKind}
use Rattle.entries.specs.declared.EntryKind.TheVariants.{Byte, Char, Int, Local, Global, Text}
use Rattle.entries.specs.declared.Entry.{Entry}

-- a number of its own for each kind
abbrev pub rank_of : EntryKind → ℕ
rank_of Byte = 0
rank_of Char = 1
rank_of Int = 2
rank_of Local = 3
rank_of Global = 4
rank_of Text = 5

abbrev pub same_entry : Entry → Entry → Bool
same_entry a b = rank_of a.kind == rank_of b.kind && a.number == b.number

-- an address: an int counts as one, since an address may have been computed
abbrev pub address_kind : EntryKind → Bool
address_kind Byte = false
address_kind Char = false
address_kind Int = true
address_kind Local = true
address_kind Global = true
address_kind Text = false

abbrev pub is_address : Entry → Bool
is_address e = address_kind e.kind
