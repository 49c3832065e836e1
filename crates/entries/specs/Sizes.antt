-- How many bytes values take.
use Rattle.std.specs.Prelude.{ℕ, ◌+◌, ◌*◌}
use Rattle.entries.specs.declared.Kind.{Kind}
use Rattle.entries.specs.declared.Kind.TheVariants.{Byte, Char, Int}
use Rattle.entries.specs.declared.EntryKind.{EntryKind}
use Rattle.entries.specs.declared.EntryKind.TheVariants as entry
use Rattle.entries.specs.declared.Entry.{Entry}

abbrev pub size_of : Kind → ℕ
size_of Byte = 1
size_of Char = 2
size_of Int = 4

-- addresses take 4 bytes; a text takes 4 for its length, and 2 for each unit
abbrev pub size_with : EntryKind → ℕ → ℕ
size_with entry.Byte n = 1
size_with entry.Char n = 2
size_with entry.Int n = 4
size_with entry.Local n = 4
size_with entry.Global n = 4
size_with entry.Text n = 4 + 2 * n

abbrev pub entry_size : Entry → ℕ
entry_size e = size_with e.kind e.number
