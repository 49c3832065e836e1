-- Kinds: the number that tells one, and the entry of its values.
use Rattle.std.specs.Prelude.{ℕ, cond, Some, None, Option, ◌==◌}
use Rattle.entries.specs.declared.Kind.{Kind}
use Rattle.entries.specs.declared.Kind.TheVariants.{Byte, Char, Int}
use Rattle.entries.specs.declared.EntryKind.{EntryKind}
use Rattle.entries.specs.declared.EntryKind.TheVariants as entry
use Rattle.entries.specs.declared.Entry.{Entry}

-- the kind with a size
abbrev pub sized_kind : ℕ → Option Kind
sized_kind n = cond (n == 1) (Some Byte) (cond (n == 2) (Some Char) (cond (n == 4) (Some Int) None))

-- what an entry is that holds a plain value
abbrev pub plain_kind : Kind → EntryKind
plain_kind Byte = entry.Byte
plain_kind Char = entry.Char
plain_kind Int = entry.Int

-- the entry of a plain value
abbrev pub plain_entry : Kind → Entry
plain_entry k = record { kind = plain_kind k; number = 0 }
