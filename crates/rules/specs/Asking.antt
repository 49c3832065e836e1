-- What the rules ask a package for.
use Rattle.std.specs.Prelude.{ℕ, Bool, ◌&&◌, List, reverse, length, take, Option, ◌==◌, nat_lt}
use Rattle.std.specs.Option.{option_map}
use Rattle.entries.specs.declared.Entry.{Entry}
use Rattle.declarations.specs.Marks.{Mark, mark_at}
use Rattle.declarations.specs.Procedures.{Procedure, owner_of, program_of}
use Rattle.package.specs.Package.{Package}

-- the procedure that owns x
abbrev pub procedure_at : Package → ℕ → Procedure
procedure_at k x = owner_of k.procedures x

-- whether a procedure opens at x: then it owns x
abbrev pub opens_at : Package → ℕ → Bool
opens_at k x = (procedure_at k x).offset == x

-- whether x lies in the code of a procedure
abbrev pub inside_of : Package → Procedure → ℕ → Bool
inside_of k p x = nat_lt x (length k.code) && (procedure_at k x).offset == p.offset

abbrev pub is_program : Procedure → Bool
is_program p = p.offset == 0

-- the bytes of the globals
abbrev pub globals_size : Package → ℕ
globals_size k = (program_of k.procedures).locals

-- the shape that a mark tells, the top first: a shape has at most 16 entries, as has each mark that reading answers
abbrev pub shape_of : Mark → List Entry
shape_of m = reverse (take 16 m.entries)

abbrev pub mark_shape : Package → ℕ → Option (List Entry)
mark_shape k x = option_map shape_of (mark_at k.marks x)
