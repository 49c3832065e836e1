-- What the views of a package's bytes show.
use Rattle.std.specs.Prelude.{ℕ, List, map, take, Option, option_map}
use Rattle.declarations.specs.declared.procedures.ProcedureView.{ProcedureView}
use Rattle.declarations.specs.declared.marks.MarkView.{MarkView}
use Rattle.declarations.specs.declared.marks.Entries.{Entries}
use Rattle.declarations.specs.declared.procedures.Parameters.{Parameters}
use Rattle.entries.specs.declared.Kind.{Kind}
use Rattle.std.specs.Slice.Iter.{iter_rest}
use Rattle.entries.specs.declared.Entry.{Entry}
use Rattle.declarations.specs.Entries.{entry_in}
use Rattle.fields.specs.Fields.{bodies_in}
use Rattle.declarations.specs.Kinds.{kind_of}
use Rattle.declarations.specs.Procedures.{Procedure, procedure_of}
use Rattle.declarations.specs.Marks.{Mark, mark_of}

abbrev pub procedure_seen : ProcedureView → Procedure
procedure_seen p =
    record { offset = p.offset; locals = p.locals; depth = p.depth; result = p.result; parameters = map kind_of (take 8 p.kinds.now) }

abbrev pub mark_seen : MarkView → Mark
mark_seen m = record { offset = m.offset; entries = map entry_in m.entries.now }

abbrev pub procedure_found : Option ProcedureView → Option Procedure
procedure_found p = option_map procedure_seen p

abbrev pub mark_found : Option MarkView → Option Mark
mark_found m = option_map mark_seen m

-- the procedures whose fields stand in some bytes
abbrev pub procedures_in : List ℕ → List Procedure
procedures_in xs = map procedure_of (bodies_in xs)

-- the marks whose fields stand in some bytes
abbrev pub marks_in : List ℕ → List Mark
marks_in xs = map mark_of (bodies_in xs)

-- the entries of a mark that are left to go over
abbrev pub entries_left : Entries → List Entry
entries_left es = map entry_in (iter_rest es.rest)

-- the kinds of a procedure's parameters that are left to go over
abbrev pub parameters_left : Parameters → List Kind
parameters_left ks = map kind_of (iter_rest ks.rest)
