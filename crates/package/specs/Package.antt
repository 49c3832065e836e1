-- What a package holds: code, procedures and marks.
use Rattle.std.specs.Prelude.{ℕ, List, length}
use Rattle.declarations.specs.Procedures.{Procedure}
use Rattle.declarations.specs.Marks.{Mark}
use Rattle.package.specs.declared.counts.Counts.{Counts}

-- The first procedure is the program.
pub record Package : Type 0 where
  pub code : List ℕ
  pub procedures : List Procedure
  pub marks : List Mark

abbrev pub counts_of : Package → Counts
counts_of k = record { code = length k.code; procedures = length k.procedures; marks = length k.marks }
