-- What errors print.
use Rattle.std.specs.Prelude.{ℕ, List, codes}
use Rattle.case_table.specs.declared.error.CaseError.{CaseError}
use Rattle.case_table.specs.declared.error.CaseError.TheVariants.{NotACase, Alloc}

abbrev pub error_text : CaseError → List ℕ
error_text NotACase = codes "no case"
error_text (Alloc error) = codes "out of memory"
