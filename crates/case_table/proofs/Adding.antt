-- What adding spelled bytes answers.
use Rattle.std.proofs.Common.{◌≡◌, ℕ, List, Option, Some, None, Result, Ok, Err, IsErrAnd, sym, refl}
use Rattle.case_table.specs.Spelling.{behind, Adds}
use Rattle.case_table.specs.declared.error.CaseError.{CaseError}
use Rattle.case_table.specs.declared.error.CaseError.TheVariants.{NotACase, Alloc}

-- an error that is passed on: where it says that there is no case, none are spelled
pub Adds-passed : {spelled : Option (List ℕ)} (old new : List ℕ) (r : Result Unit CaseError) (e : CaseError) → IsErrAnd r (λ x. x ≡ e) → (e ≡ NotACase → spelled ≡ None) → Adds spelled old new r
Adds-passed old new (Ok u) e bad none = absurd bad
Adds-passed old new (Err NotACase) e is none = none (sym is)
Adds-passed old new (Err (Alloc a)) e is none = tt

-- what is behind some bytes is none only if none is spelled
pub none_behind : (old : List ℕ) (spelled : Option (List ℕ)) → behind old spelled ≡ None → spelled ≡ None
none_behind old (Some more) is = cc
none_behind old None is = refl
