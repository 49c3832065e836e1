-- What reading answers.
use Rattle.std.specs.Prelude.{◌≡◌, ℕ, zero, suc, ◌+◌, ◌<◌, ◌≤◌, true, false, cond, List, [], ◌∷◌, ◌++◌, length, Some, None, Ok, Err, Option, Result, ◌==◌, ◌≢◌}
use Rattle.package.specs.declared.faults.ReadFault.{ReadFault}
use Rattle.package.specs.declared.faults.ReadFault.TheVariants.{PastEnd, WrongTag, WrongLength, WrongContent, WrongCount}
use Rattle.fields.specs.Fields.{cut, Cut}
use Rattle.package.specs.Format.{encode, Sound, Valid}
use Rattle.declarations.specs.Procedures.{procedure_of}
use Rattle.declarations.specs.Marks.{Mark, mark_of}
use Rattle.package.specs.Package.{Package}
use Rattle.package.specs.Rules.{misplaced, misshapen, unfit, miscounted, last_offset, broken}

-- the number of each refusal
abbrev pub number : ReadFault → ℕ
number (PastEnd _) = 1
number (WrongTag _) = 2
number (WrongLength _) = 3
number (WrongContent _) = 4
number (WrongCount _) = 5

-- its place: where the bad field begins, counted in bytes from the first; of a wrong count, how many bytes there are
abbrev pub place : ReadFault → ℕ
place (PastEnd p) = p
place (WrongTag p) = p
place (WrongLength p) = p
place (WrongContent p) = p
place (WrongCount p) = p

-- the field at a place if it is good, or else its first fault
abbrev pub judged : ℕ → ℕ → ℕ → ℕ → List Mark → ℕ → Option Cut → Result Cut ReadFault
judged size count last marked marks p None = Err (PastEnd p)
judged size count last marked marks p (Some f) =
    cond (misplaced size marked f.tag) (Err (WrongTag p))
    (cond (misshapen f.tag f.body) (Err (WrongLength p))
    (cond (unfit size count last marks f.tag f.body) (Err (WrongContent p)) (Ok f)))

abbrev pub field_after : Package → ℕ → List ℕ → Result Cut ReadFault
field_after k p rest =
    judged (length k.code) (length k.procedures) (last_offset k.procedures) (length k.marks) k.marks p (cut rest)

-- no field yet
abbrev pub nothing : Package
nothing = record { code = []; procedures = []; marks = [] }

-- what the fields hold with one more
abbrev pub including : Package → Cut → Package
including k f =
    cond (f.tag == 1) (record { code = f.body; procedures = k.procedures; marks = k.marks })
    (cond (f.tag == 2) (record { code = k.code; procedures = k.procedures ++ (procedure_of f.body ∷ []); marks = k.marks })
    (record { code = k.code; procedures = k.procedures; marks = k.marks ++ (mark_of f.body ∷ []) }))

-- after the last field
abbrev pub ended : ℕ → Package → Result Package ReadFault
ended p k = cond (miscounted (length k.procedures) (length k.marks)) (Err (WrongCount p)) (Ok k)

abbrev pub onward : (ℕ → Package → List ℕ → Result Package ReadFault) → ℕ → Package → Result Cut ReadFault → Result Package ReadFault
onward go p k (Err e) = Err e
onward go p k (Ok f) = go (p + (3 + length f.body)) (including k f) f.rest

abbrev pub turned : (ℕ → Package → List ℕ → Result Package ReadFault) → ℕ → Package → List ℕ → Result Package ReadFault
turned go p k [] = ended p k
turned go p k (b ∷ bs) = onward go p k (field_after k p (b ∷ bs))

-- the answer from a place on, where the fields before it hold k; at most n fields are looked at
unfoldable pub read_from : ℕ → ℕ → Package → List ℕ → Result Package ReadFault
read_from zero p k rest = ended p k
read_from (suc n) p k rest = turned (read_from n) p k rest

-- The answer of reading: the package, or the first fault.
unfoldable pub reading : List ℕ → Result Package ReadFault
reading xs = read_from (suc (length xs)) 0 nothing xs

-- Accepts exactly: where the answer is a package, it is valid, the bytes encode it, and they encode no other valid
-- package; where it is a refusal, they encode no valid package.
pub record Accepted (xs : List ℕ) (k : Package) : Type 0 where
  pub valid : Valid k
  pub encoded : encode k ≡ xs
  pub only : (j : Package) → Valid j → encode j ≡ xs → j ≡ k

abbrev pub AcceptsExactly : List ℕ → Result Package ReadFault → Type 0
AcceptsExactly xs (Ok k) = Accepted xs k
AcceptsExactly xs (Err e) = (j : Package) → Valid j → encode j ≢ xs

-- Refuses the first bad field: the bytes before the place are fields that are good, each after those before it; there
-- the sentence with the number holds, and none with a lower number. No longer front of the bytes is made of good fields.
pub record Refused (xs : List ℕ) (e : ReadFault) : Type 0 where
  pub before : Package
  pub rest : List ℕ
  pub good : Sound before
  pub split : xs ≡ encode before ++ rest
  pub at : place e ≡ length (encode before)
  pub holds : broken (number e) before rest ≡ true
  pub lowest : (n : ℕ) → n < number e → broken n before rest ≡ false
  pub longest : (j : Package) (ys : List ℕ) → Sound j → xs ≡ encode j ++ ys → length (encode j) ≤ place e

abbrev pub RefusesFirst : List ℕ → Result Package ReadFault → Type 0
RefusesFirst xs (Ok k) = Unit {0}
RefusesFirst xs (Err e) = Refused xs e
