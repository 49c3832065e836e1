-- The format: the bytes of a package, and which packages are valid.
use Rattle.std.specs.Prelude.{◌≡◌, ℕ, ◌<◌, ◌≤◌, List, [], ◌∷◌, ◌++◌, map, length, None, ◌≢◌}
use Rattle.std.specs.List.{flat_map, AllByRecursion}
use Rattle.fields.specs.Bytes.{two_bytes}
use Rattle.fields.specs.Fields.{field_bytes}
use Rattle.entries.specs.Sizes.{size_of}
use Rattle.declarations.specs.Kinds.{result_byte}
use Rattle.declarations.specs.Entries.{entry_bytes, GoodEntry}
use Rattle.declarations.specs.Procedures.{Procedure}
use Rattle.declarations.specs.Marks.{Mark}
use Rattle.package.specs.Package.{Package}

-- The code field has tag 1. There is none while there is no code: code has at least one byte.
abbrev pub code_field : List ℕ → List ℕ
code_field [] = []
code_field (b ∷ bs) = field_bytes 1 (b ∷ bs)

-- A procedure field has tag 2. It holds offset, locals and depth, two bytes each, then a byte for the result, one for
-- the number of parameters, and one for each parameter.
abbrev pub procedure_body : Procedure → List ℕ
procedure_body p =
    two_bytes p.offset ++ (two_bytes p.locals ++ (two_bytes p.depth ++ (result_byte p.result ∷ length p.parameters ∷ map size_of p.parameters)))

abbrev pub procedure_field : Procedure → List ℕ
procedure_field p = field_bytes 2 (procedure_body p)

-- A mark field has tag 3. It holds the offset, two bytes, then each entry, three bytes.
abbrev pub mark_body : Mark → List ℕ
mark_body m = two_bytes m.offset ++ flat_map entry_bytes m.entries

abbrev pub mark_field : Mark → List ℕ
mark_field m = field_bytes 3 (mark_body m)

-- The bytes of a package: the code, then the procedures, then the marks.
unfoldable pub encode : Package → List ℕ
encode k = code_field k.code ++ (flat_map procedure_field k.procedures ++ flat_map mark_field k.marks)

-- P of each element of a list, with those before it
unfoldable pub EachFrom : {A : Type 0} → (List A → A → Type 0) → List A → List A → Type 0
EachFrom P before [] = Unit {0}
EachFrom P before (x ∷ xs) = P before x × EachFrom P (before ++ (x ∷ [])) xs

abbrev pub EachAfter : {A : Type 0} → (List A → A → Type 0) → List A → Type 0
EachAfter P xs = EachFrom P [] xs

-- A procedure that may stand behind some others, in a package with that much code: it opens in the code, within the
-- limits; the first is the program, which opens the code and has neither result nor parameters; offsets rise.
pub record GoodProcedure (size : ℕ) (before : List Procedure) (p : Procedure) : Type 0 where
  pub inside : p.offset < size
  pub locals : p.locals ≤ 4096
  pub depth : p.depth ≤ 2000
  pub parameters : length p.parameters ≤ 8
  pub program : before ≡ [] → (p.offset ≡ 0) × (p.result ≡ None) × (p.parameters ≡ [])
  pub rises : AllByRecursion (λ q. q.offset < p.offset) before

-- A mark that may stand behind some others: it marks a place in the code, within the limits; no two share an offset.
pub record GoodMark (size : ℕ) (before : List Mark) (m : Mark) : Type 0 where
  pub inside : m.offset < size
  pub few : length m.entries ≤ 16
  pub entries : AllByRecursion GoodEntry m.entries
  pub alone : AllByRecursion (λ n. n.offset ≢ m.offset) before

-- Every field of the package is good after those before it. Fields may still be wanting.
pub record Sound (k : Package) : Type 0 where
  pub size : length k.code ≤ 8192
  pub procedures : EachAfter (GoodProcedure (length k.code)) k.procedures
  pub marks : EachAfter (GoodMark (length k.code)) k.marks

-- A valid package: every field is good, there are 1 to 64 procedures and at most 512 marks. (A procedure opens in the
-- code, so there is code too.)
pub record Valid (k : Package) : Type 0 where
  pub sound : Sound k
  pub some : 1 ≤ length k.procedures
  pub procedures : length k.procedures ≤ 64
  pub marks : length k.marks ≤ 512
