-- Answers of reading and clearing, case by case.
use Rattle.std.specs.Prelude.{◌≡◌, ℕ, List, [], ◌∷◌, Ok, Err, Result}
use Rattle.package.specs.declared.faults.ReadFault.{ReadFault}
use Rattle.package.specs.Package.{Package}
use Rattle.package.specs.Reading as read
use Rattle.verdict.specs.declared.ClearFault.{ClearFault}
use Rattle.verdict.specs.Numbers as clear
use Rattle.verdict.specs.Answers.{clearing}

-- what is said of bytes: cleared, or refused with a number at a place
abbrev pub Said : Type 0
Said = Result (Unit {0}) (ℕ × ℕ)

abbrev pub cleared : Said
cleared = Ok tt

abbrev pub refused : ℕ → ℕ → Said
refused number place = Err (number, place)

abbrev pub said_of_clearing : Result Package ClearFault → Said
said_of_clearing (Ok k) = cleared
said_of_clearing (Err e) = refused (clear.number e) (clear.place e)

abbrev pub said_of_reading : Result Package ReadFault → Said
said_of_reading (Ok k) = said_of_clearing (clearing k 8192)
said_of_reading (Err e) = refused (read.number e) (read.place e)

-- with 8,192 bytes of work area
abbrev pub said : List ℕ → Said
said xs = said_of_reading (read.reading xs)

-- The sample: it writes "HI", a line feed, and -7 DIV 2. Its depth, the count of units that it writes, and its last
-- instruction may be others than 8, 2 and HALT.
abbrev pub sample : ℕ → ℕ → ℕ → List ℕ
sample depth count last =
    1 ∷ 0 ∷ 33
    ∷ 90 ∷ 0 ∷ 0 ∷ 0 ∷ 0
    ∷ 27 ∷ 0 ∷ 0 ∷ 0 ∷ 2 ∷ 0 ∷ 72 ∷ 0 ∷ 73
    ∷ 87 ∷ 0 ∷ 0 ∷ 0 ∷ count
    ∷ 86
    ∷ 24 ∷ 255 ∷ 255 ∷ 255 ∷ 249
    ∷ 24 ∷ 0 ∷ 0 ∷ 0 ∷ 2
    ∷ 73
    ∷ 85
    ∷ last
    ∷ 2 ∷ 0 ∷ 8 ∷ 0 ∷ 0 ∷ 0 ∷ 0 ∷ 0 ∷ depth ∷ 0 ∷ 0
    ∷ []

-- A program that halts, and at 6 a procedure with 4 bytes of locals and an int parameter. It takes the address of local
-- k at 11, loads the word there at 16, writes it, and returns.
abbrev pub loading : ℕ → List ℕ
loading k =
    1 ∷ 0 ∷ 19
    ∷ 90 ∷ 0 ∷ 0 ∷ 0 ∷ 0
    ∷ 0
    ∷ 91 ∷ 0 ∷ 0 ∷ 0 ∷ 4
    ∷ 28 ∷ 0 ∷ 0 ∷ 0 ∷ k
    ∷ 12
    ∷ 85
    ∷ 95
    ∷ 2 ∷ 0 ∷ 8 ∷ 0 ∷ 0 ∷ 0 ∷ 0 ∷ 0 ∷ 0 ∷ 0 ∷ 0
    ∷ 2 ∷ 0 ∷ 9 ∷ 0 ∷ 6 ∷ 0 ∷ 4 ∷ 0 ∷ 4 ∷ 0 ∷ 1 ∷ 4
    ∷ []

pub record WorkedCases : Type 0 where
  pub no_bytes : said [] ≡ refused 5 0
  pub sample_clears : said (sample 8 2 0) ≡ cleared
  pub depth_of_7 : said (sample 7 2 0) ≡ refused 14 5
  pub text_of_3 : said (sample 8 3 0) ≡ refused 12 14
  pub last_byte_1 : said (sample 8 2 1) ≡ refused 7 32
  pub local_8 : said (loading 8) ≡ cleared
  pub local_9 : said (loading 9) ≡ refused 13 16
  pub local_12 : said (loading 12) ≡ refused 13 11
