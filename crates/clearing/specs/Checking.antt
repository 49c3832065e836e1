-- What checking bytes answers and leaves: reading, and then clearing.
use Rattle.std.specs.Prelude.{ℕ, List, length, Ok, Err, Result}
use Rattle.package.specs.declared.faults.ReadFault.{ReadFault}
use Rattle.package.specs.Package.{Package}
use Rattle.package.specs.Printing.{refusal_text}
use Rattle.package.specs.Reading as read
use Rattle.verdict.specs.declared.ClearFault.{ClearFault}
use Rattle.verdict.specs.Answers.{clearing}
use Rattle.verdict.specs.Numbers as clear
use Rattle.clearing.specs.declared.checking.CheckFault.{CheckFault}
use Rattle.clearing.specs.declared.checking.CheckFault.TheVariants.{Read, Clear}
use Rattle.clearing.specs.Passing.{work_after}

abbrev pub of_clearing : Result Package ClearFault → Result Package CheckFault
of_clearing (Ok k) = Ok k
of_clearing (Err e) = Err (Clear e)

abbrev pub of_reading : Result Package ReadFault → ℕ → Result Package CheckFault
of_reading (Ok k) room = of_clearing (clearing k room)
of_reading (Err e) room = Err (Read e)

-- the answer of bytes, with so many bytes of work area
abbrev pub checked : List ℕ → ℕ → Result Package CheckFault
checked xs room = of_reading (read.reading xs) room

abbrev pub work_left_by : Result Package ReadFault → List ℕ → List ℕ
work_left_by (Ok k) work = work_after (length k.code) work
work_left_by (Err e) work = work

-- what the work area holds then
abbrev pub work_left : List ℕ → List ℕ → List ℕ
work_left xs work = work_left_by (read.reading xs) work

-- what is printed of a refusal
abbrev pub fault_text : CheckFault → List ℕ
fault_text (Read e) = refusal_text (read.number e) (read.place e)
fault_text (Clear e) = refusal_text (clear.number e) (clear.place e)
