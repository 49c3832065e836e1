use Rattle.std.proofs.Common.{◌≡◌, drop}
use Rattle.case_table.specs.Spelling.{bytes_of_digits, behind}
use Rattle.case_table.proofs.Digits.{bytes_of_pairs}
use Rattle.case_table.proofs.bytes.push_digits.Given as goal

abbrev pub invariant-loop-high : goal.invariant-loop-high
invariant-loop-high l = behind l.fn.bytes.items (bytes_of_digits l.fn.digits) ≡ behind l.bytes.items (bytes_of_pairs (drop l.high-index l.pairs))
