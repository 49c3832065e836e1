use Rattle.std.proofs.Common.{◌≡◌, Some}
use Rattle.case_table.specs.Words.{bytes_of_words}
use Rattle.case_table.proofs.bytes.assemble.Given as goal

abbrev pub invariant-loop-group : goal.invariant-loop-group
invariant-loop-group l = bytes_of_words l.yielded ≡ Some l.bytes.items
