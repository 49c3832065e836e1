use Rattle.std.proofs.Common.{◌≡◌, ◌-◌}
use Rattle.case_table.specs.Spelling.{bytes_of_group, repeated, behind}
use Rattle.case_table.proofs.bytes.push_group.Given as goal

abbrev pub invariant-loop : goal.invariant-loop
invariant-loop l = behind l.fn.bytes.items (bytes_of_group l.fn.group) ≡ behind l.bytes.items (repeated (l.count - l.counter) l.digits)
