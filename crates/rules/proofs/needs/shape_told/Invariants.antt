use Rattle.std.proofs.Common.{◌≡◌, ◌+◌, ◌≤◌, ◌++◌, reverse, length, take}
use Rattle.std.specs.Iterator.Adapters.{take_source, take_count}
use Rattle.declarations.specs.Views.{entries_left, mark_seen}
use Rattle.rules.specs.Asking.{shape_of}
use Rattle.rules.proofs.needs.shape_told.Given as goal

abbrev pub invariant-loop-entry : goal.invariant-loop-entry
invariant-loop-entry l = record {
  told : shape_of (mark_seen l.mark) ≡ reverse (take (take_count l.entry-iterator) (entries_left (take_source l.entry-iterator))) ++ l.shape;
  room : take_count l.entry-iterator + length l.shape ≤ 16;
}
