use Rattle.std.proofs.Common.{◌≡◌}
use Rattle.std.specs.Iterator.Adapters.{rev_source}
use Rattle.declarations.specs.Views.{parameters_left, procedure_seen}
use Rattle.rules.specs.Needs.{under_arguments}
use Rattle.rules.proofs.needs.under_arguments.Given as goal

abbrev pub invariant-loop-kind : goal.invariant-loop-kind
invariant-loop-kind l =
    under_arguments (procedure_seen l.callee).parameters l.initial.rest ≡ under_arguments (parameters_left (rev_source l.kind-iterator)) l.rest
