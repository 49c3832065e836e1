use Rattle.std.proofs.Common.{refl}
use Rattle.declarations.specs.Kinds.{are_kinds}
use Rattle.declarations.specs.Entries.{are_entries}
use Rattle.declarations.specs.Marks.{entries_of, mark_at}
use Rattle.declarations.specs.Procedures.{owner_from, program_of}
use Rattle.instruction.specs.Decoding.{decoded, word_of}
use Rattle.package.specs.Reading.{read_from, reading}
use Rattle.package.specs.Rules.{last_offset}
use Rattle.rules.specs.Needs.{under_arguments}
use Rattle.rules.specs.Starts.{carried, start_from}
use Rattle.shape.specs.Shapes.{same_shape, shape_size}
use Rattle.verdict.specs.Answers.{clearing}
use Rattle.verdict.specs.Breaking.{breaks, first_below, verdict}
use Rattle.worked_cases.proofs.worked_cases_hold.Goals as goal

pub returns : goal.returns
unfolding are_kinds are_entries entries_of mark_at owner_from program_of decoded word_of read_from reading last_offset under_arguments carried start_from same_shape shape_size clearing breaks first_below verdict
returns c =
    record {
      no_bytes = refl;
      sample_clears = refl;
      depth_of_7 = refl;
      text_of_3 = refl;
      last_byte_1 = refl;
      local_8 = refl;
      local_9 = refl;
      local_12 = refl;
    }
