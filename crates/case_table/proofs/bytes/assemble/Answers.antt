use Rattle.std.proofs.Common.{◌≡◌, [], ◌∷◌, ◌++◌, ap, ◌∙◌, refl}
use Rattle.std.specs.Str.Iter.{split_whitespace_rest, split_whitespace_steps}
use Rattle.std.proofs.iter.Next.{Yields-more}
use Rattle.std.proofs.lemmas.Result.{err_from_is_err_and}
use Rattle.case_table.specs.declared.error.CaseError.TheVariants.{NotACase}
use Rattle.case_table.proofs.Words.{bytes_of_words-push}
use Rattle.case_table.proofs.bytes.assemble.Goals as goal

pub loop-group-preserved : goal.loop-group-preserved
loop-group-preserved c = bytes_of_words-push c.loop-group.yielded c.in-Some.group ∙ rw c.loop-group.invariant c.in_ok-push_group.ensures

-- the last word that came spells no bytes
pub returns-in_err-push_group-clause-not_a_case : goal.returns-in_err-push_group-clause-not_a_case
returns-in_err-push_group-clause-not_a_case c = λ refused.
    let passed = err_from_is_err_and c.from_residual.result c.from_residual.ensures.1 in
    let no_case : c.in_err-push_group.field-0.0 ≡ NotACase = cc in
    record {
      start = c.into_iter-group-iterator.result;
      whole = ap split_whitespace_rest c.into_iter-group-iterator.ensures.into_iter_gives ∙ c.split_whitespace-group-items.ensures.rest;
      words = c.loop-group.yielded ++ c.in-Some.group ∷ [];
      rest = c.next.new.self;
      some = Yields-more split_whitespace_steps c.into_iter-group-iterator.result c.loop-group.yielded c.loop-group.group-iterator c.in-Some.group c.next.new.self c.loop-group.yielded_by c.in-Some.ensures.steps;
      spelled = bytes_of_words-push c.loop-group.yielded c.in-Some.group ∙ rw (c.loop-group.invariant, rw no_case at c.in_err-push_group.ensures) refl;
    }

pub returns-clause-ok : goal.returns-clause-ok
returns-clause-ok c = record {
  start = c.into_iter-group-iterator.result;
  whole = ap split_whitespace_rest c.into_iter-group-iterator.ensures.into_iter_gives ∙ c.split_whitespace-group-items.ensures.rest;
  words = c.loop-group.yielded;
  all = (c.next.new.self, (c.loop-group.group-iterator, c.loop-group.yielded_by, c.in-None.ensures.steps));
  spelled = c.loop-group.invariant;
}
