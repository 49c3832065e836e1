use Rattle.std.proofs.Common.{sym, refl, inl, inr}
use Rattle.rules.specs.declared.rule.Rule.TheVariants.{TooDeep}
use Rattle.rules.specs.Judging.{site_seen}
use Rattle.rules.specs.Sites.{broken_at, instruction_rules}
use Rattle.rules.proofs.Lowest.{lowest-none}
use Rattle.rules.proofs.sites.SiteView.judged.Goals as goal

pub onward-requires : goal.onward-requires
onward-requires c =
    lowest-none instruction_rules (broken_at c.args.self.now.read.now (site_seen c.args.self.now)) (sym c.in-None.ensures) TooDeep (inr (inr (inr (inr (inr (inl refl))))))
