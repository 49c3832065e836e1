use Rattle.std.proofs.Common.{sym, ◌∙◌, rules}
use Rattle.std.proofs.lemmas.Iterator.{YieldsList-from_slice}
use Rattle.std.proofs.lemmas.Iterator.Adapters.{option_map_id}
use Rattle.std.proofs.lemmas.Iterator.Consumers.{YieldsList-from_copied}
use Rattle.std.proofs.lemmas.Iterator.Search.{find_from_yields_List}
use borrow.Author.Tests.{tests}
use Rattle.rules.specs.Judging.{site_seen}
use Rattle.rules.specs.Sites.{broken_at, instruction_rules}
use Rattle.rules.proofs.sites.SiteView.broken.Goals as goal

pub returns : goal.returns
returns c =
    sym (option_map_id _)
    ∙ find_from_yields_List (broken_at c.args.self.now.read.now (site_seen c.args.self.now)) _ _ c.find.result c.find.ensures.ran (YieldsList-from_copied (YieldsList-from_slice instruction_rules cc)) (λ x b q k. search (rules, tests))
