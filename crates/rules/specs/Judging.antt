-- What the rules on instructions answer at an offset.
use Rattle.std.specs.Prelude.{ℕ, List, Some, None, Ok, Err, Option, Result}
use Rattle.entries.specs.declared.Entry.{Entry}
use Rattle.declarations.specs.Views.{procedure_seen}
use Rattle.package.specs.Package.{Package}
use Rattle.instruction.specs.declared.decoding.Decoded.{Decoded}
use Rattle.rules.specs.declared.rule.Rule.{Rule}
use Rattle.rules.specs.declared.sites.SiteView.{SiteView}
use Rattle.rules.specs.Sites.{Site, broken_at, instruction_rules, lowest, onward, site_at}

abbrev pub site_seen : SiteView → Site
site_seen s =
    record {
      owner = procedure_seen s.owner;
      effect = s.effect;
      next = s.next;
      mark = s.mark;
      carry = s.carry;
      before = s.before;
      under = s.under;
      rest = s.rest;
    }

-- the rule that is found broken, or else what falls on
abbrev pub settled : Option Rule → Option (List Entry) → Result (Option (List Entry)) Rule
settled None c = Ok c
settled (Some r) c = Err r

abbrev pub judged_at : Package → ℕ → Option (List Entry) → Option Decoded → Result (Option (List Entry)) Rule
judged_at k x c None = Ok None
judged_at k x c (Some d) = settled (lowest instruction_rules (broken_at k (site_at k x c d))) (onward (site_at k x c d))
