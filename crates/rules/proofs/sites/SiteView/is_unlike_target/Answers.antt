use Rattle.std.proofs.Common.{sym}
use Rattle.rules.proofs.Targets.{unlike-over}
use Rattle.rules.proofs.sites.SiteView.is_unlike_target.Goals as goal

pub returns-in-None : goal.returns-in-None
returns-in-None c =
    let k = c.args.self.now.read.now in
    unlike-over k c.in-Some-mark_shape.told c.in-Some-target.target c.in-Some-mark_shape.ensures _ _ c.args.self.now.effect.leaves c.in-Some.rest c.in-Some.is (sym c.in-Some-target.ensures) c.in-None.ensures
