-- The number of each rule.
use Rattle.std.specs.Prelude.{ℕ}
use Rattle.rules.specs.declared.rule.Rule.{Rule}
use Rattle.rules.specs.declared.rule.Rule.TheVariants.{Undecoded, Misplaced, Unreached, UnlikeMark, Astray, Missing, OutOfRegion, TooDeep, UnlikeTarget, FallsOut}

abbrev pub number_of : Rule → ℕ
number_of Undecoded = 7
number_of Misplaced = 8
number_of Unreached = 9
number_of UnlikeMark = 10
number_of Astray = 11
number_of Missing = 12
number_of OutOfRegion = 13
number_of TooDeep = 14
number_of UnlikeTarget = 15
number_of FallsOut = 16
