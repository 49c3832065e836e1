-- The number and the place of each refusal.
use Rattle.std.specs.Prelude.{ℕ}
use Rattle.rules.specs.Numbers.{number_of}
use Rattle.verdict.specs.declared.ClearFault.{ClearFault}
use Rattle.verdict.specs.declared.ClearFault.TheVariants.{WorkTooShort, Broken}

abbrev pub number : ClearFault → ℕ
number WorkTooShort = 6
number (Broken r p) = number_of r

-- an offset of the code; 0 where the work area is too short
abbrev pub place : ClearFault → ℕ
place WorkTooShort = 0
place (Broken r p) = p
