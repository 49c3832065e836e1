-- Where a package breaks the rules.
use Rattle.std.specs.Prelude.{◌≡◌, ℕ, zero, suc, ◌<◌, Bool, true, false, cond, not, ◌&&◌, ◌⊎◌, List, [], ◌∷◌, length, is_some, None, Option}
use Rattle.std.specs.Option.{option_map, option_or}
use Rattle.entries.specs.declared.Entry.{Entry}
use Rattle.package.specs.Package.{Package}
use Rattle.instruction.specs.Decoding.{decoded}
use Rattle.rules.specs.declared.rule.Rule.{Rule}
use Rattle.rules.specs.declared.rule.Rule.TheVariants as rule
use Rattle.rules.specs.Numbers.{number_of}
use Rattle.rules.specs.Starts.{carried, is_start}
use Rattle.rules.specs.Places.{misplaced}
use Rattle.rules.specs.Needs.{and_then}
use Rattle.rules.specs.Sites.{Site, broken_at, instruction_rules, lowest, onward, site_at, some}

-- what an instruction at x makes of what falls into it
abbrev pub passed_on : Package → ℕ → Option (List Entry) → Option (List Entry)
passed_on k x c = and_then (decoded k.code x) (λ d. onward (site_at k x c d))

-- the shape that falls into the first start at x or behind it
abbrev pub falls_into : Package → ℕ → Option (List Entry)
falls_into k x = carried k.code None (passed_on k) x

-- the instruction that starts at x
abbrev pub site_in : Package → ℕ → Option Site
site_in k x = cond (is_start k.code x) (option_map (site_at k x (falls_into k x)) (decoded k.code x)) None

abbrev pub breaks_there : Package → ℕ → Rule → Bool
breaks_there k x r = some (site_in k x) (λ s. broken_at k s r)

-- whether a rule is broken at x
unfoldable pub breaks : Package → ℕ → Rule → Bool
breaks k x rule.Undecoded = is_start k.code x && not (is_some (decoded k.code x))
breaks k x rule.Misplaced = misplaced k x (is_start k.code x)
breaks k x rule.Unreached = breaks_there k x rule.Unreached
breaks k x rule.UnlikeMark = breaks_there k x rule.UnlikeMark
breaks k x rule.Astray = breaks_there k x rule.Astray
breaks k x rule.Missing = breaks_there k x rule.Missing
breaks k x rule.OutOfRegion = breaks_there k x rule.OutOfRegion
breaks k x rule.TooDeep = breaks_there k x rule.TooDeep
breaks k x rule.UnlikeTarget = breaks_there k x rule.UnlikeTarget
breaks k x rule.FallsOut = breaks_there k x rule.FallsOut

-- a rule that is broken at an offset
pub record Breach : Type 0 where
  pub rule : Rule
  pub place : ℕ

abbrev pub breach_at : ℕ → Option Rule → Option Breach
breach_at x o = option_map (λ r. record { rule = r; place = x }) o

abbrev pub or_else : Option Breach → Option Breach → Option Breach
or_else a b = option_or a b

-- the first offset below n at which a rule is found broken, with the rule
unfoldable pub first_below : (ℕ → Option Rule) → ℕ → Option Breach
first_below f zero = None
first_below f (suc n) = or_else (first_below f n) (breach_at n (f n))

-- the first offset of the code at which some of the rules are broken, with the lowest of them there
abbrev pub first_breach : Package → List Rule → Option Breach
first_breach k rs = first_below (λ x. lowest rs (breaks k x)) (length k.code)

-- Decoding covers all the code before the rule on places does, and that rule all the code before those on instructions.
unfoldable pub verdict : Package → Option Breach
verdict k = or_else (first_breach k (rule.Undecoded ∷ [])) (or_else (first_breach k (rule.Misplaced ∷ [])) (first_breach k instruction_rules))

-- in which of the three rounds over the code a rule is tested
abbrev pub round : Rule → ℕ
round rule.Undecoded = 1
round rule.Misplaced = 2
round rule.Unreached = 3
round rule.UnlikeMark = 3
round rule.Astray = 3
round rule.Missing = 3
round rule.OutOfRegion = 3
round rule.TooDeep = 3
round rule.UnlikeTarget = 3
round rule.FallsOut = 3

-- r at x comes before s at y: in an earlier round, or in the same at a lower place, or there with a lower number
abbrev pub Sooner : Rule → ℕ → Rule → ℕ → Type 0
Sooner r x s y = (round r < round s) ⊎ ((round r ≡ round s) × ((x < y) ⊎ ((x ≡ y) × (number_of r < number_of s))))

-- no rule is broken anywhere
abbrev pub Unbroken : Package → Type 0
Unbroken k = (r : Rule) (x : ℕ) → x < length k.code → breaks k x r ≡ false

-- a rule is broken at an offset, and none sooner
pub record Soonest (k : Package) (b : Breach) : Type 0 where
  pub within : b.place < length k.code
  pub holds : breaks k b.place b.rule ≡ true
  pub none : (r : Rule) (x : ℕ) → x < length k.code → Sooner r x b.rule b.place → breaks k x r ≡ false
