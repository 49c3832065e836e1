-- What is printed of answers.
use Rattle.std.specs.Prelude.{ℕ, List, ◌++◌, codes}
use Rattle.std.specs.Fmt.{decimal}
use Rattle.package.specs.declared.counts.Counts.{Counts}

-- a refusal, by its number and its place
abbrev pub refusal_text : ℕ → ℕ → List ℕ
refusal_text n p = codes "refused " ++ decimal n ++ codes " at " ++ decimal p

-- the counts, parted by spaces
abbrev pub counts_text : Counts → List ℕ
counts_text c = decimal c.code ++ codes " " ++ decimal c.procedures ++ codes " " ++ decimal c.marks
