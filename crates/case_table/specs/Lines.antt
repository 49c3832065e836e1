-- The lines of a table.
use Rattle.std.specs.Prelude.{◌≡◌, ℕ, List, ◌∷◌, ◌++◌}
use Rattle.std.specs.Str.Iter.{LacksByte}
use Rattle.case_table.specs.declared.line.Line.{Line}
use Rattle.case_table.specs.declared.line.Line.TheVariants.{Heading, Case}

-- the byte of `:`
abbrev pub colon : ℕ
colon = 58

-- what a line is: a heading where it has no colon, and else a case, whose name is all before the first
abbrev pub IsLine : List ℕ → Line → Type 0
IsLine line (Heading heading) = LacksByte colon line × (heading.now ≡ line)
IsLine line (Case name text) = LacksByte colon name.now × (line ≡ name.now ++ colon ∷ text.now)
