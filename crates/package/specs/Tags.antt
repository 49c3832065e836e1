-- The tags of fields.
use Rattle.std.specs.Prelude.{ℕ, cond, Some, None, Option, ◌==◌}
use Rattle.package.specs.declared.shaped.Tag.{Tag}
use Rattle.package.specs.declared.shaped.Tag.TheVariants.{Code, Procedure, Mark}

abbrev pub tag_byte : Tag → ℕ
tag_byte Code = 1
tag_byte Procedure = 2
tag_byte Mark = 3

-- the kind of field that a byte tags
abbrev pub tag_named : ℕ → Option Tag
tag_named b = cond (b == 1) (Some Code) (cond (b == 2) (Some Procedure) (cond (b == 3) (Some Mark) None))
