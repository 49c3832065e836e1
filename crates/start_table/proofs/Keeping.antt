-- What uses of a table keep, one after another.
use Rattle.std.proofs.Common.{refl, ◌∙◌}
use Rattle.start_table.specs.declared.StartTable.{StartTable}
use Rattle.start_table.specs.Table.{Kept}

pub kept_refl : (t : StartTable) → Kept t t
kept_refl t = record { size = refl; same = refl }

pub kept_trans : {t u v : StartTable} → Kept t u → Kept u v → Kept t v
kept_trans a b = record { size = b.size ∙ a.size; same = b.same ∙ a.same }
