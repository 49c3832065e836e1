-- What reading keeps of the fields before a place.
use Rattle.std.specs.Prelude.{ℕ, ◌+◌, ◌-◌, cond, List, length, take, drop, Ok, Err, Result, ◌==◌}
use Rattle.package.specs.declared.faults.ReadFault.{ReadFault}
use Rattle.package.specs.declared.shaped.Shaped.{Shaped}
use Rattle.package.specs.declared.reading.Tally.{Tally}
use Rattle.fields.specs.Bytes.{two}
use Rattle.fields.specs.Fields.{Cut, seen_field}
use Rattle.package.specs.Package.{Package}
use Rattle.declarations.specs.Views.{procedures_in, marks_in}

abbrev pub field_told : Result Shaped ReadFault → Result Cut ReadFault
field_told (Ok s) = Ok (seen_field s.field)
field_told (Err e) = Err e

-- the place behind a field
abbrev pub place_behind : Tally → Cut → ℕ
place_behind t f = t.at + (3 + length f.body)

-- the numbers with one field more
abbrev pub tallied : Tally → Cut → Tally
tallied t f =
    cond (f.tag == 1)
    (record { at = place_behind t f; code = length f.body; procedures = t.procedures; last = t.last; marks = t.marks; fore = place_behind t f })
    (cond (f.tag == 2)
    (record { at = place_behind t f; code = t.code; procedures = t.procedures + 1; last = two f.body 0; marks = t.marks; fore = place_behind t f })
    (record { at = place_behind t f; code = t.code; procedures = t.procedures; last = t.last; marks = t.marks + 1; fore = t.fore }))

-- the package in bytes that hold nothing but good fields: so many bytes of code, and marks from a place on
abbrev pub package_within : List ℕ → ℕ → ℕ → Package
package_within xs code fore =
    record {
      code = take (3 + code - 3) (drop 3 xs);
      procedures = procedures_in (take (fore - (3 + code)) (drop (3 + code) xs));
      marks = marks_in (take (length xs - fore) (drop fore xs));
    }
