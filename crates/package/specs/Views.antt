-- What the view of a package's bytes shows.
use Rattle.declarations.specs.Views.{procedures_in, marks_in}
use Rattle.package.specs.declared.views.ReadPackage.TheInside.{Inside}
use Rattle.package.specs.Format.{Valid}
use Rattle.package.specs.Package.{Package}

abbrev pub package_seen : Inside → Package
package_seen r = record { code = r.code.now; procedures = procedures_in r.procedures.now; marks = marks_in r.marks.now }

abbrev pub IsValid : Inside → Type 0
IsValid r = Valid (package_seen r)
