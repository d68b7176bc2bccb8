-- The lists behind the slices of a `Lent`, for contracts inside this crate.
use Rattle.plate_model.specs.Lent.{lent_now, Lent as Lists}
use Rattle.plate.specs.declared.lent.Lent.{Lent}

abbrev pub lent_of : Lent → Lists
lent_of l = lent_now l.planes l.pixels l.log
