-- The frame that the code makes of a plate's sizes.
use Rattle.plate_model.specs.declared.size.Size.{Size}
use Rattle.plate_model.specs.Layout.{wide, high, padded, places}
pub use Rattle.plate.specs.declared.size.Frame.{Frame}

abbrev pub frame_of : Size → Frame
frame_of z = record { size = z; wide = wide z; high = high z; padded = padded z; places = places z }
