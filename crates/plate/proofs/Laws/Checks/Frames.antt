-- The numbers of a plate's frame.
use Rattle.std.proofs.Common.{◌≡◌, ap}
use Rattle.plate_model.specs.declared.size.Size.{Size}
use Rattle.plate_model.specs.Layout.{padded, places}
use Rattle.plate.specs.Frame.{Frame, frame_of}

-- its cells are the plate's, and its places
pub padded_in : (f : Frame) (z : Size) → f ≡ frame_of z → f.padded ≡ padded z
padded_in f z e = ap (λ (g : Frame). g.padded) e

pub places_in : (f : Frame) (z : Size) → f ≡ frame_of z → f.places ≡ places z
places_in f z e = ap (λ (g : Frame). g.places) e
