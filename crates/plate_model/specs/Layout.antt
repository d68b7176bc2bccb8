-- Sizes of a plate, and where its cells lie.
use Rattle.std.specs.Prelude.{ℕ, ◌+◌, ◌*◌, ◌/◌, ◌%◌}
use Rattle.kernels_model.specs.Fixed.{margin}
use Rattle.plate_model.specs.Fixed.{border}
-- "A plate has width W, height H and reach R"
pub use Rattle.plate_model.specs.declared.size.Size.{Size}

abbrev pub size_from : ℕ → ℕ → ℕ → Size
size_from width height reach = record { width = width; height = height; reach = reach }

-- "A padded plane has (W + 2R + 6) × (H + 2R + 6) cells .. call that count P."
abbrev pub wide : Size → ℕ
wide z = z.width + 2 * z.reach + border

abbrev pub high : Size → ℕ
high z = z.height + 2 * z.reach + border

abbrev pub padded : Size → ℕ
padded z = wide z * high z

-- "There are 14 planes .. for light; then the same for matte": the cell of a plane at a column and a row
abbrev pub cell : Size → ℕ → ℕ → ℕ → ℕ
cell z p x y = p * padded z + (y * wide z + x)

-- the pixels
abbrev pub places : Size → ℕ
places z = z.width * z.height

-- "place being y × W + x"
abbrev pub place_at : Size → ℕ → ℕ → ℕ
place_at z x y = y * z.width + x

-- "the image starting at column and row R + 3": a place's column and row in a padded plane
abbrev pub column_of : Size → ℕ → ℕ
column_of z i = i % z.width + z.reach + margin

abbrev pub row_of : Size → ℕ → ℕ
row_of z i = i / z.width + z.reach + margin

-- "a buffer of 2 × W × H sums, all light ones by place, then all matte ones"
abbrev pub sums_in_all : Size → ℕ
sums_in_all z = 2 * places z

abbrev pub matte_from : Size → ℕ
matte_from z = places z
