-- The plain pictures of a grid, and its marks.
use Rattle.std.specs.Prelude.{List, ◌++◌, ℕ, ◌*◌, ◌/◌, ◌%◌, ◌^◌, get_or}
use Rattle.kernels_model.specs.Sum.{sum, dist}
use Rattle.kernels_model.specs.Rounding.{shown_value, shown_matte}
use Rattle.plate_model.specs.Layout.{Size, places}
use Rattle.plate_model.specs.Word.{Pixel, empty}
use Rattle.plate_model.specs.Kernel.{weight_of}
use Rattle.plate_model.specs.Marks.{pixel_marks, on_cell}
use Rattle.kernels_model.specs.Listed.{list_to}

abbrev pub pixel_at : List Pixel → ℕ → Pixel
pixel_at grid i = get_or grid i empty

-- "A pixel adds a × s × tap to the matte sum and v times that to the light sum.": what its weights are taken times
abbrev pub matte_of : Pixel → ℕ
matte_of p = p.opacity

abbrev pub light_of : Pixel → ℕ
light_of p = p.value * p.opacity

-- what the pixel p at place j adds to the matte sum of cell i, for opacity 1
abbrev pub weight_at : Size → Pixel → ℕ → ℕ → ℕ
weight_at z p j i = weight_of p (dist (i % z.width) (j % z.width)) (dist (i / z.width) (j / z.width))

-- "at each image cell, the matte and light sums of all that its pixels add there by their kernels"
unfoldable pub plain_sum : Size → List Pixel → (Pixel → ℕ) → ℕ → ℕ
plain_sum z grid worth i = sum (λ j. let p = pixel_at grid j in worth p * weight_at z p j i) (places z)

-- those of every image cell, in the order of a buffer of sums: "all light ones by place, then all matte ones"
unfoldable pub plain_sums : Size → List Pixel → List ℕ
plain_sums z grid = list_to (plain_sum z grid light_of) (places z) ++ list_to (plain_sum z grid matte_of) (places z)

-- "rounded as above"
unfoldable pub plain_values : Size → List Pixel → List ℕ
plain_values z grid = list_to (λ i. shown_value (plain_sum z grid light_of i) (plain_sum z grid matte_of i)) (places z)

unfoldable pub plain_mattes : Size → List Pixel → List ℕ
plain_mattes z grid = list_to (λ i. shown_matte (plain_sum z grid matte_of i)) (places z)

-- "The marks of a grid: at each cell of the planes, the sum, wrapped, of all marks that its pixels lay there."
unfoldable pub grid_cell : Size → List Pixel → ℕ → ℕ
grid_cell z grid k = sum (λ i. on_cell z k (pixel_marks z i (pixel_at grid i))) (places z) % 2 ^ 64
