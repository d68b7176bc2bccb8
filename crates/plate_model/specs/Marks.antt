-- The marks of pixels in the planes.
use Rattle.std.specs.Prelude.{List, [], ◌∷◌, ℕ, zero, suc, ◌+◌, ◌*◌, ◌%◌, ◌^◌, get_or, set}
use Rattle.kernels_model.specs.Choice.{same}
use Rattle.kernels_model.specs.Fixed.{planes_each}
use Rattle.kernels_model.specs.Mark.{Mark, mark, minus, scaled}
use Rattle.plate_model.specs.Layout.{Size, cell, column_of, row_of}
use Rattle.plate_model.specs.Word.{Pixel}
use Rattle.plate_model.specs.Kernel.{kernel_of}

-- "A mark is worth its sign or factor times a × s, and in light times v as well": a kernel's marks, each in light and then in
-- matte, as many planes on as a picture has
unfoldable pub in_both : ℕ → ℕ → List Mark → List Mark
in_both light matte [] = []
in_both light matte (m ∷ ms) =
    mark m.plane m.column m.row (light * m.coefficient)
    ∷ mark (planes_each + m.plane) m.column m.row (matte * m.coefficient)
    ∷ in_both light matte ms

-- the marks of the pixel at a place
unfoldable pub pixel_marks : Size → ℕ → Pixel → List Mark
pixel_marks z i p =
    in_both (p.value * p.opacity) p.opacity (kernel_of p (column_of z i) (row_of z i))

abbrev pub cell_of : Size → Mark → ℕ
cell_of z m = cell z m.plane m.column m.row

-- a number laid on a cell: "marks .. use wrapping add and subtract"
unfoldable pub lay_one : List ℕ → ℕ → ℕ → List ℕ
lay_one cells k w = set cells k ((get_or cells k 0 + w) % 2 ^ 64)

unfoldable pub lay_all : Size → List ℕ → List Mark → List ℕ
lay_all z cells [] = cells
lay_all z cells (m ∷ ms) = lay_all z (lay_one cells (cell_of z m) m.coefficient) ms

-- the old pixel's marks taken off a plate, the new one's laid
unfoldable pub exchanged : Size → ℕ → Pixel → Pixel → List ℕ → List ℕ
exchanged z i old new planes = lay_all z (lay_all z planes (scaled (minus 1) (pixel_marks z i old))) (pixel_marks z i new)

-- the marks of the pixels g 0, .., g (n - 1) laid one after the other
unfoldable pub lay_grid : Size → (ℕ → Pixel) → List ℕ → ℕ → List ℕ
lay_grid z g cells zero = cells
lay_grid z g cells (suc n) = lay_all z (lay_grid z g cells n) (pixel_marks z n (g n))

-- all that a list of marks lays on a cell
unfoldable pub on_cell : Size → ℕ → List Mark → ℕ
on_cell z k [] = 0
on_cell z k (m ∷ ms) = same k (cell_of z m) m.coefficient + on_cell z k ms
