-- A pixel's own kernel: what stands here for a pixel, callers do not say of its shape and radius.
use Rattle.std.specs.Prelude.{List, ℕ}
use Rattle.kernels_model.specs.Shape.{count_of}
use Rattle.kernels_model.specs.Tap.{tap, weight}
use Rattle.kernels_model.specs.Mark.{Mark, marks}
use Rattle.plate_model.specs.Word.{Pixel}

-- the tap of its kernel at abs (dx), abs (dy)
abbrev pub tap_of : Pixel → ℕ → ℕ → ℕ
tap_of p dx dy = tap p.shape p.radius dx dy

-- what a pixel of opacity 1 adds to the matte sum of a cell at abs (dx), abs (dy)
abbrev pub weight_of : Pixel → ℕ → ℕ → ℕ
weight_of p dx dy = weight p.shape p.radius dx dy

-- the marks of its kernel around (X, Y), for opacity 1
abbrev pub kernel_of : Pixel → ℕ → ℕ → List Mark
kernel_of p X Y = marks p.shape p.radius X Y

-- "the table's marks" of its shape
abbrev pub mark_count : Pixel → ℕ
mark_count p = count_of p.shape
