-- How the code lays a kernel: the marks of its drawing, counted from the drawing's corner, each in light and in matte at once.
use Rattle.std.specs.Prelude.{◌≡◌, ℕ, suc, ◌+◌, ◌-◌, ◌*◌, ◌%◌, ◌^◌, ◌<◌, ◌≤◌, List, [], ◌∷◌}
use Rattle.kernels_model.specs.Fixed.{planes_each, level, margin}
use Rattle.kernels_model.specs.Choice.{pick}
use Rattle.kernels_model.specs.declared.mark.Outline.{Outline}
use Rattle.kernels_model.specs.declared.mark.Line.{Line}
use Rattle.kernels_model.specs.Drawing.{piece_marks}
use Rattle.kernels_model.specs.declared.mark.Drawing.{Drawing}
use Rattle.kernels_model.specs.declared.mark.Drawing.TheVariants.{Grid, Lines}
use Rattle.kernels_model.specs.declared.share.Share.{Share}
use Rattle.kernels_model.specs.Share.{share_parts}
use Rattle.kernels_model.specs.declared.shape.Shape.{Shape}
use Rattle.kernels_model.specs.Shape.{reach_of, top_under}
use Rattle.kernels_model.specs.Mark.{Mark, mark, minus, sign, choose, marks_to, tap_marks}
use Rattle.plate_model.specs.Fixed.{planes_in_all}
use Rattle.plate_model.specs.declared.word.Pixel.{Pixel}
use Rattle.plate_model.specs.Marks.{pixel_marks, lay_one}
use Rattle.plate.specs.Frame.{Frame, frame_of}
pub use Rattle.plate.specs.declared.lay.Amounts.{Amounts}

-- where a drawing lies in the planes: the cells of a padded plane, in a row and in all, and the one that it has as its corner
pub record Origin : Type 0 where
  pub wide : ℕ
  pub padded : ℕ
  pub corner : ℕ

-- WORTHS
-- c times a worth, wrapped
abbrev pub times : Amounts → ℕ → Amounts
times w c = record { light = (w.light * c) % 2 ^ 64; matte = (w.matte * c) % 2 ^ 64 }

-- what a mark of factor 1 is worth, with the share or the remainder that it carries: "a × s, and in light times v as well"
abbrev pub amounts_of : Pixel → ℕ → Amounts
amounts_of p c = record { light = p.value * (p.opacity * c); matte = p.opacity * c }

-- an amount is worth c times w, and its opposite d times
pub record Opposite (w : Amounts) (c d : ℕ) (amounts : Amounts) : Type 0 where
  pub start_is : amounts ≡ times w c
  pub end_is : times amounts (minus 1) ≡ times w d

-- MARKS
-- the cell of a light plane at a column and a row of a drawing
abbrev pub spot : Origin → ℕ → ℕ → ℕ → ℕ
spot g p x y = g.corner + (p * g.padded + (y * g.wide + x))

-- a mark laid in light and, as many planes on as a channel has, in matte
unfoldable pub lay_amounts : Origin → List ℕ → ℕ → ℕ → ℕ → Amounts → List ℕ
lay_amounts g cells p x y w =
    lay_one (lay_one cells (spot g p x y) w.light) (planes_each * g.padded + spot g p x y) w.matte

-- the marks of a drawing laid one after the other, each worth its coefficient times w
unfoldable pub lay_drawn : Origin → Amounts → List ℕ → List Mark → List ℕ
lay_drawn g w cells [] = cells
lay_drawn g w cells (m ∷ ms) =
    lay_drawn g w (lay_amounts g cells m.plane m.column m.row (times w m.coefficient)) ms

-- the factor of mark i along an axis of n boxes
abbrev pub factor : ℕ → ℕ → ℕ
factor n i = sign i * choose n i

-- a column of the grid of n boxes of l cells, c times over
unfoldable pub grid_column : ℕ → ℕ → ℕ → ℕ → ℕ → ℕ → List Mark
grid_column p n l x c k = marks_to (λ j. mark p x (margin + j * l) (c * factor n j) ∷ []) k

-- the level piece of a line, where there is one
unfoldable pub level_marks : ℕ → ℕ → Outline → Line → List Mark
level_marks c d o l = pick o.flat (piece_marks level o.turn l.level o.back l.level c d) []

-- WHAT CALLERS SHOW
-- each mark lies in the light planes
unfoldable pub AllIn : Origin → List Mark → Type 0
AllIn g [] = Unit
AllIn g (m ∷ ms) = (spot g m.plane m.column m.row < planes_each * g.padded) × AllIn g ms

-- there are n cells in all planes, and room in them for the marks
pub record MarksFit (g : Origin) (n : ℕ) (ms : List Mark) : Type 0 where
  pub planes_are : n ≡ planes_in_all * g.padded
  pub inside : AllIn g ms

-- a drawing by boxes has one, two or three of them
unfoldable pub FewBoxes : Drawing → Type 0
FewBoxes (Grid b) = (1 ≤ b.count) × (b.count ≤ 3)
FewBoxes (Lines o) = Unit

-- a column at x of the grid of n boxes of l cells, up to three of them
pub record ColumnIn (g : Origin) (p n l x : ℕ) : Type 0 where
  pub marks_in : AllIn g (grid_column p n l x 1 (suc n))
  pub last_in : margin + n * l < planes_each * g.padded
  pub few : n ≤ 3

-- KERNELS
-- a place (x, y) of a plate with its frame
pub record Placed (f : Frame) (x y : ℕ) : Type 0 where
  pub framed : f ≡ frame_of f.size
  pub column_in : x < f.size.width
  pub row_in : y < f.size.height

-- a corner on a plate
abbrev pub origin_of : Frame → ℕ → Origin
origin_of f corner = record { wide = f.wide; padded = f.padded; corner = corner }

-- what a kernel that reaches m leaves of the plate's reach on each side, and the cell of its corner
abbrev pub spare : Frame → ℕ → ℕ
spare f m = f.size.reach - m

abbrev pub corner_of : Frame → ℕ → ℕ → ℕ → ℕ
corner_of f x y m = (y + spare f m) * f.wide + (x + spare f m)

-- the marks of a kernel's taps, counted from the corner of its drawing
abbrev pub own_marks : Shape → ℕ → List Mark
own_marks s r = tap_marks s r (reach_of s r + margin) (reach_of s r + margin)

-- PIXELS
-- a pixel whose radius keeps to the plate's reach, n cells in all planes, and its kernel's share at hand
pub record PixelReady (f : Frame) (n : ℕ) (p : Pixel) (s : Share) : Type 0 where
  pub planes_are : n ≡ planes_in_all * f.padded
  pub radius_fits : p.radius ≤ top_under p.shape f.size.reach
  pub share_is : s ≡ share_parts p.shape p.radius

-- its marks at (x, y)
abbrev pub marks_at : Frame → ℕ → ℕ → Pixel → List Mark
marks_at f x y p = pixel_marks f.size (y * f.size.width + x) p
