-- A kernel's marks as the code hands them out: the boxes' grid, or the ends of the pieces of the two lines, counted from the
-- corner of the smallest padded plane that has the kernel in its middle, n r + margin on both axes.
use Rattle.std.specs.Prelude.{Bool, true, false, List, [], ◌∷◌, ◌++◌, ℕ, ◌+◌, ◌*◌, ◌-◌}
use Rattle.kernels_model.specs.Fixed.{level, second_box, third_box, margin}
use Rattle.kernels_model.specs.Choice.{pick}
use Rattle.kernels_model.specs.Shape.{Shape, Box, Tent, Triple, Diamond, Hexagon, Octagon}
use Rattle.kernels_model.specs.Tap.{half}
use Rattle.kernels_model.specs.Mark.{Mark, mark, minus, box_grid}
pub use Rattle.kernels_model.specs.declared.mark.Boxes.{Boxes}
pub use Rattle.kernels_model.specs.declared.mark.Line.{Line}
pub use Rattle.kernels_model.specs.declared.mark.Outline.{Outline}
pub use Rattle.kernels_model.specs.declared.mark.Drawing.{Drawing}
pub use Rattle.kernels_model.specs.declared.mark.Drawing.TheVariants.{Grid, Lines}

-- a piece's two marks
abbrev pub piece_marks : ℕ → ℕ → ℕ → ℕ → ℕ → ℕ → ℕ → List Mark
piece_marks p x0 y0 x1 y1 a b = mark p x0 y0 a ∷ mark p x1 y1 b ∷ []

-- the pieces of one line, the first in plane p and the last in plane q, and the level one between them where there is one
unfoldable pub line_pieces : ℕ → ℕ → ℕ → ℕ → Outline → Line → List Mark
line_pieces p q a b o l =
    piece_marks p o.left l.edge o.turn l.level a b
    ++ (pick o.flat (piece_marks level o.turn l.level o.back l.level a b) []
    ++ piece_marks q o.back l.level o.right l.past a b)

unfoldable pub drawn_marks : Drawing → List Mark
drawn_marks (Grid g) = box_grid g.plane g.count g.side margin margin
drawn_marks (Lines o) =
    line_pieces o.rising o.falling 1 (minus 1) o o.top ++ line_pieces o.falling o.rising (minus 1) 1 o o.bottom

-- the same marks, a columns further right and b rows further down
unfoldable pub moved : ℕ → ℕ → List Mark → List Mark
moved a b [] = []
moved a b (m ∷ ms) = mark m.plane (m.column + a) (m.row + b) m.coefficient ∷ moved a b ms

-- the ends of the pieces of a kernel of radius r whose first column reaches h up and down, each of the next a columns k rows
-- further, then b columns level, and back; f is whether there is a level piece
unfoldable pub outline_of : ℕ → ℕ → ℕ → ℕ → ℕ → Bool → Outline
outline_of r h k a b f =
    record {
      rising = level - k;
      falling = level + k;
      flat = f;
      left = margin;
      turn = margin + a;
      back = margin + a + b;
      right = margin + a + b + (a + 1);
      top = record { edge = r + margin - h; level = r + margin - h - k * a; past = r + margin - h + k };
      bottom = record { edge = r + margin + h + 1; level = r + margin + h + 1 + k * a; past = r + margin + h + 1 - k };
    }

-- n boxes of radius r in plane p
abbrev pub boxes_in : ℕ → ℕ → ℕ → Drawing
boxes_in p n r = Grid (record { plane = p; count = n; side = 2 * r + 1 })

-- the drawing of a kernel; a diamond's lines have no level piece
unfoldable pub drawing_of : Shape → ℕ → Drawing
drawing_of Box r = boxes_in level 1 r
drawing_of Tent r = boxes_in second_box 2 r
drawing_of Triple r = boxes_in third_box 3 r
drawing_of Diamond r = Lines (outline_of r 0 1 r 0 false)
drawing_of Hexagon r = Lines (outline_of r 0 2 (half r) (2 * (r - half r)) true)
drawing_of Octagon r = Lines (outline_of r (half r) 1 (r - half r) (2 * half r) true)
