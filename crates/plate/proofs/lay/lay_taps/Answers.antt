-- What is laid is what `draw` hands out, and its marks are the kernel's, counted from the corner.
use Rattle.std.proofs.Common.{rules}
use Rattle.kernels_model.proofs.Drawing.Drawings.{drawing_marks}
use Rattle.plate.proofs.Laws.Laying.Corners.{few_boxes}
use Rattle.plate.proofs.lay.lay_taps.Goals as goal

pub lay_drawing-requires : goal.lay_drawing-requires
lay_drawing-requires c =
    (rw (c.draw.ensures, drawing_marks) c.requires.inside, rw c.draw.ensures (few_boxes c.args.shape c.args.radius))

pub returns : goal.returns
returns c = rw (← drawing_marks, ← c.draw.ensures) (search rules)
