-- The rows of the image before this one are shown, and the sums are ready for it.
use Rattle.plate.proofs.Laws.Showing.Image.{ShowingAt}
use Rattle.plate.proofs.show.show_rows.Given as goal

abbrev pub invariant-loop-row : goal.invariant-loop-row
invariant-loop-row l = ShowingAt l.light l.image l.planes l.fn.scratch l.scratch l.fn.values l.values l.fn.mattes l.mattes l.row
