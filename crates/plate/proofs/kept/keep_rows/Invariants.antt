-- The sums of the image's rows before this one are kept, and the scratch is ready for it.
use Rattle.plate.proofs.Laws.Showing.Keeping.{KeepingAt}
use Rattle.plate.proofs.kept.keep_rows.Given as goal

abbrev pub invariant-loop-row : goal.invariant-loop-row
invariant-loop-row l = KeepingAt l.light l.image l.planes l.fn.scratch l.scratch l.fn.sums l.sums l.row
