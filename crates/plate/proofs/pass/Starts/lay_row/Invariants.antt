-- The columns before x are laid.
use Rattle.plate.specs.Passes.{row_start, rising_cell}
use Rattle.plate.proofs.Laws.Showing.Writes.{Writing}
use Rattle.plate.proofs.pass.Starts.lay_row.Given as goal

abbrev pub invariant-loop-x : goal.invariant-loop-x
invariant-loop-x l =
    Writing 2 l.columns (row_start l.self.rising_one l.self.rising_two)
    (rising_cell l.planes l.fn.scratch l.self.rising_one l.self.rising_two l.self.marks l.self.apart) l.fn.scratch l.scratch l.x 0
