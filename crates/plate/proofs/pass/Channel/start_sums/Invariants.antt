-- Cleared cells are what lines without marks hold, and the rows from this one on are laid.
use Rattle.plate.proofs.Laws.Showing.RisingStart.{LaidFrom}
use Rattle.plate.proofs.pass.Channel.start_sums.Given as goal

abbrev pub invariant-loop-row : goal.invariant-loop-row
invariant-loop-row l = LaidFrom l.self l.planes l.initial.scratch l.scratch l.row
