-- The cells before x are kept.
use Rattle.std.proofs.Common.{◌≡◌, ℕ, ◌<◌, get_or}
use Rattle.plate.proofs.kept.keep_row.Given as goal

abbrev pub invariant-loop-x : goal.invariant-loop-x
invariant-loop-x l = (k d : ℕ) → k < l.x → get_or l.kept k d ≡ get_or l.row k d
