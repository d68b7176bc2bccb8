-- The cells before x are shown.
use Rattle.std.proofs.Common.{◌≡◌, ℕ, ◌<◌, get_or}
use Rattle.kernels_model.specs.Rounding.{shown_value, shown_matte}
use Rattle.plate.proofs.show.round_row.Given as goal

abbrev pub invariant-loop-x : goal.invariant-loop-x
invariant-loop-x l =
    record {
      values_are : (i : ℕ) → i < l.x → get_or l.values i 0 ≡ shown_value (get_or l.light i 0) (get_or l.matte i 0);
      mattes_are : (i : ℕ) → i < l.x → get_or l.mattes i 0 ≡ shown_matte (get_or l.matte i 0);
    }
