-- Taps and marks worked out by hand: the definitions compute to them.
use mathlib.Core.Path.{refl}
use Rattle.kernels_model.specs.Choice.{within, same}
use Rattle.kernels_model.specs.Sum.{sum}
use Rattle.kernels_model.specs.Tap.{tap, octagon_tap, area, share_for, rest_for}
use Rattle.kernels_model.specs.Mark.{minus, sign, choose, marks_to, box_grid, box_marks, line_marks, flipped, outline_marks}
use Rattle.kernels_model.specs.Mark.{diamond_marks, hexagon_marks, octagon_marks, tap_marks, scaled, centre_marks, marks}
use Rattle.kernels_model.specs.Listed.{list_to}
use Rattle.kernels_model.specs.Examples.{tap_rows, ByHand}

pub by_hand : ByHand
unfolding list_to tap_rows within same sum tap octagon_tap area share_for rest_for minus sign choose marks_to box_grid box_marks
    line_marks flipped outline_marks diamond_marks hexagon_marks octagon_marks tap_marks scaled centre_marks marks
by_hand =
    record {
      octagon_taps = refl;
      octagon_marks_fact = refl;
      hexagon_taps = refl;
      hexagon_marks_fact = refl;
      slit_marks = refl;
      diamond_marks_fact = refl;
      box_marks_fact = refl;
      tent_marks = refl;
    }
