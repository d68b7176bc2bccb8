-- All that is promised of the kernels.
use Rattle.kernels_model.specs.Promises.{Promises}
use Rattle.kernels_model.proofs.Numbers.Nearest.{even_once, value_to_even, value_top_fact, half_up_once, half_up, matte_half_up}
use Rattle.kernels_model.proofs.Numbers.Nearest.{matte_top_fact}
use Rattle.kernels_model.proofs.Sums.SlopeSums.{piece_fact, slope_in_lem}
use Rattle.kernels_model.proofs.Taps.ShapeNumbers.{shape_read_lem, tops_under, count_few}
use Rattle.kernels_model.proofs.Taps.Areas.{whole, shapes_whole, octagon_whole}
use Rattle.kernels_model.proofs.Taps.Shares.{table_share_lem}
use Rattle.kernels_model.proofs.Taps.Bands.{band_is, level-weight}
use Rattle.kernels_model.proofs.Lenses.ThinLens.{radius_half_up, infinity_half_up}
use Rattle.kernels_model.proofs.Marking.LineFact.{line_fact}
use Rattle.kernels_model.proofs.Marking.BoxGrids.{box_fact}
use Rattle.kernels_model.proofs.Marking.Kernel.{kernel}
use Rattle.kernels_model.proofs.Drawing.MarkPlaces.{marks_count, marks_near}
use Rattle.kernels_model.proofs.Drawing.Drawings.{drawn_moved}
use Rattle.kernels_model.proofs.Examples.Starred.{starred_agree}
use Rattle.kernels_model.proofs.Examples.ByHand.{by_hand}

pub promises : Promises
promises =
    record {
      shapes = shape_read_lem;
      under = tops_under;
      boxes = box_fact;
      slopes = slope_in_lem;
      pieces = piece_fact;
      lines = line_fact;
      kernels = kernel;
      weights_whole = whole;
      shapes_whole = shapes_whole;
      octagon_whole = octagon_whole;
      count = marks_count;
      few = count_few;
      near = marks_near;
      table = table_share_lem;
      drawing = drawn_moved;
      band = band_is;
      level = level-weight;
      even_once = even_once;
      value = value_to_even;
      value_top_fact = value_top_fact;
      half_up_once = half_up_once;
      half_up = half_up;
      matte = matte_half_up;
      matte_top_fact = matte_top_fact;
      radius = radius_half_up;
      infinity = infinity_half_up;
      examples = starred_agree;
      by_hand = by_hand;
    }
