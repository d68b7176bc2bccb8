-- The top line is worth plus and then minus, the bottom line minus and then plus.
use Rattle.std.proofs.Common.{arith}
use Rattle.kernels_model.specs.Mark.{minus}
use Rattle.kernels_model.specs.Drawing.{drawn_marks}
use Rattle.plate.proofs.Laws.Laying.Amounts.{laid_both, in_after, lines_in, plus_minus, minus_plus}
use Rattle.plate.proofs.lay.Board.lay_lines.Goals as goal

pub lay_line-requires : goal.lay_line-requires
lay_line-requires c = (lines_in _ _ c.requires).0

pub lay_line-requires-2 : goal.lay_line-requires-2
lay_line-requires-2 c =
    let plus = plus_minus c.args.w (omega arith) (omega arith) in
    in_after _ _ _ (c.lay_line.ensures c.args.w 1 (minus 1) plus).origin_stays (lines_in _ _ c.requires).1

pub returns : goal.returns
unfolding drawn_marks
returns c =
    let w = c.args.w in
    laid_both _ _ _ w _ _ (c.lay_line.ensures w 1 (minus 1) (plus_minus w (omega arith) (omega arith)))
    (c.lay_line-2.ensures w (minus 1) 1 (minus_plus w _ c.opposite.ensures))
