-- Piece after piece.
use Rattle.std.proofs.Common.{◌∙◌, arith}
use Rattle.kernels_model.specs.Drawing.{line_pieces}
use Rattle.kernels_model.specs.Mark.{minus}
use Rattle.plate.specs.Laying.{level_marks}
use Rattle.plate.proofs.Laws.Laying.Amounts.{plus_minus, laid_both, in_after, line_in}
use Rattle.plate.proofs.lay.Board.lay_line.Goals as goal

pub lay_piece-requires : goal.lay_piece-requires
lay_piece-requires c = (line_in _ _ _ _ _ c.requires).first

pub lay_level-requires : goal.lay_level-requires
lay_level-requires c =
    let plus = plus_minus c.args.w (omega arith) (omega arith) in
    in_after _ _ _ (c.lay_piece.ensures c.args.w 1 (minus 1) plus).origin_stays (line_in _ _ _ _ _ c.requires).middle

pub lay_piece-requires-2 : goal.lay_piece-requires-2
lay_piece-requires-2 c =
    let plus = plus_minus c.args.w (omega arith) (omega arith) in
    in_after _ _ _
    ((c.lay_level.ensures c.args.w 1 (minus 1) plus).origin_stays
    ∙ (c.lay_piece.ensures c.args.w 1 (minus 1) plus).origin_stays)
    (line_in _ _ _ _ _ c.requires).last

pub returns : goal.returns
unfolding line_pieces level_marks
returns c =
    λ v k d h. laid_both _ _ _ v _ _ (c.lay_piece.ensures v k d h)
    (laid_both _ _ _ v _ _ (c.lay_level.ensures v k d h) (c.lay_piece-2.ensures v k d h))
