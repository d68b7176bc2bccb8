-- The start is laid and then the end.
use Rattle.std.proofs.Common.{◌∙◌, arith}
use Rattle.plate.specs.Laying.{AllIn}
use Rattle.plate.proofs.Laws.Laying.Amounts.{times-one, laid_both, spot_after}
use Rattle.plate.proofs.lay.Board.lay_piece.Goals as goal

pub lay_mark-requires : goal.lay_mark-requires
unfolding AllIn
lay_mark-requires c = c.requires.0

pub lay_mark-requires-2 : goal.lay_mark-requires-2
unfolding AllIn
lay_mark-requires-2 c =
    let once = times-one c.args.w (omega arith) (omega arith) in
    spot_after _ _ _ _ _ (c.lay_mark.ensures c.args.w 1 once).origin_stays c.requires.1.0

pub returns : goal.returns
returns c =
    λ v k d h. laid_both _ _ _ v _ _ (c.lay_mark.ensures v k h.start_is) (c.lay_mark-2.ensures v d (c.opposite.ensures ∙ h.end_is))
