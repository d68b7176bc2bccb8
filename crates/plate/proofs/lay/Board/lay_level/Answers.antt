-- The level piece is laid, or there is none.
use Rattle.plate.specs.Laying.{level_marks}
use Rattle.plate.proofs.Laws.Laying.Amounts.{laid_none}
use Rattle.plate.proofs.lay.Board.lay_level.Goals as goal

pub lay_piece-requires : goal.lay_piece-requires
unfolding level_marks
lay_piece-requires c = rw c.if-o.true at c.requires

pub returns-then-o : goal.returns-then-o
unfolding level_marks
returns-then-o c = λ v k d h. rw c.if-o.true (c.lay_piece.ensures v k d h)

pub returns-else-o : goal.returns-else-o
unfolding level_marks
returns-else-o c = λ v k d h. rw c.if-o.false (laid_none _ v)
