-- Each iteration lays the next mark of the column, with its factor.
use Rattle.std.proofs.Common.{◌≡◌, suc, ◌+◌, arith}
use Rattle.kernels_model.specs.Mark.{marks_to}
use Rattle.plate.specs.Laying.{grid_column}
use Rattle.plate.specs.Board.{origin}
use Rattle.plate.proofs.Laws.Laying.Amounts.{times-one, laid_none, spot_after, column_more, mark_in}
use Rattle.plate.proofs.lay.Board.lay_column.Goals as goal

pub loop-j-init : goal.loop-j-init
unfolding grid_column marks_to
loop-j-init g c = λ v k e. laid_none _ v

pub lay_mark-requires : goal.lay_mark-requires
lay_mark-requires g c =
    let a = c.args in
    let once = times-one a.w (omega arith) (omega arith) in
    spot_after _ _ _ _ _ (c.loop-j.invariant a.w 1 once).origin_stays
    (mark_in (origin a.self.now) a.plane g.row.N a.side a.x c.loop-j.j (omega arith) c.requires.marks_in)

pub loop-j-preserved : goal.loop-j-preserved
loop-j-preserved g c =
    λ v k e. column_more _ _ _ v _ _ _ _ _ _ k c.loop-j.j _ (c.loop-j.invariant v k e) e c.factor.ensures c.times.ensures
    c.lay_mark.ensures

pub returns-2 : goal.returns-2
returns-2 g c =
    let last : suc g.row.N ≡ c.loop-j.j + 1 = omega arith in
    λ v k e. rw last
    (column_more _ _ _ v _ _ _ _ _ _ k c.loop-j.j _ (c.loop-j.invariant v k e) e c.factor.ensures c.times.ensures
    c.lay_mark.ensures)
