-- Each iteration lays the next column of the grid, with its factor.
use Rattle.std.proofs.Common.{◌≡◌, ◌*◌, length, arith}
use Rattle.plate_model.specs.Fixed.{planes_in_all}
use Rattle.plate.specs.Board.{origin}
use Rattle.plate.proofs.Laws.Laying.Amounts.{column_after, columns_in, step_in, grid_none, grid_all, grid_more}
use Rattle.plate.proofs.lay.Board.lay_boxes.Goals as goal

pub loop-i-init : goal.loop-i-init
loop-i-init g c = grid_none _ _ _ _ _

pub overflow_mul-i : goal.overflow_mul-i
overflow_mul-i g c =
    let a = c.args in
    let whole : length a.self.now.cells.now ≡ planes_in_all * a.self.now.padded = a.self.now.whole in
    let far = (columns_in (origin a.self.now) a.plane g.row.N a.side c.loop-i.i (omega arith) c.requires.0).1 in
    omega (arith, step_in g.row.N a.side c.loop-i.i _ (omega arith) far)

pub overflow_add-i : goal.overflow_add-i
overflow_add-i g c =
    let a = c.args in
    let whole : length a.self.now.cells.now ≡ planes_in_all * a.self.now.padded = a.self.now.whole in
    let far = (columns_in (origin a.self.now) a.plane g.row.N a.side c.loop-i.i (omega arith) c.requires.0).1 in
    omega (arith, step_in g.row.N a.side c.loop-i.i _ (omega arith) far)

pub lay_column-requires : goal.lay_column-requires
lay_column-requires g c =
    let a = c.args in
    let column = columns_in (origin a.self.now) a.plane g.row.N a.side c.loop-i.i (omega arith) c.requires.0 in
    column_after _ _ _ g.row.N _ _ c.loop-i.invariant.origin_stays
    (record { marks_in = column.0; last_in = column.1; few = c.requires.1 })

pub loop-i-preserved : goal.loop-i-preserved
loop-i-preserved g c =
    grid_more _ _ _ _ _ _ _ _ c.loop-i.i _ c.loop-i.invariant c.factor.ensures c.times.ensures c.lay_column.ensures

pub returns-2 : goal.returns-2
returns-2 g c =
    grid_all _ _ _ _ g.row.N _ c.loop-i.i (omega arith)
    (grid_more _ _ _ _ _ _ _ _ c.loop-i.i _ c.loop-i.invariant c.factor.ensures c.times.ensures c.lay_column.ensures)
