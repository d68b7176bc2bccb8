use Rattle.std.proofs.Common.{◌≡◌, ◌+◌, ◌-◌, ap, arith, rules}
use Rattle.plate.specs.Passes.{Starts, starts_at, sums_end}
use Rattle.plate.proofs.Laws.Numbers.Parts.{part_cleared}
use Rattle.plate.proofs.Laws.Showing.Starts.{in_order}
use Rattle.plate.proofs.Laws.Showing.RisingStart.{cleared_only, cleared_ready, laid_start, laid_next, laid_all, laid_from}
use Rattle.plate.proofs.pass.Channel.start_sums.Goals as goal

pub loop-row-init : goal.loop-row-init
unfolding starts_at
loop-row-init c =
    let p = c.args.self in
    let end : c.starts_at.result.down + p.columns ≡ sums_end p = ap (λ (s : Starts). s.down + p.columns) c.starts_at.ensures in
    let cleared = part_cleared c.args.scratch.now c.fill.new.self p.sums (c.starts_at.result.down + p.columns) (omega arith)
    (omega (arith, c.requires.sums_in)) (search rules) in
    laid_start p c.args.planes.now _ (cleared_ready p _ _ _ _ (omega arith) cleared c.requires)

pub lay_row-requires : goal.lay_row-requires
lay_row-requires c =
    rw c.starts_at-in-loop-row.ensures (in_order _ _ _ _ (omega arith) (omega arith) (omega (arith, c.loop-row.auto.scratch)) (omega arith))

pub loop-row-preserved : goal.loop-row-preserved
loop-row-preserved c =
    let row = c.loop-row.row in
    let e : row - 1 + 1 ≡ row = omega arith in
    laid_next c.args.self c.args.planes.now _ c.loop-row.scratch _ (row - 1) c.requires.some c.requires.narrow (omega arith)
    (rw (← e) at c.loop-row.invariant) (rw c.starts_at-in-loop-row.ensures at c.lay_row.ensures)

pub returns : goal.returns
unfolding starts_at
returns c =
    let p = c.args.self in
    let end : c.starts_at.result.down + p.columns ≡ sums_end p = ap (λ (s : Starts). s.down + p.columns) c.starts_at.ensures in
    let cleared = part_cleared c.args.scratch.now c.fill.new.self p.sums (c.starts_at.result.down + p.columns) (omega arith)
    (omega (arith, c.requires.sums_in)) (search rules) in
    let last : c.loop-row.row ≡ 0 = omega arith in
    laid_from p _ _ _ _ (cleared_only p _ _ c.args.planes.now _ (omega arith) cleared)
    (laid_all p _ _ _ (cleared_ready p _ _ _ _ (omega arith) cleared c.requires) (rw last at c.loop-row.invariant))
