use Rattle.std.proofs.Common.{◌≡◌, ◌+◌, ◌%◌, ◌^◌, ℕ, ap, ◌∙◌, arith}
use Rattle.plate.specs.Passes.{Starts, starts_at, down_from}
use Rattle.plate.specs.Totalling.{whole_channel}
use Rattle.plate.proofs.Laws.Showing.Totals.{added_start, added_next, part_sum}
use Rattle.plate.proofs.total.add_up.Goals as goal

pub loop-row-init : goal.loop-row-init
loop-row-init c =
    let p = whole_channel c.args.frame c.args.marks in
    record {
      added = record { same = c.start_sums.ensures.only.same; sum_is = (added_start p c.args.planes.now c.args.scratch.now).sum_is };
      summed = c.start_sums.ensures.to;
    }

pub overflow_add-down : goal.overflow_add-down
unfolding starts_at
overflow_add-down c =
    let down = ap (λ (s : Starts). s.down) c.starts_at-down.ensures in
    omega (arith, down, c.requires.sums_in)

pub offset_bounds-scratch-down : goal.offset_bounds-scratch-down
unfolding starts_at
offset_bounds-scratch-down c =
    let down = ap (λ (s : Starts). s.down) c.starts_at-down.ensures in
    omega (arith, down, c.requires.sums_in)

pub slice_bounds-add_cells-end : goal.slice_bounds-add_cells-end
unfolding starts_at
slice_bounds-add_cells-end c =
    let down = ap (λ (s : Starts). s.down) c.starts_at-down.ensures in
    omega (arith, down, c.requires.sums_in, c.sum_next.ensures.only.same, c.loop-row.invariant.added.same)

pub loop-row-preserved : goal.loop-row-preserved
unfolding starts_at
loop-row-preserved c =
    let p = whole_channel c.args.frame c.args.marks in
    let down : c.starts_at-down.result.down ≡ down_from p = ap (λ (s : Starts). s.down) c.starts_at-down.ensures in
    let cells = part_sum c.sum_next.new.scratch c.starts_at-down.result.down _ p.columns (omega arith)
    (omega (arith, down, c.requires.sums_in, c.sum_next.ensures.only.same, c.loop-row.invariant.added.same)) in
    record {
      added = added_next p c.args.planes.now _ c.loop-row.scratch _ c.loop-row.row c.loop-row.sum c.starts_at-down.result.down _
          c.loop-row.invariant.added c.sum_next.ensures.only.same c.sum_next.ensures.to down
          (c.add_cells-sum.ensures ∙ ap (λ (n : ℕ). (c.loop-row.sum + n) % 2 ^ 64) cells);
      summed = c.sum_next.ensures.to;
    }
