use Rattle.std.proofs.Common.{◌≡◌, ◌+◌, ◌<◌, ℕ, ap, ◌∙◌, arith}
use Rattle.std.specs.declared.ops.Range.{Range}
use Rattle.plate.proofs.Laws.Mending.Mended.{range_next}
use Rattle.plate.proofs.Laws.Mending.Rows.{still_ready, cell_ready, column_mended, row-mended, span_low}
use Rattle.plate.proofs.mend.ReachedRow.mend_cells.Goals as goal

pub cells_around-column-items-requires : goal.cells_around-column-items-requires
cells_around-column-items-requires c =
    let low = span_low _ _ _ _ _ _ c.requires in
    (c.requires.ready.change.column_in, c.requires.ready.change.lawful.width_top, omega (arith, c.max-span.ensures, low.0, low.1))

pub mend_cell-requires : goal.mend_cell-requires
mend_cell-requires c =
    cell_ready _ _ _ (still_ready _ _ _ c.requires.ready _ _ c.loop-column.invariant.mended) c.args.self.row c.requires.row_in _ _
    c.requires.old_is c.requires.new_is c.in-Some.column (omega (arith, c.in-Some.ensures.steps))

pub loop-column-preserved : goal.loop-column-preserved
loop-column-preserved c =
    let a = c.args.self in
    let old = c.loop-column.invariant in
    let x = c.in-Some.column in
    let inside : x < a.size.width = omega (arith, c.in-Some.ensures.steps) in
    let here : c.loop-column.column-iterator.start ≡ x = omega (arith, c.in-Some.ensures.steps) in
    let next : c.next.new.self.start ≡ x + 1 = omega (arith, c.in-Some.ensures.steps) in
    let done = column_mended _ _ _ (still_ready _ _ _ c.requires.ready _ _ old.mended) a.row c.requires.row_in _ _
    c.requires.old_is c.requires.new_is x _ inside (rw c.abs_diff-dx.ensures at c.mend_cell.ensures) in
    record {
      end_is = omega (arith, c.in-Some.ensures.steps);
      inside = old.inside;
      low = omega arith;
      high = omega (arith, c.in-Some.ensures.steps);
      mended = rw next
          (range_next a.size a.change a.row c.into_iter-column-iterator.result.start x _ _ _ inside (omega arith) (rw here at old.mended) done);
    }

pub returns : goal.returns
returns c =
    let all = c.cells_around-column-items in
    let same = c.into_iter-column-iterator.ensures.into_iter_gives in
    let old = c.loop-column.invariant in
    row-mended _ _ _ c.requires.ready c.args.self.row c.requires.row_in _ _ c.requires.old_is c.requires.new_is _ _
    c.loop-column.column-iterator.start c.max-span.result _ (omega (arith, c.max-span.ensures))
    (ap (λ (r : Range ℕ). r.start) same ∙ all.ensures.0) (ap (λ (r : Range ℕ). r.end) same ∙ all.ensures.1)
    (omega (arith, c.in-None.ensures.steps)) old.high old.mended
