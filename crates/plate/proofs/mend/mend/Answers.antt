use Rattle.std.proofs.Common.{◌≡◌, ◌+◌, ℕ, ap, ◌∙◌, arith}
use Rattle.std.specs.declared.ops.Range.{Range}
use Rattle.plate.proofs.Laws.Mending.Mended.{all_mended}
use Rattle.plate.proofs.Laws.Mending.Rows.{rows_next, rows_mended}
use Rattle.plate.proofs.mend.mend.Goals as goal

pub loop-row-preserved : goal.loop-row-preserved
loop-row-preserved c =
    let a = c.args in
    let old = c.loop-row.invariant in
    let y = c.in-Some.row in
    let here : c.loop-row.row-iterator.start ≡ y = omega (arith, c.in-Some.ensures.steps) in
    let next : c.next.new.self.start ≡ y + 1 = omega (arith, c.in-Some.ensures.steps) in
    record {
      end_is = omega (arith, c.in-Some.ensures.steps);
      inside = old.inside;
      low = omega arith;
      mended = rw next
          (rows_next a.size a.change c.into_iter-row-iterator.result.start y _ _ _ (omega arith) (rw here at old.mended) c.mend.ensures);
    }

pub returns : goal.returns
returns c =
    let a = c.args in
    let pre = c.requires in
    let all = c.cells_around-row-items in
    let same = c.into_iter-row-iterator.ensures.into_iter_gives in
    all_mended _ _ _ _ pre.sums_are pre.values_are pre.mattes_are
    (rows_mended _ _ _ _ _ _ c.loop-row.row-iterator.start c.max.result pre
    (omega (arith, c.max.ensures, c.reach-old_reach.ensures)) (omega (arith, c.max.ensures, c.reach-new_reach.ensures))
    (ap (λ (r : Range ℕ). r.start) same ∙ all.ensures.0) (ap (λ (r : Range ℕ). r.end) same ∙ all.ensures.1)
    (omega (arith, c.in-None.ensures.steps)) c.loop-row.invariant.mended)
