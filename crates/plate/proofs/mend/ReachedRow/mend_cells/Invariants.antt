-- The columns of the range before this one are mended.
use Rattle.std.proofs.Common.{◌≡◌, ◌+◌, ◌-◌, ◌≤◌}
use Rattle.plate_model.specs.Lent.{canvas}
use Rattle.plate.specs.Mending.{MendedWhere}
use Rattle.plate.proofs.Laws.Mending.Mended.{InRange}
use Rattle.plate.proofs.mend.ReachedRow.mend_cells.Given as goal

abbrev pub invariant-loop-column : goal.invariant-loop-column
invariant-loop-column l =
    let all = l.initial.column-iterator in
    let left = l.column-iterator in
    record {
      end_is : left.end ≡ all.end;
      inside : all.end ≤ l.self.size.width;
      low : all.start ≤ left.start;
      high : left.start ≤ all.start + (all.end - all.start);
      mended : MendedWhere l.self.size l.self.change (InRange l.self.size l.self.row all.start left.start) (canvas l.fn.sums l.fn.values l.fn.mattes)
          (canvas l.sums l.values l.mattes);
    }
