-- In the rows before this one the cells in reach are mended.
use Rattle.std.proofs.Common.{◌≡◌, ◌≤◌}
use Rattle.plate_model.specs.Lent.{canvas}
use Rattle.plate.specs.Mending.{MendedWhere}
use Rattle.plate.proofs.Laws.Mending.Rows.{InRows}
use Rattle.plate.proofs.mend.mend.Given as goal

abbrev pub invariant-loop-row : goal.invariant-loop-row
invariant-loop-row l =
    let all = l.initial.row-iterator in
    let left = l.row-iterator in
    record {
      end_is : left.end ≡ all.end;
      inside : all.end ≤ l.size.height;
      low : all.start ≤ left.start;
      mended : MendedWhere l.size l.change (InRows l.size l.change all.start left.start) (canvas l.fn.sums l.fn.values l.fn.mattes)
          (canvas l.sums l.values l.mattes);
    }
