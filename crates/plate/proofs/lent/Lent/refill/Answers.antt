-- Planes and log are cleared; after all rows each pixel's marks lie there and its word is stored.
use Rattle.std.proofs.Common.{arith}
use Rattle.plate.proofs.Laws.Filling.Filling.{filled_all}
use Rattle.plate.proofs.lent.Lent.refill.Goals as goal

pub returns-clause-refilled : goal.returns-clause-refilled
returns-clause-refilled c =
    record {
      laid = rw (c.fill_rows.ensures.laid, c.clear.ensures);
      stored = filled_all _ _ _ _ _ _ (omega (arith, c.requires.pixels_are)) c.fill_rows.ensures;
      emptied = c.clear-2.ensures;
    }
