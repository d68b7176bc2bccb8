-- The finished sums of the image are kept, the pictures are rounded from them, and the scratch is cleared at the end.
use Rattle.std.proofs.Common.{arith, rules}
use Rattle.plate.proofs.Laws.Showing.Keeping.{all_kept}
use Rattle.plate.proofs.kept.keep_all.Goals as goal

pub returns : goal.returns
returns c =
    all_kept c.args.state _ _ _ c.keep_rows.new.scratch _ _ _ _ _ _ c.keep_rows.new.sums c.light_channel-light.ensures c.requires
    (omega arith) (omega arith) (rw c.of-image.ensures at c.keep_rows.ensures)
    (rw (c.split_at.ensures.front, c.split_at.ensures.back, c.of-image.ensures) at c.round_row.ensures)
    (search rules)
