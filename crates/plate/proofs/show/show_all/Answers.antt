-- The rows of the image show the finished sums, and the scratch is cleared at the end.
use Rattle.std.proofs.Common.{arith, rules}
use Rattle.plate.proofs.Laws.Showing.Image.{all_shown}
use Rattle.plate.proofs.show.show_all.Goals as goal

pub returns : goal.returns
returns c =
    all_shown c.args.state _ _ c.show_rows.new.scratch _ _ _ _ _ c.requires
    (omega arith)
    (omega arith)
    (omega arith)
    (rw (c.light_channel-light.ensures, c.of-image.ensures) at c.show_rows.ensures)
    (search rules)
