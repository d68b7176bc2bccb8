-- What laying leaves on a board.
use Rattle.std.specs.Prelude.{◌≡◌, List}
use Rattle.kernels_model.specs.Mark.{Mark}
use Rattle.plate.specs.Laying.{Amounts, Origin, lay_drawn}
use Rattle.plate.specs.declared.lay.Board.{Board}

abbrev pub origin : Board → Origin
origin b = record { wide = b.wide; padded = b.padded; corner = b.corner }

-- marks laid one after the other, each worth its coefficient times w, on the same planes with the same origin
pub record Laid (before after : Board) (w : Amounts) (ms : List Mark) : Type 0 where
  pub planes_stay : after.cells.ghost_name ≡ before.cells.ghost_name
  pub origin_stays : origin after ≡ origin before
  pub cells_are : after.cells.now ≡ lay_drawn (origin before) w before.cells.now ms
