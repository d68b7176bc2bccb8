-- What is lent of the buffers: a plate whose cells there is room for gets its cells and places, another nothing.
use mathlib.Core.Path.{◌≡◌}
use Prim.Native.Nat.{ℕ, suc, ◌≤◌, ◌<◌}
use native.Mathlib.Omega.{arith}
use borrow.Author.Tests.{lt-ltb, le-ltb}
use Rattle.kernels_model.proofs.Numbers.Choices.{by_lt}
use Rattle.kernels_model.proofs.Numbers.Products.{product_le}
use Rattle.plate_model.specs.Layout.{wide, high, padded, places}
use Rattle.plate_model.specs.declared.size.Size.{Size}
use Rattle.records_model.specs.Machine.{if_room, lent_cells, lent_places}
use Rattle.records_model.specs.Fixed.{cells_top}

pub has_room : (z : Size) (n : ℕ) → padded z ≤ cells_top → if_room z n ≡ n
has_room z n h = rw (le-ltb cells_top (padded z) h)

pub no_room : (z : Size) (n : ℕ) → cells_top < padded z → if_room z n ≡ 0
no_room z n h = rw (lt-ltb cells_top (padded z) h)

pub places_few : (z : Size) → places z ≤ padded z
places_few z = product_le z.width z.height (wide z) (high z) (omega arith) (omega arith)

-- one long side is enough for too many cells
pub long : (z : Size) → cells_top < wide z → cells_top < padded z
long z h = omega (arith, product_le (suc cells_top) 1 (wide z) (high z) h (omega arith))

pub tall : (z : Size) → cells_top < high z → cells_top < padded z
tall z h = omega (arith, product_le 1 (suc cells_top) (wide z) (high z) (omega arith) h)

-- so the lengths of what is lent are within the buffers
pub cells_within : (z : Size) → lent_cells z ≤ cells_top
cells_within z =
    by_lt cells_top (padded z) (λ h. rw (no_room z (padded z) h) (omega arith)) (λ h. rw (has_room z (padded z) h) h)

pub places-within : (z : Size) → lent_places z ≤ cells_top
places-within z =
    by_lt cells_top (padded z) (λ h. rw (no_room z (places z) h) (omega arith))
    (λ h. rw (has_room z (places z) h) (omega (arith, places_few z)))
