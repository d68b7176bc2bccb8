-- Sums: of finitely many numbers, and the sums that finish a picture's planes.
-- They are plain sums of natural numbers. "Sums wrap at 2^64 on the way": cells are compared by their remainders at 2^64.
use Rattle.std.specs.Prelude.{ℕ, zero, suc, ◌+◌, ◌-◌}
use Rattle.kernels_model.specs.Fixed.{level, second_box, third_box}
use Rattle.kernels_model.specs.Choice.{within}

-- f 0 + .. + f (n - 1)
unfoldable pub sum : (ℕ → ℕ) → ℕ → ℕ
sum f zero = 0
sum f (suc n) = sum f n + f n

-- abs (a - b)
abbrev pub dist : ℕ → ℕ → ℕ
dist a b = (a - b) + (b - a)

abbrev pub Row : Type 0
Row = ℕ → ℕ

-- the cell at a column and a row; x grows rightwards, y downwards
abbrev pub Plane : Type 0
Plane = ℕ → ℕ → ℕ

-- a picture's planes, "in this order: slopes −2, −1, 0, 1, 2, second box, third box"
abbrev pub Planes : Type 0
Planes = ℕ → Plane

-- each cell with all before it
unfoldable pub running : Row → Row
running f x = sum f (suc x)

unfoldable pub across : Plane → Plane
across m x y = running (λ i. m i y) x

unfoldable pub down : Plane → Plane
down m x y = running (m x) y

unfoldable pub add : Plane → Plane → Plane
add f g x y = f x y + g x y

-- "Slope sum d: each cell plus the summed cell one column left and d rows up, 0 outside."
-- The slope d is two numbers: d of them down less u of them up.
unfoldable pub slope : ℕ → ℕ → Plane → Plane
slope d u m zero y = m 0 y
slope d u m (suc x) y = m (suc x) y + within d (y + u) (slope d u m x (y + u - d))

-- "summed across and down", n times
unfoldable pub summed : ℕ → Plane → Plane
summed zero m = m
summed (suc n) m = down (across (summed n m))

-- "Third box: summed across and down, added to second; summed again, added to slope 0."
unfoldable pub chain : Planes → Plane
chain m = add (m level) (down (across (add (m second_box) (down (across (m third_box))))))

-- "The five slope sums are added and summed downwards."
unfoldable pub finish : Planes → Plane
finish m =
    down
    (add (slope 0 2 (m 0)) (add (slope 0 1 (m 1)) (add (slope 0 0 (chain m)) (add (slope 1 0 (m 3)) (slope 2 0 (m 4))))))
