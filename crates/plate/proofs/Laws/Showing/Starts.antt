-- Where a channel's sums lie: each row's sums stay in the cells that are theirs.
use Rattle.std.proofs.Common.{◌≡◌, ℕ, ◌+◌, ◌-◌, ◌*◌, ◌%◌, ◌<◌, ◌≤◌, refl, mul-le-mul_right, arith, below_none, below_more}
use Rattle.kernels_model.proofs.Numbers.Choices.{by_lt}
use Rattle.plate_model.proofs.Numbers.Extents.{row_in}
use Rattle.plate.specs.Passes.{Channel, Starts, marks_end, two_lines, falling_one_from, falling_two_from, rising_one_from}
use Rattle.plate.specs.Passes.{rising_two_from, down_from, sums_end, falling_one_at, falling_two_at, rising_one_at, rising_two_at}
use Rattle.plate.specs.Passes.{starts_at, InOrder, sum_start}

-- a row's lines that go 2 rows a column are the first or the second of that kind
pub side_le : (row lines : ℕ) → (row % 2) * lines ≤ lines
side_le row lines = let k : row % 2 ≤ 1 = omega arith in omega (arith, mul-le-mul_right lines k)

by_side : {P : Type 0} (row lines : ℕ) → (row % 2 ≡ 0 → (row % 2) * lines ≡ 0 → P) → (row % 2 ≡ 1 → (row % 2) * lines ≡ lines → P)
    → P
by_side row lines p q =
    by_lt (row % 2) 1
    (λ a. let e : row % 2 ≡ 0 = omega arith in p e (rw e (omega arith)))
    (λ a. let e : row % 2 ≡ 1 = omega arith in q e (rw e (omega arith)))

two_on : (row : ℕ) → (row + 2) % 2 ≡ row % 2
two_on row = omega arith

-- a row's sums lie between those of the kinds before and after them
pub record InPlace (p : Channel) (starts : Starts) : Type 0 where
  pub third : starts.third ≡ p.sums
  pub second : starts.second ≡ p.sums + p.columns
  pub falling_one : falling_one_from p ≤ starts.falling_one
  pub falling_one_end : starts.falling_one + p.columns ≤ falling_two_from p
  pub falling_two : falling_two_from p ≤ starts.falling_two
  pub falling_two_end : starts.falling_two + p.columns ≤ rising_one_from p
  pub rising_one : rising_one_from p ≤ starts.rising_one
  pub rising_one_end : starts.rising_one + p.columns ≤ rising_two_from p
  pub rising_two : rising_two_from p ≤ starts.rising_two
  pub rising_two_end : starts.rising_two + p.columns ≤ down_from p
  pub down : starts.down ≡ down_from p

-- the rows of the plane, and two below it
pub in_place : (p : Channel) (row : ℕ) → row < p.high + 2 → InPlace p (starts_at p row)
unfolding starts_at
in_place p row l =
    let k = side_le row (two_lines p) in
    record {
      third = refl;
      second = refl;
      falling_one = omega arith;
      falling_one_end = omega arith;
      falling_two = omega arith;
      falling_two_end = omega arith;
      rising_one = omega arith;
      rising_one_end = omega arith;
      rising_two = omega arith;
      rising_two_end = omega arith;
      down = refl;
    }

pub in_order : (p : Channel) (row scratch planes : ℕ) → row < p.high → p.columns ≤ p.wide → sums_end p ≤ scratch
    → marks_end p ≤ planes → InOrder (starts_at p row) p.columns scratch planes
unfolding starts_at
in_order p row scratch planes l narrow f g =
    let here = in_place p row (omega arith) in
    let k = row_in row p.wide p.high l in
    omega arith

-- j is none of the n places from a on
abbrev pub Out : ℕ → ℕ → ℕ → Type 0
Out a n j = (i : ℕ) → i < n → j ≡ a + i → ⊥

-- a place in none of a row's sums
pub record Away (starts : Starts) (n j : ℕ) : Type 0 where
  pub third : Out starts.third n j
  pub second : Out starts.second n j
  pub falling_one : Out starts.falling_one n j
  pub falling_two : Out starts.falling_two n j
  pub rising_one : Out starts.rising_one n j
  pub rising_two : Out starts.rising_two n j
  pub down : Out starts.down n j

pub away : (starts : Starts) (n j : ℕ) → Away starts n j → (c i : ℕ) → c < 7 → i < n → j ≡ sum_start starts c + i → ⊥
away starts n j o c i h =
    below_more P 6
    (below_more P 5
    (below_more P 4
    (below_more P 3
    (below_more P 2 (below_more P 1 (below_more P 0 (below_none P) o.third) o.second) o.falling_one)
    o.falling_two)
    o.rising_one)
    o.rising_two)
    o.down
    c (omega arith) i
  where
    P : ℕ → Type 0
    P c = Out (sum_start starts c) n j

module _ (p : Channel) (starts : Starts) (here : InPlace p starts) where
  pub away_before : (j : ℕ) → j < p.sums → Away starts p.columns j
  away_before j f = omega arith

  pub away_after : (j : ℕ) → sums_end p ≤ j → Away starts p.columns j
  away_after j f = omega arith

  pub away_falling_one : (j : ℕ) → falling_one_from p ≤ j → j < falling_two_from p → Out starts.falling_one p.columns j
      → Away starts p.columns j
  away_falling_one j f g o =
      record {
        third = omega arith;
        second = omega arith;
        falling_one = o;
        falling_two = omega arith;
        rising_one = omega arith;
        rising_two = omega arith;
        down = omega arith;
      }

  pub away_falling_two : (j : ℕ) → falling_two_from p ≤ j → j < rising_one_from p → Out starts.falling_two p.columns j
      → Away starts p.columns j
  away_falling_two j f g o =
      record {
        third = omega arith;
        second = omega arith;
        falling_one = omega arith;
        falling_two = o;
        rising_one = omega arith;
        rising_two = omega arith;
        down = omega arith;
      }

  pub away_rising_one : (j : ℕ) → rising_one_from p ≤ j → j < rising_two_from p → Out starts.rising_one p.columns j
      → Away starts p.columns j
  away_rising_one j f g o =
      record {
        third = omega arith;
        second = omega arith;
        falling_one = omega arith;
        falling_two = omega arith;
        rising_one = o;
        rising_two = omega arith;
        down = omega arith;
      }

  pub away_rising_two : (j : ℕ) → rising_two_from p ≤ j → j < down_from p → Out starts.rising_two p.columns j
      → Away starts p.columns j
  away_rising_two j f g o =
      record {
        third = omega arith;
        second = omega arith;
        falling_one = omega arith;
        falling_two = omega arith;
        rising_one = omega arith;
        rising_two = o;
        down = omega arith;
      }

-- THE LINES OF TWO ROWS
module _ (p : Channel) (row : ℕ) where
  pub falling_one_step : row < p.high → falling_one_at p (row + 1) + 1 ≡ falling_one_at p row
  falling_one_step l = omega arith

  pub falling_two_step : row < p.high → falling_two_at p (row + 2) + 1 ≡ falling_two_at p row
  falling_two_step l = rw (two_on row) (omega arith)

  pub rising_one_step : rising_one_at p (row + 1) ≡ rising_one_at p row + 1
  rising_one_step = omega arith

  pub rising_two_step : rising_two_at p (row + 2) ≡ rising_two_at p row + 1
  rising_two_step = rw (two_on row) (omega arith)

  -- a line that starts at a later row is in no earlier row
  pub falling_one_later : (r : ℕ) → row + 1 ≤ r → r < p.high + 1 → Out (falling_one_at p row) p.columns (falling_one_at p r)
  falling_one_later r g l i k e = omega arith

  pub falling_two_later : (r : ℕ) → row + 2 ≤ r → r < p.high + 2 → Out (falling_two_at p row) p.columns (falling_two_at p r)
  falling_two_later r g l i k e =
      by_side row (two_lines p)
      (λ u v. by_side r (two_lines p) (λ c q. omega arith) (λ c q. omega arith))
      (λ u v. by_side r (two_lines p) (λ c q. omega arith) (λ c q. omega arith))

  pub rising_one_later : (r : ℕ) → row + 1 ≤ r → Out (rising_one_at p row) p.columns (rising_one_at p r + (p.columns - 1))
  rising_one_later r g i k e = omega arith

  pub rising_two_later : (r : ℕ) → row + 2 ≤ r → r < p.high + 2
      → Out (rising_two_at p row) p.columns (rising_two_at p r + (p.columns - 1))
  rising_two_later r g l i k e =
      by_side row (two_lines p)
      (λ u v. by_side r (two_lines p) (λ c q. omega arith) (λ c q. omega arith))
      (λ u v. by_side r (two_lines p) (λ c q. omega arith) (λ c q. omega arith))

  -- the first cell of an earlier row's lines is in no later row
  pub rising_two_earlier : (r : ℕ) → 0 < p.columns → row < p.high → r < row
      → Out (rising_two_at p row) p.columns (rising_two_at p r)
  rising_two_earlier r some l g i k e =
      by_side row (two_lines p)
      (λ u v. by_side r (two_lines p) (λ c q. omega arith) (λ c q. omega arith))
      (λ u v. by_side r (two_lines p) (λ c q. omega arith) (λ c q. omega arith))

  -- even and odd rows have lines of their own
  pub falling_two_other : (r x : ℕ) → r ≡ row + 1 → r < p.high + 2 → x < p.columns
      → Out (falling_two_at p row) p.columns (falling_two_at p r + x)
  falling_two_other r x g l f i k e =
      by_side row (two_lines p)
      (λ u v. by_side r (two_lines p) (λ c q. omega arith) (λ c q. omega arith))
      (λ u v. by_side r (two_lines p) (λ c q. omega arith) (λ c q. omega arith))

  pub rising_two_other : (r x : ℕ) → r ≡ row + 1 → r < p.high + 2 → x < p.columns
      → Out (rising_two_at p row) p.columns (rising_two_at p r + x)
  rising_two_other r x g l f i k e =
      by_side row (two_lines p)
      (λ u v. by_side r (two_lines p) (λ c q. omega arith) (λ c q. omega arith))
      (λ u v. by_side r (two_lines p) (λ c q. omega arith) (λ c q. omega arith))
