-- A channel's sums, one row further.
use Rattle.std.proofs.Common.{◌≡◌, ℕ, zero, suc, ◌+◌, ◌*◌, ◌%◌, ◌^◌, ◌<◌, ◌≤◌, List, get_or, sym, refl, ap, ◌∙◌, add-one, arith}
use native.Mathlib.Nat.{mod-mod}
use Rattle.kernels_model.specs.Fixed.{level, second_box, third_box}
use Rattle.kernels_model.specs.Sum.{sum, Row, Plane, Planes, running, across, down, add, slope, chain}
use Rattle.kernels_model.proofs.Numbers.Choices.{if_within, within_yes, within_no}
use Rattle.kernels_model.proofs.Sums.FiniteSums.{cong_add}
use Rattle.kernels_model.proofs.Sums.PlaneSums.{slope-zero}
use Rattle.plate.specs.Passes.{Channel, rise_two, rise_one, fall_one, fall_two, planes_in, slope_sums, falling_one_at, falling_two_at}
use Rattle.plate.specs.Passes.{rising_one_at, rising_two_at, down_from, starts_at, RowSummed, marks_in, onto, plus, third_row}
use Rattle.plate.specs.Passes.{second_row, level_row, row_with, row_without, slopes_row, sum_cell, FallingLines, RisingLines}
use Rattle.plate.specs.Passes.{SummedTo, RowReady, Summed}
use Rattle.plate.proofs.Laws.Showing.Starts.{InPlace, in_place, Away, away, away_before, away_after, away_falling_one}
use Rattle.plate.proofs.Laws.Showing.Starts.{away_falling_two, away_rising_one, away_rising_two, falling_one_step}
use Rattle.plate.proofs.Laws.Showing.Starts.{falling_two_step, rising_one_step, rising_two_step, falling_one_later}
use Rattle.plate.proofs.Laws.Showing.Starts.{falling_two_later, rising_one_later, rising_two_later, falling_two_other}
use Rattle.plate.proofs.Laws.Showing.Starts.{rising_two_other}
use Rattle.plate.proofs.Laws.Showing.SlopeLines.{slope_from_above, falling_next, from_below_in, rising_next}

-- THE PLANES' CELLS
pub mark-is : (p : Channel) (m : List ℕ) (d x y : ℕ) → x < p.wide → y < p.high
    → marks_in m (starts_at p y) d x ≡ planes_in p m d x y
unfolding planes_in starts_at
mark-is p m d x y a b =
    let i : p.marks + y * p.wide + x + d * (p.wide * p.high)
    ≡ p.marks + d * (p.wide * p.high) + (y * p.wide + x) = omega arith in
    rw (i, within_yes (suc x) p.wide _ a, within_yes (suc y) p.high _ b)

pub plane_below : (p : Channel) (m : List ℕ) (d x y : ℕ) → p.high ≤ y → planes_in p m d x y ≡ 0
unfolding planes_in
plane_below p m d x y b =
    if_within (suc x) p.wide _ 0 (λ a. within_no (suc y) p.high _ (omega arith)) (λ a. refl)

-- THE BOX PLANES
pub sum_cong_lt : (f g : Row) (n : ℕ) → ((k : ℕ) → k < n → f k % 2 ^ 64 ≡ g k % 2 ^ 64) → sum f n % 2 ^ 64 ≡ sum g n % 2 ^ 64
unfolding sum
sum_cong_lt f g zero h = refl
sum_cong_lt f g (suc n) h = cong_add _ _ _ _ (sum_cong_lt f g n (λ k l. h k (omega arith))) (h n (omega arith))

-- a row that is F's row y, across, on F's rows above it
down-row : (s : List ℕ) (t n y : ℕ) (f : Row) (F : Plane) → ((x : ℕ) → x < n → f x % 2 ^ 64 ≡ F x y % 2 ^ 64)
    → ((x : ℕ) → x < n → get_or s (t + x) 0 ≡ sum (across F x) y % 2 ^ 64)
    → (x : ℕ) → x < n → onto s t f x % 2 ^ 64 ≡ down (across F) x y % 2 ^ 64
unfolding onto down across running sum
down-row s t n y f F e k x h =
    omega (arith, k x h, sum_cong_lt f (λ i. F i y) (suc x) (λ i l. e i (omega arith)))

plus-row : (g : Row) (n y : ℕ) (f : Row) (F G : Plane) → ((x : ℕ) → x < n → g x ≡ G x y)
    → ((x : ℕ) → x < n → f x % 2 ^ 64 ≡ F x y % 2 ^ 64)
    → (x : ℕ) → x < n → plus f g x % 2 ^ 64 ≡ add G F x y % 2 ^ 64
unfolding plus add
plus-row g n y f F G q e x h = omega (arith, e x h, q x h)

-- THE LINES
falling_is : (k n h : ℕ) (o : ℕ → ℕ) (f : Plane) (row : Row) (s : List ℕ) (y x : ℕ) → 0 < k → FallingLines k n h o f s y → x < n
    → row x ≡ f x y → row_with s (o y) row x % 2 ^ 64 ≡ slope k 0 f x y % 2 ^ 64
unfolding row_with
falling_is k n h o f row s y x pos lines l e =
    omega (arith, lines.brings y x (omega arith) (omega arith) l, slope_from_above k f x y)

rising_is : (k n h : ℕ) (o : ℕ → ℕ) (f : Plane) (s : List ℕ) (y x : ℕ) → 0 < k → y < h → RisingLines k n h o f s y → x < n
    → get_or s (o y + x) 0 % 2 ^ 64 ≡ slope 0 k f x y % 2 ^ 64
rising_is k n h o f s y x pos low lines l =
    omega (arith, lines.brings y x (omega arith) (omega arith) l, from_below_in h k f x y low)

-- the five sums of a cell
down_is : (t e d1 d2 u1 u2 t' e' d1' d2' u1' u2' : ℕ) → t ≡ t' % 2 ^ 64 → e % 2 ^ 64 ≡ e' % 2 ^ 64 → d1 % 2 ^ 64 ≡ d1' % 2 ^ 64
    → d2 % 2 ^ 64 ≡ d2' % 2 ^ 64 → u1 % 2 ^ 64 ≡ u1' % 2 ^ 64 → u2 % 2 ^ 64 ≡ u2' % 2 ^ 64
    → (t + (e + d1 + d2 + u1 + u2)) % 2 ^ 64 ≡ (t' + (u2' + (u1' + (e' + (d1' + d2'))))) % 2 ^ 64
down_is t e d1 d2 u1 u2 t' e' d1' d2' u1' u2' p q r1 r2 k1 k2 =
    cong_add t t' _ _ (rw p (mod-mod t' (2 ^ 64)))
    (cong_add _ _ u2 u2' (cong_add _ _ u1 u1' (cong_add _ _ d2 d2' (cong_add e e' d1 d1' q r1) r2) k1) k2)
    ∙ ap (λ (v : ℕ). v % 2 ^ 64) order
  where
    order : t' + (e' + d1' + d2' + u1' + u2') ≡ t' + (u2' + (u1' + (e' + (d1' + d2'))))
    order = omega arith

module _ (p : Channel) (m s s' : List ℕ) (y : ℕ) (ready : RowReady p s m y)
    (new : RowSummed m s s' (starts_at p y) p.columns) where
  M : Planes
  M = planes_in p m

  mark : (d x : ℕ) → x < p.columns → marks_in m (starts_at p y) d x ≡ M d x y
  unfolding M
  mark d x l = mark-is p m d x y (omega arith) (omega arith)

  kept : (j : ℕ) → Away (starts_at p y) p.columns j → get_or s' j 0 ≡ get_or s j 0
  kept j o = new.rest j (away (starts_at p y) p.columns j o)

  third_is : (x : ℕ) → x < p.columns → third_row m s (starts_at p y) x % 2 ^ 64 ≡ down (across (M third_box)) x y % 2 ^ 64
  unfolding third_row starts_at M
  third_is =
      down-row s p.sums p.columns y (marks_in m (starts_at p y) third_box) (M third_box)
      (λ x l. ap (λ (v : ℕ). v % 2 ^ 64) (mark third_box x l))
      ready.to.third

  second_is : (x : ℕ) → x < p.columns
      → second_row m s (starts_at p y) x % 2 ^ 64 ≡ down (across (add (M second_box) (down (across (M third_box))))) x y % 2 ^ 64
  unfolding second_row starts_at M
  second_is =
      down-row s (p.sums + p.columns) p.columns y _ (add (M second_box) (down (across (M third_box))))
      (plus-row _ p.columns y _ (down (across (M third_box))) (M second_box) (mark second_box) third_is)
      ready.to.second

  level_is : (x : ℕ) → x < p.columns
      → sum (level_row m s (starts_at p y)) (suc x) % 2 ^ 64 ≡ slope 0 0 (chain M) x y % 2 ^ 64
  unfolding level_row chain across running
  level_is x l =
      sum_cong_lt _ (λ i. chain M i y) (suc x)
      (λ i g. plus-row _ p.columns y _ (down (across (add (M second_box) (down (across (M third_box)))))) (M level) (mark level)
      second_is i (omega arith))
      ∙ ap (λ (f : Plane). f x y % 2 ^ 64) (sym (slope-zero (chain M)))

  here : InPlace p (starts_at p y)
  here = in_place p y (omega arith)

  falling_one-next : FallingLines 1 p.columns p.high (falling_one_at p) (M fall_one) s' (y + 1)
  unfolding sum_cell row_with starts_at M
  falling_one-next =
      falling_next 1 p.columns p.high (falling_one_at p) (M fall_one) s s' y (omega arith) (omega arith)
      (falling_one_step p y (omega arith))
      (λ i l. new.done 2 i (omega arith) l ∙ rw (mark fall_one i l))
      (λ r x g l e. absurd (omega arith))
      (λ r g l. kept _ (away_falling_one p _ here _ (omega arith) (omega arith) (falling_one_later p y r g l)))
      ready.to.falling_one

  falling_two_next : FallingLines 2 p.columns p.high (falling_two_at p) (M fall_two) s' (y + 1)
  unfolding sum_cell row_with starts_at M
  falling_two_next =
      falling_next 2 p.columns p.high (falling_two_at p) (M fall_two) s s' y (omega arith) (omega arith)
      (falling_two_step p y (omega arith))
      (λ i l. new.done 3 i (omega arith) l ∙ rw (mark fall_two i l))
      (λ r x g l e.
      let q = in_place p r (omega arith) in
      kept _ (away_falling_two p _ here _ (omega (arith, q.falling_two)) (omega (arith, q.falling_two_end))
      (falling_two_other p y r x (omega arith) (omega arith) e)))
      (λ r g l.
      let q = in_place p r (omega arith) in
      kept _ (away_falling_two p _ here _ q.falling_two (omega (arith, q.falling_two_end)) (falling_two_later p y r g l)))
      ready.to.falling_two

  rising_one-next : RisingLines 1 p.columns p.high (rising_one_at p) (M rise_one) s' (y + 1)
  unfolding sum_cell row_without starts_at M
  rising_one-next =
      rising_next p.high 1 (M rise_one) (plane_below p m rise_one) p.columns (rising_one_at p) s s' y ready.fits.some
      (omega arith) (omega arith)
      (rising_one_step p y)
      (λ r x g l e. absurd (omega arith))
      (λ r g l. kept _ (away_rising_one p _ here _ (omega arith) (omega arith) (rising_one_later p y r g)))
      (λ i l. new.done 4 i (omega arith) l ∙ rw (mark rise_one i l))
      ready.to.rising_one

  rising_two_next : RisingLines 2 p.columns p.high (rising_two_at p) (M rise_two) s' (y + 1)
  unfolding sum_cell row_without starts_at M
  rising_two_next =
      rising_next p.high 2 (M rise_two) (plane_below p m rise_two) p.columns (rising_two_at p) s s' y ready.fits.some
      (omega arith) (omega arith)
      (rising_two_step p y)
      (λ r x g l e.
      let q = in_place p r (omega arith) in
      kept _ (away_rising_two p _ here _ (omega (arith, q.rising_two)) (omega (arith, q.rising_two_end))
      (rising_two_other p y r x (omega arith) (omega arith) e)))
      (λ r g l.
      let q = in_place p r (omega arith) in
      kept _ (away_rising_two p _ here _ (omega (arith, q.rising_two)) (omega (arith, q.rising_two_end))
      (rising_two_later p y r g l)))
      (λ i l. new.done 5 i (omega arith) l ∙ rw (mark rise_two i l))
      ready.to.rising_two

  finished_next : (x : ℕ) → x < p.columns → get_or s' (down_from p + x) 0 ≡ sum (slope_sums M x) (y + 1) % 2 ^ 64
  unfolding sum_cell slopes_row starts_at M slope_sums add sum
  finished_next x l =
      new.done 6 x (omega arith) l
      ∙ down_is _ _ _ _ _ _ _ _ _ _ _ _
      (ready.to.finished x l)
      (level_is x l)
      (falling_is 1 p.columns p.high (falling_one_at p) (M fall_one) _ s y x (omega arith) ready.to.falling_one l
      (mark fall_one x l))
      (falling_is 2 p.columns p.high (falling_two_at p) (M fall_two) _ s y x (omega arith) ready.to.falling_two l
      (mark fall_two x l))
      (rising_is 1 p.columns p.high (rising_one_at p) (M rise_one) s y x (omega arith) (omega arith) ready.to.rising_one l)
      (rising_is 2 p.columns p.high (rising_two_at p) (M rise_two) s y x (omega arith) (omega arith) ready.to.rising_two l)
      ∙ rw (add-one y)

  summed_to : SummedTo p m s' (y + 1)
  unfolding sum_cell starts_at M down running sum
  summed_to =
      record {
        third = λ x l. rw (add-one y) (new.done 0 x (omega arith) l ∙ third_is x l);
        second = λ x l. rw (add-one y) (new.done 1 x (omega arith) l ∙ second_is x l);
        falling_one = falling_one-next;
        falling_two = falling_two_next;
        rising_one = rising_one-next;
        rising_two = rising_two_next;
        finished = finished_next;
      }

  pub summed-next : Summed p m s s' (y + 1)
  summed-next =
      record {
        only =
            record {
              same = new.same;
              before = λ j l. kept j (away_before p _ here j l);
              after = λ j l. kept j (away_after p _ here j l);
            };
        to = summed_to;
      }
