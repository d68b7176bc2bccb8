-- A row of a channel: one more column of its seven sums, and of the rising lines.
use Rattle.std.proofs.Common.{◌≡◌, ℕ, ◌+◌, ◌-◌, ◌*◌, ◌%◌, ◌^◌, ◌<◌, ◌≤◌, List, length, get_or, set, refl, ap, ◌∙◌, add-one, arith, below_none, below_more}
use native.Mathlib.Nat.{mod-mod, add-mod-mod}
use Rattle.kernels_model.specs.Fixed.{level, second_box, third_box}
use Rattle.kernels_model.specs.Sum.{sum, Row}
use Rattle.kernels_model.proofs.Sums.FiniteSums.{cong_add}
use Rattle.plate.specs.Passes.{Starts, Across, InOrder, BoxesMet, rise_two, rise_one, fall_one}
use Rattle.plate.specs.Passes.{fall_two, marks_in, onto, plus, third_row, second_row, level_row, row_with, row_without}
use Rattle.plate.specs.Passes.{slopes_row, sum_start, sum_cell, row_start, rising_cell}
use Rattle.plate.proofs.Laws.Showing.Writes.{Apart, apart_rows, apart_two, Writing, writing_start, writing_cell}
use Rattle.plate.proofs.Laws.Showing.Writes.{writing_column}

sums_apart : (starts : Starts) (n l k : ℕ) → InOrder starts n l k → Apart 7 n (sum_start starts)
sums_apart starts n l k o =
    apart_rows 7 n (sum_start starts) (λ c h.
    below_more P 5
    (below_more P 4
    (below_more P 3
    (below_more P 2 (below_more P 1 (below_more P 0 (below_none P) o.third) o.second) o.falling_one)
    o.falling_two)
    o.rising_one)
    o.rising_two
    c (omega arith))
  where
    P : ℕ → Type 0
    P c = sum_start starts c + n ≤ sum_start starts (c + 1)

-- i columns are done, with the sums across
pub record SummingAt (m s₀ s : List ℕ) (starts : Starts) (n i : ℕ) (sums : Across) : Type 0 where
  pub row : Writing 7 n (sum_start starts) (sum_cell m s₀ starts) s₀ s i 0
  pub third : sums.third ≡ sum (marks_in m starts third_box) i % 2 ^ 64
  pub second : sums.second ≡ sum (plus (third_row m s₀ starts) (marks_in m starts second_box)) i % 2 ^ 64
  pub level_sum : sums.level ≡ sum (level_row m s₀ starts) i % 2 ^ 64

pub summing_start : (m s : List ℕ) (starts : Starts) (n : ℕ)
    → SummingAt m s s starts n 0 (record { third = 0; second = 0; level = 0 })
unfolding sum
summing_start m s starts n =
    record { row = writing_start 7 n (sum_start starts) (sum_cell m s starts) s; third = refl; second = refl; level_sum = refl }

-- a sum across takes a cell
more : (f : Row) (i a b z : ℕ) → a ≡ sum f i % 2 ^ 64 → z % 2 ^ 64 ≡ f i % 2 ^ 64 → b ≡ (a + z) % 2 ^ 64
    → b ≡ sum f (i + 1) % 2 ^ 64
unfolding sum
more f i a b z e g h = rw (add-one i) (omega arith)

-- a sum down takes a sum across
keep : (s₀ : List ℕ) (t : ℕ) (f : Row) (i x a u : ℕ) → x ≡ get_or s₀ (t + i) 0 → a ≡ sum f (i + 1) % 2 ^ 64
    → u ≡ (x + a) % 2 ^ 64 → u ≡ onto s₀ t f i % 2 ^ 64
unfolding onto
keep s₀ t f i x a u e g h = let k = rw add-one at g in omega arith

-- a mark on what is handed over
hand : (f g : Row) (i u : ℕ) → u ≡ f i % 2 ^ 64 → (u + g i) % 2 ^ 64 ≡ plus f g i % 2 ^ 64
unfolding plus
hand f g i u e = omega arith

-- a line with its mark, and with its mark taken off
line_on : (s₀ : List ℕ) (d : ℕ) (f : Row) (i z : ℕ) → z ≡ get_or s₀ (d + i) 0 → (z + f i) % 2 ^ 64 ≡ row_with s₀ d f i % 2 ^ 64
unfolding row_with
line_on s₀ d f i z e = rw e

line_off : (s₀ : List ℕ) (d : ℕ) (f : Row) (i z : ℕ) → z ≡ get_or s₀ (d + i) 0
    → (z + (2 ^ 64 - 1) * f i) % 2 ^ 64 ≡ row_without s₀ d f i % 2 ^ 64
unfolding row_without
line_off s₀ d f i z e = rw e

-- all five in the sum down
summed : (m s₀ : List ℕ) (starts : Starts) (i a d1 d2 u1 u2 f r t x v : ℕ) → a ≡ sum (level_row m s₀ starts) (i + 1) % 2 ^ 64
    → d1 ≡ row_with s₀ starts.falling_one (marks_in m starts fall_one) i % 2 ^ 64
    → d2 ≡ row_with s₀ starts.falling_two (marks_in m starts fall_two) i % 2 ^ 64
    → u1 ≡ get_or s₀ (starts.rising_one + i) 0
    → u2 ≡ get_or s₀ (starts.rising_two + i) 0
    → f ≡ (d1 + d2) % 2 ^ 64
    → r ≡ (u1 + u2) % 2 ^ 64
    → t ≡ (a + (f + r)) % 2 ^ 64
    → x ≡ get_or s₀ (starts.down + i) 0
    → v ≡ (x + t) % 2 ^ 64
    → v ≡ (get_or s₀ (starts.down + i) 0 + slopes_row m s₀ starts i) % 2 ^ 64
unfolding slopes_row
summed m s₀ starts i a d1 d2 u1 u2 f r t x v ea e1 e2 f1 f2 ef er et ex ev =
    let k = rw add-one at ea in
    ev ∙ rw (et, ef, er, ex, f1, f2, e1, e2, k) (wrapped _ _ _ _ _ _)
  where
    wrapped : (x a b c u w : ℕ)
        → (x + (a % 2 ^ 64 + ((b % 2 ^ 64 + c % 2 ^ 64) % 2 ^ 64 + (u + w) % 2 ^ 64)) % 2 ^ 64) % 2 ^ 64
        ≡ (x + (a + b + c + u + w)) % 2 ^ 64
    wrapped x a b c u w =
        add-mod-mod x _ (2 ^ 64)
        ∙ cong_add x x _ (a + (b + c + (u + w))) refl
        (cong_add (a % 2 ^ 64) a _ (b + c + (u + w)) (mod-mod a (2 ^ 64))
        (cong_add _ (b + c) _ (u + w)
        (mod-mod _ (2 ^ 64) ∙ cong_add _ b _ c (mod-mod b (2 ^ 64)) (mod-mod c (2 ^ 64)))
        (mod-mod (u + w) (2 ^ 64))))
        ∙ ap (λ (v : ℕ). v % 2 ^ 64) order
      where
        order : x + (a + (b + c + (u + w))) ≡ x + (a + b + c + u + w)
        order = omega arith

-- a cell is added to, and what it then holds is handed out
pub record Added (old new : List ℕ) (cell by result : ℕ) : Type 0 where
  pub sum_is : result ≡ (get_or old cell 0 + by) % 2 ^ 64
  pub cells : new ≡ set old cell result

pub added : (s : List ℕ) (cell by mark new result : ℕ) → result ≡ (get_or s cell 0 + by) % 2 ^ 64 → new ≡ result → by ≡ mark
    → Added s (set s cell new) cell mark result
added s cell by mark new result e f g = record { sum_is = rw g at e; cells = ap (set s cell) f }

-- a cell is taken off, and what it held before is handed out
pub record TakenOff (old new : List ℕ) (cell by result : ℕ) : Type 0 where
  pub held_is : result ≡ get_or old cell 0
  pub cells : new ≡ set old cell ((get_or old cell 0 + (2 ^ 64 - 1) * by) % 2 ^ 64)

pub taken_off : (s : List ℕ) (cell by mark new result : ℕ) → result ≡ get_or s cell 0
    → new ≡ (get_or s cell 0 + (2 ^ 64 - 1) * by) % 2 ^ 64 → by ≡ mark → TakenOff s (set s cell new) cell mark result
taken_off s cell by mark new result e f g = record { held_is = e; cells = ap (set s cell) (rw g at f) }

module _ (m s₀ s s1 s2 s3 s4 s5 s6 : List ℕ) (starts : Starts) (n k i : ℕ) (sums next : Across) (d1 d2 u1 u2 f r t v : ℕ)
    (o : InOrder starts n (length s₀) k) (h : i < n) (old : SummingAt m s₀ s starts n i sums)
    (boxes : BoxesMet m s s1 starts i sums next)
    (one_on : Added s1 s2 (starts.falling_one + i) (marks_in m starts fall_one i) d1)
    (two_on : Added s2 s3 (starts.falling_two + i) (marks_in m starts fall_two i) d2)
    (one_off : TakenOff s3 s4 (starts.rising_one + i) (marks_in m starts rise_one i) u1)
    (two_off : TakenOff s4 s5 (starts.rising_two + i) (marks_in m starts rise_two i) u2)
    (falling : f ≡ (d1 + d2) % 2 ^ 64) (rising : r ≡ (u1 + u2) % 2 ^ 64)
    (all : t ≡ (next.level + (f + r)) % 2 ^ 64) (last : Added s5 s6 (starts.down + i) t v) where
  pub summing_next : SummingAt m s₀ s6 starts n (i + 1) next
  unfolding sum_cell third_row second_row level_row
  summing_next =
      let apart = sums_apart starts n (length s₀) k o in
      let R = sum_start starts in
      let X = sum_cell m s₀ starts in
      let w0 = old.row in
      let third = more (marks_in m starts third_box) i _ _ _ old.third refl boxes.third_is in
      let t0 = keep s₀ starts.third (marks_in m starts third_box) i _ _ _
      (w0.next 0 (omega arith) (omega arith) h) third refl in
      let second = more (plus (third_row m s₀ starts) (marks_in m starts second_box)) i _ _ _ old.second
      (hand (third_row m s₀ starts) (marks_in m starts second_box) i _ t0) boxes.second_is in
      let t1 = keep s₀ starts.second (plus (third_row m s₀ starts) (marks_in m starts second_box)) i _ _ _
      (w0.next 1 (omega arith) (omega arith) h) second refl in
      let level_sum = more (level_row m s₀ starts) i _ _ _ old.level_sum
      (hand (second_row m s₀ starts) (marks_in m starts level) i _ t1) boxes.level_is in
      let w1 = writing_cell 7 n R X s₀ s _ i 0 _ apart h (omega arith) (omega (arith, o)) w0 t0 refl in
      let w2 = writing_cell 7 n R X s₀ _ s1 i 1 _ apart h (omega arith) (omega (arith, o)) w1 t1 boxes.cells in
      let t2 = one_on.sum_is
      ∙ line_on s₀ starts.falling_one (marks_in m starts fall_one) i _ (w2.next 2 (omega arith) (omega arith) h) in
      let w3 = writing_cell 7 n R X s₀ s1 s2 i 2 d1 apart h (omega arith) (omega (arith, o)) w2 t2 one_on.cells in
      let t3 = two_on.sum_is
      ∙ line_on s₀ starts.falling_two (marks_in m starts fall_two) i _ (w3.next 3 (omega arith) (omega arith) h) in
      let w4 = writing_cell 7 n R X s₀ s2 s3 i 3 d2 apart h (omega arith) (omega (arith, o)) w3 t3 two_on.cells in
      let k4 = w4.next 4 (omega arith) (omega arith) h in
      let w5 = writing_cell 7 n R X s₀ s3 s4 i 4 _ apart h (omega arith) (omega (arith, o)) w4
      (line_off s₀ starts.rising_one (marks_in m starts rise_one) i _ k4) one_off.cells in
      let k5 = w5.next 5 (omega arith) (omega arith) h in
      let w6 = writing_cell 7 n R X s₀ s4 s5 i 5 _ apart h (omega arith) (omega (arith, o)) w5
      (line_off s₀ starts.rising_two (marks_in m starts rise_two) i _ k5) two_off.cells in
      let k6 = w6.next 6 (omega arith) (omega arith) h in
      let w7 = writing_cell 7 n R X s₀ s5 s6 i 6 v apart h (omega arith) (omega (arith, o)) w6
      (summed m s₀ starts i _ _ _ _ _ _ _ _ _ _ level_sum t2 t3 (one_off.held_is ∙ k4) (two_off.held_is ∙ k5) falling rising all k6
      last.sum_is)
      last.cells in
      record { row = writing_column 7 n R X s₀ s6 i h w7; third = third; second = second; level_sum = level_sum }

-- THE RISING LINES
module _ (m s₀ s s1 s2 : List ℕ) (starts : Starts) (n i r1 r2 : ℕ) (first : starts.rising_one + n ≤ starts.rising_two)
    (last : starts.rising_two + n ≤ length s₀) (h : i < n)
    (old : Writing 2 n (row_start starts.rising_one starts.rising_two)
    (rising_cell m s₀ starts.rising_one starts.rising_two starts.marks starts.apart) s₀ s i 0)
    (one_on : Added s s1 (starts.rising_one + i) (marks_in m starts rise_one i) r1)
    (two_on : Added s1 s2 (starts.rising_two + i) (marks_in m starts rise_two i) r2) where
  pub laying_next : Writing 2 n (row_start starts.rising_one starts.rising_two)
      (rising_cell m s₀ starts.rising_one starts.rising_two starts.marks starts.apart) s₀ s2 (i + 1) 0
  unfolding rising_cell
  laying_next =
      let R = row_start starts.rising_one starts.rising_two in
      let X = rising_cell m s₀ starts.rising_one starts.rising_two starts.marks starts.apart in
      let apart = apart_two n starts.rising_one starts.rising_two first in
      let t0 = one_on.sum_is
      ∙ line_on s₀ starts.rising_one (marks_in m starts rise_one) i _ (old.next 0 (omega arith) (omega arith) h) in
      let w1 = writing_cell 2 n R X s₀ s s1 i 0 r1 apart h (omega arith) (omega arith) old t0 one_on.cells in
      let t1 = two_on.sum_is
      ∙ line_on s₀ starts.rising_two (marks_in m starts rise_two) i _ (w1.next 1 (omega arith) (omega arith) h) in
      let w2 = writing_cell 2 n R X s₀ s1 s2 i 1 r2 apart h (omega arith) (omega arith) w1 t1 two_on.cells in
      writing_column 2 n R X s₀ s2 i h w2
