-- The rows of the kernels: each is boxes convolved along it, times its own tap, and where no tap is, is no weight.
use mathlib.Core.Path.{◌≡◌, refl, sym, ap, subst, ◌∙◌}
use mathlib.Core.Bool.{true}
use mathlib.Core.Logic.{◌≢◌}
use Prim.Native.Nat.{ℕ, suc, ◌+◌, ◌*◌, ◌-◌, ◌/◌, ◌^◌, ◌≤◌, ◌<◌, min}
use native.Mathlib.Omega.{arith}
use native.Mathlib.Nat.{mul_comm}
use lib.Dec.{eqb}
use borrow.Author.Tests.{le-leb, lt-leb, eqb-true}
use Rattle.kernels_model.specs.Choice.{within, same}
use Rattle.kernels_model.specs.Shape.{Shape, Box, Tent, Triple, Diamond, Hexagon, Octagon, boxes_of, top_of}
use Rattle.kernels_model.specs.Tap.{box_tap, half, octagon_tap, tap, share, rest, weight}
use Rattle.kernels_model.specs.Share.{Share, share_from}
use Rattle.kernels_model.specs.Facts.{BandFact, LevelFact}
use Rattle.kernels_model.specs.Band.{height_of, row_radius, own_tap, span_of, Band, row_band, no_band, band_for, band_tap}
use Rattle.kernels_model.specs.Band.{band_weight, is_level, BandOf}
use Rattle.kernels_model.proofs.Numbers.Choices.{by_test, by_lt, if_within, within_yes, within_no, within_as, if_same}
use Rattle.kernels_model.proofs.Numbers.Products.{product_le}
use Rattle.kernels_model.proofs.Taps.TapForms.{box_far, one-box, box_tap_lem}
use Rattle.kernels_model.proofs.Taps.Areas.{weight_le}
use Rattle.kernels_model.proofs.Taps.TableRows.{both_true}
use Rattle.kernels_model.proofs.Taps.Shares.{parts_under}
use Rattle.kernels_model.proofs.Taps.BoxTaps.{box_near, two_boxes, three_boxes}

-- ROWS
-- a tap that is 1 up to h cells from the middle of a row, in the rows up to k cells from the middle row
row_of_ones : (t k h dx dy : ℕ) → (dy ≤ k → t ≡ within dx h 1) → (k < dy → t ≡ 0) → t ≡ box_tap 1 k dy * box_tap 1 h dx
row_of_ones t k h dx dy near far =
    rw (one-box k dy, one-box h dx) (by_lt k dy
    (λ g. far g ∙ rw (within_no dy k 1 g) (omega arith))
    (λ g. near g ∙ rw (within_yes dy k 1 g) (omega arith)))

-- an octagon's row, for every t
octagon_row : (r t dx dy : ℕ) → octagon_tap r t dx dy ≡ box_tap 1 r dy * box_tap 1 (r - (dy - t)) dx
unfolding octagon_tap
octagon_row r t dx dy =
    row_of_ones _ r (r - (dy - t)) dx dy
    (λ g. rw (within_yes dy r (within (dx + dy) (r + t) 1) g) (if_within dx r _ _
    (λ k. within_as (dx + dy) (r + t) dx (r - (dy - t)) 1 (omega arith) (omega arith))
    (λ k. sym (within_no dx (r - (dy - t)) 1 (omega arith)))))
    (λ g. rw (within_no dy r (within (dx + dy) (r + t) 1) g) (if_within dx r 0 0 (λ k. refl) (λ k. refl)))

-- each kernel's row is boxes convolved, times its own tap
pub row_taps : (s : Shape) (r dx dy : ℕ) → tap s r dx dy ≡ own_tap s r dy * box_tap (boxes_of s) (row_radius s r dy) dx
unfolding tap
row_taps Box r dx dy = box_tap_lem r dx dy ∙ mul_comm (box_tap 1 r dx) (box_tap 1 r dy)
row_taps Tent r dx dy = mul_comm (box_tap 2 r dx) (box_tap 2 r dy)
row_taps Triple r dx dy = mul_comm (box_tap 3 r dx) (box_tap 3 r dy)
row_taps Diamond r dx dy =
    row_of_ones _ r (r - dy) dx dy
    (λ g. within_as (dx + dy) r dx (r - dy) 1 (omega arith) (omega arith))
    (λ g. within_no (dx + dy) r 1 (omega arith))
row_taps Hexagon r dx dy =
    row_of_ones _ (2 * half r) (r - (dy - dy / 2)) dx dy
    (λ g. if_within dx r _ _
    (λ k. within_as dy (min (2 * half r) (2 * (r - dx))) dx (r - (dy - dy / 2)) 1 (omega arith) (omega arith))
    (λ k. sym (within_no dx (r - (dy - dy / 2)) 1 (omega arith))))
    (λ g. if_within dx r _ _ (λ k. within_no dy (min (2 * half r) (2 * (r - dx))) 1 (omega arith)) (λ k. refl))
row_taps Octagon r dx dy = octagon_row r (half r) dx dy

-- no row is wider than the kernel
pub row_narrow : (s : Shape) (r dy : ℕ) → row_radius s r dy ≤ r
row_narrow s r dy = grind arith

-- WHERE THERE IS NO TAP
-- a product of two numbers that are not 0
both_some : (a b : ℕ) → 0 < a → 0 < b → 0 < a * b
both_some a b p q = product_le 1 1 a b p q

-- the middle has a tap
pub centre_tap : (s : Shape) (r : ℕ) → tap s r 0 0 ≢ 0
centre_tap s r e =
    let some : 0 < own_tap s r 0 * box_tap (boxes_of s) (row_radius s r 0) 0 =
    both_some _ _
    (box_near (boxes_of s) (height_of s r) 0 (omega arith))
    (box_near (boxes_of s) (row_radius s r 0) 0 (omega arith)) in
    omega (arith, row_taps s r 0 0)

-- so the remainder, which lies there, is on a tap too, and a cell with no tap has no weight
pub no_tap_no_weight : (s : Shape) (r dx dy : ℕ) → tap s r dx dy ≡ 0 → weight s r dx dy ≡ 0
unfolding weight
no_tap_no_weight s r dx dy e = rw e (omega (arith, off))
  where
    off : same dx 0 (same dy 0 (rest s r)) ≡ 0
    off = if_same dx 0 _ 0 (λ x. if_same dy 0 _ 0 (λ y. absurd (centre_tap s r (rw (x, y) at e))) (λ n. refl)) (λ n. refl)

-- THE BAND OF A ROW
-- the whole row of boxes where the row has its own tap, and else none
span_yes : (s : Shape) (r dy : ℕ) → 1 ≤ own_tap s r dy → span_of s r dy ≡ boxes_of s * row_radius s r dy + 1
span_yes s r dy h = within_yes 1 (own_tap s r dy) _ h

span_no : (s : Shape) (r dy : ℕ) → own_tap s r dy < 1 → span_of s r dy ≡ 0
span_no s r dy h = within_no 1 (own_tap s r dy) _ h

-- below its span a row has taps
row_some : (s : Shape) (r dx dy : ℕ) → dx < span_of s r dy → tap s r dx dy ≢ 0
row_some s r dx dy h e =
    by_lt (own_tap s r dy) 1
    (λ g. omega (arith, span_no s r dy g))
    (λ g.
    let near : dx ≤ boxes_of s * row_radius s r dy = omega (arith, span_yes s r dy g) in
    omega (arith, row_taps s r dx dy, both_some _ _ g (box_near (boxes_of s) (row_radius s r dy) dx near)))

-- and from its span on none
row-none : (s : Shape) (r dx dy : ℕ) → span_of s r dy ≤ dx → tap s r dx dy ≡ 0
row-none s r dx dy h =
    row_taps s r dx dy ∙ by_lt (own_tap s r dy) 1
    (λ g. let z : own_tap s r dy ≡ 0 = omega arith in rw z (omega arith))
    (λ g.
    let far : boxes_of s * row_radius s r dy < dx = omega (arith, span_yes s r dy g) in
    rw (box_far (boxes_of s) (row_radius s r dy) dx far) (omega arith))

-- a span is at most that of the boxes in the row
span_le : (s : Shape) (r dy : ℕ) → span_of s r dy ≤ boxes_of s * row_radius s r dy + 1
span_le s r dy =
    by_lt (own_tap s r dy) 1 (λ g. omega (arith, span_no s r dy g)) (λ g. omega (arith, span_yes s r dy g))

-- from its span on a band has no weight
pub band_out : (b : Band) (dx : ℕ) → b.span ≤ dx → band_weight b dx ≡ 0
unfolding band_weight
band_out b dx h = within_no (suc dx) b.span _ (omega arith)

-- the row with the kernel's own share and remainder
abbrev own_band : Shape → ℕ → ℕ → Band
own_band s r dy = row_band s r (share_from (share s r) (rest s r)) dy

-- below its span the tap of its boxes is theirs
near_tap : (s : Shape) (r dx dy : ℕ) → dx < span_of s r dy → band_tap (own_band s r dy) dx ≡ box_tap (boxes_of s) (row_radius s r dy) dx
near_tap s r dx dy h = by_test (eqb (boxes_of s) 1) one (λ e. rw e)
  where
    one : eqb (boxes_of s) 1 ≡ true → band_tap (own_band s r dy) dx ≡ box_tap (boxes_of s) (row_radius s r dy) dx
    one e =
        let single : boxes_of s ≡ 1 = eqb-true (boxes_of s) 1 e in
        let cells : boxes_of s * row_radius s r dy ≡ 1 * row_radius s r dy = ap (λ (n : ℕ). n * row_radius s r dy) single in
        rw e (sym (ap (λ (n : ℕ). box_tap n (row_radius s r dy) dx) single
        ∙ one-box (row_radius s r dy) dx ∙ within_yes dx (row_radius s r dy) 1 (omega (arith, h, cells, span_le s r dy))))

-- a row's weights are the share times its taps, and the remainder
row-weight : (s : Shape) (r dx dy : ℕ) → band_weight (own_band s r dy) dx ≡ weight s r dx dy
unfolding band_weight weight
row-weight s r dx dy =
    by_lt dx (span_of s r dy)
    (λ g. within_yes (suc dx) (span_of s r dy) _ g ∙ rw (near_tap s r dx dy g, row_taps s r dx dy) (omega arith))
    (λ g. band_out (own_band s r dy) dx g ∙ sym (no_tap_no_weight s r dx dy (row-none s r dx dy g)))

-- it is the row of the kernel
row_is : (s : Shape) (r dy : ℕ) → BandOf s r dy (own_band s r dy)
row_is s r dy =
    record {
      few = λ dx. rw (row-weight s r dx dy) (weight_le s r dx dy);
      weight_is = λ dx. row-weight s r dx dy;
      has_tap_fact = λ dx. row_some s r dx dy;
      no_tap = λ dx. row-none s r dx dy;
      span_in =
          let narrow = product_le (boxes_of s) (row_radius s r dy) (boxes_of s) r (omega arith) (row_narrow s r dy) in
          omega (arith, span_le s r dy, narrow);
    }

-- and so is the row that is handed out, up to the shape's top
pub band_under : (s : Shape) (r : ℕ) (q : Share) (dy : ℕ) → r ≤ top_of s → band_for s r q dy ≡ row_band s r q dy
unfolding band_for
band_under s r q dy h = rw (le-leb r (top_of s) h)

pub band_above : (s : Shape) (r : ℕ) (q : Share) (dy : ℕ) → top_of s < r → band_for s r q dy ≡ no_band s
unfolding band_for
band_above s r q dy h = rw (lt-leb r (top_of s) h)

pub band_is : BandFact
band_is s r dy h =
    subst (λ (q : Share). BandOf s r dy (band_for s r q dy)) (sym (parts_under s r h))
    (rw (band_under s r (share_from (share s r) (rest s r)) dy h) (row_is s r dy))

-- HOW LARGE TAPS ARE
one_le : (r d : ℕ) → box_tap 1 r d ≤ 1
one_le r d =
    by_lt r d
    (λ g. omega (arith, one-box r d, within_no d r 1 g))
    (λ g. omega (arith, one-box r d, within_yes d r 1 g))

two_le : (r d : ℕ) → box_tap 2 r d ≤ 2 * r + 1
two_le r d = omega (arith, two_boxes r d)

three_le : (r d : ℕ) → 2 * box_tap 3 r d ≤ (3 * r + 1) * (3 * r + 2)
three_le r d =
    by_lt (3 * r) d
    (λ g. omega (arith, box_far 3 r d g))
    (λ g.
    let most = product_le (3 * r + 1 - d) (3 * r + 1 - d + 1) (3 * r + 1) (3 * r + 2) (omega arith) (omega arith) in
    omega (arith, three_boxes r d g, most))

-- a row's own tap is a byte
pub own_small : (s : Shape) (r dy : ℕ) → r ≤ top_of s → own_tap s r dy < 256
own_small Box r dy h = omega (arith, one_le r dy)
own_small Tent r dy h = omega (arith, two_le r dy)
own_small Triple r dy h = omega (arith, three_le r dy, product_le (3 * r + 1) (3 * r + 2) 10 11 (omega arith) (omega arith))
own_small Diamond r dy h = omega (arith, one_le r dy)
own_small Hexagon r dy h = omega (arith, one_le (2 * half r) dy)
own_small Octagon r dy h = omega (arith, one_le r dy)

-- and for any radius that is a byte, boxes have taps below 2 ^ 20
pub tap_small : (s : Shape) (r d : ℕ) → r < 256 → box_tap (boxes_of s) r d < 2 ^ 20
tap_small Box r d h = omega (arith, one_le r d)
tap_small Tent r d h = omega (arith, two_le r d)
tap_small Triple r d h = omega (arith, three_le r d, product_le (3 * r + 1) (3 * r + 2) 766 767 (omega arith) (omega arith))
tap_small Diamond r d h = omega (arith, one_le r d)
tap_small Hexagon r d h = omega (arith, one_le r d)
tap_small Octagon r d h = omega (arith, one_le r d)

-- LEVEL BANDS
-- all cells of one that have a tap weigh as much as the middle
pub level-weight : LevelFact
unfolding is_level band_weight
level-weight b level dx h =
    let both = both_true (eqb (boxes_of b.shape) 1) (eqb b.rest 0) level in
    within_yes (suc dx) b.span _ h
    ∙ rw (both.0, eqb-true b.rest 0 both.1) (omega (arith, no_rest dx, no_rest 0))
    ∙ sym (within_yes 1 b.span _ (omega arith))
  where
    no_rest : (d : ℕ) → same d 0 0 ≡ 0
    no_rest d = if_same d 0 0 0 (λ _. refl) (λ _. refl)
