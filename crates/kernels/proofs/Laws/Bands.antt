-- Taps of boxes in closed form, and the weights of a band: the laws that the functions of band.rt cite.
use mathlib.Core.Path.{◌≡◌, ◌∙◌}
use Prim.Native.Nat.{ℕ, suc, ◌+◌, ◌*◌, ◌-◌, ◌^◌, ◌≤◌, ◌<◌}
use native.Mathlib.Omega.{arith}
use borrow.Author.Tests.{eq-eqb, ne_eqb}
use Rattle.kernels_model.specs.declared.band.Band.{Band}
use Rattle.kernels_model.specs.Choice.{same}
use Rattle.kernels_model.specs.Shape.{boxes_of}
use Rattle.kernels_model.specs.Tap.{box_tap}
use Rattle.kernels_model.specs.Band.{band_weight}
use Rattle.kernels_model.proofs.Numbers.Choices.{within_yes, within_no, same_yes, same_no}
use Rattle.kernels_model.proofs.Numbers.Products.{product_le}
use Rattle.kernels_model.proofs.Taps.TapForms.{box_far, one-box}
use Rattle.kernels_model.proofs.Taps.BoxTaps.{two_boxes, three_boxes}
use Rattle.kernels_model.proofs.Taps.Bands.{band_out, band_under, band_above, own_small, tap_small}

pub ruleset choice_laws = (within_yes, within_no, same_yes, same_no)

-- the tap of one box, up to its radius
pub one_level : (r d : ℕ) → d ≤ r → box_tap 1 r d ≡ 1
one_level r d h = one-box r d ∙ within_yes d r 1 h

-- what is taken off for three boxes is no more than what it is taken off from
pub three_over : (r d : ℕ) → d ≤ 3 * r → 3 * ((r - d) * (r - d + 1)) ≤ (3 * r + 1 - d) * (3 * r + 1 - d + 1)
three_over r d h = omega (arith, three_boxes r d h)

pub ruleset tap_laws = (box_far, one_level, two_boxes, three_boxes, three_over)

pub ruleset row_laws = (band_under, band_above, own_small)

-- the weight of a band below its span, for one box and for more
pub weight_one : (b : Band) (dx : ℕ) → dx < b.span → boxes_of b.shape ≡ 1 → band_weight b dx ≡ b.each * b.own + same dx 0 b.rest
unfolding band_weight
weight_one b dx h e = within_yes (suc dx) b.span _ h ∙ rw (eq-eqb (boxes_of b.shape) 1 e) (omega arith)

pub weight_more : (b : Band) (dx : ℕ) → dx < b.span → (boxes_of b.shape ≡ 1 → ⊥)
    → band_weight b dx ≡ b.each * b.own * box_tap (boxes_of b.shape) b.radius dx + same dx 0 b.rest
unfolding band_weight
weight_more b dx h n = within_yes (suc dx) b.span _ h ∙ rw (ne_eqb (boxes_of b.shape) 1 n)

-- a share times two taps leaves room for a remainder in 64 bits
pub weight_fits : (each own tap : ℕ) → each < 2 ^ 32 → own < 2 ^ 8 → tap < 2 ^ 20 → each * own * tap ≤ 2 ^ 60
weight_fits each own tap p q r =
    product_le (each * own) tap (2 ^ 40) (2 ^ 20) (product_le each own (2 ^ 32) (2 ^ 8) (omega arith) (omega arith)) (omega arith)

pub ruleset weight_laws = (band_out, weight_one, weight_more, tap_small, weight_fits)
