-- One row of a kernel as the code hands it out: its taps are boxes convolved along the row, times the row's own tap.
use Rattle.std.specs.Prelude.{◌≡◌, ◌≢◌, Bool, false, ℕ, suc, ◌+◌, ◌*◌, ◌-◌, ◌/◌, ◌≤◌, ◌<◌, eqb, leb}
use Rattle.kernels_model.specs.Fixed.{unit}
use Rattle.kernels_model.specs.Choice.{pick, within, same}
use Rattle.kernels_model.specs.Shape.{Shape, Box, Tent, Triple, Diamond, Hexagon, Octagon, boxes_of, top_of, reach_of}
use Rattle.kernels_model.specs.Tap.{half, box_tap, tap, weight}
use Rattle.kernels_model.specs.declared.share.Share.{Share}
pub use Rattle.kernels_model.specs.declared.band.Band.{Band}

-- the radius of the boxes in the column of the rows' own taps: only a hexagon is not as high as it is wide
abbrev pub height_of : Shape → ℕ → ℕ
height_of Box r = r
height_of Tent r = r
height_of Triple r = r
height_of Diamond r = r
height_of Hexagon r = 2 * half r
height_of Octagon r = r

-- the radius of the boxes in the row at abs (dy): rows of ones grow narrower away from the middle, but for a box's
abbrev pub row_radius : Shape → ℕ → ℕ → ℕ
row_radius Box r dy = r
row_radius Tent r dy = r
row_radius Triple r dy = r
row_radius Diamond r dy = r - dy
row_radius Hexagon r dy = r - (dy - dy / 2)
row_radius Octagon r dy = r - (dy - half r)

-- the row's own tap
abbrev pub own_tap : Shape → ℕ → ℕ → ℕ
own_tap s r dy = box_tap (boxes_of s) (height_of s r) dy

-- the cells from the middle of a row on that have a tap
abbrev pub span_of : Shape → ℕ → ℕ → ℕ
span_of s r dy = within 1 (own_tap s r dy) (boxes_of s * row_radius s r dy + 1)

-- the row at abs (dy) of the kernel of a shape and a radius, with a share and a remainder
abbrev pub row_band : Shape → ℕ → Share → ℕ → Band
row_band s r q dy =
    record {
      shape = s;
      radius = row_radius s r dy;
      span = span_of s r dy;
      own = own_tap s r dy;
      each = q.each;
      rest = same dy 0 q.rest;
    }

-- a row of no cells
abbrev pub no_band : Shape → Band
no_band s = record { shape = s; radius = 0; span = 0; own = 0; each = 0; rest = 0 }

-- the row that is handed out: none above the shape's top
unfoldable pub band_for : Shape → ℕ → Share → ℕ → Band
band_for s r q dy = pick (leb r (top_of s)) (row_band s r q dy) (no_band s)

-- the tap of a band's boxes at abs (dx), below its span: of one box it is 1
abbrev pub band_tap : Band → ℕ → ℕ
band_tap b dx = pick (eqb (boxes_of b.shape) 1) 1 (box_tap (boxes_of b.shape) b.radius dx)

-- the weight of a band at abs (dx): nothing from its span on
unfoldable pub band_weight : Band → ℕ → ℕ
band_weight b dx = within (suc dx) b.span (b.each * b.own * band_tap b dx + same dx 0 b.rest)

-- one box, and nothing more in the middle
unfoldable pub is_level : Band → Bool
is_level b = pick (eqb (boxes_of b.shape) 1) (eqb b.rest 0) false

-- a band's weights are at most the whole
abbrev pub FewTaps : Band → Type 0
FewTaps b = (dx : ℕ) → band_weight b dx ≤ unit

-- the row at abs (dy) of the kernel of a shape and a radius: each of its weights, and the cells that have a tap other than 0
pub record BandOf (s : Shape) (r dy : ℕ) (b : Band) : Type 0 where
  pub few : FewTaps b
  pub weight_is : (dx : ℕ) → band_weight b dx ≡ weight s r dx dy
  pub has_tap_fact : (dx : ℕ) → dx < b.span → tap s r dx dy ≢ 0
  pub no_tap : (dx : ℕ) → b.span ≤ dx → tap s r dx dy ≡ 0
  pub span_in : b.span ≤ reach_of s r + 1
