-- A kernel's drawing, laid from its corner, is the kernel's marks laid around its pixel.
use Rattle.std.proofs.Common.{◌≡◌, ℕ, ◌+◌, ◌-◌, ◌*◌, ◌%◌, ◌^◌, ◌<◌, ◌≤◌, List, [], ◌∷◌, ◌++◌, refl, ap, ◌∙◌, mul-le-mul_right, mul_assoc, arith}
use native.Mathlib.Nat.{mod-mod}
use Rattle.kernels_model.specs.declared.shape.Shape.{Shape}
use Rattle.kernels_model.specs.declared.shape.Shape.TheVariants.{Box, Tent, Triple, Diamond, Hexagon, Octagon}
use Rattle.kernels_model.specs.Shape.{reach_of, top_of}
use Rattle.kernels_model.specs.Tap.{share, rest}
use Rattle.kernels_model.specs.declared.share.Share.{Share}
use Rattle.kernels_model.specs.Share.{share_parts}
use Rattle.kernels_model.specs.Mark.{Mark, box_grid, scaled, tap_marks, centre_marks, marks}
use Rattle.kernels_model.specs.Drawing.{moved, drawn_marks, drawing_of}
use Rattle.kernels_model.proofs.Drawing.Drawings.{drawing_marks}
use Rattle.kernels_model.proofs.Taps.Shares.{parts_under}
use Rattle.kernels_model.specs.Facts.{Each, Near}
use Rattle.kernels_model.proofs.Drawing.MarkPlaces.{tap-marks-within, tap-marks-moved}
use Rattle.plate_model.specs.Fixed.{planes_in_all}
use Rattle.plate_model.specs.declared.size.Size.{Size}
use Rattle.plate_model.specs.Layout.{wide, high, padded, column_of, row_of}
use Rattle.plate_model.specs.declared.word.Pixel.{Pixel}
use Rattle.plate_model.specs.Marks.{in_both, pixel_marks, cell_of, lay_one, lay_all}
use Rattle.plate_model.proofs.Numbers.Extents.{place_within, column_is, row_is}
use Rattle.kernels_model.proofs.Taps.ShapeNumbers.{reach_under}
use Rattle.plate_model.proofs.Laying.LaidCells.{lay_one_mod}
use Rattle.plate.specs.Laying.{Amounts, times, amounts_of, Origin, lay_amounts, lay_drawn, FewBoxes, AllIn, MarksFit, Placed}
use Rattle.plate.specs.Laying.{PixelReady, own_marks, origin_of, spare, corner_of, marks_at}
use Rattle.plate.specs.Frame.{Frame, frame_of}
use Rattle.plate.proofs.Laws.Laying.Amounts.{times_number}
use Rattle.kernels_model.specs.Fixed.{planes_each, level, margin}

-- WHERE A PIXEL LIES
-- "place being y × W + x"
pub column_at : (z : Size) (x y : ℕ) → x < z.width → column_of z (y * z.width + x) ≡ x + z.reach + margin
column_at z x y h = rw (column_is x y z.width h)

pub row_at : (z : Size) (x y : ℕ) → x < z.width → row_of z (y * z.width + x) ≡ y + z.reach + margin
row_at z x y h = rw (row_is x y z.width h)

-- a cell of a plane
cell_in : (w h a b p x y : ℕ) → p < planes_each → x + a < w → y + b < h
    → b * w + a + (p * (w * h) + (y * w + x)) < planes_each * (w * h)
cell_in w h a b p x y pl col row =
    let m : (y + b + 1) * w ≤ h * w = mul-le-mul_right w (omega arith) in
    let n : (p + 1) * (w * h) ≤ planes_each * (w * h) = mul-le-mul_right (w * h) (omega arith) in
    omega arith

-- the origin of a drawing that lies a columns and b rows from the first cell
abbrev origin_in : Size → ℕ → ℕ → Origin
origin_in z a b = origin_of (frame_of z) (b * wide z + a)

-- marks near enough to a pixel lie in the planes
near_in_origin : (z : Size) (a b d X Y : ℕ) → X + d < wide z → Y + d < high z → (ms : List Mark)
    → Each (Near d X Y) (moved a b ms) → AllIn (origin_in z a b) ms
unfolding Each moved AllIn
near_in_origin z a b d X Y p q [] h = tt
near_in_origin z a b d X Y p q (m ∷ ms) h =
    let n = h.0 in
    let right = n.right_in in
    let bottom = n.bottom_in in (
      cell_in (wide z) (high z) a b m.plane m.column m.row n.plane_in (omega arith) (omega arith),
      near_in_origin z a b d X Y p q ms h.1,
    )

-- LAID
lay_alike_both : (cells : List ℕ) (j k v w x y : ℕ) → v % 2 ^ 64 ≡ w % 2 ^ 64 → x % 2 ^ 64 ≡ y % 2 ^ 64
    → lay_one (lay_one cells j v) k x ≡ lay_one (lay_one cells j w) k y
lay_alike_both cells j k v w x y e f = rw (lay_one_mod cells j v w e) (lay_one_mod (lay_one cells j w) k x y f)

-- a cell counted from the drawing's corner, and from the first cell
spot-cell : (w P a b p x y : ℕ) → b * w + a + (p * P + (y * w + x)) ≡ p * P + ((y + b) * w + (x + a))
spot-cell w P a b p x y = omega arith

matte_cell : (P p n : ℕ) → planes_each * P + (p * P + n) ≡ (planes_each + p) * P + n
matte_cell P p n = omega arith

-- the marks of a drawing, moved from the corner
drawn_laid : (z : Size) (w : Amounts) (a b : ℕ) (ms : List Mark) (cells : List ℕ)
    → lay_drawn (origin_in z a b) w cells ms ≡ lay_all z cells (in_both w.light w.matte (moved a b ms))
unfolding lay_drawn lay_amounts lay_all in_both moved
drawn_laid z w a b [] cells = refl
drawn_laid z w a b (m ∷ ms) cells =
    rw (
      spot-cell (wide z) (padded z) a b m.plane m.column m.row,
      matte_cell (padded z) m.plane ((m.row + b) * wide z + (m.column + a)),
      lay_one_mod cells _ ((w.light * m.coefficient) % 2 ^ 64) (w.light * m.coefficient) (mod-mod _ _),
      lay_one_mod _ _ ((w.matte * m.coefficient) % 2 ^ 64) (w.matte * m.coefficient) (mod-mod _ _),
    )
    (drawn_laid z w a b ms _)

-- KERNELS
-- the marks around a pixel are those of the drawing, moved by what the kernel leaves of the margin
around : (z : Size) (x y : ℕ) (s : Shape) (r : ℕ) → x < z.width → reach_of s r ≤ z.reach
    → tap_marks s r (column_of z (y * z.width + x)) (row_of z (y * z.width + x))
    ≡ moved (x + (z.reach - reach_of s r)) (y + (z.reach - reach_of s r)) (own_marks s r)
around z x y s r h k =
    let n = reach_of s r in
    let column : x + z.reach + margin ≡ n + margin + (x + (z.reach - n)) = omega arith in
    let row : y + z.reach + margin ≡ n + margin + (y + (z.reach - n)) = omega arith in
    rw (column_at z x y h, row_at z x y h, column, row)
    (tap-marks-moved (x + (z.reach - n)) (y + (z.reach - n)) s r (n + margin) (n + margin) (omega arith) (omega arith))

-- the marks of a kernel's taps around (x, y), laid with a worth
abbrev kernel_at : Frame → ℕ → ℕ → Shape → ℕ → Amounts → List Mark
kernel_at f x y s r w =
    let i = y * f.size.width + x in
    in_both w.light w.matte (tap_marks s r (column_of f.size i) (row_of f.size i))

module _ (f : Frame) (x y : ℕ) (placed : Placed f x y) where
  -- the corner of a drawing is a cell of a plane
  pub corner_in : (m : ℕ) → corner_of f x y m < f.padded
  corner_in m =
      let z = f.size in
      let s = spare f m in
      let column = placed.column_in in
      let row = placed.row_in in
      rw placed.framed (place_within (x + s) (y + s) (wide z) (high z) (omega arith) (omega arith))

  module _ (s : Shape) (r : ℕ) (reaches : reach_of s r ≤ f.size.reach) where
    -- a kernel's marks, laid from its corner, are those around the place
    kernel_laid : (w : Amounts) (cells : List ℕ)
        → lay_drawn (origin_of f (corner_of f x y (reach_of s r))) w cells (own_marks s r)
        ≡ lay_all f.size cells (kernel_at f x y s r w)
    kernel_laid w cells =
        rw (around f.size x y s r placed.column_in reaches, placed.framed)
        (drawn_laid f.size w _ _ (own_marks s r) cells)

    -- and lie in the planes
    kernel_inside : AllIn (origin_of f (corner_of f x y (reach_of s r))) (own_marks s r)
    kernel_inside =
        let z = f.size in
        let R = z.reach in
        let X = column_of z (y * z.width + x) in
        let Y = row_of z (y * z.width + x) in
        let right = placed.column_in in
        let low = placed.row_in in
        let column = column_at z x y right in
        let row = row_at z x y right in
        rw placed.framed
        (near_in_origin z _ _ (R + margin) X Y (omega arith) (omega arith) (own_marks s r)
        (rw (around z x y s r right reaches) at (tap-marks-within s r R X Y reaches (omega arith) (omega arith))))

    -- so that a plate has room for them
    pub kernel_fits : (n : ℕ) → n ≡ planes_in_all * f.padded
        → MarksFit (origin_of f (corner_of f x y (reach_of s r))) n (own_marks s r)
    kernel_fits n e = record { planes_are = e; inside = kernel_inside }

-- PARTS
-- one list of marks after another
lay_append : (z : Size) (cells : List ℕ) (ms ns : List Mark) → lay_all z cells (ms ++ ns) ≡ lay_all z (lay_all z cells ms) ns
unfolding lay_all
lay_append z cells [] ns = refl
lay_append z cells (m ∷ ms) ns = lay_append z (lay_one cells (cell_of z m) m.coefficient) ms ns

-- the taps with one worth, and the centre, a box of radius 0, with another
abbrev parts_at : Frame → ℕ → ℕ → Shape → ℕ → Amounts → Amounts → List Mark
parts_at f x y s r taps centre = kernel_at f x y s r taps ++ kernel_at f x y Box 0 centre

-- each laid from its own corner
parts_laid_lem : (f : Frame) (x y : ℕ) → Placed f x y → (s : Shape) (r : ℕ) → reach_of s r ≤ f.size.reach
    → (taps centre : Amounts) (cells : List ℕ)
    → lay_drawn (origin_of f (corner_of f x y 0)) centre
    (lay_drawn (origin_of f (corner_of f x y (reach_of s r))) taps cells (own_marks s r)) (own_marks Box 0)
    ≡ lay_all f.size cells (parts_at f x y s r taps centre)
parts_laid_lem f x y placed s r reaches taps centre cells =
    rw (kernel_laid f x y placed Box 0 (omega arith), kernel_laid f x y placed s r reaches, lay_append)

-- the share goes into the worth
both-scaled : (l m c : ℕ) (ms : List Mark) → in_both l m (scaled c ms) ≡ in_both (l * c) (m * c) ms
unfolding in_both scaled
both-scaled l m c [] = refl
both-scaled l m c (k ∷ ms) = rw (← mul_assoc l c k.coefficient, ← mul_assoc m c k.coefficient, both-scaled l m c ms)

both_append : (l m : ℕ) (ms ns : List Mark) → in_both l m (ms ++ ns) ≡ in_both l m ms ++ in_both l m ns
unfolding in_both
both_append l m [] ns = refl
both_append l m (k ∷ ms) ns = rw (both_append l m ms ns)

-- "A mark is worth its sign or factor times a × s, and in light times v as well"
part_worth : (p : Pixel) (c : ℕ) (ms : List Mark)
    → in_both (p.value * p.opacity) p.opacity (scaled c ms) ≡ in_both (amounts_of p c).light (amounts_of p c).matte ms
part_worth p c ms = rw (both-scaled, mul_assoc p.value p.opacity c)

-- the taps with the share and the centre with the remainder are the pixel's marks
pixel_worth : (f : Frame) (x y : ℕ) (p : Pixel) (s : Share) → p.radius ≤ top_of p.shape
    → s ≡ share_parts p.shape p.radius
    → parts_at f x y p.shape p.radius (amounts_of p s.each) (amounts_of p s.rest) ≡ marks_at f x y p
unfolding pixel_marks marks centre_marks tap_marks
pixel_worth f x y p s h e =
    rw (
      e ∙ parts_under p.shape p.radius h,
      both_append,
      part_worth p (share p.shape p.radius),
      part_worth p (rest p.shape p.radius),
    )

-- c times a worth is laid as c times its marks
times_laid : (z : Size) (w : Amounts) (c : ℕ) (ms : List Mark) (cells : List ℕ)
    → lay_all z cells (in_both (times w c).light (times w c).matte ms)
    ≡ lay_all z cells (scaled c (in_both w.light w.matte ms))
unfolding lay_all in_both scaled
times_laid z w c [] cells = refl
times_laid z w c (k ∷ ms) cells =
    ap (λ (laid : List ℕ). lay_all z laid (in_both (times w c).light (times w c).matte ms))
    (lay_alike_both cells (cell_of z k) _ _ _ _ _ (alike w.light) (alike w.matte))
    ∙ times_laid z w c ms _
  where
    alike : (l : ℕ) → ((l * c) % 2 ^ 64 * k.coefficient) % 2 ^ 64 ≡ (c * (l * k.coefficient)) % 2 ^ 64
    alike l = times_number l c k.coefficient ∙ ap (λ (n : ℕ). n % 2 ^ 64) (omega arith)

scaled_append : (c : ℕ) (ms ns : List Mark) → scaled c (ms ++ ns) ≡ scaled c ms ++ scaled c ns
unfolding scaled
scaled_append c [] ns = refl
scaled_append c (m ∷ ms) ns = rw (scaled_append c ms ns)

-- once a mark is the mark
pub scaled-one : (ms : List Mark) → scaled 1 ms ≡ ms
unfolding scaled
scaled-one [] = refl
scaled-one (m ∷ ms) = let one : 1 * m.coefficient ≡ m.coefficient = omega arith in rw (one, scaled-one ms)

-- and so of both parts of a kernel
times_parts : (f : Frame) (x y : ℕ) (s : Shape) (r : ℕ) (taps centre : Amounts) (c : ℕ) (cells : List ℕ)
    → lay_all f.size cells (parts_at f x y s r (times taps c) (times centre c))
    ≡ lay_all f.size cells (scaled c (parts_at f x y s r taps centre))
times_parts f x y s r taps centre c cells =
    rw (lay_append, times_laid f.size taps c, times_laid f.size centre c, scaled_append, lay_append)

-- PIXELS
module _ (f : Frame) (n x y : ℕ) (placed : Placed f x y) (p : Pixel) (q : Share) (h : PixelReady f n p q) where
  -- "r is also at most R / n rounded down", so that its kernel keeps to the plate's reach
  pub pixel_reaches : reach_of p.shape p.radius ≤ f.size.reach
  pixel_reaches = reach_under f.size.reach p.shape p.radius h.radius_fits

  -- its taps with their share, then its centre with the remainder, each laid from its own corner, with c times their worth
  abbrev parts_laid : ℕ → List ℕ → List ℕ
  parts_laid c cells =
      lay_drawn (origin_of f (corner_of f x y 0)) (times (amounts_of p q.rest) c)
      (lay_drawn (origin_of f (corner_of f x y (reach_of p.shape p.radius))) (times (amounts_of p q.each) c)
      cells (own_marks p.shape p.radius))
      (own_marks Box 0)

  pub pixel_laid : (c : ℕ) (cells : List ℕ) → parts_laid c cells ≡ lay_all f.size cells (scaled c (marks_at f x y p))
  pixel_laid c cells =
      parts_laid_lem f x y placed p.shape p.radius pixel_reaches _ _ cells
      ∙ times_parts f x y p.shape p.radius (amounts_of p q.each) (amounts_of p q.rest) c cells
      ∙ ap (λ (ms : List Mark). lay_all f.size cells (scaled c ms))
      (pixel_worth f x y p q (omega (arith, h.radius_fits)) h.share_is)

-- BOXES
-- the centre's box has a side of one cell
pub centre_grid : box_grid level 1 1 margin margin ≡ own_marks Box 0
unfolding drawn_marks drawing_of
centre_grid = drawing_marks Box 0

-- a kernel has one to three of them
pub few_boxes : (s : Shape) (r : ℕ) → FewBoxes (drawing_of s r)
unfolding FewBoxes drawing_of
few_boxes Box r = omega arith
few_boxes Tent r = omega arith
few_boxes Triple r = omega arith
few_boxes Diamond r = tt
few_boxes Hexagon r = tt
few_boxes Octagon r = tt
