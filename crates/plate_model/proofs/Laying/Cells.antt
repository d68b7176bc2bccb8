-- The cells of the planes: no two places share one, and a cell holds of a pixel's marks those of its kernel times the
-- pixel's light or matte, which lie nowhere outside the padded plane.
use mathlib.Core.Path.{◌≡◌, refl, ap, sym, ◌∙◌}
use mathlib.Core.List.{List, [], ◌∷◌}
use Prim.Native.Nat.{ℕ, ◌+◌, ◌*◌, ◌/◌, ◌%◌, ◌<◌}
use native.Mathlib.Omega.{arith}
use Rattle.plate_model.proofs.Numbers.Extents.{place_within, row_of_lem}
use native.Mathlib.Nat.{mul_comm, mul-le-mul_right, mod-lt}
use Rattle.kernels_model.specs.Choice.{same}
use Rattle.kernels_model.specs.Mark.{Mark, scaled, planes_of}
use Rattle.kernels_model.proofs.Numbers.Choices.{by_lt, if_same, same_yes, same_no, same_as}
use Rattle.kernels_model.specs.Facts.{Each, Near}
use Rattle.kernels_model.proofs.Taps.ShapeNumbers.{reach_under}
use Rattle.kernels_model.proofs.Drawing.MarkPlaces.{marks_near}
use Rattle.plate_model.specs.Layout.{Size, wide, high, padded, cell, places, column_of, row_of}
use Rattle.plate_model.specs.Word.{Pixel}
use Rattle.plate_model.specs.Marks.{in_both, pixel_marks, on_cell}
use Rattle.plate_model.specs.Plain.{light_of, matte_of}
use Rattle.plate_model.specs.Table.{LawfulSize}
use Rattle.plate_model.specs.Word.{Fits}
use Rattle.kernels_model.specs.Fixed.{planes_each, margin}
use Rattle.plate_model.specs.Kernel.{kernel_of}

-- ROWS OF w PLACES
-- two places are one only if they have one row and one column
pub place_row : (w x y u v : ℕ) → x < w → u < w → y * w + x ≡ v * w + u → y ≡ v
place_row w x y u v p q e =
    by_lt y v
    (λ g. absurd (omega (arith, mul-le-mul_right w g)))
    (λ g. by_lt v y (λ k. absurd (omega (arith, mul-le-mul_right w k))) (λ k. omega arith))

pub place_column : (w x y u v : ℕ) → x < w → u < w → y * w + x ≡ v * w + u → x ≡ u
place_column w x y u v p q e = omega (arith, ap (λ (n : ℕ). n * w) (place_row w x y u v p q e))

-- THE CELLS
offset_lt : (z : Size) (x y : ℕ) → x < wide z → y < high z → y * wide z + x < padded z
offset_lt z x y p q = place_within x y (wide z) (high z) p q

pub cell_lt : (z : Size) (n p x y : ℕ) → p < n → x < wide z → y < high z → cell z p x y < n * padded z
cell_lt z n p x y h px py =
    rw (mul_comm n (padded z)) (place_within (y * wide z + x) p (padded z) n (offset_lt z x y px py) h)

-- a number in one cell of one plane is 0 in every other
same_none : (p x y q u v w : ℕ) → (p ≡ q → x ≡ u → y ≡ v → ⊥) → same p q (same x u (same y v w)) ≡ 0
same_none p x y q u v w n =
    if_same p q _ 0
    (λ a. if_same x u _ 0 (λ b. if_same y v w 0 (λ c. absurd (n a b c)) (λ _. refl)) (λ _. refl))
    (λ _. refl)

pub same-cell : (z : Size) (p x y q u v w : ℕ) → x < wide z → y < high z → u < wide z → v < high z
    → same (cell z p x y) (cell z q u v) w ≡ same p q (same x u (same y v w))
same-cell z p x y q u v w px py pu pv =
    if_same _ _ _ _ here (λ n. sym (same_none p x y q u v w (λ a b c. n (λ i. cell z (a i) (b i) (c i)))))
  where
    here : cell z p x y ≡ cell z q u v → w ≡ same p q (same x u (same y v w))
    here e =
        let o = offset_lt z x y px py in
        let s = offset_lt z u v pu pv in
        let f = place_column (padded z) (y * wide z + x) p (v * wide z + u) q o s e in
        sym (same_yes p q _ (place_row (padded z) (y * wide z + x) p (v * wide z + u) q o s e)
        ∙ same_yes x u _ (place_column (wide z) x y u v px pu f)
        ∙ same_yes y v w (place_row (wide z) x y u v px pu f))

-- MARKS INSIDE
-- a mark in one of a picture's planes, inside a padded plane
pub record InPlane (z : Size) (m : Mark) : Type 0 where
  pub plane_in : m.plane < planes_each
  pub column_in : m.column < wide z
  pub row_in : m.row < high z

near_in_plane : (z : Size) (d X Y : ℕ) (ms : List Mark) → X + d < wide z → Y + d < high z → Each (Near d X Y) ms
    → Each (InPlane z) ms
unfolding Each
near_in_plane z d X Y [] p q h = tt
near_in_plane z d X Y (m ∷ ms) p q h = (
  record { plane_in = h.0.plane_in; column_in = omega (arith, h.0); row_in = omega (arith, h.0) },
  near_in_plane z d X Y ms p q h.1,
)

pub marks_inside : (z : Size) (i : ℕ) (p : Pixel) → LawfulSize z → Fits z.reach p → i < places z
    → Each (InPlane z) (kernel_of p (column_of z i) (row_of z i))
marks_inside z i p law fits h =
    let R = z.reach in
    let c : i % z.width < z.width = mod-lt i law.width_some in
    let l : i / z.width < z.height = row_of_lem i z.width z.height law.width_some h in
    near_in_plane z (R + margin) (column_of z i) (row_of z i) (kernel_of p (column_of z i) (row_of z i))
    (omega arith)
    (omega arith)
    (marks_near p.shape p.radius R (column_of z i) (row_of z i)
    (reach_under R p.shape p.radius fits.radius_fits)
    (omega arith)
    (omega arith))

-- WHAT LIES ON A CELL
-- w in plane q at a mark's column and row, else 0
abbrev at_mark : ℕ → Mark → ℕ → ℕ → ℕ → ℕ → ℕ
at_mark q m w p x y = same p q (same x m.column (same y m.row w))

module _ (z : Size) (light matte d x y : ℕ) (px : x < wide z) (py : y < high z) where
  one-mark : (p q w : ℕ) (m : Mark) → InPlane z m → same (cell z p x y) (cell z q m.column m.row) w ≡ at_mark q m w p x y
  one-mark p q w m a = same-cell z p x y q m.column m.row w px py a.column_in a.row_in

  -- of marks that are laid in light and in matte
  light_on_cell : (ms : List Mark) → d < planes_each → Each (InPlane z) ms
      → on_cell z (cell z d x y) (in_both light matte ms) ≡ planes_of (scaled light ms) d x y
  unfolding on_cell in_both planes_of scaled Each
  light_on_cell [] h a = refl
  light_on_cell (m ∷ ms) h a =
      let v = light * m.coefficient in
      let w = matte * m.coefficient in
      rw (
        one-mark d m.plane v m a.0,
        one-mark d (planes_each + m.plane) w m a.0,
        same_no d (planes_each + m.plane) _ (omega arith),
        light_on_cell ms h a.1,
      )
      (omega arith)

  matte_on_cell : (ms : List Mark) → Each (InPlane z) ms
      → on_cell z (cell z (planes_each + d) x y) (in_both light matte ms) ≡ planes_of (scaled matte ms) d x y
  unfolding on_cell in_both planes_of scaled Each
  matte_on_cell [] a = refl
  matte_on_cell (m ∷ ms) a =
      let v = light * m.coefficient in
      let w = matte * m.coefficient in
      rw (
        one-mark (planes_each + d) m.plane v m a.0,
        one-mark (planes_each + d) (planes_each + m.plane) w m a.0,
        same_no (planes_each + d) m.plane _ (omega (arith, a.0.plane_in)),
        same_as (planes_each + d) (planes_each + m.plane) d m.plane _ (omega arith) (omega arith),
        matte_on_cell ms a.1,
      )
      (omega arith)

-- none outside
none_outside : (z : Size) (w d x y : ℕ) (ms : List Mark) → (x < wide z → y < high z → ⊥) → Each (InPlane z) ms
    → planes_of (scaled w ms) d x y ≡ 0
unfolding planes_of scaled Each
none_outside z w d x y [] n a = refl
none_outside z w d x y (m ∷ ms) n a =
    let away = same_none d x y m.plane m.column m.row (w * m.coefficient) in
    rw (away (λ _ b c. n (rw b a.0.column_in) (rw c a.0.row_in)), none_outside z w d x y ms n a.1)

-- ONE PIXEL
-- the marks of its kernel, w times over
unfoldable pub laid : Size → ℕ → ℕ → Pixel → List Mark
laid z w i p = scaled w (kernel_of p (column_of z i) (row_of z i))

module _ (z : Size) (law : LawfulSize z) (i : ℕ) (h : i < places z) (p : Pixel) (fits : Fits z.reach p) (d x y : ℕ) where
  -- "for light; then the same for matte"
  pub light_laid : d < planes_each → x < wide z → y < high z
      → on_cell z (cell z (0 + d) x y) (pixel_marks z i p) ≡ planes_of (laid z (light_of p) i p) d x y
  unfolding pixel_marks laid
  light_laid g px py =
      let e : 0 + d ≡ d = omega arith in
      rw e (light_on_cell z (light_of p) (matte_of p) d x y px py _ g (marks_inside z i p law fits h))

  pub matte_laid : x < wide z → y < high z
      → on_cell z (cell z (planes_each + d) x y) (pixel_marks z i p) ≡ planes_of (laid z (matte_of p) i p) d x y
  unfolding pixel_marks laid
  matte_laid px py = matte_on_cell z (light_of p) (matte_of p) d x y px py _ (marks_inside z i p law fits h)

  -- "0 outside"
  pub laid_outside : (w : ℕ) → (x < wide z → y < high z → ⊥) → planes_of (laid z w i p) d x y ≡ 0
  unfolding laid
  laid_outside w n = none_outside z w d x y _ n (marks_inside z i p law fits h)
