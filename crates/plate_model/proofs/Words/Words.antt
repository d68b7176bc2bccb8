-- The pixel word and the log entry: reading gives back what was packed, and what is read is lawful and packs to what was read.
use Rattle.std.specs.Prelude.{Option, Some, None}
use mathlib.Core.Path.{◌≡◌, refl, ap, sym, ◌∙◌}
use mathlib.Core.Bool.{Bool, true, false}
use Prim.Native.Nat.{ℕ, zero, suc, ◌+◌, ◌*◌, ◌/◌, ◌%◌, ◌^◌, ◌≤◌, ◌<◌}
use native.Mathlib.Omega.{arith}
use lib.Dec.{leb, ltb}
use borrow.Author.Tests.{ltb-false, leb-false, le-ltb, lt-leb}
use Rattle.kernels_model.specs.Choice.{pick}
use Rattle.kernels_model.specs.declared.shape.Shape.{Shape}
use Rattle.kernels_model.specs.declared.shape.Shape.TheVariants.{Box, Tent, Triple, Diamond, Hexagon, Octagon}
use Rattle.kernels_model.specs.Shape.{number_of, shape_of, top_under}
use Rattle.kernels_model.proofs.Taps.ShapeNumbers.{number_le, number_back, top_small}
use Rattle.plate_model.specs.Layout.{Size, places}
use Rattle.plate_model.specs.Word.{Pixel, word_of, pixel_in, read_word, Entry, entry_of}
use Rattle.plate_model.specs.Word.{entry_in, read_entry}
use Rattle.plate_model.specs.Word.{Fits}
use Rattle.plate_model.specs.Fixed.{word_bits}

-- SHAPES
-- the shape read from a number has that number
pub number_of_lem : (n : ℕ) (s : Shape) → shape_of n ≡ Some s → number_of s ≡ n
number_of_lem zero s e = let q : Box ≡ s = cc in sym (ap number_of q)
number_of_lem (suc zero) s e = let q : Tent ≡ s = cc in sym (ap number_of q)
number_of_lem (suc (suc zero)) s e = let q : Triple ≡ s = cc in sym (ap number_of q)
number_of_lem (suc (suc (suc zero))) s e = let q : Diamond ≡ s = cc in sym (ap number_of q)
number_of_lem (suc (suc (suc (suc zero)))) s e = let q : Hexagon ≡ s = cc in sym (ap number_of q)
number_of_lem (suc (suc (suc (suc (suc zero))))) s e = let q : Octagon ≡ s = cc in sym (ap number_of q)
number_of_lem (suc (suc (suc (suc (suc (suc n)))))) s e =
    let none : None ≡ Some s = e in
    let z : ◌≡◌ {A = ℕ} 0 1 = cc in
    absurd (omega arith)

pub top_under_small : (s : Shape) (R : ℕ) → top_under s R ≤ 64
top_under_small s R = omega (arith, top_small s)

-- THE WORD
pub word_small : (R : ℕ) (p : Pixel) → Fits R p → word_of p < 2 ^ word_bits
word_small R p f =
    let s : number_of p.shape ≤ 5 = number_le p.shape in
    let r : p.radius ≤ 64 = omega (arith, f.radius_fits, top_under_small p.shape R) in
    omega arith

-- the four parts of a word
low_part : (v a s r : ℕ) → v < 4096 → a < 256 → s < 16 → r < 256
    → (v + 2 ^ 12 * a + 2 ^ 20 * s + 2 ^ 24 * r) % 2 ^ 12 ≡ v
low_part v a s r p q t u = omega arith

opacity_part : (v a s r : ℕ) → v < 4096 → a < 256 → s < 16 → r < 256
    → (v + 2 ^ 12 * a + 2 ^ 20 * s + 2 ^ 24 * r) / 2 ^ 12 % 256 ≡ a
opacity_part v a s r p q t u =
    let above : (v + 2 ^ 12 * a + 2 ^ 20 * s + 2 ^ 24 * r) / 2 ^ 12 ≡ a + 256 * s + 4096 * r = omega arith in
    rw above (omega arith)

shape_part : (v a s r : ℕ) → v < 4096 → a < 256 → s < 16 → r < 256
    → (v + 2 ^ 12 * a + 2 ^ 20 * s + 2 ^ 24 * r) / 2 ^ 20 % 16 ≡ s
shape_part v a s r p q t u =
    let above : (v + 2 ^ 12 * a + 2 ^ 20 * s + 2 ^ 24 * r) / 2 ^ 20 ≡ s + 16 * r = omega arith in
    rw above (omega arith)

radius_part : (v a s r : ℕ) → v < 4096 → a < 256 → s < 16 → r < 256
    → (v + 2 ^ 12 * a + 2 ^ 20 * s + 2 ^ 24 * r) / 2 ^ 24 % 256 ≡ r
radius_part v a s r p q t u =
    let above : (v + 2 ^ 12 * a + 2 ^ 20 * s + 2 ^ 24 * r) / 2 ^ 24 ≡ r = omega arith in
    rw above (omega arith)

-- a packed pixel is read back
pub read_back : (R : ℕ) (p : Pixel) → Fits R p → read_word R (word_of p) ≡ Some p
unfolding read_word
read_back R p f =
    let v : p.value < 4096 = omega (arith, f.value_fits) in
    let a : p.opacity < 256 = f.opacity_fits in
    let s : number_of p.shape < 16 = omega (arith, number_le p.shape) in
    let r : p.radius < 256 = omega (arith, f.radius_fits, top_under_small p.shape R) in
    let n = number_of p.shape in
    rw (
      lt-leb (2 ^ word_bits) (word_of p) (word_small R p f),
      shape_part p.value p.opacity n p.radius v a s r,
      number_back p.shape,
      radius_part p.value p.opacity n p.radius v a s r,
      le-ltb (top_under p.shape R) p.radius f.radius_fits,
      low_part p.value p.opacity n p.radius v a s r,
      opacity_part p.value p.opacity n p.radius v a s r,
    )

-- what a word that reads as a pixel holds
record Reads (R w : ℕ) (p : Pixel) : Type 0 where
  word_low : w < 2 ^ word_bits
  shape_is : shape_of (w / 2 ^ 20 % 16) ≡ Some p.shape
  top_is : w / 2 ^ 24 % 256 ≤ top_under p.shape R
  value_is : p.value ≡ w % 2 ^ 12
  opacity_is : p.opacity ≡ w / 2 ^ 12 % 256
  radius_is : p.radius ≡ w / 2 ^ 24 % 256

pub broken-not : {P : Type 0} (p : Pixel) → None ≡ Some p → P
broken-not p e = let z : ◌≡◌ {A = ℕ} 0 1 = cc in absurd (omega arith)

reads : (R w : ℕ) (p : Pixel) → read_word R w ≡ Some p → Reads R w p
unfolding read_word
reads R w p e = low (leb (2 ^ word_bits) w) refl e
  where
    top : (s : Shape) (t : Bool) → ltb (top_under s R) (w / 2 ^ 24 % 256) ≡ t → w < 2 ^ word_bits
        → shape_of (w / 2 ^ 20 % 16) ≡ Some s
        → pick t None
        (Some (record { value = w % 2 ^ 12; opacity = w / 2 ^ 12 % 256; shape = s; radius = w / 2 ^ 24 % 256 })) ≡ Some p
        → Reads R w p
    top s true q l g e = broken-not p e
    top s false q l g e =
        let same : s ≡ p.shape = cc in
        record {
          word_low = l;
          shape_is = g ∙ ap Some same;
          top_is = rw same at (ltb-false (top_under s R) (w / 2 ^ 24 % 256) q);
          value_is = cc;
          opacity_is = cc;
          radius_is = cc;
        }

    known : (s : Option Shape) → shape_of (w / 2 ^ 20 % 16) ≡ s → w < 2 ^ word_bits → pixel_in R w s ≡ Some p → Reads R w p
    known None g l e = broken-not p e
    known (Some s) g l e = top s (ltb (top_under s R) (w / 2 ^ 24 % 256)) refl l g e

    low : (t : Bool) → leb (2 ^ word_bits) w ≡ t → pick t None (pixel_in R w (shape_of (w / 2 ^ 20 % 16))) ≡ Some p → Reads R w p
    low true q e = broken-not p e
    low false q e = known (shape_of (w / 2 ^ 20 % 16)) refl (leb-false _ _ q) e

-- what is read is a lawful pixel
pub read_fits : (R w : ℕ) (p : Pixel) → read_word R w ≡ Some p → Fits R p
read_fits R w p e =
    let h = reads R w p e in
    record {
      value_fits = omega (arith, h.value_is);
      opacity_fits = omega (arith, h.opacity_is);
      radius_fits = omega (arith, h.radius_is, h.top_is);
    }

-- a word is the sum of its parts
parts : (w : ℕ) → w < 2 ^ word_bits
    → w % 2 ^ 12 + 2 ^ 12 * (w / 2 ^ 12 % 256) + 2 ^ 20 * (w / 2 ^ 20 % 16) + 2 ^ 24 * (w / 2 ^ 24 % 256) ≡ w
parts w h =
    let a : w / 2 ^ 20 ≡ w / 2 ^ 12 / 256 = omega arith in
    let b : w / 2 ^ 24 ≡ w / 2 ^ 12 / 256 / 16 = omega arith in
    let c : w / 2 ^ 12 / 256 % 16 + 16 * (w / 2 ^ 12 / 256 / 16 % 256) ≡ w / 2 ^ 12 / 256 =
    upper (w / 2 ^ 12 / 256) (omega arith) in
    rw (a, b) (whole w (w / 2 ^ 12 / 256 % 16) (w / 2 ^ 12 / 256 / 16 % 256) c)
  where
    upper : (b : ℕ) → b < 4096 → b % 16 + 16 * (b / 16 % 256) ≡ b
    upper b h = omega arith

    whole : (w s r : ℕ) → s + 16 * r ≡ w / 2 ^ 12 / 256 → w % 2 ^ 12 + 2 ^ 12 * (w / 2 ^ 12 % 256) + 2 ^ 20 * s + 2 ^ 24 * r ≡ w
    whole w s r e = omega arith

-- and packs to the word that was read
pub read_word_lem : (R w : ℕ) (p : Pixel) → read_word R w ≡ Some p → word_of p ≡ w
read_word_lem R w p e =
    let h = reads R w p e in
    rw (h.value_is, h.opacity_is, number_of_lem (w / 2 ^ 20 % 16) p.shape h.shape_is, h.radius_is) (parts w h.word_low)

-- THE ENTRY
-- a lawful entry is read back
pub entry_back : (z : Size) (e : Entry) → e.place < places z → Fits z.reach e.pixel → read_entry z (entry_of e) ≡ Some e
unfolding read_entry
entry_back z e h f =
    let small : word_of e.pixel < 2 ^ word_bits = word_small z.reach e.pixel f in
    rw (
      high (word_of e.pixel) e.place small,
      lt-leb (places z) e.place h,
      low (word_of e.pixel) e.place small,
      read_back z.reach e.pixel f,
    )
  where
    high : (w i : ℕ) → w < 2 ^ word_bits → (w + 2 ^ word_bits * i) / 2 ^ word_bits ≡ i
    high w i h = omega arith

    low : (w i : ℕ) → w < 2 ^ word_bits → (w + 2 ^ word_bits * i) % 2 ^ word_bits ≡ w
    low w i h = omega arith

pub unreadable_not : {P : Type 0} (e : Entry) → None ≡ Some e → P
unreadable_not e q = let z : ◌≡◌ {A = ℕ} 0 1 = cc in absurd (omega arith)

-- what is read is lawful and packs to the entry that was read
pub entry_read : (z : Size) (n : ℕ) (e : Entry) → read_entry z n ≡ Some e
    → (e.place < places z) × Fits z.reach e.pixel × (entry_of e ≡ n)
unfolding read_entry
entry_read z n e h = high (leb (places z) (n / 2 ^ word_bits)) refl h
  where
    whole : (u : Option Pixel) → read_word z.reach (n % 2 ^ word_bits) ≡ u → n / 2 ^ word_bits < places z
        → entry_in (n / 2 ^ word_bits) u ≡ Some e
        → (e.place < places z) × Fits z.reach e.pixel × (entry_of e ≡ n)
    whole None q l h = unreadable_not e h
    whole (Some p) q l h =
        let place : e.place ≡ n / 2 ^ word_bits = cc in
        let pixel : p ≡ e.pixel = cc in
        let r : read_word z.reach (n % 2 ^ word_bits) ≡ Some e.pixel = q ∙ ap Some pixel in
        let w : word_of e.pixel ≡ n % 2 ^ word_bits = read_word_lem z.reach (n % 2 ^ word_bits) e.pixel r in
        (rw place l, read_fits z.reach (n % 2 ^ word_bits) e.pixel r, omega (arith, w, place))

    high : (t : Bool) → leb (places z) (n / 2 ^ word_bits) ≡ t
        → pick t None (entry_in (n / 2 ^ word_bits) (read_word z.reach (n % 2 ^ word_bits))) ≡ Some e
        → (e.place < places z) × Fits z.reach e.pixel × (entry_of e ≡ n)
    high true q h = unreadable_not e h
    high false q h = whole (read_word z.reach (n % 2 ^ word_bits)) refl (leb-false _ _ q) h
