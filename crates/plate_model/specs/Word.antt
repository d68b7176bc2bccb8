-- Pixels, their words, and log entries.
use Rattle.std.specs.Prelude.{ℕ, ◌+◌, ◌*◌, ◌/◌, ◌%◌, ◌^◌, ◌≤◌, ◌<◌, leb, ltb, Option, Some, None}
use Rattle.kernels_model.specs.Fixed.{value_top}
use Rattle.kernels_model.specs.Choice.{pick}
use Rattle.kernels_model.specs.declared.shape.Shape.TheVariants.{Box}
use Rattle.kernels_model.specs.Shape.{number_of, shape_of, top_under}
use Rattle.kernels_model.specs.declared.shape.Shape.{Shape}
use Rattle.plate_model.specs.Fixed.{word_bits}
use Rattle.plate_model.specs.Layout.{Size, places}
pub use Rattle.plate_model.specs.declared.word.Pixel.{Pixel}
pub use Rattle.plate_model.specs.declared.word.Entry.{Entry}

-- "Word 0 is the empty pixel."
abbrev pub empty : Pixel
empty = record { value = 0; opacity = 0; shape = Box; radius = 0 }

-- a lawful pixel under R: "value v 0 to 4,095, opacity a 0 to 255", and a radius at most its shape's top under R
pub record Fits (R : ℕ) (p : Pixel) : Type 0 where
  pub value_fits : p.value ≤ value_top
  pub opacity_fits : p.opacity < 256
  pub radius_fits : p.radius ≤ top_under p.shape R

-- "Its word keeps the value in bits 0 to 11, opacity in 12 to 19, shape in 20 to 23, radius in 24 to 31, zeros above."
abbrev pub word_of : Pixel → ℕ
word_of p = p.value + 2 ^ 12 * p.opacity + 2 ^ 20 * number_of p.shape + 2 ^ 24 * p.radius

-- and taken apart: the shape's number and the radius
abbrev pub shape_in : ℕ → ℕ
shape_in w = w / 2 ^ 20 % 16

abbrev pub radius_in : ℕ → ℕ
radius_in w = w / 2 ^ 24 % 256

-- a word under R: broken where it "breaks .. 6, 7 or the zero bits" of the table of refusals
abbrev pub pixel_in : ℕ → ℕ → Option Shape → Option Pixel
pixel_in R w None = None
pixel_in R w (Some s) =
    pick (ltb (top_under s R) (radius_in w)) None
    (Some (record { value = w % 2 ^ 12; opacity = w / 2 ^ 12 % 256; shape = s; radius = radius_in w }))

unfoldable pub read_word : ℕ → ℕ → Option Pixel
read_word R w = pick (leb (2 ^ word_bits) w) None (pixel_in R w (shape_of (shape_in w)))

-- "entries of 64 bits (word + 2^32 × place, ..)"
abbrev pub logged_as : ℕ → ℕ → ℕ
logged_as w i = w + 2 ^ word_bits * i

abbrev pub entry_of : Entry → ℕ
entry_of e = logged_as (word_of e.pixel) e.place

-- an entry of a plate: unreadable where its place breaks 4 or its word is broken
abbrev pub entry_in : ℕ → Option Pixel → Option Entry
entry_in i None = None
entry_in i (Some p) = Some (record { place = i; pixel = p })

unfoldable pub read_entry : Size → ℕ → Option Entry
read_entry z e =
    pick (leb (places z) (e / 2 ^ word_bits)) None (entry_in (e / 2 ^ word_bits) (read_word z.reach (e % 2 ^ word_bits)))
