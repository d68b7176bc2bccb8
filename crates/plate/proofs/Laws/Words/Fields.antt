-- Fields of a word: an `or` with a field shifted past the bits below it is a sum, a mask is a remainder.
use Rattle.std.specs.Prelude.{Option}
use Rattle.std.proofs.Common.{◌≡◌, ℕ, ◌+◌, ◌*◌, ◌/◌, ◌%◌, ◌^◌, ◌<◌, mod-eq_of_lt, mul_comm, add_comm}
use lib.Bits.{bit_and, bit_or, or_shifted_r, and_mask}
use borrow.Author.Tests.{lt-leb}
use Rattle.kernels_model.specs.Shape.{shape_of}
use Rattle.kernels_model.specs.declared.shape.Shape.{Shape}
use Rattle.plate_model.specs.declared.size.Size.{Size}
use Rattle.plate_model.specs.Layout.{places}
use Rattle.plate_model.specs.Word.{pixel_in, read_word, entry_in, read_entry}
use Rattle.plate_model.specs.declared.word.Pixel.{Pixel}
use Rattle.plate_model.specs.Fixed.{word_bits}

-- `low | high << k`
pub or_field : (k low high : ℕ) → low < 2 ^ k → high * 2 ^ k < 2 ^ 64 → bit_or low (high * 2 ^ k % 2 ^ 64) ≡ low + 2 ^ k * high
or_field k low high l f =
    rw (mod-eq_of_lt f, or_shifted_r high k low l, mul_comm high (2 ^ k)) (add_comm (2 ^ k * high) low)

-- a word with zeros above its fields, by the shape that it names
pub low_word : (R w : ℕ) (s : Option Shape) → w < 2 ^ word_bits → shape_of (bit_and (w / 2 ^ 20) 15) ≡ s → read_word R w ≡ pixel_in R w s
unfolding read_word
low_word R w s h e = rw (lt-leb (2 ^ word_bits) w h, ← and_mask (w / 2 ^ 20) 4, e)

-- an entry with a place of the plate, by its word
pub placed_entry : (z : Size) (e : ℕ) (u : Option Pixel) → e / 2 ^ word_bits < places z → read_word z.reach (bit_and e 4294967295) ≡ u
    → read_entry z e ≡ entry_in (e / 2 ^ word_bits) u
unfolding read_entry
placed_entry z e u h r = rw (lt-leb (places z) (e / 2 ^ word_bits) h, ← and_mask e 32, r)
