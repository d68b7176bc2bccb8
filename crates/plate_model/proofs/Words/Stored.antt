-- 10: a stored word or entry is read where it breaks nothing, and only there.
use Rattle.std.specs.Prelude.{Some, None}
use mathlib.Core.Path.{◌≡◌, refl}
use mathlib.Core.Logic.{◌⊎◌, inl, inr, ⊎_elim}
use Prim.Native.Nat.{ℕ, ◌*◌, ◌/◌, ◌%◌, ◌^◌, ◌≤◌, ◌<◌}
use native.Mathlib.Omega.{arith}
use native.Mathlib.Nat.{mod-lt, mul_comm, div-lt_iff_lt-mul}
use borrow.Author.Tests.{lt-ltb, le-ltb, le-leb, lt-leb}
use Rattle.kernels_model.specs.Fixed.{shape_count}
use Rattle.kernels_model.specs.declared.shape.Shape.{Shape}
use Rattle.kernels_model.specs.Shape.{shape_of, top_under}
use Rattle.kernels_model.proofs.Numbers.Choices.{by_lt}
use Rattle.plate_model.specs.Fixed.{word_bits}
use Rattle.plate_model.specs.Layout.{Size, places}
use Rattle.plate_model.specs.Word.{Pixel, read_word, Entry, read_entry}
use Rattle.plate_model.specs.Table.{PlaceOutside, RadiusAbove, WordBroken, EntryBroken, place_in, LawfulSize}
use Rattle.plate_model.proofs.Numbers.Extents.{row_of_lem}
use Rattle.plate_model.proofs.Checks.Conditions.{shape_named, place_apart}

-- THE WORD
-- it is broken, or a pixel is read from it
pub record WordRead (R w : ℕ) : Type 0 where
  pub sound : ¬ (WordBroken R w)
  pub pixel : Pixel
  pub read : read_word R w ≡ Some pixel

abbrev pub WordCases : ℕ → ℕ → Type 0
WordCases R w = (WordBroken R w × (read_word R w ≡ None)) ⊎ WordRead R w

-- a word of 32 bits that keeps a shape
word_shaped : (R w : ℕ) (s : Shape) → w < 2 ^ word_bits → w / 2 ^ 20 % 16 < shape_count → shape_of (w / 2 ^ 20 % 16) ≡ Some s
    → WordCases R w
unfolding WordBroken RadiusAbove read_word
word_shaped R w s low few e =
    by_lt (top_under s R) (w / 2 ^ 24 % 256)
    (λ h. inl (inr (inr (rw e h)), rw (lt-leb (2 ^ word_bits) w low, e, lt-ltb (top_under s R) (w / 2 ^ 24 % 256) h)))
    (λ h. inr (record {
      sound = ⊎_elim (λ a. omega arith) (⊎_elim (λ a. omega arith) (λ a. let above = rw e at a in omega arith));
      pixel = record { value = w % 2 ^ 12; opacity = w / 2 ^ 12 % 256; shape = s; radius = w / 2 ^ 24 % 256 };
      read = rw (lt-leb (2 ^ word_bits) w low, e, le-ltb (top_under s R) (w / 2 ^ 24 % 256) h);
    }))

pub word_cases : (R w : ℕ) → WordCases R w
unfolding WordBroken read_word
word_cases R w =
    by_lt w (2 ^ word_bits)
    (λ low. ⊎_elim
    (λ t. inl (inr (inl t.0), rw (lt-leb (2 ^ word_bits) w low, t.1)))
    (λ t. word_shaped R w t.1.0 low t.0 t.1.1)
    (shape_named (w / 2 ^ 20 % 16)))
    (λ high. inl (inl high, rw (le-leb (2 ^ word_bits) w high)))

-- THE ENTRY
pub record EntryLogged (z : Size) (e : ℕ) : Type 0 where
  pub sound : ¬ (EntryBroken z e)
  pub entry : Entry
  pub read : read_entry z e ≡ Some entry
  pub place_is : entry.place ≡ place_in e

abbrev pub EntryCases : Size → ℕ → Type 0
EntryCases z e = (EntryBroken z e × (read_entry z e ≡ None)) ⊎ EntryLogged z e

-- past the last place its row is past the last
row_past : (i w h : ℕ) → 0 < w → w * h ≤ i → h ≤ i / w
row_past i w h some p =
    by_lt (i / w) h (λ l. absurd (omega (arith, (div-lt_iff_lt-mul {x = i} {y = h} some).0 l, mul_comm h w))) (λ l. l)

entry_word : (z : Size) (e : ℕ) → LawfulSize z → place_in e < places z → WordCases z.reach (e % 2 ^ word_bits) → EntryCases z e
unfolding EntryBroken read_entry
entry_word z e lawful inside (inl t) = inl (inr t.0, rw (lt-leb (places z) (place_in e) inside, t.1))
entry_word z e lawful inside (inr t) =
    let wide = lawful.width_some in
    let row = row_of_lem (place_in e) z.width z.height wide inside in
    inr (record {
      sound = ⊎_elim (λ a. place_apart z _ _ a (mod-lt (place_in e) wide, row)) t.sound;
      entry = record { place = place_in e; pixel = t.pixel };
      read = rw (lt-leb (places z) (place_in e) inside, t.read);
      place_is = refl;
    })

pub entry_cases : (z : Size) (e : ℕ) → LawfulSize z → EntryCases z e
unfolding EntryBroken PlaceOutside read_entry
entry_cases z e lawful =
    by_lt (place_in e) (places z)
    (λ inside. entry_word z e lawful inside (word_cases z.reach (e % 2 ^ word_bits)))
    (λ past. inl (
      inl (inr (row_past (place_in e) z.width z.height lawful.width_some past)),
      rw (le-leb (places z) (place_in e) past),
    ))
