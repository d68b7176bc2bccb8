-- Words and entries "both ways": reading and writing are inverse, on exactly the lawful pixels and entries and the words and
-- entries that the table's 10 is not given for.
use Rattle.std.specs.Prelude.{◌≡◌, ℕ, ◌<◌, Some, None}
use Rattle.plate_model.specs.Layout.{Size, places}
use Rattle.plate_model.specs.Word.{Pixel, Fits, word_of, read_word, Entry, entry_of}
use Rattle.plate_model.specs.Word.{read_entry}
use Rattle.plate_model.specs.Table.{LawfulSize, WordBroken, EntryBroken}

-- WORDS, under a reach R
pub record WordsInverse : Type 0 where
  -- every lawful pixel's word reads as the pixel
  pub read_back : (R : ℕ) (p : Pixel) → Fits R p → read_word R (word_of p) ≡ Some p
  -- a word that reads as a pixel is that pixel's word, and the pixel is lawful
  pub read_lawful : (R w : ℕ) (p : Pixel) → read_word R w ≡ Some p → Fits R p × (word_of p ≡ w)
  -- and a word reads as none exactly where it "breaks .. 6, 7 or the zero bits"
  pub broken_read : (R w : ℕ) → WordBroken R w → read_word R w ≡ None
  pub read_broken : (R w : ℕ) → read_word R w ≡ None → WordBroken R w

-- ENTRIES, of a plate
-- a lawful entry: a place of the plate, and a pixel that is lawful under its reach
pub record EntryFits (z : Size) (e : Entry) : Type 0 where
  pub place_fits : e.place < places z
  pub pixel_fits : Fits z.reach e.pixel

pub record EntriesInverse : Type 0 where
  -- every lawful entry reads as itself
  pub read_back : (z : Size) (e : Entry) → EntryFits z e → read_entry z (entry_of e) ≡ Some e
  -- what reads as an entry is that entry, and it is lawful
  pub read_lawful : (z : Size) (n : ℕ) (e : Entry) → read_entry z n ≡ Some e → EntryFits z e × (entry_of e ≡ n)
  -- and what is stored reads as none exactly where it "breaks 4, 6, 7 or the zero bits"
  pub broken_read : (z : Size) (n : ℕ) → LawfulSize z → EntryBroken z n → read_entry z n ≡ None
  pub read_broken : (z : Size) (n : ℕ) → LawfulSize z → read_entry z n ≡ None → EntryBroken z n
