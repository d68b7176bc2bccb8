-- Words and entries both ways, from what reading tells of each.
use Rattle.std.specs.Prelude.{None}
use mathlib.Core.Path.{◌≡◌, sym, ◌∙◌}
use mathlib.Core.Logic.{inl, inr}
use Prim.Native.Nat.{ℕ}
use Rattle.plate_model.specs.Layout.{Size}
use Rattle.plate_model.specs.Word.{read_word, read_entry}
use Rattle.plate_model.specs.Table.{WordBroken, EntryBroken}
use Rattle.plate_model.specs.WordFacts.{WordsInverse, EntriesInverse}
use Rattle.plate_model.proofs.Words.Words.{broken-not, read_back, read_fits, read_word_lem, unreadable_not, entry_back}
use Rattle.plate_model.proofs.Words.Words.{entry_read}
use Rattle.plate_model.proofs.Words.Stored.{WordCases, word_cases, EntryCases, entry_cases}

-- WORDS
broken_read : (R w : ℕ) → WordCases R w → WordBroken R w → read_word R w ≡ None
broken_read R w (inl t) b = t.1
broken_read R w (inr t) b = absurd (t.sound b)

read_broken : (R w : ℕ) → WordCases R w → read_word R w ≡ None → WordBroken R w
read_broken R w (inl t) e = t.0
read_broken R w (inr t) e = broken-not t.pixel (sym e ∙ t.read)

pub words_inverse : WordsInverse
words_inverse =
    record {
      read_back = read_back;
      read_lawful = λ R w p e. (read_fits R w p e, read_word_lem R w p e);
      broken_read = λ R w. broken_read R w (word_cases R w);
      read_broken = λ R w. read_broken R w (word_cases R w);
    }

-- ENTRIES
entry_broken_read : (z : Size) (n : ℕ) → EntryCases z n → EntryBroken z n → read_entry z n ≡ None
entry_broken_read z n (inl t) b = t.1
entry_broken_read z n (inr t) b = absurd (t.sound b)

entry_read_broken : (z : Size) (n : ℕ) → EntryCases z n → read_entry z n ≡ None → EntryBroken z n
entry_read_broken z n (inl t) e = t.0
entry_read_broken z n (inr t) e = unreadable_not t.entry (sym e ∙ t.read)

pub entries_inverse : EntriesInverse
entries_inverse =
    record {
      read_back = λ z e h. entry_back z e h.place_fits h.pixel_fits;
      read_lawful = λ z n e r.
          let h = entry_read z n e r in
          (record { place_fits = h.0; pixel_fits = h.1 }, h.2);
      broken_read = λ z n law. entry_broken_read z n (entry_cases z n law);
      read_broken = λ z n law. entry_read_broken z n (entry_cases z n law);
    }
