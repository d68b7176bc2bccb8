-- The change that a put or an undo reads is one of a place of the plate and two of its pixels.
use Rattle.std.specs.Prelude.{Option, Some, None, Ok, Err}
use mathlib.Core.Path.{◌≡◌, refl, sym}
use Prim.Native.Nat.{ℕ, ◌/◌, ◌%◌, ◌≤◌, ◌<◌}
use native.Mathlib.Omega.{arith}
use native.Mathlib.Nat.{mod-lt, div-add-mod'}
use lib.ListN.{get_or, length}
use Rattle.plate_model.specs.Layout.{places}
use Rattle.plate_model.specs.Lent.{State, Ask, Lent, lengths_of}
use Rattle.plate_model.specs.Word.{read_word, Entry, read_entry, Pixel}
use Rattle.plate_model.specs.Refusal.{Refusal, Outcome, put_check, undo_check}
use Rattle.plate_model.specs.Asked.{asked_place, asked_pixel}
use Rattle.plate_model.specs.Change.{Change, put_over, put_read_by, put_read, undo_over, undo_entry}
use Rattle.plate_model.specs.Change.{undo_read_by, undo_read}
use Rattle.plate_model.specs.Word.{Fits}
use Rattle.plate_model.specs.Ready.{PutReady, PutReads, UndoReady, UndoReads}
use Rattle.plate_model.proofs.Numbers.Extents.{row_of_lem}
use Rattle.plate_model.proofs.Checks.Accepted.{PlateAccepted, plate_accepted, AskAccepted, ask-accepted, asked_fits}
use Rattle.plate_model.proofs.Checks.Accepted.{some_accepted}
use Rattle.plate_model.proofs.Words.Words.{read_fits, read_word_lem, word_small, entry_read}

pub no_change : {P : Type 0} (f : Refusal) (c : Change) → Err f ≡ Ok c → P
no_change f c e = let z : ◌≡◌ {A = ℕ} 0 1 = cc in absurd (omega arith)

-- PUT
module _ (s : State) (a : Ask) (l : Lent) (byte : a.opacity < 256) (c : Change) where
  -- the arguments are lawful, and the word at their place is a pixel's
  put_whole : PlateAccepted s (lengths_of l) → AskAccepted s.size s.count (length l.log) a
      → (u : Option Pixel) → read_word s.size.reach (get_or l.pixels (asked_place s.size a) 0) ≡ u
      → put_over u s.size a ≡ Ok c → PutReady s c l
  unfolding put_over
  put_whole plate asked None w e = no_change _ c e
  put_whole plate asked (Some old) w e =
      let z = s.size in
      let fits = read_fits z.reach _ old w in
      let full : s.count ≡ length l.log → ⊥ = asked.not_full in
      let made : record { place = asked_place z a; x = a.x; y = a.y; old = old; new = asked_pixel a } ≡ c = cc in
      rw (← made)
      (record {
        changeable = record {
          change = record {
            lawful = plate.lawful;
            place_is = refl;
            column_in = asked.place_x;
            row_in = asked.place_y;
            old_fits = fits;
            new_fits = asked_fits z s.count (length l.log) a asked byte;
          };
          planes_are = plate.lent.planes_are;
        };
        place_in = omega (arith, asked.place_in, plate.lent.pixels_are);
        place_small = omega (arith, asked.place_in, plate.lawful.places_top_fact);
        word_small = omega (arith, read_word_lem _ _ old w, word_small _ old fits);
        has_room = omega (arith, plate.count_in);
      })

  put_ready_by : (o : Outcome) → put_check s a (lengths_of l) ≡ o → put_read_by o s.size a l.pixels ≡ Ok c
      → PutReady s c l
  unfolding put_read_by put_check
  put_ready_by (Err f) k e = no_change f c e
  put_ready_by (Ok tt) k e =
      let plate = plate_accepted s (lengths_of l) _ k in
      put_whole plate.0 (ask-accepted s.size s.count (length l.log) a plate.1) _ refl e

pub put_ready : PutReads
unfolding put_read
put_ready s a l byte c e = put_ready_by s a l byte c (put_check s a (lengths_of l)) refl e

-- UNDO
module _ (s : State) (l : Lent) (c : Change) (plate : PlateAccepted s (lengths_of l)) (some : 1 ≤ s.count) where
  undo_whole : (e : Entry) → (e.place < places s.size) → Fits s.size.reach e.pixel
      → (u : Option Pixel) → read_word s.size.reach (get_or l.pixels e.place 0) ≡ u
      → undo_over s.size e u ≡ Ok c → UndoReady s c l
  unfolding undo_over
  undo_whole e inside fits None w q = no_change _ c q
  undo_whole e inside fits (Some old) w q =
      let z = s.size in
      let i = e.place in
      let wide = plate.lawful.width_some in
      let made : record { place = i; x = i % z.width; y = i / z.width; old = old; new = e.pixel } ≡ c = cc in
      rw (← made)
      (record {
        changeable = record {
          change = record {
            lawful = plate.lawful;
            place_is = sym (div-add-mod' i z.width);
            column_in = mod-lt i wide;
            row_in = row_of_lem i z.width z.height wide inside;
            old_fits = read_fits z.reach _ old w;
            new_fits = fits;
          };
          planes_are = plate.lent.planes_are;
        };
        place_in = omega (arith, plate.lent.pixels_are);
        count_some = some;
        last_in = omega (arith, plate.count_in);
      })

  undo_logged : (w : ℕ) (r : Option Entry) → read_entry s.size w ≡ r
      → undo_entry r s.size l.pixels ≡ Ok c → UndoReady s c l
  unfolding undo_entry
  undo_logged w None is q = no_change _ c q
  undo_logged w (Some e) is q = let h = entry_read s.size w e is in undo_whole e h.0 h.1 _ refl q

undo_ready_by : (s : State) (l : Lent) (c : Change) (o : Outcome) → undo_check s (lengths_of l) ≡ o
    → undo_read_by o s l.pixels l.log ≡ Ok c
    → UndoReady s c l
unfolding undo_read_by undo_check
undo_ready_by s l c (Err f) k q = no_change f c q
undo_ready_by s l c (Ok tt) k q =
    let plate = plate_accepted s (lengths_of l) _ k in
    undo_logged s l c plate.0 (some_accepted s plate.1) _ _ refl q

pub undo_ready : UndoReads
unfolding undo_read
undo_ready s l c q = undo_ready_by s l c (undo_check s (lengths_of l)) refl q
