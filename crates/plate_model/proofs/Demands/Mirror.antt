-- The invariant of a list of calls: the plate mirrors the notebook. Put and undo keep it, and report what the notebook reports.
use Rattle.std.specs.Prelude.{Ok, Err}
use mathlib.Core.Path.{◌≡◌, refl, ap, sym, ◌∙◌}
use mathlib.Core.List.{List, [], ◌∷◌, map}
use Prim.Native.Nat.{ℕ, zero, suc, ◌+◌, ◌*◌, ◌-◌, ◌≤◌, ◌<◌}
use native.Mathlib.Omega.{arith}
use lib.ListN.{get_or, set, length, length-set, length-map}
use lib.Seq.{get_or-set_same, get_or-set_other}
use Rattle.kernels_model.specs.Sum.{sum}
use Rattle.kernels_model.proofs.Numbers.Choices.{by_lt}
use Rattle.kernels_model.proofs.Sums.FiniteSums.{sum_ext_lt}
use Rattle.plate_model.specs.Layout.{Size, padded, places}
use Rattle.plate_model.specs.Word.{Pixel, word_of, Entry, logged_as}
use Rattle.plate_model.specs.Refusal.{Refusal, LogEmpty, Outcome, refuse_if, count_check, empty_check}
use Rattle.plate_model.specs.Refusal.{ask_check, put_check, undo_check, plate_check}
use Rattle.plate_model.specs.Lent.{state_of, Lent, lent, lengths_of, Ask}
use Rattle.plate_model.specs.Marks.{pixel_marks, on_cell, exchanged}
use Rattle.plate_model.specs.Calls.{refused, put_by, put_call, undo_by, undo_call, changed}
use Rattle.plate_model.specs.Asked.{asked_place, asked_pixel}
use Rattle.plate_model.specs.Change.{put_over, undo_over, undo_entry, put_read, undo_read, put_read_by, undo_read_by}
use Rattle.plate_model.specs.Plain.{pixel_at, grid_cell}
use Rattle.plate_model.specs.Notebook.{book_of, Report, BookLeft, book_left, book_refused, book_put_by, book_put, book_undo_of}
use Rattle.plate_model.specs.Notebook.{book_undo}
use Rattle.plate_model.specs.Lists.{Plate, Step, step_of}
use Rattle.plate_model.proofs.Checks.Rows.{check_passes}
use Rattle.plate_model.proofs.Checks.Conditions.{empty_checks}
use Rattle.plate_model.proofs.Checks.Passed.{sizes_pass, lent_pass, count_pass}
use Rattle.plate_model.specs.Table.{LawfulSize, LentFor}
use Rattle.plate_model.specs.Word.{Fits}
use Rattle.plate_model.proofs.Words.Words.{read_back, entry_back}
use Rattle.plate_model.proofs.Laying.LaidCells.{length_exchanged, exchanged-cell}
use Rattle.plate_model.proofs.Numbers.Lists.{map-set, set_each, word_at}
use Rattle.plate_model.proofs.Demands.Logs.{log_by, log_length, log_top_fact, log_undone}
use Rattle.plate_model.specs.Fixed.{planes_in_all, log_top}
use Rattle.plate_model.proofs.Checks.Accepted.{AskAccepted, ask-accepted, asked_fits}

-- THE INVARIANT
-- each entry's place is on the plate, and its pixel is lawful
unfoldable pub PileFits : Size → List Entry → Type 0
PileFits z [] = Unit {0}
PileFits z (e ∷ pile) = (e.place < places z) × Fits z.reach e.pixel × PileFits z pile

pub record Mirrored (z : Size) (room : ℕ) (planes : List ℕ) (grid : List Pixel) (pile : List Entry) : Type 0 where
  pub lawful : LawfulSize z
  pub cells_count : length planes ≡ planes_in_all * padded z
  pub each_cell : (k : ℕ) → k < planes_in_all * padded z → get_or planes k 0 ≡ grid_cell z grid k
  pub grid_size : length grid ≡ places z
  pub grid_fits : (i : ℕ) → Fits z.reach (pixel_at grid i)
  pub pile_fits : PileFits z pile
  pub height_fits : length pile ≤ room
  pub room_top : room ≤ log_top

-- what the plate of a notebook keeps, and that plate; only its planes are not made of grid and pile
abbrev pub held_by : ℕ → List ℕ → List Pixel → List Entry → Lent
held_by room planes grid pile = lent planes (map word_of grid) (log_by room pile)

abbrev pub mirror : Size → ℕ → List ℕ → List Pixel → List Entry → Plate
mirror z room planes grid pile = record { state = state_of z (length pile); buffers = held_by room planes grid pile }

-- a plate's step and a notebook's book_left that agree: the same report, and the invariant after them
pub record Agree (z : Size) (room : ℕ) (s : Step) (t : BookLeft) : Type 0 where
  pub planes : List ℕ
  pub grid : List Pixel
  pub pile : List Entry
  pub same_report : s.report ≡ t.report
  pub same_plate : s.plate ≡ mirror z room planes grid pile
  pub same_book : t.book ≡ book_of z room grid pile
  pub kept : Mirrored z room planes grid pile

-- the same counts and lists make the same plate
plate_eq : (z : Size) (planes : List ℕ) {c c' : ℕ} {pixels pixels' log log' : List ℕ} → c ≡ c' → pixels ≡ pixels' → log ≡ log'
    → ◌≡◌ {A = Plate} (record { state = state_of z c; buffers = lent planes pixels log })
    (record { state = state_of z c'; buffers = lent planes pixels' log' })
plate_eq z planes p q r = λ i. record { state = state_of z (p i); buffers = lent planes (q i) (r i) }

-- ONE PIXEL CHANGED
-- one term of a sum changed
sum-set : (f g : ℕ → ℕ) (i n : ℕ) → ((j : ℕ) → (j ≡ i → ⊥) → f j ≡ g j) → i < n → sum g n + f i ≡ sum f n + g i
unfolding sum
sum-set f g i zero h p = absurd (omega arith)
sum-set f g i (suc n) h p =
    by_lt i n
    (λ q. omega (arith, sum-set f g i n h q, h n (omega arith)))
    (λ q.
    let e : n ≡ i = omega arith in
    omega (arith, sum_ext_lt f g n (λ j l. h j (omega arith)), ap f e, ap g e))

-- what the pixel at a place lays on a cell
laid_on : Size → List Pixel → ℕ → ℕ → ℕ
laid_on z grid k i = on_cell z k (pixel_marks z i (pixel_at grid i))

changed-cell : (z : Size) (room : ℕ) (planes : List ℕ) (grid : List Pixel) (pile : List Entry) (i : ℕ) (new : Pixel)
    → Mirrored z room planes grid pile → i < places z → (k : ℕ) → k < planes_in_all * padded z
    → get_or (exchanged z i (pixel_at grid i) new planes) k 0 ≡ grid_cell z (set grid i new) k
unfolding grid_cell laid_on
changed-cell z room planes grid pile i new kept h k b =
    let after = set grid i new in
    let one : sum (laid_on z after k) (places z) + laid_on z grid k i ≡ sum (laid_on z grid k) (places z) + laid_on z after k i =
    sum-set (laid_on z grid k) (laid_on z after k) i (places z)
    (λ j n. ap (λ (p : Pixel). on_cell z k (pixel_marks z j p)) (sym (get_or-set_other grid i j new _ n)))
    h in
    let here : pixel_at after i ≡ new = get_or-set_same grid i new _ (omega (arith, kept.grid_size)) in
    exchanged-cell z i (pixel_at grid i) new planes k (sum (laid_on z grid k) (places z)) (sum (laid_on z after k) (places z))
    (omega (arith, kept.cells_count)) (kept.each_cell k b) (rw here at one)

pub one-changed : (z : Size) (room : ℕ) (planes : List ℕ) (grid : List Pixel) (pile pile' : List Entry) (i : ℕ) (new : Pixel)
    → Mirrored z room planes grid pile → i < places z → Fits z.reach new → length pile' ≤ room → PileFits z pile'
    → Mirrored z room (exchanged z i (pixel_at grid i) new planes) (set grid i new) pile'
one-changed z room planes grid pile pile' i new kept h fits height pile_fits =
    record {
      lawful = kept.lawful;
      cells_count = length_exchanged z i _ new planes ∙ kept.cells_count;
      each_cell = changed-cell z room planes grid pile i new kept h;
      grid_size = length-set grid i new ∙ kept.grid_size;
      grid_fits = set_each (Fits z.reach) grid i new _ fits kept.grid_fits;
      pile_fits = pile_fits;
      height_fits = height;
      room_top = kept.room_top;
    }

-- STEPS
module _ (z : Size) (room : ℕ) (planes : List ℕ) (grid : List Pixel) (pile : List Entry)
    (kept : Mirrored z room planes grid pile) where
  -- "2 comes there only from these, and 1, 3 and 10 are never given"
  pub lent_kept : LentFor z (lengths_of (held_by room planes grid pile))
  lent_kept =
      record {
        planes_are = kept.cells_count;
        pixels_are = length-map grid word_of ∙ kept.grid_size;
        log_top_fact = omega (arith, log_length room pile, kept.room_top);
      }

  pub count_kept : (next : Outcome) → count_check (length pile) (length (log_by room pile)) next ≡ next
  count_kept next =
      count_pass (length pile) (length (log_by room pile)) next (omega (arith, log_length room pile, kept.height_fits))

  checks_kept : (next : Outcome)
      → plate_check (state_of z (length pile)) (lengths_of (held_by room planes grid pile)) next ≡ next
  unfolding plate_check
  checks_kept next = sizes_pass z _ kept.lawful ∙ lent_pass z _ _ lent_kept ∙ count_kept next

  -- a call that changes nothing
  pub agree_still : (r q : Report) → r ≡ q
      → Agree z room (record { report = r; plate = mirror z room planes grid pile }) (book_left q (book_of z room grid pile))
  agree_still r q e =
      record {
        planes = planes;
        grid = grid;
        pile = pile;
        same_report = e;
        same_plate = refl;
        same_book = refl;
        kept = kept;
      }

  pub agree_refused : (f : Refusal)
      → Agree z room
      (step_of (refused f (state_of z (length pile)) (held_by room planes grid pile)))
      (book_refused (Err f) (book_of z room grid pile))
  agree_refused f = agree_still _ _ refl

  -- PUT
  put_done : (a : Ask) → a.opacity < 256 → AskAccepted z (length pile) room a
      → Agree z room
      (step_of (put_by (put_read_by (Ok tt) z a (map word_of grid)) (state_of z (length pile)) (held_by room planes grid pile)))
      (book_put_by (Ok tt) (book_of z room grid pile) a)
  unfolding put_by put_read_by put_over changed book_put_by log_by PileFits
  put_done a byte ok =
      let i = asked_place z a in
      let old = pixel_at grid i in
      let new = asked_pixel a in
      let fits = asked_fits z (length pile) room a ok byte in
      let not_full : length pile ≡ room → ⊥ = ok.not_full in
      let height : suc (length pile) ≤ room = omega (arith, kept.height_fits) in
      let more : length pile + 1 ≡ suc (length pile) = omega arith in
      rw (word_at grid i, read_back z.reach old (kept.grid_fits i))
      (record {
        planes = exchanged z i old new planes;
        grid = set grid i new;
        pile = record { place = i; pixel = old } ∷ pile;
        same_report = refl;
        same_plate = plate_eq z (exchanged z i old new planes) more (sym (map-set word_of grid i new))
            (ap (λ (w : ℕ). set (log_by room pile) (length pile) (logged_as w i)) (word_at grid i));
        same_book = refl;
        kept =
            one-changed z room planes grid pile (record { place = i; pixel = old } ∷ pile) i new kept ok.place_in fits height
            (ok.place_in, kept.grid_fits i, kept.pile_fits);
      })

  put_agrees_by : (a : Ask) → a.opacity < 256 → (o : Outcome) → ask_check z (length pile) room a ≡ o
      → Agree z room
      (step_of (put_by (put_read_by o z a (map word_of grid)) (state_of z (length pile)) (held_by room planes grid pile)))
      (book_put_by o (book_of z room grid pile) a)
  put_agrees_by a byte (Ok tt) e = put_done a byte (ask-accepted z (length pile) room a e)
  put_agrees_by a byte (Err f) e = unfold put_by put_read_by book_put_by in (agree_refused f)

  pub put_agrees : (a : Ask) → a.opacity < 256
      → Agree z room
      (step_of (put_call (state_of z (length pile)) a (held_by room planes grid pile)))
      (book_put (book_of z room grid pile) a)
  unfolding put_call put_read book_put put_check
  put_agrees a byte =
      rw (checks_kept (ask_check z (length pile) (length (log_by room pile)) a), log_length room pile)
      (put_agrees_by a byte (ask_check z (length pile) room a) refl)

-- UNDO
undo_done : (z : Size) (room : ℕ) (planes : List ℕ) (grid : List Pixel) (e : Entry) (pile : List Entry)
    → Mirrored z room planes grid (e ∷ pile) →
    let s = state_of z (suc (length pile)) in
    let l = held_by room planes grid (e ∷ pile) in
    Agree z room (step_of (undo_by (undo_read_by (Ok tt) s l.pixels l.log) s l)) (book_undo_of z room grid (e ∷ pile))
unfolding undo_by undo_read_by undo_entry undo_over changed book_undo_of PileFits
undo_done z room planes grid e pile kept =
    let fits = kept.pile_fits in
    let i = e.place in
    let now = pixel_at grid i in
    let less : suc (length pile) - 1 ≡ length pile = omega arith in
    rw (
      less,
      log_top_fact room e pile kept.height_fits,
      entry_back z e fits.0 fits.1,
      word_at grid i,
      read_back z.reach now (kept.grid_fits i),
    )
    (record {
      planes = exchanged z i now e.pixel planes;
      grid = set grid i e.pixel;
      pile = pile;
      same_report = refl;
      same_plate = plate_eq z (exchanged z i now e.pixel planes) less (sym (map-set word_of grid i e.pixel))
          (ap (λ (n : ℕ). set (log_by room (e ∷ pile)) n 0) less ∙ log_undone room e pile);
      same_book = refl;
      kept = one-changed z room planes grid (e ∷ pile) pile i e.pixel kept fits.0 fits.1
          (omega (arith, kept.height_fits)) fits.2;
    })

undo_agrees_by : (z : Size) (room : ℕ) (planes : List ℕ) (grid : List Pixel) (pile : List Entry)
    → Mirrored z room planes grid pile →
    let s = state_of z (length pile) in
    let l = held_by room planes grid pile in
    Agree z room (step_of (undo_by (undo_read_by (empty_check (length pile) (Ok tt)) s l.pixels l.log) s l))
    (book_undo_of z room grid pile)
undo_agrees_by z room planes grid [] kept =
    unfold undo_by undo_read_by book_undo_of refuse_if in (agree_refused z room planes grid [] kept LogEmpty)
undo_agrees_by z room planes grid (e ∷ pile) kept =
    rw (check_passes (empty_checks (suc (length pile))) (Ok tt) (omega arith))
    (undo_done z room planes grid e pile kept)

pub undo_agrees : (z : Size) (room : ℕ) (planes : List ℕ) (grid : List Pixel) (pile : List Entry)
    → Mirrored z room planes grid pile
    → Agree z room
    (step_of (undo_call (state_of z (length pile)) (held_by room planes grid pile)))
    (book_undo (book_of z room grid pile))
unfolding undo_call undo_read undo_check book_undo
undo_agrees z room planes grid pile kept =
    rw (checks_kept z room planes grid pile kept (empty_check (length pile) (Ok tt)))
    (undo_agrees_by z room planes grid pile kept)
