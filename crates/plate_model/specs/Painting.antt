-- What a painter relies on: kept sums and pictures are those of the plate, call after call.
use Rattle.std.specs.Prelude.{◌≡◌, List, [], ◌∷◌, ◌++◌, map, ℕ, ◌<◌, length, Ok}
use Rattle.plate_model.specs.Layout.{Size}
use Rattle.plate_model.specs.Lent.{State, Lent, lengths_of, Ask, ask, Views, Canvas, canvas}
use Rattle.plate_model.specs.Refusal.{open_check}
use Rattle.plate_model.specs.Calls.{open_call, values_of, mattes_of}
use Rattle.plate_model.specs.Kept.{Refreshed, put_kept_call, undo_kept_call, sums_of, ShownKept, show_kept_call}
use Rattle.plate_model.specs.Plain.{plain_sums, plain_values, plain_mattes}
use Rattle.plate_model.specs.Notebook.{open_book}
use Rattle.plate_model.specs.Lists.{Byte, Call, put_it, undo_it, Plate, left_by, plate_after, book_after}

-- ONE CALL
-- the sums and pictures "of the plate": what a full show writes of its planes
abbrev pub canvas_of : Size → List ℕ → Canvas
canvas_of z planes = canvas (sums_of z planes) (values_of z planes) (mattes_of z planes)

-- "For kept sums and pictures that are those of the plate before the call, the mended ones equal a full show of the plate after
-- it": on any plate at all; a refused call changes neither planes nor canvas, so it holds of it too. "Opacity .. come as bytes."
pub record StaysFresh : Type 0 where
  pub by_put : (s : State) (a : Ask) (l : Lent) → a.opacity < 256 →
      let after = put_kept_call s a l (canvas_of s.size l.planes) in
      after.canvas ≡ canvas_of s.size after.call.buffers.planes
  pub by_undo : (s : State) (l : Lent) →
      let after = undo_kept_call s l (canvas_of s.size l.planes) in
      after.canvas ≡ canvas_of s.size after.call.buffers.planes

-- LISTS OF THEM
-- a put or an undo of the second form
pub data KeptCall : Type 0 where
  kept_put : (x y value : ℕ) → (opacity : Byte) → (shape : ℕ) → (radius : Byte) → KeptCall
  kept_undo : KeptCall

-- a plate, and what is kept of it
pub record Painting : Type 0 where
  pub plate : Plate
  pub canvas : Canvas

abbrev pub painted_by : Refreshed → Painting
painted_by r = record { plate = left_by r.call; canvas = r.canvas }

-- each call is given what the call before left
unfoldable pub paint : Painting → KeptCall → Painting
paint p (kept_put x y v a s r) =
    painted_by (put_kept_call p.plate.state (ask x y v a.code s r.code) p.plate.buffers p.canvas)
paint p kept_undo = painted_by (undo_kept_call p.plate.state p.plate.buffers p.canvas)

unfoldable pub paint_all : Painting → List KeptCall → Painting
paint_all p [] = p
paint_all p (d ∷ ds) = paint_all (paint p d) ds

-- what a show of the second form leaves, with the plate that it was lent
abbrev pub shown_canvas : ShownKept → Canvas
shown_canvas s = canvas s.sums s.call.seen.values s.call.seen.mattes

abbrev pub shown_painting : Plate → ShownKept → Painting
shown_painting p s = record { plate = record { state = s.call.answer.state; buffers = p.buffers }; canvas = shown_canvas s }

-- a show that is lent as much as another
pub record AsMuch (v v' : Views) (sums sums' : List ℕ) : Type 0 where
  pub of_scratch : length v'.scratch ≡ length v.scratch
  pub of_values : length v'.values ≡ length v.values
  pub of_mattes : length v'.mattes ≡ length v.mattes
  pub of_sums : length sums' ≡ length sums

-- after an accepted show of the second form, on any plate at all, every list of puts and undos of the second form, refused ones
-- too, leaves in the kept buffers what a show of the second form would write then: one that is lent as much, whatever it holds,
-- is accepted, and writes just that
abbrev pub PaintsFresh : Type 0
PaintsFresh =
    (p : Plate) (v : Views) (sums : List ℕ) (changes : List KeptCall) →
    let first = show_kept_call p.state p.buffers.planes v sums in
    let end = paint_all (shown_painting p first) changes in
    first.call.answer.number ≡ 0
    → (v' : Views) (sums' : List ℕ) → AsMuch v v' sums sums' →
    let again = show_kept_call end.plate.state end.plate.buffers.planes v' sums' in
    (again.call.answer.number ≡ 0) × (end.canvas ≡ shown_canvas again)

-- the same calls in their first form
abbrev pub first_form : KeptCall → Call
first_form (kept_put x y v a s r) = put_it x y v a s r
first_form kept_undo = undo_it

-- so on a plate after any list of calls the kept sums are the plain sums of the notebook's grid after the list and the changes,
-- with
-- nothing wrapped, and the kept pictures its plain pictures
abbrev pub PaintsPlain : Type 0
PaintsPlain =
    (z : Size) (l : Lent) (calls : List Call) (v : Views) (sums : List ℕ) (changes : List KeptCall)
    → open_check z (lengths_of l) ≡ Ok tt →
    let p = plate_after (left_by (open_call z l)) calls in
    let first = show_kept_call p.state p.buffers.planes v sums in
    let end = paint_all (shown_painting p first) changes in
    let grid = (book_after (open_book z (length l.log)) (calls ++ map first_form changes)).grid in
    first.call.answer.number ≡ 0
    → end.canvas ≡ canvas (plain_sums z grid) (plain_values z grid) (plain_mattes z grid)
