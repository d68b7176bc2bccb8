-- The notebook of demand 3: "a grid of W × H pixels and a pile of (place, old pixel) holding at most the log's length".
use Rattle.std.specs.Prelude.{List, [], ◌∷◌, ◌++◌, ℕ, ◌+◌, ◌-◌, set, length, replicate, Ok, Err}
use Rattle.kernels_model.specs.Shape.{shape_of}
use Rattle.kernels_model.specs.declared.lens.Lens.{Lens}
use Rattle.plate_model.specs.Layout.{Size, places}
use Rattle.plate_model.specs.Word.{Pixel, empty, Entry, entry_of}
use Rattle.plate_model.specs.Kernel.{mark_count}
use Rattle.plate_model.specs.Refusal.{Outcome, LogEmpty, outcome_number, ask_check, inputs_check}
use Rattle.plate_model.specs.Refusal.{layer_check, views_check, sums_check, canvas_check}
use Rattle.plate_model.specs.Lent.{Ask, Inputs, Views, Canvas}
use Rattle.plate_model.specs.Asked.{asked_place, asked_pixel, known_shape, filled}
use Rattle.kernels_model.specs.Listed.{list_to, zeros}
use Rattle.plate_model.specs.Plain.{pixel_at, plain_values, plain_mattes}

-- room is the log's length; the top of the pile comes first
pub record Book : Type 0 where
  pub size : Size
  pub room : ℕ
  pub grid : List Pixel
  pub pile : List Entry

abbrev pub book_of : Size → ℕ → List Pixel → List Entry → Book
book_of z room grid pile = record { size = z; room = room; grid = grid; pile = pile }

-- "An accepted open gives it W, H, R and that length, every pixel empty, nothing on the pile."
abbrev pub open_book : Size → ℕ → Book
open_book z room = book_of z room (replicate (places z) empty) []

-- "Compared: for each call in order, number and mark count; for each accepted show, both pictures"
pub data Pictures : Type 0 where
  none : Pictures
  both : List ℕ → List ℕ → Pictures

pub record Report : Type 0 where
  pub number : ℕ
  pub marks : ℕ
  pub pictures : Pictures

abbrev pub plain : ℕ → ℕ → Report
plain n m = record { number = n; marks = m; pictures = none }

-- what a call gives: its report, and the notebook after it
pub record BookLeft : Type 0 where
  pub report : Report
  pub book : Book

abbrev pub book_left : Report → Book → BookLeft
book_left r b = record { report = r; book = b }

-- "a refused call changes neither grid nor pile and reports 0 marks"
abbrev pub book_refused : Outcome → Book → BookLeft
book_refused o b = book_left (plain (outcome_number o) 0) b

-- "Put: the place and its old pixel go on the pile, the new pixel into the grid." It reports "the marks of the shape that left
-- the grid plus those of the shape that came".
unfoldable pub book_put_by : Outcome → Book → Ask → BookLeft
book_put_by (Err f) b a = book_refused (Err f) b
book_put_by (Ok tt) b a =
    let i = asked_place b.size a in
    let old = pixel_at b.grid i in
    let new = asked_pixel a in
    book_left (plain 0 (mark_count old + mark_count new))
    (book_of b.size b.room (set b.grid i new) (record { place = i; pixel = old } ∷ b.pile))

-- "the count in 8 and 9 is the height of its pile"
unfoldable pub book_put : Book → Ask → BookLeft
book_put b a = book_put_by (ask_check b.size (length b.pile) b.room a) b a

-- "Undo: the top of the pile comes off, and its pixel goes back to its place."
unfoldable pub book_undo_of : Size → ℕ → List Pixel → List Entry → BookLeft
book_undo_of z room grid [] = book_refused (Err LogEmpty) (book_of z room grid [])
book_undo_of z room grid (e ∷ pile) =
    book_left (plain 0 (mark_count (pixel_at grid e.place) + mark_count e.pixel))
    (book_of z room (set grid e.place e.pixel) pile)

unfoldable pub book_undo : Book → BookLeft
book_undo b = book_undo_of b.size b.room b.grid b.pile

-- "Fill: every pixel gets its value, its opacity, the one shape and the radius from its depth, and the pile is emptied."
unfoldable pub book_fill_by : Outcome → Book → Lens → ℕ → Inputs → BookLeft
book_fill_by (Err g) b o n f = book_refused (Err g) b
book_fill_by (Ok tt) b o n f =
    book_left (plain 0 0)
    (book_of b.size b.room (list_to (filled b.size o (known_shape (shape_of n)) f) (places b.size)) [])

unfoldable pub book_fill : Book → Lens → ℕ → Inputs → BookLeft
book_fill b o n f = book_fill_by
    (inputs_check b.size (length f.values) (length f.opacities) (length f.depths) (layer_check o n f))
    b o n f

-- "Show changes nothing. Fill and show report 0."
unfoldable pub book_show_by : Outcome → Book → BookLeft
book_show_by (Err f) b = book_refused (Err f) b
book_show_by (Ok tt) b =
    book_left
    (record { number = 0; marks = 0; pictures = both (plain_values b.size b.grid) (plain_mattes b.size b.grid) }) b

unfoldable pub book_show : Book → Views → BookLeft
book_show b v = book_show_by (views_check b.size (length v.scratch) (length v.values) (length v.mattes)) b

-- THE SECOND FORMS: "there 2 can come from this buffer too", and else they are the first
unfoldable pub book_kept : Outcome → Book → BookLeft → BookLeft
book_kept (Err f) b first = book_refused (Err f) b
book_kept (Ok tt) b first = first

abbrev pub canvas_with : Book → Canvas → Outcome
canvas_with b k = canvas_check b.size (length k.sums) (length k.values) (length k.mattes)

unfoldable pub book_put_kept : Book → Ask → Canvas → BookLeft
book_put_kept b a k = book_kept (canvas_with b k) b (book_put b a)

unfoldable pub book_undo_kept : Book → Canvas → BookLeft
book_undo_kept b k = book_kept (canvas_with b k) b (book_undo b)

unfoldable pub book_show_kept : Book → Views → List ℕ → BookLeft
book_show_kept b v sums = book_kept (sums_check b.size (length sums) (Ok tt)) b (book_show b v)

-- "the log with the pile's pairs as entries, from its bottom, and zeros after them"
unfoldable pub from_bottom : List Entry → List ℕ
from_bottom [] = []
from_bottom (e ∷ pile) = from_bottom pile ++ (entry_of e ∷ [])

unfoldable pub log_of : ℕ → List Entry → List ℕ
log_of room pile = from_bottom pile ++ zeros (room - length pile)
