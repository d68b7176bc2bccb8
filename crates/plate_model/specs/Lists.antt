-- Lists of calls, on a plate and on a notebook, and what demands 3 and 2 say of them.
use Rattle.std.specs.Prelude.{◌≡◌, List, [], ◌∷◌, map, ℕ, zero, suc, ◌*◌, ◌<◌, get_or, length, Ok}
use Rattle.kernels_model.specs.declared.lens.Lens.{Lens}
use Rattle.plate_model.specs.Fixed.{planes_in_all}
use Rattle.plate_model.specs.Layout.{Size, padded}
use Rattle.plate_model.specs.Word.{word_of}
use Rattle.plate_model.specs.Lent.{State, Lent, lengths_of, ask, inputs, Views, Canvas}
use Rattle.plate_model.specs.Refusal.{open_check, views_check}
use Rattle.kernels_model.specs.Listed.{zeros}
use Rattle.plate_model.specs.Calls.{Left, Shown, shown, answer_of, open_call, put_call, undo_call, fill_call, show_call}
use Rattle.plate_model.specs.Kept.{put_kept_call, undo_kept_call, show_kept_call}
use Rattle.plate_model.specs.Plain.{plain_values, plain_mattes, grid_cell}
use Rattle.plate_model.specs.Notebook.{Book, open_book, both, Report, plain, BookLeft, book_put, book_undo, book_fill, book_show}
use Rattle.plate_model.specs.Notebook.{book_put_kept, book_undo_kept, book_show_kept, log_of}

-- "Opacity and radius come as bytes."
pub record Byte : Type 0 where
  pub code : ℕ
  pub small : code < 256

abbrev pub codes : List Byte → List ℕ
codes bs = map (λ (b : Byte). b.code) bs

-- the calls put, undo, fill and show, with their arguments and what they are lent besides the plate
pub data Call : Type 0 where
  put_it : (x y value : ℕ) → (opacity : Byte) → (shape : ℕ) → (radius : Byte) → Call
  undo_it : Call
  fill_it : Lens → (shape : ℕ) → (values : List ℕ) → (opacities : List Byte) → (depths : List ℕ) → Call
  show_it : Views → Call
  -- "Lists of demand 3 may use either form of a call"
  put_kept_it : (x y value : ℕ) → (opacity : Byte) → (shape : ℕ) → (radius : Byte) → Canvas → Call
  undo_kept_it : Canvas → Call
  show_kept_it : Views → (sums : List ℕ) → Call

-- "every call gets the plate's own planes, pixels and log, .. whole and as the call before left them, and the state that the
-- call before handed back"
pub record Plate : Type 0 where
  pub state : State
  pub buffers : Lent

pub record Step : Type 0 where
  pub report : Report
  pub plate : Plate

abbrev pub left_by : Left → Plate
left_by l = record { state = l.answer.state; buffers = l.buffers }

abbrev pub step_of : Left → Step
step_of l = record { report = plain l.answer.number l.answer.marks; plate = left_by l }

-- what is compared of a show, by its number: both pictures if it is accepted
unfoldable pub seen_by : ℕ → ℕ → Views → Report
seen_by zero n v = record { number = 0; marks = n; pictures = both v.values v.mattes }
seen_by (suc k) n v = plain (suc k) n

abbrev pub shown_to : Plate → Shown → Step
shown_to p s =
    record {
      report = seen_by s.answer.number s.answer.marks s.seen;
      plate = record { state = s.answer.state; buffers = p.buffers };
    }

unfoldable pub plate_step : Plate → Call → Step
plate_step p (put_it x y v a s r) = step_of (put_call p.state (ask x y v a.code s r.code) p.buffers)
plate_step p undo_it = step_of (undo_call p.state p.buffers)
plate_step p (fill_it o s vs bs zs) = step_of (fill_call p.state o s (inputs vs (codes bs) zs) p.buffers)
plate_step p (show_it v) = shown_to p (show_call p.state p.buffers.planes v)
plate_step p (put_kept_it x y v a s r k) = step_of (put_kept_call p.state (ask x y v a.code s r.code) p.buffers k).call
plate_step p (undo_kept_it k) = step_of (undo_kept_call p.state p.buffers k).call
plate_step p (show_kept_it v sums) = shown_to p (show_kept_call p.state p.buffers.planes v sums).call

unfoldable pub book_step : Book → Call → BookLeft
book_step b (put_it x y v a s r) = book_put b (ask x y v a.code s r.code)
book_step b undo_it = book_undo b
book_step b (fill_it o s vs bs zs) = book_fill b o s (inputs vs (codes bs) zs)
book_step b (show_it v) = book_show b v
book_step b (put_kept_it x y v a s r k) = book_put_kept b (ask x y v a.code s r.code) k
book_step b (undo_kept_it k) = book_undo_kept b k
book_step b (show_kept_it v sums) = book_show_kept b v sums

-- the reports of a list of calls, and what it leaves
unfoldable pub plate_reports : Plate → List Call → List Report
plate_reports p [] = []
plate_reports p (c ∷ cs) = (plate_step p c).report ∷ plate_reports (plate_step p c).plate cs

unfoldable pub plate_after : Plate → List Call → Plate
plate_after p [] = p
plate_after p (c ∷ cs) = plate_after (plate_step p c).plate cs

unfoldable pub book_reports : Book → List Call → List Report
book_reports b [] = []
book_reports b (c ∷ cs) = (book_step b c).report ∷ book_reports (book_step b c).book cs

unfoldable pub book_after : Book → List Call → Book
book_after b [] = b
book_after b (c ∷ cs) = book_after (book_step b c).book cs

-- "after the list, every cell of the planes with the marks of the grid, every stored word with the word of the grid's pixel, the
-- log with the pile's pairs as entries .., the log count with the pile's height"
pub record Holds (p : Plate) (b : Book) : Type 0 where
  pub sizes : p.state.size ≡ b.size
  pub cells : length p.buffers.planes ≡ planes_in_all * padded b.size
  pub each_cell : (k : ℕ) → k < planes_in_all * padded b.size → get_or p.buffers.planes k 0 ≡ grid_cell b.size b.grid k
  pub words : p.buffers.pixels ≡ map word_of b.grid
  pub entries : p.buffers.log ≡ log_of b.room b.pile
  pub count : p.state.count ≡ length b.pile

-- DEMAND 3: for every accepted open and every list of calls the reports are the notebook's, and the plate then holds what the
-- notebook holds
abbrev pub Demand3 : Type 0
Demand3 =
    (z : Size) (l : Lent) (calls : List Call) → open_check z (lengths_of l) ≡ Ok tt →
    let p = left_by (open_call z l) in
    let b = open_book z (length l.log) in
    (plate_reports p calls ≡ book_reports b calls) × Holds (plate_after p calls) (book_after b calls)

-- DEMAND 2: on a plate changed only by its own calls, a show that is lent right lengths answers 0, writes the plain pictures of
-- the notebook's grid, and leaves scratch all zero
abbrev pub Demand2 : Type 0
Demand2 =
    (z : Size) (l : Lent) (calls : List Call) (v : Views) → open_check z (lengths_of l) ≡ Ok tt
    → views_check z (length v.scratch) (length v.values) (length v.mattes) ≡ Ok tt →
    let p = plate_after (left_by (open_call z l)) calls in
    let grid = (book_after (open_book z (length l.log)) calls).grid in
    show_call p.state p.buffers.planes v
    ≡ shown (answer_of (Ok tt) 0 p.state) (zeros (length v.scratch)) (plain_values z grid) (plain_mattes z grid)
