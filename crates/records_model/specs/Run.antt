-- A run of the record program: the text of the paper's rules applied to the notebook's answers.
use Rattle.std.specs.Prelude.{List, [], ◌++◌, ℕ, zero, suc, ◌+◌, ltb, Ok, Err}
use Rattle.kernels_model.specs.Choice.{pick}
use Rattle.plate_model.specs.Layout.{padded}
use Rattle.plate_model.specs.declared.size.Size.{Size}
use Rattle.plate_model.specs.Refusal.{Outcome}
use Rattle.plate_model.specs.Refusal.{sizes_check}
use Rattle.plate_model.specs.Notebook.{Book, open_book, Pictures, none, both, Report, BookLeft, book_put, book_undo, book_show_by}
use Rattle.records_model.specs.Fixed.{cells_top, log_room}
use Rattle.records_model.specs.Text.{stopped_word, refused_word, numbered, done_line, show_text}
use Rattle.records_model.specs.Record.{Record, Open, Put, NoShape, Undo, Show, Stop, Sizes, Order, Cells, stop_number}
use Rattle.records_model.specs.Record.{put_ask, shapeless_ask, Items, over, broken, next, items_of}

-- no plate is open yet, or one with this notebook is
pub data CurrentBook : Type 0 where
  not_open : CurrentBook
  open_with : Book → CurrentBook

-- what a record does: it stops the run, or it prints something and leaves a notebook
pub data Act : Type 0 where
  stop : Stop → Act
  go : List ℕ → Book → Act

-- "Checks: 13, 14, 15, then 1, 16, the rest." "The log has 64 entries."
abbrev pub cells_check : Size → Act
cells_check z = pick (ltb cells_top (padded z)) (stop Cells) (go [] (open_book z log_room))

abbrev pub opens_by : Outcome → Size → Act
opens_by (Err f) z = stop Sizes
opens_by (Ok tt) z = cells_check z

unfoldable pub opens : Size → Act
opens z = opens_by (sizes_check z (Ok tt)) z

-- "others print `refused N at K` and go on"; "An accepted open, put or undo prints nothing."
unfoldable pub answer_text : ℕ → ℕ → List ℕ
answer_text k zero = []
answer_text k (suc n) = numbered refused_word (suc n) k

unfoldable pub picture_text : Size → Pictures → List ℕ
picture_text z none = []
picture_text z (both values mattes) = show_text z.width z.height values mattes

-- the text of a notebook's answer to record K
unfoldable pub report_text : ℕ → Size → Report → List ℕ
report_text k z r = answer_text k r.number ++ picture_text z r.pictures

abbrev pub noted : ℕ → Book → BookLeft → Act
noted k b t = go (report_text k b.size t.report) t.book

-- record K where this is the current notebook
unfoldable pub act : ℕ → CurrentBook → Record → Act
act k not_open (Open z) = opens z
act k not_open (Put p) = stop Order
act k not_open (NoShape p) = stop Order
act k not_open Undo = stop Order
act k not_open Show = stop Order
act k (open_with b) (Open z) = stop Order
act k (open_with b) (Put p) = noted k b (book_put b (put_ask p))
act k (open_with b) (NoShape p) = noted k b (book_put b (shapeless_ask p))
act k (open_with b) Undo = noted k b (book_undo b)
act k (open_with b) Show = noted k b (book_show_by (Ok tt) b)

-- "Numbers 1 and 13 to 16 print `stopped N at K` and end"; "K counts records from 1."
abbrev pub stop_text : ℕ → Stop → List ℕ
stop_text k s = numbered stopped_word (stop_number s) k

-- the text of what a record does, and what comes after it
abbrev pub then_text : ℕ → Act → (CurrentBook → List ℕ) → List ℕ
then_text k (stop s) rest = stop_text k s
then_text k (go text b) rest = text ++ rest (open_with b)

-- the text of a run that has done k records; "Input that ends after a whole record, or is empty, prints `done` and the record
-- count."
unfoldable pub text_from : ℕ → CurrentBook → Items → List ℕ
text_from k d over = done_line k
text_from k d (broken s) = stop_text (k + 1) s
text_from k d (next r items) = then_text (k + 1) (act (k + 1) d r) (λ e. text_from (k + 1) e items)

-- the text of an input, by the paper
unfoldable pub paper_text : List ℕ → List ℕ
paper_text input = text_from 0 not_open (items_of input)
