-- The calls: what each answers, and what it leaves in every list that it is lent, for every input.
use Rattle.std.specs.Prelude.{List, map, ℕ, suc, ◌+◌, ◌-◌, ◌%◌, ◌^◌, get_or, set, length, Result, Ok, Err}
use Rattle.kernels_model.specs.Fixed.{planes_each}
use Rattle.kernels_model.specs.Choice.{within}
use Rattle.kernels_model.specs.Sum.{Planes, finish}
use Rattle.kernels_model.specs.Shape.{shape_of}
use Rattle.kernels_model.specs.declared.lens.Lens.{Lens}
use Rattle.kernels_model.specs.Rounding.{shown_value, shown_matte}
use Rattle.plate_model.specs.Layout.{Size, size_from, wide, high, cell, places, column_of, row_of}
use Rattle.plate_model.specs.Lent.{State, state_of, Lent, lent, lengths_of, Ask, Inputs, Views, views}
use Rattle.plate_model.specs.Word.{word_of, logged_as}
use Rattle.plate_model.specs.Kernel.{mark_count}
use Rattle.plate_model.specs.Refusal.{Answer, Returned, returned, Refusal, Outcome, open_check, fill_check}
use Rattle.plate_model.specs.Refusal.{show_check}
use Rattle.plate_model.specs.Asked.{known_shape, filled}
use Rattle.plate_model.specs.Change.{Change, put_read, undo_read}
use Rattle.kernels_model.specs.Listed.{zeros, list_to}
use Rattle.plate_model.specs.Marks.{exchanged, lay_grid}

-- what a call returns, in the paper's numbers, and what it leaves of planes, pixels and log
pub record Left : Type 0 where
  pub answer : Returned
  pub buffers : Lent

-- an answer, and what is left
abbrev pub leaves : Answer → Lent → Left
leaves a l = record { answer = returned a; buffers = l }

abbrev pub left : Answer → List ℕ → List ℕ → List ℕ → Left
left a planes pixels log = leaves a (lent planes pixels log)

abbrev pub answer_of : Outcome → ℕ → State → Answer
answer_of o n s = record { outcome = o; marks = n; state = s }

-- "A refusal returns its number and mark count 0, the state is handed back unchanged .., every buffer untouched."
abbrev pub refused : Refusal → State → Lent → Left
refused f s l = leaves (answer_of (Err f) 0 s) l

-- OPEN
unfoldable pub open_by : Outcome → Size → Lent → Left
-- "Open sets planes, pixels, every log entry and the log count to 0."
open_by (Ok tt) z l =
    left (answer_of (Ok tt) 0 (state_of z 0)) (zeros (length l.planes)) (zeros (length l.pixels)) (zeros (length l.log))
-- "(all zero from open)"
open_by (Err f) z l = refused f (state_of (size_from 0 0 0) 0) l

unfoldable pub open_call : Size → Lent → Left
open_call z l = open_by (open_check z (lengths_of l)) z l

-- PUT AND UNDO
-- The old pixel's marks are taken off, the new one's laid, and its word is stored. They report "the table's marks of the old
-- shape plus those of the new"; the count that is handed back and the log that is left are each call's own.
unfoldable pub changed : Change → State → ℕ → List ℕ → Lent → Left
changed c s count log l =
    left (answer_of (Ok tt) (mark_count c.old + mark_count c.new) (state_of s.size count))
    (exchanged s.size c.place c.old c.new l.planes)
    (set l.pixels c.place (word_of c.new))
    log

-- "Put logs the old word in the entry at the log count and raises the count by one, takes its marks off, sets the new."
unfoldable pub put_by : Result Change Refusal → State → Lent → Left
put_by (Err f) s l = refused f s l
put_by (Ok c) s l =
    changed c s (s.count + 1) (set l.log s.count (logged_as (get_or l.pixels c.place 0) c.place)) l

unfoldable pub put_call : State → Ask → Lent → Left
put_call s a l = put_by (put_read s a (lengths_of l) l.pixels) s l

-- "Undo restores the last logged word, marks too, zeroes that entry and lowers the count by one."
unfoldable pub undo_by : Result Change Refusal → State → Lent → Left
undo_by (Err f) s l = refused f s l
undo_by (Ok c) s l = changed c s (s.count - 1) (set l.log (s.count - 1) 0) l

unfoldable pub undo_call : State → Lent → Left
undo_call s l = undo_by (undo_read s (lengths_of l) l.pixels l.log) s l

-- FILL
-- "Fill .. replaces everything and sets every log entry and the log count to 0."
unfoldable pub fill_by : Outcome → State → Lens → ℕ → Inputs → Lent → Left
fill_by (Err g) s o n f l = refused g s l
fill_by (Ok tt) s o n f l =
    let z = s.size in
    let pixel = filled z o (known_shape (shape_of n)) f in
    left (answer_of (Ok tt) 0 (state_of z 0))
    (lay_grid z pixel (zeros (length l.planes)) (places z))
    (map word_of (list_to pixel (places z)))
    (zeros (length l.log))

unfoldable pub fill_call : State → Lens → ℕ → Inputs → Lent → Left
fill_call s o n f l = fill_by (fill_check s o n f (lengths_of l)) s o n f l

-- SHOW
-- a picture's planes, from plane p on, 0 outside
unfoldable pub stored : Size → List ℕ → ℕ → Planes
stored z planes p d x y =
    within (suc x) (wide z) (within (suc y) (high z) (get_or planes (cell z (p + d) x y) 0))

-- the finished sum at a place, wrapped: light's from plane 0 on, matte's from the first plane after light's
unfoldable pub sum_at : Size → List ℕ → ℕ → ℕ → ℕ
sum_at z planes p i = finish (stored z planes p) (column_of z i) (row_of z i) % 2 ^ 64

-- the pictures of the finished sums
abbrev pub values_of : Size → List ℕ → List ℕ
values_of z planes = list_to (λ i. shown_value (sum_at z planes 0 i) (sum_at z planes planes_each i)) (places z)

abbrev pub mattes_of : Size → List ℕ → List ℕ
mattes_of z planes = list_to (λ i. shown_matte (sum_at z planes planes_each i)) (places z)

-- what a show returns, and what it leaves of scratch and the pictures
pub record Shown : Type 0 where
  pub answer : Returned
  pub seen : Views

abbrev pub shows : Answer → Views → Shown
shows a v = record { answer = returned a; seen = v }

abbrev pub shown : Answer → List ℕ → List ℕ → List ℕ → Shown
shown a scratch values mattes = shows a (views scratch values mattes)

-- "Show writes values and mattes and leaves scratch all zero."
unfoldable pub show_by : Outcome → State → List ℕ → Views → Shown
show_by (Err f) s planes v = shows (answer_of (Err f) 0 s) v
show_by (Ok tt) s planes v =
    shown (answer_of (Ok tt) 0 s) (zeros (length v.scratch)) (values_of s.size planes) (mattes_of s.size planes)

unfoldable pub show_call : State → List ℕ → Views → Shown
show_call s planes v =
    show_by (show_check s (length planes) (length v.scratch) (length v.values) (length v.mattes)) s planes v
