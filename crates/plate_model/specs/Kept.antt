-- Refresh under the brush: the second forms of show, put and undo, which keep the finished sums and mend them.
use Rattle.std.specs.Prelude.{Bool, not, ◌||◌, List, ◌++◌, ℕ, ◌+◌, ◌*◌, ◌/◌, ◌%◌, ◌^◌, eqb, get_or, length, Result, Ok, Err}
use Rattle.kernels_model.specs.Fixed.{planes_each}
use Rattle.kernels_model.specs.Choice.{pick}
use Rattle.kernels_model.specs.Sum.{dist}
use Rattle.kernels_model.specs.Mark.{minus}
use Rattle.kernels_model.specs.Rounding.{shown_value, shown_matte}
use Rattle.plate_model.specs.Layout.{Size, places, matte_from}
use Rattle.plate_model.specs.Lent.{State, Lent, lengths_of, Ask, Views, Canvas, canvas}
use Rattle.plate_model.specs.Word.{Pixel}
use Rattle.plate_model.specs.Kernel.{tap_of}
use Rattle.plate_model.specs.Refusal.{Answer, Outcome, kept_check, show_kept_check, Refusal}
use Rattle.plate_model.specs.Change.{Change, put_read, undo_read}
use Rattle.kernels_model.specs.Listed.{list_to}
use Rattle.plate_model.specs.Calls.{Left, leaves, put_by, undo_by, sum_at, Shown, shows, show_by}
use Rattle.plate_model.specs.Plain.{light_of, matte_of, weight_at}

-- CELLS IN REACH
-- the tap that the pixel p at place j has at cell i
abbrev pub tap_at : Size → Pixel → ℕ → ℕ → ℕ
tap_at z p j i = tap_of p (dist (i % z.width) (j % z.width)) (dist (i / z.width) (j / z.width))

-- whether that is "a tap other than 0"
abbrev pub has_tap : Size → Pixel → ℕ → ℕ → Bool
has_tap z p j i = not (eqb (tap_at z p j i) 0)

-- "the cells where the old or the new kernel has a tap other than 0; those are the cells in reach"
unfoldable pub in_reach : Size → Change → ℕ → Bool
in_reach z c i = has_tap z c.old c.place i || has_tap z c.new c.place i

-- "The put and the undo also mend, in buffer and pictures, only the cells" in reach: cell by cell what is mended and what was
-- kept
unfoldable pub in_reach_or : Size → Change → (ℕ → ℕ) → (ℕ → ℕ) → ℕ → ℕ
in_reach_or z c mended kept i = pick (in_reach z c i) (mended i) (kept i)

-- MENDING
-- "a mended sum is the kept one less what the old pixel gave the cell and plus what the new one gives, wrapped": in light or in
-- matte, by what a pixel is worth there
unfoldable pub mended_sum : Size → Change → (Pixel → ℕ) → ℕ → ℕ → ℕ
mended_sum z c worth kept i =
    let gave = worth c.old * weight_at z c.old c.place i in
    let gives = worth c.new * weight_at z c.new c.place i in
    (kept + minus gave + gives) % 2 ^ 64

-- the kept sums of a cell: "all light ones by place, then all matte ones"
abbrev pub kept_light : Canvas → ℕ → ℕ
kept_light k i = get_or k.sums i 0

abbrev pub kept_matte : Size → Canvas → ℕ → ℕ
kept_matte z k i = get_or k.sums (matte_from z + i) 0

-- and its mended ones
abbrev pub mended_light : Size → Change → Canvas → ℕ → ℕ
mended_light z c k i = mended_sum z c light_of (kept_light k i) i

abbrev pub mended_matte : Size → Change → Canvas → ℕ → ℕ
mended_matte z c k i = mended_sum z c matte_of (kept_matte z k i) i

-- sums and pictures after a change: "its picture cells are rounded from it"
unfoldable pub mended : Size → Change → Canvas → Canvas
mended z c k =
    let light = mended_light z c k in
    let matte = mended_matte z c k in
    canvas
    (list_to (in_reach_or z c light (kept_light k)) (places z) ++ list_to (in_reach_or z c matte (kept_matte z k)) (places z))
    (list_to (in_reach_or z c (λ i. shown_value (light i) (matte i)) (λ i. get_or k.values i 0)) (places z))
    (list_to (in_reach_or z c (λ i. shown_matte (matte i)) (λ i. get_or k.mattes i 0)) (places z))

-- PUT AND UNDO
-- what such a call answers and leaves: that of the first form, and beside it sums and pictures
pub record Refreshed : Type 0 where
  pub call : Left
  pub canvas : Canvas

abbrev pub leaves_kept : Answer → Lent → Canvas → Refreshed
leaves_kept a l k = record { call = leaves a l; canvas = k }

-- the refusals that come from sums and pictures, before what the first form reads
unfoldable pub kept_read : Outcome → Result Change Refusal → Result Change Refusal
kept_read (Err f) read = Err f
kept_read (Ok tt) read = read

abbrev pub canvas_first : Size → Canvas → Outcome
canvas_first z k = kept_check z (length k.sums) (length k.values) (length k.mattes)

-- a refused call leaves sums and pictures as they are
unfoldable pub canvas_by : Result Change Refusal → Size → Canvas → Canvas
canvas_by (Err f) z k = k
canvas_by (Ok c) z k = mended z c k

unfoldable pub put_kept_by : Result Change Refusal → State → Lent → Canvas → Refreshed
put_kept_by r s l k = record { call = put_by r s l; canvas = canvas_by r s.size k }

unfoldable pub put_kept_call : State → Ask → Lent → Canvas → Refreshed
put_kept_call s a l k = put_kept_by (kept_read (canvas_first s.size k) (put_read s a (lengths_of l) l.pixels)) s l k

unfoldable pub undo_kept_by : Result Change Refusal → State → Lent → Canvas → Refreshed
undo_kept_by r s l k = record { call = undo_by r s l; canvas = canvas_by r s.size k }

unfoldable pub undo_kept_call : State → Lent → Canvas → Refreshed
undo_kept_call s l k = undo_kept_by (kept_read (canvas_first s.size k) (undo_read s (lengths_of l) l.pixels l.log)) s l k

-- SHOW
-- "The show also fills the buffer with the finished sums of the image cells."
unfoldable pub sums_of : Size → List ℕ → List ℕ
sums_of z planes = list_to (sum_at z planes 0) (places z) ++ list_to (sum_at z planes planes_each) (places z)

unfoldable pub sums_by : Outcome → Size → List ℕ → List ℕ → List ℕ
sums_by (Err f) z planes sums = sums
sums_by (Ok tt) z planes sums = sums_of z planes

-- what it answers and leaves: that of the first form, and beside it the sums
pub record ShownKept : Type 0 where
  pub call : Shown
  pub sums : List ℕ

abbrev pub shows_kept : Answer → Views → List ℕ → ShownKept
shows_kept a v sums = record { call = shows a v; sums = sums }

unfoldable pub show_kept_by : Outcome → State → List ℕ → Views → List ℕ → ShownKept
show_kept_by o s planes v sums = record { call = show_by o s planes v; sums = sums_by o s.size planes sums }

unfoldable pub show_kept_call : State → List ℕ → Views → List ℕ → ShownKept
show_kept_call s planes v sums = show_kept_by
    (show_kept_check s (length planes) (length v.scratch) (length v.values) (length v.mattes) (length sums))
    s planes v sums
