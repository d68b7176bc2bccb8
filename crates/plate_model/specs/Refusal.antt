-- The refusals: their numbers, and what each call checks. "The lowest number that applies is given; a call checks only what it
-- is lent."
use Rattle.std.specs.Prelude.{Bool, true, false, not, List, [], ◌∷◌, ℕ, ◌*◌, leb, ltb, eqb, length, Option, Some, None, Result, Ok, Err}
use Rattle.kernels_model.specs.Choice.{pick}
use Rattle.kernels_model.specs.Shape.{shape_of, top_under}
use Rattle.kernels_model.specs.declared.shape.Shape.{Shape}
use Rattle.kernels_model.specs.declared.lens.Lens.{Lens}
use Rattle.kernels_model.specs.Lens.{lawful_lens}
use Rattle.kernels_model.specs.Fixed.{value_top, depth_top, shape_refused, lens_refused, depth_refused}
use Rattle.plate_model.specs.Fixed.{planes_in_all, scratch_planes, side_top, places_top, reach_top, log_top}
use Rattle.plate_model.specs.Layout.{Size, padded, places, sums_in_all}
use Rattle.plate_model.specs.Lent.{State, LentLengths, Ask, Inputs}
pub use Rattle.plate_model.specs.declared.state.Answer.{Answer}
pub use Rattle.plate_model.specs.declared.state.Refusal.{Refusal}
pub use Rattle.plate_model.specs.declared.state.Refusal.TheVariants.{Sizes, Lengths, LogCount, Place, Value, UnknownShape}
pub use Rattle.plate_model.specs.declared.state.Refusal.TheVariants.{LargeRadius, LogFull, LogEmpty, StoredWord}
pub use Rattle.plate_model.specs.declared.state.Refusal.TheVariants.{UnlawfulLens, Depth, DepthInside}

-- what a check says: nothing, where nothing refuses the call, or why it is refused
abbrev pub Outcome : Type 0
Outcome = Result Unit Refusal

-- "An accepted call returns number 0. A refusal returns its number": those of a shape, a lens and a depth, 6, 11 and 12, are the
-- kernels'
abbrev pub refusal_number : Refusal → ℕ
refusal_number Sizes = 1
refusal_number Lengths = 2
refusal_number LogCount = 3
refusal_number Place = 4
refusal_number Value = 5
refusal_number UnknownShape = shape_refused
refusal_number LargeRadius = 7
refusal_number LogFull = 8
refusal_number LogEmpty = 9
refusal_number StoredWord = 10
refusal_number UnlawfulLens = lens_refused
refusal_number Depth = depth_refused
refusal_number DepthInside = 17

abbrev pub outcome_number : Outcome → ℕ
outcome_number (Ok tt) = 0
outcome_number (Err f) = refusal_number f

-- what a call returns, in the paper's numbers: number, mark count and state
pub record Returned : Type 0 where
  pub number : ℕ
  pub marks : ℕ
  pub state : State

-- "Where an answer is an enum, a definition gives this paper's number and values for each of its cases": an answer's
abbrev pub returned : Answer → Returned
returned a = record { number = outcome_number a.outcome; marks = a.marks; state = a.state }

-- the refusal where the test holds, else what comes next
unfoldable pub refuse_if : Bool → Refusal → Outcome → Outcome
refuse_if true f next = Err f
refuse_if false f next = next

-- THE CHECK OF EACH ROW of the table, in front of what comes next. What the row is given for stands in specs/Table.antt, and the
-- check is proved to keep to it.
-- 1: "W and H from 1 to 4,096, W × H at most 2,097,152 .., R from 0 to 64"
unfoldable pub sizes_check : Size → Outcome → Outcome
sizes_check z next =
    refuse_if (ltb z.width 1) Sizes
    (refuse_if (ltb side_top z.width) Sizes
    (refuse_if (ltb z.height 1) Sizes
    (refuse_if (ltb side_top z.height) Sizes
    (refuse_if (ltb places_top (z.width * z.height)) Sizes
    (refuse_if (ltb reach_top z.reach) Sizes next)))))

-- 2: "a lent length is wrong"
abbrev pub length_check : ℕ → ℕ → Outcome → Outcome
length_check n want next = refuse_if (not (eqb n want)) Lengths next

-- "planes 14 × P, pixels W × H words .., log 0 to 65,535 entries"
unfoldable pub lent_check : Size → LentLengths → Outcome → Outcome
lent_check z n next =
    length_check n.planes (planes_in_all * padded z)
    (length_check n.pixels (places z) (refuse_if (ltb log_top n.log) Lengths next))

-- 3: "log count above log length"
abbrev pub count_check : ℕ → ℕ → Outcome → Outcome
count_check n room next = refuse_if (ltb room n) LogCount next

-- 4: "x ≥ W or y ≥ H"
unfoldable pub place_check : Size → Ask → Outcome → Outcome
place_check z a next = refuse_if (leb z.width a.x) Place (refuse_if (leb z.height a.y) Place next)

-- 5: "v above 4,095"
abbrev pub value_check : ℕ → Outcome → Outcome
value_check v next = refuse_if (ltb value_top v) Value next

-- 6: "shape above 5"
unfoldable pub shape_check : Option Shape → Outcome → Outcome
shape_check None next = Err UnknownShape
shape_check (Some s) next = next

-- 7: "r above top under R", of a shape that is read
unfoldable pub radius_check : ℕ → Option Shape → ℕ → Outcome → Outcome
radius_check R None r next = next
radius_check R (Some s) r next = refuse_if (ltb (top_under s R) r) LargeRadius next

-- 8: "put: count equals log length"
abbrev pub full_check : ℕ → ℕ → Outcome → Outcome
full_check n room next = refuse_if (eqb n room) LogFull next

-- 9: "undo: count 0"
abbrev pub empty_check : ℕ → Outcome → Outcome
empty_check n next = refuse_if (eqb n 0) LogEmpty next

-- whether a number of the list passes the test
unfoldable pub any_of : (ℕ → Bool) → List ℕ → Bool
any_of test [] = false
any_of test (n ∷ ns) = pick (test n) true (any_of test ns)

-- whether one is above the bound
abbrev pub any_above : ℕ → List ℕ → Bool
any_above b ns = any_of (ltb b) ns

-- above the one bound and not above the other
unfoldable pub is_between : ℕ → ℕ → ℕ → Bool
is_between low top n = pick (leb n low) false (leb n top)

-- 11: "D, f, S or p outside"
abbrev pub lens_check : Lens → Outcome → Outcome
lens_check l next = refuse_if (not (lawful_lens l)) UnlawfulLens next

-- 12: "a depth above 10,000,000"
abbrev pub depths_check : List ℕ → Outcome → Outcome
depths_check depths next = refuse_if (any_above depth_top depths) Depth next

-- 17: "a non-zero depth at most f"
abbrev pub inside_check : Lens → List ℕ → Outcome → Outcome
inside_check l depths next = refuse_if (any_of (is_between 0 l.focal) depths) DepthInside next

-- THE CHECKS OF EACH CALL, but for 10, which reads stored words
-- 4 to 8, with the count and the log's length
unfoldable pub ask_check : Size → ℕ → ℕ → Ask → Outcome
ask_check z n room a =
    place_check z a
    (value_check a.value
    (shape_check a.shape (radius_check z.reach a.shape a.radius (full_check n room (Ok tt)))))

-- 2 for fill's inputs, "W × H each"
unfoldable pub inputs_check : Size → ℕ → ℕ → ℕ → Outcome → Outcome
inputs_check z values opacities depths next =
    length_check values (places z) (length_check opacities (places z) (length_check depths (places z) next))

-- 5, 6, 11, 12 and 17
unfoldable pub layer_check : Lens → ℕ → Inputs → Outcome
layer_check l s f =
    refuse_if (any_above value_top f.values) Value
    (shape_check (shape_of s) (lens_check l (depths_check f.depths (inside_check l f.depths (Ok tt)))))

-- 2 for scratch, "3 × P", and "the two pictures .. W × H each"
unfoldable pub views_check : Size → ℕ → ℕ → ℕ → Outcome
views_check z scratch values mattes =
    length_check scratch (scratch_planes * padded z) (length_check values (places z) (length_check mattes (places z) (Ok tt)))

-- "A wrong buffer length is 2, as elsewhere": 2 for the buffer of sums
abbrev pub sums_check : Size → ℕ → Outcome → Outcome
sums_check z sums next = length_check sums (sums_in_all z) next

-- and for the two pictures that the second forms of put and undo are lent too
unfoldable pub canvas_check : Size → ℕ → ℕ → ℕ → Outcome
canvas_check z sums values mattes =
    sums_check z sums (length_check values (places z) (length_check mattes (places z) (Ok tt)))

-- open: 1 2
unfoldable pub open_check : Size → LentLengths → Outcome
open_check z n = sizes_check z (lent_check z n (Ok tt))

-- 1 2 3, first of put and undo
unfoldable pub plate_check : State → LentLengths → Outcome → Outcome
plate_check s n next = sizes_check s.size (lent_check s.size n (count_check s.count n.log next))

-- put: 1 2 3 4 5 6 7 8
unfoldable pub put_check : State → Ask → LentLengths → Outcome
put_check s a n = plate_check s n (ask_check s.size s.count n.log a)

-- undo: 1 2 3 9
unfoldable pub undo_check : State → LentLengths → Outcome
undo_check s n = plate_check s n (empty_check s.count (Ok tt))

-- fill: 1 2 3, and what its inputs hold: 5 6 11 12 17
unfoldable pub fill_first : State → Inputs → LentLengths → Outcome → Outcome
fill_first s f n next =
    sizes_check s.size
    (lent_check s.size n
    (inputs_check s.size (length f.values) (length f.opacities) (length f.depths)
    (count_check s.count n.log next)))

unfoldable pub fill_check : State → Lens → ℕ → Inputs → LentLengths → Outcome
fill_check s o k f n = fill_first s f n (layer_check o k f)

-- total: 1 2
unfoldable pub total_check : Size → ℕ → ℕ → Outcome
total_check z planes scratch =
    sizes_check z (length_check planes (planes_in_all * padded z) (length_check scratch (scratch_planes * padded z) (Ok tt)))

-- show: 1 2
unfoldable pub show_check : State → ℕ → ℕ → ℕ → ℕ → Outcome
show_check s planes scratch values mattes =
    sizes_check s.size (length_check planes (planes_in_all * padded s.size) (views_check s.size scratch values mattes))

-- the second form of show: 1 2, with the buffer of sums
unfoldable pub show_kept_check : State → ℕ → ℕ → ℕ → ℕ → ℕ → Outcome
show_kept_check s planes scratch values mattes sums =
    sizes_check s.size (sums_check s.size sums (show_check s planes scratch values mattes))

-- what the second forms of put and undo check before what the first forms do: 1 2, with sums and pictures
unfoldable pub kept_check : Size → ℕ → ℕ → ℕ → Outcome
kept_check z sums values mattes = sizes_check z (canvas_check z sums values mattes)
