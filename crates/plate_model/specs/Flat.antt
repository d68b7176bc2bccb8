-- Flat layers: what a cell shows where every pixel that reaches it is the same.
use Rattle.std.specs.Prelude.{◌≡◌, List, ℕ, ◌+◌, ◌/◌, ◌%◌, ◌≤◌, ◌<◌, get_or, length, Ok}
use Rattle.kernels_model.specs.Sum.{dist}
use Rattle.kernels_model.specs.Shape.{reach_of}
use Rattle.plate_model.specs.Layout.{Size, places}
use Rattle.plate_model.specs.Word.{Pixel, Fits}
use Rattle.plate_model.specs.Lent.{Lent, lengths_of, Views}
use Rattle.plate_model.specs.Refusal.{open_check, views_check}
use Rattle.plate_model.specs.Calls.{open_call, show_call}
use Rattle.plate_model.specs.Plain.{pixel_at, weight_at, plain_values, plain_mattes}
use Rattle.plate_model.specs.Notebook.{open_book}
use Rattle.plate_model.specs.Lists.{Call, left_by, plate_after, book_after}

-- the square that reaches m from cell i lies on the plate
pub record OnPlate (z : Size) (m i : ℕ) : Type 0 where
  pub left_on : m ≤ i % z.width
  pub right_on : i % z.width + m < z.width
  pub top_on : m ≤ i / z.width
  pub bottom_on : i / z.width + m < z.height

-- place j lies in it
pub record InSquare (z : Size) (m i j : ℕ) : Type 0 where
  pub across : dist (i % z.width) (j % z.width) ≤ m
  pub down : dist (i / z.width) (j / z.width) ≤ m

-- the square of p's reach around cell i lies on the plate and holds p alone, and no other pixel's kernel reaches the cell
pub record FlatAt (z : Size) (grid : List Pixel) (p : Pixel) (i : ℕ) : Type 0 where
  pub on_plate : OnPlate z (reach_of p.shape p.radius) i
  pub inside : (j : ℕ) → j < places z → InSquare z (reach_of p.shape p.radius) i j → pixel_at grid j ≡ p
  pub outside : (j : ℕ) → j < places z → ¬ (InSquare z (reach_of p.shape p.radius) i j) → weight_at z (pixel_at grid j) j i ≡ 0

-- a layer that is p at every place is flat so at every cell whose square lies on the plate
abbrev pub AlikeFlat : Type 0
AlikeFlat =
    (z : Size) (grid : List Pixel) (p : Pixel) (i : ℕ) → ((j : ℕ) → j < places z → pixel_at grid j ≡ p)
    → OnPlate z (reach_of p.shape p.radius) i → FlatAt z grid p i

-- such a cell shows the pixel's value and its opacity, where that is not 0, whatever its shape and radius
abbrev pub FlatShows : Type 0
FlatShows =
    (z : Size) (grid : List Pixel) (p : Pixel) (i : ℕ) → Fits z.reach p → 0 < p.opacity → FlatAt z grid p i
    → (get_or (plain_values z grid) i 0 ≡ p.value) × (get_or (plain_mattes z grid) i 0 ≡ p.opacity)

-- and so it is seen in every accepted show of a plate after a list of calls that left the notebook's grid flat there
abbrev pub FlatSeen : Type 0
FlatSeen =
    (z : Size) (l : Lent) (calls : List Call) (v : Views) (p : Pixel) (i : ℕ) → open_check z (lengths_of l) ≡ Ok tt
    → views_check z (length v.scratch) (length v.values) (length v.mattes) ≡ Ok tt
    → 0 < p.opacity → FlatAt z (book_after (open_book z (length l.log)) calls).grid p i →
    let plate = plate_after (left_by (open_call z l)) calls in
    let seen = (show_call plate.state plate.buffers.planes v).seen in
    (get_or seen.values i 0 ≡ p.value) × (get_or seen.mattes i 0 ≡ p.opacity)
