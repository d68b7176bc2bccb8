-- How the code fills a plate: what all pixels of a layer share, what its loops count on, and what they have done after n pixels.
use Rattle.std.specs.Prelude.{◌≡◌, ℕ, ◌+◌, ◌-◌, ◌*◌, ◌^◌, ◌<◌, ◌≤◌, true, List, map, length, slice_index, Result, Ok, Err}
use Rattle.kernels_model.specs.Fixed.{value_top, depth_top}
use Rattle.kernels_model.specs.declared.shape.Shape.{Shape}
use Rattle.kernels_model.specs.Shape.{shape_of, top_under}
use Rattle.kernels_model.specs.declared.lens.Lens.{Lens}
use Rattle.kernels_model.specs.Lens.{lawful_lens}
use Rattle.plate_model.specs.Fixed.{planes_in_all}
use Rattle.plate_model.specs.declared.size.Size.{Size}
use Rattle.plate_model.specs.Layout.{padded, places}
use Rattle.plate_model.specs.declared.state.State.{State}
use Rattle.plate_model.specs.declared.lent.LentLengths.{LentLengths}
use Rattle.plate_model.specs.Lent.{Inputs}
use Rattle.plate_model.specs.declared.word.Pixel.{Pixel}
use Rattle.plate_model.specs.Word.{word_of}
use Rattle.plate_model.specs.Refusal.{Outcome}
use Rattle.plate_model.specs.declared.state.Refusal.{Refusal}
use Rattle.plate_model.specs.Refusal.{sizes_check, lent_check, inputs_check, count_check, layer_check, fill_check}
use Rattle.plate_model.specs.Asked.{known_shape, filled}
use Rattle.plate_model.specs.Marks.{pixel_marks, lay_all, lay_grid}
use Rattle.kernels_model.specs.Listed.{zeros, list_to}
use Rattle.plate.specs.Frame.{frame_of}
pub use Rattle.plate.specs.declared.layer.Layer.{Layer}

-- THE INPUTS
-- 1 to 3 of a fill, by lengths alone
unfoldable pub fill_lengths : State → LentLengths → ℕ → ℕ → ℕ → Outcome
fill_lengths s n values opacities depths =
    sizes_check s.size
    (lent_check s.size n (inputs_check s.size values opacities depths (count_check s.count n.log (Ok tt))))

-- the largest number of 32 bits
abbrev pub number_top : ℕ
number_top = 2 ^ 32 - 1

-- THE LAYER
abbrev pub layer_of : Size → Lens → Shape → Layer
layer_of z l k = record { frame = frame_of z; lens = l; shape = k; top = top_under k z.reach }

-- the layer, where its check accepts it
abbrev pub read_by : Outcome → Layer → Result Layer Refusal
read_by (Ok tt) j = Ok j
read_by (Err f) j = Err f

-- by 5, 6, 11, 12 and 17
abbrev pub inputs_read : Size → Lens → ℕ → Inputs → Result Layer Refusal
inputs_read z l k f = read_by (layer_check l k f) (layer_of z l (known_shape (shape_of k)))

-- and by all of a fill's checks
abbrev pub layer_read : State → Lens → ℕ → Inputs → LentLengths → Result Layer Refusal
layer_read s l k f n = read_by (fill_check s l k f n) (layer_of s.size l (known_shape (shape_of k)))

abbrev pub layer_size : Layer → Size
layer_size j = j.frame.size

abbrev pub place_in : Layer → ℕ → ℕ → ℕ
place_in j x y = y * (layer_size j).width + x

-- the pixel of a layer at a place
abbrev pub pixel_of : Layer → Inputs → ℕ → Pixel
pixel_of j f = filled (layer_size j) j.lens j.shape f

-- WHAT THE LOOPS COUNT ON
-- a lawful layer, and lawful inputs for as many pixels
pub record Lawful (j : Layer) (f : Inputs) : Type 0 where
  pub framed : j.frame ≡ frame_of (layer_size j)
  pub top_is : j.top ≡ top_under j.shape (layer_size j).reach
  pub lens_lawful : lawful_lens j.lens ≡ true
  pub values_are : length f.values ≡ places (layer_size j)
  pub opacities_are : length f.opacities ≡ places (layer_size j)
  pub depths_are : length f.depths ≡ places (layer_size j)
  pub values_in : (i : ℕ) → slice_index f.values i ≤ value_top
  pub depths_in : (i : ℕ) → slice_index f.depths i ≤ depth_top

-- planes of n cells in all for a layer
abbrev pub Roomy : Layer → ℕ → Type 0
Roomy j n = n ≡ planes_in_all * padded (layer_size j)

-- a layer and its inputs, with planes and pixels
pub record Ready (j : Layer) (planes pixels : ℕ) (f : Inputs) : Type 0 where
  pub lawful : Lawful j f
  pub planes_are : Roomy j planes
  pub pixels_are : pixels ≡ places (layer_size j)

-- WHAT THEY HAVE DONE
-- the pixel at (x, y): its marks laid, and its word
pub record FilledOne (j : Layer) (f : Inputs) (x y : ℕ) (cells planes : List ℕ) (word : ℕ) : Type 0 where
  pub laid : planes
      ≡ lay_all (layer_size j) cells (pixel_marks (layer_size j) (place_in j x y) (pixel_of j f (place_in j x y)))
  pub word_is : word ≡ word_of (pixel_of j f (place_in j x y))

-- the first n pixels of a layer: their marks laid on the cells, one pixel's after the other's, and their words stored
pub record FilledTo (j : Layer) (f : Inputs) (cells planes pixels : List ℕ) (n : ℕ) : Type 0 where
  pub laid : planes ≡ lay_grid (layer_size j) (pixel_of j f) cells n
  pub stored : (i : ℕ) → i < n → slice_index pixels i ≡ word_of (pixel_of j f i)

-- row y, on the rows before it
unfoldable pub FilledRow : Layer → Inputs → ℕ → (planes₀ pixels₀ planes pixels : List ℕ) → Type 0
FilledRow j f y planes₀ pixels₀ planes pixels =
    (cells : List ℕ) → FilledTo j f cells planes₀ pixels₀ (y * (layer_size j).width)
    → FilledTo j f cells planes pixels ((y + 1) * (layer_size j).width)

-- all pixels of a layer on n cells that were 0, and a log of m entries emptied
pub record Refilled (j : Layer) (f : Inputs) (n m : ℕ) (planes pixels log : List ℕ) : Type 0 where
  pub laid : planes ≡ lay_grid (layer_size j) (pixel_of j f) (zeros n) (places (layer_size j))
  pub stored : pixels ≡ map word_of (list_to (pixel_of j f) (places (layer_size j)))
  pub emptied : log ≡ zeros m
