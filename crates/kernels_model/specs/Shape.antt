-- The six shapes, and their rows in the paper's table of kernels.
use Rattle.std.specs.Prelude.{ℕ, ◌+◌, ◌*◌, ◌/◌, min, List, [], ◌∷◌, get_or, ltb, Option, Some, None}
use Rattle.kernels_model.specs.Fixed.{shape_count, centre_count, accepted, shape_refused}
use Rattle.kernels_model.specs.Choice.{pick}
use Rattle.kernels_model.specs.NumberAndValue.{NumberAndValue, number_and_value}
pub use Rattle.kernels_model.specs.declared.shape.Shape.{Shape}
pub use Rattle.kernels_model.specs.declared.shape.Shape.TheVariants.{Box, Tent, Triple, Diamond, Hexagon, Octagon}

-- "shape 0 to 5"
abbrev pub number_of : Shape → ℕ
number_of Box = 0
number_of Tent = 1
number_of Triple = 2
number_of Diamond = 3
number_of Hexagon = 4
number_of Octagon = 5

-- the shape of a number, none above 5
abbrev pub shapes : List (Option Shape)
shapes = Some Box ∷ Some Tent ∷ Some Triple ∷ Some Diamond ∷ Some Hexagon ∷ Some Octagon ∷ []

abbrev pub shape_of : ℕ → Option Shape
shape_of n = get_or shapes n None

-- the paper's number and value for each answer: a known shape is accepted, and its value is its number
unfoldable pub shape_answer : Option Shape → NumberAndValue
shape_answer (Some s) = number_and_value accepted (number_of s)
shape_answer None = number_and_value shape_refused 0

-- those that the answer for the number n has to have: "shape above 5" is 6
unfoldable pub shape_answer_for : ℕ → NumberAndValue
shape_answer_for n = pick (ltb n shape_count) (number_and_value accepted n) (number_and_value shape_refused 0)

-- "With n boxes (1, 2, 3) ..; n is 1 for shapes 3 to 5."
abbrev pub boxes_of : Shape → ℕ
boxes_of Box = 1
boxes_of Tent = 2
boxes_of Triple = 3
boxes_of Diamond = 1
boxes_of Hexagon = 1
boxes_of Octagon = 1

-- "top r"
abbrev pub top_of : Shape → ℕ
top_of Box = 64
top_of Tent = 8
top_of Triple = 3
top_of Diamond = 64
top_of Hexagon = 64
top_of Octagon = 64

-- "marks": those of the taps
abbrev pub tap_count : Shape → ℕ
tap_count Box = 4
tap_count Tent = 9
tap_count Triple = 16
tap_count Diamond = 8
tap_count Hexagon = 12
tap_count Octagon = 12

-- "four more marks in slope 0, so a kernel has 8 to 20 marks"
abbrev pub count_of : Shape → ℕ
count_of s = tap_count s + centre_count

-- "the kernel reaches n × r"
abbrev pub reach_of : Shape → ℕ → ℕ
reach_of s r = boxes_of s * r

-- "so r is also at most R / n rounded down": the shape's top under R
abbrev pub top_under : Shape → ℕ → ℕ
top_under s R = min (top_of s) (R / boxes_of s)
