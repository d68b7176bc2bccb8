-- Laws of the shapes' numbers.
use Rattle.std.specs.Prelude.{Some}
use mathlib.Core.Path.{◌≡◌}
use Prim.Native.Nat.{ℕ, ◌-◌, ◌≤◌, ◌<◌}
use native.Mathlib.Omega.{arith}
use borrow.Author.Tests.{le-ltb}
use Rattle.kernels_model.specs.Fixed.{radii, shape_count, shape_refused}
use Rattle.kernels_model.specs.Facts.{ShapeFact, UnderFact, CountsFew}
use Rattle.kernels_model.specs.NumberAndValue.{number_and_value}
use Rattle.kernels_model.specs.Shape.{Shape}
use Rattle.kernels_model.specs.Shape.{number_of, top_of, shape_of, shape_answer, shape_answer_for, reach_of}
use Rattle.kernels_model.specs.Shape.{top_under}

pub number_le : (s : Shape) → number_of s ≤ shape_count - 1
number_le s = grind arith

pub top_small : (s : Shape) → top_of s < radii
top_small s = grind arith

-- "a kernel has 8 to 20 marks"
pub count_few : CountsFew
count_few s = grind arith

-- "r is also at most R / n rounded down", so that the kernel reaches at most R
pub reach_under : (R : ℕ) (s : Shape) (r : ℕ) → r ≤ top_under s R → reach_of s r ≤ R
reach_under R s r h = grind arith

-- and that is all that it asks beside the shape's top
under_reach : (R : ℕ) (s : Shape) (r : ℕ) → r ≤ top_of s → reach_of s r ≤ R → r ≤ top_under s R
under_reach R s r h g = grind arith

pub tops_under : UnderFact
tops_under s r R = record { to = λ h. (omega arith, reach_under R s r h); from = under_reach R s r }

-- a number's shape has that number
pub number_back : (s : Shape) → shape_of (number_of s) ≡ Some s
number_back s = grind arith

-- WHAT A SHAPE TELLS
pub shape_above : (n : ℕ) → shape_count ≤ n → shape_answer_for n ≡ number_and_value shape_refused 0
unfolding shape_answer_for
shape_above n h = simp (le-ltb n shape_count h)

-- the shape that is read for a number is the number's
pub shape_read_lem : ShapeFact
unfolding shape_answer shape_answer_for
shape_read_lem r n e = grind arith
