-- Finite sums, the slope sum of a piece, the running sums of boxes along an axis, and the sums that finish a picture's planes.
pub mod FiniteSums
pub mod SlopeSums
pub mod BoxSums
pub mod PlaneSums
