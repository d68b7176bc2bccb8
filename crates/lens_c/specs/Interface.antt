-- The C interface: the plate's calls with C's structs for state, lens, answer and totals.
use Rattle.std.specs.Prelude.{List, ℕ}
use Rattle.kernels_model.specs.declared.lens.Lens.{Lens}
use Rattle.plate_model.specs.declared.state.State.{State}
use Rattle.plate_model.specs.Refusal.{Returned}
use Rattle.plate_model.specs.Layout.{size_from}
use Rattle.plate_model.specs.Lent.{state_of, Lent, Views, Canvas}
use Rattle.plate_model.specs.Calls.{Left, Shown}
use Rattle.plate_model.specs.Kept.{Refreshed, ShownKept}
use Rattle.plate_model.specs.Total.{Totalled}
pub use Rattle.lens_c.specs.declared.LensState.{LensState}
pub use Rattle.lens_c.specs.declared.LensLens.{LensLens}
pub use Rattle.lens_c.specs.declared.LensAnswer.{LensAnswer}
pub use Rattle.lens_c.specs.declared.LensTotals.{LensTotals}

abbrev pub state_in : LensState → State
state_in s = state_of (size_from s.width s.height s.reach) s.count

abbrev pub state_out : State → LensState
state_out s =
    record { width = s.size.width; height = s.size.height; reach = s.size.reach; count = s.count }

abbrev pub lens_in : LensLens → Lens
lens_in l = record { opening = l.opening; focal = l.focal; focus = l.focus; pitch = l.pitch }

-- what a call returns, in the paper's numbers
abbrev pub answer_out : Returned → LensAnswer
answer_out a = record { number = a.number; marks = a.marks; state = state_out a.state }

-- what a call answers C, and what it leaves
pub record LeftOut : Type 0 where
  pub answer : LensAnswer
  pub buffers : Lent

abbrev pub leaves_out : LensAnswer → Lent → LeftOut
leaves_out a l = record { answer = a; buffers = l }

abbrev pub left_out : Left → LeftOut
left_out l = leaves_out (answer_out l.answer) l.buffers

pub record ShownOut : Type 0 where
  pub answer : LensAnswer
  pub seen : Views

abbrev pub shows_out : LensAnswer → Views → ShownOut
shows_out a v = record { answer = a; seen = v }

abbrev pub shown_out : Shown → ShownOut
shown_out s = shows_out (answer_out s.answer) s.seen

-- and of the second forms
pub record RefreshedOut : Type 0 where
  pub call : LeftOut
  pub canvas : Canvas

abbrev pub leaves_kept_out : LensAnswer → Lent → Canvas → RefreshedOut
leaves_kept_out a l k = record { call = leaves_out a l; canvas = k }

abbrev pub refreshed_out : Refreshed → RefreshedOut
refreshed_out r = record { call = left_out r.call; canvas = r.canvas }

pub record ShownKeptOut : Type 0 where
  pub call : ShownOut
  pub sums : List ℕ

abbrev pub shows_kept_out : LensAnswer → Views → List ℕ → ShownKeptOut
shows_kept_out a v sums = record { call = shows_out a v; sums = sums }

abbrev pub shown_kept_out : ShownKept → ShownKeptOut
shown_kept_out s = record { call = shown_out s.call; sums = s.sums }

-- and of a total
pub record TotalledOut : Type 0 where
  pub totals : LensTotals
  pub scratch : List ℕ

abbrev pub totals_out : Returned → ℕ → ℕ → LensTotals
totals_out a matte light = record { answer = answer_out a; matte = matte; light = light }

abbrev pub totals_and_scratch : LensTotals → List ℕ → TotalledOut
totals_and_scratch t scratch = record { totals = t; scratch = scratch }

abbrev pub totalled_out : Totalled → TotalledOut
totalled_out t = totals_and_scratch (totals_out t.answer t.matte t.light) t.scratch
