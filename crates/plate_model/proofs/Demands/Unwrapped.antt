-- The finished sums are plain sums, with nothing wrapped: what a show of the second form writes on a plate of its own calls.
use Rattle.std.specs.Prelude.{Ok}
use mathlib.Core.Path.{◌≡◌}
use mathlib.Core.List.{List}
use Prim.Native.Nat.{ℕ}
use lib.ListN.{length}
use Rattle.plate_model.specs.Layout.{Size, sums_in_all}
use Rattle.plate_model.specs.Word.{Pixel, Entry}
use Rattle.plate_model.specs.Lent.{state_of, Views, views}
use Rattle.plate_model.specs.Refusal.{views_check, show_kept_check}
use Rattle.kernels_model.specs.Listed.{zeros}
use Rattle.plate_model.specs.Calls.{answer_of, show_by}
use Rattle.plate_model.specs.Kept.{sums_of, sums_by, shows_kept, show_kept_by, show_kept_call}
use Rattle.plate_model.specs.Plain.{plain_sums, plain_values, plain_mattes}
use Rattle.plate_model.specs.Unwrapped.{SumsUnwrapped}
use Rattle.plate_model.proofs.Checks.Passed.{length_pass, sizes_pass}
use Rattle.plate_model.proofs.Demands.PlainSums.{no_wrap}
use Rattle.plate_model.proofs.Demands.Mirror.{Mirrored}
use Rattle.plate_model.proofs.Demands.Demand.{show_checked, sums_plain, values_plain, mattes_plain, opened}

show_sums : (z : Size) (room : ℕ) (planes : List ℕ) (grid : List Pixel) (pile : List Entry) → Mirrored z room planes grid pile
    → (v : Views) (sums : List ℕ) → views_check z (length v.scratch) (length v.values) (length v.mattes) ≡ Ok tt
    → length sums ≡ sums_in_all z
    → show_kept_call (state_of z (length pile)) planes v sums
    ≡ shows_kept (answer_of (Ok tt) 0 (state_of z (length pile)))
    (views (zeros (length v.scratch)) (plain_values z grid) (plain_mattes z grid))
    (plain_sums z grid)
unfolding show_kept_call show_kept_by show_kept_check show_by sums_by sums_of
show_sums z room planes grid pile kept v sums e f =
    rw (
      sizes_pass z _ kept.lawful,
      length_pass (length sums) (sums_in_all z) _ f,
      show_checked z room planes grid pile kept v,
      e,
      values_plain z room planes grid pile kept,
      mattes_plain z room planes grid pile kept,
      sums_plain z room planes grid pile kept,
    )

pub sums_unwrapped : SumsUnwrapped
sums_unwrapped z l calls v sums e g h =
    let room = length l.log in
    let f = opened z l calls e in
    rw (f.same_plate, f.same_book) (
      show_sums z room f.planes f.grid f.pile f.kept v sums g h,
      no_wrap z f.grid f.kept.lawful f.kept.grid_fits,
    )
