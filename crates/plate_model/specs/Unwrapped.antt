-- "Sums wrap at 2^64 on the way, and the finished light and matte don't": the sums that a show of the second form writes.
use Rattle.std.specs.Prelude.{◌≡◌, List, ℕ, ◌^◌, ◌<◌, length, Ok}
use Rattle.plate_model.specs.Layout.{Size, sums_in_all}
use Rattle.plate_model.specs.Lent.{Lent, lengths_of, Views, views}
use Rattle.plate_model.specs.Refusal.{open_check, views_check}
use Rattle.kernels_model.specs.Listed.{zeros}
use Rattle.plate_model.specs.Calls.{answer_of, open_call}
use Rattle.plate_model.specs.Kept.{shows_kept, show_kept_call}
use Rattle.plate_model.specs.Plain.{light_of, matte_of, plain_sum, plain_sums, plain_values, plain_mattes}
use Rattle.plate_model.specs.Notebook.{open_book}
use Rattle.plate_model.specs.Lists.{Call, left_by, plate_after, book_after}

-- "the finished sum is exact modulo 2^64 and below it": on a plate changed only by its own calls, a show of the second form that
-- is lent right lengths answers 0, writes the plain pictures of the notebook's grid, leaves scratch all zero, and fills the
-- buffer with the plain sums themselves, which are sums of natural numbers with nothing wrapped; and each is below 2^64
abbrev pub SumsUnwrapped : Type 0
SumsUnwrapped =
    (z : Size) (l : Lent) (calls : List Call) (v : Views) (sums : List ℕ) → open_check z (lengths_of l) ≡ Ok tt
    → views_check z (length v.scratch) (length v.values) (length v.mattes) ≡ Ok tt → length sums ≡ sums_in_all z →
    let p = plate_after (left_by (open_call z l)) calls in
    let grid = (book_after (open_book z (length l.log)) calls).grid in
    (show_kept_call p.state p.buffers.planes v sums
    ≡ shows_kept (answer_of (Ok tt) 0 p.state) (views (zeros (length v.scratch)) (plain_values z grid) (plain_mattes z grid))
    (plain_sums z grid))
    × ((i : ℕ) → (plain_sum z grid light_of i < 2 ^ 64) × (plain_sum z grid matte_of i < 2 ^ 64))
