-- Light is neither made nor lost: what a plate holds in all is what its pixels had.
use Rattle.std.specs.Prelude.{◌≡◌, List, ℕ, ◌*◌, ◌^◌, ◌<◌, length, Ok}
use Rattle.kernels_model.specs.Fixed.{unit}
use Rattle.kernels_model.specs.Sum.{sum}
use Rattle.plate_model.specs.Fixed.{scratch_planes}
use Rattle.plate_model.specs.Layout.{Size, padded, places}
use Rattle.plate_model.specs.Lent.{Lent, lengths_of}
use Rattle.plate_model.specs.Word.{Pixel}
use Rattle.plate_model.specs.Refusal.{open_check}
use Rattle.kernels_model.specs.Listed.{zeros}
use Rattle.plate_model.specs.Calls.{answer_of, open_call}
use Rattle.plate_model.specs.Plain.{pixel_at, light_of, matte_of}
use Rattle.plate_model.specs.Notebook.{open_book}
use Rattle.plate_model.specs.Lists.{Call, left_by, plate_after, book_after}
use Rattle.plate_model.specs.Total.{totalled, totals_of, total_call}

-- "8,388,608 times the sum of the notebook's opacities, and 8,388,608 times the sum of opacity times value": the whole, as often
-- as the pixels of a grid are worth in matte or in light
unfoldable pub had_by : Size → List Pixel → (Pixel → ℕ) → ℕ
had_by z grid worth = unit * sum (λ j. worth (pixel_at grid j)) (places z)

-- "After every list of put, undo, fill and show calls they equal" those of the notebook's grid, either form of each call: a total
-- that is lent a scratch of the right length is accepted, answers the two products themselves, and leaves scratch all zero; and
-- neither product reaches 2^64, so that nothing is wrapped
abbrev pub Balances : Type 0
Balances =
    (z : Size) (l : Lent) (calls : List Call) (scratch : List ℕ) → open_check z (lengths_of l) ≡ Ok tt
    → length scratch ≡ scratch_planes * padded z →
    let p = plate_after (left_by (open_call z l)) calls in
    let grid = (book_after (open_book z (length l.log)) calls).grid in
    let matte = had_by z grid matte_of in
    let light = had_by z grid light_of in
    (total_call p.state p.buffers.planes scratch
    ≡ totalled (totals_of (answer_of (Ok tt) 0 p.state) matte light) (zeros (length scratch)))
    × (matte < 2 ^ 64)
    × (light < 2 ^ 64)
