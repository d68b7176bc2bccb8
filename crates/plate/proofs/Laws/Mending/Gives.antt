-- What a pixel gives a cell is far below 2 ^ 64.
use Rattle.std.proofs.Common.{ℕ, arith}
use Rattle.plate_model.specs.declared.word.Pixel.{Pixel}
use Rattle.plate_model.specs.Word.{Fits}
use Rattle.plate.specs.Mending.{Given, GivenIn, GivesFew}

-- what a lawful pixel gives is little
pub gives_few : (R : ℕ) (p : Pixel) (dy : ℕ) (g : Given) → Fits R p → GivenIn p dy g → GivesFew g
gives_few R p dy g fits h =
    record {
      value_fits = omega (arith, h.value_is, fits.value_fits);
      opacity_fits = omega (arith, h.opacity_is, fits.opacity_fits);
      few = h.band_is.few;
    }
