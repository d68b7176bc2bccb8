-- The paper's starred examples: the table's one theorem.
use mathlib.Core.Path.{◌≡◌, refl, ap}
use Prim.Native.Nat.{ℕ, ◌/◌}
use Rattle.kernels_model.specs.Fixed.{unit}
use Rattle.kernels_model.specs.Choice.{within, same}
use Rattle.kernels_model.specs.Sum.{sum}
use Rattle.kernels_model.specs.Shape.{Box}
use Rattle.kernels_model.specs.Tap.{shift, box, convolved, one, box_tap, tap, octagon_tap, area, share_for, share}
use Rattle.kernels_model.specs.Rounding.{nearest, nearest_even, shown_value, shown_matte}
use Rattle.kernels_model.specs.Lens.{blur}
use Rattle.kernels_model.specs.Starred.{starred, Agree}
use Rattle.kernels_model.proofs.Taps.Areas.{counted_area, area_counted}

-- an area that is long to sum up tap by tap
wide-share : share Box 64 ≡ 504
unfolding share_for counted_area
wide-share = ap (λ (n : ℕ). unit / n) (area_counted Box 64)

pub starred_agree : Agree starred
unfolding Agree area share_for tap octagon_tap box_tap convolved box shift one sum within same blur
    nearest nearest_even shown_value shown_matte
starred_agree = (
  refl,
  (
    refl,
    (
      refl,
      (
        refl,
        (
          refl,
          (
            refl,
            (
              refl,
              (
                refl,
                (
                  refl,
                  (
                    refl,
                    (
                      refl,
                      (
                        refl,
                        (
                          refl,
                          (
                            refl,
                            (
                              refl,
                              (
                                refl,
                                (
                                  refl,
                                  (
                                    refl,
                                    (
                                      refl,
                                      (
                                        wide-share,
                                        (
                                          refl,
                                          (
                                            refl,
                                            (
                                              refl,
                                              (
                                                refl,
                                                (
                                                  refl,
                                                  (
                                                    refl,
                                                    (
                                                      refl,
                                                      (
                                                        refl,
                                                        tt,
                                                      ),
                                                    ),
                                                  ),
                                                ),
                                              ),
                                            ),
                                          ),
                                        ),
                                      ),
                                    ),
                                  ),
                                ),
                              ),
                            ),
                          ),
                        ),
                      ),
                    ),
                  ),
                ),
              ),
            ),
          ),
        ),
      ),
    ),
  ),
)
