-- The thin lens formula: the laws that the functions of lens.rt cite.
use Rattle.kernels_model.proofs.Lenses.ThinLens.{lawful, far_small, near_small, blur_far, blur_near, no_lens, no_depth, in_pixels}

pub ruleset blur_laws = (lawful, far_small, near_small, blur_far, blur_near)

pub ruleset radius_laws = (no_lens, no_depth, in_pixels)
