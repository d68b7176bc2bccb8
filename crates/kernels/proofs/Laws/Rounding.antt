-- Both roundings: the laws that the functions of rounding.rt cite.
use Rattle.kernels_model.proofs.Numbers.Nearest.{nearest-down, nearest_up, even_down, even_up, value_none, value_some}

pub ruleset rounding_laws = (nearest-down, nearest_up, even_down, even_up, value_none, value_some)
