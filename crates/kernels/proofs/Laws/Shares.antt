-- The shares up to a shape's top and above it, and what a table holds: the laws that the functions of share.rt cite.
use Rattle.kernels_model.proofs.Taps.Areas.{area_some}
use Rattle.kernels_model.proofs.Taps.Shares.{parts_under, parts_above, share_there, share_nowhere}

pub ruleset share_laws = (parts_under, parts_above, area_some)

pub ruleset table_laws = (share_there, share_nowhere)
