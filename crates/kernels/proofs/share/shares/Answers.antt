-- antt computes the test of the whole table, which is the table's rule at each row.
use mathlib.Core.Path.{refl}
use Rattle.kernels_model.specs.Choice.{within}
use Rattle.kernels_model.specs.Tap.{share_for, rest_for}
use Rattle.kernels_model.proofs.Taps.Areas.{counted_area}
use Rattle.kernels_model.proofs.Taps.TableRows.{rows_test}
use Rattle.kernels_model.proofs.Taps.Shares.{quick_parts, quick_at, table_tested}
use Rattle.kernels.proofs.share.shares.Goals as goal

pub returns : goal.returns
unfolding rows_test quick_at quick_parts share_for rest_for counted_area within
returns c = table_tested _ refl refl
