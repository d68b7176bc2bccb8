-- All that a customer relies on.
use Rattle.plate_model.specs.Promises.{Promises}
use Rattle.plate_model.proofs.Checks.Rows.{rows_decide}
use Rattle.plate_model.proofs.Words.Inverse.{words_inverse, entries_inverse}
use Rattle.plate_model.proofs.Demands.Answers.{demand_1, orders, open_accepts}
use Rattle.plate_model.proofs.Demands.Demand.{demand_2, demand_3}
use Rattle.plate_model.proofs.Demands.Unwrapped.{sums_unwrapped}
use Rattle.plate_model.proofs.Demands.Paintings.{stays_fresh, paints_fresh, paints_plain}
use Rattle.plate_model.proofs.Demands.Balance.{balances}
use Rattle.plate_model.proofs.Demands.Reports.{plate_counted}
use Rattle.plate_model.proofs.Demands.Refusals.{lists_refused}
use Rattle.plate_model.proofs.Demands.WorkedPlate.{worked}
use Rattle.plate_model.proofs.Demands.FlatLayers.{alike_flat, flat_shows, flat_seen}

pub promises : Promises
promises =
    record {
      demand_1 = demand_1;
      orders = orders;
      rows_decide = rows_decide;
      opens = open_accepts;
      words = words_inverse;
      entries = entries_inverse;
      demand_2 = demand_2;
      sums_unwrapped = sums_unwrapped;
      demand_3 = demand_3;
      list_refusals = lists_refused;
      worked = worked;
      stays_fresh = stays_fresh;
      paints_fresh = paints_fresh;
      paints_plain = paints_plain;
      balances = balances;
      counts = plate_counted;
      alike_flat = alike_flat;
      flat_shows = flat_shows;
      flat_seen = flat_seen;
    }
