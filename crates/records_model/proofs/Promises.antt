-- All that is promised of the records.
use Rattle.records_model.specs.Promises.{Promises}
use Rattle.records_model.proofs.Running.Advancing.{calls_go_on}
use Rattle.records_model.proofs.Statements.Stopping.{stops_by_rows}
use Rattle.records_model.proofs.Statements.EndToEnd.{end_to_end}
use Rattle.records_model.proofs.Statements.AnyCut.{any_cut}

pub promises : Promises
promises = record { stops = stops_by_rows; end_to_end = end_to_end; any_cut = any_cut; goes_on = calls_go_on }
