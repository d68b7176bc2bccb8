-- What is proved of the records, from bytes to text, in one record.
use Rattle.records_model.specs.Stops.{StopsByRows}
use Rattle.records_model.specs.Machine.{EndToEnd, AnyCut, GoesOn}

pub record Promises : Type 0 where
  -- a record stops the run by the first of its rows that applies
  pub stops : StopsByRows
  -- the machine writes the text of the paper's rules
  pub end_to_end : EndToEnd
  -- in whatever parts the input comes
  pub any_cut : AnyCut
  pub goes_on : GoesOn
