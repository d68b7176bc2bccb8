-- WHAT A CUSTOMER RELIES ON, in one record: each theorem's statement, proved.
use Rattle.plate_model.specs.Table.{Demand1, Orders, OpenAccepts}
use Rattle.plate_model.specs.RowsDecide.{RowsDecide}
use Rattle.plate_model.specs.WordFacts.{WordsInverse, EntriesInverse}
use Rattle.plate_model.specs.Lists.{Demand2, Demand3}
use Rattle.plate_model.specs.Unwrapped.{SumsUnwrapped}
use Rattle.plate_model.specs.Painting.{StaysFresh, PaintsFresh, PaintsPlain}
use Rattle.plate_model.specs.Balance.{Balances}
use Rattle.plate_model.specs.Counts.{ListsCounted}
use Rattle.plate_model.specs.ListRefusals.{ListsRefused}
use Rattle.plate_model.specs.Worked.{Worked}
use Rattle.plate_model.specs.Flat.{AlikeFlat, FlatShows, FlatSeen}

pub record Promises : Type 1 where
  -- any call gets the finished work or the refusal of the table's first row that applies; and there are plates
  pub demand_1 : Demand1
  pub orders : Orders
  pub rows_decide : RowsDecide
  pub opens : OpenAccepts
  -- stored words and entries are read as they were written
  pub words : WordsInverse
  pub entries : EntriesInverse
  -- both pictures are plain spreading
  pub demand_2 : Demand2
  -- from finished sums that do not wrap
  pub sums_unwrapped : SumsUnwrapped
  -- every list of calls is answered as the notebook answers it, and leaves what it says
  pub demand_3 : Demand3
  -- and is refused for what callers ask and lend, and never for what the plate keeps itself
  pub list_refusals : ListsRefused
  -- a small plate comes out as it was worked out by hand
  pub worked : Worked
  -- what is kept under the brush is the plate's, call after call
  pub stays_fresh : StaysFresh
  pub paints_fresh : PaintsFresh
  pub paints_plain : PaintsPlain
  -- light is neither made nor lost
  pub balances : Balances
  -- how many marks calls report
  pub counts : ListsCounted
  -- a flat layer stays flat
  pub alike_flat : AlikeFlat
  pub flat_shows : FlatShows
  pub flat_seen : FlatSeen
