-- What is said of each call of a list and its report.
use Rattle.std.specs.Prelude.{◌≡◌, List, [], ◌∷◌, Ok}
use Rattle.plate_model.specs.Layout.{Size}
use Rattle.plate_model.specs.Lent.{Lent, lengths_of}
use Rattle.plate_model.specs.Refusal.{open_check}
use Rattle.plate_model.specs.Calls.{open_call}
use Rattle.plate_model.specs.Notebook.{Report}
use Rattle.plate_model.specs.Lists.{Call, left_by, plate_reports}

-- each call has its report, and such a one
unfoldable pub EachReport : (Call → Report → Type 0) → List Call → List Report → Type 0
EachReport Such [] [] = Unit
EachReport Such [] (r ∷ rs) = ⊥
EachReport Such (c ∷ cs) [] = ⊥
EachReport Such (c ∷ cs) (r ∷ rs) = Such c r × EachReport Such cs rs

-- so in every list after an accepted open, by the plate's size
abbrev pub InLists : (Size → Call → Report → Type 0) → Type 0
InLists Such =
    (z : Size) (l : Lent) (calls : List Call) → open_check z (lengths_of l) ≡ Ok tt
    → EachReport (Such z) calls (plate_reports (left_by (open_call z l)) calls)
