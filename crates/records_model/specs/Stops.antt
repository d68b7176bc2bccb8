-- WHEN A RECORD STOPS A RUN: the rows of the table that do, 13 to 16 and 1, in the paper's words.
use Rattle.std.specs.Prelude.{◌≡◌, ◌≢◌, ◌⊎◌, List, [], ◌∷◌, ◌++◌, ℕ, suc, ◌+◌, ◌<◌, get_or, length, take, drop, Some}
use Rattle.kernels_model.specs.Rows.{TableRow, row, FirstOf}
use Rattle.plate_model.specs.declared.size.Size.{Size}
use Rattle.plate_model.specs.Layout.{size_from, padded}
use Rattle.plate_model.specs.Table.{Outside, SizesOutside}
use Rattle.plate_model.specs.Notebook.{Book}
use Rattle.records_model.specs.Fixed.{cells_top, open_body, put_body}
use Rattle.records_model.specs.Record.{Stop, Sizes, Kind, Body, Order, Cells, body_length, pair, record_of, items_by}
use Rattle.records_model.specs.Run.{CurrentBook, not_open, open_with, go, act, stop_text, text_from}

-- 13: "unknown kind": "1 open .., 2 put .., 3 undo, 4 show"
abbrev pub KindUnknown : ℕ → Type 0
KindUnknown kind = Outside 1 4 kind

-- 14: "body cut short": "1 open (W 2 bytes, H 2, R 1), 2 put (x 2, y 2, v 2, a 1, shape 1, r 1), 3 undo, 4 show (no bodies)"
unfoldable pub BodyShort : ℕ → List ℕ → Type 0
BodyShort kind rest = ((kind ≡ 1) × (length rest < open_body)) ⊎ ((kind ≡ 2) × (length rest < put_body))

-- 15: "not open, or open again"
unfoldable pub OutOfOrder : CurrentBook → ℕ → Type 0
OutOfOrder not_open kind = kind ≢ 1
OutOfOrder (open_with b) kind = kind ≡ 1

-- an open's sizes: "W 2 bytes, H 2, R 1"
abbrev pub open_size : List ℕ → Size
open_size body = size_from (pair body 0) (pair body 2) (get_or body 4 0)

-- "Checks: 13, 14, 15, then 1, 16": of a byte of kind, and what follows it. 16: "P above 512"
abbrev pub record_rows : CurrentBook → ℕ → List ℕ → List (TableRow Stop)
record_rows d kind rest =
    row Kind (KindUnknown kind)
    ∷ row Body (BodyShort kind rest)
    ∷ row Order (OutOfOrder d kind)
    ∷ row Sizes ((kind ≡ 1) × SizesOutside (open_size rest))
    ∷ row Cells ((kind ≡ 1) × (cells_top < padded (open_size rest)))
    ∷ []

-- a run that has done k records goes on after this one: the record of its kind's body is done, and then come its text and the
-- text of what follows that body, with the notebook that it leaves
pub record GoesOnAfter (k n : ℕ) (d : CurrentBook) (kind : ℕ) (rest : List ℕ) : Type 0 where
  pub body : ℕ
  pub text : List ℕ
  pub book : Book
  pub body_is : body_length kind ≡ Some body
  pub done : act (k + 1) d (record_of kind (take body rest)) ≡ go text book
  pub goes_on : text_from k d (items_by (suc n) (kind ∷ rest))
      ≡ text ++ text_from (k + 1) (open_with book) (items_by n (drop body rest))

-- STOPS: a record stops the run by the first of its rows that applies, and the run goes on where none does
abbrev pub StopsByRows : Type 0
StopsByRows =
    (k n : ℕ) (d : CurrentBook) (kind : ℕ) (rest : List ℕ)
    → FirstOf (λ s. text_from k d (items_by (suc n) (kind ∷ rest)) ≡ stop_text (k + 1) s) (GoesOnAfter k n d kind rest)
    (record_rows d kind rest)
