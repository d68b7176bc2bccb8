-- Records: "One byte of kind, then its body, little-endian".
use Rattle.std.specs.Prelude.{List, [], ◌∷◌, ℕ, zero, suc, ◌+◌, ◌*◌, eqb, ltb, get_or, length, take, drop, Option, Some, None}
use Rattle.kernels_model.specs.Choice.{pick}
use Rattle.kernels_model.specs.Shape.{shape_of}
use Rattle.kernels_model.specs.declared.shape.Shape.{Shape}
use Rattle.plate_model.specs.declared.lent.Ask.{Ask}
use Rattle.plate_model.specs.Layout.{size_from}
use Rattle.records_model.specs.Fixed.{open_body, put_body}
pub use Rattle.records_model.specs.declared.record.Record.{Record}
pub use Rattle.records_model.specs.declared.record.Record.TheVariants.{Open, Put, NoShape, Undo, Show}
pub use Rattle.records_model.specs.declared.record.PlacedPixel.{PlacedPixel}
pub use Rattle.records_model.specs.declared.record.Shapeless.{Shapeless}
pub use Rattle.records_model.specs.declared.record.Stop.{Stop}
pub use Rattle.records_model.specs.declared.record.Stop.TheVariants.{Sizes, Kind, Body, Order, Cells}

-- the paper's number of a stop
abbrev pub stop_number : Stop → ℕ
stop_number Sizes = 1
stop_number Kind = 13
stop_number Body = 14
stop_number Order = 15
stop_number Cells = 16

-- the bytes of a kind's body: "1 open .., 2 put .., 3 undo, 4 show (no bodies)"
abbrev pub body_lengths : List (Option ℕ)
body_lengths = None ∷ Some open_body ∷ Some put_body ∷ Some 0 ∷ Some 0 ∷ []

abbrev pub body_length : ℕ → Option ℕ
body_length kind = get_or body_lengths kind None

-- two bytes, little-endian
abbrev pub pair : List ℕ → ℕ → ℕ
pair body i = get_or body i 0 + 256 * get_or body (i + 1) 0

-- a put's record: without a shape where its byte names none
abbrev pub put_record : Option Shape → List ℕ → Record
put_record (Some s) body =
    Put
    (record {
      x = pair body 0;
      y = pair body 2;
      pixel = record { value = pair body 4; opacity = get_or body 6 0; shape = s; radius = get_or body 8 0 };
    })
put_record None body = NoShape (record { x = pair body 0; y = pair body 2; value = pair body 4 })

-- the record of a known kind with its whole body
unfoldable pub record_of : ℕ → List ℕ → Record
record_of kind body =
    pick (eqb kind 1) (Open (size_from (pair body 0) (pair body 2) (get_or body 4 0)))
    (pick (eqb kind 2) (put_record (shape_of (get_or body 7 0)) body)
    (pick (eqb kind 3) Undo Show))

-- what a put asks the plate for
abbrev pub put_ask : PlacedPixel → Ask
put_ask p =
    let q = p.pixel in
    record { x = p.x; y = p.y; value = q.value; opacity = q.opacity; shape = Some q.shape; radius = q.radius }

-- without a shape it asks for none, so that 4 and 5 come before 6
abbrev pub shapeless_ask : Shapeless → Ask
shapeless_ask p = record { x = p.x; y = p.y; value = p.value; opacity = 0; shape = None; radius = 0 }

-- an input as records one after the other, up to its end or to what stops the run
pub data Items : Type 0 where
  over : Items
  broken : Stop → Items
  next : Record → Items → Items

-- 13: "unknown kind", 14: "body cut short", else what comes of a body of that length
abbrev pub with_body : Option ℕ → List ℕ → (ℕ → Items) → Items
with_body None rest items = broken Kind
with_body (Some m) rest items = pick (ltb (length rest) m) (broken Body) (items m)

-- the next record of an input, and what is made of the rest
abbrev pub item_then : List ℕ → (List ℕ → Items) → Items
item_then [] items = over
item_then (kind ∷ rest) items =
    with_body (body_length kind) rest (λ m. next (record_of kind (take m rest)) (items (drop m rest)))

-- at most n steps: there is one for each byte at most, and one for the end
unfoldable pub items_by : ℕ → List ℕ → Items
items_by zero input = over
items_by (suc n) input = item_then input (λ rest. items_by n rest)

unfoldable pub items_of : List ℕ → Items
items_of input = items_by (suc (length input)) input
