-- What a record reads of its body: no more than the bytes that its kind has, and each of them a byte.
use Rattle.std.specs.Prelude.{Option, Some, None}
use mathlib.Core.Path.{◌≡◌}
use mathlib.Core.Bool.{Bool, true, false}
use mathlib.Core.List.{List, [], ◌∷◌}
use Prim.Native.Nat.{ℕ, zero, suc, ◌+◌, ◌<◌}
use native.Mathlib.Omega.{arith}
use lib.Dec.{eqb, lit<}
use lib.ListN.{get_or, take, drop}
use lib.Seq.{get_or-take, get_or-drop}
use Rattle.kernels_model.specs.Choice.{pick}
use Rattle.kernels_model.specs.Shape.{shape_of}
use Rattle.kernels_model.specs.declared.shape.Shape.{Shape}
use Rattle.records_model.specs.Fixed.{open_body, put_body}
use Rattle.records_model.specs.Record.{Record, Open, Put, NoShape, Undo, Show, pair, put_record, record_of}

abbrev pub AllBytes : List ℕ → Type 0
AllBytes l = (i : ℕ) → get_or l i 0 < 256

pub take_bytes : (n : ℕ) (l : List ℕ) → AllBytes l → AllBytes (take n l)
take_bytes zero l h i = lit< tt
take_bytes (suc n) [] h i = lit< tt
take_bytes (suc n) (x ∷ l) h zero = h 0
take_bytes (suc n) (x ∷ l) h (suc i) = take_bytes n l (λ j. h (suc j)) i

pub drop_bytes : (n : ℕ) (l : List ℕ) → AllBytes l → AllBytes (drop n l)
drop_bytes n l h i = rw (get_or-drop n l i 0) (h (n + i))

-- A RECORD LOOKS AT NO MORE THAN ITS BODY
front_pair : (n i : ℕ) (b : List ℕ) → i + 1 < n → pair b i ≡ pair (take n b) i
front_pair n i b h = rw (get_or-take n b i 0 (omega arith), get_or-take n b (i + 1) 0 h)

pub front_open : (b : List ℕ) → record_of 1 b ≡ record_of 1 (take open_body b)
unfolding record_of
front_open b =
    rw (
      front_pair open_body 0 b (omega arith),
      front_pair open_body 2 b (omega arith),
      get_or-take open_body b 4 0 (omega arith),
    )

front_put_as : (s : Option Shape) (b : List ℕ) → put_record s b ≡ put_record s (take put_body b)
front_put_as (Some s) b =
    rw (
      front_pair put_body 0 b (omega arith),
      front_pair put_body 2 b (omega arith),
      front_pair put_body 4 b (omega arith),
      get_or-take put_body b 6 0 (omega arith),
      get_or-take put_body b 8 0 (omega arith),
    )
front_put_as None b =
    rw (front_pair put_body 0 b (omega arith), front_pair put_body 2 b (omega arith), front_pair put_body 4 b (omega arith))

pub front_put : (b : List ℕ) → record_of 2 b ≡ record_of 2 (take put_body b)
unfolding record_of
front_put b = rw (get_or-take put_body b 7 0 (omega arith)) (front_put_as (shape_of (get_or b 7 0)) b)

-- ITS OPACITY IS A BYTE
abbrev pub LawfulRecord : Record → Type 0
LawfulRecord (Open a) = Unit {0}
LawfulRecord (Put p) = p.pixel.opacity < 256
LawfulRecord (NoShape p) = Unit {0}
LawfulRecord Undo = Unit {0}
LawfulRecord Show = Unit {0}

put_lawful : (s : Option Shape) (b : List ℕ) → AllBytes b → LawfulRecord (put_record s b)
put_lawful (Some s) b h = h 6
put_lawful None b h = tt

pick_lawful : (t : Bool) (r q : Record) → LawfulRecord r → LawfulRecord q → LawfulRecord (pick t r q)
pick_lawful true r q p o = p
pick_lawful false r q p o = o

pub record_lawful : (kind : ℕ) (b : List ℕ) → AllBytes b → LawfulRecord (record_of kind b)
unfolding record_of
record_lawful kind b h =
    pick_lawful (eqb kind 1) _ _ tt
    (pick_lawful (eqb kind 2) _ _ (put_lawful (shape_of (get_or b 7 0)) b h) (pick_lawful (eqb kind 3) Undo Show tt tt))
