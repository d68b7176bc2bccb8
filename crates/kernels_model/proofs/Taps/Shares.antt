-- The table of shares and remainders: its rule, by one computed test over the whole table, and what it holds for a shape and a
-- radius.
use Rattle.std.specs.Prelude.{Option, Some, None}
use mathlib.Core.Path.{◌≡◌, refl, ap, sym, ◌∙◌}
use mathlib.Core.Bool.{true}
use mathlib.Core.List.{List}
use Prim.Native.Nat.{ℕ, ◌+◌, ◌*◌, ◌/◌, ◌%◌, ◌≤◌, ◌<◌}
use native.Mathlib.Omega.{arith}
use lib.ListN.{length, get_or}
use borrow.Author.Tests.{lt-ltb, le-ltb}
use Rattle.kernels_model.specs.Fixed.{radii, table_rows, table_numbers}
use Rattle.kernels_model.specs.Choice.{within}
use Rattle.kernels_model.specs.Shape.{Shape, number_of, shape_of, top_of}
use Rattle.kernels_model.specs.Tap.{share_for, rest_for, share, rest}
use Rattle.kernels_model.specs.Facts.{TableFact}
use Rattle.kernels_model.specs.Share.{Share, share_up_to, rest_up_to, share_from, share_parts, parts_of, parts_at, share_table}
use Rattle.kernels_model.specs.Share.{table_place, table_share}
use Rattle.kernels_model.proofs.Numbers.Choices.{by_lt, within_yes, within_no}
use Rattle.kernels_model.proofs.Taps.Areas.{counted_area, area_counted}
use Rattle.kernels_model.proofs.Taps.ShapeNumbers.{number_le, top_small}
use Rattle.kernels_model.proofs.Taps.TableRows.{rows_test, tested, rows_ext, each_in, rest_in}

-- SHARES UP TO THE TOP
pub parts_under : (s : Shape) (r : ℕ) → r ≤ top_of s → share_parts s r ≡ share_from (share s r) (rest s r)
unfolding share_up_to rest_up_to
parts_under s r h = rw (within_yes r (top_of s) (share s r) h, within_yes r (top_of s) (rest s r) h)

pub parts_above : (s : Shape) (r : ℕ) → top_of s < r → share_parts s r ≡ share_from 0 0
unfolding share_up_to rest_up_to
parts_above s r h = rw (within_no r (top_of s) (share s r) h, within_no r (top_of s) (rest s r) h)

-- THE RULE
-- share and remainder in a form that is quick to compute: with the counted area for the sum of all taps
unfoldable pub quick_parts : Option Shape → ℕ → Share
quick_parts (Some s) r =
    share_from (within r (top_of s) (share_for (counted_area s r))) (within r (top_of s) (rest_for (counted_area s r)))
quick_parts None r = share_from 0 0

-- those of row k
unfoldable pub quick_at : ℕ → Share
quick_at k = quick_parts (shape_of (k / radii)) (k % radii)

quick_parts_lem : (s : Option Shape) (r : ℕ) → quick_parts s r ≡ parts_of s r
unfolding quick_parts share_up_to rest_up_to
quick_parts_lem (Some s) r = rw (← area_counted s r)
quick_parts_lem None r = refl

quick_at_lem : (k : ℕ) → quick_at k ≡ parts_at k
unfolding quick_at parts_at
quick_at_lem k = quick_parts_lem (shape_of (k / radii)) (k % radii)

-- a list as long as the table that passes the test is the table
pub table_tested : (xs : List ℕ) → length xs ≡ table_numbers → rows_test quick_at 0 xs ≡ true → xs ≡ share_table
unfolding share_table
table_tested xs n t = tested quick_at 0 table_rows xs n t ∙ rows_ext quick_at parts_at quick_at_lem 0 table_rows

-- ITS ROWS
-- the row at the radii times the number, plus the radius
parts_at_lem : (s : Shape) (r : ℕ) → r < radii → parts_at (radii * number_of s + r) ≡ share_parts s r
unfolding parts_at
parts_at_lem s r h = grind arith

-- what any table holds, for a radius that it has a place for and for one past them
pub share_there : (table : List ℕ) (s : Shape) (r : ℕ) → r < radii
    → table_share table s r ≡ share_from (get_or table (table_place s r) 0) (get_or table (table_place s r + 1) 0)
unfolding table_share
share_there table s r g = simp (lt-ltb r radii g)

pub share_nowhere : (table : List ℕ) (s : Shape) (r : ℕ) → radii ≤ r → table_share table s r ≡ share_from 0 0
unfolding table_share
share_nowhere table s r g = simp (le-ltb r radii g)

-- what the table of shares holds there
parts_in : (s : Shape) (r : ℕ) → r < radii
    → share_from (get_or share_table (table_place s r) 0) (get_or share_table (table_place s r + 1) 0) ≡ share_parts s r
unfolding share_table
parts_in s r g =
    let k = radii * number_of s + r in
    let inside : k < table_rows = omega (arith, number_le s) in
    let row : parts_at (0 + k) ≡ share_parts s r = ap parts_at (omega arith) ∙ parts_at_lem s r g in
    rw (each_in parts_at 0 table_rows k inside, rest_in parts_at 0 table_rows k inside, row)

-- what it holds for a shape and a radius is share and remainder
pub table_share_lem : TableFact
table_share_lem s r =
    by_lt r radii
    (λ g. share_there share_table s r g ∙ parts_in s r g)
    (λ g. share_nowhere share_table s r g ∙ sym (parts_above s r (omega (arith, top_small s))))
