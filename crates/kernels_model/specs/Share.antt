-- The table of shares and remainders, and those of a kernel as the code hands them out.
use Rattle.std.specs.Prelude.{List, [], ◌∷◌, ℕ, zero, suc, ◌+◌, ◌*◌, ◌/◌, ◌%◌, ltb, get_or, Option, Some, None}
use Rattle.kernels_model.specs.Fixed.{radii, table_rows, table_columns}
use Rattle.kernels_model.specs.Choice.{pick, within}
use Rattle.kernels_model.specs.Shape.{Shape, number_of, shape_of, top_of}
use Rattle.kernels_model.specs.Tap.{share, rest}
pub use Rattle.kernels_model.specs.declared.share.Share.{Share}

-- "0 above the top"
unfoldable pub share_up_to : Shape → ℕ → ℕ
share_up_to s r = within r (top_of s) (share s r)

unfoldable pub rest_up_to : Shape → ℕ → ℕ
rest_up_to s r = within r (top_of s) (rest s r)

-- what a pixel of opacity 1 adds for each tap, and at the centre besides
abbrev pub share_from : ℕ → ℕ → Share
share_from each rest = record { each = each; rest = rest }

abbrev pub share_parts : Shape → ℕ → Share
share_parts s r = share_from (share_up_to s r) (rest_up_to s r)

-- "The shares for all six shapes and every radius stand in one table", "the remainder as a second column": shape by shape, each
-- radius by radius
abbrev pub parts_of : Option Shape → ℕ → Share
parts_of (Some s) r = share_parts s r
parts_of None r = share_from 0 0

-- share and remainder of row k
unfoldable pub parts_at : ℕ → Share
parts_at k = parts_of (shape_of (k / radii)) (k % radii)

-- the numbers of n rows, one after the other: share and remainder of f k, of f (k + 1), ..
unfoldable pub rows_from : (ℕ → Share) → ℕ → ℕ → List ℕ
rows_from f k zero = []
rows_from f k (suc n) = (f k).each ∷ (f k).rest ∷ rows_from f (suc k) n

-- "one table of 390 entries, 0 above the top"
unfoldable pub share_table : List ℕ
share_table = rows_from parts_at 0 table_rows

-- where a table has the share of a shape and a radius; the remainder is next to it
abbrev pub table_place : Shape → ℕ → ℕ
table_place s r = table_columns * (radii * number_of s + r)

-- what a table holds for a shape and a radius; it has no place for a radius past its radii
unfoldable pub table_share : List ℕ → Shape → ℕ → Share
table_share table s r =
    pick (ltb r radii) (share_from (get_or table (table_place s r) 0) (get_or table (table_place s r + 1) 0)) (share_from 0 0)
