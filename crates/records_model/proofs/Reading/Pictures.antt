-- A show's text looks at no more of values and mattes than its cells.
use mathlib.Core.Path.{◌≡◌, refl}
use mathlib.Core.List.{List, ◌++◌}
use Prim.Native.Nat.{ℕ, zero, suc, ◌+◌, ◌*◌, ◌≤◌, ◌<◌}
use native.Mathlib.Omega.{arith}
use lib.ListN.{length, get_or-append}
use Rattle.records_model.specs.Text.{cell_text, row_text, rows_text, show_text}

module _ (values mattes more rest : List ℕ) where
  cell_front : (i : ℕ) → i < length values → i < length mattes
      → cell_text (values ++ more) (mattes ++ rest) i ≡ cell_text values mattes i
  unfolding cell_text
  cell_front i p q =
      let value = get_or-append values more 0 i p in
      let matte = get_or-append mattes rest 0 i q in
      cc

  row_front : (i n : ℕ) → i + n ≤ length values → i + n ≤ length mattes
      → row_text (values ++ more) (mattes ++ rest) i n ≡ row_text values mattes i n
  unfolding row_text
  row_front i zero p q = refl
  row_front i (suc zero) p q = cell_front i (omega arith) (omega arith)
  row_front i (suc (suc n)) p q =
      rw (row_front i (suc n) (omega arith) (omega arith), cell_front (i + suc n) (omega arith) (omega arith))

  rows_front : (w h : ℕ) → h * w ≤ length values → h * w ≤ length mattes
      → rows_text (values ++ more) (mattes ++ rest) w h ≡ rows_text values mattes w h
  unfolding rows_text
  rows_front w zero p q = refl
  rows_front w (suc h) p q =
      rw (rows_front w h (omega arith) (omega arith), row_front (h * w) w (omega arith) (omega arith))

  pub show_front : (w h : ℕ) → h * w ≤ length values → h * w ≤ length mattes
      → show_text w h (values ++ more) (mattes ++ rest) ≡ show_text w h values mattes
  unfolding show_text
  show_front w h p q = rw (rows_front w h p q)
