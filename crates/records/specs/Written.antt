-- Text written on into a lent slice.
use Rattle.std.specs.Prelude.{◌≡◌, List, ◌∷◌, ◌++◌, ℕ, ◌+◌, ◌≤◌, length}
use Rattle.records_model.specs.Text.{slash, decimal, with_text}
use Rattle.records.specs.declared.text.Writer.{Writer}

-- there is room for n bytes more
abbrev pub HasRoom : ℕ → Writer → Type 0
HasRoom n w = w.at + n ≤ length w.out.now

-- a text that fits is written on: into the same slice, after what stands there already
pub record Writes (w : Writer) (t : List ℕ) (after : Writer) : Type 0 where
  pub same_slice : after.out.ghost_name ≡ w.out.ghost_name
  pub room : w.at + length t ≤ length w.out.now
  pub slice_is : after.out.now ≡ with_text w.out.now w.at t
  pub at_is : after.at ≡ w.at + length t

-- and it is at most n bytes long
pub record WritesIn (n : ℕ) (w : Writer) (t : List ℕ) (after : Writer) : Type 0 where
  pub wrote : Writes w t after
  pub short : length t ≤ n

-- the text of a cell
abbrev pub cell_of : ℕ → ℕ → List ℕ
cell_of value matte = decimal value ++ (slash ∷ decimal matte)
