-- What one pixel in the place of another leaves: what a put and an undo have in common.
use Rattle.std.specs.Prelude.{◌≡◌, ℕ, ◌+◌, List, slice_set}
use Rattle.plate_model.specs.declared.size.Size.{Size}
use Rattle.plate_model.specs.Word.{word_of}
use Rattle.plate_model.specs.Kernel.{mark_count}
use Rattle.plate_model.specs.declared.change.Change.{Change}
use Rattle.plate_model.specs.Marks.{exchanged}

-- the marks that a change moves, and what it leaves of planes and pixels
pub record Changed (z : Size) (c : Change) (planes pixels : List ℕ) (marks : ℕ) (planes' pixels' : List ℕ) : Type 0 where
  pub marks_are : marks ≡ mark_count c.old + mark_count c.new
  pub planes_are : planes' ≡ exchanged z c.place c.old c.new planes
  pub pixels_are : pixels' ≡ slice_set pixels c.place (word_of c.new)
