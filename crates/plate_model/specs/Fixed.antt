-- The plate's numbers of the paper that stand in more than one place, each named once. The code's names for them are in
-- src/fixed.rt.
use Rattle.std.specs.Prelude.{ℕ, ◌*◌}
use Rattle.kernels_model.specs.Fixed.{planes_each, margin}

-- "There are 14 planes": light's, then matte's
abbrev pub planes_in_all : ℕ
planes_in_all = 2 * planes_each

-- what the two margins add to a side of a padded plane: "(W + 2R + 6) × (H + 2R + 6)"
abbrev pub border : ℕ
border = 2 * margin

-- "scratch 3 × P"
abbrev pub scratch_planes : ℕ
scratch_planes = 3

-- "W and H from 1 to 4,096, W × H at most 2,097,152 .., R from 0 to 64"
abbrev pub side_top : ℕ
side_top = 4096

abbrev pub places_top : ℕ
places_top = 2097152

abbrev pub reach_top : ℕ
reach_top = 64

-- "log 0 to 65,535 entries"
abbrev pub log_top : ℕ
log_top = 65535

-- the bits of a pixel's word: "radius in 24 to 31, zeros above"; a log entry has the place above them
abbrev pub word_bits : ℕ
word_bits = 32
