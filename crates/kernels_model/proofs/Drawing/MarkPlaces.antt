-- The marks of a kernel are as many as the table says, lie within its reach and the margin of its centre, and move with it.
use mathlib.Core.Path.{◌≡◌, refl, ap, ◌∙◌}
use mathlib.Core.List.{List, [], ◌∷◌, ◌++◌}
use Prim.Native.Nat.{ℕ, zero, suc, ◌+◌, ◌*◌, ◌-◌, ◌≤◌, ◌<◌}
use native.Mathlib.Omega.{arith}
use native.Mathlib.Nat.{mul-le-mul_right}
use lib.ListN.{length, length-append}
use Rattle.kernels_model.specs.Fixed.{centre_count, planes_each, level, second_box, third_box, margin}
use Rattle.kernels_model.specs.Shape.{Shape, Box, Tent, Triple, Diamond, Hexagon, Octagon, reach_of, tap_count}
use Rattle.kernels_model.specs.Tap.{half, share, rest}
use Rattle.kernels_model.specs.Mark.{Mark, mark, minus, sign, choose, Run, run_row, line_marks, flipped, outline_marks}
use Rattle.kernels_model.specs.Mark.{marks_to, box_grid, box_marks, two_runs, diamond_marks, hexagon_marks, octagon_marks}
use Rattle.kernels_model.specs.Mark.{tap_marks, scaled, centre_marks, marks}
use Rattle.kernels_model.specs.Facts.{Inside, CountFact, Each, Near, NearFact}
use Rattle.kernels_model.proofs.Marking.MarkLists.{each_append, each_one, each_to}
use Rattle.kernels_model.proofs.Marking.Kernel.{Walks, diamond_walks, hexagon_walks, octagon_walks}
use Rattle.kernels_model.specs.Drawing.{moved}

-- AS MANY AS THE TABLE SAYS
tap-marks_count : (s : Shape) (r X Y : ℕ) → length (tap_marks s r X Y) ≡ tap_count s
unfolding tap_marks box_marks box_grid marks_to diamond_marks hexagon_marks octagon_marks outline_marks line_marks flipped
tap-marks_count s r X Y = grind arith

scaled-length : (c : ℕ) (ms : List Mark) → length (scaled c ms) ≡ length ms
unfolding scaled
scaled-length c [] = refl
scaled-length c (m ∷ ms) = ap suc (scaled-length c ms)

centre_marks_count : (X Y : ℕ) → length (centre_marks X Y) ≡ centre_count
unfolding centre_marks box_marks box_grid marks_to
centre_marks_count X Y = refl

pub marks_count : CountFact
unfolding marks
marks_count s r X Y =
    length-append (scaled (share s r) (tap_marks s r X Y)) (scaled (rest s r) (centre_marks X Y))
    ∙ rw (
      scaled-length (share s r) (tap_marks s r X Y),
      scaled-length (rest s r) (centre_marks X Y),
      tap-marks_count s r X Y,
      centre_marks_count X Y,
    )

-- INSIDE THE MARGIN
scaled_near : (c d X Y : ℕ) (ms : List Mark) → Each (Near d X Y) ms → Each (Near d X Y) (scaled c ms)
unfolding Each scaled
scaled_near c d X Y [] h = tt
scaled_near c d X Y (m ∷ ms) h = (
  record {
    plane_in = h.0.plane_in;
    left_in = h.0.left_in;
    right_in = h.0.right_in;
    top_in = h.0.top_in;
    bottom_in = h.0.bottom_in;
  },
  scaled_near c d X Y ms h.1,
)

boxes_near : (p n r X Y : ℕ) → p < planes_each → n ≤ margin → n * r ≤ X → n * r ≤ Y
    → Each (Near (n * r + margin) X Y) (box_marks p n r X Y)
unfolding box_marks box_grid
boxes_near p n r X Y pl small left up =
    let l = 2 * r + 1 in
    let whole : n * l ≡ 2 * (n * r) + n = omega arith in
    each_to (Near (n * r + margin) X Y) (λ i. marks_to (λ j. grid i j ∷ []) (suc n)) (suc n) (λ i g.
    each_to (Near (n * r + margin) X Y) (λ j. grid i j ∷ []) (suc n) (λ j h.
    let u : i * l ≤ n * l = mul-le-mul_right l (omega arith) in
    let v : j * l ≤ n * l = mul-le-mul_right l (omega arith) in
    each_one (Near (n * r + margin) X Y) (grid i j) (omega arith)))
  where
    grid : ℕ → ℕ → Mark
    grid i j = mark p (X - n * r + i * (2 * r + 1)) (Y - n * r + j * (2 * r + 1)) (sign (i + j) * (choose n i * choose n j))

outline_near : (d r h : ℕ) (top : List Run) (X Y : ℕ) → Each (Near d X Y) (line_marks 1 (minus 1) (X - r) (Y - h) top)
    → Each (Near d X Y) (line_marks (minus 1) 1 (X - r) (Y + h + 1) (flipped top)) → Each (Near d X Y) (outline_marks r h top X Y)
unfolding outline_marks
outline_near d r h top X Y p q = each_append (Near d X Y) _ _ p q

tap-marks_near : (s : Shape) (r X Y : ℕ) → reach_of s r ≤ X → reach_of s r + 1 ≤ Y
    → Each (Near (reach_of s r + margin) X Y) (tap_marks s r X Y)
unfolding tap_marks diamond_marks hexagon_marks octagon_marks line_marks flipped Each
tap-marks_near Box r X Y p q = boxes_near level 1 r X Y (omega arith) (omega arith) p (omega arith)
tap-marks_near Tent r X Y p q = boxes_near second_box 2 r X Y (omega arith) (omega arith) p (omega arith)
tap-marks_near Triple r X Y p q = boxes_near third_box 3 r X Y (omega arith) (omega arith) p (omega arith)
tap-marks_near Diamond r X Y p q = outline_near _ r 0 _ X Y (omega arith) (omega arith)
tap-marks_near Hexagon r X Y p q = outline_near _ r 0 _ X Y (omega arith) (omega arith)
tap-marks_near Octagon r X Y p q = outline_near _ r (half r) _ X Y (omega arith) (omega arith)

-- "the image starting at column and row R + 3": a kernel that reaches at most R has its marks within R + margin of its centre
near_more : (d e X Y : ℕ) (ms : List Mark) → d ≤ e → Each (Near d X Y) ms → Each (Near e X Y) ms
unfolding Each
near_more d e X Y [] h n = tt
near_more d e X Y (m ∷ ms) h n = (omega arith, near_more d e X Y ms h n.1)

pub tap-marks-within : (s : Shape) (r R X Y : ℕ) → reach_of s r ≤ R → R + margin ≤ X → R + margin ≤ Y
    → Each (Near (R + margin) X Y) (tap_marks s r X Y)
tap-marks-within s r R X Y h p q =
    near_more (reach_of s r + margin) (R + margin) X Y (tap_marks s r X Y) (omega arith)
    (tap-marks_near s r X Y (omega arith) (omega arith))

-- the centre's marks are those of a box of radius 0
pub marks_near : NearFact
unfolding marks
marks_near s r R X Y h p q =
    each_append (Near (R + margin) X Y) _ _
    (scaled_near (share s r) (R + margin) X Y (tap_marks s r X Y) (tap-marks-within s r R X Y h p q))
    (scaled_near (rest s r) (R + margin) X Y (centre_marks X Y)
    (unfold centre_marks tap_marks in (tap-marks-within Box 0 R X Y (omega arith) p q)))

-- THEY MOVE WITH THE CENTRE
moved_append : (a b : ℕ) (ms ns : List Mark) → moved a b (ms ++ ns) ≡ moved a b ms ++ moved a b ns
unfolding moved
moved_append a b [] ns = refl
moved_append a b (m ∷ ms) ns = rw (moved_append a b ms ns)

moved_to : (a b : ℕ) (f g : ℕ → List Mark) (n : ℕ) → ((i : ℕ) → g i ≡ moved a b (f i)) → marks_to g n ≡ moved a b (marks_to f n)
unfolding marks_to
moved_to a b f g zero h = unfold moved in refl
moved_to a b f g (suc n) h = rw (moved_to a b f g n h, h n, moved_append)

mark-moved : (a b p x c y d w : ℕ) → mark p (x + a + c) (y + b + d) w ∷ [] ≡ moved a b (mark p (x + c) (y + d) w ∷ [])
unfolding moved
mark-moved a b p x c y d w = grind arith

grid_moved : (a b p n l x y : ℕ) → box_grid p n l (x + a) (y + b) ≡ moved a b (box_grid p n l x y)
unfolding box_grid
grid_moved a b p n l x y =
    moved_to a b _ _ (suc n) (λ i. moved_to a b _ _ (suc n) (λ j.
    mark-moved a b p x (i * l) y (j * l) (sign (i + j) * (choose n i * choose n j))))

line_moved : (a b p q x y : ℕ) (runs : List Run) → Inside runs y
    → line_marks p q (x + a) (y + b) runs ≡ moved a b (line_marks p q x y runs)
unfolding line_marks moved Inside
line_moved a b p q x y [] w = refl
line_moved a b p q x y (s ∷ rest) w =
    let g = w.0 in
    let e : x + a + s.columns ≡ x + s.columns + a = omega arith in
    let f : run_row s (y + b) s.columns ≡ run_row s y s.columns + b = omega arith in
    rw (e, f, line_moved a b p q (x + s.columns) (run_row s y s.columns) rest w.1)

outline_moved : (a b r h : ℕ) (top : List Run) (X Y : ℕ) → r ≤ X → h ≤ Y → Walks h top Y
    → outline_marks r h top (X + a) (Y + b) ≡ moved a b (outline_marks r h top X Y)
unfolding outline_marks
outline_moved a b r h top X Y p q w =
    let e : X + a - r ≡ X - r + a = omega arith in
    let f : Y + b - h ≡ Y - h + b = omega arith in
    let g : Y + b + h + 1 ≡ Y + h + 1 + b = omega arith in
    rw (
      e,
      f,
      g,
      moved_append,
      line_moved a b 1 (minus 1) (X - r) (Y - h) top w.0,
      line_moved a b (minus 1) 1 (X - r) (Y + h + 1) (flipped top) w.1,
    )

boxes_moved : (a b p n r X Y : ℕ) → n * r ≤ X → n * r ≤ Y → box_marks p n r (X + a) (Y + b) ≡ moved a b (box_marks p n r X Y)
unfolding box_marks
boxes_moved a b p n r X Y h g =
    let e : X + a - n * r ≡ X - n * r + a = omega arith in
    let f : Y + b - n * r ≡ Y - n * r + b = omega arith in
    rw (e, f) (grid_moved a b p n (2 * r + 1) (X - n * r) (Y - n * r))

pub tap-marks-moved : (a b : ℕ) (s : Shape) (r X Y : ℕ) → reach_of s r ≤ X → reach_of s r + 1 ≤ Y
    → tap_marks s r (X + a) (Y + b) ≡ moved a b (tap_marks s r X Y)
unfolding tap_marks diamond_marks hexagon_marks octagon_marks
tap-marks-moved a b Box r X Y p q = boxes_moved a b level 1 r X Y p (omega arith)
tap-marks-moved a b Tent r X Y p q = boxes_moved a b second_box 2 r X Y p (omega arith)
tap-marks-moved a b Triple r X Y p q = boxes_moved a b third_box 3 r X Y p (omega arith)
tap-marks-moved a b Diamond r X Y p q =
    outline_moved a b r 0 (two_runs r) X Y (omega arith) (omega arith) (diamond_walks r Y (omega arith))
tap-marks-moved a b Hexagon r X Y p q =
    outline_moved a b r 0 _ X Y (omega arith) (omega arith) (hexagon_walks r (half r) Y (omega arith) (omega arith))
tap-marks-moved a b Octagon r X Y p q =
    outline_moved a b r (half r) _ X Y (omega arith) (omega arith) (octagon_walks r (half r) Y (omega arith) (omega arith))
