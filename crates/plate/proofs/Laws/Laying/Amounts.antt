-- Laws of worths, of the marks of a drawing laid one after the other, and of the pieces of a line and the columns of a grid.
use Rattle.std.proofs.Common.{◌≡◌, ℕ, zero, suc, ◌+◌, ◌-◌, ◌*◌, ◌%◌, ◌^◌, ◌<◌, ◌≤◌, ◌≢◌, ◌⊎◌, inl, inr, Bool, true, false, List, [], ◌∷◌, ◌++◌, sym, refl, ap, subst, ◌∙◌, mul_assoc, add-one, arith}
use Rattle.kernels_model.specs.Choice.{pick}
use native.Mathlib.Nat.{mod-mod}
use Rattle.kernels_model.specs.Fixed.{planes_each, margin, level}
use Rattle.kernels_model.specs.Mark.{Mark, mark, minus, sign, choose, marks_to, box_grid}
use Rattle.kernels_model.specs.declared.mark.Outline.{Outline}
use Rattle.kernels_model.specs.declared.mark.Line.{Line}
use Rattle.kernels_model.specs.declared.mark.Boxes.{Boxes}
use Rattle.kernels_model.specs.declared.mark.Drawing.{Drawing}
use Rattle.kernels_model.specs.declared.mark.Drawing.TheVariants.{Grid, Lines}
use Rattle.kernels_model.specs.Drawing.{piece_marks, line_pieces, drawn_marks}
use Rattle.kernels_model.proofs.Numbers.Choices.{by_lt}
use Rattle.kernels_model.proofs.Numbers.Products.{product_le}
use Rattle.kernels_model.proofs.Sums.FiniteSums.{cong_mul}
use Rattle.plate.specs.Laying.{level_marks, Amounts, times, Opposite, Origin, spot, lay_amounts, lay_drawn, factor}
use Rattle.plate.specs.Laying.{grid_column, AllIn, ColumnIn, FewBoxes}
use Rattle.plate.specs.declared.lay.Board.{Board}
use Rattle.plate.specs.Board.{origin, Laid}

-- WORTHS
-- c times a worth
pub times-one : (w : Amounts) → w.light < 2 ^ 64 → w.matte < 2 ^ 64 → w ≡ times w 1
times-one w h k =
    let e : (w.light * 1) % 2 ^ 64 ≡ w.light = omega arith in
    let f : (w.matte * 1) % 2 ^ 64 ≡ w.matte = omega arith in
    rw (e, f)

-- a product may wrap on the way
pub times_number : (a c d : ℕ) → (a * c) % 2 ^ 64 * d % 2 ^ 64 ≡ (a * (c * d)) % 2 ^ 64
times_number a c d =
    cong_mul (2 ^ 64) ((a * c) % 2 ^ 64) (a * c) d d (mod-mod (a * c) (2 ^ 64)) refl
    ∙ ap (λ (n : ℕ). n % 2 ^ 64) (mul_assoc a c d)

pub times-times : (w v : Amounts) (c d : ℕ) → v ≡ times w c → times v d ≡ times w (c * d)
times-times w v c d e = rw (e, times_number w.light c d, times_number w.matte c d)

-- and so may a factor
times-wrapped : (w : Amounts) (c : ℕ) → times w (c % 2 ^ 64) ≡ times w c
times-wrapped w c = rw (number w.light, number w.matte)
  where
    number : (a : ℕ) → (a * (c % 2 ^ 64)) % 2 ^ 64 ≡ (a * c) % 2 ^ 64
    number a = cong_mul (2 ^ 64) a a (c % 2 ^ 64) c refl (mod-mod c (2 ^ 64))

-- the opposite of the opposite
minus-minus : (w : Amounts) → times w (minus 1 * minus 1) ≡ times w 1
unfolding minus
minus-minus w = rw (number w.light, number w.matte)
  where
    number : (a : ℕ) → (a * ((2 ^ 64 - 1) * 1 * ((2 ^ 64 - 1) * 1))) % 2 ^ 64 ≡ (a * 1) % 2 ^ 64
    number a = omega arith

-- a worth laid along the top, and its opposite along the bottom
pub plus_minus : (w : Amounts) → w.light < 2 ^ 64 → w.matte < 2 ^ 64 → Opposite w 1 (minus 1) w
plus_minus w h k = record { start_is = times-one w h k; end_is = refl }

pub minus_plus : (w v : Amounts) → v ≡ times w (minus 1) → Opposite w (minus 1) 1 v
minus_plus w v e = record { start_is = e; end_is = times-times w v (minus 1) (minus 1) e ∙ minus-minus w }

-- DRAWINGS
-- one list of marks after another
pub drawn_append : (g : Origin) (w : Amounts) (cells : List ℕ) (ms ns : List Mark)
    → lay_drawn g w cells (ms ++ ns) ≡ lay_drawn g w (lay_drawn g w cells ms) ns
unfolding lay_drawn
drawn_append g w cells [] ns = refl
drawn_append g w cells (m ∷ ms) ns =
    drawn_append g w (lay_amounts g cells m.plane m.column m.row (times w m.coefficient)) ms ns

-- BOARDS
-- nothing laid, one mark, and one list laid after another
pub laid_none : (b : Board) (w : Amounts) → Laid b b w []
unfolding lay_drawn
laid_none b w = record { planes_stay = refl; origin_stays = refl; cells_are = refl }

pub laid_one : (a b : Board) (v w : Amounts) (c p x y : ℕ) → w ≡ times v c → b.cells.ghost_name ≡ a.cells.ghost_name
    → origin b ≡ origin a
    → b.cells.now ≡ lay_amounts (origin a) a.cells.now p x y w
    → Laid a b v (mark p x y c ∷ [])
unfolding lay_drawn
laid_one a b v w c p x y e planes same laid =
    record { planes_stay = planes; origin_stays = same; cells_are = laid ∙ ap (lay_amounts (origin a) a.cells.now p x y) e }

pub laid_both : (a b c : Board) (w : Amounts) (ms ns : List Mark) → Laid a b w ms → Laid b c w ns → Laid a c w (ms ++ ns)
laid_both a b c w ms ns h k =
    record {
      planes_stay = k.planes_stay ∙ h.planes_stay;
      origin_stays = k.origin_stays ∙ h.origin_stays;
      cells_are = k.cells_are
          ∙ ap (λ (g : Origin). lay_drawn g w b.cells.now ns) h.origin_stays
          ∙ ap (λ (cells : List ℕ). lay_drawn (origin a) w cells ns) h.cells_are
          ∙ sym (drawn_append (origin a) w a.cells.now ms ns);
    }

-- what lies in the planes of one board lies in those of the other
pub in_after : (g h : Origin) (ms : List Mark) → h ≡ g → AllIn g ms → AllIn h ms
in_after g h ms e k = let P : Origin → Type 0 = λ o. AllIn o ms in subst P (sym e) k

pub spot_after : (g h : Origin) (p x y : ℕ) → h ≡ g → spot g p x y < planes_each * g.padded
    → spot h p x y < planes_each * h.padded
spot_after g h p x y e k = let P : Origin → Type 0 = λ o. spot o p x y < planes_each * o.padded in subst P (sym e) k

pub column_after : (g h : Origin) (p n l x : ℕ) → h ≡ g → ColumnIn g p n l x → ColumnIn h p n l x
column_after g h p n l x e k = let P : Origin → Type 0 = λ o. ColumnIn o p n l x in subst P (sym e) k

-- PLACES OF MARKS
inside_append : (g : Origin) (ms ns : List Mark) → AllIn g (ms ++ ns) → AllIn g ms × AllIn g ns
unfolding AllIn
inside_append g [] ns h = (tt, h)
inside_append g (m ∷ ms) ns h = let q = inside_append g ms ns h.1 in ((h.0, q.0), q.1)

inside_both : (g : Origin) (ms ns : List Mark) → AllIn g ms → AllIn g ns → AllIn g (ms ++ ns)
unfolding AllIn
inside_both g [] ns a b = b
inside_both g (m ∷ ms) ns a b = (a.0, inside_both g ms ns a.1 b)

inside_to : (g : Origin) (f : ℕ → List Mark) (n i : ℕ) → i < n → AllIn g (marks_to f n) → AllIn g (f i)
unfolding marks_to
inside_to g f zero i l h = absurd (omega arith)
inside_to g f (suc n) i l h =
    let q = inside_append g (marks_to f n) (f n) h in
    by_lt i n (λ p. inside_to g f n i p q.0) (λ p. let e : i ≡ n = omega arith in rw e q.1)

-- whether a line lies inside does not hang on its coefficients
level_alike : (g : Origin) (flat : Bool) (x y u v a b : ℕ) → AllIn g (pick flat (piece_marks level x y u v a b) [])
    → AllIn g (pick flat (piece_marks level x y u v 1 1) [])
unfolding AllIn
level_alike g true x y u v a b h = h
level_alike g false x y u v a b h = h

line_alike : (g : Origin) (p q : ℕ) (o : Outline) (l : Line) (a b : ℕ) → AllIn g (line_pieces p q a b o l)
    → AllIn g (line_pieces p q 1 1 o l)
unfolding line_pieces AllIn
line_alike g p q o l a b h =
    let one = piece_marks p o.left l.edge o.turn l.level a b in
    let two = pick o.flat (piece_marks level o.turn l.level o.back l.level a b) [] in
    let three = piece_marks q o.back l.level o.right l.past a b in
    let i = inside_append g one (two ++ three) h in
    let j = inside_append g two three i.1 in
    let flat = pick o.flat (piece_marks level o.turn l.level o.back l.level 1 1) [] in
    let last = piece_marks q o.back l.level o.right l.past 1 1 in
    inside_both g (piece_marks p o.left l.edge o.turn l.level 1 1) (flat ++ last) i.0
    (inside_both g flat last (level_alike g o.flat o.turn l.level o.back l.level a b j.0) j.1)

-- the pieces of a line inside
pub record LineIn (g : Origin) (p q : ℕ) (o : Outline) (l : Line) : Type 0 where
  pub first : AllIn g (piece_marks p o.left l.edge o.turn l.level 1 1)
  pub middle : AllIn g (level_marks 1 1 o l)
  pub last : AllIn g (piece_marks q o.back l.level o.right l.past 1 1)

pub line_in : (g : Origin) (p q : ℕ) (o : Outline) (l : Line) → AllIn g (line_pieces p q 1 1 o l) → LineIn g p q o l
unfolding line_pieces level_marks
line_in g p q o l h =
    let one = piece_marks p o.left l.edge o.turn l.level 1 1 in
    let two = level_marks 1 1 o l in
    let three = piece_marks q o.back l.level o.right l.past 1 1 in
    let a = inside_append g one (two ++ three) h in
    let b = inside_append g two three a.1 in
    record { first = a.0; middle = b.0; last = b.1 }

pub lines_in : (g : Origin) (o : Outline) → AllIn g (drawn_marks (Lines o))
    → AllIn g (line_pieces o.rising o.falling 1 1 o o.top)
    × AllIn g (line_pieces o.falling o.rising 1 1 o o.bottom)
unfolding drawn_marks
lines_in g o h =
    let q = inside_append g (line_pieces o.rising o.falling 1 (minus 1) o o.top) _ h in (
      line_alike g o.rising o.falling o o.top 1 (minus 1) q.0,
      line_alike g o.falling o.rising o o.bottom (minus 1) 1 q.1,
    )

-- GRIDS OF BOXES
-- n over i, for up to three boxes
choose-all : (n : ℕ) → n ≤ 3 → 1 ≡ choose n n
unfolding choose
choose-all zero h = refl
choose-all (suc zero) h = refl
choose-all (suc (suc zero)) h = refl
choose-all (suc (suc (suc zero))) h = refl
choose-all (suc (suc (suc (suc n)))) h = absurd (omega arith)

pub choose-end : (n i : ℕ) → n ≤ 3 → (i ≡ 0) ⊎ ((i ≢ 0) × (i ≡ n)) → 1 ≡ choose n i
choose-end n i h (inl e) = rw e (unfold choose in refl)
choose-end n i h (inr e) = rw e.1 (choose-all n h)

pub choose-between : (n i : ℕ) → n ≤ 3 → i ≤ n → (i ≢ 0) × (i ≢ n) → n ≡ choose n i
unfolding choose
choose-between n zero h k l = absurd (omega arith)
choose-between zero (suc i) h k l = absurd (omega arith)
choose-between (suc zero) (suc i) h k l = absurd (omega arith)
choose-between (suc (suc zero)) (suc zero) h k l = refl
choose-between (suc (suc zero)) (suc (suc i)) h k l = absurd (omega arith)
choose-between (suc (suc (suc zero))) (suc zero) h k l = refl
choose-between (suc (suc (suc zero))) (suc (suc zero)) h k l = refl
choose-between (suc (suc (suc zero))) (suc (suc (suc i))) h k l = absurd (omega arith)
choose-between (suc (suc (suc (suc n)))) (suc i) h k l = absurd (omega arith)

-- the factor of an even mark, and of an odd one
sign-even : (i : ℕ) → i % 2 ≡ 0 → sign i ≡ 1
unfolding sign
sign-even zero h = refl
sign-even (suc zero) h = absurd (omega (arith, h))
sign-even (suc (suc i)) h = sign-even i (omega (arith, h))

sign-odd : (i : ℕ) → i % 2 ≢ 0 → sign i ≡ minus 1
unfolding sign
sign-odd zero h = absurd (h refl)
sign-odd (suc zero) h = refl
sign-odd (suc (suc i)) h = sign-odd i (λ e. h (omega (arith, e)))

pub factor-even : (n i r : ℕ) → i % 2 ≡ 0 → r < 2 ^ 64 → r ≡ choose n i → r ≡ factor n i % 2 ^ 64
factor-even n i r h k e = rw (sign-even i h, ← e) (omega arith)

pub factor-odd : (n i o r : ℕ) → i % 2 ≢ 0 → o ≡ choose n i → r ≡ ((2 ^ 64 - 1) * o) % 2 ^ 64 → r ≡ factor n i % 2 ^ 64
factor-odd n i o r h e z = rw (sign-odd i h, ← e) (unfold minus in z)

-- at 2^64, signs add
sign-next : (j : ℕ) → sign (suc j) % 2 ^ 64 ≡ (sign 1 * sign j) % 2 ^ 64
unfolding sign minus
sign-next zero = refl
sign-next (suc zero) = refl
sign-next (suc (suc j)) = sign-next j

sign-add : (i j : ℕ) → sign (i + j) % 2 ^ 64 ≡ (sign i * sign j) % 2 ^ 64
unfolding sign
sign-add zero j = let e : 0 + j ≡ j = omega arith in rw e (ap (λ (n : ℕ). n % 2 ^ 64) (omega arith))
sign-add (suc zero) j = let e : 1 + j ≡ suc j = omega arith in rw e (sign-next j)
sign-add (suc (suc i)) j = let e : suc (suc i) + j ≡ suc (suc (i + j)) = omega arith in rw e (sign-add i j)

-- a factor on each axis is a factor of the grid
factors : (w : Amounts) (n i j : ℕ) → times w (factor n i * factor n j) ≡ times w (sign (i + j) * (choose n i * choose n j))
factors w n i j = rw (alike w.light, alike w.matte)
  where
    alike : (a : ℕ)
        → (a * (factor n i * factor n j)) % 2 ^ 64 ≡ (a * (sign (i + j) * (choose n i * choose n j))) % 2 ^ 64
    alike a =
        let e : a * (factor n i * factor n j) ≡ (a * (choose n i * choose n j)) * (sign i * sign j) = omega arith in
        let d : a * (sign (i + j) * (choose n i * choose n j)) ≡ (a * (choose n i * choose n j)) * sign (i + j) = omega arith in
        rw (e, d)
        (cong_mul (2 ^ 64) (a * (choose n i * choose n j)) _ (sign i * sign j) (sign (i + j)) refl (sym (sign-add i j)))

-- the mark in row j of a column of a grid of n boxes of l cells; the column is number i, at x
abbrev grid_mark : ℕ → ℕ → ℕ → ℕ → ℕ → ℕ → List Mark
grid_mark p n l x i j = mark p x (margin + j * l) (sign (i + j) * (choose n i * choose n j)) ∷ []

-- a column as the grid has it, and as the code lays it
pub column_drawn : (g : Origin) (w : Amounts) (cells : List ℕ) (p n l x i k : ℕ)
    → lay_drawn g w cells (grid_column p n l x (factor n i) k)
    ≡ lay_drawn g w cells (marks_to (grid_mark p n l x i) k)
unfolding grid_column marks_to lay_drawn
column_drawn g w cells p n l x i zero = refl
column_drawn g w cells p n l x i (suc k) =
    rw (
      drawn_append g w cells (grid_column p n l x (factor n i) k) _,
      drawn_append g w cells (marks_to (grid_mark p n l x i) k) _,
      column_drawn g w cells p n l x i k,
      factors w n i k,
    )

-- one mark more of a column
pub column_more : (a b c : Board) (v w f : Amounts) (p n l x k j d : ℕ) → Laid a b v (grid_column p n l x k j)
    → w ≡ times v k
    → d ≡ factor n j % 2 ^ 64
    → f ≡ times w d
    → ((u : Amounts) (m : ℕ) → f ≡ times u m → Laid b c u (mark p x (margin + j * l) m ∷ []))
    → Laid a c v (grid_column p n l x k (j + 1))
unfolding grid_column marks_to
column_more a b c v w f p n l x k j d h w_is d_is f_is laid =
    rw (add-one j)
    (laid_both a b c v _ _ h
    (laid v (k * factor n j)
    (f_is ∙ ap (times w) d_is ∙ times-wrapped w (factor n j) ∙ times-times v w k (factor n j) w_is)))

-- a grid that lies inside has its columns inside, and no step along it wraps
column_alike : (g : Origin) (p l x : ℕ) (c d : ℕ → ℕ) (k : ℕ)
    → AllIn g (marks_to (λ j. mark p x (margin + j * l) (c j) ∷ []) k)
    → AllIn g (marks_to (λ j. mark p x (margin + j * l) (d j) ∷ []) k)
unfolding marks_to AllIn
column_alike g p l x c d zero h = tt
column_alike g p l x c d (suc k) h =
    let q = inside_append g (marks_to (λ j. mark p x (margin + j * l) (c j) ∷ []) k) _ h in
    inside_both g (marks_to (λ j. mark p x (margin + j * l) (d j) ∷ []) k) _ (column_alike g p l x c d k q.0) q.1

pub columns_in : (g : Origin) (p n l i : ℕ) → i ≤ n → AllIn g (box_grid p n l margin margin)
    → AllIn g (grid_column p n l (margin + i * l) 1 (suc n)) × (margin + n * l < planes_each * g.padded)
unfolding box_grid grid_column
columns_in g p n l i h a =
    let column : ℕ → List Mark = λ i. marks_to (grid_mark p n l (margin + i * l) i) (suc n) in (
      column_alike g p l (margin + i * l) _ _ (suc n) (inside_to g column (suc n) i (omega arith) a),
      first_in (inside_to g column (suc n) n (omega arith) a),
    )
  where
    spot_in : AllIn g (grid_mark p n l (margin + n * l) n 0)
        → margin + n * l < planes_each * g.padded
    spot_in q = unfold AllIn in (omega (arith, q.0))

    first_in : AllIn g (marks_to (grid_mark p n l (margin + n * l) n) (suc n)) → margin + n * l < planes_each * g.padded
    first_in h = spot_in (inside_to g (grid_mark p n l (margin + n * l) n) (suc n) 0 (omega arith) h)

-- a mark of a column inside
pub mark_in : (g : Origin) (p n l x j : ℕ) → j ≤ n → AllIn g (grid_column p n l x 1 (suc n))
    → spot g p x (margin + j * l) < planes_each * g.padded
unfolding grid_column
mark_in g p n l x j h a =
    one_in (inside_to g (λ j. mark p x (margin + j * l) (1 * factor n j) ∷ []) (suc n) j (omega arith) a)
  where
    one_in : AllIn g (mark p x (margin + j * l) (1 * factor n j) ∷ []) → spot g p x (margin + j * l) < planes_each * g.padded
    one_in q = unfold AllIn in q.0

-- a step along a grid does not pass its end
pub step_in : (n l i m : ℕ) → i ≤ n → margin + n * l < m → margin + i * l < m
step_in n l i m h k = omega (arith, product_le i l n l h (omega arith))

-- the first k columns of a grid
unfoldable pub grid_to : (p n l k : ℕ) → List Mark
grid_to p n l k = marks_to (λ i. marks_to (grid_mark p n l (margin + i * l) i) (suc n)) k

-- none, and all
pub grid_none : (b : Board) (w : Amounts) (p n l : ℕ) → Laid b b w (grid_to p n l 0)
unfolding grid_to marks_to
grid_none b w p n l = laid_none b w

pub grid_all : (a b : Board) (w : Amounts) (p n l k : ℕ) → k ≡ n → Laid a b w (grid_to p n l (k + 1))
    → Laid a b w (box_grid p n l margin margin)
unfolding grid_to box_grid
grid_all a b w p n l k e h = rw (e, add-one n) at h

-- one column more
pub grid_more : (a b c : Board) (w f : Amounts) (p n l k d : ℕ) → Laid a b w (grid_to p n l k)
    → d ≡ factor n k % 2 ^ 64
    → f ≡ times w d
    → ((v : Amounts) (m : ℕ) → f ≡ times v m → Laid b c v (grid_column p n l (margin + k * l) m (suc n)))
    → Laid a c w (grid_to p n l (k + 1))
unfolding grid_to marks_to
grid_more a b c w f p n l k d h d_is f_is laid =
    let column = laid w (factor n k) (f_is ∙ ap (times w) d_is ∙ times-wrapped w (factor n k)) in
    rw (add-one k)
    (laid_both a b c w _ _ h
    (record {
      planes_stay = column.planes_stay;
      origin_stays = column.origin_stays;
      cells_are = column.cells_are ∙ column_drawn (origin b) w b.cells.now p n l (margin + k * l) k (suc n);
    }))

-- the grid of a drawing, its number of boxes told
module _ (d : Drawing) (b : Boxes) (k : ℕ) (grid_is : d ≡ Grid b) (count_is : b.count ≡ k) where
  pub grid_in : (g : Origin) → AllIn g (drawn_marks d) × FewBoxes d
      → AllIn g (box_grid b.plane k b.side margin margin) × (k ≤ 3)
  unfolding drawn_marks FewBoxes
  grid_in g h = rw (← count_is) (rw grid_is at h.0, (rw grid_is at h.1).1)

  pub grid_laid : (before after : Board) (w : Amounts)
      → Laid before after w (box_grid b.plane k b.side margin margin)
      → Laid before after w (drawn_marks d)
  unfolding drawn_marks
  grid_laid before after w h = rw (grid_is, count_is) h

-- neither one box nor two
pub three_boxes : (d : Drawing) (b : Boxes) → d ≡ Grid b → FewBoxes d → b.count ≢ 1 → b.count ≢ 2 → b.count ≡ 3
unfolding FewBoxes
three_boxes d b e h k l = let few = rw e at h in omega (arith, few)
