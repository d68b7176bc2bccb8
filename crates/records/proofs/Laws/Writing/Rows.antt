-- Laws of a show's text: a row by one cell more, and the rows by one row more.
use Rattle.std.proofs.Common.{◌≡◌, ◌∙◌, refl, ap, sym, List, [], ◌∷◌, ◌++◌, ℕ, zero, suc, ◌+◌, ◌*◌, ◌≤◌, ◌<◌, length, take, drop, get_or, arith}
use Rattle.std.proofs.Common.{add-one, add-zero, zero-add, append_assoc, length-append, length-drop, drop-cons}
use Rattle.std.proofs.lemmas.List.{get_or-take, get_or-drop}
use lib.ListN.{get_or-append}
use lib.Seq.{length-take-le, drop_at, drop-drop}
use native.Mathlib.Nat.{mul_comm}
use Rattle.kernels_model.proofs.Numbers.Choices.{by_lt}
use Rattle.kernels_model.proofs.Numbers.Products.{product_le}
use Rattle.records_model.specs.Text.{space, newline, cell_text, row_text, rows_text}
use Rattle.records.specs.declared.text.Writer.{Writer}
use Rattle.records.specs.Written.{Writes, WritesIn, cell_of}
use Rattle.records.specs.Room.{cell_room, row_room, rows_room}
use Rattle.records.proofs.Laws.Writing.Slices.{whole_in, both_in}

-- the next element of what is left, and what is left after it
pub record NextOf (xs : List ℕ) (n x : ℕ) (rest : List ℕ) : Type 0 where
  pub within : n < length xs
  pub item_is : x ≡ get_or xs n 0
  pub rest_is : rest ≡ drop (n + 1) xs

pub next_of : (xs : List ℕ) (n x : ℕ) (rest left : List ℕ) → left ≡ drop n xs → left ≡ x ∷ rest → NextOf xs n x rest
next_of xs n x rest left e h =
    let within : n < length xs = omega (arith, length-drop n xs, ap length e, ap length h) in
    let next = drop-cons xs n 0 within in
    record { within = within; item_is = cc; rest_is = rw (add-one n) cc }

row_more : (values mattes : List ℕ) (n : ℕ) → 0 < n
    → row_text values mattes 0 (n + 1) ≡ row_text values mattes 0 n ++ (space ∷ cell_of (get_or values n 0) (get_or mattes n 0))
unfolding row_text cell_text
row_more values mattes zero h = absurd (omega arith)
row_more values mattes (suc n) h = rw (add-one (suc n), zero-add (suc n))

pub row_begins : {w u v : Writer} {value matte : ℕ} (values mattes : List ℕ) (n : ℕ) → n ≡ 0 → value ≡ get_or values n 0
    → matte ≡ get_or mattes n 0 → WritesIn (row_room n) w (row_text values mattes 0 n) u → WritesIn cell_room u (cell_of value matte) v
    → WritesIn (row_room (n + 1)) w (row_text values mattes 0 (n + 1)) v
unfolding row_text cell_text
row_begins values mattes zero none e f before cell =
    let here = rw (e, f) at cell in both_in before here (omega arith)
row_begins values mattes (suc n) none e f before cell = absurd (omega arith)

pub row_goes_on : {w u s v : Writer} {value matte : ℕ} (values mattes : List ℕ) (n : ℕ) → 0 < n → value ≡ get_or values n 0
    → matte ≡ get_or mattes n 0 → WritesIn (row_room n) w (row_text values mattes 0 n) u → Writes u (space ∷ []) s
    → WritesIn cell_room s (cell_of value matte) v → WritesIn (row_room (n + 1)) w (row_text values mattes 0 (n + 1)) v
row_goes_on values mattes n some e f before gap cell =
    let here = rw (e, f) at cell in
    rw (row_more values mattes n some) (both_in before (both_in {k = cell_room + 1} (whole_in gap) here (omega arith)) (omega arith))

pub rows_more : (values mattes : List ℕ) (w y : ℕ)
    → rows_text values mattes w (y + 1) ≡ rows_text values mattes w y ++ row_text values mattes (y * w) w ++ (newline ∷ [])
unfolding rows_text
rows_more values mattes w y = rw (add-one y)

-- A ROW OF A SHOW: the next w of the first p elements, and what is left after them
pub record PartOf (xs : List ℕ) (p n w : ℕ) (x rest : List ℕ) : Type 0 where
  pub within : n * w + w ≤ p
  pub item_is : (k : ℕ) → k < w → get_or x k 0 ≡ get_or xs (n * w + k) 0
  pub rest_is : rest ≡ drop ((n + 1) * w) (take p xs)

pub part_of : (xs : List ℕ) (p n w : ℕ) (x rest left : List ℕ) → p ≤ length xs → 0 < w → left ≡ drop (n * w) (take p xs)
    → left ≡ x ++ rest → length x ≡ w → PartOf xs p n w x rest
part_of xs p n w x rest left long some e h same =
    let front = length-take-le p xs long in
    let within : n * w + w ≤ p =
    omega (arith, length-drop (n * w) (take p xs), length-append x rest, ap length e, ap length h, front) in
    let one : n * w + w ≡ (n + 1) * w = omega arith in
    record {
      within = within;
      item_is = λ k small.
          sym (get_or-append x rest 0 k (omega arith))
          ∙ ap (λ (t : List ℕ). get_or t k 0) (sym h ∙ e)
          ∙ get_or-drop (n * w) (take p xs) k 0
          ∙ get_or-take p xs (n * w + k) 0 (omega arith);
      rest_is =
          sym (drop_at x rest w same)
          ∙ ap (drop w) (sym h ∙ e)
          ∙ drop-drop w (n * w) (take p xs)
          ∙ ap (λ (i : ℕ). drop i (take p xs)) one;
    }

-- a row is of its cells alone
row_part : (values mattes x y : List ℕ) (i w : ℕ) → ((k : ℕ) → k < w → get_or x k 0 ≡ get_or values (i + k) 0)
    → ((k : ℕ) → k < w → get_or y k 0 ≡ get_or mattes (i + k) 0) → row_text x y 0 w ≡ row_text values mattes i w
unfolding row_text cell_text
row_part values mattes x y i zero p q = refl
row_part values mattes x y i (suc zero) p q =
    let value : get_or x 0 0 ≡ get_or values i 0 = p 0 (omega arith) ∙ ap (λ (k : ℕ). get_or values k 0) (add-zero i) in
    let matte : get_or y 0 0 ≡ get_or mattes i 0 = q 0 (omega arith) ∙ ap (λ (k : ℕ). get_or mattes k 0) (add-zero i) in
    rw (value, matte)
row_part values mattes x y i (suc (suc n)) p q =
    rw (
      row_part values mattes x y i (suc n) (λ k h. p k (omega arith)) (λ k h. q k (omega arith)),
      zero-add (suc n),
      p (suc n) (omega arith),
      q (suc n) (omega arith),
    )

pub rows_fit : (w n h : ℕ) → n < h → rows_room w n + row_room w + 1 ≤ rows_room w h
rows_fit w n h less =
    let long = row_room w + 1 in omega (arith, product_le long (n + 1) long h (omega arith) (omega arith))

pub row_left : (w n h : ℕ) → n * w + w ≤ w * h → 0 < w → n < h
row_left w n h fits some =
    by_lt n h (λ less. less) (λ more. absurd (omega (arith, product_le h w n w more (omega arith), mul_comm w h)))

pub rows_go_on : {a u v s : Writer} (head x y values mattes : List ℕ) (k w n : ℕ) → length x ≡ w
    → ((k : ℕ) → k < w → get_or x k 0 ≡ get_or values (n * w + k) 0)
    → ((k : ℕ) → k < w → get_or y k 0 ≡ get_or mattes (n * w + k) 0)
    → WritesIn (k + rows_room w n) a (head ++ rows_text values mattes w n) u
    → WritesIn (row_room (length x)) u (row_text x y 0 (length x)) v → Writes v (newline ∷ []) s
    → WritesIn (k + rows_room w (n + 1)) a (head ++ rows_text values mattes w (n + 1)) s
rows_go_on head x y values mattes k w n same p q before row end =
    let here = rw (same, row_part values mattes x y (n * w) w p q) at row in
    let so_far = rows_text values mattes w n in
    let next = row_text values mattes (n * w) w in
    rw (
      rows_more values mattes w n,
      ← append_assoc head (so_far ++ next) (newline ∷ []),
      ← append_assoc head so_far next,
    )
    (both_in (both_in {k = k + rows_room w n + row_room w} before here (omega arith)) (whole_in end) (omega arith))
