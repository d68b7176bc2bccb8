-- A plate filled pixel by pixel, and what a fill's checks tell.
use Rattle.std.specs.Prelude.{Result, Ok, Err}
use Rattle.std.proofs.Common.{◌≡◌, ℕ, ◌+◌, ◌<◌, ◌≤◌, min, true, List, map, length, get_or, set, sym, refl, ap, ◌∙◌, add-one, arith, get_or-set_other, get_or-set_same, ext_get_or, below_more}
use lib.ListN.{length-map}
use Rattle.kernels_model.specs.Shape.{shape_of, top_under}
use Rattle.kernels_model.specs.declared.lens.Lens.{Lens}
use Rattle.kernels_model.specs.declared.lens.RadiusError.{RadiusError}
use Rattle.kernels_model.specs.Lens.{lawful_lens, blur, radius_answer, radius_answer_for}
use Rattle.kernels_model.proofs.Lenses.ThinLens.{radius_read}
use Rattle.plate_model.specs.Word.{empty, word_of}
use Rattle.plate_model.specs.declared.state.State.{State}
use Rattle.plate_model.specs.declared.lent.LentLengths.{LentLengths}
use Rattle.plate_model.specs.Lent.{state_of, Lent, lengths_of, Inputs}
use Rattle.plate_model.specs.declared.state.Refusal.{Refusal}
use Rattle.plate_model.specs.Refusal.{Outcome}
use Rattle.plate_model.specs.Refusal.{layer_check, fill_check}
use Rattle.plate_model.specs.Asked.{known_shape, filled}
use Rattle.plate_model.specs.Marks.{pixel_marks, lay_all, lay_grid}
use Rattle.kernels_model.specs.Listed.{list_to}
use Rattle.plate_model.specs.Calls.{left, answer_of, refused, fill_by, fill_call}
use Rattle.plate.specs.Filling.{Layer, read_by, layer_read, layer_size, pixel_of, Ready, FilledTo}
use Rattle.plate.specs.Filling.{Refilled, fill_lengths, inputs_read, layer_of}
use Rattle.plate_model.proofs.Checks.Rows.{and_then_lem}
use Rattle.plate_model.proofs.Checks.Accepted.{layer-accepted}
use Rattle.plate.proofs.Laws.Checks.Lengths.{fill_accepted}
use Rattle.plate.proofs.Laws.Checks.Chains.{fill_before}
use Rattle.plate_model.proofs.Numbers.Lists.{length-list_to, get_or_list_to, word_at}
use Rattle.kernels_model.specs.Fixed.{depth_top}

-- ONE PIXEL
-- the radius that a lawful lens gives a lawful depth
pub radius_is : (l : Lens) (top z r : ℕ) (a : Result ℕ RadiusError) → lawful_lens l ≡ true → z ≤ depth_top
    → radius_answer a ≡ radius_answer_for l top z → a ≡ Ok r → r ≡ min top (blur l z)
radius_is l top z r a e h p q =
    let same : Ok r ≡ Ok (min top (blur l z)) = sym q ∙ radius_read a l top z p e h in
    cc

-- the pixel at a place, from what the inputs hold there
pub pixel_at_lem : (j : Layer) (f : Inputs) (i r : ℕ) → j.top ≡ top_under j.shape (layer_size j).reach
    → r ≡ min j.top (blur j.lens (get_or f.depths i 0))
    → record { value = get_or f.values i 0; opacity = get_or f.opacities i 0; shape = j.shape; radius = r } ≡ pixel_of j f i
unfolding filled
pixel_at_lem j f i r e q = rw (q, e)

-- PIXEL AFTER PIXEL
module _ (j : Layer) (f : Inputs) (cells : List ℕ) where
  pub filled_none : (pixels : List ℕ) (n : ℕ) → n ≡ 0 → FilledTo j f cells cells pixels n
  unfolding lay_grid
  filled_none pixels n e = record { laid = rw e; stored = λ i l. absurd (omega arith) }

  pub filled_more : (planes pixels after : List ℕ) (n word m : ℕ) → n < length pixels → m ≡ n + 1
      → after ≡ lay_all (layer_size j) planes (pixel_marks (layer_size j) n (pixel_of j f n))
      → word ≡ word_of (pixel_of j f n)
      → FilledTo j f cells planes pixels n
      → FilledTo j f cells after (set pixels n word) m
  unfolding lay_grid
  filled_more planes pixels after n word m h e laid stored done =
      rw e
      (record {
        laid = rw (add-one n, laid, done.laid);
        stored = below_more _ n
            (λ i l. get_or-set_other pixels n i word 0 (λ q. omega arith) ∙ done.stored i l)
            (get_or-set_same pixels n word 0 h ∙ stored);
      })

  -- all words
  pub filled_all : (planes pixels : List ℕ) (n : ℕ) → length pixels ≡ n → FilledTo j f cells planes pixels n
      → pixels ≡ map word_of (list_to (pixel_of j f) n)
  filled_all planes pixels n e done =
      let g = pixel_of j f in
      ext_get_or 0 pixels (map word_of (list_to g n))
      (e ∙ sym (length-map (list_to g n) word_of ∙ length-list_to g n))
      (λ i l. done.stored i (omega arith)
      ∙ sym (word_at (list_to g n) i ∙ ap word_of (get_or_list_to g n i empty (omega arith))))

-- THE CHECKS
-- a layer is read where its check accepts, and its refusal where it does not
to_fill : (o : Outcome) (j k : Layer) → Ok k ≡ read_by o j → (o ≡ Ok tt) × (k ≡ j)
to_fill (Ok tt) j k e = (refl, cc)
to_fill (Err f) j k e = let z : ◌≡◌ {A = ℕ} 0 1 = cc in absurd (omega arith)

no_fill : (o : Outcome) (j : Layer) (f : Refusal) → Err f ≡ read_by o j → o ≡ Err f
no_fill (Ok tt) j f e = let z : ◌≡◌ {A = ℕ} 0 1 = cc in absurd (omega arith)
no_fill (Err g) j f e = let same : f ≡ g = cc in ap Err (sym same)

-- 1 to 3 of a fill, of what its inputs are
abbrev fill_lengths_of : State → Inputs → LentLengths → Outcome
fill_lengths_of s f n = fill_lengths s n (length f.values) (length f.opacities) (length f.depths)

-- what a fill reads, past 1 to 3
pub layer_past : (s : State) (o : Lens) (k : ℕ) (f : Inputs) (n : LentLengths) → fill_lengths_of s f n ≡ Ok tt
    → inputs_read s.size o k f ≡ layer_read s o k f n
unfolding fill_check
layer_past s o k f n e = rw (fill_before s f n (layer_check o k f), e)

-- and what 1 to 3 refuse
pub layer_before : (s : State) (o : Lens) (k : ℕ) (f : Inputs) (n : LentLengths) (why : Refusal)
    → fill_lengths_of s f n ≡ Err why
    → Err why ≡ layer_read s o k f n
unfolding fill_check
layer_before s o k f n why e = rw (fill_before s f n (layer_check o k f), e)

module _ (s : State) (o : Lens) (k : ℕ) (f : Inputs) (l : Lent) where
  pub layer-refused : (why : Refusal) → Err why ≡ layer_read s o k f (lengths_of l) → refused why s l ≡ fill_call s o k f l
  unfolding fill_call fill_by
  layer-refused why e = rw (no_fill (fill_check s o k f (lengths_of l)) _ why e)

  -- an accepted layer
  module _ (j : Layer) (read : Ok j ≡ layer_read s o k f (lengths_of l)) where
    accepted : fill_check s o k f (lengths_of l) ≡ Ok tt
    accepted = (to_fill _ _ j read).0

    made_is : j ≡ layer_of s.size o (known_shape (shape_of k))
    made_is = (to_fill (fill_check s o k f (lengths_of l)) (layer_of s.size o (known_shape (shape_of k))) j read).1

    pub layer_ready : Ready j (length l.planes) (length l.pixels) f
    unfolding fill_check
    layer_ready =
        let both = and_then_lem _ _ (sym (fill_before s f (lengths_of l) (layer_check o k f)) ∙ accepted) in
        let h = fill_accepted s (lengths_of l) _ _ _ both.0 in
        let p = layer-accepted o k f both.1 in
        rw made_is
        (record {
          lawful = record {
            framed = refl;
            top_is = refl;
            lens_lawful = p.lens_lawful;
            values_are = h.values_are;
            opacities_are = h.opacities_are;
            depths_are = h.depths_are;
            values_in = p.values_in;
            depths_in = p.depths_in;
          };
          planes_are = h.lent.planes_are;
          pixels_are = h.lent.pixels_are;
        })

    pub layer-filled : (planes pixels log : List ℕ) → Refilled j f (length l.planes) (length l.log) planes pixels log
        → left (answer_of (Ok tt) 0 (state_of (layer_size j) 0)) planes pixels log ≡ fill_call s o k f l
    unfolding fill_call fill_by
    layer-filled planes pixels log made = rw (made.laid, made.stored, made.emptied, made_is, accepted)
