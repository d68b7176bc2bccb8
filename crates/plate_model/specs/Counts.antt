-- How many marks the calls of a list report.
use Rattle.std.specs.Prelude.{◌≡◌, ◌≤◌}
use Rattle.plate_model.specs.Notebook.{Report}
use Rattle.plate_model.specs.Lists.{Call, put_it, undo_it, fill_it, show_it, put_kept_it, undo_kept_it, show_kept_it}
use Rattle.plate_model.specs.EachReport.{InLists}

-- "a put or an undo reports 16 to 40", if it is accepted, and none if it is refused
pub record Few (r : Report) : Type 0 where
  pub if_accepted : r.number ≡ 0 → (16 ≤ r.marks) × (r.marks ≤ 40)
  pub if_refused : (r.number ≡ 0 → ⊥) → r.marks ≡ 0

-- "Fill and show report 0."
unfoldable pub CountOf : Call → Report → Type 0
CountOf (put_it x y v a s r) t = Few t
CountOf undo_it t = Few t
CountOf (fill_it o s vs bs zs) t = t.marks ≡ 0
CountOf (show_it v) t = t.marks ≡ 0
CountOf (put_kept_it x y v a s r k) t = Few t
CountOf (undo_kept_it k) t = Few t
CountOf (show_kept_it v sums) t = t.marks ≡ 0

-- in every list after an accepted open
abbrev pub ListsCounted : Type 0
ListsCounted = InLists (λ z c r. CountOf c r)
