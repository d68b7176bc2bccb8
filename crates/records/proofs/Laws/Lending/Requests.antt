-- A call on the front of the buffers, and what it leaves there taken back, is what is asked of the plate; so is a show.
use mathlib.Core.Path.{◌≡◌}
use mathlib.Core.List.{List, ◌++◌}
use Prim.Native.Nat.{ℕ}
use lib.ListN.{take, drop}
use Rattle.plate_model.specs.declared.state.Answer.{Answer}
use Rattle.plate_model.specs.declared.state.State.{State}
use Rattle.plate_model.specs.Lent.{Lent, lent, Views, views}
use Rattle.plate_model.specs.Calls.{left, shown, show_call}
use Rattle.records_model.specs.declared.request.Request.{Request}
use Rattle.records_model.specs.Machine.{plane_cells, scratch_cells, lent_places, plate_front, plate_back, views_front, views_back}
use Rattle.records_model.specs.Machine.{request_size, request_call, requested, show_requested}

-- the call is lent n cells and m places
pub request_is : (q : Request) (l : Lent) (n m : ℕ) {planes pixels log : List ℕ} (r : Answer) → n ≡ plane_cells (request_size q)
    → m ≡ lent_places (request_size q)
    → left r planes pixels log ≡ request_call q (lent (take n l.planes) (take m l.pixels) l.log)
    → left r (planes ++ drop n l.planes) (pixels ++ drop m l.pixels) log ≡ requested q l
unfolding requested plate_front plate_back
request_is q l n m r p o e = rw (← rw (p, o) at e, p, o)

-- the show is lent n cells, t sums and m places
pub show_is : (s : State) (all : List ℕ) (v : Views) (n t m : ℕ) {scratch values mattes : List ℕ} (r : Answer)
    → n ≡ plane_cells s.size → t ≡ scratch_cells s.size → m ≡ lent_places s.size
    → shown r scratch values mattes
    ≡ show_call s (take n all) (views (take t v.scratch) (take m v.values) (take m v.mattes))
    → shown r (scratch ++ drop t v.scratch) (values ++ drop m v.values) (mattes ++ drop m v.mattes)
    ≡ show_requested s all v
unfolding show_requested views_front views_back
show_is s all v n t m r p o q e = rw (← rw (p, o, q) at e, o, q)
