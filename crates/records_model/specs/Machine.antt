-- The machine: what a byte makes of it and of its buffers, and the text that comes out. Nothing here is a plate's own rule: a
-- record is a call of the plate, on the front of the buffers.
use Rattle.std.specs.Prelude.{◌≡◌, Bool, true, false, List, [], ◌∷◌, ◌++◌, ℕ, zero, suc, ◌+◌, ◌*◌, ◌-◌, ◌^◌, ◌≤◌, ◌<◌, ltb, eqb, length, take, drop, set, Option, Some, None}
use Rattle.kernels_model.specs.Choice.{pick}
use Rattle.plate_model.specs.Fixed.{planes_in_all, scratch_planes}
use Rattle.plate_model.specs.declared.size.Size.{Size}
use Rattle.plate_model.specs.Layout.{padded, places}
use Rattle.plate_model.specs.declared.state.State.{State}
use Rattle.plate_model.specs.Refusal.{Returned}
use Rattle.plate_model.specs.declared.lent.Ask.{Ask}
use Rattle.plate_model.specs.Lent.{Lent, lent, Views, views, Borrowed}
use Rattle.kernels_model.specs.Listed.{zeros}
use Rattle.plate_model.specs.Calls.{Left, open_call, put_call, undo_call, Shown, show_call}
use Rattle.plate_model.specs.Lists.{Byte, codes}
use Rattle.records_model.specs.Fixed.{cells_top, planes_room, scratch_room, log_room, longest_body, full_from}
use Rattle.records_model.specs.Text.{refused_word, numbered, done_line, show_text, with_text}
use Rattle.records_model.specs.Record.{Record, Open, Put, NoShape, Undo, Show, record_of, put_ask, shapeless_ask}
use Rattle.records_model.specs.Record.{Stop, Sizes, Kind, Body, Order, Cells, body_length}
use Rattle.records_model.specs.Run.{stop_text, paper_text}
pub use Rattle.records_model.specs.declared.buffers.Buffers.{Buffers}
pub use Rattle.records_model.specs.declared.request.PutRequest.{PutRequest}
pub use Rattle.records_model.specs.declared.request.Request.{Request}
pub use Rattle.records_model.specs.declared.request.Request.TheVariants.{ToOpen, ToPut, ToUndo}
pub use Rattle.records_model.specs.declared.request.Task.{Task}
pub use Rattle.records_model.specs.declared.request.Task.TheVariants.{ToStand, ToStop, ToCall, ToShow}
pub use Rattle.records_model.specs.declared.effect.Stage.{Stage}
pub use Rattle.records_model.specs.declared.effect.Stage.TheVariants.{Closed, Opened, Ended}
pub use Rattle.records_model.specs.declared.effect.Reply.{Reply}
pub use Rattle.records_model.specs.declared.effect.Reply.TheVariants.{Nothing, StoppedBy, RefusedBy, Pictures}
pub use Rattle.records_model.specs.declared.effect.Effect.{Effect}
pub use Rattle.records_model.specs.declared.machine.Machine.{Machine}
pub use Rattle.records_model.specs.declared.machine.Taken.{Taken}
pub use Rattle.records_model.specs.declared.advance.Advanced.{Advanced}

-- BUFFERS
abbrev pub buffers : List ℕ → List ℕ → List ℕ → List ℕ → List ℕ → List ℕ → Buffers
buffers planes pixels log scratch values mattes =
    record { planes = planes; pixels = pixels; log = log; scratch = scratch; values = values; mattes = mattes }

-- those that a call is lent, as they are when it starts and when it ends
abbrev pub at_entry : Borrowed → Borrowed → Borrowed → Borrowed → Borrowed → Borrowed → Buffers
at_entry planes pixels log scratch values mattes =
    buffers planes.entry.now pixels.entry.now log.entry.now
    scratch.entry.now values.entry.now mattes.entry.now

abbrev pub at_exit : Borrowed → Borrowed → Borrowed → Borrowed → Borrowed → Borrowed → Buffers
at_exit planes pixels log scratch values mattes =
    buffers planes.exit.now pixels.exit.now log.exit.now
    scratch.exit.now values.exit.now mattes.exit.now

-- a plate of more cells in a plane than there is room for is lent nothing, and the plate then refuses it
abbrev pub if_room : Size → ℕ → ℕ
if_room z n = pick (ltb cells_top (padded z)) 0 n

abbrev pub lent_cells : Size → ℕ
lent_cells z = if_room z (padded z)

abbrev pub lent_places : Size → ℕ
lent_places z = if_room z (places z)

abbrev pub plane_cells : Size → ℕ
plane_cells z = planes_in_all * lent_cells z

abbrev pub scratch_cells : Size → ℕ
scratch_cells z = scratch_planes * lent_cells z

-- the front of a buffer is lent, and comes back
abbrev pub back : ℕ → List ℕ → List ℕ → List ℕ
back n front whole = front ++ drop n whole

unfoldable pub plate_front : Size → Lent → Lent
plate_front z l = lent (take (plane_cells z) l.planes) (take (lent_places z) l.pixels) l.log

unfoldable pub plate_back : Size → Lent → Lent → Lent
plate_back z front l =
    lent (back (plane_cells z) front.planes l.planes) (back (lent_places z) front.pixels l.pixels) front.log

unfoldable pub views_front : Size → Views → Views
views_front z v =
    views (take (scratch_cells z) v.scratch) (take (lent_places z) v.values) (take (lent_places z) v.mattes)

unfoldable pub views_back : Size → Views → Views → Views
views_back z front v =
    views (back (scratch_cells z) front.scratch v.scratch)
    (back (lent_places z) front.values v.values)
    (back (lent_places z) front.mattes v.mattes)

-- REQUESTS
-- what a record asks of the plate
abbrev pub put_request : State → Ask → Request
put_request s a = ToPut (record { state = s; ask = a })

abbrev pub request_size : Request → Size
request_size (ToOpen z) = z
request_size (ToPut p) = p.state.size
request_size (ToUndo s) = s.size

unfoldable pub request_call : Request → Lent → Left
request_call (ToOpen z) l = open_call z l
request_call (ToPut p) l = put_call p.state p.ask l
request_call (ToUndo s) l = undo_call s l

-- the call is lent the front of planes and pixels, and what it leaves there is taken back
unfoldable pub requested : Request → Lent → Left
requested q l =
    let r = request_call q (plate_front (request_size q) l) in
    record { answer = r.answer; buffers = plate_back (request_size q) r.buffers l }

-- so is a show, of planes, scratch and pictures
unfoldable pub show_requested : State → List ℕ → Views → Shown
show_requested s planes v =
    let z = s.size in
    let r = show_call s (take (plane_cells z) planes) (views_front z v) in
    record { answer = r.answer; seen = views_back z r.seen v }

-- RECORDS
-- where a run stands after a record and what it has to print, and then the buffers
abbrev pub effect : Stage → Reply → Effect
effect s r = record { stage = s; reply = r }

pub record Did : Type 0 where
  pub effect : Effect
  pub buffers : Buffers

abbrev pub did : Effect → Buffers → Did
did e b = record { effect = e; buffers = b }

-- the text of a reply to record K: a show's pictures stand in the front of values and mattes
unfoldable pub reply_text : ℕ → Reply → List ℕ → List ℕ → List ℕ
reply_text k Nothing values mattes = []
reply_text k (StoppedBy s) values mattes = stop_text k s
reply_text k (RefusedBy n) values mattes = numbered refused_word n k
reply_text k (Pictures z) values mattes = show_text z.width z.height values mattes

-- a run that stops
abbrev pub stopping : Stop → Effect
stopping s = effect Ended (StoppedBy s)

-- a run that goes on: with this reply where its call is accepted
unfoldable pub going_on : Reply → Returned → Effect
going_on accepted a = effect (Opened a.state) (pick (eqb a.number 0) accepted (RefusedBy a.number))

-- an open: refused by 1 it stops with 1, by another number with 16
unfoldable pub opening : Returned → Effect
opening a =
    pick (eqb a.number 0) (effect (Opened a.state) Nothing) (stopping (pick (eqb a.number 1) Sizes Cells))

unfoldable pub answered : Request → Returned → Effect
answered (ToOpen z) a = opening a
answered (ToPut p) a = going_on Nothing a
answered (ToUndo s) a = going_on Nothing a

-- what a record asks for where a run stands. 15: "not open, or open again"
unfoldable pub task_of : Stage → Record → Task
task_of Ended r = ToStand Ended
task_of Closed (Open z) = ToCall (ToOpen z)
task_of Closed (Put p) = ToStop Order
task_of Closed (NoShape p) = ToStop Order
task_of Closed Undo = ToStop Order
task_of Closed Show = ToStop Order
task_of (Opened s) (Open z) = ToStop Order
task_of (Opened s) (Put p) = ToCall (put_request s (put_ask p))
task_of (Opened s) (NoShape p) = ToCall (put_request s (shapeless_ask p))
task_of (Opened s) Undo = ToCall (ToUndo s)
task_of (Opened s) Show = ToShow s

-- and what comes of it
unfoldable pub performed : Task → Buffers → Did
performed (ToStand s) b = did (effect s Nothing) b
performed (ToStop s) b = did (stopping s) b
performed (ToCall q) b =
    let l = requested q (lent b.planes b.pixels b.log) in
    let p = l.buffers in
    did (answered q l.answer) (buffers p.planes p.pixels p.log b.scratch b.values b.mattes)
performed (ToShow s) b =
    let v = show_requested s b.planes (views b.scratch b.values b.mattes) in
    did (going_on (Pictures s.size) v.answer)
    (buffers b.planes b.pixels b.log v.seen.scratch v.seen.values v.seen.mattes)

-- BYTES
-- what comes of a machine: the machine after it, the buffers and the text
pub record Progress : Type 0 where
  pub machine : Machine
  pub buffers : Buffers
  pub text : List ℕ

abbrev pub fed : Machine → Buffers → List ℕ → Progress
fed m b t = record { machine = m; buffers = b; text = t }

abbrev pub machine : Stage → ℕ → ℕ → ℕ → List ℕ → ℕ → Machine
machine s kind held whole body count =
    record { stage = s; kind = kind; held = held; whole = whole; body = body; count = count }

-- the same machine, standing elsewhere
abbrev pub standing : Machine → Stage → Machine
standing m s = machine s m.kind m.held m.whole m.body m.count

abbrev pub done_by : Machine → Did → Progress
done_by m d =
    fed (standing m d.effect.stage) d.buffers
    (reply_text m.count d.effect.reply d.buffers.values d.buffers.mattes)

-- a byte taken in, and what there is to do then
abbrev pub taken : Machine → Task → Taken
taken m t = record { machine = m; task = t }

-- a record is done as soon as its body is whole
unfoldable pub settled_of : Machine → Taken
settled_of m =
    taken m (pick (ltb m.held m.whole) (ToStand m.stage) (task_of m.stage (record_of m.kind m.body)))

-- a byte of kind. 13: "unknown kind"
unfoldable pub begun_by : Option ℕ → Machine → Taken
begun_by None m = taken m (ToStop Kind)
begun_by (Some n) m = settled_of (machine m.stage m.kind 0 n m.body m.count)

-- what no run comes to ends without a text: more than 2^64 - 1 records, or a body longer than the longest
unfoldable pub begun_of : Machine → ℕ → Taken
begun_of m x =
    pick (ltb m.count (2 ^ 64 - 1))
    (begun_by (body_length x) (machine m.stage x m.held m.whole m.body (m.count + 1)))
    (taken m (ToStand Ended))

-- a byte of a body
unfoldable pub carried_of : Machine → ℕ → Taken
carried_of m x =
    pick (ltb m.held longest_body)
    (settled_of (machine m.stage m.kind (m.held + 1) m.whole (set m.body m.held x) m.count))
    (taken m (ToStand Ended))

-- whether a run has stopped
abbrev pub ended_at : Stage → Bool
ended_at Closed = false
ended_at (Opened s) = false
ended_at Ended = true

-- no byte after a stop changes anything
unfoldable pub taken_of : Machine → ℕ → Taken
taken_of m x =
    pick (ended_at m.stage) (taken m (ToStand Ended))
    (pick (ltb m.held m.whole) (carried_of m x) (begun_of m x))

-- what a byte makes of a machine
unfoldable pub feed_of : Machine → ℕ → Buffers → Progress
feed_of m x b = let t = taken_of m x in done_by t.machine (performed t.task b)

-- the text at the end of the input. 14: "body cut short"; "Input that ends after a whole record, or is empty, prints `done` and
-- the record count."
unfoldable pub end_text : Machine → List ℕ
end_text m = pick (ltb m.held m.whole) (stop_text m.count Body) (done_line m.count)

unfoldable pub finish_of : Machine → List ℕ
finish_of m = pick (ended_at m.stage) [] (end_text m)

-- one byte after another, and the text so far
abbrev pub fed_then : List ℕ → Progress → Progress
fed_then t f = fed f.machine f.buffers (t ++ f.text)

abbrev pub fed_on : Progress → ℕ → Progress
fed_on f x = fed_then f.text (feed_of f.machine x f.buffers)

unfoldable pub feed_all : Progress → List ℕ → Progress
feed_all f [] = f
feed_all f (x ∷ xs) = feed_all (fed_on f x) xs

-- CALLS
-- what a call of advance leaves: its answer is the machine, how many bytes of the input it took and how many of text it wrote;
-- the text stands at the start of what it is lent for it
pub record AdvanceLeft : Type 0 where
  pub answer : Advanced
  pub buffers : Buffers
  pub out : List ℕ

abbrev pub advance_left : Advanced → Buffers → List ℕ → AdvanceLeft
advance_left a b out = record { answer = a; buffers = b; out = out }

-- how many bytes of an input are taken: all of them, or those before the text of one record more might not fit
unfoldable pub takes : Progress → List ℕ → ℕ
takes f [] = 0
takes f (x ∷ xs) = pick (ltb full_from (length f.text)) 0 (suc (takes (fed_on f x) xs))

-- a front of the input, the machine and the buffers after it, and its text
abbrev pub advanced_by : ℕ → Progress → List ℕ → AdvanceLeft
advanced_by n f out =
    advance_left (record { machine = f.machine; consumed = n; written = length f.text })
    f.buffers (with_text out 0 f.text)

unfoldable pub advance_call : Machine → List ℕ → Buffers → List ℕ → AdvanceLeft
advance_call m input b out =
    let n = takes (fed m b []) input in
    advanced_by n (feed_all (fed m b []) (take n input)) out

-- and a call of finish
pub record FinishLeft : Type 0 where
  pub out : List ℕ
  pub written : ℕ

abbrev pub finish_left : List ℕ → ℕ → FinishLeft
finish_left out n = record { out = out; written = n }

abbrev pub finished_by : List ℕ → List ℕ → FinishLeft
finished_by t out = finish_left (with_text out 0 t) (length t)

unfoldable pub finish_call : Machine → List ℕ → FinishLeft
finish_call m out = finished_by (finish_of m) out

-- A RUN
-- the machine before the first byte
abbrev pub fresh : Machine
fresh = machine Closed 0 0 0 (zeros longest_body) 0

-- "zeroed planes and scratch, arrays of 7,168 and 1,536 cells"; "The log has 64 entries."
abbrev pub zeroed : Buffers
zeroed = buffers (zeros planes_room) (zeros cells_top) (zeros log_room) (zeros scratch_room) (zeros cells_top) (zeros cells_top)

-- the text of an input: of what is fed, and the end
unfoldable pub machine_text : List ℕ → List ℕ
machine_text input = let f = feed_all (fed fresh zeroed []) input in f.text ++ finish_of f.machine

-- FROM BYTES TO TEXT: for every input, the machine writes the text of the paper's rules applied to the notebook's answers. The
-- machine counts its records in 64 bits, so the input is shorter than 2^64 bytes.
abbrev pub EndToEnd : Type 0
EndToEnd = (input : List Byte) → length input < 2 ^ 64 → machine_text (codes input) ≡ paper_text (codes input)

-- A RUN OF CALLS
-- the machine and the buffers between two calls, what is lent for the text, and all that has been written
pub record BetweenCalls : Type 0 where
  pub machine : Machine
  pub buffers : Buffers
  pub out : List ℕ
  pub printed : List ℕ

-- a call of advance, and its text written
abbrev pub after_call : List ℕ → AdvanceLeft → BetweenCalls
after_call printed l =
    let a = l.answer in
    record { machine = a.machine; buffers = l.buffers; out = l.out; printed = printed ++ take a.written l.out }

-- a part of the input, handed on from where the call before stopped, until it is consumed: in n calls at most
unfoldable pub calls_on : ℕ → BetweenCalls → List ℕ → BetweenCalls
calls_on zero c part = c
calls_on (suc n) c [] = c
calls_on (suc n) c (x ∷ xs) =
    let l = advance_call c.machine (x ∷ xs) c.buffers c.out in
    calls_on n (after_call c.printed l) (drop l.answer.consumed (x ∷ xs))

-- one part after another. A call takes a byte or more, so that no part needs more calls than it has bytes.
unfoldable pub calls_on_parts : BetweenCalls → List (List ℕ) → BetweenCalls
calls_on_parts c [] = c
calls_on_parts c (part ∷ parts) = calls_on_parts (calls_on (length part) c part) parts

-- the text of a run: of the calls of advance, and of the call of finish
unfoldable pub calls_text : List ℕ → List (List ℕ) → List ℕ
calls_text out parts =
    let c = calls_on_parts (record { machine = fresh; buffers = zeroed; out = out; printed = [] }) parts in
    let l = finish_call c.machine c.out in
    c.printed ++ take l.written l.out

unfoldable pub joined : List (List ℕ) → List ℕ
joined [] = []
joined (part ∷ parts) = part ++ joined parts

-- IN ANY CUT: an input that comes in parts, cut anywhere, has the text of the whole, whatever stands in what is lent for the text
abbrev pub AnyCut : Type 0
AnyCut = (out : List ℕ) (parts : List (List ℕ)) → calls_text out parts ≡ machine_text (joined parts)

-- EACH CALL GOES ON: of a part that is not empty it takes a byte or more, and no more than there are
pub record Taking (n : ℕ) (part : List ℕ) : Type 0 where
  pub some : 0 < length part → 0 < n
  pub within : n ≤ length part

abbrev pub GoesOn : Type 0
GoesOn = (m : Machine) (part : List ℕ) (b : Buffers) (out : List ℕ) → Taking (advance_call m part b out).answer.consumed part
