-- The calls of a running spool, and what they have to do with its state.
use Rattle.std.specs.Prelude.{◌≡◌, ◌≢◌, ℕ, ◌+◌, ◌<◌, ◌≤◌, Bool, true, false, Option, IsSome, List, [], ◌∷◌, length}
use Rattle.std.specs.List.{flat_map, list_any}
use Rattle.std.specs.declared.snapshot.Snapshot.{Snapshot}
use Rattle.solo_base.specs.declared.outcome.Side.{Side}
use Rattle.solo_base.specs.declared.outcome.Side.TheVariants.{Sender, Receiver}
use Rattle.solo_base.specs.declared.page.Page.{Page}
use Rattle.queue_var.specs.Sides.{MayEnter, MayStop, has_stopped}
use Rattle.queue_var.specs.HandsOver.{Lacks}
use Rattle.queue_var.specs.BetweenTwo as two
use Rattle.queue_var.specs.BetweenTwo.{IsTiedToCalls, process_at}
use Rattle.solo_devices.specs.Area.{ReadsFrom, Writes, CountsFaults}
use Rattle.solo_devices.specs.Count.{Rose}
use Rattle.solo_devices.specs.declared.area.Moved.{Moved}
use Rattle.disk_spool.specs.declared.answers.Await.{Await}
use Rattle.disk_spool.specs.declared.answers.Fetched.{Fetched}
use Rattle.disk_spool.specs.declared.call.SpoolCall.{SpoolCall}
use Rattle.disk_spool.specs.declared.call.SpoolCall.TheVariants as call
use Rattle.disk_spool.specs.Ring.{Ring, next_place}
use Rattle.disk_spool.specs.Spool.{Spool, Received, StandsFor, mark, room_answer, item_answer, after_await, after_put, after_take, after_stop, moved, AnswersFirst}

-- ---- what the calls of an end were
-- the page that a call put, if any
abbrev pub page_put : SpoolCall (List ℕ) → List (List ℕ)
page_put (call.Put page) = page ∷ []
page_put _ = []

-- what a call took, if anything
abbrev pub page_taken : SpoolCall (List ℕ) → List Received
page_taken (call.Take page last) = record { page = page; last = last } ∷ []
page_taken _ = []

abbrev pub is_stop : {P : Type 0} → SpoolCall P → Bool
is_stop (call.Stop side) = true
is_stop _ = false

-- the call was told that the other side had stopped first
abbrev pub is_refusal : {P : Type 0} → SpoolCall P → Bool
is_refusal (call.AwaitRefused side) = true
is_refusal _ = false

-- the area failed
abbrev pub is_failure : {P : Type 0} → SpoolCall P → Bool
is_failure (call.PutFailed page) = true
is_failure call.TakeFailed = true
is_failure _ = false

-- a put or a take, whatever the area did
abbrev pub is_move : {P : Type 0} → SpoolCall P → Bool
is_move (call.Put page) = true
is_move (call.PutFailed page) = true
is_move (call.Take page last) = true
is_move call.TakeFailed = true
is_move _ = false

-- an await that found what it wanted
abbrev pub is_await : {P : Type 0} → SpoolCall P → Bool
is_await (call.Await side) = true
is_await _ = false

-- the pages that these calls put, the oldest first
abbrev pub sent_of : List (SpoolCall (List ℕ)) → List (List ℕ)
sent_of calls = flat_map page_put calls

-- what these calls took, the oldest first
abbrev pub taken_of : List (SpoolCall (List ℕ)) → List Received
taken_of calls = flat_map page_taken calls

abbrev pub has_stop : {P : Type 0} → List (SpoolCall P) → Bool
has_stop calls = list_any is_stop calls

abbrev pub was_refused : {P : Type 0} → List (SpoolCall P) → Bool
was_refused calls = list_any is_refusal calls

abbrev pub has_failure : {P : Type 0} → List (SpoolCall P) → Bool
has_failure calls = list_any is_failure calls

abbrev pub has_move : {P : Type 0} → List (SpoolCall P) → Bool
has_move calls = list_any is_move calls

abbrev pub ready_after : {P : Type 0} → Bool → List (SpoolCall P) → Bool
ready_after ready [] = ready
ready_after ready (call ∷ later) = ready_after (is_await call) later

-- the latest of these calls, the oldest of which comes first, was an await that found what it wanted
abbrev pub is_ready : {P : Type 0} → List (SpoolCall P) → Bool
is_ready calls = ready_after false calls

-- ---- the tie
-- the area, by what it was at first: its count never falls, it is above the first where a call of either side
-- failed, and where neither side put or took a page the area is as it was
pub record IsTiedToArea {A : Type 0} (faults : A → ℕ) (opening now : A) (calls : Side → List (SpoolCall (List ℕ))) : Type 0 where
  pub later : faults opening ≤ faults now
  pub failed : (side : Side) → has_failure (calls side) ≡ true → Rose (faults opening) (faults now)
  pub untouched : ((side : Side) → has_move (calls side) ≡ false) → now ≡ opening

-- an area that told its pages tells its pages now
abbrev pub TellsOn : {A : Type 0} → (A → Option (List (List ℕ))) → A → A → Type 0
TellsOn told_by opening now = IsSome (told_by opening) → IsSome (told_by now)

-- what a side needs for its put or take: room, or a page
abbrev pub Has : Side → Ring → Type 0
Has Sender ring = length ring.marks < ring.capacity
Has Receiver ring = ring.marks ≢ []

-- ---- what was awaited
-- An await that found what it wanted came behind fewer moves than these.
abbrev pub IsBelow : ℕ → ℕ → SpoolCall (List ℕ) → Type 0
IsBelow most many (call.Await side) = many < most
IsBelow most many _ = Unit {0}

-- each of these calls, the oldest first, by what each moves
abbrev pub AreBelow : {X : Type 0} → (SpoolCall (List ℕ) → List X) → ℕ → ℕ → List (SpoolCall (List ℕ)) → Type 0
AreBelow moves most many [] = Unit {0}
AreBelow moves most many (call ∷ later) = IsBelow most many call × AreBelow moves most (many + length (moves call)) later

-- Room was found only where it was, and a page only where one was put.
pub record HaveFound (capacity : ℕ) (calls : Side → List (SpoolCall (List ℕ))) : Type 0 where
  pub rooms : AreBelow page_put (capacity + length (taken_of (calls Receiver))) 0 (calls Sender)
  pub finds : AreBelow page_taken (length (sent_of (calls Sender))) 0 (calls Receiver)

-- The spool stands where it does after the calls of both ends: what was taken, and then what is inside, is
-- what was put; who stopped first is known, and only the other end was told so, the receiver only where
-- nothing was left. A side whose await found what it wanted finds it there until its next call. An area that
-- told its pages goes on telling them.
pub record IsTied {A : Type 0} (told_by : A → Option (List (List ℕ))) (faults : A → ℕ) (room : ℕ) (opening : A) (calls : Side → List (SpoolCall (List ℕ))) (state : Spool A) : Type 0 where
  pub stops : List Side
  pub stands : StandsFor told_by (sent_of (calls Sender)) (taken_of (calls Receiver)) stops state
  pub sides : IsTiedToCalls (λ side. has_stop (calls side)) (λ side. was_refused (calls side)) state.sides
  pub nothing_left : was_refused (calls Receiver) ≡ true → state.ring.marks ≡ []
  pub area : IsTiedToArea faults opening state.area calls
  pub tells : TellsOn told_by opening state.area
  pub ready : (side : Side) → is_ready (calls side) ≡ true → Has side state.ring
  pub capacity : state.ring.capacity ≡ room
  pub found : HaveFound room calls

-- ---- the queues and the turn
abbrev pub handed_to : {A : Type 0} → Spool A → Option ℕ
handed_to state = two.handed_to state.sides

abbrev pub is_waiting : {A : Type 0} → ℕ → Spool A → Bool
is_waiting p state = two.is_waiting p state.sides

-- The turn is handed to the process, and there is room for it, or an item, or the other side stopped first.
abbrev pub IsWoken : {A : Type 0} → ℕ → Spool A → Type 0
IsWoken p state = two.IsWoken (Lacks state.ring.capacity state.ring.marks) p state.sides

-- ---- the entries
abbrev pub await_answer : {A : Type 0} → Side → Spool A → Await
await_answer Sender spool = room_answer spool
await_answer Receiver spool = item_answer spool

-- an await of a side, with its answer
pub record Awaits {A : Type 0} (p : ℕ) (before : Spool A) (side : Side) (answer : Await) (after : Spool A) : Type 0 where
  pub process : p ≡ process_at side
  pub may_enter : MayEnter before.sides side p
  pub not_stopped : has_stopped before.sides side ≡ false
  pub answer_is : answer ≡ await_answer side before
  pub after_is : after ≡ after_await before side p answer

-- a put or a take of a side may be made
pub record MayMove {A : Type 0} (p : ℕ) (before : Spool A) (side : Side) : Type 0 where
  pub process : p ≡ process_at side
  pub may : MayStop before.sides side
  pub not_stopped : has_stopped before.sides side ≡ false
  pub has : Has side before.ring

-- a put of the sender, with what the area did
pub record Puts {A : Type 0} (told_by : A → Option (List (List ℕ))) (faults : A → ℕ) (p : ℕ) (before : Spool A) (page : List ℕ) (answer : Moved) (after : Spool A) : Type 0 where
  pub may : MayMove p before Sender
  pub area : Writes (told_by before.area) (told_by after.area) (next_place before.ring) answer page
  pub cause : CountsFaults (faults before.area) (faults after.area) answer
  pub after_is : after ≡ after_put before after.area (mark page) answer

-- a take of the receiver, with what the area did
pub record Takes {A : Type 0} (told_by : A → Option (List (List ℕ))) (faults : A → ℕ) (p : ℕ) (before : Spool A) (page : List ℕ) (answer : Fetched) (after : Spool A) : Type 0 where
  pub may : MayMove p before Receiver
  pub area : ReadsFrom (told_by before.area) (told_by after.area) before.ring.first (moved answer) page
  pub cause : CountsFaults (faults before.area) (faults after.area) (moved answer)
  pub last : AnswersFirst before.ring.marks answer
  pub after_is : after ≡ after_take before after.area answer

-- a stop of a side
pub record Stops {A : Type 0} (p : ℕ) (before : Spool A) (side : Side) (after : Spool A) : Type 0 where
  pub process : p ≡ process_at side
  pub may_stop : MayStop before.sides side
  pub after_is : after ≡ after_stop before side

-- an entry of the process that completes this call leads from the one state to the other
abbrev pub Moves : {A : Type 0} → (A → Option (List (List ℕ))) → (A → ℕ) → ℕ → Spool A → SpoolCall (List ℕ) → Spool A → Type 0
Moves told_by faults p before (call.Await side) after = Awaits p before side Await.Ready after
Moves told_by faults p before (call.AwaitRefused side) after = Awaits p before side Await.Stopped after
Moves told_by faults p before (call.Put page) after = Puts told_by faults p before page Moved.Done after
Moves told_by faults p before (call.PutFailed page) after = Puts told_by faults p before page Moved.Failed after
Moves told_by faults p before (call.Take page last) after = Takes told_by faults p before page (Fetched.Done last) after
Moves told_by faults p before call.TakeFailed after = (page : List ℕ) × Takes told_by faults p before page Fetched.Failed after
Moves told_by faults p before (call.Stop side) after = Stops p before side after

-- an await of the process that ends in a delay leads from the one state to the other
pub record Rests {A : Type 0} (p : ℕ) (before after : Spool A) : Type 0 where
  pub side : Side
  pub awaits : Awaits p before side Await.Delayed after

-- ---- as contracts see them
-- a call, with the bytes of its page
abbrev pub value : SpoolCall (Snapshot Page) → SpoolCall (List ℕ)
value (call.Await side) = call.Await side
value (call.AwaitRefused side) = call.AwaitRefused side
value (call.Put page) = call.Put page.value.0
value (call.PutFailed page) = call.PutFailed page.value.0
value (call.Take page last) = call.Take page.value.0 last
value call.TakeFailed = call.TakeFailed
value (call.Stop side) = call.Stop side
