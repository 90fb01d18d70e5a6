-- The two laws of a running spool: each entry keeps the tie, and whoever gets the turn can go on.
use Rattle.std.specs.Prelude.{◌≡◌, ◌≢◌, ℕ, ◌+◌, ◌<◌, ◌≤◌, ◌==◌, length, drop, map, Bool, true, false, List, [], ◌∷◌, ◌++◌, Option, Some, None, IsSome}
use Rattle.std.specs.declared.snapshot.Snapshot.{Snapshot}
use Rattle.std.specs.Option.{is_some}
use Rattle.std.proofs.Common.{refl, sym, ap, ◌∙◌, subst, arith, inl, inr, eq-eqb}
use Rattle.std.proofs.lemmas.Bool.{cases_eq}
use Rattle.solo_base.specs.declared.outcome.Side.{Side}
use Rattle.solo_base.specs.declared.outcome.Side.TheVariants.{Sender, Receiver}
use Rattle.solo_base.specs.declared.page.Page.{Page}
use Rattle.queue_var.specs.Sides.{has_stopped, stopped_by, other, entered, continued, delayed}
use Rattle.queue_var.specs.HandsOver.{Lacks}
use Rattle.queue_var.specs.BetweenTwo.{LetsOut, LetsWait, process_at, calls_of, with_call}
use Rattle.queue_var.proofs.BetweenTwo.{entered-between, continued-between, delayed-between, entered-lets_out, inside-continues, unchanged-lets_out, stopped-lets_out, delayed-lets_wait, any-same, any-own, any-either, gives-more, gives-same, calls-with, two-apart, some_inside, tied-waits, tied-called, tied-stopped}
use Rattle.queue_var.proofs.Waits.{not_first}
use Rattle.monitor_gate.specs.Kind.{with_entry, Completes, Suspends}
use Rattle.monitor_gate.specs.Lists.{with_entry_same, with_entry_other}
use Rattle.solo_devices.specs.Area.{CountsFaults, Writes, WritesTo}
use Rattle.solo_devices.specs.Count.{Rose}
use Rattle.solo_devices.specs.declared.area.Moved.{Moved}
use Rattle.disk_spool.specs.declared.answers.Await.{Await}
use Rattle.disk_spool.specs.declared.answers.Fetched.{Fetched}
use Rattle.disk_spool.specs.declared.call.SpoolCall.{SpoolCall}
use Rattle.disk_spool.specs.declared.call.SpoolCall.TheVariants as call
use Rattle.disk_spool.specs.Ring.{Ring, with_page, without_first, next_place}
use Rattle.disk_spool.specs.Spool.{Spool, StandsFor, mark, received_mark, room_by, item_by, sent_with, taken_with, moved}
use Rattle.disk_spool.specs.History.{room-stands, item-stands, put-stands, take-stands, stop-stands}
use Rattle.std.specs.List.{flat_map}
use Rattle.std.proofs.lemmas.List.{length-append, length-map}
use Rattle.disk_spool.specs.Calls.{IsBelow, AreBelow, HaveFound, sent_of, taken_of, was_refused, page_put, page_taken, is_stop, is_refusal, is_failure, is_move, is_await, ready_after, is_ready, IsTiedToArea, TellsOn, Has, IsTied, handed_to, is_waiting, IsWoken, await_answer, Awaits, Puts, Takes, Stops, Moves, Rests, value}

-- ---- what the answers say
below-full : (count capacity : ℕ) → (count == capacity) ≡ false → count ≤ capacity → count < capacity
below-full count capacity differs within = elim (cases_eq count capacity) as (λ _. count < capacity) [
  | inl same ↦ (let full = eq-eqb count capacity same in absurd cc)
  | inr apart ↦ omega arith
]

room-ready : (by : Option Side) (full : Bool) → Await.Ready ≡ room_by by full → full ≡ false
room-ready (Some Receiver) full is = absurd cc
room-ready (Some Sender) true is = absurd cc
room-ready None true is = absurd cc
room-ready (Some Sender) false is = refl
room-ready None false is = refl

item-ready : (by : Option Side) (marks : List Bool) → Await.Ready ≡ item_by by marks → marks ≡ [] → ⊥
item-ready by (mark ∷ more) is none = cc
item-ready (Some Sender) [] is none = cc
item-ready (Some Receiver) [] is none = cc
item-ready None [] is none = cc

await-ready : {A : Type 0} (side : Side) (state : Spool A) → length state.ring.marks ≤ state.ring.capacity → Await.Ready ≡ await_answer side state → Has side state.ring
await-ready Sender state within is = below-full (length state.ring.marks) state.ring.capacity (room-ready (stopped_by state.sides) (length state.ring.marks == state.ring.capacity) is) within
await-ready Receiver state within is = item-ready (stopped_by state.sides) state.ring.marks is

room-refused : (by : Option Side) (full : Bool) → Await.Stopped ≡ room_by by full → by ≡ Some Receiver
room-refused (Some Receiver) full is = refl
room-refused (Some Sender) true is = absurd cc
room-refused None true is = absurd cc
room-refused (Some Sender) false is = absurd cc
room-refused None false is = absurd cc

item-refused : (by : Option Side) (marks : List Bool) → Await.Stopped ≡ item_by by marks → (by ≡ Some Sender) × (marks ≡ [])
item-refused by (mark ∷ more) is = absurd cc
item-refused (Some Sender) [] is = (refl, refl)
item-refused (Some Receiver) [] is = absurd cc
item-refused None [] is = absurd cc

await-refused : {A : Type 0} (side : Side) (state : Spool A) → Await.Stopped ≡ await_answer side state → stopped_by state.sides ≡ Some (other side)
await-refused Sender state is = room-refused (stopped_by state.sides) (length state.ring.marks == state.ring.capacity) is
await-refused Receiver state is = (item-refused (stopped_by state.sides) state.ring.marks is).0

some_room : {T : Type 0} (inside : List T) (capacity : ℕ) → inside ≢ [] → length inside ≤ capacity → length (drop 1 inside) < capacity
some_room [] capacity some within = absurd (some refl)
some_room (x ∷ xs) capacity some within = omega arith

-- ---- the latest call
ready-push : (ready : Bool) (calls : List (SpoolCall (List ℕ))) (call : SpoolCall (List ℕ)) → ready_after ready (calls ++ call ∷ []) ≡ is_await call
ready-push ready [] call = refl
ready-push ready (first ∷ later) call = ready-push (is_await first) later call

ready-called : (calls : Side → List (SpoolCall (List ℕ))) (before after : Ring) (side : Side) (call : SpoolCall (List ℕ)) → ((s : Side) → is_ready (calls s) ≡ true → Has s before) → (is_await call ≡ true → Has side after)
    → (Has (other side) before → Has (other side) after) → (s : Side) → is_ready (with_call calls side call s) ≡ true → Has s after
ready-called calls before after Sender call tied own keeps Sender is = own (sym (ready-push false (calls Sender) call) ∙ is)
ready-called calls before after Sender call tied own keeps Receiver is = keeps (tied Receiver is)
ready-called calls before after Receiver call tied own keeps Receiver is = own (sym (ready-push false (calls Receiver) call) ∙ is)
ready-called calls before after Receiver call tied own keeps Sender is = keeps (tied Sender is)

-- ---- what was awaited
below-more : (most more many : ℕ) (call : SpoolCall (List ℕ)) → most ≤ more → IsBelow most many call → IsBelow more many call
below-more most more many (call.Await side) wider below = omega (arith, wider, below)
below-more most more many (call.AwaitRefused side) wider below = tt
below-more most more many (call.Put page) wider below = tt
below-more most more many (call.PutFailed page) wider below = tt
below-more most more many (call.Take page last) wider below = tt
below-more most more many call.TakeFailed wider below = tt
below-more most more many (call.Stop side) wider below = tt

module _ {X : Type 0} (moves : SpoolCall (List ℕ) → List X) where
  wider-below : (most more many : ℕ) (calls : List (SpoolCall (List ℕ))) → most ≤ more → AreBelow moves most many calls → AreBelow moves more many calls
  wider-below most more many [] wider all = all
  wider-below most more many (call ∷ later) wider all = (below-more most more many call wider all.0, wider-below most more (many + length (moves call)) later wider all.1)

  push-below : (most many : ℕ) (calls : List (SpoolCall (List ℕ))) (call : SpoolCall (List ℕ)) → AreBelow moves most many calls
      → IsBelow most (many + length (flat_map moves calls)) call → AreBelow moves most many (calls ++ call ∷ [])
  push-below most many [] call all own = (subst (λ n. IsBelow most n call) (nothing-more many) own, tt) where
    nothing-more : (n : ℕ) → n + 0 ≡ n
    nothing-more n = omega arith
  push-below most many (first ∷ later) call all own =
      let long = length-append (moves first) (flat_map moves later) in
      let same : many + length (flat_map moves (first ∷ later)) ≡ (many + length (moves first)) + length (flat_map moves later) = omega (arith, long) in
      (all.0, push-below most (many + length (moves first)) later call all.1 (subst (λ n. IsBelow most n call) same own))

  push-longer : (calls : List (SpoolCall (List ℕ))) (call : SpoolCall (List ℕ)) → length (flat_map moves calls) ≤ length (flat_map moves (calls ++ call ∷ []))
  push-longer [] call = omega arith
  push-longer (first ∷ later) call =
      let rest = push-longer later call in
      let a = length-append (moves first) (flat_map moves later) in
      let b = length-append (moves first) (flat_map moves (later ++ call ∷ [])) in
      omega (arith, rest, a, b)

-- how many were moved by the side, and how many may be
abbrev many_by : (Side → List (SpoolCall (List ℕ))) → Side → ℕ
many_by calls Sender = length (sent_of (calls Sender))
many_by calls Receiver = length (taken_of (calls Receiver))

abbrev most_by : ℕ → (Side → List (SpoolCall (List ℕ))) → Side → ℕ
most_by room calls Sender = room + length (taken_of (calls Receiver))
most_by room calls Receiver = length (sent_of (calls Sender))

from-none : (n : ℕ) → n ≡ 0 + n
from-none n = omega arith

found-called : (room : ℕ) (calls : Side → List (SpoolCall (List ℕ))) (side : Side) (call : SpoolCall (List ℕ)) → HaveFound room calls
    → IsBelow (most_by room calls side) (many_by calls side) call → HaveFound room (with_call calls side call)
found-called room calls Sender call found own = record {
  rooms = push-below page_put _ 0 (calls Sender) call found.rooms (subst (λ n. IsBelow (most_by room calls Sender) n call) (from-none (many_by calls Sender)) own);
  finds = wider-below page_taken _ _ 0 (calls Receiver) (push-longer page_put (calls Sender) call) found.finds;
}
found-called room calls Receiver call found own = record {
  rooms = wider-below page_put _ _ 0 (calls Sender) (more-room room _ _ (push-longer page_taken (calls Receiver) call)) found.rooms;
  finds = push-below page_taken _ 0 (calls Receiver) call found.finds (subst (λ n. IsBelow (most_by room calls Receiver) n call) (from-none (many_by calls Receiver)) own);
} where
  more-room : (n a b : ℕ) → a ≤ b → n + a ≤ n + b
  more-room n a b less = omega (arith, less)

-- ---- the area
module _ {A : Type 0} (faults : A → ℕ) (opening before now : A) (calls : Side → List (SpoolCall (List ℕ))) (tied : IsTiedToArea faults opening before calls) where
  area-same : (side : Side) (call : SpoolCall (List ℕ)) → is_failure call ≡ false → is_move call ≡ false → now ≡ before → IsTiedToArea faults opening now (with_call calls side call)
  area-same side call works rests same = subst (λ a. IsTiedToArea faults opening a (with_call calls side call)) (sym same) record {
    later = tied.later;
    failed = λ s failed. tied.failed s (sym (any-same is_failure calls side call works s) ∙ failed);
    untouched = λ none. tied.untouched (λ s. sym (any-same is_move calls side call rests s) ∙ none s);
  }

  area-moved : (side : Side) (call : SpoolCall (List ℕ)) (answer : Moved) → CountsFaults (faults before) (faults now) answer → is_move call ≡ true → (is_failure call ≡ true → answer ≡ Moved.Failed) → IsTiedToArea faults opening now (with_call calls side call)
  area-moved side call answer cause move fails = record {
    later = (let first = tied.later in let then = cause.later in omega arith);
    failed = λ s failed. elim (any-either is_failure calls side s call failed) as (λ _. Rose (faults opening) (faults now)) [
      | inl earlier ↦ (let rose = tied.failed s earlier in let then = cause.later in omega arith)
      | inr here ↦ (let rose = cause.failed (fails here) in let first = tied.later in omega arith)
    ];
    untouched = λ none. (let moved = any-own is_move calls side call move in let rests = none side in absurd cc);
  }

-- a write leaves an area that tells its pages telling them
told-then : (pages : List (List ℕ)) (now : Option (List (List ℕ))) (n : ℕ) (answer : Moved) (page : List ℕ) → WritesTo pages now n answer page → IsSome now
told-then pages now n Moved.Done page writes = ap is_some writes
told-then pages now n Moved.Failed page (after, is, same) = ap is_some is

written-told : (before now : Option (List (List ℕ))) (n : ℕ) (answer : Moved) (page : List ℕ) → Writes before now n answer page → IsSome before → IsSome now
written-told (Some pages) now n answer page writes told = told-then pages now n answer page (writes.told pages refl)
written-told None now n answer page writes told = absurd cc

module _ {A : Type 0} (told_by : A → Option (List (List ℕ))) (faults : A → ℕ) (room : ℕ) (opening : A) (before after : Spool A) (p : ℕ) (calls : Side → List (SpoolCall (List ℕ))) where
  abbrev Tied : (Side → List (SpoolCall (List ℕ))) → Spool A → Type 0
  Tied = IsTied told_by faults room opening

  completes : LetsOut (Lacks after.ring.capacity after.ring.marks) p before.sides after.sides → Completes handed_to is_waiting IsWoken p before after
  completes let_out = record { out = let_out.out; others = let_out.others; woken = let_out.woken }

  suspends : LetsWait p before.sides after.sides → Suspends handed_to is_waiting p before after
  suspends waits = record { waiting = waits.waiting; others = waits.others; free = waits.free }

  await_stands : (side : Side) (answer : Await) (tied : Tied calls before) → Awaits p before side answer after → StandsFor told_by (sent_of (calls Sender)) (taken_of (calls Receiver)) tied.stops after
  await_stands Sender answer tied moved = room-stands told_by before after (sent_of (calls Sender)) (taken_of (calls Receiver)) tied.stops tied.stands p answer moved.may_enter moved.not_stopped moved.answer_is moved.after_is
  await_stands Receiver answer tied moved = item-stands told_by before after (sent_of (calls Sender)) (taken_of (calls Receiver)) tied.stops tied.stands p answer moved.may_enter moved.not_stopped moved.answer_is moved.after_is

  -- a call that puts and takes nothing
  quiet : (side : Side) (call : SpoolCall (List ℕ)) (stops : List Side) → page_put call ≡ [] → page_taken call ≡ [] → StandsFor told_by (sent_of (calls Sender)) (taken_of (calls Receiver)) stops after
      → StandsFor told_by (sent_of (with_call calls side call Sender)) (taken_of (with_call calls side call Receiver)) stops after
  quiet side call stops no_put no_take stands =
      subst (λ sent. StandsFor told_by sent (taken_of (with_call calls side call Receiver)) stops after) (sym (gives-same page_put calls side call no_put Sender))
      (subst (λ taken. StandsFor told_by (sent_of (calls Sender)) taken stops after) (sym (gives-same page_taken calls side call no_take Receiver)) stands)

  -- the receiver isn't told of a stop by this call
  left-same : (side : Side) (call : SpoolCall (List ℕ)) → is_refusal call ≡ false → (marks : List Bool) → (was_refused (calls Receiver) ≡ true → marks ≡ []) → was_refused (with_call calls side call Receiver) ≡ true → marks ≡ []
  left-same side call none marks left told = left (sym (any-same is_refusal calls side call none Receiver) ∙ told)

  -- an await found room, or a page
  inside-count : Tied calls before → length (sent_of (calls Sender)) ≡ length (taken_of (calls Receiver)) + length before.ring.marks
  inside-count tied =
      let order = ap length tied.stands.marks.in_order in
      let a = length-map (sent_of (calls Sender)) mark in
      let b = length-map (taken_of (calls Receiver)) received_mark in
      let c = length-append (map received_mark (taken_of (calls Receiver))) before.ring.marks in
      omega (arith, order, a, b, c)

  some-long : (marks : List Bool) → marks ≢ [] → 0 < length marks
  some-long [] some = absurd (some refl)
  some-long (x ∷ marks) some = omega arith

  await-below : (side : Side) (tied : Tied calls before) → Awaits p before side Await.Ready after → IsBelow (most_by room calls side) (many_by calls side) (call.Await side)
  await-below Sender tied moved =
      let has : Has Sender before.ring = await-ready Sender before tied.stands.marks.within moved.answer_is in
      let count = inside-count tied in
      let same = tied.capacity in
      omega (arith, has, count, same)
  await-below Receiver tied moved =
      let some = some-long before.ring.marks (await-ready Receiver before tied.stands.marks.within moved.answer_is) in
      let count = inside-count tied in
      omega (arith, some, count)

  await_tied : (side : Side) → Tied calls before → Awaits p before side Await.Ready after → Tied (with_call calls side (call.Await side)) after
  await_tied side tied moved =
      let done = call.Await side in record {
        stops = tied.stops;
        stands = quiet side done tied.stops refl refl (await_stands side Await.Ready tied moved);
        sides = rw moved.after_is (tied-called is_stop is_refusal calls before.sides tied.sides (entered before.sides side) side done (entered-between before.sides side tied.sides.between) refl refl (λ e. absurd cc));
        nothing_left = rw moved.after_is (left-same side done refl before.ring.marks tied.nothing_left);
        area = area-same faults opening before.area after.area calls tied.area side done refl refl (ap (λ (s : Spool A). s.area) moved.after_is);
        tells = subst (λ a. TellsOn told_by opening a) (sym (ap (λ (s : Spool A). s.area) moved.after_is)) tied.tells;
        ready = rw moved.after_is (ready-called calls before.ring before.ring side done tied.ready (λ e. await-ready side before tied.stands.marks.within moved.answer_is) (λ has. has));
        capacity = ap (λ (s : Spool A). s.ring.capacity) moved.after_is ∙ tied.capacity;
        found = found-called room calls side done tied.found (await-below side tied moved);
      }

  refused_left : (side : Side) → Tied calls before → Await.Stopped ≡ await_answer side before → was_refused (with_call calls side (call.AwaitRefused side) Receiver) ≡ true → before.ring.marks ≡ []
  refused_left Sender tied answer told = tied.nothing_left told
  refused_left Receiver tied answer told = (item-refused (stopped_by before.sides) before.ring.marks answer).1

  refused_tied : (side : Side) → Tied calls before → Awaits p before side Await.Stopped after → Tied (with_call calls side (call.AwaitRefused side)) after
  refused_tied side tied moved =
      let done = call.AwaitRefused side in record {
        stops = tied.stops;
        stands = quiet side done tied.stops refl refl (await_stands side Await.Stopped tied moved);
        sides = rw moved.after_is (tied-called is_stop is_refusal calls before.sides tied.sides (entered before.sides side) side done (entered-between before.sides side tied.sides.between) refl refl (λ e. await-refused side before moved.answer_is));
        nothing_left = rw moved.after_is (refused_left side tied moved.answer_is);
        area = area-same faults opening before.area after.area calls tied.area side done refl refl (ap (λ (s : Spool A). s.area) moved.after_is);
        tells = subst (λ a. TellsOn told_by opening a) (sym (ap (λ (s : Spool A). s.area) moved.after_is)) tied.tells;
        ready = rw moved.after_is (ready-called calls before.ring before.ring side done tied.ready (λ e. absurd cc) (λ has. has));
        capacity = ap (λ (s : Spool A). s.ring.capacity) moved.after_is ∙ tied.capacity;
        found = found-called room calls side done tied.found tt;
      }

  -- a sender that hasn't stopped: the receiver wasn't told of a stop
  none_told : Tied calls before → has_stopped before.sides Sender ≡ false → was_refused (calls Receiver) ≡ true → ⊥
  none_told tied running told = not_first before.sides.stops Sender running (tied.sides.told Receiver told)

  put_stands : (page : List ℕ) (answer : Moved) (tied : Tied calls before) → Puts told_by faults p before page answer after → StandsFor told_by (sent_with (sent_of (calls Sender)) page answer) (taken_of (calls Receiver)) tied.stops after
  put_stands page answer tied moved =
      put-stands told_by before after (sent_of (calls Sender)) (taken_of (calls Receiver)) tied.stops tied.stands after.area page answer moved.may.may.1 moved.may.has moved.area moved.after_is

  put_tied : (page : List ℕ) → Tied calls before → Puts told_by faults p before page Moved.Done after → Tied (with_call calls Sender (call.Put page)) after
  put_tied page tied moved =
      let done = call.Put page in
      let sides = ap (λ (s : Spool A). s.sides) moved.after_is in
      let ring = ap (λ (s : Spool A). s.ring) moved.after_is in record {
        stops = tied.stops;
        stands = subst (λ sent. StandsFor told_by sent (taken_of (calls Receiver)) tied.stops after) (sym (gives-more page_put calls Sender done)) (put_stands page Moved.Done tied moved);
        sides = rw sides (tied-called is_stop is_refusal calls before.sides tied.sides (continued before.sides Receiver) Sender done (continued-between before.sides Receiver tied.sides.between) refl refl (λ e. absurd cc));
        nothing_left = λ told. absurd (none_told tied moved.may.not_stopped told);
        area = area-moved faults opening before.area after.area calls tied.area Sender done Moved.Done moved.cause refl (λ e. absurd cc);
        tells = λ first. written-told (told_by before.area) (told_by after.area) (next_place before.ring) Moved.Done page moved.area (tied.tells first);
        ready = rw ring (ready-called calls before.ring (with_page before.ring (mark page)) Sender done tied.ready (λ e. absurd cc) (λ has. some_inside before.ring.marks (mark page)));
        capacity = ap (λ (s : Spool A). s.ring.capacity) moved.after_is ∙ tied.capacity;
        found = found-called room calls Sender done tied.found tt;
      }

  put_failed_tied : (page : List ℕ) → Tied calls before → Puts told_by faults p before page Moved.Failed after → Tied (with_call calls Sender (call.PutFailed page)) after
  put_failed_tied page tied moved =
      let done = call.PutFailed page in
      let sides = ap (λ (s : Spool A). s.sides) moved.after_is in
      let ring = ap (λ (s : Spool A). s.ring) moved.after_is in record {
        stops = tied.stops;
        stands = quiet Sender done tied.stops refl refl (put_stands page Moved.Failed tied moved);
        sides = rw sides (tied-called is_stop is_refusal calls before.sides tied.sides before.sides Sender done tied.sides.between refl refl (λ e. absurd cc));
        nothing_left = λ told. absurd (none_told tied moved.may.not_stopped told);
        area = area-moved faults opening before.area after.area calls tied.area Sender done Moved.Failed moved.cause refl (λ e. refl);
        tells = λ first. written-told (told_by before.area) (told_by after.area) (next_place before.ring) Moved.Failed page moved.area (tied.tells first);
        ready = rw ring (ready-called calls before.ring before.ring Sender done tied.ready (λ e. absurd cc) (λ has. has));
        capacity = ap (λ (s : Spool A). s.ring.capacity) moved.after_is ∙ tied.capacity;
        found = found-called room calls Sender done tied.found tt;
      }

  take_stands : (page : List ℕ) (answer : Fetched) (tied : Tied calls before) → Takes told_by faults p before page answer after → StandsFor told_by (sent_of (calls Sender)) (taken_with (taken_of (calls Receiver)) page answer) tied.stops after
  take_stands page answer tied moved =
      take-stands told_by before after (sent_of (calls Sender)) (taken_of (calls Receiver)) tied.stops after.area page answer tied.stands moved.may.may.1 moved.last moved.area moved.after_is

  take_tied : (page : List ℕ) (last : Bool) → Tied calls before → Takes told_by faults p before page (Fetched.Done last) after → Tied (with_call calls Receiver (call.Take page last)) after
  take_tied page last tied moved =
      let done = call.Take page last in
      let sides = ap (λ (s : Spool A). s.sides) moved.after_is in
      let ring = ap (λ (s : Spool A). s.ring) moved.after_is in record {
        stops = tied.stops;
        stands = subst (λ taken. StandsFor told_by (sent_of (calls Sender)) taken tied.stops after) (sym (gives-more page_taken calls Receiver done)) (take_stands page (Fetched.Done last) tied moved);
        sides = rw sides (tied-called is_stop is_refusal calls before.sides tied.sides (continued before.sides Sender) Receiver done (continued-between before.sides Sender tied.sides.between) refl refl (λ e. absurd cc));
        nothing_left = rw ring (λ told. ap (drop 1) (left-same Receiver done refl before.ring.marks tied.nothing_left told));
        area = area-moved faults opening before.area after.area calls tied.area Receiver done Moved.Done moved.cause refl (λ e. absurd cc);
        tells = λ first. ap is_some moved.area.left ∙ tied.tells first;
        ready = rw ring (ready-called calls before.ring (without_first before.ring) Receiver done tied.ready (λ e. absurd cc) (λ has. some_room before.ring.marks before.ring.capacity moved.may.has tied.stands.marks.within));
        capacity = ap (λ (s : Spool A). s.ring.capacity) moved.after_is ∙ tied.capacity;
        found = found-called room calls Receiver done tied.found tt;
      }

  take_failed_tied : (page : List ℕ) → Tied calls before → Takes told_by faults p before page Fetched.Failed after → Tied (with_call calls Receiver call.TakeFailed) after
  take_failed_tied page tied moved =
      let done = call.TakeFailed in
      let sides = ap (λ (s : Spool A). s.sides) moved.after_is in
      let ring = ap (λ (s : Spool A). s.ring) moved.after_is in record {
        stops = tied.stops;
        stands = quiet Receiver done tied.stops refl refl (take_stands page Fetched.Failed tied moved);
        sides = rw sides (tied-called is_stop is_refusal calls before.sides tied.sides before.sides Receiver done tied.sides.between refl refl (λ e. absurd cc));
        nothing_left = rw ring (left-same Receiver done refl before.ring.marks tied.nothing_left);
        area = area-moved faults opening before.area after.area calls tied.area Receiver done Moved.Failed moved.cause refl (λ e. refl);
        tells = λ first. ap is_some moved.area.left ∙ tied.tells first;
        ready = rw ring (ready-called calls before.ring before.ring Receiver done tied.ready (λ e. absurd cc) (λ has. has));
        capacity = ap (λ (s : Spool A). s.ring.capacity) moved.after_is ∙ tied.capacity;
        found = found-called room calls Receiver done tied.found tt;
      }

  stop_tied : (side : Side) → Tied calls before → Stops p before side after → Tied (with_call calls side (call.Stop side)) after
  stop_tied side tied moved =
      let done = call.Stop side in record {
        stops = tied.stops ++ side ∷ [];
        stands = quiet side done (tied.stops ++ side ∷ []) refl refl (stop-stands told_by before after (sent_of (calls Sender)) (taken_of (calls Receiver)) tied.stops tied.stands side moved.may_stop.1 moved.after_is);
        sides = rw moved.after_is (tied-stopped is_stop is_refusal calls before.sides tied.sides side done moved.may_stop.1 refl refl);
        nothing_left = rw moved.after_is (left-same side done refl before.ring.marks tied.nothing_left);
        area = area-same faults opening before.area after.area calls tied.area side done refl refl (ap (λ (s : Spool A). s.area) moved.after_is);
        tells = subst (λ a. TellsOn told_by opening a) (sym (ap (λ (s : Spool A). s.area) moved.after_is)) tied.tells;
        ready = rw moved.after_is (ready-called calls before.ring before.ring side done tied.ready (λ e. absurd cc) (λ has. has));
        capacity = ap (λ (s : Spool A). s.ring.capacity) moved.after_is ∙ tied.capacity;
        found = found-called room calls side done tied.found tt;
      }

  pub rests_tied : Tied calls before → Rests p before after → Tied calls after
  rests_tied tied rested =
      let moved = rested.awaits in
      let side = rested.side in record {
        stops = tied.stops;
        stands = await_stands side Await.Delayed tied moved;
        sides = rw (moved.after_is, moved.process) (tied-waits is_stop is_refusal calls before.sides tied.sides (delayed (entered before.sides side) side (process_at side)) (delayed-between before.sides side tied.sides.between moved.not_stopped) refl);
        nothing_left = rw moved.after_is tied.nothing_left;
        area = subst (λ a. IsTiedToArea faults opening a calls) (sym (ap (λ (s : Spool A). s.area) moved.after_is)) tied.area;
        tells = subst (λ a. TellsOn told_by opening a) (sym (ap (λ (s : Spool A). s.area) moved.after_is)) tied.tells;
        ready = rw moved.after_is tied.ready;
        capacity = ap (λ (s : Spool A). s.ring.capacity) moved.after_is ∙ tied.capacity;
        found = tied.found;
      }

  pub rests_done : Tied calls before → Rests p before after → Suspends handed_to is_waiting p before after
  rests_done tied rested = suspends (rw (rested.awaits.after_is, rested.awaits.process) (delayed-lets_wait before.sides rested.side tied.sides.between))

  -- ---- who waits, and who gets the turn
  pub moves_done : (done : SpoolCall (List ℕ)) → Tied calls before → Moves told_by faults p before done after → Completes handed_to is_waiting IsWoken p before after
  moves_done (call.Await side) tied moved = completes (rw (moved.after_is, moved.process) (entered-lets_out (Lacks before.ring.capacity before.ring.marks) before.sides side tied.sides.between))
  moves_done (call.AwaitRefused side) tied moved = completes (rw (moved.after_is, moved.process) (entered-lets_out (Lacks before.ring.capacity before.ring.marks) before.sides side tied.sides.between))
  moves_done (call.Put page) tied moved =
      let sides = ap (λ (s : Spool A). s.sides) moved.after_is in
      let ring = ap (λ (s : Spool A). s.ring) moved.after_is in
      completes (rw (sides, ring, moved.may.process) (inside-continues (Lacks before.ring.capacity (before.ring.marks ++ mark page ∷ [])) before.sides Sender tied.sides.between moved.may.may (some_inside before.ring.marks (mark page))))
  moves_done (call.PutFailed page) tied moved =
      let sides = ap (λ (s : Spool A). s.sides) moved.after_is in
      let ring = ap (λ (s : Spool A). s.ring) moved.after_is in
      completes (rw (sides, ring, moved.may.process) (unchanged-lets_out (Lacks before.ring.capacity before.ring.marks) before.sides Sender tied.sides.between moved.may.may))
  moves_done (call.Take page last) tied moved =
      let sides = ap (λ (s : Spool A). s.sides) moved.after_is in
      let ring = ap (λ (s : Spool A). s.ring) moved.after_is in
      let room = some_room before.ring.marks before.ring.capacity moved.may.has tied.stands.marks.within in
      completes (rw (sides, ring, moved.may.process) (inside-continues (Lacks before.ring.capacity (drop 1 before.ring.marks)) before.sides Receiver tied.sides.between moved.may.may (λ full. omega arith)))
  moves_done call.TakeFailed tied moved =
      let sides = ap (λ (s : Spool A). s.sides) moved.1.after_is in
      let ring = ap (λ (s : Spool A). s.ring) moved.1.after_is in
      completes (rw (sides, ring, moved.1.may.process) (unchanged-lets_out (Lacks before.ring.capacity before.ring.marks) before.sides Receiver tied.sides.between moved.1.may.may))
  moves_done (call.Stop side) tied moved =
      completes (rw (moved.after_is, moved.process) (stopped-lets_out (Lacks before.ring.capacity before.ring.marks) (Lacks before.ring.capacity before.ring.marks) before.sides side tied.sides.between tied.stands.marks.waits moved.may_stop))

-- the lists of both processes, once one has an entry more
one_more : (lists : ℕ → List (SpoolCall (Snapshot Page))) (p : ℕ) (side : Side) (entry : SpoolCall (Snapshot Page)) → p ≡ process_at side
    → calls_of value (with_entry lists p entry) ≡ with_call (calls_of value lists) side (value entry)
one_more lists p side entry is =
    rw is (calls-with value lists (with_entry lists (process_at side) entry) side entry (with_entry_same lists (process_at side) entry) (with_entry_other lists (process_at side) entry (process_at (other side)) (two-apart side)))

module _ {A : Type 0} (told_by : A → Option (List (List ℕ))) (faults : A → ℕ) (room : ℕ) (opening : A) (before after : Spool A) (lists : ℕ → List (SpoolCall (Snapshot Page))) (p : ℕ) where
  by_side : (side : Side) (entry : SpoolCall (Snapshot Page)) → p ≡ process_at side → IsTied told_by faults room opening (with_call (calls_of value lists) side (value entry)) after
      → IsTied told_by faults room opening (calls_of value (with_entry lists p entry)) after
  by_side side entry is tied = subst (λ calls. IsTied told_by faults room opening calls after) (sym (one_more lists p side entry is)) tied

  pub moves_tied : (entry : SpoolCall (Snapshot Page)) → IsTied told_by faults room opening (calls_of value lists) before → Moves told_by faults p before (value entry) after → IsTied told_by faults room opening (calls_of value (with_entry lists p entry)) after
  moves_tied (call.Await side) tied moved = by_side side (call.Await side) moved.process (await_tied told_by faults room opening before after p (calls_of value lists) side tied moved)
  moves_tied (call.AwaitRefused side) tied moved = by_side side (call.AwaitRefused side) moved.process (refused_tied told_by faults room opening before after p (calls_of value lists) side tied moved)
  moves_tied (call.Put page) tied moved = by_side Sender (call.Put page) moved.may.process (put_tied told_by faults room opening before after p (calls_of value lists) page.value.0 tied moved)
  moves_tied (call.PutFailed page) tied moved = by_side Sender (call.PutFailed page) moved.may.process (put_failed_tied told_by faults room opening before after p (calls_of value lists) page.value.0 tied moved)
  moves_tied (call.Take page last) tied moved = by_side Receiver (call.Take page last) moved.may.process (take_tied told_by faults room opening before after p (calls_of value lists) page.value.0 last tied moved)
  moves_tied call.TakeFailed tied moved = by_side Receiver call.TakeFailed moved.1.may.process (take_failed_tied told_by faults room opening before after p (calls_of value lists) moved.0 tied moved.1)
  moves_tied (call.Stop side) tied moved = by_side side (call.Stop side) moved.process (stop_tied told_by faults room opening before after p (calls_of value lists) side tied moved)
