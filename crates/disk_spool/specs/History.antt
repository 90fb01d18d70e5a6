-- Each entry of a spool keeps its history.
use Rattle.std.proofs.Common.{◌≡◌, ◌≢◌, ℕ, ◌+◌, ◌<◌, ◌≤◌, Option, None, Some, Bool, true, false, ◌==◌, List, [], ◌∷◌, ◌++◌, length, drop, map, get_or, set, refl, sym, ◌∙◌, ap, subst, append_assoc, length-set, add-one, arith}
use Rattle.std.specs.Prelude.{slice_get, slice_set, unwrap_or}
use Rattle.std.proofs.lemmas.List.{map_push, length_push}
use Rattle.std.proofs.lemmas.Option.{unwrap_or-slice_get, get_or_from_slice_get}
use Rattle.std.proofs.lemmas.Bool.{eqb-true}
use Rattle.solo_base.specs.declared.outcome.Side.{Side}
use Rattle.solo_base.specs.declared.outcome.Side.TheVariants.{Sender, Receiver}
use Rattle.queue_var.specs.Circle.{places}
use Rattle.queue_var.specs.Sides.{Sides, MayEnter, queue, stopped_by, has_stopped, continued, stopped}
use Rattle.queue_var.specs.HandsOver.{WaitsWithCause, HandsOver, StoppedFirst, Lacks}
use Rattle.queue_var.proofs.Waits.{waits-entered, waits-turned_away, waits-delayed, waits-continued, stops-more, not_first}
use Rattle.solo_devices.specs.Area.{ReadsFrom, Writes, HasSize, IsSameBut}
use Rattle.solo_devices.specs.declared.area.Moved.{Moved}
use Rattle.disk_spool.specs.Ring.{Ring, next_place, with_page, without_first, at_places}
use Rattle.disk_spool.specs.Spool.{Spool, Received, StandsFor, received_page, received_mark, mark, pages_inside, room_by, room_answer, item_by, item_answer, sides_after_await, after_await, after_put, sent_with, after_take, taken_with, moved, AnswersFirst, after_stop}
use Rattle.disk_spool.specs.declared.answers.Await.{Await}
use Rattle.disk_spool.specs.declared.answers.Await.TheVariants.{Ready, Delayed, Stopped}
use Rattle.disk_spool.specs.declared.answers.Fetched.{Fetched}
use Rattle.disk_spool.specs.Places.{place_below, kept_behind, put_behind, earliest_apart}

-- ---- the awaits
room_waits : {T : Type 0} (capacity : ℕ) (marks : List T) (sides : Sides) (by : Option Side) (full : Bool) (p : ℕ) → stopped_by sides ≡ by → (length marks == capacity) ≡ full
    → MayEnter sides Sender p → has_stopped sides Sender ≡ false → WaitsWithCause (Lacks capacity marks) sides → WaitsWithCause (Lacks capacity marks) (sides_after_await sides Sender p (room_by by full))
room_waits capacity marks sides (Some Receiver) full p is count may not_yet w = waits-turned_away (Lacks capacity marks) (Lacks capacity marks) sides Sender p Receiver may w is
room_waits capacity marks sides (Some Sender) full p is count may not_yet w = absurd (not_first sides.stops Sender not_yet is)
room_waits capacity marks sides None true p is count may not_yet w = waits-delayed (Lacks capacity marks) sides Sender p may w (eqb-true (length marks) capacity count) is
room_waits capacity marks sides None false p is count may not_yet w = waits-entered (Lacks capacity marks) sides Sender p may w

item_waits : (capacity : ℕ) (marks : List Bool) (sides : Sides) (by : Option Side) (p : ℕ) → stopped_by sides ≡ by
    → MayEnter sides Receiver p → has_stopped sides Receiver ≡ false → WaitsWithCause (Lacks capacity marks) sides → WaitsWithCause (Lacks capacity marks) (sides_after_await sides Receiver p (item_by by marks))
item_waits capacity (first ∷ more) sides by p is may not_yet w = waits-entered (Lacks capacity (first ∷ more)) sides Receiver p may w
item_waits capacity [] sides (Some Sender) p is may not_yet w = waits-turned_away (Lacks capacity []) (Lacks capacity []) sides Receiver p Sender may w is
item_waits capacity [] sides (Some Receiver) p is may not_yet w = absurd (not_first sides.stops Receiver not_yet is)
item_waits capacity [] sides None p is may not_yet w = waits-delayed (Lacks capacity []) sides Receiver p may w refl is

-- an await leaves all but who waits
stops_stay : (sides : Sides) (side : Side) (p : ℕ) (answer : Await) → (sides_after_await sides side p answer).stops ≡ sides.stops
stops_stay sides side p Ready = refl
stops_stay sides side p Delayed = refl
stops_stay sides side p Stopped = refl

module _ {A : Type 0} (told_by : A → Option (List (List ℕ))) (spool new : Spool A) (sent : List (List ℕ)) (taken : List Received) (stops : List Side) (h : StandsFor told_by sent taken stops spool) where
  await_stands : (side : Side) (p : ℕ) (answer : Await) → new ≡ after_await spool side p answer
      → WaitsWithCause (Lacks spool.ring.capacity spool.ring.marks) (sides_after_await spool.sides side p answer) → StandsFor told_by sent taken stops new
  await_stands side p answer n waits =
      rw n
      record {
        marks = record { in_order = h.marks.in_order; within = h.marks.within; waits = waits };
        pages = h.pages;
        stopped_first = subst (StoppedFirst stops) (sym (stops_stay spool.sides side p answer)) h.stopped_first;
        first_below = h.first_below;
        size = h.size;
      }

  pub room-stands : (p : ℕ) (answer : Await) → MayEnter spool.sides Sender p → has_stopped spool.sides Sender ≡ false → answer ≡ room_answer spool
      → new ≡ after_await spool Sender p answer → StandsFor told_by sent taken stops new
  room-stands p answer may not_yet a n =
      await_stands Sender p answer n (rw a (room_waits spool.ring.capacity spool.ring.marks spool.sides (stopped_by spool.sides) (length spool.ring.marks == spool.ring.capacity) p refl refl may not_yet h.marks.waits))

  pub item-stands : (p : ℕ) (answer : Await) → MayEnter spool.sides Receiver p → has_stopped spool.sides Receiver ≡ false → answer ≡ item_answer spool
      → new ≡ after_await spool Receiver p answer → StandsFor told_by sent taken stops new
  item-stands p answer may not_yet a n =
      await_stands Receiver p answer n (rw a (item_waits spool.ring.capacity spool.ring.marks spool.sides (stopped_by spool.sides) p refl may not_yet h.marks.waits))

  pub stop-stands : (side : Side) → queue spool.sides side ≡ None → new ≡ after_stop spool side → StandsFor told_by sent taken (stops ++ side ∷ []) new
  stop-stands side none n =
      rw n
      record {
        marks = record { in_order = h.marks.in_order; within = h.marks.within; waits = waits-continued (Lacks spool.ring.capacity spool.ring.marks) (stopped spool.sides side) side none };
        pages = h.pages;
        stopped_first = stops-more stops spool.sides.stops side h.stopped_first;
        first_below = h.first_below;
        size = h.size;
      }

-- ---- the pages on the area
-- a write keeps how many pages the area has
pub size_kept : (before now : Option (List (List ℕ))) (n size : ℕ) (answer : Moved) (page : List ℕ) → Writes before now n answer page → HasSize before size → HasSize now size
size_kept None now n size answer page w h told is = let none = w.untold refl in cc
size_kept (Some all) now n size Moved.Done page w h told is =
    let same : told ≡ slice_set all n page = (let wrote = w.told all refl in cc) in
    ap length same ∙ length-set all n page ∙ h all refl
size_kept (Some all) now n size Moved.Failed page w h told is =
    let wrote = w.told all refl in
    let same : told ≡ wrote.0 = (let is_after = wrote.1 in cc) in
    ap length same ∙ wrote.2.as_many ∙ h all refl

-- a write that failed leaves the pages at the places of the ring
spoiled_apart : (n : ℕ) (told after : List (List ℕ)) → IsSameBut n told after → (j : ℕ) → j ≢ n → get_or after j [] ≡ get_or told j []
spoiled_apart n told after same j apart = sym (unwrap_or-slice_get after j []) ∙ ap (λ found. unwrap_or found []) (same.others j apart) ∙ unwrap_or-slice_get told j []

-- what was taken and what lies on the area are what was sent, after a put that is done
module _ (ring : Ring) (page : List ℕ) (inside : ring.first < ring.capacity) (room : length ring.marks < ring.capacity) where
  pages_added : (told : List (List ℕ)) (m : Bool) → length told ≡ ring.capacity → pages_inside (set told (next_place ring) page) (with_page ring m) ≡ pages_inside told ring ++ page ∷ []
  pages_added told m as_many =
      ap (λ n. at_places [] (set told (next_place ring) page) (places ring.capacity ring.first 0 n)) (length_push ring.marks m)
      ∙ put_behind [] told page ring.capacity ring.first (length ring.marks) inside room (omega arith)

  pages_kept : (told after : List (List ℕ)) → IsSameBut (next_place ring) told after → pages_inside after ring ≡ pages_inside told ring
  pages_kept told after same = kept_behind [] told after ring.capacity ring.first (length ring.marks) inside room (spoiled_apart (next_place ring) told after same)

abbrev ring_after_put : Ring → Bool → Moved → Ring
ring_after_put ring m Moved.Done = with_page ring m
ring_after_put ring m Moved.Failed = ring

put_pages : (before now : Option (List (List ℕ))) (ring : Ring) (m : Bool) (answer : Moved) (page : List ℕ) (sent : List (List ℕ)) (taken : List Received)
    → Writes before now (next_place ring) answer page → HasSize before ring.capacity → ring.first < ring.capacity → length ring.marks < ring.capacity
    → ((told : List (List ℕ)) → before ≡ Some told → map received_page taken ++ pages_inside told ring ≡ sent)
    → (told : List (List ℕ)) → now ≡ Some told → map received_page taken ++ pages_inside told (ring_after_put ring m answer) ≡ sent_with sent page answer
put_pages None now ring m answer page sent taken w size inside room h told is = let none = w.untold refl in cc
put_pages (Some all) now ring m Moved.Done page sent taken w size inside room h told is =
    let same : told ≡ slice_set all (next_place ring) page = (let wrote = w.told all refl in cc) in
    ap (λ pages. map received_page taken ++ pages_inside pages (with_page ring m)) same
    ∙ ap (λ inside. map received_page taken ++ inside) (pages_added ring page inside room all m (size all refl))
    ∙ sym (append_assoc (map received_page taken) (pages_inside all ring) (page ∷ [])) ∙ ap (λ pages. pages ++ page ∷ []) (h all refl)
put_pages (Some all) now ring m Moved.Failed page sent taken w size inside room h told is =
    let wrote = w.told all refl in
    let same : told ≡ wrote.0 = (let is_after = wrote.1 in cc) in
    ap (λ pages. map received_page taken ++ pages_inside pages ring) same ∙ ap (λ inside. map received_page taken ++ inside) (pages_kept ring page inside room all wrote.0 wrote.2) ∙ h all refl

-- the marks, after a put that is done
marks_added : (capacity : ℕ) (sent : List (List ℕ)) (lasts : List Bool) (marks : List Bool) (page : List ℕ) (sides : Sides) → length marks < capacity → queue sides Sender ≡ None
    → HandsOver capacity (map mark sent) lasts marks sides → HandsOver capacity (map mark (sent ++ page ∷ [])) lasts (marks ++ mark page ∷ []) (continued sides Receiver)
marks_added capacity sent lasts marks page sides room none h = record {
  in_order = sym (append_assoc lasts marks (mark page ∷ [])) ∙ ap (λ all. all ++ mark page ∷ []) h.in_order ∙ sym (map_push mark sent page);
  within = omega (arith, length_push marks (mark page));
  waits = waits-continued (Lacks capacity (marks ++ mark page ∷ [])) sides Sender none;
}

after_put_marks : {A : Type 0} (spool : Spool A) (area : A) (answer : Moved) (sent : List (List ℕ)) (lasts : List Bool) (page : List ℕ) → length spool.ring.marks < spool.ring.capacity → queue spool.sides Sender ≡ None
    → HandsOver spool.ring.capacity (map mark sent) lasts spool.ring.marks spool.sides
    → (let new = after_put spool area (mark page) answer in HandsOver new.ring.capacity (map mark (sent_with sent page answer)) lasts new.ring.marks new.sides)
after_put_marks spool area Moved.Done sent lasts page room none h = marks_added spool.ring.capacity sent lasts spool.ring.marks page spool.sides room none h
after_put_marks spool area Moved.Failed sent lasts page room none h = h

after_put_ring : {A : Type 0} (spool : Spool A) (area : A) (m : Bool) (answer : Moved) → (after_put spool area m answer).ring ≡ ring_after_put spool.ring m answer
after_put_ring spool area m Moved.Done = refl
after_put_ring spool area m Moved.Failed = refl

after_put_first : {A : Type 0} (spool : Spool A) (area : A) (m : Bool) (answer : Moved) → spool.ring.first < spool.ring.capacity → (after_put spool area m answer).ring.first < (after_put spool area m answer).ring.capacity
after_put_first spool area m Moved.Done below = below
after_put_first spool area m Moved.Failed below = below

after_put_capacity : {A : Type 0} (spool : Spool A) (area : A) (m : Bool) (answer : Moved) → (after_put spool area m answer).ring.capacity ≡ spool.ring.capacity
after_put_capacity spool area m Moved.Done = refl
after_put_capacity spool area m Moved.Failed = refl

after_put_area : {A : Type 0} (spool : Spool A) (area : A) (m : Bool) (answer : Moved) → (after_put spool area m answer).area ≡ area
after_put_area spool area m Moved.Done = refl
after_put_area spool area m Moved.Failed = refl

after_put_stops : {A : Type 0} (spool : Spool A) (area : A) (m : Bool) (answer : Moved) → (after_put spool area m answer).sides.stops ≡ spool.sides.stops
after_put_stops spool area m Moved.Done = refl
after_put_stops spool area m Moved.Failed = refl

module _ {A : Type 0} (told_by : A → Option (List (List ℕ))) (spool new : Spool A) (sent : List (List ℕ)) (taken : List Received) (stops : List Side) (h : StandsFor told_by sent taken stops spool) where
  put_size : (area : A) (m : Bool) (page : List ℕ) (answer : Moved) → Writes (told_by spool.area) (told_by area) (next_place spool.ring) answer page
      → HasSize (told_by (after_put spool area m answer).area) (after_put spool area m answer).ring.capacity
  put_size area m page answer w told is =
      size_kept (told_by spool.area) (told_by area) (next_place spool.ring) spool.ring.capacity answer page w h.size told (ap told_by (sym (after_put_area spool area m answer)) ∙ is)
      ∙ sym (after_put_capacity spool area m answer)

  pub put-stands : (area : A) (page : List ℕ) (answer : Moved) → queue spool.sides Sender ≡ None → length spool.ring.marks < spool.ring.capacity
      → Writes (told_by spool.area) (told_by area) (next_place spool.ring) answer page
      → new ≡ after_put spool area (mark page) answer → StandsFor told_by (sent_with sent page answer) taken stops new
  put-stands area page answer none room w n =
      rw n
      record {
        marks = after_put_marks spool area answer sent (map received_mark taken) page room none h.marks;
        pages = λ told is.
            ap (λ ring. map received_page taken ++ pages_inside told ring) (after_put_ring spool area (mark page) answer)
            ∙ put_pages (told_by spool.area) (told_by area) spool.ring (mark page) answer page sent taken w h.size h.first_below room h.pages told
            (ap told_by (sym (after_put_area spool area (mark page) answer)) ∙ is);
        stopped_first = subst (StoppedFirst stops) (sym (after_put_stops spool area (mark page) answer)) h.stopped_first;
        first_below = after_put_first spool area (mark page) answer h.first_below;
        size = put_size area (mark page) page answer w;
      }

-- the earliest page, and then the others
first_page : (told : List (List ℕ)) (ring : Ring) (page : List ℕ) (last : Bool) → ring.first < ring.capacity → length ring.marks ≤ ring.capacity
    → ring.marks ≡ last ∷ drop 1 ring.marks → slice_get told ring.first ≡ Some page → pages_inside told ring ≡ page ∷ pages_inside told (without_first ring)
first_page told ring page last inside within first read =
    let count : length ring.marks ≡ length (drop 1 ring.marks) + 1 = ap length first ∙ sym (add-one (length (drop 1 ring.marks))) in
    ap (λ n. at_places [] told (places ring.capacity ring.first 0 n)) count
    ∙ earliest_apart [] told ring.capacity ring.first (length (drop 1 ring.marks)) inside (omega arith)
    ∙ ap (λ found. found ∷ pages_inside told (without_first ring)) (get_or_from_slice_get told ring.first page [] read)

-- the marks and the pages, after a take that is done
marks_removed : (capacity : ℕ) (sent : List (List ℕ)) (taken : List Received) (marks : List Bool) (page : List ℕ) (last : Bool) (sides : Sides) → marks ≡ last ∷ drop 1 marks → queue sides Receiver ≡ None
    → HandsOver capacity (map mark sent) (map received_mark taken) marks sides
    → HandsOver capacity (map mark sent) (map received_mark (taken ++ record { page = page; last = last } ∷ [])) (drop 1 marks) (continued sides Sender)
marks_removed capacity sent taken marks page last sides first none h = record {
  in_order = ap (λ all. all ++ drop 1 marks) (map_push received_mark taken (record { page = page; last = last })) ∙ append_assoc (map received_mark taken) (last ∷ []) (drop 1 marks)
      ∙ ap (λ inside. map received_mark taken ++ inside) (sym first) ∙ h.in_order;
  within = let within = h.within in omega (arith, ap length first);
  waits = waits-continued (Lacks capacity (drop 1 marks)) sides Receiver none;
}

after_take_stands : {A : Type 0} (told_by : A → Option (List (List ℕ))) (spool : Spool A) (sent : List (List ℕ)) (taken : List Received) (stops : List Side) (area : A) (page : List ℕ) (answer : Fetched)
    → StandsFor told_by sent taken stops spool → queue spool.sides Receiver ≡ None → AnswersFirst spool.ring.marks answer
    → ReadsFrom (told_by spool.area) (told_by area) spool.ring.first (moved answer) page → StandsFor told_by sent (taken_with taken page answer) stops (after_take spool area answer)
after_take_stands told_by spool sent taken stops area page (Fetched.Done last) h none first r = record {
  marks = marks_removed spool.ring.capacity sent taken spool.ring.marks page last spool.sides first none h.marks;
  pages = λ told is.
      let was : told_by spool.area ≡ Some told = sym r.left ∙ is in
      ap (λ all. all ++ pages_inside told (without_first spool.ring)) (map_push received_page taken (record { page = page; last = last }))
      ∙ append_assoc (map received_page taken) (page ∷ []) (pages_inside told (without_first spool.ring))
      ∙ ap (λ inside. map received_page taken ++ inside) (sym (first_page told spool.ring page last h.first_below h.marks.within first (r.told told was)))
      ∙ h.pages told was;
  stopped_first = h.stopped_first;
  first_below = let below = h.first_below in place_below spool.ring.capacity spool.ring.first 1 below (omega arith);
  size = λ told is. h.size told (sym r.left ∙ is);
}
after_take_stands told_by spool sent taken stops area page Fetched.Failed h none first r = record {
  marks = h.marks;
  pages = λ told is. h.pages told (sym r.left ∙ is);
  stopped_first = h.stopped_first;
  first_below = h.first_below;
  size = λ told is. h.size told (sym r.left ∙ is);
}

pub take-stands : {A : Type 0} (told_by : A → Option (List (List ℕ))) (spool new : Spool A) (sent : List (List ℕ)) (taken : List Received) (stops : List Side) (area : A) (page : List ℕ) (answer : Fetched)
    → StandsFor told_by sent taken stops spool → queue spool.sides Receiver ≡ None → AnswersFirst spool.ring.marks answer
    → ReadsFrom (told_by spool.area) (told_by area) spool.ring.first (moved answer) page → new ≡ after_take spool area answer → StandsFor told_by sent (taken_with taken page answer) stops new
take-stands told_by spool new sent taken stops area page answer h none first r n =
    rw n (after_take_stands told_by spool sent taken stops area page answer h none first r)
