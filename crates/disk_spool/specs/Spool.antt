-- What a spool answers, how it stands afterwards, and the history that it stands for.
use Rattle.std.specs.Prelude.{◌≡◌, ◌<◌, ℕ, Bool, true, false, not, ◌==◌, Option, Some, List, [], ◌∷◌, ◌++◌, length, drop, map, slice_index}
use Rattle.solo_base.specs.declared.outcome.Side.{Side}
use Rattle.solo_base.specs.declared.outcome.Side.TheVariants.{Sender, Receiver}
use Rattle.queue_var.specs.Circle.{places}
use Rattle.queue_var.specs.Sides.{Sides, nobody, stopped_by, entered, delayed, continued, stopped, other}
use Rattle.queue_var.specs.HandsOver.{HandsOver, StoppedFirst}
use Rattle.solo_devices.specs.Area.{HasSize}
use Rattle.solo_devices.specs.declared.area.Moved.{Moved}
use Rattle.disk_spool.specs.Ring.{Ring, empty_ring, with_page, without_first, at_places}
use Rattle.disk_spool.specs.declared.answers.Await.{Await}
use Rattle.disk_spool.specs.declared.answers.Await.TheVariants.{Ready, Delayed, Stopped}
use Rattle.disk_spool.specs.declared.answers.Fetched.{Fetched}

-- the area, the ring of pages on it, and the two sides
pub record Spool (A : Type 0) : Type 0 where
  pub area : A
  pub ring : Ring
  pub sides : Sides

abbrev pub empty_spool : {A : Type 0} → A → ℕ → Spool A
empty_spool area capacity = record { area = area; ring = empty_ring capacity; sides = nobody }

-- the mark of a last page: its byte 2 isn't 0
abbrev pub mark : List ℕ → Bool
mark page = not (slice_index page 2 == 0)

-- the pages of the ring as they lie on the area, the earliest first
abbrev pub pages_inside : List (List ℕ) → Ring → List (List ℕ)
pages_inside pages ring = at_places [] pages (places ring.capacity ring.first 0 (length ring.marks))

-- what a take handed over: the page as the area gave it, and the mark that was answered
pub record Received : Type 0 where
  pub page : List ℕ
  pub last : Bool

abbrev pub received_page : Received → List ℕ
received_page received = received.page

abbrev pub received_mark : Received → Bool
received_mark received = received.last

-- The pages that were put, what the takes handed over, and which sides have stopped, in order: the spool
-- stands where it does after them. The marks are handed over in order whatever the area does, and so are
-- the pages where the area tells them.
pub record StandsFor {A : Type 0} (told_by : A → Option (List (List ℕ))) (sent : List (List ℕ)) (taken : List Received) (stops : List Side) (spool : Spool A) : Type 0 where
  pub marks : HandsOver spool.ring.capacity (map mark sent) (map received_mark taken) spool.ring.marks spool.sides
  pub pages : (told : List (List ℕ)) → told_by spool.area ≡ Some told → map received_page taken ++ pages_inside told spool.ring ≡ sent
  pub stopped_first : StoppedFirst stops spool.sides.stops
  -- the earliest page lies on the area, which tells as many pages as the ring has places
  pub first_below : spool.ring.first < spool.ring.capacity
  pub size : HasSize (told_by spool.area) spool.ring.capacity

-- by who stopped first, and by whether the ring is full
abbrev pub room_by : Option Side → Bool → Await
room_by (Some Receiver) full = Stopped
room_by by true = Delayed
room_by by false = Ready

abbrev pub room_answer : {A : Type 0} → Spool A → Await
room_answer spool = room_by (stopped_by spool.sides) (length spool.ring.marks == spool.ring.capacity)

-- by who stopped first, and by what is inside
abbrev pub item_by : Option Side → List Bool → Await
item_by by (mark ∷ more) = Ready
item_by (Some Sender) [] = Stopped
item_by by [] = Delayed

abbrev pub item_answer : {A : Type 0} → Spool A → Await
item_answer spool = item_by (stopped_by spool.sides) spool.ring.marks

abbrev pub sides_after_await : Sides → Side → ℕ → Await → Sides
sides_after_await sides side p Ready = entered sides side
sides_after_await sides side p Delayed = delayed (entered sides side) side p
sides_after_await sides side p Stopped = entered sides side

abbrev pub after_await : {A : Type 0} → Spool A → Side → ℕ → Await → Spool A
after_await spool side p answer = record spool { sides = sides_after_await spool.sides side p answer }

-- by the area that the write left, and the mark of the page
abbrev pub after_put : {A : Type 0} → Spool A → A → Bool → Moved → Spool A
after_put spool area mark Moved.Done = record { area = area; ring = with_page spool.ring mark; sides = continued spool.sides Receiver }
after_put spool area mark Moved.Failed = record spool { area = area }

-- what was sent, with this put
abbrev pub sent_with : List (List ℕ) → List ℕ → Moved → List (List ℕ)
sent_with sent page Moved.Done = sent ++ page ∷ []
sent_with sent page Moved.Failed = sent

-- by the area that the read left
abbrev pub after_take : {A : Type 0} → Spool A → A → Fetched → Spool A
after_take spool area (Fetched.Done last) = record { area = area; ring = without_first spool.ring; sides = continued spool.sides Sender }
after_take spool area Fetched.Failed = record spool { area = area }

abbrev pub taken_with : List Received → List ℕ → Fetched → List Received
taken_with taken page (Fetched.Done last) = taken ++ record { page = page; last = last } ∷ []
taken_with taken page Fetched.Failed = taken

-- whether the page was read
abbrev pub moved : Fetched → Moved
moved (Fetched.Done last) = Moved.Done
moved Fetched.Failed = Moved.Failed

-- the mark that is answered is that of the earliest page
abbrev pub AnswersFirst : List Bool → Fetched → Type 0
AnswersFirst marks (Fetched.Done last) = marks ≡ last ∷ drop 1 marks
AnswersFirst marks Fetched.Failed = Unit {0}

abbrev pub after_stop : {A : Type 0} → Spool A → Side → Spool A
after_stop spool side = record spool { sides = continued (stopped spool.sides side) (other side) }
