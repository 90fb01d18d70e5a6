-- What contracts see of the ends of a running spool, and of its gate.
use Rattle.std.specs.Prelude.{◌≡◌, ℕ, ◌-◌, ◌≤◌, true, Option, Some, Result, Ok, Err, List, length, map, take}
use Rattle.solo_base.specs.declared.outcome.Side.{Side}
use Rattle.solo_base.specs.declared.outcome.Side.TheVariants.{Sender, Receiver}
use Rattle.queue_var.specs.BetweenTwo.{WhoStopped}
use Rattle.monitor_gate.specs.Ends.{TableId}
use Rattle.solo_devices.specs.declared.area.Moved.{Moved}
use Rattle.disk_spool.specs.declared.answers.Await.{Await}
use Rattle.disk_spool.specs.declared.answers.Ended.{Ended}
use Rattle.disk_spool.specs.declared.answers.Fetched.{Fetched}
use Rattle.disk_spool.specs.declared.call.SpoolCall.{SpoolCall}
use Rattle.disk_spool.specs.declared.call.SpoolCall.TheVariants as call
use Rattle.disk_spool.specs.Spool.{Spool, empty_spool, mark, received_mark, received_page}
use Rattle.disk_spool.specs.Calls.{IsTied, HaveFound, IsTiedToArea, TellsOn, sent_of, taken_of, has_stop, was_refused}

-- which spool it is, and the area that it was made with
pub record Opened (A : Type 0) : Type 0 where
  pub name : TableId
  pub area : A

-- what an end knows of its spool: which it is, and the state that it was made in
pub record Known (A : Type 0) : Type 0 where
  pub name : TableId
  pub opening : Option (Spool A)

-- what the ends of this spool know of it, by the size of its area
abbrev pub known : {A : Type 0} → ℕ → Opened A → Known A
known size spool = record { name = spool.name; opening = Some (empty_spool spool.area size) }

-- An entry of this side finds the spool in such a state: it is tied to the calls of this side so far, and to
-- some calls of the other side.
pub record Finds {A : Type 0} (told_by : A → Option (List (List ℕ))) (faults : A → ℕ) (opening : A) (side : Side) (own : List (SpoolCall (List ℕ))) (state : Spool A) : Type 0 where
  pub calls : Side → List (SpoolCall (List ℕ))
  pub own_calls : calls side ≡ own
  pub room : ℕ
  pub tied : IsTied told_by faults room opening calls state

-- the call that an await was, by what it gave
abbrev pub await_call : Side → Result (Unit {0}) Ended → SpoolCall (List ℕ)
await_call side (Ok ready) = call.Await side
await_call side (Err ended) = call.AwaitRefused side

-- the answer of the monitor that an await gave
abbrev pub await_given : Result (Unit {0}) Ended → Await
await_given (Ok ready) = Await.Ready
await_given (Err ended) = Await.Stopped

-- the call that a put of this page was, by what it gave
abbrev pub put_call : List ℕ → Moved → SpoolCall (List ℕ)
put_call page Moved.Done = call.Put page
put_call page Moved.Failed = call.PutFailed page

-- the call that a take was which left this page, by what it gave
abbrev pub take_call : List ℕ → Fetched → SpoolCall (List ℕ)
take_call page (Fetched.Done last) = call.Take page last
take_call page Fetched.Failed = call.TakeFailed

-- all but the last so many
abbrev pub without_last : {X : Type 0} → ℕ → List X → List X
without_last left all = take (length all - left) all

-- What stands when both ends have met: the marks that were taken are those of the pages that were put without
-- the last that are left, and so are the pages where the area tells them; it is known who stopped first; a
-- receiver that was told of a stop leaves nothing; the area is what the calls of both made of it, and one
-- that told its pages tells them now.
pub record Meets {A : Type 0} (told_by : A → Option (List (List ℕ))) (faults : A → ℕ) (opening area : A) (calls : Side → List (SpoolCall (List ℕ))) (left : ℕ) (stopped_by : Option Side) : Type 0 where
  pub marks : map received_mark (taken_of (calls Receiver)) ≡ map mark (without_last left (sent_of (calls Sender)))
  pub pages : (told : List (List ℕ)) → told_by area ≡ Some told → map received_page (taken_of (calls Receiver)) ≡ without_last left (sent_of (calls Sender))
  pub few : left ≤ length (sent_of (calls Sender))
  pub stopped : WhoStopped (λ side. has_stop (calls side)) (λ side. was_refused (calls side)) stopped_by
  pub nothing_left : was_refused (calls Receiver) ≡ true → left ≡ 0
  pub of_area : IsTiedToArea faults opening area calls
  pub tells : TellsOn told_by opening area

-- And the room of the spool: no more pages are left than it has places, room was found only where it was, and a page
-- only where one was put.
pub record MeetsRoom (size : ℕ) (calls : Side → List (SpoolCall (List ℕ))) (left : ℕ) : Type 0 where
  pub within : left ≤ size
  pub found : HaveFound size calls
