-- A call may wake one that sleeps, and a delay puts one to sleep.
use Rattle.std.proofs.Common.{◌≡◌, ◌⊎◌, inl, inr, ℕ, ◌+◌, ◌≤◌, ◌<◌, Bool, true, false, List, [], ◌∷◌, length, length-append, Option, None, Some, refl, sym, ◌∙◌, ap, arith}
use Rattle.solo_base.specs.declared.outcome.Side.{Side}
use Rattle.solo_base.specs.declared.outcome.Side.TheVariants.{Sender, Receiver}
use Rattle.queue_var.specs.declared.turn.Turn.{Turn}
use Rattle.queue_var.specs.declared.turn.Turn.TheVariants.{Free, Handed}
use Rattle.queue_var.specs.Sides.{Sides, MayEnter, MayStop, entered, delayed}
use Rattle.resource_mon.specs.Claims.{later_of}
use Rattle.batch_procs.specs.Parcels.{Parcel, is_last}
use Rattle.network_law.specs.Acts.{Call, Alone, At, Asks, Gives, Visit, Awaits, Passes, Moves, Stops, Went, Delayed, Told, Done, Moved, is_delayed}
use Rattle.network_law.specs.Buffer.{Buffer, after_visit, MayVisit, VisitFits}
use Rattle.network_law.specs.Desk.{Desk, after_asking, after_grant}
use Rattle.network_law.specs.Network.{MayCall, Fits, buffers_after, desk_after}
use Rattle.core_law.specs.Core.{CoreState, IsBuffer}
use Rattle.core_law.proofs.Row.{each-buffer}
use Rattle.core_law.specs.Work.{sleeps, sleepers_at, sleepers}
use Rattle.batch_procs.specs.Jobs.{Jobs, AreJobs}

-- ---- no more than there are queues
pub sleeps-most : (side : Side) (turn : Turn Side) (q : Option ℕ) → sleeps side turn q ≤ 1
sleeps-most side turn None = omega arith
sleeps-most Sender (Handed Sender) (Some p) = omega arith
sleeps-most Sender (Handed Receiver) (Some p) = omega arith
sleeps-most Sender Free (Some p) = omega arith
sleeps-most Receiver (Handed Sender) (Some p) = omega arith
sleeps-most Receiver (Handed Receiver) (Some p) = omega arith
sleeps-most Receiver Free (Some p) = omega arith

module _ {L : Type 0} {J : Jobs L} (jobs : AreJobs J) where
  -- ---- what a call wakes
  abbrev pub moves : Went (Parcel L) → ℕ
  moves (Moved parcel) = 1
  moves went = 0

  abbrev pub visit_wakes : Visit → Went (Parcel L) → ℕ
  visit_wakes Awaits went = moves went
  visit_wakes Passes went = moves went
  visit_wakes Moves went = moves went
  visit_wakes Stops went = 1

  abbrev pub wakes : Call → Went (Parcel L) → ℕ
  wakes Alone went = 0
  wakes (At b side visit) went = visit_wakes visit went
  wakes Asks went = 0
  wakes Gives went = 1

  -- a delay puts one to sleep; any other call wakes at most so many
  abbrev pub Slept : Bool → ℕ → ℕ → ℕ → Type 0
  Slept true n before after = after ≡ before + 1
  Slept false n before after = before ≤ after + n

  abbrev counted : Option ℕ → ℕ
  counted None = 0
  counted (Some q) = 1

  -- ---- who enters doesn't sleep
  enter-sender : (turn : Turn Side) (s r : Option ℕ) (p : ℕ) → ((turn ≡ Free) × (s ≡ None)) ⊎ ((turn ≡ Handed Sender) × (s ≡ Some p))
      → sleeps Sender turn s + sleeps Receiver turn r ≡ counted r
  enter-sender turn s None p (inl e) = rw (e.0, e.1) refl
  enter-sender turn s (Some q) p (inl e) = rw (e.0, e.1) refl
  enter-sender turn s None p (inr e) = rw (e.0, e.1) refl
  enter-sender turn s (Some q) p (inr e) = rw (e.0, e.1) refl

  enter-receiver : (turn : Turn Side) (s r : Option ℕ) (p : ℕ) → ((turn ≡ Free) × (r ≡ None)) ⊎ ((turn ≡ Handed Receiver) × (r ≡ Some p))
      → sleeps Sender turn s + sleeps Receiver turn r ≡ counted s
  enter-receiver turn None r p (inl e) = rw (e.0, e.1) refl
  enter-receiver turn (Some q) r p (inl e) = rw (e.0, e.1) refl
  enter-receiver turn None r p (inr e) = rw (e.0, e.1) refl
  enter-receiver turn (Some q) r p (inr e) = rw (e.0, e.1) refl

  sender-asleep : (r : Option ℕ) (p : ℕ) → sleeps Sender Free (Some p) + sleeps Receiver Free r ≡ counted r + 1
  sender-asleep None p = refl
  sender-asleep (Some q) p = refl

  receiver-asleep : (s : Option ℕ) (p : ℕ) → sleeps Sender Free s + sleeps Receiver Free (Some p) ≡ counted s + 1
  receiver-asleep None p = refl
  receiver-asleep (Some q) p = refl

  put-to-sleep : (sides : Sides) (side : Side) (p : ℕ) → MayEnter sides side p
      → sleepers_at (delayed (entered sides side) side p) ≡ sleepers_at sides + 1
  put-to-sleep sides Sender p may =
      sender-asleep sides.receiver p ∙ ap (λ n. n + 1) (sym (enter-sender sides.turn sides.sender sides.receiver p may))
  put-to-sleep sides Receiver p may =
      receiver-asleep sides.sender p ∙ ap (λ n. n + 1) (sym (enter-receiver sides.turn sides.sender sides.receiver p may))

  counted-most : (q : Option ℕ) (n : ℕ) → n ≡ counted q → n ≤ 1
  counted-most None n e = omega (arith, e)
  counted-most (Some q) n e = omega (arith, e)

  entering-one : (sides : Sides) (side : Side) (p : ℕ) → MayEnter sides side p → sleepers_at sides ≤ 1
  entering-one sides Sender p may = counted-most sides.receiver (sleepers_at sides) (enter-sender sides.turn sides.sender sides.receiver p may)
  entering-one sides Receiver p may = counted-most sides.sender (sleepers_at sides) (enter-receiver sides.turn sides.sender sides.receiver p may)

  stopping-one : (sides : Sides) (side : Side) → MayStop sides side → sleepers_at sides ≤ 1
  stopping-one sides side may = entering-one sides side 0 (inl may)

  woken : (before after : ℕ) → before ≤ 1 → before ≤ after + 1
  woken before after few = omega (arith, few)

  sender-in : (r : Option ℕ) → sleeps Sender Free None + sleeps Receiver Free r ≡ counted r
  sender-in None = refl
  sender-in (Some q) = refl

  receiver-in : (s : Option ℕ) → sleeps Sender Free s + sleeps Receiver Free None ≡ counted s
  receiver-in None = refl
  receiver-in (Some q) = refl

  same-in : (before after : ℕ) → after ≡ before → before ≤ after + 0
  same-in before after e = omega (arith, e)

  let-in : (sides : Sides) (side : Side) (p : ℕ) → MayEnter sides side p → sleepers_at (entered sides side) ≡ sleepers_at sides
  let-in sides Sender p may = sender-in sides.receiver ∙ sym (enter-sender sides.turn sides.sender sides.receiver p may)
  let-in sides Receiver p may = receiver-in sides.sender ∙ sym (enter-receiver sides.turn sides.sender sides.receiver p may)

  -- ---- a call at a buffer
  waits-slept : (mark : Parcel L → Bool) (side : Side) (buffer : Buffer (Parcel L)) (p : ℕ) (went : Went (Parcel L)) → MayEnter buffer.sides side p
      → Slept (is_delayed went) (moves went) (sleepers_at buffer.sides) (sleepers_at (after_visit mark Awaits side p went buffer).sides)
  waits-slept mark side buffer p Delayed may = put-to-sleep buffer.sides side p may
  waits-slept mark side buffer p Told may = same-in _ _ (let-in buffer.sides side p may)
  waits-slept mark side buffer p Done may = same-in _ _ (let-in buffer.sides side p may)
  waits-slept mark side buffer p (Moved parcel) may = woken _ _ (entering-one buffer.sides side p may)

  visit-slept : (mark : Parcel L → Bool) (side : Side) (buffer : Buffer (Parcel L)) (visit : Visit) (p : ℕ) (went : Went (Parcel L))
      → MayVisit buffer.sides side p visit → VisitFits mark side buffer visit went
      → Slept (is_delayed went) (visit_wakes visit went) (sleepers_at buffer.sides) (sleepers_at (after_visit mark visit side p went buffer).sides)
  visit-slept mark side buffer Awaits p went may fits = waits-slept mark side buffer p went may
  visit-slept mark side buffer Passes p went may fits = waits-slept mark side buffer p went may
  visit-slept mark side buffer Moves p Delayed may fits = absurd fits
  visit-slept mark side buffer Moves p Told may fits = absurd fits
  visit-slept mark side buffer Moves p Done may fits = same-in _ _ refl
  visit-slept mark side buffer Moves p (Moved parcel) may fits = woken _ _ (stopping-one buffer.sides side may)
  visit-slept mark side buffer Stops p Delayed may fits = absurd cc
  visit-slept mark side buffer Stops p Told may fits = absurd cc
  visit-slept mark side buffer Stops p Done may fits = woken _ _ (stopping-one buffer.sides side may)
  visit-slept mark side buffer Stops p (Moved parcel) may fits = absurd cc

  -- ---- a call at the desk
  grant-same : (turn : Option ℕ) (desk : Desk) (p : ℕ) → (after_grant turn desk p).claims.waiting ≡ desk.claims.waiting
  grant-same None desk p = refl
  grant-same (Some q) desk p = refl

  same-slept : (before after : List ℕ) → after ≡ before → length before ≤ length after + 0
  same-slept before after e = (let same : length after ≡ length before = ap length e in omega (arith, same))

  asks-slept : (desk : Desk) (p : ℕ) (went : Went (Parcel L))
      → Slept (is_delayed went) 0 (length desk.claims.waiting) (length (after_asking desk p went).claims.waiting)
  asks-slept desk p Delayed = length-append desk.claims.waiting (p ∷ [])
  asks-slept desk p Told = same-slept _ _ (grant-same desk.claims.handed desk p)
  asks-slept desk p Done = same-slept _ _ (grant-same desk.claims.handed desk p)
  asks-slept desk p (Moved parcel) = same-slept _ _ (grant-same desk.claims.handed desk p)

  later-slept : (waiting : List ℕ) → length waiting ≤ length (later_of waiting) + 1
  later-slept [] = omega arith
  later-slept (q ∷ later) = omega arith

  -- ---- among all that sleep
  among : (d : Bool) (n a b rest x y : ℕ) → x ≡ a + rest → y ≡ b + rest → Slept d n a b → Slept d n x y
  among true n a b rest x y e f slept = omega (arith, e, f, slept)
  among false n a b rest x y e f slept = omega (arith, e, f, slept)

  same-still : (w : Went (Parcel L)) (n : ℕ) → w ≡ Done → Slept (is_delayed w) 0 n n
  same-still Delayed n e = absurd cc
  same-still Told n e = omega arith
  same-still Done n e = omega arith
  same-still (Moved parcel) n e = omega arith

  gives-still : (w : Went (Parcel L)) (waiting : List ℕ) → w ≡ Done → Slept (is_delayed w) 1 (length waiting) (length (later_of waiting))
  gives-still Delayed waiting e = absurd cc
  gives-still Told waiting e = later-slept waiting
  gives-still Done waiting e = later-slept waiting
  gives-still (Moved parcel) waiting e = later-slept waiting

  module _ (s : CoreState L) (p : ℕ) where
    -- behind a call that went so
    abbrev after : Call → Went (Parcel L) → CoreState L
    after c w = record s { buffers = buffers_after is_last c p w s.buffers; desk = desk_after c p w s.desk }

    abbrev at : ℕ → ℕ
    at b = sleepers_at (s.buffers b).sides

    abbrev waiting : ℕ
    waiting = length s.desk.claims.waiting

    at-slept : (b : ℕ) (side : Side) (visit : Visit) (w : Went (Parcel L)) → IsBuffer b → MayVisit (s.buffers b).sides side p visit
        → VisitFits is_last side (s.buffers b) visit w → Slept (is_delayed w) (visit_wakes visit w) (sleepers s) (sleepers (after (At b side visit) w))
    at-slept b side visit w is =
        each-buffer (λ b. MayVisit (s.buffers b).sides side p visit → VisitFits is_last side (s.buffers b) visit w
        → Slept (is_delayed w) (visit_wakes visit w) (sleepers s) (sleepers (after (At b side visit) w))) b is
        (λ may fits. among (is_delayed w) (visit_wakes visit w) (at 1) _ (at 2 + at 3 + at 4 + waiting) _ _ (omega arith) (omega arith)
        (visit-slept is_last side (s.buffers 1) visit p w may fits))
        (λ may fits. among (is_delayed w) (visit_wakes visit w) (at 2) _ (at 1 + at 3 + at 4 + waiting) _ _ (omega arith) (omega arith)
        (visit-slept is_last side (s.buffers 2) visit p w may fits))
        (λ may fits. among (is_delayed w) (visit_wakes visit w) (at 3) _ (at 1 + at 2 + at 4 + waiting) _ _ (omega arith) (omega arith)
        (visit-slept is_last side (s.buffers 3) visit p w may fits))
        (λ may fits. among (is_delayed w) (visit_wakes visit w) (at 4) _ (at 1 + at 2 + at 3 + waiting) _ _ (omega arith) (omega arith)
        (visit-slept is_last side (s.buffers 4) visit p w may fits))

    pub call-slept : (c : Call) (w : Went (Parcel L)) → ((b : ℕ) (side : Side) (visit : Visit) → c ≡ At b side visit → IsBuffer b) → MayCall s p c
        → Fits is_last s c w → Slept (is_delayed w) (wakes c w) (sleepers s) (sleepers (after c w))
    call-slept Alone w place may fits = same-still w (sleepers s) fits
    call-slept (At b side visit) w place may fits = at-slept b side visit w (place b side visit refl) may fits
    call-slept Asks w place may fits =
        among (is_delayed w) 0 waiting _ (at 1 + at 2 + at 3 + at 4) _ _ (omega arith) (omega arith) (asks-slept s.desk p w)
    call-slept Gives w place may fits =
        among (is_delayed w) 1 waiting _ (at 1 + at 2 + at 3 + at 4) _ _ (omega arith) (omega arith) (gives-still w s.desk.claims.waiting fits)

  moves-most : (w : Went (Parcel L)) → moves w ≤ 1
  moves-most Delayed = omega arith
  moves-most Told = omega arith
  moves-most Done = omega arith
  moves-most (Moved parcel) = omega arith

  pub wakes-most : (c : Call) (w : Went (Parcel L)) → wakes c w ≤ 1
  wakes-most Alone w = omega arith
  wakes-most (At b side Awaits) w = moves-most w
  wakes-most (At b side Passes) w = moves-most w
  wakes-most (At b side Moves) w = moves-most w
  wakes-most (At b side Stops) w = omega arith
  wakes-most Asks w = omega arith
  wakes-most Gives w = omega arith

  two-most : (sides : Sides) → sleepers_at sides ≤ 2
  two-most sides =
      let a = sleeps-most Sender sides.turn sides.sender in
      let b = sleeps-most Receiver sides.turn sides.receiver in
      omega (arith, a, b)

  pub few-sleep : (s : CoreState L) → length s.desk.claims.waiting < 5 → sleepers s ≤ 12
  few-sleep s few =
      let a = two-most (s.buffers 1).sides in
      let b = two-most (s.buffers 2).sides in
      let c = two-most (s.buffers 3).sides in
      let d = two-most (s.buffers 4).sides in
      omega (arith, few, a, b, c, d)
