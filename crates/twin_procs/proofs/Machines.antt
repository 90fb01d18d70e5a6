-- What a machine says and keeps, for any process.
use Rattle.std.proofs.Common.{◌≡◌, not, ◌<◌, ◌^◌, ◌||◌, ℕ, Bool, true, false, List, [], ◌∷◌, length, Option, None, Some, refl, sym, ◌∙◌, ap, subst}
use Rattle.std.specs.Prelude.{slice_get, Ok, Err, is_none}
use Rattle.std.proofs.lemmas.Bool.{eq-eqb}
use Rattle.solo_base.specs.declared.no_memory.NoMemory.{NoMemory}
use Rattle.solo_base.specs.declared.outcome.Outcome.{Outcome}
use Rattle.solo_base.specs.declared.outcome.Outcome.TheVariants as outcome
use Rattle.solo_base.specs.declared.outcome.Cause.TheVariants as cause
use Rattle.batch_procs.specs.declared.actions.Reply.{Reply}
use Rattle.batch_procs.specs.declared.actions.Reply.TheVariants as reply
use Rattle.batch_procs.specs.declared.round.Step.{Step}
use Rattle.batch_procs.specs.declared.round.Step.TheVariants as step
use Rattle.batch_procs.specs.Machine.{held_at}
use Rattle.place_law.specs.Process.{Does, LacksMemory, Delays, or_new}
use Rattle.twin_law.specs.Process.{Action, ReadCard, PutFeed, TakeFeed, AwaitRoom, AwaitItem, Request, PutPage, TakePage, Load, Release, Local, Print, Stop, Ended, Entry, Aim, Reads, PutsFeed, TakesFeed, PutsPage, TakesPage, Loads, Works, Prints, Finishes, Process, Closing, place, aim, stands_behind, given_cause, caused, holds, holds_after, has_stopped, stops_at, is_end, has_ended, newest, begins, moves, working, closes, closing_by, closing, next_by, unless_ended, next_action}
use Rattle.twin_law.specs.Twin.{Fits, MayLack}
use Rattle.twin_procs.specs.declared.actions.TwinAction.{TwinAction}
use Rattle.twin_procs.specs.declared.machine.TwinMachine.{TwinMachine}
use Rattle.twin_procs.specs.Said.{said, aimed, begins_said, moves_said, makes_said, step_said, stops_said, is_end_said}
use Rattle.twin_procs.specs.Machine.{step_after, is_over, makes_at, stops_of, closing_with, AreStopped, StopsSo, IsAscending, ClosesDown, StandsFor, NextIs, IsClosing, IsUsedSo, Answers}
use Rattle.twin_procs.proofs.Stops.{none-stopped, stopped-same, stops-some, stops-none, stopped-one}

-- ---- the way to an aim
aimed-begins : (m : Aim) → begins_said (aimed m) ≡ said (begins m)
aimed-begins Reads = refl
aimed-begins (PutsFeed b f) = refl
aimed-begins (TakesFeed b) = refl
aimed-begins (PutsPage b page) = refl
aimed-begins (TakesPage b) = refl
aimed-begins (Loads file) = refl
aimed-begins Works = refl
aimed-begins (Prints line) = refl
aimed-begins Finishes = refl

aimed-moves : (m : Aim) → moves_said (aimed m) ≡ said (moves m)
aimed-moves Reads = refl
aimed-moves (PutsFeed b f) = refl
aimed-moves (TakesFeed b) = refl
aimed-moves (PutsPage b page) = refl
aimed-moves (TakesPage b) = refl
aimed-moves (Loads file) = refl
aimed-moves Works = refl
aimed-moves (Prints line) = refl
aimed-moves Finishes = refl

aimed-makes : (s : Step) (m : Aim) → makes_said s (aimed m) ≡ said (makes_at s m)
aimed-makes step.Free m = aimed-begins m
aimed-makes step.Awaited m = refl
aimed-makes step.Granted m = aimed-moves m
aimed-makes step.Moved m = refl
aimed-makes step.Ended m = aimed-begins m

working-at : (n : Option Action) (m : Aim) → working n m ≡ makes_at (step_after n) m
working-at None m = refl
working-at (Some ReadCard) m = refl
working-at (Some (PutFeed b f)) m = refl
working-at (Some (TakeFeed b)) m = refl
working-at (Some (AwaitRoom b)) m = refl
working-at (Some (AwaitItem b)) m = refl
working-at (Some Request) m = refl
working-at (Some (PutPage b page)) m = refl
working-at (Some (TakePage b)) m = refl
working-at (Some (Load file)) m = refl
working-at (Some Release) m = refl
working-at (Some Local) m = refl
working-at (Some (Print line)) m = refl
working-at (Some (Stop b)) m = refl
working-at (Some (Ended how)) m = refl

-- by whether it finishes
abbrev pub done_closing : {L : Type 0} → Process L → Bool → Option Closing
done_closing p true = Some (closing_with p None)
done_closing p false = None

closing-aimed : {L : Type 0} (p : Process L) (m : Aim) → closing_by p None m ≡ done_closing p (is_end_said (aimed m))
closing-aimed p Reads = refl
closing-aimed p (PutsFeed b f) = refl
closing-aimed p (TakesFeed b) = refl
closing-aimed p (PutsPage b page) = refl
closing-aimed p (TakesPage b) = refl
closing-aimed p (Loads file) = refl
closing-aimed p Works = refl
closing-aimed p (Prints line) = refl
closing-aimed p Finishes = refl

-- ---- behind an action
is-over : (a : Action) → is_over (step_said (said a)) ≡ is_end a
is-over ReadCard = refl
is-over (PutFeed b f) = refl
is-over (TakeFeed b) = refl
is-over (AwaitRoom b) = refl
is-over (AwaitItem b) = refl
is-over Request = refl
is-over (PutPage b page) = refl
is-over (TakePage b) = refl
is-over (Load file) = refl
is-over Release = refl
is-over Local = refl
is-over (Print line) = refl
is-over (Stop b) = refl
is-over (Ended how) = refl

-- it has the disk between a request and a release
begins-held : (m : Aim) (t : Bool) → t ≡ false → holds_after t (begins m) ≡ held_at (step_said (said (begins m)))
begins-held Reads t e = e
begins-held (PutsFeed b f) t e = e
begins-held (TakesFeed b) t e = e
begins-held (PutsPage b page) t e = e
begins-held (TakesPage b) t e = e
begins-held (Loads file) t e = refl
begins-held Works t e = e
begins-held (Prints line) t e = e
begins-held Finishes t e = e

moves-held : (m : Aim) (t : Bool) → t ≡ true → holds_after t (moves m) ≡ held_at (step_said (said (moves m)))
moves-held Reads t e = refl
moves-held (PutsFeed b f) t e = refl
moves-held (TakesFeed b) t e = refl
moves-held (PutsPage b page) t e = e
moves-held (TakesPage b) t e = e
moves-held (Loads file) t e = e
moves-held Works t e = refl
moves-held (Prints line) t e = refl
moves-held Finishes t e = refl

held-on : (s : Step) (m : Aim) (t : Bool) → t ≡ held_at s → holds_after t (makes_at s m) ≡ held_at (step_said (said (makes_at s m)))
held-on step.Free m t e = begins-held m t e
held-on step.Awaited m t e = refl
held-on step.Granted m t e = moves-held m t e
held-on step.Moved m t e = refl
held-on step.Ended m t e = begins-held m t e

-- and no call on the way stops a buffer
begins-still : (b : ℕ) (m : Aim) → stops_at b (begins m) ≡ false
begins-still b Reads = refl
begins-still b (PutsFeed c f) = refl
begins-still b (TakesFeed c) = refl
begins-still b (PutsPage c page) = refl
begins-still b (TakesPage c) = refl
begins-still b (Loads file) = refl
begins-still b Works = refl
begins-still b (Prints line) = refl
begins-still b Finishes = refl

moves-still : (b : ℕ) (m : Aim) → stops_at b (moves m) ≡ false
moves-still b Reads = refl
moves-still b (PutsFeed c f) = refl
moves-still b (TakesFeed c) = refl
moves-still b (PutsPage c page) = refl
moves-still b (TakesPage c) = refl
moves-still b (Loads file) = refl
moves-still b Works = refl
moves-still b (Prints line) = refl
moves-still b Finishes = refl

still : (b : ℕ) (s : Step) (m : Aim) → stops_at b (makes_at s m) ≡ false
still b step.Free m = begins-still b m
still b step.Awaited m = refl
still b step.Granted m = moves-still b m
still b step.Moved m = refl
still b step.Ended m = begins-still b m

-- what is no stop stops no more
stops-still : (n : ℕ) (a : Action) → ((b : ℕ) → stops_at b a ≡ false) → stops_said n (said a) ≡ n
stops-still n ReadCard none = refl
stops-still n (PutFeed b f) none = refl
stops-still n (TakeFeed b) none = refl
stops-still n (AwaitRoom b) none = refl
stops-still n (AwaitItem b) none = refl
stops-still n Request none = refl
stops-still n (PutPage b page) none = refl
stops-still n (TakePage b) none = refl
stops-still n (Load file) none = refl
stops-still n Release none = refl
stops-still n Local none = refl
stops-still n (Print line) none = refl
stops-still n (Stop b) none = absurd (let same = none b in let is = eq-eqb b b refl in cc)
stops-still n (Ended how) none = refl

or-second : (t u : Bool) → t ≡ false → (t || u) ≡ u
or-second true u e = absurd cc
or-second false u e = refl

or-first : (t u : Bool) → u ≡ false → (t || u) ≡ t
or-first true u e = refl
or-first false u e = e

none-before : (old new : Option Outcome) → or_new old new ≡ None → old ≡ None
none-before None new e = refl
none-before (Some how) new e = absurd cc

none-new : (old new : Option Outcome) → or_new old new ≡ None → new ≡ None
none-new None new e = e
none-new (Some how) new e = absurd cc

or-alone : (old : Option Outcome) → or_new old None ≡ old
or-alone None = refl
or-alone (Some how) = refl

no-none : (old : Option Outcome) (how : Outcome) → or_new old (Some how) ≡ None → ⊥
no-none None how e = cc
no-none (Some before) how e = cc

ended-none : (t : Bool) (a b : Action) → unless_ended t a ≡ Some b → (t ≡ false) × (a ≡ b)
ended-none true a b e = absurd cc
ended-none false a b e = (refl, cc)

next-unless : (t : Bool) (a : Action) (s : TwinAction) → said a ≡ s → NextIs (unless_ended t a) s
next-unless true a s e = tt
next-unless false a s e = e

pub next-same : (a : Action) (next : Option Action) (s : TwinAction) → NextIs next s → next ≡ Some a → said a ≡ s
next-same a next s is e = let P : Option Action → Type 0 = λ n. NextIs n s in (subst P e is)

module _ {L : Type 0} (p : Process L) (law : ClosesDown p) where
  ascends : (done : Bool) → IsAscending (stops_of p done)
  ascends true = law.spools_ascending
  ascends false = law.ascending

  few : (done : Bool) → length (stops_of p done) < 2 ^ 8
  few true = law.spools_few
  few false = law.few

-- it closes down as its cause says
closing-as : {L : Type 0} (p : Process L) (cause : Option Outcome) (m : Aim) (c : Closing) → closing_by p cause m ≡ Some c → c ≡ closing_with p cause
closing-as p (Some how) m c e = cc
closing-as p None Finishes c e = cc
closing-as p None Reads c e = absurd cc
closing-as p None (PutsFeed b f) c e = absurd cc
closing-as p None (TakesFeed b) c e = absurd cc
closing-as p None (PutsPage b page) c e = absurd cc
closing-as p None (TakesPage b) c e = absurd cc
closing-as p None (Loads file) c e = absurd cc
closing-as p None Works c e = absurd cc
closing-as p None (Prints line) c e = absurd cc

free-cause : {L : Type 0} (p : Process L) (cause : Option Outcome) (m : Aim) → closing_by p cause m ≡ None → cause ≡ None
free-cause p None m e = refl
free-cause p (Some how) m e = absurd cc

module _ {L X P : Type 0} {p : Process L} {stands : P → p.Place → Type 0} {m : TwinMachine X P} {h : List (Entry L)} (st : StandsFor p stands m h) where
  -- ---- what is next
  pub closing-caused : (how : Outcome) → m.cause ≡ Some how → closing p h ≡ Some (closing_with p m.cause)
  closing-caused how e = rw (sym st.cause, e) refl

  closing-free : m.cause ≡ None → (s : TwinAction) → ((at : p.Place) → stands m.process at → s ≡ aimed (p.aims at))
      → closing p h ≡ done_closing p (is_end_said s)
  closing-free e s says =
      let none : caused p h ≡ None = sym st.cause ∙ e in
      ap (λ c. closing_by p c (aim p h)) none ∙ closing-aimed p (aim p h) ∙ sym (ap (λ s. done_closing p (is_end_said s)) (says (place p h) (st.at_place none)))

  pub closing-done : m.cause ≡ None → (s : TwinAction) → ((at : p.Place) → stands m.process at → s ≡ aimed (p.aims at)) → is_end_said s ≡ true
      → closing p h ≡ Some (closing_with p m.cause)
  closing-done e s says is = closing-free e s says ∙ ap (done_closing p) is ∙ ap (λ c. Some (closing_with p c)) (sym e)

  pub next-working : m.cause ≡ None → (s : TwinAction) → ((at : p.Place) → stands m.process at → s ≡ aimed (p.aims at)) → is_end_said s ≡ false
      → NextIs (next_action p h) (makes_said m.step s)
  next-working e s says is =
      let none : caused p h ≡ None = sym st.cause ∙ e in
      let free : closing p h ≡ None = closing-free e s says ∙ ap (done_closing p) is in
      let made : said (working (newest h) (aim p h)) ≡ makes_said m.step s =
      ap said (working-at (newest h) (aim p h)) ∙ sym (aimed-makes (step_after (newest h)) (aim p h))
      ∙ ap (λ t. makes_said t (aimed (aim p h))) (sym st.step) ∙ ap (makes_said m.step) (sym (says (place p h) (st.at_place none))) in
      subst (λ c. NextIs (unless_ended (has_ended h) (next_by p c h)) (makes_said m.step s)) (sym free)
      (next-unless (has_ended h) (working (newest h) (aim p h)) (makes_said m.step s) made)

  module _ (c : Closing) (is : closing p h ≡ Some c) where
    pub stopped : AreStopped c.stops m.stops h
    stopped = subst (λ c. StopsSo c m.stops h) is st.stops

    next-closes : (a : Action) → closes c.stops c.how h ≡ a → NextIs (next_action p h) (said a)
    next-closes a e =
        subst (λ c. NextIs (unless_ended (has_ended h) (next_by p c h)) (said a)) (sym is)
        (next-unless (has_ended h) (closes c.stops c.how h) (said a) (ap said e))

    closes-release : held_at m.step ≡ true → closes c.stops c.how h ≡ Release
    closes-release on = rw (st.held ∙ on) refl

    closes-stop : (b : ℕ) → held_at m.step ≡ false → slice_get c.stops m.stops ≡ Some b → closes c.stops c.how h ≡ Stop b
    closes-stop b off e = rw (st.held ∙ off) (stops-some c.stops m.stops b c.how h stopped e)

    closes-end : held_at m.step ≡ false → slice_get c.stops m.stops ≡ None → closes c.stops c.how h ≡ Ended c.how
    closes-end off e = rw (st.held ∙ off) (stops-none c.stops m.stops c.how h stopped e)

    pub next-release : held_at m.step ≡ true → NextIs (next_action p h) (said Release)
    next-release on = next-closes Release (closes-release on)

    pub next-stop : (b : ℕ) → held_at m.step ≡ false → slice_get c.stops m.stops ≡ Some b → NextIs (next_action p h) (said (Stop b))
    next-stop b off e = next-closes (Stop b) (closes-stop b off e)

    pub next-end : held_at m.step ≡ false → slice_get c.stops m.stops ≡ None → NextIs (next_action p h) (said (Ended c.how))
    next-end off e = next-closes (Ended c.how) (closes-end off e)

  -- ---- a call that waits
  pub waits-on : (a : Action) → StandsFor p stands m (Delays a ∷ h)
  waits-on a = record {
    cause = st.cause;
    step = st.step;
    held = st.held;
    over = st.over;
    stops = on (closing p h) st.stops;
    at_place = st.at_place;
  }
    where
      on : (c : Option Closing) → StopsSo c m.stops h → StopsSo c m.stops (Delays a ∷ h)
      on None are = are
      on (Some c) are = stopped-same c.stops m.stops h (Delays a ∷ h) (λ b. refl) are

  -- ---- a reply on the way to an aim
  module _ (law : ClosesDown p) (a : Action) (next : next_action p h ≡ Some a) where
    goes-on : has_ended h ≡ false
    goes-on = (ended-none (has_ended h) (next_by p (closing p h) h) a next).0

    over-on : (is_end a || has_ended h) ≡ is_over (step_said (said a))
    over-on = or-first (is_end a) (has_ended h) goes-on ∙ sym (is-over a)

    next-by : next_by p (closing p h) h ≡ a
    next-by = (ended-none (has_ended h) (next_by p (closing p h) h) a next).1

    module _ (free : closing p h ≡ None) where
      none : caused p h ≡ None
      none = free-cause p (caused p h) (aim p h) free

      pub makes : makes_at m.step (aim p h) ≡ a
      makes = ap (λ t. makes_at t (aim p h)) st.step ∙ sym (working-at (newest h) (aim p h)) ∙ sym (ap (λ c. next_by p c h) free) ∙ next-by

      still-here : (b : ℕ) → stops_at b a ≡ false
      still-here b = subst (λ a. stops_at b a ≡ false) makes (still b m.step (aim p h))

      none-now : (b : ℕ) → (stops_at b a || has_stopped b h) ≡ false
      none-now b = or-second (stops_at b a) (has_stopped b h) (still-here b) ∙ (subst (λ c. StopsSo c m.stops h) free st.stops).1 b

      no-stops : stops_said m.stops (said a) ≡ 0
      no-stops = stops-still m.stops a still-here ∙ (subst (λ c. StopsSo c m.stops h) free st.stops).0

      -- whatever comes of it, no buffer is stopped yet
      unstopped : (c : Option Closing) (now : List (Entry L)) → ((b : ℕ) → has_stopped b now ≡ false) → StopsSo c (stops_said m.stops (said a)) now
      unstopped None now are = (no-stops, are)
      unstopped (Some c) now are = subst (λ n. AreStopped c.stops n now) (sym no-stops) (none-stopped c.stops now are)

      held-now : holds_after (holds h) a ≡ held_at (step_said (said a))
      held-now = subst (λ a. holds_after (holds h) a ≡ held_at (step_said (said a))) makes (held-on m.step (aim p h) (holds h) st.held)

      pub stands-done : (r : Reply L) (process : P) (given : Option Outcome) → IsUsedSo p (stands process) (place p h) a r given
          → StandsFor p stands
          record { process = process; step = step_said (said a); cause = or_new m.cause given; stops = stops_said m.stops (said a); of = m.of }
          (Does a r ∷ h)
      stands-done r process given used = record {
        cause = ap (λ c. or_new c given) st.cause ∙ ap (or_new (caused p h)) used.cause_is;
        step = refl;
        held = held-now;
        over = over-on;
        stops = unstopped (closing p (Does a r ∷ h)) (Does a r ∷ h) none-now;
        at_place = λ e. used.goes_on (used.cause_is ∙ none-new (caused p h) (given_cause p (place p h) a r) e);
      }

      pub stands-lacking : (r : Reply L) (process : P) → is_end a ≡ false → holds h ≡ held_at (step_said (said a))
          → StandsFor p stands
          record {
            process = process;
            step = step_said (said a);
            cause = or_new m.cause (Some (outcome.Fault cause.NoMemory));
            stops = stops_said m.stops (said a);
            of = m.of;
          }
          (LacksMemory a r ∷ h)
      stands-lacking r process on held = record {
        cause = ap (λ c. or_new c (Some (outcome.Fault cause.NoMemory))) st.cause;
        step = refl;
        held = held;
        over = goes-on ∙ sym (is-over a ∙ on);
        stops = unstopped (closing p (LacksMemory a r ∷ h)) (LacksMemory a r ∷ h) (subst (λ c. StopsSo c m.stops h) free st.stops).1;
        at_place = λ e. absurd (no-none (caused p h) (outcome.Fault cause.NoMemory) e);
      }

    -- ---- closing down
    module _ (c : Closing) (is : closing p h ≡ Some c) where
      closes-next : closes c.stops c.how h ≡ a
      closes-next = sym (ap (λ c. next_by p c h) is) ∙ next-by

      abbrev behind : Action → TwinMachine X P
      behind x = record { process = m.process; step = step_said (said x); cause = or_new m.cause None; stops = stops_said m.stops (said x); of = m.of }

      record Closes (x : Action) : Type 0 where
        kind : IsClosing x
        next_is : closes c.stops c.how h ≡ x
        stands_then : StandsFor p stands (behind x) (Does x reply.Done ∷ h)

      closed : (x : Action) → (is_end x || has_ended h) ≡ is_over (step_said (said x)) → stands_behind p (place p h) x reply.Done ≡ place p h
          → holds_after (holds h) x ≡ held_at (step_said (said x)) → AreStopped c.stops (stops_said m.stops (said x)) (Does x reply.Done ∷ h)
          → StandsFor p stands (behind x) (Does x reply.Done ∷ h)
      closed x over here held stops = record {
        cause = ap (λ c. or_new c None) st.cause;
        step = refl;
        held = held;
        over = over;
        stops = subst (λ c. StopsSo c (stops_said m.stops (said x)) (Does x reply.Done ∷ h))
            (sym (ap (λ at. closing_by p (or_new (caused p h) None) (p.aims at)) here ∙ ap (λ w. closing_by p w (aim p h)) (or-alone (caused p h)) ∙ is)) stops;
        at_place = λ e. subst (λ at. stands m.process at) (sym here) (st.at_place (none-before (caused p h) None e));
      }

      ordered : IsAscending c.stops
      ordered = subst (λ c. IsAscending c.stops) (sym (closing-as p (caused p h) (aim p h) c is)) (ascends p law (is_none (caused p h)))

      short : length c.stops < 2 ^ 8
      short = subst (λ c. length c.stops < 2 ^ 8) (sym (closing-as p (caused p h) (aim p h) c is)) (few p law (is_none (caused p h)))

      -- by whether it has the disk, and what it stops next
      by-stop : held_at m.step ≡ false → (b : Option ℕ) → slice_get c.stops m.stops ≡ b → (x : Action) × Closes x
      by-stop off (Some b) e = (
        Stop b,
        record {
          kind = tt;
          next_is = closes-stop c is b off e;
          stands_then = closed (Stop b) goes-on refl (st.held ∙ off) (stopped-one c.stops m.stops b reply.Done h ordered short e (stopped c is));
        },
      )
      by-stop off None e = (
        Ended c.how,
        record {
          kind = tt;
          next_is = closes-end c is off e;
          stands_then = closed (Ended c.how) refl refl (st.held ∙ off)
              (stopped-same c.stops m.stops h (Does (Ended c.how) reply.Done ∷ h) (λ b. refl) (stopped c is));
        },
      )

      by-disk : (t : Bool) → held_at m.step ≡ t → (x : Action) × Closes x
      by-disk true on = (
        Release,
        record {
          kind = tt;
          next_is = closes-release c is on;
          stands_then = closed Release goes-on refl refl (stopped-same c.stops m.stops h (Does Release reply.Done ∷ h) (λ b. refl) (stopped c is));
        },
      )
      by-disk false off = by-stop off (slice_get c.stops m.stops) refl

      now : Closes a
      now = (let (b, is) = by-disk (held_at m.step) refl in subst Closes (sym is.next_is ∙ closes-next) is)

      pub is-closing : IsClosing a
      is-closing = now.kind

      pub stands-closed : StandsFor p stands (behind a) (Does a reply.Done ∷ h)
      stands-closed = now.stands_then

-- the reply to a call of one that closes down
closing-fits : {L : Type 0} (a : Action) (r : Reply L) → IsClosing a → Fits a r → r ≡ reply.Done
closing-fits Release reply.Done kind fits = refl
closing-fits Release r kind fits = absurd fits
closing-fits (Stop b) reply.Done kind fits = refl
closing-fits (Stop b) r kind fits = absurd fits
closing-fits (Ended how) reply.Done kind fits = refl
closing-fits (Ended how) r kind fits = absurd fits
closing-fits a r kind fits = absurd kind

-- where memory may be lacking
lacking-held : {L : Type 0} (s : Step) (m : Aim) (r : Reply L) → MayLack (makes_at s m) r
    → (held_at s ≡ held_at (step_said (said (makes_at s m)))) × (is_end (makes_at s m) ≡ false)
lacking-held step.Free Works r lacks = (refl, refl)
lacking-held step.Granted (TakesPage b) r lacks = (refl, refl)
lacking-held step.Ended Works r lacks = (refl, refl)
lacking-held s m r lacks = absurd lacks

-- ---- the beginning
none-yet : (L : Type 0) (c : Option Closing) (n : ℕ) → n ≡ 0 → StopsSo {L = L} c n []
none-yet L None n is = (is, λ b. refl)
none-yet L (Some c) n is = subst (λ n. AreStopped {L = L} c.stops n []) (sym is) (none-stopped c.stops [] (λ b. refl))

pub stands-new : {L X P : Type 0} (p : Process L) (stands : P → p.Place → Type 0) (m : TwinMachine X P) → stands m.process p.start → m.step ≡ step.Free
    → m.cause ≡ None → m.stops ≡ 0 → StandsFor p stands m []
stands-new p stands m begun free no_cause no_stops = record {
  cause = no_cause;
  step = free;
  held = sym (ap held_at free);
  over = sym (ap is_over free);
  stops = none-yet _ (closing p []) m.stops no_stops;
  at_place = λ e. begun;
}

pub none-is : (t r : Bool) → t ≡ not r → not t ≡ r
none-is t true e = ap not e
none-is t false e = ap not e

-- ---- what give does
module _ {L X P : Type 0} (p : Process L) (stands : P → p.Place → Type 0) (m : TwinMachine X P) (process : P) (s : TwinAction) (r : Reply L)
    (law : ClosesDown p) (says : (h : List (Entry L)) → StandsFor p stands m h → NextIs (next_action p h) s) where
  abbrev given : TwinAction → Option Outcome → TwinMachine X P
  given s new = record { process = process; step = step_said s; cause = or_new m.cause new; stops = stops_said m.stops s; of = m.of }

  module _ (h : List (Entry L)) (a : Action) (st : StandsFor p stands m h) (next : next_action p h ≡ Some a) (fits : Fits a r) where
    same : s ≡ said a
    same = sym (next-same a (next_action p h) s (says h st) next)

    there : closing p h ≡ None → stands m.process (place p h)
    there free = st.at_place (none st law a next free)

    made : (free : closing p h ≡ None) → makes_at m.step (aim p h) ≡ a
    made free = makes st law a next free

    done-free : (new : Option Outcome) → Answers p stands m.process s r (Ok new) process → closing p h ≡ None
        → StandsFor p stands (given (said a) new) (Does a r ∷ h)
    done-free new answers free =
        stands-done st law a next free r process new
        (subst (λ a. IsUsedSo p (stands process) (place p h) a r new) (made free)
        (answers.uses (place p h) m.step (there free) (same ∙ ap said (sym (made free))) (subst (λ a. Fits a r) (sym (made free)) fits)))

    done-closes : (new : Option Outcome) → Answers p stands m.process s r (Ok new) process → (c : Closing) → closing p h ≡ Some c
        → StandsFor p stands (given (said a) new) (Does a r ∷ h)
    done-closes new answers c is =
        let kind = is-closing st law a next c is in
        let used = answers.closes a kind same fits in
        let done : r ≡ reply.Done = closing-fits a r kind fits in
        let none : new ≡ None = (let same = used.0 in cc) in
        rw (done, used.1, none) (stands-closed st law a next c is)

    by-closing : (new : Option Outcome) → Answers p stands m.process s r (Ok new) process → (c : Option Closing) → closing p h ≡ c
        → StandsFor p stands (given (said a) new) (Does a r ∷ h)
    by-closing new answers None free = done-free new answers free
    by-closing new answers (Some c) is = done-closes new answers c is

    lack-free : (refused : NoMemory) → Answers p stands m.process s r (Err refused) process → closing p h ≡ None
        → (p.works ≡ true) × MayLack a r × StandsFor p stands (given (said a) (Some (outcome.Fault cause.NoMemory))) (LacksMemory a r ∷ h)
    lack-free refused answers free =
        let fits_at = subst (λ a. Fits a r) (sym (made free)) fits in
        let lacks = answers.lacks.1 (place p h) m.step (there free) (same ∙ ap said (sym (made free))) fits_at in
        let held = lacking-held m.step (aim p h) r lacks in (
          answers.lacks.0,
          subst (λ a. MayLack a r) (made free) lacks,
          stands-lacking st law a next free r process (subst (λ a. is_end a ≡ false) (made free) held.1)
              (st.held ∙ subst (λ a. held_at m.step ≡ held_at (step_said (said a))) (made free) held.0),
        )

    lack-by : (refused : NoMemory) → Answers p stands m.process s r (Err refused) process → (c : Option Closing) → closing p h ≡ c
        → (p.works ≡ true) × MayLack a r × StandsFor p stands (given (said a) (Some (outcome.Fault cause.NoMemory))) (LacksMemory a r ∷ h)
    lack-by refused answers None free = lack-free refused answers free
    lack-by refused answers (Some c) is = absurd (let used = (answers.closes a (is-closing st law a next c is) same fits).0 in cc)

  pub gives-done : (new : Option Outcome) (at : Step) (caused_now : Option Outcome) (n : ℕ) → Answers p stands m.process s r (Ok new) process → at ≡ step_said s
      → caused_now ≡ or_new m.cause new → n ≡ stops_said m.stops s → (h : List (Entry L)) (a : Action) → StandsFor p stands m h → next_action p h ≡ Some a
      → Fits a r → StandsFor p stands record { process = process; step = at; cause = caused_now; stops = n; of = m.of } (Does a r ∷ h)
  gives-done new at caused_now n answers stepped caused_is stopped h a st next fits =
      let e = same h a st next fits in
      rw (stepped ∙ ap step_said e, caused_is, stopped ∙ ap (stops_said m.stops) e) (by-closing h a st next fits new answers (closing p h) refl)

  pub gives-lacking : (refused : NoMemory) (at : Step) (caused_now : Option Outcome) (n : ℕ) → Answers p stands m.process s r (Err refused) process
      → at ≡ step_said s → caused_now ≡ or_new m.cause (Some (outcome.Fault cause.NoMemory)) → n ≡ stops_said m.stops s → (h : List (Entry L)) (a : Action)
      → StandsFor p stands m h → next_action p h ≡ Some a → Fits a r
      → (p.works ≡ true) × MayLack a r
      × StandsFor p stands record { process = process; step = at; cause = caused_now; stops = n; of = m.of } (LacksMemory a r ∷ h)
  gives-lacking refused at caused_now n answers stepped caused_is stopped h a st next fits =
      let e = same h a st next fits in
      rw (stepped ∙ ap step_said e, caused_is, stopped ∙ ap (stops_said m.stops) e) (lack-by h a st next fits refused answers (closing p h) refl)
