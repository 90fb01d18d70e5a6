-- What a machine says and keeps, for any process.
use Rattle.std.proofs.Common.{◌≡◌, ◌+◌, ℕ, min, Bool, true, false, List, [], ◌∷◌, Option, None, Some, refl, sym, ◌∙◌, ap, subst}
use Rattle.std.specs.Prelude.{slice_get, Ok, Err, IsTrue}
use Rattle.std.specs.Option.{is_some}
use Rattle.solo_base.specs.declared.no_memory.NoMemory.{NoMemory}
use Rattle.solo_base.specs.declared.outcome.Outcome.{Outcome}
use Rattle.solo_base.specs.declared.outcome.Outcome.TheVariants as outcome
use Rattle.solo_base.specs.declared.outcome.Cause.TheVariants as cause
use Rattle.place_law.specs.Process.{Entry, Does, LacksMemory, Delays, Process, place, or_new, given_cause, caused, how_ended, stops_next, next_by, unless_ended, next_action}
use Rattle.place_law.proofs.Nexts.{or-none, or-new, unless-some}
use Rattle.solo_law.specs.Work.{Need}
use Rattle.solo_law.specs.Actions.{Action, Reply}
use Rattle.solo_law.specs.Actions as act
use Rattle.solo_law.specs.Replies.{view, ends_so, Fits, MayLack, MayWait}
use Rattle.solo_procs.specs.declared.actions.SoloAction.{SoloAction}
use Rattle.solo_procs.specs.declared.actions.SoloAction.TheVariants as say
use Rattle.solo_procs.specs.declared.actions.SoloReply.{SoloReply}
use Rattle.solo_procs.specs.declared.machine.Machine.{Machine}
use Rattle.solo_procs.specs.Said.{said, is_end}
use Rattle.solo_procs.specs.Machine.{HasEnded, FirstAreStopped, ClosesDown, Tracks, StandsFor, SaysNext, IsTold, IsUsedSo, Answers, ClosesSo}
use Rattle.solo_procs.proofs.Stops.{none-stopped, stopped-same, stopped-by, stops-some, stops-none, stopped-one}

-- ---- what is next
next-unless : (how : Option Outcome) (a : Action) (s : SoloAction) → said a ≡ s → SaysNext (unless_ended how a) s
next-unless None a s e = e
next-unless (Some how) a s e = tt

pub next-same : (a : Action) (next : Option Action) (s : SoloAction) → SaysNext next s → next ≡ Some a → said a ≡ s
next-same a next s is e = let P : Option Action → Type 0 = λ n. SaysNext n s in (subst P e is)

ended-true : (how : Option Outcome) → IsTrue (is_some how) → (why : Outcome) × (how ≡ Some why)
ended-true None is = absurd cc
ended-true (Some why) is = (why, refl)

ended-so : (how : Option Outcome) (why : Outcome) → how ≡ Some why → IsTrue (is_some how)
ended-so None why e = absurd cc
ended-so (Some how) why e = refl

is-end : (a : Action) → is_end (said a) ≡ is_some (ends_so a)
is-end act.Accept = refl
is-end (act.Display line) = refl
is-end act.ReadCard = refl
is-end (act.Print line) = refl
is-end (act.PutArg b a) = refl
is-end (act.TakeArg b) = refl
is-end (act.PutPage b page) = refl
is-end (act.TakePage b) = refl
is-end (act.Works work) = refl
is-end (act.Stop b) = refl
is-end (act.Ended how) = refl

module _ {P : Type 0} {p : Process Action Reply} {is_at : P → p.Place → Type 0} {m : Machine P} {h : List (Entry Action Reply)} (st : Tracks p is_at m h) where
  caused-none : m.cause ≡ None → caused view p h ≡ None
  caused-none e = sym st.cause ∙ e

  caused-some : (why : Outcome) → m.cause ≡ Some why → caused view p h ≡ Some why
  caused-some why e = sym st.cause ∙ e

  pub next-at_place : (s : SoloAction) → m.cause ≡ None → ((at : p.Place) → is_at m.process at → s ≡ said (p.does at)) → SaysNext (next_action view p h) s
  next-at_place s e says =
      subst (λ c. SaysNext (unless_ended (how_ended view h) (next_by view p c h)) s) (sym (caused-none e))
      (next-unless (how_ended view h) (p.does (place p h)) s (sym (says (place p h) (st.at_place (caused-none e)))))

  next-closes : (why : Outcome) (a : Action) → m.cause ≡ Some why → stops_next view p p.buffers why h ≡ a → SaysNext (next_action view p h) (said a)
  next-closes why a e is =
      subst (λ c. SaysNext (unless_ended (how_ended view h) (next_by view p c h)) (said a)) (sym (caused-some why e))
      (next-unless (how_ended view h) (stops_next view p p.buffers why h) (said a) (ap said is))

  pub next-stop : (why : Outcome) (b : ℕ) → m.cause ≡ Some why → slice_get p.buffers m.stops ≡ Some b → SaysNext (next_action view p h) (say.Stop b)
  next-stop why b e is = next-closes why (act.Stop b) e (stops-some p p.buffers m.stops b why h st.stops is)

  pub next-end : (why : Outcome) → m.cause ≡ Some why → slice_get p.buffers m.stops ≡ None → SaysNext (next_action view p h) (say.Ended why)
  next-end why e is = next-closes why (act.Ended why) e (stops-none p p.buffers m.stops why h st.stops is)

  -- the action that is next, by its cause
  goes-on : (a : Action) → next_action view p h ≡ Some a → how_ended view h ≡ None
  goes-on a next = (unless-some (how_ended view h) (next_by view p (caused view p h) h) a next).0

  pub does-next : (a : Action) → caused view p h ≡ None → next_action view p h ≡ Some a → p.does (place p h) ≡ a
  does-next a e next = sym (ap (λ c. next_by view p c h) e) ∙ (unless-some (how_ended view h) (next_by view p (caused view p h) h) a next).1

  closes-next : (why : Outcome) (a : Action) → m.cause ≡ Some why → next_action view p h ≡ Some a → stops_next view p p.buffers why h ≡ a
  closes-next why a e next =
      sym (ap (λ c. next_by view p c h) (caused-some why e)) ∙ (unless-some (how_ended view h) (next_by view p (caused view p h) h) a next).1

  pub has-ended : (IsTrue m.ended → HasEnded h) × (HasEnded h → IsTrue m.ended)
  has-ended = (
    λ yes. ended-true (how_ended view h) (subst (λ t. IsTrue t) st.ended yes),
    λ is. subst (λ t. IsTrue t) (sym st.ended) (ended-so (how_ended view h) is.0 is.1),
  )

  -- ---- a call that waits
  pub tracks-on : (a : Action) → next_action view p h ≡ Some a → MayWait a → Tracks p is_at m (Delays a ∷ h)
  tracks-on a next may = record {
    follows = (next, may, st.follows);
    cause = st.cause;
    ended = st.ended;
    stops = stopped-same p p.buffers m.stops h (Delays a ∷ h) (λ b. refl) st.stops;
    at_place = st.at_place;
  }

  -- ---- closing down
  cause-kept : (why : Outcome) (given : Option Outcome) → m.cause ≡ Some why → m.cause ≡ or_new (caused view p h) given
  cause-kept why given e = e ∙ ap (λ c. or_new c given) (sym (caused-some why e))

  none-left : (why : Outcome) (given : Option Outcome) → m.cause ≡ Some why → or_new (caused view p h) given ≡ None → ⊥
  none-left why given e none = (let is = caused-some why e in let free = or-none (caused view p h) given none in cc)

  new-alone : (old new : Option Outcome) → old ≡ None → new ≡ or_new old new
  new-alone None new e = refl
  new-alone (Some how) new e = absurd cc

  module _ (ready : P → p.Place → Type 0) (law : ClosesDown p) (a : Action) (r : Reply) (next : next_action view p h ≡ Some a) (fits : Fits a r) where
    -- a stop is done
    stands-stopped : (why : Outcome) (b : ℕ) → m.cause ≡ Some why → slice_get p.buffers m.stops ≡ Some b
        → StandsFor p is_at ready (record m { stops = min (m.stops + 1) 255 }) (Does a r ∷ h)
    stands-stopped why b e is =
        let stop : act.Stop b ≡ a = sym (stops-some p p.buffers m.stops b why h st.stops is) ∙ closes-next why a e next in
        record {
          tracks = record {
            follows = (next, fits, st.follows);
            cause = cause-kept why (given_cause view p (place p h) a r) e;
            ended = st.ended ∙ ap is_some (goes-on a next ∙ ap ends_so stop ∙ new-alone (how_ended view h) (ends_so a) (goes-on a next));
            stops = subst (λ a. FirstAreStopped p p.buffers (min (m.stops + 1) 255) (Does a r ∷ h)) stop (stopped-one p law m.stops b r h is st.stops);
            at_place = λ none. absurd (none-left why (given_cause view p (place p h) a r) e none);
          };
          ready_there = λ none. absurd (none-left why (given_cause view p (place p h) a r) e none);
        }

    -- the end is reached
    stands-ended : (why : Outcome) → m.cause ≡ Some why → slice_get p.buffers m.stops ≡ None
        → StandsFor p is_at ready (record m { ended = true }) (Does a r ∷ h)
    stands-ended why e is =
        let end : act.Ended why ≡ a = sym (stops-none p p.buffers m.stops why h st.stops is) ∙ closes-next why a e next in
        record {
          tracks = record {
            follows = (next, fits, st.follows);
            cause = cause-kept why (given_cause view p (place p h) a r) e;
            ended = ap is_some (ap ends_so end ∙ new-alone (how_ended view h) (ends_so a) (goes-on a next));
            stops = subst (λ a. FirstAreStopped p p.buffers m.stops (Does a r ∷ h)) end
                (stopped-by p m.stops (act.Ended why) r h (λ b. law.ends b why) st.stops);
            at_place = λ none. absurd (none-left why (given_cause view p (place p h) a r) e none);
          };
          ready_there = λ none. absurd (none-left why (given_cause view p (place p h) a r) e none);
        }

    -- ---- a reply at a place
    stopped-at_place : m.cause ≡ None → FirstAreStopped p p.buffers m.stops (Does a r ∷ h)
    stopped-at_place e =
        subst (λ a. FirstAreStopped p p.buffers m.stops (Does a r ∷ h)) (does-next a (caused-none e) next)
        (stopped-by p m.stops (p.does (place p h)) r h (λ b. law.goes_on b (place p h)) st.stops)

    stands-done : (process : P) (given : Option Outcome) (s : SoloAction) → ((at : p.Place) → ready process at → is_at process at) → m.cause ≡ None → s ≡ said a
        → IsUsedSo p (ready process) (place p h) r given
        → StandsFor p is_at ready (record { process = process; cause = given; stops = m.stops; ended = is_end s }) (Does a r ∷ h)
    stands-done process given s stands e same uses =
        let gives : given ≡ given_cause view p (place p h) a r = uses.cause_is ∙ ap (λ a. given_cause view p (place p h) a r)
        (does-next a (caused-none e) next) in
        let there : or_new (caused view p h) (given_cause view p (place p h) a r) ≡ None → ready process (p.behind (place p h) r) =
        (λ none. uses.ready (gives ∙ or-new (caused view p h) (given_cause view p (place p h) a r) none)) in
        record {
          tracks = record {
            follows = (next, fits, st.follows);
            cause = gives ∙ new-alone (caused view p h) (given_cause view p (place p h) a r) (caused-none e);
            ended = ap is_end same ∙ is-end a ∙ ap is_some (new-alone (how_ended view h) (ends_so a) (goes-on a next));
            stops = stopped-at_place e;
            at_place = λ none. stands (p.behind (place p h) r) (there none);
          };
          ready_there = there;
        }

  stands-lacking : (ready : P → p.Place → Type 0) (a : Action) (r : Reply) (process : P) → next_action view p h ≡ Some a → m.cause ≡ None
      → (p.may_lack ≡ true) × MayLack a r
      → StandsFor p is_at ready (record { process = process; cause = Some (outcome.Fault cause.NoMemory); stops = m.stops; ended = m.ended })
      (LacksMemory a r ∷ h)
  stands-lacking ready a r process next e lacks = record {
    tracks = record {
      follows = (next, lacks, st.follows);
      cause = new-alone (caused view p h) (Some (outcome.Fault cause.NoMemory)) (caused-none e);
      ended = st.ended;
      stops = stopped-same p p.buffers m.stops h (LacksMemory a r ∷ h) (λ b. refl) st.stops;
      at_place = λ none. absurd (let both = or-new (caused view p h) (Some (outcome.Fault cause.NoMemory)) none in cc);
    };
    ready_there = λ none. absurd (let both = or-new (caused view p h) (Some (outcome.Fault cause.NoMemory)) none in cc);
  }

  at-place : m.cause ≡ None → is_at m.process (place p h)
  at-place e = st.at_place (caused-none e)

  fits-place : (a : Action) (r : Reply) → m.cause ≡ None → next_action view p h ≡ Some a → Fits a r → Fits (p.does (place p h)) r
  fits-place a r e next fits = subst (λ a. Fits a r) (sym (does-next a (caused-none e) next)) fits

-- ---- the beginning
pub stands-new : {P : Type 0} (p : Process Action Reply) (is_at ready : P → p.Place → Type 0) (process : P)
    → ((proc : P) (at : p.Place) → ready proc at → is_at proc at) → ready process p.start
    → StandsFor p is_at ready (record { process = process; cause = None; stops = 0; ended = false }) []
stands-new p is_at ready process stands begins = record {
  tracks = record { follows = tt; cause = refl; ended = refl; stops = none-stopped p p.buffers; at_place = λ none. stands process p.start begins };
  ready_there = λ none. begins;
}

pub waits-on : {P : Type 0} {p : Process Action Reply} {is_at ready : P → p.Place → Type 0} {m : Machine P} {h : List (Entry Action Reply)}
    → StandsFor p is_at ready m h → (a : Action) → next_action view p h ≡ Some a → MayWait a → StandsFor p is_at ready m (Delays a ∷ h)
waits-on st a next may = record { tracks = tracks-on st.tracks a next may; ready_there = st.ready_there }

-- ---- what the machine does
-- with a cause
pub closes-some : {P : Type 0} (p : Process Action Reply) (is_at ready : P → p.Place → Type 0) (m : Machine P) (b n : ℕ) → ClosesDown p
    → n ≡ min (m.stops + 1) 255 → slice_get p.buffers m.stops ≡ Some b → ClosesSo p is_at ready m (record m { stops = n })
closes-some p is_at ready m b n law more is = λ h a r why st e next fits. rw more (stands-stopped st ready law a r next fits why b e is)

pub closes-none : {P : Type 0} (p : Process Action Reply) (is_at ready : P → p.Place → Type 0) (m : Machine P) → ClosesDown p
    → slice_get p.buffers m.stops ≡ None → ClosesSo p is_at ready m (record m { ended = true })
closes-none p is_at ready m law is = λ h a r why st e next fits. stands-ended st ready law a r next fits why e is

-- and without
module _ {P : Type 0} (p : Process Action Reply) (is_at ready : P → p.Place → Type 0) (came : P → p.Place → Need → Type 0) (m : Machine P) (s : SoloAction)
    (reply : SoloReply) (process : P) (stands : (proc : P) (at : p.Place) → ready proc at → is_at proc at) (law : ClosesDown p) (free : m.cause ≡ None)
    (says : (at : p.Place) → is_at m.process at → s ≡ said (p.does at)) where
  says-place : (h : List (Entry Action Reply)) → Tracks p is_at m h → s ≡ said (p.does (place p h))
  says-place h st = says (place p h) (at-place st free)

  pub gives-done : (given : Option Outcome) (over : Bool) → over ≡ is_end s → Answers p ready came m.process s reply (Ok given) process
      → (h : List (Entry Action Reply)) (a : Action) (r : Reply) → Tracks p is_at m h → next_action view p h ≡ Some a → Fits a r
      → IsTold p ready came m h reply r
      → StandsFor p is_at ready (record { process = process; cause = given; stops = m.stops; ended = over }) (Does a r ∷ h)
  gives-done given over is answers h a r st next fits told =
      rw is (stands-done st ready law a r next fits process given s (stands process) free
      (says-place h st ∙ ap said (does-next st a (caused-none st free) next))
      (answers.uses (place p h) r (says-place h st) (fits-place st a r free next fits) (told (caused-none st free))))

  pub gives-lacking : (refused : NoMemory) → Answers p ready came m.process s reply (Err refused) process
      → (h : List (Entry Action Reply)) (a : Action) (r : Reply) → Tracks p is_at m h → next_action view p h ≡ Some a → Fits a r
      → IsTold p ready came m h reply r
      → StandsFor p is_at ready (record { process = process; cause = Some (outcome.Fault cause.NoMemory); stops = m.stops; ended = m.ended })
      (LacksMemory a r ∷ h)
  gives-lacking refused answers h a r st next fits told =
      stands-lacking st ready a r process next free (answers.lacks.0, answers.lacks.1 (place p h) a r fits (told (caused-none st free)))
