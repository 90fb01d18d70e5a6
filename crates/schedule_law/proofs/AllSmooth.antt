-- Where all five ended with their work done, no device failed and no memory was refused.
use Rattle.std.proofs.Common.{◌≡◌, ℕ, List, [], ◌∷◌, Option, None, Some, refl, subst}
use Rattle.std.specs.List.{AllByRecursion}
use Rattle.solo_base.specs.declared.outcome.Outcome.{Outcome}
use Rattle.solo_base.specs.declared.outcome.Outcome.TheVariants as outcome
use Rattle.solo_base.specs.declared.outcome.Cause.TheVariants as cause
use Rattle.solo_devices.specs.declared.card_read.CardRead.TheVariants as read
use Rattle.batch_procs.specs.declared.actions.Reply.TheVariants as reply
use Rattle.batch_procs.specs.History.{Entry, Does, LacksMemory, Delays}
use Rattle.batch_procs.specs.Causes.{caused, or_new, given_cause, fault_at}
use Rattle.batch_procs.specs.Table.{process}
use Rattle.batch_procs.proofs.Ended.{done-free}
use Rattle.network_run.specs.Law.{AreEnabled, run}
use Rattle.network_law.specs.Network.{happens}
use Rattle.network_law.proofs.Numbers.{set-same, set-related}
use Rattle.core_law.specs.Core.{core, CoreState, CoreEvent}
use Rattle.core_law.specs.Ends.{IsProcess, IsSmooth, AllDone}
use Rattle.core_law.specs.TheLaw.{the_law}
use Rattle.core_law.proofs.Acting.{follows-of}
use Rattle.core_law.proofs.Reached.{Centre}
use Rattle.batch_procs.specs.Jobs.{Jobs, AreJobs}

-- ---- one entry
or-none : (old new : Option Outcome) → or_new old new ≡ None → (old ≡ None) × (new ≡ None)
or-none None new e = (refl, e)
or-none (Some how) new e = absurd cc

some-not : (how : Outcome) → Some how ≡ None → ⊥
some-not how e = cc

module _ {L : Type 0} {J : Jobs L} (jobs : AreJobs J) where
  before-free : (entry : Entry L) (h : List (Entry L)) → caused (entry ∷ h) ≡ None → caused h ≡ None
  before-free (Does a r) h e = (or-none (caused h) (given_cause a r h) e).0
  before-free (LacksMemory a r) h e = (or-none (caused h) (Some (outcome.Fault cause.NoMemory)) e).0
  before-free (Delays a) h e = e

  entry-smooth : (entry : Entry L) (h : List (Entry L)) → caused (entry ∷ h) ≡ None → IsSmooth entry
  entry-smooth (Does a reply.Failed) h e = absurd (some-not (outcome.Fault (fault_at a)) (or-none (caused h) (Some (outcome.Fault (fault_at a))) e).1)
  entry-smooth (Does a reply.NoMemory) h e = absurd (some-not (outcome.Fault cause.NoMemory) (or-none (caused h) (Some (outcome.Fault cause.NoMemory)) e).1)
  entry-smooth (Does a (reply.Card read.Failed)) h e =
      absurd (some-not (outcome.Fault cause.ReadFault) (or-none (caused h) (Some (outcome.Fault cause.ReadFault)) e).1)
  entry-smooth (Does a (reply.Card read.Limit)) h e =
      absurd (some-not (outcome.Fault cause.DeckLimit) (or-none (caused h) (Some (outcome.Fault cause.DeckLimit)) e).1)
  entry-smooth (LacksMemory a r) h e = absurd (some-not (outcome.Fault cause.NoMemory) (or-none (caused h) (Some (outcome.Fault cause.NoMemory)) e).1)
  entry-smooth (Does a (reply.Card (read.Card line))) h e = tt
  entry-smooth (Does a (reply.Card read.Spoiled)) h e = tt
  entry-smooth (Does a (reply.Card read.End)) h e = tt
  entry-smooth (Does a reply.Done) h e = tt
  entry-smooth (Does a reply.Stopped) h e = tt
  entry-smooth (Does a (reply.Feed f)) h e = tt
  entry-smooth (Does a (reply.Page page last)) h e = tt
  entry-smooth (Does a (reply.Loaded load)) h e = tt
  entry-smooth (Delays a) h e = tt

  -- ---- a run
  event-free : (s : CoreState L) (event : CoreEvent L) (p : ℕ) → caused ((happens (core J (process J)) s event).histories p) ≡ None
      → caused (s.histories p) ≡ None
  event-free s event p =
      let h = s.histories event.process in
      set-related (λ old new. caused new ≡ None → caused old ≡ None) (λ h e. e) s.histories event.process (event.entry ∷ h) p (before-free event.entry h)

  run-free : (s : CoreState L) (events : List (CoreEvent L)) (p : ℕ) → caused ((run (the_law J) s events).histories p) ≡ None
      → caused (s.histories p) ≡ None
  run-free s [] p e = e
  run-free s (event ∷ events) p e = event-free s event p (run-free (happens (core J (process J)) s event) events p e)

  all-smooth : (s : CoreState L) (events : List (CoreEvent L)) → AreEnabled (the_law J) s events
      → ((p : ℕ) → IsProcess p → caused ((run (the_law J) s events).histories p) ≡ None) → AllByRecursion (λ event. IsSmooth event.entry) events
  all-smooth s [] are free = tt
  all-smooth s (event ∷ events) are free =
      let p = event.process in
      let h = s.histories p in
      let now = run-free (happens (core J (process J)) s event) events p (free p are.0.one) in
      let here : caused (event.entry ∷ h) ≡ None = subst (λ h. caused h ≡ None) (set-same s.histories p (event.entry ∷ h)) now in
      (entry-smooth event.entry h here, all-smooth (happens (core J (process J)) s event) events are.1 free)

  pub done-smooth : (opening s : CoreState L) (events : List (CoreEvent L)) → AreEnabled (the_law J) s events → Centre jobs opening
      (run (the_law J) s events)
      → AllDone (run (the_law J) s events) → AllByRecursion (λ event. IsSmooth event.entry) events
  done-smooth opening s events are c done =
      all-smooth s events are (λ p one. (let h = (run (the_law J) s events).histories p in
      done-free J (process J p) h (follows-of jobs (process J) p h (c.stands.follows p)) (done p one)))
