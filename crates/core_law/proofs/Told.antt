-- Who was told of a stop.
use Rattle.std.proofs.Common.{◌≡◌, ◌⊎◌, inl, inr, ℕ, Bool, true, false, ◌||◌, List, [], ◌∷◌, Option, None, Some, Result, Ok, Err, refl, sym, ◌∙◌, ap, subst}
use Rattle.solo_base.specs.declared.outcome.Side.{Side}
use Rattle.solo_base.specs.declared.outcome.Side.TheVariants.{Sender, Receiver}
use Rattle.solo_base.specs.declared.outcome.Outcome.{Outcome}
use Rattle.solo_base.specs.declared.outcome.Outcome.TheVariants as outcome
use Rattle.solo_devices.specs.declared.card_read.CardRead.{CardRead}
use Rattle.solo_devices.specs.declared.card_read.CardRead.TheVariants as read
use Rattle.page_codec.specs.declared.judge.BadPage.{BadPage}
use Rattle.page_codec.specs.Reading.{PageContent, page_read}
use Rattle.batch_procs.specs.declared.actions.Action.{Action}
use Rattle.batch_procs.specs.declared.actions.Action.TheVariants as act
use Rattle.batch_procs.specs.declared.actions.Reply.{Reply}
use Rattle.batch_procs.specs.declared.actions.Reply.TheVariants as reply
use Rattle.batch_procs.specs.History.{Entry, Does, LacksMemory, Delays, action_of}
use Rattle.batch_procs.specs.Fits.{Fits}
use Rattle.batch_procs.specs.Causes.{caused, or_new, given_cause, fault_read, damage, place}
use Rattle.batch_procs.specs.Process.{Process, Follows, next_action}
use Rattle.network_law.specs.Acts.{At, Visit, Awaits, Passes, told_at, was_told}
use Rattle.network_law.specs.Network as law
use Rattle.network_law.specs.Kept.{Stands}
use Rattle.core_law.specs.Core.{upstream, seat, call, went, core, CoreState, IsBuffer}
use Rattle.core_law.specs.Ends.{IsProcess, WasTold}
use Rattle.core_law.proofs.Row.{IsRow}
use Rattle.core_law.proofs.Acting.{follows-of, same-here}
use Rattle.core_law.proofs.Lawful.{seated-by}
use Rattle.core_law.proofs.Places.{call-buffer}
use Rattle.batch_procs.specs.Jobs.{Jobs, AreJobs}

module _ {L : Type 0} {J : Jobs L} (jobs : AreJobs J) where
  -- ---- only one reply is the cause Stopped
  read-not : (answer : CardRead) → fault_read answer ≡ Some outcome.Stopped → ⊥
  read-not (read.Card line) e = cc
  read-not read.Spoiled e = cc
  read-not read.End e = cc
  read-not read.Failed e = cc
  read-not read.Limit e = cc

  damage-not : (page : Result PageContent BadPage) → damage page ≡ Some outcome.Stopped → ⊥
  damage-not (Ok content) e = cc
  damage-not (Err bad) e = cc

  pub given-stopped : (a : Action) (r : Reply L) (h : List (Entry L)) → given_cause a r h ≡ Some outcome.Stopped → r ≡ reply.Stopped
  given-stopped a reply.Done h e = absurd cc
  given-stopped a reply.Stopped h e = refl
  given-stopped a reply.Failed h e = absurd cc
  given-stopped a reply.NoMemory h e = absurd cc
  given-stopped a (reply.Card answer) h e = absurd (read-not answer e)
  given-stopped a (reply.Feed f) h e = absurd cc
  given-stopped a (reply.Page page last) h e = absurd (damage-not (page_read (place h) last page) e)
  given-stopped a (reply.Loaded load) h e = absurd cc

  or-stopped : (old new : Option Outcome) → or_new old new ≡ Some outcome.Stopped → (old ≡ Some outcome.Stopped) ⊎ (new ≡ Some outcome.Stopped)
  or-stopped None new e = inr e
  or-stopped (Some how) new e = inl e

  -- ---- who was told, and where
  pub record ToldAt (row : ℕ → Process L) (p : ℕ) (h : List (Entry L)) : Type 0 where
    pub buffer : ℕ
    pub side : Side
    pub is_buffer : IsBuffer buffer
    pub seated : seat buffer side ≡ p
    pub told : was_told buffer side (law.acts (core J row) p h) ≡ true

  or-true : (t : Bool) → (t || true) ≡ true
  or-true true = refl
  or-true false = refl

  module _ {row : ℕ → Process L} (laws : IsRow jobs row) (p : ℕ) (one : IsProcess p) where
    told-more : (entry : Entry L) (h : List (Entry L)) → ToldAt row p h → ToldAt row p (entry ∷ h)
    told-more entry h is = record {
      buffer = is.buffer;
      side = is.side;
      is_buffer = is.is_buffer;
      seated = is.seated;
      told = ap (λ t. told_at is.buffer is.side (call p (action_of entry)) (went entry) || t) is.told
          ∙ or-true (told_at is.buffer is.side (call p (action_of entry)) (went entry));
    }

    told-here : (h : List (Entry L)) (a : Action) (b : ℕ) (side : Side) (visit : Visit) → Follows J (row p) h → next_action (row p) h ≡ Some a
        → call p a ≡ At b side visit
        → told_at b side (call p a) (went {L = L} (Does a reply.Stopped)) ≡ true → ToldAt row p (Does a reply.Stopped ∷ h)
    told-here h a b side visit follows next e told = record {
      buffer = b;
      side = side;
      is_buffer = call-buffer jobs laws p h one follows a b side visit next e;
      seated = seated-by jobs laws p h one.0 follows a b side visit next e;
      told = ap (λ t. t || was_told b side (law.acts (core J row) p h)) told;
    }

    told-now : (h : List (Entry L)) (a : Action) → Follows J (row p) h → next_action (row p) h ≡ Some a → Fits J a reply.Stopped
        → ToldAt row p (Does a reply.Stopped ∷ h)
    told-now h (act.PutFeed f) follows next fits = told-here h (act.PutFeed f) p Sender Passes follows next refl (same-here p Sender)
    told-now h act.TakeFeed follows next fits = told-here h act.TakeFeed (upstream p) Receiver Passes follows next refl (same-here (upstream p) Receiver)
    told-now h act.AwaitRoom follows next fits = told-here h act.AwaitRoom p Sender Awaits follows next refl (same-here p Sender)
    told-now h act.AwaitItem follows next fits = told-here h act.AwaitItem (upstream p) Receiver Awaits follows next refl (same-here (upstream p) Receiver)
    told-now h a follows next fits = absurd fits

    pub stopped-told : (h : List (Entry L)) → Follows J (row p) h → caused h ≡ Some outcome.Stopped → ToldAt row p h
    stopped-told [] follows e = absurd cc
    stopped-told (Does a r ∷ h) follows e =
        elim (or-stopped (caused h) (given_cause a r h) e) as (λ _. ToldAt row p (Does a r ∷ h)) [
          | inl old ↦ told-more (Does a r) h (stopped-told h follows.2 old)
          | inr new ↦
              let is = given-stopped a r h new in
              subst (λ r. ToldAt row p (Does a r ∷ h)) (sym is) (told-now h a follows.2 follows.0 (subst (Fits J a) is follows.1))
        ]
    stopped-told (LacksMemory a r ∷ h) follows e =
        elim (or-stopped (caused h) _ e) as (λ _. ToldAt row p (LacksMemory a r ∷ h)) [
          | inl old ↦ told-more (LacksMemory a r) h (stopped-told h follows.2 old)
          | inr new ↦ absurd cc
        ]
    stopped-told (Delays a ∷ h) follows e = told-more (Delays a) h (stopped-told h follows.2 e)

  -- in a state
  pub was-told : {row : ℕ → Process L} (laws : IsRow jobs row) (opening s : CoreState L) → Stands (core J row) opening s → (p : ℕ) → IsProcess p
      → caused (s.histories p) ≡ Some outcome.Stopped → WasTold s p
  was-told {row} laws opening s st p one e =
      let is = stopped-told laws p one (s.histories p) (follows-of jobs row p (s.histories p) (st.follows p)) e in
      let at = subst (λ q. was_told is.buffer is.side (law.acts (core J row) q (s.histories q)) ≡ true) (sym is.seated) is.told in
      record { buffer = is.buffer; side = is.side; is_buffer = is.is_buffer; seated = is.seated; by = (st.buffers.told is.buffer is.side at).by_other }
