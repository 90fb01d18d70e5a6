-- One action of the input process more: that it may perform it, and what its side has become.
use Rattle.std.proofs.Common.{◌≡◌, ◌⊎◌, inl, inr, ℕ, Bool, true, false, List, [], ◌∷◌, ◌++◌, Option, None, Some, refl, sym, ◌∙◌, ap, subst}
use Rattle.solo_base.specs.declared.item.Feed.{Feed}
use Rattle.solo_base.specs.declared.outcome.Outcome.{Outcome}
use Rattle.solo_base.specs.declared.outcome.Side.TheVariants.{Sender, Receiver}
use Rattle.monitor_gate.specs.Calls.{after_call}
use Rattle.resource_mon.specs.Seats.{Pass, Seat}
use Rattle.slot_buffer.specs.declared.call.SlotCall.{SlotCall}
use Rattle.slot_buffer.specs.declared.call.SlotCall.TheVariants as slot
use Rattle.disk_spool.specs.declared.call.SpoolCall.{SpoolCall}
use Rattle.disk_spool.specs.declared.call.SpoolCall.TheVariants as spool
use Rattle.batch_procs.specs.declared.actions.Action.{Action}
use Rattle.batch_procs.specs.declared.actions.Action.TheVariants as act
use Rattle.batch_procs.specs.declared.actions.Reply.{Reply}
use Rattle.batch_procs.specs.declared.actions.Reply.TheVariants as reply
use Rattle.batch_procs.specs.History.{Entry, Does, holds, newest}
use Rattle.batch_procs.specs.Jobs.{Jobs, AreJobs}
use Rattle.batch_procs.specs.Process.{Follows, next_action}
use Rattle.batch_procs.specs.Relays.{input-relay}
use Rattle.batch_procs.specs.Table.{input}
use Rattle.batch_procs.proofs.Holding.{moves-holding, release-holds, request-holds_not}
use Rattle.batch_sides.specs.declared.input_side.InputSide.{InputSide}
use Rattle.batch_sides.specs.Calls.{line_calls, spool_calls}
use Rattle.batch_sides.specs.Desks.{IsAt}
use Rattle.batch_sides.specs.Input.{InputEndsAtGates, InputMayMake, InputMade, InputRan, does_input, input_with_stop}
use Rattle.batch_sides.specs.Running.{Performed}
use Rattle.batch_sides.proofs.LineCalls as lines
use Rattle.batch_sides.proofs.DoesOnly.{input-does}
use Rattle.batch_sides.proofs.Performing.{both-as, ended-without, only-does}
use Rattle.batch_sides.proofs.SpoolCalls as spools

module _ {L : Type 0} {J : Jobs L} (jobs : AreJobs J) where
  module _ {A : Type 0} (size : A → ℕ) (start old : InputSide A) (had : Option Pass) (h : List (Entry L)) (follows : Follows J input h)
      (ran : InputRan size start old had h) where
    gates : InputEndsAtGates size old
    gates = (ran.from_gate.1, ran.to_gate.1)

    pub input-may : (a : Action) → does_input a → next_action input h ≡ Some a → InputMayMake size old had a
    input-may act.TakeFeed does next =
        (gates, lines.not-stopped jobs input Receiver 1 h act.TakeFeed old.cards.calls (input-relay L) follows next tt ran.from_calls)
    input-may act.AwaitRoom does next =
        (gates, spools.not-stopped jobs input Sender 2 h act.AwaitRoom old.pages.calls (input-relay L) follows next tt ran.to_calls)
    input-may act.Request does next =
        subst (λ has. IsAt old.disk.now old.seat had has) (request-holds_not J input h (input-relay L) follows next) ran.desk.1
    input-may (act.PutPage page) does next = (
      gates,
      spools.not-stopped jobs input Sender 2 h (act.PutPage page) old.pages.calls (input-relay L) follows next tt ran.to_calls,
      spools.may-put jobs input 2 h page old.pages.calls (input-relay L) follows next ran.to_calls,
      subst (λ has. IsAt old.disk.now old.seat had has) (moves-holding J input h (act.PutPage page) (input-relay L) follows next tt) ran.desk.1,
    )
    input-may act.Release does next =
        subst (λ has. IsAt old.disk.now old.seat had has) (release-holds J input h (input-relay L) follows next) ran.desk.1
    input-may (act.Stop b) does next = (gates, does)
    input-may (act.Ended how) does next = tt
    input-may other does next = absurd does

    -- a call of the line buffer, of the spool, of the disk, or none
    from-called : (a : Action) (r : Reply L) (call : SlotCall Feed) → line_calls Receiver 1 (Does a r ∷ h) ≡ line_calls Receiver 1 h ++ call ∷ []
        → spool_calls Sender 2 (Does a r ∷ h) ≡ spool_calls Sender 2 h → holds (Does a r ∷ h) ≡ holds h
        → InputRan size start (record old { cards = after_call old.cards call }) had (Does a r ∷ h)
    from-called a r call calls other held = record {
      from_gate = ran.from_gate;
      from_calls = ap (λ calls. calls ++ call ∷ []) ran.from_calls ∙ sym calls;
      to_gate = ran.to_gate;
      to_calls = ran.to_calls ∙ sym other;
      disk = ran.disk;
      desk = (ran.desk.0, subst (λ has. IsAt old.disk.now old.seat had has) (sym held) ran.desk.1);
    }

    to-called : (a : Action) (r : Reply L) (call : SpoolCall (List ℕ)) → spool_calls Sender 2 (Does a r ∷ h) ≡ spool_calls Sender 2 h ++ call ∷ []
        → line_calls Receiver 1 (Does a r ∷ h) ≡ line_calls Receiver 1 h → holds (Does a r ∷ h) ≡ holds h
        → InputRan size start (record old { pages = after_call old.pages call }) had (Does a r ∷ h)
    to-called a r call calls other held = record {
      from_gate = ran.from_gate;
      from_calls = ran.from_calls ∙ sym other;
      to_gate = ran.to_gate;
      to_calls = ap (λ calls. calls ++ call ∷ []) ran.to_calls ∙ sym calls;
      disk = ran.disk;
      desk = (ran.desk.0, subst (λ has. IsAt old.disk.now old.seat had has) (sym held) ran.desk.1);
    }

    module _ (new : InputSide A) (has : Option Pass) where
      abbrev Stood : List (Entry L) → Type 0
      Stood = InputRan size start new has

      as-new : (h : List (Entry L)) (after : InputSide A) → (new ≡ after) × (has ≡ had) → InputRan size start after had h → Stood h
      as-new h after e stands = both-as (λ new has. InputRan size start new has h) e.0 e.1 stands

      at-desk : (a : Action) (r : Reply L) (held : Bool) → line_calls Receiver 1 (Does a r ∷ h) ≡ line_calls Receiver 1 h
          → spool_calls Sender 2 (Does a r ∷ h) ≡ spool_calls Sender 2 h → holds (Does a r ∷ h) ≡ held → new ≡ record old { seat = new.seat }
          → new.seat.number ≡ old.seat.number → IsAt old.disk.now new.seat has held → Stood (Does a r ∷ h)
      at-desk a r held from to holding e number at =
          subst (λ new. InputRan size start new has (Does a r ∷ h)) (sym e)
          (the-seat new.seat number at) where
            the-seat : (seat : Seat) → seat.number ≡ old.seat.number → IsAt old.disk.now seat has held
                → InputRan size start (record old { seat = seat }) has (Does a r ∷ h)
            the-seat seat number at = record {
              from_gate = ran.from_gate;
              from_calls = ran.from_calls ∙ sym from;
              to_gate = ran.to_gate;
              to_calls = ran.to_calls ∙ sym to;
              disk = ran.disk;
              desk = (number ∙ ran.desk.0, subst (λ held. IsAt old.disk.now seat has held) (sym holding) at);
            }

      stop-did : (b : ℕ) → (b ≡ 1) ⊎ (b ≡ 2) → (new ≡ input_with_stop b old) × (has ≡ had) → Performed J Stood (act.Stop b) reply.Done h
      stop-did b (inl is) =
          subst (λ b. (new ≡ input_with_stop b old) × (has ≡ had) → Performed J Stood (act.Stop b) reply.Done h) (sym is)
          (λ did. only-does J (act.Stop 1) reply.Done h tt (λ may. may)
          (as-new _ _ did (from-called (act.Stop 1) reply.Done (slot.Stop Receiver) refl refl refl)))
      stop-did b (inr is) =
          subst (λ b. (new ≡ input_with_stop b old) × (has ≡ had) → Performed J Stood (act.Stop b) reply.Done h) (sym is)
          (λ did. only-does J (act.Stop 2) reply.Done h tt (λ may. may)
          (as-new _ _ did (to-called (act.Stop 2) reply.Done (spool.Stop Sender) refl refl refl)))

      pub input-did : (a : Action) (r : Reply L) → does_input a → InputMade old had new has a r → Performed J Stood a r h
      input-did act.TakeFeed (reply.Feed f) does did =
          only-does J act.TakeFeed (reply.Feed f) h tt (λ may. may)
          (as-new _ _ did (from-called act.TakeFeed (reply.Feed f) (slot.Take f) refl refl refl))
      input-did act.TakeFeed reply.Stopped does did =
          only-does J act.TakeFeed reply.Stopped h tt (λ may. may)
          (as-new _ _ did (from-called act.TakeFeed reply.Stopped slot.TakeRefused refl refl refl))
      input-did act.AwaitRoom reply.Done does did =
          only-does J act.AwaitRoom reply.Done h tt (λ may. may)
          (as-new _ _ did (to-called act.AwaitRoom reply.Done (spool.Await Sender) refl refl refl))
      input-did act.AwaitRoom reply.Stopped does did =
          only-does J act.AwaitRoom reply.Stopped h tt (λ may. may)
          (as-new _ _ did (to-called act.AwaitRoom reply.Stopped (spool.AwaitRefused Sender) refl refl refl))
      input-did act.Request reply.Done does did =
          only-does J act.Request reply.Done h tt (λ may. may) (at-desk act.Request reply.Done true refl refl refl did.0 did.1 did.2)
      input-did (act.PutPage page) reply.Done does did =
          only-does J (act.PutPage page) reply.Done h tt (λ may. may)
          (as-new _ _ did (to-called (act.PutPage page) reply.Done (spool.Put page.0) refl refl refl))
      input-did (act.PutPage page) reply.Failed does did =
          only-does J (act.PutPage page) reply.Failed h tt (λ may. may)
          (as-new _ _ did (to-called (act.PutPage page) reply.Failed (spool.PutFailed page.0) refl refl refl))
      input-did act.Release reply.Done does did =
          only-does J act.Release reply.Done h tt (λ may. may) (at-desk act.Release reply.Done false refl refl refl did.0 did.1 did.2)
      input-did (act.Stop b) reply.Done does did = stop-did b does did
      input-did (act.Ended how) reply.Done does did =
          only-does J (act.Ended how) reply.Done h tt (λ may. may)
          (as-new (Does (act.Ended how) reply.Done ∷ h) old did record {
            from_gate = ran.from_gate;
            from_calls = ran.from_calls;
            to_gate = ran.to_gate;
            to_calls = ran.to_calls;
            disk = ran.disk;
            desk = ran.desk;
          })
      input-did a r does did = absurd did

  -- ---- behind a history of its side
  module _ {A : Type 0} {size : A → ℕ} (start old : InputSide A) (had : Option Pass) (h : List (Entry L)) (a : Action) (ran : InputRan size start old had h)
      (follows : Follows J input h) (next : next_action input h ≡ Some a) where
    pub input-may_next : InputMayMake size old had a
    input-may_next = input-may size start old had h follows ran a (input-does jobs h a follows next) next

    pub input-did_next : (new : InputSide A) (has : Option Pass) (r : Reply L) → InputMade old had new has a r → Performed J (InputRan size start new has) a r h
    input-did_next new has r did = input-did size start old had h follows ran new has a r (input-does jobs h a follows next) did

  pub input-without : {A : Type 0} {size : A → ℕ} {start now : InputSide A} (pass : Option Pass) (h : List (Entry L)) (how : Outcome)
      → InputRan size start now pass h → Follows J input h
      → newest h ≡ Some (act.Ended how) → pass ≡ None
  input-without {now = now} pass h how ran follows last = ended-without J input h how now.disk.now now.seat pass (input-relay L) follows last ran.desk.1
