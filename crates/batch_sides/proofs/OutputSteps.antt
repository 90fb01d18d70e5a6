-- One action of the output process more: that it may perform it, and what its side has become.
use Rattle.std.proofs.Common.{◌≡◌, ◌⊎◌, inl, inr, ℕ, Bool, true, false, List, [], ◌∷◌, ◌++◌, Option, None, Some, refl, sym, ◌∙◌, ap, subst}
use Rattle.solo_base.specs.declared.item.Feed.{Feed}
use Rattle.solo_base.specs.declared.page.Page.{Page}
use Rattle.solo_base.specs.declared.outcome.Outcome.{Outcome}
use Rattle.solo_base.specs.declared.outcome.Side.TheVariants.{Sender, Receiver}
use Rattle.monitor_gate.specs.Calls.{after_call}
use Rattle.resource_mon.specs.Seats.{Pass, Seat}
use Rattle.slot_buffer.specs.declared.call.SlotCall.{SlotCall}
use Rattle.slot_buffer.specs.declared.call.SlotCall.TheVariants as slot
use Rattle.disk_spool.specs.declared.call.SpoolCall.{SpoolCall}
use Rattle.disk_spool.specs.declared.call.SpoolCall.TheVariants as spool
use Rattle.batch_procs.specs.declared.actions.Action.{Action}
use Rattle.batch_procs.specs.declared.actions.Action.TheVariants as act
use Rattle.batch_procs.specs.declared.actions.Reply.{Reply}
use Rattle.batch_procs.specs.declared.actions.Reply.TheVariants as reply
use Rattle.batch_procs.specs.History.{Entry, Does, LacksMemory, holds, newest}
use Rattle.batch_procs.specs.Jobs.{Jobs, AreJobs}
use Rattle.batch_procs.specs.Process.{Follows, next_action}
use Rattle.batch_procs.specs.Relays.{output-relay}
use Rattle.batch_procs.specs.Table.{output}
use Rattle.batch_procs.proofs.Holding.{moves-holding, release-holds, request-holds_not}
use Rattle.batch_sides.specs.declared.output_side.OutputSide.{OutputSide}
use Rattle.batch_sides.specs.Calls.{line_calls, spool_calls}
use Rattle.batch_sides.specs.Desks.{IsAt}
use Rattle.batch_sides.specs.Output.{OutputEndsAtGates, OutputMayMake, OutputMade, OutputRan, does_output, output_with_stop}
use Rattle.batch_sides.specs.Running.{Performed}
use Rattle.batch_sides.proofs.LineCalls as lines
use Rattle.batch_sides.proofs.DoesOnly.{output-does}
use Rattle.batch_sides.proofs.Performing.{both-as, ended-without, only-does}
use Rattle.batch_sides.proofs.SpoolCalls as spools

module _ {L : Type 0} {J : Jobs L} (jobs : AreJobs J) where
  module _ {B : Type 0} (size : B → ℕ) (start old : OutputSide B) (had : Option Pass) (h : List (Entry L)) (follows : Follows J output h)
      (ran : OutputRan size start old had h) where
    gates : OutputEndsAtGates size old
    gates = (ran.from_gate.1, ran.to_gate.1)

    pub output-may : (a : Action) → does_output a → next_action output h ≡ Some a → OutputMayMake size old had a
    output-may act.AwaitItem does next =
        (gates, spools.not-stopped jobs output Receiver 3 h act.AwaitItem old.pages.calls (output-relay L) follows next tt ran.from_calls)
    output-may act.Request does next =
        subst (λ has. IsAt old.disk.now old.seat had has) (request-holds_not J output h (output-relay L) follows next) ran.desk.1
    output-may act.TakePage does next = (
      gates,
      spools.not-stopped jobs output Receiver 3 h act.TakePage old.pages.calls (output-relay L) follows next tt ran.from_calls,
      spools.may-take jobs output 3 h old.pages.calls (output-relay L) follows next ran.from_calls,
      subst (λ has. IsAt old.disk.now old.seat had has) (moves-holding J output h act.TakePage (output-relay L) follows next tt) ran.desk.1,
    )
    output-may act.Release does next =
        subst (λ has. IsAt old.disk.now old.seat had has) (release-holds J output h (output-relay L) follows next) ran.desk.1
    output-may (act.PutFeed f) does next =
        (gates, lines.not-stopped jobs output Sender 4 h (act.PutFeed f) old.lines.calls (output-relay L) follows next tt ran.to_calls)
    output-may (act.Stop b) does next = (gates, does)
    output-may (act.Ended how) does next = tt
    output-may other does next = absurd does

    -- a call of the line buffer, of the spool, of the disk, or none
    from-called : (a : Action) (r : Reply L) (call : SpoolCall (List ℕ)) → spool_calls Receiver 3 (Does a r ∷ h) ≡ spool_calls Receiver 3 h ++ call ∷ []
        → line_calls Sender 4 (Does a r ∷ h) ≡ line_calls Sender 4 h → holds (Does a r ∷ h) ≡ holds h
        → OutputRan size start (record old { pages = after_call old.pages call }) had (Does a r ∷ h)
    from-called a r call calls other held = record {
      from_gate = ran.from_gate;
      from_calls = ap (λ calls. calls ++ call ∷ []) ran.from_calls ∙ sym calls;
      to_gate = ran.to_gate;
      to_calls = ran.to_calls ∙ sym other;
      disk = ran.disk;
      desk = (ran.desk.0, subst (λ has. IsAt old.disk.now old.seat had has) (sym held) ran.desk.1);
    }

    to-called : (a : Action) (r : Reply L) (call : SlotCall Feed) → line_calls Sender 4 (Does a r ∷ h) ≡ line_calls Sender 4 h ++ call ∷ []
        → spool_calls Receiver 3 (Does a r ∷ h) ≡ spool_calls Receiver 3 h → holds (Does a r ∷ h) ≡ holds h
        → OutputRan size start (record old { lines = after_call old.lines call }) had (Does a r ∷ h)
    to-called a r call calls other held = record {
      from_gate = ran.from_gate;
      from_calls = ran.from_calls ∙ sym other;
      to_gate = ran.to_gate;
      to_calls = ap (λ calls. calls ++ call ∷ []) ran.to_calls ∙ sym calls;
      disk = ran.disk;
      desk = (ran.desk.0, subst (λ has. IsAt old.disk.now old.seat had has) (sym held) ran.desk.1);
    }

    module _ (new : OutputSide B) (has : Option Pass) where
      abbrev Stood : List (Entry L) → Type 0
      Stood = OutputRan size start new has

      as-new : (h : List (Entry L)) (after : OutputSide B) → (new ≡ after) × (has ≡ had) → OutputRan size start after had h → Stood h
      as-new h after e stands = both-as (λ new has. OutputRan size start new has h) e.0 e.1 stands

      at-desk : (a : Action) (r : Reply L) (held : Bool) → spool_calls Receiver 3 (Does a r ∷ h) ≡ spool_calls Receiver 3 h
          → line_calls Sender 4 (Does a r ∷ h) ≡ line_calls Sender 4 h → holds (Does a r ∷ h) ≡ held → new ≡ record old { seat = new.seat }
          → new.seat.number ≡ old.seat.number → IsAt old.disk.now new.seat has held → Stood (Does a r ∷ h)
      at-desk a r held from to holding e number at =
          subst (λ new. OutputRan size start new has (Does a r ∷ h)) (sym e)
          (the-seat new.seat number at) where
            the-seat : (seat : Seat) → seat.number ≡ old.seat.number → IsAt old.disk.now seat has held
                → OutputRan size start (record old { seat = seat }) has (Does a r ∷ h)
            the-seat seat number at = record {
              from_gate = ran.from_gate;
              from_calls = ran.from_calls ∙ sym from;
              to_gate = ran.to_gate;
              to_calls = ran.to_calls ∙ sym to;
              disk = ran.disk;
              desk = (number ∙ ran.desk.0, subst (λ held. IsAt old.disk.now seat has held) (sym holding) at);
            }

      stop-did : (b : ℕ) → (b ≡ 3) ⊎ (b ≡ 4) → (new ≡ output_with_stop b old) × (has ≡ had) → Performed J Stood (act.Stop b) reply.Done h
      stop-did b (inl is) =
          subst (λ b. (new ≡ output_with_stop b old) × (has ≡ had) → Performed J Stood (act.Stop b) reply.Done h) (sym is)
          (λ did. only-does J (act.Stop 3) reply.Done h tt (λ may. may)
          (as-new _ _ did (from-called (act.Stop 3) reply.Done (spool.Stop Receiver) refl refl refl)))
      stop-did b (inr is) =
          subst (λ b. (new ≡ output_with_stop b old) × (has ≡ had) → Performed J Stood (act.Stop b) reply.Done h) (sym is)
          (λ did. only-does J (act.Stop 4) reply.Done h tt (λ may. may)
          (as-new _ _ did (to-called (act.Stop 4) reply.Done (slot.Stop Sender) refl refl refl)))

      -- a page that was taken, also where the memory to use it was refused
      took-page : (page : Page) (last : Bool) → (new ≡ record old { pages = after_call old.pages (spool.Take page.0 last) }) × (has ≡ had)
          → Performed J Stood act.TakePage (reply.Page page last) h
      took-page page last did =
          let took = from-called act.TakePage (reply.Page page last) (spool.Take page.0 last) refl refl refl in
          record {
            fits = tt;
            done = as-new _ _ did took;
            lacks = λ may. as-new (LacksMemory act.TakePage (reply.Page page last) ∷ h) (record old {
              pages = after_call old.pages
                  (spool.Take page.0 last);
            }) did
                record {
                  from_gate = ran.from_gate;
                  from_calls = took.from_calls;
                  to_gate = ran.to_gate;
                  to_calls = took.to_calls;
                  disk = ran.disk;
                  desk = ran.desk;
                };
          }

      pub output-did : (a : Action) (r : Reply L) → does_output a → OutputMade old had new has a r → Performed J Stood a r h
      output-did act.AwaitItem reply.Done does did =
          only-does J act.AwaitItem reply.Done h tt (λ may. may)
          (as-new _ _ did (from-called act.AwaitItem reply.Done (spool.Await Receiver) refl refl refl))
      output-did act.AwaitItem reply.Stopped does did =
          only-does J act.AwaitItem reply.Stopped h tt (λ may. may)
          (as-new _ _ did (from-called act.AwaitItem reply.Stopped (spool.AwaitRefused Receiver) refl refl refl))
      output-did act.Request reply.Done does did =
          only-does J act.Request reply.Done h tt (λ may. may) (at-desk act.Request reply.Done true refl refl refl did.0 did.1 did.2)
      output-did act.TakePage (reply.Page page last) does did = took-page page last did
      output-did act.TakePage reply.Failed does did =
          only-does J act.TakePage reply.Failed h tt (λ may. may)
          (as-new _ _ did (from-called act.TakePage reply.Failed spool.TakeFailed refl refl refl))
      output-did act.Release reply.Done does did =
          only-does J act.Release reply.Done h tt (λ may. may) (at-desk act.Release reply.Done false refl refl refl did.0 did.1 did.2)
      output-did (act.PutFeed f) reply.Done does did =
          only-does J (act.PutFeed f) reply.Done h tt (λ may. may)
          (as-new _ _ did (to-called (act.PutFeed f) reply.Done (slot.Put f) refl refl refl))
      output-did (act.PutFeed f) reply.Stopped does did =
          only-does J (act.PutFeed f) reply.Stopped h tt (λ may. may)
          (as-new _ _ did (to-called (act.PutFeed f) reply.Stopped (slot.PutRefused f) refl refl refl))
      output-did (act.Stop b) reply.Done does did = stop-did b does did
      output-did (act.Ended how) reply.Done does did =
          only-does J (act.Ended how) reply.Done h tt (λ may. may)
          (as-new (Does (act.Ended how) reply.Done ∷ h) old did record {
            from_gate = ran.from_gate;
            from_calls = ran.from_calls;
            to_gate = ran.to_gate;
            to_calls = ran.to_calls;
            disk = ran.disk;
            desk = ran.desk;
          })
      output-did a r does did = absurd did

  -- ---- behind a history of its side
  module _ {B : Type 0} {size : B → ℕ} (start old : OutputSide B) (had : Option Pass) (h : List (Entry L)) (a : Action) (ran : OutputRan size start old had h)
      (follows : Follows J output h) (next : next_action output h ≡ Some a) where
    pub output-may_next : OutputMayMake size old had a
    output-may_next = output-may size start old had h follows ran a (output-does jobs h a follows next) next

    pub output-did_next : (new : OutputSide B) (has : Option Pass) (r : Reply L) → OutputMade old had new has a r → Performed J
        (OutputRan size start new has) a r h
    output-did_next new has r did = output-did size start old had h follows ran new has a r (output-does jobs h a follows next) did

  pub output-without : {B : Type 0} {size : B → ℕ} {start now : OutputSide B} (pass : Option Pass) (h : List (Entry L)) (how : Outcome)
      → OutputRan size start now pass h → Follows J output h
      → newest h ≡ Some (act.Ended how) → pass ≡ None
  output-without {now = now} pass h how ran follows last = ended-without J output h how now.disk.now now.seat pass (output-relay L) follows last ran.desk.1
