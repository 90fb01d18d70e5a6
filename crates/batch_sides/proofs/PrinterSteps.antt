-- One action of the printer process more: that it may perform it, and what its side has become.
use Rattle.std.proofs.Common.{◌≡◌, ℕ, List, [], ◌∷◌, ◌++◌, Option, Some, refl, sym, ◌∙◌, ap, subst, append-nil}
use Rattle.solo_base.specs.declared.item.Feed.{Feed}
use Rattle.solo_base.specs.declared.outcome.Side.TheVariants.{Receiver}
use Rattle.monitor_gate.specs.Calls.{after_call}
use Rattle.resource_mon.specs.Seats.{Pass}
use Rattle.solo_devices.specs.PrinterUnit.{Printing}
use Rattle.solo_base.specs.Prefixes.{IsPrefixOf}
use Rattle.slot_buffer.specs.declared.call.SlotCall.{SlotCall}
use Rattle.slot_buffer.specs.declared.call.SlotCall.TheVariants as slot
use Rattle.batch_procs.specs.declared.actions.Action.{Action}
use Rattle.batch_procs.specs.declared.actions.Action.TheVariants as act
use Rattle.batch_procs.specs.declared.actions.Reply.{Reply}
use Rattle.batch_procs.specs.declared.actions.Reply.TheVariants as reply
use Rattle.batch_procs.specs.Causes.{caused, given_cause}
use Rattle.batch_procs.specs.Fits.{MayLack}
use Rattle.batch_procs.specs.History.{Entry, Does}
use Rattle.batch_procs.specs.Jobs.{Jobs, AreJobs}
use Rattle.batch_procs.specs.Process.{Follows, next_action}
use Rattle.batch_procs.specs.Relays.{printer-relay}
use Rattle.batch_procs.specs.Table.{printer}
use Rattle.batch_procs.proofs.Closing.{or-none}
use Rattle.batch_procs.proofs.Relay.{open-next}
use Rattle.batch_sides.specs.declared.printer_side.PrinterSide.{PrinterSide}
use Rattle.batch_sides.specs.Calls.{line_calls}
use Rattle.batch_sides.specs.Lines.{PaperRan, PrinterMayMake, PrinterMade, PrinterRan, does_printer, newest_print, text_tried, gained_by, gained_in_all, IsPartOf}
use Rattle.batch_sides.specs.Running.{Performed}
use Rattle.batch_sides.proofs.LineCalls.{not-stopped}
use Rattle.batch_sides.proofs.Papers.{paper-printed}
use Rattle.batch_sides.proofs.DoesOnly.{printer-does}
use Rattle.batch_sides.proofs.Performing.{both-as, only-does}

module _ {L : Type 0} {J : Jobs L} (jobs : AreJobs J) where
  module _ {K : Type 0} (given : K → Option (List ℕ)) (faults : K → ℕ) where
    -- a paper on which nothing is printed
    paper-still : (start now : Printing K) (h : List (Entry L)) (a : Action) (r : Reply L) → text_tried (Does a r ∷ h) ≡ text_tried h
        → newest_print (Does a r ∷ h) ≡ newest_print h → ((part : List ℕ) → IsPartOf part (Does a r) × (gained_by part (Does a r) ≡ []))
        → PaperRan given faults start now h → PaperRan given faults start now (Does a r ∷ h)
    paper-still start now h a r text newest none_gained ran = record {
      prints = λ before told.
          let (gained, is, part, all) = ran.prints before told in (
            gained,
            is,
            subst (λ tried. IsPrefixOf gained tried) (sym text) part,
            (λ none. all (or-none (caused h) (given_cause a r h) none) ∙ sym text),
          );
      gave = (
        ran.gave.0,
        ((none_gained ran.gave.0).0, ran.gave.1),
        λ before told. ran.gave.2 before told ∙ ap (λ all. Some (before ++ all)) (sym (append-nil (gained_in_all ran.gave.0 h))
            ∙ ap (λ more. gained_in_all ran.gave.0 h ++ more) (sym (none_gained ran.gave.0).1)),
      );
      untold = ran.untold;
      counts = ran.counts;
      failed = λ is. ran.failed (sym newest ∙ is);
      live = λ none. ran.live (or-none (caused h) (given_cause a r h) none);
    }

    module _ (start old : PrinterSide K) (h : List (Entry L)) (follows : Follows J printer h) (had : Option Pass)
        (ran : PrinterRan given faults start old had h) where
      pub printer-may : (a : Action) → does_printer a → next_action printer h ≡ Some a → PrinterMayMake old a
      printer-may act.TakeFeed does next =
          (ran.gate.1, not-stopped jobs printer Receiver 4 h act.TakeFeed old.lines.calls (printer-relay L) follows next tt ran.calls)
      printer-may (act.Print line) does next = ran.paper.live (open-next J printer h (act.Print line) next tt)
      printer-may (act.Stop b) does next = ran.gate.1
      printer-may (act.Ended how) does next = tt
      printer-may other does next = absurd does

      -- a call of the line buffer
      called : (a : Action) (r : Reply L) (call : SlotCall Feed) → line_calls Receiver 4 (Does a r ∷ h) ≡ line_calls Receiver 4 h ++ call ∷ []
          → text_tried (Does a r ∷ h) ≡ text_tried h → newest_print (Does a r ∷ h) ≡ newest_print h
          → ((part : List ℕ) → IsPartOf part (Does a r) × (gained_by part (Does a r) ≡ [])) → PrinterRan given faults start (record old {
            lines =
                after_call old.lines call;
          }) had (Does a r ∷ h)
      called a r call calls text newest none_gained = record {
        gate = ran.gate;
        calls = ap (λ calls. calls ++ call ∷ []) ran.calls ∙ sym calls;
        paper = paper-still start.paper old.paper h a r text newest none_gained ran.paper;
        none = ran.none;
      }

      module _ (new : PrinterSide K) (has : Option Pass) where
        abbrev Stood : List (Entry L) → Type 0
        Stood = PrinterRan given faults start new has

        as-new : (h : List (Entry L)) (after : PrinterSide K) → (new ≡ after) × (has ≡ had) → PrinterRan given faults start after had h → Stood h
        as-new h after e stands = both-as (λ new has. PrinterRan given faults start new has h) e.0 e.1 stands

        print-lacks : (line : List ℕ) (r : Reply L) → MayLack (act.Print line) r → ⊥
        print-lacks line r may = may

        pub printer-did : (a : Action) (r : Reply L) → does_printer a → next_action printer h ≡ Some a
            → PrinterMade J given faults old had new has a r → Performed J Stood a r h
        printer-did act.TakeFeed (reply.Feed f) does next did =
            only-does J act.TakeFeed (reply.Feed f) h tt (λ may. may)
            (as-new _ _ did (called act.TakeFeed (reply.Feed f) (slot.Take f) refl refl refl (λ part. (tt, refl))))
        printer-did act.TakeFeed reply.Stopped does next did =
            only-does J act.TakeFeed reply.Stopped h tt (λ may. may) (as-new _ _ did (called act.TakeFeed reply.Stopped slot.TakeRefused refl refl refl
            (λ part. (tt, refl))))
        printer-did (act.Print line) r does next did =
            let print = did.2 in
            only-does J (act.Print line) r h print.prints.suits (print-lacks line r)
            (as-new (Does (act.Print line) r ∷ h) (record old { paper = new.paper }) (did.0, did.1) record {
              gate = ran.gate;
              calls = ran.calls;
              paper = paper-printed jobs start.paper old.paper new.paper h line r printer follows ran.paper (open-next J printer h (act.Print line) next tt)
                  print.prints print.failed print.counts print.live;
              none = ran.none;
            })
        printer-did (act.Stop b) reply.Done does next did =
            subst (λ b. Performed J Stood (act.Stop b) reply.Done h) (sym does)
            (only-does J (act.Stop 4) reply.Done h tt (λ may. may)
            (as-new _ _ did (called (act.Stop 4) reply.Done (slot.Stop Receiver) refl refl refl (λ part. (tt, refl)))))
        printer-did (act.Ended how) reply.Done does next did =
            only-does J (act.Ended how) reply.Done h tt (λ may. may)
            (as-new (Does (act.Ended how) reply.Done ∷ h) old did record {
              gate = ran.gate;
              calls = ran.calls;
              paper = paper-still start.paper old.paper h (act.Ended how) reply.Done refl refl (λ part. (tt, refl)) ran.paper;
              none = ran.none;
            })
        printer-did a r does next did = absurd did

  -- ---- behind a history of its side
  module _ {K : Type 0} {given : K → Option (List ℕ)} {faults : K → ℕ} (start old : PrinterSide K) (had : Option Pass) (h : List (Entry L)) (a : Action)
      (ran : PrinterRan given faults start old had h)
      (follows : Follows J printer h) (next : next_action printer h ≡ Some a) where
    pub printer-may_next : PrinterMayMake old a
    printer-may_next = printer-may given faults start old h follows had ran a (printer-does jobs h a follows next) next

    pub printer-did_next : (new : PrinterSide K) (has : Option Pass) (r : Reply L) → PrinterMade J given faults old had new has a r → Performed J
        (PrinterRan given faults start new has) a r h
    printer-did_next new has r did = printer-did given faults start old h follows had ran new has a r (printer-does jobs h a follows next) next did
