-- What the three need before their first action, from buffers that nobody has used; and what is known once all have ended.
use Rattle.std.proofs.Common.{◌≡◌, ◌≤◌, ℕ, true, List, [], ◌∷◌, Option, None, refl, sym, ◌∙◌, ap, subst, arith}
use Rattle.solo_base.specs.declared.outcome.Cause.{Cause}
use Rattle.solo_base.specs.declared.outcome.Outcome.{Outcome}
use Rattle.solo_base.specs.declared.outcome.Side.{Side}
use Rattle.solo_base.specs.declared.outcome.Side.TheVariants.{Sender, Receiver}
use Rattle.monitor_gate.specs.Ends.{TableId}
use Rattle.monitor_gate.specs.Calls.{End}
use Rattle.slot_buffer.specs.declared.call.SlotCall.{SlotCall}
use Rattle.solo_devices.specs.CardUnit.{Held}
use Rattle.solo_devices.specs.PrinterUnit.{Printing}
use Rattle.exchange_law.specs.Parcels.{Parcel, OfArg, OfPage}
use Rattle.solo_ends.specs.declared.units.SoloUnits.{SoloUnits}
use Rattle.solo_run.specs.declared.ends.Sending.{Sending}
use Rattle.solo_run.specs.declared.ends.Taking.{Taking}
use Rattle.solo_run.specs.declared.gates.Gates.{Gates}
use Rattle.solo_run.specs.declared.row.Row.{Row}
use Rattle.solo_run.specs.declared.row.RowEnded.{RowEnded}
use Rattle.solo_run.specs.declared.solo.Parted.{Parted}
use Rattle.solo_run.specs.Ends.{AreCalls, HasSent, HasTaken}
use Rattle.solo_run.specs.Devices.{ReadsRan, LinesRan}
use Rattle.solo_run.specs.Gates.{AreFresh, GatesMeet}
use Rattle.solo_run.specs.Job.{JobWorld}
use Rattle.solo_run.specs.Row.{RowBegins, RowRan}
use Rattle.solo_run.specs.Begun.{AreLive, BeginsBy, IsParted, units_of, behind, SoloDid}
use Rattle.solo_run.proofs.EndCalls.{calls-first}

same≤ : (n : ℕ) → n ≤ n
same≤ n = omega arith

-- ---- an end that had no call
module _ {T : Type 0} (wrap : T → Parcel) (p b : ℕ) where
  no-calls : (side : Side) (calls : List (SlotCall T)) → calls ≡ [] → AreCalls wrap b side [] calls
  no-calls side calls e = subst (λ calls. AreCalls wrap b side [] calls) (sym e) (calls-first wrap b side)

  sends-first : (s : Sending T) (gate : TableId) (end : End TableId (SlotCall T)) → (s.gate.now ≡ gate) × (s.end ≡ end)
      → end ≡ record { gate = gate; calls = [] }
      → HasSent wrap p b s s []
  sends-first s gate end at fresh = record {
    gate = refl;
    at = ap (λ e. e.gate) (at.1 ∙ fresh) ∙ sym at.0;
    calls = no-calls Sender s.end.calls (ap (λ e. e.calls) (at.1 ∙ fresh));
  }

  takes-first : (s : Taking T) (gate : TableId) (end : End TableId (SlotCall T)) → (s.gate.now ≡ gate) × (s.end ≡ end)
      → end ≡ record { gate = gate; calls = [] }
      → HasTaken wrap p b s s []
  takes-first s gate end at fresh = record {
    gate = refl;
    at = ap (λ e. e.gate) (at.1 ∙ fresh) ∙ sym at.0;
    calls = no-calls Receiver s.end.calls (ap (λ e. e.calls) (at.1 ∙ fresh));
  }

-- ---- a device that wasn't used
reads-first : {S : Type 0} (left : S → Option (List ℕ)) (taken faults : S → ℕ) (held : Held S) → held.live ≡ true → ReadsRan left taken faults held held None
reads-first left taken faults held live = record {
  live = λ e. live;
  failed = λ e. absurd cc;
  counts = same≤ (faults held.source);
  limit = λ e. absurd cc;
  longer = λ few over. absurd (omega (arith, few, over));
  total = refl;
}

lines-first : {K : Type 0} (faults : K → ℕ) (own : Cause) (printing : Printing K) → printing.live ≡ true → LinesRan faults own printing printing None
lines-first faults own printing live = record {
  live = λ e. live;
  failed = λ e. absurd cc;
  counts = same≤ (faults printing.sink);
}

module _ {S Y T F K : Type 0} (left : S → Option (List ℕ)) (taken reads : S → ℕ) (w : JobWorld Y T F) (given : K → Option (List ℕ)) (faults : K → ℕ)
    (cards prints : Gates) (parted : Parted S Y K T F) (row : Row S Y K T F) (begins : BeginsBy cards prints parted row) where
  pub row-begins : AreLive parted.units → w.sound parted.units.files → AreFresh cards parted.cards → AreFresh prints parted.prints
      → RowBegins left taken reads w given faults row
  row-begins live sound front back = record {
    input_begins = record {
      orders = takes-first OfArg 1 1 row.input.orders _ _ begins.input_orders front.orders_receiver;
      pages = sends-first OfPage 1 2 row.input.pages _ _ begins.input_pages front.pages_sender;
      reports = sends-first OfArg 1 3 row.input.reports _ _ begins.input_reports front.reports_sender;
      cards = reads-first left taken reads row.input.cards (ap (λ held. held.live) begins.cards_are ∙ live.cards);
      told = λ d told. (tt, told);
    };
    back = record {
      job_begins = record {
        card_orders = sends-first OfArg 2 1 row.job.card_orders _ _ begins.job_card_orders front.orders_sender;
        cards = takes-first OfPage 2 2 row.job.cards _ _ begins.job_cards front.pages_receiver;
        card_reports = takes-first OfArg 2 3 row.job.card_reports _ _ begins.job_card_reports front.reports_receiver;
        print_orders = sends-first OfArg 2 4 row.job.print_orders _ _ begins.job_print_orders back.orders_sender;
        pages = sends-first OfPage 2 5 row.job.pages _ _ begins.job_pages back.pages_sender;
        print_reports = takes-first OfArg 2 6 row.job.print_reports _ _ begins.job_print_reports back.reports_receiver;
        keys = reads-first w.left w.taken w.keys_faults row.job.typewriter.keys (ap (λ t. t.keys.live) begins.typewriter_is ∙ live.keys);
        console = lines-first w.console_faults _ row.job.typewriter.console (ap (λ t. t.console.live) begins.typewriter_is ∙ live.console);
        files = record {
          sound_now = λ e. subst w.sound (sym begins.files_are) sound;
          failed = λ e. absurd cc;
          counts = same≤ (w.files_faults row.job.files);
        };
        told = λ d told. (tt, record { keys = told.keys; console = told.console; work = λ none plan is. told.work tt plan is });
      };
      output_begins = record {
        orders = takes-first OfArg 3 4 row.output.orders _ _ begins.output_orders back.orders_receiver;
        pages = takes-first OfPage 3 5 row.output.pages _ _ begins.output_pages back.pages_receiver;
        reports = sends-first OfArg 3 6 row.output.reports _ _ begins.output_reports back.reports_sender;
        paper = lines-first faults _ row.output.paper (ap (λ p. p.live) begins.paper_is ∙ live.paper);
        told = λ d told. (tt, told);
      };
    };
  }

  same-units : (units : SoloUnits S Y K T F) → parted.units ≡ units → units_of row ≡ units
  same-units units same = rw (begins.cards_are, begins.typewriter_is, begins.paper_is, begins.files_are) same

  -- ---- all that is known once they have ended
  module _ (ended : RowEnded S Y K T F) (ran : RowRan left taken reads w given faults row ended) (back : Parted S Y K T F)
      (parts : IsParted (behind ended) back) where
    abbrev Sides : Type 0
    Sides = Option Side × Option Side × Option Side

    pub solo-did : (front rear : Sides) (outcomes : List Outcome) → GatesMeet back.cards front → GatesMeet back.prints rear
        → outcomes ≡ ended.input.1 ∷ ended.job.1 ∷ ended.output.1 ∷ [] → SoloDid left taken reads w given faults parted.units (record {
          outcomes = outcomes;
          stopped_by = front.0 ∷ front.1 ∷ front.2 ∷ rear.0 ∷ rear.1 ∷ rear.2 ∷ [];
          units = back.units;
        })
    solo-did front rear outcomes front_meet rear_meet same =
        let one = subst (λ ends. GatesMeet ends front) parts.cards front_meet in
        let two = subst (λ ends. GatesMeet ends rear) parts.prints rear_meet in
        record {
          row = row;
          ended = ended;
          begins = same-units parted.units refl;
          ran_so = ran;
          stops = front.0 ∷ front.1 ∷ front.2 ∷ rear.0 ∷ rear.1 ∷ rear.2 ∷ [];
          meet = record {
            card_orders_rest = one.orders_rest;
            card_orders = one.orders;
            cards_rest = one.pages_rest;
            cards = one.pages;
            card_reports_rest = one.reports_rest;
            card_reports = one.reports;
            print_orders_rest = two.orders_rest;
            print_orders = two.orders;
            pages_rest = two.pages_rest;
            pages = two.pages;
            print_reports_rest = two.reports_rest;
            print_reports = two.reports;
          };
          six = refl;
          ran_is = rw (same, parts.units) refl;
        }
