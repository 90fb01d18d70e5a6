-- The ends of the five meet at their gates, whether these ran or none of them has begun.
use Rattle.std.proofs.Common.{◌≡◌, ℕ, Bool, true, false, List, [], Option, refl, sym, ◌∙◌, ap}
use Rattle.solo_base.specs.declared.outcome.Side.{Side}
use Rattle.solo_base.specs.declared.outcome.Side.TheVariants.{Sender, Receiver}
use Rattle.queue_var.specs.BetweenTwo.{by_side}
use Rattle.solo_devices.specs.CardUnit.{Held}
use Rattle.solo_devices.specs.PrinterUnit.{Printing}
use Rattle.disk_spool.specs.declared.call.SpoolCall.{SpoolCall}
use Rattle.disk_spool.specs.Calls.{has_move}
use Rattle.disk_spool.specs.Ends.{Known, Opened, known}
use Rattle.resource_mon.specs.Seats.{Desk, Pass, Seat}
use Rattle.batch_procs.specs.History.{Entry}
use Rattle.batch_procs.specs.Jobs.{Jobs}
use Rattle.batch_ends.specs.declared.units.Units.{Units}
use Rattle.batch_run.specs.declared.batch.Parted.{Parted}
use Rattle.batch_sides.specs.declared.gates.AllMet.{AllMet as Met}
use Rattle.batch_sides.specs.declared.gates.Gates.{Gates}
use Rattle.batch_sides.specs.declared.gates.Ends.{Ends}
use Rattle.batch_sides.specs.declared.row.Row.{Row}
use Rattle.batch_sides.specs.declared.row.RowEnded.{RowEnded}
use Rattle.batch_sides.specs.Begun.{AreFresh, BeginsBy, fresh_seat, units_at}
use Rattle.batch_sides.specs.Desks.{DeskRan}
use Rattle.batch_sides.specs.Files.{FileTells}
use Rattle.batch_sides.specs.Met.{AllMeet, AreEndsOf, IsSeatAt}
use Rattle.batch_run.specs.Apart.{IsParted}
use Rattle.batch_sides.specs.Row.{RowCame, RowRan, RowStays}

-- a seat that was fresh
seat-ran : {L : Type 0} (disk now : Desk) (number : ℕ) (fresh start seat parted : Seat) (pass : Option Pass) (h : List (Entry L)) → parted ≡ seat
    → DeskRan now start seat pass h → now ≡ disk → start ≡ fresh → fresh ≡ fresh_seat disk number → IsSeatAt disk number parted
seat-ran disk now number fresh start seat parted pass h is ran same begun is_fresh = record {
  gate = ap (λ s. s.gate) is ∙ ran.1.gate ∙ ap (λ d. d.gate) same;
  number_is = ap (λ s. s.number) is ∙ ran.0 ∙ ap (λ s. s.number) (begun ∙ is_fresh);
  alone = ap (λ s. s.joined) is ∙ ran.1.alone;
}

seat-stays : (disk : Desk) (number : ℕ) (parted : Seat) → parted ≡ fresh_seat disk number → IsSeatAt disk number parted
seat-stays disk number parted is = record {
  gate = ap (λ s. s.gate) is;
  number_is = ap (λ s. s.number) is;
  alone = ap (λ s. s.joined) is;
}

abbrev known-by : {X : Type 0} → (X → ℕ) → Opened X → Known X
known-by size gate = known (size gate.area) gate

same-units : {S K F A B : Type 0} (units : Units S K F A B) (deck : Held S) (paper : Printing K) (files : F) (input : A) (output : B) → deck ≡ units.deck
    → paper ≡ units.paper → files ≡ units.files → input ≡ units.input → output ≡ units.output
    → record { deck = deck; paper = paper; files = files; input = input; output = output } ≡ units
same-units units deck paper files input output a b c e g = rw (a, b, c, e, g) refl

none-moved : (calls others : List (SpoolCall (List ℕ))) → calls ≡ [] → others ≡ [] → (side : Side) → has_move (by_side calls others side) ≡ false
none-moved calls others none no_others Sender = ap has_move none
none-moved calls others none no_others Receiver = ap has_move no_others

module _ {S K F A B : Type 0} (from_size : A → ℕ) (to_size : B → ℕ) {gates : Gates A B} {ends : Ends A B} {deck : Held S} {paper : Printing K}
    {files : F} {row : Row S K F A B} {ended : RowEnded S K F A B} {parted : Parted S K F A B}
    (fresh : AreFresh (from_size gates.input.area) (to_size gates.output.area) gates ends) (begins : BeginsBy gates ends deck paper files row)
    (is : IsParted ended parted) where
  ends-ran : {L : Type 0} {J : Jobs L} {left : S → Option (List ℕ)} {taken source_faults : S → ℕ} {given : K → Option (List ℕ)}
      {sink_faults : K → ℕ} {loader : FileTells L F} → RowRan J left taken source_faults given sink_faults loader from_size to_size row ended
      → AreEndsOf (from_size gates.input.area) (to_size gates.output.area) gates parted.ends
  ends-ran ran =
      let card = ran.cards.stands in
      let input = ran.pages.stands in
      let job = ran.jobs.stands in
      let output = ran.lines.stands in
      let printer = ran.paper.stands in
      record {
        cards_sender = ap (λ e. e.gate) is.cards_sender ∙ card.gate.1 ∙ sym card.gate.0 ∙ begins.card_gate;
        cards_receiver = ap (λ e. e.gate) is.cards_receiver ∙ input.from_gate.1 ∙ sym input.from_gate.0 ∙ begins.input_from_gate;
        input_sender = ap (λ e. e.gate) is.input_sender ∙ input.to_gate.1 ∙ ap (known-by from_size) (sym input.to_gate.0 ∙ begins.input_to_gate);
        input_receiver = ap (λ e. e.gate) is.input_receiver ∙ job.from_gate.1 ∙ ap (known-by from_size) (sym job.from_gate.0 ∙ begins.job_from_gate);
        output_sender = ap (λ e. e.gate) is.output_sender ∙ job.to_gate.1 ∙ ap (known-by to_size) (sym job.to_gate.0 ∙ begins.job_to_gate);
        output_receiver = ap (λ e. e.gate) is.output_receiver ∙ output.from_gate.1
            ∙ ap (known-by to_size) (sym output.from_gate.0 ∙ begins.output_from_gate);
        lines_sender = ap (λ e. e.gate) is.lines_sender ∙ output.to_gate.1 ∙ sym output.to_gate.0 ∙ begins.output_to_gate;
        lines_receiver = ap (λ e. e.gate) is.lines_receiver ∙ printer.gate.1 ∙ sym printer.gate.0 ∙ begins.printer_gate;
        seats = record {
          three = fresh.seats.three;
          input = seat-ran gates.disk _ 1 ends.seats.input row.pages.seat _ _ _ ran.pages.history is.input_seat input.desk (sym input.disk
              ∙ begins.input_disk)
              begins.input_seat fresh.seats.input;
          job = seat-ran gates.disk _ 2 ends.seats.job row.jobs.seat _ _ _ ran.jobs.history is.job_seat job.desk (sym job.disk
              ∙ begins.job_disk) begins.job_seat
              fresh.seats.job;
          output = seat-ran gates.disk _ 3 ends.seats.output row.lines.seat _ _ _ ran.lines.history is.output_seat output.desk
              (sym output.disk ∙ begins.output_disk)
              begins.output_seat fresh.seats.output;
        };
      }

  module _ (stays : RowStays row ended) where
    -- the ends of the spools, as they were
    input-sends : parted.ends.input.0 ≡ record { gate = known (from_size gates.input.area) gates.input; calls = [] }
    input-sends = is.input_sender ∙ ap (λ s. s.pages) stays.pages ∙ begins.input_to_end ∙ fresh.input_sender

    input-takes : parted.ends.input.1 ≡ record { gate = known (from_size gates.input.area) gates.input; calls = [] }
    input-takes = is.input_receiver ∙ ap (λ s. s.cards) stays.jobs ∙ begins.job_from_end ∙ fresh.input_receiver

    output-sends : parted.ends.output.0 ≡ record { gate = known (to_size gates.output.area) gates.output; calls = [] }
    output-sends = is.output_sender ∙ ap (λ s. s.pages) stays.jobs ∙ begins.job_to_end ∙ fresh.output_sender

    output-takes : parted.ends.output.1 ≡ record { gate = known (to_size gates.output.area) gates.output; calls = [] }
    output-takes = is.output_receiver ∙ ap (λ s. s.pages) stays.lines ∙ begins.output_from_end ∙ fresh.output_receiver

    ends-stay : AreEndsOf (from_size gates.input.area) (to_size gates.output.area) gates parted.ends
    ends-stay = record {
      cards_sender = ap (λ e. e.gate) (is.cards_sender ∙ ap (λ s. s.lines) stays.cards ∙ begins.card_end ∙ fresh.cards_sender);
      cards_receiver = ap (λ e. e.gate) (is.cards_receiver ∙ ap (λ s. s.cards) stays.pages ∙ begins.input_from_end ∙ fresh.cards_receiver);
      input_sender = ap (λ e. e.gate) input-sends;
      input_receiver = ap (λ e. e.gate) input-takes;
      output_sender = ap (λ e. e.gate) output-sends;
      output_receiver = ap (λ e. e.gate) output-takes;
      lines_sender = ap (λ e. e.gate) (is.lines_sender ∙ ap (λ s. s.lines) stays.lines ∙ begins.output_to_end ∙ fresh.lines_sender);
      lines_receiver = ap (λ e. e.gate) (is.lines_receiver ∙ ap (λ s. s.lines) stays.paper ∙ begins.printer_end ∙ fresh.lines_receiver);
      seats = record {
        three = fresh.seats.three;
        input = seat-stays gates.disk 1 parted.ends.seats.input (is.input_seat ∙ ap (λ s. s.seat) stays.pages ∙ begins.input_seat ∙ fresh.seats.input);
        job = seat-stays gates.disk 2 parted.ends.seats.job (is.job_seat ∙ ap (λ s. s.seat) stays.jobs ∙ begins.job_seat ∙ fresh.seats.job);
        output = seat-stays gates.disk 3 parted.ends.seats.output
            (is.output_seat ∙ ap (λ s. s.seat) stays.lines ∙ begins.output_seat ∙ fresh.seats.output);
      };
    }

    -- the units come back as they were
    pub units-back : {input_told : A → Option (List (List ℕ))} {input_faults : A → ℕ} {output_told : B → Option (List (List ℕ))} {output_faults : B → ℕ}
        {met : Met A B} {input_size output_size : ℕ} → AllMeet input_size output_size input_told input_faults output_told output_faults gates parted.ends met
        → record { deck = parted.deck; paper = parted.paper; files = parted.files; input = met.input; output = met.output }
        ≡ units_at gates deck paper files
    units-back {met = met} meets =
        same-units (units_at gates deck paper files) parted.deck parted.paper parted.files met.input met.output
        (is.deck ∙ ap (λ s. s.deck) stays.cards ∙ begins.deck_is) (is.paper ∙ ap (λ s. s.paper) stays.paper ∙ begins.paper_is)
        (is.files ∙ ap (λ s. s.files) stays.jobs ∙ begins.files_are)
        (meets.input.of_area.untouched (none-moved _ _ (ap (λ e. e.calls) input-sends) (ap (λ e. e.calls) input-takes)))
        (meets.output.of_area.untouched (none-moved _ _ (ap (λ e. e.calls) output-sends) (ap (λ e. e.calls) output-takes)))

  pub ends-of : {L : Type 0} {J : Jobs L} {left : S → Option (List ℕ)} {taken source_faults : S → ℕ} {given : K → Option (List ℕ)}
      {sink_faults : K → ℕ} {loader : FileTells L F} → (whole : Bool)
      → RowCame J left taken source_faults given sink_faults loader from_size to_size whole row ended
      → AreEndsOf (from_size gates.input.area) (to_size gates.output.area) gates parted.ends
  ends-of true came = ends-ran (came.ran refl)
  ends-of false came = ends-stay (came.stays refl)
