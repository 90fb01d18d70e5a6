-- What the processes need before their first action, from buffers and a disk that nobody has used.
use Rattle.std.proofs.Common.{◌≡◌, ◌≤◌, ℕ, true, List, [], ◌++◌, Option, None, Some, refl, sym, ◌∙◌, ap, subst, arith}
use Rattle.std.proofs.lemmas.List.{append-nil}
use Rattle.resource_mon.specs.DiskCalls.{has_grant}
use Rattle.solo_devices.specs.CardUnit.{Held}
use Rattle.solo_devices.specs.PrinterUnit.{Printing}
use Rattle.resource_mon.specs.Seats.{Desk, Seat}
use Rattle.disk_spool.specs.Ends.{known}
use Rattle.batch_procs.specs.Jobs.{Jobs}
use Rattle.batch_ends.specs.declared.units.Units.{Units}
use Rattle.batch_sides.specs.declared.gates.Gates.{Gates}
use Rattle.batch_sides.specs.declared.gates.Ends.{Ends}
use Rattle.batch_sides.specs.declared.row.Row.{Row}
use Rattle.batch_sides.specs.Begun.{AreFresh, BeginsBy, fresh_seat}
use Rattle.batch_sides.specs.Cards.{CardRan, DeckRan}
use Rattle.batch_sides.specs.Lines.{PrinterRan, PaperRan}
use Rattle.batch_sides.specs.Desks.{DeskRan}
use Rattle.batch_sides.specs.Files.{FileTells, FilesRan}
use Rattle.batch_sides.specs.Input.{InputRan}
use Rattle.batch_sides.specs.Job.{JobRan}
use Rattle.batch_sides.specs.Output.{OutputRan}
use Rattle.batch_sides.specs.Row.{RowBegins}

same≤ : (n : ℕ) → n ≤ n
same≤ n = omega arith

nothing-gained : (paper : Option (List ℕ)) (before : List ℕ) → paper ≡ Some before → paper ≡ Some (before ++ [])
nothing-gained paper before e = e ∙ ap Some (sym (append-nil before))

-- the units with the areas that came back are those that were passed
pub same-units : {S K F A B : Type 0} (units : Units S K F A B) (input : A) (output : B) → input ≡ units.input → output ≡ units.output
    → record { deck = units.deck; paper = units.paper; files = units.files; input = input; output = output } ≡ units
same-units units input output a b = rw (a, b) refl

module _ {L : Type 0} (J : Jobs L) where
  deck-begins : {S : Type 0} (left : S → Option (List ℕ)) (taken faults : S → ℕ) (deck : Held S) → deck.live ≡ true → DeckRan {L = L} left taken faults deck
      deck []
  deck-begins left taken faults deck live = record {
    reads = λ items told. (items, told, refl, (λ e. absurd cc));
    all = λ e. absurd cc;
    counts = same≤ (faults deck.source);
    failed = λ e. absurd cc;
    limit = λ e. absurd cc;
    longer = λ few over. absurd (omega (arith, few, over));
    total = refl;
    live = λ none. live;
  }

  paper-begins : {K : Type 0} (given : K → Option (List ℕ)) (faults : K → ℕ) (paper : Printing K) → paper.live ≡ true → PaperRan {L = L} given faults paper
      paper []
  paper-begins given faults paper live = record {
    prints = λ before told. ([], nothing-gained (given paper.sink) before told, ([], refl), (λ none. refl));
    gave = ([], tt, λ before told. told ∙ ap Some (sym (append-nil before)));
    untold = λ none. none;
    counts = same≤ (faults paper.sink);
    failed = λ e. absurd cc;
    live = λ none. live;
  }

  files-begin : {F : Type 0} (loader : FileTells L F) (files : F) → loader.IsSound files → FilesRan {L = L} loader files files []
  files-begin loader files sound = record {
    stay = refl;
    found_stay = refl;
    loads = λ found told. tt;
    counts = same≤ (loader.faults files);
    failed = λ e. absurd cc;
    sound = λ none. sound;
  }

  desk-begins : (disk now : Desk) (number : ℕ) (seat : Seat) → now ≡ disk → seat ≡ fresh_seat disk number
      → DeskRan {L = L} now seat seat None []
  desk-begins disk now number seat same is = (
    refl,
    record {
      gate = ap (λ s. s.gate) is ∙ sym (ap (λ d. d.gate) same);
      alone = ap (λ s. s.joined) is;
      grant = ap (λ s. has_grant s.calls) is;
      pass_is = refl;
    },
  )

  module _ {S K F A B : Type 0} (left : S → Option (List ℕ)) (taken source_faults : S → ℕ) (given : K → Option (List ℕ)) (sink_faults : K → ℕ)
      (loader : FileTells L F) (from_size : A → ℕ) (to_size : B → ℕ) (gates : Gates A B) (ends : Ends A B)
      (deck : Held S) (paper : Printing K) (files : F) (row : Row S K F A B)
      (fresh : AreFresh (from_size gates.input.area) (to_size gates.output.area) gates ends) (begins : BeginsBy gates ends deck paper files row)
      (deck_live : deck.live ≡ true) (paper_live : paper.live ≡ true) (files_sound : loader.IsSound files) where
    card-begins : CardRan {L = L} left taken source_faults row.cards row.cards None []
    card-begins = record {
      gate = (refl, ap (λ e. e.gate) (begins.card_end ∙ fresh.cards_sender) ∙ sym begins.card_gate);
      calls = ap (λ e. e.calls) (begins.card_end ∙ fresh.cards_sender);
      deck = deck-begins left taken source_faults row.cards.deck (ap (λ d. d.live) begins.deck_is ∙ deck_live);
      none = refl;
    }

    printer-begins : PrinterRan {L = L} given sink_faults row.paper row.paper None []
    printer-begins = record {
      gate = (refl, ap (λ e. e.gate) (begins.printer_end ∙ fresh.lines_receiver) ∙ sym begins.printer_gate);
      calls = ap (λ e. e.calls) (begins.printer_end ∙ fresh.lines_receiver);
      paper = paper-begins given sink_faults row.paper.paper (ap (λ p. p.live) begins.paper_is ∙ paper_live);
      none = refl;
    }

    input-begins : InputRan {L = L} from_size row.pages row.pages None []
    input-begins = record {
      from_gate = (refl, ap (λ e. e.gate) (begins.input_from_end ∙ fresh.cards_receiver) ∙ sym begins.input_from_gate);
      from_calls = ap (λ e. e.calls) (begins.input_from_end ∙ fresh.cards_receiver);
      to_gate = (refl, ap (λ e. e.gate) (begins.input_to_end ∙ fresh.input_sender) ∙ ap (λ g. known (from_size g.area) g) (sym begins.input_to_gate));
      to_calls = ap (λ e. e.calls) (begins.input_to_end ∙ fresh.input_sender);
      disk = refl;
      desk = desk-begins gates.disk row.pages.disk.now 1 row.pages.seat begins.input_disk (begins.input_seat ∙ fresh.seats.input);
    }

    job-begins : JobRan {L = L} loader from_size to_size row.jobs row.jobs None []
    job-begins = record {
      from_gate = (refl, ap (λ e. e.gate) (begins.job_from_end ∙ fresh.input_receiver) ∙ ap (λ g. known (from_size g.area) g) (sym begins.job_from_gate));
      from_calls = ap (λ e. e.calls) (begins.job_from_end ∙ fresh.input_receiver);
      to_gate = (refl, ap (λ e. e.gate) (begins.job_to_end ∙ fresh.output_sender) ∙ ap (λ g. known (to_size g.area) g) (sym begins.job_to_gate));
      to_calls = ap (λ e. e.calls) (begins.job_to_end ∙ fresh.output_sender);
      disk = refl;
      desk = desk-begins gates.disk row.jobs.disk.now 2 row.jobs.seat begins.job_disk (begins.job_seat ∙ fresh.seats.job);
      files = files-begin loader row.jobs.files (subst loader.IsSound (sym begins.files_are) files_sound);
    }

    output-begins : OutputRan {L = L} to_size row.lines row.lines None []
    output-begins = record {
      from_gate = (
        refl,
        ap (λ e. e.gate) (begins.output_from_end ∙ fresh.output_receiver) ∙ ap (λ g. known (to_size g.area) g)
            (sym begins.output_from_gate),
      );
      from_calls = ap (λ e. e.calls) (begins.output_from_end ∙ fresh.output_receiver);
      to_gate = (refl, ap (λ e. e.gate) (begins.output_to_end ∙ fresh.lines_sender) ∙ sym begins.output_to_gate);
      to_calls = ap (λ e. e.calls) (begins.output_to_end ∙ fresh.lines_sender);
      disk = refl;
      desk = desk-begins gates.disk row.lines.disk.now 3 row.lines.seat begins.output_disk (begins.output_seat ∙ fresh.seats.output);
    }

    pub row-begins : RowBegins J left taken source_faults given sink_faults loader from_size to_size row
    row-begins = record {
      cards = card-begins;
      pages = input-begins;
      jobs = job-begins;
      lines = output-begins;
      paper = printer-begins;
    }
