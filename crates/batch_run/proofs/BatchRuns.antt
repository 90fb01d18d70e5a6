-- A batch by its five histories, from what its processes did and how their ends met.
use Rattle.std.proofs.Common.{◌≡◌, ℕ, List, Option, Some, sym, ◌∙◌, ap, subst}
use Rattle.std.specs.List.{AllByRecursion}
use Rattle.solo_base.specs.declared.outcome.Side.{Side}
use Rattle.solo_base.specs.declared.outcome.Outcome.{Outcome}
use Rattle.solo_devices.specs.CardUnit.{Held}
use Rattle.solo_devices.specs.PrinterUnit.{Printing}
use Rattle.batch_procs.specs.declared.actions.Action.TheVariants as act
use Rattle.batch_procs.specs.History.{Entry, newest}
use Rattle.batch_procs.specs.Table.{process}
use Rattle.batch_procs.proofs.Ended.{ended-rightly}
use Rattle.batch_procs.proofs.Relay.{sent-is-part}
use Rattle.core_law.specs.Ends.{IsProcess}
use Rattle.core_law.proofs.Ends.{the-five}
use Rattle.batch_procs.specs.Jobs.{Jobs, AreJobs}
use Rattle.batch_ends.specs.declared.ends.Outcomes.{Outcomes}
use Rattle.batch_ends.specs.Ended.{outcome_at, stopped_at}
use Rattle.batch_run.specs.declared.batch.Parted.{Parted}
use Rattle.batch_sides.specs.declared.gates.AllMet.{AllMet as Met}
use Rattle.batch_sides.specs.declared.gates.Gates.{Gates}
use Rattle.batch_sides.specs.declared.gates.Ends.{Ends}
use Rattle.batch_sides.specs.declared.row.Row.{Row}
use Rattle.batch_sides.specs.declared.row.RowEnded.{RowEnded}
use Rattle.batch_ends.specs.declared.ends.Ran.{Ran}
use Rattle.batch_sides.specs.Begun.{BeginsBy, units_at}
use Rattle.batch_sides.specs.Cards.{DeckRan}
use Rattle.batch_sides.specs.Files.{FileTells, FilesRan}
use Rattle.batch_replay.specs.FiveRan.{BatchRan, EndedSo, FiveRan, histories}
use Rattle.batch_sides.specs.Lines.{PaperRan}
use Rattle.batch_sides.specs.Met.{AllMeet}
use Rattle.batch_run.specs.Apart.{IsParted}
use Rattle.batch_sides.specs.Row.{RowRan}
use Rattle.batch_sides.specs.Running.{IsPrompt}
use Rattle.batch_replay.proofs.Ending.{each-process, follows, line-met, spool-met, room-met}

module _ {L : Type 0} {J : Jobs L} (jobs : AreJobs J) where
  module _ {S K F A B : Type 0} (left : S → Option (List ℕ)) (taken source_faults : S → ℕ) (given : K → Option (List ℕ)) (sink_faults : K → ℕ)
      (loader : FileTells L F) (from_size : A → ℕ) (to_size : B → ℕ) (gates : Gates A B) (ends : Ends A B)
      (deck : Held S) (paper : Printing K) (files : F) (row : Row S K F A B) (ended : RowEnded S K F A B) (parted : Parted S K F A B)
      (begins : BeginsBy gates ends deck paper files row)
      (ran : RowRan J left taken source_faults given sink_faults loader from_size to_size row ended) (is : IsParted ended parted) where
    module _ (input_told : A → Option (List (List ℕ))) (input_faults : A → ℕ) (output_told : B → Option (List (List ℕ))) (output_faults : B → ℕ)
        (met : Met A B) (meets : AllMeet (from_size gates.input.area) (to_size gates.output.area) input_told input_faults output_told output_faults gates
        parted.ends met) where
      abbrev first : ℕ → Option Side
      first = stopped_at met.stopped_by

      abbrev pub five : FiveRan J input_told input_faults output_told output_faults gates.input.area met.input gates.output.area met.output first
      five =
          let card = ran.cards in
          let input = ran.pages in
          let at_job = ran.jobs in
          let output = ran.lines in
          let printer = ran.paper in
          record {
            card_history = card.history;
            input_history = input.history;
            job_history = at_job.history;
            output_history = output.history;
            printer_history = printer.history;
            card_follows = card.follows;
            input_follows = input.follows;
            job_follows = at_job.follows;
            output_follows = output.follows;
            printer_follows = printer.follows;
            cards_rest = meets.cards_rest;
            cards = line-met _ _ _ _ meets.cards_rest (first 1) (ap (λ e. e.calls) is.cards_sender ∙ card.stands.calls)
                (ap (λ e. e.calls) is.cards_receiver ∙ input.stands.from_calls) meets.cards;
            input_left = meets.input_left;
            input_meets = spool-met input_told input_faults gates.input.area met.input _ _ _ _ meets.input_left (first 2)
                (ap (λ e. e.calls) is.input_sender ∙ input.stands.to_calls) (ap (λ e. e.calls) is.input_receiver ∙ at_job.stands.from_calls) meets.input;
            output_left = meets.output_left;
            output_meets = spool-met output_told output_faults gates.output.area met.output _ _ _ _ meets.output_left (first 3)
                (ap (λ e. e.calls) is.output_sender ∙ at_job.stands.to_calls) (ap (λ e. e.calls) is.output_receiver ∙ output.stands.from_calls) meets.output;
            lines_rest = meets.lines_rest;
            lines = line-met _ _ _ _ meets.lines_rest (first 4) (ap (λ e. e.calls) is.lines_sender ∙ output.stands.to_calls)
                (ap (λ e. e.calls) is.lines_receiver ∙ printer.stands.calls) meets.lines;
          }

      abbrev outcomes : Outcomes
      outcomes = parted.outcomes

      abbrev ran_to : Ran S K F A B
      ran_to = record {
        outcomes = outcomes;
        stopped_by = met.stopped_by;
        units = record { deck = parted.deck; paper = parted.paper; files = parted.files; input = met.input; output = met.output };
      }

      -- ---- how each ended
      ends-so : (h : List (Entry L)) (how found : Outcome) → how ≡ found → newest h ≡ Some (act.Ended found) → newest h ≡ Some (act.Ended how)
      ends-so h how found e last = last ∙ ap (λ how. Some (act.Ended how)) (sym e)

      ended-at : (p : ℕ) → IsProcess p → newest (histories five p) ≡ Some (act.Ended (outcome_at outcomes p))
      ended-at p one =
          each-process jobs (λ p. newest (histories five p) ≡ Some (act.Ended (outcome_at outcomes p))) p one
          (ends-so ran.cards.history outcomes.card ended.cards.1 is.card ran.cards.ended)
          (ends-so ran.pages.history outcomes.input ended.pages.1 is.input ran.pages.ended)
          (ends-so ran.jobs.history outcomes.job ended.jobs.1 is.job ran.jobs.ended)
          (ends-so ran.lines.history outcomes.output ended.lines.1 is.output ran.lines.ended)
          (ends-so ran.paper.history outcomes.printer ended.paper.1 is.printer ran.paper.ended)

      ended-so : (p : ℕ) → IsProcess p → EndedSo (process J p) (histories five p) (outcome_at outcomes p)
      ended-so p one = record {
        ended = ended-at p one;
        prompt = each-process jobs (λ p. AllByRecursion IsPrompt (histories five p)) p one ran.cards.prompt ran.pages.prompt ran.jobs.prompt ran.lines.prompt
            ran.paper.prompt;
        sends = sent-is-part J (process J p) (histories five p) ((the-five jobs).relays p) (follows jobs five p);
        all = λ done. ((ended-rightly J (process J p) (histories five p) (outcome_at outcomes p) ((the-five jobs).relays p) (follows jobs five p)
            (ended-at p one)).done done).0;
      }

      deck-ran : DeckRan left taken source_faults deck parted.deck five.card_history
      deck-ran =
          subst (λ d. DeckRan left taken source_faults d parted.deck five.card_history) begins.deck_is
          (subst (λ d. DeckRan left taken source_faults row.cards.deck d five.card_history) (sym is.deck) ran.cards.stands.deck)

      paper-ran : PaperRan given sink_faults paper parted.paper five.printer_history
      paper-ran =
          subst (λ p. PaperRan given sink_faults p parted.paper five.printer_history) begins.paper_is
          (subst (λ p. PaperRan given sink_faults row.paper.paper p five.printer_history) (sym is.paper) ran.paper.stands.paper)

      files-ran : FilesRan loader files parted.files five.job_history
      files-ran =
          subst (λ f. FilesRan loader f parted.files five.job_history) begins.files_are
          (subst (λ f. FilesRan loader row.jobs.files f five.job_history) (sym is.files) ran.jobs.stands.files)

      pub batch-ran : BatchRan J left taken source_faults given sink_faults loader from_size input_told input_faults to_size output_told output_faults
          (units_at gates deck paper files) ran_to
      batch-ran = record {
        five = five;
        input_room = room-met _ _ _ _ (from_size gates.input.area) meets.input_left (ap (λ e. e.calls) is.input_sender ∙ ran.pages.stands.to_calls)
            (ap (λ e. e.calls) is.input_receiver ∙ ran.jobs.stands.from_calls) meets.input_room;
        output_room = room-met _ _ _ _ (to_size gates.output.area) meets.output_left (ap (λ e. e.calls) is.output_sender ∙ ran.jobs.stands.to_calls)
            (ap (λ e. e.calls) is.output_receiver ∙ ran.lines.stands.from_calls) meets.output_room;
        ends = ended-so;
        four = meets.four;
        deck = deck-ran;
        paper = paper-ran;
        files = files-ran;
      }
