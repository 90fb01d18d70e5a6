-- Three processes that ran side by side, whose buffers' ends have met, are a run of the network.
use Rattle.std.proofs.Common.{◌≡◌, inl, inr, ℕ, List, [], ◌∷◌, ◌++◌, Option, None, Some, refl, sym, ◌∙◌, ap, subst}
use Rattle.solo_base.specs.Text.{text}
use Rattle.solo_base.specs.declared.item.Item.{Item}
use Rattle.solo_base.specs.declared.outcome.Side.{Side}
use Rattle.solo_base.specs.declared.outcome.Side.TheVariants.{Sender, Receiver}
use Rattle.solo_base.specs.declared.outcome.Outcome.{Outcome}
use Rattle.solo_base.specs.declared.outcome.Outcome.TheVariants as outcome
use Rattle.solo_base.specs.declared.outcome.Cause.{Cause}
use Rattle.solo_base.specs.declared.outcome.Cause.TheVariants as cause
use Rattle.solo_devices.specs.CardUnit.{items_ahead}
use Rattle.solo_devices.specs.PrinterUnit.{Gains}
use Rattle.network_law.specs.Acts.{moved, made_stop, was_told}
use Rattle.network_law.specs.Network.{acts, Follows}
use Rattle.place_law.specs.Process.{Does, caused, place, how_ended}
use Rattle.place_law.specs.Ending.{outcome_by, HasEndedSo}
use Rattle.place_law.proofs.Ended.{ends-rightly}
use Rattle.place_law.proofs.Together.{never-done}
use Rattle.solo_needs.specs.Handing.{no_command, HandsOn}
use Rattle.solo_law.specs.Work.{Plan, PlanFits}
use Rattle.solo_law.specs.Actions.{Works, NoMemory}
use Rattle.solo_law.specs.Buffers.{seat}
use Rattle.solo_law.specs.Devices.{Devices, AreSound}
use Rattle.solo_law.specs.JobPlaces.{job}
use Rattle.solo_law.specs.Replies.{view}
use Rattle.solo_law.specs.Told.{begun, needs, on_console, on_paper, lines_of_all}
use Rattle.solo_law.specs.Solo.{process, table, solo, SoloState, SoloEntry, IsProcess}
use Rattle.solo_law.proofs.Placed.{each-process, is-1, is-2, is-3, placed, seats}
use Rattle.solo_law.proofs.Reached.{reached-holds}
use Rattle.solo_ends.specs.declared.units.SoloUnits.{SoloUnits}
use Rattle.solo_ends.specs.declared.units.SoloRan.{SoloRan}
use Rattle.solo_ends.specs.Ends.{outcome_at, stopped_at, EndTogether, FaultsAre}
use Rattle.solo_ends.specs.Faults.{counting, devices_of, FaultsAreCounted}
use Rattle.solo_threads.specs.Threads.{Deed, entries, acts_by, HaveMet, SideBySide, IsOneRun, stops_of}
use Rattle.solo_threads.proofs.Schedule.{one-run}
use Rattle.solo_run.specs.declared.row.Row.{Row}
use Rattle.solo_run.specs.declared.row.RowEnded.{RowEnded}
use Rattle.solo_run.specs.Files.{RefusedWork}
use Rattle.solo_run.specs.Job.{JobWorld}
use Rattle.solo_run.specs.Row.{RowRan}
use Rattle.solo_run.specs.Whole.{RowTold, AllMeet}
use Rattle.solo_run.specs.Begun.{units_of, behind, SoloDid}
use Rattle.solo_run.specs.Ran.{told_by, BrokenOff, HavePassed, IsRunOf, LosesNothing}
use Rattle.solo_ends.specs.Told.{IsOpenedBy, JobDone, BothDone, TellsPlan}
use Rattle.solo_run.proofs.Reaching.{went-through}
use Rattle.solo_run.proofs.WholeRun.{told-items, deeds, side-by-side, ends-together, ends-faults}

-- ---- the cause of one that ended so
some-cause : (why : Option Outcome) (how : Outcome) (c : Cause) → outcome_by why ≡ how → how ≡ outcome.Fault c → why ≡ Some (outcome.Fault c)
some-cause None how c e is = absurd cc
some-cause (Some why) how c e is = ap Some (e ∙ is)

no-cause : (why : Option Outcome) (how : Outcome) → (why ≡ Some outcome.Done → ⊥) → outcome_by why ≡ how → how ≡ outcome.Done → why ≡ None
no-cause None how not e is = refl
no-cause (Some why) how not e is = absurd (not (ap Some (e ∙ is)))

module _ (p : ℕ) (one : IsProcess p) (h : List SoloEntry) (how : Outcome) (follows : Follows solo p h) (ended : how_ended view h ≡ Some how) where
  by-cause : outcome_by (caused view (process p) h) ≡ how
  by-cause = (ends-rightly table placed p h how one follows ended).by_cause

  has-fault : (c : Cause) → how ≡ outcome.Fault c → caused view (process p) h ≡ Some (outcome.Fault c)
  has-fault c is = some-cause (caused view (process p) h) how c by-cause is

  is-fault : (c : Cause) → caused view (process p) h ≡ Some (outcome.Fault c) → how ≡ outcome.Fault c
  is-fault c e = sym by-cause ∙ ap outcome_by e

  is-free : how ≡ outcome.Done → caused view (process p) h ≡ None
  is-free is = no-cause (caused view (process p) h) how (never-done table placed seats p h one) by-cause is

-- ---- the ends met by the histories of a state too
met-of : (histories others : ℕ → List SoloEntry) (b : ℕ) (by : Option Side) → ((p : ℕ) → IsProcess p → others p ≡ histories p) → HaveMet histories b by
    → HaveMet others b by
met-of histories others b by same is =
    let at : (side : Side) → acts_by histories b side ≡ acts_by others b side
    = λ side. ap (λ h. acts solo (seat b side) h) (sym (same (seat b side) (seats b side))) in
    let sends = at Sender in
    let takes = at Receiver in
    record {
      rest = is.rest;
      in_order = ap (λ acts. moved b Receiver acts ++ is.rest) (sym takes) ∙ is.in_order ∙ ap (λ acts. moved b Sender acts) sends;
      within = is.within;
      stopped = record {
        neither = λ none side. ap (λ acts. made_stop b side acts) (sym (at side)) ∙ is.stopped.neither none side;
        did = λ side first. ap (λ acts. made_stop b side acts) (sym (at side)) ∙ is.stopped.did side first;
        told = λ side told. is.stopped.told side (ap (λ acts. was_told b side acts) (at side) ∙ told);
      };
      nothing_left = λ told. is.nothing_left (ap (λ acts. was_told b Receiver acts) takes ∙ told);
    }

-- ---- what a run tells over told cards, typed lines and files
gains-where : (before now : Option (List ℕ)) (whole : List ℕ) (X Y : Type 0) → (Y → X) → Gains before now whole X → Gains before now whole Y
gains-where before now whole X Y if gains = record {
  told = λ given is. (let all = gains.told given is in record { part = all.part; now_is = all.now_is; prefix = all.prefix; all_is = λ y. all.all_is (if y) });
  untold = gains.untold;
}

module _ {S Y T F K : Type 0} (left : S → Option (List ℕ)) (w : JobWorld Y T F) (given : K → Option (List ℕ)) (units : SoloUnits S Y K T F)
    (ran : SoloRan S Y K T F) where
  tells-plan : (cards keys : List Item) (plan : Plan) → items_ahead (left units.cards.source) units.cards.pending ≡ Some cards
      → items_ahead (w.left units.typewriter.keys.source) units.typewriter.keys.pending ≡ Some keys
      → IsRunOf left w given units (Some plan) ran
      → TellsPlan w.left w.given given cards keys plan (w.given units.typewriter.console.sink) (given units.paper.sink) ran
  tells-plan cards keys plan c_told k_told is =
      let devices = told_by left w.left given w.given units (Some plan) in
      let s = is.state in
      let holds = reached-holds devices s is.reached in
      let begins = holds.begins cards keys c_told k_told in
      let same = holds.works plan refl in
      let job_done : JobDone ran.outcomes → HasEndedSo table s 2 outcome.Done = λ e. subst (HasEndedSo table s 2) e (is.ended 2 is-2) in
      let both_done : BothDone ran.outcomes → HasEndedSo table s 2 outcome.Done × HasEndedSo table s 3 outcome.Done
      = λ e. (job_done e.0, subst (HasEndedSo table s 3) e.1 (is.ended 3 is-3)) in
      record {
        givens = begun (s.histories 2);
        last = begins.last;
        ahead = begins.ahead;
        handed = subst (λ found. HandsOn no_command (record { cards = cards; keys = keys }) (begun (s.histories 2)) found begins.last begins.ahead) same
            begins.handed;
        console = subst (λ found. Gains devices.console (w.given ran.units.typewriter.console.sink) (text (lines_of_all on_console found)) (JobDone ran.outcomes)) same
            (subst (λ now. Gains devices.console now (text (lines_of_all on_console (needs (s.histories 2)))) (JobDone ran.outcomes)) is.console
            (gains-where _ _ _ _ _ job_done holds.shows));
        paper = subst (λ found. Gains devices.paper (given ran.units.paper.sink) (text (lines_of_all on_paper found)) (BothDone ran.outcomes)) same
            (subst (λ now. Gains devices.paper now (text (lines_of_all on_paper (needs (s.histories 2)))) (BothDone ran.outcomes)) is.paper
            (gains-where _ _ _ _ _ both_done holds.prints));
        all_handed = λ e. (begins.ended (job_done e)).0;
        none_left = λ e. sym is.keys ∙ (begins.ended (job_done e)).1;
      }

-- ---- the three
same-plan : (a b : Plan) → Some a ≡ Some b → a ≡ b
same-plan a b e = cc

module _ {S Y T F K : Type 0} (left : S → Option (List ℕ)) (taken reads : S → ℕ) (w : JobWorld Y T F) (given : K → Option (List ℕ)) (faults : K → ℕ)
    (row : Row S Y K T F) (ended : RowEnded S Y K T F) (ran : RowRan left taken reads w given faults row ended) (stops : List (Option Side))
    (met : AllMeet ended (stopped_at stops)) (six : stops_of (stopped_at stops) ≡ stops) where
  abbrev units : SoloUnits S Y K T F
  units = units_of row

  abbrev outcomes : List Outcome
  outcomes = ended.input.1 ∷ ended.job.1 ∷ ended.output.1 ∷ []

  abbrev the_ran : SoloRan S Y K T F
  the_ran = record { outcomes = outcomes; stopped_by = stops; units = units_of (behind ended) }

  abbrev did : ℕ → List Deed
  did = deeds left taken reads w given faults row ended ran (stopped_at stops) met

  abbrev job_history : List SoloEntry
  job_history = entries ran.job_ended.deeds

  -- ---- over a plan
  module _ (plan : Option Plan) (opened : IsOpenedBy (w.opens row.job.files) plan) where
    abbrev devices : Devices
    devices = told_by left w.left given w.given units plan

    sound : AreSound devices
    sound = record {
      cards = λ items e. told-items (left row.input.cards.source) row.input.cards.pending items e;
      keys = λ items e. told-items (w.left row.job.typewriter.keys.source) row.job.typewriter.keys.pending items e;
      work = λ plan e. (opened plan e).1;
    }

    told : RowTold left w given row devices
    told = record {
      input = refl;
      job = record { keys = refl; console = refl; work = λ works plan e. (opened plan e).0 };
      output = refl;
    }

    side : SideBySide devices did (stopped_at stops)
    side = side-by-side left taken reads w given faults row ended ran (stopped_at stops) met devices sound told

    run : IsOneRun devices did
    run = one-run devices did (stopped_at stops) side

    abbrev s : SoloState
    s = run.state

    broken-off : RefusedWork (w.passes row.job.files) ended.job.0.files job_history → BrokenOff devices (w.passes row.job.files) ended.job.0.files
    broken-off broke =
        let went = went-through devices s 2 (Does (Works broke.work) NoMemory) broke.later broke.before run.reached (run.histories 2 is-2 ∙ broke.is) in
        record {
          state = went.state;
          reached = went.reached;
          work = broke.work;
          free = ap (λ h. caused view job h) went.is ∙ broke.free;
          at = ap (λ h. place job h) went.is ∙ broke.at;
          passed = subst (λ h. w.passes row.job.files (begun h ++ broke.work.given ∷ []) ended.job.0.files) (sym went.is) broke.passed;
        }

    ended-so : (p : ℕ) → IsProcess p → HasEndedSo table s p (outcome_at outcomes p)
    ended-so p one =
        each-process (λ p. HasEndedSo table s p (outcome_at outcomes p)) p one
        (subst (λ h. how_ended view h ≡ Some ended.input.1) (sym (run.histories 1 is-1)) ran.input_ended.ended)
        (subst (λ h. how_ended view h ≡ Some ended.job.1) (sym (run.histories 2 is-2)) ran.job_ended.ended)
        (subst (λ h. how_ended view h ≡ Some ended.output.1) (sym (run.histories 3 is-3)) ran.output_ended.ended)

    is-run : IsRunOf left w given units plan the_ran
    is-run =
        let input = (ran.input_ended.ran.told devices told.input).1 in
        let at_job = (ran.job_ended.ran.0.told devices told.job).1 in
        let output = (ran.output_ended.ran.told devices told.output).1 in
        let files = ran.job_ended.ran.1 in
        record {
          state = s;
          reached = run.reached;
          ended = ended-so;
          met = λ b is. met-of (λ p. entries (did p)) s.histories b (stopped_at stops b) run.histories (side.met b is);
          cards = run.cards ∙ input;
          keys = run.keys ∙ at_job.keys;
          paper = run.paper ∙ output;
          console = run.console ∙ at_job.console;
          led = λ done. subst (λ h. w.leads row.job.files (begun h) ended.job.0.files) (sym (run.histories 2 is-2))
              (files.led (is-free 2 is-2 job_history ended.job.1 ran.job_ended.follows ran.job_ended.ended done));
          passed = λ not.
              elim (files.passed (λ e. not (is-fault 2 is-2 job_history ended.job.1 ran.job_ended.follows ran.job_ended.ended cause.DiskFault e)))
              as (λ _. HavePassed devices (w.passes row.job.files) (begun (s.histories 2)) ended.job.0.files) [
                | inl came ↦ inl (subst (λ h. w.passes row.job.files (begun h) ended.job.0.files) (sym (run.histories 2 is-2)) came)
                | inr broke ↦ inr (broken-off broke)
              ];
        }

  -- ---- together
  together-so : EndTogether outcomes stops
  together-so = subst (EndTogether outcomes) six (ends-together left taken reads w given faults row ended ran (stopped_at stops) met)

  faults-so : FaultsAre outcomes
  faults-so = ends-faults left taken reads w given faults row ended ran (stopped_at stops) met

  -- ---- each fault was counted
  counted-so : FaultsAreCounted (counting reads taken w.keys_faults w.taken faults w.console_faults w.files_faults) (devices_of units) the_ran
  counted-so =
      let input = ran.input_ended.ran in
      let at_job = ran.job_ended.ran.0 in
      let output = ran.output_ended.ran in
      let input_fault = has-fault 1 is-1 (entries ran.input_ended.deeds) ended.input.1 ran.input_ended.follows ran.input_ended.ended in
      let job_fault = has-fault 2 is-2 job_history ended.job.1 ran.job_ended.follows ran.job_ended.ended in
      let output_fault = has-fault 3 is-3 (entries ran.output_ended.deeds) ended.output.1 ran.output_ended.follows ran.output_ended.ended in
      record {
        read = λ e. input.cards.failed (input_fault cause.ReadFault e);
        limit = λ e. input.cards.limit (input_fault cause.DeckLimit e);
        longer = λ few over.
            is-fault 1 is-1 (entries ran.input_ended.deeds) ended.input.1 ran.input_ended.follows ran.input_ended.ended cause.DeckLimit (input.cards.longer few over);
        typed = λ e. at_job.keys.failed (job_fault cause.ReadFault e);
        typed_limit = λ e. at_job.keys.limit (job_fault cause.DeckLimit e);
        typed_longer = λ few over.
            is-fault 2 is-2 job_history ended.job.1 ran.job_ended.follows ran.job_ended.ended cause.DeckLimit (at_job.keys.longer few over);
        show = λ e. at_job.console.failed (job_fault cause.ConsoleFault e);
        disk = λ e. at_job.files.failed (job_fault cause.DiskFault e);
        print = λ e. output.paper.failed (output_fault cause.PrintFault e);
        read_on = input.cards.counts;
        typed_on = at_job.keys.counts;
        print_on = output.paper.counts;
        show_on = at_job.console.counts;
        files_on = at_job.files.counts;
      }

  loses-nothing : LosesNothing taken left w.taken w.left units the_ran
  loses-nothing = record { cards = ran.input_ended.ran.cards.total; keys = ran.job_ended.ran.0.keys.total }

-- ---- of what is known of a run
module _ {S Y T F K : Type 0} {left : S → Option (List ℕ)} {taken reads : S → ℕ} {w : JobWorld Y T F} {given : K → Option (List ℕ)} {faults : K → ℕ}
    {units : SoloUnits S Y K T F} {ran : SoloRan S Y K T F} (is : SoloDid left taken reads w given faults units ran) where
  so : (P : SoloUnits S Y K T F → SoloRan S Y K T F → Type 0) → P (units_of is.row) (record {
    outcomes = is.ended.input.1 ∷ is.ended.job.1 ∷ is.ended.output.1 ∷ [];
    stopped_by = is.stops;
    units = units_of (behind is.ended);
  }) → P units ran
  so P that = subst (λ units. P units ran) is.begins (subst (λ ran. P (units_of is.row) ran) (sym is.ran_is) that)

  pub ran-so : (plan : Option Plan) → IsOpenedBy (w.opens units.files) plan → IsRunOf left w given units plan ran
  ran-so =
      so (λ units ran. (plan : Option Plan) → IsOpenedBy (w.opens units.files) plan → IsRunOf left w given units plan ran)
      (λ plan opened. is-run left taken reads w given faults is.row is.ended is.ran_so is.stops is.meet is.six plan opened)

  pub together : EndTogether ran.outcomes ran.stopped_by
  together =
      so (λ units ran. EndTogether ran.outcomes ran.stopped_by)
      (together-so left taken reads w given faults is.row is.ended is.ran_so is.stops is.meet is.six)

  pub faults-are : FaultsAre ran.outcomes
  faults-are =
      so (λ units ran. FaultsAre ran.outcomes)
      (faults-so left taken reads w given faults is.row is.ended is.ran_so is.stops is.meet is.six)

  pub counted : FaultsAreCounted (counting reads taken w.keys_faults w.taken faults w.console_faults w.files_faults) (devices_of units) ran
  counted =
      so (λ units ran. FaultsAreCounted (counting reads taken w.keys_faults w.taken faults w.console_faults w.files_faults) (devices_of units) ran)
      (counted-so left taken reads w given faults is.row is.ended is.ran_so is.stops is.meet is.six)

  pub total : LosesNothing taken left w.taken w.left units ran
  total =
      so (λ units ran. LosesNothing taken left w.taken w.left units ran)
      (loses-nothing left taken reads w given faults is.row is.ended is.ran_so is.stops is.meet is.six)

  pub tells : (cards keys : List Item) (plan : Plan) → items_ahead (left units.cards.source) units.cards.pending ≡ Some cards
      → items_ahead (w.left units.typewriter.keys.source) units.typewriter.keys.pending ≡ Some keys → w.opens units.files plan → PlanFits plan
      → TellsPlan w.left w.given given cards keys plan (w.given units.typewriter.console.sink) (given units.paper.sink) ran
  tells cards keys plan c_told k_told opens fits =
      tells-plan left w given units ran cards keys plan c_told k_told
      (ran-so (Some plan) (λ one e. (subst (w.opens units.files) (same-plan plan one e) opens, subst PlanFits (same-plan plan one e) fits)))
