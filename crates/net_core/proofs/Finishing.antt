-- How each process ended follows from its cause, and how all did together from the law.
use Rattle.std.proofs.Common.{◌≡◌, ℕ, List, [], ◌∷◌, Bool, Option, None, Some, refl, sym, ◌∙◌, ap, subst, lit≤}
use Rattle.solo_base.specs.declared.item.Item.{Item}
use Rattle.solo_base.specs.declared.outcome.Side.{Side}
use Rattle.solo_base.specs.declared.outcome.Outcome.{Outcome}
use Rattle.solo_base.specs.declared.outcome.Outcome.TheVariants as outcome
use Rattle.solo_base.specs.declared.outcome.Cause.{Cause}
use Rattle.solo_base.specs.Text.{text}
use Rattle.solo_devices.specs.PrinterUnit.{Gains}
use Rattle.queue_var.specs.Sides.{stopped_by}
use Rattle.batch_procs.specs.declared.machine.Machine.{Machine}
use Rattle.batch_procs.specs.declared.round.Step.TheVariants as step
use Rattle.batch_procs.specs.declared.actions.Action.{Action}
use Rattle.batch_procs.specs.declared.actions.Action.TheVariants as act
use Rattle.batch_procs.specs.Parcels.{Parcel}
use Rattle.batch_procs.specs.History.{Entry, newest}
use Rattle.batch_procs.specs.Causes.{caused}
use Rattle.batch_procs.specs.Faults.{GivenBy, FaultsOf}
use Rattle.batch_procs.specs.Laws.{IsRelay, IsNotDone, HasEnded}
use Rattle.batch_procs.specs.Machine.{StandsFor, step_after}
use Rattle.batch_procs.specs.Process.{Process}
use Rattle.batch_procs.specs.Table.{card, input, job, output, printer}
use Rattle.batch_procs.specs.Relays.{relays}
use Rattle.batch_procs.proofs.Faulty.{each_cause_is_given, faults_of_the_five}
use Rattle.core_law.specs.Core.{CoreState, IsBuffer}
use Rattle.core_law.specs.Ends.{IsProcess, HasEndedSo, AllDone, EndsTogether, outcome_by}
use Rattle.core_law.specs.Holds.{AreTold, AreFound, Holds}
use Rattle.core_law.proofs.Law.{all-ended}
use Rattle.core_law.proofs.Outcomes.{ended-as}
use Rattle.core_law.proofs.Reached.{reached-holds}
use Rattle.core_law.proofs.Row.{each-buffer, each-process}
use Rattle.net_core.specs.declared.net.Net.{Net}
use Rattle.net_core.specs.declared.shared.Shared.{Shared}
use Rattle.net_core.specs.Shared.{SharedStands}
use Rattle.net_core.specs.Net.{Keeps, NetStands, StandsWithin}
use Rattle.network_run.specs.Law.{Placed}
use Rattle.core_law.specs.TheLaw.{the_law}
use Rattle.batch_ends.proofs.DamagedPages.{tells-where}
use Rattle.net_core.specs.Ended.{HaveEnded, sides_of, EndsSo}
use Rattle.batch_procs.specs.Jobs.{Jobs, AreJobs, FilesAs, one_thread}
use Rattle.batch_ends.specs.Ended.{TellsWhere, outcome_at, all_done, none_stopped, stopped_at, StoppedBeside, SomeFault, EndTogether, FaultsAre, NoneDamaged}
use Rattle.batch_ends.specs.Tells.{Tells, deck_ahead}
use Rattle.batch_ends.specs.declared.ends.Outcomes.{Outcomes}

-- ---- one process
ended-step : (last : Option Action) → step_after last ≡ step.Ended → (how : Outcome) × (last ≡ Some (act.Ended how))
ended-step None e = absurd cc
ended-step (Some act.ReadCard) e = absurd cc
ended-step (Some (act.PutFeed f)) e = absurd cc
ended-step (Some act.TakeFeed) e = absurd cc
ended-step (Some act.AwaitRoom) e = absurd cc
ended-step (Some act.AwaitItem) e = absurd cc
ended-step (Some act.Request) e = absurd cc
ended-step (Some (act.PutPage page)) e = absurd cc
ended-step (Some act.TakePage) e = absurd cc
ended-step (Some (act.Load file)) e = absurd cc
ended-step (Some act.Release) e = absurd cc
ended-step (Some act.Local) e = absurd cc
ended-step (Some (act.Print line)) e = absurd cc
ended-step (Some (act.Stop b)) e = absurd cc
ended-step (Some (act.Ended how)) e = (how, refl)

cause-is : (cause : Option Outcome) (how : Outcome) → outcome_by cause ≡ how → IsNotDone (Some how) → cause ≡ Some how
cause-is None how e not = absurd (subst (λ o. IsNotDone (Some o)) (sym e) not)
cause-is (Some found) how e not = ap Some e

-- ---- the five
abbrev outcomes_by : Outcome → Outcome → Outcome → Outcome → Outcome → Outcomes
outcomes_by a b c d e = record { card = a; input = b; job = c; output = d; printer = e }

done-so : (a b c d e : Outcome) → a ≡ outcome.Done → b ≡ outcome.Done → c ≡ outcome.Done → d ≡ outcome.Done → e ≡ outcome.Done
    → outcomes_by a b c d e ≡ all_done
done-so a b c d e x y z v w = cc

same-four : (a b c d x y z v : Option Side) → a ≡ x → b ≡ y → c ≡ z → d ≡ v → (a ∷ b ∷ c ∷ d ∷ []) ≡ (x ∷ y ∷ z ∷ v ∷ [])
same-four a b c d x y z v i j k l = cc

none-so : (a b c d : Option Side) → a ≡ None → b ≡ None → c ≡ None → d ≡ None → (a ∷ b ∷ c ∷ d ∷ []) ≡ none_stopped
none-so a b c d x y z v = same-four a b c d None None None None x y z v

same-end : (last : Option Action) (a b : Outcome) → last ≡ Some (act.Ended a) → last ≡ Some (act.Ended b) → a ≡ b
same-end last a b x y = cc

all-done : (p : ℕ) → IsProcess p → outcome_at all_done p ≡ outcome.Done
all-done p one = each-process (λ p. outcome_at all_done p ≡ outcome.Done) p one refl refl refl refl refl

pub gains-where : (before now : Option (List ℕ)) (whole : List ℕ) (X Y : Type 0) → (Y → X) → Gains before now whole X → Gains before now whole Y
gains-where before now whole X Y if gains = record {
  told = λ given is. (let all = gains.told given is in record { part = all.part; now_is = all.now_is; prefix = all.prefix; all_is = λ y. all.all_is (if y) });
  untold = gains.untold;
}

module _ {L : Type 0} {J : Jobs L} (jobs : AreJobs J) where
  module _ {X W : Type 0} (p : Process L) (keeps : W → List (Parcel L) → List (Parcel L) → Bool → Type 0) (m : Machine X W) (how : Outcome)
      (is : (h : List (Entry L)) → StandsFor J p keeps m h → how ≡ outcome_by (caused h)) (h : List (Entry L))
      (st : StandsFor J p keeps m h) where
    ends-so : (before : List (Entry L)) → IsRelay p → StandsFor J p keeps m before → HasEnded before → newest h ≡ Some (act.Ended how)
    ends-so before relay stood ended =
        let at : step_after (newest h) ≡ step.Ended = sym st.step ∙ stood.step ∙ ap step_after ended.1 in
        let (found, e) = ended-step (newest h) at in
        subst (λ how. newest h ≡ Some (act.Ended how)) (sym (is h st ∙ ended-as jobs p h found relay st.follows e)) e

    given-so : (found : Outcome) → how ≡ found → IsNotDone (Some found) → GivenBy h found
    given-so found e not = each_cause_is_given J h found (cause-is (caused h) found (sym (is h st) ∙ e) not)

    number-so : (c : Cause) → how ≡ outcome.Fault c → TellsWhere c
    number-so c e = tells-where c J h (cause-is (caused h) (outcome.Fault c) (sym (is h st) ∙ e) tt)

    fault-so : (Fault : Cause → Type 0) → FaultsOf J p Fault → (c : Cause) → how ≡ outcome.Fault c → Fault c
    fault-so Fault faults c e = faults h c st.follows (cause-is (caused h) (outcome.Fault c) (sym (is h st) ∙ e) tt)

  pub sides-are : {X S K F A B : Type 0} (tells : Tells L S K F A B) (shared : Shared X S K F A B) (s : CoreState L) → SharedStands tells shared s →
      (a b c d : Option Side)
      → a ≡ stopped_by shared.cards.sides → b ≡ stopped_by shared.input.sides → c ≡ stopped_by shared.output.sides → d ≡ stopped_by shared.lines.sides
      → (a ∷ b ∷ c ∷ d ∷ []) ≡ sides_of s
  sides-are tells shared s st a b c d i j k l =
      same-four a b c d _ _ _ _ (i ∙ sym (ap (λ x. stopped_by x.sides) st.cards.is)) (j ∙ sym (ap (λ x. stopped_by x.sides) st.input.is))
      (k ∙ sym (ap (λ x. stopped_by x.sides) st.output.is)) (l ∙ sym (ap (λ x. stopped_by x.sides) st.lines.is))

  -- The sides that stopped are those of the list.
  stopped-so : (s : CoreState L) (b : ℕ) → IsBuffer b → stopped_at (sides_of s) b ≡ stopped_by (s.buffers b).sides
  stopped-so s b is = each-buffer (λ b. stopped_at (sides_of s) b ≡ stopped_by (s.buffers b).sides) b is refl refl refl refl

  module _ {X S K F A B : Type 0} (keeps : Keeps L X) (tells : Tells L S K F A B) (net : Net X S K F A B) (outcomes : Outcomes) (stops : List (Option Side))
      (some : HaveEnded J (StandsWithin J keeps tells net))
      (card-is : (h : List (Entry L)) → StandsFor J card keeps.card net.card h → outcomes.card ≡ outcome_by (caused h))
      (input-is : (h : List (Entry L)) → StandsFor J input keeps.input net.input h → outcomes.input ≡ outcome_by (caused h))
      (job-is : (h : List (Entry L)) → StandsFor J (job J) keeps.job net.job h → outcomes.job ≡ outcome_by (caused h))
      (output-is : (h : List (Entry L)) → StandsFor J output keeps.output net.output h → outcomes.output ≡ outcome_by (caused h))
      (printer-is : (h : List (Entry L)) → StandsFor J printer keeps.printer net.printer h → outcomes.printer ≡ outcome_by (caused h))
      (stops-are : (s : CoreState L) → NetStands J keeps tells net s → stops ≡ sides_of s) where
    abbrev first : CoreState L
    first = some.at.state

    abbrev stood : NetStands J keeps tells net first
    stood = some.at.stands.is

    the-end : (p : ℕ) → IsProcess p → HasEnded (first.histories p)
    the-end p one = all-ended jobs first some.all p one

    ended : (s : CoreState L) → NetStands J keeps tells net s → (p : ℕ) → IsProcess p → HasEndedSo s (outcome_at outcomes p) p
    ended s st p one =
        each-process (λ p. HasEndedSo s (outcome_at outcomes p) p) p one
        (ends-so card keeps.card net.card outcomes.card card-is (s.histories 1) st.card (first.histories 1) (relays jobs 1) stood.card
        (the-end 1 (lit≤ tt, lit≤ tt)))
        (ends-so input keeps.input net.input outcomes.input input-is (s.histories 2) st.input (first.histories 2) (relays jobs 2) stood.input
        (the-end 2 (lit≤ tt, lit≤ tt)))
        (ends-so (job J) keeps.job net.job outcomes.job job-is (s.histories 3) st.job (first.histories 3) (relays jobs 3) stood.job
        (the-end 3 (lit≤ tt, lit≤ tt)))
        (ends-so output keeps.output net.output outcomes.output output-is (s.histories 4) st.output (first.histories 4) (relays jobs 4) stood.output
        (the-end 4 (lit≤ tt, lit≤ tt)))
        (ends-so printer keeps.printer net.printer outcomes.printer printer-is (s.histories 5) st.printer (first.histories 5)
        (relays jobs 5) stood.printer
        (the-end 5 (lit≤ tt, lit≤ tt)))

    given : (s : CoreState L) → NetStands J keeps tells net s → (p : ℕ) (how : Outcome) → IsProcess p → outcome_at outcomes p ≡ how → IsNotDone (Some how)
        → GivenBy (s.histories p) how
    given s st p how one =
        each-process (λ p. outcome_at outcomes p ≡ how → IsNotDone (Some how) → GivenBy (s.histories p) how) p one
        (given-so card keeps.card net.card outcomes.card card-is (s.histories 1) st.card how)
        (given-so input keeps.input net.input outcomes.input input-is (s.histories 2) st.input how)
        (given-so (job J) keeps.job net.job outcomes.job job-is (s.histories 3) st.job how)
        (given-so output keeps.output net.output outcomes.output output-is (s.histories 4) st.output how)
        (given-so printer keeps.printer net.printer outcomes.printer printer-is (s.histories 5) st.printer how)

    pub ends : (s : CoreState L) → NetStands J keeps tells net s → EndsSo s outcomes stops
    ends s st = record { ended = ended s st; given = given s st; first = stops-are s st }

    numbers : (p : ℕ) (c : Cause) → IsProcess p → outcome_at outcomes p ≡ outcome.Fault c → TellsWhere c
    numbers p c one =
        each-process (λ p. outcome_at outcomes p ≡ outcome.Fault c → TellsWhere c) p one
        (number-so card keeps.card net.card outcomes.card card-is (first.histories 1) stood.card c)
        (number-so input keeps.input net.input outcomes.input input-is (first.histories 2) stood.input c)
        (number-so (job J) keeps.job net.job outcomes.job job-is (first.histories 3) stood.job c)
        (number-so output keeps.output net.output outcomes.output output-is (first.histories 4) stood.output c)
        (number-so printer keeps.printer net.printer outcomes.printer printer-is (first.histories 5) stood.printer c)

    pub faults : FaultsAre outcomes
    faults = record {
      card = fault-so card keeps.card net.card outcomes.card card-is (first.histories 1) stood.card _ (faults_of_the_five J jobs).card;
      input = fault-so input keeps.input net.input outcomes.input input-is (first.histories 2) stood.input _ (faults_of_the_five J jobs).input;
      job = fault-so (job J) keeps.job net.job outcomes.job job-is (first.histories 3) stood.job _ (faults_of_the_five J jobs).job;
      output = fault-so output keeps.output net.output outcomes.output output-is (first.histories 4) stood.output _
          (faults_of_the_five J jobs).output;
      printer = fault-so printer keeps.printer net.printer outcomes.printer printer-is (first.histories 5) stood.printer _
          (faults_of_the_five J jobs).printer;
      numbers = numbers;
    }

    -- ---- together
    all-are : (s : CoreState L) → NetStands J keeps tells net s → outcomes ≡ all_done → AllDone s
    all-are s st e p one = subst (λ how. HasEndedSo s how p) (ap (λ o. outcome_at o p) e ∙ all-done p one) (ended s st p one)

    law : EndsTogether first
    law = (reached-holds jobs some.at.opening first some.at.reached).ends

    stopped-first : (b : ℕ) → IsBuffer b → stopped_at stops b ≡ stopped_by (first.buffers b).sides
    stopped-first b is = ap (λ all. stopped_at all b) (stops-are first stood) ∙ stopped-so first b is

    done-none : outcomes ≡ all_done → stops ≡ none_stopped
    done-none e =
        let none = law.done (all-are first stood e) in
        stops-are first stood
        ∙ none-so _ _ _ _ (none 1 (lit≤ tt, lit≤ tt)) (none 2 (lit≤ tt, lit≤ tt)) (none 3 (lit≤ tt, lit≤ tt)) (none 4 (lit≤ tt, lit≤ tt))

    none-at : (b : ℕ) → IsBuffer b → stopped_at none_stopped b ≡ None
    none-at b is = each-buffer (λ b. stopped_at none_stopped b ≡ None) b is refl refl refl refl

    none-done : stops ≡ none_stopped → outcomes ≡ all_done
    none-done e =
        let free : (b : ℕ) → IsBuffer b → stopped_by (first.buffers b).sides ≡ None
        = λ b is. sym (stopped-first b is) ∙ ap (λ all. stopped_at all b) e ∙ none-at b is in
        let done : (p : ℕ) → IsProcess p → outcome_at outcomes p ≡ outcome.Done
        = λ p one. law.unstopped free p (outcome_at outcomes p) one (ended first stood p one) in
        done-so _ _ _ _ _ (done 1 (lit≤ tt, lit≤ tt)) (done 2 (lit≤ tt, lit≤ tt)) (done 3 (lit≤ tt, lit≤ tt)) (done 4 (lit≤ tt, lit≤ tt))
        (done 5 (lit≤ tt, lit≤ tt))

    beside : (p : ℕ) → IsProcess p → outcome_at outcomes p ≡ outcome.Stopped → StoppedBeside stops p × SomeFault outcomes
    beside p one e =
        let (told, found) = law.stopped the-end p one (subst (λ how. HasEndedSo first how p) e (ended first stood p one)) in
        let (q, cause, q_one, fault) = found in (
          record {
            buffer = told.buffer;
            side = told.side;
            is_buffer = told.is_buffer;
            seated = told.seated;
            by = stopped-first told.buffer told.is_buffer ∙ told.by;
          },
          record { process = q; cause = cause; one = q_one; is = same-end (newest (first.histories q)) _ _ (ended first stood q q_one) fault },
        )

    pub together : EndTogether outcomes stops
    together = record { done = (done-none, none-done); stopped = beside }

    -- ---- for an opening
    module _ (at : Placed (the_law J) (StandsWithin J keeps tells net)) where
      holds : Holds at.opening at.state
      holds = reached-holds jobs at.opening at.state at.reached

      pub prints : AreTold at.opening.spools → (items : List Item) (found : FilesAs L) → at.opening.deck ≡ Some items
          → AreFound J at.opening.files found items
          → Gains at.opening.paper (tells.given net.shared.paper.sink) (text (one_thread J items found)) (outcomes ≡ all_done)
      prints told items found is are_found =
          subst (λ now. Gains at.opening.paper now (text (one_thread J items found)) (outcomes ≡ all_done)) at.stands.is.shared.paper
          (gains-where at.opening.paper at.state.devices.paper _ _ _ (all-are at.state at.stands.is) (holds.prints told items found is are_found))

      pub reads : (items : List Item) → at.opening.deck ≡ Some items → outcomes ≡ all_done
          → deck_ahead tells net.shared.deck ≡ Some []
      reads items is e = sym at.stands.is.shared.deck ∙ holds.reads items is (all-are at.state at.stands.is e)

      pub undamaged : AreTold at.opening.spools → NoneDamaged outcomes
      undamaged told p c one e =
          holds.undamaged told p c one (subst (λ how. HasEndedSo at.state how p) e (ended at.state at.stands.is p one))
