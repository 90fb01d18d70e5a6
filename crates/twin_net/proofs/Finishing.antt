-- How the network ended, at each place where it stands.
use Rattle.std.proofs.Common.{◌≡◌, ℕ, Bool, true, false, ◌||◌, List, [], ◌∷◌, Option, None, Some, refl, sym, ◌∙◌, ap, subst}
use Rattle.solo_base.specs.declared.item.Item.{Item}
use Rattle.solo_base.specs.declared.outcome.Side.{Side}
use Rattle.solo_base.specs.declared.outcome.Outcome.{Outcome}
use Rattle.solo_base.specs.declared.outcome.Outcome.TheVariants as outcome
use Rattle.solo_base.specs.declared.outcome.Cause.{Cause}
use Rattle.solo_base.specs.Text.{text}
use Rattle.solo_devices.specs.PrinterUnit.{Gains}
use Rattle.queue_var.specs.Sides.{stopped_by}
use Rattle.batch_procs.specs.Jobs.{Jobs, AreJobs, FilesAs, one_thread}
use Rattle.batch_procs.specs.JobTold.{JobTold}
use Rattle.batch_procs.specs.Parcels.{Parcel}
use Rattle.place_law.specs.Process.{Does, LacksMemory, Delays, or_new}
use Rattle.place_law.specs.Ending.{outcome_by}
use Rattle.network_run.specs.Law.{Placed}
use Rattle.network_law.specs.Buffer.{Buffer}
use Rattle.twin_law.specs.Process.{Action, Ended, Entry, Process, is_end, has_ended, caused}
use Rattle.twin_law.specs.Sides.{A, B}
use Rattle.twin_law.specs.Ends.{card, printer}
use Rattle.twin_law.specs.Input.{input}
use Rattle.twin_law.specs.Job.{job}
use Rattle.twin_law.specs.Output.{output}
use Rattle.twin_law.specs.Table.{process}
use Rattle.twin_law.specs.Twin.{TwinState, IsProcess}
use Rattle.twin_law.specs.Opening.{AreTold}
use Rattle.twin_law.specs.TheLaw.{the_law, first_state}
use Rattle.twin_law.specs.UnitWork.{AreByUnits}
use Rattle.twin_law.specs.Outcomes.{ends_as, how_ended, HasEndedSo, AllDone}
use Rattle.twin_law.specs.Holds.{Holds}
use Rattle.twin_law.proofs.Devices.{reached-centre}
use Rattle.twin_law.proofs.Ended.{none-ended}
use Rattle.twin_law.proofs.Lawful.{each-process}
use Rattle.twin_law.proofs.Reached.{holds}
use Rattle.twin_ends.specs.declared.units.TwinOutcomes.{TwinOutcomes}
use Rattle.twin_ends.specs.TwinTells.{TwinTells, TwinCounts, cards_ahead}
use Rattle.twin_procs.specs.declared.machine.TwinMachine.{TwinMachine}
use Rattle.twin_procs.specs.Machine.{StandsFor}
use Rattle.twin_procs.specs.Standing.{InputStands}
use Rattle.twin_procs.specs.Job.{job_stands}
use Rattle.twin_procs.specs.Output.{OutputStands}
use Rattle.twin_ends.specs.declared.units.TwinUnits.{TwinUnits}
use Rattle.twin_net.specs.declared.net.TwinNet.{TwinNet}
use Rattle.twin_net.specs.declared.shared.TwinShared.{TwinShared}
use Rattle.twin_net.specs.TwinStands.{TwinStands, shared_units}
use Rattle.twin_net.specs.Net.{card_at, printer_at, TwinNetStands, TwinStandsWithin}
use Rattle.twin_net.specs.Counted.{TwinFaultsAreCounted, outcomes_now, CountedSoFar}
use Rattle.twin_net.specs.Ended.{TwinHaveEnded, twin_outcome_at, twin_all_done, six_sides, TwinEndsSo, TwinStoppedSo, TwinTogether, TwinNoneDamaged, TwinFaultsAre}
use Rattle.twin_net.proofs.DamageTold.{tells-where}
use Rattle.twin_net.proofs.ToldStops.{stopped-beside}

-- ---- one process
end-is : (a : Action) → is_end a ≡ true → (how : Outcome) × (ends_as a ≡ Some how)
end-is (Ended how) e = (how, refl)
end-is a e = absurd cc

or-some : (old : Option Outcome) (how : Outcome) → (why : Outcome) × (or_new old (Some how) ≡ Some why)
or-some None how = (how, refl)
or-some (Some why) how = (why, refl)

or-old : (old new : Option Outcome) (why : Outcome) → old ≡ Some why → or_new old new ≡ Some why
or-old old new why e = ap (λ old. or_new old new) e

ended-how : {L : Type 0} (h : List (Entry L)) → has_ended h ≡ true → (how : Outcome) × (how_ended h ≡ Some how)
ended-how [] e = absurd cc
ended-how (Does a r ∷ h) e = by (is_end a) refl (ended-how h)
  where
    by : (t : Bool) → is_end a ≡ t → (has_ended h ≡ true → (how : Outcome) × (how_ended h ≡ Some how))
        → (how : Outcome) × (or_new (how_ended h) (ends_as a) ≡ Some how)
    by true is rest =
        let (how, ends) = end-is a is in
        let (why, same) = or-some (how_ended h) how in
        (why, ap (or_new (how_ended h)) ends ∙ same)
    by false is rest = (let (how, before) = rest (sym (ap (λ t. t || has_ended h) is) ∙ e) in (how, or-old (how_ended h) (ends_as a) how before))
ended-how (LacksMemory a r ∷ h) e = ended-how h e
ended-how (Delays a ∷ h) e = ended-how h e

over-at : {L X P : Type 0} {p : Process L} {stands : P → p.Place → Type 0} {m : TwinMachine X P} {before h : List (Entry L)} → StandsFor p stands m before
    → StandsFor p stands m h → has_ended before ≡ true → has_ended h ≡ true
over-at before now e = now.over ∙ sym before.over ∙ e

fault-caused : (old : Option Outcome) (c : Cause) → outcome_by old ≡ outcome.Fault c → old ≡ Some (outcome.Fault c)
fault-caused None c e = absurd cc
fault-caused (Some how) c e = ap Some e

stopped-caused : (old : Option Outcome) → outcome_by old ≡ outcome.Stopped → old ≡ Some outcome.Stopped
stopped-caused None e = absurd cc
stopped-caused (Some how) e = ap Some e

gains-by : (before now after : Option (List ℕ)) (whole : List ℕ) (All Done : Type 0) → now ≡ after → (Done → All) → Gains before now whole All
    → Gains before after whole Done
gains-by before now after whole All Done same all gains = record {
  told = λ given e. (let told = gains.told given e in record {
    part = told.part;
    now_is = sym same ∙ told.now_is;
    prefix = told.prefix;
    all_is = λ done. told.all_is (all done);
  });
  untold = λ e. sym same ∙ gains.untold e;
}

-- the sides that the monitors tell
pub sides-are : {L X S K F P : Type 0} (tells : TwinTells L S K F P) (shared : TwinShared X S K F P) (s : TwinState L) → TwinStands tells shared s
    → (a b c d e f : Option Side) → a ≡ stopped_by shared.cards.sides → b ≡ stopped_by shared.spools.to_a.sides → c ≡ stopped_by shared.spools.to_b.sides
    → d ≡ stopped_by shared.spools.from_a.sides → e ≡ stopped_by shared.spools.from_b.sides → f ≡ stopped_by shared.lines.sides
    → (a ∷ b ∷ c ∷ d ∷ e ∷ f ∷ []) ≡ six_sides s
sides-are {L} tells shared s st a b c d e f one two three four five six =
    rw (
      one ∙ ap (λ (b : Buffer (Parcel L)). stopped_by b.sides) (sym st.cards.is),
      two ∙ ap (λ (b : Buffer (Parcel L)). stopped_by b.sides) (sym st.spools.to_a.is),
      three ∙ ap (λ (b : Buffer (Parcel L)). stopped_by b.sides) (sym st.spools.to_b.is),
      four ∙ ap (λ (b : Buffer (Parcel L)). stopped_by b.sides) (sym st.spools.from_a.is),
      five ∙ ap (λ (b : Buffer (Parcel L)). stopped_by b.sides) (sym st.spools.from_b.is),
      six ∙ ap (λ (b : Buffer (Parcel L)). stopped_by b.sides) (sym st.lines.is),
    ) refl

pub same-units : {S K F P : Type 0} (u : TwinUnits S K F P) (a b c d : P) → a ≡ u.to_a → b ≡ u.to_b → c ≡ u.from_a → d ≡ u.from_b
    → record { deck = u.deck; paper = u.paper; files = u.files; to_a = a; to_b = b; from_a = c; from_b = d } ≡ u
same-units u a b c d e f g h = rw (e, f, g, h) refl

abbrev six_outcomes : Outcome → Outcome → Outcome → Outcome → Outcome → Outcome → TwinOutcomes
six_outcomes a b c d e f = record { card = a; input = b; job_a = c; job_b = d; output = e; printer = f }

pub same-six : (a b c d e f x y z u v w : Outcome) → a ≡ x → b ≡ y → c ≡ z → d ≡ u → e ≡ v → f ≡ w
    → six_outcomes a b c d e f ≡ six_outcomes x y z u v w
same-six a b c d e f x y z u v w i j k l m n = rw (i, j, k, l, m, n) refl

module _ {L X S K F P : Type 0} {J : Jobs L} (jobs : AreJobs J) (keeps : X → JobTold L → Type 0) (tells : TwinTells L S K F P) (net : TwinNet X S K F P)
    (outcomes : TwinOutcomes) (stops : List (Option Side)) (units : TwinUnits S K F P) (ended : TwinHaveEnded J (TwinStandsWithin J keeps tells net))
    (outcomes_are : outcomes ≡ outcomes_now net) (first : (s : TwinState L) → TwinStands tells net.shared s → stops ≡ six_sides s)
    (units_are : units ≡ shared_units net.shared) where
  one : (h : List (Entry L)) → StandsFor card card_at net.card h → outcomes.card ≡ outcome_by (caused card h)
  one h st = ap (λ (o : TwinOutcomes). o.card) outcomes_are ∙ ap outcome_by st.cause

  two : (h : List (Entry L)) → StandsFor input InputStands net.input h → outcomes.input ≡ outcome_by (caused input h)
  two h st = ap (λ (o : TwinOutcomes). o.input) outcomes_are ∙ ap outcome_by st.cause

  three : (h : List (Entry L)) → StandsFor (job J A) (job_stands J keeps) net.job_a h → outcomes.job_a ≡ outcome_by (caused (job J A) h)
  three h st = ap (λ (o : TwinOutcomes). o.job_a) outcomes_are ∙ ap outcome_by st.cause

  four : (h : List (Entry L)) → StandsFor (job J B) (job_stands J keeps) net.job_b h → outcomes.job_b ≡ outcome_by (caused (job J B) h)
  four h st = ap (λ (o : TwinOutcomes). o.job_b) outcomes_are ∙ ap outcome_by st.cause

  five : (h : List (Entry L)) → StandsFor output OutputStands net.output h → outcomes.output ≡ outcome_by (caused output h)
  five h st = ap (λ (o : TwinOutcomes). o.output) outcomes_are ∙ ap outcome_by st.cause

  six : (h : List (Entry L)) → StandsFor printer printer_at net.printer h → outcomes.printer ≡ outcome_by (caused printer h)
  six h st = ap (λ (o : TwinOutcomes). o.printer) outcomes_are ∙ ap outcome_by st.cause

  module _ (at : Placed (the_law J) (TwinStandsWithin J keeps tells net)) where
    abbrev stands : TwinNetStands J keeps tells net at.state
    stands = at.stands.is

    abbrev before : TwinNetStands J keeps tells net ended.at.state
    before = ended.at.stands.is

    abbrev held : Holds at.opening at.state
    held = holds jobs at.opening at.state at.reached

    abbrev OutcomeAt : ℕ → Type 0
    OutcomeAt p = twin_outcome_at outcomes p ≡ outcome_by (caused (process J p) (at.state.histories p))

    outcome-at : (p : ℕ) → IsProcess p → OutcomeAt p
    outcome-at p is =
        each-process J OutcomeAt p is (one _ stands.card) (two _ stands.input) (three _ stands.job_a) (four _ stands.job_b) (five _ stands.output)
        (six _ stands.printer)

    was-ended : (p : ℕ) → IsProcess p → has_ended (ended.at.state.histories p) ≡ true
    was-ended p is = none-ended (process J p) (ended.at.state.histories p) (ended.all p is)

    abbrev IsEndedAt : ℕ → Type 0
    IsEndedAt p = has_ended (ended.at.state.histories p) ≡ true → has_ended (at.state.histories p) ≡ true

    is-ended : (p : ℕ) → IsProcess p → IsEndedAt p
    is-ended p is =
        each-process J IsEndedAt p is (over-at before.card stands.card) (over-at before.input stands.input) (over-at before.job_a stands.job_a)
        (over-at before.job_b stands.job_b) (over-at before.output stands.output) (over-at before.printer stands.printer)

    ended-so : (p : ℕ) → IsProcess p → HasEndedSo at.state (twin_outcome_at outcomes p) p
    ended-so p is =
        let (how, ends) = ended-how (at.state.histories p) (is-ended p is (was-ended p is)) in
        ends ∙ ap Some (sym (held.ends p how is ends).by_cause ∙ sym (outcome-at p is))

    pub ends : TwinEndsSo J at.state outcomes stops
    ends = record {
      ended = ended-so;
      given = λ p how is e. (outcome-at p is ∙ ap outcome_by e, held.causes.given p how is e);
      first = first at.state stands.shared;
    }

    all-done : outcomes ≡ twin_all_done → AllDone at.state
    all-done done p is = ended-so p is ∙ ap (λ outcomes. Some (twin_outcome_at outcomes p)) done ∙ each-process J
        (λ p. Some (twin_outcome_at twin_all_done p) ≡ Some outcome.Done) p is refl refl refl refl refl refl

    pub prints : AreByUnits J → AreTold at.opening.spools → (items : List Item) (found : FilesAs L) → at.opening.deck ≡ Some items
        → at.opening.files ≡ Some found
        → Gains at.opening.paper (tells.given units.paper.sink) (text (one_thread J items found)) (outcomes ≡ twin_all_done)
    prints by told items found deck files =
        subst (λ (u : TwinUnits S K F P). Gains at.opening.paper (tells.given u.paper.sink) (text (one_thread J items found)) (outcomes ≡ twin_all_done))
        (sym units_are)
        (gains-by at.opening.paper at.state.devices.paper (tells.given net.shared.paper.sink) (text (one_thread J items found)) (AllDone at.state)
        (outcomes ≡ twin_all_done) stands.shared.paper all-done (held.prints by told items found deck files))

    pub reads : (items : List Item) → at.opening.deck ≡ Some items → outcomes ≡ twin_all_done → cards_ahead tells units.deck ≡ Some []
    reads items deck done =
        let read = held.reads items deck in
        ap (λ (u : TwinUnits S K F P). cards_ahead tells u.deck) units_are ∙ sym stands.shared.deck ∙ read.left_is ∙ ap Some (read.all (all-done done))

    -- where one was stopped the law names a process with a fault, which ended with it
    pub together : AreByUnits J → AreTold at.opening.spools → (items : List Item) (found : FilesAs L) → at.opening.deck ≡ Some items
        → at.opening.files ≡ Some found → TwinTogether outcomes
    together by told items found deck files p is e =
        let (q, c, one, fault) = held.stopped by told items found deck files p is (stopped-caused _ (sym (outcome-at p is) ∙ e)) in
        record { process = q; cause = c; one = one; is = (ends.given q (outcome.Fault c) one fault).0 }

    pub undamaged : AreTold at.opening.spools → TwinNoneDamaged outcomes
    undamaged told p c is e = held.undamaged told p c is (ended-so p is ∙ ap Some e)

  pub faults : TwinFaultsAre outcomes
  faults =
      let at = ended.at in
      let st = at.stands.is in
      let causes = (holds jobs at.opening at.state at.reached).causes in
      record {
        card = λ c e. causes.card c (fault-caused _ c (sym (one _ st.card) ∙ e));
        input = λ c e. causes.input c (fault-caused _ c (sym (two _ st.input) ∙ e));
        job_a = λ c e. causes.job_a c (fault-caused _ c (sym (three _ st.job_a) ∙ e));
        job_b = λ c e. causes.job_b c (fault-caused _ c (sym (four _ st.job_b) ∙ e));
        output = λ c e. causes.output c (fault-caused _ c (sym (five _ st.output) ∙ e));
        printer = λ c e. causes.printer c (fault-caused _ c (sym (six _ st.printer) ∙ e));
        numbers = λ p c is e. tells-where J p is c (at.state.histories p) (fault-caused _ c (sym (outcome-at at p is) ∙ e));
      }

  pub stopped : TwinStoppedSo outcomes stops
  stopped p is e =
      let at = ended.at in
      stopped-beside J (first_state at.opening) at.state (reached-centre J at.opening at.state at.reached).stands stops
      (first at.state at.stands.is.shared) p is
      (stopped-caused (caused (process J p) (at.state.histories p)) (sym (outcome-at at p is) ∙ e))

  -- what was counted until all ended is what the run tells
  pub counted : (counts : TwinCounts S K F P) (before : TwinUnits S K F P) → CountedSoFar counts before net → TwinFaultsAreCounted counts before units outcomes
  counted counts before so_far =
      subst (λ now. TwinFaultsAreCounted counts before now outcomes) (sym units_are)
      (subst (TwinFaultsAreCounted counts before (shared_units net.shared)) (sym outcomes_are) so_far.faults)
