-- How each process ended follows from its cause, and how all did together from the law.
use Rattle.std.specs.Prelude.{is_some}
use Rattle.std.proofs.Common.{◌≡◌, inl, inr, ℕ, true, List, [], ◌∷◌, Option, None, Some, refl, sym, ◌∙◌, ap, subst, lit≤}
use Rattle.solo_base.specs.declared.item.Item.{Item}
use Rattle.solo_base.specs.declared.outcome.Side.{Side}
use Rattle.solo_base.specs.declared.outcome.Outcome.{Outcome}
use Rattle.solo_base.specs.declared.outcome.Outcome.TheVariants as outcome
use Rattle.solo_base.specs.declared.outcome.Cause.{Cause}
use Rattle.solo_base.specs.Text.{text}
use Rattle.solo_devices.specs.PrinterUnit.{Gains}
use Rattle.queue_var.specs.declared.stops.Stops.{Stops as Marks}
use Rattle.queue_var.specs.declared.stops.Stops.TheVariants.{Neither, One, Both}
use Rattle.queue_var.specs.Sides.{first_of, is_among, stopped_by}
use Rattle.solo_base.specs.declared.outcome.Side.TheVariants.{Sender, Receiver}
use Rattle.network_run.specs.Law.{Placed}
use Rattle.network_law.specs.Acts.{stops_at, made_stop}
use Rattle.network_law.specs.Network.{Follows, acts}
use Rattle.network_law.specs.Kept.{Stands}
use Rattle.network_law.proofs.KeepsBuffers.{or-tells}
use Rattle.network_law.proofs.Reached.{reached-stands}
use Rattle.network_law.proofs.Seats.{same-tells}
use Rattle.place_law.specs.Process.{action_of, caused, how_ended, next_action}
use Rattle.place_law.specs.Ending.{outcome_by, GivenBy, HasEndedSo, HasEnded, AllDone, EndsTogether}
use Rattle.place_law.proofs.Ended.{none-ended, ends-rightly}
use Rattle.place_law.proofs.Given.{given-by}
use Rattle.solo_needs.specs.Handing.{no_command, HandsOn}
use Rattle.solo_law.specs.Work.{Given, Plan}
use Rattle.solo_law.specs.Actions.{Action, Reply}
use Rattle.solo_law.specs.Actions as act
use Rattle.solo_law.specs.Buffers.{call, seat}
use Rattle.solo_law.specs.Replies.{view}
use Rattle.solo_law.specs.InputPlaces.{input as the_input}
use Rattle.solo_law.specs.OutputPlaces.{output as the_output}
use Rattle.solo_law.specs.JobPlaces.{job as the_job}
use Rattle.solo_law.specs.Told.{on_console, on_paper, lines_of_all, needs, begun}
use Rattle.solo_law.specs.Solo.{process, table, solo, SoloState, SoloEntry, IsProcess, opened, openings, the_law}
use Rattle.solo_law.specs.Holds.{IsBuffer, Holds}
use Rattle.solo_law.proofs.Placed.{each-process, is-1, is-2, is-3, placed, calls-so, seats, solo-lawful}
use Rattle.solo_law.proofs.Reached.{reached-holds}
use Rattle.solo_procs.specs.declared.machine.Machine.{Machine}
use Rattle.solo_procs.specs.Machine.{StandsFor}
use Rattle.solo_procs.specs.Job.{job_at, JobStands}
use Rattle.solo_ends.specs.declared.units.SoloRan.{SoloRan}
use Rattle.solo_ends.specs.Ends.{outcome_at, stopped_at, all_done, none_stopped, StoppedBeside, SomeFault, EndTogether, FaultsAre}
use Rattle.solo_net.specs.declared.net.SoloNet.{SoloNet}
use Rattle.solo_net.specs.Actions.{SoloHasPlace}
use Rattle.solo_net.specs.SixBuffers.{first_stops}
use Rattle.solo_net.specs.Telling.{Tells}
use Rattle.solo_net.specs.Net.{CommandsOf, input_at, output_at, SoloNetStands, AreSome}
use Rattle.solo_net.specs.Ended.{SoloHaveEnded, EndsSo}
use Rattle.solo_ends.specs.Told.{JobDone, BothDone, TellsPlan}
use Rattle.solo_net.proofs.Placing.{next-place}
use Rattle.solo_net.proofs.Visiting.{each-buffer}

-- ---- one process
cause-is : (cause : Option Outcome) (how : Outcome) → outcome_by cause ≡ how → (how ≡ outcome.Done → ⊥) → cause ≡ Some how
cause-is None how e not = absurd (not (sym e))
cause-is (Some found) how e not = ap Some e

some-of : (x : Option Outcome) → is_some x ≡ true → (how : Outcome) × (x ≡ Some how)
some-of None e = absurd cc
some-of (Some how) e = (how, refl)

some-is : (x : Option Outcome) (how : Outcome) → x ≡ Some how → is_some x ≡ true
some-is x how e = ap is_some e

-- it ended so in every state, where it has ended in one
module _ {P : Type 0} (n : ℕ) (one : IsProcess n) (is_at ready : P → (process n).Place → Type 0) (m : Machine P) (how : Outcome)
    (is : (h : List SoloEntry) → StandsFor (process n) is_at ready m h → how ≡ outcome_by (caused view (process n) h)) where
  ended-so : (h before : List SoloEntry) → StandsFor (process n) is_at ready m h → StandsFor (process n) is_at ready m before
      → Follows solo n h → next_action view (process n) before ≡ None → how_ended view h ≡ Some how
  ended-so h before st stood follows none =
      let (was, ended) = none-ended table n before none in
      let some = sym st.tracks.ended ∙ stood.tracks.ended ∙ some-is (how_ended view before) was ended in
      let (found, e) = some-of (how_ended view h) some in
      e ∙ ap Some (sym (ends-rightly table placed n h found one follows e).by_cause ∙ sym (is h st))

  given-so : (h : List SoloEntry) → StandsFor (process n) is_at ready m h → (found : Outcome) → how ≡ found → (found ≡ outcome.Done → ⊥)
      → GivenBy view (process n) found h
  given-so h st found e not =
      given-by table (process n) h found (cause-is (caused view (process n) h) found (sym (is h st) ∙ e) not)

  fault-so : (h : List SoloEntry) → StandsFor (process n) is_at ready m h → (c : Cause) → how ≡ outcome.Fault c
      → caused view (process n) h ≡ Some (outcome.Fault c)
  fault-so h st c e = cause-is (caused view (process n) h) (outcome.Fault c) (sym (is h st) ∙ e) (λ no. cc)

-- ---- who stops a buffer stops one of the six
stop-of : (b p : ℕ) (side : Side) (a : Action) → stops_at b side (call p a) ≡ true → a ≡ act.Stop b
stop-of b p side (act.Stop c) e = ap act.Stop (sym (same-tells b side c _ e).number)
stop-of b p side act.Accept e = absurd cc
stop-of b p side (act.Display line) e = absurd cc
stop-of b p side act.ReadCard e = absurd cc
stop-of b p side (act.Print line) e = absurd cc
stop-of b p side (act.PutArg c x) e = absurd cc
stop-of b p side (act.TakeArg c) e = absurd cc
stop-of b p side (act.PutPage c page) e = absurd cc
stop-of b p side (act.TakePage c) e = absurd cc
stop-of b p side (act.Works work) e = absurd cc
stop-of b p side (act.Ended how) e = absurd cc

made-buffer : (p b : ℕ) (side : Side) (h : List SoloEntry) → IsProcess p → Follows solo p h → made_stop b side (acts solo p h) ≡ true → IsBuffer b
made-buffer p b side [] one follows e = absurd cc
made-buffer p b side (entry ∷ h) one follows e =
    elim (or-tells (stops_at b side ((process p).calls (action_of entry))) (made_stop b side (acts solo p h)) e) as (λ _. IsBuffer b) [
      | inl now ↦
          let is : action_of entry ≡ act.Stop b
          = stop-of b p side (action_of entry) (ap (stops_at b side) (sym (calls-so p one (action_of entry))) ∙ now) in
          subst SoloHasPlace is (next-place p h (action_of entry) one follows.0)
      | inr old ↦ made-buffer p b side h one follows.2 old
    ]

first-among : (stops : Marks) (side : Side) → first_of stops ≡ Some side → is_among side stops ≡ true
first-among Neither side e = absurd cc
first-among (One Sender) Sender e = refl
first-among (One Sender) Receiver e = absurd cc
first-among (One Receiver) Sender e = absurd cc
first-among (One Receiver) Receiver e = refl
first-among (Both by) side e = refl

stopped-buffer : (opening s : SoloState) → Stands solo opening s → (b : ℕ) (side : Side) → stopped_by (s.buffers b).sides ≡ Some side → IsBuffer b
stopped-buffer opening s st b side e =
    let q = seat b side in
    made-buffer q b side (s.histories q) (seats b side) (st.follows q)
    (sym ((st.buffers.hand_over b).stopped_first.each side ∙ st.buffers.stops b side)
    ∙ first-among (s.buffers b).sides.stops side e)

-- ---- the three

done-so : (a b c : Outcome) → a ≡ outcome.Done → b ≡ outcome.Done → c ≡ outcome.Done → (a ∷ b ∷ c ∷ []) ≡ all_done
done-so a b c x y z = cc

none-so : (a b c d e f : Option Side) → a ≡ None → b ≡ None → c ≡ None → d ≡ None → e ≡ None → f ≡ None
    → (a ∷ b ∷ c ∷ d ∷ e ∷ f ∷ []) ≡ none_stopped
none-so a b c d e f u v w x y z = cc

done-at : (p : ℕ) → IsProcess p → outcome_at all_done p ≡ outcome.Done
done-at p one = each-process (λ p. outcome_at all_done p ≡ outcome.Done) p one refl refl refl

none-at : (b : ℕ) → IsBuffer b → stopped_at none_stopped b ≡ None
none-at b is = each-buffer (λ b. stopped_at none_stopped b ≡ None) b is refl refl refl refl refl refl

same-end : (x : Option Outcome) (a b : Outcome) → x ≡ Some a → x ≡ Some b → a ≡ b
same-end x a b e f = cc

gains-where : (before now : Option (List ℕ)) (whole : List ℕ) (X Y : Type 0) → (Y → X) → Gains before now whole X → Gains before now whole Y
gains-where before now whole X Y if gains = record {
  told = λ given is. (let all = gains.told given is in record { part = all.part; now_is = all.now_is; prefix = all.prefix; all_is = λ y. all.all_is (if y) });
  untold = gains.untold;
}

module _ {C F S Y K T : Type 0} (commands : CommandsOf C F) (tells : Tells S Y K T) (net : SoloNet C S Y K T F) (a b c : Outcome)
    (stops : List (Option Side)) (some : SoloHaveEnded commands tells net)
    (a-is : (h : List SoloEntry) → StandsFor the_input input_at input_at net.input h → a ≡ outcome_by (caused view the_input h))
    (b-is : (h : List SoloEntry) → StandsFor the_job job_at (JobStands commands.awaits) net.job h → b ≡ outcome_by (caused view the_job h))
    (c-is : (h : List SoloEntry) → StandsFor the_output output_at output_at net.output h → c ≡ outcome_by (caused view the_output h))
    (stops-are : stops ≡ first_stops net.shared.buffers) where
  abbrev outcomes : List Outcome
  outcomes = a ∷ b ∷ c ∷ []

  -- ---- for a place
  module _ (at : Placed the_law (SoloNetStands commands tells net)) where
    abbrev s : SoloState
    s = at.state

    holds : Holds at.opening.devices s
    holds = reached-holds at.opening.devices s record { sound = at.opening.sound; reached = at.reached }

    ended : (p : ℕ) → IsProcess p → HasEndedSo table s p (outcome_at outcomes p)
    ended p one =
        each-process (λ p. HasEndedSo table s p (outcome_at outcomes p)) p one
        (ended-so 1 is-1 input_at input_at net.input a a-is (s.histories 1) (some.at.state.histories 1) at.stands.input some.at.stands.input (holds.follows 1)
        (some.all 1 is-1))
        (ended-so 2 is-2 job_at (JobStands commands.awaits) net.job b b-is (s.histories 2) (some.at.state.histories 2) at.stands.job some.at.stands.job
        (holds.follows 2) (some.all 2 is-2))
        (ended-so 3 is-3 output_at output_at net.output c c-is (s.histories 3) (some.at.state.histories 3) at.stands.output some.at.stands.output
        (holds.follows 3) (some.all 3 is-3))

    given : (p : ℕ) (how : Outcome) → IsProcess p → outcome_at outcomes p ≡ how → (how ≡ outcome.Done → ⊥) → GivenBy view (process p) how (s.histories p)
    given p how one =
        each-process (λ p. outcome_at outcomes p ≡ how → (how ≡ outcome.Done → ⊥) → GivenBy view (process p) how (s.histories p)) p one
        (given-so 1 is-1 input_at input_at net.input a a-is (s.histories 1) at.stands.input how)
        (given-so 2 is-2 job_at (JobStands commands.awaits) net.job b b-is (s.histories 2) at.stands.job how)
        (given-so 3 is-3 output_at output_at net.output c c-is (s.histories 3) at.stands.output how)

    first : (n : ℕ) → IsBuffer n → stopped_at stops n ≡ stopped_by (s.buffers n).sides
    first n is =
        let six = at.stands.shared.six in
        ap (λ all. stopped_at all n) stops-are
        ∙ each-buffer (λ n. stopped_at (first_stops net.shared.buffers) n ≡ stopped_by (s.buffers n).sides) n is
        (sym (ap (λ x. stopped_by x.sides) six.card_orders.is)) (sym (ap (λ x. stopped_by x.sides) six.card_pages.is))
        (sym (ap (λ x. stopped_by x.sides) six.card_reports.is)) (sym (ap (λ x. stopped_by x.sides) six.print_orders.is))
        (sym (ap (λ x. stopped_by x.sides) six.print_pages.is)) (sym (ap (λ x. stopped_by x.sides) six.print_reports.is))

    pub ends : EndsSo s outcomes stops
    ends = record { ended = ended; given = given; hands_over = holds.hands_over; first = first }

    job-done : JobDone outcomes → HasEndedSo table s 2 outcome.Done
    job-done e = subst (HasEndedSo table s 2) e (ended 2 is-2)

    both-done : BothDone outcomes → HasEndedSo table s 2 outcome.Done × HasEndedSo table s 3 outcome.Done
    both-done e = (job-done e.0, subst (HasEndedSo table s 3) e.1 (ended 3 is-3))

    pub shows : Gains at.opening.devices.console (tells.console.given net.shared.units.typewriter.console.sink)
        (text (lines_of_all on_console (needs (s.histories 2)))) (JobDone outcomes)
    shows =
        subst (λ now. Gains at.opening.devices.console now (text (lines_of_all on_console (needs (s.histories 2)))) (JobDone outcomes))
        at.stands.shared.units.console (gains-where _ _ _ _ _ job-done holds.shows)

    pub prints : Gains at.opening.devices.paper (tells.paper.given net.shared.units.paper.sink)
        (text (lines_of_all on_paper (needs (s.histories 2)))) (BothDone outcomes)
    prints =
        subst (λ now. Gains at.opening.devices.paper now (text (lines_of_all on_paper (needs (s.histories 2)))) (BothDone outcomes))
        at.stands.shared.units.paper (gains-where _ _ _ _ _ both-done holds.prints)

    pub tells-plan : (ran : SoloRan S Y K T F) → ran.outcomes ≡ outcomes → ran.units ≡ net.shared.units → (cards keys : List Item) (plan : Plan)
        → at.opening.devices.cards ≡ Some cards → at.opening.devices.keys ≡ Some keys → at.opening.devices.work ≡ Some plan
        → TellsPlan tells.keys.left tells.console.given tells.paper.given cards keys plan at.opening.devices.console at.opening.devices.paper ran
    tells-plan ran outcomes-are units-are cards keys plan c-told k-told w-told =
        let begins = holds.begins cards keys c-told k-told in
        let same = holds.works plan w-told in
        let done : JobDone ran.outcomes → HasEndedSo table s 2 outcome.Done = λ e. job-done (subst JobDone outcomes-are e) in
        record {
          givens = begun (s.histories 2);
          last = begins.last;
          ahead = begins.ahead;
          handed = subst (λ found. HandsOn no_command
              (record { cards = cards; keys = keys }) (begun (s.histories 2)) found begins.last begins.ahead) same begins.handed;
          console = rw (outcomes-are, units-are) (subst (λ found. Gains at.opening.devices.console
              (tells.console.given net.shared.units.typewriter.console.sink) (text (lines_of_all on_console found)) (JobDone outcomes)) same shows);
          paper = rw (outcomes-are, units-are) (subst (λ found. Gains at.opening.devices.paper
              (tells.paper.given net.shared.units.paper.sink) (text (lines_of_all on_paper found)) (BothDone outcomes)) same prints);
          all_handed = λ e. (begins.ended (done e)).0;
          none_left = λ e. rw units-are (sym at.stands.shared.units.keys ∙ (begins.ended (done e)).1);
        }

    pub files : (passes : List Given → F → Type 0)
        → AreSome passes (begun (s.histories 2)) net.shared.units.files (caused view the_job (s.histories 2))
        → AreSome passes (begun (s.histories 2)) net.shared.units.files (Some b)
    files passes are =
        subst (λ how. AreSome passes (begun (s.histories 2)) net.shared.units.files (Some how)) (sym (b-is (s.histories 2) at.stands.job))
        (by (caused view the_job (s.histories 2)) are) where
          by : (how : Option Outcome) → AreSome passes (begun (s.histories 2)) net.shared.units.files how
              → AreSome passes (begun (s.histories 2)) net.shared.units.files (Some (outcome_by how))
          by None is = is
          by (Some how) is = is

  -- ---- together
  abbrev solo_first_place : Placed the_law (SoloNetStands commands tells net)
  solo_first_place = some.at

  abbrev t : SoloState
  t = some.at.state

  law : EndsTogether table t
  law = (holds solo_first_place).ends

  all-done : outcomes ≡ all_done → AllDone table t
  all-done e p one = subst (HasEndedSo table t p) (ap (λ o. outcome_at o p) e ∙ done-at p one) (ended solo_first_place p one)

  all-ended : (p : ℕ) → IsProcess p → HasEnded table t p
  all-ended p one = (outcome_at outcomes p, ended solo_first_place p one)

  none-by : (six : List (Option Side)) → six ≡ first_stops net.shared.buffers → ((n : ℕ) → IsBuffer n → stopped_at six n ≡ None) → six ≡ none_stopped
  none-by six is none =
      let at : (n : ℕ) → IsBuffer n → stopped_at (first_stops net.shared.buffers) n ≡ None
      = λ n one. ap (λ all. stopped_at all n) (sym is) ∙ none n one in
      is ∙ none-so _ _ _ _ _ _ (at 1 (lit≤ tt, lit≤ tt)) (at 2 (lit≤ tt, lit≤ tt)) (at 3 (lit≤ tt, lit≤ tt)) (at 4 (lit≤ tt, lit≤ tt))
      (at 5 (lit≤ tt, lit≤ tt)) (at 6 (lit≤ tt, lit≤ tt))

  done-none : outcomes ≡ all_done → stops ≡ none_stopped
  done-none e = none-by stops stops-are (λ n is. first solo_first_place n is ∙ law.done (all-done e) n)

  none-stopped : stops ≡ none_stopped → (n : ℕ) → IsBuffer n → stopped_by (t.buffers n).sides ≡ None
  none-stopped e n is = sym (first solo_first_place n is) ∙ ap (λ all. stopped_at all n) e ∙ none-at n is

  none-done : stops ≡ none_stopped → outcomes ≡ all_done
  none-done e =
      let free = none-stopped e in
      let one = free 1 (lit≤ tt, lit≤ tt) in
      let two = free 2 (lit≤ tt, lit≤ tt) in
      let three = free 3 (lit≤ tt, lit≤ tt) in
      let four = free 4 (lit≤ tt, lit≤ tt) in
      let five = free 5 (lit≤ tt, lit≤ tt) in
      let six = free 6 (lit≤ tt, lit≤ tt) in
      done-so a b c (law.unstopped 1 a is-1 (ended solo_first_place 1 is-1) (one, (two, (three, tt))))
      (law.unstopped 2 b is-2 (ended solo_first_place 2 is-2) (one, (two, (three, (four, (five, (six, tt)))))))
      (law.unstopped 3 c is-3 (ended solo_first_place 3 is-3) (four, (five, (six, tt))))

  beside : (p : ℕ) → IsProcess p → outcome_at outcomes p ≡ outcome.Stopped → StoppedBeside stops p × SomeFault outcomes
  beside p one e =
      let (told, found) = law.stopped all-ended p one (subst (HasEndedSo table t p) e (ended solo_first_place p one)) in
      let (q, why, q_one, fault) = found in
      let centre = reached-stands solo-lawful openings solo_first_place.opening t solo_first_place.reached in
      let is = stopped-buffer (opened solo_first_place.opening.devices) t centre told.buffer _ told.by in (
        record { buffer = told.buffer; side = told.side; is_buffer = is; seated = told.seated; by = first solo_first_place told.buffer is ∙ told.by },
        record { process = q; cause = why; one = q_one; is = same-end (how_ended view (t.histories q)) _ _ (ended solo_first_place q q_one) fault },
      )

  pub together : EndTogether outcomes stops
  together = record { done = (done-none, none-done); stopped = beside }

  pub faults : FaultsAre outcomes
  faults =
      let causes = (holds solo_first_place).causes in
      record {
        input = λ why e. causes.input why (fault-so 1 is-1 input_at input_at net.input a a-is (t.histories 1) solo_first_place.stands.input why e);
        job = λ why e. causes.job why (fault-so 2 is-2 job_at (JobStands commands.awaits) net.job b b-is (t.histories 2) solo_first_place.stands.job why e);
        output = λ why e. causes.output why (fault-so 3 is-3 output_at output_at net.output c c-is (t.histories 3) solo_first_place.stands.output why e);
      }
