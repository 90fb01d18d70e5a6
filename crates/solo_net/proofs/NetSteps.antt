-- A step of one of the machines is a step of the network.
use Rattle.std.specs.Prelude.{◌==◌, if◌then◌else◌, is_none}
use Rattle.std.proofs.Common.{◌≡◌, ◌≤◌, ℕ, Bool, true, List, [], ◌∷◌, Option, None, Some, inl, inr, refl, sym, ◌∙◌, ap, subst, arith}
use Rattle.std.proofs.lemmas.Bool.Decides.{eqb_tells}
use Rattle.std.proofs.lemmas.List.{append-nil}
use Rattle.solo_base.specs.declared.outcome.Outcome.{Outcome}
use Rattle.solo_base.specs.declared.outcome.Outcome.TheVariants as outcome
use Rattle.solo_base.specs.declared.outcome.Cause.TheVariants as cause
use Rattle.solo_devices.specs.CardUnit.{Held}
use Rattle.solo_devices.specs.PrinterUnit.{Printing}
use Rattle.network_run.specs.declared.stepped.Stepped.{Stepped}
use Rattle.network_run.specs.Law.{Placed}
use Rattle.network_run.specs.Law as law
use Rattle.network_law.specs.Acts.{is_delayed}
use Rattle.network_law.specs.Buffer.{Buffer}
use Rattle.network_law.specs.Network.{MayCall, Fits, IsEnabled, buffers_after}
use Rattle.network_law.specs.Stepping.{MayGo, is_again, stepped_so}
use Rattle.network_law.specs.Kept.{Stands}
use Rattle.network_law.proofs.Numbers.{set-same}
use Rattle.network_law.proofs.Reached.{reached-stands}
use Rattle.exchange_law.specs.Parcels.{Parcel, mark}
use Rattle.place_law.specs.Process.{Does, LacksMemory, Delays, action_of, caused, EntrySuits, went, next_action}
use Rattle.place_law.specs.Ending.{outcome_by}
use Rattle.solo_law.specs.Work.{Given}
use Rattle.solo_law.specs.Actions.{Action, Reply}
use Rattle.solo_law.specs.Actions as act
use Rattle.solo_law.specs.Buffers.{call}
use Rattle.solo_law.specs.Replies.{view}
use Rattle.solo_law.specs.InputPlaces.{input as the_input}
use Rattle.solo_law.specs.OutputPlaces.{output as the_output}
use Rattle.solo_law.specs.JobPlaces.{job as the_job}
use Rattle.solo_law.specs.Devices.{Devices, Allows, given}
use Rattle.solo_law.specs.Told.{begun}
use Rattle.solo_law.specs.Solo.{process, solo, SoloState, SoloEntry, SoloEvent, IsProcess, opened, openings, the_law}
use Rattle.solo_law.proofs.Placed.{calls-so, is-1, is-2, is-3, solo-lawful}
use Rattle.solo_procs.specs.declared.input_proc.InputProc.{InputProc}
use Rattle.solo_procs.specs.declared.output_proc.OutputProc.{OutputProc}
use Rattle.solo_procs.specs.declared.job_proc.JobProc.{JobProc}
use Rattle.solo_procs.specs.declared.machine.Machine.{Machine}
use Rattle.solo_procs.specs.Said.{said, is_end}
use Rattle.solo_procs.specs.Machine.{StandsFor}
use Rattle.solo_procs.specs.Job.{job_at, JobStands}
use Rattle.solo_ends.specs.Faults.{devices_of, AreCounted}
use Rattle.solo_net.specs.declared.net.SoloNet.{SoloNet}
use Rattle.solo_net.specs.declared.shared.Shared.{Shared}
use Rattle.solo_net.specs.Actions.{IsNoWork}
use Rattle.solo_net.specs.Replies.{solo_reply_of}
use Rattle.solo_net.specs.Telling.{Tells, solo_counts_of, total_of, Displays, SoloPrints, SoloHasCauses}
use Rattle.solo_net.specs.Sharing.{SoloSharedStands, SoloMayPerform, SoloEnters}
use Rattle.solo_net.specs.Steps.{Steps}
use Rattle.solo_net.specs.Net.{CommandsOf, input_at, output_at, SoloNetStands, AreSome, outcomes_of, KeepsSo, MovesSo}
use Rattle.solo_net.proofs.Placing.{Owned, next-owned, next-place}
use Rattle.solo_net.proofs.Freed.{IsFree, free-of, given-done}
use Rattle.solo_net.proofs.Counted.{next_state, event-keeps, free-before, outcomes_in, FilesCause, counted, cards-or-not, keys-or-not, displays-or-not, prints-or-not}
use Rattle.solo_net.proofs.Turning.{may-perform, goes-so}

-- ---- what the work began with
no-more : (a : Action) (r : Reply) (h : List SoloEntry) → IsNoWork a → begun (Does a r ∷ h) ≡ begun h
no-more act.Accept r h is = append-nil (begun h)
no-more (act.Display line) r h is = append-nil (begun h)
no-more act.ReadCard r h is = append-nil (begun h)
no-more (act.Print line) r h is = append-nil (begun h)
no-more (act.PutArg b x) r h is = append-nil (begun h)
no-more (act.TakeArg b) r h is = append-nil (begun h)
no-more (act.PutPage b page) r h is = append-nil (begun h)
no-more (act.TakePage b) r h is = append-nil (begun h)
no-more (act.Works work) r h is = absurd is
no-more (act.Stop b) r h is = append-nil (begun h)
no-more (act.Ended how) r h is = append-nil (begun h)

entry-begun : (entry : SoloEntry) (h : List SoloEntry) → IsNoWork (action_of entry) → begun (entry ∷ h) ≡ begun h
entry-begun (Does a r) h is = no-more a r h is
entry-begun (LacksMemory a r) h is = refl
entry-begun (Delays a) h is = refl

event-begun : (s : SoloState) (event : SoloEvent) → IsNoWork (action_of event.entry)
    → begun ((next_state s event).histories 2) ≡ begun (s.histories 2)
event-begun s event is =
    let q = event.process in
    let P : Bool → Type 0 = λ t. begun (if t then event.entry ∷ s.histories q else s.histories 2) ≡ begun (s.histories 2) in
    elim (eqb_tells 2 q) as (λ _. P (2 == q)) [
      | inl same ↦ subst P (sym same.0) (entry-begun event.entry (s.histories q) is ∙ ap (λ q. begun (s.histories q)) (sym same.1))
      | inr not ↦ subst P (sym not.0) refl
    ]

-- ---- where the files stand
module _ {F : Type 0} (passes : List Given → F → Type 0) (givens : List Given) (files : F) where
  pub passed : (how : Option Outcome) → passes givens files → AreSome passes givens files how
  passed None is = is
  passed (Some outcome.Done) is = is
  passed (Some outcome.Stopped) is = is
  passed (Some (outcome.Fault cause.DiskFault)) is = tt
  passed (Some (outcome.Fault cause.NoMemory)) is = inl is
  passed (Some (outcome.Fault other)) is = is

  stays-some : (old new : Option Outcome) → ((how : Outcome) → old ≡ Some how → new ≡ Some how) → AreSome passes givens files old
      → AreSome passes givens files new
  stays-some None new keeps are = passed new are
  stays-some (Some how) new keeps are = subst (AreSome passes givens files) (sym (keeps how refl)) are

-- ---- an event
-- an enabled event of a process, and what is shared stands for the state behind it
pub record IsEvent {S Y K T F : Type 0} (tells : Tells S Y K T) (new : Shared S Y K T F) (s : SoloState) (event : SoloEvent) : Type 0 where
  pub enabled : IsEnabled solo s event
  pub after : SoloSharedStands tells new (next_state s event).devices (next_state s event).buffers

module _ {S Y K T F : Type 0} (tells : Tells S Y K T) (new : Shared S Y K T F) (s : SoloState) (p : ℕ) (one : IsProcess p) (entry : SoloEntry)
    (gained : List ℕ) (next : next_action view (process p) (s.histories p) ≡ Some (action_of entry))
    (suits : EntrySuits view (process p) entry) where
  pub is-event : MayCall s p (call p (action_of entry)) → Fits mark s (call p (action_of entry)) (went view entry) → Allows s.devices entry gained
      → SoloSharedStands tells new (given s.devices entry gained) (buffers_after mark (call p (action_of entry)) p (went view entry) s.buffers)
      → IsEvent tells new s record { process = p; entry = entry; gained = gained }
  is-event may fits allowed after =
      let same = sym (calls-so p one (action_of entry)) in
      record {
        enabled = record {
          one = one;
          next = next;
          may = subst (MayCall s p) same may;
          suits = suits;
          fits = subst (λ c. Fits mark s c (went view entry)) same fits;
          allowed = allowed;
        };
        after = subst (λ c. SoloSharedStands tells new (given s.devices entry gained) (buffers_after mark c p (went view entry) s.buffers)) same after;
      }

-- ---- the network behind it
same-three : (a b c x y z : Outcome) → a ≡ x → b ≡ y → c ≡ z → (a ∷ b ∷ c ∷ []) ≡ (x ∷ y ∷ z ∷ [])
same-three a b c x y z i j k = cc

pub outcomes-are : {C F S Y K T : Type 0} (commands : CommandsOf C F) (tells : Tells S Y K T) (net : SoloNet C S Y K T F) (s : SoloState)
    → SoloNetStands commands tells net s → outcomes_of net ≡ outcomes_in s
outcomes-are commands tells net s st =
    same-three _ _ _ _ _ _ (ap outcome_by st.input.tracks.cause) (ap outcome_by st.job.tracks.cause) (ap outcome_by st.output.tracks.cause)

module _ {C F S Y K T : Type 0} (commands : CommandsOf C F) (tells : Tells S Y K T) (net : SoloNet C S Y K T F)
    (at : Placed the_law (SoloNetStands commands tells net)) where
  abbrev s : SoloState
  s = at.state

  abbrev stands : SoloNetStands commands tells net s
  stands = at.stands

  centre : Stands solo (opened at.opening.devices) s
  centre = reached-stands solo-lawful openings at.opening s at.reached

  pub may-now : (p : ℕ) (action : Action) → IsProcess p → IsNoWork action → next_action view (process p) (s.histories p) ≡ Some action
      → MayCall s p (call p action) → SoloMayPerform net.shared p action
  may-now p action one no_work next may =
      may-perform (opened at.opening.devices) s centre net.shared stands.shared.six p one stands.cards_live stands.keys_live stands.console_live
      stands.paper_live action no_work next may

  -- what an event keeps
  pub keeps-so : (event : SoloEvent) (behind : SoloNet C S Y K T F) → IsEnabled solo s event → EntrySuits view (process event.process) event.entry
      → SoloHasCauses tells net.shared.units behind.shared.units (action_of event.entry) (solo_reply_of event.entry)
      → FilesCause commands.faults net.shared.units.files behind.shared.units.files (action_of event.entry) (solo_reply_of event.entry)
      → behind.first_files ≡ net.first_files → SoloNetStands commands tells behind (next_state s event) → KeepsSo commands tells net behind
  keeps-so event behind enabled suits causes files first now = record {
    counted = λ before were.
        subst (AreCounted (solo_counts_of tells commands.faults) before (devices_of behind.shared.units)) (sym (outcomes-are commands tells behind
        (next_state s event) now))
        (counted tells commands.faults net.shared.units behind.shared.units s event enabled suits causes files before
        (subst (AreCounted (solo_counts_of tells commands.faults) before (devices_of net.shared.units)) (outcomes-are commands tells net s stands) were));
    cards_total = elim (cards-or-not (action_of event.entry)) as
        (λ _. total_of tells.cards behind.shared.units.cards ≡ total_of tells.cards net.shared.units.cards) [
          | inl is ↦ (causes.reads is).total
          | inr not ↦ ap (total_of tells.cards) (causes.cards_stay not)
        ];
    keys_total = elim (keys-or-not (action_of event.entry)) as (λ _. total_of tells.keys behind.shared.units.typewriter.keys
        ≡ total_of tells.keys net.shared.units.typewriter.keys) [
          | inl is ↦ (causes.accepts is).total
          | inr not ↦ ap (total_of tells.keys) (causes.keys_stay not)
        ];
    first_files = first;
  }

  -- ---- no piece of work
  module _ (p : ℕ) (one : IsProcess p) (action : Action) (no_work : IsNoWork action)
      (next : next_action view (process p) (s.histories p) ≡ Some action) (may : MayCall s p (call p action)) (new : Shared S Y K T F)
      (entry : SoloEntry) (same : action_of entry ≡ action) (suits : EntrySuits view (process p) entry)
      (enters : SoloEnters tells net.shared new p action entry) where
    abbrev event : SoloEvent
    event = record { process = p; entry = entry; gained = enters.gained }

    abbrev made : Action
    made = action_of entry

    abbrev own : SoloEnters tells net.shared new p made entry
    own = record {
      gained = enters.gained;
      fits = subst (λ a. (s : SoloState) → SoloSharedStands tells net.shared s.devices s.buffers → Fits mark s (call p a) (went view entry))
          (sym same) enters.fits;
      allowed = enters.allowed;
      after = subst (λ a. (devices : Devices) (buffers : ℕ → Buffer Parcel) → SoloSharedStands tells net.shared devices buffers
          → SoloSharedStands tells new (given devices entry enters.gained) (buffers_after mark (call p a) p (went view entry) buffers)) (sym same) enters.after;
      work = enters.work;
      causes = subst (λ a. SoloHasCauses tells net.shared.units new.units a (solo_reply_of entry)) (sym same) enters.causes;
      files = enters.files;
    }

    next-made : next_action view (process p) (s.histories p) ≡ Some made
    next-made = next ∙ ap Some (sym same)

    made-no_work : IsNoWork made
    made-no_work = subst IsNoWork (sym same) no_work

    owned : Owned p made
    owned = next-owned p (s.histories p) made one next-made

    the-event : IsEvent tells new s event
    the-event =
        is-event tells new s p one entry enters.gained next-made suits (subst (λ a. MayCall s p (call p a)) (sym same) may)
        (own.fits s stands.shared) (own.allowed s.devices s.buffers stands.shared) (own.after s.devices s.buffers stands.shared)

    -- the history of the process whose device is used
    own-free : (n : ℕ) → p ≡ n → caused view (process n) ((next_state s event).histories n) ≡ None → IsFree (process p) entry (s.histories p)
    own-free n is none =
        free-of (process p) entry (s.histories p)
        (ap (caused view (process p)) (sym (set-same s.histories p (entry ∷ s.histories p)))
        ∙ subst (λ m. caused view (process m) ((next_state s event).histories m) ≡ None) (sym is) none)

    own-none : (n : ℕ) → p ≡ n → caused view (process n) ((next_state s event).histories n) ≡ None → caused view (process p) (entry ∷ s.histories p) ≡ None
    own-none n is none =
        ap (caused view (process p)) (sym (set-same s.histories p (entry ∷ s.histories p)))
        ∙ subst (λ m. caused view (process m) ((next_state s event).histories m) ≡ None) (sym is) none

    cards-live : caused view the_input ((next_state s event).histories 1) ≡ None → new.units.cards.live ≡ true
    cards-live none =
        elim (cards-or-not made) as (λ _. new.units.cards.live ≡ true) [
          | inl is ↦
              let free = own-free 1 (subst (Owned p) is owned) none in (own.causes.reads is).live free.no_failed free.no_limit
          | inr not ↦ ap (λ (h : Held S). h.live) (own.causes.cards_stay not) ∙ stands.cards_live (free-before s event 1 none)
        ]

    keys-live : caused view the_job ((next_state s event).histories 2) ≡ None → new.units.typewriter.keys.live ≡ true
    keys-live none =
        elim (keys-or-not made) as (λ _. new.units.typewriter.keys.live ≡ true) [
          | inl is ↦
              let free = own-free 2 (subst (Owned p) is owned) none in (own.causes.accepts is).live free.no_failed free.no_limit
          | inr not ↦ ap (λ (h : Held Y). h.live) (own.causes.keys_stay not) ∙ stands.keys_live (free-before s event 2 none)
        ]

    console-owned : (a : Action) → Displays a → Owned p a → p ≡ 2
    console-owned (act.Display line) shows is = is
    console-owned a shows is = absurd shows

    paper-owned : (a : Action) → SoloPrints a → Owned p a → p ≡ 3
    paper-owned (act.Print line) prints is = is
    paper-owned a prints is = absurd prints

    console-live : caused view the_job ((next_state s event).histories 2) ≡ None → new.units.typewriter.console.live ≡ true
    console-live none =
        elim (displays-or-not made) as (λ _. new.units.typewriter.console.live ≡ true) [
          | inl is ↦ (own.causes.displays is).live (given-done (process p) entry (s.histories p) suits (own-none 2 (console-owned made is owned) none) (inl is))
          | inr not ↦ ap (λ (c : Printing T). c.live) (own.causes.console_stays not) ∙ stands.console_live (free-before s event 2 none)
        ]

    paper-live : caused view the_output ((next_state s event).histories 3) ≡ None → new.units.paper.live ≡ true
    paper-live none =
        elim (prints-or-not made) as (λ _. new.units.paper.live ≡ true) [
          | inl is ↦ (own.causes.prints is).live (given-done (process p) entry (s.histories p) suits (own-none 3 (paper-owned made is owned) none) (inr is))
          | inr not ↦ ap (λ (c : Printing K). c.live) (own.causes.paper_stays not) ∙ stands.paper_live (free-before s event 3 none)
        ]

    same-begun : begun ((next_state s event).histories 2) ≡ begun (s.histories 2)
    same-begun = event-begun s event made-no_work

    same-count : (a b : ℕ) → b ≡ a → a ≤ b
    same-count a b e = omega (arith, e)

    no-failure : (a : Action) → IsNoWork a → (Displays a → ⊥) → (SoloPrints a → ⊥) → view.Fits a act.Failed → ⊥
    no-failure (act.Display line) is shows prints fits = shows tt
    no-failure (act.Print line) is shows prints fits = prints tt
    no-failure (act.Works work) is shows prints fits = is
    no-failure a is shows prints fits = fits

    files-cause : FilesCause commands.faults net.shared.units.files new.units.files made (solo_reply_of entry)
    files-cause = record {
      failed = λ shows prints fits e. absurd (no-failure made made-no_work shows prints fits);
      on = same-count _ _ (ap commands.faults own.files);
    }

    -- where each machine stands for its history behind it
    module _ (input : Machine InputProc) (job : Machine (JobProc C)) (output : Machine OutputProc)
        (input-stands : StandsFor the_input input_at input_at input ((next_state s event).histories 1))
        (job-stands : StandsFor the_job job_at (JobStands commands.awaits) job ((next_state s event).histories 2))
        (output-stands : StandsFor the_output output_at output_at output ((next_state s event).histories 3))
        (kept : job.process.commands ≡ net.job.process.commands) where
      abbrev behind : SoloNet C S Y K T F
      behind = record { input = input; job = job; output = output; shared = new; first_files = net.first_files }

      behind-stands : SoloNetStands commands tells behind (next_state s event)
      behind-stands = record {
        input = input-stands;
        job = job-stands;
        output = output-stands;
        shared = the-event.after;
        cards_live = cards-live;
        keys_live = keys-live;
        console_live = console-live;
        paper_live = paper-live;
        files_sound = λ none. subst commands.sound (sym own.files) (stands.files_sound (free-before s event 2 none));
        works = λ none plan told.
            subst (λ files. commands.plans job.process.commands files plan) (sym own.files)
            (subst (λ c. commands.plans c net.shared.units.files plan) (sym kept)
            (stands.works (free-before s event 2 none) plan (sym (own.work s.devices) ∙ told)));
        led = λ none.
            subst (λ files. commands.follows job.process.commands net.first_files.value (begun ((next_state s event).histories 2)) files) (sym own.files)
            (subst (λ givens. commands.follows job.process.commands net.first_files.value givens net.shared.units.files) (sym same-begun)
            (subst (λ c. commands.follows c net.first_files.value (begun (s.histories 2)) net.shared.units.files) (sym kept)
            (stands.led (free-before s event 2 none))));
        files =
            subst (λ files. AreSome (commands.passes net.first_files.value) (begun ((next_state s event).histories 2)) files
            (caused view the_job ((next_state s event).histories 2))) (sym own.files)
            (subst (λ givens. AreSome (commands.passes net.first_files.value) givens net.shared.units.files
            (caused view the_job ((next_state s event).histories 2))) (sym same-begun)
            (stays-some (commands.passes net.first_files.value) (begun (s.histories 2)) net.shared.units.files (caused view the_job (s.histories 2)) _
            (λ how e. event-keeps s event 2 how e) stands.files));
      }

      pub step-of : (result : Stepped) → result ≡ stepped_so (is_delayed (went view entry)) (is_end (said action)) (is_again s (call p action))
          → law.Steps the_law (SoloNetStands commands tells) (MovesSo commands tells) net behind s p result
      step-of result told = record {
        event = event;
        process_is = refl;
        told = subst (λ a. result ≡ stepped_so (is_delayed (went view entry)) (is_end (said a)) (is_again s (call p a))) (sym same) told
            ∙ goes-so p entry (s.histories p) (is_again s (call p made)) suits next-made
            ∙ ap (λ c. stepped_so (is_delayed (went view entry)) (is_none (next_action view (process p) (entry ∷ s.histories p)))
            (is_again s c)) (sym (calls-so p one made));
        enabled = the-event.enabled;
        stands = behind-stands;
        moves = record {
          causes = own.causes;
          keeps = keeps-so event behind the-event.enabled suits own.causes files-cause refl behind-stands;
        };
      }

  -- ---- each process by its machine
  no-work-but : (p : ℕ) (a : Action) → (p ≡ 2 → ⊥) → Owned p a → IsNoWork a
  no-work-but p (act.Works work) not is = not is
  no-work-but p act.Accept not is = tt
  no-work-but p (act.Display line) not is = tt
  no-work-but p act.ReadCard not is = tt
  no-work-but p (act.Print line) not is = tt
  no-work-but p (act.PutArg b x) not is = tt
  no-work-but p (act.TakeArg b) not is = tt
  no-work-but p (act.PutPage b page) not is = tt
  no-work-but p (act.TakePage b) not is = tt
  no-work-but p (act.Stop b) not is = tt
  no-work-but p (act.Ended how) not is = tt

  pub no-work : (p : ℕ) (a : Action) → IsProcess p → (p ≡ 2 → ⊥) → next_action view (process p) (s.histories p) ≡ Some a → IsNoWork a
  no-work p a one not next = no-work-but p a not (next-owned p (s.histories p) a one next)

  pub may-own : (p : ℕ) (may : MayGo solo s p) → MayCall s p (call p may.action)
  may-own p may = subst (MayCall s p) (calls-so p may.one may.action) may.may

  pub at-input : (m : Machine InputProc) (new : Shared S Y K T F) (result : Stepped) (may : MayGo solo s 1)
      → Steps (StandsFor the_input input_at input_at m) tells net.shared new 1 may.action (s.histories 1) result
      → law.Steps the_law (SoloNetStands commands tells) (MovesSo commands tells) net (record net { input = m; shared = new }) s 1 result
  at-input m new result may st =
      let no = no-work 1 may.action is-1 (λ e. cc) may.next in
      step-of 1 is-1 may.action no may.next (may-own 1 may) new st.entry st.action_is st.stands.tracks.follows.1 st.enters m net.job net.output st.stands
      stands.job stands.output refl result (st.told s stands.shared.six (next-place 1 (s.histories 1) may.action is-1 may.next))

  pub at-output : (m : Machine OutputProc) (new : Shared S Y K T F) (result : Stepped) (may : MayGo solo s 3)
      → Steps (StandsFor the_output output_at output_at m) tells net.shared new 3 may.action (s.histories 3) result
      → law.Steps the_law (SoloNetStands commands tells) (MovesSo commands tells) net (record net { output = m; shared = new }) s 3 result
  at-output m new result may st =
      let no = no-work 3 may.action is-3 (λ e. cc) may.next in
      step-of 3 is-3 may.action no may.next (may-own 3 may) new st.entry st.action_is st.stands.tracks.follows.1 st.enters net.input net.job m stands.input
      stands.job st.stands refl result (st.told s stands.shared.six (next-place 3 (s.histories 3) may.action is-3 may.next))

  pub at-job : (m : Machine (JobProc C)) (new : Shared S Y K T F) (result : Stepped) (may : MayGo solo s 2) → IsNoWork may.action
      → m.process.commands ≡ net.job.process.commands
      → Steps (StandsFor the_job job_at (JobStands commands.awaits) m) tells net.shared new 2 may.action (s.histories 2) result
      → law.Steps the_law (SoloNetStands commands tells) (MovesSo commands tells) net (record net { job = m; shared = new }) s 2 result
  at-job m new result may none kept st =
      step-of 2 is-2 may.action none may.next (may-own 2 may) new st.entry st.action_is st.stands.tracks.follows.1 st.enters net.input m net.output stands.input
      st.stands stands.output kept result (st.told s stands.shared.six (next-place 2 (s.histories 2) may.action is-2 may.next))
