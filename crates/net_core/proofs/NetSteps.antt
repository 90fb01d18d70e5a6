-- A step of one of the machines is a step of the network.
use Rattle.std.proofs.Common.{◌≡◌, ◌≢◌, ℕ, true, List, ◌∷◌, Option, None, Some, refl, sym, ◌∙◌, ap, subst, arith}
use Rattle.solo_base.specs.declared.page.Page.{Page}
use Rattle.solo_devices.specs.declared.card_read.CardRead.{CardRead}
use Rattle.solo_devices.specs.declared.card_read.CardRead.TheVariants as card_read
use Rattle.batch_procs.specs.declared.actions.Action.{Action}
use Rattle.batch_procs.specs.declared.actions.Action.TheVariants as act
use Rattle.batch_procs.specs.declared.actions.Reply.{Reply}
use Rattle.batch_procs.specs.declared.actions.Reply.TheVariants as reply
use Rattle.batch_procs.specs.declared.machine.Machine.{Machine}
use Rattle.batch_procs.specs.declared.card_proc.CardWork.{CardWork}
use Rattle.batch_procs.specs.declared.input_proc.InputWork.{InputWork}
use Rattle.batch_procs.specs.declared.job_proc.JobProcWork.{JobProcWork}
use Rattle.batch_procs.specs.declared.output_proc.OutputWork.{OutputWork}
use Rattle.batch_procs.specs.declared.printer_proc.PrinterWork.{PrinterWork}
use Rattle.batch_procs.specs.History.{Entry, Does, LacksMemory, Delays, action_of}
use Rattle.batch_procs.specs.Fits.{Fits, MayLack}
use Rattle.batch_procs.specs.Causes.{caused, or_new, given_cause}
use Rattle.batch_procs.specs.Machine.{StandsFor}
use Rattle.batch_procs.specs.Process.{Process, IsFitting, Follows, next_action}
use Rattle.batch_procs.specs.Table.{process, card, input, job, output, printer}
use Rattle.batch_procs.proofs.Closing.{or-none}
use Rattle.batch_procs.proofs.Holding.{some-not_none}
use Rattle.network_law.specs.Kept.{Stands}
use Rattle.network_run.specs.declared.stepped.Stepped.{Stepped}
use Rattle.network_run.specs.Law as law
use Rattle.network_law.specs.Acts.{is_delayed}
use Rattle.network_law.specs.Network.{happens}
use Rattle.network_law.specs.Stepping.{MayGo, is_again, stepped_so}
use Rattle.core_law.specs.Core.{call, core, went, CoreState, CoreEvent}
use Rattle.core_law.specs.Ends.{IsProcess}
use Rattle.core_law.specs.Opening.{Opening, first_state}
use Rattle.core_law.specs.TheLaw.{the_law, IsReached}
use Rattle.core_law.proofs.Reached.{Centre, reached-centre}
use Rattle.core_law.proofs.WorkFalls.{work-falls}
use Rattle.core_law.proofs.Acting.{follows-of}
use Rattle.net_core.specs.declared.net.Net.{Net}
use Rattle.net_core.specs.declared.shared.Shared.{Shared}
use Rattle.net_core.specs.Causes.{IsPrint, IsLoad, HasCauses}
use Rattle.net_core.specs.Moves.{MovesBy}
use Rattle.net_core.specs.Shared.{SharedStands, MayPerform}
use Rattle.net_core.specs.Steps.{is_end, reply_of, MayStep, Steps}
use Rattle.net_core.specs.Net.{Keeps, NetStands, StandsWithin, MayStepIn}
use Rattle.net_core.proofs.FaultsCounted.{event-counted}
use Rattle.net_core.proofs.Turning.{has-place, goes-so}
use Rattle.core_law.proofs.Askers.{reads-deck, prints-paper, loads-files}
use Rattle.net_core.proofs.MayPerforming.{may-perform}
use Rattle.core_law.proofs.DeskRoom.{desk-room}
use Rattle.net_core.proofs.Entering.{is-event}
use Rattle.batch_procs.specs.Jobs.{Jobs, AreJobs}
use Rattle.batch_ends.specs.Causes.{Counts}
use Rattle.batch_ends.specs.Devices.{cards_left}
use Rattle.batch_ends.specs.Tells.{Tells}

line-of : (a : Action) → IsPrint a → (line : List ℕ) × (a ≡ act.Print line)
line-of (act.Print line) is = (line, refl)
line-of a is = absurd is

file-of : (a : Action) → IsLoad a → (file : List ℕ) × (a ≡ act.Load file)
file-of (act.Load file) is = (file, refl)
file-of a is = absurd is

pub last-number : (p : ℕ) → IsProcess p → (p ≡ 1 → ⊥) → (p ≡ 2 → ⊥) → (p ≡ 3 → ⊥) → (p ≡ 4 → ⊥) → p ≡ 5
last-number p one a b c d = (let low = one.0 in let high = one.1 in omega (arith, a, b, c, d, low, high))

module _ {L : Type 0} {J : Jobs L} (jobs : AreJobs J) where
  -- ---- what an entry without a cause tells
  abbrev pub IsFailedRead : Option (Reply L) → Type 0
  IsFailedRead (Some (reply.Card card_read.Failed)) = Unit {0}
  IsFailedRead (Some (reply.Card card_read.Limit)) = Unit {0}
  IsFailedRead result = ⊥

  -- the history had no cause before, and the entry is no failed read
  pub record IsFree (entry : Entry L) (h : List (Entry L)) : Type 0 where
    pub before : caused h ≡ None
    pub no_failed : reply_of entry ≢ Some (reply.Card card_read.Failed)
    pub no_limit : reply_of entry ≢ Some (reply.Card card_read.Limit)
    pub no_failure : reply_of entry ≢ Some reply.Failed

  failed-cause : (a : Action) (r : Reply L) (h : List (Entry L)) → caused (Does a r ∷ h) ≡ None → r ≡ reply.Card card_read.Failed → ⊥
  failed-cause a r h none e = some-not_none (caused h) _ (sym (ap (λ r. or_new (caused h) (given_cause a r h)) e) ∙ none)

  limit-cause : (a : Action) (r : Reply L) (h : List (Entry L)) → caused (Does a r ∷ h) ≡ None → r ≡ reply.Card card_read.Limit → ⊥
  limit-cause a r h none e = some-not_none (caused h) _ (sym (ap (λ r. or_new (caused h) (given_cause a r h)) e) ∙ none)

  failure-cause : (a : Action) (r : Reply L) (h : List (Entry L)) → caused (Does a r ∷ h) ≡ None → r ≡ reply.Failed → ⊥
  failure-cause a r h none e = some-not_none (caused h) _ (sym (ap (λ r. or_new (caused h) (given_cause a r h)) e) ∙ none)

  some-reply : (r s : Reply L) → Some r ≡ Some s → r ≡ s
  some-reply r s e = cc

  free-of : (entry : Entry L) (h : List (Entry L)) → caused (entry ∷ h) ≡ None → IsFree entry h
  free-of (Does a r) h none = record {
    before = or-none (caused h) (given_cause a r h) none;
    no_failed = λ e. failed-cause a r h none (some-reply r _ e);
    no_limit = λ e. limit-cause a r h none (some-reply r _ e);
    no_failure = λ e. failure-cause a r h none (some-reply r _ e);
  }
  free-of (LacksMemory a r) h none = absurd (some-not_none (caused h) _ none)
  free-of (Delays a) h none = record { before = none; no_failed = λ e. cc; no_limit = λ e. cc; no_failure = λ e. cc }

  -- another process reads no card
  card-fits : (a : Action) (answer : CardRead) → Fits J a (reply.Card answer) → a ≡ act.ReadCard
  card-fits act.ReadCard answer fits = refl
  card-fits a answer fits = absurd fits

  lack-card : (a : Action) (answer : CardRead) → MayLack {L = L} a (reply.Card answer) → ⊥
  lack-card act.TakePage answer may = may
  lack-card act.Local answer may = may
  lack-card a answer may = may

  reads-nothing : (p : Process L) (entry : Entry L) (answer : CardRead) → IsFitting J p entry → (action_of entry ≡ act.ReadCard → ⊥)
      → reply_of entry ≡ Some (reply.Card answer) → ⊥
  reads-nothing p (Does a r) answer fits not e = not (card-fits a answer (subst (Fits J a) (some-reply r (reply.Card answer) e) fits))
  reads-nothing p (LacksMemory a r) answer fits not e = lack-card a answer (subst (MayLack a) (some-reply r (reply.Card answer) e) fits.1)
  reads-nothing p (Delays a) answer fits not e = cc

  -- a print without a cause is done
  print-done : (p : Process L) (entry : Entry L) (h : List (Entry L)) → IsFitting J p entry → caused (entry ∷ h) ≡ None
      → IsPrint (action_of entry)
      → reply_of entry ≡ Some reply.Done
  print-done p (Does (act.Print line) reply.Done) h fits none is = refl
  print-done p (Does (act.Print line) reply.Failed) h fits none is = absurd (some-not_none (caused h) _ none)
  print-done p (Does (act.Print line) reply.NoMemory) h fits none is = absurd (some-not_none (caused h) _ none)
  print-done p (Does (act.Print line) r) h fits none is = absurd fits
  print-done p (Does a r) h fits none is = absurd is
  print-done p (LacksMemory a r) h fits none is = absurd (some-not_none (caused h) _ none)
  print-done p (Delays (act.Print line)) h fits none is = absurd fits
  print-done p (Delays a) h fits none is = absurd is

  -- ---- one step
  -- an event of the process, from one network to the next
  abbrev pub GoesOn : {X S K F A B : Type 0} → Keeps L X → Tells L S K F A B → Counts S K F A B → Net X S K F A B → Net X S K F A B → CoreState L → ℕ → Stepped
      → Type 0
  GoesOn keeps tells counts old new s p result = law.Steps (the_law J) (StandsWithin J keeps tells) (MovesBy J keeps tells counts) old new s p result

  module _ {X S K F A B : Type 0} (keeps : Keeps L X) (tells : Tells L S K F A B) (counts : Counts S K F A B) (net : Net X S K F A B) (o : Opening J)
      (s : CoreState L)
      (reached : IsReached o s) (stood : StandsWithin J keeps tells net s) where
    abbrev stands : NetStands J keeps tells net s
    stands = stood.is

    abbrev centre : Centre jobs (first_state o) s
    centre = reached-centre jobs o s reached

    follows : (p : ℕ) → Follows J (process J p) (s.histories p)
    follows p = follows-of jobs (process J) p (s.histories p) (centre.stands.follows p)

    pub may-now : (p : ℕ) (action : Action) → MayStepIn J s p action → MayPerform tells net.shared p action
    may-now p action step =
        may-perform jobs tells (first_state o) s centre.stands net.shared stands.shared p step.one stands.deck_live stands.paper_live
        stands.files_sound
        (desk-room jobs (first_state o) s centre.stands) action step.next step.may

    -- ---- the devices after it
    module _ (p : ℕ) (action : Action) (step : MayStepIn J s p action) (new : Shared X S K F A B) (entry : Entry L) (same : action_of entry ≡ action)
        (suits : IsFitting J (process J p) entry) (causes : HasCauses tells counts net.shared new p action (reply_of entry)) where
      pub deck-own : p ≡ 1 → caused (entry ∷ s.histories p) ≡ None → new.deck.live ≡ true
      deck-own is none =
          let free = free-of entry (s.histories p) none in
          causes.deck_live (stands.deck_live (subst (λ q. caused (s.histories q) ≡ None) is free.before)) free.no_failed free.no_limit

      pub deck-other : (p ≡ 1 → ⊥) → caused (s.histories 1) ≡ None → new.deck.live ≡ true
      deck-other not none =
          let no_read : action_of entry ≡ act.ReadCard → ⊥ = λ e. not (reads-deck jobs p (s.histories p) (step.next ∙ ap Some (sym same ∙ e))) in
          causes.deck_live (stands.deck_live none) (reads-nothing (process J p) entry card_read.Failed suits no_read)
          (reads-nothing (process J p) entry card_read.Limit suits no_read)

      before-free : caused (entry ∷ s.histories p) ≡ None → caused (s.histories p) ≡ None
      before-free none = (free-of entry (s.histories p) none).before

      pub paper-own : p ≡ 5 → caused (entry ∷ s.histories p) ≡ None → new.paper.live ≡ true
      paper-own is none =
          causes.paper_live (stands.paper_live (subst (λ q. caused (s.histories q) ≡ None) is (before-free none)))
          (λ print. print-done (process J p) entry (s.histories p) suits none (subst IsPrint (sym same) print))

      pub paper-other : (p ≡ 5 → ⊥) → caused (s.histories 5) ≡ None → new.paper.live ≡ true
      paper-other not none =
          causes.paper_live (stands.paper_live none)
          (λ print. (let (line, is) = line-of action print in absurd
          (not (prints-paper jobs p (s.histories p) line step.one (follows p) (step.next ∙ ap Some is)))))

      pub files-own : p ≡ 3 → caused (entry ∷ s.histories p) ≡ None → tells.sound new.files
      files-own is none =
          causes.files_sound (stands.files_sound (subst (λ q. caused (s.histories q) ≡ None) is (before-free none)))
          (λ load. (free-of entry (s.histories p) none).no_failure)

      pub files-other : (p ≡ 3 → ⊥) → caused (s.histories 3) ≡ None → tells.sound new.files
      files-other not none =
          causes.files_sound (stands.files_sound none)
          (λ load. (let (file, is) = file-of action load in absurd
          (not (loads-files jobs p (s.histories p) file step.one (follows p) (step.next ∙ ap Some is)))))

    -- ---- by the machine
    card-stands : (m : Machine X CardWork) (new : Shared X S K F A B) (room : Page) (action : Action) (entry : Entry L) (gained : List ℕ)
        → StandsFor J card keeps.card m (entry ∷ s.histories 1) → MayStepIn J s 1 action → action_of entry ≡ action
        → HasCauses tells counts net.shared new 1 action (reply_of entry)
        → SharedStands tells new (happens (core J (process J)) s record {
          process =
              1;
          entry =
              entry;
          gained =
              gained;
        }) → NetStands J keeps tells (record net {
          card =
              m;
          shared = new;
          room = room;
        }) (happens (core J (process J)) s record { process = 1; entry = entry; gained = gained })
    card-stands m new room action entry gained st step same causes shared = record {
      card = st;
      input = stands.input;
      job = stands.job;
      output = stands.output;
      printer = stands.printer;
      shared = shared;
      deck_live = deck-own 1 action step new entry same st.follows.1 causes refl;
      paper_live = paper-other 1 action step new entry same st.follows.1 causes (λ e. cc);
      files_sound = files-other 1 action step new entry same st.follows.1 causes (λ e. cc);
    }

    input-stands : (m : Machine X InputWork) (new : Shared X S K F A B) (room : Page) (action : Action) (entry : Entry L) (gained : List ℕ)
        → StandsFor J input keeps.input m (entry ∷ s.histories 2) → MayStepIn J s 2 action → action_of entry ≡ action
        → HasCauses tells counts net.shared new 2 action (reply_of entry)
        → SharedStands tells new (happens (core J (process J)) s record {
          process =
              2;
          entry =
              entry;
          gained =
              gained;
        }) → NetStands J keeps tells (record net {
          input =
              m;
          shared = new;
          room = room;
        }) (happens (core J (process J)) s record { process = 2; entry = entry; gained = gained })
    input-stands m new room action entry gained st step same causes shared = record {
      card = stands.card;
      input = st;
      job = stands.job;
      output = stands.output;
      printer = stands.printer;
      shared = shared;
      deck_live = deck-other 2 action step new entry same st.follows.1 causes (λ e. cc);
      paper_live = paper-other 2 action step new entry same st.follows.1 causes (λ e. cc);
      files_sound = files-other 2 action step new entry same st.follows.1 causes (λ e. cc);
    }

    job-stands : (m : Machine X (JobProcWork X)) (new : Shared X S K F A B) (room : Page) (action : Action) (entry : Entry L) (gained : List ℕ)
        → StandsFor J (job J) keeps.job m (entry ∷ s.histories 3) → MayStepIn J s 3 action → action_of entry ≡ action
        → HasCauses tells counts net.shared new 3 action (reply_of entry)
        → SharedStands tells new (happens (core J (process J)) s record {
          process =
              3;
          entry =
              entry;
          gained =
              gained;
        }) → NetStands J keeps tells (record net {
          job =
              m;
          shared = new;
          room = room;
        }) (happens (core J (process J)) s record { process = 3; entry = entry; gained = gained })
    job-stands m new room action entry gained st step same causes shared = record {
      card = stands.card;
      input = stands.input;
      job = st;
      output = stands.output;
      printer = stands.printer;
      shared = shared;
      deck_live = deck-other 3 action step new entry same st.follows.1 causes (λ e. cc);
      paper_live = paper-other 3 action step new entry same st.follows.1 causes (λ e. cc);
      files_sound = files-own 3 action step new entry same st.follows.1 causes refl;
    }

    output-stands : (m : Machine X OutputWork) (new : Shared X S K F A B) (room : Page) (action : Action) (entry : Entry L) (gained : List ℕ)
        → StandsFor J output keeps.output m (entry ∷ s.histories 4) → MayStepIn J s 4 action → action_of entry ≡ action
        → HasCauses tells counts net.shared new 4 action (reply_of entry)
        → SharedStands tells new (happens (core J (process J)) s record {
          process =
              4;
          entry =
              entry;
          gained =
              gained;
        }) → NetStands J keeps tells (record net {
          output =
              m;
          shared = new;
          room = room;
        }) (happens (core J (process J)) s record { process = 4; entry = entry; gained = gained })
    output-stands m new room action entry gained st step same causes shared = record {
      card = stands.card;
      input = stands.input;
      job = stands.job;
      output = st;
      printer = stands.printer;
      shared = shared;
      deck_live = deck-other 4 action step new entry same st.follows.1 causes (λ e. cc);
      paper_live = paper-other 4 action step new entry same st.follows.1 causes (λ e. cc);
      files_sound = files-other 4 action step new entry same st.follows.1 causes (λ e. cc);
    }

    printer-stands : (m : Machine X PrinterWork) (new : Shared X S K F A B) (room : Page) (action : Action) (entry : Entry L) (gained : List ℕ)
        → StandsFor J printer keeps.printer m (entry ∷ s.histories 5) → MayStepIn J s 5 action → action_of entry ≡ action
        → HasCauses tells counts net.shared new 5 action (reply_of entry)
        → SharedStands tells new (happens (core J (process J)) s record {
          process =
              5;
          entry =
              entry;
          gained =
              gained;
        }) → NetStands J keeps tells (record net {
          printer =
              m;
          shared = new;
          room = room;
        }) (happens (core J (process J)) s record { process = 5; entry = entry; gained = gained })
    printer-stands m new room action entry gained st step same causes shared = record {
      card = stands.card;
      input = stands.input;
      job = stands.job;
      output = stands.output;
      printer = st;
      shared = shared;
      deck_live = deck-other 5 action step new entry same st.follows.1 causes (λ e. cc);
      paper_live = paper-own 5 action step new entry same st.follows.1 causes refl;
      files_sound = files-other 5 action step new entry same st.follows.1 causes (λ e. cc);
    }

    -- A step of one machine is a step of the network that this machine and what is shared make of it.
    step-of : (p : ℕ) (next : Net X S K F A B) (Stands : List (Entry L) → Type 0) (action : Action) (result : Stepped) → MayStepIn J s p action
        → (st : Steps Stands tells counts net.shared next.shared p action (s.histories p) result) → IsFitting J (process J p) st.entry
        → ((gained : List ℕ) → SharedStands tells next.shared
        (happens (core J (process J)) s record { process = p; entry = st.entry; gained = gained })
        → NetStands J keeps tells next (happens (core J (process J)) s record { process = p; entry = st.entry; gained = gained }))
        → GoesOn keeps tells counts net next s p result
    step-of p next Stands action result step st suits stand =
        let is = is-event jobs tells net.shared next.shared s stands.shared p step.one action step.next step.may st.entry st.action_is suits st.enters in
        let event : CoreEvent L = record { process = p; entry = st.entry; gained = is.gained } in
        let causes = subst (λ a. HasCauses tells counts net.shared next.shared p a (reply_of st.entry)) (sym st.action_is) st.causes in
        let left = work-falls jobs o s event (cards_left tells.taken net.shared.deck)
        (cards_left tells.taken next.shared.deck) reached is.enabled st.enters.deck in
        let most = stood.within in
        let now = stand is.gained is.after in
        let told = st.told s stands.shared (has-place jobs tells net.shared o s reached stands.shared p step.one action step.next) in
        record {
          event = event;
          process_is = refl;
          told = subst (λ a. result ≡ stepped_so (is_delayed (went st.entry)) (is_end a) (is_again s (call p a))) (sym st.action_is) told
              ∙ goes-so jobs (process J p) st.entry (s.histories p) (is_again s (call p (action_of st.entry)));
          enabled = is.enabled;
          stands = record { is = now; within = omega (arith, left, most) };
          moves = record {
            causes = causes;
            deck = st.enters.deck;
            all = record {
              counted = event-counted jobs keeps tells counts net next o s event reached stands is.enabled now causes;
              total = st.enters.total;
              files = st.enters.files;
            };
          };
        }

    pub at-card : (m : Machine X CardWork) (new : Shared X S K F A B) (room : Page) (action : Action) (result : Stepped) → MayStepIn J s 1 action
        → Steps (StandsFor J card keeps.card m) tells counts net.shared new 1 action (s.histories 1) result
        → GoesOn keeps tells counts net (record net { card = m; shared = new; room = room }) s 1 result
    at-card m new room action result step st =
        step-of 1 (record net { card = m; shared = new; room = room }) (StandsFor J card keeps.card m) action result step st st.stands.follows.1
        (λ gained shared. card-stands m new room action st.entry gained st.stands step st.action_is st.causes shared)

    pub at-input : (m : Machine X InputWork) (new : Shared X S K F A B) (room : Page) (action : Action) (result : Stepped) → MayStepIn J s 2 action
        → Steps (StandsFor J input keeps.input m) tells counts net.shared new 2 action (s.histories 2) result
        → GoesOn keeps tells counts net (record net { input = m; shared = new; room = room }) s 2 result
    at-input m new room action result step st =
        step-of 2 (record net { input = m; shared = new; room = room }) (StandsFor J input keeps.input m) action result step st st.stands.follows.1
        (λ gained shared. input-stands m new room action st.entry gained st.stands step st.action_is st.causes shared)

    pub at-job : (m : Machine X (JobProcWork X)) (new : Shared X S K F A B) (room : Page) (action : Action) (result : Stepped) → MayStepIn J s 3 action
        → Steps (StandsFor J (job J) keeps.job m) tells counts net.shared new 3 action (s.histories 3) result
        → GoesOn keeps tells counts net (record net { job = m; shared = new; room = room }) s 3 result
    at-job m new room action result step st =
        step-of 3 (record net { job = m; shared = new; room = room }) (StandsFor J (job J) keeps.job m) action result step st st.stands.follows.1
        (λ gained shared. job-stands m new room action st.entry gained st.stands step st.action_is st.causes shared)

    pub at-output : (m : Machine X OutputWork) (new : Shared X S K F A B) (room : Page) (action : Action) (result : Stepped) → MayStepIn J s 4 action
        → Steps (StandsFor J output keeps.output m) tells counts net.shared new 4 action (s.histories 4) result
        → GoesOn keeps tells counts net (record net { output = m; shared = new; room = room }) s 4 result
    at-output m new room action result step st =
        step-of 4 (record net { output = m; shared = new; room = room }) (StandsFor J output keeps.output m) action result step st st.stands.follows.1
        (λ gained shared. output-stands m new room action st.entry gained st.stands step st.action_is st.causes shared)

    pub at-printer : (m : Machine X PrinterWork) (new : Shared X S K F A B) (room : Page) (action : Action) (result : Stepped) → MayStepIn J s 5 action
        → Steps (StandsFor J printer keeps.printer m) tells counts net.shared new 5 action (s.histories 5) result
        → GoesOn keeps tells counts net (record net { printer = m; shared = new; room = room }) s 5 result
    at-printer m new room action result step st =
        step-of 5 (record net { printer = m; shared = new; room = room }) (StandsFor J printer keeps.printer m) action result step st st.stands.follows.1
        (λ gained shared. printer-stands m new room action st.entry gained st.stands step st.action_is st.causes shared)

  -- ---- by the number
  pub next-at : (s : CoreState L) (p q : ℕ) (action : Action) → p ≡ q → MayStepIn J s p action → next_action (process J q) (s.histories q)
      ≡ Some action
  next-at s p q action e step = subst (λ q. next_action (process J q) (s.histories q) ≡ Some action) e step.next

  pub in-step : (s : CoreState L) (p : ℕ) (may : MayGo (core J (process J)) s p) → MayStepIn J s p may.action
  in-step s p may = record { one = may.one; next = may.next; may = may.may }

  -- that a machine may step
  pub may-step : {X S K F A B : Type 0} (keeps : Keeps L X) (tells : Tells L S K F A B) (net : Net X S K F A B) (p q : ℕ) (Stands : List (Entry L) → Type 0)
      → p ≡ q
      → (m : law.MayStep (the_law J) (StandsWithin J keeps tells net) p) → Stands (m.at.state.histories q)
      → MayStep tells (process J q) Stands net.shared p
  may-step keeps tells net p q Stands e m stands = record {
    history = m.at.state.histories q;
    action = m.may.action;
    stands = stands;
    next = next-at m.at.state p q m.may.action e (in-step m.at.state p m.may);
    may =
        may-now keeps tells record {
          read_faults = λ x. 0;
          taken = λ x. 0;
          print_faults = λ x. 0;
          input_faults = λ x. 0;
          output_faults = λ x. 0;
          file_faults = λ x. 0;
        } net m.at.opening m.at.state m.at.reached m.at.stands p m.may.action (in-step m.at.state p m.may);
  }

  pub steps-at : {X S K F A B : Type 0} (keeps : Keeps L X) (tells : Tells L S K F A B) (counts : Counts S K F A B) (old new : Net X S K F A B)
      (s : CoreState L)
      (Stands : List (Entry L)
      → Type 0) (p q : ℕ) (action : Action) (result : Stepped) (h : List (Entry L)) → p ≡ q
      → (MayStepIn J s q action → Steps Stands tells counts old.shared new.shared q action h result → GoesOn keeps tells counts old new s q result)
      → MayStepIn J s p action → Steps Stands tells counts old.shared new.shared p action h result → GoesOn keeps tells counts old new s p result
  steps-at keeps tells counts old new s Stands p q action result h e each =
      subst (λ p. MayStepIn J s p action → Steps Stands tells counts old.shared new.shared p action h result
      → GoesOn keeps tells counts old new s p result) (sym e) each
