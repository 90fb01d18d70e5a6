-- A step of one of the six is an event of the network, and the network stands for the state behind it.
use Rattle.std.proofs.Common.{◌≡◌, ◌↔◌, ◌≤◌, ◌<◌, ◌||◌, ℕ, Bool, true, false, List, ◌∷◌, None, Some, refl, sym, ◌∙◌, ap, subst, arith}
use Rattle.std.specs.Prelude.{IsTrue, is_none}
use Rattle.solo_base.specs.declared.page.Page.{Page}
use Rattle.solo_devices.specs.declared.card_read.CardRead.TheVariants as read
use Rattle.batch_procs.specs.declared.actions.Reply.{Reply}
use Rattle.batch_procs.specs.Jobs.{Jobs, AreJobs}
use Rattle.batch_procs.specs.JobTold.{JobTold}
use Rattle.batch_procs.specs.Parcels.{is_last}
use Rattle.batch_ends.specs.Devices.{cards_left}
use Rattle.place_law.specs.Process.{Does, LacksMemory, Delays, action_of}
use Rattle.network_run.specs.declared.stepped.Stepped.{Stepped}
use Rattle.network_run.specs.Law as law
use Rattle.network_run.specs.Runs.{most_events}
use Rattle.network_law.specs.Acts.{is_delayed}
use Rattle.network_law.specs.Network.{MayCall, IsEnabled, happens, set}
use Rattle.network_law.specs.Network as network
use Rattle.network_law.specs.Stepping.{MayGo, is_again, stepped_so, goes}
use Rattle.twin_law.specs.Process.{Action, TakePage, Local, Entry, Process, is_end, has_ended, next_by, closing, unless_ended, caused, next_action}
use Rattle.twin_law.specs.Sides.{A, B}
use Rattle.twin_law.specs.Ends.{card, printer}
use Rattle.twin_law.specs.Input.{input}
use Rattle.twin_law.specs.Job.{job}
use Rattle.twin_law.specs.Output.{output}
use Rattle.twin_law.specs.Table.{process}
use Rattle.twin_law.specs.Twin.{call, went, MayLack, Suits, twin, TwinState, TwinEvent, IsProcess}
use Rattle.twin_law.specs.Opening.{Opening}
use Rattle.twin_law.specs.TheLaw.{the_law, IsReached, first_state}
use Rattle.twin_law.specs.Left.{DrawsFrom}
use Rattle.twin_law.proofs.Devices.{reached-centre}
use Rattle.twin_law.proofs.LeavesFewer.{leaves-fewer}
use Rattle.twin_ends.specs.TwinTells.{TwinTells, TwinCounts}
use Rattle.twin_procs.specs.declared.machine.TwinMachine.{TwinMachine}
use Rattle.twin_procs.specs.declared.card_proc.CardProc.{CardProc}
use Rattle.twin_procs.specs.declared.input_proc.InputProc.{InputProc}
use Rattle.twin_procs.specs.declared.job_proc.JobProc.{JobProc}
use Rattle.twin_procs.specs.declared.output_proc.OutputProc.{OutputProc}
use Rattle.twin_procs.specs.declared.printer_proc.PrinterProc.{PrinterProc}
use Rattle.twin_procs.specs.declared.sides.SideA.{SideA}
use Rattle.twin_procs.specs.declared.sides.SideB.{SideB}
use Rattle.twin_procs.specs.Machine.{StandsFor}
use Rattle.twin_procs.specs.Standing.{InputStands}
use Rattle.twin_procs.specs.Job.{job_stands}
use Rattle.twin_procs.specs.Output.{OutputStands}
use Rattle.twin_net.specs.declared.net.TwinNet.{TwinNet}
use Rattle.twin_net.specs.declared.shared.TwinShared.{TwinShared}
use Rattle.twin_net.specs.TwinStands.{TwinStands, cards_total}
use Rattle.twin_net.specs.Causes.{TwinCauses}
use Rattle.twin_net.specs.Doing.{MayLoad, IsPrint}
use Rattle.twin_net.specs.Turns.{TwinHasPlace, TwinIsAtTurn}
use Rattle.twin_net.specs.Steps.{twin_reply_of, TwinMayStep, TwinSteps}
use Rattle.twin_net.specs.Net.{card_at, printer_at, TwinNetStands, TwinStandsWithin, TwinMayGo, TwinMoves}
use Rattle.twin_net.proofs.MayDoing.{has-place, may-do}
use Rattle.twin_net.proofs.EventsCounted.{event-counted}
use Rattle.twin_net.proofs.Owners.{prints-not, reads-nothing, free-before, no-failed, no-limit, print-done}

pub last-number : (p : ℕ) → IsProcess p → (p ≡ 1 → ⊥) → (p ≡ 2 → ⊥) → (p ≡ 3 → ⊥) → (p ≡ 4 → ⊥) → (p ≡ 5 → ⊥) → p ≡ 6
last-number p one a b c d e = (let low = one.0 in let high = one.1 in omega (arith, a, b, c, d, e, low, high))

pub no-other : (p : ℕ) → IsProcess p → (p ≡ 1 → ⊥) → (p ≡ 2 → ⊥) → (p ≡ 3 → ⊥) → (p ≡ 4 → ⊥) → (p ≡ 5 → ⊥) → (p ≡ 6 → ⊥) → ⊥
no-other p one a b c d e f = (let low = one.0 in let high = one.1 in omega (arith, a, b, c, d, e, f, low, high))

below-most : (left now most : ℕ) → left < now → now ≤ most → left ≤ most
below-most left now most less few = omega (arith, less, few)

-- ---- whether an event ends its process
none-unless : (t : Bool) (a : Action) → is_none (unless_ended t a) ≡ t
none-unless true a = refl
none-unless false a = refl

or-first : (t u : Bool) → u ≡ false → (t || u) ≡ t
or-first true u e = refl
or-first false u e = e

still-there : (t : Bool) (a b : Action) → unless_ended t a ≡ Some b → t ≡ false
still-there true a b e = absurd cc
still-there false a b e = refl

lacks-not_end : {L : Type 0} (a : Action) (r : Reply L) → MayLack a r → is_end a ≡ false
lacks-not_end (TakePage b) r lacks = refl
lacks-not_end Local r lacks = refl
lacks-not_end a r lacks = absurd lacks

goes-so : {L : Type 0} (J : Jobs L) (p : Process L) (entry : Entry L) (h : List (Entry L)) (again : Bool) → has_ended h ≡ false → Suits J p entry
    → stepped_so (is_delayed (went entry)) (is_end (action_of entry)) again ≡ stepped_so (is_delayed (went entry)) (is_none (next_action p (entry ∷ h))) again
goes-so J p (Does a r) h again on suits =
    ap (λ ends. stepped_so (is_delayed (went (Does a r))) ends again)
    (sym (none-unless (has_ended (Does a r ∷ h)) (next_by p (closing p (Does a r ∷ h)) (Does a r ∷ h)) ∙ or-first (is_end a) (has_ended h) on))
goes-so J p (LacksMemory a r) h again on suits =
    ap (λ ends. stepped_so (is_delayed (went (LacksMemory a r))) ends again)
    (lacks-not_end a r suits.1 ∙ sym (none-unless (has_ended (LacksMemory a r ∷ h)) (next_by p (closing p (LacksMemory a r ∷ h)) (LacksMemory a r ∷ h)) ∙ on))
goes-so J p (Delays a) h again on suits = refl

module _ {L : Type 0} (J : Jobs L) where
  -- ---- by the number
  pub in-step : (s : TwinState L) (p : ℕ) (may : MayGo (twin J) s p) → TwinMayGo J s p may.action
  in-step s p may = record { one = may.one; next = may.next; may = may.may }

  pub next-at : (s : TwinState L) (p q : ℕ) (action : Action) → p ≡ q → TwinMayGo J s p action → next_action (process J q) (s.histories q) ≡ Some action
  next-at s p q action e step = subst (λ q. next_action (process J q) (s.histories q) ≡ Some action) e step.next

module _ {L X S K F P : Type 0} {J : Jobs L} (jobs : AreJobs J) (keeps : X → JobTold L → Type 0) (tells : TwinTells L S K F P)
    (counts : TwinCounts S K F P) where
  -- an event of the process, from one network to the next
  abbrev pub GoesOn : TwinNet X S K F P → TwinNet X S K F P → TwinState L → ℕ → Stepped → Type 0
  GoesOn old new s p result = law.Steps (the_law J) (TwinStandsWithin J keeps tells) (TwinMoves tells counts) old new s p result

  module _ (net : TwinNet X S K F P) (o : Opening J) (s : TwinState L) (reached : IsReached o s) (stood : TwinStandsWithin J keeps tells net s) where
    abbrev stands : TwinNetStands J keeps tells net s
    stands = stood.is

    module _ (p : ℕ) (action : Action) (may : TwinMayGo J s p action) (Stands : List (Entry L) → Type 0) (new : TwinShared X S K F P) (result : Stepped)
        (st : TwinSteps J (process J p) Stands tells counts net.shared new p action (s.histories p) result) where
      abbrev pub event : TwinEvent L
      event = record { process = p; entry = st.entry; gained = st.enters.gained }

      abbrev pub after : TwinState L
      after = happens (twin J) s event

      next-is : next_action (process J p) (s.histories p) ≡ Some (action_of st.entry)
      next-is = may.next ∙ ap Some (sym st.action_is)

      enabled : IsEnabled (twin J) s event
      enabled = record {
        one = may.one;
        next = next-is;
        may = subst (λ a. MayCall s p (call p a)) (sym st.action_is) may.may;
        suits = st.suits;
        fits = subst (λ a. network.Fits is_last s (call p a) (went st.entry)) (sym st.action_is) (st.enters.fits s stands.shared);
        allowed = st.enters.allowed s stands.shared;
      }

      pub shared-after : TwinStands tells new after
      shared-after =
          subst (λ a. TwinStands tells new record {
            devices = after.devices;
            histories = after.histories;
            buffers = network.buffers_after is_last (call p a) p (went st.entry) s.buffers;
            desk = network.desk_after (call p a) p (went st.entry) s.desk;
          }) (sym st.action_is) (st.enters.after s (set s.histories p (st.entry ∷ s.histories p)) stands.shared)

      told : result ≡ goes (twin J) s event
      told =
          st.told s stands.shared (has-place J (first_state o) s (reached-centre J o s reached).stands p may.one action may.next)
          ∙ ap (λ a. stepped_so (is_delayed (went st.entry)) (is_end a) (is_again s (call p a))) (sym st.action_is)
          ∙ goes-so J (process J p) st.entry (s.histories p) (is_again s (call p (action_of st.entry)))
          (still-there (has_ended (s.histories p)) (next_by (process J p) (closing (process J p) (s.histories p)) (s.histories p)) action may.next) st.suits

      pub goes-on : (behind : TwinNet X S K F P) → behind.shared ≡ new → TwinNetStands J keeps tells behind after → GoesOn net behind s p result
      goes-on behind is there =
          let draws = subst (λ (shared : TwinShared X S K F P). DrawsFrom st.entry (cards_left tells.taken net.shared.deck)
          (cards_left tells.taken shared.deck)) (sym is) st.enters.deck in
          let causes = subst (λ (shared : TwinShared X S K F P). TwinCauses counts net.shared shared (action_of st.entry) (twin_reply_of st.entry)) (sym is)
          (subst (λ a. TwinCauses counts net.shared new a (twin_reply_of st.entry)) (sym st.action_is) st.causes) in
          let fewer = leaves-fewer jobs o s event (cards_left tells.taken net.shared.deck) (cards_left tells.taken behind.shared.deck) reached enabled draws in
          record {
            event = event;
            process_is = refl;
            told = told;
            enabled = enabled;
            stands = record { is = there; within = below-most _ _ most_events fewer stood.within };
            moves = record {
              causes = causes;
              deck = draws;
              all = record {
                counted = event-counted J keeps tells counts net behind s event stands there enabled causes;
                total = ap (λ (shared : TwinShared X S K F P). cards_total tells shared.deck) is ∙ st.enters.total;
                files = ap (λ (shared : TwinShared X S K F P). tells.file_pages shared.files) is ∙ st.enters.files;
              };
            };
          }

      -- ---- the devices after it
      pub deck-own : p ≡ 1 → caused (process J p) (st.entry ∷ s.histories p) ≡ None → new.deck.live ≡ true
      deck-own is none =
          st.enters.deck_live (stands.deck_live (subst (λ q. caused (process J q) (s.histories q) ≡ None) is
          (free-before J (process J p) st.entry (s.histories p) none)))
          (no-failed J (process J p) st.entry (s.histories p) none) (no-limit J (process J p) st.entry (s.histories p) none)

      pub deck-other : (p ≡ 1 → ⊥) → caused (card {L = L}) (s.histories 1) ≡ None → new.deck.live ≡ true
      deck-other not none =
          st.enters.deck_live (stands.deck_live none) (reads-nothing J p may.one (s.histories p) st.entry read.Failed next-is st.suits not)
          (reads-nothing J p may.one (s.histories p) st.entry read.Limit next-is st.suits not)

      pub paper-own : p ≡ 6 → caused (process J p) (st.entry ∷ s.histories p) ≡ None → new.paper.live ≡ true
      paper-own is none =
          st.enters.paper_live (stands.paper_live (subst (λ q. caused (process J q) (s.histories q) ≡ None) is
          (free-before J (process J p) st.entry (s.histories p) none)))
          (λ print. print-done J (process J p) st.entry (s.histories p) st.suits none
          (subst IsPrint (sym st.action_is) print))

      pub paper-other : (p ≡ 6 → ⊥) → caused (printer {L = L}) (s.histories 6) ≡ None → new.paper.live ≡ true
      paper-other not none =
          st.enters.paper_live (stands.paper_live none) (λ print. absurd (prints-not J p may.one (s.histories p) action may.next not print))

      pub sound-after : MayLoad tells new
      sound-after = st.enters.sound stands.sound

    -- ---- by the machine
    pub at-card : (m : TwinMachine X CardProc) (new : TwinShared X S K F P) (room : Page) (action : Action) (result : Stepped) → TwinMayGo J s 1 action
        → TwinSteps J card (StandsFor card card_at m) tells counts net.shared new 1 action (s.histories 1) result
        → GoesOn net (record net { card = m; shared = new; room = room }) s 1 result
    at-card m new room action result may st =
        goes-on 1 action may (StandsFor card card_at m) new result st (record net { card = m; shared = new; room = room }) refl record {
          card = st.stands;
          input = stands.input;
          job_a = stands.job_a;
          job_b = stands.job_b;
          output = stands.output;
          printer = stands.printer;
          shared = shared-after 1 action may (StandsFor card card_at m) new result st;
          deck_live = deck-own 1 action may (StandsFor card card_at m) new result st refl;
          paper_live = paper-other 1 action may (StandsFor card card_at m) new result st (λ e. cc);
          sound = sound-after 1 action may (StandsFor card card_at m) new result st;
        }

    pub at-input : (m : TwinMachine X InputProc) (new : TwinShared X S K F P) (room : Page) (action : Action) (result : Stepped) → TwinMayGo J s 2 action
        → TwinSteps J input (StandsFor input InputStands m) tells counts net.shared new 2 action (s.histories 2) result
        → GoesOn net (record net { input = m; shared = new; room = room }) s 2 result
    at-input m new room action result may st =
        goes-on 2 action may (StandsFor input InputStands m) new result st (record net { input = m; shared = new; room = room }) refl record {
          card = stands.card;
          input = st.stands;
          job_a = stands.job_a;
          job_b = stands.job_b;
          output = stands.output;
          printer = stands.printer;
          shared = shared-after 2 action may (StandsFor input InputStands m) new result st;
          deck_live = deck-other 2 action may (StandsFor input InputStands m) new result st (λ e. cc);
          paper_live = paper-other 2 action may (StandsFor input InputStands m) new result st (λ e. cc);
          sound = sound-after 2 action may (StandsFor input InputStands m) new result st;
        }

    pub at-job_a : (m : TwinMachine X (JobProc X SideA)) (new : TwinShared X S K F P) (room : Page) (action : Action) (result : Stepped) → TwinMayGo J s 3 action
        → TwinSteps J (job J A) (StandsFor (job J A) (job_stands J keeps) m) tells counts net.shared new 3 action (s.histories 3) result
        → GoesOn net (record net { job_a = m; shared = new; room = room }) s 3 result
    at-job_a m new room action result may st =
        goes-on 3 action may (StandsFor (job J A) (job_stands J keeps) m) new result st (record net { job_a = m; shared = new; room = room }) refl record {
          card = stands.card;
          input = stands.input;
          job_a = st.stands;
          job_b = stands.job_b;
          output = stands.output;
          printer = stands.printer;
          shared = shared-after 3 action may (StandsFor (job J A) (job_stands J keeps) m) new result st;
          deck_live = deck-other 3 action may (StandsFor (job J A) (job_stands J keeps) m) new result st (λ e. cc);
          paper_live = paper-other 3 action may (StandsFor (job J A) (job_stands J keeps) m) new result st (λ e. cc);
          sound = sound-after 3 action may (StandsFor (job J A) (job_stands J keeps) m) new result st;
        }

    pub at-job_b : (m : TwinMachine X (JobProc X SideB)) (new : TwinShared X S K F P) (room : Page) (action : Action) (result : Stepped) → TwinMayGo J s 4 action
        → TwinSteps J (job J B) (StandsFor (job J B) (job_stands J keeps) m) tells counts net.shared new 4 action (s.histories 4) result
        → GoesOn net (record net { job_b = m; shared = new; room = room }) s 4 result
    at-job_b m new room action result may st =
        goes-on 4 action may (StandsFor (job J B) (job_stands J keeps) m) new result st (record net { job_b = m; shared = new; room = room }) refl record {
          card = stands.card;
          input = stands.input;
          job_a = stands.job_a;
          job_b = st.stands;
          output = stands.output;
          printer = stands.printer;
          shared = shared-after 4 action may (StandsFor (job J B) (job_stands J keeps) m) new result st;
          deck_live = deck-other 4 action may (StandsFor (job J B) (job_stands J keeps) m) new result st (λ e. cc);
          paper_live = paper-other 4 action may (StandsFor (job J B) (job_stands J keeps) m) new result st (λ e. cc);
          sound = sound-after 4 action may (StandsFor (job J B) (job_stands J keeps) m) new result st;
        }

    pub at-output : (m : TwinMachine X OutputProc) (new : TwinShared X S K F P) (room : Page) (action : Action) (result : Stepped) → TwinMayGo J s 5 action
        → TwinSteps J output (StandsFor output OutputStands m) tells counts net.shared new 5 action (s.histories 5) result
        → GoesOn net (record net { output = m; shared = new; room = room }) s 5 result
    at-output m new room action result may st =
        goes-on 5 action may (StandsFor output OutputStands m) new result st (record net { output = m; shared = new; room = room }) refl record {
          card = stands.card;
          input = stands.input;
          job_a = stands.job_a;
          job_b = stands.job_b;
          output = st.stands;
          printer = stands.printer;
          shared = shared-after 5 action may (StandsFor output OutputStands m) new result st;
          deck_live = deck-other 5 action may (StandsFor output OutputStands m) new result st (λ e. cc);
          paper_live = paper-other 5 action may (StandsFor output OutputStands m) new result st (λ e. cc);
          sound = sound-after 5 action may (StandsFor output OutputStands m) new result st;
        }

    pub at-printer : (m : TwinMachine X PrinterProc) (new : TwinShared X S K F P) (room : Page) (action : Action) (result : Stepped) → TwinMayGo J s 6 action
        → TwinSteps J printer (StandsFor printer printer_at m) tells counts net.shared new 6 action (s.histories 6) result
        → GoesOn net (record net { printer = m; shared = new; room = room }) s 6 result
    at-printer m new room action result may st =
        goes-on 6 action may (StandsFor printer printer_at m) new result st (record net { printer = m; shared = new; room = room }) refl record {
          card = stands.card;
          input = stands.input;
          job_a = stands.job_a;
          job_b = stands.job_b;
          output = stands.output;
          printer = st.stands;
          shared = shared-after 6 action may (StandsFor printer printer_at m) new result st;
          deck_live = deck-other 6 action may (StandsFor printer printer_at m) new result st (λ e. cc);
          paper_live = paper-own 6 action may (StandsFor printer printer_at m) new result st refl;
          sound = sound-after 6 action may (StandsFor printer printer_at m) new result st;
        }

  pub steps-at : (old new : TwinNet X S K F P) (s : TwinState L) (work : Process L) (Stands : List (Entry L) → Type 0) (p q : ℕ) (action : Action)
      (result : Stepped)
      (h : List (Entry L)) → p ≡ q
      → (TwinMayGo J s q action → TwinSteps J work Stands tells counts old.shared new.shared q action h result → GoesOn old new s q result)
      → TwinMayGo J s p action → TwinSteps J work Stands tells counts old.shared new.shared p action h result → GoesOn old new s p result
  steps-at old new s work Stands p q action result h e each =
      subst (λ p. TwinMayGo J s p action → TwinSteps J work Stands tells counts old.shared new.shared p action h result → GoesOn old new s p result)
      (sym e) each

module _ {L X S K F P : Type 0} {J : Jobs L} (jobs : AreJobs J) (keeps : X → JobTold L → Type 0) (tells : TwinTells L S K F P) where
  -- that a machine may step
  pub may-step : (net : TwinNet X S K F P) (p q : ℕ) (Stands : List (Entry L) → Type 0) → p ≡ q
      → (m : law.MayStep (the_law J) (TwinStandsWithin J keeps tells net) p) → Stands (m.at.state.histories q)
      → TwinMayStep tells (process J q) Stands net.shared p
  may-step net p q Stands e m stands = record {
    history = m.at.state.histories q;
    action = m.may.action;
    stands = stands;
    next = next-at J m.at.state p q m.may.action e (in-step J m.at.state p m.may);
    may =
        may-do J (first_state m.at.opening) m.at.state (reached-centre J m.at.opening m.at.state m.at.reached).stands p m.may.one tells net.shared
        m.at.stands.is.shared m.at.stands.is.deck_live m.at.stands.is.paper_live m.at.stands.is.sound m.may.action m.may.next m.may.may;
  }

-- ---- whether it has ended, and whether it may go on
module _ {L : Type 0} (J : Jobs L) where
  true-is : (t u : Bool) → t ≡ u → IsTrue t ↔ (u ≡ true)
  true-is t u e = (λ yes_it_is. sym e ∙ yes_it_is, λ is. e ∙ is)

  ends-none : (t : Bool) (a : Action) → (t ≡ true) ↔ (unless_ended t a ≡ None)
  ends-none true a = (λ e. refl, λ e. refl)
  ends-none false a = (λ e. absurd cc, λ e. absurd cc)

  pub ended-at : (s : TwinState L) (p q : ℕ) → p ≡ q → (t : Bool) → t ≡ has_ended (s.histories q)
      → IsTrue t ↔ (next_action (process J p) (s.histories p) ≡ None)
  ended-at s p q e t is =
      let h = s.histories q in
      let first = true-is t (has_ended h) is in
      let second = ends-none (has_ended h) (next_by (process J q) (closing (process J q) h) h) in
      subst (λ p. IsTrue t ↔ (next_action (process J p) (s.histories p) ≡ None)) (sym e)
      (λ yes_it_is. second.0 (first.0 yes_it_is), λ none. first.1 (second.1 none))

  module _ (o : Opening J) (s : TwinState L) (reached : IsReached o s) where
    turn-own : (p : ℕ) → IsProcess p → (t : Bool)
        → (((action : Action) → next_action (process J p) (s.histories p) ≡ Some action → TwinHasPlace s p action)
        → IsTrue t ↔ TwinIsAtTurn (process J p) (s.histories p) s p) → IsTrue t ↔ MayGo (twin J) s p
    turn-own p one t each =
        let both = each (has-place J (first_state o) s (reached-centre J o s reached).stands p one) in (
          λ yes_it_is. (let at = both.0 yes_it_is in record { action = at.action; one = one; next = at.next; may = at.may }),
          λ may. both.1 record { action = may.action; next = may.next; may = may.may },
        )

    pub turn-at : (p q : ℕ) → p ≡ q → IsProcess q → (t : Bool)
        → (((action : Action) → next_action (process J q) (s.histories q) ≡ Some action → TwinHasPlace s p action)
        → IsTrue t ↔ TwinIsAtTurn (process J q) (s.histories q) s p) → IsTrue t ↔ MayGo (twin J) s p
    turn-at p q e =
        subst (λ q. IsProcess q → (t : Bool)
        → (((action : Action) → next_action (process J q) (s.histories q) ≡ Some action → TwinHasPlace s p action)
        → IsTrue t ↔ TwinIsAtTurn (process J q) (s.histories q) s p) → IsTrue t ↔ MayGo (twin J) s p) e (turn-own p)
