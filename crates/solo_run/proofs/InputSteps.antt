-- The input process does its next action, and its side of the buffers stands for one deed more.
use Rattle.std.proofs.Common.{◌≡◌, ◌⊎◌, inl, inr, ℕ, List, [], ◌∷◌, Option, None, Some, refl, sym, ◌∙◌, ap, subst}
use Rattle.solo_base.specs.declared.page.Page.{Page}
use Rattle.solo_base.specs.declared.system_call.Arg.{Arg}
use Rattle.solo_base.specs.declared.outcome.Side.TheVariants.{Sender, Receiver}
use Rattle.solo_base.specs.declared.outcome.Outcome.{Outcome}
use Rattle.solo_devices.specs.declared.card_read.CardRead.{CardRead}
use Rattle.solo_devices.specs.declared.card_read.CardRead.TheVariants as read
use Rattle.solo_devices.specs.CardUnit.{items_ahead}
use Rattle.slot_buffer.specs.declared.call.SlotCall.TheVariants as slot
use Rattle.network_law.specs.Network.{Follows}
use Rattle.exchange_law.specs.Parcels.{OfArg, OfPage}
use Rattle.place_law.specs.Process.{Does, place, caused, given_cause, or_new, next_action}
use Rattle.solo_law.specs.Actions.{Action, Reply}
use Rattle.solo_law.specs.Actions as act
use Rattle.solo_law.specs.Replies.{view}
use Rattle.solo_law.specs.InputPlaces.{InputPlace, input_does, input}
use Rattle.solo_law.specs.InputPlaces as at
use Rattle.solo_law.specs.Solo.{solo, SoloEntry}
use Rattle.solo_law.proofs.Placed.{is-1}
use Rattle.solo_threads.specs.Threads.{Deed, entries, stood}
use Rattle.solo_procs.specs.Said.{said}
use Rattle.solo_procs.specs.declared.actions.SoloReply.{SoloReply}
use Rattle.solo_procs.specs.declared.actions.SoloReply.TheVariants as hear
use Rattle.solo_run.specs.declared.input_side.InputSide.{InputSide}
use Rattle.solo_run.specs.Ends.{sent, took}
use Rattle.solo_run.specs.Devices.{ReadsOne, ReadsRan}
use Rattle.solo_run.specs.Input.{InputMay, InputPerforms, InputRan, input_stopped}
use Rattle.solo_run.specs.Running.{DidSo}
use Rattle.solo_run.proofs.EndSteps.{sent-call, sent-still, took-call, took-still}
use Rattle.solo_run.proofs.DeviceSteps.{by_read, reads-so, reads-read, reads-still}
use Rattle.solo_run.proofs.NextDeeds.{OneOf, Free, Closing, does-so, running-at}

-- ---- what it does, and at which buffers
abbrev pub InputDoes : Action → Type 0
InputDoes (act.TakeArg b) = b ≡ 1
InputDoes act.ReadCard = Unit {0}
InputDoes (act.PutPage b page) = b ≡ 2
InputDoes (act.PutArg b x) = b ≡ 3
InputDoes (act.Stop b) = (b ≡ 1) ⊎ ((b ≡ 2) ⊎ (b ≡ 3))
InputDoes (act.Ended how) = Unit {0}
InputDoes other = ⊥

at-places : (a : InputPlace) → InputDoes (input_does a)
at-places at.AwaitsOrder = refl
at-places (at.Reads pages hand sound) = tt
at-places (at.PutsFull page pages hand) = refl
at-places (at.PutsLast page sound) = refl
at-places (at.Reports sound) = refl
at-places at.IsOver = tt

closing-does : (a : Action) → OneOf (1 ∷ 2 ∷ 3 ∷ []) a → InputDoes a
closing-does a (inl e) = subst InputDoes (sym e) (inl refl)
closing-does a (inr (inl e)) = subst InputDoes (sym e) (inr (inl refl))
closing-does a (inr (inr (inl e))) = subst InputDoes (sym e) (inr (inr refl))
closing-does a (inr (inr (inr end))) = subst InputDoes (sym end.1) tt

pub input-does : (h : List SoloEntry) (a : Action) → next_action view input h ≡ Some a → InputDoes a
input-does h a next =
    elim (does-so input h a next) as (λ _. InputDoes a) [
      | Free free e ↦ subst InputDoes (sym e) (at-places (place input h))
      | Closing one ↦ closing-does a one
    ]

not-closing : (a : Action) → OneOf (1 ∷ 2 ∷ 3 ∷ []) a → a ≡ act.ReadCard → ⊥
not-closing a (inl e) is = (let no = sym e ∙ is in cc)
not-closing a (inr (inl e)) is = (let no = sym e ∙ is in cc)
not-closing a (inr (inr (inl e))) is = (let no = sym e ∙ is in cc)
not-closing a (inr (inr (inr end))) is = (let no = sym end.1 ∙ is in cc)

-- who reads has no cause
pub reads-free : (h : List SoloEntry) → next_action view input h ≡ Some act.ReadCard → caused view input h ≡ None
reads-free h next =
    elim (does-so input h act.ReadCard next) as (λ _. caused view input h ≡ None) [
      | Free free e ↦ free
      | Closing one ↦ absurd (not-closing act.ReadCard one refl)
    ]

module _ {S : Type 0} (left : S → Option (List ℕ)) (taken faults : S → ℕ) (start old : InputSide S) (deeds : List Deed)
    (ran : InputRan left taken faults start old deeds) where
  abbrev h : List SoloEntry
  h = entries deeds

  abbrev deed : Action → Reply → Deed
  deed a r = record { entry = Does a r; gained = [] }

  -- ---- it may
  pub input-may : (a : Action) → Follows solo 1 h → next_action view input h ≡ Some a → InputMay old (said a)
  input-may a follows next = by-action a (input-does h a next) next where
    by-action : (a : Action) → InputDoes a → next_action view input h ≡ Some a → InputMay old (said a)
    by-action (act.TakeArg b) does next = (
      does,
      (
        ran.orders.at,
        ran.orders.calls.stops ∙ running-at 1 h (act.TakeArg 1) 1 Receiver is-1 follows (subst (λ b. next_action view input h ≡ Some
            (act.TakeArg b)) does next) refl,
      ),
    )
    by-action act.ReadCard does next = ran.cards.live (reads-free h next)
    by-action (act.PutPage b page) does next = (
      does,
      (
        ran.pages.at,
        ran.pages.calls.stops ∙ running-at 1 h (act.PutPage 2 page) 2 Sender is-1 follows (subst (λ b. next_action view input h ≡ Some
            (act.PutPage b page)) does next) refl,
      ),
    )
    by-action (act.PutArg b x) does next = (
      does,
      (
        ran.reports.at,
        ran.reports.calls.stops ∙ running-at 1 h (act.PutArg 3 x) 3 Sender is-1 follows (subst (λ b. next_action view input h ≡ Some
            (act.PutArg b x)) does next) refl,
      ),
    )
    by-action (act.Stop b) does next = (does, ran.orders.at, ran.pages.at, ran.reports.at)
    by-action (act.Ended how) does next = tt
    by-action other does next = absurd does

  -- ---- and stands for one deed more
  abbrev RanWith : InputSide S → Action → Reply → Type 0
  RanWith new a r = InputRan left taken faults start new (deed a r ∷ deeds)

  ordered : (new : InputSide S) (x : Arg) → new ≡ record old { orders = took old.orders (slot.Take x) } → RanWith new (act.TakeArg 1) (act.OfArg x)
  ordered new x e = subst (λ new. RanWith new (act.TakeArg 1) (act.OfArg x)) (sym e) record {
    orders = took-call OfArg 1 1 start.orders old.orders h _ (slot.Take x) record { moves = refl; stops = refl; told = refl } ran.orders;
    pages = sent-still OfPage 1 2 start.pages old.pages h _ record { moves = refl; stops = refl; told = refl } ran.pages;
    reports = sent-still OfArg 1 3 start.reports old.reports h _ record { moves = refl; stops = refl; told = refl } ran.reports;
    cards = reads-still left taken faults start.cards old.cards (caused view input h) None (λ e. cc) (λ e. cc) ran.cards;
    told = λ d told. (let was = ran.told d told in ((refl, was.0), was.1));
  }

  unordered : (new : InputSide S) → new ≡ record old { orders = took old.orders slot.TakeRefused } → RanWith new (act.TakeArg 1) act.Stopped
  unordered new e = subst (λ new. RanWith new (act.TakeArg 1) act.Stopped) (sym e) record {
    orders = took-call OfArg 1 1 start.orders old.orders h _ slot.TakeRefused record { moves = refl; stops = refl; told = refl } ran.orders;
    pages = sent-still OfPage 1 2 start.pages old.pages h _ record { moves = refl; stops = refl; told = refl } ran.pages;
    reports = sent-still OfArg 1 3 start.reports old.reports h _ record { moves = refl; stops = refl; told = refl } ran.reports;
    cards = reads-still left taken faults start.cards old.cards (caused view input h) _ (λ e. cc) (λ e. cc) ran.cards;
    told = λ d told. (let was = ran.told d told in ((refl, was.0), was.1));
  }

  given-read : (place : InputPlace) (answer : CardRead) → given_cause view input place act.ReadCard (act.OfCard answer) ≡ by_read answer
  given-read place (read.Card line) = refl
  given-read place read.Spoiled = refl
  given-read place read.End = refl
  given-read place read.Failed = refl
  given-read place read.Limit = refl

  carded : (new : InputSide S) (answer : CardRead) → caused view input h ≡ None → new ≡ record old { cards = new.cards }
      → ReadsOne left taken faults old.cards new.cards answer → RanWith new act.ReadCard (act.OfCard answer)
  carded new answer free e one =
      let why : or_new (caused view input h) (given_cause view input (place input h) act.ReadCard (act.OfCard answer)) ≡ by_read answer =
      ap (λ why. or_new why (given_cause view input (place input h) act.ReadCard (act.OfCard answer))) free ∙ given-read (place input h) answer in
      subst (λ new. RanWith new act.ReadCard (act.OfCard answer)) (sym e) record {
        orders = took-still OfArg 1 1 start.orders old.orders h _ record { moves = refl; stops = refl; told = refl } ran.orders;
        pages = sent-still OfPage 1 2 start.pages old.pages h _ record { moves = refl; stops = refl; told = refl } ran.pages;
        reports = sent-still OfArg 1 3 start.reports old.reports h _ record { moves = refl; stops = refl; told = refl } ran.reports;
        cards = subst (λ why. ReadsRan left taken faults start.cards new.cards why) (sym why)
            (reads-read left taken faults start.cards old.cards new.cards answer
            (subst (λ why. ReadsRan left taken faults start.cards old.cards why) free ran.cards) one);
        told = λ d told. (
            let was = ran.told d told in
            let is = reads-so (stood d deeds).cards (items_ahead (left old.cards.source) old.cards.pending)
            (items_ahead (left new.cards.source) new.cards.pending) answer was.1 one.next in
            (((is.0, refl), was.0), is.1)
            );
      }

  paged : (new : InputSide S) (page : Page) → new ≡ record old { pages = sent old.pages (slot.Put page) } → RanWith new (act.PutPage 2 page) act.Done
  paged new page e = subst (λ new. RanWith new (act.PutPage 2 page) act.Done) (sym e) record {
    orders = took-still OfArg 1 1 start.orders old.orders h _ record { moves = refl; stops = refl; told = refl } ran.orders;
    pages = sent-call OfPage 1 2 start.pages old.pages h _ (slot.Put page) record { moves = refl; stops = refl; told = refl } ran.pages;
    reports = sent-still OfArg 1 3 start.reports old.reports h _ record { moves = refl; stops = refl; told = refl } ran.reports;
    cards = reads-still left taken faults start.cards old.cards (caused view input h) None (λ e. cc) (λ e. cc) ran.cards;
    told = λ d told. (let was = ran.told d told in ((refl, was.0), was.1));
  }

  unpaged : (new : InputSide S) (page : Page) → new ≡ record old { pages = sent old.pages (slot.PutRefused page) } → RanWith new (act.PutPage 2 page) act.Stopped
  unpaged new page e = subst (λ new. RanWith new (act.PutPage 2 page) act.Stopped) (sym e) record {
    orders = took-still OfArg 1 1 start.orders old.orders h _ record { moves = refl; stops = refl; told = refl } ran.orders;
    pages = sent-call OfPage 1 2 start.pages old.pages h _ (slot.PutRefused page) record { moves = refl; stops = refl; told = refl } ran.pages;
    reports = sent-still OfArg 1 3 start.reports old.reports h _ record { moves = refl; stops = refl; told = refl } ran.reports;
    cards = reads-still left taken faults start.cards old.cards (caused view input h) _ (λ e. cc) (λ e. cc) ran.cards;
    told = λ d told. (let was = ran.told d told in ((refl, was.0), was.1));
  }

  reported : (new : InputSide S) (x : Arg) → new ≡ record old { reports = sent old.reports (slot.Put x) } → RanWith new (act.PutArg 3 x) act.Done
  reported new x e = subst (λ new. RanWith new (act.PutArg 3 x) act.Done) (sym e) record {
    orders = took-still OfArg 1 1 start.orders old.orders h _ record { moves = refl; stops = refl; told = refl } ran.orders;
    pages = sent-still OfPage 1 2 start.pages old.pages h _ record { moves = refl; stops = refl; told = refl } ran.pages;
    reports = sent-call OfArg 1 3 start.reports old.reports h _ (slot.Put x) record { moves = refl; stops = refl; told = refl } ran.reports;
    cards = reads-still left taken faults start.cards old.cards (caused view input h) None (λ e. cc) (λ e. cc) ran.cards;
    told = λ d told. (let was = ran.told d told in ((refl, was.0), was.1));
  }

  unreported : (new : InputSide S) (x : Arg) → new ≡ record old { reports = sent old.reports (slot.PutRefused x) } → RanWith new (act.PutArg 3 x) act.Stopped
  unreported new x e = subst (λ new. RanWith new (act.PutArg 3 x) act.Stopped) (sym e) record {
    orders = took-still OfArg 1 1 start.orders old.orders h _ record { moves = refl; stops = refl; told = refl } ran.orders;
    pages = sent-still OfPage 1 2 start.pages old.pages h _ record { moves = refl; stops = refl; told = refl } ran.pages;
    reports = sent-call OfArg 1 3 start.reports old.reports h _ (slot.PutRefused x) record { moves = refl; stops = refl; told = refl } ran.reports;
    cards = reads-still left taken faults start.cards old.cards (caused view input h) _ (λ e. cc) (λ e. cc) ran.cards;
    told = λ d told. (let was = ran.told d told in ((refl, was.0), was.1));
  }

  stopped-1 : (new : InputSide S) → new ≡ input_stopped 1 old → RanWith new (act.Stop 1) act.Done
  stopped-1 new e = subst (λ new. RanWith new (act.Stop 1) act.Done) (sym e) record {
    orders = took-call OfArg 1 1 start.orders old.orders h _ (slot.Stop Receiver) record { moves = refl; stops = refl; told = refl } ran.orders;
    pages = sent-still OfPage 1 2 start.pages old.pages h _ record { moves = refl; stops = refl; told = refl } ran.pages;
    reports = sent-still OfArg 1 3 start.reports old.reports h _ record { moves = refl; stops = refl; told = refl } ran.reports;
    cards = reads-still left taken faults start.cards old.cards (caused view input h) None (λ e. cc) (λ e. cc) ran.cards;
    told = λ d told. (let was = ran.told d told in ((refl, was.0), was.1));
  }

  stopped-2 : (new : InputSide S) → new ≡ input_stopped 2 old → RanWith new (act.Stop 2) act.Done
  stopped-2 new e = subst (λ new. RanWith new (act.Stop 2) act.Done) (sym e) record {
    orders = took-still OfArg 1 1 start.orders old.orders h _ record { moves = refl; stops = refl; told = refl } ran.orders;
    pages = sent-call OfPage 1 2 start.pages old.pages h _ (slot.Stop Sender) record { moves = refl; stops = refl; told = refl } ran.pages;
    reports = sent-still OfArg 1 3 start.reports old.reports h _ record { moves = refl; stops = refl; told = refl } ran.reports;
    cards = reads-still left taken faults start.cards old.cards (caused view input h) None (λ e. cc) (λ e. cc) ran.cards;
    told = λ d told. (let was = ran.told d told in ((refl, was.0), was.1));
  }

  stopped-3 : (new : InputSide S) → new ≡ input_stopped 3 old → RanWith new (act.Stop 3) act.Done
  stopped-3 new e = subst (λ new. RanWith new (act.Stop 3) act.Done) (sym e) record {
    orders = took-still OfArg 1 1 start.orders old.orders h _ record { moves = refl; stops = refl; told = refl } ran.orders;
    pages = sent-still OfPage 1 2 start.pages old.pages h _ record { moves = refl; stops = refl; told = refl } ran.pages;
    reports = sent-call OfArg 1 3 start.reports old.reports h _ (slot.Stop Sender) record { moves = refl; stops = refl; told = refl } ran.reports;
    cards = reads-still left taken faults start.cards old.cards (caused view input h) None (λ e. cc) (λ e. cc) ran.cards;
    told = λ d told. (let was = ran.told d told in ((refl, was.0), was.1));
  }

  ended : (new : InputSide S) (how : Outcome) → new ≡ old → RanWith new (act.Ended how) act.Done
  ended new how e = subst (λ new. RanWith new (act.Ended how) act.Done) (sym e) record {
    orders = took-still OfArg 1 1 start.orders old.orders h _ record { moves = refl; stops = refl; told = refl } ran.orders;
    pages = sent-still OfPage 1 2 start.pages old.pages h _ record { moves = refl; stops = refl; told = refl } ran.pages;
    reports = sent-still OfArg 1 3 start.reports old.reports h _ record { moves = refl; stops = refl; told = refl } ran.reports;
    cards = reads-still left taken faults start.cards old.cards (caused view input h) None (λ e. cc) (λ e. cc) ran.cards;
    told = λ d told. (let was = ran.told d told in ((refl, was.0), was.1));
  }

  abbrev Did : InputSide S → Action → SoloReply → Type 0
  Did new a reply = DidSo 1 (InputRan left taken faults start new) deeds a reply

  stop-did : (new : InputSide S) (b : ℕ) → (b ≡ 1) ⊎ ((b ≡ 2) ⊎ (b ≡ 3)) → new ≡ input_stopped b old → Did new (act.Stop b) hear.Done
  stop-did new b (inl is) e =
      subst (λ b. Did new (act.Stop b) hear.Done) (sym is)
      record { answer = act.Done; gained = []; fits = tt; plain = refl; ran = stopped-1 new (e ∙ ap (λ b. input_stopped b old) is); lacks = λ can may. absurd may }
  stop-did new b (inr (inl is)) e =
      subst (λ b. Did new (act.Stop b) hear.Done) (sym is)
      record { answer = act.Done; gained = []; fits = tt; plain = refl; ran = stopped-2 new (e ∙ ap (λ b. input_stopped b old) is); lacks = λ can may. absurd may }
  stop-did new b (inr (inr is)) e =
      subst (λ b. Did new (act.Stop b) hear.Done) (sym is)
      record { answer = act.Done; gained = []; fits = tt; plain = refl; ran = stopped-3 new (e ∙ ap (λ b. input_stopped b old) is); lacks = λ can may. absurd may }

  pub input-did : (new : InputSide S) (a : Action) (reply : SoloReply) → InputDoes a → next_action view input h ≡ Some a
      → InputPerforms left taken faults old new (said a) reply → Did new a reply
  input-did new (act.TakeArg b) (hear.Arg x) does next e =
      subst (λ b. Did new (act.TakeArg b) (hear.Arg x)) (sym does)
      record { answer = act.OfArg x; gained = []; fits = tt; plain = refl; ran = ordered new x e; lacks = λ can may. absurd may }
  input-did new (act.TakeArg b) hear.Stopped does next e =
      subst (λ b. Did new (act.TakeArg b) hear.Stopped) (sym does)
      record { answer = act.Stopped; gained = []; fits = tt; plain = refl; ran = unordered new e; lacks = λ can may. absurd may }
  input-did new act.ReadCard (hear.Card answer) does next e =
      record { answer = act.OfCard answer; gained = []; fits = e.1.line; plain = refl; ran = carded new answer (reads-free h next) e.0 e.1; lacks = λ can may. absurd may }
  input-did new (act.PutPage b page) hear.Done does next e =
      subst (λ b. Did new (act.PutPage b page) hear.Done) (sym does)
      record { answer = act.Done; gained = []; fits = tt; plain = refl; ran = paged new page e; lacks = λ can may. absurd may }
  input-did new (act.PutPage b page) hear.Stopped does next e =
      subst (λ b. Did new (act.PutPage b page) hear.Stopped) (sym does)
      record { answer = act.Stopped; gained = []; fits = tt; plain = refl; ran = unpaged new page e; lacks = λ can may. absurd may }
  input-did new (act.PutArg b x) hear.Done does next e =
      subst (λ b. Did new (act.PutArg b x) hear.Done) (sym does)
      record { answer = act.Done; gained = []; fits = tt; plain = refl; ran = reported new x e; lacks = λ can may. absurd may }
  input-did new (act.PutArg b x) hear.Stopped does next e =
      subst (λ b. Did new (act.PutArg b x) hear.Stopped) (sym does)
      record { answer = act.Stopped; gained = []; fits = tt; plain = refl; ran = unreported new x e; lacks = λ can may. absurd may }
  input-did new (act.Stop b) hear.Done does next e = stop-did new b does e
  input-did new (act.Ended how) hear.Done does next e =
      record { answer = act.Done; gained = []; fits = tt; plain = refl; ran = ended new how e; lacks = λ can may. absurd may }
  input-did new a reply does next e = absurd e
