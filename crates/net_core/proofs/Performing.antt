-- What a call on one of the monitors or devices is to all that is shared.
use Rattle.std.proofs.Common.{◌≡◌, ◌<◌, ℕ, ◌==◌, Bool, true, false, List, [], ◌++◌, length, drop, Option, None, Some, refl, sym, ◌∙◌, ap, subst, option_map}
use Rattle.std.proofs.lemmas.Bool.{eqb-true, eq-eqb}
use Rattle.std.proofs.lemmas.List.{append-nil}
use Rattle.solo_base.specs.declared.item.Feed.{Feed}
use Rattle.solo_base.specs.declared.outcome.Side.{Side}
use Rattle.solo_devices.specs.CardUnit.{Held}
use Rattle.solo_devices.specs.PrinterUnit.{Printing}
use Rattle.queue_var.specs.Sides.{MayStop}
use Rattle.resource_mon.specs.Claims.{Claims}
use Rattle.slot_buffer.specs.Slot.{Slot}
use Rattle.disk_spool.specs.Spool.{Spool}
use Rattle.batch_procs.specs.declared.actions.Action.{Action}
use Rattle.batch_procs.specs.declared.actions.Action.TheVariants as act
use Rattle.batch_procs.specs.declared.actions.Reply.{Reply}
use Rattle.batch_procs.specs.declared.actions.Reply.TheVariants as reply
use Rattle.network_law.specs.Acts.{Visit, At}
use Rattle.core_law.specs.Core.{Devices, Allows, given, items_by, read_off, call, went, CoreState}
use Rattle.core_law.specs.Work.{LeavesFewer}
use Rattle.net_core.specs.declared.shared.Shared.{Shared}
use Rattle.core_law.specs.Replies.{entry_of}
use Rattle.net_core.specs.Calls.{Visited}
use Rattle.net_core.specs.Lines.{LineStands}
use Rattle.net_core.specs.Spools.{SpoolStands}
use Rattle.net_core.specs.Desks.{Asked, Given}
use Rattle.net_core.specs.Devices.{LoadsFile}
use Rattle.net_core.specs.Shared.{Choice, AtNumbers, StopsAt, Performs, deck_total}
use Rattle.batch_procs.specs.Jobs.{Jobs, AreJobs, FilesAs}
use Rattle.batch_procs.specs.Loads.{AnswersLoad}
use Rattle.batch_ends.specs.Devices.{ReadsCard, PrintsLine, cards_left}
use Rattle.batch_ends.specs.Tells.{Tells, deck_ahead}

-- ---- numbers
chosen : (t : Bool) (X Y : Type 0) → t ≡ true → Choice t X Y → X
chosen true X Y e is = is
chosen false X Y e is = absurd cc

pub refused : (t : Bool) (X Y : Type 0) → t ≡ false → Choice t X Y → Y
refused false X Y e is = is
refused true X Y e is = absurd cc

differ : (t : Bool) (p m : ℕ) → (p == m) ≡ t → (p ≡ m → ⊥) → t ≡ false
differ true p m e not = absurd (not (eqb-true p m e))
differ false p m e not = refl

pub choice-first : (p m : ℕ) (X Y : Type 0) → Choice (p == m) X Y → p ≡ m → X
choice-first p m X Y is e = chosen (p == m) X Y (eq-eqb p m e) is

pub choice-rest : (p m : ℕ) (X Y : Type 0) → Choice (p == m) X Y → (p ≡ m → ⊥) → Y
choice-rest p m X Y is not = refused (p == m) X Y (differ (p == m) p m refl not) is

pub record IsLast (p m : ℕ) (X : Type 0) : Type 0 where
  pub is : X
  pub number : p ≡ m

last-by : (t : Bool) (p m : ℕ) (X : Type 0) → (p == m) ≡ t → Choice t X ⊥ → IsLast p m X
last-by true p m X e is = record { is = is; number = eqb-true p m e }
last-by false p m X e is = absurd is

pub choice-last : (p m : ℕ) (X : Type 0) → Choice (p == m) X ⊥ → IsLast p m X
choice-last p m X is = last-by (p == m) p m X refl is

pub at-first : (p m n : ℕ) (X Y : ℕ → Type 0) → AtNumbers p m n X Y → p ≡ m → X p
at-first p m n X Y is e = choice-first p m (X p) _ is e

pub at-second : (p m n : ℕ) (X Y : ℕ → Type 0) → AtNumbers p m n X Y → (p ≡ m → ⊥) → IsLast p n (Y p)
at-second p m n X Y is not = choice-last p n (Y p) (choice-rest p m (X p) _ is not)

-- a buffer that may be stopped is one of the four
pub stops-last : {X S K F A B : Type 0} (shared : Shared X S K F A B) (b : ℕ) (side : Side) → StopsAt shared b side → (b ≡ 1 → ⊥) → (b ≡ 2 → ⊥) → (b ≡ 3 → ⊥)
    → b
    ≡ 4
stops-last shared b side is one two three =
    let behind_one = choice-rest b 1 (MayStop shared.cards.sides side) (Choice (b == 2) (MayStop shared.input.sides side)
    (Choice (b == 3) (MayStop shared.output.sides side) (Choice (b == 4) (MayStop shared.lines.sides side) ⊥))) is one in
    let behind_two = choice-rest b 2 (MayStop shared.input.sides side) (Choice (b == 3) (MayStop shared.output.sides side)
    (Choice (b == 4) (MayStop shared.lines.sides side) ⊥)) behind_one two in
    let behind_three = choice-rest b 3 (MayStop shared.output.sides side) (Choice (b == 4) (MayStop shared.lines.sides side) ⊥) behind_two three in
    (choice-last b 4 (MayStop shared.lines.sides side) behind_three).number

-- ---- the devices stay
same-deck : {X : Type 0} (deck : Option (List X)) → option_map (drop 0) deck ≡ deck
same-deck None = refl
same-deck (Some items) = refl

same-paper : (paper : Option (List ℕ)) → option_map (λ before. before ++ []) paper ≡ paper
same-paper None = refl
same-paper (Some given) = ap Some (append-nil given)

abbrev pub NoDevice : Action → Type 0
NoDevice act.ReadCard = ⊥
NoDevice (act.Print line) = ⊥
NoDevice (act.Load file) = ⊥
NoDevice action = Unit {0}

module _ {L : Type 0} {J : Jobs L} (jobs : AreJobs J) where
  -- an action that no device hears of
  pub record IsSilent (action : Action) (result : Option (Reply L)) : Type 0 where
    pub allowed : (devices : Devices L) → Allows devices (entry_of action result) []
    pub none_read : read_off (entry_of action result) ≡ []

  pub silent : (action : Action) (result : Option (Reply L)) → NoDevice action → IsSilent action result
  silent act.ReadCard result is = absurd is
  silent (act.Print line) result is = absurd is
  silent (act.Load file) result is = absurd is
  silent action None is = record { allowed = λ devices. refl; none_read = refl }
  silent action (Some r) is = record { allowed = λ devices. refl; none_read = refl }

  -- no card of the deck is given
  pub none-fewer : (action : Action) (result : Option (Reply L)) (cards : ℕ) → NoDevice action → LeavesFewer (entry_of action result) cards cards
  none-fewer act.ReadCard result cards is = absurd is
  none-fewer action None cards is = refl
  none-fewer action (Some r) cards is = refl

  -- what a load answers
  pub loads-file : (found : Option (FilesAs L)) (file : List ℕ) (r : Reply L) → AnswersLoad J found file r → LoadsFile J found file r
  loads-file found file (reply.Loaded load) is = record {
    suits = is.0;
    allowed = λ devices e. ((λ files told. is.1 files (sym e ∙ told)), refl);
  }
  loads-file found file reply.Failed is = record { suits = tt; allowed = λ devices e. refl }
  loads-file found file reply.NoMemory is = record { suits = tt; allowed = λ devices e. refl }
  loads-file found file r is = absurd is

  module _ {X S K F A B : Type 0} (tells : Tells L S K F A B) (old : Shared X S K F A B) (p : ℕ) (action : Action) (result : Option (Reply L)) where
    deck-stays : (s : CoreState L) → IsSilent action result → s.devices.deck ≡ deck_ahead tells old.deck
        → (given s.devices (entry_of action result) []).deck ≡ deck_ahead tells old.deck
    deck-stays s quiet e = ap (λ items. option_map (drop (length items)) s.devices.deck) quiet.none_read ∙ same-deck s.devices.deck ∙ e

    paper-stays : (s : CoreState L) → s.devices.paper ≡ tells.given old.paper.sink
        → (given s.devices (entry_of action result) []).paper ≡ tells.given old.paper.sink
    paper-stays s e = same-paper s.devices.paper ∙ e

    -- ---- at a buffer
    pub at-cards : (new : Slot Feed) (side : Side) (visit : Visit) → NoDevice action → call p action ≡ At 1 side visit
        → Visited J LineStands old.cards new side visit p action result → Performs J tells old (record old { cards = new }) p action result
    at-cards new side visit quiet e v = record {
      suits = v.suits;
      gained = [];
      deck = none-fewer action result _ quiet;
      total = refl;
      files = refl;
      fits = λ s st. rw e (v.fits (s.buffers 1) st.cards);
      allowed = λ s st. (silent action result quiet).allowed s.devices;
      after = λ s hs st. record {
        deck = deck-stays s (silent action result quiet) st.deck;
        paper = paper-stays s st.paper;
        files = st.files;
        cards = rw e (v.after (s.buffers 1) st.cards);
        input = rw e st.input;
        output = rw e st.output;
        lines = rw e st.lines;
        desk = rw e st.desk;
      };
    }

    pub at-lines : (new : Slot Feed) (side : Side) (visit : Visit) → NoDevice action → call p action ≡ At 4 side visit
        → Visited J LineStands old.lines new side visit p action result → Performs J tells old (record old { lines = new }) p action result
    at-lines new side visit quiet e v = record {
      suits = v.suits;
      gained = [];
      deck = none-fewer action result _ quiet;
      total = refl;
      files = refl;
      fits = λ s st. rw e (v.fits (s.buffers 4) st.lines);
      allowed = λ s st. (silent action result quiet).allowed s.devices;
      after = λ s hs st. record {
        deck = deck-stays s (silent action result quiet) st.deck;
        paper = paper-stays s st.paper;
        files = st.files;
        cards = rw e st.cards;
        input = rw e st.input;
        output = rw e st.output;
        lines = rw e (v.after (s.buffers 4) st.lines);
        desk = rw e st.desk;
      };
    }

    pub at-input : (new : Spool A) (side : Side) (visit : Visit) → NoDevice action → call p action ≡ At 2 side visit
        → Visited J (SpoolStands tells.input_pages) old.input new side visit p action result → Performs J tells old (record old { input = new }) p action result
    at-input new side visit quiet e v = record {
      suits = v.suits;
      gained = [];
      deck = none-fewer action result _ quiet;
      total = refl;
      files = refl;
      fits = λ s st. rw e (v.fits (s.buffers 2) st.input);
      allowed = λ s st. (silent action result quiet).allowed s.devices;
      after = λ s hs st. record {
        deck = deck-stays s (silent action result quiet) st.deck;
        paper = paper-stays s st.paper;
        files = st.files;
        cards = rw e st.cards;
        input = rw e (v.after (s.buffers 2) st.input);
        output = rw e st.output;
        lines = rw e st.lines;
        desk = rw e st.desk;
      };
    }

    pub at-output : (new : Spool B) (side : Side) (visit : Visit) → NoDevice action → call p action ≡ At 3 side visit
        → Visited J (SpoolStands tells.output_pages) old.output new side visit p action result
        → Performs J tells old (record old { output = new }) p action result
    at-output new side visit quiet e v = record {
      suits = v.suits;
      gained = [];
      deck = none-fewer action result _ quiet;
      total = refl;
      files = refl;
      fits = λ s st. rw e (v.fits (s.buffers 3) st.output);
      allowed = λ s st. (silent action result quiet).allowed s.devices;
      after = λ s hs st. record {
        deck = deck-stays s (silent action result quiet) st.deck;
        paper = paper-stays s st.paper;
        files = st.files;
        cards = rw e st.cards;
        input = rw e st.input;
        output = rw e (v.after (s.buffers 3) st.output);
        lines = rw e st.lines;
        desk = rw e st.desk;
      };
    }

  module _ {X S K F A B : Type 0} (tells : Tells L S K F A B) (old : Shared X S K F A B) (p : ℕ) where
    -- ---- at the desk
    pub at-request : (new : Claims) (result : Option (Reply L)) → Asked J old.desk new p result → Performs J tells old
        (record old { desk = new }) p act.Request result
    at-request new result a = record {
      suits = a.suits;
      gained = [];
      deck = none-fewer act.Request result _ tt;
      total = refl;
      files = refl;
      fits = λ s st. a.fits ∙ ap (λ (c : Claims). Rattle.network_law.specs.Desk.asked c.handed c.holder) (sym st.desk);
      allowed = λ s st. (silent act.Request result tt).allowed s.devices;
      after = λ s hs st. record {
        deck = deck-stays tells old p act.Request result s (silent act.Request result tt) st.deck;
        paper = paper-stays tells old p act.Request result s st.paper;
        files = st.files;
        cards = st.cards;
        input = st.input;
        output = st.output;
        lines = st.lines;
        desk = a.after s.desk st.desk;
      };
    }

    pub at-release : (new : Claims) (result : Reply L) → Given J old.desk new result → Performs J tells old (record old { desk = new }) p act.Release
        (Some result)
    at-release new result a = record {
      suits = a.suits;
      gained = [];
      deck = refl;
      total = refl;
      files = refl;
      fits = λ s st. a.fits;
      allowed = λ s st. refl;
      after = λ s hs st. record {
        deck = deck-stays tells old p act.Release (Some result) s (silent act.Release (Some result) tt) st.deck;
        paper = paper-stays tells old p act.Release (Some result) s st.paper;
        files = st.files;
        cards = st.cards;
        input = st.input;
        output = st.output;
        lines = st.lines;
        desk = a.after s.desk st.desk;
      };
    }

    -- ---- at a device
    card-fits : (r : Reply L) → Rattle.batch_procs.specs.Fits.Fits J act.ReadCard r → went (entry_of act.ReadCard (Some r))
        ≡ Rattle.network_law.specs.Acts.Done
    card-fits (reply.Card answer) fits = refl
    card-fits r fits = absurd fits

    pub at-deck : (new : Held S) (r : Reply L)
        → ReadsCard J (deck_ahead tells old.deck) (deck_ahead tells new) r
        → (0 < length (items_by r) → cards_left tells.taken new < cards_left tells.taken old.deck)
        → deck_total tells new ≡ deck_total tells old.deck
        → Performs J tells old (record old { deck = new }) p act.ReadCard (Some r)
    at-deck new r reads fewer total = record {
      suits = reads.suits;
      gained = [];
      deck = fewer;
      total = total;
      files = refl;
      fits = λ s st. card-fits r reads.suits;
      allowed = λ s st. reads.allowed s.devices st.deck;
      after = λ s hs st. record {
        deck = ap (option_map (drop (length (items_by r)))) st.deck ∙ reads.after;
        paper = paper-stays tells old p act.ReadCard (Some r) s st.paper;
        files = st.files;
        cards = st.cards;
        input = st.input;
        output = st.output;
        lines = st.lines;
        desk = st.desk;
      };
    }

    print-fits : (line : List ℕ) (r : Reply L) → Rattle.batch_procs.specs.Fits.Fits J (act.Print line) r
        → went (entry_of (act.Print line) (Some r)) ≡ Rattle.network_law.specs.Acts.Done
    print-fits line reply.Done fits = refl
    print-fits line reply.Failed fits = refl
    print-fits line reply.NoMemory fits = refl
    print-fits line r fits = absurd fits

    pub at-paper : (new : Printing K) (line : List ℕ) (r : Reply L) → PrintsLine J (tells.given old.paper.sink) (tells.given new.sink) line r
        → Performs J tells old (record old { paper = new }) p (act.Print line) (Some r)
    at-paper new line r prints = record {
      suits = prints.suits;
      gained = prints.gained;
      deck = refl;
      total = refl;
      files = refl;
      fits = λ s st. print-fits line r prints.suits;
      allowed = λ s st. prints.allowed s.devices;
      after = λ s hs st. record {
        deck = same-deck s.devices.deck ∙ st.deck;
        paper = ap (option_map (λ before. before ++ prints.gained)) st.paper ∙ prints.after;
        files = st.files;
        cards = st.cards;
        input = st.input;
        output = st.output;
        lines = st.lines;
        desk = st.desk;
      };
    }

    load-fits : (file : List ℕ) (r : Reply L) → Rattle.batch_procs.specs.Fits.Fits J (act.Load file) r
        → went (entry_of (act.Load file) (Some r)) ≡ Rattle.network_law.specs.Acts.Done
    load-fits file (reply.Loaded load) fits = refl
    load-fits file reply.Failed fits = refl
    load-fits file reply.NoMemory fits = refl
    load-fits file r fits = absurd fits

    pub at-files : (new : F) (file : List ℕ) (r : Reply L) → LoadsFile J (tells.files old.files) file r
        → tells.files new ≡ tells.files old.files → tells.pages new ≡ tells.pages old.files
        → Performs J tells old (record old { files = new }) p (act.Load file) (Some r)
    at-files new file r loads found left = record {
      suits = loads.suits;
      gained = [];
      deck = refl;
      total = refl;
      files = left;
      fits = λ s st. load-fits file r loads.suits;
      allowed = λ s st. loads.allowed s.devices st.files;
      after = λ s hs st. record {
        deck = same-deck s.devices.deck ∙ st.deck;
        paper = same-paper s.devices.paper ∙ st.paper;
        files = st.files ∙ sym found;
        cards = st.cards;
        input = st.input;
        output = st.output;
        lines = st.lines;
        desk = st.desk;
      };
    }

    -- ---- at none of them
    pub at-local : Performs J tells old old p act.Local (Some reply.Done)
    at-local = record {
      suits = tt;
      gained = [];
      deck = refl;
      total = refl;
      files = refl;
      fits = λ s st. refl;
      allowed = λ s st. refl;
      after = λ s hs st. record {
        deck = same-deck s.devices.deck ∙ st.deck;
        paper = same-paper s.devices.paper ∙ st.paper;
        files = st.files;
        cards = st.cards;
        input = st.input;
        output = st.output;
        lines = st.lines;
        desk = st.desk;
      };
    }

    pub at-end : (how : Rattle.solo_base.specs.declared.outcome.Outcome.Outcome) → Performs J tells old old p (act.Ended how) (Some reply.Done)
    at-end how = record {
      suits = tt;
      gained = [];
      deck = refl;
      total = refl;
      files = refl;
      fits = λ s st. refl;
      allowed = λ s st. refl;
      after = λ s hs st. record {
        deck = same-deck s.devices.deck ∙ st.deck;
        paper = same-paper s.devices.paper ∙ st.paper;
        files = st.files;
        cards = st.cards;
        input = st.input;
        output = st.output;
        lines = st.lines;
        desk = st.desk;
      };
    }

  -- ---- by what the action is
  pub at-action : {X S K F A B : Type 0} (tells : Tells L S K F A B) (old new : Shared X S K F A B) (p : ℕ) (a b : Action) (result : Option (Reply L)) → a ≡ b
      → Performs J tells old new p b result → Performs J tells old new p a result
  at-action tells old new p a b result e is = subst (λ a. Performs J tells old new p a result) (sym e) is
