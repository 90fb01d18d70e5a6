-- What a call at one of the monitors or devices is to all that the six share.
use Rattle.std.proofs.Common.{◌≡◌, ◌≢◌, ◌≤◌, ◌<◌, ◌↔◌, ◌⊎◌, inl, ℕ, true, false, Bool, List, [], ◌++◌, length, drop, Option, None, Some, refl, sym, ◌∙◌, ap, subst, option_map, arith}
use Rattle.std.proofs.lemmas.List.{append-nil}
use Rattle.solo_base.specs.declared.item.Feed.{Feed}
use Rattle.solo_base.specs.declared.outcome.Side.{Side}
use Rattle.solo_devices.specs.CardUnit.{Held, byte_limit}
use Rattle.solo_devices.specs.Count.{Rose}
use Rattle.solo_devices.specs.declared.card_read.CardRead.TheVariants as read
use Rattle.solo_devices.specs.PrinterUnit.{Printing}
use Rattle.resource_mon.specs.Claims.{Claims}
use Rattle.slot_buffer.specs.Slot.{Slot}
use Rattle.batch_procs.specs.declared.actions.Reply.{Reply}
use Rattle.batch_procs.specs.declared.actions.Reply.TheVariants as reply
use Rattle.batch_procs.specs.Jobs.{Jobs}
use Rattle.batch_procs.specs.Parcels.{is_last}
use Rattle.batch_ends.specs.Devices.{cards_left}
use Rattle.network_law.specs.Acts.{Visit, At, Done}
use Rattle.network_law.specs.Buffer.{after_visit}
use Rattle.network_law.proofs.Numbers.{set-other}
use Rattle.net_core.specs.Lines.{LineStands}
use Rattle.twin_law.specs.Process.{Action, ReadCard, Request, Load, Release, Print}
use Rattle.twin_law.specs.Twin.{call, went, Devices, Allows, given, items_by, read_off, TwinState}
use Rattle.twin_law.specs.Left.{DrawsFrom}
use Rattle.twin_procs.specs.declared.actions.TwinAction.{TwinAction}
use Rattle.twin_ends.specs.TwinCalls.{entry_for, ReplySuits, TwinVisited, TwinAsked, TwinGiven, TwinReads, TwinPrints, TwinLoads}
use Rattle.twin_ends.specs.TwinTells.{TwinTells, TwinCounts, cards_ahead}
use Rattle.twin_net.specs.declared.shared.TwinShared.{TwinShared}
use Rattle.twin_net.specs.declared.spools.TwinSpools.{TwinSpools}
use Rattle.twin_net.specs.FourSpools.{SpoolVisited}
use Rattle.twin_net.specs.TwinStands.{cards_total}
use Rattle.twin_net.specs.Doing.{meant, MayLoad, DoneSo}
use Rattle.twin_net.proofs.Failing.{same-least, same-reply, NeverFails, no-card, quiet-causes, page-failed}

-- ---- the devices stay
same-deck : {X : Type 0} (deck : Option (List X)) → option_map (drop 0) deck ≡ deck
same-deck None = refl
same-deck (Some items) = refl

same-paper : (paper : Option (List ℕ)) → option_map (λ before. before ++ []) paper ≡ paper
same-paper None = refl
same-paper (Some given) = ap Some (append-nil given)

-- an action that no device hears of
abbrev pub NoDevice : Action → Type 0
NoDevice ReadCard = ⊥
NoDevice (Print line) = ⊥
NoDevice (Load file) = ⊥
NoDevice action = Unit {0}

module _ {L : Type 0} (J : Jobs L) where
  record IsSilent (action : Action) (result : Option (Reply L)) : Type 0 where
    allowed : (devices : Devices L) → Allows devices (entry_for action result) []
    none_read : read_off (entry_for action result) ≡ []
    none_drawn : (cards : ℕ) → DrawsFrom (entry_for action result) cards cards

  silent : (action : Action) (result : Option (Reply L)) → NoDevice action → IsSilent action result
  silent ReadCard result is = absurd is
  silent (Print line) result is = absurd is
  silent (Load file) result is = absurd is
  silent action None is = record { allowed = λ devices. refl; none_read = refl; none_drawn = λ cards. refl }
  silent action (Some r) is = record { allowed = λ devices. refl; none_read = refl; none_drawn = λ cards. refl }

  module _ {X S K F A : Type 0} (tells : TwinTells L S K F A) (counts : TwinCounts S K F A) (old : TwinShared X S K F A) (p : ℕ) (action : Action)
      (result : Option (Reply L)) where
    deck-stays : (s : TwinState L) → IsSilent action result → s.devices.deck ≡ cards_ahead tells old.deck
        → (given s.devices (entry_for action result) []).deck ≡ cards_ahead tells old.deck
    deck-stays s quiet e = ap (λ items. option_map (drop (length items)) s.devices.deck) quiet.none_read ∙ same-deck s.devices.deck ∙ e

    paper-stays : (s : TwinState L) → s.devices.paper ≡ tells.given old.paper.sink
        → (given s.devices (entry_for action result) []).paper ≡ tells.given old.paper.sink
    paper-stays s e = same-paper s.devices.paper ∙ e

    -- ---- at a line buffer
    pub at-cards : (new : Slot Feed) (side : Side) (visit : Visit) → NoDevice action → NeverFails action → call p action ≡ At 1 side visit
        → TwinVisited J LineStands old.cards new side visit p action result
        → DoneSo J tells counts old (record old { cards = new }) p action result
    at-cards new side visit quiet never e v = record {
      suits = v.suits;
      causes = quiet-causes J counts old (record old { cards = new }) action result v.suits never refl refl;
      gained = [];
      deck = (silent action result quiet).none_drawn _;
      total = refl;
      files = refl;
      sound = λ may. may;
      deck_live = λ live a b. live;
      paper_live = λ live a. live;
      fits = λ s st. rw e (v.fits (s.buffers 1) st.cards);
      allowed = λ s st. (silent action result quiet).allowed s.devices;
      after = λ s hs st. record {
        deck = deck-stays s (silent action result quiet) st.deck;
        paper = paper-stays s st.paper;
        files = st.files;
        cards = rw e (v.after (s.buffers 1) st.cards);
        spools = rw e (record { to_a = st.spools.to_a; to_b = st.spools.to_b; from_a = st.spools.from_a; from_b = st.spools.from_b });
        lines = rw e st.lines;
        desk = rw e st.desk;
      };
    }

    pub at-lines : (new : Slot Feed) (side : Side) (visit : Visit) → NoDevice action → NeverFails action → call p action ≡ At 6 side visit
        → TwinVisited J LineStands old.lines new side visit p action result
        → DoneSo J tells counts old (record old { lines = new }) p action result
    at-lines new side visit quiet never e v = record {
      suits = v.suits;
      causes = quiet-causes J counts old (record old { lines = new }) action result v.suits never refl refl;
      gained = [];
      deck = (silent action result quiet).none_drawn _;
      total = refl;
      files = refl;
      sound = λ may. may;
      deck_live = λ live a b. live;
      paper_live = λ live a. live;
      fits = λ s st. rw e (v.fits (s.buffers 6) st.lines);
      allowed = λ s st. (silent action result quiet).allowed s.devices;
      after = λ s hs st. record {
        deck = deck-stays s (silent action result quiet) st.deck;
        paper = paper-stays s st.paper;
        files = st.files;
        cards = rw e st.cards;
        spools = rw e (record { to_a = st.spools.to_a; to_b = st.spools.to_b; from_a = st.spools.from_a; from_b = st.spools.from_b });
        lines = rw e (v.after (s.buffers 6) st.lines);
        desk = rw e st.desk;
      };
    }

    -- ---- at a spool
    no-read : NoDevice action → action ≢ ReadCard
    no-read quiet e = subst NoDevice e quiet

    pub at-spools : (new : TwinSpools A) (b : ℕ) (side : Side) (visit : Visit) → NoDevice action → call p action ≡ At b side visit
        → SpoolVisited J tells.pages counts.page_faults old.spools new side visit p b action result
        → DoneSo J tells counts old (record old { spools = new }) p action result
    at-spools new b side visit quiet e v =
        let low = v.number.0 in
        let high = v.number.1 in
        let not_one : 1 ≡ b → ⊥ = λ same. (omega (arith, low, same)) in
        let not_six : 6 ≡ b → ⊥ = λ same. (omega (arith, high, same)) in
        record {
          suits = v.suits;
          causes = record {
            failed = λ failed. page-failed J counts old (record old { spools = new }) action result v.suits b side visit p action e
                (subst (ReplySuits J action) failed v.suits) (v.failed failed);
            read = λ card. absurd (no-card J action _ (no-read quiet) (subst (ReplySuits J action) card v.suits));
            limit = λ card. absurd (no-card J action _ (no-read quiet) (subst (ReplySuits J action) card v.suits));
            limit_told = λ reads. absurd (no-read quiet reads);
            unsound = λ unsound. inl unsound;
            read_on = same-least _;
            print_on = same-least _;
            files_on = same-least _;
            spools_on = v.counts;
            deck_stays = λ not. refl;
          };
          gained = [];
          deck = (silent action result quiet).none_drawn _;
          total = refl;
          files = refl;
          sound = λ may. may;
          deck_live = λ live a b. live;
          paper_live = λ live a. live;
          fits = λ s st. rw e (v.fits s.buffers st.spools);
          allowed = λ s st. (silent action result quiet).allowed s.devices;
          after = λ s hs st. record {
            deck = deck-stays s (silent action result quiet) st.deck;
            paper = paper-stays s st.paper;
            files = st.files;
            cards = rw e (subst (LineStands old.cards)
                (sym (set-other s.buffers b (after_visit is_last visit side p (went (entry_for action result)) (s.buffers b)) 1 not_one)) st.cards);
            spools = rw e (v.after s.buffers st.spools);
            lines = rw e (subst (LineStands old.lines)
                (sym (set-other s.buffers b (after_visit is_last visit side p (went (entry_for action result)) (s.buffers b)) 6 not_six)) st.lines);
            desk = rw e st.desk;
          };
        }

  module _ {X S K F A : Type 0} (tells : TwinTells L S K F A) (counts : TwinCounts S K F A) (old : TwinShared X S K F A) (p : ℕ) where
    -- ---- at the desk
    pub at-request : (new : Claims) (result : Option (Reply L)) → TwinAsked J old.desk new p result
        → DoneSo J tells counts old (record old { desk = new }) p Request result
    at-request new result a = record {
      suits = a.suits;
      causes = quiet-causes J counts old (record old { desk = new }) Request result a.suits tt refl refl;
      gained = [];
      deck = (silent Request result tt).none_drawn _;
      total = refl;
      files = refl;
      sound = λ may. may;
      deck_live = λ live a b. live;
      paper_live = λ live a. live;
      fits = λ s st. a.fits ∙ ap (λ (c : Claims). Rattle.network_law.specs.Desk.asked c.handed c.holder) (sym st.desk);
      allowed = λ s st. (silent Request result tt).allowed s.devices;
      after = λ s hs st. record {
        deck = deck-stays tells counts old p Request result s (silent Request result tt) st.deck;
        paper = paper-stays tells counts old p Request result s st.paper;
        files = st.files;
        cards = st.cards;
        spools = st.spools;
        lines = st.lines;
        desk = a.after s.desk st.desk;
      };
    }

    pub at-release : (new : Claims) (r : Reply L) → TwinGiven J old.desk new r → DoneSo J tells counts old (record old { desk = new }) p Release (Some r)
    at-release new r a = record {
      suits = a.suits;
      causes = quiet-causes J counts old (record old { desk = new }) Release (Some r) a.suits tt refl refl;
      gained = [];
      deck = refl;
      total = refl;
      files = refl;
      sound = λ may. may;
      deck_live = λ live a b. live;
      paper_live = λ live a. live;
      fits = λ s st. a.fits;
      allowed = λ s st. refl;
      after = λ s hs st. record {
        deck = deck-stays tells counts old p Release (Some r) s (silent Release (Some r) tt) st.deck;
        paper = paper-stays tells counts old p Release (Some r) s st.paper;
        files = st.files;
        cards = st.cards;
        spools = st.spools;
        lines = st.lines;
        desk = a.after s.desk st.desk;
      };
    }

    -- ---- at a device
    card-done : (r : Reply L) → ReplySuits J ReadCard (Some r) → went (entry_for ReadCard (Some r)) ≡ Done
    card-done (reply.Card answer) suits = refl
    card-done r suits = absurd suits.0

    pub at-deck : (new : Held S) (r : Reply L) → TwinReads J (cards_ahead tells old.deck) (cards_ahead tells new) r
        → (0 < length (items_by r) → cards_left tells.taken new < cards_left tells.taken old.deck) → cards_total tells new ≡ cards_total tells old.deck
        → (r ≢ reply.Card read.Failed → r ≢ reply.Card read.Limit → new.live ≡ true)
        → (r ≡ reply.Card read.Failed → Rose (counts.read_faults old.deck.source) (counts.read_faults new.source))
        → counts.read_faults old.deck.source ≤ counts.read_faults new.source → (r ≡ reply.Card read.Limit) ↔ (byte_limit < counts.taken new.source)
        → DoneSo J tells counts old (record old { deck = new }) p ReadCard (Some r)
    at-deck new r reads fewer total live failed on limit = record {
      suits = reads.suits;
      causes = record {
        failed = λ e. absurd (subst (ReplySuits J ReadCard) e reads.suits).0;
        read = λ e. failed (same-reply r _ e);
        limit = λ e. limit.0 (same-reply r _ e);
        limit_told = λ is over. ap Some (limit.1 over);
        unsound = λ unsound. inl unsound;
        read_on = on;
        print_on = same-least _;
        files_on = same-least _;
        spools_on = λ b. same-least _;
        deck_stays = λ not. absurd (not refl);
      };
      gained = [];
      deck = fewer;
      total = total;
      files = refl;
      sound = λ may. may;
      deck_live = λ was a b. live (λ e. a (ap Some e)) (λ e. b (ap Some e));
      paper_live = λ live a. live;
      fits = λ s st. card-done r reads.suits;
      allowed = λ s st. reads.allowed s.devices st.deck;
      after = λ s hs st. record {
        deck = ap (option_map (drop (length (items_by r)))) st.deck ∙ reads.after;
        paper = paper-stays tells counts old p ReadCard (Some r) s st.paper;
        files = st.files;
        cards = st.cards;
        spools = st.spools;
        lines = st.lines;
        desk = st.desk;
      };
    }

    print-done : (line : List ℕ) (r : Reply L) → ReplySuits J (Print line) (Some r) → went (entry_for (Print line) (Some r)) ≡ Done
    print-done line reply.Done suits = refl
    print-done line reply.Failed suits = refl
    print-done line reply.NoMemory suits = refl
    print-done line r suits = absurd suits.0

    pub at-paper : (new : Printing K) (line : List ℕ) (r : Reply L) → TwinPrints J (tells.given old.paper.sink) (tells.given new.sink) line r
        → (r ≡ reply.Done → new.live ≡ true) → (r ≡ reply.Failed → Rose (counts.print_faults old.paper.sink) (counts.print_faults new.sink))
        → counts.print_faults old.paper.sink ≤ counts.print_faults new.sink
        → DoneSo J tells counts old (record old { paper = new }) p (Print line) (Some r)
    at-paper new line r prints live failed on = record {
      suits = prints.suits;
      causes = record {
        failed = λ e. failed (same-reply r reply.Failed e);
        read = λ e. absurd (subst (ReplySuits J (Print line)) e prints.suits).0;
        limit = λ e. absurd (subst (ReplySuits J (Print line)) e prints.suits).0;
        limit_told = λ is over. absurd cc;
        unsound = λ unsound. inl unsound;
        read_on = same-least _;
        print_on = on;
        files_on = same-least _;
        spools_on = λ b. same-least _;
        deck_stays = λ not. refl;
      };
      gained = prints.gained;
      deck = refl;
      total = refl;
      files = refl;
      sound = λ may. may;
      deck_live = λ live a b. live;
      paper_live = λ was a. live (same-reply r reply.Done (a tt));
      fits = λ s st. print-done line r prints.suits;
      allowed = λ s st. prints.allowed s.devices;
      after = λ s hs st. record {
        deck = same-deck s.devices.deck ∙ st.deck;
        paper = ap (option_map (λ before. before ++ prints.gained)) st.paper ∙ prints.after;
        files = st.files;
        cards = st.cards;
        spools = st.spools;
        lines = st.lines;
        desk = st.desk;
      };
    }

    load-done : (file : List ℕ) (r : Reply L) → ReplySuits J (Load file) (Some r) → went (entry_for (Load file) (Some r)) ≡ Done
    load-done file (reply.Loaded load) suits = refl
    load-done file reply.Failed suits = refl
    load-done file reply.NoMemory suits = refl
    load-done file r suits = absurd suits.0

    pub at-files : (new : F) (sound : Bool) (file : List ℕ) (r : Reply L) → TwinLoads J (tells.files old.files) file r → tells.files new ≡ tells.files old.files
        → tells.file_pages new ≡ tells.file_pages old.files → (MayLoad tells old → MayLoad tells (record old { files = new; sound = sound }))
        → (r ≡ reply.Failed → (old.sound ≡ false) ⊎ Rose (counts.file_faults old.files) (counts.file_faults new))
        → counts.file_faults old.files ≤ counts.file_faults new
        → (sound ≡ false → (old.sound ≡ false) ⊎ Rose (counts.file_faults old.files) (counts.file_faults new))
        → DoneSo J tells counts old (record old { files = new; sound = sound }) p (Load file) (Some r)
    at-files new sound file r is found left may failed on unsound = record {
      suits = is.suits;
      causes = record {
        failed = λ e. failed (same-reply r reply.Failed e);
        read = λ e. absurd (subst (ReplySuits J (Load file)) e is.suits).0;
        limit = λ e. absurd (subst (ReplySuits J (Load file)) e is.suits).0;
        limit_told = λ same over. absurd cc;
        unsound = unsound;
        read_on = same-least _;
        print_on = same-least _;
        files_on = on;
        spools_on = λ b. same-least _;
        deck_stays = λ not. refl;
      };
      gained = [];
      deck = refl;
      total = refl;
      files = left;
      sound = may;
      deck_live = λ live a b. live;
      paper_live = λ live a. live;
      fits = λ s st. load-done file r is.suits;
      allowed = λ s st. is.allowed s.devices st.files;
      after = λ s hs st. record {
        deck = same-deck s.devices.deck ∙ st.deck;
        paper = same-paper s.devices.paper ∙ st.paper;
        files = st.files ∙ sym found;
        cards = st.cards;
        spools = st.spools;
        lines = st.lines;
        desk = st.desk;
      };
    }

    -- ---- at none of them
    pub at-none : (action : Action) → NoDevice action → NeverFails action → ReplySuits J action (Some reply.Done)
        → call p action ≡ Rattle.network_law.specs.Acts.Alone
        → went {L = L} (entry_for action (Some reply.Done)) ≡ Done → DoneSo J tells counts old old p action (Some reply.Done)
    at-none action quiet never suits e done = record {
      suits = suits;
      causes = quiet-causes J counts old old action (Some reply.Done) suits never refl refl;
      gained = [];
      deck = (silent action (Some reply.Done) quiet).none_drawn _;
      total = refl;
      files = refl;
      sound = λ may. may;
      deck_live = λ live a b. live;
      paper_live = λ live a. live;
      fits = λ s st. rw e done;
      allowed = λ s st. (silent action (Some reply.Done) quiet).allowed s.devices;
      after = λ s hs st. record {
        deck = deck-stays tells counts old p action (Some reply.Done) s (silent action (Some reply.Done) quiet) st.deck;
        paper = paper-stays tells counts old p action (Some reply.Done) s st.paper;
        files = st.files;
        cards = rw e st.cards;
        spools = rw e st.spools;
        lines = rw e st.lines;
        desk = rw e st.desk;
      };
    }

  -- ---- by what the action is
  pub at-action : {X S K F A : Type 0} (tells : TwinTells L S K F A) (counts : TwinCounts S K F A) (old new : TwinShared X S K F A) (p : ℕ)
      (a b : TwinAction) (result : Option (Reply L)) → a ≡ b
      → DoneSo J tells counts old new p (meant b) result → DoneSo J tells counts old new p (meant a) result
  at-action tells counts old new p a b result e is = subst (λ a. DoneSo J tells counts old new p (meant a) result) (sym e) is
