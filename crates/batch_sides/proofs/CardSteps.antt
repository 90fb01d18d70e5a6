-- One action of the card process more: that it may perform it, and what its side has become.
use Rattle.std.proofs.Common.{◌≡◌, ℕ, List, [], ◌∷◌, ◌++◌, Option, Some, refl, sym, ◌∙◌, ap, subst}
use Rattle.solo_base.specs.declared.outcome.Side.TheVariants.{Sender}
use Rattle.monitor_gate.specs.Calls.{after_call}
use Rattle.resource_mon.specs.Seats.{Pass}
use Rattle.solo_base.specs.declared.item.Feed.{Feed}
use Rattle.solo_devices.specs.CardUnit.{Held}
use Rattle.slot_buffer.specs.declared.call.SlotCall.{SlotCall}
use Rattle.slot_buffer.specs.declared.call.SlotCall.TheVariants as slot
use Rattle.batch_procs.specs.declared.actions.Action.{Action}
use Rattle.batch_procs.specs.declared.actions.Action.TheVariants as act
use Rattle.batch_procs.specs.declared.actions.Reply.{Reply}
use Rattle.batch_procs.specs.declared.actions.Reply.TheVariants as reply
use Rattle.batch_procs.specs.Causes.{caused, given_cause}
use Rattle.batch_procs.specs.History.{Entry, Does}
use Rattle.batch_procs.specs.Jobs.{Jobs, AreJobs}
use Rattle.batch_procs.specs.Process.{Follows, next_action}
use Rattle.batch_procs.specs.Relays.{card-relay}
use Rattle.batch_procs.specs.Table.{card}
use Rattle.batch_procs.proofs.Closing.{or-none}
use Rattle.batch_procs.proofs.Relay.{open-next}
use Rattle.batch_sides.specs.declared.card_side.CardSide.{CardSide}
use Rattle.batch_sides.specs.Calls.{line_calls}
use Rattle.batch_sides.specs.Cards.{CardMayMake, CardMade, CardRan, DeckRan, cards_read, does_card, newest_read}
use Rattle.batch_sides.specs.Running.{Performed}
use Rattle.batch_sides.proofs.Decks.{deck-read}
use Rattle.batch_sides.proofs.LineCalls.{not-stopped}
use Rattle.batch_sides.proofs.DoesOnly.{card-does}
use Rattle.batch_sides.proofs.Performing.{both-as, only-does}

module _ {L : Type 0} {J : Jobs L} (jobs : AreJobs J) where
  module _ {S : Type 0} (left : S → Option (List ℕ)) (taken faults : S → ℕ) where
    -- a deck that isn't read
    deck-still : (start now : Held S) (h : List (Entry L)) (a : Action) (r : Reply L) → cards_read (Does a r ∷ h) ≡ cards_read h
        → newest_read (Does a r ∷ h) ≡ newest_read h → DeckRan left taken faults start now h → DeckRan left taken faults start now (Does a r ∷ h)
    deck-still start now h a r cards newest ran = record {
      reads = λ items told.
          let (rest, ahead, parts, end) = ran.reads items told in
          (rest, ahead, parts ∙ ap (λ read. read ++ rest) (sym cards), (λ is. end (sym newest ∙ is)));
      all = λ is. ran.all (sym newest ∙ is);
      counts = ran.counts;
      failed = λ is. ran.failed (sym newest ∙ is);
      limit = λ is. ran.limit (sym newest ∙ is);
      longer = λ few over. newest ∙ ran.longer few over;
      total = ran.total;
      live = λ none. ran.live (or-none (caused h) (given_cause a r h) none);
    }

    module _ (start old : CardSide S) (h : List (Entry L)) (follows : Follows J card h) (had : Option Pass)
        (ran : CardRan left taken faults start old had h) where
      pub card-may : (a : Action) → does_card a → next_action card h ≡ Some a → CardMayMake old a
      card-may act.ReadCard does next = ran.deck.live (open-next J card h act.ReadCard next tt)
      card-may (act.PutFeed f) does next =
          (ran.gate.1, not-stopped jobs card Sender 1 h (act.PutFeed f) old.lines.calls (card-relay L) follows next tt ran.calls)
      card-may (act.Stop b) does next = ran.gate.1
      card-may (act.Ended how) does next = tt
      card-may other does next = absurd does

      -- a call of the line buffer
      called : (a : Action) (r : Reply L) (call : SlotCall Feed) → line_calls Sender 1 (Does a r ∷ h) ≡ line_calls Sender 1 h ++ call ∷ []
          → cards_read (Does a r ∷ h) ≡ cards_read h → newest_read (Does a r ∷ h) ≡ newest_read h
          → CardRan left taken faults start (record old { lines = after_call old.lines call }) had (Does a r ∷ h)
      called a r call calls cards newest = record {
        gate = ran.gate;
        calls = ap (λ calls. calls ++ call ∷ []) ran.calls ∙ sym calls;
        deck = deck-still start.deck old.deck h a r cards newest ran.deck;
        none = ran.none;
      }

      module _ (new : CardSide S) (has : Option Pass) where
        abbrev Stood : List (Entry L) → Type 0
        Stood = CardRan left taken faults start new has

        as-new : (h : List (Entry L)) (after : CardSide S) → (new ≡ after) × (has ≡ had) → CardRan left taken faults start after had h → Stood h
        as-new h after e stands = both-as (λ new has. CardRan left taken faults start new has h) e.0 e.1 stands

        pub card-did : (a : Action) (r : Reply L) → does_card a → next_action card h ≡ Some a → CardMade left taken faults old had new has a r
            → Performed J Stood a r h
        card-did act.ReadCard (reply.Card answer) does next did =
            let read = did.2 in
            only-does J act.ReadCard (reply.Card answer) h read.items (λ may. may)
            (as-new (Does act.ReadCard (reply.Card answer) ∷ h) (record old { deck = new.deck }) (did.0, did.1) record {
              gate = ran.gate;
              calls = ran.calls;
              deck = deck-read jobs start.deck old.deck new.deck h answer ran.deck read.next read.all_taken read.counts read.failed read.limit
                  read.live read.total;
              none = ran.none;
            })
        card-did (act.PutFeed f) reply.Done does next did =
            only-does J (act.PutFeed f) reply.Done h tt (λ may. may) (as-new _ _ did (called (act.PutFeed f) reply.Done (slot.Put f) refl refl refl))
        card-did (act.PutFeed f) reply.Stopped does next did =
            only-does J (act.PutFeed f) reply.Stopped h tt (λ may. may)
            (as-new _ _ did (called (act.PutFeed f) reply.Stopped (slot.PutRefused f) refl refl refl))
        card-did (act.Stop b) reply.Done does next did =
            subst (λ b. Performed J Stood (act.Stop b) reply.Done h) (sym does)
            (only-does J (act.Stop 1) reply.Done h tt (λ may. may) (as-new _ _ did (called (act.Stop 1) reply.Done (slot.Stop Sender) refl refl refl)))
        card-did (act.Ended how) reply.Done does next did =
            only-does J (act.Ended how) reply.Done h tt (λ may. may)
            (as-new (Does (act.Ended how) reply.Done ∷ h) old did record {
              gate = ran.gate;
              calls = ran.calls;
              deck = deck-still start.deck old.deck h (act.Ended how) reply.Done refl refl ran.deck;
              none = ran.none;
            })
        card-did a r does next did = absurd did

  -- ---- behind a history of its side
  module _ {S : Type 0} {left : S → Option (List ℕ)} {taken faults : S → ℕ} (start old : CardSide S) (had : Option Pass) (h : List (Entry L)) (a : Action)
      (ran : CardRan left taken faults start old had h)
      (follows : Follows J card h) (next : next_action card h ≡ Some a) where
    pub card-may_next : CardMayMake old a
    card-may_next = card-may left taken faults start old h follows had ran a (card-does jobs h a follows next) next

    pub card-did_next : (new : CardSide S) (has : Option Pass) (r : Reply L) → CardMade left taken faults old had new has a r → Performed J
        (CardRan left taken faults start new has) a r h
    card-did_next new has r did = card-did left taken faults start old h follows had ran new has a r (card-does jobs h a follows next) next did
