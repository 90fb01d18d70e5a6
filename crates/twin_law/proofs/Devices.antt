-- Each enabled event keeps what the deck, the paper and the files tell.
use Rattle.std.proofs.Common.{◌≡◌, inl, inr, ℕ, zero, suc, ◌||◌, true, false, List, [], ◌∷◌, ◌++◌, length, drop, Option, None, Some, refl, sym, ◌∙◌, ap, subst, option_map, arith}
use Rattle.std.proofs.lemmas.List.{append_assoc, append-nil}
use Rattle.std.proofs.lemmas.Bool.Decides.{eqb_tells}
use Rattle.network_run.specs.Law.{AreEnabled, run}
use Rattle.network_law.specs.Network.{IsEnabled, IsOne, happens, opening}
use Rattle.network_law.specs.Network as law
use Rattle.network_law.specs.Kept.{Stands}
use Rattle.network_law.proofs.Numbers.{set-same, set-other}
use Rattle.network_law.proofs.Reached.{stands-event, opening-stands}
use Rattle.solo_base.specs.declared.item.Item.{Item}
use Rattle.solo_devices.specs.declared.card_read.CardRead.{CardRead}
use Rattle.solo_devices.specs.CardUnit.{item_of}
use Rattle.page_codec.specs.Items.{AreItems}
use Rattle.batch_procs.specs.Jobs.{Jobs, FilesAs}
use Rattle.place_law.specs.Process.{Does, LacksMemory, Delays, action_of}
use Rattle.solo_devices.specs.declared.card_read.CardRead.TheVariants as read
use Rattle.batch_procs.specs.declared.actions.Reply.TheVariants as reply
use Rattle.twin_law.specs.Process.{Action, ReadCard, PutFeed, TakeFeed, AwaitRoom, AwaitItem, Request, PutPage, TakePage, Load, Release, Local, Print, Stop, Ended, Entry, next_action}
use Rattle.twin_law.specs.Ends.{card}
use Rattle.twin_law.specs.Table.{process}
use Rattle.twin_law.specs.Twin.{Suits, Devices, DeckGives, Allows, read_off, given, twin, TwinState, TwinEvent}
use Rattle.twin_law.specs.Opening.{size_of, told_of, AreCards, Opening, devices_at}
use Rattle.twin_law.specs.TheLaw.{the_law, first_state, IsReached}
use Rattle.twin_law.specs.Alone.{IsLoadedSo, AreLoadedSo}
use Rattle.twin_law.specs.Told.{read_all, reads_end, end_read}
use Rattle.twin_law.proofs.Lawful.{lawful}
use Rattle.twin_law.proofs.Open.{reads-first, prints-last}
use Rattle.twin_law.proofs.Paper.{PaperIs, paper-more}

-- ---- the deck
pub record DeckIs {L : Type 0} (items : List Item) (deck : Option (List Item)) (h : List (Entry L)) : Type 0 where
  pub left : List Item
  pub left_is : deck ≡ Some left
  pub parts : items ≡ read_all h ++ left
  pub ended : end_read h ≡ true → left ≡ []

drop-part : (front rest : List Item) → drop (length front) (front ++ rest) ≡ rest
drop-part [] rest = refl
drop-part (x ∷ front) rest = drop-part front rest

drop-items : (n : ℕ) (xs : List Item) → AreItems xs → AreItems (drop n xs)
drop-items zero xs are = are
drop-items (suc n) [] are = are
drop-items (suc n) (x ∷ xs) are = drop-items n xs are.1

deck-same : (some items : List Item) → Some some ≡ Some items → some ≡ items
deck-same some items e = cc

cards-left : (n : ℕ) (deck : Option (List Item)) → AreCards deck → AreCards (option_map (drop n) deck)
cards-left n None are items e = absurd cc
cards-left n (Some all) are items e = subst AreItems (deck-same (drop n all) items e) (drop-items n all (are all refl))

-- an entry that isn't a read leaves the deck
abbrev IsNoRead : Action → Type 0
IsNoRead ReadCard = ⊥
IsNoRead a = Unit {0}

not-read : (a : Action) → (a ≡ ReadCard → ⊥) → IsNoRead a
not-read ReadCard never = absurd (never refl)
not-read (PutFeed b f) never = tt
not-read (TakeFeed b) never = tt
not-read (AwaitRoom b) never = tt
not-read (AwaitItem b) never = tt
not-read Request never = tt
not-read (PutPage b page) never = tt
not-read (TakePage b) never = tt
not-read (Load file) never = tt
not-read Release never = tt
not-read Local never = tt
not-read (Print line) never = tt
not-read (Stop b) never = tt
not-read (Ended how) never = tt

drop-none : (deck : Option (List Item)) (left : List Item) (n : List Item) → n ≡ [] → deck ≡ Some left → option_map (drop (length n)) deck ≡ Some left
drop-none deck left n none e = ap (λ n. option_map (drop (length n)) deck) none ∙ ap (option_map (drop 0)) e

-- an entry that isn't a print
abbrev IsNoPrint : Action → Type 0
IsNoPrint (Print line) = ⊥
IsNoPrint a = Unit {0}

not-print : (a : Action) → ((line : List ℕ) → a ≡ Print line → ⊥) → IsNoPrint a
not-print (Print line) never = absurd (never line refl)
not-print ReadCard never = tt
not-print (PutFeed b f) never = tt
not-print (TakeFeed b) never = tt
not-print (AwaitRoom b) never = tt
not-print (AwaitItem b) never = tt
not-print Request never = tt
not-print (PutPage b page) never = tt
not-print (TakePage b) never = tt
not-print (Load file) never = tt
not-print Release never = tt
not-print Local never = tt
not-print (Stop b) never = tt
not-print (Ended how) never = tt

paper-none : (paper : Option (List ℕ)) (given gained part : List ℕ) → part ≡ [] → paper ≡ Some (given ++ gained) → option_map (λ before. before ++ part) paper ≡ Some (given ++ gained)
paper-none paper given gained part none e =
    ap (λ part. option_map (λ before. before ++ part) paper) none ∙ ap (option_map (λ before. before ++ [])) e ∙ ap Some (append-nil (given ++ gained))

module _ {L : Type 0} where
  read-nothing : (entry : Entry L) → IsNoRead (action_of entry) → read_off entry ≡ []
  read-nothing (Does ReadCard r) never = absurd never
  read-nothing (Does a r) never = refl
  read-nothing (LacksMemory a r) never = refl
  read-nothing (Delays a) never = refl

  deck-still : (items : List Item) (deck : Option (List Item)) (h : List (Entry L)) (entry : Entry L) → read_off entry ≡ [] → DeckIs items deck h
      → DeckIs items (option_map (drop (length (read_off entry))) deck) h
  deck-still items deck h entry none d = record { left = d.left; left_is = drop-none deck d.left (read_off entry) none d.left_is; parts = d.parts; ended = d.ended }

  -- one more entry of the card process
  end-of : (answer : CardRead) (h : List (Entry L)) (left rest : List Item) → left ≡ item_of answer ++ rest → (answer ≡ read.End → left ≡ []) → (end_read h ≡ true → left ≡ [])
      → (reads_end {L = L} (Does ReadCard (reply.Card answer)) || end_read h) ≡ true → rest ≡ []
  end-of (read.Card line) h left rest is none old e = absurd (let never = sym (old e) ∙ is in cc)
  end-of read.Spoiled h left rest is none old e = absurd (let never = sym (old e) ∙ is in cc)
  end-of read.End h left rest is none old e = sym is ∙ none refl
  end-of read.Failed h left rest is none old e = sym is ∙ old e
  end-of read.Limit h left rest is none old e = sym is ∙ old e

  read-one : (devices : Devices L) (items : List Item) (h : List (Entry L)) (answer : CardRead) → DeckGives devices.deck answer → DeckIs items devices.deck h
      → DeckIs items (option_map (drop (length (item_of answer))) devices.deck) (Does ReadCard (reply.Card answer) ∷ h)
  read-one devices items h answer gives d =
      let (rest, is) = gives.item d.left d.left_is in
      record {
        left = rest;
        left_is = ap (option_map (drop (length (item_of answer)))) (d.left_is ∙ ap Some is) ∙ ap Some (drop-part (item_of answer) rest);
        parts = d.parts ∙ ap (λ left. read_all h ++ left) is ∙ sym (append_assoc (read_all h) (item_of answer) rest);
        ended = end-of answer h d.left rest is (gives.end d.left d.left_is) d.ended;
      }

  same-left : (items : List Item) (deck : Option (List Item)) (h : List (Entry L)) (entry : Entry L) → read_off entry ≡ [] → reads_end entry ≡ false → DeckIs items deck h
      → DeckIs items (option_map (drop (length (read_off entry))) deck) (entry ∷ h)
  same-left items deck h entry none still d = record {
    left = d.left;
    left_is = drop-none deck d.left (read_off entry) none d.left_is;
    parts = d.parts ∙ ap (λ all. all ++ d.left) (sym (append-nil (read_all h)) ∙ ap (λ off. read_all h ++ off) (sym none));
    ended = λ e. d.ended (ap (λ t. t || end_read h) (sym still) ∙ e);
  }

  deck-more : (J : Jobs L) (devices : Devices L) (items : List Item) (h : List (Entry L)) (entry : Entry L) (part : List ℕ) → Suits J card entry → Allows devices entry part
      → DeckIs items devices.deck h → DeckIs items (option_map (drop (length (read_off entry))) devices.deck) (entry ∷ h)
  deck-more J devices items h (Does ReadCard (reply.Card answer)) part suits allows d = read-one devices items h answer allows.0 d
  deck-more J devices items h (Does ReadCard r) part suits allows d = absurd suits.0
  deck-more J devices items h (Does a r) part suits allows d = same-left items devices.deck h (Does a r) refl refl d
  deck-more J devices items h (LacksMemory a r) part suits allows d = same-left items devices.deck h (LacksMemory a r) refl refl d
  deck-more J devices items h (Delays a) part suits allows d = same-left items devices.deck h (Delays a) refl refl d

  -- ---- the paper: an entry that isn't a print
  gains-nothing : (devices : Devices L) (entry : Entry L) (part : List ℕ) → IsNoPrint (action_of entry) → Allows devices entry part → part ≡ []
  gains-nothing devices (Does (Print line) r) part never allows = absurd never
  gains-nothing devices (Does ReadCard (reply.Card answer)) part never allows = allows.1
  gains-nothing devices (Does (Load file) (reply.Loaded load)) part never allows = allows.1
  gains-nothing devices (Does a r) part never allows = allows
  gains-nothing devices (LacksMemory a r) part never allows = allows
  gains-nothing devices (Delays a) part never allows = allows

  -- ---- the files
  loaded-so : (devices : Devices L) (entry : Entry L) (part : List ℕ) (found : FilesAs L) → devices.files ≡ Some found → Allows devices entry part → IsLoadedSo found entry
  loaded-so devices (Does (Load file) (reply.Loaded load)) part found told allows = allows.0 found told
  loaded-so devices (Does a r) part found told allows = tt
  loaded-so devices (LacksMemory a r) part found told allows = tt
  loaded-so devices (Delays a) part found told allows = tt

  -- ---- the whole
  module _ (J : Jobs L) where
    pub record DevicesStand (start s : TwinState L) : Type 0 where
      pub deck : (items : List Item) → start.devices.deck ≡ Some items → DeckIs items s.devices.deck (s.histories 1)
      pub deck_untold : start.devices.deck ≡ None → s.devices.deck ≡ None
      pub cards : AreCards start.devices.deck → AreCards s.devices.deck
      pub paper : (given : List ℕ) → start.devices.paper ≡ Some given → PaperIs given s.devices.paper (s.histories 6)
      pub paper_untold : start.devices.paper ≡ None → s.devices.paper ≡ None
      pub files_same : s.devices.files ≡ start.devices.files
      pub loaded : (found : FilesAs L) → start.devices.files ≡ Some found → (p : ℕ) → AreLoadedSo found (s.histories p)

    module _ (start s : TwinState L) (event : TwinEvent L) (follows : (p : ℕ) → law.Follows (twin J) p (s.histories p)) (d : DevicesStand start s)
        (enabled : IsEnabled (twin J) s event) where
      abbrev p : ℕ
      p = event.process

      abbrev after : TwinState L
      after = happens (twin J) s event

      abbrev own : List (Entry L)
      own = event.entry ∷ s.histories event.process

      deck-after : (items : List Item) → start.devices.deck ≡ Some items → DeckIs items after.devices.deck (after.histories 1)
      deck-after items told =
          elim (eqb_tells p 1) as (λ _. DeckIs items after.devices.deck (after.histories 1)) [
            | inl is ↦
                subst (λ q. DeckIs items after.devices.deck (after.histories q)) is.1
                (subst (λ h. DeckIs items after.devices.deck h) (sym (set-same s.histories p own))
                (deck-more J s.devices items (s.histories p) event.entry event.gained (subst (λ q. Suits J (process J q) event.entry) is.1 enabled.suits) enabled.allowed
                (subst (λ q. DeckIs items s.devices.deck (s.histories q)) (sym is.1) (d.deck items told))))
            | inr differ ↦
                let none = read-nothing event.entry (not-read (action_of event.entry)
                (λ e. differ.1 (reads-first J p (s.histories p) enabled.one (enabled.next ∙ ap Some e)))) in
                subst (λ h. DeckIs items after.devices.deck h) (sym (set-other s.histories p own 1 (λ e. differ.1 (sym e))))
                (deck-still items s.devices.deck (s.histories 1) event.entry none (d.deck items told))
          ]

      paper-after : (given : List ℕ) → start.devices.paper ≡ Some given → PaperIs given after.devices.paper (after.histories 6)
      paper-after given told =
          elim (eqb_tells p 6) as (λ _. PaperIs given after.devices.paper (after.histories 6)) [
            | inl is ↦
                subst (λ h. PaperIs given after.devices.paper h) (sym (subst (λ q. after.histories q ≡ event.entry ∷ s.histories q) is.1 (set-same s.histories p own)))
                (paper-more J six s.devices given event.gained (s.histories 6) event.entry (subst (λ q. next_action (process J q) (s.histories q) ≡ Some (action_of event.entry)) is.1 enabled.next)
                (subst (λ q. Suits J (process J q) event.entry) is.1 enabled.suits) enabled.allowed (d.paper given told))
            | inr differ ↦
                let none = gains-nothing s.devices event.entry event.gained (not-print (action_of event.entry)
                (λ line e. differ.1 (prints-last J p (s.histories p) line enabled.one (enabled.next ∙ ap Some e)))) enabled.allowed in
                let is = d.paper given told in
                subst (λ h. PaperIs given after.devices.paper h) (sym (set-other s.histories p own 6 (λ e. differ.1 (sym e))))
                record { gained = is.gained; now_is = paper-none s.devices.paper given is.gained event.gained none is.now_is; free = is.free; part = is.part }
          ] where
            six : IsOne (twin J) 6
            six = (omega arith, omega arith)

      loaded-after : (found : FilesAs L) → start.devices.files ≡ Some found → (q : ℕ) → AreLoadedSo found (after.histories q)
      loaded-after found told q =
          elim (eqb_tells q p) as (λ _. AreLoadedSo found (after.histories q)) [
            | inl is ↦
                subst (λ q. AreLoadedSo found (after.histories q)) (sym is.1)
                (subst (AreLoadedSo found) (sym (set-same s.histories p own))
                (loaded-so s.devices event.entry event.gained found (d.files_same ∙ told) enabled.allowed, d.loaded found told p))
            | inr differ ↦ subst (AreLoadedSo found) (sym (set-other s.histories p own q differ.1)) (d.loaded found told q)
          ]

      pub keeps-devices : DevicesStand start after
      keeps-devices = record {
        deck = deck-after;
        deck_untold = λ e. ap (option_map (drop (length (read_off event.entry)))) (d.deck_untold e);
        cards = λ are. cards-left (length (read_off event.entry)) s.devices.deck (d.cards are);
        paper = paper-after;
        paper_untold = λ e. ap (option_map (λ before. before ++ event.gained)) (d.paper_untold e);
        files_same = d.files_same;
        loaded = loaded-after;
      }

    -- ---- along a run
    pub record Centre (start s : TwinState L) : Type 0 where
      pub stands : Stands (twin J) start s
      pub devices : DevicesStand start s

    pub centre-run : (start s : TwinState L) (events : List (TwinEvent L)) → AreEnabled (the_law J) s events → Centre start s → Centre start (run (the_law J) s events)
    centre-run start s [] are c = c
    centre-run start s (event ∷ events) are c =
        centre-run start (happens (twin J) s event) events are.1 record {
          stands = stands-event (lawful J) start s event c.stands are.0;
          devices = keeps-devices start s event c.stands.follows c.devices are.0;
        }

    nothing-read : (items : List Item) (deck : Option (List Item)) → deck ≡ Some items → DeckIs {L = L} items deck []
    nothing-read items deck e = record { left = items; left_is = e; parts = refl; ended = λ never. absurd cc }

    nothing-printed : (given : List ℕ) (paper : Option (List ℕ)) → paper ≡ Some given → PaperIs {L = L} given paper []
    nothing-printed given paper e = record { gained = []; now_is = e ∙ ap Some (sym (append-nil given)); free = λ _. refl; part = ([], refl) }

    pub opening-centre : (o : Opening J) → Centre (first_state o) (first_state o)
    opening-centre o = record {
      stands = opening-stands (twin J) (devices_at o) (size_of o.spools) (told_of o.spools);
      devices = record {
        deck = λ items e. nothing-read items o.deck e;
        deck_untold = λ e. e;
        cards = λ are. are;
        paper = λ given e. nothing-printed given o.paper e;
        paper_untold = λ e. e;
        files_same = refl;
        loaded = λ found e p. tt;
      };
    }

    pub reached-centre : (o : Opening J) (s : TwinState L) → IsReached o s → Centre (first_state o) s
    reached-centre o s reached =
        subst (Centre (first_state o)) reached.leads (centre-run (first_state o) (first_state o) reached.events reached.enabled (opening-centre o))
