-- Each enabled event keeps what the deck and the paper tell.
use Rattle.std.proofs.Common.{◌≡◌, ℕ, zero, suc, Bool, true, false, ◌||◌, List, [], ◌∷◌, ◌++◌, length, drop, Option, None, Some, refl, sym, ◌∙◌, ap, subst, append_assoc, option_map}
use Rattle.std.proofs.lemmas.List.{append-nil}
use Rattle.solo_base.specs.declared.item.Item.{Item}
use Rattle.solo_base.specs.declared.item.Item.TheVariants.{Line, Spoiled}
use Rattle.solo_base.specs.declared.item.Feed.TheVariants as feed
use Rattle.solo_base.specs.Text.{line_text}
use Rattle.solo_devices.specs.declared.card_read.CardRead.{CardRead}
use Rattle.solo_devices.specs.declared.card_read.CardRead.TheVariants as read
use Rattle.solo_devices.specs.CardUnit.{item_of}
use Rattle.page_codec.specs.Items.{AreItems}
use Rattle.solo_base.specs.Prefixes.{IsPrefixOf}
use Rattle.batch_procs.specs.declared.actions.Action.{Action}
use Rattle.batch_procs.specs.declared.actions.Action.TheVariants as act
use Rattle.batch_procs.specs.declared.actions.Reply.{Reply}
use Rattle.batch_procs.specs.declared.actions.Reply.TheVariants as reply
use Rattle.batch_procs.specs.Parcels.{Parcel, OfFeed, OfPage, OfLine, OfLoad, is_last, is_ended}
use Rattle.batch_procs.specs.History.{Entry, Does, LacksMemory, Delays, action_of, card_taken, taken, taken_by, put, put_by}
use Rattle.batch_procs.specs.Fits.{Fits, MayLack}
use Rattle.batch_procs.specs.Process.{Process, IsFitting, next_action}
use Rattle.batch_procs.specs.Laws.{IsTake}
use Rattle.core_law.specs.Core.{Devices, DeckGives, Allows, items_by, read_off}
use Rattle.core_law.specs.Opening.{AreCards}
use Rattle.core_law.proofs.Streams.{deck_parcels, text_of, ReadsOf}
use Rattle.core_law.proofs.Taking.{next-take}
use Rattle.core_law.proofs.Passed.{IsNoPrint, IsNoRead}
use Rattle.core_law.proofs.Loading.{plain-reply}
use Rattle.batch_procs.specs.Jobs.{Jobs, AreJobs}

-- ---- the deck
-- what is left of cards are cards
drop-items : (n : ℕ) (xs : List Item) → AreItems xs → AreItems (drop n xs)
drop-items zero xs are = are
drop-items (suc n) [] are = are
drop-items (suc n) (x ∷ xs) are = drop-items n xs are.1

deck-same : (some items : List Item) → Some some ≡ Some items → some ≡ items
deck-same some items e = cc

pub cards-left : (n : ℕ) (deck : Option (List Item)) → AreCards deck → AreCards (option_map (drop n) deck)
cards-left n None are items e = absurd cc
cards-left n (Some all) are items e = subst AreItems (deck-same (drop n all) items e) (drop-items n all (are all refl))

pub prefix-longer : {X : Type 0} (part some whole : List X) → IsPrefixOf part some → IsPrefixOf some whole → IsPrefixOf part whole
prefix-longer part some whole (a, e) (b, g) = (a ++ b, sym (append_assoc part a b) ∙ ap (λ xs. xs ++ b) e ∙ g)

module _ {L : Type 0} {J : Jobs L} (jobs : AreJobs J) where
  or-assoc : (a b c t : Bool) → t ≡ (b || c) → (a || t) ≡ ((a || b) || c)
  or-assoc true b c t e = refl
  or-assoc false b c t e = e

  pub ended-more : (read more : List (Parcel L)) → is_ended (read ++ more) ≡ (is_ended read || is_ended more)
  ended-more [] more = refl
  ended-more (x ∷ read) more = or-assoc (is_last x) (is_ended read) (is_ended more) (is_ended (read ++ more)) (ended-more read more)

  reads-nothing : (items : List Item) (deck : Option (List Item)) (read : List (Parcel L)) → ReadsOf jobs items deck read
      → ReadsOf jobs items (option_map (drop 0) deck) (read ++ [])
  reads-nothing items deck read r =
      let same = append-nil read in
      record {
        left = r.left;
        left_is = ap (option_map (drop 0)) r.left_is;
        parts = λ e. ap (λ xs. xs ++ deck_parcels jobs r.left) same ∙ r.parts (ap is_ended (sym same) ∙ e);
        whole = λ e. (same ∙ (r.whole (ap is_ended (sym same) ∙ e)).0, (r.whole (ap is_ended (sym same) ∙ e)).1);
      }

  -- a card more
  reads-item : (items : List Item) (deck : Option (List Item)) (read : List (Parcel L)) (item : Item) (rest : List Item) → is_ended read ≡ false
      → (r : ReadsOf jobs items deck read) → r.left ≡ item ∷ rest
      → ReadsOf jobs items (option_map (drop 1) deck) (read ++ OfFeed (feed.Item item) ∷ [])
  reads-item items deck read item rest goes_on r first =
      let all = append_assoc read (OfFeed (feed.Item item) ∷ []) (deck_parcels jobs rest) ∙ ap (λ left. read ++ deck_parcels jobs left) (sym first)
      ∙ r.parts goes_on in
      let not_yet : is_ended (read ++ OfFeed (feed.Item item) ∷ []) ≡ false = ended-more read (OfFeed (feed.Item item) ∷ []) ∙ rw goes_on refl in
      record {
        left = rest;
        left_is = ap (option_map (drop 1)) (r.left_is ∙ ap Some first);
        parts = λ e. all;
        whole = λ e. absurd (let off = not_yet in cc);
      }

  reads-end : (items : List Item) (deck : Option (List Item)) (read : List (Parcel L)) → is_ended read ≡ false → (r : ReadsOf jobs items deck read)
      → r.left ≡ []
      → ReadsOf jobs items (option_map (drop 0) deck) (read ++ OfFeed feed.End ∷ [])
  reads-end items deck read goes_on r none =
      let now : is_ended (read ++ OfFeed feed.End ∷ []) ≡ true = ended-more read (OfFeed feed.End ∷ []) ∙ rw goes_on refl in
      record {
        left = r.left;
        left_is = ap (option_map (drop 0)) r.left_is;
        parts = λ e. absurd (let on = now in cc);
        whole = λ e. (ap (λ left. read ++ deck_parcels jobs left) (sym none) ∙ r.parts goes_on, none);
      }

  reads-card : (items : List Item) (deck : Option (List Item)) (h : List (Parcel L)) (answer : CardRead) → is_ended h ≡ false → DeckGives deck answer
      → ReadsOf jobs items deck h
      → ReadsOf jobs items (option_map (drop (length (item_of answer))) deck) (h ++ card_taken answer)
  reads-card items deck h (read.Card line) goes_on gives r = let (rest, first) = gives.item r.left r.left_is in
      reads-item items deck h (Line line) rest goes_on r first
  reads-card items deck h read.Spoiled goes_on gives r = let (rest, first) = gives.item r.left r.left_is in reads-item items deck h Spoiled rest goes_on r first
  reads-card items deck h read.End goes_on gives r = reads-end items deck h goes_on r (gives.end r.left r.left_is refl)
  reads-card items deck h read.Failed goes_on gives r = reads-nothing items deck h r
  reads-card items deck h read.Limit goes_on gives r = reads-nothing items deck h r

  reads-answer : (items : List Item) (devices : Devices L) (h : List (Parcel L)) (r : Reply L) (gained : List ℕ) → is_ended h ≡ false → Fits J act.ReadCard r
      → Allows devices (Does act.ReadCard r) gained → ReadsOf jobs items devices.deck h
      → ReadsOf jobs items (option_map (drop (length (items_by r))) devices.deck) (h ++ taken_by r)
  reads-answer items devices h (reply.Card answer) gained goes_on fits allows r = reads-card items devices.deck h answer goes_on allows.0 r
  reads-answer items devices h r gained goes_on fits allows reads = absurd fits

  reads-plain : (items : List Item) (deck : Option (List Item)) (read more : List (Parcel L)) → more ≡ [] → ReadsOf jobs items deck read
      → ReadsOf jobs items (option_map (drop 0) deck) (read ++ more)
  reads-plain items deck read more none r = rw none (reads-nothing items deck read r)

  pub reads-still : (items : List Item) (deck : Option (List Item)) (read : List (Parcel L)) → ReadsOf jobs items deck read → ReadsOf jobs items
      (option_map (drop 0) deck) read
  reads-still items deck read r = subst (ReadsOf jobs items (option_map (drop 0) deck)) (append-nil read) (reads-nothing items deck read r)

  takes-card : (p : Process L) (h : List (Entry L)) (a : Action) → p.takes ≡ act.ReadCard → next_action p h ≡ Some a → IsTake a → a ≡ act.ReadCard
  takes-card p h a first next take = sym (next-take jobs p h a next take).same ∙ first

  lacks-nothing : (p : Process L) (h : List (Entry L)) (a : Action) (r : Reply L) → p.takes ≡ act.ReadCard → next_action p h ≡ Some a → MayLack a r
      → taken_by r ≡ []
  lacks-nothing p h act.TakePage r first next may = absurd (let e = takes-card p h act.TakePage first next tt in cc)
  lacks-nothing p h act.Local reply.Done first next may = refl
  lacks-nothing p h a r first next may = absurd may

  pub reads-own : (p : Process L) (devices : Devices L) (entry : Entry L) (h : List (Entry L)) (gained : List ℕ) (items : List Item) → p.takes ≡ act.ReadCard
      → ((file : List ℕ) → next_action p h ≡ Some (act.Load file) → ⊥) → next_action p h ≡ Some (action_of entry) → IsFitting J p entry
      → Allows devices entry gained
      → ReadsOf jobs items devices.deck (taken h) → ReadsOf jobs items (option_map (drop (length (read_off entry))) devices.deck) (taken (entry ∷ h))
  reads-own p devices (Does (act.Load file) r) h gained items first not next fits allows reads = absurd (not file next)
  reads-own p devices (Does act.ReadCard r) h gained items first not next fits allows reads =
      reads-answer items devices (taken h) r gained (next-take jobs p h act.ReadCard next tt).goes_on fits allows reads
  reads-own p devices (Does act.TakeFeed r) h gained items first not next fits allows reads = absurd (let e = takes-card p h act.TakeFeed first next tt in cc)
  reads-own p devices (Does act.TakePage r) h gained items first not next fits allows reads = absurd (let e = takes-card p h act.TakePage first next tt in cc)
  reads-own p devices (Does a r) h gained items first not next fits allows reads =
      reads-plain items devices.deck (taken h) (taken_by r) (plain-reply jobs a r fits tt) reads
  reads-own p devices (LacksMemory a r) h gained items first not next fits allows reads =
      reads-plain items devices.deck (taken h) (taken_by r) (lacks-nothing p h a r first next fits.1) reads
  reads-own p devices (Delays a) h gained items first not next fits allows reads = reads-still items devices.deck (taken h) reads

  pub read_off-none : (entry : Entry L) → IsNoRead (action_of entry) → read_off entry ≡ []
  read_off-none (Does act.ReadCard r) is = absurd is
  read_off-none (Does other r) is = refl
  read_off-none (LacksMemory a r) is = refl
  read_off-none (Delays a) is = refl

  -- ---- the text of lines
  pub text-more : (some more : List (Parcel L)) → text_of jobs (some ++ more) ≡ text_of jobs some ++ text_of jobs more
  text-more [] more = refl
  text-more (OfFeed f ∷ some) more = text-more some more
  text-more (OfPage page last ∷ some) more = text-more some more
  text-more (OfLoad load ∷ some) more = text-more some more
  text-more (OfLine line ∷ some) more = ap (λ rest. line_text line ++ rest) (text-more some more)
      ∙ sym (append_assoc (line_text line) (text_of jobs some) (text_of jobs more))

  pub text-part : (part whole : List (Parcel L)) → IsPrefixOf part whole → IsPrefixOf (text_of jobs part) (text_of jobs whole)
  text-part part whole (rest, e) = (text_of jobs rest, sym (text-more part rest) ∙ ap (text_of jobs) e)

  if-no_text : (r : Reply L) (parcel : Parcel L) → text_of jobs (parcel ∷ []) ≡ [] → text_of jobs (Rattle.batch_procs.specs.History.if_done r parcel) ≡ []
  if-no_text reply.Done parcel e = e
  if-no_text other parcel e = refl

  put-no_text : (a : Action) (r : Reply L) → IsNoPrint a → text_of jobs (put_by a r) ≡ []
  put-no_text (act.PutFeed f) r is = if-no_text r _ refl
  put-no_text (act.PutPage page) r is = if-no_text r _ refl
  put-no_text (act.Print line) r is = absurd is
  put-no_text other r is = refl

  pub entry-no_text : (entry : Entry L) → IsNoPrint (action_of entry) → text_of jobs (put entry) ≡ []
  entry-no_text (Does a r) is = put-no_text a r is
  entry-no_text (LacksMemory a r) is = refl
  entry-no_text (Delays a) is = refl

  -- ---- only a print gives the paper something
  read-gained : (devices : Devices L) (r : Reply L) (gained : List ℕ) → Fits J act.ReadCard r → Allows devices (Does act.ReadCard r) gained → gained ≡ []
  read-gained devices (reply.Card answer) gained fits allows = allows.1
  read-gained devices r gained fits allows = absurd fits

  load-gained : (devices : Devices L) (file : List ℕ) (r : Reply L) (gained : List ℕ) → Fits J (act.Load file) r
      → Allows devices (Does (act.Load file) r) gained
      → gained ≡ []
  load-gained devices file (reply.Loaded load) gained fits allows = allows.1
  load-gained devices file reply.Failed gained fits allows = allows
  load-gained devices file reply.NoMemory gained fits allows = allows
  load-gained devices file r gained fits allows = absurd fits

  pub gained-none : (p : Process L) (devices : Devices L) (entry : Entry L) (gained : List ℕ) → IsFitting J p entry → IsNoPrint (action_of entry)
      → Allows devices entry gained → gained ≡ []
  gained-none p devices (Does act.ReadCard r) gained fits is allows = read-gained devices r gained fits allows
  gained-none p devices (Does (act.Load file) r) gained fits is allows = load-gained devices file r gained fits allows
  gained-none p devices (Does (act.Print line) r) gained fits is allows = absurd is
  gained-none p devices (Does a r) gained fits is allows = allows
  gained-none p devices (LacksMemory a r) gained fits is allows = allows
  gained-none p devices (Delays a) gained fits is allows = allows
