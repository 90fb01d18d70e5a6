-- What the card process took of whatever deck: cards, and at most the end behind them.
use Rattle.std.proofs.Common.{◌≡◌, Bool, true, false, List, [], ◌∷◌, ◌++◌, None, Some, refl, sym, ◌∙◌, ap, subst}
use Rattle.std.proofs.lemmas.List.{append-nil}
use Rattle.solo_base.specs.declared.item.Item.{Item}
use Rattle.solo_base.specs.declared.item.Item.TheVariants.{Line, Spoiled}
use Rattle.solo_base.specs.declared.item.Feed.TheVariants as feed
use Rattle.solo_devices.specs.declared.card_read.CardRead.{CardRead}
use Rattle.solo_devices.specs.declared.card_read.CardRead.TheVariants as read
use Rattle.solo_devices.specs.CardUnit.{item_of}
use Rattle.page_codec.specs.Items.{AreItems}
use Rattle.batch_procs.specs.declared.actions.Action.{Action}
use Rattle.batch_procs.specs.declared.actions.Action.TheVariants as act
use Rattle.batch_procs.specs.declared.actions.Reply.{Reply}
use Rattle.batch_procs.specs.declared.actions.Reply.TheVariants as reply
use Rattle.batch_procs.specs.Parcels.{Parcel, OfFeed, is_ended}
use Rattle.batch_procs.specs.History.{Entry, Does, LacksMemory, Delays, card_taken, taken, taken_by}
use Rattle.batch_procs.specs.Fits.{Fits, MayLack}
use Rattle.batch_procs.specs.Process.{Follows, next_action}
use Rattle.batch_procs.specs.Table.{process}
use Rattle.core_law.proofs.Ends.{the-five}
use Rattle.core_law.proofs.KeepsDevices.{ended-more}
use Rattle.core_law.proofs.Loading.{wants-none, plain-reply}
use Rattle.core_law.proofs.Streams.{deck_parcels, ReadsOf}
use Rattle.core_law.proofs.Taking.{next-take}
use Rattle.batch_procs.specs.Jobs.{Jobs, AreJobs}

module _ {L : Type 0} {J : Jobs L} (jobs : AreJobs J) where
  -- ---- cards as parcels
  abbrev card_parcels : List Item → List (Parcel L)
  card_parcels [] = []
  card_parcels (item ∷ items) = OfFeed (feed.Item item) ∷ card_parcels items

  cards-more : (some more : List Item) → card_parcels (some ++ more) ≡ card_parcels some ++ card_parcels more
  cards-more [] more = refl
  cards-more (item ∷ some) more = ap (λ ps. OfFeed (feed.Item item) ∷ ps) (cards-more some more)

  cards-end : (items : List Item) → card_parcels items ++ deck_parcels jobs [] ≡ deck_parcels jobs items
  cards-end [] = refl
  cards-end (item ∷ items) = ap (λ ps. OfFeed (feed.Item item) ∷ ps) (cards-end items)

  cards-go_on : (items : List Item) → is_ended (card_parcels items) ≡ false
  cards-go_on [] = refl
  cards-go_on (item ∷ items) = cards-go_on items

  items-more : (some more : List Item) → AreItems some → AreItems more → AreItems (some ++ more)
  items-more [] more a b = b
  items-more (item ∷ some) more a b = (a.0, items-more some more a.1 b)

  -- These cards were taken, and the end where it was.
  pub record CardsRead (read : List (Parcel L)) : Type 0 where
    pub items : List Item
    pub are : AreItems items
    pub goes_on : is_ended read ≡ false → read ≡ card_parcels items
    pub ended : is_ended read ≡ true → read ≡ deck_parcels jobs items

  -- they are what is read of a deck of these cards
  pub read-so : (read : List (Parcel L)) (seen : CardsRead read) → ReadsOf jobs seen.items (Some []) read
  read-so read seen = record {
    left = [];
    left_is = refl;
    parts = λ on. ap (λ ps. ps ++ deck_parcels jobs []) (seen.goes_on on) ∙ cards-end seen.items;
    whole = λ end. (seen.ended end, refl);
  }

  -- ---- one more
  read-item : (read : List (Parcel L)) (item : Item) → CardsRead read → is_ended read ≡ false → AreItems (item ∷ [])
      → CardsRead (read ++ OfFeed (feed.Item item) ∷ [])
  read-item read item seen on is =
      let now : read ++ OfFeed (feed.Item item) ∷ [] ≡ card_parcels (seen.items ++ item ∷ []) =
      ap (λ ps. ps ++ OfFeed (feed.Item item) ∷ []) (seen.goes_on on) ∙ sym (cards-more seen.items (item ∷ [])) in
      record {
        items = seen.items ++ item ∷ [];
        are = items-more seen.items (item ∷ []) seen.are is;
        goes_on = λ _. now;
        ended = λ end. absurd (let off = sym (ap is_ended now ∙ cards-go_on (seen.items ++ item ∷ [])) ∙ end in cc);
      }

  read-end : (read : List (Parcel L)) → CardsRead read → is_ended read ≡ false → CardsRead (read ++ OfFeed feed.End ∷ [])
  read-end read seen on = record {
    items = seen.items;
    are = seen.are;
    goes_on = λ off. absurd (let end : is_ended (read ++ OfFeed feed.End ∷ []) ≡ true = ended-more jobs read (OfFeed feed.End ∷ []) ∙ rw on refl in cc);
    ended = λ _. ap (λ ps. ps ++ OfFeed feed.End ∷ []) (seen.goes_on on) ∙ cards-end seen.items;
  }

  read-same : (read more : List (Parcel L)) → more ≡ [] → CardsRead read → CardsRead (read ++ more)
  read-same read more none seen = subst CardsRead (sym (ap (λ ps. read ++ ps) none ∙ append-nil read)) seen

  read-answer : (h : List (Parcel L)) (answer : CardRead) → AreItems (item_of answer) → is_ended h ≡ false → CardsRead h → CardsRead (h ++ card_taken answer)
  read-answer h (read.Card line) is on seen = read-item h (Line line) seen on is
  read-answer h read.Spoiled is on seen = read-item h Spoiled seen on is
  read-answer h read.End is on seen = read-end h seen on
  read-answer h read.Failed is on seen = read-same h [] refl seen
  read-answer h read.Limit is on seen = read-same h [] refl seen

  read-reply : (h : List (Parcel L)) (r : Reply L) → Fits J act.ReadCard r → is_ended h ≡ false → CardsRead h → CardsRead (h ++ taken_by r)
  read-reply h (reply.Card answer) fits on seen = read-answer h answer fits on seen
  read-reply h r fits on seen = absurd fits

  -- ---- the card process
  read-more : (h : List (Entry L)) (a : Action) (r : Reply L) → Follows J (process J 1) h → next_action (process J 1) h ≡ Some a → Fits J a r
      → CardsRead (taken h)
      → CardsRead (taken h ++ taken_by r)
  read-more h act.ReadCard r follows next fits seen = read-reply (taken h) r fits (next-take jobs (process J 1) h act.ReadCard next tt).goes_on seen
  read-more h act.TakeFeed r follows next fits seen = absurd
      (let no : act.ReadCard ≡ act.TakeFeed = (next-take jobs (process J 1) h act.TakeFeed next tt).same in cc)
  read-more h act.TakePage r follows next fits seen = absurd
      (let no : act.ReadCard ≡ act.TakePage = (next-take jobs (process J 1) h act.TakePage next tt).same in cc)
  read-more h (act.Load file) r follows next fits seen = absurd (wants-none jobs (process J 1) h file ((the-five jobs).relays 1) follows (λ all. refl) next)
  read-more h a r follows next fits seen = read-same (taken h) (taken_by r) (plain-reply jobs a r fits tt) seen

  never-lacks : (r : Reply L) (a : Action) → (false ≡ true) × MayLack a r → ⊥
  never-lacks r a (never, may) = cc

  -- It took cards, whatever deck was read.
  pub cards-read : (h : List (Entry L)) → Follows J (process J 1) h → CardsRead (taken h)
  cards-read [] follows = record { items = []; are = tt; goes_on = λ _. refl; ended = λ e. absurd cc }
  cards-read (Does a r ∷ h) follows = read-more h a r follows.2 follows.0 follows.1 (cards-read h follows.2)
  cards-read (LacksMemory a r ∷ h) follows = absurd (never-lacks r a follows.1)
  cards-read (Delays a ∷ h) follows = cards-read h follows.2
