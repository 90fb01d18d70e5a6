-- In a told state a process has one event in which no device fails and no memory is refused.
use Rattle.std.proofs.Common.{◌≡◌, ℕ, List, [], ◌∷◌, Option, None, Some, refl, sym, ◌∙◌, ap, subst}
use Rattle.solo_base.specs.declared.item.Item.{Item}
use Rattle.solo_base.specs.declared.item.Item.TheVariants.{Line, Spoiled}
use Rattle.solo_base.specs.declared.outcome.Side.TheVariants.{Sender, Receiver}
use Rattle.solo_devices.specs.declared.card_read.CardRead.{CardRead}
use Rattle.solo_devices.specs.declared.card_read.CardRead.TheVariants as read
use Rattle.batch_procs.specs.declared.actions.Action.{Action}
use Rattle.batch_procs.specs.declared.actions.Action.TheVariants as act
use Rattle.batch_procs.specs.declared.actions.Reply.{Reply}
use Rattle.batch_procs.specs.declared.actions.Reply.TheVariants as reply
use Rattle.batch_procs.specs.Parcels.{Parcel, OfFeed, OfPage, is_last}
use Rattle.batch_procs.specs.History.{Entry, Does, LacksMemory, Delays, action_of}
use Rattle.batch_procs.specs.Process.{Process, IsFitting, next_action}
use Rattle.batch_procs.specs.Table.{process}
use Rattle.network_law.specs.Acts.{Went, Delayed, Told, Done, Moved}
use Rattle.network_law.specs.Buffer.{Buffer, Found, Ready, Lacking, Closed, found, awaited, PassFits, MoveFits}
use Rattle.network_law.specs.Desk.{asked}
use Rattle.network_law.specs.Network.{IsEnabled, Fits}
use Rattle.core_law.specs.Core.{DeckGives, Devices, Allows, upstream, call, went, core, CoreState, CoreEvent}
use Rattle.core_law.specs.Ends.{IsSmooth}
use Rattle.core_law.specs.Replies.{entry_of, ReplyFits}
use Rattle.core_law.proofs.Knowing.{FindsSo}
use Rattle.batch_procs.specs.Jobs.{Jobs, AreJobs, FilesAs}

module _ {L : Type 0} {J : Jobs L} (jobs : AreJobs J) where
  -- ---- what a call is answered, by how it went
  abbrev answered : Went (Parcel L) → Option (Reply L)
  answered Delayed = None
  answered Told = Some reply.Stopped
  answered Done = Some reply.Done
  answered (Moved parcel) = Some reply.Done

  abbrev IsNoTake : Action → Type 0
  IsNoTake act.ReadCard = ⊥
  IsNoTake act.TakeFeed = ⊥
  IsNoTake act.TakePage = ⊥
  IsNoTake (act.Load file) = ⊥
  IsNoTake other = Unit {0}

  as-it_went : (a : Action) (answer : Option (Reply L)) → IsNoTake a → ReplyFits J a answer → IsSmooth (entry_of a answer)
      → answer ≡ answered (went (entry_of a answer))
  as-it_went act.ReadCard answer free suits smooth = absurd free
  as-it_went act.TakeFeed answer free suits smooth = absurd free
  as-it_went act.TakePage answer free suits smooth = absurd free
  as-it_went (act.Load file) answer free suits smooth = absurd free
  as-it_went (act.PutFeed f) None free suits smooth = refl
  as-it_went (act.PutFeed f) (Some reply.Done) free suits smooth = refl
  as-it_went (act.PutFeed f) (Some reply.Stopped) free suits smooth = refl
  as-it_went act.AwaitRoom None free suits smooth = refl
  as-it_went act.AwaitRoom (Some reply.Done) free suits smooth = refl
  as-it_went act.AwaitRoom (Some reply.Stopped) free suits smooth = refl
  as-it_went act.AwaitItem None free suits smooth = refl
  as-it_went act.AwaitItem (Some reply.Done) free suits smooth = refl
  as-it_went act.AwaitItem (Some reply.Stopped) free suits smooth = refl
  as-it_went act.Request None free suits smooth = refl
  as-it_went act.Request (Some reply.Done) free suits smooth = refl
  as-it_went (act.PutPage page) (Some reply.Done) free suits smooth = refl
  as-it_went (act.PutPage page) (Some reply.Failed) free suits smooth = absurd smooth
  as-it_went act.Release (Some reply.Done) free suits smooth = refl
  as-it_went act.Local (Some reply.Done) free suits smooth = refl
  as-it_went (act.Print line) (Some reply.Done) free suits smooth = refl
  as-it_went (act.Print line) (Some reply.Failed) free suits smooth = absurd smooth
  as-it_went (act.Print line) (Some reply.NoMemory) free suits smooth = absurd smooth
  as-it_went (act.Stop b) (Some reply.Done) free suits smooth = refl
  as-it_went (act.Ended how) (Some reply.Done) free suits smooth = refl
  as-it_went a answer free suits smooth = absurd suits

  -- ---- a put
  abbrev put_for : Found → Option (Reply L)
  put_for Ready = Some reply.Done
  put_for Lacking = None
  put_for Closed = Some reply.Stopped

  pass-answer : (buffer : Buffer (Parcel L)) (finds : Found) (how : Went (Parcel L)) → PassFits is_last Sender buffer finds how → answered how ≡ put_for finds
  pass-answer buffer Ready (Moved parcel) fits = refl
  pass-answer buffer Lacking Delayed fits = refl
  pass-answer buffer Closed Told fits = refl
  pass-answer buffer finds how fits = absurd fits

  move-answer : (buffer : Buffer (Parcel L)) (how : Went (Parcel L)) → MoveFits is_last Sender buffer how → answered how ≡ Some reply.Done
  move-answer buffer Done fits = refl
  move-answer buffer (Moved parcel) fits = refl
  move-answer buffer how fits = absurd fits

  -- ---- a take: the first of what is inside
  abbrev feed_for : Found → List (Parcel L) → Option (Reply L)
  feed_for Ready (OfFeed f ∷ more) = Some (reply.Feed f)
  feed_for Ready other = None
  feed_for Lacking inside = None
  feed_for Closed inside = Some reply.Stopped

  feed-is : (buffer : Buffer (Parcel L)) (inside : List (Parcel L)) (finds : Found) (answer : Option (Reply L)) → buffer.inside ≡ Some inside
      → ReplyFits J act.TakeFeed answer → PassFits is_last Receiver buffer finds (went (entry_of act.TakeFeed answer)) → answer ≡ feed_for finds inside
  feed-is buffer inside Ready (Some (reply.Feed f)) told suits fits = sym (ap (feed_for Ready) (fits.told inside told))
  feed-is buffer inside Lacking None told suits fits = refl
  feed-is buffer inside Closed (Some reply.Stopped) told suits fits = refl
  feed-is buffer inside finds None told suits fits = absurd fits
  feed-is buffer inside finds (Some (reply.Feed f)) told suits fits = absurd fits
  feed-is buffer inside finds (Some reply.Stopped) told suits fits = absurd fits
  feed-is buffer inside finds answer told suits fits = absurd suits

  abbrev page_for : List (Parcel L) → Option (Reply L)
  page_for (OfPage page last ∷ more) = Some (reply.Page page last)
  page_for other = None

  page-is : (buffer : Buffer (Parcel L)) (inside : List (Parcel L)) (answer : Option (Reply L)) → buffer.inside ≡ Some inside → ReplyFits J act.TakePage answer
      → IsSmooth (entry_of act.TakePage answer) → MoveFits is_last Receiver buffer (went (entry_of act.TakePage answer)) → answer ≡ page_for inside
  page-is buffer inside (Some (reply.Page page last)) told suits smooth fits = sym (ap page_for (fits.told inside told))
  page-is buffer inside (Some reply.Failed) told suits smooth fits = absurd smooth
  page-is buffer inside answer told suits smooth fits = absurd suits

  -- ---- a card: the first of those ahead, or the end
  abbrev card_for : List Item → CardRead
  card_for [] = read.End
  card_for (Line line ∷ rest) = read.Card line
  card_for (Spoiled ∷ rest) = read.Spoiled

  card-is : (deck : Option (List Item)) (items : List Item) (answer : CardRead) → deck ≡ Some items → IsSmooth {L = L} (Does act.ReadCard (reply.Card answer))
      → DeckGives deck answer → answer ≡ card_for items
  card-is deck items (read.Card line) told smooth gives = sym (ap card_for (gives.item items told).1)
  card-is deck items read.Spoiled told smooth gives = sym (ap card_for (gives.item items told).1)
  card-is deck items read.End told smooth gives = sym (ap card_for (gives.end items told refl))
  card-is deck items read.Failed told smooth gives = absurd smooth
  card-is deck items read.Limit told smooth gives = absurd smooth

  read-is : (devices : Devices L) (items : List Item) (gained : List ℕ) (answer : Option (Reply L)) → devices.deck ≡ Some items
      → ReplyFits J act.ReadCard answer
      → IsSmooth (entry_of act.ReadCard answer) → Allows devices (entry_of act.ReadCard answer) gained → answer ≡ Some (reply.Card (card_for items))
  read-is devices items gained (Some (reply.Card answer)) told suits smooth allows =
      ap (λ answer. Some (reply.Card answer)) (card-is devices.deck items answer told smooth allows.0)
  read-is devices items gained answer told suits smooth allows = absurd suits

  -- ---- a load: what the file is loaded as
  load-is : (found : FilesAs L) (file : List ℕ) (answer : Option (Reply L)) → ReplyFits J (act.Load file) answer → IsSmooth (entry_of (act.Load file) answer)
      → FindsSo jobs found (entry_of (act.Load file) answer) → answer ≡ Some (reply.Loaded (found file))
  load-is found file (Some (reply.Loaded load)) suits smooth finds = ap (λ load. Some (reply.Loaded load)) finds
  load-is found file (Some reply.Failed) suits smooth finds = absurd smooth
  load-is found file (Some reply.NoMemory) suits smooth finds = absurd smooth
  load-is found file answer suits smooth finds = absurd suits

  -- ---- the one answer to each action
  module _ (s : CoreState L) (p : ℕ) (found_as : FilesAs L) (items : List Item) (deck_is : s.devices.deck ≡ Some items) (inside : List (Parcel L))
      (inside_is : (s.buffers (upstream p)).inside ≡ Some inside) where
    abbrev expected : Action → Option (Reply L)
    expected act.ReadCard = Some (reply.Card (card_for items))
    expected (act.PutFeed f) = put_for (found (s.buffers p) Sender)
    expected act.TakeFeed = feed_for (found (s.buffers (upstream p)) Receiver) inside
    expected act.AwaitRoom = answered (awaited (found (s.buffers p) Sender))
    expected act.AwaitItem = answered (awaited (found (s.buffers (upstream p)) Receiver))
    expected act.Request = answered (asked s.desk.claims.handed s.desk.claims.holder)
    expected act.TakePage = page_for inside
    expected (act.Load file) = Some (reply.Loaded (found_as file))
    expected other = Some reply.Done

    is-expected : (a : Action) (answer : Option (Reply L)) (gained : List ℕ) → ReplyFits J a answer → IsSmooth (entry_of a answer)
        → Fits is_last s (call p a) (went (entry_of a answer)) → Allows s.devices (entry_of a answer) gained → FindsSo jobs found_as (entry_of a answer)
        → answer ≡ expected a
    is-expected act.ReadCard answer gained suits smooth fits allows finds = read-is s.devices items gained answer deck_is suits smooth allows
    is-expected (act.PutFeed f) answer gained suits smooth fits allows finds =
        as-it_went (act.PutFeed f) answer tt suits smooth ∙ pass-answer (s.buffers p) (found (s.buffers p) Sender) _ fits
    is-expected act.TakeFeed answer gained suits smooth fits allows finds =
        feed-is (s.buffers (upstream p)) inside (found (s.buffers (upstream p)) Receiver) answer inside_is suits fits
    is-expected act.AwaitRoom answer gained suits smooth fits allows finds = as-it_went act.AwaitRoom answer tt suits smooth ∙ ap answered fits
    is-expected act.AwaitItem answer gained suits smooth fits allows finds = as-it_went act.AwaitItem answer tt suits smooth ∙ ap answered fits
    is-expected act.Request answer gained suits smooth fits allows finds = as-it_went act.Request answer tt suits smooth ∙ ap answered fits
    is-expected (act.PutPage page) answer gained suits smooth fits allows finds =
        as-it_went (act.PutPage page) answer tt suits smooth ∙ move-answer (s.buffers p) _ fits
    is-expected act.TakePage answer gained suits smooth fits allows finds = page-is (s.buffers (upstream p)) inside answer inside_is suits smooth fits
    is-expected (act.Load file) answer gained suits smooth fits allows finds = load-is found_as file answer suits smooth finds
    is-expected act.Release answer gained suits smooth fits allows finds = as-it_went act.Release answer tt suits smooth ∙ ap answered fits
    is-expected act.Local answer gained suits smooth fits allows finds = as-it_went act.Local answer tt suits smooth ∙ ap answered fits
    is-expected (act.Print line) answer gained suits smooth fits allows finds = as-it_went (act.Print line) answer tt suits smooth ∙ ap answered fits
    is-expected (act.Stop b) answer gained suits smooth fits allows finds = as-it_went (act.Stop b) answer tt suits smooth ∙ ap answered fits
    is-expected (act.Ended how) answer gained suits smooth fits allows finds = as-it_went (act.Ended how) answer tt suits smooth ∙ ap answered fits

    entry-is : (entry : Entry L) (gained : List ℕ) → IsFitting J (process J p) entry → IsSmooth entry → Fits is_last s (call p (action_of entry)) (went entry)
        → Allows s.devices entry gained → FindsSo jobs found_as entry → entry ≡ entry_of (action_of entry) (expected (action_of entry))
    entry-is (Does a r) gained suits smooth fits allows finds = ap (entry_of a) (is-expected a (Some r) gained suits smooth fits allows finds)
    entry-is (LacksMemory a r) gained suits smooth fits allows finds = absurd smooth
    entry-is (Delays a) gained suits smooth fits allows finds = ap (entry_of a) (is-expected a None gained suits smooth fits allows finds)

  -- ---- what the devices gain by it
  same-gained : (p : Process L) (devices : Devices L) (entry : Entry L) (some others : List ℕ) → IsFitting J p entry → IsSmooth entry
      → Allows devices entry some
      → Allows devices entry others → others ≡ some
  same-gained p devices (Does act.ReadCard (reply.Card answer)) some others suits smooth first second = second.1 ∙ sym first.1
  same-gained p devices (Does (act.Load file) (reply.Loaded load)) some others suits smooth first second = second.1 ∙ sym first.1
  same-gained p devices (Does act.ReadCard r) some others suits smooth first second = absurd suits
  same-gained p devices (Does (act.Print line) reply.Done) some others suits smooth first second = second ∙ sym first
  same-gained p devices (Does (act.Print line) reply.Failed) some others suits smooth first second = absurd smooth
  same-gained p devices (Does (act.Print line) reply.NoMemory) some others suits smooth first second = absurd smooth
  same-gained p devices (Does (act.Print line) r) some others suits smooth first second = absurd suits
  same-gained p devices (Does a r) some others suits smooth first second = second ∙ sym first
  same-gained p devices (LacksMemory a r) some others suits smooth first second = second ∙ sym first
  same-gained p devices (Delays a) some others suits smooth first second = second ∙ sym first

  same-action : (a b : Action) (next : Option Action) → next ≡ Some a → next ≡ Some b → a ≡ b
  same-action a b next first second = cc

  abbrev event_of : ℕ → Entry L → List ℕ → CoreEvent L
  event_of p entry gained = record { process = p; entry = entry; gained = gained }

  same-parts : (p q : ℕ) (x y : Entry L) (g h : List ℕ) → p ≡ q → x ≡ y → g ≡ h → event_of p x g ≡ event_of q y h
  same-parts p q x y g h a b c = cc

  -- of one process
  same-entry : (s : CoreState L) (p : ℕ) (found_as : FilesAs L) (items : List Item) (inside : List (Parcel L)) → s.devices.deck ≡ Some items
      → (s.buffers (upstream p)).inside ≡ Some inside
      → (x y : Entry L) (g h : List ℕ) → IsEnabled (core J (process J)) s (event_of p x g) → IsEnabled (core J (process J)) s (event_of p y h) → IsSmooth x
      → IsSmooth y
      → FindsSo jobs found_as x → FindsSo jobs found_as y → y ≡ x
  same-entry s p found_as items inside deck_is inside_is x y g h first second smooth too finds finds_too =
      let same = same-action (action_of y) (action_of x) (next_action (process J p) (s.histories p)) second.next first.next in
      entry-is s p found_as items deck_is inside inside_is y h second.suits too second.fits second.allowed finds_too
      ∙ ap (λ a. entry_of a (expected s p found_as items deck_is inside inside_is a)) same
      ∙ sym (entry-is s p found_as items deck_is inside inside_is x g first.suits smooth first.fits first.allowed finds)

  pub one-event : (s : CoreState L) (found_as : FilesAs L) (items : List Item) (event other : CoreEvent L) → s.devices.deck ≡ Some items
      → (inside : List (Parcel L)) → (s.buffers (upstream event.process)).inside ≡ Some inside → IsEnabled (core J (process J)) s event
      → IsEnabled (core J (process J)) s other → IsSmooth event.entry → IsSmooth other.entry → FindsSo jobs found_as event.entry
      → FindsSo jobs found_as other.entry
      → other.process ≡ event.process → other ≡ event
  one-event s found_as items event other deck_is inside inside_is first second smooth too finds finds_too same =
      let p = event.process in
      let here = subst (λ q. IsEnabled (core J (process J)) s (event_of q other.entry other.gained)) same second in
      let entries = same-entry s p found_as items inside deck_is inside_is event.entry other.entry event.gained other.gained first here
      smooth too finds finds_too
      in
      let gains = same-gained (process J p) s.devices event.entry event.gained other.gained first.suits smooth first.allowed
      (subst (λ entry. Allows s.devices entry other.gained) entries second.allowed) in
      same-parts other.process event.process other.entry event.entry other.gained event.gained same entries gains
