-- Each call of the five at a monitor or a device is one of the six, in the words of their law.
use Rattle.std.proofs.Common.{◌≡◌, ℕ, List, Option, None, Some, refl, sym, ◌∙◌, subst}
use Rattle.solo_base.specs.declared.item.Item.{Item}
use Rattle.solo_base.specs.declared.item.Feed.{Feed}
use Rattle.solo_base.specs.declared.page.Page.{Page}
use Rattle.solo_base.specs.declared.outcome.Side.{Side}
use Rattle.solo_base.specs.declared.outcome.Side.TheVariants.{Sender, Receiver}
use Rattle.resource_mon.specs.Claims.{Claims}
use Rattle.network_law.specs.Acts.{Visit, Awaits, Passes, Moves, Stops}
use Rattle.network_law.specs.Buffer.{Buffer, VisitFits, after_visit}
use Rattle.batch_procs.specs.declared.actions.Action.TheVariants as act
use Rattle.batch_procs.specs.declared.actions.Action as core_action
use Rattle.batch_procs.specs.declared.actions.Reply.{Reply}
use Rattle.batch_procs.specs.declared.actions.Reply.TheVariants as reply
use Rattle.batch_procs.specs.Jobs.{Jobs, FilesAs}
use Rattle.batch_procs.specs.Loads.{AnswersLoad}
use Rattle.batch_procs.specs.Parcels.{Parcel, is_last}
use Rattle.core_law.specs.Core as core
use Rattle.core_law.specs.Replies.{entry_of, ReplyFits}
use Rattle.batch_ends.specs.Devices.{ReadsCard, PrintsLine}
use Rattle.net_core.specs.Calls.{Visited}
use Rattle.net_core.specs.Desks.{Asked, Given}
use Rattle.twin_law.specs.Process.{Action, PutFeed, TakeFeed, AwaitRoom, AwaitItem, PutPage, TakePage, Stop}
use Rattle.twin_law.specs.Twin.{went}
use Rattle.twin_ends.specs.TwinCalls.{entry_for, ReplySuits, TwinVisited, TwinAsked, TwinGiven, TwinReads, TwinPrints, TwinLoads}

module _ {L : Type 0} (J : Jobs L) where
  -- the reply suits this action too, and the call went the same way
  record SameWay (old : core_action.Action) (new : Action) (result : Option (Reply L)) : Type 0 where
    suits : ReplySuits J new result
    went_so : core.went (entry_of old result) ≡ went (entry_for new result)

  visited-so : {M : Type 0} (Stands : M → Buffer (Parcel L) → Type 0) (old new : M) (side : Side) (visit : Visit) (p : ℕ) (action : core_action.Action)
      (twin : Action) (result : Option (Reply L))
      → SameWay action twin result → Visited J Stands old new side visit p action result → TwinVisited J Stands old new side visit p twin result
  visited-so Stands old new side visit p action twin result same v = record {
    suits = same.suits;
    fits = λ b st. subst (λ w. VisitFits is_last side b visit w) same.went_so (v.fits b st);
    after = λ b st. subst (λ w. Stands new (after_visit is_last visit side p w b)) same.went_so (v.after b st);
  }

  -- ---- the ways
  feed-way : (b : ℕ) (f : Feed) (result : Option (Reply L)) → ReplyFits J (act.PutFeed f) result → SameWay (act.PutFeed f) (PutFeed b f) result
  feed-way b f None fits = record { suits = tt; went_so = refl }
  feed-way b f (Some reply.Done) fits = record { suits = (tt, tt); went_so = refl }
  feed-way b f (Some reply.Stopped) fits = record { suits = (tt, tt); went_so = refl }
  feed-way b f (Some r) fits = absurd fits

  taken-way : (b : ℕ) (result : Option (Reply L)) → ReplyFits J act.TakeFeed result → SameWay act.TakeFeed (TakeFeed b) result
  taken-way b None fits = record { suits = tt; went_so = refl }
  taken-way b (Some (reply.Feed f)) fits = record { suits = (tt, tt); went_so = refl }
  taken-way b (Some reply.Stopped) fits = record { suits = (tt, tt); went_so = refl }
  taken-way b (Some r) fits = absurd fits

  room-way : (b : ℕ) (result : Option (Reply L)) → ReplyFits J act.AwaitRoom result → SameWay act.AwaitRoom (AwaitRoom b) result
  room-way b None fits = record { suits = tt; went_so = refl }
  room-way b (Some reply.Done) fits = record { suits = (tt, tt); went_so = refl }
  room-way b (Some reply.Stopped) fits = record { suits = (tt, tt); went_so = refl }
  room-way b (Some r) fits = absurd fits

  item-way : (b : ℕ) (result : Option (Reply L)) → ReplyFits J act.AwaitItem result → SameWay act.AwaitItem (AwaitItem b) result
  item-way b None fits = record { suits = tt; went_so = refl }
  item-way b (Some reply.Done) fits = record { suits = (tt, tt); went_so = refl }
  item-way b (Some reply.Stopped) fits = record { suits = (tt, tt); went_so = refl }
  item-way b (Some r) fits = absurd fits

  page-way : (b : ℕ) (page : Page) (r : Reply L) → ReplyFits J (act.PutPage page) (Some r) → SameWay (act.PutPage page) (PutPage b page) (Some r)
  page-way b page reply.Done fits = record { suits = (tt, tt); went_so = refl }
  page-way b page reply.Failed fits = record { suits = (tt, tt); went_so = refl }
  page-way b page r fits = absurd fits

  read-way : (b : ℕ) (r : Reply L) → ReplyFits J act.TakePage (Some r) → SameWay act.TakePage (TakePage b) (Some r)
  read-way b (reply.Page page last) fits = record { suits = (tt, tt); went_so = refl }
  read-way b reply.Failed fits = record { suits = (tt, tt); went_so = refl }
  read-way b r fits = absurd fits

  stop-way : (b : ℕ) (r : Reply L) → ReplyFits J (act.Stop b) (Some r) → SameWay (act.Stop b) (Stop b) (Some r)
  stop-way b reply.Done fits = record { suits = (tt, tt); went_so = refl }
  stop-way b r fits = absurd fits

  -- ---- at a side of a buffer, which has this number
  module _ {M : Type 0} (Stands : M → Buffer (Parcel L) → Type 0) (old new : M) (p b : ℕ) where
    pub puts-feed : (f : Feed) (result : Option (Reply L)) → Visited J Stands old new Sender Passes p (act.PutFeed f) result
        → TwinVisited J Stands old new Sender Passes p (PutFeed b f) result
    puts-feed f result v = visited-so Stands old new Sender Passes p (act.PutFeed f) (PutFeed b f) result (feed-way b f result v.suits) v

    pub takes-feed : (result : Option (Reply L)) → Visited J Stands old new Receiver Passes p act.TakeFeed result
        → TwinVisited J Stands old new Receiver Passes p (TakeFeed b) result
    takes-feed result v = visited-so Stands old new Receiver Passes p act.TakeFeed (TakeFeed b) result (taken-way b result v.suits) v

    pub awaits-room : (result : Option (Reply L)) → Visited J Stands old new Sender Awaits p act.AwaitRoom result
        → TwinVisited J Stands old new Sender Awaits p (AwaitRoom b) result
    awaits-room result v = visited-so Stands old new Sender Awaits p act.AwaitRoom (AwaitRoom b) result (room-way b result v.suits) v

    pub awaits-item : (result : Option (Reply L)) → Visited J Stands old new Receiver Awaits p act.AwaitItem result
        → TwinVisited J Stands old new Receiver Awaits p (AwaitItem b) result
    awaits-item result v = visited-so Stands old new Receiver Awaits p act.AwaitItem (AwaitItem b) result (item-way b result v.suits) v

    pub puts-page : (page : Page) (r : Reply L) → Visited J Stands old new Sender Moves p (act.PutPage page) (Some r)
        → TwinVisited J Stands old new Sender Moves p (PutPage b page) (Some r)
    puts-page page r v = visited-so Stands old new Sender Moves p (act.PutPage page) (PutPage b page) (Some r) (page-way b page r v.suits) v

    pub takes-page : (r : Reply L) → Visited J Stands old new Receiver Moves p act.TakePage (Some r)
        → TwinVisited J Stands old new Receiver Moves p (TakePage b) (Some r)
    takes-page r v = visited-so Stands old new Receiver Moves p act.TakePage (TakePage b) (Some r) (read-way b r v.suits) v

    pub stops-side : (side : Side) (r : Reply L) → Visited J Stands old new side Stops p (act.Stop b) (Some r)
        → TwinVisited J Stands old new side Stops p (Stop b) (Some r)
    stops-side side r v = visited-so Stands old new side Stops p (act.Stop b) (Stop b) (Some r) (stop-way b r v.suits) v

  -- ---- at the desk
  pub asks : (old new : Claims) (p : ℕ) (result : Option (Reply L)) → Asked J old new p result → TwinAsked J old new p result
  asks old new p None a = record { suits = tt; fits = a.fits; after = a.after }
  asks old new p (Some reply.Done) a = record { suits = (tt, tt); fits = a.fits; after = a.after }
  asks old new p (Some reply.Stopped) a = absurd a.suits
  asks old new p (Some reply.Failed) a = absurd a.suits
  asks old new p (Some reply.NoMemory) a = absurd a.suits
  asks old new p (Some (reply.Card answer)) a = absurd a.suits
  asks old new p (Some (reply.Feed f)) a = absurd a.suits
  asks old new p (Some (reply.Page page last)) a = absurd a.suits
  asks old new p (Some (reply.Loaded load)) a = absurd a.suits

  pub gives : (old new : Claims) (r : Reply L) → Given J old new r → TwinGiven J old new r
  gives old new reply.Done g = record { suits = (tt, tt); fits = refl; after = g.after }
  gives old new r g = absurd g.suits

  -- ---- at the devices
  pub reads : (old new : Option (List Item)) (r : Reply L) → ReadsCard J old new r → TwinReads J old new r
  reads old new (reply.Card answer) d = record {
    suits = (tt, d.suits);
    allowed = λ devices e. (let is = d.allowed record { deck = devices.deck; paper = devices.paper; files = devices.files } e in
        (record { item = is.0.item; end = is.0.end }, is.1));
    after = d.after;
  }
  reads old new r d = absurd d.suits

  -- no device of a print's own tells more than its paper
  abbrev no_devices : core.Devices L
  no_devices = record { deck = None; paper = None; files = None }

  pub prints : (old new : Option (List ℕ)) (line : List ℕ) (r : Reply L) → PrintsLine J old new line r → TwinPrints J old new line r
  prints old new line reply.Done d = record { suits = (tt, tt); gained = d.gained; allowed = λ devices. d.allowed no_devices; after = d.after }
  prints old new line reply.Failed d = record { suits = (tt, tt); gained = d.gained; allowed = λ devices. d.allowed no_devices; after = d.after }
  prints old new line reply.NoMemory d = record { suits = (tt, tt); gained = d.gained; allowed = λ devices. d.allowed no_devices; after = d.after }
  prints old new line r d = absurd d.suits

  pub loads : (found : Option (FilesAs L)) (file : List ℕ) (r : Reply L) → AnswersLoad J found file r → TwinLoads J found file r
  loads found file (reply.Loaded load) is = record { suits = (tt, is.0); allowed = λ devices e. ((λ files told. is.1 files (sym e ∙ told)), refl) }
  loads found file reply.Failed is = record { suits = (tt, tt); allowed = λ devices e. refl }
  loads found file reply.NoMemory is = record { suits = (tt, tt); allowed = λ devices e. refl }
  loads found file r is = absurd is
