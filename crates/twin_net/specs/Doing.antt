-- What an action of one of the six asks for of what they share, and what it does.
use Rattle.std.specs.Prelude.{◌≡◌, ◌≢◌, ◌<◌, ◌==◌, ℕ, Bool, true, false, List, length, Option, None, Some, IsSome}
use Rattle.solo_devices.specs.declared.card_read.CardRead.TheVariants as read
use Rattle.solo_base.specs.declared.outcome.Side.TheVariants.{Sender, Receiver}
use Rattle.queue_var.specs.Sides.{MayStop}
use Rattle.resource_mon.specs.Claims.{MayRequest}
use Rattle.batch_procs.specs.declared.actions.Reply.{Reply}
use Rattle.batch_procs.specs.declared.actions.Reply.TheVariants as reply
use Rattle.batch_procs.specs.Jobs.{Jobs}
use Rattle.batch_procs.specs.Parcels.{is_last}
use Rattle.batch_ends.specs.Devices.{cards_left}
use Rattle.network_law.specs.Network.{Fits, buffers_after, desk_after}
use Rattle.net_core.specs.Shared.{Choice, WaitsAt, PutsAt, TakesAt}
use Rattle.twin_law.specs.Process.{Action, Entry}
use Rattle.twin_law.specs.Process as law
use Rattle.twin_law.specs.Twin.{side_at, call, went, Allows, given, TwinState}
use Rattle.twin_law.specs.Left.{DrawsFrom}
use Rattle.twin_procs.specs.declared.actions.TwinAction.{TwinAction}
use Rattle.twin_procs.specs.declared.actions.TwinAction.TheVariants as say
use Rattle.twin_ends.specs.TwinTells.{TwinTells, TwinCounts}
use Rattle.twin_ends.specs.TwinCalls.{entry_for, ReplySuits}
use Rattle.twin_net.specs.declared.shared.TwinShared.{TwinShared}
use Rattle.twin_net.specs.FourSpools.{AtSpool}
use Rattle.twin_net.specs.TwinStands.{TwinStands, cards_total}
use Rattle.twin_net.specs.Causes.{TwinCauses}

-- the action of the law that is said so
abbrev pub meant : TwinAction → Action
meant say.ReadCard = law.ReadCard
meant (say.PutFeed b f) = law.PutFeed b f
meant (say.TakeFeed b) = law.TakeFeed b
meant (say.AwaitRoom b) = law.AwaitRoom b
meant (say.AwaitItem b) = law.AwaitItem b
meant say.Request = law.Request
meant (say.PutPage b page) = law.PutPage b page
meant (say.TakePage b) = law.TakePage b
meant (say.Load file) = law.Load file
meant say.Release = law.Release
meant say.Local = law.Local
meant (say.Print line) = law.Print line
meant (say.Stop b) = law.Stop b
meant (say.Ended how) = law.Ended how

abbrev pub IsPrint : Action → Type 0
IsPrint (law.Print line) = Unit {0}
IsPrint action = ⊥

-- A file that is asked for may be loaded. Where a load failed before, none is asked for.
abbrev pub MayLoad : {L X S K F A : Type 0} → TwinTells L S K F A → TwinShared X S K F A → Type 0
MayLoad tells shared = shared.sound ≡ true → tells.sound shared.files

-- whether a reply says that a device failed
abbrev pub is_failure : {L : Type 0} → Reply L → Bool
is_failure reply.Failed = true
is_failure r = false

-- what a put and a take at a line buffer, and a stop, ask for
abbrev pub MayPutFeed : {X S K F A : Type 0} → TwinShared X S K F A → ℕ → ℕ → Type 0
MayPutFeed shared p b =
    Choice (b == 1) (WaitsAt shared.cards.sides Sender p)
    (Choice (b == 6) (WaitsAt shared.lines.sides Sender p) ⊥)

abbrev pub MayTakeFeed : {X S K F A : Type 0} → TwinShared X S K F A → ℕ → ℕ → Type 0
MayTakeFeed shared p b =
    Choice (b == 1) (WaitsAt shared.cards.sides Receiver p)
    (Choice (b == 6) (WaitsAt shared.lines.sides Receiver p) ⊥)

abbrev pub MayStopAt : {X S K F A : Type 0} → TwinShared X S K F A → ℕ → ℕ → Type 0
MayStopAt shared p b =
    Choice (b == 1) (MayStop shared.cards.sides (side_at p b))
    (Choice (b == 6) (MayStop shared.lines.sides (side_at p b))
    (AtSpool shared.spools b (λ spool. MayStop spool.sides (side_at p b))))

abbrev pub MayDo : {L X S K F A : Type 0} → TwinTells L S K F A → TwinShared X S K F A → ℕ → TwinAction
    → Type 0
MayDo tells shared p say.ReadCard = shared.deck.live ≡ true
MayDo tells shared p (say.PutFeed b f) = MayPutFeed shared p b
MayDo tells shared p (say.TakeFeed b) = MayTakeFeed shared p b
MayDo tells shared p (say.AwaitRoom b) = AtSpool shared.spools b (λ spool. WaitsAt spool.sides Sender p)
MayDo tells shared p (say.AwaitItem b) = AtSpool shared.spools b (λ spool. WaitsAt spool.sides Receiver p)
MayDo tells shared p say.Request = MayRequest shared.desk p × (length shared.desk.waiting < 6)
MayDo tells shared p (say.PutPage b page) = AtSpool shared.spools b PutsAt
MayDo tells shared p (say.TakePage b) = AtSpool shared.spools b TakesAt
MayDo tells shared p (say.Load file) = MayLoad tells shared
MayDo tells shared p say.Release = IsSome shared.desk.holder × (shared.desk.handed ≡ None)
MayDo tells shared p say.Local = Unit {0}
MayDo tells shared p (say.Print line) = shared.paper.live ≡ true
MayDo tells shared p (say.Stop b) = MayStopAt shared p b
MayDo tells shared p (say.Ended how) = Unit {0}

-- It goes as the law allows in each state that is stood for, and what is shared stands for the state behind
-- it.
pub record DoneSo {L X S K F A : Type 0} (J : Jobs L) (tells : TwinTells L S K F A)
    (counts : TwinCounts S K F A) (old new : TwinShared X S K F A) (p : ℕ) (action : Action)
    (result : Option (Reply L)) : Type 0 where
  pub suits : ReplySuits J action result
  pub causes : TwinCauses counts old new action result
  pub gained : List ℕ
  pub deck : DrawsFrom (entry_for action result) (cards_left tells.taken old.deck)
      (cards_left tells.taken new.deck)
  pub total : cards_total tells new.deck ≡ cards_total tells old.deck
  pub files : tells.file_pages new.files ≡ tells.file_pages old.files
  pub sound : MayLoad tells old → MayLoad tells new
  -- a device that didn't fail may be used again
  pub deck_live : old.deck.live ≡ true → result ≢ Some (reply.Card read.Failed)
      → result ≢ Some (reply.Card read.Limit) → new.deck.live ≡ true
  pub paper_live : old.paper.live ≡ true → (IsPrint action → result ≡ Some reply.Done)
      → new.paper.live ≡ true
  pub fits : (s : TwinState L) → TwinStands tells old s
      → Fits is_last s (call p action) (went (entry_for action result))
  pub allowed : (s : TwinState L) → TwinStands tells old s
      → Allows s.devices (entry_for action result) gained
  pub after : (s : TwinState L) (histories : ℕ → List (Entry L)) → TwinStands tells old s
      → TwinStands tells new record {
        devices = given s.devices (entry_for action result) gained;
        histories = histories;
        buffers = buffers_after is_last (call p action) p (went (entry_for action result)) s.buffers;
        desk = desk_after (call p action) p (went (entry_for action result)) s.desk;
      }
