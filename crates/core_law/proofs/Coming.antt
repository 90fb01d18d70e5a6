-- An entry of a call that comes without a failure and without want of memory, by what the devices and the monitors tell.
use Rattle.std.proofs.Common.{◌≡◌, ℕ, List, [], ◌∷◌, Option, None, Some, refl, sym, ◌∙◌, ap}
use Rattle.solo_base.specs.declared.item.Item.{Item}
use Rattle.solo_base.specs.declared.item.Item.TheVariants.{Line, Spoiled}
use Rattle.solo_base.specs.declared.item.Feed.{Feed}
use Rattle.solo_base.specs.declared.outcome.Side.TheVariants.{Sender, Receiver}
use Rattle.page_codec.specs.Items.{AreItems}
use Rattle.solo_devices.specs.declared.card_read.CardRead.TheVariants as read
use Rattle.batch_procs.specs.declared.actions.Action.{Action}
use Rattle.batch_procs.specs.declared.actions.Action.TheVariants as act
use Rattle.batch_procs.specs.declared.actions.Reply.TheVariants as reply
use Rattle.batch_procs.specs.Parcels.{OfFeed, is_last}
use Rattle.batch_procs.specs.History.{Entry, Does, Delays, action_of}
use Rattle.batch_procs.specs.Process.{Process, IsFitting}
use Rattle.network_law.specs.Buffer.{Found, Ready, Lacking, Closed, found, IsFirst}
use Rattle.network_law.specs.Network.{Fits}
use Rattle.core_law.specs.Core.{Allows, upstream, call, went, CoreState}
use Rattle.core_law.specs.Opening.{AreCards, AreGoodFiles}
use Rattle.core_law.specs.Ends.{IsSmooth}
use Rattle.batch_procs.specs.Jobs.{Jobs, AreJobs, FilesAs}

module _ {L : Type 0} {J : Jobs L} (jobs : AreJobs J) where
  -- an entry that may come, with the bytes that the devices gain
  pub record Comes (row : ℕ → Process L) (s : CoreState L) (p : ℕ) (a : Action) : Type 0 where
    pub entry : Entry L
    pub gained : List ℕ
    pub action_is : action_of entry ≡ a
    pub suits : IsFitting J (row p) entry
    pub fits : Fits is_last s (call p a) (went entry)
    pub allowed : Allows s.devices entry gained
    pub smooth : IsSmooth entry

  -- ---- the deck
  pub deck-comes : (row : ℕ → Process L) (s : CoreState L) (p : ℕ) (deck : Option (List Item)) → s.devices.deck ≡ deck → AreCards deck
      → Comes row s p act.ReadCard
  deck-comes row s p None e cards = record {
    entry = Does act.ReadCard (reply.Card read.End);
    gained = [];
    action_is = refl;
    suits = tt;
    fits = refl;
    allowed = (record { item = λ items told. absurd (let no = sym e ∙ told in cc); end = λ items told is. absurd (let no = sym e ∙ told in cc) }, refl);
    smooth = tt;
  }
  deck-comes row s p (Some []) e cards = record {
    entry = Does act.ReadCard (reply.Card read.End);
    gained = [];
    action_is = refl;
    suits = tt;
    fits = refl;
    allowed = (record { item = λ items told. (items, refl); end = λ items told is. (let same = sym e ∙ told in cc) }, refl);
    smooth = tt;
  }
  deck-comes row s p (Some (Line line ∷ rest)) e cards = record {
    entry = Does act.ReadCard (reply.Card (read.Card line));
    gained = [];
    action_is = refl;
    suits = ((cards (Line line ∷ rest) refl).0, tt);
    fits = refl;
    allowed = (record { item = λ items told. (rest, (let same = sym told ∙ e in cc)); end = λ items told is. absurd cc }, refl);
    smooth = tt;
  }
  deck-comes row s p (Some (Spoiled ∷ rest)) e cards = record {
    entry = Does act.ReadCard (reply.Card read.Spoiled);
    gained = [];
    action_is = refl;
    suits = (tt, tt);
    fits = refl;
    allowed = (record { item = λ items told. (rest, (let same = sym told ∙ e in cc)); end = λ items told is. absurd cc }, refl);
    smooth = tt;
  }

  -- ---- the desk
  pub ask-comes : (row : ℕ → Process L) (s : CoreState L) (p : ℕ) (handed holder : Option ℕ) → s.desk.claims.handed ≡ handed → s.desk.claims.holder ≡ holder
      → Comes row s p act.Request
  ask-comes row s p (Some q) holder turn held = record {
    entry = Does act.Request reply.Done;
    gained = [];
    action_is = refl;
    suits = tt;
    fits = rw turn refl;
    allowed = refl;
    smooth = tt;
  }
  ask-comes row s p None None turn held = record {
    entry = Does act.Request reply.Done;
    gained = [];
    action_is = refl;
    suits = tt;
    fits = rw (turn, held) refl;
    allowed = refl;
    smooth = tt;
  }
  ask-comes row s p None (Some q) turn held = record {
    entry = Delays act.Request;
    gained = [];
    action_is = refl;
    suits = tt;
    fits = rw (turn, held) refl;
    allowed = refl;
    smooth = tt;
  }

  -- ---- the files: as they say, where they are told, or any answer
  pub load-comes : (row : ℕ → Process L) (s : CoreState L) (p : ℕ) (file : List ℕ) (files : Option (FilesAs L)) → s.devices.files ≡ files → AreGoodFiles J files
      → Comes row s p (act.Load file)
  load-comes row s p file None e good = record {
    entry = Does (act.Load file) (reply.Loaded J.missing);
    gained = [];
    action_is = refl;
    suits = jobs.missing_loads;
    fits = refl;
    allowed = ((λ found told. absurd (let no = sym e ∙ told in cc)), refl);
    smooth = tt;
  }
  load-comes row s p file (Some found) e good = record {
    entry = Does (act.Load file) (reply.Loaded (found file));
    gained = [];
    action_is = refl;
    suits = good found refl file;
    fits = refl;
    allowed = ((λ other told. (let same : found ≡ other = (let both = sym e ∙ told in cc) in ap (λ (files : FilesAs L). files file) same)), refl);
    smooth = tt;
  }

  -- ---- waiting calls
  pub put-comes : (row : ℕ → Process L) (s : CoreState L) (p : ℕ) (f : Feed) (finds : Found) → found (s.buffers p) Sender ≡ finds
      → Comes row s p (act.PutFeed f)
  put-comes row s p f Ready e = record {
    entry = Does (act.PutFeed f) reply.Done;
    gained = [];
    action_is = refl;
    suits = tt;
    fits = rw e tt;
    allowed = refl;
    smooth = tt;
  }
  put-comes row s p f Lacking e = record {
    entry = Delays (act.PutFeed f);
    gained = [];
    action_is = refl;
    suits = tt;
    fits = rw e tt;
    allowed = refl;
    smooth = tt;
  }
  put-comes row s p f Closed e = record {
    entry = Does (act.PutFeed f) reply.Stopped;
    gained = [];
    action_is = refl;
    suits = tt;
    fits = rw e tt;
    allowed = refl;
    smooth = tt;
  }

  pub room-comes : (row : ℕ → Process L) (s : CoreState L) (p : ℕ) (finds : Found) → found (s.buffers p) Sender ≡ finds → Comes row s p act.AwaitRoom
  room-comes row s p Ready e = record {
    entry = Does act.AwaitRoom reply.Done;
    gained = [];
    action_is = refl;
    suits = tt;
    fits = rw e refl;
    allowed = refl;
    smooth = tt;
  }
  room-comes row s p Lacking e = record { entry = Delays act.AwaitRoom; gained = []; action_is = refl; suits = tt; fits = rw e refl; allowed = refl; smooth = tt }
  room-comes row s p Closed e = record {
    entry = Does act.AwaitRoom reply.Stopped;
    gained = [];
    action_is = refl;
    suits = tt;
    fits = rw e refl;
    allowed = refl;
    smooth = tt;
  }

  pub item-comes : (row : ℕ → Process L) (s : CoreState L) (p : ℕ) (finds : Found) → found (s.buffers (upstream p)) Receiver ≡ finds
      → Comes row s p act.AwaitItem
  item-comes row s p Ready e = record {
    entry = Does act.AwaitItem reply.Done;
    gained = [];
    action_is = refl;
    suits = tt;
    fits = rw e refl;
    allowed = refl;
    smooth = tt;
  }
  item-comes row s p Lacking e = record { entry = Delays act.AwaitItem; gained = []; action_is = refl; suits = tt; fits = rw e refl; allowed = refl; smooth = tt }
  item-comes row s p Closed e = record {
    entry = Does act.AwaitItem reply.Stopped;
    gained = [];
    action_is = refl;
    suits = tt;
    fits = rw e refl;
    allowed = refl;
    smooth = tt;
  }

  pub take-comes : (row : ℕ → Process L) (s : CoreState L) (p : ℕ) (finds : Found) → found (s.buffers (upstream p)) Receiver ≡ finds
      → (finds ≡ Ready → (f : Feed) × IsFirst is_last (s.buffers (upstream p)) (OfFeed f)) → Comes row s p act.TakeFeed
  take-comes row s p Ready e first = (let (f, is) = first refl in record {
    entry = Does act.TakeFeed (reply.Feed f);
    gained = [];
    action_is = refl;
    suits = tt;
    fits = rw e is;
    allowed = refl;
    smooth = tt;
  })
  take-comes row s p Lacking e first = record {
    entry = Delays act.TakeFeed;
    gained = [];
    action_is = refl;
    suits = tt;
    fits = rw e tt;
    allowed = refl;
    smooth = tt;
  }
  take-comes row s p Closed e first = record {
    entry = Does act.TakeFeed reply.Stopped;
    gained = [];
    action_is = refl;
    suits = tt;
    fits = rw e tt;
    allowed = refl;
    smooth = tt;
  }
