-- What holds of every history of a process.
use Rattle.std.specs.Prelude.{◌≡◌, ◌<◌, ◌^◌, length, ℕ, true, false, List, [], ◌∷◌, ◌++◌, Option, None, Some}
use Rattle.std.specs.List.{AllByRecursion}
use Rattle.solo_base.specs.declared.outcome.Outcome.{Outcome}
use Rattle.solo_base.specs.declared.outcome.Outcome.TheVariants as outcome
use Rattle.solo_base.specs.declared.page.Page.{Page}
use Rattle.solo_base.specs.Prefixes.{IsPrefixOf}
use Rattle.batch_procs.specs.declared.actions.Action.{Action}
use Rattle.batch_procs.specs.declared.actions.Action.TheVariants as act
use Rattle.batch_procs.specs.Jobs.{Jobs}
use Rattle.batch_procs.specs.Parcels.{Parcel, OfLoad, is_ended, IsMarked, NothingBehind}
use Rattle.batch_procs.specs.History.{Entry, Does, LacksMemory, Delays, taken, sent, holds, has_stopped, newest}
use Rattle.batch_procs.specs.Causes.{caused}
use Rattle.batch_procs.specs.Process.{Process, unworked, Follows, next_action}
use Rattle.batch_procs.specs.Table.{process}

-- ---- kinds of actions
abbrev pub IsTake : Action → Type 0
IsTake act.ReadCard = Unit {0}
IsTake act.TakeFeed = Unit {0}
IsTake act.TakePage = Unit {0}
IsTake other = ⊥

-- what one that has a cause doesn't make
abbrev pub IsOpen : Action → Type 0
IsOpen act.Release = ⊥
IsOpen (act.Stop b) = ⊥
IsOpen (act.Ended how) = ⊥
IsOpen other = Unit {0}

-- what a holder of the disk does next
abbrev pub IsHeld : Action → Type 0
IsHeld (act.PutPage page) = Unit {0}
IsHeld act.TakePage = Unit {0}
IsHeld (act.Load file) = Unit {0}
IsHeld act.Release = Unit {0}
IsHeld other = ⊥

-- ---- what a list function has
abbrev pub AreAbove : ℕ → List ℕ → Type 0
AreAbove n [] = Unit {0}
AreAbove n (b ∷ later) = (n < b) × AreAbove n later

-- each number is above those before it
abbrev pub AreOrdered : List ℕ → Type 0
AreOrdered [] = Unit {0}
AreOrdered (b ∷ later) = AreAbove b later × AreOrdered later

-- It takes; a prefix of what it takes gives a prefix of what it puts; its pages carry their marks, and
-- nothing comes behind its last; files are loaded in order; its buffers stand in order, fewer than 256.
pub record IsRelay {L : Type 0} (p : Process L) : Type 0 where
  pub takes : IsTake p.takes
  pub monotone : (some more : List (Parcel L)) → IsPrefixOf (p.sends some) (p.sends (some ++ more))
  pub marked : (all : List (Parcel L)) → AllByRecursion IsMarked (p.sends all)
  pub stream : (all : List (Parcel L)) → NothingBehind (p.sends all)
  -- A file that is wanted is no longer so once it is loaded.
  pub loads : (all : List (Parcel L)) (load : L) (file : List ℕ) (later : List (List ℕ))
      → p.wants all ≡ file ∷ later → p.wants (all ++ OfLoad load ∷ []) ≡ later
  pub ordered : AreOrdered p.buffers
  pub few : length p.buffers < 2 ^ 8

-- ---- what every history has
-- the newest action is the end
abbrev pub HasEnded : {L : Type 0} → List (Entry L) → Type 0
HasEnded h = (how : Outcome) × (newest h ≡ Some (act.Ended how))

-- a cause, or none
abbrev pub IsNotDone : Option Outcome → Type 0
IsNotDone (Some outcome.Done) = ⊥
IsNotDone other = Unit {0}

-- With its work done it put all and took the last; ended otherwise, it stopped each of its buffers.
pub record EndsRightly {L : Type 0} (p : Process L) (h : List (Entry L)) (how : Outcome) : Type 0 where
  pub done : how ≡ outcome.Done → (sent h ≡ p.sends (taken h)) × (is_ended (taken h) ≡ true)
  pub otherwise : IsNotDone (Some how) → AllByRecursion (λ b. has_stopped b h ≡ true) p.buffers

-- It awaited room, and since then made no more than its request.
abbrev pub AwaitedRoom : {L : Type 0} → List (Entry L) → Type 0
AwaitedRoom [] = ⊥
AwaitedRoom (Does act.AwaitRoom r ∷ before) = Unit {0}
AwaitedRoom (Does act.Request r ∷ before) = AwaitedRoom before
AwaitedRoom (Does other r ∷ before) = ⊥
AwaitedRoom (LacksMemory action r ∷ before) = ⊥
AwaitedRoom (Delays action ∷ before) = AwaitedRoom before

-- and an item
abbrev pub AwaitedItem : {L : Type 0} → List (Entry L) → Type 0
AwaitedItem [] = ⊥
AwaitedItem (Does act.AwaitItem r ∷ before) = Unit {0}
AwaitedItem (Does act.Request r ∷ before) = AwaitedItem before
AwaitedItem (Does other r ∷ before) = ⊥
AwaitedItem (LacksMemory action r ∷ before) = ⊥
AwaitedItem (Delays action ∷ before) = AwaitedItem before

-- some action of this kind
pub record HoldsOn (next : Option Action) : Type 0 where
  pub action : Action
  pub is : next ≡ Some action
  pub held : IsHeld action

-- this file is wanted first, and there is work to do
pub record Wants {L : Type 0} (p : Process L) (h : List (Entry L)) (file : List ℕ) : Type 0 where
  pub works : unworked p h ≡ true
  pub later : List (List ℕ)
  pub first : p.wants (taken h) ≡ file ∷ later

-- what every history of a process has
pub record Keeps {L : Type 0} (p : Process L) (h : List (Entry L)) : Type 0 where
  -- What it put is a prefix of its list function of what it took.
  pub prefix : IsPrefixOf (sent h) (p.sends (taken h))
  pub ends : (how : Outcome) → newest h ≡ Some (act.Ended how) → EndsRightly p h how
  -- one that ended with its work done never had a cause
  pub free : newest h ≡ Some (act.Ended outcome.Done) → caused h ≡ None
  -- it has a next action unless it ended
  pub goes_on : next_action p h ≡ None → HasEnded h
  -- a cause closes it down
  pub closes : (a : Action) → next_action p h ≡ Some a → IsOpen a → caused h ≡ None
  pub unstopped : (b : ℕ) → caused h ≡ None → has_stopped b h ≡ false
  -- Who holds the disk puts or takes a page next, loads a file, or releases it.
  pub holder : holds h ≡ true → HoldsOn (next_action p h)
  pub ended_free : HasEnded h → holds h ≡ false
  pub releases : next_action p h ≡ Some act.Release → holds h ≡ true
  pub requests : next_action p h ≡ Some act.Request → holds h ≡ false
  -- a page is put where room was awaited, and taken where an item was
  pub room : (page : Page) → next_action p h ≡ Some (act.PutPage page) → AwaitedRoom h
  pub item : next_action p h ≡ Some act.TakePage → AwaitedItem h
  -- a file is loaded that is wanted first, before the work on what was taken
  pub load : (file : List ℕ) → next_action p h ≡ Some (act.Load file) → Wants p h file

-- Each of the five is a relay, and every history that it may have keeps this.
abbrev pub TheFiveAreRelays : {L : Type 0} → Jobs L → Type 0
TheFiveAreRelays J = (p : ℕ) → IsRelay (process J p)

-- Every history of a relay keeps this.
abbrev pub HistoriesKeep : {L : Type 0} → Jobs L → Type 0
HistoriesKeep {L} J = (p : Process L) (h : List (Entry L)) → IsRelay p → Follows J p h → Keeps p h
