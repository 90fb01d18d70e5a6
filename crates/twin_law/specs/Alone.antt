-- A process alone: what it puts for what stands in its buffers, where nothing fails and each file is loaded
-- as these files say. And what a history tells of that.
use Rattle.std.specs.Prelude.{◌≡◌, ℕ, zero, suc, ◌==◌, Bool, true, false, if◌then◌else◌, List, [], ◌∷◌, ◌++◌, drop}
use Rattle.batch_procs.specs.declared.actions.Reply.{Reply}
use Rattle.batch_procs.specs.Jobs.{FilesAs}
use Rattle.batch_procs.specs.Parcels.{Parcel, OfFeed, OfPage, OfLine, OfLoad, mark}
use Rattle.place_law.specs.Process.{Does, LacksMemory, Delays}
use Rattle.solo_base.specs.declared.item.Feed.TheVariants as feed
use Rattle.batch_procs.specs.declared.actions.Reply.TheVariants as reply
use Rattle.twin_law.specs.Process.{Action, PutFeed, TakeFeed, PutPage, TakePage, Load, Local, Print, Entry, Aim, Reads, PutsFeed, TakesFeed, PutsPage, TakesPage, Loads, Works, Prints, Finishes, Process}

-- the reply that hands over a parcel
abbrev pub reply_of : {L : Type 0} → Parcel L → Reply L
reply_of (OfFeed f) = reply.Feed f
reply_of (OfPage page last) = reply.Page page last
reply_of (OfLine line) = reply.Done
reply_of (OfLoad load) = reply.Loaded load

abbrev pub first_parcel : {L : Type 0} → List (Parcel L) → Parcel L
first_parcel [] = OfFeed feed.End
first_parcel (parcel ∷ rest) = parcel

-- what is inside each buffer, but one less in this one
abbrev pub less_one : {L : Type 0} → (ℕ → List (Parcel L)) → ℕ → ℕ → List (Parcel L)
less_one inside b c = if c == b then drop 1 (inside c) else inside c

-- a parcel that is put into a buffer; a line that is printed stands under 0
pub record Put (L : Type 0) : Type 0 where
  pub at : ℕ
  pub parcel : Parcel L

-- behind what it does at a place: what it put, where it stands, what is inside its buffers then, and whether
-- it does nothing more
pub record Step {L : Type 0} (p : Process L) : Type 0 where
  pub puts : List (Put L)
  pub at : p.Place
  pub inside : ℕ → List (Parcel L)
  pub ended : Bool

abbrev pub answered : {L : Type 0} → (p : Process L) → p.Place → (ℕ → List (Parcel L)) → List (Put L)
    → Reply L
    → Step p
answered p at inside puts r = record { puts = puts; at = p.behind at r; inside = inside; ended = false }

abbrev pub takes : {L : Type 0} → (p : Process L) → p.Place → (ℕ → List (Parcel L)) → ℕ → Step p
takes p at inside b =
    record {
      puts = [];
      at = p.behind at (reply_of (first_parcel (inside b)));
      inside = less_one inside b;
      ended = false;
    }

abbrev pub stands_still : {L : Type 0} → (p : Process L) → p.Place → (ℕ → List (Parcel L)) → Step p
stands_still p at inside = record { puts = []; at = at; inside = inside; ended = true }

abbrev pub step : {L : Type 0} → FilesAs L → (p : Process L) → p.Place → (ℕ → List (Parcel L)) → Aim → Step p
step found p at inside (PutsFeed b f) =
    answered p at inside (record { at = b; parcel = OfFeed f } ∷ []) reply.Done
step found p at inside (PutsPage b page) =
    answered p at inside (record { at = b; parcel = OfPage page (mark page) } ∷ []) reply.Done
step found p at inside (TakesFeed b) = takes p at inside b
step found p at inside (TakesPage b) = takes p at inside b
step found p at inside (Prints line) =
    answered p at inside (record { at = 0; parcel = OfLine line } ∷ []) reply.Done
step found p at inside (Loads file) = answered p at inside [] (reply.Loaded (found file))
step found p at inside Works = answered p at inside [] reply.Done
step found p at inside Reads = stands_still p at inside
step found p at inside Finishes = stands_still p at inside

-- all that it puts for what it finds in its buffers, in so many steps
abbrev pub alone : {L : Type 0} → FilesAs L → (p : Process L) → ℕ → p.Place → (ℕ → List (Parcel L))
    → List (Put L)
alone found p zero at inside = []
alone found p (suc n) at inside =
    let s = step found p at inside (p.aims at) in
    s.puts ++ (if s.ended then [] else alone found p n s.at s.inside)

-- those at one buffer
abbrev pub put_at : {L : Type 0} → ℕ → List (Put L) → List (Parcel L)
put_at b [] = []
put_at b (put ∷ rest) = (if b == put.at then put.parcel ∷ [] else []) ++ put_at b rest

-- ---- what a history tells
-- each file was loaded as these files say
abbrev pub IsLoadedSo : {L : Type 0} → FilesAs L → Entry L → Type 0
IsLoadedSo found (Does (Load file) (reply.Loaded load)) = load ≡ found file
IsLoadedSo found entry = Unit {0}

abbrev pub AreLoadedSo : {L : Type 0} → FilesAs L → List (Entry L) → Type 0
AreLoadedSo found [] = Unit {0}
AreLoadedSo found (entry ∷ before) = IsLoadedSo found entry × AreLoadedSo found before

-- what an entry put, and all that was put, the first of all first
abbrev pub puts_by : {L : Type 0} → Action → Reply L → List (Put L)
puts_by (PutFeed b f) reply.Done = record { at = b; parcel = OfFeed f } ∷ []
puts_by (PutPage b page) reply.Done = record { at = b; parcel = OfPage page (mark page) } ∷ []
puts_by (Print line) reply.Done = record { at = 0; parcel = OfLine line } ∷ []
puts_by action r = []

abbrev pub puts : {L : Type 0} → List (Entry L) → List (Put L)
puts [] = []
puts (Does action r ∷ before) = puts before ++ puts_by action r
puts (LacksMemory action r ∷ before) = puts before
puts (Delays action ∷ before) = puts before

-- what stood in its buffers before an entry, where this stands there behind it
abbrev pub before_entry : {L : Type 0} → Action → Reply L → (ℕ → List (Parcel L)) → ℕ → List (Parcel L)
before_entry (TakeFeed b) (reply.Feed f) ahead c = if c == b then OfFeed f ∷ ahead c else ahead c
before_entry (TakePage b) (reply.Page page last) ahead c =
    if c == b then OfPage page last ∷ ahead c else ahead c
before_entry action r ahead c = ahead c

abbrev pub before_all : {L : Type 0} → List (Entry L) → (ℕ → List (Parcel L)) → ℕ → List (Parcel L)
before_all [] ahead = ahead
before_all (Does action r ∷ before) ahead = before_all before (before_entry action r ahead)
before_all (LacksMemory action r ∷ before) ahead = before_all before ahead
before_all (Delays action ∷ before) ahead = before_all before ahead

-- and how many steps there were
abbrev pub step_more : {L : Type 0} → Action → Reply L → ℕ → ℕ
step_more (PutFeed b f) reply.Done n = suc n
step_more (PutPage b page) reply.Done n = suc n
step_more (Print line) reply.Done n = suc n
step_more (TakeFeed b) (reply.Feed f) n = suc n
step_more (TakePage b) (reply.Page page last) n = suc n
step_more (Load file) (reply.Loaded load) n = suc n
step_more Local reply.Done n = suc n
step_more action r n = n

abbrev pub steps_more : {L : Type 0} → List (Entry L) → ℕ → ℕ
steps_more [] n = n
steps_more (Does action r ∷ before) n = steps_more before (step_more action r n)
steps_more (LacksMemory action r ∷ before) n = steps_more before n
steps_more (Delays action ∷ before) n = steps_more before n
