-- The history of a process, and what it tells of the process. The newest entry stands first.
use Rattle.std.specs.Prelude.{ℕ, Bool, true, false, not, ◌==◌, ◌||◌, List, [], ◌∷◌, ◌++◌, Option, None, Some}
use Rattle.solo_base.specs.declared.item.Item.TheVariants.{Line, Spoiled}
use Rattle.solo_base.specs.declared.item.Feed.TheVariants as feed
use Rattle.solo_devices.specs.declared.card_read.CardRead.{CardRead}
use Rattle.solo_devices.specs.declared.card_read.CardRead.TheVariants as read
use Rattle.batch_procs.specs.declared.actions.Action.{Action}
use Rattle.batch_procs.specs.declared.actions.Action.TheVariants as act
use Rattle.batch_procs.specs.declared.actions.Reply.{Reply}
use Rattle.batch_procs.specs.declared.actions.Reply.TheVariants as reply
use Rattle.batch_procs.specs.Parcels.{Parcel, OfFeed, OfPage, OfLine, OfLoad, is_the_end, mark}

-- An action with its reply; one whose reply came without the memory to use it; or a call that waits.
pub data Entry (L : Type 0) : Type 0 where
  Does : Action → Reply L → Entry L
  LacksMemory : Action → Reply L → Entry L
  Delays : Action → Entry L

-- the action of an entry, answered or waiting
abbrev pub action_of : {L : Type 0} → Entry L → Action
action_of (Does action reply) = action
action_of (LacksMemory action reply) = action
action_of (Delays action) = action

-- ---- what it took
abbrev pub card_taken : {L : Type 0} → CardRead → List (Parcel L)
card_taken (read.Card line) = OfFeed (feed.Item (Line line)) ∷ []
card_taken read.Spoiled = OfFeed (feed.Item Spoiled) ∷ []
card_taken read.End = OfFeed feed.End ∷ []
card_taken read.Failed = []
card_taken read.Limit = []

-- what a reply hands over
abbrev pub taken_by : {L : Type 0} → Reply L → List (Parcel L)
taken_by reply.Done = []
taken_by reply.Stopped = []
taken_by reply.Failed = []
taken_by reply.NoMemory = []
taken_by (reply.Card answer) = card_taken answer
taken_by (reply.Feed f) = OfFeed f ∷ []
taken_by (reply.Page page last) = OfPage page last ∷ []
taken_by (reply.Loaded load) = OfLoad load ∷ []

-- what one entry took
abbrev pub took : {L : Type 0} → Entry L → List (Parcel L)
took (Does action reply) = taken_by reply
took (LacksMemory action reply) = taken_by reply
took (Delays action) = []

-- all that it took, the earliest first
abbrev pub taken : {L : Type 0} → List (Entry L) → List (Parcel L)
taken [] = []
taken (Does action reply ∷ before) = taken before ++ taken_by reply
taken (LacksMemory action reply ∷ before) = taken before ++ taken_by reply
taken (Delays action ∷ before) = taken before

-- ---- what it put
abbrev pub if_done : {L : Type 0} → Reply L → Parcel L → List (Parcel L)
if_done reply.Done parcel = parcel ∷ []
if_done other parcel = []

-- what an action put that was answered so
abbrev pub put_by : {L : Type 0} → Action → Reply L → List (Parcel L)
put_by (act.PutFeed f) r = if_done r (OfFeed f)
put_by (act.PutPage page) r = if_done r (OfPage page (mark page))
put_by (act.Print line) r = if_done r (OfLine line)
put_by other r = []

-- what one entry put
abbrev pub put : {L : Type 0} → Entry L → List (Parcel L)
put (Does action reply) = put_by action reply
put (LacksMemory action reply) = []
put (Delays action) = []

-- all that it put, the earliest first
abbrev pub sent : {L : Type 0} → List (Entry L) → List (Parcel L)
sent [] = []
sent (Does action reply ∷ before) = sent before ++ put_by action reply
sent (LacksMemory action reply ∷ before) = sent before
sent (Delays action ∷ before) = sent before

-- ---- the disk: granted by a request, until the release
abbrev pub holds_after : Bool → Action → Bool
holds_after held act.Request = true
holds_after held act.Release = false
holds_after held other = held

-- whether it holds the disk now
abbrev pub holds : {L : Type 0} → List (Entry L) → Bool
holds [] = false
holds (Does action reply ∷ before) = holds_after (holds before) action
holds (LacksMemory action reply ∷ before) = holds before
holds (Delays action ∷ before) = holds before

-- ---- the stops of its buffers
abbrev pub stops_at : ℕ → Action → Bool
stops_at b (act.Stop c) = b == c
stops_at b other = false

-- whether it has stopped this buffer
abbrev pub has_stopped : {L : Type 0} → ℕ → List (Entry L) → Bool
has_stopped b [] = false
has_stopped b (Does action reply ∷ before) = stops_at b action || has_stopped b before
has_stopped b (LacksMemory action reply ∷ before) = has_stopped b before
has_stopped b (Delays action ∷ before) = has_stopped b before

-- ---- the newest entry
-- the newest action that was answered
abbrev pub newest : {L : Type 0} → List (Entry L) → Option Action
newest [] = None
newest (Does action reply ∷ before) = Some action
newest (LacksMemory action reply ∷ before) = Some action
newest (Delays action ∷ before) = newest before

-- whether the newest entry is a call that waits
abbrev pub waits : {L : Type 0} → List (Entry L) → Bool
waits [] = false
waits (Does action reply ∷ before) = false
waits (LacksMemory action reply ∷ before) = false
waits (Delays action ∷ before) = true

-- ---- the work on what was taken
-- Work is to be done behind each take, and behind each put but that of the last.
abbrev pub is_unworked : {L : Type 0} → List (Entry L) → Bool
is_unworked [] = false
is_unworked (Does act.Local reply ∷ before) = false
is_unworked (Does act.ReadCard reply ∷ before) = true
is_unworked (Does act.TakeFeed reply ∷ before) = true
is_unworked (Does act.TakePage reply ∷ before) = true
is_unworked (Does (act.PutFeed f) reply ∷ before) = not (is_the_end f)
is_unworked (Does (act.PutPage page) reply ∷ before) = not (mark page)
is_unworked (Does (act.Print line) reply ∷ before) = true
is_unworked (entry ∷ before) = is_unworked before
