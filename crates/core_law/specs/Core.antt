-- The core: the five processes in a row over the buffers between them, and one disk. Process p takes from the
-- buffer p - 1 and puts into the buffer p; the first reads the deck and the last prints.
use Rattle.std.specs.Prelude.{◌≡◌, ◌≤◌, ◌<◌, ◌==◌, ℕ, zero, suc, if◌then◌else◌, List, [], ◌++◌, length, drop, Option, Some}
use Rattle.std.specs.Option.{option_map}
use Rattle.solo_base.specs.declared.item.Item.{Item}
use Rattle.solo_base.specs.declared.outcome.Side.{Side}
use Rattle.solo_base.specs.declared.outcome.Side.TheVariants.{Sender, Receiver}
use Rattle.solo_base.specs.Text.{line_text}
use Rattle.solo_devices.specs.declared.card_read.CardRead.{CardRead}
use Rattle.solo_devices.specs.declared.card_read.CardRead.TheVariants as read
use Rattle.solo_devices.specs.CardUnit.{item_of}
use Rattle.solo_base.specs.Prefixes.{IsPrefixOf}
use Rattle.batch_procs.specs.declared.actions.Action.{Action}
use Rattle.batch_procs.specs.declared.actions.Action.TheVariants as act
use Rattle.batch_procs.specs.declared.actions.Reply.{Reply}
use Rattle.batch_procs.specs.declared.actions.Reply.TheVariants as reply
use Rattle.batch_procs.specs.Jobs.{Jobs, FilesAs}
use Rattle.batch_procs.specs.Parcels.{Parcel, OfFeed, OfPage, is_last, mark}
use Rattle.batch_procs.specs.History.{Entry, Does, LacksMemory, Delays, action_of}
use Rattle.batch_procs.specs.Process.{Process, IsFitting, next_action}
use Rattle.network_law.specs.Acts.{Call, Alone, At, Asks, Gives, Awaits, Passes, Moves, Stops, Went, Delayed, Told, Done, Moved}
use Rattle.network_law.specs.Network.{Network, State, Event}

-- ---- what an action is to the monitors
-- the buffer that a process takes from
abbrev pub upstream : ℕ → ℕ
upstream zero = zero
upstream (suc b) = b

-- the process at a side of a buffer
abbrev pub seat : ℕ → Side → ℕ
seat b Sender = b
seat b Receiver = suc b

abbrev pub side_at : ℕ → ℕ → Side
side_at p b = if p == b then Sender else Receiver

abbrev pub call : ℕ → Action → Call
call p act.ReadCard = Alone
call p (act.PutFeed f) = At p Sender Passes
call p act.TakeFeed = At (upstream p) Receiver Passes
call p act.AwaitRoom = At p Sender Awaits
call p act.AwaitItem = At (upstream p) Receiver Awaits
call p act.Request = Asks
call p (act.PutPage page) = At p Sender Moves
call p act.TakePage = At (upstream p) Receiver Moves
call p act.Release = Gives
call p (act.Load file) = Alone
call p act.Local = Alone
call p (act.Print line) = Alone
call p (act.Stop b) = At b (side_at p b) Stops
call p (act.Ended how) = Alone

-- how an entry went there: what is handed over is moved
abbrev pub went_by : {L : Type 0} → Action → Reply L → Went (Parcel L)
went_by (act.PutFeed f) reply.Done = Moved (OfFeed f)
went_by (act.PutPage page) reply.Done = Moved (OfPage page (mark page))
went_by act.TakeFeed (reply.Feed f) = Moved (OfFeed f)
went_by act.TakePage (reply.Page page last) = Moved (OfPage page last)
went_by action reply.Stopped = Told
went_by action r = Done

abbrev pub went : {L : Type 0} → Entry L → Went (Parcel L)
went (Does action r) = went_by action r
went (LacksMemory action r) = went_by action r
went (Delays action) = Delayed

-- ---- the devices: the items ahead on the deck, the bytes that the paper was given, and what each file is
-- loaded as, where they are told
pub record Devices (L : Type 0) : Type 0 where
  pub deck : Option (List Item)
  pub paper : Option (List ℕ)
  pub files : Option (FilesAs L)

-- A told deck gives its first item, and its end only where there is none. It may fail at any time.
pub record DeckGives (deck : Option (List Item)) (answer : CardRead) : Type 0 where
  pub item : (items : List Item) → deck ≡ Some items → (rest : List Item) × (items ≡ item_of answer ++ rest)
  pub end : (items : List Item) → deck ≡ Some items → answer ≡ read.End → items ≡ []

-- A told file area loads a file as it stands there. It may fail at any time.
abbrev pub FilesGive : {L : Type 0} → Option (FilesAs L) → List ℕ → L → Type 0
FilesGive {L} files file load = (found : FilesAs L) → files ≡ Some found → load ≡ found file

-- A print gives the paper its line, and where it fails a part of it. No other action gives the paper
-- anything.
abbrev pub Allows : {L : Type 0} → Devices L → Entry L → List ℕ → Type 0
Allows devices (Does act.ReadCard (reply.Card answer)) gained = DeckGives devices.deck answer × (gained ≡ [])
Allows devices (Does (act.Load file) (reply.Loaded load)) gained =
    FilesGive devices.files file load × (gained ≡ [])
Allows devices (Does (act.Print line) reply.Done) gained = gained ≡ line_text line
Allows devices (Does (act.Print line) r) gained = IsPrefixOf gained (line_text line)
Allows devices entry gained = gained ≡ []

-- the item that an entry took off the deck
abbrev pub items_by : {L : Type 0} → Reply L → List Item
items_by (reply.Card answer) = item_of answer
items_by r = []

abbrev pub read_off : {L : Type 0} → Entry L → List Item
read_off (Does act.ReadCard r) = items_by r
read_off entry = []

abbrev pub given : {L : Type 0} → Devices L → Entry L → List ℕ → Devices L
given devices entry gained = record {
  deck = option_map (drop (length (read_off entry))) devices.deck;
  paper = option_map (λ before. before ++ gained) devices.paper;
  files = devices.files;
}

-- ---- the network
abbrev pub core : {L : Type 0} → Jobs L → (ℕ → Process L) → Network (Devices L) Action (Entry L) (Parcel L)
core J row = record {
  size = 5;
  next = λ p h. next_action (row p) h;
  action = action_of;
  call = call;
  went = went;
  Suits = λ p entry. IsFitting J (row p) entry;
  mark = is_last;
  seat = seat;
  Allows = Allows;
  given = given;
}

abbrev pub CoreState : Type 0 → Type 0
CoreState L = State (Devices L) (Entry L) (Parcel L)

abbrev pub CoreEvent : Type 0 → Type 0
CoreEvent L = Event (Entry L)

abbrev pub IsBuffer : ℕ → Type 0
IsBuffer b = (1 ≤ b) × (b < 5)
