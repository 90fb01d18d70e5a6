-- The twin network: six processes, six buffers, and a desk that four of the processes share.
use Rattle.std.specs.Prelude.{◌≡◌, ◌≤◌, ℕ, ◌==◌, true, if◌then◌else◌, List, [], ◌++◌, length, drop, Option, Some}
use Rattle.std.specs.Option.{option_map}
use Rattle.network_law.specs.Acts.{Call, Alone, At, Asks, Gives, Awaits, Passes, Moves, Stops, Went, Delayed, Told, Moved}
use Rattle.network_law.specs.Acts as go
use Rattle.network_law.specs.Network.{Network, State, Event}
use Rattle.solo_base.specs.declared.item.Item.{Item}
use Rattle.solo_base.specs.declared.outcome.Side.{Side}
use Rattle.solo_base.specs.declared.outcome.Side.TheVariants.{Sender, Receiver}
use Rattle.solo_base.specs.Prefixes.{IsPrefixOf}
use Rattle.solo_base.specs.Text.{line_text}
use Rattle.solo_devices.specs.declared.card_read.CardRead.{CardRead}
use Rattle.solo_devices.specs.CardUnit.{item_of}
use Rattle.page_codec.specs.Items.{AreItems}
use Rattle.batch_procs.specs.declared.actions.Reply.{Reply}
use Rattle.batch_procs.specs.Jobs.{Jobs, FilesAs}
use Rattle.batch_procs.specs.Parcels.{Parcel, OfFeed, OfPage, is_last, mark}
use Rattle.place_law.specs.Process.{Does, LacksMemory, Delays, action_of}
use Rattle.solo_devices.specs.declared.card_read.CardRead.TheVariants as read
use Rattle.batch_procs.specs.declared.actions.Reply.TheVariants as reply
use Rattle.twin_law.specs.Process.{Action, ReadCard, PutFeed, TakeFeed, AwaitRoom, AwaitItem, Request, PutPage, TakePage, Load, Release, Local, Print, Stop, Ended, Entry, Process, next_action}
use Rattle.twin_law.specs.Sides.{other}
use Rattle.twin_law.specs.Table.{process}

-- ---- the buffers: 1 from card to input, 2 and 3 to the job processes, 4 and 5 from them, 6 from output to
-- printer
abbrev pub seat : ℕ → Side → ℕ
seat b Sender =
    if b == 1 then 1 else if b == 2 then 2 else if b == 3 then 2 else if b == 4 then 3 else if b == 5 then 4
    else 5
seat b Receiver =
    if b == 1 then 2 else if b == 2 then 3 else if b == 3 then 4 else if b == 4 then 5 else if b == 5 then 5
    else 6

-- the side at which a process stops a buffer
abbrev pub side_at : ℕ → ℕ → Side
side_at p b = if seat b Sender == p then Sender else Receiver

-- what an action of a process is to the monitors
abbrev pub call : ℕ → Action → Call
call p (PutFeed b f) = At b Sender Passes
call p (TakeFeed b) = At b Receiver Passes
call p (AwaitRoom b) = At b Sender Awaits
call p (AwaitItem b) = At b Receiver Awaits
call p (PutPage b page) = At b Sender Moves
call p (TakePage b) = At b Receiver Moves
call p (Stop b) = At b (side_at p b) Stops
call p Request = Asks
call p Release = Gives
call p other = Alone

-- and how it went there
abbrev pub went_by : {L : Type 0} → Action → Reply L → Went (Parcel L)
went_by (PutFeed b f) reply.Done = Moved (OfFeed f)
went_by (PutPage b page) reply.Done = Moved (OfPage page (mark page))
went_by (TakeFeed b) (reply.Feed f) = Moved (OfFeed f)
went_by (TakePage b) (reply.Page page last) = Moved (OfPage page last)
went_by action reply.Stopped = Told
went_by action r = go.Done

abbrev pub went : {L : Type 0} → Entry L → Went (Parcel L)
went (Does action r) = went_by action r
went (LacksMemory action r) = went_by action r
went (Delays action) = Delayed

-- ---- which replies an action may have
-- A take is given what it takes. A call at a buffer may be told that the other side has stopped, and a call
-- of a device that it failed; a load and a print may be refused memory. Any other call is done.
abbrev pub Fits : {L : Type 0} → Action → Reply L → Type 0
Fits ReadCard (reply.Card answer) = Unit {0}
Fits (PutFeed b f) reply.Done = Unit {0}
Fits (PutFeed b f) reply.Stopped = Unit {0}
Fits (TakeFeed b) (reply.Feed f) = Unit {0}
Fits (TakeFeed b) reply.Stopped = Unit {0}
Fits (AwaitRoom b) reply.Done = Unit {0}
Fits (AwaitRoom b) reply.Stopped = Unit {0}
Fits (AwaitItem b) reply.Done = Unit {0}
Fits (AwaitItem b) reply.Stopped = Unit {0}
Fits Request reply.Done = Unit {0}
Fits (PutPage b page) reply.Done = Unit {0}
Fits (PutPage b page) reply.Failed = Unit {0}
Fits (TakePage b) (reply.Page page last) = Unit {0}
Fits (TakePage b) reply.Failed = Unit {0}
Fits (Load file) (reply.Loaded load) = Unit {0}
Fits (Load file) reply.Failed = Unit {0}
Fits (Load file) reply.NoMemory = Unit {0}
Fits Release reply.Done = Unit {0}
Fits Local reply.Done = Unit {0}
Fits (Print line) reply.Done = Unit {0}
Fits (Print line) reply.Failed = Unit {0}
Fits (Print line) reply.NoMemory = Unit {0}
Fits (Stop b) reply.Done = Unit {0}
Fits (Ended how) reply.Done = Unit {0}
Fits action r = ⊥

-- A card that is read is an item, and what is loaded is a load of these jobs.
abbrev pub IsGood : {L : Type 0} → Jobs L → Reply L → Type 0
IsGood J (reply.Card answer) = AreItems (item_of answer)
IsGood J (reply.Loaded load) = J.IsLoad load
IsGood J r = Unit {0}

-- a reply that may come without the memory to use it: a page that was taken, or that the work may begin
abbrev pub MayLack : {L : Type 0} → Action → Reply L → Type 0
MayLack (TakePage b) (reply.Page page last) = Unit {0}
MayLack Local reply.Done = Unit {0}
MayLack action r = ⊥

-- a call that may wait
abbrev pub MayWait : Action → Type 0
MayWait (PutFeed b f) = Unit {0}
MayWait (TakeFeed b) = Unit {0}
MayWait (AwaitRoom b) = Unit {0}
MayWait (AwaitItem b) = Unit {0}
MayWait Request = Unit {0}
MayWait action = ⊥

-- the reply fits its action; memory may be lacking where the process works
abbrev pub Suits : {L : Type 0} → Jobs L → Process L → Entry L → Type 0
Suits J p (Does action r) = Fits action r × IsGood J r
Suits J p (LacksMemory action r) = (p.works ≡ true) × MayLack action r
Suits J p (Delays action) = MayWait action

-- ---- the devices: the items ahead on the deck, the bytes that the paper was given, and what each file is
-- loaded as, where they are told
pub record Devices (L : Type 0) : Type 0 where
  pub deck : Option (List Item)
  pub paper : Option (List ℕ)
  pub files : Option (FilesAs L)

-- A told deck gives its first item, and its end only where there is none. It may fail at any time.
pub record DeckGives (deck : Option (List Item)) (answer : CardRead) : Type 0 where
  pub item : (items : List Item) → deck ≡ Some items → (rest : List Item) × (items ≡ item_of answer ++ rest)
  pub end : (items : List Item) → deck ≡ Some items → answer ≡ read.End → items ≡ []

-- A told file area loads a file as it stands there. It may fail at any time.
abbrev pub FilesGive : {L : Type 0} → Option (FilesAs L) → List ℕ → L → Type 0
FilesGive {L} files file load = (found : FilesAs L) → files ≡ Some found → load ≡ found file

-- A print gives the paper its line, and where it fails a part of it. No other action gives the paper
-- anything.
abbrev pub Allows : {L : Type 0} → Devices L → Entry L → List ℕ → Type 0
Allows devices (Does ReadCard (reply.Card answer)) gained = DeckGives devices.deck answer × (gained ≡ [])
Allows devices (Does (Load file) (reply.Loaded load)) gained =
    FilesGive devices.files file load × (gained ≡ [])
Allows devices (Does (Print line) reply.Done) gained = gained ≡ line_text line
Allows devices (Does (Print line) r) gained = IsPrefixOf gained (line_text line)
Allows devices entry gained = gained ≡ []

-- the item that an entry took off the deck
abbrev pub items_by : {L : Type 0} → Reply L → List Item
items_by (reply.Card answer) = item_of answer
items_by r = []

abbrev pub read_off : {L : Type 0} → Entry L → List Item
read_off (Does ReadCard r) = items_by r
read_off entry = []

abbrev pub given : {L : Type 0} → Devices L → Entry L → List ℕ → Devices L
given devices entry gained = record {
  deck = option_map (drop (length (read_off entry))) devices.deck;
  paper = option_map (λ before. before ++ gained) devices.paper;
  files = devices.files;
}

-- ---- the network
abbrev pub twin : {L : Type 0} → Jobs L → Network (Devices L) Action (Entry L) (Parcel L)
twin J = record {
  size = 6;
  next = λ p h. next_action (process J p) h;
  action = action_of;
  call = call;
  went = went;
  Suits = λ p entry. Suits J (process J p) entry;
  mark = is_last;
  seat = seat;
  Allows = Allows;
  given = given;
}

abbrev pub TwinState : Type 0 → Type 0
TwinState L = State (Devices L) (Entry L) (Parcel L)

abbrev pub TwinEvent : Type 0 → Type 0
TwinEvent L = Event (Entry L)

abbrev pub IsBuffer : ℕ → Type 0
IsBuffer b = (1 ≤ b) × (b ≤ 6)

abbrev pub IsProcess : ℕ → Type 0
IsProcess p = (1 ≤ p) × (p ≤ 6)
