-- Which replies an action may have.
use Rattle.solo_devices.specs.CardUnit.{item_of}
use Rattle.page_codec.specs.Items.{AreItems}
use Rattle.batch_procs.specs.declared.actions.Action.{Action}
use Rattle.batch_procs.specs.declared.actions.Action.TheVariants as act
use Rattle.batch_procs.specs.declared.actions.Reply.{Reply}
use Rattle.batch_procs.specs.declared.actions.Reply.TheVariants as reply
use Rattle.batch_procs.specs.Jobs.{Jobs}

-- A take is given what it takes, and a card that is read is an item. A call at a buffer may be told that the
-- other side has stopped, and a call of a device that it failed; a load and a print may be refused memory.
-- What is loaded is a load of these jobs. Any other call is done.
abbrev pub Fits : {L : Type 0} → Jobs L → Action → Reply L → Type 0
Fits J act.ReadCard (reply.Card answer) = AreItems (item_of answer)
Fits J (act.PutFeed f) reply.Done = Unit {0}
Fits J (act.PutFeed f) reply.Stopped = Unit {0}
Fits J act.TakeFeed (reply.Feed f) = Unit {0}
Fits J act.TakeFeed reply.Stopped = Unit {0}
Fits J act.AwaitRoom reply.Done = Unit {0}
Fits J act.AwaitRoom reply.Stopped = Unit {0}
Fits J act.AwaitItem reply.Done = Unit {0}
Fits J act.AwaitItem reply.Stopped = Unit {0}
Fits J act.Request reply.Done = Unit {0}
Fits J (act.PutPage page) reply.Done = Unit {0}
Fits J (act.PutPage page) reply.Failed = Unit {0}
Fits J act.TakePage (reply.Page page last) = Unit {0}
Fits J act.TakePage reply.Failed = Unit {0}
Fits J act.Release reply.Done = Unit {0}
Fits J (act.Load file) (reply.Loaded load) = J.IsLoad load
Fits J (act.Load file) reply.Failed = Unit {0}
Fits J (act.Load file) reply.NoMemory = Unit {0}
Fits J act.Local reply.Done = Unit {0}
Fits J (act.Print line) reply.Done = Unit {0}
Fits J (act.Print line) reply.Failed = Unit {0}
Fits J (act.Print line) reply.NoMemory = Unit {0}
Fits J (act.Stop b) reply.Done = Unit {0}
Fits J (act.Ended how) reply.Done = Unit {0}
Fits J action r = ⊥

-- a reply that may come without the memory to use it: a page that was taken, or that the work may begin
abbrev pub MayLack : {L : Type 0} → Action → Reply L → Type 0
MayLack act.TakePage (reply.Page page last) = Unit {0}
MayLack act.Local reply.Done = Unit {0}
MayLack action r = ⊥

-- a call that may wait
abbrev pub MayWait : Action → Type 0
MayWait (act.PutFeed f) = Unit {0}
MayWait act.TakeFeed = Unit {0}
MayWait act.AwaitRoom = Unit {0}
MayWait act.AwaitItem = Unit {0}
MayWait act.Request = Unit {0}
MayWait action = ⊥
