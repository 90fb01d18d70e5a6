-- The first and the last: the card process reads the deck, the printer process prints.
use Rattle.std.specs.Prelude.{ℕ, false, List, [], ◌∷◌, None}
use Rattle.solo_base.specs.declared.item.Item.{Item}
use Rattle.solo_base.specs.declared.item.Item.TheVariants.{Line, Spoiled}
use Rattle.solo_base.specs.declared.item.Feed.{Feed}
use Rattle.solo_devices.specs.declared.card_read.CardRead.{CardRead}
use Rattle.batch_procs.specs.declared.actions.Reply.{Reply}
use Rattle.solo_base.specs.declared.item.Feed.TheVariants as feed
use Rattle.solo_devices.specs.declared.card_read.CardRead.TheVariants as read
use Rattle.batch_procs.specs.declared.actions.Reply.TheVariants as reply
use Rattle.twin_law.specs.Process.{Aim, Reads, PutsFeed, TakesFeed, Prints, Finishes, Process}

-- ---- 1 card
pub data CardPlace : Type 0 where
  ReadsCard : CardPlace
  PutsCard : Item → CardPlace
  PutsEnd : CardPlace
  HasPut : CardPlace

abbrev pub card_aims : CardPlace → Aim
card_aims ReadsCard = Reads
card_aims (PutsCard item) = PutsFeed 1 (feed.Item item)
card_aims PutsEnd = PutsFeed 1 feed.End
card_aims HasPut = Finishes

abbrev pub behind_read : CardRead → CardPlace
behind_read (read.Card line) = PutsCard (Line line)
behind_read read.Spoiled = PutsCard Spoiled
behind_read read.End = PutsEnd
behind_read read.Failed = ReadsCard
behind_read read.Limit = ReadsCard

abbrev pub card_behind : {L : Type 0} → CardPlace → Reply L → CardPlace
card_behind ReadsCard (reply.Card answer) = behind_read answer
card_behind (PutsCard item) reply.Done = ReadsCard
card_behind PutsEnd reply.Done = HasPut
card_behind at r = at

abbrev pub card : {L : Type 0} → Process L
card = record {
  Place = CardPlace;
  start = ReadsCard;
  aims = card_aims;
  behind = card_behind;
  finds = λ at r. None;
  works = false;
  buffers = 1 ∷ [];
  spools = [];
}

-- ---- 6 printer; a spoiled item is passed over
pub data PrinterPlace : Type 0 where
  TakesLine : PrinterPlace
  PrintsLine : List ℕ → PrinterPlace
  HasPrinted : PrinterPlace

abbrev pub printer_aims : PrinterPlace → Aim
printer_aims TakesLine = TakesFeed 6
printer_aims (PrintsLine line) = Prints line
printer_aims HasPrinted = Finishes

abbrev pub behind_line : Feed → PrinterPlace
behind_line (feed.Item (Line line)) = PrintsLine line
behind_line (feed.Item Spoiled) = TakesLine
behind_line feed.End = HasPrinted

abbrev pub printer_behind : {L : Type 0} → PrinterPlace → Reply L → PrinterPlace
printer_behind TakesLine (reply.Feed f) = behind_line f
printer_behind (PrintsLine line) reply.Done = TakesLine
printer_behind at r = at

abbrev pub printer : {L : Type 0} → Process L
printer = record {
  Place = PrinterPlace;
  start = TakesLine;
  aims = printer_aims;
  behind = printer_behind;
  finds = λ at r. None;
  works = false;
  buffers = 6 ∷ [];
  spools = [];
}
