-- A stream of items whose lines are made as they come.
use Rattle.std.specs.Prelude.{◌≡◌, ℕ, ◌+◌, Bool, true, false, not, List, [], ◌∷◌, ◌++◌, length, drop, Option, Some, None}
use Rattle.solo_base.specs.declared.item.Item.{Item}
use Rattle.solo_base.specs.declared.page.Page.{Page}
use Rattle.page_codec.specs.Reading.{PageContent, items_left}
use Rattle.page_codec.specs.Packing.{PageInHand}
use Rattle.page_codec.specs.Pushes.{pages_given, hand_behind, PushesUpTo}
use Rattle.disk_contents.specs.declared.loading.Loaded.{Loaded}
use Rattle.batch_job.specs.Loads.{files_named}
use Rattle.batch_job.specs.LinesSoFar.{lines_so_far}
use Rattle.batch_job.specs.LinesAhead.{Where, lines_ahead}
use Rattle.batch_job.specs.Places.{IsPart, IsSpentPart, Holds, no_lines, lines_left_of, part_left}
use Rattle.batch_job.specs.declared.part.Part.{Part}
use Rattle.batch_job.specs.declared.part.Part.TheVariants as part
use Rattle.batch_job.specs.declared.lines_ahead.End.{End}
use Rattle.batch_job.specs.declared.lines_ahead.End.TheVariants as end
use Rattle.batch_job.specs.declared.lines_ahead.LinesAhead.{LinesAhead}
use Rattle.batch_job.specs.declared.item_lines.ItemLines.{ItemLines}

-- the part of the deck that it is in, the lines that are made and not pushed, the items of its page that are
-- left, what their files were loaded as, the files that are still wanted, and how far its end is
pub record Stream : Type 0 where
  pub part : Part
  pub waiting : ItemLines
  pub left : List Item
  pub loads : List Loaded
  pub wanted : List (List ℕ)
  pub end : End

-- before the first page
abbrev pub new_stream : Stream
new_stream = record {
  part = part.Stretch 0;
  waiting = no_lines;
  left = [];
  loads = [];
  wanted = [];
  end = end.NotYet;
}

-- behind the last page the end is due
abbrev pub end_of : Bool → End
end_of true = end.Due
end_of false = end.NotYet

-- with the items of the next page
abbrev pub fed : Stream → PageContent → Stream
fed stream content = record stream {
  left = content.items;
  loads = [];
  wanted = files_named content.items;
  end = end_of content.last;
}

-- with what was found of the file that is wanted first
abbrev pub with_load : Stream → Loaded → Stream
with_load stream load = record stream { loads = stream.loads ++ load ∷ []; wanted = drop 1 stream.wanted }

-- ---- what it stands for
-- where it stands in its deck, the lines that are made and not pushed, the items that are left, what their
-- files were loaded as, and how far its end is
pub record Account : Type 0 where
  pub place : Where
  pub waiting : List (List ℕ)
  pub left : List Item
  pub loads : List Loaded
  pub end : End

-- of the files that these items name the first are loaded, and these are wanted
pub record AreWanted (left : List Item) (loads : List Loaded) (wanted : List (List ℕ)) : Type 0 where
  pub found : List (List ℕ)
  pub all : files_named left ≡ found ++ wanted
  pub as_many : length found ≡ length loads

pub record IsAccount (stream : Stream) (a : Account) : Type 0 where
  pub part : IsPart stream.part a.place
  pub waiting : Holds stream.waiting a.waiting
  pub left : stream.left ≡ a.left
  pub loads : stream.loads ≡ a.loads
  pub end : stream.end ≡ a.end
  pub wanted : AreWanted a.left a.loads stream.wanted

-- the lines that it still gives, where these items and these loads follow
abbrev pub made_of : Where → List Item → List Loaded → End → List Item → List Loaded → Bool → List (List ℕ)
made_of place left loads end.NotYet more later ended = lines_ahead place (left ++ more) (loads ++ later) ended
made_of place left loads end.Due more later ended = lines_ahead place left (loads ++ later) true
made_of place left loads end.Told more later ended = lines_ahead place [] [] false

-- those that are made, and those still to be made
abbrev pub ahead : Account → List Item → List Loaded → Bool → List (List ℕ)
ahead a more later ended = a.waiting ++ made_of a.place a.left a.loads a.end more later ended

-- These items and loads were given and these lines pushed: whatever follows, they and those that it still
-- gives are the lines so far.
abbrev pub StandsBy : End → Account → List Item → List Loaded → List (List ℕ) → Type 0
StandsBy end.NotYet a items loads pushed =
    (more : List Item) (later : List Loaded) (ended : Bool)
    → lines_so_far (items ++ more) (loads ++ later) ended ≡ pushed ++ ahead a more later ended
StandsBy end.Due a items loads pushed =
    (later : List Loaded) → lines_so_far items (loads ++ later) true ≡ pushed ++ ahead a [] later true
StandsBy end.Told a items loads pushed =
    (later : List Loaded) → lines_so_far items (loads ++ later) true ≡ pushed ++ ahead a [] later true

pub record StandsFor (stream : Stream) (items : List Item) (loads : List Loaded)
    (pushed : List (List ℕ)) : Type 0 where
  pub account : Account
  pub is : IsAccount stream account
  pub by : StandsBy account.end account items loads pushed

-- ---- what it gives
-- whether more pages follow
abbrev pub goes_on : End → Bool
goes_on end.NotYet = true
goes_on end.Due = false
goes_on end.Told = false

-- no line is made that isn't pushed, and the part gives none before the next item
pub record HasNoLine (stream : Stream) : Type 0 where
  pub waiting : (all : List (List ℕ)) → Holds stream.waiting all → all ≡ []
  pub part : IsSpentPart stream.part

-- all lines of the items so far are pushed, and those of the end where it has come
abbrev pub IsTold : End → List Item → Type 0
IsTold end.NotYet left = left ≡ []
IsTold end.Due left = ⊥
IsTold end.Told left = Unit {0}

-- nothing is ahead until the next page
abbrev pub IsSpent : Stream → Type 0
IsSpent stream = HasNoLine stream × IsTold stream.end stream.left

-- these items and loads were given and these lines pushed, and nothing is ahead before the next item
pub record StandsStill (stream : Stream) (items : List Item) (loads : List Loaded)
    (pushed : List (List ℕ)) : Type 0 where
  pub stands : StandsFor stream items loads pushed
  pub waiting : stands.account.waiting ≡ []
  pub place : lines_ahead stands.account.place [] [] false ≡ []

-- the lines that it gave in between
pub record Passes (a : Account) (now : Stream) (lines : List (List ℕ)) : Type 0 where
  pub then_is : Account
  pub is : IsAccount now then_is
  pub gives : (more : List Item) (later : List Loaded) (ended : Bool)
      → ahead a more later ended ≡ lines ++ ahead then_is more later ended

-- it gave none, and nothing is ahead before the next item
pub record Rests (a : Account) (now : Stream) : Type 0 where
  pub passes : Passes a now []
  pub waiting : passes.then_is.waiting ≡ []
  pub place : lines_ahead passes.then_is.place [] [] false ≡ []

-- ---- packing: lines are pushed until a push gives a page
-- These lines are what the stream gave.
abbrev pub Gives : Stream → Stream → List (List ℕ) → Type 0
Gives before after lines =
    (items : List Item) (loads : List Loaded) (so_far : List (List ℕ)) → StandsFor before items loads so_far
    → StandsFor after items loads (so_far ++ lines)

-- Where no push gave a page, all lines of the items so far are pushed.
pub record Packs (before : Stream) (hand : PageInHand) (page : Option Page) (after : Stream)
    (hand_then : PageInHand) : Type 0 where
  pub lines : List (List ℕ)
  pub pushed : PushesUpTo hand lines page
  pub in_hand : hand_then ≡ hand_behind hand lines
  pub gives : Gives before after lines
  pub all : page ≡ None → IsSpent after
  pub told : page ≡ None → (items : List Item) (loads : List Loaded) (so_far : List (List ℕ))
      → StandsFor before items loads so_far
      → lines_so_far items loads (not (goes_on after.end)) ≡ so_far ++ lines
  pub same_end : goes_on after.end ≡ goes_on before.end
  pub same_wanted : after.wanted ≡ before.wanted

-- so far none of its lines gave a page
pub record Pushing (before : Stream) (hand : PageInHand) (after : Stream)
    (hand_then : PageInHand) : Type 0 where
  pub lines : List (List ℕ)
  pub pushed : pages_given hand lines ≡ []
  pub in_hand : hand_then ≡ hand_behind hand lines
  pub gives : Gives before after lines
  pub same_end : goes_on after.end ≡ goes_on before.end
  pub same_wanted : after.wanted ≡ before.wanted

-- so far none of its lines gave a page, and nothing is ahead before the next item
pub record Resting (before : Stream) (hand : PageInHand) (after : Stream)
    (hand_then : PageInHand) : Type 0 where
  pub pushing : Pushing before hand after hand_then
  pub still : (items : List Item) (loads : List Loaded) (so_far : List (List ℕ))
      → StandsFor before items loads so_far
      → StandsStill after items loads (so_far ++ pushing.lines)

-- what pushes of lines that are made come to: a page that went out, or none so far
abbrev pub PacksMade : Stream → PageInHand → Option Page → Stream → PageInHand → Type 0
PacksMade before hand None after hand_then = Resting before hand after hand_then
PacksMade before hand (Some page) after hand_then = Packs before hand (Some page) after hand_then

-- ---- the code's fields
-- as callers see them
abbrev pub stream_of : LinesAhead → Stream
stream_of lines = record {
  part = lines.part;
  waiting = lines.waiting;
  left = items_left lines.items;
  loads = lines.loads.given;
  wanted = lines.loads.wanted;
  end = lines.end;
}

-- no more lines than these are made before the next item
abbrev pub lines_made : Stream → ℕ
lines_made stream = lines_left_of stream.waiting + part_left stream.part

-- how often lines are still to be made: for each item, and for the end
abbrev pub end_work : End → ℕ
end_work end.NotYet = 0
end_work end.Due = 1
end_work end.Told = 0

abbrev pub turns_left : Stream → ℕ
turns_left stream = length stream.left + end_work stream.end
