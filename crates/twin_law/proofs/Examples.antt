-- What the six do next, by computing.
use Rattle.std.proofs.Common.{◌≡◌, List, [], ◌∷◌, None, Some, codes, refl}
use Rattle.solo_base.specs.declared.item.Item.TheVariants.{Line}
use Rattle.solo_base.specs.declared.item.Feed.TheVariants as feed
use Rattle.solo_base.specs.declared.outcome.Outcome.TheVariants as outcome
use Rattle.solo_base.specs.declared.outcome.Cause.TheVariants as cause
use Rattle.solo_devices.specs.declared.card_read.CardRead.TheVariants as read
use Rattle.batch_procs.specs.declared.actions.Reply.TheVariants as reply
use Rattle.place_law.specs.Process.{Does, Delays}
use Rattle.twin_law.specs.Process.{ReadCard, PutFeed, TakeFeed, AwaitRoom, AwaitItem, Request, PutPage, Release, Print, Stop, Ended, Entry, next_action}
use Rattle.twin_law.specs.Ends.{card, printer}
use Rattle.twin_law.specs.Input.{empty_page, input}
use Rattle.twin_law.specs.Output.{output}

-- a deck without units: two streams without items, and both spools are stopped
abbrev to_a : {L : Type 0} → List (Entry L)
to_a = Does Release reply.Done ∷ Does (PutPage 2 empty_page) reply.Done ∷ Does Request reply.Done
    ∷ Does (AwaitRoom 2) reply.Done ∷ Does (TakeFeed 1) (reply.Feed feed.End) ∷ []

abbrev to_b : {L : Type 0} → List (Entry L)
to_b = Does Release reply.Done ∷ Does (PutPage 3 empty_page) reply.Done ∷ Does Request reply.Done
    ∷ Does (AwaitRoom 3) reply.Done ∷ to_a

module _ (L : Type 0) where
  awaits : next_action {L = L} input (Does (TakeFeed 1) (reply.Feed feed.End) ∷ []) ≡ Some (AwaitRoom 2)
  awaits = refl

  awaits-again : next_action {L = L} input (Delays (AwaitRoom 2) ∷ Does (TakeFeed 1) (reply.Feed feed.End) ∷ [])
      ≡ Some (AwaitRoom 2)
  awaits-again = refl

  other-side : next_action {L = L} input to_a ≡ Some (AwaitRoom 3)
  other-side = refl

  stops-a : next_action {L = L} input to_b ≡ Some (Stop 2)
  stops-a = refl

  stops-b : next_action {L = L} input (Does (Stop 2) reply.Done ∷ to_b) ≡ Some (Stop 3)
  stops-b = refl

  ends : next_action {L = L} input (Does (Stop 3) reply.Done ∷ Does (Stop 2) reply.Done ∷ to_b)
      ≡ Some (Ended outcome.Done)
  ends = refl

  nothing-more : next_action {L = L} input
      (Does (Ended outcome.Done) reply.Done ∷ Does (Stop 3) reply.Done ∷ Does (Stop 2) reply.Done ∷ to_b)
      ≡ None
  nothing-more = refl

  -- a cause stops all three
  told : next_action {L = L} input (Does (AwaitRoom 2) reply.Stopped ∷ Does (TakeFeed 1) (reply.Feed feed.End) ∷ [])
      ≡ Some (Stop 1)
  told = refl

  -- with a cause the disk is released first
  fails : next_action {L = L} input
      (Does (PutPage 2 empty_page) reply.Failed ∷ Does Request reply.Done ∷ Does (AwaitRoom 2) reply.Done
      ∷ Does (TakeFeed 1) (reply.Feed feed.End) ∷ [])
      ≡ Some Release
  fails = refl

  -- a blank card outside groups is left out
  leaves-out : next_action {L = L} input (Does (TakeFeed 1) (reply.Feed (feed.Item (Line []))) ∷ [])
      ≡ Some (TakeFeed 1)
  leaves-out = refl

  -- the card process stops nothing where it is done, and its buffer where the device failed
  card-ends : next_action {L = L} card
      (Does (PutFeed 1 feed.End) reply.Done ∷ Does ReadCard (reply.Card read.End) ∷ [])
      ≡ Some (Ended outcome.Done)
  card-ends = refl

  card-fails : next_action {L = L} card (Does ReadCard (reply.Card read.Failed) ∷ []) ≡ Some (Stop 1)
  card-fails = refl

  card-ends-failed : next_action {L = L} card (Does (Stop 1) reply.Done ∷ Does ReadCard (reply.Card read.Failed) ∷ [])
      ≡ Some (Ended (outcome.Fault cause.ReadFault))
  card-ends-failed = refl

  -- the output process begins at the first side
  output-begins : next_action {L = L} output [] ≡ Some (AwaitItem 4)
  output-begins = refl

  printer-prints : next_action {L = L} printer (Does (TakeFeed 6) (reply.Feed (feed.Item (Line (codes "A")))) ∷ [])
      ≡ Some (Print (codes "A"))
  printer-prints = refl

  printer-ends : next_action {L = L} printer (Does (TakeFeed 6) (reply.Feed feed.End) ∷ [])
      ≡ Some (Ended outcome.Done)
  printer-ends = refl
