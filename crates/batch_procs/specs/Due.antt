-- What works keep that have their puts at hand.
use Rattle.std.specs.Prelude.{◌≡◌, Bool, false, List, [], ◌∷◌, ◌++◌}
use Rattle.solo_base.specs.declared.item.Feed.{Feed}
use Rattle.solo_base.specs.declared.item.Feed.TheVariants as feed
use Rattle.page_codec.specs.Packing.{PageInHand, first_page, hand_after}
use Rattle.batch_procs.specs.Parcels.{Parcel, is_ended}
use Rattle.batch_procs.specs.Process.{Process}
use Rattle.batch_procs.specs.Sends.{feeds}
use Rattle.batch_procs.specs.Table.{input}

-- These parcels are due, and the last was taken or wasn't. There is never work to be done.
pub record KeepsDue {L : Type 0} (p : Process L) (due : List (Parcel L)) (ended : Bool)
    (taken sent : List (Parcel L)) (unworked : Bool) : Type 0 where
  pub idle : unworked ≡ false
  pub due_is : sent ++ due ≡ p.sends taken
  pub ended_is : ended ≡ is_ended taken

-- the page in hand behind these feeds
abbrev pub hand_of : PageInHand → List Feed → PageInHand
hand_of hand [] = hand
hand_of hand (feed.Item item ∷ rest) = hand_of (hand_after hand item) rest
hand_of hand (feed.End ∷ rest) = hand

-- the input process: until its end the packer holds the page in hand
pub record KeepsInput {L : Type 0} (due : List (Parcel L)) (ended : Bool) (packer : PageInHand)
    (taken sent : List (Parcel L)) (unworked : Bool) : Type 0 where
  pub keeps : KeepsDue input due ended taken sent unworked
  pub hand : ended ≡ false → packer ≡ hand_of first_page (feeds taken)
