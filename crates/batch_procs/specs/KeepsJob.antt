-- What the work of the job process keeps.
use Rattle.std.specs.Prelude.{◌≡◌, ℕ, Bool, true, false, List, [], ◌∷◌, ◌++◌, length, drop, Option, Some, None}
use Rattle.solo_base.specs.declared.page.Page.{Page}
use Rattle.page_codec.specs.Packing.{PageInHand, first_page}
use Rattle.page_codec.specs.Pushes.{pages_given, hand_behind}
use Rattle.page_codec.specs.Stream.{Awaited}
use Rattle.batch_procs.specs.Jobs.{Jobs}
use Rattle.batch_procs.specs.JobTold.{JobTold}
use Rattle.batch_procs.specs.Parcels.{Parcel, OfPage, is_ended, mark, loads}
use Rattle.batch_procs.specs.Sends.{items, has_end, unpacked, marked, job_sends, job_wants}
use Rattle.batch_procs.specs.Pages.{ReadsOn}

-- the first of what is left to be put
abbrev pub IsNext : {L : Type 0} → Option Page → List (Parcel L) → Type 0
IsNext None left = left ≡ []
IsNext {L} (Some page) left = (more : List (Parcel L)) × (left ≡ OfPage page (mark page) ∷ more)

-- Behind these lines the packer holds this page in hand, and these are the pages that it gave.
pub record HasSent {L : Type 0} (hand : PageInHand) (lines : List (List ℕ)) (sent : List (Parcel L))
    : Type 0 where
  pub in_hand : hand ≡ hand_behind first_page lines
  pub pages : sent ≡ marked false (pages_given first_page lines)

-- what its work on jobs was told by what was taken, with the lines that were pushed
abbrev pub told_with : {L : Type 0} → List (Parcel L) → List (List ℕ) → Bool → JobTold L
told_with taken pushed rests = record {
  items = items (unpacked 0 taken);
  ended = has_end (unpacked 0 taken);
  loads = loads taken;
  pushed = pushed;
  rests = rests;
}

-- What it keeps of what was taken and put, and whether there is work to do.
pub record KeepsJob {L : Type 0} (J : Jobs L) (now : JobTold L → Type 0) (awaited : Awaited)
    (packer : PageInHand) (due : Option Page) (toil : Bool) (taken sent : List (Parcel L))
    (unworked : Bool) : Type 0 where
  pub work_is : unworked ≡ toil
  pub ended_is : awaited.ended ≡ is_ended taken
  pub end_is : has_end (unpacked 0 taken) ≡ awaited.ended
  pub reads : awaited.ended ≡ false → ReadsOn awaited.place taken
  -- the lines of all items that were taken are pushed, or still to be pushed
  pub pushed : List (List ℕ)
  pub rests : Bool
  pub keeps : now (told_with taken pushed rests)
  -- no file is wanted where there is no work
  pub none_wanted : toil ≡ false → job_wants J taken ≡ []
  -- what is due is the first that is left
  pub next : toil ≡ false → IsNext due (drop (length sent) (job_sends J taken))
  -- where there is work to do, where a page is due, and where the next page is awaited
  pub toiling : toil ≡ true → (due ≡ None) × HasSent packer pushed sent
  pub putting : (page : Page) → toil ≡ false → due ≡ Some page → mark page ≡ false
      → HasSent packer pushed (sent ++ OfPage page false ∷ [])
  pub last : (page : Page) → toil ≡ false → due ≡ Some page → mark page ≡ true → awaited.ended ≡ true
  pub awaiting : toil ≡ false → due ≡ None → awaited.ended ≡ false
      → (rests ≡ true) × HasSent packer pushed sent
