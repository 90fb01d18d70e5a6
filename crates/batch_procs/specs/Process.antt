-- What a process does next: a function of its history.
use Rattle.std.specs.Prelude.{◌≡◌, ℕ, Bool, true, false, ◌&&◌, if◌then◌else◌, List, [], ◌∷◌, length, drop, Option, None, Some}
use Rattle.solo_base.specs.declared.outcome.Outcome.{Outcome}
use Rattle.solo_base.specs.declared.outcome.Outcome.TheVariants as outcome
use Rattle.batch_procs.specs.declared.actions.Action.{Action}
use Rattle.batch_procs.specs.declared.actions.Action.TheVariants as act
use Rattle.batch_procs.specs.Jobs.{Jobs}
use Rattle.batch_procs.specs.Parcels.{Parcel, OfFeed, OfPage, OfLine, OfLoad, is_ended}
use Rattle.batch_procs.specs.History.{Entry, Does, LacksMemory, Delays, action_of, taken, sent, holds, has_stopped, newest, is_unworked}
use Rattle.batch_procs.specs.Fits.{Fits, MayLack, MayWait}
use Rattle.batch_procs.specs.Causes.{caused}

-- What tells one process from another: how it takes; its list function, from all that it takes to all that it
-- puts; whether it works on a page before it puts; the files that are still to be loaded before its work is
-- done, in order; and its buffers in order of number.
pub record Process (L : Type 0) : Type 0 where
  pub takes : Action
  pub sends : List (Parcel L) → List (Parcel L)
  pub works : Bool
  pub wants : List (Parcel L) → List (List ℕ)
  pub buffers : List ℕ

-- ---- what is due
-- whether there is work to do before it puts or takes
abbrev pub unworked : {L : Type 0} → Process L → List (Entry L) → Bool
unworked p h = p.works && is_unworked h

-- what it puts in all for what it took; before its work is done it puts no more than it has put
abbrev pub so_far : {L : Type 0} → Process L → List (Entry L) → List (Parcel L)
so_far p h = if unworked p h then sent h else p.sends (taken h)

-- and what of this it has not put yet
abbrev pub due : {L : Type 0} → Process L → List (Entry L) → List (Parcel L)
due p h = drop (length (sent h)) (so_far p h)

-- ---- what it aims at
abbrev pub puts : {L : Type 0} → Parcel L → Action
puts (OfFeed f) = act.PutFeed f
puts (OfPage page last) = act.PutPage page
puts (OfLine line) = act.Print line
puts (OfLoad load) = act.Local

-- before it works it loads the files that are wanted
abbrev pub works_on : List (List ℕ) → Action
works_on [] = act.Local
works_on (file ∷ later) = act.Load file

-- It puts what is due, else works, else takes. Its work is done when all is put and the last was taken.
abbrev pub aimed : {L : Type 0} → Action → List (List ℕ) → List (Parcel L) → Bool → Bool → Action
aimed takes wanted (parcel ∷ more) ended unworked = puts parcel
aimed takes wanted [] true false = act.Ended outcome.Done
aimed takes wanted [] false false = takes
aimed takes wanted [] true true = works_on wanted
aimed takes wanted [] false true = works_on wanted

-- what it aims at behind this history
abbrev pub aim : {L : Type 0} → Process L → List (Entry L) → Action
aim p h = aimed p.takes (p.wants (taken h)) (due p h) (is_ended (taken h)) (unworked p h)

-- the same by what it took and put, and whether there is work to do
abbrev pub aim_at : {L : Type 0} → Process L → List (Parcel L) → List (Parcel L) → Bool → Action
aim_at p taken sent unworked =
    aimed p.takes (p.wants taken) (drop (length sent) (if unworked then sent else p.sends taken))
    (is_ended taken)
    unworked

-- ---- the calls around a move of a page: await, request, move, release; a load awaits nothing
abbrev pub begins : Action → Action
begins (act.PutPage page) = act.AwaitRoom
begins act.TakePage = act.AwaitItem
begins (act.Load file) = act.Request
begins other = other

-- by the newest action: what comes next on the way to its aim
abbrev pub working : Option Action → Action → Option Action
working None aim = Some (begins aim)
working (Some act.AwaitRoom) aim = Some act.Request
working (Some act.AwaitItem) aim = Some act.Request
working (Some act.Request) aim = Some aim
working (Some (act.PutPage page)) aim = Some act.Release
working (Some act.TakePage) aim = Some act.Release
working (Some (act.Load file)) aim = Some act.Release
working (Some (act.Ended how)) aim = None
working (Some other) aim = Some (begins aim)

-- ---- with a cause: the disk is released, the buffers are stopped in order, and it ends
abbrev pub stops_next : {L : Type 0} → List ℕ → Outcome → List (Entry L) → Action
stops_next [] how h = act.Ended how
stops_next (b ∷ later) how h = if has_stopped b h then stops_next later how h else act.Stop b

-- one that holds the disk releases it first
abbrev pub closes : {L : Type 0} → List ℕ → Outcome → List (Entry L) → Action
closes buffers how h = if holds h then act.Release else stops_next buffers how h

-- once it has ended there is nothing more
abbrev pub closing : Option Action → Action → Option Action
closing (Some (act.Ended how)) next = None
closing other next = Some next

-- by its cause, if it has one
abbrev pub next_by : {L : Type 0} → Process L → Option Outcome → List (Entry L) → Option Action
next_by p None h = working (newest h) (aim p h)
next_by p (Some how) h = closing (newest h) (closes p.buffers how h)

-- What it does next. There is none once it has ended.
abbrev pub next_action : {L : Type 0} → Process L → List (Entry L) → Option Action
next_action p h = next_by p (caused h) h

-- ---- the histories that it may have
-- the reply fits its action; memory may be lacking where the process works, and a call may wait
abbrev pub IsFitting : {L : Type 0} → Jobs L → Process L → Entry L → Type 0
IsFitting J p (Does action r) = Fits J action r
IsFitting J p (LacksMemory action r) = (p.works ≡ true) × MayLack action r
IsFitting J p (Delays action) = MayWait action

-- Each entry of the history was the next action of what came before, with a reply that fits.
abbrev pub Follows : {L : Type 0} → Jobs L → Process L → List (Entry L) → Type 0
Follows J p [] = Unit {0}
Follows J p (entry ∷ before) =
    (next_action p before ≡ Some (action_of entry)) × IsFitting J p entry × Follows J p before
