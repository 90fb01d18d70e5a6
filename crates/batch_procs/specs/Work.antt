-- What the work of a process is to its machine.
use Rattle.std.specs.Prelude.{◌≡◌, ◌%◌, ◌^◌, Bool, false, List, [], ◌++◌, length, drop, Option, None}
use Rattle.solo_base.specs.declared.outcome.Outcome.{Outcome}
use Rattle.page_codec.specs.Reading.{page_read}
use Rattle.batch_procs.specs.declared.actions.Action.{Action}
use Rattle.batch_procs.specs.declared.actions.Action.TheVariants as act
use Rattle.batch_procs.specs.declared.actions.Reply.{Reply}
use Rattle.batch_procs.specs.declared.actions.Reply.TheVariants as reply
use Rattle.batch_procs.specs.Parcels.{Parcel, is_ended, pages}
use Rattle.batch_procs.specs.History.{taken_by}
use Rattle.batch_procs.specs.Causes.{fault_read, damage}
use Rattle.batch_procs.specs.Process.{Process}

-- the cause that a take gives, behind all that was taken before
abbrev pub cause_of : {L : Type 0} → Reply L → List (Parcel L) → Option Outcome
cause_of (reply.Card answer) taken = fault_read answer
cause_of (reply.Page page last) taken = damage (page_read (length (pages taken) % 2 ^ 16) last page)
cause_of other taken = None

-- a reply that hands over what is taken
abbrev pub IsHanded : {L : Type 0} → Action → Reply L → Type 0
IsHanded act.ReadCard (reply.Card answer) = Unit {0}
IsHanded act.TakeFeed (reply.Feed f) = Unit {0}
IsHanded act.TakePage (reply.Page page last) = Unit {0}
IsHanded action other = ⊥

-- where all that is due is put, no work is to be done and the last wasn't taken
pub record MayTake {L : Type 0} (p : Process L) (taken sent : List (Parcel L)) (r : Reply L) : Type 0 where
  pub nothing_due : drop (length sent) (p.sends taken) ≡ []
  pub goes_on : is_ended taken ≡ false
  pub is_handed : IsHanded p.takes r

-- a take gives its cause, and without one the work keeps what was taken
abbrev pub Takes : {L : Type 0} → Process L → (List (Parcel L) → List (Parcel L) → Bool → Type 0)
    → List (Parcel L) → List (Parcel L) → Reply L → Option Outcome → Type 0
Takes p now taken sent r cause =
    (cause ≡ cause_of r taken) × (cause ≡ None → now (taken ++ taken_by r) sent p.works)
