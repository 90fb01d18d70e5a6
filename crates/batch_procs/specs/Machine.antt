-- What a machine keeps of its history.
use Rattle.std.specs.Prelude.{◌≡◌, ℕ, zero, suc, ◌+◌, min, Bool, true, false, List, [], ◌∷◌, Option, None, Some, Result, IfOk, OnErr}
use Rattle.solo_base.specs.declared.outcome.Outcome.{Outcome}
use Rattle.solo_base.specs.declared.no_memory.NoMemory.{NoMemory}
use Rattle.batch_procs.specs.declared.actions.Action.{Action}
use Rattle.batch_procs.specs.declared.actions.Action.TheVariants as act
use Rattle.batch_procs.specs.declared.actions.Reply.{Reply}
use Rattle.batch_procs.specs.declared.round.Step.{Step}
use Rattle.batch_procs.specs.declared.round.Step.TheVariants as step
use Rattle.batch_procs.specs.declared.machine.Done.{Done}
use Rattle.batch_procs.specs.declared.machine.Done.TheVariants as done
use Rattle.batch_procs.specs.declared.machine.Machine.{Machine}
use Rattle.batch_procs.specs.Jobs.{Jobs}
use Rattle.batch_procs.specs.Parcels.{Parcel}
use Rattle.batch_procs.specs.History.{Entry, Does, taken, sent, has_stopped, newest}
use Rattle.batch_procs.specs.Causes.{given_cause, caused}
use Rattle.batch_procs.specs.Fits.{Fits, MayLack}
use Rattle.batch_procs.specs.Process.{Process, unworked, next_action, Follows}

-- ---- the step of the round, by the newest action
abbrev pub step_of : Action → Step
step_of act.AwaitRoom = step.Awaited
step_of act.AwaitItem = step.Awaited
step_of act.Request = step.Granted
step_of (act.PutPage page) = step.Moved
step_of act.TakePage = step.Moved
step_of (act.Load file) = step.Moved
step_of (act.Ended how) = step.Ended
step_of other = step.Free

-- before the first action it begins what it aims at
abbrev pub step_after : Option Action → Step
step_after None = step.Free
step_after (Some action) = step_of action

-- from the request's grant to the release
abbrev pub held_at : Step → Bool
held_at step.Free = false
held_at step.Awaited = false
held_at step.Granted = true
held_at step.Moved = true
held_at step.Ended = false

-- ---- the stops
-- of the buffers the first n are stopped, and no other
abbrev pub AreStopped : {L : Type 0} → List ℕ → ℕ → List (Entry L) → Type 0
AreStopped [] zero h = Unit {0}
AreStopped [] (suc n) h = ⊥
AreStopped (b ∷ later) zero h = (has_stopped b h ≡ false) × AreStopped later zero h
AreStopped (b ∷ later) (suc n) h = (has_stopped b h ≡ true) × AreStopped later n h

-- how many are stopped behind an action
abbrev pub stops_after : ℕ → Action → ℕ
stops_after n (act.Stop b) = min (n + 1) 255
stops_after n other = n

-- ---- the machine
-- The history is one of the process, and the machine stands where it does behind it.
pub record StandsFor {L X W : Type 0} (J : Jobs L) (p : Process L)
    (keeps : W → List (Parcel L) → List (Parcel L) → Bool → Type 0)
    (machine : Machine X W) (h : List (Entry L)) : Type 0 where
  pub follows : Follows J p h
  pub cause : machine.cause ≡ caused h
  pub step : machine.step ≡ step_after (newest h)
  pub stops : AreStopped p.buffers machine.stops h
  pub work : caused h ≡ None → keeps machine.work (taken h) (sent h) (unworked p h)

-- an answer says what is next, unless the process has ended
abbrev pub NextIs : Option Action → Action → Type 0
NextIs None action = Unit {0}
NextIs (Some next) action = next ≡ action

-- ---- one reply to an action
-- what it means for the work that an action is done
abbrev pub done_by : Action → Done
done_by (act.PutFeed f) = done.Put
done_by (act.PutPage page) = done.Put
done_by (act.Print line) = done.Put
done_by act.Local = done.Work
done_by other = done.Other

-- Without a cause before, it gives the cause of the action with its reply, and where there is none the work
-- keeps what was taken and put with them.
pub record Uses {L : Type 0} (p : Process L) (now : List (Parcel L) → List (Parcel L) → Bool → Type 0)
    (action : Action) (r : Reply L) (cause : Option Outcome) (h : List (Entry L)) : Type 0 where
  pub cause_is : cause ≡ given_cause action r h
  pub keeps : cause ≡ None
      → now (taken (Does action r ∷ h)) (sent (Does action r ∷ h)) (unworked p (Does action r ∷ h))

-- The reply is used so for every history that the work keeps.
pub record Answers {L W : Type 0} (J : Jobs L) (p : Process L)
    (keeps : W → List (Parcel L) → List (Parcel L) → Bool → Type 0)
    (old : W) (action : Action) (r : Reply L)
    (result : Result (Option Outcome) NoMemory) (new : W) : Type 0 where
  pub uses : (h : List (Entry L)) → Follows J p h → caused h ≡ None
      → next_action p h ≡ Some action → Fits J action r → keeps old (taken h) (sent h) (unworked p h)
      → IfOk result (λ cause. Uses p (keeps new) action r cause h)
  -- memory is refused only where the process works, and where the action may lack it
  pub lacks : OnErr result ((p.works ≡ true) × (Fits J action r → MayLack action r))
