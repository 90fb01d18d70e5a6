-- A piece of work of the job process, as an entry of its history.
use Rattle.std.proofs.Common.{◌≡◌, ◌≤◌, ℕ, List, [], ◌∷◌, ◌++◌, Some, refl, sym, subst}
use Rattle.solo_devices.specs.Count.{Rose}
use Rattle.place_law.specs.Process.{Does, place, next_action}
use Rattle.place_law.proofs.Nexts.{does-next}
use Rattle.solo_law.specs.Work.{Given, Work, Plan}
use Rattle.solo_law.specs.Actions.{Reply}
use Rattle.solo_law.specs.Actions as act
use Rattle.solo_law.specs.JobPlaces.{JobPlace, job, job_does, Toils}
use Rattle.solo_law.specs.Replies.{view, Fits}
use Rattle.solo_law.specs.Solo.{table, SoloEntry}
use Rattle.solo_law.proofs.Placed.{is-2}
use Rattle.solo_procs.specs.declared.actions.SoloReply.{SoloReply}
use Rattle.solo_procs.specs.declared.actions.SoloReply.TheVariants as hear
use Rattle.solo_procs.specs.declared.job_proc.JobProc.{JobProc}
use Rattle.solo_procs.specs.declared.machine.Machine.{Machine}
use Rattle.solo_procs.specs.Commands.{Kind}
use Rattle.solo_procs.specs.Job.{job_at, JobStands, job_came, WorkedSo, HasWorked, LedSo}
use Rattle.solo_procs.specs.Machine.{Tracks, StandsFor, IsTold}
use Rattle.solo_net.specs.Steps.{ComesTo, LedTo, WorkSteps}
use Rattle.solo_net.proofs.Placing.{free-next}

toils : (a : JobPlace) (work : Work) → job_does a ≡ act.Works work → a ≡ Toils work
toils (Toils other) work e = cc
toils other work e = absurd cc

pub at-work : (h : List SoloEntry) (work : Work) → next_action view job h ≡ Some (act.Works work) → place job h ≡ Toils work
at-work h work next = toils (place job h) work (does-next table 2 h (act.Works work) (free-next 2 h (act.Works work) is-2 next tt) next)

module _ {C F : Type 0} (awaits : C → ℕ → Kind → Type 0) (sound : F → Type 0) (faults : F → ℕ) (plans : C → F → Plan → Type 0)
    (follows : C → F → List Given → F → Type 0) (passes : F → List Given → F → Type 0) (was now : C) (old new : F)
    (machine : Machine (JobProc C)) (h : List SoloEntry) (work : Work) (place-is : place job h ≡ Toils work) where
  -- the answer that the reply is
  record IsAnswer (reply : SoloReply) : Type 0 where
    answer : Reply
    fits : Fits (act.Works work) answer
    told : IsTold job (JobStands awaits) (job_came awaits) machine h reply answer
    comes : ComesTo sound faults (plans was old) (plans now new) old new work answer
    led : (opening : F) (before : List Given) → follows was opening before old
        → LedTo answer (follows now opening (before ++ work.given ∷ []) new) (passes opening (before ++ work.given ∷ []) new)

  abbrev Leads : SoloReply → Type 0
  Leads reply = (opening : F) (before : List Given) → follows was opening before old
      → LedSo reply (follows now opening (before ++ work.given ∷ []) new) (passes opening (before ++ work.given ∷ []) new)

  is-answer : (reply : SoloReply) → WorkedSo awaits (plans was old) (plans now new) machine.process work reply → (reply ≡ hear.Done → sound new)
      → (reply ≡ hear.Failed → Rose (faults old) (faults new)) → Leads reply → IsAnswer reply
  is-answer hear.Done worked is_sound failed led = record {
    answer = act.Found worked.needed;
    fits = worked.fits;
    told = λ free. (refl, subst (λ a. job_came awaits machine.process a worked.needed) (sym place-is) worked.came);
    comes = (is_sound refl, worked.planned);
    led = led;
  }
  is-answer hear.Failed worked is_sound failed led = record {
    answer = act.Failed;
    fits = tt;
    told = λ free. refl;
    comes = failed refl;
    led = λ opening before follows. tt;
  }
  is-answer hear.NoMemory worked is_sound failed led = record { answer = act.NoMemory; fits = tt; told = λ free. refl; comes = tt; led = led }
  is-answer hear.Stopped worked is_sound failed led = absurd worked
  is-answer (hear.Card answer) worked is_sound failed led = absurd worked
  is-answer (hear.Arg a) worked is_sound failed led = absurd worked
  is-answer (hear.Page page) worked is_sound failed led = absurd worked

  pub work-steps : (reply : SoloReply) (behind : Machine (JobProc C)) → HasWorked awaits (plans was old) (plans now new) machine h work reply
      → (reply ≡ hear.Done → sound new) → (reply ≡ hear.Failed → Rose (faults old) (faults new)) → faults old ≤ faults new → Leads reply
      → ((answer : Reply) → Tracks job job_at machine h → Fits (act.Works work) answer
      → IsTold job (JobStands awaits) (job_came awaits) machine h reply answer → StandsFor job job_at (JobStands awaits) behind (Does
      (act.Works work) answer ∷ h))
      → WorkSteps (StandsFor job job_at (JobStands awaits) behind) sound faults plans follows passes was now old new h work
  work-steps reply behind has is_sound failed counts led gives =
      let is = is-answer reply has.worked is_sound failed led in
      record {
        reply = is.answer;
        fits = is.fits;
        stands = gives is.answer has.tracks is.fits is.told;
        comes = is.comes;
        counts = counts;
        led = is.led;
      }

-- where the commands are the same behind it
pub work-kept : {C F : Type 0} (Stands : List SoloEntry → Type 0) (sound : F → Type 0) (faults : F → ℕ) (plans : C → F → Plan → Type 0)
    (follows : C → F → List Given → F → Type 0) (passes : F → List Given → F → Type 0) (was now kept : C) (old new : F) (h : List SoloEntry) (work : Work)
    → kept ≡ now → WorkSteps Stands sound faults plans follows passes was now old new h work
    → WorkSteps Stands sound faults plans follows passes was kept old new h work
work-kept Stands sound faults plans follows passes was now kept old new h work same is =
    subst (λ c. WorkSteps Stands sound faults plans follows passes was c old new h work) (sym same) is
