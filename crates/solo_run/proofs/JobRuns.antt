-- The job process with its machine at its side of the buffers: what it may do next, and that it goes on or ends.
use Rattle.std.proofs.Common.{◌≡◌, ◌==◌, Bool, true, false, if◌then◌else◌, refl, sym, ◌∙◌, ap}
use Rattle.solo_law.specs.Work.{Work}
use Rattle.solo_law.specs.Actions.{Action, Reply}
use Rattle.solo_law.specs.Actions as act
use Rattle.solo_law.specs.JobPlaces.{JobPlace, job_does, job, Toils}
use Rattle.solo_law.specs.JobPlaces as at
use Rattle.solo_procs.specs.Said.{said}
use Rattle.solo_procs.specs.declared.actions.SoloAction.TheVariants as say
use Rattle.solo_procs.specs.declared.actions.SoloReply.{SoloReply}
use Rattle.solo_procs.specs.declared.actions.SoloReply.TheVariants as hear
use Rattle.solo_run.specs.declared.job_side.JobSide.{JobSide}
use Rattle.solo_run.specs.Job.{JobMay, JobMayAct, JobPerforms, JobWorld}

-- ---- no action but its own work touches the files
module _ {Y T F : Type 0} (w : JobWorld Y T F) (old new : JobSide Y T F) where
  files-if : (t : Bool) (x y : JobSide Y T F) → x.files ≡ old.files → y.files ≡ old.files → (if t then x else y).files ≡ old.files
  files-if true x y e f = e
  files-if false x y e f = f

  pub files-kept : (a : Action) (reply : SoloReply) → JobPerforms w.left w.taken w.keys_faults w.given w.console_faults old new (said a) reply
      → new.files ≡ old.files
  files-kept act.Accept (hear.Card answer) e = ap (λ s. s.files) e.0
  files-kept (act.Display line) reply e = ap (λ s. s.files) e.0
  files-kept (act.PutArg b x) hear.Done e = ap (λ s. s.files) e ∙ files-if (b == 1) _ _ refl refl
  files-kept (act.PutArg b x) hear.Stopped e = ap (λ s. s.files) e ∙ files-if (b == 1) _ _ refl refl
  files-kept (act.TakeArg b) (hear.Arg x) e = ap (λ s. s.files) e ∙ files-if (b == 3) _ _ refl refl
  files-kept (act.TakeArg b) hear.Stopped e = ap (λ s. s.files) e ∙ files-if (b == 3) _ _ refl refl
  files-kept (act.PutPage b page) hear.Done e = ap (λ s. s.files) e
  files-kept (act.PutPage b page) hear.Stopped e = ap (λ s. s.files) e
  files-kept (act.TakePage b) (hear.Page page) e = ap (λ s. s.files) e
  files-kept (act.TakePage b) hear.Stopped e = ap (λ s. s.files) e
  files-kept (act.Stop b) hear.Done e =
      ap (λ s. s.files) e ∙ files-if (b == 1) _ _ refl (files-if (b == 2) _ _ refl (files-if (b == 3) _ _ refl (files-if (b == 4) _ _ refl
      (files-if (b == 5) _ _ refl refl))))
  files-kept (act.Ended how) hear.Done e = ap (λ s. s.files) e
  files-kept a reply e = absurd e

-- ---- its own work, or another action
module _ {Y T F : Type 0} (sound : F → Type 0) (old : JobSide Y T F) where
  pub may-act : (a : Action) → ((work : Work) → a ≡ act.Works work → sound old.files) → ((said a ≡ say.Work → ⊥) → JobMay old (said a)) → JobMayAct sound old (said a)
  may-act (act.Works work) works may = works work refl
  may-act act.Accept works may = may (λ e. cc)
  may-act (act.Display line) works may = may (λ e. cc)
  may-act act.ReadCard works may = may (λ e. cc)
  may-act (act.Print line) works may = may (λ e. cc)
  may-act (act.PutArg b x) works may = may (λ e. cc)
  may-act (act.TakeArg b) works may = may (λ e. cc)
  may-act (act.PutPage b page) works may = may (λ e. cc)
  may-act (act.TakePage b) works may = may (λ e. cc)
  may-act (act.Stop b) works may = may (λ e. cc)
  may-act (act.Ended how) works may = may (λ e. cc)

-- who works next stands where it does
pub toils-at : (place : JobPlace) (work : Work) → act.Works work ≡ job_does place → place ≡ Toils work
toils-at (at.Toils other) work e = (let same : work ≡ other = (let is = e in cc) in ap Toils (sym same))
toils-at at.Listens work e = absurd cc
toils-at (at.OrdersCards pages) work e = absurd cc
toils-at (at.TakesCards taken items pages) work e = absurd cc
toils-at (at.TakesReport items pages) work e = absurd cc
toils-at (at.Accepts pages) work e = absurd cc
toils-at (at.Displays line pages) work e = absurd cc
toils-at (at.OrdersPrinter page behind) work e = absurd cc
toils-at (at.PutsPage page behind pages) work e = absurd cc
toils-at (at.TakesPrinted lines) work e = absurd cc
toils-at (at.AnswersLine line later) work e = absurd cc
toils-at at.DismissesInput work e = absurd cc
toils-at at.DismissesOutput work e = absurd cc
toils-at at.HasLeft work e = absurd cc
