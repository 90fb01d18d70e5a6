-- The job process goes on, or ends: its machine and its side of the buffers stand for one deed more.
use Rattle.std.proofs.Common.{◌≡◌, ◌⊎◌, inl, inr, ℕ, true, List, [], ◌∷◌, ◌++◌, None, Some, Result, Ok, Err, refl, sym, ◌∙◌, ap, subst}
use Rattle.std.specs.Prelude.{OnOk, OnErr}
use Rattle.solo_base.specs.declared.outcome.Outcome.{Outcome}
use Rattle.solo_base.specs.declared.no_memory.NoMemory.{NoMemory}
use Rattle.network_law.specs.Network.{Follows}
use Rattle.place_law.specs.Process.{Does, LacksMemory, place, caused, next_action, or_new}
use Rattle.place_law.proofs.Nexts.{does-next}
use Rattle.solo_law.specs.Work.{Given, Work, Plan}
use Rattle.solo_law.specs.Actions.{Action, Reply}
use Rattle.solo_law.specs.Actions as act
use Rattle.solo_law.specs.Replies.{Fits, view}
use Rattle.solo_law.specs.JobPlaces.{job, Toils}
use Rattle.solo_law.specs.Told.{begun}
use Rattle.solo_law.specs.Solo.{process, table, solo, SoloEntry}
use Rattle.solo_threads.specs.Threads.{Deed, entries}
use Rattle.solo_procs.specs.Commands.{Kind}
use Rattle.solo_procs.specs.Job.{job_at, JobStands, job_came, WorkedSo, LedSo}
use Rattle.solo_procs.specs.Said.{said}
use Rattle.solo_procs.specs.Machine.{Tracks, StandsFor, SaysNext, IsTold}
use Rattle.solo_procs.specs.declared.actions.SoloAction.{SoloAction}
use Rattle.solo_procs.specs.declared.actions.SoloAction.TheVariants as say
use Rattle.solo_procs.specs.declared.actions.SoloReply.{SoloReply}
use Rattle.solo_procs.specs.declared.actions.SoloReply.TheVariants as hear
use Rattle.solo_procs.specs.declared.job_proc.JobProc.{JobProc}
use Rattle.solo_procs.specs.declared.machine.Machine.{Machine}
use Rattle.solo_run.specs.declared.job_side.JobSide.{JobSide}
use Rattle.solo_run.specs.Files.{FilesLed}
use Rattle.solo_run.specs.Job.{JobMayAct, JobPerforms, JobActs, WorksOne, JobWorld, JobRan, JobDid}
use Rattle.solo_run.specs.Running.{end_said, EndsSo, DidSo}
use Rattle.solo_run.proofs.FileSteps.{led-too, led-found, led-failed, led-lacking, led-weaker}
use Rattle.solo_run.proofs.Going.{Going, next_of, next-is, said-is, goes-on, ends-here}
use Rattle.solo_run.proofs.JobDevices.{worked, work-failed, work-lacked}
use Rattle.solo_run.proofs.JobRuns.{files-kept, may-act, toils-at}
use Rattle.solo_run.proofs.JobSteps.{Closes, job-does, job-free, job-may, job-did}
use Rattle.solo_run.proofs.NextDeeds.{follows-2}

-- an action is its own work, or isn't
is-work : (a : Action) → ((work : Work) × (a ≡ act.Works work)) ⊎ (said a ≡ say.Work → ⊥)
is-work (act.Works work) = inl (work, refl)
is-work act.Accept = inr (λ e. cc)
is-work (act.Display line) = inr (λ e. cc)
is-work act.ReadCard = inr (λ e. cc)
is-work (act.Print line) = inr (λ e. cc)
is-work (act.PutArg b x) = inr (λ e. cc)
is-work (act.TakeArg b) = inr (λ e. cc)
is-work (act.PutPage b page) = inr (λ e. cc)
is-work (act.TakePage b) = inr (λ e. cc)
is-work (act.Stop b) = inr (λ e. cc)
is-work (act.Ended how) = inr (λ e. cc)

module _ {C Y T F : Type 0} (w : JobWorld Y T F) (awaits : C → ℕ → Kind → Type 0) (plans : C → F → Plan → Type 0)
    (follows : C → F → List Given → F → Type 0) where
  -- what another action does
  performs-so : (machine mid : Machine (JobProc C)) (old new : JobSide Y T F) (a : Action) (reply : SoloReply) → (said a ≡ say.Work → ⊥)
      → JobActs w awaits plans follows machine mid old new (said a) reply
      → (mid ≡ machine) × JobPerforms w.left w.taken w.keys_faults w.given w.console_faults old new (said a) reply
  performs-so machine mid old new (act.Works work) reply not acts = absurd (not refl)
  performs-so machine mid old new act.Accept reply not acts = acts
  performs-so machine mid old new (act.Display line) reply not acts = acts
  performs-so machine mid old new act.ReadCard reply not acts = acts
  performs-so machine mid old new (act.Print line) reply not acts = acts
  performs-so machine mid old new (act.PutArg b x) reply not acts = acts
  performs-so machine mid old new (act.TakeArg b) reply not acts = acts
  performs-so machine mid old new (act.PutPage b page) reply not acts = acts
  performs-so machine mid old new (act.TakePage b) reply not acts = acts
  performs-so machine mid old new (act.Stop b) reply not acts = acts
  performs-so machine mid old new (act.Ended how) reply not acts = acts

  -- what one says of the work another says too
  pub plans-by : (p q : Plan → Type 0) (start now : JobSide Y T F) (deeds : List Deed) → ((plan : Plan) → p plan → q plan) → JobRan w p start now deeds
      → JobRan w q start now deeds
  plans-by p q start now deeds by ran = record {
    card_orders = ran.card_orders;
    cards = ran.cards;
    card_reports = ran.card_reports;
    print_orders = ran.print_orders;
    pages = ran.pages;
    print_reports = ran.print_reports;
    keys = ran.keys;
    console = ran.console;
    files = ran.files;
    told = λ d told. (let was = ran.told d told in
        (was.0, record { keys = was.1.keys; console = was.1.console; work = λ none plan is. by plan (was.1.work none plan is) }));
  }

  -- behind its end nothing is said of the work any more
  ends-any : (p : Plan → Type 0) (start now : JobSide Y T F) (deeds : List Deed) → JobRan w p start now deeds → JobRan w (λ plan. Unit {0}) start now deeds
  ends-any p start now deeds ran = plans-by p (λ plan. Unit {0}) start now deeds (λ plan is. tt) ran

  -- to whichever files its commands led, its work did
  abbrev Leading : Type 0
  Leading = (commands : C) (opening : F) (givens : List Given) (now : F) → follows commands opening givens now → w.leads opening givens now

  -- what it did so far, by commands and files that stand for the work ahead
  abbrev pub JobGoes : C → F → JobSide Y T F → JobSide Y T F → List Deed → Type 0
  JobGoes commands files start now = λ deeds. JobRan w (plans commands files) start now deeds
      × FilesLed (follows commands start.files) (w.passes start.files) files (entries deeds)

  module _ {machine : Machine (JobProc C)} {start old : JobSide Y T F} {action : SoloAction}
      (going : Going 2 job_at (JobStands awaits) machine (JobGoes machine.process.commands old.files start old))
      (says : (h : List SoloEntry) → StandsFor (process 2) job_at (JobStands awaits) machine h → SaysNext (next_action view (process 2) h) action) where
    abbrev h : List SoloEntry
    h = entries going.deeds

    abbrev a : Action
    a = next_of going says

    next : next_action view job h ≡ Some a
    next = next-is going says

    job-follows : Follows solo 2 h
    job-follows = follows-2 h going.stands.tracks.follows

    pub job-may_next : JobMayAct w.sound old action
    job-may_next =
        subst (JobMayAct w.sound old) (said-is going says)
        (may-act w.sound old a (λ work e. going.ran.0.files.sound_now (job-free h a next (λ closes. subst Closes e closes)))
        (job-may w (plans machine.process.commands old.files) start old going.deeds going.ran.0 a job-follows next))

    did-so : (mid : Machine (JobProc C)) (new : JobSide Y T F) (reply : SoloReply) → (said a ≡ say.Work → ⊥)
        → JobActs w awaits plans follows machine mid old new action reply
        → (mid ≡ machine) × (DidSo 2 (JobGoes machine.process.commands old.files start new) going.deeds a reply) × (new.files ≡ old.files)
    did-so mid new reply not acts =
        let is = performs-so machine mid old new a reply not
        (subst (λ action. JobActs w awaits plans follows machine mid old new action reply) (sym (said-is going says)) acts) in (
          is.0,
          led-too (follows machine.process.commands start.files) (w.passes start.files) old.files not going.ran.1
              (job-did w (plans machine.process.commands old.files) start old going.deeds going.ran.0 new a reply (job-does h a next) next is.1),
          files-kept w old new a reply is.1,
        )

    -- ---- its end
    did-any : (new : JobSide Y T F) (deeds : List Deed) → new.files ≡ old.files
        → Leading
        → JobGoes machine.process.commands old.files start new deeds → JobDid w start new deeds
    did-any new deeds same leads is = (
      ends-any (plans machine.process.commands old.files) start new deeds is.0,
      subst (λ now. FilesLed (w.leads start.files) (w.passes start.files) now (entries deeds)) (sym same)
          (led-weaker (follows machine.process.commands start.files) (w.leads start.files) (w.passes start.files) old.files (entries deeds)
          (λ givens led. leads machine.process.commands start.files givens old.files led) is.1),
    )

    pub job-ends : (mid : Machine (JobProc C)) (new : JobSide Y T F) (reply : SoloReply) (how : Outcome)
        → JobActs w awaits plans follows machine mid old new action reply → end_said action ≡ Some how → Leading
        → EndsSo 2 (JobDid w start new) how
    job-ends mid new reply how acts end leads =
        elim (is-work a) as (λ _. EndsSo 2 (JobDid w start new) how) [
          | inl work ↦ absurd (
              let none : end_said action ≡ None = ap end_said (sym (said-is going says) ∙ ap said work.1) in
              let no = sym none ∙ end in
              cc)
          | inr not ↦
              let is = did-so mid new reply not acts in
              let did = is.1 in
              let any : DidSo 2 (JobDid w start new) going.deeds a reply = record {
                answer = did.answer;
                gained = did.gained;
                fits = did.fits;
                plain = did.plain;
                ran = did-any new (record { entry = Does a did.answer; gained = did.gained } ∷ going.deeds) is.2 leads did.ran;
                lacks = λ can may. did-any new (record { entry = LacksMemory a did.answer; gained = did.gained } ∷ going.deeds) is.2 leads (did.lacks can may);
              } in
              ends-here going says job-follows any end
        ]

    -- ---- one deed more
    abbrev GivesOk : Machine (JobProc C) → Machine (JobProc C) → SoloReply → Result (Unit {0}) NoMemory → Type 0
    GivesOk mid last reply result = OnOk result ((h : List SoloEntry) (a : Action) (answer : Reply) → Tracks (process 2) job_at mid h
        → next_action view (process 2) h ≡ Some a → Fits a answer → IsTold (process 2) (JobStands awaits) (job_came awaits) mid h reply answer
        → StandsFor (process 2) job_at (JobStands awaits) last (Does a answer ∷ h))

    abbrev GivesErr : Machine (JobProc C) → Machine (JobProc C) → SoloReply → Result (Unit {0}) NoMemory → Type 0
    GivesErr mid last reply result = OnErr result ((h : List SoloEntry) (a : Action) (answer : Reply) → Tracks (process 2) job_at mid h
        → next_action view (process 2) h ≡ Some a → Fits a answer → IsTold (process 2) (JobStands awaits) (job_came awaits) mid h reply answer
        → StandsFor (process 2) job_at (JobStands awaits) last (LacksMemory a answer ∷ h))

    abbrev GoesOn : Machine (JobProc C) → JobSide Y T F → Type 0
    GoesOn last new = Going 2 job_at (JobStands awaits) last (JobGoes last.process.commands new.files start new)

    same-work : (last : Machine (JobProc C)) (new : JobSide Y T F) (commands then_commands : C) (files then_files : F) → commands ≡ then_commands
        → files ≡ then_files → Going 2 job_at (JobStands awaits) last (JobGoes commands files start new)
        → Going 2 job_at (JobStands awaits) last (JobGoes then_commands then_files start new)
    same-work last new commands then_commands files then_files same stay is =
        subst (λ files. Going 2 job_at (JobStands awaits) last (JobGoes then_commands files start new)) stay
        (subst (λ commands. Going 2 job_at (JobStands awaits) last (JobGoes commands files start new)) same is)

    not-work : (mid last : Machine (JobProc C)) (new : JobSide Y T F) (reply : SoloReply) (result : Result (Unit {0}) NoMemory) → (said a ≡ say.Work → ⊥)
        → JobActs w awaits plans follows machine mid old new action reply → end_said action ≡ None → GivesOk mid last reply result
        → GivesErr mid last reply result → OnErr result ((process 2).may_lack ≡ true) → last.process.commands ≡ mid.process.commands → GoesOn last new
    not-work mid last new reply result not acts end ok err lacks kept =
        let is = did-so mid new reply not acts in
        same-work last new machine.process.commands last.process.commands old.files new.files (sym (kept ∙ ap (λ m. m.process.commands) is.0)) (sym is.2)
        (goes-on going says (job_came awaits) result is.1 end (subst (λ mid. GivesOk mid last reply result) is.0 ok)
        (subst (λ mid. GivesErr mid last reply result) is.0 err) lacks)

    module _ (mid last : Machine (JobProc C)) (new : JobSide Y T F) (work : Work) (is : a ≡ act.Works work) (kept : last.process.commands ≡ mid.process.commands) where
      next-work : next_action view job h ≡ Some (act.Works work)
      next-work = next ∙ ap Some is

      free : caused view job h ≡ None
      free = job-free h (act.Works work) next-work (λ closes. closes)

      toils : place job h ≡ Toils work
      toils = toils-at (place job h) work (sym (does-next table 2 h (act.Works work) free next-work))

      tracks : (reply : SoloReply) → WorksOne awaits plans follows w.passes w.sound w.files_faults machine mid old new reply → Tracks job job_at mid h
      tracks reply one = (one.works h work going.stands next-work).tracks

      stands-then : (answer : Reply) (reply : SoloReply) (result : Result (Unit {0}) NoMemory)
          → Tracks job job_at mid h → Fits (act.Works work) answer → IsTold job (JobStands awaits) (job_came awaits) mid h reply answer
          → JobGoes mid.process.commands new.files start new (record { entry = Does (act.Works work) answer; gained = [] } ∷ going.deeds)
          → GivesOk mid last reply result → GivesErr mid last reply result → GoesOn last new
      stands-then answer reply (Ok done) at fits told ran ok err = record {
        deeds = record { entry = Does (act.Works work) answer; gained = [] } ∷ going.deeds;
        stands = ok h (act.Works work) answer at next-work fits told;
        answered = (tt, going.answered);
        ran = subst (λ c. JobGoes c new.files start new (record { entry = Does (act.Works work) answer; gained = [] } ∷ going.deeds)) (sym kept) ran;
        goes_on = ap (λ how. or_new how None) going.goes_on;
      }
      stands-then answer reply (Err refused) at fits told ran ok err =
          absurd ((err h (act.Works work) answer at next-work fits told).tracks.follows.1.1)

      by-reply : (reply : SoloReply) (result : Result (Unit {0}) NoMemory) → WorksOne awaits plans follows w.passes w.sound w.files_faults machine mid old new reply
          → WorkedSo awaits (plans machine.process.commands old.files) (plans mid.process.commands new.files) mid.process work reply
          → LedSo reply (follows mid.process.commands start.files (begun h ++ work.given ∷ []) new.files)
          (w.passes start.files (begun h ++ work.given ∷ []) new.files)
          → GivesOk mid last reply result → GivesErr mid last reply result → GoesOn last new
      by-reply hear.Done result one come led ok err =
          stands-then (act.Found come.needed) hear.Done result (tracks hear.Done one) come.fits
          (λ none. (refl, subst (λ at. job_came awaits mid.process at come.needed) (sym toils) come.came)) (
            worked w (plans machine.process.commands old.files) start old going.deeds going.ran.0 (plans mid.process.commands new.files) new work come.needed free
                one.side (one.sound_then refl) one.counts come.planned,
            led-found (follows mid.process.commands start.files) (w.passes start.files) new.files h work free come.needed led.0 led.1,
          ) ok err
      by-reply hear.Failed result one come led ok err =
          stands-then act.Failed hear.Failed result (tracks hear.Failed one) tt (λ none. refl) (
            work-failed w (plans machine.process.commands old.files) start old going.deeds going.ran.0 (plans mid.process.commands new.files) new work free one.side
                one.counts (one.failed refl),
            led-failed (follows mid.process.commands start.files) (w.passes start.files) new.files h work free,
          ) ok err
      by-reply hear.NoMemory result one come led ok err =
          stands-then act.NoMemory hear.NoMemory result (tracks hear.NoMemory one) tt (λ none. refl) (
            work-lacked w (plans machine.process.commands old.files) start old going.deeds going.ran.0 (plans mid.process.commands new.files) new work free one.side
                one.counts,
            led-lacking (follows mid.process.commands start.files) (w.passes start.files) new.files h work free toils led,
          ) ok err
      by-reply other result one come led ok err = absurd come

      works-on : (reply : SoloReply) (result : Result (Unit {0}) NoMemory) → JobActs w awaits plans follows machine mid old new action reply
          → GivesOk mid last reply result → GivesErr mid last reply result → GoesOn last new
      works-on reply result acts ok err =
          let one : WorksOne awaits plans follows w.passes w.sound w.files_faults machine mid old new reply =
          subst (λ action. JobActs w awaits plans follows machine mid old new action reply) (sym (said-is going says) ∙ ap said is) acts in
          by-reply reply result one (one.works h work going.stands next-work).worked
          (one.led h work going.stands next-work start.files (begun h) (going.ran.1.led free)) ok err

    pub job-goes : (mid last : Machine (JobProc C)) (new : JobSide Y T F) (reply : SoloReply) (result : Result (Unit {0}) NoMemory)
        → JobActs w awaits plans follows machine mid old new action reply → end_said action ≡ None → GivesOk mid last reply result
        → GivesErr mid last reply result → OnErr result ((process 2).may_lack ≡ true) → last.process.commands ≡ mid.process.commands → GoesOn last new
    job-goes mid last new reply result acts end ok err lacks kept =
        elim (is-work a) as (λ _. GoesOn last new) [
          | inl work ↦ works-on mid last new work.0 work.1 kept reply result acts ok err
          | inr not ↦ not-work mid last new reply result not acts end ok err lacks kept
        ]
