-- What the job process does at its typewriter and its buffers, besides its own work.
use Rattle.std.specs.Prelude.{◌≡◌, ◌≤◌, ℕ, ◌==◌, if◌then◌else◌, true, List, [], ◌∷◌, ◌++◌, Option, None, Some}
use Rattle.solo_base.specs.declared.outcome.Side.TheVariants.{Sender, Receiver}
use Rattle.solo_base.specs.declared.system_call.Arg.{Arg}
use Rattle.slot_buffer.specs.declared.call.SlotCall.{SlotCall}
use Rattle.slot_buffer.specs.declared.call.SlotCall.TheVariants as slot
use Rattle.solo_procs.specs.declared.actions.SoloAction.{SoloAction}
use Rattle.solo_procs.specs.declared.actions.SoloAction.TheVariants as say
use Rattle.solo_procs.specs.declared.actions.SoloReply.{SoloReply}
use Rattle.solo_procs.specs.declared.actions.SoloReply.TheVariants as hear
use Rattle.solo_base.specs.declared.outcome.Outcome.{Outcome}
use Rattle.solo_base.specs.declared.outcome.Outcome.TheVariants as outcome
use Rattle.solo_base.specs.declared.outcome.Cause.TheVariants as cause
use Rattle.solo_devices.specs.Count.{Rose}
use Rattle.solo_devices.specs.CardUnit.{items_ahead}
use Rattle.exchange_law.specs.Parcels.{OfArg, OfPage}
use Rattle.place_law.specs.Process.{caused, next_action}
use Rattle.solo_law.specs.Work.{Given, Work, Plan}
use Rattle.solo_law.specs.Actions.{Works}
use Rattle.solo_law.specs.Replies.{view}
use Rattle.solo_law.specs.JobPlaces.{job}
use Rattle.solo_law.specs.Devices.{Devices}
use Rattle.solo_law.specs.Solo.{SoloEntry}
use Rattle.solo_procs.specs.Commands.{Kind}
use Rattle.solo_procs.specs.Job.{job_at, JobStands, HasWorked, LedSo}
use Rattle.solo_procs.specs.Machine.{StandsFor}
use Rattle.solo_procs.specs.declared.job_proc.JobProc.{JobProc}
use Rattle.solo_procs.specs.declared.machine.Machine.{Machine}
use Rattle.solo_threads.specs.Threads.{Deed, entries, stood, AreAllowed}
use Rattle.solo_run.specs.declared.job_side.JobSide.{JobSide}
use Rattle.solo_run.specs.Ends.{sent, took, SendsAt, TakesAt, MaySend, MayTake, HasSent, HasTaken}
use Rattle.solo_run.specs.Devices.{ReadsOne, GivesLine, ReadsRan, LinesRan}
use Rattle.solo_run.specs.Files.{FilesLed}

-- each end is one of its gate
pub record JobAtGates {Y T F : Type 0} (c : JobSide Y T F) : Type 0 where
  pub card_orders : SendsAt c.card_orders
  pub cards : TakesAt c.cards
  pub card_reports : TakesAt c.card_reports
  pub print_orders : SendsAt c.print_orders
  pub pages : SendsAt c.pages
  pub print_reports : TakesAt c.print_reports

-- an action that it may perform
abbrev pub JobMay : {Y T F : Type 0} → JobSide Y T F → SoloAction → Type 0
JobMay c say.Accept = c.typewriter.keys.live ≡ true
JobMay c (say.Display line) = c.typewriter.console.live ≡ true
JobMay c (say.PutArg b x) = (b ≡ 1 → MaySend c.card_orders) × ((b ≡ 1 → ⊥) → MaySend c.print_orders)
JobMay c (say.TakeArg b) = (b ≡ 3 → MayTake c.card_reports) × ((b ≡ 3 → ⊥) → MayTake c.print_reports)
JobMay c (say.PutPage b page) = MaySend c.pages
JobMay c (say.TakePage b) = MayTake c.cards
JobMay c (say.Stop b) = JobAtGates c
JobMay c (say.Ended how) = Unit {0}
JobMay c other = ⊥

abbrev pub ordered_at : {Y T F : Type 0} → ℕ → SlotCall Arg → JobSide Y T F → JobSide Y T F
ordered_at b call c =
    if b == 1 then record c { card_orders = sent c.card_orders call }
    else record c { print_orders = sent c.print_orders call }

abbrev pub reported_at : {Y T F : Type 0} → ℕ → SlotCall Arg → JobSide Y T F → JobSide Y T F
reported_at b call c =
    if b == 3 then record c { card_reports = took c.card_reports call }
    else record c { print_reports = took c.print_reports call }

abbrev pub job_stopped : {Y T F : Type 0} → ℕ → JobSide Y T F → JobSide Y T F
job_stopped b c =
    if b == 1 then record c { card_orders = sent c.card_orders (slot.Stop Sender) }
    else if b == 2 then record c { cards = took c.cards (slot.Stop Receiver) }
    else if b == 3 then record c { card_reports = took c.card_reports (slot.Stop Receiver) }
    else if b == 4 then record c { print_orders = sent c.print_orders (slot.Stop Sender) }
    else if b == 5 then record c { pages = sent c.pages (slot.Stop Sender) }
    else record c { print_reports = took c.print_reports (slot.Stop Receiver) }

-- and what it made of it, by what was answered
module _ {Y T F : Type 0} (left : Y → Option (List ℕ)) (taken keys_faults : Y → ℕ) (given : T → Option (List ℕ))
    (console_faults : T → ℕ) where
  abbrev pub JobPerforms : JobSide Y T F → JobSide Y T F → SoloAction → SoloReply → Type 0
  JobPerforms old new say.Accept (hear.Card answer) =
      (new ≡ record old { typewriter = new.typewriter })
      × ReadsOne left taken keys_faults old.typewriter.keys new.typewriter.keys answer
      × (new.typewriter.console ≡ old.typewriter.console)
  JobPerforms old new (say.Display line) reply =
      (new ≡ record old { typewriter = new.typewriter })
      × GivesLine given console_faults old.typewriter.console new.typewriter.console line reply
      × (new.typewriter.keys ≡ old.typewriter.keys)
  JobPerforms old new (say.PutArg b x) hear.Done = new ≡ ordered_at b (slot.Put x) old
  JobPerforms old new (say.PutArg b x) hear.Stopped = new ≡ ordered_at b (slot.PutRefused x) old
  JobPerforms old new (say.TakeArg b) (hear.Arg x) = new ≡ reported_at b (slot.Take x) old
  JobPerforms old new (say.TakeArg b) hear.Stopped = new ≡ reported_at b slot.TakeRefused old
  JobPerforms old new (say.PutPage b page) hear.Done =
      new ≡ record old { pages = sent old.pages (slot.Put page) }
  JobPerforms old new (say.PutPage b page) hear.Stopped =
      new ≡ record old { pages = sent old.pages (slot.PutRefused page) }
  JobPerforms old new (say.TakePage b) (hear.Page page) =
      new ≡ record old { cards = took old.cards (slot.Take page) }
  JobPerforms old new (say.TakePage b) hear.Stopped =
      new ≡ record old { cards = took old.cards slot.TakeRefused }
  JobPerforms old new (say.Stop b) hear.Done = new ≡ job_stopped b old
  JobPerforms old new (say.Ended how) hear.Done = new ≡ old
  JobPerforms old new action reply = ⊥

-- ---- in the course of its deeds
-- What told keys are ahead, what a told console was given, and while it works, what told files make of all work
-- from now on.
pub record JobTold {Y T F : Type 0} (left : Y → Option (List ℕ)) (given : T → Option (List ℕ)) (works : Type 0)
    (plans : Plan → Type 0) (side : JobSide Y T F) (d : Devices) : Type 0 where
  pub keys : d.keys ≡ items_ahead (left side.typewriter.keys.source) side.typewriter.keys.pending
  pub console : d.console ≡ given side.typewriter.console.sink
  pub work : works → (plan : Plan) → d.work ≡ Some plan → plans plan

-- The files are sound while it has no cause; a fault of the disk is one that they counted.
pub record FilesRan {F : Type 0} (sound : F → Type 0) (faults : F → ℕ) (start now : F) (why : Option Outcome)
    : Type 0 where
  pub sound_now : why ≡ None → sound now
  pub failed : why ≡ Some (outcome.Fault cause.DiskFault) → Rose (faults start) (faults now)
  pub counts : faults start ≤ faults now

-- What it is over: what its keys and its console tell and count, and its files.
pub record JobWorld (Y T F : Type 0) : Type 1 where
  pub left : Y → Option (List ℕ)
  pub taken : Y → ℕ
  pub keys_faults : Y → ℕ
  pub given : T → Option (List ℕ)
  pub console_faults : T → ℕ
  pub sound : F → Type 0
  pub files_faults : F → ℕ
  pub opens : F → Plan → Type 0
  -- from which files work that began so leads to which, and to which it comes
  pub leads : F → List Given → F → Type 0
  pub passes : F → List Given → F → Type 0

-- From its first deed on: its six buffers had the calls of its history, told keys and files allowed it, a told
-- console gained what its deeds say, and so they stand behind it.
pub record JobRan {Y T F : Type 0} (w : JobWorld Y T F) (plans : Plan → Type 0) (start now : JobSide Y T F)
    (deeds : List Deed) : Type 0 where
  pub card_orders : HasSent OfArg 2 1 start.card_orders now.card_orders (entries deeds)
  pub cards : HasTaken OfPage 2 2 start.cards now.cards (entries deeds)
  pub card_reports : HasTaken OfArg 2 3 start.card_reports now.card_reports (entries deeds)
  pub print_orders : HasSent OfArg 2 4 start.print_orders now.print_orders (entries deeds)
  pub pages : HasSent OfPage 2 5 start.pages now.pages (entries deeds)
  pub print_reports : HasTaken OfArg 2 6 start.print_reports now.print_reports (entries deeds)
  pub keys : ReadsRan w.left w.taken w.keys_faults start.typewriter.keys now.typewriter.keys
      (caused view job (entries deeds))
  pub console : LinesRan w.console_faults cause.ConsoleFault start.typewriter.console now.typewriter.console
      (caused view job (entries deeds))
  pub files : FilesRan w.sound w.files_faults start.files now.files (caused view job (entries deeds))
  pub told : (d : Devices) → JobTold w.left w.given (Unit {0}) (w.opens start.files) start d
      → AreAllowed d deeds
      × JobTold w.left w.given (caused view job (entries deeds) ≡ None) plans now (stood d deeds)

-- What it did up to its end: the files are some to which its work led.
abbrev pub JobDid : {Y T F : Type 0} → JobWorld Y T F → JobSide Y T F → JobSide Y T F → List Deed → Type 0
JobDid w start now deeds = JobRan w (λ plan. Unit {0}) start now deeds
    × FilesLed (w.leads start.files) (w.passes start.files) now.files (entries deeds)

-- ---- its machine beside it
abbrev pub job_world : {C Y T F : Type 0} → (Y → Option (List ℕ)) → (Y → ℕ) → (Y → ℕ) → (T → Option (List ℕ))
    → (T → ℕ) → (F → Type 0) → (F → ℕ) → (F → Plan → Type 0) → (C → F → List Given → F → Type 0)
    → (F → List Given → F → Type 0) → JobWorld Y T F
job_world {C} left taken keys_faults given console_faults sound files_faults opens follows passes = record {
  left = left;
  taken = taken;
  keys_faults = keys_faults;
  given = given;
  console_faults = console_faults;
  sound = sound;
  files_faults = files_faults;
  opens = opens;
  leads = λ opening givens now. (commands : C) × follows commands opening givens now;
  passes = passes;
}

-- an action that it may do with its machine
abbrev pub JobMayAct : {Y T F : Type 0} → (F → Type 0) → JobSide Y T F → SoloAction → Type 0
JobMayAct sound c say.Work = sound c.files
JobMayAct sound c action = JobMay c action

-- A piece of work: only its machine and the files are changed.
pub record WorksOne {C Y T F : Type 0} (awaits : C → ℕ → Kind → Type 0) (plans : C → F → Plan → Type 0)
    (follows : C → F → List Given → F → Type 0) (passes : F → List Given → F → Type 0) (sound : F → Type 0)
    (faults : F → ℕ) (machine new_machine : Machine (JobProc C)) (old new : JobSide Y T F) (reply : SoloReply)
    : Type 0 where
  pub side : new ≡ record old { files = new.files }
  pub works : (h : List SoloEntry) (work : Work) → StandsFor job job_at (JobStands awaits) machine h
      → next_action view job h ≡ Some (Works work)
      → HasWorked awaits (plans machine.process.commands old.files)
      (plans new_machine.process.commands new.files) new_machine h work reply
  pub led : (h : List SoloEntry) (work : Work) → StandsFor job job_at (JobStands awaits) machine h
      → next_action view job h ≡ Some (Works work) → (opening : F) (before : List Given)
      → follows machine.process.commands opening before old.files
      → LedSo reply (follows new_machine.process.commands opening (before ++ work.given ∷ []) new.files)
      (passes opening (before ++ work.given ∷ []) new.files)
  pub sound_then : reply ≡ hear.Done → sound new.files
  pub failed : reply ≡ hear.Failed → Rose (faults old.files) (faults new.files)
  pub counts : faults old.files ≤ faults new.files

-- it works, or performs another action
abbrev pub JobActs : {C Y T F : Type 0} → JobWorld Y T F → (C → ℕ → Kind → Type 0)
    → (C → F → Plan → Type 0) → (C → F → List Given → F → Type 0) → Machine (JobProc C) → Machine (JobProc C)
    → JobSide Y T F → JobSide Y T F → SoloAction → SoloReply → Type 0
JobActs w awaits plans follows machine new_machine old new say.Work reply =
    WorksOne awaits plans follows w.passes w.sound w.files_faults machine new_machine old new reply
JobActs w awaits plans follows machine new_machine old new action reply =
    (new_machine ≡ machine)
    × JobPerforms w.left w.taken w.keys_faults w.given w.console_faults old new action reply
