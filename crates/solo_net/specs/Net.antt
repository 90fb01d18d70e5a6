-- The three machines over what they share, and the states of Solo that they stand for.
use Rattle.std.specs.Prelude.{◌≡◌, ◌⊎◌, ℕ, true, List, [], ◌∷◌, ◌++◌, Option, None, Some, refl}
use Rattle.solo_base.specs.declared.outcome.Outcome.{Outcome}
use Rattle.solo_base.specs.declared.outcome.Outcome.TheVariants as outcome
use Rattle.solo_base.specs.declared.outcome.Cause.TheVariants as cause
use Rattle.solo_devices.specs.CardUnit.{items_ahead}
use Rattle.network_run.specs.Law.{Placed}
use Rattle.place_law.specs.Process.{action_of, caused}
use Rattle.place_law.specs.Ending.{outcome_by}
use Rattle.solo_law.specs.Work.{Given, Plan}
use Rattle.solo_law.specs.Told.{begun}
use Rattle.solo_law.specs.InputPlaces.{InputPlace, input as the_input}
use Rattle.solo_law.specs.OutputPlaces.{OutputPlace, output as the_output}
use Rattle.solo_law.specs.JobPlaces.{job as the_job}
use Rattle.solo_law.specs.Replies.{view}
use Rattle.solo_law.specs.Devices.{Devices, AreSound}
use Rattle.solo_law.specs.Solo.{SoloState, SoloEvent, opened, the_law}
use Rattle.solo_procs.specs.declared.input_proc.InputProc.{InputProc}
use Rattle.solo_procs.specs.declared.output_proc.OutputProc.{OutputProc}
use Rattle.solo_procs.specs.Input.{InputStands}
use Rattle.solo_procs.specs.Output.{OutputStands}
use Rattle.solo_procs.specs.Commands.{Kind}
use Rattle.solo_procs.specs.Job.{job_at, JobStands}
use Rattle.solo_procs.specs.Machine.{StandsFor}
use Rattle.solo_ends.specs.declared.units.SoloUnits.{SoloUnits}
use Rattle.solo_ends.specs.Faults.{Peripherals, AreCounted, devices_of}
use Rattle.solo_net.specs.declared.net.SoloNet.{SoloNet}
use Rattle.solo_net.specs.Replies.{solo_reply_of}
use Rattle.solo_net.specs.Telling.{Tells, SoloHasCauses, solo_counts_of, total_of}
use Rattle.solo_net.specs.Sharing.{SoloSharedStands}

-- what the commands say of themselves and of their files
pub record CommandsOf (C F : Type 0) : Type 1 where
  pub awaits : C → ℕ → Kind → Type 0
  pub plans : C → F → Plan → Type 0
  pub sound : F → Type 0
  pub faults : F → ℕ
  pub follows : C → F → List Given → F → Type 0
  pub passes : F → List Given → F → Type 0

abbrev pub commands_of : {C F : Type 0} → (C → ℕ → Kind → Type 0) → (C → F → Plan → Type 0) → (F → Type 0)
    → (F → ℕ) → (C → F → List Given → F → Type 0) → (F → List Given → F → Type 0) → CommandsOf C F
commands_of awaits plans sound faults follows passes = record {
  awaits = awaits;
  plans = plans;
  sound = sound;
  faults = faults;
  follows = follows;
  passes = passes;
}

-- ---- where the machines stand
abbrev pub input_at : InputProc → InputPlace → Type 0
input_at proc at = InputStands proc.place proc.packer proc.sound at

abbrev pub output_at : OutputProc → OutputPlace → Type 0
output_at proc at = OutputStands proc.place proc.pages proc.items proc.last at

-- ---- where the files stand
-- They are some to which work that began so comes; or, where memory was refused, some to which it came in the
-- middle of the next piece. Where the files failed nothing is said.
abbrev pub AreSome : {F : Type 0} → (List Given → F → Type 0) → List Given → F → Option Outcome → Type 0
AreSome passes begun files (Some (outcome.Fault cause.DiskFault)) = Unit {0}
AreSome passes begun files (Some (outcome.Fault cause.NoMemory)) =
    passes begun files ⊎ ((given : Given) × passes (begun ++ given ∷ []) files)
AreSome passes begun files other = passes begun files

-- Each machine stands for the history of its process, and what is shared for the rest. A device may be used
-- as long as its process has no cause to stop, and so long the work comes to what told files make of it.
pub record SoloNetStands {C F S Y K T : Type 0} (commands : CommandsOf C F) (tells : Tells S Y K T)
    (net : SoloNet C S Y K T F) (s : SoloState) : Type 0 where
  pub input : StandsFor the_input input_at input_at net.input (s.histories 1)
  pub job : StandsFor the_job job_at (JobStands commands.awaits) net.job (s.histories 2)
  pub output : StandsFor the_output output_at output_at net.output (s.histories 3)
  pub shared : SoloSharedStands tells net.shared s.devices s.buffers
  pub cards_live : caused view the_input (s.histories 1) ≡ None → net.shared.units.cards.live ≡ true
  pub keys_live : caused view the_job (s.histories 2) ≡ None → net.shared.units.typewriter.keys.live ≡ true
  pub console_live : caused view the_job (s.histories 2) ≡ None
      → net.shared.units.typewriter.console.live ≡ true
  pub paper_live : caused view the_output (s.histories 3) ≡ None → net.shared.units.paper.live ≡ true
  pub files_sound : caused view the_job (s.histories 2) ≡ None → commands.sound net.shared.units.files
  pub works : caused view the_job (s.histories 2) ≡ None → (plan : Plan) → s.devices.work ≡ Some plan
      → commands.plans net.job.process.commands net.shared.units.files plan
  pub led : caused view the_job (s.histories 2) ≡ None → commands.follows net.job.process.commands
      net.first_files.value (begun (s.histories 2)) net.shared.units.files
  pub files : AreSome (commands.passes net.first_files.value) (begun (s.histories 2)) net.shared.units.files
      (caused view the_job (s.histories 2))

-- ---- the opening
-- what these units tell, with a plan or none
abbrev pub solo_told_by : {S Y K T F : Type 0} → Tells S Y K T → SoloUnits S Y K T F → Option Plan → Devices
solo_told_by tells units plan = record {
  cards = items_ahead (tells.cards.left units.cards.source) units.cards.pending;
  keys = items_ahead (tells.keys.left units.typewriter.keys.source) units.typewriter.keys.pending;
  paper = tells.paper.given units.paper.sink;
  console = tells.console.given units.typewriter.console.sink;
  work = plan;
}

-- What is told is sound, and the network stands for the opening state over it.
pub record SoloOpensOver {C F S Y K T : Type 0} (commands : CommandsOf C F) (tells : Tells S Y K T)
    (net : SoloNet C S Y K T F) (units : SoloUnits S Y K T F) (plan : Option Plan) : Type 0 where
  pub sound : AreSound (solo_told_by tells units plan)
  pub stands : SoloNetStands commands tells net (opened (solo_told_by tells units plan))

-- the place where it stands at its opening
abbrev pub solo_first_place : {C F S Y K T : Type 0} {commands : CommandsOf C F} {tells : Tells S Y K T}
    {net : SoloNet C S Y K T F} {units : SoloUnits S Y K T F} {plan : Option Plan}
    → SoloOpensOver commands tells net units plan → Placed the_law (SoloNetStands commands tells net)
solo_first_place {tells = tells} {units = units} {plan = plan} at = record {
  opening = record { devices = solo_told_by tells units plan; sound = at.sound };
  state = opened (solo_told_by tells units plan);
  reached = record { events = []; enabled = tt; leads = refl };
  stands = at.stands;
}

-- ---- what every run keeps
-- how the three end with the causes that they have, or with none
abbrev pub outcomes_of : {C F S Y K T : Type 0} → SoloNet C S Y K T F → List Outcome
outcomes_of net = outcome_by net.input.cause ∷ outcome_by net.job.cause ∷ outcome_by net.output.cause ∷ []

-- the faults so far were counted by their devices since
abbrev pub SoloIsCounted : {C F S Y K T : Type 0} → CommandsOf C F → Tells S Y K T → Peripherals S Y K T F
    → SoloNet C S Y K T F → Type 0
SoloIsCounted commands tells before net =
    AreCounted (solo_counts_of tells commands.faults) before (devices_of net.shared.units) (outcomes_of net)

-- The faults that were counted so far are, and no byte of the cards or of the keys is lost.
pub record KeepsSo {C F S Y K T : Type 0} (commands : CommandsOf C F) (tells : Tells S Y K T)
    (old new : SoloNet C S Y K T F) : Type 0 where
  pub counted : (before : Peripherals S Y K T F) → SoloIsCounted commands tells before old
      → SoloIsCounted commands tells before new
  pub cards_total : total_of tells.cards new.shared.units.cards ≡ total_of tells.cards old.shared.units.cards
  pub keys_total : total_of tells.keys new.shared.units.typewriter.keys
      ≡ total_of tells.keys old.shared.units.typewriter.keys
  pub first_files : new.first_files ≡ old.first_files

-- An event: a device changes by its own calls alone, and what it counts is the cause of a failure.
pub record MovesSo {C F S Y K T : Type 0} (commands : CommandsOf C F) (tells : Tells S Y K T)
    (old : SoloNet C S Y K T F) (event : SoloEvent) (new : SoloNet C S Y K T F) : Type 0 where
  pub causes : SoloHasCauses tells old.shared.units new.shared.units (action_of event.entry)
      (solo_reply_of event.entry)
  pub keeps : KeepsSo commands tells old new
