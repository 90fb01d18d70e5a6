-- A piece of work is a step of the network.
use Rattle.std.proofs.Common.{◌≡◌, ℕ, false, List, [], ◌∷◌, ◌++◌, Option, None, Some, inr, refl, sym, ◌∙◌, ap, subst}
use Rattle.std.proofs.lemmas.List.{append-nil}
use Rattle.std.specs.Option.{option_map}
use Rattle.solo_base.specs.declared.outcome.Outcome.TheVariants as outcome
use Rattle.solo_base.specs.declared.outcome.Cause.TheVariants as cause
use Rattle.network_run.specs.declared.stepped.Stepped.{Stepped}
use Rattle.network_run.specs.declared.stepped.Stepped.TheVariants as stepped
use Rattle.network_run.specs.Law.{Placed}
use Rattle.network_run.specs.Law as law
use Rattle.network_law.specs.Acts.{Done, is_delayed}
use Rattle.network_law.specs.Stepping.{goes, stepped_so}
use Rattle.place_law.specs.Process.{Does, caused, next_action}
use Rattle.solo_law.specs.Work.{Given, Work, Plan}
use Rattle.solo_law.specs.Actions.{Action, Reply}
use Rattle.solo_law.specs.Actions as act
use Rattle.solo_law.specs.Buffers.{went_by}
use Rattle.solo_law.specs.Replies.{view, Fits}
use Rattle.solo_law.specs.JobPlaces.{job as the_job}
use Rattle.solo_law.specs.Devices.{Devices, Allows, given, plan_behind}
use Rattle.solo_law.specs.Told.{begun}
use Rattle.solo_law.specs.Solo.{solo, SoloState, SoloEntry, SoloEvent, the_law}
use Rattle.solo_law.proofs.Placed.{is-2}
use Rattle.solo_procs.specs.declared.job_proc.JobProc.{JobProc}
use Rattle.solo_procs.specs.declared.machine.Machine.{Machine}
use Rattle.solo_procs.specs.Said.{said, is_end}
use Rattle.solo_procs.specs.Machine.{StandsFor}
use Rattle.solo_procs.specs.Job.{job_at, JobStands}
use Rattle.solo_net.specs.declared.net.SoloNet.{SoloNet}
use Rattle.solo_net.specs.declared.shared.Shared.{Shared}
use Rattle.solo_net.specs.Telling.{Tells, SoloHasCauses}
use Rattle.solo_net.specs.Steps.{IsAtWork, ComesTo, LedTo, WorkSteps}
use Rattle.solo_net.specs.Net.{CommandsOf, SoloNetStands, AreSome, MovesSo}
use Rattle.solo_net.proofs.Placing.{free-next}
use Rattle.solo_net.proofs.Counted.{next_state, FilesCause}
use Rattle.solo_net.proofs.NetSteps.{passed, IsEvent, is-event, keeps-so}
use Rattle.solo_net.proofs.Turning.{goes-so}

-- ---- one answer
work-went : (work : Work) (reply : Reply) → Fits (act.Works work) reply → went_by (act.Works work) reply ≡ Done
work-went work (act.Found need) fits = refl
work-went work act.Failed fits = refl
work-went work act.NoMemory fits = refl
work-went work reply fits = absurd fits

-- a plan behind one that was told
told-behind : (told : Option Plan) (first : Given) (plan : Plan) → option_map (plan_behind first) told ≡ Some plan
    → (before : Plan) × (told ≡ Some before) × (plan_behind first before ≡ plan)
told-behind None first plan e = absurd cc
told-behind (Some before) first plan e = (before, refl, same e)
  where
    same : Some (plan_behind first before) ≡ Some plan → plan_behind first before ≡ plan
    same e = cc

cause-failed : (work : Work) (h : List SoloEntry) → caused view the_job h ≡ None
    → caused view the_job (Does (act.Works work) act.Failed ∷ h) ≡ Some (outcome.Fault cause.DiskFault)
cause-failed work h none = rw none refl

cause-lacking : (work : Work) (h : List SoloEntry) → caused view the_job h ≡ None
    → caused view the_job (Does (act.Works work) act.NoMemory ∷ h) ≡ Some (outcome.Fault cause.NoMemory)
cause-lacking work h none = rw none refl

module _ {C F : Type 0} (sound : F → Type 0) (faults : F → ℕ) (plans : C → F → Plan → Type 0) (follows : C → F → List Given → F → Type 0)
    (passes : F → List Given → F → Type 0) (was now : C) (first old new : F) (h : List SoloEntry) (work : Work) (devices : Devices)
    (free : caused view the_job h ≡ None) (planned : (plan : Plan) → devices.work ≡ Some plan → plans was old plan)
    (followed : follows was first (begun h) old) where
  abbrev After : Reply → List SoloEntry
  After reply = Does (act.Works work) reply ∷ h

  record Facts (reply : Reply) : Type 0 where
    allowed : Allows devices (Does (act.Works work) reply) []
    cards : (given devices (Does (act.Works work) reply) []).cards ≡ devices.cards
    keys : (given devices (Does (act.Works work) reply) []).keys ≡ devices.keys
    paper : (given devices (Does (act.Works work) reply) []).paper ≡ devices.paper
    console : (given devices (Does (act.Works work) reply) []).console ≡ devices.console
    is_sound : caused view the_job (After reply) ≡ None → sound new
    works : caused view the_job (After reply) ≡ None → (plan : Plan) → (given devices (Does (act.Works work) reply) []).work ≡ Some plan
        → plans now new plan
    led : caused view the_job (After reply) ≡ None → follows now first (begun (After reply)) new
    files : AreSome (passes first) (begun (After reply)) new (caused view the_job (After reply))

  facts : (reply : Reply) → Fits (act.Works work) reply → ComesTo sound faults (plans was old) (plans now new) old new work reply
      → LedTo reply (follows now first (begun h ++ work.given ∷ []) new) (passes first (begun h ++ work.given ∷ []) new) → Facts reply
  facts (act.Found need) fits comes led = record {
    allowed = ((λ plan told. (comes.1 plan (planned plan told)).0), refl);
    cards = refl;
    keys = refl;
    paper = refl;
    console = refl;
    is_sound = λ none. comes.0;
    works = λ none plan told. (let (before, e, same) = told-behind devices.work work.given plan told in
        subst (plans now new) same (comes.1 before (planned before e)).1);
    led = λ none. led.0;
    files = passed (passes first) (begun h ++ work.given ∷ []) new _ led.1;
  }
  facts act.Failed fits comes led = record {
    allowed = refl;
    cards = refl;
    keys = refl;
    paper = refl;
    console = refl;
    is_sound = λ none. absurd (let some = cause-failed work h free in cc);
    works = λ none. absurd (let some = cause-failed work h free in cc);
    led = λ none. absurd (let some = cause-failed work h free in cc);
    files = subst (AreSome (passes first) (begun (After act.Failed)) new) (sym (cause-failed work h free)) tt;
  }
  facts act.NoMemory fits comes led = record {
    allowed = refl;
    cards = refl;
    keys = refl;
    paper = refl;
    console = refl;
    is_sound = λ none. absurd (let some = cause-lacking work h free in cc);
    works = λ none. absurd (let some = cause-lacking work h free in cc);
    led = λ none. absurd (let some = cause-lacking work h free in cc);
    files = subst (AreSome (passes first) (begun (After act.NoMemory)) new) (sym (cause-lacking work h free))
        (inr (work.given, subst (λ givens. passes first (givens ++ work.given ∷ []) new) (sym (append-nil (begun h))) led));
  }
  facts reply fits comes led = absurd fits

some-reply : (r s : Reply) → Some r ≡ Some s → r ≡ s
some-reply r s e = cc

-- ---- of the network
module _ {C F S Y K T : Type 0} (commands : CommandsOf C F) (tells : Tells S Y K T) (net : SoloNet C S Y K T F)
    (at : Placed the_law (SoloNetStands commands tells net)) (work : Work)
    (next : next_action view the_job (at.state.histories 2) ≡ Some (act.Works work)) (job : Machine (JobProc C)) (files : F)
    (w : WorkSteps (StandsFor the_job job_at (JobStands commands.awaits) job) commands.sound commands.faults commands.plans commands.follows
    commands.passes net.job.process.commands job.process.commands net.shared.units.files files (at.state.histories 2) work) where
  abbrev s : SoloState
  s = at.state

  abbrev stands : SoloNetStands commands tells net s
  stands = at.stands

  abbrev entry : SoloEntry
  entry = Does (act.Works work) w.reply

  abbrev event : SoloEvent
  event = record { process = 2; entry = entry; gained = [] }

  abbrev new : Shared S Y K T F
  new = record net.shared { units = record net.shared.units { files = files } }

  abbrev behind : SoloNet C S Y K T F
  behind = record net { job = job; shared = new }

  free : caused view the_job (s.histories 2) ≡ None
  free = free-next 2 (s.histories 2) (act.Works work) is-2 next tt

  are : Facts commands.sound commands.faults commands.plans commands.follows commands.passes net.job.process.commands job.process.commands
      net.first_files.value net.shared.units.files files (s.histories 2) work s.devices free (stands.works free) (stands.led free) w.reply
  are =
      facts commands.sound commands.faults commands.plans commands.follows commands.passes net.job.process.commands job.process.commands
      net.first_files.value net.shared.units.files files (s.histories 2) work s.devices free (stands.works free) (stands.led free) w.reply w.fits w.comes
      (w.led net.first_files.value (begun (s.histories 2)) (stands.led free))

  the-event : IsEvent tells new s event
  the-event =
      is-event tells new s 2 is-2 entry [] next w.fits tt (work-went work w.reply w.fits) are.allowed record {
        units = record {
          cards = are.cards ∙ stands.shared.units.cards;
          keys = are.keys ∙ stands.shared.units.keys;
          paper = are.paper ∙ stands.shared.units.paper;
          console = are.console ∙ stands.shared.units.console;
        };
        six = stands.shared.six;
      }

  causes : SoloHasCauses tells net.shared.units new.units (act.Works work) (Some w.reply)
  causes = record {
    reads = λ e. absurd cc;
    accepts = λ e. absurd cc;
    displays = λ shows. absurd shows;
    prints = λ prints. absurd prints;
    cards_stay = λ not. refl;
    keys_stay = λ not. refl;
    console_stays = λ not. refl;
    paper_stays = λ not. refl;
  }

  files-cause : FilesCause commands.faults net.shared.units.files files (act.Works work) (Some w.reply)
  files-cause = record {
    failed = λ shows prints fits e.
        subst (ComesTo commands.sound commands.faults (commands.plans net.job.process.commands net.shared.units.files)
        (commands.plans job.process.commands files) net.shared.units.files files work) (some-reply w.reply act.Failed e) w.comes;
    on = w.counts;
  }

  behind-stands : SoloNetStands commands tells behind (next_state s event)
  behind-stands = record {
    input = stands.input;
    job = w.stands;
    output = stands.output;
    shared = the-event.after;
    cards_live = stands.cards_live;
    keys_live = λ none. stands.keys_live free;
    console_live = λ none. stands.console_live free;
    paper_live = stands.paper_live;
    files_sound = are.is_sound;
    works = are.works;
    led = are.led;
    files = are.files;
  }

  pub at-work_step : (result : Stepped) → result ≡ stepped.Acted
      → law.Steps the_law (SoloNetStands commands tells) (MovesSo commands tells) net behind s 2 result
  at-work_step result acted = record {
    event = event;
    process_is = refl;
    told = acted ∙ so;
    enabled = the-event.enabled;
    stands = behind-stands;
    moves = record {
      causes = causes;
      keeps = keeps-so commands tells net at event behind the-event.enabled w.fits causes files-cause refl behind-stands;
    };
  } where
    so : stepped.Acted ≡ goes solo s event
    so =
        ap (λ w. stepped_so (is_delayed w) (is_end (said (act.Works work))) false) (sym (work-went work w.reply w.fits))
        ∙ goes-so 2 entry (s.histories 2) false w.fits next

pub is-at-work : {C F S Y K T : Type 0} (commands : CommandsOf C F) (tells : Tells S Y K T) (net : SoloNet C S Y K T F)
    (at : Placed the_law (SoloNetStands commands tells net)) (work : Work) → next_action view the_job (at.state.histories 2) ≡ Some (act.Works work)
    → IsAtWork (StandsFor the_job job_at (JobStands commands.awaits) net.job)
is-at-work commands tells net at work next =
    record { history = at.state.histories 2; work = work; stands = at.stands.job; next = next }

pub work-sound : {C F S Y K T : Type 0} (commands : CommandsOf C F) (tells : Tells S Y K T) (net : SoloNet C S Y K T F)
    (at : Placed the_law (SoloNetStands commands tells net)) (work : Work) → next_action view the_job (at.state.histories 2) ≡ Some (act.Works work)
    → commands.sound net.shared.units.files
work-sound commands tells net at work next =
    at.stands.files_sound (free-next 2 (at.state.histories 2) (act.Works work) is-2 next tt)
