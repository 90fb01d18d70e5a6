-- A run of Solo's three processes over the devices of a command, in the words of the command.
use Rattle.std.proofs.Common.{◌≡◌, inl, inr, ℕ, List, [], ◌∷◌, ◌++◌, Option, Some, refl, sym, ◌∙◌, ap, subst}
use Rattle.solo_base.specs.declared.outcome.Outcome.{Outcome}
use Rattle.solo_devices.specs.declared.source.Source.{Ghosts as Source}
use Rattle.solo_devices.specs.declared.sink.Sink.{Ghosts as Sink}
use Rattle.solo_devices.specs.declared.area.Area.{Ghosts as Area}
use Rattle.solo_devices.specs.CardUnit.{Held, fresh_unit, items_ahead}
use Rattle.solo_devices.specs.PrinterUnit.{Printing, fresh_printer}
use Rattle.disk_layout.specs.Files.{files}
use Rattle.disk_files.specs.Answers.{FileTable}
use Rattle.solo_needs.specs.Needs.{Given}
use Rattle.solo_law.specs.Work.{Plan, PlanFits}
use Rattle.solo_law.specs.Devices.{Devices}
use Rattle.solo_law.specs.Told.{begun}
use Rattle.session_law.specs.Plans.{session_plan}
use Rattle.session_law.proofs.Fitting.{plans-fit}
use Rattle.solo_ends.specs.declared.units.SoloRan.{SoloRan}
use Rattle.solo_ends.specs.declared.units.SoloUnits.{SoloUnits}
use Rattle.solo_ends.specs.Faults.{AreCounted, Counts, Peripherals, counting}
use Rattle.solo_run.specs.Job.{job_world}
use Rattle.solo_run.specs.Ran.{HavePassed, IsRunOf, told_by}
use Rattle.solo_ends.specs.Told.{IsOpenedBy}
use Rattle.session_work.specs.Facing.{OpensWith, PassedTo}
use Rattle.solo_cli.specs.Devices.{Kit, kit}
use Rattle.solo_cli.specs.Sessions.{as_peripherals, counts_told}
use Rattle.solo_cli.proofs.SessionTold.{AreLedTo, RanSession}

-- ---- told files open with the session's plan
same-plan : (a b : Plan) → Some a ≡ Some b → b ≡ a
same-plan a b e = cc

pub opened : (told : Option (List (List ℕ))) (pages : List (List ℕ)) → told ≡ Some pages
    → IsOpenedBy (OpensWith told) (Some (session_plan (files pages)))
opened told pages is plan same =
    let plan_is = same-plan (session_plan (files pages)) plan same in
    (record { pages = pages; told = is; is = plan_is }, subst PlanFits (sym plan_is) (plans-fit (files pages)))

-- ---- the devices before the run are those of the command
abbrev pub begun_with : {S Y K T F : Type 0} → S → Y → K → T → F → Peripherals S Y K T F
begun_with deck keys paper console drive = record { source = deck; keys = keys; sink = paper; console = console; files = drive }

pub same-start : {S Y K T F : Type 0} (cards : Held S) (keys : Held Y) (paper : Printing K) (console : Printing T) (drive : F)
    (deck : S) (typed : Y) (sink : K) (shown : T) → cards ≡ fresh_unit deck → keys ≡ fresh_unit typed → paper ≡ fresh_printer sink
    → console ≡ fresh_printer shown
    → begun_with cards.source keys.source paper.sink console.sink drive ≡ begun_with deck typed sink shown drive
same-start cards keys paper console drive deck typed sink shown a b c d = rw (a, b, c, d) refl

-- ---- the files
passed-on : {Drive : Type 0} (passes : List Given → Drive → Type 0) (pages : List (List ℕ)) (now : Drive) (told : Option (List (List ℕ)))
    → ((givens : List Given) → passes givens now → PassedTo pages givens told) → (devices : Devices) (givens : List Given)
    → HavePassed devices passes givens now → HavePassed devices (PassedTo pages) givens told
passed-on passes pages now told comes devices givens (inl p) = inl (comes givens p)
passed-on passes pages now told comes devices givens (inr off) = inr record {
  state = off.state;
  reached = off.reached;
  work = off.work;
  free = off.free;
  at = off.at;
  passed = comes (begun (off.state.histories 2) ++ off.work.given ∷ []) off.passed;
}

module _ {S Y K T F I O : Type 0} (s : Source S) (y : Source Y) (k : Sink K) (t : Sink T) (f : Area F) (i : Area I) (o : Area O) where
  abbrev pub counts_of : Counts S Y K T (FileTable F)
  counts_of = counting s.faults s.taken y.faults y.taken k.faults t.faults (λ files. f.faults files.area)

  abbrev kit_at : Peripherals S Y K T (FileTable F) → I → O → Kit S Y K T F I O
  kit_at p input output = kit s y k t f i o p.source p.keys p.sink p.console p.files.area input output

  pub counted-kit : (start now : Peripherals S Y K T (FileTable F)) (input : I) (output : O) (outcomes : List Outcome)
      → AreCounted counts_of start now outcomes
      → AreCounted counts_told (as_peripherals (kit_at start input output)) (as_peripherals (kit_at now input output)) outcomes
  counted-kit start now input output outcomes c = record {
    read = c.read;
    limit = c.limit;
    longer = c.longer;
    typed = c.typed;
    typed_limit = c.typed_limit;
    typed_longer = c.typed_longer;
    show = c.show;
    disk = c.disk;
    print = c.print;
    read_on = c.read_on;
    typed_on = c.typed_on;
    print_on = c.print_on;
    show_on = c.show_on;
    files_on = c.files_on;
  }

  -- ---- the run
  module _ (units : SoloUnits S Y K T (FileTable F)) (ran : SoloRan S Y K T (FileTable F)) (pages : List (List ℕ)) {C : Type 0}
      {sound : FileTable F → Type 0} {faults : FileTable F → ℕ} {opens : FileTable F → Plan → Type 0}
      (follows : C → FileTable F → List Given → FileTable F → Type 0) (passes : FileTable F → List Given → FileTable F → Type 0)
      (leads : (givens : List Given) (c : C) → follows c units.files givens ran.units.files → AreLedTo pages givens (f.pages ran.units.files.area))
      (comes : (givens : List Given) → passes units.files givens ran.units.files → PassedTo pages givens (f.pages ran.units.files.area)) where
    pub ran-session : (deck : S) (typed : Y) (paper : K) (console : T) (area : F) (input : I) (output : O) (cards keys : List ℕ)
        → units.cards ≡ fresh_unit deck → units.typewriter.keys ≡ fresh_unit typed → units.typewriter.console ≡ fresh_printer console
        → units.paper ≡ fresh_printer paper → s.left deck ≡ Some cards → y.left typed ≡ Some keys
        → IsRunOf s.left (job_world y.left y.taken y.faults t.given t.faults sound faults opens follows passes) k.given units
        (Some (session_plan (files pages))) ran
        → RanSession (kit s y k t f i o deck typed paper console area input output)
        (kit s y k t f i o ran.units.cards.source ran.units.typewriter.keys.source ran.units.paper.sink ran.units.typewriter.console.sink
        ran.units.files.area input output) ran.outcomes cards keys pages
    ran-session deck typed paper console area input output cards keys new_cards new_keys new_console new_paper cards_told keys_told r = record {
      devices = told_by s.left y.left k.given t.given units (Some (session_plan (files pages)));
      state = r.state;
      reached = r.reached;
      deck_told = ap (λ unit. items_ahead (s.left unit.source) unit.pending) new_cards ∙ ap (λ left. items_ahead left []) cards_told;
      keys_told = ap (λ unit. items_ahead (y.left unit.source) unit.pending) new_keys ∙ ap (λ left. items_ahead left []) keys_told;
      work_told = refl;
      console_was = ap (λ unit. t.given unit.sink) new_console;
      paper_was = ap (λ unit. k.given unit.sink) new_paper;
      console_now = r.console;
      paper_now = r.paper;
      pending = ran.units.typewriter.keys.pending;
      keys_now = r.keys;
      ended = r.ended;
      led = λ done. let led = r.led done in leads (begun (r.state.histories 2)) led.0 led.1;
      passed = λ failed.
          passed-on (passes units.files) pages ran.units.files (f.pages ran.units.files.area) comes
          (told_by s.left y.left k.given t.given units (Some (session_plan (files pages)))) (begun (r.state.histories 2)) (r.passed failed);
    }
