-- From pieces of work to what the job process asks of commands.
use Rattle.std.proofs.Common.{◌≡◌, ℕ, true, List, [], ◌∷◌, ◌++◌, Option, None, Some, Result, Ok, Err, refl, sym, ◌∙◌, ap, subst}
use Rattle.std.specs.Prelude.{IfOk}
use Rattle.disk_layout.specs.Files.{Files, files as file_map}
use Rattle.disk_layout.specs.Format.{IsSoloDisk}
use Rattle.disk_files.specs.Answers.{stays_sound}
use Rattle.solo_law.specs.Work.{Given, Plan}
use Rattle.solo_law.specs.Devices.{plan_behind}
use Rattle.solo_procs.specs.Commands.{AtLine, kind_given, Comes, LeadsSo}
use Rattle.solo_procs.specs.declared.commands.Need.{Need}
use Rattle.solo_procs.specs.declared.commands.WorkFault.{WorkFault}
use Rattle.solo_procs.specs.declared.commands.WorkFault.TheVariants.{Failed, NoMemory}
use Rattle.solo_task.specs.Needs.{Pause, Idle, Paused, resumes}
use Rattle.session_law.specs.Plans.{FilesAndPause, at_rest, piece, behind, session_plan, plan_from}
use Rattle.session_law.specs.Passing.{IsAmong, ComesBy, stands_behind}
use Rattle.session_law.proofs.Passing.{each-piece, behind-passed}
use Rattle.session_work.specs.declared.session.Session.{Session}
use Rattle.session_work.specs.declared.session.UnderWay.TheVariants as under_way
use Rattle.session_work.specs.Pausing.{StandsAt, Awaits, kind_of}
use Rattle.session_work.proofs.Answering.{at-pause}
use Rattle.solo_work.specs.Paper.{IsHand}
use Rattle.session_work.specs.Working.{of_work, Reaches, CameTo, StopsAmong, WorkedSo, LeadsTo, PieceIs, PieceSo}
use Rattle.session_work.specs.Facing.{OpensWith, PlansFrom, LedTo, PassedTo, Follows, Passes}

-- ---- The need

pub piece-comes : (given : Given) (old now : Session) (before after : Option (List (List ℕ))) (need : Need) (pages : ℕ)
    → PieceSo given old before (Ok need) now after → Awaits old pages (kind_given given)
    → Comes pages given (Awaits now) (PlansFrom old before) (PlansFrom now after) need
piece-comes given old now before after need pages so awaits =
    let came = so.comes pages awaits in
    record {
      needed = came.needed;
      is = came.is;
      fits = came.fits;
      awaited = came.awaited;
      planned = λ plan from.
          let s : FilesAndPause = record { files = file_map from.pages; pause = from.pause } in
          let reached = came.told from.pages from.told (piece given s) (from.pause, from.stands, refl) in (
            subst (λ (p : Plan). came.needed ≡ p [] given) (sym from.is) (sym reached.need),
            record {
              pages = reached.left;
              told = reached.told;
              pause = (piece given s).pause;
              stands = reached.stands;
              is = ap (plan_behind given) from.is
                  ∙ ap (λ all. plan_from (record { files = all; pause = (piece given s).pause })) reached.files;
            },
          );
    }

-- ---- The files

one-more : (opening : Files) (before : List Given) (given : Given) → stands_behind opening (before ++ given ∷ []) ≡ behind given (stands_behind opening before)
one-more opening before given = (each-piece opening before given).leads

same-stand : (given : Given) (s t : FilesAndPause) (files : Files) → files ≡ s.files → t ≡ behind given s
    → (t.files ≡ (resumes given files s.pause).files) × (t.pause ≡ (resumes given files s.pause).pause)
same-stand given s t files same is =
    let e : t ≡ (record { files = (resumes given files s.pause).files; pause = (resumes given files s.pause).pause }) =
    is ∙ ap (λ all. record { files = (resumes given all s.pause).files; pause = (resumes given all s.pause).pause }) (sym same) in
    (ap (λ (x : FilesAndPause). x.files) e, ap (λ (x : FilesAndPause). x.pause) e)

pub piece-leads : (given : Given) (old now : Session) (opening before after : Option (List (List ℕ))) (givens : List Given) (result : Result Need WorkFault)
    → PieceSo given old before result now after
    → (stays_sound (of_work result) ≡ true → (left : List (List ℕ)) → after ≡ Some left → IsSoloDisk left)
    → Follows old opening givens before
    → LeadsSo result (Follows now opening (givens ++ given ∷ []) after) (Passes opening (givens ++ given ∷ []) after)
piece-leads given old now opening before after givens (Ok need) so solo follows = (
  λ pages told.
      let led = follows pages told in
      let s = stands_behind (file_map pages) givens in
      let c = resumes given (file_map led.left) s.pause in
      let r = so.leads led.left led.told c (s.pause, led.stands, refl) in
      let (files, pause) = same-stand given s (stands_behind (file_map pages) (givens ++ given ∷ [])) (file_map led.left) led.files
      (one-more (file_map pages) givens given) in
      record {
        left = r.left;
        told = r.told;
        files = sym (files ∙ r.files);
        stands = subst (StandsAt now (file_map r.left)) (sym pause) r.stands;
        solo = λ was. solo refl r.left r.told;
      },
  λ pages told.
      let led = follows pages told in
      let s = stands_behind (file_map pages) givens in
      let c = resumes given (file_map led.left) s.pause in
      let r = so.leads led.left led.told c (s.pause, led.stands, refl) in
      let (files, pause) = same-stand given s (stands_behind (file_map pages) (givens ++ given ∷ [])) (file_map led.left) led.files
      (one-more (file_map pages) givens given) in
      record {
        left = r.left;
        told = r.told;
        comes = subst (ComesBy (file_map pages) (givens ++ given ∷ [])) (files ∙ r.files) (behind-passed (file_map pages) (givens ++ given ∷ []));
        solo = λ was. solo refl r.left r.told;
      },
)
piece-leads given old now opening before after givens (Err Failed) so solo follows = tt
piece-leads given old now opening before after givens (Err NoMemory) so solo follows =
    λ pages told.
    let led = follows pages told in
    let s = stands_behind (file_map pages) givens in
    let c = resumes given (file_map led.left) s.pause in
    let stops = so.leads led.left led.told c (s.pause, led.stands, refl) in
    record {
      left = stops.left;
      told = stops.told_left;
      comes =
          (each-piece (file_map pages) givens given).passes (file_map stops.left)
          (subst (λ all. IsAmong (file_map stops.left) all (resumes given all s.pause).maps) led.files stops.among);
      solo = λ was. solo refl stops.left stops.told_left;
    }

-- ---- The beginning

pub opening-plans : (s : Session) (opening : Option (List (List ℕ))) (plan : Plan) → ((all : Files) → StandsAt s all Idle) → OpensWith opening plan
    → PlansFrom s opening plan
opening-plans s opening plan stands opens =
    record { pages = opens.pages; told = opens.told; pause = Idle; stands = stands (file_map opens.pages); is = opens.is }

pub opening-follows : (s : Session) (opening : Option (List (List ℕ))) → ((all : Files) → StandsAt s all Idle) → Follows s opening [] opening
opening-follows s opening stands = λ pages told. record { left = pages; told = told; files = refl; stands = stands (file_map pages); solo = λ was. was }

pub opening-passes : (opening : Option (List (List ℕ))) → Passes opening [] opening
opening-passes opening = λ pages told. record { left = pages; told = told; comes = refl; solo = λ was. was }

pub at-rest : (s : Session) → s.under_way ≡ under_way.Idle → IsHand s.paper 0 [] → (all : Files) → StandsAt s all Idle
at-rest s idle hand_is all = at-pause s all Idle 0 [] under_way.Idle idle hand_is refl

pub awaits-line : (s : Session) → s.under_way ≡ under_way.Idle → IsHand s.paper 0 [] → Awaits s 0 AtLine
awaits-line s idle hand_is = record { is = sym (ap kind_of idle); begins = λ at. refl; hand = []; hand_is = hand_is }

pub comes-if : (given : Given) (old now : Session) (before after : Option (List (List ℕ))) (result : Result Need WorkFault) (pages : ℕ)
    → PieceSo given old before result now after → Awaits old pages (kind_given given)
    → IfOk result (λ need. Comes pages given (Awaits now) (PlansFrom old before) (PlansFrom now after) need)
comes-if given old now before after (Ok need) pages so awaits = piece-comes given old now before after need pages so awaits
comes-if given old now before after (Err why) pages so awaits = tt
