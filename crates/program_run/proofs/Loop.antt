-- A piece of work: step after step, up to the next need.
use Rattle.std.proofs.Common.{◌≡◌, ℕ, ◌<◌, Bool, true, List, ◌++◌, Option, Some, None, Result, Ok, Err, refl, ◌∙◌, ap, subst, arith}
use Rattle.std.specs.Prelude.{IsTrue}
use Rattle.disk_layout.specs.Files.{files}
use Rattle.disk_files.specs.Answers.{FaultsOnly}
use Rattle.disk_files.specs.declared.fault.FileFault.{FileFault}
use Rattle.disk_files.specs.declared.fault.FileFault.TheVariants.{DiskFault as AreaFails}
use Rattle.file_commands.specs.declared.fault.CommandFault.{CommandFault}
use Rattle.file_commands.specs.declared.fault.CommandFault.TheVariants.{DiskFault, NoMemory}
use Rattle.file_commands.specs.Faults.{of_command}
use Rattle.solo_work.specs.declared.paper.Paper.{Paper}
use Rattle.solo_work.specs.Paper.{IsHand}
use Rattle.solo_work.specs.Printing.{prints_then}
use Rattle.program_run.specs.Sight.{Sight, IsUnderWay}
use Rattle.program_run.specs.Steps.{StepDone}
use Rattle.program_run.specs.Work.{Came, MayGoOn, passes_all}
use Rattle.program_run.specs.declared.progress.Progress.{Progress}
use Rattle.program_run.specs.declared.progress.Progress.TheVariants.{Needs, Ends}
use Rattle.program_run.proofs.Tasks.{here, then-reaches, are-passed}
use Rattle.program_run.proofs.Steady.{steady_step, left_in}
use Rattle.program_run.proofs.Stepping.{GoesSo, StepComes, step_comes}

-- no fault so far
abbrev pub done : Result (Unit {0}) FileFault
done = Ok tt

no_fault : done ≡ Err AreaFails → ⊥
no_fault e = cc

pub record IsSoFar (before : Option (List (List ℕ))) (p : Sight) (paper : Paper) (faults : ℕ) (now : Sight) (paper_now : Paper) (after : Option (List (List ℕ))) (faults_now : ℕ)
    (sound : Bool) : Type 0 where
  pub under_way : IsUnderWay now
  pub is_sound : IsTrue sound
  pub counts : FaultsOnly faults faults_now done
  pub goes : (pages : ℕ) (hand : List (List ℕ)) → IsHand paper pages hand → GoesSo pages hand before p now paper_now after

pub begins : (before : Option (List (List ℕ))) (p : Sight) (paper : Paper) (faults : ℕ) (sound : Bool) → IsUnderWay p → IsTrue sound
    → IsSoFar before p paper faults p paper before faults sound
begins before p paper faults sound way is = record {
  under_way = way;
  is_sound = is;
  counts = record { later = omega arith; stays = λ few. few; cause = λ e. absurd (no_fault e) };
  goes = λ pages hand hand_is. record {
    hand_now = hand;
    hand_is = hand_is;
    told = λ old doing told left. record { later = doing; reaches = here hand doing old (files old) before told refl; left = left };
  };
}

-- ---- A step more

step_more : (pages : ℕ) (hand : List (List ℕ)) (before middle : Option (List (List ℕ))) (p mid : Sight) (paper_mid : Paper) (so : GoesSo pages hand before p mid paper_mid middle)
    (n : Option Progress) (now : Sight) (paper_now : Paper) (after : Option (List (List ℕ))) → StepComes pages so.hand_now middle mid n now paper_now after
    → StepComes pages hand before p n now paper_now after
step_more pages hand before middle p mid paper_mid so None now paper_now after next = record {
  hand_now = next.hand_now;
  hand_is = next.hand_is;
  told = λ old doing told left.
      let g = so.told old doing told left in
      let r = next.told g.reaches.pages g.later g.reaches.told g.left in
      record {
        later = r.later;
        reaches = then-reaches hand (files old) doing mid so.hand_now middle g next.hand_now r.later after r.reaches;
        left = r.left;
      };
}
step_more pages hand before middle p mid paper_mid so (Some (Needs n)) now paper_now after next = record {
  needed = next.needed;
  hand_now = next.hand_now;
  is = next.is;
  fits = next.fits;
  hand_is = next.hand_is;
  may = next.may;
  told = λ old doing told left.
      let g = so.told old doing told left in
      let c = next.told g.reaches.pages g.later g.reaches.told g.left in
      record {
        pages = c.pages;
        told = c.told;
        maps = g.reaches.maps ++ c.maps;
        pause = c.pause;
        comes = g.reaches.comes ∙ ap (passes_all g.reaches.maps) c.comes;
        stands = c.stands;
      };
}
step_more pages hand before middle p mid paper_mid so (Some (Ends printing)) now paper_now after next = record {
  hand_now = next.hand_now;
  hand_is = next.hand_is;
  told = λ old doing told left.
      let g = so.told old doing told left in
      then-reaches hand (files old) doing mid so.hand_now middle g next.hand_now (prints_then printing.lines printing.next printing.answers) after (next.told g.reaches.pages g.later g.reaches.told g.left);
}

more_counts : (a b c : ℕ) → FaultsOnly a b done → FaultsOnly b c done → FaultsOnly a c done
more_counts a b c first second = record {
  later = (let x = first.later in let y = second.later in omega (arith, x, y));
  stays = λ few. second.stays (first.stays few);
  cause = λ e. absurd (no_fault e);
}

-- the same where the last step failed or came to its need
pub all_counts : (a b c : ℕ) (result : Result (Unit {0}) FileFault) → FaultsOnly a b done → FaultsOnly b c result → FaultsOnly a c result
all_counts a b c result first second = record {
  later = (let x = first.later in let y = second.later in omega (arith, x, y));
  stays = λ few. second.stays (first.stays few);
  cause = λ e. let x = first.later in let y = second.cause e in omega (arith, x, y);
}

pub goes_on : (before middle after : Option (List (List ℕ))) (p mid now : Sight) (paper paper_mid paper_now : Paper) (faults faults_mid faults_now : ℕ) (sound_mid sound_now : Bool)
    (n : Option Progress) → n ≡ None → IsSoFar before p paper faults mid paper_mid middle faults_mid sound_mid → StepDone middle mid paper_mid n now paper_now after
    → sound_now ≡ true → FaultsOnly faults_mid faults_now done → IsSoFar before p paper faults now paper_now after faults_now sound_now
goes_on before middle after p mid now paper paper_mid paper_now faults faults_mid faults_now sound_mid sound_now n none far step sound counts =
    let one : StepDone middle mid paper_mid None now paper_now after = subst (λ o. StepDone middle mid paper_mid o now paper_now after) none step in
    record {
      under_way = (steady_step middle mid paper_mid None now paper_now after far.under_way one).0;
      is_sound = sound;
      counts = more_counts faults faults_mid faults_now far.counts counts;
      goes = λ pages hand hand_is.
          let so = far.goes pages hand hand_is in
          step_more pages hand before middle p mid paper_mid so None now paper_now after
          (step_comes pages so.hand_now middle mid paper_mid None now paper_now after so.hand_is far.under_way one);
    }

pub falls : (middle after : Option (List (List ℕ))) (mid now : Sight) (paper_mid paper_now : Paper) (n : Option Progress) → n ≡ None → IsUnderWay mid
    → StepDone middle mid paper_mid n now paper_now after → left_in now.programs < left_in mid.programs
falls middle after mid now paper_mid paper_now n none way step =
    (steady_step middle mid paper_mid None now paper_now after way (subst (λ o. StepDone middle mid paper_mid o now paper_now after) none step)).1

pub came : (before middle after : Option (List (List ℕ))) (p mid now : Sight) (paper paper_mid paper_now : Paper) (faults faults_mid : ℕ) (sound_mid : Bool) (o : Option Progress)
    (progress : Progress) → o ≡ Some progress → IsSoFar before p paper faults mid paper_mid middle faults_mid sound_mid → StepDone middle mid paper_mid o now paper_now after
    → (pages : ℕ) (hand : List (List ℕ)) → IsHand paper pages hand → Came pages hand before p (Ok progress) now paper_now after
came before middle after p mid now paper paper_mid paper_now faults faults_mid sound_mid o progress is far step pages hand hand_is =
    let so = far.goes pages hand hand_is in
    let one = subst (λ x. StepDone middle mid paper_mid x now paper_now after) is step in
    step_more pages hand before middle p mid paper_mid so (Some progress) now paper_now after
    (step_comes pages so.hand_now middle mid paper_mid (Some progress) now paper_now after so.hand_is far.under_way one)

pub may_go_on : (middle after : Option (List (List ℕ))) (mid now : Sight) (paper_mid paper_now : Paper) (o : Option Progress) (progress : Progress) → o ≡ Some progress → IsUnderWay mid
    → StepDone middle mid paper_mid o now paper_now after → MayGoOn progress now
may_go_on middle after mid now paper_mid paper_now o progress is way step =
    steady_step middle mid paper_mid (Some progress) now paper_now after way (subst (λ x. StepDone middle mid paper_mid x now paper_now after) is step)

-- ---- A step that isn't done

pub lacks : (before middle after : Option (List (List ℕ))) (p mid now : Sight) (paper paper_mid paper_now : Paper) (faults faults_mid : ℕ) (sound_mid : Bool) (fault : CommandFault)
    → IsSoFar before p paper faults mid paper_mid middle faults_mid sound_mid → (fault ≡ NoMemory → after ≡ middle)
    → (pages : ℕ) (hand : List (List ℕ)) → IsHand paper pages hand → Came pages hand before p (Err fault) now paper_now after
lacks before middle after p mid now paper paper_mid paper_now faults faults_mid sound_mid NoMemory far same pages hand hand_is = λ old doing told left.
    let so = far.goes pages hand hand_is in
    let g = so.told old doing told left in
    let passed = are-passed hand (files old) doing mid so.hand_now middle g in
    (passed.0, same refl ∙ passed.1, passed.2)
lacks before middle after p mid now paper paper_mid paper_now faults faults_mid sound_mid DiskFault far same pages hand hand_is = tt

-- a fault is the same for the files, whatever the answer would have been
pub same_failed : (A B : Type 0) (fault : CommandFault) → of_command {T = A} (Err fault) ≡ of_command {T = B} (Err fault)
same_failed A B DiskFault = refl
same_failed A B NoMemory = refl

-- the same fault, beside another answer
abbrev pub failed : (A E : Type 0) → E → Result A E
failed A E e = Err e

same_fault : (A E : Type 0) (a b : E) → failed A E a ≡ failed A E b → a ≡ b
same_fault A E a b is = cc

pub fault_of : (A B E : Type 0) (a b : E) → failed A E a ≡ failed A E b → failed B E a ≡ failed B E b
fault_of A B E a b is = ap (failed B E) (same_fault A E a b is)
