-- A step, over every area and by told files.
use Rattle.std.proofs.Common.{◌≡◌, ℕ, List, [], ◌∷◌, ◌++◌, Option, Some, None, Ok, refl, sym, ◌∙◌, subst}
use Rattle.solo_base.specs.declared.system_call.SysCall.{SysCall}
use Rattle.solo_base.specs.declared.system_call.SysCall.TheVariants as calls
use Rattle.solo_base.specs.declared.system_call.SysReply.TheVariants as replies
use Rattle.disk_layout.specs.Files.{Files, files}
use Rattle.pascal_mean.specs.Batch.{characters_of}
use Rattle.program_task.specs.Program.{Own, Shared}
use Rattle.program_task.specs.Table.{answer}
use Rattle.program_task.specs.Run.{runner}
use Rattle.program_task.specs.Characters.{writes}
use Rattle.stack_machine.specs.declared.running.Pause.{Pause}
use Rattle.stack_machine.specs.declared.running.Pause.TheVariants as pause
use Rattle.stack_machine.specs.declared.state.Finish.{Finish}
use Rattle.prog_stack.specs.declared.frame.Frame.{Frame}
use Rattle.prog_stack.specs.Answers.{sharing}
use Rattle.prog_stack.specs.Callers.{TopAsks, TopWell, RunsTop}
use Rattle.prog_stack.specs.Serves.{top_ended}
use Rattle.solo_law.specs.Work as law
use Rattle.solo_procs.specs.declared.commands.Need.TheVariants as need
use Rattle.solo_task.specs.Answers.{Doing}
use Rattle.solo_work.specs.declared.paper.Paper.{Paper}
use Rattle.solo_work.specs.Paper.{IsHand}
use Rattle.program_run.specs.Sight.{Sight, IsLeftOf, IsUnderWay}
use Rattle.program_run.specs.Sharing.{WritesSo, DisplaysSo}
use Rattle.program_run.specs.Steps.{IsPrinted, IsWritten, IsDisplayed, IsReplied, DoesDevice, DoesCall, Replies, Runs, OfDevice, DoesEnd, DoesBy, StepDone}
use Rattle.program_run.specs.Work.{Came}
use Rattle.program_run.specs.declared.progress.Progress.{Progress}
use Rattle.program_run.specs.declared.progress.Progress.TheVariants.{Needs, Ends}
use Rattle.program_run.proofs.Table.{reads_one, accepts_one, displays_so, writes_so}
use Rattle.program_run.proofs.Tasks.{GoesTo}
use Rattle.program_run.proofs.ToldSteps.{ran_left, asks_first, replies_told, runs_told, answers_told, displays_told, PrintsFirst, prints_first, prints_told, fills_told, cards_told, line_told, end_told, ends_told}
use Rattle.program_run.proofs.Steady.{Steady, steady_step, ran_to_call, ran_to_end}

-- it goes on from here
pub record GoesSo (pages : ℕ) (hand : List (List ℕ)) (before : Option (List (List ℕ))) (p now : Sight) (paper : Paper) (after : Option (List (List ℕ))) : Type 0 where
  pub hand_now : List (List ℕ)
  pub hand_is : IsHand paper pages hand_now
  pub told : (old : List (List ℕ)) (doing : Doing) → before ≡ Some old → IsLeftOf p (files old) doing → GoesTo hand (files old) doing now hand_now after

abbrev pub StepComes : ℕ → List (List ℕ) → Option (List (List ℕ)) → Sight → Option Progress → Sight → Paper → Option (List (List ℕ)) → Type 0
StepComes pages hand before p None now paper after = GoesSo pages hand before p now paper after
StepComes pages hand before p (Some progress) now paper after = Came pages hand before p (Ok progress) now paper after

-- from a state in which the top program has run on
from_middle : (pages : ℕ) (hand : List (List ℕ)) (before : Option (List (List ℕ))) (p mid : Sight) (n : Option Progress) (now : Sight) (paper : Paper) (after : Option (List (List ℕ)))
    → ((all : Files) (doing : Doing) → IsLeftOf p all doing → IsLeftOf mid all doing) → StepComes pages hand before mid n now paper after → StepComes pages hand before p n now paper after
from_middle pages hand before p mid None now paper after on is =
    record { hand_now = is.hand_now; hand_is = is.hand_is; told = λ old doing told left. is.told old doing told (on (files old) doing left) }
from_middle pages hand before p mid (Some (Needs n)) now paper after on is =
    record {
      needed = is.needed;
      hand_now = is.hand_now;
      is = is.is;
      fits = is.fits;
      hand_is = is.hand_is;
      may = is.may;
      told = λ old doing told left. is.told old doing told (on (files old) doing left);
    }
from_middle pages hand before p mid (Some (Ends printing)) now paper after on is =
    record { hand_now = is.hand_now; hand_is = is.hand_is; told = λ old doing told left. is.told old doing told (on (files old) doing left) }

same_paper : (paper paper_now : Paper) (pages : ℕ) (hand : List (List ℕ)) → paper_now ≡ paper → IsHand paper pages hand → IsHand paper_now pages hand
same_paper paper paper_now pages hand same is = subst (λ l. IsHand l pages hand) (sym same) is

-- ---- A line that is printed

by_paper : (pages : ℕ) (hand : List (List ℕ)) (before : Option (List (List ℕ))) (p : Sight) (paper : Paper) (line : List ℕ) (n : Option Progress) (now : Sight) (paper_now : Paper)
    (after : Option (List (List ℕ))) (programs : List Frame) → IsHand paper pages hand → after ≡ before → Steady n programs now → IsPrinted paper line n paper_now
    → ((old : List (List ℕ)) (doing : Doing) → before ≡ Some old → IsLeftOf p (files old) doing → PrintsFirst now (files old) line doing)
    → StepComes pages hand before p n now paper_now after
by_paper pages hand before p paper line None now paper_now after programs is same steady adds prints =
    let (room, hand_is) = adds pages hand is in
    record {
      hand_now = hand ++ line ∷ [];
      hand_is = hand_is;
      told = λ old doing told left. prints_told hand now old line doing after (same ∙ told) (prints old doing told left) room;
    }
by_paper pages hand before p paper line (Some (Needs (need.Page page))) now paper_now after programs is same steady adds prints =
    let (room, page_is, fits, hand_is) = adds pages hand is in
    record {
      needed = law.PageNeeded hand;
      hand_now = line ∷ [];
      is = page_is;
      fits = fits;
      hand_is = hand_is;
      may = steady;
      told = λ old doing told left. fills_told hand now old line doing after (same ∙ told) (prints old doing told left) room;
    }
by_paper pages hand before p paper line (Some (Needs need.Cards)) now paper_now after programs is same steady adds prints = absurd adds
by_paper pages hand before p paper line (Some (Needs need.Line)) now paper_now after programs is same steady adds prints = absurd adds
by_paper pages hand before p paper line (Some (Needs (need.Display shown))) now paper_now after programs is same steady adds prints = absurd adds
by_paper pages hand before p paper line (Some (Needs (need.End last answers))) now paper_now after programs is same steady adds prints = absurd adds
by_paper pages hand before p paper line (Some (Ends printing)) now paper_now after programs is same steady adds prints = absurd adds

-- ---- Calls of devices

-- the table's row of a call that writes
abbrev IsRow : SysCall → Type 0
IsRow call = (room : ℕ) (own : Own) (w : Shared) → answer (runner room) call own w ≡ writes (characters_of call) own w

written_none : (pages : ℕ) (hand : List (List ℕ)) (before : Option (List (List ℕ))) (p : Sight) (paper : Paper) (call : SysCall) (now : Sight) (paper_now : Paper)
    (after : Option (List (List ℕ))) → IsRow call → TopAsks call p.programs → IsHand paper pages hand → after ≡ before → WritesSo p.hand call None now.hand → IsReplied replies.Done p now
    → paper_now ≡ paper → GoesSo pages hand before p now paper_now after
written_none pages hand before p paper call now paper_now after row asks is same writes_none replied still =
    record {
      hand_now = hand;
      hand_is = same_paper paper paper_now pages hand still is;
      told = λ old doing told left.
          let a = asks_first call p.programs (sharing (files old) p.hand) left.task left.left asks in
          answers_told hand p now old doing left call replies.Done after a (same ∙ told)
          (row a.room a.own (sharing (files old) p.hand) ∙ writes_so a.own (files old) p.hand call None now.hand writes_none) replied;
    }

written : (pages : ℕ) (hand : List (List ℕ)) (before : Option (List (List ℕ))) (p : Sight) (paper : Paper) (call : SysCall) (line : Option (List ℕ)) (n : Option Progress) (now : Sight)
    (paper_now : Paper) (after : Option (List (List ℕ))) (programs : List Frame) → IsRow call → TopAsks call p.programs → IsHand paper pages hand → after ≡ before → Steady n programs now
    → WritesSo p.hand call line now.hand → IsReplied replies.Done p now → IsWritten paper line n paper_now → StepComes pages hand before p n now paper_now after
written pages hand before p paper call None None now paper_now after programs row asks is same steady writes_it replied on =
    written_none pages hand before p paper call now paper_now after row asks is same writes_it replied on
written pages hand before p paper call None (Some n) now paper_now after programs row asks is same steady writes_it replied on = absurd on
written pages hand before p paper call (Some line) n now paper_now after programs row asks is same steady writes_it replied on =
    by_paper pages hand before p paper line n now paper_now after programs is same steady on
    (λ old doing told left.
    let a = asks_first call p.programs (sharing (files old) p.hand) left.task left.left asks in
    prints_first p now (files old) doing left call line a
    (row a.room a.own (sharing (files old) p.hand) ∙ writes_so a.own (files old) p.hand call (Some line) now.hand writes_it) replied)

displayed : (pages : ℕ) (hand : List (List ℕ)) (before : Option (List (List ℕ))) (p : Sight) (paper : Paper) (code : ℕ) (line : Option (List ℕ)) (n : Option Progress) (now : Sight)
    (paper_now : Paper) (after : Option (List (List ℕ))) (programs : List Frame) → TopAsks (calls.Display code) p.programs → IsHand paper pages hand → after ≡ before → Steady n programs now
    → DisplaysSo p.hand code line now.hand → IsReplied replies.Done p now → IsDisplayed line n → paper_now ≡ paper → StepComes pages hand before p n now paper_now after
displayed pages hand before p paper code None None now paper_now after programs asks is same steady shows replied on still =
    record {
      hand_now = hand;
      hand_is = same_paper paper paper_now pages hand still is;
      told = λ old doing told left.
          let a = asks_first (calls.Display code) p.programs (sharing (files old) p.hand) left.task left.left asks in
          answers_told hand p now old doing left (calls.Display code) replies.Done after a (same ∙ told)
          (displays_so a.own (files old) p.hand code None now.hand shows) replied;
    }
displayed pages hand before p paper code (Some line) (Some (Needs (need.Display shown))) now paper_now after programs asks is same steady shows replied on still =
    record {
      needed = law.DisplayNeeded line;
      hand_now = hand;
      is = on;
      fits = tt;
      hand_is = same_paper paper paper_now pages hand still is;
      may = steady;
      told = λ old doing told left.
          let a = asks_first (calls.Display code) p.programs (sharing (files old) p.hand) left.task left.left asks in
          displays_told hand p now old doing left (calls.Display code) line after a (same ∙ told)
          (displays_so a.own (files old) p.hand code (Some line) now.hand shows) replied;
    }
displayed pages hand before p paper code None (Some n) now paper_now after programs asks is same steady shows replied on still = absurd on
displayed pages hand before p paper code (Some line) None now paper_now after programs asks is same steady shows replied on still = absurd on
displayed pages hand before p paper code (Some line) (Some (Needs need.Cards)) now paper_now after programs asks is same steady shows replied on still = absurd on
displayed pages hand before p paper code (Some line) (Some (Needs need.Line)) now paper_now after programs asks is same steady shows replied on still = absurd on
displayed pages hand before p paper code (Some line) (Some (Needs (need.Page page))) now paper_now after programs asks is same steady shows replied on still = absurd on
displayed pages hand before p paper code (Some line) (Some (Needs (need.End last answers))) now paper_now after programs asks is same steady shows replied on still = absurd on
displayed pages hand before p paper code (Some line) (Some (Ends printing)) now paper_now after programs asks is same steady shows replied on still = absurd on

device_comes : (pages : ℕ) (hand : List (List ℕ)) (before : Option (List (List ℕ))) (p : Sight) (paper : Paper) (call : SysCall) (n : Option Progress) (now : Sight) (paper_now : Paper)
    (after : Option (List (List ℕ))) (programs : List Frame) → TopAsks call p.programs → IsHand paper pages hand → after ≡ before → Steady n programs now
    → DoesDevice call p paper n now paper_now → StepComes pages hand before p n now paper_now after
device_comes pages hand before p paper calls.Read None now paper_now after programs asks is same steady (code, reads, replied, still) =
    record {
      hand_now = hand;
      hand_is = same_paper paper paper_now pages hand still is;
      told = λ old doing told left.
          let a = asks_first calls.Read p.programs (sharing (files old) p.hand) left.task left.left asks in
          answers_told hand p now old doing left calls.Read (replies.Char code) after a (same ∙ told) (reads_one a.own (files old) p.hand code now.hand reads) replied;
    }
device_comes pages hand before p paper calls.Read (Some (Needs need.Cards)) now paper_now after programs asks is same steady (reads, asking, still) =
    record {
      needed = law.CardsNeeded;
      hand_now = hand;
      is = tt;
      fits = tt;
      hand_is = same_paper paper paper_now pages hand still is;
      may = steady;
      told = λ old doing told left. cards_told hand p now old doing after (same ∙ told) left asks reads asking;
    }
device_comes pages hand before p paper calls.Read (Some (Needs need.Line)) now paper_now after programs asks is same steady does = absurd does
device_comes pages hand before p paper calls.Read (Some (Needs (need.Display line))) now paper_now after programs asks is same steady does = absurd does
device_comes pages hand before p paper calls.Read (Some (Needs (need.Page page))) now paper_now after programs asks is same steady does = absurd does
device_comes pages hand before p paper calls.Read (Some (Needs (need.End last answers))) now paper_now after programs asks is same steady does = absurd does
device_comes pages hand before p paper calls.Read (Some (Ends printing)) now paper_now after programs asks is same steady does = absurd does
device_comes pages hand before p paper calls.Accept None now paper_now after programs asks is same steady (code, accepts, replied, still) =
    record {
      hand_now = hand;
      hand_is = same_paper paper paper_now pages hand still is;
      told = λ old doing told left.
          let a = asks_first calls.Accept p.programs (sharing (files old) p.hand) left.task left.left asks in
          answers_told hand p now old doing left calls.Accept (replies.Char code) after a (same ∙ told) (accepts_one a.own (files old) p.hand code now.hand accepts) replied;
    }
device_comes pages hand before p paper calls.Accept (Some (Needs need.Line)) now paper_now after programs asks is same steady (accepts, asking, still) =
    record {
      needed = law.LineNeeded;
      hand_now = hand;
      is = tt;
      fits = tt;
      hand_is = same_paper paper paper_now pages hand still is;
      may = steady;
      told = λ old doing told left. line_told hand p now old doing after (same ∙ told) left asks accepts asking;
    }
device_comes pages hand before p paper calls.Accept (Some (Needs need.Cards)) now paper_now after programs asks is same steady does = absurd does
device_comes pages hand before p paper calls.Accept (Some (Needs (need.Display line))) now paper_now after programs asks is same steady does = absurd does
device_comes pages hand before p paper calls.Accept (Some (Needs (need.Page page))) now paper_now after programs asks is same steady does = absurd does
device_comes pages hand before p paper calls.Accept (Some (Needs (need.End last answers))) now paper_now after programs asks is same steady does = absurd does
device_comes pages hand before p paper calls.Accept (Some (Ends printing)) now paper_now after programs asks is same steady does = absurd does
device_comes pages hand before p paper (calls.Display code) n now paper_now after programs asks is same steady (line, shows, replied, on, still) =
    displayed pages hand before p paper code line n now paper_now after programs asks is same steady shows replied on still
device_comes pages hand before p paper (calls.Write code) n now paper_now after programs asks is same steady (line, writes_it, replied, on) =
    written pages hand before p paper (calls.Write code) line n now paper_now after programs (λ room own w. refl) asks is same steady writes_it replied on
device_comes pages hand before p paper (calls.WriteInt number) n now paper_now after programs asks is same steady (line, writes_it, replied, on) =
    written pages hand before p paper (calls.WriteInt number) line n now paper_now after programs (λ room own w. refl) asks is same steady writes_it replied on
device_comes pages hand before p paper other n now paper_now after programs asks is same steady does = absurd does

-- ---- Calls and ends

goes : (pages : ℕ) (hand : List (List ℕ)) (before : Option (List (List ℕ))) (p : Sight) (paper : Paper) (now : Sight) (paper_now : Paper) (after : Option (List (List ℕ)))
    → IsHand paper pages hand → paper_now ≡ paper
    → ((old : List (List ℕ)) (doing : Doing) → before ≡ Some old → IsLeftOf p (files old) doing → GoesTo hand (files old) doing now hand after)
    → GoesSo pages hand before p now paper_now after
goes pages hand before p paper now paper_now after is still told =
    record { hand_now = hand; hand_is = same_paper paper paper_now pages hand still is; told = told }

call_comes : (pages : ℕ) (hand : List (List ℕ)) (before : Option (List (List ℕ))) (p : Sight) (paper : Paper) (call : SysCall) (n : Option Progress) (now : Sight) (paper_now : Paper)
    (after : Option (List (List ℕ))) (programs : List Frame) → TopAsks call p.programs → IsHand paper pages hand → Steady n programs now → DoesCall call before p paper n now paper_now after
    → StepComes pages hand before p n now paper_now after
call_comes pages hand before p paper call n now paper_now after programs asks is steady (Replies reply served_programs none serves replied same still) =
    subst (λ o. StepComes pages hand before p o now paper_now after) (sym none)
    (goes pages hand before p paper now paper_now after is still
    (λ old doing told left. replies_told hand call p before old doing reply served_programs now after told left asks serves replied same))
call_comes pages hand before p paper call n now paper_now after programs asks is steady (Runs none serves begins name same still) =
    subst (λ o. StepComes pages hand before p o now paper_now after) (sym none)
    (goes pages hand before p paper now paper_now after is still
    (λ old doing told left. runs_told hand call p before old doing now after told left asks serves begins name same))
call_comes pages hand before p paper call n now paper_now after programs asks is steady (OfDevice does same) =
    device_comes pages hand before p paper call n now paper_now after programs asks is same steady does

end_comes : (pages : ℕ) (hand : List (List ℕ)) (before : Option (List (List ℕ))) (p : Sight) (paper : Paper) (finish : Finish) (n : Option Progress) (now : Sight) (paper_now : Paper)
    (after : Option (List (List ℕ))) → top_ended p.programs ≡ Some finish → IsHand paper pages hand → paper_now ≡ paper → after ≡ before → DoesEnd finish p n now
    → StepComes pages hand before p n now paper_now after
end_comes pages hand before p paper finish None now paper_now after ended is still same (args, pops, there, well, name, as_before) =
    goes pages hand before p paper now paper_now after is still
    (λ old doing told left. end_told hand finish p old doing args now after (same ∙ told) left ended pops there well name as_before)
end_comes pages hand before p paper finish (Some (Ends printing)) now paper_now after ended is still same (args, pops, ends) =
    record {
      hand_now = hand;
      hand_is = same_paper paper paper_now pages hand still is;
      told = λ old doing told left. ends_told hand finish p old doing args printing after (same ∙ told) left ended pops ends;
    }
end_comes pages hand before p paper finish (Some (Needs n)) now paper_now after ended is still same does = absurd does

-- ---- A step

step_by : (pages : ℕ) (hand : List (List ℕ)) (before : Option (List (List ℕ))) (p : Sight) (middle : List Frame) (paper : Paper) (paused : Pause) (n : Option Progress) (now : Sight)
    (paper_now : Paper) (after : Option (List (List ℕ))) → IsHand paper pages hand → RunsTop p.programs (Some paused) middle → TopWell middle → Steady n p.programs now
    → DoesBy paused before (record p { programs = middle }) paper n now paper_now after → StepComes pages hand before (record p { programs = middle }) n now paper_now after
step_by pages hand before p middle paper (pause.Call call) n now paper_now after is runs well steady does =
    call_comes pages hand before (record p { programs = middle }) paper call n now paper_now after p.programs (ran_to_call p.programs middle call runs) is steady does
step_by pages hand before p middle paper (pause.Finished finish) n now paper_now after is runs well steady (does, still, same) =
    end_comes pages hand before (record p { programs = middle }) paper finish n now paper_now after (ran_to_end p.programs middle finish runs) is still same does

pub step_comes : (pages : ℕ) (hand : List (List ℕ)) (before : Option (List (List ℕ))) (p : Sight) (paper : Paper) (n : Option Progress) (now : Sight) (paper_now : Paper)
    (after : Option (List (List ℕ))) → IsHand paper pages hand → IsUnderWay p → StepDone before p paper n now paper_now after → StepComes pages hand before p n now paper_now after
step_comes pages hand before p paper n now paper_now after is way step =
    from_middle pages hand before p (record p { programs = step.programs }) n now paper_now after
    (λ all doing left. record {
      task = left.task;
      left = ran_left p.programs step.programs step.paused (sharing all p.hand) left.task left.left step.runs step.well;
      is = left.is;
    })
    (step_by pages hand before p step.programs paper step.paused n now paper_now after is step.runs step.well
    (steady_step before p paper n now paper_now after way step) step.does)
