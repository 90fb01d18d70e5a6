-- What is done from one pause of the top program to the next, in plain data.
use Rattle.std.specs.Prelude.{◌≡◌, ℕ, ◌++◌, List, [], ◌∷◌, codes, Option, Some, None, Bool, if◌then◌else◌}
use Rattle.solo_base.specs.declared.system_call.Arg.{Arg}
use Rattle.solo_base.specs.declared.system_call.SysCall.{SysCall}
use Rattle.solo_base.specs.declared.system_call.SysCall.TheVariants as calls
use Rattle.solo_base.specs.declared.system_call.SysReply.{SysReply}
use Rattle.solo_base.specs.declared.system_call.SysReply.TheVariants as replies
use Rattle.pascal_mean.specs.Batch.{last_line}
use Rattle.code_law.specs.Texts.{note, result_line}
use Rattle.program_task.specs.Run.{program_room}
use Rattle.stack_machine.specs.declared.running.Pause.{Pause}
use Rattle.stack_machine.specs.declared.running.Pause.TheVariants as pause
use Rattle.stack_machine.specs.declared.state.Finish.{Finish}
use Rattle.prog_stack.specs.declared.frame.Frame.{Frame}
use Rattle.prog_stack.specs.declared.served.Served.TheVariants as served
use Rattle.prog_stack.specs.Answers.{Hand}
use Rattle.prog_stack.specs.Callers.{RunsTop, TopWell, TopBegins, with_reply}
use Rattle.prog_stack.specs.Serves.{ServesTop, PopsTop}
use Rattle.solo_procs.specs.declared.commands.Need.TheVariants as need
use Rattle.solo_work.specs.declared.paper.Paper.{Paper}
use Rattle.solo_work.specs.declared.printing.Printing.{Printing}
use Rattle.solo_work.specs.Paper.{IsHand, AddsLine}
use Rattle.program_run.specs.Sight.{Sight, IsThere}
use Rattle.program_run.specs.Sharing.{ReadsSo, AcceptsSo, WritesSo, DisplaysSo}
use Rattle.program_run.specs.declared.progress.Progress.{Progress}
use Rattle.program_run.specs.declared.progress.Progress.TheVariants.{Needs, Ends}

-- ---- Lines

-- a line was printed on the page in hand, or a page was full
abbrev pub IsPrinted : Paper → List ℕ → Option Progress → Paper → Type 0
IsPrinted paper line None now =
    (pages : ℕ) (hand : List (List ℕ)) → IsHand paper pages hand → AddsLine pages hand line None now
IsPrinted paper line (Some (Needs (need.Page page))) now =
    (pages : ℕ) (hand : List (List ℕ)) → IsHand paper pages hand → AddsLine pages hand line (Some page) now
IsPrinted paper line (Some other) now = ⊥

abbrev pub IsWritten : Paper → Option (List ℕ) → Option Progress → Paper → Type 0
IsWritten paper None None now = now ≡ paper
IsWritten paper None (Some other) now = ⊥
IsWritten paper (Some line) n now = IsPrinted paper line n now

abbrev pub IsDisplayed : Option (List ℕ) → Option Progress → Type 0
IsDisplayed None None = Unit {0}
IsDisplayed (Some line) (Some (Needs (need.Display shown))) = shown ≡ line
IsDisplayed line n = ⊥

-- ---- A call of a device

-- the call of the top program has this reply
pub record IsReplied (reply : SysReply) (p now : Sight) : Type 0 where
  pub name : now.name ≡ p.name
  pub programs : now.programs ≡ with_reply reply p.programs
  pub well : TopWell now.programs

-- nothing is replied yet
pub record IsAsking (p now : Sight) : Type 0 where
  pub name : now.name ≡ p.name
  pub programs : now.programs ≡ p.programs

abbrev pub DoesDevice : SysCall → Sight → Paper → Option Progress → Sight → Paper → Type 0
DoesDevice calls.Read p paper None now paper_now =
    (code : ℕ) × ReadsSo p.hand (Some code) now.hand × IsReplied (replies.Char code) p now
    × (paper_now ≡ paper)
DoesDevice calls.Read p paper (Some (Needs need.Cards)) now paper_now =
    ReadsSo p.hand None now.hand × IsAsking p now × (paper_now ≡ paper)
DoesDevice calls.Accept p paper None now paper_now =
    (code : ℕ) × AcceptsSo p.hand (Some code) now.hand × IsReplied (replies.Char code) p now
    × (paper_now ≡ paper)
DoesDevice calls.Accept p paper (Some (Needs need.Line)) now paper_now =
    AcceptsSo p.hand None now.hand × IsAsking p now × (paper_now ≡ paper)
DoesDevice (calls.Display code) p paper n now paper_now =
    (line : Option (List ℕ)) × DisplaysSo p.hand code line now.hand × IsReplied replies.Done p now
    × IsDisplayed line n × (paper_now ≡ paper)
DoesDevice (calls.Write code) p paper n now paper_now =
    (line : Option (List ℕ)) × WritesSo p.hand (calls.Write code) line now.hand × IsReplied replies.Done p now
    × IsWritten paper line n paper_now
DoesDevice (calls.WriteInt number) p paper n now paper_now =
    (line : Option (List ℕ)) × WritesSo p.hand (calls.WriteInt number) line now.hand
    × IsReplied replies.Done p now × IsWritten paper line n paper_now
DoesDevice call p paper n now paper_now = ⊥

-- ---- A call

-- it was served so, by what the area told and tells then
pub data DoesCall (call : SysCall) (before : Option (List (List ℕ))) (p : Sight) (paper : Paper)
    (n : Option Progress) (now : Sight) (paper_now : Paper) (after : Option (List (List ℕ))) : Type 0 where
  Replies : (reply : SysReply) (programs : List Frame) → n ≡ None
      → ServesTop program_room call p.programs before (served.Reply reply) programs after
      → IsReplied reply (record p { programs = programs }) now → now.hand ≡ p.hand → paper_now ≡ paper
      → DoesCall call before p paper n now paper_now after
  Runs : n ≡ None → ServesTop program_room call p.programs before served.Pushed now.programs after
      → TopBegins now.programs → now.name ≡ p.name → now.hand ≡ p.hand → paper_now ≡ paper
      → DoesCall call before p paper n now paper_now after
  OfDevice : DoesDevice call p paper n now paper_now → after ≡ before
      → DoesCall call before p paper n now paper_now after

-- ---- The end of the top program

-- a card file with a spoiled card is noted
abbrev pub spoiled_note : Bool → List ℕ → List (List ℕ)
spoiled_note spoiled name = if spoiled then note name (codes ": SPOILED CARD") ∷ [] else []

-- the lines that answer the command
abbrev pub answers_of : List ℕ → Finish → Hand → List (List ℕ)
answers_of name finish h =
    last_line h.display ++ result_line name finish.result finish.line ∷ spoiled_note h.spoiled name

-- the line that it printed and didn't complete is still to be printed, and these lines answer
pub record EndsWith (name : List ℕ) (finish : Finish) (h : Hand) (printing : Printing) : Type 0 where
  pub lines : printing.lines ≡ last_line h.print
  pub next : printing.next ≡ 0
  pub answers : printing.answers ≡ answers_of name finish h

abbrev pub DoesEnd : Finish → Sight → Option Progress → Sight → Type 0
DoesEnd finish p None now =
    (args : List Arg) × PopsTop finish p.programs args now.programs × IsThere now.programs
    × TopWell now.programs × (now.name ≡ p.name) × (now.hand ≡ p.hand)
DoesEnd finish p (Some (Ends printing)) now =
    (args : List Arg) × PopsTop finish p.programs args [] × EndsWith p.name finish p.hand printing
DoesEnd finish p (Some other) now = ⊥

-- ---- A step

abbrev pub DoesBy : Pause → Option (List (List ℕ)) → Sight → Paper → Option Progress → Sight → Paper
    → Option (List (List ℕ)) → Type 0
DoesBy (pause.Call call) before p paper n now paper_now after =
    DoesCall call before p paper n now paper_now after
DoesBy (pause.Finished finish) before p paper n now paper_now after =
    DoesEnd finish p n now × (paper_now ≡ paper) × (after ≡ before)

-- the top program ran by itself up to a pause, and then this was done
pub record StepDone (before : Option (List (List ℕ))) (p : Sight) (paper : Paper) (n : Option Progress)
    (now : Sight) (paper_now : Paper) (after : Option (List (List ℕ))) : Type 0 where
  pub paused : Pause
  pub programs : List Frame
  pub runs : RunsTop p.programs (Some paused) programs
  pub well : TopWell programs
  pub does : DoesBy paused before (record p { programs = programs }) paper n now paper_now after
