-- What a program has of its own, and what the programs of one command share.
use Rattle.std.specs.Prelude.{ℕ, Bool, List, [], Option, None}
use Rattle.solo_base.specs.declared.outcome.ProgResult.{ProgResult}
use Rattle.solo_base.specs.declared.system_call.Arg.{Arg}
use Rattle.solo_base.specs.declared.system_call.SysReply.{SysReply}
use Rattle.solo_base.specs.declared.system_call.SysReply.TheVariants as replies
use Rattle.disk_layout.specs.Files.{Files}
use Rattle.stack_code.specs.CodeLists.{CodeLists}
use Rattle.program_task.specs.Task.{Task, Gives}

-- its arguments: those that it hasn't read, and those that it has written; and the names of the files that it
-- has open as 1 and as 2
pub record Own : Type 0 where
  pub incoming : List Arg
  pub outgoing : List Arg
  pub first : Option (List ℕ)
  pub second : Option (List ℕ)

-- a program begins with its incoming arguments alone
abbrev pub begins_with : List Arg → Own
begins_with incoming = record { incoming = incoming; outgoing = []; first = None; second = None }

-- The files. What is left of the card file, once one was read, and whether it had a spoiled card. What is
-- left of the typed line. The lines in hand of the typewriter and of the printer.
pub record Shared : Type 0 where
  pub files : Files
  pub input : Option (List ℕ)
  pub spoiled : Bool
  pub typed : List ℕ
  pub display : List ℕ
  pub print : List ℕ

-- what a call gives: its reply, and what the program has and shares then
pub record Answer : Type 0 where
  pub reply : SysReply
  pub own : Own
  pub shared : Shared

-- a reply, and nothing that any device has to do for it
abbrev pub simply : SysReply → Own → Shared → Task Answer
simply reply own w = Gives (record { reply = reply; own = own; shared = w })

abbrev pub refuses : Own → Shared → Task Answer
refuses own w = simply replies.CallError own w

-- how a program ended: its result, the line that gave it, the ticks that it took, the arguments that it
-- wrote, and what it shared then
pub record Ended : Type 0 where
  pub result : ProgResult
  pub line : ℕ
  pub ticks : ℕ
  pub outgoing : List Arg
  pub shared : Shared

-- what a program does from its beginning, by its code, its limit of ticks, what it has and what it shares
abbrev pub Runner : Type 0
Runner = CodeLists → ℕ → Own → Shared → Task Ended
