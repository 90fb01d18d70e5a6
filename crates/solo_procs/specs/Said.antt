-- What the actions and replies of the law are in the code.
use Rattle.std.specs.Prelude.{◌≡◌, Bool, true, false}
use Rattle.solo_base.specs.declared.outcome.Cause.{Cause}
use Rattle.solo_base.specs.declared.outcome.Cause.TheVariants as cause
use Rattle.solo_law.specs.Work.{Need}
use Rattle.solo_law.specs.Actions.{Action, Reply}
use Rattle.solo_law.specs.Actions as act
use Rattle.solo_procs.specs.declared.actions.SoloAction.{SoloAction}
use Rattle.solo_procs.specs.declared.actions.SoloAction.TheVariants as say
use Rattle.solo_procs.specs.declared.actions.SoloReply.{SoloReply}
use Rattle.solo_procs.specs.declared.actions.SoloReply.TheVariants as hear

-- What a work begins with isn't said.
abbrev pub said : Action → SoloAction
said act.Accept = say.Accept
said (act.Display line) = say.Display line
said act.ReadCard = say.ReadCard
said (act.Print line) = say.Print line
said (act.PutArg b a) = say.PutArg b a
said (act.TakeArg b) = say.TakeArg b
said (act.PutPage b page) = say.PutPage b page
said (act.TakePage b) = say.TakePage b
said (act.Works work) = say.Work
said (act.Stop b) = say.Stop b
said (act.Ended how) = say.Ended how

-- A need isn't said either: a work is done.
abbrev pub said_back : Reply → SoloReply
said_back act.Done = hear.Done
said_back act.Stopped = hear.Stopped
said_back act.Failed = hear.Failed
said_back act.NoMemory = hear.NoMemory
said_back (act.OfCard answer) = hear.Card answer
said_back (act.OfArg a) = hear.Arg a
said_back (act.OfPage page) = hear.Page page
said_back (act.Found need) = hear.Done

abbrev pub heard : SoloReply → Reply
heard hear.Done = act.Done
heard hear.Stopped = act.Stopped
heard hear.Failed = act.Failed
heard hear.NoMemory = act.NoMemory
heard (hear.Card answer) = act.OfCard answer
heard (hear.Arg a) = act.OfArg a
heard (hear.Page page) = act.OfPage page

-- A reply is heard as it is, by a process that is ready for it where it is no cause. A work that is done has
-- come to a need, which the process knows by itself.
abbrev pub Hears : Type 0 → (Need → Type 0) → SoloReply → Reply → Type 0
Hears ready came reply (act.Found need) = (reply ≡ hear.Done) × came need
Hears ready came reply act.Stopped = reply ≡ hear.Stopped
Hears ready came reply act.Failed = reply ≡ hear.Failed
Hears ready came reply act.NoMemory = reply ≡ hear.NoMemory
Hears ready came reply answer = (reply ≡ said_back answer) × ready

-- what Done may be heard as
abbrev pub IsHeardDone : Type 0 → (Need → Type 0) → Reply → Type 0
IsHeardDone ready came act.Done = ready
IsHeardDone ready came (act.Found need) = came need
IsHeardDone ready came answer = ⊥

-- ---- by what is said
abbrev pub is_end : SoloAction → Bool
is_end (say.Ended how) = true
is_end other = false

-- the cause where the device of an action failed
abbrev pub fault_said : SoloAction → Cause
fault_said (say.Print line) = cause.PrintFault
fault_said (say.Display line) = cause.ConsoleFault
fault_said other = cause.DiskFault
