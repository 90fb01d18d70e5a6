-- What a process is replied, and which entry of the law that is.
use Rattle.std.specs.Prelude.{Option, None, Some, Result, Ok, Err}
use Rattle.solo_base.specs.declared.page.Page.{Page}
use Rattle.solo_base.specs.declared.system_call.Arg.{Arg}
use Rattle.solo_devices.specs.declared.printer_unit.PrintFault.{PrintFault}
use Rattle.slot_buffer.specs.declared.answers.Put.{Put}
use Rattle.slot_buffer.specs.declared.answers.Take.{Take}
use Rattle.place_law.specs.Process.{Does, LacksMemory, Delays}
use Rattle.solo_law.specs.Actions.{Action, Reply}
use Rattle.solo_law.specs.Replies.{Fits, MayWait}
use Rattle.solo_law.specs.Solo.{SoloEntry}
use Rattle.solo_procs.specs.declared.actions.SoloReply.{SoloReply}
use Rattle.solo_procs.specs.declared.actions.SoloReply.TheVariants as hear
use Rattle.solo_procs.specs.Said.{heard}

-- ---- by what was answered; none where the process waits
abbrev pub put_said : {X : Type 0} → Put X → Option SoloReply
put_said Put.Done = Some hear.Done
put_said (Put.Delayed back) = None
put_said (Put.Stopped back) = Some hear.Stopped

abbrev pub arg_said : Take Arg → Option SoloReply
arg_said (Take.Item a) = Some (hear.Arg a)
arg_said Take.Delayed = None
arg_said Take.Stopped = Some hear.Stopped

abbrev pub page_said : Take Page → Option SoloReply
page_said (Take.Item page) = Some (hear.Page page)
page_said Take.Delayed = None
page_said Take.Stopped = Some hear.Stopped

abbrev pub print_said : {X : Type 0} → Result X PrintFault → SoloReply
print_said (Ok done) = hear.Done
print_said (Err PrintFault.Failed) = hear.Failed
print_said (Err PrintFault.NoMemory) = hear.NoMemory

-- ---- to the law
abbrev pub entry_of : Action → Option SoloReply → SoloEntry
entry_of action None = Delays action
entry_of action (Some reply) = Does action (heard reply)

abbrev pub SoloReplyFits : Action → Option SoloReply → Type 0
SoloReplyFits action None = MayWait action
SoloReplyFits action (Some reply) = Fits action (heard reply)

abbrev pub solo_reply_of : SoloEntry → Option Reply
solo_reply_of (Does action reply) = Some reply
solo_reply_of (LacksMemory action reply) = Some reply
solo_reply_of (Delays action) = None
