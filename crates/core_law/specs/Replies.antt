-- The entry of an action, by its reply.
use Rattle.std.specs.Prelude.{Option, None, Some}
use Rattle.batch_procs.specs.Jobs.{Jobs}
use Rattle.batch_procs.specs.declared.actions.Action.{Action}
use Rattle.batch_procs.specs.declared.actions.Reply.{Reply}
use Rattle.batch_procs.specs.History.{Entry, Does, Delays}
use Rattle.batch_procs.specs.Fits.{Fits, MayWait}

-- with its reply, or a delay where there is none
abbrev pub entry_of : {L : Type 0} → Action → Option (Reply L) → Entry L
entry_of action None = Delays action
entry_of action (Some r) = Does action r

abbrev pub ReplyFits : {L : Type 0} → Jobs L → Action → Option (Reply L) → Type 0
ReplyFits J action None = MayWait action
ReplyFits J action (Some r) = Fits J action r
