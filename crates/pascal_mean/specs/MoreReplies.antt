-- What replies are to a program: each answers a call, and more of them change nothing that was done.
use Rattle.std.specs.Prelude.{◌≡◌, ℕ, ◌+◌, ◌≤◌, List, [], ◌∷◌, ◌++◌, length}
use Rattle.solo_base.specs.declared.system_call.SysCall.{SysCall}
use Rattle.solo_base.specs.declared.system_call.SysReply.{SysReply}
use Rattle.solo_base.specs.Fits.{Fits}
use Rattle.solo_base.specs.RunOutcome.{RunOutcome, Ends, Waits}
use Rattle.pascal_tree.specs.Program.{Program}
use Rattle.pascal_mean.specs.Meaning.{meaning}

-- all calls that a run made
abbrev pub calls_of : RunOutcome → List SysCall
calls_of (Ends result line ticks calls) = calls
calls_of (Waits calls) = calls

-- A run that ended is the same run with more replies, and one that waits makes the same calls first.
abbrev pub GoesOn : RunOutcome → RunOutcome → Type 0
GoesOn (Ends result line ticks calls) later = later ≡ Ends result line ticks calls
GoesOn (Waits calls) later = (rest : List SysCall) × (calls_of later ≡ calls ++ rest)

-- A run that waits made one call more than it got replies, and one that ended has a reply to each call.
abbrev pub AreAnswered : RunOutcome → List SysReply → Type 0
AreAnswered (Ends result line ticks calls) replies = length calls ≤ length replies
AreAnswered (Waits calls) replies = length calls ≡ length replies + 1

-- more replies only lengthen what a program does
abbrev pub MoreRepliesGoOn : Type 0
MoreRepliesGoOn =
    (p : Program) (limit : ℕ) (replies more : List SysReply)
    → GoesOn (meaning p limit replies) (meaning p limit (replies ++ more))

-- each call is answered by the reply at its place, and the calls are no more than the replies and one
abbrev pub EachCallTakesAReply : Type 0
EachCallTakesAReply =
    (p : Program) (limit : ℕ) (replies : List SysReply) → AreAnswered (meaning p limit replies) replies

-- Each of these replies fits the call at which the program waits when it got those before it.
abbrev pub FitTheMeaning : Program → ℕ → List SysReply → Type 0
FitTheMeaning p limit replies =
    (before after : List SysReply) (reply : SysReply) (calls : List SysCall) (call : SysCall)
    → replies ≡ before ++ reply ∷ after
    → meaning p limit before ≡ Waits (calls ++ call ∷ [])
    → Fits call reply
