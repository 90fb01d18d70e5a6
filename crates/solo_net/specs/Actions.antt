-- Which action of the law is said, and at which buffers it calls.
use Rattle.std.specs.Prelude.{◌≡◌, ◌⊎◌, ℕ, Bool, true, false}
use Rattle.solo_law.specs.Work.{OfNothing}
use Rattle.solo_law.specs.Actions.{Action}
use Rattle.solo_law.specs.Actions as act
use Rattle.solo_law.specs.Holds.{IsBuffer}
use Rattle.solo_procs.specs.declared.actions.SoloAction.{SoloAction}
use Rattle.solo_procs.specs.declared.actions.SoloAction.TheVariants as say

-- What a piece of work begins with isn't said.
abbrev pub unsaid : SoloAction → Action
unsaid say.Accept = act.Accept
unsaid (say.Display line) = act.Display line
unsaid say.ReadCard = act.ReadCard
unsaid (say.Print line) = act.Print line
unsaid (say.PutArg b a) = act.PutArg b a
unsaid (say.TakeArg b) = act.TakeArg b
unsaid (say.PutPage b page) = act.PutPage b page
unsaid (say.TakePage b) = act.TakePage b
unsaid say.Work = act.Works (record { given = OfNothing; pages = 0 })
unsaid (say.Stop b) = act.Stop b
unsaid (say.Ended how) = act.Ended how

abbrev pub is_work : SoloAction → Bool
is_work say.Work = true
is_work action = false

abbrev pub IsNoWork : Action → Type 0
IsNoWork (act.Works work) = ⊥
IsNoWork action = Unit {0}

-- ---- the buffers: 2 and 5 hand over pages, the others arguments
abbrev pub IsArgBuffer : ℕ → Type 0
IsArgBuffer b = (b ≡ 1) ⊎ ((b ≡ 3) ⊎ ((b ≡ 4) ⊎ (b ≡ 6)))

abbrev pub IsPageBuffer : ℕ → Type 0
IsPageBuffer b = (b ≡ 2) ⊎ (b ≡ 5)

-- A call is one at a buffer that hands over what the call moves, and a stop is one of a buffer.
abbrev pub SoloHasPlace : Action → Type 0
SoloHasPlace (act.PutArg b a) = IsArgBuffer b
SoloHasPlace (act.TakeArg b) = IsArgBuffer b
SoloHasPlace (act.PutPage b page) = IsPageBuffer b
SoloHasPlace (act.TakePage b) = IsPageBuffer b
SoloHasPlace (act.Stop b) = IsBuffer b
SoloHasPlace action = Unit {0}
