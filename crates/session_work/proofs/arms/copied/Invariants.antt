use Rattle.std.proofs.Common.{◌≡◌, take}
use Rattle.session_work.proofs.arms.copied.Given as goal

abbrev pub invariant-copying : goal.invariant-copying
invariant-copying l = l.all ≡ take l.place l.args
