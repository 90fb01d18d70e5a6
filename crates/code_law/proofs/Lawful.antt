-- A program that breaks no rule has good code, which does what the program means.
use Rattle.std.proofs.Common.{ℕ, ◌≤◌, List, subst}
use Rattle.solo_base.specs.declared.system_call.SysReply.{SysReply}
use Rattle.stack_code.specs.CodeLists.{IsCode}
use Rattle.stack_code.specs.Rules.{IsGood}
use Rattle.stack_machine.specs.Run.{Runs}
use Rattle.pascal_tree.specs.Program.{Program}
use Rattle.pascal_mean.specs.Meaning.{meaning}
use Rattle.pascal_mean.specs.MoreReplies.{FitTheMeaning}
use Rattle.pascal_code.specs.Code.{code_of}
use Rattle.pascal_code.proofs.SizesOfPrograms.{program_sized}
use Rattle.code_law.specs.Suited.{AreSuited}
use Rattle.code_law.specs.Law.{Compiles}
use Rattle.code_law.proofs.Fitting.{runs_as_meant}
use Rattle.code_law.proofs.SuitedPrograms.{suited}
use Rattle.code_law.proofs.Rooms.{room_of, low_of, params_few}
use Rattle.code_law.proofs.Codes.{code_is}
use Rattle.code_law.proofs.Good.{good_code}
use Rattle.code_law.proofs.CallsBehind.{calls_stand_behind}

suits : (p : Program) → Compiles p → AreSuited p
suits p is = suited p (is.tree).words is.unbroken

pub code_is_code : (p : Program) → Compiles p → IsCode (code_of p)
code_is_code p is = code_is p is.tree is.unbroken (subst (λ n. n ≤ 8192) (program_sized p) is.fits)

pub code_is_good : (p : Program) → Compiles p → IsGood (code_of p)
code_is_good p is =
    let room = room_of p is.tree is.unbroken in
    good_code p (suits p is) is.tree room (params_few p is.tree is.unbroken)
    (calls_stand_behind p (suits p is) is.tree room (λ k r at. let low = low_of p is.tree is.unbroken k r at in record
    { variable = low.0; reference = low.1 }))

pub does_what_it_means : (p : Program) (limit : ℕ) (replies : List SysReply) → Compiles p → FitTheMeaning p limit replies
    → Runs (code_of p) limit replies (meaning p limit replies)
does_what_it_means p limit replies is fit = runs_as_meant p limit (suits p is) (code_is_code p is) (code_is_good p is) replies fit
