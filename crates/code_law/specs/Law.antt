-- Compiled code is good, and does what its source means.
use Rattle.std.specs.Prelude.{◌≡◌, ℕ, ◌≤◌, List, None}
use Rattle.solo_base.specs.declared.system_call.SysReply.{SysReply}
use Rattle.stack_code.specs.CodeLists.{IsCode}
use Rattle.stack_code.specs.Rules.{IsGood}
use Rattle.stack_machine.specs.Run.{Runs}
use Rattle.pascal_tree.specs.Program.{Program}
use Rattle.pascal_tree.specs.Limits.{IsTree}
use Rattle.pascal_tree.specs.DeclarationRules.{broken}
use Rattle.pascal_mean.specs.Meaning.{meaning}
use Rattle.pascal_mean.specs.MoreReplies.{FitTheMeaning}
use Rattle.pascal_code.specs.Code.{code_of}
use Rattle.pascal_code.specs.Size.{size}

-- what can be compiled: its tree keeps the limits of trees, it breaks no static rule, and its code fits
pub record Compiles (p : Program) : Type 0 where
  pub tree : IsTree p
  pub unbroken : broken p ≡ None
  pub fits : size p ≤ 8192

-- Its code is code, and breaks none of the rules that code must keep to be run.
abbrev pub HasGoodCode : Type 0
HasGoodCode = (p : Program) → Compiles p → IsCode (code_of p) × IsGood (code_of p)

-- Whatever the limit of ticks and the replies to the program's calls, provided that each reply fits the call
-- at which the program waits: the run of the code is what the program means, its ticks, its last line and all
-- its calls.
abbrev pub DoesWhatItMeans : Type 0
DoesWhatItMeans =
    (p : Program) (limit : ℕ) (replies : List SysReply)
    → Compiles p
    → FitTheMeaning p limit replies
    → Runs (code_of p) limit replies (meaning p limit replies)
