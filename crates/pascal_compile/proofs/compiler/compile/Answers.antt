use Rattle.std.proofs.Common.{IfErr, sym, subst}
use Rattle.pascal_tree.specs.SeenProgram.{seen_program}
use Rattle.pascal_compile.specs.Faults.{Explains}
use Rattle.pascal_compile.proofs.Compiled.{compiling_is, tree_is_told, ok_code, ok_runs}
use Rattle.pascal_compile.proofs.compiler.compile.Goals as goal

pub returns-in-Ok-clause-code : goal.returns-in-Ok-clause-code
returns-in-Ok-clause-code c =
    ok_code c.args.cards.now (seen_program c.in-Ok.tree) c.in-Ok.ensures.tree c.compile_tree.result c.compile_tree.ensures.code

pub returns-in-Ok-clause-meaning : goal.returns-in-Ok-clause-meaning
returns-in-Ok-clause-meaning c =
    ok_runs c.args.cards.now (seen_program c.in-Ok.tree) c.in-Ok.ensures.tree c.compile_tree.result c.compile_tree.ensures.code

pub returns-in-Ok-clause-fault : goal.returns-in-Ok-clause-fault
returns-in-Ok-clause-fault c =
    subst (λ x. IfErr c.compile_tree.result (λ fault. Explains fault x)) (tree_is_told c.args.cards.now (seen_program c.in-Ok.tree) c.in-Ok.ensures.tree)
    c.compile_tree.ensures.fault

pub returns-in-Err-clause-fault : goal.returns-in-Err-clause-fault
returns-in-Err-clause-fault c = subst (λ x. Explains c.in-Err.fault x) (sym (compiling_is c.args.cards.now)) c.in-Err.ensures.fault
