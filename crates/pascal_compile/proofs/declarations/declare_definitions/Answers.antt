use Rattle.std.proofs.Common.{◌∷◌, ◌+◌, ◌∙◌, drop, sym, subst, arith}
use Rattle.std.proofs.Math.ListN.{drop_of_length-le}
use Rattle.pascal_mean.specs.Declarations.{constant_item, declared_definitions}
use Rattle.pascal_compile.specs.Holds.{LaidOut}
use Rattle.pascal_compile.proofs.Turns.{next_item}
use Rattle.pascal_compile.proofs.Frames.{nothing_laid, laid_then}
use Rattle.pascal_compile.proofs.declarations.declare_definitions.Goals as goal

pub loop-definition-preserved : goal.loop-definition-preserved
loop-definition-preserved c =
    let ds = c.args.definitions.now in
    let i = c.loop-definition.definition-index in
    let d = c.definition-item.result in
    let a = c.loop-definition.frame in
    let b = c.declare_constant.new.frame in
    let p = c.args.program.now in
    record {
      left = λ after later.
          c.loop-definition.invariant.left after
          (subst (λ es. LaidOut p a after (λ scope. declared_definitions scope es)) (sym (next_item ds i d c.definition-item.is c.loop-definition-test.true))
          (laid_then p a b after (λ scope items. constant_item (scope items) d ∷ items) (λ scope. declared_definitions scope (drop (i + 1) ds))
          c.in_ok-declare_constant.ensures.constant later));
      owner = c.in_ok-declare_constant.ensures.owner ∙ c.loop-definition.invariant.owner;
    }

pub returns-clause-definitions : goal.returns-clause-definitions
returns-clause-definitions c =
    let a = c.loop-definition.frame in
    c.loop-definition.invariant.left a
    (subst (λ es. LaidOut c.args.program.now a a (λ scope. declared_definitions scope es)) (sym (drop_of_length-le c.args.definitions.now (omega arith)))
    (nothing_laid c.args.program.now a))
