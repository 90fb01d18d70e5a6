use Rattle.std.proofs.Common.{◌≡◌, Err, sym, ◌∙◌}
use Rattle.std.proofs.lemmas.Option.{none-some}
use Rattle.stack_code.specs.declared.fault.CodeFault.{CodeFault}
use Rattle.stack_code.specs.declared.fault.CodeFault.TheVariants as fault
use Rattle.pascal_compile.proofs.GoodCode.{good_unbroken}
use Rattle.pascal_compile.proofs.compiler.verified.Goals as goal

pub unreachable-requires : goal.unreachable-requires
unreachable-requires c = by_fault c.in-Err.field-0 c.in-Err.is
  where
    by_fault : (f : CodeFault) → c.verify.result ≡ Err f → ⊥
    by_fault (fault.BadCode at) is = none-some at (sym (good_unbroken c.args.code c.requires) ∙ c.verify.ensures.broken at is)
    by_fault fault.NoMemory is = c.verify.ensures.needs_no_memory is
