use Rattle.std.proofs.Common.{rules}
use Rattle.stack_machine.proofs.Histories.{stands_empty}
use Rattle.stack_machine.proofs.Onward.{begins_empty}
use Rattle.stack_machine.proofs.machine.Machine.make.Goals as goal

pub invariant_of-result : goal.invariant_of-result
invariant_of-result c = (
  begins_empty c.args.code c.args.limit c.in_ok-new-2.field-0.waiting c.begin.new.self.words c.in_ok-new.field-0.words c.routine_at.ensures.code c.routine_at.ensures.good (search rules) (search rules) (search rules),
  search rules,
)

pub returns-clause-history : goal.returns-clause-history
returns-clause-history c = stands_empty c.args.code c.args.limit c.in_ok-new-2.field-0.waiting c.begin.new.self.words c.in_ok-new.field-0.words (search rules) (search rules) (search rules)

pub returns-clause-well : goal.returns-clause-well
returns-clause-well c = begins_empty c.args.code c.args.limit c.in_ok-new-2.field-0.waiting c.begin.new.self.words c.in_ok-new.field-0.words c.routine_at.ensures.code c.routine_at.ensures.good (search rules) (search rules) (search rules)
