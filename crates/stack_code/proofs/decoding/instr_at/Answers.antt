-- An operation has the number.
use Rattle.std.proofs.Common.{sym, ◌∙◌, ap}
use Rattle.std.specs.Prelude.{is_some}
use Rattle.std.proofs.lemmas.Bool.{false≢true}
use Rattle.stack_code.specs.Table.{op_at}
use Rattle.stack_code.proofs.decoding.instr_at.Goals as goal

pub unreachable-requires : goal.unreachable-requires
unreachable-requires c = false≢true
    (ap is_some (sym c.in-None.is ∙ c.at.ensures ∙ ap op_at c.byte_at.ensures) ∙ c.requires.number)
