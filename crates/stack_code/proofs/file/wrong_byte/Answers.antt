use Rattle.std.proofs.Common.{sym, ◌∙◌, ◌+◌}
use Rattle.stack_code.specs.CodeFile.{is_wrong}
use Rattle.stack_code.proofs.Least.{least_here, least_further, least_nowhere}
use Rattle.stack_code.proofs.file.wrong_byte.Goals as goal

pub returns-then-is_wrong : goal.returns-then-is_wrong
returns-then-is_wrong c =
    sym (least_here (is_wrong c.args.bytes.now) c.loop-place.place (c.file_end-place-end.result + 1) c.loop-place-test.true (sym c.is_wrong.ensures ∙ c.if-is_wrong.true))
    ∙ c.loop-place.invariant

pub loop-place-preserved : goal.loop-place-preserved
loop-place-preserved c =
    sym (least_further (is_wrong c.args.bytes.now) c.loop-place.place (c.file_end-place-end.result + 1) c.loop-place-test.true (sym c.is_wrong.ensures ∙ c.if-is_wrong.false))
    ∙ c.loop-place.invariant

pub returns : goal.returns
returns c =
    sym (least_nowhere (is_wrong c.args.bytes.now) c.loop-place.place (c.file_end-place-end.result + 1) c.loop-place-test.false)
    ∙ c.loop-place.invariant
