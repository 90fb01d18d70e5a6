use Rattle.std.proofs.Common.{arith}
use Rattle.pascal_mean.specs.Batch.{with_characters}
use Rattle.file_commands.proofs.Printed.{character-added, characters-added}
use Rattle.file_commands.proofs.texts.add_text.Goals as goal

pub printing-preserved : goal.printing-preserved
printing-preserved c =
    character-added c.args.text.now c.printing.code-index _ c.printing.lines c.add_character.new.lines c.printing.line c.add_character.new.line
    (with_characters (record { lines = c.args.lines.now; line = c.args.line.now }) c.args.text.now)
    (omega (arith, c.printing-test.true)) c.in_ok-add_character.ensures c.printing.invariant

pub returns : goal.returns
returns c =
    characters-added c.args.text.now c.printing.code-index c.printing.lines c.printing.line
    (with_characters (record { lines = c.args.lines.now; line = c.args.line.now }) c.args.text.now) c.printing-test.false c.printing.invariant
