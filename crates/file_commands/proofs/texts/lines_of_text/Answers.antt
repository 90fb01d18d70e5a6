use Rattle.file_commands.proofs.Printed.{lines-added}
use Rattle.file_commands.proofs.texts.lines_of_text.Goals as goal

pub returns : goal.returns
returns c =
    lines-added c.args.text.now c.new-lines.result c.add_text.new.lines c.new-line.result c.add_text.new.line c.add_last.result c.new-lines.ensures
    c.new-line.ensures c.in_ok-add_text.ensures c.add_last.ensures
