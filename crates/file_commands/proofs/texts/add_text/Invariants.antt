use Rattle.std.proofs.Common.{◌≡◌, drop}
use Rattle.pascal_mean.specs.Batch.{with_characters}
use Rattle.file_commands.proofs.texts.add_text.Given as goal

abbrev pub invariant-printing : goal.invariant-printing
invariant-printing l =
    with_characters (record { lines = l.lines; line = l.line }) (drop l.code-index l.text)
    ≡ with_characters (record { lines = l.initial.lines; line = l.initial.line }) l.text
