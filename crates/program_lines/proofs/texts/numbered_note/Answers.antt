use Rattle.std.proofs.Common.{◌≤◌, length, length-append, arith}
use Rattle.std.specs.Fmt.{decimal}
use Rattle.std.proofs.lemmas.Fmt.{length-decimal-le}
use Rattle.program_lines.proofs.texts.numbered_note.Goals as goal

pub returns-clause-short : goal.returns-clause-short
returns-clause-short c =
    let short : length (decimal c.args.number) ≤ 10 = length-decimal-le 10 c.args.number (omega arith) (omega arith) (omega arith) in
    rw (c.append_number.ensures, length-append) (omega (arith, c.note-line.ensures.short, short))
