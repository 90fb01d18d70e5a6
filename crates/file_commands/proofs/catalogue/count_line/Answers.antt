use Rattle.std.proofs.Common.{◌≤◌, length, length-append, arith}
use Rattle.std.specs.Fmt.{decimal}
use Rattle.std.proofs.lemmas.Fmt.{length-decimal-le}
use Rattle.file_commands.proofs.catalogue.count_line.Goals as goal

pub append-requires-2-clause-room : goal.append-requires-2-clause-room
append-requires-2-clause-room c =
    let short : length (decimal c.args.count) ≤ 10 = length-decimal-le 10 c.args.count (omega arith) (omega arith) (omega arith) in
    rw (c.append_number.ensures, c.append.ensures, c.new-line.ensures, length-append) (omega (arith, short))
