use Rattle.std.proofs.Common.{◌≤◌, [], ◌∷◌, length, length-append, arith}
use Rattle.std.specs.Fmt.{decimal}
use Rattle.std.proofs.lemmas.Fmt.{length-decimal-le}
use Rattle.real_time.proofs.texts.start_line.Goals as goal

pub append-requires-clause-room : goal.append-requires-clause-room
append-requires-clause-room c =
    let short : length (decimal c.args.second) ≤ 10 = length-decimal-le 10 c.args.second (omega arith) (omega arith) (omega arith) in
    rw (c.append_number.ensures, c.new-line.ensures) (omega (arith, short))

pub append-requires-2-clause-room : goal.append-requires-2-clause-room
append-requires-2-clause-room c =
    let short : length (decimal c.args.second) ≤ 10 = length-decimal-le 10 c.args.second (omega arith) (omega arith) (omega arith) in
    let sum = length-append (decimal c.args.second) (32 ∷ []) in
    let name = c.name.ensures.short in
    rw (c.append.ensures, c.append_number.ensures, c.new-line.ensures) (omega (arith, short, sum, name))
