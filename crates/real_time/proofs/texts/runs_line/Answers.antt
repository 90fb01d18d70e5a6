use Rattle.std.proofs.Common.{◌≤◌, [], ◌∷◌, ◌++◌, length, length-append, arith}
use Rattle.std.specs.Fmt.{decimal}
use Rattle.std.proofs.lemmas.Fmt.{length-decimal-le}
use Rattle.real_time.proofs.texts.runs_line.Goals as goal

pub append-requires-3-clause-room : goal.append-requires-3-clause-room
append-requires-3-clause-room c =
    let short : length (decimal c.args.runs) ≤ 10 = length-decimal-le 10 c.args.runs (omega arith) (omega arith) (omega arith) in
    let sum = length-append (c.name.result.now ++ 58 ∷ 32 ∷ []) (decimal c.args.runs) in
    let front = length-append c.name.result.now (58 ∷ 32 ∷ []) in
    let name = c.name.ensures.short in
    rw (c.append_number.ensures, c.append-2.ensures, c.append.ensures, c.new-line.ensures) (omega (arith, short, sum, front, name))
