use Rattle.std.proofs.Common.{◌≤◌, length, arith, refl}
use Rattle.std.specs.Fmt.{decimal}
use Rattle.std.proofs.lemmas.Fmt.{length-decimal-le}
use Rattle.batch_job.proofs.report.skipped_line.Goals as goal

pub append-requires-clause-room : goal.append-requires-clause-room
append-requires-clause-room c =
    let short : length (decimal c.args.count) ≤ 10 = length-decimal-le 10 c.args.count (omega arith) (omega arith) (omega arith) in
    rw (c.append_number.ensures, c.new-line.ensures) (omega arith)

pub returns : goal.returns
returns c = rw (c.append.ensures, c.append_number.ensures, c.new-line.ensures) refl
