use Rattle.std.proofs.Common.{◌-◌, length, ◌∙◌}
use Rattle.program_run.proofs.Fitting.{fits_whole, goes_over, first_prints, rest_prints}
use Rattle.program_run.proofs.printing.print_all.Goals as goal

pub returns-then-codes-room : goal.returns-then-codes-room
returns-then-codes-room c =
    fits_whole c.args.line.now c.args.codes.now c.bytes.result.now c.bytes-codes.result.now c.append.new.self
    c.bytes.ensures.bytes c.bytes-codes.ensures.bytes c.bytes.ensures.line c.bytes-codes.ensures.line c.if-codes-room.true c.append.ensures

pub append-requires-2-clause-printable : goal.append-requires-2-clause-printable
append-requires-2-clause-printable c =
    first_prints c.args.codes.now c.bytes-codes.result.now (132 - length c.bytes.result.now) c.bytes-codes.ensures.bytes c.bytes-codes.ensures.line

pub append-requires-3-clause-printable : goal.append-requires-3-clause-printable
append-requires-3-clause-printable c =
    rest_prints c.args.codes.now c.bytes-codes.result.now (132 - length c.bytes.result.now) _ c.bytes-codes.ensures.bytes c.bytes-codes.ensures.line

pub returns : goal.returns
returns c =
    goes_over c.args.line.now c.args.codes.now c.bytes.result.now c.bytes-codes.result.now c.replace-full.result c.replace-full.new.dest c.append-3.new.self
    c.bytes.ensures.bytes c.bytes-codes.ensures.bytes c.bytes.ensures.line c.bytes-codes.ensures.line c.if-codes-room.false
    (c.replace-full.ensures.value ∙ c.append-2.ensures) (c.replace-full.ensures.after ∙ c.new.ensures) c.append-3.ensures
