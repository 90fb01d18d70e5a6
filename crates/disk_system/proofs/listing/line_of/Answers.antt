use Rattle.std.proofs.Common.{length-append, arith}
use Rattle.disk_system.proofs.Lines.{few_digits}
use Rattle.disk_system.proofs.listing.line_of.Goals as goal

pub append-requires-clause-room : goal.append-requires-clause-room
append-requires-clause-room c =
    rw (c.append_number.ensures, length-append) (omega (arith, c.line_front-line.ensures.short, few_digits c.args.pages (omega arith)))

pub append-requires-then-protected-clause-room : goal.append-requires-then-protected-clause-room
append-requires-then-protected-clause-room c =
    rw (c.append.ensures, length-append, c.append_number.ensures, length-append)
    (omega (arith, c.line_front-line.ensures.short, few_digits c.args.pages (omega arith)))
