use Rattle.std.proofs.Common.{◌≡◌, drop}
use Rattle.pascal_mean.specs.Batch.{Printed, with_characters}
use Rattle.pascal_mean.proofs.output.Output.push_all.Given as goal

abbrev pub invariant-loop-code : goal.invariant-loop-code
invariant-loop-code l =
    let now : Printed = record { lines = l.self.lines; line = l.self.line } in
    let before : Printed = record { lines = l.fn.self.lines; line = l.fn.self.line } in
    with_characters now (drop l.code-index l.codes) ≡ with_characters before l.codes
