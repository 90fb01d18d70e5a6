use Rattle.std.proofs.Common.{◌≡◌, ap, sym, ◌∙◌, [], Some, true, rules}
use Rattle.pascal_read.specs.ParseWants.{report, program_wants}
use Rattle.pascal_read.proofs.ParseWhole.{one_too_many}
use Rattle.pascal_read.proofs.parser.read_whole.Goals as goal

pub returns-then-not-is_at_end-clause-fault : goal.returns-then-not-is_at_end-clause-fault
returns-then-not-is_at_end-clause-fault c =
    λ line h.
    let words : c.new-reader.result ≡ c.args.tokens.items = search rules in
    let left = λ (e : c.program.new.reader ≡ []).
    let at_end : c.is_at_end.result ≡ true = c.is_at_end.ensures.1 e in
    let none : ⊥ = cc in
    none in
    let at : line ≡ c.line.result = cc in
    ap (λ ts. report ts program_wants) (sym words) ∙ one_too_many c.new-reader.result c.program.new.reader c.in_ok-program.ensures.goes left ∙ ap Some (sym c.line.ensures ∙ sym at)
