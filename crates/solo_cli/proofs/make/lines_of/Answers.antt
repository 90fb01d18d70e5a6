use Rattle.std.proofs.Common.{◌≡◌, ◌-◌, ◌==◌, ◌+◌, length, refl, ◌∙◌, ap, arith}
use Rattle.std.specs.Prelude.{count_by}
use Rattle.solo_cli.specs.DeckNumbers.{characters_of}
use Rattle.solo_cli.proofs.TextNumbers.{ends_of, length_of}
use Rattle.solo_cli.proofs.make.lines_of.Goals as goal

pub returns : goal.returns
returns c = λ lines are is.
    let ends : c.line_count-lines.result ≡ length lines
    = c.line_count-lines.ensures ∙ ap (λ bytes. count_by (λ code. code == 10) bytes) is ∙ ends_of lines are in
    let long : length c.args.printed.now ≡ characters_of lines + length lines = ap length is ∙ length_of lines in
    let others : length c.args.printed.now - c.line_count-lines.result ≡ characters_of lines = omega (arith, ends, long) in
    rw (c.number_line.ensures, c.number_line-2.ensures, c.number_line-3.ensures, c.number_line-4.ensures, c.counts_line.ensures, others, ends) refl
