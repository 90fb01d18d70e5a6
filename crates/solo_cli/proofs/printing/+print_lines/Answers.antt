use Rattle.std.proofs.Common.{◌≡◌, ◌≤◌, ℕ, ◌-◌, List, [], ◌∷◌, length, take, drop, get_or, refl, sym, subst, arith}
use Rattle.std.specs.Prelude.{IsOk}
use Rattle.std.specs.Result.{IsErr}
use Rattle.std.specs.declared.result.Result.{Result}
use Rattle.std.specs.declared.result.Result.TheVariants.{Ok, Err}
use Rattle.std.proofs.lemmas.List.{take_all}
use Rattle.solo_base.specs.Text.{text}
use Rattle.solo_devices.specs.PrinterUnit.{Gains}
use Rattle.solo_cli.proofs.MoreLines.{then_others, first_alone}
use Rattle.solo_cli.proofs.printing.+print_lines.Goals as goal

parts : (lines : List (List ℕ)) (line : List ℕ) → 1 ≤ length lines → line ≡ get_or lines 0 line → line ∷ take (length lines - 1) (drop 1 lines) ≡ lines
parts [] line some is = absurd (omega (arith, some))
parts (first ∷ others) line some is =
    let all : take (length (first ∷ others) - 1) others ≡ others = take_all (length (first ∷ others) - 1) others (omega arith) in
    rw (is, all) refl

not-both : {A B : Type 0} (answer : Result A B) → IsErr answer → IsOk answer → ⊥
not-both (Ok value) failed done = cc
not-both (Err fault) failed done = cc

pub returns-in_err-print-in-len1-up-clause-lines :
    goal.returns-in_err-print-in-len1-up-clause-lines
returns-in_err-print-in-len1-up-clause-lines g t c =
    let line = c.line-item.result in
    let later = take (length c.args.lines.now - 1) (drop 1 c.args.lines.now) in
    subst (λ lines. Gains (g.K.Sink.given c.args.unit.now.sink) (g.K.Sink.given c.print.new.self.sink) (text lines) (IsOk c.from_residual.result))
    (parts c.args.lines.now line c.in-len1-up.len_at_least c.line-item.is)
    (first_alone (g.K.Sink.given c.args.unit.now.sink) (g.K.Sink.given c.print.new.self.sink) line later (IsOk c.print.result)
    (IsOk c.from_residual.result) (not-both c.from_residual.result c.from_residual.ensures.0) c.print.ensures.line)

pub returns-in_ok-print-in-len1-up-clause-lines : goal.returns-in_ok-print-in-len1-up-clause-lines
returns-in_ok-print-in-len1-up-clause-lines g t c =
    let line = c.line-item.result in
    let later = take (length c.args.lines.now - 1) (drop 1 c.args.lines.now) in
    subst (λ lines. Gains (g.K.Sink.given c.args.unit.now.sink) (g.K.Sink.given c.print_lines.new.unit.sink) (text lines) (IsOk c.print_lines.result))
    (parts c.args.lines.now line c.in-len1-up.len_at_least c.line-item.is)
    (then_others (g.K.Sink.given c.args.unit.now.sink) (g.K.Sink.given c.print.new.self.sink) (g.K.Sink.given c.print_lines.new.unit.sink) line later
    (IsOk c.print.result) (IsOk c.print_lines.result) (subst IsOk (sym c.in_ok-print-in-len1-up.was) refl) c.print.ensures.line
    c.print_lines.ensures.lines)
