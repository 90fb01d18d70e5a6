use Rattle.std.proofs.Common.{◌≡◌, None, Some, sym, ◌∙◌, subst}
use Rattle.solo_base.specs.Text.{text}
use Rattle.run_report.specs.Told.{sink_told}
use Rattle.solo_cli.specs.Printing.{PrintsBytes}
use Rattle.solo_cli.proofs.make.print_numbers.Goals as goal

same_Some : {A : Type 0} {a b : A} → Some a ≡ Some b → a ≡ b
same_Some same = cc

pub returns-in-Some-clause-prints : goal.returns-in-Some-clause-prints
returns-in-Some-clause-prints g c = λ none. absurd (let some : Some c.in-Some.cause ≡ None = sym c.in-Some.is ∙ none in cc)

pub returns-in-Some-clause-known : goal.returns-in-Some-clause-known
returns-in-Some-clause-known g c = λ none. absurd (let some : Some c.in-Some.cause ≡ None = sym c.in-Some.is ∙ none in cc)

pub returns-in-Some-clause-failed : goal.returns-in-Some-clause-failed
returns-in-Some-clause-failed g c = λ none. absurd (let some : Some c.in-Some.cause ≡ None = sym c.in-Some.is ∙ none in cc)

pub returns-in-None-clause-prints : goal.returns-in-None-clause-prints
returns-in-None-clause-prints g c = λ none lines are is.
    subst (λ lines. PrintsBytes (sink_told g.K.Sink c.args.paper) (sink_told g.K.Sink c.print_all.result.1) (text lines) c.print_all.result.0)
    (c.lines_of-lines.ensures lines are (same_Some (sym c.bytes.ensures ∙ is))) c.print_all.ensures
