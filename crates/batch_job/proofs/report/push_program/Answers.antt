use Rattle.std.proofs.Common.{◌++◌, refl, ap, sym, ◌∙◌}
use Rattle.code_law.specs.Compiling.{compiling}
use Rattle.program_lines.specs.Task.{source_of, new_task}
use Rattle.program_lines.proofs.Going.{all-cards}
use Rattle.batch_job.specs.LinesSoFar.{fault_so_far}
use Rattle.batch_job.proofs.RunLines.{on-ok, run-whole}
use Rattle.batch_job.proofs.report.push_program.Goals as goal

pub returns : goal.returns
returns c =
    let name = c.args.name.now in
    let source = source_of name (compiling c.args.program.now) in
    let ran = c.in_ok-push_run.ensures (new_task name c.args.limit source) c.in_ok-started.ensures refl in
    let all = ran ∙ ap (λ ls. c.args.lines.now ++ ls) (all-cards name c.args.limit source c.args.input.now) in
    on-ok c.push_fault-2.result _ _ (λ e. e ∙ ap (λ ls. ls ++ fault_so_far name c.args.fault) all
    ∙ run-whole name c.args.limit source c.args.input.now c.args.lines.now c.args.fault (sym c.is_run.ensures ∙ c.if-not-is_run.false)) c.push_fault-2.ensures
