use Rattle.std.proofs.Common.{ap, ◌∙◌}
use Rattle.std.specs.Prelude.{◌++◌, option_to_list}
use Rattle.solo_procs.specs.Output.{lines_left}
use Rattle.solo_procs.proofs.OutputSteps.{goes-line}
use Rattle.solo_procs.proofs.output_proc.OutputProc.go_on.Goals as goal

pub returns-in-Some : goal.returns-in-Some
returns-in-Some c =
    goes-line c.args.self.now.pages c.args.self.now.items c.next_line.new.items c.args.self.now.last c.in-Some.line
    (c.next_line.ensures.lines ∙ ap (λ r. option_to_list r ++ lines_left c.next_line.new.items) c.in-Some.is)
