use Rattle.program_run.proofs.Beginning.{begun_way}
use Rattle.program_run.proofs.program_run.ProgramRun.of_code.Goals as goal

pub returns-in-Ok-clause-under_way : goal.returns-in-Ok-clause-under_way
returns-in-Ok-clause-under_way c =
    begun_way c.args.name c.args.args c.args.code c.push.new.self c.new-programs.result c.new.result c.in-Ok.ensures.pushed c.new-programs.ensures c.in-Ok.ensures.well
