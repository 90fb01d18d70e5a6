use Rattle.pascal_evaluate.specs.SeenNames.{seen_declared}
use Rattle.pascal_evaluate.specs.SeenStore.{situation, all_given}
use Rattle.pascal_evaluate.proofs.Opened.{called_one, called_none}
use Rattle.pascal_evaluate.proofs.level.OpenLevel.call.Goals as goal

pub returns-in-Some : goal.returns-in-Some
returns-in-Some g c =
    called_one g.L.Level.free c.args.setting.now c.args.routine (all_given c.args.given.now) (situation c.args.run.now)
    (seen_declared c.in-Some.declared.now) c.opened.result (situation c.opened.new.run) c.in-Some.ensures c.opened.ensures

pub returns-in-None : goal.returns-in-None
returns-in-None g c =
    called_none g.L.Level.free c.args.setting.now c.args.routine (all_given c.args.given.now) (situation c.args.run.now) c.in-None.ensures
