use Rattle.std.proofs.Common.{refl, ap, []}
use Rattle.disk_layout.specs.Files.{files as file_map}
use Rattle.solo_commands.specs.declared.command.Command.TheVariants as command
use Rattle.solo_task.specs.Copying.{copies}
use Rattle.solo_task.specs.Compiles.{compiles}
use Rattle.solo_task.specs.Doing.{does, deletes, renames, protects}
use Rattle.session_work.proofs.Answering.{same-work}
use Rattle.session_work.proofs.session.Session.command.Goals as goal

pub returns-in-Copy-clause-worked : goal.returns-in-Copy-clause-worked
returns-in-Copy-clause-worked g c =
    same-work 0 [] (λ all. does c.args.command.now all) (λ all. copies all c.in-Copy.from c.in-Copy.to) (g.A.Area.pages c.args.files.now.area) (g.A.Area.pages c.args.files.now.area) c.copy.result c.copy.new.self
    (g.A.Area.pages c.copy.new.files.area) refl (λ told here. ap (λ k. does k (file_map told)) c.in-Copy.is) c.copy.ensures.worked

pub returns-in-Compile-clause-worked : goal.returns-in-Compile-clause-worked
returns-in-Compile-clause-worked g c =
    same-work 0 [] (λ all. does c.args.command.now all) (λ all. compiles all c.in-Compile.from c.in-Compile.to) (g.A.Area.pages c.args.files.now.area) (g.A.Area.pages c.args.files.now.area) c.answer.result c.answer.new.self
    (g.A.Area.pages c.compile_file-answer.new.files.area) refl (λ told here. ap (λ k. does k (file_map told)) c.in-Compile.is)
    (c.answer.ensures.worked (g.A.Area.pages c.args.files.now.area) (g.A.Area.pages c.compile_file-answer.new.files.area) (λ all. compiles all c.in-Compile.from c.in-Compile.to) 0 [] c.requires.paper
    (λ told here. c.compile_file-answer.ensures.told told here))

pub returns-in-List-clause-worked : goal.returns-in-List-clause-worked
returns-in-List-clause-worked g c =
    same-work 0 [] (λ all. does c.args.command.now all) (λ all. does command.List all) (g.A.Area.pages c.args.files.now.area) (g.A.Area.pages c.args.files.now.area) c.list.result c.list.new.self
    (g.A.Area.pages c.list.new.files.area) refl (λ told here. ap (λ k. does k (file_map told)) c.in-List.is) c.list.ensures.worked

pub returns-in-Delete-clause-worked : goal.returns-in-Delete-clause-worked
returns-in-Delete-clause-worked g c =
    same-work 0 [] (λ all. does c.args.command.now all) (λ all. deletes all c.in-Delete.name) (g.A.Area.pages c.args.files.now.area) (g.A.Area.pages c.args.files.now.area) c.answer-in-Delete.result c.answer-in-Delete.new.self
    (g.A.Area.pages c.delete-answer.new.files.area) refl (λ told here. ap (λ k. does k (file_map told)) c.in-Delete.is)
    (c.answer-in-Delete.ensures.worked (g.A.Area.pages c.args.files.now.area) (g.A.Area.pages c.delete-answer.new.files.area) (λ all. deletes all c.in-Delete.name) 0 [] c.requires.paper
    (λ told here. c.delete-answer.ensures.told told here))

pub returns-in-Rename-clause-worked : goal.returns-in-Rename-clause-worked
returns-in-Rename-clause-worked g c =
    same-work 0 [] (λ all. does c.args.command.now all) (λ all. renames all c.in-Rename.old c.in-Rename.new) (g.A.Area.pages c.args.files.now.area) (g.A.Area.pages c.args.files.now.area) c.answer-in-Rename.result c.answer-in-Rename.new.self
    (g.A.Area.pages c.rename-answer.new.files.area) refl (λ told here. ap (λ k. does k (file_map told)) c.in-Rename.is)
    (c.answer-in-Rename.ensures.worked (g.A.Area.pages c.args.files.now.area) (g.A.Area.pages c.rename-answer.new.files.area) (λ all. renames all c.in-Rename.old c.in-Rename.new) 0 [] c.requires.paper
    (λ told here. c.rename-answer.ensures.told told here))

pub returns-in-Protect-clause-worked : goal.returns-in-Protect-clause-worked
returns-in-Protect-clause-worked g c =
    same-work 0 [] (λ all. does c.args.command.now all) (λ all. protects all c.in-Protect.name c.in-Protect.on) (g.A.Area.pages c.args.files.now.area) (g.A.Area.pages c.args.files.now.area) c.answer-in-Protect.result c.answer-in-Protect.new.self
    (g.A.Area.pages c.protect-answer.new.files.area) refl (λ told here. ap (λ k. does k (file_map told)) c.in-Protect.is)
    (c.answer-in-Protect.ensures.worked (g.A.Area.pages c.args.files.now.area) (g.A.Area.pages c.protect-answer.new.files.area) (λ all. protects all c.in-Protect.name c.in-Protect.on) 0 [] c.requires.paper
    (λ told here. c.protect-answer.ensures.told told here))

pub returns-in-Program-clause-worked : goal.returns-in-Program-clause-worked
returns-in-Program-clause-worked g c =
    same-work 0 [] (λ all. does c.args.command.now all) (λ all. does (command.Program c.in-Program.name c.in-Program.args) all) (g.A.Area.pages c.args.files.now.area) (g.A.Area.pages c.args.files.now.area) c.run.result c.run.new.self
    (g.A.Area.pages c.run.new.files.area) refl (λ told here. ap (λ k. does k (file_map told)) c.in-Program.is) c.run.ensures.worked
