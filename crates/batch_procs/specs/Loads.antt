-- What a load of a job's file answers.
use Rattle.std.specs.Prelude.{◌≡◌, ℕ, List, Option, Some}
use Rattle.batch_procs.specs.declared.actions.Reply.{Reply}
use Rattle.batch_procs.specs.declared.actions.Reply.TheVariants as reply
use Rattle.batch_procs.specs.Jobs.{Jobs, FilesAs}

-- A load gives what a file may be loaded as: what this file is, where that is told. It may fail, and it may
-- be refused memory.
abbrev pub AnswersLoad : {L : Type 0} → Jobs L → Option (FilesAs L) → List ℕ → Reply L → Type 0
AnswersLoad {L} J found file (reply.Loaded load) =
    J.IsLoad load × ((files : FilesAs L) → found ≡ Some files → load ≡ files file)
AnswersLoad J found file reply.Failed = Unit {0}
AnswersLoad J found file reply.NoMemory = Unit {0}
AnswersLoad J found file other = ⊥
