-- What the job process keeps in the middle of a step.
use Rattle.std.specs.Prelude.{◌≡◌, ℕ, List, None}
use Rattle.solo_law.specs.JobPlaces.{Behind}
use Rattle.solo_procs.specs.declared.job_proc.JobProc.{JobProc}
use Rattle.solo_procs.specs.Commands.{Kind, AtLine}
use Rattle.solo_procs.specs.Job.{KeepsBehind, answers_left, has_put, pages_then, kind_then}

-- These lines are to answer the command, which has ended.
pub record IsAnswering {C : Type 0} (awaits : C → ℕ → Kind → Type 0) (j : JobProc C)
    (lines : List (List ℕ)) : Type 0 where
  pub left : answers_left j ≡ lines
  pub unmet : j.met ≡ None
  pub taken : j.pages ≡ 0
  pub awaited : awaits j.commands 0 AtLine

-- A page of the command is put, which has put so many.
pub record IsPutting {C : Type 0} (awaits : C → ℕ → Kind → Type 0) (j : JobProc C) (behind : Behind)
    (pages : ℕ) : Type 0 where
  pub holds : KeepsBehind j behind
  pub prints : j.prints ≡ has_put pages
  pub unmet : j.met ≡ None
  pub taken : j.pages ≡ 0
  pub awaited : awaits j.commands (pages_then behind pages) (kind_then behind)
