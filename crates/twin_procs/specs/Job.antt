-- Which place of the law a job process stands at.
use Rattle.std.specs.Prelude.{◌≡◌, ◌+◌, ℕ, Bool, true, false, List, [], ◌∷◌, length, Option, None}
use Rattle.solo_base.specs.declared.outcome.Outcome.{Outcome}
use Rattle.solo_base.specs.declared.page.Page.{Page}
use Rattle.batch_procs.specs.Jobs.{Jobs}
use Rattle.batch_procs.specs.JobTold.{JobTold}
use Rattle.place_law.specs.Process.{fault_in}
use Rattle.twin_law.specs.Input.{last_of}
use Rattle.twin_law.specs.Job.{Stream, JobPlace, TakesItems, LoadsFile, Toils, PutsLines, PutsLastLines, HasWorked, wanted, behind_page, page_taken, damage}
use Rattle.twin_law.specs.Output.{is_some}
use Rattle.twin_procs.specs.declared.job_proc.JobAt.TheVariants as here
use Rattle.twin_procs.specs.declared.job_proc.JobProc.{JobProc}
use Rattle.twin_procs.specs.Hands.{place_after}

-- what the work on its jobs was told of a stream, with the lines that were pushed, which are all so far or
-- aren't
abbrev pub told_of : {L : Type 0} → Stream L → Bool → List (List ℕ) → Bool → JobTold L
told_of s last pushed rests = record {
  items = s.items;
  ended = last;
  loads = s.loads;
  pushed = pushed;
  rests = rests;
}

-- It works on this stream, whose last page was taken or wasn't; the lines so far are all pushed, or aren't. A
-- stream whose last page is worked on had an item.
pub record WorksOn {L X S : Type 0} (keeps : X → JobTold L → Type 0) (j : JobProc X S) (s : Stream L)
    (last rests : Bool) : Type 0 where
  pub pushed : List (List ℕ)
  pub count : s.packed ≡ length pushed
  pub told : keeps j.jobs (told_of s last pushed rests)
  pub pages : j.pages ≡ place_after last s.pages
  pub hand : j.packer ≡ s.hand
  pub last_is : j.last ≡ last
  pub some_is : j.some ≡ is_some s.items
  pub some_at : last ≡ true → j.some ≡ true

abbrev pub job_stands : {L X S : Type 0} → Jobs L → (X → JobTold L → Type 0) → JobProc X S → JobPlace L
    → Type 0
job_stands J keeps j (TakesItems s) = (j.place ≡ here.TakesItems) × WorksOn keeps j s false true
job_stands J keeps j (LoadsFile file s last) =
    (j.place ≡ here.Toils) × WorksOn keeps j s last false
    × ((later : List (List ℕ)) × (wanted J s ≡ file ∷ later))
job_stands J keeps j (Toils s last) =
    (j.place ≡ here.Toils) × WorksOn keeps j s last false × (wanted J s ≡ [])
job_stands J keeps j (PutsLines page s last) =
    (j.place ≡ here.PutsLines page) × WorksOn keeps j s last false × (wanted J s ≡ [])
job_stands J keeps j (PutsLastLines page some) = (j.place ≡ here.PutsLastLines page) × (j.some ≡ some)
job_stands J keeps j HasWorked = j.place ≡ here.HasWorked

-- ---- in the middle of a step
-- A page gives the cause that is found in it, and without one it is at the place behind it.
abbrev pub TakesPage : {L : Type 0} → Jobs L → (JobPlace L → Type 0) → Stream L → Page → Bool
    → Option Outcome
    → Type 0
TakesPage J now s page last cause =
    (cause ≡ fault_in (damage (page_taken s page last)))
    × (cause ≡ None → now (behind_page J s (page_taken s page last)))

-- The next page of its stream was taken, and its items aren't fed yet.
pub record HasPage {L X S : Type 0} (keeps : X → JobTold L → Type 0) (j : JobProc X S) (s : Stream L)
    (last : Bool) : Type 0 where
  pub pushed : List (List ℕ)
  pub count : s.packed ≡ length pushed
  pub told : keeps j.jobs (told_of s false pushed true)
  pub pages : j.pages ≡ place_after last (s.pages + 1)
  pub hand : j.packer ≡ s.hand
  pub some_is : j.some ≡ is_some s.items

-- The page in hand is put as the last.
pub record FinishesLines {X S : Type 0} (old new : JobProc X S) : Type 0 where
  pub place : new.place ≡ here.PutsLastLines (last_of old.packer)
  pub some : new.some ≡ old.some
