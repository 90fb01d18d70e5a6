-- What became of the files in the course of a history.
use Rattle.std.specs.Prelude.{◌≡◌, ◌≤◌, ℕ, List, [], ◌∷◌, Option, None, Some}
use Rattle.solo_devices.specs.Count.{Rose}
use Rattle.batch_procs.specs.declared.actions.Action.TheVariants as act
use Rattle.batch_procs.specs.declared.actions.Reply.{Reply}
use Rattle.batch_procs.specs.declared.actions.Reply.TheVariants as reply
use Rattle.batch_procs.specs.History.{Entry, Does, LacksMemory, Delays}
use Rattle.batch_procs.specs.Causes.{caused}
use Rattle.batch_procs.specs.Jobs.{FilesAs}

-- What loads the files: what it says each is loaded as, the pages that it loads from, where it tells them,
-- how often a load failed, and whether it may load.
pub record FileTells (L F : Type 0) : Type 1 where
  pub found : F → Option (FilesAs L)
  pub pages : F → Option (List (List ℕ))
  pub faults : F → ℕ
  pub IsSound : F → Type 0

abbrev pub loading : {L F : Type 0} → (F → Option (FilesAs L)) → (F → Option (List (List ℕ))) → (F → ℕ)
    → (F → Type 0) → FileTells L F
loading found pages faults IsSound =
    record { found = found; pages = pages; faults = faults; IsSound = IsSound }

-- each file that was loaded was loaded as these say
abbrev pub AreLoadedAs : {L : Type 0} → FilesAs L → List (Entry L) → Type 0
AreLoadedAs found [] = Unit {0}
AreLoadedAs found (Does (act.Load file) (reply.Loaded load) ∷ h) = (load ≡ found file) × AreLoadedAs found h
AreLoadedAs found (Does action r ∷ h) = AreLoadedAs found h
AreLoadedAs found (LacksMemory action r ∷ h) = AreLoadedAs found h
AreLoadedAs found (Delays action ∷ h) = AreLoadedAs found h

-- the answer to the newest load, if there was one
abbrev pub newest_load : {L : Type 0} → List (Entry L) → Option (Reply L)
newest_load [] = None
newest_load (Does (act.Load file) r ∷ h) = Some r
newest_load (Does action r ∷ h) = newest_load h
newest_load (LacksMemory action r ∷ h) = newest_load h
newest_load (Delays action ∷ h) = newest_load h

-- By what they were at first: no page changed, and told files were loaded as they stand there. A failure was
-- counted.
pub record FilesRan {L F : Type 0} (files : FileTells L F) (start now : F) (h : List (Entry L)) : Type 0 where
  pub stay : files.pages now ≡ files.pages start
  pub found_stay : files.found now ≡ files.found start
  pub loads : (found : FilesAs L) → files.found start ≡ Some found → AreLoadedAs found h
  pub counts : files.faults start ≤ files.faults now
  pub failed : newest_load h ≡ Some reply.Failed → Rose (files.faults start) (files.faults now)
  pub sound : caused h ≡ None → files.IsSound now
