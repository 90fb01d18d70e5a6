-- The files that a process loaded, and what as.
use Rattle.std.specs.Prelude.{◌≡◌, ℕ, List, [], ◌∷◌, ◌++◌, map}
use Rattle.batch_procs.specs.Jobs.{FilesAs}
use Rattle.batch_procs.specs.declared.actions.Action.TheVariants as act
use Rattle.batch_procs.specs.declared.actions.Reply.TheVariants as reply
use Rattle.batch_procs.specs.Parcels.{loads}
use Rattle.batch_procs.specs.History.{Entry, Does, taken}

-- the file that an entry loaded; a load that failed loaded none
abbrev pub file_loaded : {L : Type 0} → Entry L → List (List ℕ)
file_loaded (Does (act.Load file) (reply.Loaded load)) = file ∷ []
file_loaded entry = []

-- all that it loaded, the first of all first
abbrev pub files_loaded : {L : Type 0} → List (Entry L) → List (List ℕ)
files_loaded [] = []
files_loaded (entry ∷ before) = files_loaded before ++ file_loaded entry

-- Each of them was loaded as these files say.
abbrev pub AreLoadedSo : {L : Type 0} → FilesAs L → List (Entry L) → Type 0
AreLoadedSo found h = loads (taken h) ≡ map found (files_loaded h)
