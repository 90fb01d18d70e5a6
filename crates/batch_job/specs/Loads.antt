-- The files that the jobs of a deck name, and what these are loaded as, one after the other.
use Rattle.std.specs.Prelude.{◌≡◌, ◌≤◌, ℕ, Bool, false, List, [], ◌∷◌, ◌++◌, length, map, Option, Some, None}
use Rattle.std.specs.List.{AllByRecursion}
use Rattle.solo_base.specs.declared.item.Item.{Item}
use Rattle.deck_format.specs.declared.control.Opener.{Opener}
use Rattle.deck_format.specs.declared.control.Opener.TheVariants as opener
use Rattle.deck_format.specs.Jobs.{opener_of}
use Rattle.stack_code.specs.CodeLists.{IsCode}
use Rattle.stack_code.specs.Rules.{IsGood}
use Rattle.disk_layout.specs.Files.{Files}
use Rattle.disk_contents.specs.Loading.{program_of}
use Rattle.disk_contents.specs.declared.loading.Loaded.{Loaded}
use Rattle.disk_contents.specs.declared.loading.Loaded.TheVariants.{Code, NoFile, NotCode, BadCode}
use Rattle.batch_job.specs.Report.{Loads}

-- ---- The files that are named

-- the file that an opener names, if it does
abbrev pub file_named : Option Opener → List (List ℕ)
file_named None = []
file_named (Some (opener.List name)) = []
file_named (Some (opener.Job name limit)) = []
file_named (Some (opener.Run name file)) = file ∷ []

-- those that the items name, in order
abbrev pub files_named : List Item → List (List ℕ)
files_named [] = []
files_named (item ∷ rest) = file_named (opener_of item) ++ files_named rest

-- what these are loaded as, where each is loaded as the files say
abbrev pub loads_of : Loads → List Item → List Loaded
loads_of files items = map files (files_named items)

-- More items name more files.
abbrev pub FilesGoOn : Type 0
FilesGoOn = (items more : List Item) → files_named (items ++ more) ≡ files_named items ++ files_named more

-- An item names one file at most.
abbrev pub FewFiles : Type 0
FewFiles = (items : List Item) → length (files_named items) ≤ length items

-- the file that is wanted first
abbrev pub first_of : List (List ℕ) → Option (List ℕ)
first_of [] = None
first_of (file ∷ later) = Some file

-- ---- What they are loaded as

-- what the files of a page were loaded as, and those that are still wanted
pub record Loading : Type 0 where
  pub given : List Loaded
  pub wanted : List (List ℕ)

-- code that was loaded keeps the rules of code
abbrev pub IsLoaded : Loaded → Type 0
IsLoaded (Code code) = IsCode code × IsGood code
IsLoaded NoFile = Unit {0}
IsLoaded NotCode = Unit {0}
IsLoaded (BadCode at) = Unit {0}

abbrev pub AreLoaded : List Loaded → Type 0
AreLoaded loads = AllByRecursion IsLoaded loads

-- What stands in files is loaded so, whatever they are.
abbrev pub FilesAreGood : Type 0
FilesAreGood = (all : Files) (file : List ℕ) → IsLoaded (program_of all file)

-- ---- The groups that have begun

-- a group with what its file was loaded as, if it is one of a file
pub record Begun : Type 0 where
  pub load : Loaded
  pub opener : Opener
  pub items : List Item

-- the load of a group, and those left for the groups behind it; none where its file isn't loaded yet
abbrev pub load_for : Opener → List Loaded → Option (Loaded × List Loaded)
load_for (opener.List name) loads = Some (NoFile, loads)
load_for (opener.Job name limit) loads = Some (NoFile, loads)
load_for (opener.Run name file) [] = None
load_for (opener.Run name file) (load ∷ later) = Some (load, later)

-- the groups up to the first whose file isn't loaded yet, and whether the deck has ended behind them
pub record Deck : Type 0 where
  pub groups : List Begun
  pub ended : Bool

abbrev pub with_group : Begun → Deck → Deck
with_group group behind = record { groups = group ∷ behind.groups; ended = behind.ended }

abbrev pub begin_by : Option (Loaded × List Loaded) → Opener → List Item → (List Loaded → Deck) → Deck
begin_by None o items behind = record { groups = []; ended = false }
begin_by (Some (load, later)) o items behind =
    with_group (record { load = load; opener = o; items = items }) (behind later)

abbrev pub begun : List (Opener × List Item) → List Loaded → Bool → Deck
begun [] loads ended = record { groups = []; ended = ended }
begun ((o, items) ∷ rest) loads ended = begin_by (load_for o loads) o items (λ later. begun rest later ended)
