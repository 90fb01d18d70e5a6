-- What a command does: data that needs something, with what follows for each answer, or is done.
use Rattle.std.specs.Prelude.{ℕ, Bool, List, [], ◌∷◌}
use Rattle.solo_base.specs.declared.item.Feed.{Feed}
use Rattle.disk_layout.specs.Files.{Files}

-- a card file: its cards up to the first spoiled one, and whether there is one
pub record CardFile : Type 0 where
  pub cards : List (List ℕ)
  pub spoiled : Bool

-- It gives an answer; it needs the next card file, or the next typed line (or learns that there is none), and
-- goes on by what it gets; it displays a line, prints one, or changes the files to these, and goes on.
pub data Task (A : Type 0) : Type 0 where
  Gives : A → Task A
  ReadsCards : (CardFile → Task A) → Task A
  Accepts : (Feed → Task A) → Task A
  Displays : List ℕ → Task A → Task A
  Prints : List ℕ → Task A → Task A
  Changes : Files → Task A → Task A

-- one task, and then another by what the first gave
abbrev pub and_then : {A B : Type 0} → Task A → (A → Task B) → Task B
and_then (Gives a) go = go a
and_then (ReadsCards more) go = ReadsCards (λ file. and_then (more file) go)
and_then (Accepts more) go = Accepts (λ typed. and_then (more typed) go)
and_then (Displays line later) go = Displays line (and_then later go)
and_then (Prints line later) go = Prints line (and_then later go)
and_then (Changes files later) go = Changes files (and_then later go)

-- ---- Several lines

abbrev pub prints_all : {A : Type 0} → List (List ℕ) → Task A → Task A
prints_all [] later = later
prints_all (line ∷ lines) later = Prints line (prints_all lines later)

abbrev pub displays_all : {A : Type 0} → List (List ℕ) → Task A → Task A
displays_all [] later = later
displays_all (line ∷ lines) later = Displays line (displays_all lines later)
