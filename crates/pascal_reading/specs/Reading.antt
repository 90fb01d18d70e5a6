-- What the cards of a program are read as.
use Rattle.std.specs.Prelude.{ℕ, List, [], ◌∷◌, Option, Some, None, Result, Ok, Err}
use Rattle.pascal_tree.specs.Word.{Spot}
use Rattle.pascal_tree.specs.Program.{Program}
use Rattle.pascal_read.specs.ParseFirst.{first_line}
use Rattle.pascal_read.specs.ParseWants.{Want, Step, took, skip, no, want_step, settle, offer, program_wants}
use Rattle.pascal_read.specs.Scan.{Words, words}
use Rattle.pascal_reading.specs.Parts.{PartOf, PartsOf, first_parts, later_parts}
use Rattle.pascal_reading.specs.Making.{Makes, making}

-- the tree that they spell, or the line of the first bad word, or the line of the first error
pub data Reading : Type 0 where
  tree : Program → Reading
  bad_word : ℕ → Reading
  syntax_error : ℕ → Reading

-- ---- The parts of words

-- the parts of what is wanted behind a word make those of what was wanted before it
abbrev pub MakesAll : List Want → Option (List Want) → Type 0
MakesAll wants None = Unit {0}
MakesAll wants (Some next) = PartsOf next → PartsOf wants

-- the first want takes the word, or leaves it to the later ones
abbrev pub making_by : (x : Want) (rest : List Want) (s : Step) (later : Option (List Want))
    → Makes (PartOf x) s → MakesAll rest later → MakesAll (x ∷ rest) (settle s rest later)
making_by x rest (took more) later make makes = λ r. (make (first_parts more rest r), later_parts more rest r)
making_by x rest skip None make makes = tt
making_by x rest skip (Some next) make makes = λ r. (make, makes r)
making_by x rest no later make makes = tt

unfoldable pub making_all : (wants : List Want) (t : Spot) → MakesAll wants (offer wants t.word)
unfolding offer
making_all [] t = tt
making_all (x ∷ rest) t =
    making_by x rest (want_step x t.word) (offer rest t.word) (making x t) (making_all rest t)

-- parts made of others, or the words that are left
abbrev pub with_parts : {A B : Type 0} → (A → B) → Result A (List Spot) → Result B (List Spot)
with_parts make (Ok r) = Ok (make r)
with_parts make (Err left) = Err left

-- the parts, made of those behind a word; or the words from it on, where no want takes it
abbrev pub parts_by : (wants : List Want) (next : Option (List Want)) → MakesAll wants next
    → ((next : List Want) → Result (PartsOf next) (List Spot)) → List Spot
    → Result (PartsOf wants) (List Spot)
parts_by wants None makes behind left = Err left
parts_by wants (Some next) makes behind left = with_parts makes (behind next)

-- the parts of words that are read to their end with these wants, or the words from the first that can't be
unfoldable pub parts_of : List Spot → (wants : List Want) → Result (PartsOf wants) (List Spot)
parts_of [] [] = Ok tt
parts_of [] (x ∷ rest) = Err []
parts_of (t ∷ ts) wants = parts_by wants (offer wants t.word) (making_all wants t) (parts_of ts) (t ∷ ts)

-- ---- Programs

-- the tree that the parts of a whole program are
abbrev pub whole_program : PartsOf program_wants → Program
whole_program r = record {
  heading = r.0;
  consts = r.1.0;
  vars = r.1.1.0;
  routines = r.1.1.1.0;
  body = r.1.1.1.1.0;
  period = r.1.1.1.1.1.0;
  end = r.1.1.1.1.1.1.0;
}

abbrev pub read_as : Result (PartsOf program_wants) (List Spot) → Reading
read_as (Ok r) = tree (whole_program r)
read_as (Err left) = syntax_error (first_line left)

abbrev pub reading_of : Words → Reading
reading_of (Ok tokens) = read_as (parts_of tokens program_wants)
reading_of (Err line) = bad_word line

-- `BEGIN END.` is read as its tree, `BEGIN ?` as a bad word in line 1, and `BEGIN` as an error in line 2,
-- where the end token stands
unfoldable pub reading : List (List ℕ) → Reading
reading cards = reading_of (words cards)
