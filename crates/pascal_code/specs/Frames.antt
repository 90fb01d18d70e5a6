-- Where variables lie: frames of a program and of its routines.
use Rattle.std.specs.Prelude.{ℕ, ◌+◌, nat_lt, List, [], ◌∷◌, Option, Some, None, if◌then◌else◌}
use Rattle.pascal_tree.specs.Program.{Block}
use Rattle.pascal_mean.specs.Means.{Means, Scalar, Signature}
use Rattle.pascal_mean.specs.Means as meant
use Rattle.pascal_mean.specs.Predeclared.{Item}
use Rattle.pascal_mean.specs.Variables.{size_of}
use Rattle.pascal_mean.specs.Declarations.{own_items, declared_parameters}

-- how many words a declaration takes: an array a word for each element, a VAR parameter two
abbrev pub words_of : Means → ℕ
words_of (meant.Constant t v) = 0
words_of (meant.Variable owner t) = 1
words_of (meant.Array owner t bounds) = size_of bounds
words_of (meant.Reference t) = 2
words_of (meant.Routine k signature) = 0
words_of (meant.Function f) = 0
words_of (meant.Interface p) = 0
words_of (meant.TypeName t) = 0
words_of meant.Nothing = 0

abbrev pub words_in : List Item → ℕ
words_in [] = 0
words_in (i ∷ earlier) = words_of i.means + words_in earlier

-- A frame holds the parameters, the result of a function, and the variables. The declarations stand with the
-- latest first; the two numbers are the words of the parameters and of the result.
pub record Frame : Type 0 where
  pub items : List Item
  pub parameters : ℕ
  pub result : ℕ

-- what is declared behind the parameters lies behind the result too
abbrev pub behind_result : Frame → ℕ → ℕ
behind_result f words = if nat_lt words f.parameters then words else words + f.result

-- the first word of what is declared behind these, of `VAR A: CHAR; B: INTEGER` in the program 0 and 1
abbrev pub place_behind : Frame → List Item → ℕ
place_behind f earlier = behind_result f (words_in earlier)

-- how many words parameters, result and variables take
abbrev pub declared_words : Frame → ℕ
declared_words f = words_in f.items + f.result

abbrev pub result_words : Option Scalar → ℕ
result_words None = 0
result_words (Some t) = 1

-- a frame without parameters and without a result, as the program's
abbrev pub plain_frame : List Item → Frame
plain_frame items = record { items = items; parameters = 0; result = 0 }

-- the frame of a routine before whose block these names of the program are known
abbrev pub routine_frame : List Item → Signature → Block → Frame
routine_frame known signature b = record {
  items = own_items known signature b;
  parameters = words_in (declared_parameters signature.parameters []);
  result = result_words signature.answer;
}
