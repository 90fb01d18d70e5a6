-- What is known of a program that breaks no static rule, as far as its code asks.
use Rattle.std.specs.Prelude.{◌≡◌, ℕ, ◌≤◌, length, slice_get, Some, is_some}
use Rattle.pascal_tree.specs.Program.{Program}
use Rattle.pascal_mean.specs.Declarations.{all_declared}
use Rattle.pascal_mean.specs.Meaning.{declared_at}
use Rattle.pascal_code.specs.Frames.{declared_words}
use Rattle.pascal_code.specs.Senses.{Framed, all_framed}
use Rattle.code_law.specs.Arguments.{LieFrom}
use Rattle.code_law.specs.Suits.{Routines, SuitsBody}

-- the routines of a program, the program itself being 0
abbrev pub routines_of : Program → Routines
routines_of p = record {
  count = length (all_declared p);
  parameters = λ k. ((declared_at (all_declared p) k).signature).parameters;
  gives = λ k. is_some ((declared_at (all_declared p) k).signature).answer;
}

-- In a routine, or the program itself, each statement suits its names; a function may be set in its own body;
-- the parameters lie one behind another from word 0, and a frame has at most 4,096 declared words.
pub record IsSuited (p : Program) (r : Framed) : Type 0 where
  pub suits : SuitsBody (routines_of p) r.names (is_some ((r.declared).signature).answer) (r.declared).body
  pub lie : LieFrom r.frame 0 ((r.declared).signature).parameters
  pub few : declared_words r.frame ≤ 4096

abbrev pub AreSuited : Program → Type 0
AreSuited p = (k : ℕ) (r : Framed) → slice_get (all_framed p) k ≡ Some r → IsSuited p r
