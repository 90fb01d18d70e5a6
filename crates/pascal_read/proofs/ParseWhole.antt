-- What the reading of a whole program tells of its words.
use Rattle.std.proofs.Common.{◌≡◌, ℕ, List, [], ◌∷◌, ◌++◌, Some, None, refl, sym, ap, subst, ◌∙◌}
use Rattle.std.proofs.lemmas.List.{append-nil}
use Rattle.pascal_tree.specs.Word.{Spot, AreWords}
use Rattle.pascal_tree.specs.Program.{Program}
use Rattle.pascal_tree.specs.Limits.{RoutinesFit, BodyFits, IsTree}
use Rattle.pascal_tree.specs.SpellProgram.{spelled}
use Rattle.pascal_read.specs.ErrorPlace.{SpellATree}
use Rattle.pascal_read.specs.ParseFirst.{first_line}
use Rattle.pascal_read.specs.ParseWants.{offer, run, report, program_wants}
use Rattle.pascal_read.proofs.ParseCompleteProgram.{each_is_read}

nothing_wanted : (t : Spot) (ts : List Spot) → report (t ∷ ts) [] ≡ Some t.line
unfolding report run offer
nothing_wanted t ts = refl

-- a word behind the end of a program is one too many
pub one_too_many : (words left : List Spot) → report words program_wants ≡ report left [] → (left ≡ [] → ⊥) → report words program_wants ≡ Some (first_line left)
one_too_many words [] e h = absurd (h refl)
one_too_many words (t ∷ ts) e h = e ∙ nothing_wanted t ts

-- a tree's spelling has no error
pub no_error : (words : List Spot) (line : ℕ) → SpellATree words → report words program_wants ≡ Some line → ⊥
no_error words line s h =
    let read : report words program_wants ≡ None = ap (λ ts. report ts program_wants) (sym s.is) ∙ each_is_read s.tree s.is_tree in
    let both : Some line ≡ None = sym h ∙ read in
    cc

-- nothing is left behind a program
pub all_spelled : (tree : Program) (words left : List Spot) → words ≡ spelled tree ++ left → left ≡ [] → words ≡ spelled tree
all_spelled tree words left e h = e ∙ ap (λ ts. spelled tree ++ ts) h ∙ append-nil (spelled tree)

-- words that are read within the limits are those of a tree
pub is_tree : (tree : Program) (words : List Spot) → words ≡ spelled tree → AreWords words → RoutinesFit tree.routines → BodyFits tree.body 64 → IsTree tree
is_tree tree words e h f g = record { routines = f; body = g; words = subst AreWords e h }
