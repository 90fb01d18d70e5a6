-- The parts that words are read as spell them, and keep their limits; the words that are left are those at which a reader is stuck.
use Rattle.std.proofs.Common.{◌≡◌, List, [], ◌∷◌, Option, Some, None, Result, Ok, Err, refl, sym, subst}
use Rattle.pascal_tree.specs.Word.{Spot, AreWords}
use Rattle.pascal_tree.specs.Limits.{IsTree}
use Rattle.pascal_tree.specs.SpellProgram.{spelled}
use Rattle.pascal_read.specs.ParseWants.{Want, Step, took, skip, no, want_step, settle, offer, Outcome, stuck, resume, run, factor_begins, term_begins, simple_begins, expr_begins, program_wants}
use Rattle.pascal_read.specs.ParseWants as want
use Rattle.pascal_read.proofs.ParseSpells.{HasLevel}
use Rattle.pascal_reading.specs.Parts.{PartOf, PartsOf, first_parts}
use Rattle.pascal_reading.specs.Making.{Makes, factor_made, term_made, simple_made, expr_made, making}
use Rattle.pascal_reading.specs.Reading.{MakesAll, making_by, making_all, with_parts, parts_by, parts_of, whole_program}
use Rattle.pascal_reading.proofs.PartsRead.{AreRead, HaveLevels, levels_append, both_read, IsRight}
use Rattle.pascal_reading.proofs.MadeExpressions.{right_begun, factor_right, term_right, simple_right, expr_right, relation_right, addends_right, multipliers_right, behind_name_right, more_exprs_right}
use Rattle.pascal_reading.proofs.MadeStatements.{statement_right, behind_first_name_right, otherwise_right, more_statements_right, more_branches_right, more_labels_right, direction_right, body_right, reserved_word_right, mark_right, name_right}
use Rattle.pascal_reading.proofs.MadeDeclarations.{number_right, end_right, heading_right, constant_right, consts_right, definition_right, more_definitions_right, kind_right, vars_right, group_right, more_groups_right, more_names_right, parameters_right, parameter_group_right, more_parameters_right, routines_right}

-- what each want makes of a word is right
making_right : (x : Want) (t : Spot) → HasLevel x → IsRight x t (want_step x t.word) (making x t)
making_right (want.reserved_word r) t h = reserved_word_right r t
making_right (want.mark s) t h = mark_right s t
making_right want.name t h = name_right t
making_right want.number t h = number_right t
making_right want.end t h = end_right t
making_right (want.expr n) t h = right_begun (want.expr n) t (expr_begins n t.word) (expr_made n t) (expr_right n t h)
making_right (want.relation n) t h = relation_right n t h
making_right (want.simple n) t h = right_begun (want.simple n) t (simple_begins n t.word) (simple_made n t) (simple_right n t h)
making_right (want.addends n) t h = addends_right n t h
making_right (want.term n) t h = right_begun (want.term n) t (term_begins n t.word) (term_made n t) (term_right n t h)
making_right (want.multipliers n) t h = multipliers_right n t h
making_right (want.factor n) t h = right_begun (want.factor n) t (factor_begins n t.word) (factor_made n t) (factor_right n t h)
making_right (want.behind_name n) t h = behind_name_right n t h
making_right (want.more_exprs n) t h = more_exprs_right n t h
making_right (want.statement n) t h = statement_right n t h
making_right want.behind_first_name t h = behind_first_name_right t
making_right (want.otherwise n) t h = otherwise_right n t h
making_right (want.more_statements n) t h = more_statements_right n t h
making_right (want.more_branches n) t h = more_branches_right n t h
making_right want.more_labels t h = more_labels_right t
making_right want.direction t h = direction_right t
making_right want.body t h = body_right t
making_right want.heading t h = heading_right t
making_right want.constant t h = constant_right t
making_right want.consts t h = consts_right t
making_right want.definition t h = definition_right t
making_right want.more_definitions t h = more_definitions_right t
making_right want.kind t h = kind_right t
making_right want.vars t h = vars_right t
making_right want.group t h = group_right t
making_right want.more_groups t h = more_groups_right t
making_right want.more_names t h = more_names_right t
making_right want.parameters t h = parameters_right t
making_right want.parameter_group t h = parameter_group_right t
making_right want.more_parameters t h = more_parameters_right t
making_right want.routines t h = routines_right t

-- the same of all wants
abbrev AllRight : (wants : List Want) → Spot → (next : Option (List Want)) → MakesAll wants next → Type 0
AllRight wants t None makes = Unit {0}
AllRight wants t (Some next) makes =
    HaveLevels next × ((p : PartsOf next) (middle after : List Spot) → AreRead next p middle after → AreRead wants (makes p) (t ∷ middle) after)

settled_right : (x : Want) (rest : List Want) (t : Spot) (s : Step) (later : Option (List Want)) (make : Makes (PartOf x) s) (makes : MakesAll rest later)
    → HaveLevels rest → IsRight x t s make → AllRight rest t later makes → AllRight (x ∷ rest) t (settle s rest later) (making_by x rest s later make makes)
settled_right x rest t (took more) later make makes l right all = (
  levels_append more rest right.0 l,
  λ p middle after r.
      let s = both_read more rest p middle after r in
      (s.0, right.1 (first_parts more rest p) middle s.0 s.1, s.2),
)
settled_right x rest t skip None make makes l right all = tt
settled_right x rest t skip (Some next) make makes l right all =
    (all.0, λ p middle after r. (t ∷ middle, right middle, all.1 p middle after r))
settled_right x rest t no later make makes l right all = tt

all_right : (wants : List Want) (t : Spot) → HaveLevels wants → AllRight wants t (offer wants t.word) (making_all wants t)
unfolding offer making_all
all_right [] t l = tt
all_right (x ∷ rest) t l =
    settled_right x rest t (want_step x t.word) (offer rest t.word) (making x t) (making_all rest t) l.1 (making_right x t l.0) (all_right rest t l.1)

-- ---- All words

-- what was read is spelled by its parts, and the words that are left are those at which a reader is stuck
abbrev pub IsToldBy : (wants : List Want) → List Spot → Outcome → Result (PartsOf wants) (List Spot) → Type 0
IsToldBy wants ts o (Ok p) = AreRead wants p ts []
IsToldBy wants ts o (Err left) = o ≡ stuck left

told_with : (wants next : List Want) (t : Spot) (ts : List Spot) (makes : PartsOf next → PartsOf wants) (o : Outcome)
    (found : Result (PartsOf next) (List Spot))
    → ((p : PartsOf next) (middle after : List Spot) → AreRead next p middle after → AreRead wants (makes p) (t ∷ middle) after)
    → IsToldBy next ts o found → IsToldBy wants (t ∷ ts) o (with_parts makes found)
told_with wants next t ts makes o (Ok p) right told = right p ts [] told
told_with wants next t ts makes o (Err left) right told = told

told_by : (wants : List Want) (t : Spot) (ts : List Spot) (next : Option (List Want)) (makes : MakesAll wants next) → AllRight wants t next makes
    → ((next : List Want) → HaveLevels next → IsToldBy next ts (run ts next) (parts_of ts next))
    → IsToldBy wants (t ∷ ts) (resume next (run ts) (t ∷ ts)) (parts_by wants next makes (parts_of ts) (t ∷ ts))
told_by wants t ts None makes right told = refl
told_by wants t ts (Some next) makes right told = told_with wants next t ts makes (run ts next) (parts_of ts next) right.1 (told next right.0)

pub parts_tell : (ts : List Spot) (wants : List Want) → HaveLevels wants → IsToldBy wants ts (run ts wants) (parts_of ts wants)
unfolding run parts_of
parts_tell [] [] l = refl
parts_tell [] (x ∷ rest) l = refl
parts_tell (t ∷ ts) wants l =
    told_by wants t ts (offer wants t.word) (making_all wants t) (all_right wants t l) (λ next levels. parts_tell ts next levels)

-- ---- Programs

pub program_levels : HaveLevels program_wants
program_levels = (tt, (tt, (tt, (tt, (tt, (tt, (tt, tt)))))))

pub program_spells : (p : PartsOf program_wants) (ts : List Spot) → AreRead program_wants p ts [] → spelled (whole_program p) ≡ ts
program_spells p ts r =
    let vars = r.2.2 in
    let body = vars.2.2 in
    let end = body.2.2 in
    sym (simp (r.1.is, r.2.1.is, vars.1.is, vars.2.1.is, body.1.is, body.2.1.is, end.1.is, end.2) refl)

pub program_keeps : (p : PartsOf program_wants) (ts : List Spot) → AreRead program_wants p ts [] → AreWords ts → IsTree (whole_program p)
program_keeps p ts r w = record {
  routines = r.2.2.2.1.keeps;
  body = r.2.2.2.2.1.keeps;
  words = subst AreWords (sym (program_spells p ts r)) w;
}
