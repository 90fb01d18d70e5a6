-- The frame of a program, and what is emitted in one.
use Rattle.std.proofs.Common.{◌≡◌, ℕ, ◌+◌, ◌≤◌, Bool, true, false, nat_lt, List, [], ◌∷◌, ◌++◌, length, map, Option, Some, None, refl, sym, ap, ap₂, subst, ◌∙◌, arith}
use Rattle.std.specs.Prelude.{bytes_eq, if◌then◌else◌}
use Rattle.std.proofs.Math.Path.{fun_ext}
use Rattle.std.proofs.lemmas.Bool.{le-leb}
use Rattle.std.proofs.lemmas.Option.{none-some, same_Some}
use Rattle.stack_code.specs.declared.instr.Instr.{Instr}
use Rattle.stack_code.specs.declared.instr.RoutineInfo.{RoutineInfo}
use Rattle.stack_code.specs.CodeLists.{CodeLists}
use Rattle.pascal_tree.specs.declared.declaration.Routine as routine_type
use Rattle.pascal_tree.specs.SeenProgram.{seen_routine}
use Rattle.pascal_tree.specs.Program.{Program}
use Rattle.pascal_mean.specs.Means.{Means, OfProgram}
use Rattle.pascal_mean.specs.Means as meant
use Rattle.pascal_mean.specs.Predeclared.{Item, predeclared}
use Rattle.pascal_mean.specs.Scope.{scope_of}
use Rattle.pascal_mean.specs.Declarations.{declared_constants, declared_variables, global_items}
use Rattle.pascal_code.specs.Frames.{Frame, words_of, words_in, place_behind, declared_words, plain_frame}
use Rattle.pascal_code.specs.Senses.{Sense, sense, sense_among, sense_in, first_sense, names_in, framed_program}
use Rattle.pascal_code.specs.Statements.{body_code}
use Rattle.pascal_code.specs.Code.{nested_in_body, ending, routine_code, routine_info}
use Rattle.pascal_code.proofs.SensesAgree.{names_are_senses}
use Rattle.pascal_compile.specs.declared.names.Names as names_type
use Rattle.pascal_compile.specs.declared.frame.Frame as frame_type
use Rattle.pascal_compile.specs.Seen.{seen_names, seen_scope, IsSmall, AreSmall}
use Rattle.pascal_compile.specs.Holds.{HoldsNames, HoldsFrame, HeadingsHeld, Tells, LaidOut}
use Rattle.pascal_compile.specs.Infos.{without_height}

abbrev outermost : List ℕ → Option Sense
outermost x = sense_in (plain_frame predeclared) x

pub empty_held : (a : frame_type.Frame) → ((x : List ℕ) → seen_names a.names x ≡ None) → a.words ≡ 0 → HoldsFrame a (plain_frame [])
empty_held a names words fits = record { names = names; words = words; behind = omega arith }

-- ---- Scopes

either_list : (o p : Option Sense) → first_sense o None p ≡ first_sense None o p
either_list (Some s) p = refl
either_list None p = refl

pub program_tells : (n : names_type.Names) → ((x : List ℕ) → seen_names n x ≡ None) → Tells n (scope_of [])
program_tells n none own x =
    let s = names_are_senses (plain_frame []) own x in
    (s.0, ap (λ (o : Option Sense). first_sense (sense_in own x) o (outermost x)) (none x) ∙ either_list (sense_in own x) (outermost x) ∙ s.1)

pub routine_tells : (n : names_type.Names) (known : List Item) → HoldsNames n (plain_frame known) → Tells n (λ own. scope_of own known)
routine_tells n known holds own x =
    let s = names_are_senses own (plain_frame known) x in
    (s.0, ap (λ (o : Option Sense). first_sense (sense_in own x) o (outermost x)) (holds x) ∙ s.1)

pub globals_held : (n : names_type.Names) (a b c : frame_type.Frame) (p : Program) → ((x : List ℕ) → seen_names n x ≡ None)
    → ((x : List ℕ) → seen_names a.names x ≡ None) → a.words ≡ 0 → LaidOut n a b (λ scope. declared_constants scope p.consts)
    → LaidOut n b c (λ scope. declared_variables OfProgram scope p.vars) → HoldsFrame c (plain_frame (global_items p))
globals_held n a b c p nothing names words constants variables =
    let scope = scope_of [] in
    variables scope (program_tells n nothing) (plain_frame (declared_constants scope p.consts []))
    (constants scope (program_tells n nothing) (plain_frame []) (empty_held a names words))

-- with all headings
pub headings_held : (p : Program) (a b : frame_type.Frame) (rs : List routine_type.Routine) → map seen_routine rs ≡ p.routines
    → HoldsFrame a (plain_frame (global_items p)) → HeadingsHeld a b 1 (map seen_routine rs) → HoldsFrame b (framed_program p).frame
headings_held p a b rs is before held =
    subst (λ ss. HeadingsHeld a b 1 ss) is held (plain_frame (global_items p)) before

-- ---- Names whose words fit

at_most : (f : Frame) (earlier : List Item) → place_behind f earlier ≤ words_in earlier + f.result
at_most f earlier = by (nat_lt (words_in earlier) f.parameters)
  where
    by : (b : Bool) → (if b then words_in earlier else words_in earlier + f.result) ≤ words_in earlier + f.result
    by true = omega arith
    by false = omega arith

small_sense : (m : Means) (place : ℕ) → words_of m ≤ 4096 → place ≤ 4096 → IsSmall (sense m place)
small_sense (meant.Array o t b) place fits low = le-leb _ 4096 fits
small_sense (meant.Reference t) place fits low = le-leb place 4096 low
small_sense (meant.Variable o t) place fits low = refl
small_sense (meant.Constant t v) place fits low = refl
small_sense (meant.Routine k s) place fits low = refl
small_sense (meant.Function f) place fits low = refl
small_sense (meant.Interface p) place fits low = refl
small_sense (meant.TypeName t) place fits low = refl
small_sense meant.Nothing place fits low = refl

small_among : (f : Frame) (items : List Item) (x : List ℕ) (s : Sense) → words_in items + f.result ≤ 4096 → sense_among f items x ≡ Some s → IsSmall s
small_among f [] x s fits is = absurd (none-some s is)
small_among f (i ∷ earlier) x s fits is =
    by (bytes_eq i.letters x) (small_among f earlier x s (omega (arith, fits))) is
  where
    by : (b : Bool) → (sense_among f earlier x ≡ Some s → IsSmall s)
        → (if b then Some (sense i.means (place_behind f earlier)) else sense_among f earlier x) ≡ Some s → IsSmall s
    by true later here =
        subst IsSmall (same_Some _ s here)
        (small_sense i.means (place_behind f earlier) (omega (arith, fits)) (omega (arith, fits, at_most f earlier)))
    by false later here = later here

small_first : (a b d : Option Sense) → ((s : Sense) → a ≡ Some s → IsSmall s) → ((s : Sense) → b ≡ Some s → IsSmall s)
    → ((s : Sense) → d ≡ Some s → IsSmall s) → IsSmall (first_sense a b d)
small_first (Some s) b d one two three = one s refl
small_first None (Some s) d one two three = two s refl
small_first None None (Some s) one two three = three s refl
small_first None None None one two three = refl

pub names_same : (own program : names_type.Names) (f g : Frame) → HoldsNames own f → HoldsNames program g → seen_scope own program ≡ names_in f g
names_same own program f g one two =
    fun_ext (λ x. ap₂ (λ (o p : Option Sense). first_sense o p (outermost x)) (one x) (two x))

pub names_small : (own program : names_type.Names) (f g : Frame) → HoldsNames own f → HoldsNames program g → declared_words f ≤ 4096 → declared_words g ≤ 4096
    → AreSmall (seen_scope own program)
names_small own program f g one two few fewer =
    subst AreSmall (sym (names_same own program f g one two))
    (λ x. small_first (sense_in f x) (sense_in g x) (outermost x) (λ s is. small_among f f.items x s few is) (λ s is. small_among g g.items x s fewer is)
    (λ s is. small_among (plain_frame predeclared) predeclared x s (omega arith) is))

-- ---- What is emitted

pub program_emitted : (p : Program) (old new : List Instr) (names : List ℕ → Sense) (words : ℕ) → old ≡ [] → names ≡ (framed_program p).names
    → words ≡ declared_words (framed_program p).frame
    → new ≡ old ++ (body_code (record { names = names; owner = OfProgram; result = 0 }) words p.body (length old) ++ ending OfProgram ∷ [])
    → new ≡ routine_code (framed_program p) 0
program_emitted p old new names words none same few is =
    is ∙ ap (λ (o : List Instr). o ++ (body_code (record { names = names; owner = OfProgram; result = 0 }) words p.body (length o)
    ++ ending OfProgram ∷ [])) none
    ∙ ap₂ (λ (n : List ℕ → Sense) (w : ℕ). body_code (record { names = n; owner = OfProgram; result = 0 }) w p.body 0 ++ ending OfProgram ∷ []) same few

pub program_told : (calling : CodeLists) (p : Program) (old new : List RoutineInfo) (start words : ℕ) → start ≡ 0
    → words ≡ declared_words (framed_program p).frame
    → new ≡ old ++ (record { start = start; params = 0; function = false; words = words + nested_in_body p.body; height = 0 }) ∷ []
    → new ≡ old ++ without_height (routine_info calling (framed_program p) 0 (routine_code (framed_program p) 0)) ∷ []
program_told calling p old new start words zero few is =
    is ∙ ap₂ (λ (s w : ℕ). old ++ (record { start = s; params = 0; function = false; words = w + nested_in_body p.body; height = 0 }) ∷ []) zero few
