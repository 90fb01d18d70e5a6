-- The frames of routines by their places.
use Rattle.std.proofs.Common.{◌≡◌, ℕ, zero, suc, ◌+◌, ◌≤◌, ◌<◌, Bool, true, false, List, [], ◌∷◌, ◌++◌, length, take, Option, Some, None, is_some, refl, sym, ap, ap₂, subst, ◌∙◌, add-one, arith}
use Rattle.std.specs.Prelude.{slice_get, min, bytes_eq, if◌then◌else◌}
use Rattle.std.proofs.lemmas.Bool.{lt-ltb}
use Rattle.std.proofs.lemmas.Option.{none-some, same_Some}
use Rattle.stack_code.specs.declared.instr.Instr.{Instr}
use Rattle.stack_code.specs.declared.instr.RoutineInfo.{RoutineInfo}
use Rattle.stack_code.specs.CodeLists.{CodeLists}
use Rattle.pascal_tree.specs.Statement.{Body}
use Rattle.pascal_tree.specs.Program.{Parameters, Block, Routine, procedure, function, Program}
use Rattle.pascal_mean.specs.Means.{Scalar, Owner, OfRoutine, Parameter}
use Rattle.pascal_mean.specs.Means as meant
use Rattle.pascal_mean.specs.Predeclared.{Item}
use Rattle.pascal_mean.specs.Scope.{Scope, scope_of}
use Rattle.pascal_mean.specs.Declarations.{declared_constants, declared_variables, parameter_means, declared_parameters, parameter_list, declared_headings, heading_item, signature_of, block_of, global_items}
use Rattle.pascal_code.specs.Frames.{Frame, words_of, words_in, behind_result, place_behind, declared_words, result_words, plain_frame, routine_frame}
use Rattle.pascal_code.specs.Senses.{Sense, sense, sense_among, Framed, framed_routine, framed_after, all_framed}
use Rattle.pascal_code.specs.Statements.{body_code}
use Rattle.pascal_code.specs.Code.{nested_in_body, ending, routine_code, routine_info}
use Rattle.pascal_compile.specs.declared.names.Names as names_type
use Rattle.pascal_compile.specs.declared.frame.Frame as frame_type
use Rattle.pascal_compile.specs.Seen.{seen_names}
use Rattle.pascal_compile.specs.Holds.{HoldsNames, HoldsFrame, with_items, LaidOut, known_at}
use Rattle.pascal_compile.specs.Passings.{parameters_in}
use Rattle.pascal_compile.specs.Infos.{without_height}
use Rattle.pascal_compile.proofs.Frames.{behind}
use Rattle.pascal_compile.proofs.ProgramFrames.{routine_tells}

-- headings take no words
pub headings_words : (k : ℕ) (rs : List Routine) (items : List Item) → words_in (declared_headings k rs items) ≡ words_in items
headings_words k [] items = refl
headings_words k (r ∷ more) items = omega (arith, headings_words (k + 1) more (heading_item k items r ∷ items))

headings_next : (k : ℕ) (rs : List Routine) (items : List Item) (j : ℕ) (r : Routine) → slice_get rs j ≡ Some r
    → declared_headings k (take (suc j) rs) items
    ≡ heading_item (k + j) (declared_headings k (take j rs) items) r ∷ declared_headings k (take j rs) items
headings_next k [] items j r is = absurd (none-some r is)
headings_next k (s ∷ more) items zero r is =
    let same : k ≡ k + 0 = omega arith in
    ap (λ (t : Routine). heading_item k items t ∷ items) (same_Some s r is) ∙ ap (λ (n : ℕ). heading_item n items r ∷ items) same
headings_next k (s ∷ more) items (suc j) r is =
    let these = heading_item k items s ∷ items in
    let same : k + 1 + j ≡ k + suc j = omega arith in
    headings_next (k + 1) more these j r is
    ∙ ap (λ (n : ℕ). heading_item n (declared_headings (k + 1) (take j more) these) r ∷ declared_headings (k + 1) (take j more) these) same

after_there : (k : ℕ) (items : List Item) (rs : List Routine) (j : ℕ) (r : Routine) → slice_get rs j ≡ Some r
    → slice_get (framed_after k items rs) j
    ≡ Some (framed_routine (declared_headings k (take (suc j) rs) items) (signature_of (declared_headings k (take j rs) items) r) (block_of r))
after_there k items [] j r is = absurd (none-some r is)
after_there k items (s ∷ more) zero r is =
    ap (λ (t : Routine). Some (framed_routine (heading_item k items t ∷ items) (signature_of items t) (block_of t))) (same_Some s r is)
    ∙ ap (λ (t : Routine). Some (framed_routine (heading_item k items t ∷ items) (signature_of items r) (block_of r))) (sym (same_Some s r is))
after_there k items (s ∷ more) (suc j) r is = after_there (k + 1) (heading_item k items s ∷ items) more j r is

-- the names behind a routine's heading
pub known_next : (p : Program) (j : ℕ) (r : Routine) → slice_get p.routines j ≡ Some r
    → known_at p (j + 1) ≡ heading_item (j + 1) (known_at p j) r ∷ known_at p j
known_next p j r is =
    let number : 1 + j ≡ j + 1 = omega arith in
    ap (λ (n : ℕ). known_at p n) (add-one j) ∙ headings_next 1 p.routines (global_items p) j r is
    ∙ ap (λ (n : ℕ). heading_item n (known_at p j) r ∷ known_at p j) number

-- a routine by its place
pub framed_there : (p : Program) (j : ℕ) (r : Routine) → slice_get p.routines j ≡ Some r
    → slice_get (all_framed p) (j + 1) ≡ Some (framed_routine (known_at p (j + 1)) (signature_of (known_at p j) r) (block_of r))
framed_there p j r is =
    ap (slice_get (all_framed p)) (add-one j) ∙ after_there 1 (global_items p) p.routines j r is
    ∙ ap (λ (n : ℕ). Some (framed_routine (known_at p n) (signature_of (known_at p j) r) (block_of r))) (sym (add-one j))

-- ---- Parameters and a result

-- parameters take words
abbrev AreLaid : List Item → Type 0
AreLaid [] = Unit {0}
AreLaid (i ∷ earlier) = (1 ≤ words_of i.means) × AreLaid earlier

all_laid : (ps : List Parameter) (items : List Item) → AreLaid items → AreLaid (declared_parameters ps items)
all_laid [] items are = are
all_laid (p ∷ more) items are =
    all_laid more (record { letters = p.letters; means = parameter_means p } ∷ items) (one p.is_variable, are)
  where
    one : (b : Bool) → 1 ≤ words_of (if b then meant.Reference p.scalar else meant.Variable OfRoutine p.scalar)
    one true = omega arith
    one false = omega arith

before_result : (f : Frame) (words : ℕ) → words < f.parameters → behind_result f words ≡ words
before_result f words low = ap (λ (b : Bool). if b then words else words + f.result) (lt-ltb words f.parameters low)

-- a result moves none of the parameters before it
result_moves_none : (g : Frame) (whole items : List Item) (x : List ℕ) → AreLaid items → words_in items ≤ g.parameters
    → sense_among (plain_frame whole) items x ≡ sense_among g items x
result_moves_none g whole [] x are fits = refl
result_moves_none g whole (i ∷ earlier) x are fits =
    let plain : words_in earlier + 0 ≡ words_in earlier = omega arith in
    let place : place_behind (plain_frame whole) earlier ≡ place_behind g earlier =
    behind (plain_frame whole) (words_in earlier) (omega arith) ∙ plain ∙ sym (before_result g (words_in earlier) (omega (arith, are.0, fits))) in
    ap₂ (λ (n : ℕ) (o : Option Sense). if bytes_eq i.letters x then Some (sense i.means n) else o) place
    (result_moves_none g whole earlier x are.1 (omega (arith, fits)))

result_taken : (answer : Option Scalar) (gives : Bool) → gives ≡ is_some answer → (if gives then 1 else 0) ≡ result_words answer
result_taken None gives is = ap (λ (b : Bool). if b then 1 else 0) is
result_taken (Some t) gives is = ap (λ (b : Bool). if b then 1 else 0) is

result_held : (a b : frame_type.Frame) (items : List Item) (answer : Option Scalar) (gives : Bool) → AreLaid items → HoldsFrame a (plain_frame items)
    → ((x : List ℕ) → seen_names b.names x ≡ seen_names a.names x) → b.words ≡ min (a.words + (if gives then 1 else 0)) 65535
    → gives ≡ is_some answer → HoldsFrame b (record { items = items; parameters = words_in items; result = result_words answer })
result_held a b items answer gives are before names words is fits =
    let g : Frame = record { items = items; parameters = words_in items; result = result_words answer } in
    let h = before (omega (arith, fits)) in
    record {
      names = λ x. names x ∙ h.names x ∙ result_moves_none g items items x are (omega arith);
      words = omega (arith, words, h.words, fits, result_taken answer gives is);
      behind = omega arith;
    }

-- ---- A routine

abbrev pub the_frame : Program → ℕ → Routine → Frame
the_frame p j r = routine_frame (known_at p (j + 1)) (signature_of (known_at p j) r) (block_of r)

listed : (known : List Item) (r : Routine) → parameter_list known (parameters_in r) ≡ (signature_of known r).parameters
listed known (procedure line x ps semicolon b end) = refl
listed known (function line x ps colon t semicolon b end) = refl

module _ (p : Program) (j : ℕ) (r : Routine) (a b : frame_type.Frame) (ps : Option Parameters) (ps_is : ps ≡ parameters_in r)
    (first : HoldsFrame a (plain_frame []))
    (parameters : HoldsFrame a (plain_frame []) → HoldsFrame b (plain_frame (declared_parameters (parameter_list (known_at p j) ps) []))) where
  parameters_held : HoldsFrame b (plain_frame (declared_parameters (signature_of (known_at p j) r).parameters []))
  parameters_held =
      subst (λ qs. HoldsFrame b (plain_frame (declared_parameters qs []))) (ap (parameter_list (known_at p j)) ps_is ∙ listed (known_at p j) r)
      (parameters first)

  pub parameters_are : (the_frame p j r).parameters ≤ 16 → b.words ≡ (the_frame p j r).parameters
  parameters_are few = omega (arith, (parameters_held (omega (arith, few))).words)

  pub routine_held : (n : names_type.Names) (d e f : frame_type.Frame) (blk : Block) (gives : Bool) → HoldsNames n (plain_frame (known_at p (j + 1)))
      → blk ≡ block_of r → gives ≡ is_some (signature_of (known_at p j) r).answer → ((x : List ℕ) → seen_names d.names x ≡ seen_names b.names x)
      → d.words ≡ min (b.words + (if gives then 1 else 0)) 65535 → LaidOut n d e (λ scope. declared_constants scope blk.consts)
      → LaidOut n e f (λ scope. declared_variables OfRoutine scope blk.vars) → HoldsFrame f (the_frame p j r)
  routine_held n d e f blk gives known blk_is function_is names words constants variables =
      let sig = signature_of (known_at p j) r in
      let these = known_at p (j + 1) in
      let items = declared_parameters sig.parameters [] in
      let scope : List Item → Scope = λ own. scope_of own these in
      let g : Frame = record { items = items; parameters = words_in items; result = result_words sig.answer } in
      subst (λ c. HoldsFrame f (routine_frame these sig c)) blk_is
      (variables scope (routine_tells n these known) (with_items g (declared_constants scope blk.consts items))
      (constants scope (routine_tells n these known) g
      (result_held b d items sig.answer gives (all_laid sig.parameters [] tt) parameters_held names words function_is)))

-- what is emitted of a routine
pub routine_emitted : (r s : Framed) (old new : List Instr) (names : List ℕ → Sense) (words params : ℕ) (statements : Body) → s ≡ r → names ≡ s.names
    → words ≡ declared_words s.frame → params ≡ (s.frame).parameters → statements ≡ (s.declared).body → s.owner ≡ OfRoutine
    → new ≡ old ++ (body_code (record { names = names; owner = OfRoutine; result = params }) words statements (length old) ++ ending OfRoutine ∷ [])
    → new ≡ old ++ routine_code r (length old)
routine_emitted r s old new names words params statements same names_is words_is params_is body_is owner_is is =
    is
    ∙ ap (λ (ns : List ℕ → Sense). old ++ (body_code (record { names = ns; owner = OfRoutine; result = params }) words statements (length old)
    ++ ending OfRoutine ∷ [])) names_is
    ∙ ap₂ (λ (w q : ℕ). old ++ (body_code (record { names = s.names; owner = OfRoutine; result = q }) w statements (length old)
    ++ ending OfRoutine ∷ [])) words_is params_is
    ∙ ap₂ (λ (b : Body) (o : Owner). old ++ (body_code (record { names = s.names; owner = o; result = (s.frame).parameters }) (declared_words s.frame) b
    (length old) ++ ending o ∷ []))
    body_is (sym owner_is)
    ∙ ap (λ (t : Framed). old ++ routine_code t (length old)) same

pub routine_told : (calling : CodeLists) (r s : Framed) (old new : List RoutineInfo) (start words params : ℕ) (gives : Bool) (statements : Body) → s ≡ r
    → words ≡ declared_words s.frame → params ≡ (s.frame).parameters → statements ≡ (s.declared).body
    → gives ≡ is_some ((s.declared).signature).answer
    → new ≡ old ++ (record { start = start; params = params; function = gives; words = words + nested_in_body statements; height = 0 }) ∷ []
    → new ≡ old ++ without_height (routine_info calling r start (routine_code r start)) ∷ []
routine_told calling r s old new start words params gives statements same words_is params_is body_is function_is is =
    is
    ∙ ap₂ (λ (w q : ℕ). old ++
    (record { start = start; params = q; function = gives; words = w + nested_in_body statements; height = 0 }) ∷ []) words_is params_is
    ∙ ap₂ (λ (b : Body) (g : Bool). old ++ (record {
      start = start;
      params =
          (s.frame).parameters;
      function = g;
      words = declared_words s.frame + nested_in_body b;
      height = 0;
    }) ∷ [])
    body_is function_is
    ∙ ap (λ (t : Framed). old ++ without_height (routine_info calling t start (routine_code t start)) ∷ []) same
