-- A routine: its heading, the scope of its block, and the program's scope behind it.
use Rattle.std.proofs.Common.{◌≡◌, ℕ, ◌+◌, arith, Bool, true, false, nat_le, is_some, List, [], ◌∷◌, ◌++◌, Option, Some, None, refl, ap, sym, subst, ◌∙◌, true≢false}
use Rattle.pascal_tree.specs.Word.{NameAt}
use Rattle.pascal_tree.specs.Program.{Parameters, Block, procedure, function}
use Rattle.pascal_tree.specs.Scopes.{Scope, Declared, found, named_as, declare, words_of_list, result_words}
use Rattle.pascal_tree.specs.ExpressionRules.{Judged, breaks}
use Rattle.pascal_tree.specs.DeclarationRules.{judged_routine, judged_block, judged_parameter_groups, judged_type_name, all_groups, behind_parameter_groups, behind_parameters, block_scope, routine_means, parameters_wanted, scalar_named, or_integer, frame_words, inside, first_broken}
use Rattle.pascal_tree.specs.declared.broken.Broken.{Broken}
use Rattle.pascal_tree.specs.declared.scalar.Scalar.{Scalar}
use Rattle.pascal_tree.specs.declared.parameter.Parameter.{Parameter}
use Rattle.pascal_tree.specs.declared.means.Means.{Means}
use Rattle.pascal_tree.specs.declared.means.Means.TheVariants as means
use Rattle.pascal_check.specs.declared.fault.CheckFault.{CheckFault}
use Rattle.pascal_check.specs.Faults.{IsFault}
use Rattle.pascal_check.specs.Entered.{outside, left, IsOfProgram}
use Rattle.pascal_check.proofs.Firsts.{first_behind}
use Rattle.pascal_check.proofs.Faulty.{fault_here}
use Rattle.pascal_check.proofs.Framed.{parameters_outer, parameters_within}

-- a test that broke no rule
past : (r l : ℕ) (b : Bool) (more : Judged) → b ≡ false → first_broken (breaks r b l ∷ more) ≡ first_broken more
past r l true more h = absurd (true≢false h)
past r l false more h = refl

pub past_none : (o : Option Broken) (more : Judged) → o ≡ None → first_broken (o ∷ more) ≡ first_broken more
past_none None more h = refl
past_none (Some x) more h = cc

at_some : (o : Option Broken) (x : Broken) (more : Judged) → o ≡ Some x → first_broken (o ∷ more) ≡ Some x
at_some None x more h = cc
at_some (Some y) x more h = h

at_test : (r l : ℕ) (b : Bool) (more : Judged) → b ≡ true → first_broken (breaks r b l ∷ more) ≡ Some (record { rule = r; line = l })
at_test r l true more h = refl
at_test r l false more h = absurd (true≢false (sym h))

-- ---- Headings that break no rule

pub procedure_judged : (p : Scope) (before : ℕ) (x : NameAt) (ps : Option Parameters) (b : Block)
    → first_broken (judged_parameter_groups (inside p) (all_groups ps)) ≡ None
    → is_some (found p.own x.letters) ≡ false → nat_le 254 before ≡ false
    → first_broken (judged_routine p before (procedure 0 x ps 0 b 0)) ≡ first_broken (judged_block (block_scope p (procedure 0 x ps 0 b 0) ps None) b)
procedure_judged p before x ps b groups once few =
    let block = judged_block (block_scope p (procedure 0 x ps 0 b 0) ps None) b in
    first_behind (judged_parameter_groups (inside p) (all_groups ps))
    (breaks 1 (is_some (found p.own x.letters)) x.line ∷ breaks 7 (nat_le 254 before) x.line ∷ block) groups
    ∙ past 1 x.line (is_some (found p.own x.letters)) (breaks 7 (nat_le 254 before) x.line ∷ block) once
    ∙ past 7 x.line (nat_le 254 before) block few

pub function_judged : (p : Scope) (before : ℕ) (x : NameAt) (ps : Option Parameters) (t : NameAt) (b : Block)
    → first_broken (judged_parameter_groups (inside p) (all_groups ps)) ≡ None
    → is_some (found p.own x.letters) ≡ false → judged_type_name (behind_parameters p ps) t ≡ None → nat_le 254 before ≡ false
    → first_broken (judged_routine p before (function 0 x ps 0 t 0 b 0))
    ≡ first_broken (judged_block (block_scope p (function 0 x ps 0 t 0 b 0) ps (Some x.letters)) b)
function_judged p before x ps t b groups once typed few =
    let block = judged_block (block_scope p (function 0 x ps 0 t 0 b 0) ps (Some x.letters)) b in
    let answer = judged_type_name (behind_parameters p ps) t in
    let many = breaks 7 (nat_le 254 before) x.line in
    first_behind (judged_parameter_groups (inside p) (all_groups ps))
    (breaks 1 (is_some (found p.own x.letters)) x.line ∷ answer ∷ many ∷ block) groups
    ∙ past 1 x.line (is_some (found p.own x.letters)) (answer ∷ many ∷ block) once
    ∙ past_none answer (many ∷ block) typed
    ∙ past 7 x.line (nat_le 254 before) block few

-- ---- Headings that break a rule

pub procedure_named : (p : Scope) (before : ℕ) (x : NameAt) (ps : Option Parameters) (b : Block)
    → first_broken (judged_parameter_groups (inside p) (all_groups ps)) ≡ None
    → is_some (found p.own x.letters) ≡ true
    → first_broken (judged_routine p before (procedure 0 x ps 0 b 0)) ≡ Some (record { rule = 1; line = x.line })
procedure_named p before x ps b groups twice =
    let block = judged_block (block_scope p (procedure 0 x ps 0 b 0) ps None) b in
    let many = breaks 7 (nat_le 254 before) x.line in
    first_behind (judged_parameter_groups (inside p) (all_groups ps))
    (breaks 1 (is_some (found p.own x.letters)) x.line ∷ many ∷ block) groups
    ∙ at_test 1 x.line (is_some (found p.own x.letters)) (many ∷ block) twice

pub procedure_many : (p : Scope) (before : ℕ) (x : NameAt) (ps : Option Parameters) (b : Block)
    → first_broken (judged_parameter_groups (inside p) (all_groups ps)) ≡ None
    → is_some (found p.own x.letters) ≡ false → nat_le 254 before ≡ true
    → first_broken (judged_routine p before (procedure 0 x ps 0 b 0)) ≡ Some (record { rule = 7; line = x.line })
procedure_many p before x ps b groups once many =
    let block = judged_block (block_scope p (procedure 0 x ps 0 b 0) ps None) b in
    first_behind (judged_parameter_groups (inside p) (all_groups ps))
    (breaks 1 (is_some (found p.own x.letters)) x.line ∷ breaks 7 (nat_le 254 before) x.line ∷ block) groups
    ∙ past 1 x.line (is_some (found p.own x.letters)) (breaks 7 (nat_le 254 before) x.line ∷ block) once
    ∙ at_test 7 x.line (nat_le 254 before) block many

pub function_named : (p : Scope) (before : ℕ) (x : NameAt) (ps : Option Parameters) (t : NameAt) (b : Block)
    → first_broken (judged_parameter_groups (inside p) (all_groups ps)) ≡ None
    → is_some (found p.own x.letters) ≡ true
    → first_broken (judged_routine p before (function 0 x ps 0 t 0 b 0)) ≡ Some (record { rule = 1; line = x.line })
function_named p before x ps t b groups twice =
    let block = judged_block (block_scope p (function 0 x ps 0 t 0 b 0) ps (Some x.letters)) b in
    let later = judged_type_name (behind_parameters p ps) t ∷ breaks 7 (nat_le 254 before) x.line ∷ block in
    first_behind (judged_parameter_groups (inside p) (all_groups ps))
    (breaks 1 (is_some (found p.own x.letters)) x.line ∷ later) groups
    ∙ at_test 1 x.line (is_some (found p.own x.letters)) later twice

pub function_typed : (p : Scope) (before : ℕ) (x : NameAt) (ps : Option Parameters) (t : NameAt) (b : Block) (y : Broken)
    → first_broken (judged_parameter_groups (inside p) (all_groups ps)) ≡ None
    → is_some (found p.own x.letters) ≡ false → judged_type_name (behind_parameters p ps) t ≡ Some y
    → first_broken (judged_routine p before (function 0 x ps 0 t 0 b 0)) ≡ Some y
function_typed p before x ps t b y groups once typed =
    let block = judged_block (block_scope p (function 0 x ps 0 t 0 b 0) ps (Some x.letters)) b in
    let answer = judged_type_name (behind_parameters p ps) t in
    let many = breaks 7 (nat_le 254 before) x.line in
    first_behind (judged_parameter_groups (inside p) (all_groups ps))
    (breaks 1 (is_some (found p.own x.letters)) x.line ∷ answer ∷ many ∷ block) groups
    ∙ past 1 x.line (is_some (found p.own x.letters)) (answer ∷ many ∷ block) once
    ∙ at_some answer y (many ∷ block) typed

pub function_many : (p : Scope) (before : ℕ) (x : NameAt) (ps : Option Parameters) (t : NameAt) (b : Block)
    → first_broken (judged_parameter_groups (inside p) (all_groups ps)) ≡ None
    → is_some (found p.own x.letters) ≡ false → judged_type_name (behind_parameters p ps) t ≡ None → nat_le 254 before ≡ true
    → first_broken (judged_routine p before (function 0 x ps 0 t 0 b 0)) ≡ Some (record { rule = 7; line = x.line })
function_many p before x ps t b groups once typed many =
    let block = judged_block (block_scope p (function 0 x ps 0 t 0 b 0) ps (Some x.letters)) b in
    let answer = judged_type_name (behind_parameters p ps) t in
    first_behind (judged_parameter_groups (inside p) (all_groups ps))
    (breaks 1 (is_some (found p.own x.letters)) x.line ∷ answer ∷ breaks 7 (nat_le 254 before) x.line ∷ block) groups
    ∙ past 1 x.line (is_some (found p.own x.letters)) (answer ∷ breaks 7 (nat_le 254 before) x.line ∷ block) once
    ∙ past_none answer (breaks 7 (nat_le 254 before) x.line ∷ block) typed
    ∙ at_test 7 x.line (nat_le 254 before) block many

-- ---- Scopes

-- where the block of a procedure begins
pub procedure_block : (p : Scope) (x : NameAt) (ps : Option Parameters) (b : Block)
    → outside (behind_parameters p ps) x.letters (routine_means p (procedure 0 x ps 0 b 0)) ≡ block_scope p (procedure 0 x ps 0 b 0) ps None
procedure_block p x ps b =
    let t = behind_parameters p ps in
    let d = named_as x.letters (routine_means p (procedure 0 x ps 0 b 0)) in
    let with_outer : List Declared → Scope = λ o. record { own = t.own; outer = d ∷ o; within = t.within } in
    let with_within : Option (List ℕ) → Scope = λ w. record { own = t.own; outer = d ∷ p.own; within = w } in
    ap with_outer (parameters_outer (inside p) (all_groups ps)) ∙ ap with_within (parameters_within (inside p) (all_groups ps))

-- where the block of a function begins
pub function_block : (p : Scope) (x : NameAt) (ps : Option Parameters) (t : NameAt) (b : Block)
    → record (outside (behind_parameters p ps) x.letters (routine_means p (function 0 x ps 0 t 0 b 0))) { within = Some x.letters }
    ≡ block_scope p (function 0 x ps 0 t 0 b 0) ps (Some x.letters)
function_block p x ps t b =
    let s = behind_parameters p ps in
    let d = named_as x.letters (routine_means p (function 0 x ps 0 t 0 b 0)) in
    let with_outer : List Declared → Scope = λ o. record { own = s.own; outer = d ∷ o; within = Some x.letters } in
    ap with_outer (parameters_outer (inside p) (all_groups ps))

-- behind a routine
pub left_is : (p s : Scope) (x : List ℕ) (m : Means) → IsOfProgram p → s.outer ≡ named_as x m ∷ p.own → left s ≡ declare p x m
left_is p s x m of_program is =
    let own_is : List Declared → Scope = λ o. record { own = o; outer = []; within = None } in
    let outer_is : List Declared → Scope = λ o. record { own = named_as x m ∷ p.own; outer = o; within = None } in
    let within_is : Option (List ℕ) → Scope = λ w. record { own = named_as x m ∷ p.own; outer = p.outer; within = w } in
    ap own_is is ∙ sym (ap outer_is of_program.0) ∙ sym (ap within_is of_program.1)

-- a fault of the parameters
pub function_fault : (p s : Scope) (before : ℕ) (x : NameAt) (ps : Option Parameters) (n : NameAt) (b : Block) (f : CheckFault) → s ≡ inside p
    → IsFault (judged_parameter_groups s (all_groups ps)) f → IsFault (judged_routine p before (function 0 x ps 0 n 0 b 0)) f
function_fault p s before x ps n b f entered bad =
    let block = judged_block (block_scope p (function 0 x ps 0 n 0 b 0) ps (Some x.letters)) b in
    fault_here (judged_parameter_groups (inside p) (all_groups ps))
    (breaks 1 (is_some (found p.own x.letters)) x.line ∷ judged_type_name (behind_parameters p ps) n ∷ breaks 7 (nat_le 254 before) x.line ∷ block) f
    (subst (λ u. IsFault (judged_parameter_groups u (all_groups ps)) f) entered bad)

one_more : (a b : ℕ) → a ≡ b + 0 → a + 1 ≡ b + 1
one_more a b h = omega arith

-- ---- A routine behind its parameters: the program's scope, the routine's where it is entered, and behind its parameters

module _ (p s t : Scope) (ps : Option Parameters) (x : NameAt) (entered : s ≡ inside p)
    (groups : first_broken (judged_parameter_groups s (all_groups ps)) ≡ None) (behind : t ≡ behind_parameter_groups s (all_groups ps)) where
  unbroken : first_broken (judged_parameter_groups (inside p) (all_groups ps)) ≡ None
  unbroken = ap (λ u. first_broken (judged_parameter_groups u (all_groups ps))) (sym entered) ∙ groups

  behind_is : t ≡ behind_parameters p ps
  behind_is = behind ∙ ap (λ u. behind_parameter_groups u (all_groups ps)) entered

  named : (b : Bool) → is_some (found t.outer x.letters) ≡ b → is_some (found p.own x.letters) ≡ b
  named b is =
      sym (ap (λ o. is_some (found o x.letters)) (ap (λ u. u.outer) behind_is ∙ parameters_outer (inside p) (all_groups ps))) ∙ is

  wants : (old new : List Parameter) → old ≡ [] → new ≡ old ++ parameters_wanted s (all_groups ps) → new ≡ parameters_wanted (inside p) (all_groups ps)
  wants old new none grown =
      grown
      ∙ ap (λ l. l ++ parameters_wanted s (all_groups ps)) none
      ∙ ap (λ u. parameters_wanted u (all_groups ps)) entered

  answers : (n : NameAt) (a : Scalar) → scalar_named t n ≡ Some a → a ≡ or_integer (scalar_named (behind_parameters p ps) n)
  answers n a typed = ap or_integer (sym typed ∙ ap (λ u. scalar_named u n) behind_is)

  judged_answer : (n : NameAt) (o : Option Broken) → judged_type_name t n ≡ o → judged_type_name (behind_parameters p ps) n ≡ o
  judged_answer n o is = ap (λ u. judged_type_name u n) (sym behind_is) ∙ is

  pub procedure_is : (before : ℕ) (b : Block) → is_some (found t.outer x.letters) ≡ false → nat_le 254 before ≡ false
      → first_broken (judged_routine p before (procedure 0 x ps 0 b 0)) ≡ first_broken (judged_block (block_scope p (procedure 0 x ps 0 b 0) ps None) b)
  procedure_is before b once = procedure_judged p before x ps b unbroken (named false once)

  pub procedure_twice : (before : ℕ) (b : Block) → is_some (found t.outer x.letters) ≡ true
      → first_broken (judged_routine p before (procedure 0 x ps 0 b 0)) ≡ Some (record { rule = 1; line = x.line })
  procedure_twice before b twice = procedure_named p before x ps b unbroken (named true twice)

  pub procedure_past : (before : ℕ) (b : Block) → is_some (found t.outer x.letters) ≡ false → nat_le 254 before ≡ true
      → first_broken (judged_routine p before (procedure 0 x ps 0 b 0)) ≡ Some (record { rule = 7; line = x.line })
  procedure_past before b once = procedure_many p before x ps b unbroken (named false once)

  pub procedure_scope : (u : Scope) (b : Block) (old new : List Parameter) → old ≡ [] → new ≡ old ++ parameters_wanted s (all_groups ps)
      → u ≡ outside t x.letters (means.Procedure new) → u ≡ block_scope p (procedure 0 x ps 0 b 0) ps None
  procedure_scope u b old new none grown is =
      is
      ∙ ap (λ l. outside t x.letters (means.Procedure l)) (wants old new none grown)
      ∙ ap (λ v. outside v x.letters (routine_means p (procedure 0 x ps 0 b 0))) behind_is
      ∙ procedure_block p x ps b

  pub function_is : (before : ℕ) (n : NameAt) (b : Block) → is_some (found t.outer x.letters) ≡ false → judged_type_name t n ≡ None → nat_le 254 before ≡ false
      → first_broken (judged_routine p before (function 0 x ps 0 n 0 b 0))
      ≡ first_broken (judged_block (block_scope p (function 0 x ps 0 n 0 b 0) ps (Some x.letters)) b)
  function_is before n b once typed = function_judged p before x ps n b unbroken (named false once) (judged_answer n None typed)

  pub function_twice : (before : ℕ) (n : NameAt) (b : Block) → is_some (found t.outer x.letters) ≡ true
      → first_broken (judged_routine p before (function 0 x ps 0 n 0 b 0)) ≡ Some (record { rule = 1; line = x.line })
  function_twice before n b twice = function_named p before x ps n b unbroken (named true twice)

  pub function_untyped : (before : ℕ) (n : NameAt) (b : Block) (y : Broken) → is_some (found t.outer x.letters) ≡ false → judged_type_name t n ≡ Some y
      → first_broken (judged_routine p before (function 0 x ps 0 n 0 b 0)) ≡ Some y
  function_untyped before n b y once typed = function_typed p before x ps n b y unbroken (named false once) (judged_answer n (Some y) typed)

  pub function_past : (before : ℕ) (n : NameAt) (b : Block) → is_some (found t.outer x.letters) ≡ false → judged_type_name t n ≡ None → nat_le 254 before ≡ true
      → first_broken (judged_routine p before (function 0 x ps 0 n 0 b 0)) ≡ Some (record { rule = 7; line = x.line })
  function_past before n b once typed = function_many p before x ps n b unbroken (named false once) (judged_answer n None typed)

  pub function_scope : (d u : Scope) (n : NameAt) (a : Scalar) (b : Block) (old new : List Parameter) → old ≡ []
      → new ≡ old ++ parameters_wanted s (all_groups ps)
      → scalar_named t n ≡ Some a → d ≡ outside t x.letters (means.Function new a)
      → u ≡ record { own = d.own; outer = d.outer; within = Some x.letters }
      → u ≡ block_scope p (function 0 x ps 0 n 0 b 0) ps (Some x.letters)
  function_scope d u n a b old new none grown typed declared is =
      let with_result : Scope → Scope = λ v. record { own = v.own; outer = v.outer; within = Some x.letters } in
      is
      ∙ ap with_result
      (declared
      ∙ ap (λ l. outside t x.letters (means.Function l a)) (wants old new none grown)
      ∙ ap (λ r. outside t x.letters (means.Function (parameters_wanted (inside p) (all_groups ps)) r)) (answers n a typed)
      ∙ ap (λ v. outside v x.letters (routine_means p (function 0 x ps 0 n 0 b 0))) behind_is)
      ∙ function_block p x ps n b

  -- a function's frame has its result behind its parameters
  pub function_words : (d u : Scope) (m : Means) (used : ℕ) → used ≡ frame_words t → d ≡ outside t x.letters m
      → u ≡ record { own = d.own; outer = d.outer; within = Some x.letters } → used + 1 ≡ frame_words u
  function_words d u m used before declared is =
      let own_words = words_of_list t.own in
      let with_result : Scope → Scope = λ v. record { own = v.own; outer = v.outer; within = Some x.letters } in
      one_more used own_words
      (before ∙ ap (λ w. own_words + result_words w) (ap (λ u. u.within) behind_is ∙ parameters_within (inside p) (all_groups ps)))
      ∙ sym (ap frame_words (is ∙ ap with_result declared))
