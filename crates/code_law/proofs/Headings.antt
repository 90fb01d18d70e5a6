-- Headings of routines, to the rules and to the code.
use Rattle.std.proofs.Common.{◌≡◌, ℕ, suc, ◌+◌, ◌≤◌, true, List, [], ◌∷◌, length, map, Option, Some, None, is_some, refl, sym, ap, ◌∙◌, true≢false, arith}
use Rattle.std.specs.Prelude.{slice_get, unwrap_or, nat_le}
use Rattle.pascal_tree.specs.Program.{Routine, procedure, function, Program}
use Rattle.pascal_tree.specs.Scopes as rules
use Rattle.pascal_tree.specs.Scopes.{words_of_list}
use Rattle.pascal_tree.specs.ExpressionRules.{Judged, breaks}
use Rattle.pascal_tree.specs.DeclarationRules.{all_groups, inside, behind_parameters, judged_type_name, judged_parameter_groups, block_scope, judged_block, routine_means, behind_heading, behind_routines, judged_routine, judged_routines, first_broken}
use Rattle.pascal_check.proofs.Unbroken.{before, behind}
use Rattle.pascal_mean.specs.Means as meant
use Rattle.pascal_mean.specs.Predeclared.{Item}
use Rattle.pascal_mean.specs.Calls.{passing_of}
use Rattle.pascal_mean.specs.Declarations.{Declared, no_routine, all_declared, signature_of, heading_item, declared_headings, declared_routine, block_of, routines_after}
use Rattle.pascal_mean.specs.Meaning.{declared_at}
use Rattle.pascal_code.specs.Senses.{Routine as IsRoutine}
use Rattle.code_law.specs.Suits.{Routines, IsRoutineOf}
use Rattle.code_law.specs.Suited.{routines_of}
use Rattle.code_law.proofs.Tests.{parted}
use Rattle.code_law.proofs.Senses.{IsMeant}
use Rattle.code_law.proofs.Declared.{Stands, one_declared}
use Rattle.code_law.proofs.Parameters.{list_wanted}

-- from a number on, all routines are these
pub record AreNumbered (all : List Declared) (k : ℕ) (these : List Declared) : Type 0 where
  pub some : 1 ≤ k
  pub at : (i : ℕ) → slice_get all (k + i) ≡ slice_get these i
  pub count : length all ≡ k + length these

pub next_numbered : (all : List Declared) (k : ℕ) (d : Declared) (more : List Declared) → AreNumbered all k (d ∷ more) → AreNumbered all (k + 1) more
next_numbered all k d more n = record {
  some = omega (arith, n.some);
  at = λ i. let same : k + 1 + i ≡ k + suc i = omega arith in ap (slice_get all) same ∙ n.at (suc i);
  count = omega (arith, n.count);
}

pub this_routine : (p : Program) (k : ℕ) (d : Declared) (more : List Declared) → AreNumbered (all_declared p) k (d ∷ more)
    → IsRoutineOf (routines_of p) k (map passing_of (d.signature).parameters) (is_some (d.signature).answer)
this_routine p k d more n =
    let all = all_declared p in
    let same : k ≡ k + 0 = omega arith in
    let here : declared_at all k ≡ d = ap (λ (o : Option Declared). unwrap_or o no_routine) (ap (slice_get all) same ∙ n.at 0) in
    record {
      some = n.some;
      low = omega (arith, n.count);
      passing_is = ap (λ (e : Declared). map passing_of (e.signature).parameters) (sym here);
      gives_is = ap (λ (e : Declared). is_some (e.signature).answer) here;
    }

module _ (rs : Routines) where
  heading_meant : (s : rules.Scope) (known : List Item) (k : ℕ) (r : Routine)
      → IsRoutineOf rs k (map passing_of (signature_of known r).parameters) (is_some (signature_of known r).answer)
      → IsMeant rs (Some (routine_means s r)) (meant.Routine k (signature_of known r))
  heading_meant s known k (procedure l x p c b e) is =
      λ a. (is, list_wanted (IsRoutine k (map passing_of (signature_of known (procedure l x p c b e)).parameters)) tt known p (inside s))
  heading_meant s known k (function l x p c t d b e) is =
      λ a. (is, list_wanted (IsRoutine k (map passing_of (signature_of known (function l x p c t d b e)).parameters)) tt known p (inside s))

  pub heading_declared : (s : rules.Scope) (known : List Item) (k count : ℕ) (r : Routine) → Stands rs true [] None [] s known
      → IsRoutineOf rs k (map passing_of (signature_of known r).parameters) (is_some (signature_of known r).answer)
      → first_broken (judged_routine s count r) ≡ None
      → Stands rs true [] None [] (behind_heading s r) (heading_item k known r ∷ known)
  heading_declared s known k count (procedure l x p c b e) st is none =
      let r = procedure l x p c b e in
      let rest : Judged = breaks 7 (nat_le 254 count) x.line ∷ judged_block (block_scope s r p None) b in
      let new = breaks 1 (is_some (rules.found s.own x.letters)) x.line in
      one_declared s known x.letters x.line (routine_means s r) (meant.Routine k (signature_of known r)) st
      (parted new rest (behind (judged_parameter_groups (inside s) (all_groups p)) (new ∷ rest) none)).0 (heading_meant s known k r is) refl
      (λ no. absurd (true≢false no))
  heading_declared s known k count (function l x p c t d b e) st is none =
      let r = function l x p c t d b e in
      let rest : Judged =
      judged_type_name (behind_parameters s p) t
      ∷ (breaks 7 (nat_le 254 count) x.line ∷ judged_block (block_scope s r p (Some x.letters)) b) in
      let new = breaks 1 (is_some (rules.found s.own x.letters)) x.line in
      one_declared s known x.letters x.line (routine_means s r) (meant.Routine k (signature_of known r)) st
      (parted new rest (behind (judged_parameter_groups (inside s) (all_groups p)) (new ∷ rest) none)).0 (heading_meant s known k r is) refl
      (λ no. absurd (true≢false no))

-- all headings of a program
pub headings_declared : (p : Program) (routines : List Routine) (k count : ℕ) (s : rules.Scope) (known : List Item)
    → Stands (routines_of p) true [] None [] s known
    → AreNumbered (all_declared p) k (routines_after k known routines) → first_broken (judged_routines s count routines) ≡ None
    → Stands (routines_of p) true [] None [] (behind_routines s routines) (declared_headings k routines known)
headings_declared p [] k count s known st n none = st
headings_declared p (r ∷ more) k count s known st n none =
    let these = heading_item k known r ∷ known in
    let d = declared_routine these (signature_of known r) (block_of r) in
    let later = routines_after (k + 1) these more in
    let first = judged_routine s count r in
    let others = judged_routines (behind_heading s r) (count + 1) more in
    headings_declared p more (k + 1) (count + 1) (behind_heading s r) these
    (heading_declared (routines_of p) s known k count r st (this_routine p k d later n) (before first others none))
    (next_numbered (all_declared p) k d later n) (behind first others none)

-- headings have no words
heading_words : (s : rules.Scope) (r : Routine) → words_of_list (behind_heading s r).own ≡ words_of_list s.own
heading_words s (procedure l x p c b e) = let same : 0 + words_of_list s.own ≡ words_of_list s.own = omega arith in same
heading_words s (function l x p c t d b e) = let same : 0 + words_of_list s.own ≡ words_of_list s.own = omega arith in same

pub headings_words : (routines : List Routine) (s : rules.Scope) → words_of_list (behind_routines s routines).own ≡ words_of_list s.own
headings_words [] s = refl
headings_words (r ∷ more) s = headings_words more (behind_heading s r) ∙ heading_words s r
