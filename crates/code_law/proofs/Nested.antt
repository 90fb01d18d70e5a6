-- How many words of a frame the counters and the selectors of nested statements take.
use Rattle.std.proofs.Common.{◌≡◌, ℕ, zero, suc, ◌+◌, ◌-◌, ◌*◌, ◌≤◌, List, [], ◌∷◌, Some, ap, subst, arith}
use Rattle.std.specs.Prelude.{slice_get}
use Rattle.std.proofs.lemmas.Option.{none-some, same_Some}
use Rattle.stack_code.specs.CodeLists.{routine_at}
use Rattle.pascal_tree.specs.Statement.{Statement, empty, assign, call, compound, if_then, if_else, while_do, repeat_until, for_do, case_of, Body, body, Sequence, sequence, Statements, no_statement, next_statement, Branch, branch, Branches, no_branch, next_branch}
use Rattle.pascal_tree.specs.Program.{Routine, procedure, function, Program}
use Rattle.pascal_tree.specs.Limits.{most_levels, StatementFits, BodyFits, SequenceFits, StatementsFit, BranchFits, BranchesFit, RoutineFits, RoutinesFit, IsTree}
use Rattle.pascal_mean.specs.Predeclared.{Item}
use Rattle.pascal_mean.specs.Declarations.{heading_item, global_items, block_of}
use Rattle.pascal_code.specs.Frames.{declared_words}
use Rattle.pascal_code.specs.Senses.{Framed, framed_program, framed_after, all_framed}
use Rattle.pascal_code.specs.Code.{nested_words, nested_in_body, nested_in_sequence, nested_in_statements, nested_in_branch, nested_in_branches, code_of}
use Rattle.code_law.proofs.Ranges.{info_of}

mutual
  pub statement_nested : (s : Statement) (n : ℕ) → StatementFits s n → nested_words s ≤ 2 * n
  statement_nested empty n fits = omega arith
  statement_nested (assign x i becomes e) n fits = omega arith
  statement_nested (call x a) n fits = omega arith
  statement_nested (compound b) n fits = omega (arith, fits.0, body_nested b (n - 1) fits.1)
  statement_nested (if_then line e then_line s) n fits = omega (arith, fits.0, statement_nested s (n - 1) fits.2)
  statement_nested (if_else line e then_line s else_line t) n fits =
      omega (arith, fits.0, statement_nested s (n - 1) fits.2, statement_nested t (n - 1) fits.4)
  statement_nested (while_do line e do_line s) n fits = omega (arith, fits.0, statement_nested s (n - 1) fits.2)
  statement_nested (repeat_until line s until_line e) n fits = omega (arith, fits.0, sequence_nested s (n - 1) fits.1)
  statement_nested (for_do line x becomes from way way_line to do_line s) n fits = omega (arith, fits.0, statement_nested s (n - 1) fits.3)
  statement_nested (case_of line e of_line b more end_line) n fits =
      omega (arith, fits.0, branch_nested b (n - 1) fits.2, branches_nested more (n - 1) fits.3)

  pub body_nested : (b : Body) (n : ℕ) → BodyFits b n → nested_in_body b ≤ 2 * n
  body_nested (body begin s end) n fits = sequence_nested s n fits

  sequence_nested : (s : Sequence) (n : ℕ) → SequenceFits s n → nested_in_sequence s ≤ 2 * n
  sequence_nested (sequence s more) n fits = omega (arith, statement_nested s n fits.0, statements_nested more n fits.1)

  statements_nested : (s : Statements) (n : ℕ) → StatementsFit s n → nested_in_statements s ≤ 2 * n
  statements_nested no_statement n fits = omega arith
  statements_nested (next_statement line s more) n fits = omega (arith, statement_nested s n fits.0, statements_nested more n fits.1)

  branch_nested : (b : Branch) (n : ℕ) → BranchFits b n → nested_in_branch b ≤ 2 * n
  branch_nested (branch labels colon s) n fits = statement_nested s n fits

  branches_nested : (b : Branches) (n : ℕ) → BranchesFit b n → nested_in_branches b ≤ 2 * n
  branches_nested no_branch n fits = omega arith
  branches_nested (next_branch line b more) n fits = omega (arith, branch_nested b n fits.0, branches_nested more n fits.1)

-- ---- The bodies of a tree

block_fits : (s : Routine) → RoutineFits s → BodyFits (block_of s).body most_levels
block_fits (procedure l x p s b e) fits = fits
block_fits (function l x p c a s b e) fits = fits

bodies_fit : (k : ℕ) (known : List Item) (rs : List Routine) → RoutinesFit rs → (j : ℕ) (r : Framed) → slice_get (framed_after k known rs) j ≡ Some r
    → BodyFits (r.declared).body most_levels
bodies_fit k known [] fit j r is = absurd (none-some r is)
bodies_fit k known (s ∷ more) fit zero r is = subst (λ (t : Framed). BodyFits (t.declared).body most_levels) (same_Some _ r is) (block_fits s fit.0)
bodies_fit k known (s ∷ more) fit (suc j) r is = bodies_fit (k + 1) (heading_item k known s ∷ known) more fit.1 j r is

pub body_fits : (p : Program) → IsTree p → (k : ℕ) (r : Framed) → slice_get (all_framed p) k ≡ Some r → BodyFits (r.declared).body most_levels
body_fits p tree zero r is = subst (λ (t : Framed). BodyFits (t.declared).body most_levels) (same_Some (framed_program p) r is) tree.body
body_fits p tree (suc j) r is = bodies_fit 1 (global_items p) p.routines tree.routines j r is

-- ---- The words of a routine

pub words_are : (p : Program) (k : ℕ) (r : Framed) → slice_get (all_framed p) k ≡ Some r
    → (routine_at (code_of p) k).words ≡ declared_words r.frame + nested_in_body (r.declared).body
words_are p k r is = ap (λ i. i.words) (info_of p k r is)

pub words_are_few : (p : Program) (k : ℕ) (r : Framed) → slice_get (all_framed p) k ≡ Some r → declared_words r.frame ≤ 4096
    → BodyFits (r.declared).body most_levels → (routine_at (code_of p) k).words ≤ 4224
words_are_few p k r is few fits = omega (arith, few, words_are p k r is, body_nested (r.declared).body 64 fits)
