-- What one turn of a loop of the program says of the whole loop.
use Rattle.std.proofs.Common.{◌≡◌, ℕ, ◌+◌, ◌-◌, ◌<◌, Bool, true, false, Option, Some, None, ℤ, refl, sym, ◌∙◌, ap, length, take, drop, get_or, List, [], ◌∷◌, ◌||◌, ◌≤◌, arith}
use Rattle.std.specs.List.{list_any}
use Rattle.std.proofs.lemmas.List.{at_drop_all, take_rest}
use Rattle.solo_base.specs.declared.outcome.ProgResult.TheVariants as result
use Rattle.pascal_tree.specs.Statement.{Labels, Statement, while_do, repeat_until, for_do, branch}
use Rattle.pascal_tree.specs.declared.statement.Branch.{Branch}
use Rattle.pascal_tree.specs.SeenStatement.{seen_branch, seen_branches}
use Rattle.pascal_mean.specs.Situation.{Situation, Course, Gives, choose, end_with}
use Rattle.pascal_mean.specs.Variables.{assigned}
use Rattle.pascal_mean.specs.Expressions.{Setting, is_true, is_false}
use Rattle.pascal_mean.specs.Statements.{is_labelled, after_statement, after_sequence, after_branch, after_branches}
use Rattle.pascal_evaluate.specs.declared.stop.Stop.{Stop}
use Rattle.pascal_evaluate.specs.declared.stop.Stop.TheVariants as stop
use Rattle.pascal_evaluate.specs.Ran.{IsStopped}
use Rattle.pascal_evaluate.specs.Turns.{while_turn, repeat_turn, for_turn, while_loop, repeat_loop, for_loop}
use Rattle.pascal_evaluate.proofs.Parts.{gives_over, ends_here}
use Rattle.pascal_evaluate.proofs.Operands.{opens_at}
use Rattle.pascal_evaluate.proofs.Loops.{loop_stops, loop_goes, loop_ends, count_stops, count_goes, count_ends}

-- a part that gives a value isn't over
not_stopped : {A B : Type 0} (v : A) (before : Situation) (whole : Course B) (why : Stop) (now : Situation)
    → IsStopped (Gives v before) why now → IsStopped whole why now
not_stopped v before whole (stop.Over r) now stopped = absurd (gives_over v before stopped.0 stopped.1)
not_stopped v before whole stop.NoMemory now stopped = tt

other_goes : (one other : Situation) → Gives false one ≡ Gives true other → ⊥
other_goes one other is = cc

other_ends : (one other : Situation) (whole : Course (Unit {0})) → Gives tt one ≡ whole → Gives false one ≡ Gives false other → whole ≡ Gives tt other
other_ends one other whole left is = cc

other_counts : (next : ℤ) (one other : Situation) → Gives None one ≡ Gives (Some next) other → ⊥
other_counts next one other is = cc

other_stays : (none : Course (Option ℤ)) (one other : Situation) (whole : Course (Unit {0})) → Gives tt one ≡ whole → none ≡ Gives None one
    → none ≡ Gives None other → whole ≡ Gives tt other
other_stays none one other whole left is also = cc

-- ---- CASE

-- where the first item isn't such a one, one of the others has to be
pub any_other : {A : Type 0} (p : A → Bool) (xs : List A) (x : A) → 1 ≤ length xs → x ≡ get_or xs 0 x → p x ≡ false
    → list_any p (take (length xs - 1) (drop 1 xs)) ≡ list_any p xs
any_other p [] x some is none = absurd (omega (arith, some))
any_other p (y ∷ others) x some is none =
    ap (list_any p) (take_rest (y ∷ others) 1) ∙ sym (ap (λ b. b || list_any p others) (ap p (sym is) ∙ none))

module _ (c : Setting) (v : ℤ) (xs : List (ℕ × Branch)) (i : ℕ) (before : Situation) (whole : Course (Unit {0}))
    (left : after_branches c v (seen_branches (drop i xs)) before ≡ whole) where
  -- no branch is left
  pub branches_over : length xs ≤ i → IsStopped whole (stop.Over result.RangeError) before
  branches_over past =
      let is : whole ≡ end_with result.RangeError before =
      sym left ∙ at_drop_all (λ more. after_branches c v (seen_branches more) before) xs i past in
      rw is (ends_here result.RangeError before)

  module _ (x : ℕ × Branch) (less : i < length xs) (is : x ≡ get_or xs i x) (labels : Labels) (colon : ℕ) (s : Statement)
      (made : seen_branch x.1 ≡ branch labels colon s) where
    opened : whole ≡ choose (is_labelled c.scope labels v) (after_statement c s) (after_branches c v (seen_branches (drop (i + 1) xs))) before
    opened =
        sym left ∙ opens_at (λ more. after_branches c v (seen_branches more) before) xs i x less is
        ∙ ap (λ b. after_branch c v b (after_branches c v (seen_branches (drop (i + 1) xs))) before) made

    pub branch_taken : is_labelled c.scope labels v ≡ true → whole ≡ after_statement c s before
    branch_taken test =
        opened ∙ ap (λ b. choose b (after_statement c s) (after_branches c v (seen_branches (drop (i + 1) xs))) before) test

    pub branch_passed : is_labelled c.scope labels v ≡ false → after_branches c v (seen_branches (drop (i + 1) xs)) before ≡ whole
    branch_passed test =
        sym (opened ∙ ap (λ b. choose b (after_statement c s) (after_branches c v (seen_branches (drop (i + 1) xs))) before) test)

-- ---- WHILE

pub while_stops : (c : Setting) (s : Statement) (spent : ℕ) (before : Situation) (whole : Course (Unit {0}))
    → while_loop c s (c.limit - spent) before ≡ whole → spent < c.limit → (why : Stop) (now : Situation)
    → IsStopped (while_turn c s before) why now → IsStopped whole why now
while_stops c (while_do line e do_line s) spent before whole left less =
    loop_stops c.limit spent line (is_true c e) (after_statement c s) before whole left less
while_stops c other spent before whole left less = not_stopped false before whole

pub while_goes : (c : Setting) (s : Statement) (spent : ℕ) (before : Situation) (whole : Course (Unit {0}))
    → while_loop c s (c.limit - spent) before ≡ whole → spent < c.limit → (now : Situation)
    → while_turn c s before ≡ Gives true now → while_loop c s (c.limit - (spent + 1)) now ≡ whole
while_goes c (while_do line e do_line s) spent before whole left less now gives =
    loop_goes c.limit spent line (is_true c e) (after_statement c s) before whole left less now gives
while_goes c other spent before whole left less now gives = absurd (other_goes _ _ gives)

pub while_ends : (c : Setting) (s : Statement) (spent : ℕ) (before : Situation) (whole : Course (Unit {0}))
    → while_loop c s (c.limit - spent) before ≡ whole → spent < c.limit → (now : Situation)
    → while_turn c s before ≡ Gives false now → whole ≡ Gives tt now
while_ends c (while_do line e do_line s) spent before whole left less now gives =
    loop_ends c.limit spent line (is_true c e) (after_statement c s) before whole left less now gives
while_ends c other spent before whole left less now gives = other_ends before now whole left gives

-- ---- REPEAT

pub repeat_stops : (c : Setting) (s : Statement) (spent : ℕ) (before : Situation) (whole : Course (Unit {0}))
    → repeat_loop c s (c.limit - spent) before ≡ whole → spent < c.limit → (why : Stop) (now : Situation)
    → IsStopped (repeat_turn c s before) why now → IsStopped whole why now
repeat_stops c (repeat_until line s until_line e) spent before whole left less =
    loop_stops c.limit spent line (is_false c e) (after_sequence c s) before whole left less
repeat_stops c other spent before whole left less = not_stopped false before whole

pub repeat_goes : (c : Setting) (s : Statement) (spent : ℕ) (before : Situation) (whole : Course (Unit {0}))
    → repeat_loop c s (c.limit - spent) before ≡ whole → spent < c.limit → (now : Situation)
    → repeat_turn c s before ≡ Gives true now → repeat_loop c s (c.limit - (spent + 1)) now ≡ whole
repeat_goes c (repeat_until line s until_line e) spent before whole left less now gives =
    loop_goes c.limit spent line (is_false c e) (after_sequence c s) before whole left less now gives
repeat_goes c other spent before whole left less now gives = absurd (other_goes _ _ gives)

pub repeat_ends : (c : Setting) (s : Statement) (spent : ℕ) (before : Situation) (whole : Course (Unit {0}))
    → repeat_loop c s (c.limit - spent) before ≡ whole → spent < c.limit → (now : Situation)
    → repeat_turn c s before ≡ Gives false now → whole ≡ Gives tt now
repeat_ends c (repeat_until line s until_line e) spent before whole left less now gives =
    loop_ends c.limit spent line (is_false c e) (after_sequence c s) before whole left less now gives
repeat_ends c other spent before whole left less now gives = other_ends before now whole left gives

-- ---- FOR

pub for_stops : (c : Setting) (s : Statement) (spent : ℕ) (counter last : ℤ) (before : Situation) (whole : Course (Unit {0}))
    → for_loop c s (c.limit - spent) counter last before ≡ whole → spent < c.limit → (why : Stop) (now : Situation)
    → IsStopped (for_turn c s counter last before) why now → IsStopped whole why now
for_stops c (for_do line x becomes from way way_line to do_line s) spent counter last before whole left less =
    count_stops c.limit spent line way (assigned (c.scope x.letters) c.number x.letters) (after_statement c s) last counter before whole left less
for_stops c other spent counter last before whole left less = not_stopped None before whole

pub for_goes : (c : Setting) (s : Statement) (spent : ℕ) (counter last : ℤ) (before : Situation) (whole : Course (Unit {0}))
    → for_loop c s (c.limit - spent) counter last before ≡ whole → spent < c.limit → (next : ℤ) (now : Situation)
    → for_turn c s counter last before ≡ Gives (Some next) now → for_loop c s (c.limit - (spent + 1)) next last now ≡ whole
for_goes c (for_do line x becomes from way way_line to do_line s) spent counter last before whole left less next now gives =
    count_goes c.limit spent line way (assigned (c.scope x.letters) c.number x.letters) (after_statement c s) last counter before whole left less next
    now gives
for_goes c other spent counter last before whole left less next now gives = absurd (other_counts next _ _ gives)

pub for_ends : (c : Setting) (s : Statement) (spent : ℕ) (counter last : ℤ) (before : Situation) (whole : Course (Unit {0}))
    → for_loop c s (c.limit - spent) counter last before ≡ whole → spent < c.limit → (now : Situation)
    → for_turn c s counter last before ≡ Gives None now → whole ≡ Gives tt now
for_ends c (for_do line x becomes from way way_line to do_line s) spent counter last before whole left less now gives =
    count_ends c.limit spent line way (assigned (c.scope x.letters) c.number x.letters) (after_statement c s) last counter before whole left less now
    gives
for_ends c other spent counter last before whole left less now gives = other_stays _ before now whole left refl gives
