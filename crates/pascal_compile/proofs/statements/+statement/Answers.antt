use Rattle.std.specs.Prelude.{slice_set}
use Rattle.std.proofs.Common.{◌≡◌, ℕ, ◌+◌, ◌<◌, ◌^◌, List, [], ◌∷◌, ◌++◌, Some, length, drop, sym, ap, subst, ◌∙◌, arith, rules, refl}
use Rattle.stack_code.specs.declared.table.Op.{Op}
use Rattle.stack_code.specs.declared.instr.Instr.{Instr}
use Rattle.pascal_tree.specs.Statement.{if_else, while_do, repeat_until, for_do, case_of, branch}
use Rattle.pascal_tree.specs.SeenExpression.{seen_expr}
use Rattle.pascal_tree.specs.SeenStatement.{if_of, seen_if, seen_statement, seen_sequence, seen_statements, seen_while, seen_repeat, seen_for, seen_case, seen_branch, seen_branches, seen_labels}
use Rattle.pascal_tree.specs.declared.statement.While.{out-While}
use Rattle.pascal_tree.specs.declared.statement.If.{out-If}
use Rattle.pascal_tree.specs.declared.statement.Case.{out-Case}
use Rattle.pascal_tree.specs.declared.statement.For.{out-For}
use Rattle.pascal_tree.specs.declared.statement.Repeat.{out-Repeat}
use Rattle.pascal_tree.specs.declared.statement.Branch.{out-Branch}
use Rattle.pascal_tree.specs.declared.statement.While.{the_lemmas}
use Rattle.pascal_code.specs.Instructions.{tick, bare, load_word, store_word}
use Rattle.pascal_code.specs.Expressions.{expr_code}
use Rattle.pascal_code.specs.Statements.{jump, reach_op, before_op, step_op, counter_test, counter_step, label_tests, label_tests_size, statement_code, sequence_code, statements_code, branch_code, branches_code}
use Rattle.pascal_code.specs.Code.{nested_words, nested_in_statements, nested_in_branch, nested_in_branches}
use Rattle.pascal_code.specs.Senses.{Site}
use Rattle.pascal_code.specs.Names.{store_code}
use Rattle.pascal_compile.specs.Seen.{seen_sense}
use Rattle.pascal_compile.specs.Landed.{all_landed, AreBefore}
use Rattle.pascal_compile.specs.SeenSite.{seen_site}
use Rattle.pascal_check.proofs.SeenParts.{seen_if_is, seen_otherwise}
use Rattle.pascal_check.proofs.Turns.{next_item}
use Rattle.pascal_compile.proofs.StatementsJoined.{next_code, first_fits, second_fits, second_fits_with_one}
use Rattle.pascal_compile.proofs.Landing.{if_lands, else_lands, while_lands, repeat_lands}
use Rattle.pascal_compile.proofs.LandingInLoops.{branch_lands, case_lands, for_lands}
use Rattle.pascal_compile.proofs.LandingTogether.{joined, still_before, appended_length, next_branch_landed, next_branch_before}
use Rattle.pascal_code.proofs.SizesOfStatements.{labels_sized}
use Rattle.pascal_compile.proofs.statements.+statement.Goals as goal

-- an instruction that was emitted is the one that was made
emitted : (before after : List Instr) (made wanted : Instr) → after ≡ before ++ made ∷ [] → made ≡ wanted → after ≡ before ++ wanted ∷ []
emitted before after made wanted e is = e ∙ ap (λ i. before ++ i ∷ []) is

-- a place that is known by another name
placed : (whole after : List Instr) (n m : ℕ) (y : Instr) → after ≡ slice_set whole n y → n ≡ m → after ≡ slice_set whole m y
placed whole after n m y e is = e ∙ ap (λ k. slice_set whole k y) is

pub while_loop-returns : goal.while_loop-returns
while_loop-returns t c =
    let w = out-While c.args.repeated.now in
    let site = seen_site c.args.site.now in
    let old = c.args.code.now in
    let seen : seen_while c.args.repeated.now ≡ while_do w.line (seen_expr w.test) w.does (seen_statement w.turn) = search (rules, the_lemmas) in
    while_lands old (expr_code site (seen_expr w.test)) (tick w.line)
    (λ n. statement_code site c.args.free (seen_statement w.turn) n) _ _ _ _ _ _ _
    (emitted _ _ _ _ c.in_ok-emit.ensures c.tick.ensures)
    (emitted _ _ _ _ c.in_ok-emit-2.ensures c.tick-2.ensures)
    c.in_ok-expr.ensures c.in_ok-jump_if_false.ensures c.in_ok-statement.ensures
    (emitted _ _ _ _ c.in_ok-jump.ensures (ap jump c.place-turn.ensures))
    (placed _ _ _ _ _ c.land_test.ensures c.place-out.ensures)
    ∙ ap (λ s. old ++ statement_code site c.args.free s (length old)) (sym seen)

pub repeat_loop-returns : goal.repeat_loop-returns
repeat_loop-returns t c =
    let w = out-Repeat c.args.repeated.now in
    let site = seen_site c.args.site.now in
    let old = c.args.code.now in
    let seen : seen_repeat c.args.repeated.now ≡ repeat_until w.line (seen_sequence w.turn) w.until (seen_expr w.test) = search (rules, the_lemmas) in
    repeat_lands old (expr_code site (seen_expr w.test)) (tick w.line)
    (λ n. sequence_code site c.args.free (seen_sequence w.turn) n) _ _ _ _ _ _ _ _ _ _
    (emitted _ _ _ _ c.in_ok-emit.ensures c.tick.ensures)
    c.in_ok-jump.ensures
    (emitted _ _ _ _ c.in_ok-emit-2.ensures c.tick-2.ensures)
    c.in_ok-expr.ensures
    (emitted _ _ _ _ c.in_ok-emit-3.ensures c.bare.ensures)
    c.in_ok-jump_if_false.ensures
    (placed _ _ _ _ _ c.land_jump.ensures c.place-first.ensures)
    c.in_ok-sequence.ensures
    (emitted _ _ _ _ c.in_ok-jump-2.ensures (ap jump c.place-turn.ensures))
    (placed _ _ _ _ _ c.land_test.ensures c.place-out.ensures)
    ∙ ap (λ s. old ++ statement_code site c.args.free s (length old)) (sym seen)

pub branch-returns-clause-code : goal.branch-returns-clause-code
branch-returns-clause-code t c =
    let b = out-Branch c.args.b.now in
    let site = seen_site c.args.site.now in
    let old = c.args.code.now in
    let labels = seen_labels b.labels in
    let found = length old + label_tests_size labels + 1 in
    let seen : seen_branch c.args.b.now ≡ branch labels b.colon (seen_statement b.statement) = search (rules, the_lemmas) in
    branch_lands old (label_tests site c.args.free found labels)
    (λ n. statement_code site (c.args.free + 1) (seen_statement b.statement) n) (label_tests_size labels) _ _ _ _ _ _
    (labels_sized site c.args.free found labels)
    c.in_ok-label_tests.ensures c.in_ok-jump.ensures c.in_ok-statement.ensures c.in_ok-jump-2.ensures
    (placed _ _ _ _ _ c.land_jump.ensures c.place-end.ensures)
    (placed _ _ _ _ _ c.land_jump-2.ensures c.place-next.ensures)
    ∙ ap (λ s. old ++ branch_code site c.args.free s (λ place. []) (length old)) (sym seen)

pub if_alone-returns : goal.if_alone-returns
if_alone-returns t c =
    let k = out-If c.args.choice.now in
    let site = seen_site c.args.site.now in
    if_lands c.args.code.now (expr_code site (seen_expr k.test)) (tick k.line)
    (λ n. statement_code site c.args.free (seen_statement k.first) n) _ _ _ _ _
    (emitted _ _ _ _ c.in_ok-emit.ensures c.tick.ensures)
    c.in_ok-expr.ensures c.in_ok-jump_if_false.ensures c.in_ok-statement.ensures
    (placed _ _ _ _ _ c.land_test.ensures c.place-past.ensures)

pub case-returns : goal.case-returns
case-returns t c =
    let k = out-Case c.args.choice.now in
    let site = seen_site c.args.site.now in
    let old = c.args.code.now in
    let seen : seen_case c.args.choice.now ≡ case_of k.line (seen_expr k.selector) k.of (seen_branch k.first) (seen_branches c.deref.result.now) k.end
    = search (rules, the_lemmas) in
    let later : ℕ → List Instr = branches_code site c.args.free (seen_branches c.deref.result.now) in
    let branches : ℕ → List Instr = λ n. branch_code site c.args.free (seen_branch k.first) later n in
    let pushed : c.push.new.self.items ≡ c.in_ok-end.end ∷ [] = search rules in
    case_lands old (expr_code site (seen_expr k.selector)) (tick k.line) (store_word site.owner c.args.free) branches _ _ _ _
    (emitted _ _ _ _ c.in_ok-emit.ensures c.tick.ensures)
    c.in_ok-expr.ensures
    (emitted _ _ _ _ c.in_ok-emit-2.ensures (c.store_word.ensures ∙ ap (λ o. store_word o c.args.free) c.owner.ensures))
    (c.land_all.ensures
    ∙ ap (all_landed c.no_branch.new.code) c.deref-2.ensures.value
    ∙ ap (λ w. all_landed w c.more_branches.new.ends.items) c.in_ok-no_branch.ensures
    ∙ c.in_ok-more_branches.ensures.code
    ∙ ap (all_landed _) pushed
    ∙ joined site c.args.free (seen_branch k.first) later _ _ _ _ c.in_ok-end.end c.in_ok-end.ensures.code c.in_ok-end.ensures.end refl refl)
    ∙ ap (λ s. old ++ statement_code site c.args.free s (length old)) (sym seen)

-- what was emitted is that of another name of the same
swapped : {A : Type 0} (f : A → List Instr) (before after : List Instr) (a b : A) → after ≡ before ++ f a → a ≡ b → after ≡ before ++ f b
swapped f before after a b e is = e ∙ ap (λ x. before ++ f x) is

-- a test of a counter with the operation that was meant
tested : (site : Site) (free : ℕ) (before after : List Instr) (o p : Op)
    → after ≡ before ++ counter_test site o free 0 → o ≡ p → after ≡ before ++ counter_test site p free 0
tested site free before after o p e is = e ∙ ap (λ q. before ++ counter_test site q free 0) is

pub for_loop-returns : goal.for_loop-returns
for_loop-returns t c =
    let k = out-For c.args.repeated.now in
    let site = seen_site c.args.site.now in
    let old = c.args.code.now in
    let free = c.args.free in
    let seen : seen_for c.args.repeated.now ≡ for_do k.line k.control k.becomes (seen_expr k.from) k.direction k.toward
    (seen_expr k.to) k.does (seen_statement k.turn)
    = search (rules, the_lemmas) in
    for_lands old (expr_code site (seen_expr k.from)) (expr_code site (seen_expr k.to))
    (store_code site.result (site.names (k.control).letters)) (tick k.line)
    (load_word site.owner free) (load_word site.owner (free + 1)) (store_word site.owner free) (store_word site.owner (free + 1))
    (bare (reach_op k.direction)) (bare (before_op k.direction)) (bare (step_op k.direction))
    (λ n. statement_code site (free + 2) (seen_statement k.turn) n) _ _ _ _ _ _ _ _ _ _ _ _
    c.in_ok-for_bounds.ensures
    (tested site free _ _ _ _ c.in_ok-none.ensures.code c.reach_op.ensures) c.in_ok-none.ensures.jump
    (emitted _ _ _ _ c.in_ok-emit.ensures c.tick.ensures)
    (emitted _ _ _ _ c.in_ok-emit-2.ensures (c.load_word.ensures ∙ ap (λ o. load_word o free) c.owner.ensures))
    (swapped (λ s. store_code site.result s) _ _ _ _
    (swapped (λ r. store_code r (seen_sense c.find_name.result)) _ _ _ _ c.in_ok-store.ensures c.answer.ensures)
    c.find_name.ensures.sense)
    c.in_ok-statement.ensures
    (tested site free _ _ _ _ c.in_ok-last.ensures.code c.before_op.ensures) c.in_ok-last.ensures.jump
    (swapped (λ n. counter_step site k.direction free n) _ _ _ _ c.in_ok-counter_step.ensures c.place-turn.ensures)
    c.land_test.ensures c.land_test-2.ensures
    ∙ ap (λ s. old ++ statement_code site free s (length old)) (sym seen)

-- ---- Statements, one behind another

pub statements-statement-requires : goal.statements-statement-requires
statements-statement-requires t c =
    let rest = c.args.rest.now in
    let k = c.loop-later.later-index in
    let x = c.loop-later-item.result in
    let below : k < length rest = omega arith in (
      search (rules, the_lemmas),
      first_fits c.args.free (nested_words (seen_statement x.1)) (nested_in_statements (seen_statements (drop (k + 1) rest))) (2 ^ 16)
          (subst (λ l. c.args.free + nested_in_statements (seen_statements l) < 2 ^ 16)
          (next_item rest k x c.loop-later-item.is below) c.loop-later.invariant.words),
    )

pub statements-loop-later-preserved : goal.statements-loop-later-preserved
statements-loop-later-preserved t c =
    let site = seen_site c.args.site.now in
    let free = c.args.free in
    let rest = c.args.rest.now in
    let k = c.loop-later.later-index in
    let x = c.loop-later-item.result in
    let old = c.loop-later.code in
    let below : k < length rest = omega arith in
    let split : drop k rest ≡ x ∷ drop (k + 1) rest = next_item rest k x c.loop-later-item.is below in
    let more = seen_statements (drop (k + 1) rest) in
    record {
      code = next_code site free (seen_statement x.1) x.0 more old _ c.in_ok-statement.ensures
          ∙ ap (λ l. old ++ statements_code site free (seen_statements l) (length old)) (sym split) ∙ c.loop-later.invariant.code;
      words = second_fits free (nested_words (seen_statement x.1)) (nested_in_statements more) (2 ^ 16)
          (subst (λ l. free + nested_in_statements (seen_statements l) < 2 ^ 16) split c.loop-later.invariant.words);
    }

-- ---- Branches

pub more_branches-loop-later-preserved : goal.more_branches-loop-later-preserved
more_branches-loop-later-preserved t c =
    let site = seen_site c.args.site.now in
    let free = c.args.free in
    let rest = c.args.rest.now in
    let k = c.loop-later.later-index in
    let x = c.loop-later-item.result in
    let old = c.loop-later.code in
    let ends = c.loop-later.ends.items in
    let end = c.in_ok-end.end in
    let below : k < length rest = omega arith in
    let split : drop k rest ≡ x ∷ drop (k + 1) rest = next_item rest k x c.loop-later-item.is below in
    let later : ℕ → List Instr = branches_code site free (seen_branches (drop (k + 1) rest)) in
    let pushed : c.push.new.self.items ≡ ends ++ end ∷ [] = search rules in
    record {
      code = next_branch_landed site free (seen_branch x.1) later old _ ends _ end c.in_ok-end.ensures.code c.in_ok-end.ensures.end pushed
          ∙ ap (λ l. all_landed (old ++ branches_code site free (seen_branches l) (length old)) ends) (sym split)
          ∙ c.loop-later.invariant.code;
      words = second_fits_with_one free (nested_in_branch (seen_branch x.1)) (nested_in_branches (seen_branches (drop (k + 1) rest))) (2 ^ 16)
          (subst (λ l. free + nested_in_branches (seen_branches l) + 1 < 2 ^ 16) split c.loop-later.invariant.words);
      before = next_branch_before old _ _ ends _ end c.in_ok-end.ensures.code c.in_ok-end.ensures.end pushed c.loop-later.invariant.before;
    }

pub case-land_all-requires : goal.case-land_all-requires
case-land_all-requires t c =
    subst (AreBefore (length c.no_branch.new.code)) (sym c.deref-2.ensures.value)
    (still_before c.more_branches.new.ends.items _ _ (appended_length _ _ _ c.in_ok-no_branch.ensures) c.in_ok-more_branches.ensures.before)

-- ---- IF with ELSE

pub conditional-returns-in_ok-statement-in-Some-2 : goal.conditional-returns-in_ok-statement-in-Some-2
conditional-returns-in_ok-statement-in-Some-2 t c =
    let k = out-If c.args.choice.now in
    let site = seen_site c.args.site.now in
    let free = c.args.free in
    let old = c.args.code.now in
    let line = c.in-Some.field-0-0 in
    let second = c.in-Some.second in
    let is : k.otherwise ≡ Some (line, second) = search rules in
    let made : seen_if c.args.choice.now ≡ if_else k.line (seen_expr k.test) k.then (seen_statement k.first) line (seen_statement second)
    = seen_if_is c.args.choice.now
    ∙ ap (λ o. if_of k.line (seen_expr k.test) k.then (seen_statement k.first) (seen_otherwise o)) is in
    else_lands old (expr_code site (seen_expr k.test)) (tick k.line)
    (λ n. statement_code site free (seen_statement k.first) n) (λ n. statement_code site free (seen_statement second) n) _ _ _ _ _ _ _ _
    (emitted _ _ _ _ c.in_ok-emit-in-Some.ensures c.tick.ensures)
    c.in_ok-expr-in-Some.ensures c.in_ok-jump_if_false-in-Some.ensures c.in_ok-statement-in-Some.ensures c.in_ok-jump-in-Some.ensures
    (placed _ _ _ _ _ c.land_test.ensures c.place-past.ensures)
    c.in_ok-statement-in-Some-2.ensures
    (placed _ _ _ _ _ c.land_jump.ensures c.place-out.ensures)
    ∙ ap (λ s. old ++ statement_code site free s (length old)) (sym made)
