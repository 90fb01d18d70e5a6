-- The code of a statement does what it means.
use Rattle.std.proofs.Common.{◌≡◌, ℕ, zero, suc, ◌+◌, ◌-◌, ◌*◌, ◌≤◌, ◌<◌, Bool, true, false, not, ◌||◌, Option, Some, None, List, [], ◌∷◌, ◌++◌, length, map, ℤ, pos, negsuc, refl, sym, ◌∙◌, ap, subst, arith}
use Rattle.std.proofs.lemmas.Bool.{le-ltb, eq-eqb, eqb-true, false_from_ne_true}
use Rattle.std.proofs.lemmas.Bool.Decides.{Decides-int_eq}
use Rattle.std.specs.Prelude.{slice_get, if◌then◌else◌, ◌==◌, nat_lt}
use Rattle.std.specs.Ordering.{int_eq}
use Rattle.std.specs.List.{list_any}
use Rattle.solo_base.specs.declared.system_call.SysReply.{SysReply}
use Rattle.solo_base.specs.Arithmetic.{truth, holds}
use Rattle.stack_code.specs.declared.table.Op.TheVariants as op
use Rattle.stack_code.specs.declared.instr.Instr.{Instr}
use Rattle.stack_code.specs.CodeLists.{CodeLists}
use Rattle.stack_machine.specs.States.{Activation}
use Rattle.stack_machine.specs.Activations.{words_from}
use Rattle.stack_machine.specs.Effects.{replace}
use Rattle.stack_machine.specs.Machine.{effect}
use Rattle.pascal_tree.specs.declared.constant.Constant.{Constant}
use Rattle.pascal_tree.specs.declared.statement.Direction.{Direction}
use Rattle.pascal_tree.specs.declared.statement.Direction.TheVariants as direction
use Rattle.pascal_tree.specs.Word.{NameAt}
use Rattle.pascal_tree.specs.Expression.{Expr, Arguments}
use Rattle.pascal_tree.specs.Statement.{Labels, Statement, empty, assign, call, compound, if_then, if_else, while_do, repeat_until, for_do, case_of, Body, body, Sequence, sequence, Statements, no_statement, next_statement, Branch, branch, Branches, no_branch, next_branch}
use Rattle.pascal_mean.specs.Means.{Means, Owner, OfProgram, OfRoutine}
use Rattle.pascal_mean.specs.Means as meant
use Rattle.pascal_mean.specs.Scope.{Scope, constant_number}
use Rattle.pascal_mean.specs.Situation.{Situation, Course, Part, Gives, and_then, choose, number_or_overflow, take_tick, time_is_up}
use Rattle.pascal_mean.specs.Variables.{assigned, stored_element, array_named}
use Rattle.pascal_mean.specs.Calls.{Given, passing_named}
use Rattle.pascal_mean.specs.Expressions.{Setting, call_value, expr_value, index_value, arguments_given, is_true, is_false}
use Rattle.pascal_mean.specs.Statements.{after_loop, within_reach, before_last, next_count, after_turns, is_labelled, after_statement, after_body, after_sequence, after_statements, after_branch, after_branches}
use Rattle.pascal_code.specs.Frames.{declared_words}
use Rattle.pascal_code.specs.Senses.{Sense, sense, Variable, Reference, Site, constant_value}
use Rattle.pascal_code.specs.Instructions.{bare, push, tick, store_word}
use Rattle.pascal_code.specs.Names.{store_code, store_element_code}
use Rattle.pascal_code.specs.Calls.{passing_of, given_arguments, call_code}
use Rattle.pascal_code.specs.Expressions.{expr_code, index_code, arguments_code}
use Rattle.pascal_code.specs.Statements.{load_own, store_own, jump, jump_if_false, call_statement_code, reach_op, before_op, step_op, counter_test, counter_step, label_test, more_label_tests, label_tests, label_tests_size, statement_code, body_code, sequence_code, statements_code, branch_code, branches_code}
use Rattle.pascal_code.proofs.SensesAgree.{passing_alike, constants_alike}
use Rattle.code_law.specs.Ties.{Held}
use Rattle.code_law.specs.Named.{Named}
use Rattle.code_law.specs.Suits.{Routines, IsHeld, CanStore, CanIndex, CanCall, IsScalar, SuitsExpr, SuitsCall, AreHeld, SuitsLabels, SuitsStatement, SuitsBody, SuitsSequence, SuitsStatements, SuitsBranch, SuitsBranches}
use Rattle.code_law.proofs.Standing.{Stand, parted, stands_to}
use Rattle.code_law.proofs.Agreeing.{hold}
use Rattle.code_law.proofs.Here.{Fixed, own_number, state_at, Here, After, after, so, from, on_floor, on_less, Kept}
use Rattle.code_law.proofs.Steps.{number_pushed, operated, ticked, ticked_on, jumped, decided}
use Rattle.code_law.proofs.Indexes.{Inside}
use Rattle.code_law.proofs.Elements.{indexed}
use Rattle.code_law.proofs.Loads.{word_loaded}
use Rattle.code_law.proofs.Stores.{held_stored, answer_stored, element_stored}
use Rattle.code_law.proofs.Variables.{place_stored, place_is}
use Rattle.code_law.proofs.Given.{AreGiven}
use Rattle.code_law.proofs.Expressions.{CallsRun, setting_in, expr_runs, index_runs, arguments_run, arguments_names, arguments_are, called_by}

-- ---- What is held

hold_here : (d i : ℕ) (v : ℤ) (held : Held) → hold d i v held d i ≡ Some v
hold_here d i v held = ap (λ b. if b then (if i == i then Some v else held d i) else held d i) (eq-eqb d d refl)
    ∙ ap (λ b. if b then Some v else held d i) (eq-eqb i i refl)

hold_depth : (d i j : ℕ) (v : ℤ) (held : Held) → hold d i v held d j ≡ (if j == i then Some v else held d j)
hold_depth d i j v held = ap (λ b. if b then (if j == i then Some v else held d j) else held d j) (eq-eqb d d refl)

hold_other : (d i j : ℕ) (v : ℤ) (held : Held) → (j ≡ i → ⊥) → hold d i v held d j ≡ held d j
hold_other d i j v held apart = hold_depth d i j v held ∙ ap (λ b. if b then Some v else held d j) (false_from_ne_true (j == i) (λ e. apart (eqb-true j i e)))

hold_below : (d e i j : ℕ) (v : ℤ) (held : Held) → (e ≡ d → ⊥) → hold d i v held e j ≡ held e j
hold_below d e i j v held apart = ap (λ b. if b then (if j == i then Some v else held e j) else held e j)
    (false_from_ne_true (e == d) (λ t. apart (eqb-true e d t)))

-- nothing is held from this depth on
abbrev pub Shallow : ℕ → ℕ → Kept → Type 0
Shallow d n k = (i : ℕ) (v : ℤ) → k.held d i ≡ Some v → i < n

-- what is held is held on
abbrev Still : Held → Held → Type 0
Still before now = (d i : ℕ) (v : ℤ) → before d i ≡ Some v → now d i ≡ Some v

still_more : (d n : ℕ) (u : ℤ) (before now : Held) → ((i : ℕ) (v : ℤ) → before d i ≡ Some v → i < n) → Still before now → Still before (hold d n u now)
still_more d n u before now shallow still e i v at = by_number (e == d) refl
  where
    by_number : (b : Bool) → (e == d) ≡ b → hold d n u now e i ≡ Some v
    by_number true t =
        let one : e ≡ d = eqb-true e d t in
        let here : before d i ≡ Some v = ap (λ m. before m i) (sym one) ∙ at in
        subst (λ m. hold d n u now m i ≡ Some v) (sym one) (hold_other d n i u now (λ same. omega (arith, same, shallow i v here)) ∙ still d i v here)
    by_number false t = hold_below d e n i u now (λ same. not_same same t) ∙ still e i v at
      where
        not_same : e ≡ d → (e == d) ≡ false → ⊥
        not_same same f = let x : true ≡ false = sym (eq-eqb e d same) ∙ f in cc

shallow_more : (d n : ℕ) (u : ℤ) (held : Held) (m : ℕ) → n < m → ((i : ℕ) (v : ℤ) → held d i ≡ Some v → i < m) → (i : ℕ) (v : ℤ) → hold d n u held d i ≡ Some v
    → i < m
shallow_more d n u held m low shallow i v at = by_depth (i == n) refl (sym (hold_depth d n i u held) ∙ at)
  where
    by_depth : (b : Bool) → (i == n) ≡ b → (if b then Some u else held d i) ≡ Some v → i < m
    by_depth true e at = omega (arith, low, eqb-true i n e)
    by_depth false e at = shallow i v at

deeper : (n m : ℕ) → n ≤ m → (held : Held) (d : ℕ) → ((i : ℕ) (v : ℤ) → held d i ≡ Some v → i < n) → (i : ℕ) (v : ℤ) → held d i ≡ Some v → i < m
deeper n m low held d shallow i v at = omega (arith, low, shallow i v at)

-- ---- Tests

truth_holds : (b : Bool) → holds (truth b) ≡ b
truth_holds true = refl
truth_holds false = refl

choose_is : {A : Type 0} (b : Bool) (first second : Part A) (now : Situation) → choose b first second now ≡ (if b then first now else second now)
choose_is true first second now = refl
choose_is false first second now = refl

reach_by : (c : CodeLists) (limit : ℕ) (way : Direction) (routine : ℕ) (below : List Activation) (p line : ℕ) (words : List ℤ) (left right : ℤ) (rest : List ℤ)
    (ticks : ℕ)
    → effect c limit (state_at routine below p line words (right ∷ left ∷ rest) ticks) (reach_op way) 0 0 ≡ replace
    (state_at routine below p line words (right ∷ left ∷ rest) ticks) rest (Some (truth (within_reach way left right)))
unfolding effect
reach_by c limit direction.To routine below p line words left right rest ticks = refl
reach_by c limit direction.Downto routine below p line words left right rest ticks = refl

before_by : (c : CodeLists) (limit : ℕ) (way : Direction) (routine : ℕ) (below : List Activation) (p line : ℕ) (words : List ℤ) (left right : ℤ) (rest : List ℤ)
    (ticks : ℕ)
    → effect c limit (state_at routine below p line words (right ∷ left ∷ rest) ticks) (before_op way) 0 0 ≡ replace
    (state_at routine below p line words (right ∷ left ∷ rest) ticks) rest (Some (truth (before_last way left right)))
unfolding effect
before_by c limit direction.To routine below p line words left right rest ticks = refl
before_by c limit direction.Downto routine below p line words left right rest ticks = refl

step_by : (c : CodeLists) (limit : ℕ) (way : Direction) (routine : ℕ) (below : List Activation) (p line : ℕ) (words : List ℤ) (v : ℤ) (rest : List ℤ)
    (ticks : ℕ)
    → effect c limit (state_at routine below p line words (v ∷ rest) ticks) (step_op way) 0 0 ≡ replace
    (state_at routine below p line words (v ∷ rest) ticks) rest (next_count way v)
unfolding effect
step_by c limit direction.To routine below p line words v rest ticks = refl
step_by c limit direction.Downto routine below p line words v rest ticks = refl

differ_by : (c : CodeLists) (limit : ℕ) (routine : ℕ) (below : List Activation) (p line : ℕ) (words : List ℤ) (left right : ℤ) (rest : List ℤ) (ticks : ℕ)
    → effect c limit (state_at routine below p line words (right ∷ left ∷ rest) ticks) op.Ne 0 0 ≡ replace
    (state_at routine below p line words (right ∷ left ∷ rest) ticks) rest (Some (truth (not (int_eq left right))))
unfolding effect
differ_by c limit routine below p line words left right rest ticks = refl

negated_by : (c : CodeLists) (limit routine : ℕ) (below : List Activation) (p line : ℕ) (words : List ℤ) (v : ℤ) (rest : List ℤ) (ticks : ℕ)
    → effect c limit (state_at routine below p line words (v ∷ rest) ticks) op.Not 0 0 ≡ replace (state_at routine below p line words (v ∷ rest) ticks) rest
    (Some (truth (not (holds v))))
unfolding effect
negated_by c limit routine below p line words v rest ticks = refl

equal_both : (x y : ℤ) → int_eq x y ≡ int_eq y x
equal_both x y = by_tests (int_eq x y) (int_eq y x) refl refl
  where
    by_tests : (a b : Bool) → int_eq x y ≡ a → int_eq y x ≡ b → a ≡ b
    by_tests true true e t = refl
    by_tests false false e t = refl
    by_tests true false e t = sym ((Decides-int_eq y x).1 (sym ((Decides-int_eq x y).0 e))) ∙ t
    by_tests false true e t = sym e ∙ (Decides-int_eq x y).1 (sym ((Decides-int_eq y x).0 t))

-- a test's value stands on top, and decides so
record Decided (c : CodeLists) (limit : ℕ) (all : List SysReply) (f : Fixed) (mid : ℕ) (b : Bool) (now : Situation) : Type 0 where
  word : ℤ
  is : holds word ≡ b
  here : Here c limit all f mid (word ∷ []) now

module _ (c : CodeLists) (limit : ℕ) (all : List SysReply) (f : Fixed) (site : Site) (scope : Scope) (names : Named f.frames (own_number f) site scope)
    (inside : Bool) (has : inside ≡ true → (names.frame).result ≡ 1)
    (rs : Routines) (does : ℕ → List Given → Part ℤ) (calls : (k : Kept) → CallsRun c limit all (from f k) rs does) where
  abbrev base : ℕ
  base = declared_words names.frame

  abbrev number : ℕ
  number = own_number f

  abbrev here_setting : Setting
  here_setting = setting_in limit all f scope does

  -- the code leads to its end
  abbrev Leads : Kept → ℕ → Course (Unit {0}) → Type 0
  Leads k q part = After c limit all (λ _ n. Here c limit all (from f k) q [] n) part

  at_end : (p q : ℕ) (k : Kept) (now : Situation) → p ≡ q → Here c limit all (from f k) p [] now → Leads k q (Gives tt now)
  at_end p q k now same here = record { comes = subst (λ m. Here c limit all (from f k) m [] now) same here }

  -- a value of an expression
  value_runs : (k : Kept) (e : Expr) (p q : ℕ) (operands : List ℤ) (now : Situation) → SuitsExpr rs site.names e → Stand c p (expr_code site e) q
      → Here c limit all (from f k) p operands now
      → After c limit all (λ v n. Here c limit all (from f k) q (v ∷ operands) n) (expr_value (here_setting) e now)
  value_runs k e p q operands now suits stand here = expr_runs {f = from f k} names rs does (calls k) e p q operands now suits stand here

  -- ---- Words that are held
  held_loaded : (k : Kept) (p : ℕ) (operands : List ℤ) (now : Situation) (i : ℕ) (v : ℤ) → Here c limit all (from f k) p operands now
      → slice_get c.instrs p ≡ Some (load_own site (base + i)) → k.held number i ≡ Some v → Here c limit all (from f k) (p + 1) (v ∷ operands) now
  held_loaded k p operands now i v h found at =
      word_loaded {f = from f k} site.owner p operands now (base + i) v h found
      (ap (λ d. slice_get (words_from h.below h.words d) (base + i)) names.owner ∙ h.agree.holds number i names.frame v names.own_at at)

  held_set : (k : Kept) (p : ℕ) (v : ℤ) (now : Situation) (i : ℕ) → Here c limit all (from f k) p (v ∷ []) now
      → slice_get c.instrs p ≡ Some (store_own site (base + i))
      → Here c limit all (from f (record { floor = k.floor; held = hold number i v k.held })) (p + 1) [] now
  held_set k p v now i h found = held_stored {f = from f k} p v [] now names.frame i site.owner names.owner names.low h names.own_at found

  -- ---- A name that is set
  name_set : (k : Kept) (m : Means) (a : ℕ) (x : List ℕ) (p q : ℕ) (v : ℤ) (now : Situation) → site.names x ≡ sense m a → CanStore inside (sense m a)
      → Stand c p (store_code site.result (sense m a)) q → Here c limit all (from f k) p (v ∷ []) now
      → Here c limit all (from f k) q [] (assigned m number x v now)
  name_set k (meant.Variable o t) a x p q v now is can stand h = place_stored {f = from f k} names x (Variable o a) _ p q v [] now is
      (place_is {f = from f k} names h x (meant.Variable o t) a tt) stand h
  name_set k (meant.Reference t) a x p q v now is can stand h = place_stored {f = from f k} names x (Reference a) _ p q v [] now is
      (place_is {f = from f k} names h x (meant.Reference t) a tt) stand h
  name_set k (meant.Routine r s) a x p q v now is can stand h =
      subst (λ m. Here c limit all (from f k) m [] (assigned (meant.Routine r s) number x v now)) stand.1
      (answer_stored {f = from f k} p v [] now names.frame h names.own_at (has can) names.low
      (subst (λ w. slice_get c.instrs p ≡ Some (store_word OfRoutine w)) names.result stand.0))
  name_set k (meant.Constant t w) a x p q v now is can stand h = absurd can
  name_set k (meant.Array o t b) a x p q v now is can stand h = absurd can
  name_set k (meant.Function g) a x p q v now is can stand h = absurd can
  name_set k (meant.Interface g) a x p q v now is can stand h = absurd can
  name_set k (meant.TypeName t) a x p q v now is can stand h = absurd can
  name_set k meant.Nothing a x p q v now is can stand h = absurd can

  -- an element that is set
  element_set : (k : Kept) (m : Means) (a : ℕ) (x : List ℕ) (p q : ℕ) (v at : ℤ) (now : Situation) → site.names x ≡ sense m a → CanIndex (sense m a)
      → Stand c p (store_element_code (sense m a)) q
      → (i : Inside (array_named m number x).bounds at) → Here c limit all (from f k) p (v ∷ pos i.place ∷ []) now
      → Here c limit all (from f k) q [] (stored_element (array_named m number x) at v now)
  element_set k (meant.Array o t b) a x p q v at now is can stand i h =
      let has_words = names.arrays x o a b is in
      subst (λ n. Here c limit all (from f k) n [] (stored_element (array_named (meant.Array o t b) number x) at v now)) stand.1
      (subst (λ z. Here c limit all (from f k) (p + 1) [] (stored_element (array_named (meant.Array o t b) number x) z v now)) (sym i.is)
      (element_stored {f = from f k} o p v i.place [] now a b x has_words.owner has_words.frame h has_words.frame_is has_words.is i.low stand.0))
  element_set k (meant.Constant t w) a x p q v at now is can stand i h = absurd can
  element_set k (meant.Variable o t) a x p q v at now is can stand i h = absurd can
  element_set k (meant.Reference t) a x p q v at now is can stand i h = absurd can
  element_set k (meant.Routine r s) a x p q v at now is can stand i h = absurd can
  element_set k (meant.Function g) a x p q v at now is can stand i h = absurd can
  element_set k (meant.Interface g) a x p q v at now is can stand i h = absurd can
  element_set k (meant.TypeName t) a x p q v at now is can stand i h = absurd can
  element_set k meant.Nothing a x p q v at now is can stand i h = absurd can

  -- ---- A loop whose test and body do what they mean

  -- no tick is left
  refused : (line top q : ℕ) (k : Kept) (now : Situation) → slice_get c.instrs top ≡ Some (tick line) → limit ≤ now.ticks
      → Here c limit all (from f k) top [] now → Leads k q (time_is_up line now)
  refused line top q k now ticks none here = over (take_tick limit line now)
      (choose_is (nat_lt now.ticks limit) _ (time_is_up line) now ∙ ap
      (λ b. if b then Gives tt (record now { line = line; ticks = now.ticks + 1 }) else time_is_up line now) (le-ltb now.ticks limit none))
      (ticked top [] now line here ticks)
    where
      over : (part : Course (Unit {0})) → part ≡ time_is_up line now → After c limit all (λ _ n. Here c limit all (from f k) (top + 1) [] n) part
          → Leads k q (time_is_up line now)
      over part same first = record {
        comes = (subst (λ (d : Course (Unit {0})). After c limit all (λ _ n. Here c limit all (from f k) (top + 1) [] n) d) same
            first).comes;
      }

  module _ (line top mid end out n : ℕ) (test : Part Bool) (turn : Part (Unit {0}))
      (ticks : slice_get c.instrs top ≡ Some (tick line)) (decides : slice_get c.instrs mid ≡ Some (jump_if_false out))
      (jumps : slice_get c.instrs end ≡ Some (jump top))
      (tests : (k : Kept) (now : Situation) → Here c limit all (from f k) (top + 1) [] now
      → After c limit all (λ b m. Decided c limit all (from f k) mid b m) (test now))
      (bodies : (k : Kept) (now : Situation) → Shallow number n k → Here c limit all (from f k) (mid + 1) [] now → Leads k end (turn now)) where
    loop_runs : (turns : ℕ) (k : Kept) (now : Situation) → Shallow number n k → limit ≤ now.ticks + turns → Here c limit all (from f k) top [] now
        → Leads k out (after_loop limit turns line test turn now)
    loop_runs zero k now shallow enough here = refused line top out k now ticks (omega (arith, enough)) here
    loop_runs (suc turns) k now shallow enough here =
        let j : Kept = record { floor = now.ticks + 1; held = k.held } in
        so (after_loop limit (suc turns) line test turn now)
        (after (take_tick limit line now) _ (ticked_on {f = from f k} top [] now line here ticks) (λ _ begun at.
        after (test begun) _ (tests j begun at) (λ b tested there.
        subst (λ (part : Course (Unit {0})). Leads j out part) (sym (choose_is b _ (Gives tt) tested))
        (subst (λ d. Leads j out (if d then and_then (turn tested) (λ _ then_is. after_loop limit turns line test turn then_is) else Gives tt tested)) there.is
        (decided {f = from f j} mid out there.word [] tested _ _ there.here decides
        (λ on. after (turn tested) _ (bodies j tested shallow on) (λ _ then_is behind.
        loop_runs turns j then_is shallow (omega (arith, enough, behind.risen)) (jumped {f = from f j} end top [] then_is behind jumps)))
        (λ away. at_end out out j tested refl away))))))
        (λ _ m there. on_floor {f = from f j} k.floor there (omega (arith, here.risen, there.risen)))

  -- ---- The turns of a FOR, whose counter and last value are held in two words
  module _ (line top turn_at end out n : ℕ) (way : Direction) (last : ℤ) (x : List ℕ) (scalar : IsScalar (site.names x)) (turn : Part (Unit {0})) (k : Kept)
      (shallow : Shallow number n k)
      (ticks : slice_get c.instrs top ≡ Some (tick line)) (loads : slice_get c.instrs (top + 1) ≡ Some (load_own site (base + n)))
      (sets : Stand c (top + 1 + 1) (store_code site.result (site.names x)) turn_at)
      (again : Stand c end (counter_test site (before_op way) (base + n) out ++ counter_step site way (base + n) top) out)
      (bodies : (j : Kept) (now : Situation) → Shallow number (n + 2) j → Here c limit all (from f j) turn_at [] now → Leads j end (turn now)) where
    control_set : (j : Kept) (p q : ℕ) (v : ℤ) (now : Situation) → Stand c p (store_code site.result (site.names x)) q
        → Here c limit all (from f j) p (v ∷ []) now → Here c limit all (from f j) q [] (assigned (scope x) number x v now)
    control_set j p q v now stand h =
        let there = names.senses x in
        name_set j (scope x) there.0 x p q v now there.1 (can_store (scope x) there.0 (subst IsScalar there.1 scalar))
        (subst (λ s. Stand c p (store_code site.result s) q) there.1 stand) h
      where
        can_store : (m : Means) (a : ℕ) → IsScalar (sense m a) → CanStore inside (sense m a)
        can_store (meant.Variable o t) a is = tt
        can_store (meant.Reference t) a is = tt
        can_store (meant.Constant t w) a is = absurd is
        can_store (meant.Array o t b) a is = absurd is
        can_store (meant.Routine r s) a is = absurd is
        can_store (meant.Function g) a is = absurd is
        can_store (meant.Interface g) a is = absurd is
        can_store (meant.TypeName t) a is = absurd is
        can_store meant.Nothing a is = absurd is

    turns_run : (turns : ℕ) (j : Kept) (counter : ℤ) (now : Situation) → limit ≤ now.ticks + turns → j.held number n ≡ Some counter
        → j.held number (n + 1) ≡ Some last → Shallow number (n + 2) j → Still k.held j.held → k.floor ≤ now.ticks
        → Here c limit all (from f j) top [] now → Leads k out (after_turns limit turns line way (assigned (scope x) number x) turn last counter now)
    turns_run zero j counter now enough first second few outer low here = off (refused line top out j now ticks (omega (arith, enough)) here)
      where
        off : Leads j out (time_is_up line now) → Leads k out (time_is_up line now)
        off there = record { comes = there.comes }
    turns_run (suc turns) j counter now enough first second few outer low here =
        let m : Kept = record { floor = now.ticks + 1; held = j.held } in
        let set = assigned (scope x) number x counter in
        let beside : base + n + 1 ≡ base + (n + 1) = omega arith in
        after (take_tick limit line now) _ (ticked_on {f = from f j} top [] now line here ticks) (λ _ begun at.
        let loaded = held_loaded m (top + 1) [] begun n counter at loads first in
        let started : Here c limit all (from f m) turn_at [] (set begun) = control_set m (top + 1 + 1) turn_at counter begun sets loaded in
        after (turn (set begun)) _ (bodies m (set begun) few started) (λ _ then_is behind.
        let one = held_loaded m end [] then_is n counter behind again.0 first in
        let two = held_loaded m (end + 1) (counter ∷ []) then_is (n + 1) last one
        (subst (λ a. slice_get c.instrs (end + 1) ≡ Some (load_own site a)) beside again.1.0) second in
        let three = (operated {f = from f m} (end + 1 + 1) (last ∷ counter ∷ []) [] then_is (bare (before_op way))
        (Some (truth (before_last way counter last))) two again.1.1.0
        (before_by c limit way f.routine two.below (end + 1 + 1) then_is.line two.words counter last [] then_is.ticks)).comes in
        subst (λ (part : Course (Unit {0})). Leads k out part) (sym (choose_is (before_last way counter last) _ (Gives tt) then_is))
        (subst (λ b. Leads k out (if b then and_then (number_or_overflow (next_count way counter) then_is)
        (λ next after_is. after_turns limit turns line way (assigned (scope x) number x) turn last next after_is) else Gives tt then_is))
        (truth_holds (before_last way counter last))
        (decided {f = from f m} (end + 1 + 1 + 1) out (truth (before_last way counter last)) [] then_is _ _ three again.1.1.1.0
        (λ on.
        let four = held_loaded m (end + 1 + 1 + 1 + 1) [] then_is n counter on again.1.1.1.1.0 first in
        after (number_or_overflow (next_count way counter) then_is) _
        (operated {f = from f m} (end + 1 + 1 + 1 + 1 + 1) (counter ∷ []) [] then_is (bare (step_op way)) (next_count way counter) four again.1.1.1.1.1.0
        (step_by c limit way f.routine four.below (end + 1 + 1 + 1 + 1 + 1) then_is.line four.words counter [] then_is.ticks)) (λ next after_is five.
        let six = held_set m (end + 1 + 1 + 1 + 1 + 1 + 1) next after_is n five again.1.1.1.1.1.1.0 in
        let seven = jumped {f = from f (record { floor = now.ticks + 1; held = hold number n next j.held })} (end + 1 + 1 + 1 + 1 + 1 + 1 + 1) top
        [] after_is six again.1.1.1.1.1.1.1.0 in
        turns_run turns (record { floor = now.ticks + 1; held = hold number n next j.held }) next after_is (omega (arith, enough, seven.risen))
        (hold_here number n next j.held) (hold_other number n (n + 1) next j.held (λ e. omega (arith, e)) ∙ second)
        (shallow_more number n next j.held (n + 2) (omega arith) few)
        (still_more number n next k.held j.held shallow outer)
        (omega (arith, low, seven.risen)) seven))
        (λ away. record { comes = on_less {f = from f m} k away (omega (arith, low, away.risen)) outer })))))

  -- ---- The labels of a CASE, whose value is held
  module _ (k : Kept) (n : ℕ) (v : ℤ) (held : k.held number n ≡ Some v) (found to : ℕ) (then_course else_course : Course (Unit {0})) where
    one_label : (label : Constant) (p q : ℕ) (now : Situation) → IsHeld (constant_value site.names label) → Stand c p (label_test site (base + n) found label) q
        → Here c limit all (from f k) p [] now
        → (more : Course (Unit {0})) → (Here c limit all (from f k) found [] now → Leads k to then_course)
        → (Here c limit all (from f k) q [] now → Leads k to more)
        → Leads k to (if int_eq (constant_number scope label) v then then_course else more)
    one_label label p q now small stand h more hit miss =
        let u = constant_value site.names label in
        let one = held_loaded k p [] now n v h stand.0 held in
        let two = number_pushed {f = from f k} (p + 1) (v ∷ []) now _ u one stand.1.0 small in
        let three = (operated {f = from f k} (p + 1 + 1) (u ∷ v ∷ []) [] now (bare op.Ne) (Some (truth (not (int_eq v u)))) two stand.1.1.0
        (differ_by c limit f.routine two.below (p + 1 + 1) now.line two.words v u [] now.ticks)).comes in
        let same : int_eq v u ≡ int_eq (constant_number scope label) v = equal_both v u ∙ ap (λ z. int_eq z v)
        (constants_alike scope site.names names.senses label) in
        subst (λ b. Leads k to (if b then then_course else more)) same
        (turned (int_eq v u)
        (subst (λ b. Leads k to (if b then more else then_course)) (truth_holds (not (int_eq v u)))
        (decided {f = from f k} (p + 1 + 1 + 1) found (truth (not (int_eq v u))) [] now more then_course three stand.1.1.1.0
        (λ on. miss (subst (λ m. Here c limit all (from f k) m [] now) stand.1.1.1.1 on)) hit)))
      where
        turned : (b : Bool) → Leads k to (if not b then more else then_course) → Leads k to (if b then then_course else more)
        turned true there = there
        turned false there = there

    both : (a b : Bool) → Leads k to (if a then then_course else (if b then then_course else else_course))
        → Leads k to (if a || b then then_course else else_course)
    both true b there = there
    both false b there = there

    more_labels : (ls : List (ℕ × Constant)) (p q : ℕ) (now : Situation) → AreHeld rs site.names ls → Stand c p (more_label_tests site (base + n) found ls) q
        → Here c limit all (from f k) p [] now
        → (Here c limit all (from f k) found [] now → Leads k to then_course) → (Here c limit all (from f k) q [] now → Leads k to else_course)
        → Leads k to (if list_any (λ l. int_eq (constant_number scope l.1) v) ls then then_course else else_course)
    more_labels [] p q now small stand h hit miss = miss (subst (λ m. Here c limit all (from f k) m [] now) stand h)
    more_labels (l ∷ ls) p q now small stand h hit miss =
        let one = parted c p (label_test site (base + n) found l.1) (more_label_tests site (base + n) found ls) q stand in
        both (int_eq (constant_number scope l.1) v) (list_any (λ e. int_eq (constant_number scope e.1) v) ls)
        (one_label l.1 p one.0 now small.0 one.1.0 h (if list_any (λ e. int_eq (constant_number scope e.1) v) ls then then_course else else_course) hit
        (λ there. more_labels ls one.0 q now small.1 one.1.1 there hit miss))

    labels_run : (labels : Labels) (p q : ℕ) (now : Situation) → SuitsLabels rs site.names labels → Stand c p (label_tests site (base + n) found labels) q
        → Here c limit all (from f k) p [] now
        → (Here c limit all (from f k) found [] now → Leads k to then_course) → (Here c limit all (from f k) q [] now → Leads k to else_course)
        → Leads k to (if is_labelled scope labels v then then_course else else_course)
    labels_run labels p q now small stand h hit miss =
        let one = parted c p (label_test site (base + n) found labels.first) (more_label_tests site (base + n) found labels.rest) q stand in
        both (int_eq (constant_number scope labels.first) v) (list_any (λ e. int_eq (constant_number scope e.1) v) labels.rest)
        (one_label labels.first p one.0 now small.0 one.1.0 h
        (if list_any (λ e. int_eq (constant_number scope e.1) v) labels.rest then then_course else else_course) hit
        (λ there. more_labels labels.rest one.0 q now small.1 one.1.1 there hit miss))

  -- ---- Tests
  true_runs : (k : Kept) (e : Expr) (p q : ℕ) (now : Situation) → SuitsExpr rs site.names e → Stand c p (expr_code site e) q
      → Here c limit all (from f k) p [] now → After c limit all (λ b n. Decided c limit all (from f k) q b n) (is_true (here_setting) e now)
  true_runs k e p q now suits stand h = after (expr_value (here_setting) e now) _ (value_runs k e p q [] now suits stand h)
      (λ v n at. record { comes = record { word = v; is = refl; here = at } })

  false_runs : (k : Kept) (e : Expr) (p q : ℕ) (now : Situation) → SuitsExpr rs site.names e → Stand c p (expr_code site e) q
      → slice_get c.instrs q ≡ Some (bare op.Not) → Here c limit all (from f k) p [] now
      → After c limit all (λ b n. Decided c limit all (from f k) (q + 1) b n) (is_false (here_setting) e now)
  false_runs k e p q now suits stand found h = after (expr_value (here_setting) e now) _ (value_runs k e p q [] now suits stand h) (λ v n at.
      let there = (operated {f = from f k} q (v ∷ []) [] n (bare op.Not) (Some (truth (not (holds v)))) at found
      (negated_by c limit f.routine at.below q n.line at.words v [] n.ticks)).comes in
      record { comes = record { word = truth (not (holds v)); is = truth_holds (not (holds v)); here = there } })

  labels_size : (labels : Labels) (found n : ℕ) → length (label_tests site n found labels) ≡ label_tests_size labels
  labels_size labels found n = first_and_more (constant_value site.names labels.first) labels.rest
    where
      more_size : (ls : List (ℕ × Constant)) → length (more_label_tests site n found ls) ≡ 4 * length ls
      more_size [] = refl
      more_size (l ∷ ls) = omega (arith, more_size ls)

      first_and_more : (v : ℤ) (ls : List (ℕ × Constant)) → length
          (load_own site n ∷ push v ∷ bare op.Ne ∷ jump_if_false found ∷ more_label_tests site n found ls) ≡ 4 * (length ls + 1)
      first_and_more v ls = omega (arith, more_size ls)

  abbrev called : NameAt → Option Arguments → Situation → Course (Unit {0})
  called x None now = and_then (call_value (here_setting) (scope x.letters) [] now) (λ _ then_is. Gives tt then_is)
  called x (Some a) now = and_then (arguments_given (here_setting) (passing_named (scope x.letters)) a now)
      (λ given mid. and_then (call_value (here_setting) (scope x.letters) given mid) (λ _ then_is. Gives tt then_is))

  -- ---- Calls
  call_runs : (k : Kept) (x : NameAt) (a : Option Arguments) (p q : ℕ) (now : Situation) → SuitsCall rs site.names x a
      → Stand c p (call_statement_code site x a) q → Here c limit all (from f k) p [] now
      → (part : Course (Unit {0})) → part ≡ called x a now → Leads k q part
  call_runs k x None p q now suits stand h part same =
      let there = names.senses x.letters in
      let none : passing_of (sense (scope x.letters) there.0) ≡ [] = ap passing_of (sym there.1) ∙ suits.1 in
      subst (λ (d : Course (Unit {0})). Leads k q d) (sym same)
      (after (call_value (here_setting) (scope x.letters) [] now) _
      (called_by {f = from f k} names rs does (calls k) (scope x.letters) there.0 false [] [] [] [] p q now (subst (CanCall rs false) there.1 suits.0)
      (subst (λ by. AreGiven (from f k) site (sense (scope x.letters) there.0) by [] [] []) (sym none) tt)
      (subst (λ s. Stand c p (call_code site.result s []) q) there.1 stand) h)
      (λ v n at. record { comes = at }))
  call_runs k x (Some a) p q now suits stand h part same =
      let there = names.senses x.letters in
      let one = parted c p (arguments_code site (site.names x.letters) (passing_of (site.names x.letters)) a)
      (call_code site.result (site.names x.letters) (given_arguments site a)) q stand in
      let passing : passing_of (site.names x.letters) ≡ passing_named (scope x.letters) = ap passing_of there.1 ∙ passing_alike (scope x.letters) there.0 in
      subst (λ (d : Course (Unit {0})). Leads k q d) (sym same)
      (subst (λ by. Leads k q (and_then (arguments_given (here_setting) by a now)
      (λ given mid. and_then (call_value (here_setting) (scope x.letters) given mid) (λ _ then_is. Gives tt then_is)))) passing
      (after (arguments_given (here_setting) (passing_of (site.names x.letters)) a now) _
      (arguments_run {f = from f k} names rs does (calls k) (site.names x.letters) (passing_of (site.names x.letters)) a p one.0 [] now suits.1 one.1.0 h)
      (λ given mid at.
      after (call_value (here_setting) (scope x.letters) given mid) _
      (called_by {f = from f k} names rs does (calls k) (scope x.letters) there.0 false (arguments_names a) given at.words [] one.0 q mid
      (subst (CanCall rs false) there.1 suits.0)
      (subst (λ s. AreGiven (from f k) site s (passing_of s) (arguments_names a) given at.words) there.1 at.are)
      (subst (λ s. Stand c one.0 (call_code site.result s (map site.names (arguments_names a))) q) there.1
      (subst (λ (l : List Sense). Stand c one.0 (call_code site.result (site.names x.letters) l) q) (arguments_are site a) one.1.1)) at.here)
      (λ v n done. record { comes = done }))))

  -- ---- The family of statements
  mutual
    pub statement_runs : (s : Statement) (free n place p q : ℕ) (k : Kept) (now : Situation) → free ≡ base + n → Shallow number n k → place ≡ p
        → SuitsStatement rs site.names inside s → Stand c p (statement_code site free s place) q → Here c limit all (from f k) p [] now
        → Leads k q (after_statement (here_setting) s now)
    statement_runs empty free n place p q k now word shallow same suits stand here = at_end p q k now stand here
    statement_runs (assign x None becomes e) free n place p q k now word shallow same suits stand here =
        let there = names.senses x.letters in
        let one = parted c (p + 1) (expr_code site e) (store_code site.result (site.names x.letters)) q stand.1 in
        after (take_tick limit x.line now) _ (ticked {f = from f k} p [] now x.line here stand.0) (λ _ mid at.
        after (expr_value (here_setting) e mid) _ (value_runs k e (p + 1) one.0 [] mid suits.1 one.1.0 at) (λ v then_is value.
        record {
          comes = name_set k (scope x.letters) there.0 x.letters one.0 q v then_is there.1 (subst (CanStore inside) there.1 suits.0)
              (subst (λ s. Stand c one.0 (store_code site.result s) q) there.1 one.1.1) value;
        }))
    statement_runs (assign x (Some i) becomes e) free n place p q k now word shallow same suits stand here =
        let there = names.senses x.letters in
        let one = parted c (p + 1) (index_code site (site.names x.letters) i) (expr_code site e ++ store_element_code (site.names x.letters)) q stand.1 in
        let two = parted c one.0 (expr_code site e) (store_element_code (site.names x.letters)) q one.1.1 in
        let bounds = (array_named (scope x.letters) number x.letters).bounds in
        after (take_tick limit x.line now) _ (ticked {f = from f k} p [] now x.line here stand.0) (λ _ begun at.
        after (index_value (here_setting) bounds i begun) _
        (index_runs {f = from f k} names rs does (calls k) x.letters i (p + 1) one.0 [] begun suits.0 suits.1 one.1.0 at) (λ index mid indexed.
        after (expr_value (here_setting) e mid) _ (value_runs k e one.0 two.0 (pos (indexed.inside).place ∷ []) mid suits.2 two.1.0 indexed.here)
        (λ v then_is value.
        record {
          comes = element_set k (scope x.letters) there.0 x.letters two.0 q v index then_is there.1 (subst CanIndex there.1 suits.0)
              (subst (λ s. Stand c two.0 (store_element_code s) q) there.1 two.1.1) indexed.inside value;
        })))
    statement_runs (call x None) free n place p q k now word shallow same suits stand here =
        after (take_tick limit x.line now) _ (ticked {f = from f k} p [] now x.line here stand.0)
        (λ _ mid at. call_runs k x None (p + 1) q mid suits stand.1 at _ refl)
    statement_runs (call x (Some a)) free n place p q k now word shallow same suits stand here =
        after (take_tick limit x.line now) _ (ticked {f = from f k} p [] now x.line here stand.0)
        (λ _ mid at. call_runs k x (Some a) (p + 1) q mid suits stand.1 at _ refl)
    statement_runs (compound b) free n place p q k now word shallow same suits stand here =
        body_runs b free n place p q k now word shallow same suits stand here
    statement_runs (if_then line e then_line s) free n place p q k now word shallow same suits stand here =
        let test = expr_code site e in
        let first = place + length test + 2 in
        let code = statement_code site free s first in
        let out = first + length code in
        let one = parted c (p + 1) test (jump_if_false out ∷ code) q stand.1 in
        let m : one.0 ≡ p + 1 + length test = stands_to c (p + 1) test one.0 one.1.0 in
        let ends : out ≡ q = omega (arith, same, m, stands_to c (one.0 + 1) code q one.1.1.1) in
        after (take_tick limit line now) _ (ticked {f = from f k} p [] now line here stand.0) (λ _ begun at.
        after (is_true (here_setting) e begun) _ (true_runs k e (p + 1) one.0 begun suits.0 one.1.0 at) (λ b tested there.
        subst (λ (part : Course (Unit {0})). Leads k q part) (sym (choose_is b (after_statement (here_setting) s) (Gives tt) tested))
        (subst (λ d. Leads k q (if d then after_statement (here_setting) s tested else Gives tt tested)) there.is
        (decided {f = from f k} one.0 out there.word [] tested _ _ there.here one.1.1.0
        (λ on. statement_runs s free n first (one.0 + 1) q k tested word shallow (omega (arith, same, m)) suits.1 one.1.1.1 on)
        (λ away. at_end out q k tested ends away)))))
    statement_runs (if_else line e then_line s else_line t) free n place p q k now word shallow same suits stand here =
        let test = expr_code site e in
        let first = place + length test + 2 in
        let code = statement_code site free s first in
        let otherwise = first + length code + 1 in
        let others = statement_code site free t otherwise in
        let out = otherwise + length others in
        let one = parted c (p + 1) test (jump_if_false otherwise ∷ (code ++ (jump out ∷ others))) q stand.1 in
        let two = parted c (one.0 + 1) code (jump out ∷ others) q one.1.1.1 in
        let m : one.0 ≡ p + 1 + length test = stands_to c (p + 1) test one.0 one.1.0 in
        let m' : two.0 ≡ one.0 + 1 + length code = stands_to c (one.0 + 1) code two.0 two.1.0 in
        let ends : out ≡ q = omega (arith, same, m, m', stands_to c (two.0 + 1) others q two.1.1.1) in
        after (take_tick limit line now) _ (ticked {f = from f k} p [] now line here stand.0) (λ _ begun at.
        after (is_true (here_setting) e begun) _ (true_runs k e (p + 1) one.0 begun suits.0 one.1.0 at) (λ b tested there.
        subst (λ (part : Course (Unit {0})). Leads k q part) (sym (choose_is b (after_statement (here_setting) s) (after_statement (here_setting) t) tested))
        (subst (λ d. Leads k q (if d then after_statement (here_setting) s tested else after_statement (here_setting) t tested)) there.is
        (decided {f = from f k} one.0 otherwise there.word [] tested _ _ there.here one.1.1.0
        (λ on. so _ (statement_runs s free n first (one.0 + 1) two.0 k tested word shallow (omega (arith, same, m)) suits.1 two.1.0 on)
        (λ _ last end. subst (λ place_now. Here c limit all (from f k) place_now [] last) ends (jumped {f = from f k} two.0 out [] last end two.1.1.0)))
        (λ away. statement_runs t free n otherwise (two.0 + 1) q k tested word shallow (omega (arith, same, m, m')) suits.2 two.1.1.1
        (subst (λ place_now. Here c limit all (from f k) place_now [] tested) (omega (arith, same, m, m')) away))))))
    statement_runs (while_do line e do_line s) free n place p q k now word shallow same suits stand here =
        let test = expr_code site e in
        let first = place + 1 + length test + 2 in
        let code = statement_code site free s first in
        let out = first + length code + 1 in
        let top = p + 1 in
        let one = parted c (top + 1) test (jump_if_false out ∷ (code ++ jump (place + 1) ∷ [])) q stand.1.1 in
        let two = parted c (one.0 + 1) code (jump (place + 1) ∷ []) q one.1.1.1 in
        let m : one.0 ≡ top + 1 + length test = stands_to c (top + 1) test one.0 one.1.0 in
        let m' : two.0 ≡ one.0 + 1 + length code = stands_to c (one.0 + 1) code two.0 two.1.0 in
        let ends : out ≡ q = omega (arith, same, m, m', two.1.1.1) in
        let back : slice_get c.instrs two.0 ≡ Some (jump top) = subst (λ to. slice_get c.instrs two.0 ≡ Some (jump to)) (ap (λ to. to + 1) same) two.1.1.0 in
        after (take_tick limit line now) _ (ticked {f = from f k} p [] now line here stand.0) (λ _ begun at.
        subst (λ place_now. Leads k place_now (after_loop limit (limit - begun.ticks) line (is_true (here_setting) e) (after_statement (here_setting) s) begun))
        ends
        (loop_runs line top one.0 two.0 out n (is_true (here_setting) e) (after_statement (here_setting) s) stand.1.0 one.1.1.0 back
        (λ j then_is there. true_runs j e (top + 1) one.0 then_is suits.0 one.1.0 there)
        (λ j then_is few there. statement_runs s free n first (one.0 + 1) two.0 j then_is word few (omega (arith, same, m)) suits.1 two.1.0 there)
        (limit - begun.ticks) k begun shallow (omega arith) at))
    statement_runs (repeat_until line s until_line e) free n place p q k now word shallow same suits stand here =
        let test = expr_code site e in
        let first = place + 2 + length test + 3 in
        let code = sequence_code site free s first in
        let out = first + length code + 1 in
        let top = p + 1 + 1 in
        let one = parted c (top + 1) test (bare op.Not ∷ (jump_if_false out ∷ (code ++ jump (place + 2) ∷ []))) q stand.1.1.1 in
        let two = parted c (one.0 + 1 + 1) code (jump (place + 2) ∷ []) q one.1.1.1.1 in
        let m : one.0 ≡ top + 1 + length test = stands_to c (top + 1) test one.0 one.1.0 in
        let m' : two.0 ≡ one.0 + 1 + 1 + length code = stands_to c (one.0 + 1 + 1) code two.0 two.1.0 in
        let ends : out ≡ q = omega (arith, same, m, m', two.1.1.1) in
        let begins : first ≡ one.0 + 1 + 1 = omega (arith, same, m) in
        let back : slice_get c.instrs two.0 ≡ Some (jump top) = subst (λ to. slice_get c.instrs two.0 ≡ Some (jump to)) (omega (arith, same)) two.1.1.0 in
        after (take_tick limit line now) _ (ticked {f = from f k} p [] now line here stand.0) (λ _ begun at.
        let inside_at : Here c limit all (from f k) (one.0 + 1 + 1) [] begun = subst (λ place_now. Here c limit all (from f k) place_now [] begun) begins
        (jumped {f = from f k} (p + 1) first [] begun at stand.1.0) in
        after (after_sequence (here_setting) s begun) _ (sequence_runs s free n first
        (one.0 + 1 + 1) two.0 k begun word shallow begins suits.1 two.1.0 inside_at) (λ _ turned end.
        subst (λ place_now. Leads k place_now (after_loop limit (limit - turned.ticks) line (is_false (here_setting) e)
        (after_sequence (here_setting) s) turned)) ends
        (loop_runs line top (one.0 + 1) two.0 out n (is_false (here_setting) e) (after_sequence (here_setting) s) stand.1.1.0 one.1.1.1.0 back
        (λ j then_is there. false_runs j e (top + 1) one.0 then_is suits.0 one.1.0 one.1.1.0 there)
        (λ j then_is few there. sequence_runs s free n first (one.0 + 1 + 1) two.0 j then_is word few begins suits.1 two.1.0 there)
        (limit - turned.ticks) k turned shallow (omega arith) (jumped {f = from f k} two.0 top [] turned end back))))
    statement_runs (for_do line x becomes first_e way way_line last_e do_line s) free n place p q k now word shallow same suits stand_there here =
        let w = base + n in
        let lower = expr_code site first_e in
        let upper = expr_code site last_e in
        let control = store_code site.result (site.names x.letters) in
        let top = place + length lower + length upper + 7 in
        let turn_at = top + length control + 2 in
        let code = statement_code site (w + 2) s turn_at in
        let out = turn_at + length code + 8 in
        let stand : Stand c p (statement_code site w (for_do line x becomes first_e way way_line last_e do_line s) place) q =
        subst (λ v. Stand c p (statement_code site v (for_do line x becomes first_e way way_line last_e do_line s) place) q) word stand_there in
        let tail : ℕ → ℕ → List Instr = λ t o. counter_test site (before_op way) w o ++ counter_step site way w t in
        let one = parted c (p + 1) lower _ q stand.1 in
        let two = parted c (one.0 + 1) upper _ q one.1.1.1 in
        let begin = two.0 + 1 + 1 + 1 + 1 + 1 in
        let three = parted c (begin + 1 + 1) control _ q two.1.1.1.1.1.1.1.1.1 in
        let four = parted c three.0 code (tail top out) q three.1.1 in
        let m1 : one.0 ≡ p + 1 + length lower = stands_to c (p + 1) lower one.0 one.1.0 in
        let m2 : two.0 ≡ one.0 + 1 + length upper = stands_to c (one.0 + 1) upper two.0 two.1.0 in
        let m3 : three.0 ≡ begin + 1 + 1 + length control = stands_to c (begin + 1 + 1) control three.0 three.1.0 in
        let m4 : four.0 ≡ three.0 + length code = stands_to c three.0 code four.0 four.1.0 in
        let begins : top ≡ begin = omega (arith, same, m1, m2) in
        let ends : out ≡ q = omega (arith, same, m1, m2, m3, m4, stands_to c four.0 (tail top out) q four.1.1) in
        let again : Stand c four.0 (tail begin q) q = subst (λ o. Stand c four.0 (tail begin o) q) ends
        (subst (λ t. Stand c four.0 (tail t out) q) begins four.1.1) in
        let beside : w + 1 ≡ base + (n + 1) = omega arith in
        after (take_tick limit line now) _ (ticked {f = from f k} p [] now line here stand.0) (λ _ begun at.
        after (expr_value (here_setting) first_e begun) _ (value_runs k first_e (p + 1) one.0 [] begun suits.1 one.1.0 at) (λ low mid there.
        let k1 : Kept = record { floor = k.floor; held = hold number n low k.held } in
        let counts = held_set k one.0 low mid n there one.1.1.0 in
        after (expr_value (here_setting) last_e mid) _ (value_runs k1 last_e (one.0 + 1) two.0 [] mid suits.2 two.1.0 counts) (λ high then_is behind.
        let k2 : Kept = record { floor = k.floor; held = hold number (n + 1) high k1.held } in
        let bounds = held_set k1 two.0 high then_is (n + 1) behind (subst (λ a. slice_get c.instrs two.0 ≡ Some (store_own site a)) beside two.1.1.0) in
        let lower_is : k2.held number n ≡ Some low = hold_other number (n + 1) n high k1.held (λ e. omega (arith, e)) ∙ hold_here number n low k.held in
        let upper_is : k2.held number (n + 1) ≡ Some high = hold_here number (n + 1) high k1.held in
        let shallow1 : Shallow number (n + 1) k1 = shallow_more number n low k.held (n + 1) (omega arith)
        (deeper n (n + 1) (omega arith) k.held number shallow) in
        let outer1 : Still k.held k1.held = still_more number n low k.held k.held shallow (λ d i v held. held) in
        let outer : Still k.held k2.held = still_more number (n + 1) high k.held k1.held (deeper n (n + 1) (omega arith) k.held number shallow) outer1 in
        let few : Shallow number (n + 2) k2 = shallow_more number (n + 1) high k1.held (n + 2) (omega arith)
        (deeper (n + 1) (n + 2) (omega arith) k1.held number shallow1) in
        let loaded = held_loaded k2 (two.0 + 1) [] then_is n low bounds two.1.1.1.0 lower_is in
        let both_there = held_loaded k2 (two.0 + 1 + 1) (low ∷ []) then_is (n + 1) high loaded
        (subst (λ a. slice_get c.instrs (two.0 + 1 + 1) ≡ Some (load_own site a)) beside two.1.1.1.1.0) upper_is in
        let tested = (operated {f = from f k2} (two.0 + 1 + 1 + 1) (high ∷ low ∷ []) [] then_is (bare (reach_op way))
        (Some (truth (within_reach way low high))) both_there two.1.1.1.1.1.0
        (reach_by c limit way f.routine both_there.below (two.0 + 1 + 1 + 1) then_is.line both_there.words low high [] then_is.ticks)).comes in
        let turns : Part (Unit {0}) = λ m. after_turns limit (limit - m.ticks) line way (assigned (scope x.letters) number x.letters)
        (after_statement (here_setting) s) high low m in
        subst (λ (part : Course (Unit {0})). Leads k q part) (sym (choose_is (within_reach way low high) turns (Gives tt) then_is))
        (subst (λ b. Leads k q (if b then turns then_is else Gives tt then_is)) (truth_holds (within_reach way low high))
        (decided {f = from f k2} (two.0 + 1 + 1 + 1 + 1) out (truth (within_reach way low high)) [] then_is _ _ tested two.1.1.1.1.1.1.0
        (λ on. turns_run line begin three.0 four.0 q n way high x.letters suits.0 (after_statement (here_setting) s) k shallow
        two.1.1.1.1.1.1.1.0 two.1.1.1.1.1.1.1.1.0 three.1.0 again
        (λ j u few_there there_too. statement_runs s (w + 2) (n + 2) turn_at three.0 four.0 j u (omega arith) few_there
        (omega (arith, begins, m3)) suits.3 four.1.0 there_too)
        (limit - then_is.ticks) k2 low then_is (omega arith) lower_is upper_is few outer on.risen on)
        (λ away. record { comes = subst (λ m. Here c limit all (from f k) m [] then_is) ends (on_less {f = from f k2} k away away.risen outer) }))))))
    statement_runs (case_of line e of_line b more end_line) free n place p q k now word shallow same suits stand_there here =
        let w = base + n in
        let selector = expr_code site e in
        let first = place + length selector + 2 in
        let stand : Stand c p (statement_code site w (case_of line e of_line b more end_line) place) q =
        subst (λ v. Stand c p (statement_code site v (case_of line e of_line b more end_line) place) q) word stand_there in
        let one = parted c (p + 1) selector (store_own site w ∷ branch_code site w b (branches_code site w more) first) q stand.1 in
        let m : one.0 ≡ p + 1 + length selector = stands_to c (p + 1) selector one.0 one.1.0 in
        after (take_tick limit line now) _ (ticked {f = from f k} p [] now line here stand.0) (λ _ begun at.
        after (expr_value (here_setting) e begun) _ (value_runs k e (p + 1) one.0 [] begun suits.0 one.1.0 at) (λ v selected there.
        let k1 : Kept = record { floor = k.floor; held = hold number n v k.held } in
        let kept = held_set k one.0 v selected n there one.1.1.0 in
        let outer : Still k.held k1.held = still_more number n v k.held k.held shallow (λ d i u held. held) in
        let few : Shallow number (n + 1) k1 = shallow_more number n v k.held (n + 1) (omega arith) (deeper n (n + 1) (omega arith) k.held number shallow) in
        so _ (branch_runs b n k1 v (hold_here number n v k.held) few (branches_code site w more) (after_branches (here_setting) v more)
        (λ place_too r to u at_place later_stand later_here. branches_run more n place_too r to k1 v u (hold_here number n v k.held) few at_place suits.2
        later_stand later_here)
        first (one.0 + 1) q selected (omega (arith, same, m)) suits.1 one.1.1.1 kept)
        (λ _ last end. on_less {f = from f k1} k end end.risen outer)))

    pub body_runs : (b : Body) (free n place p q : ℕ) (k : Kept) (now : Situation) → free ≡ base + n → Shallow number n k → place ≡ p
        → SuitsBody rs site.names inside b → Stand c p (body_code site free b place) q → Here c limit all (from f k) p [] now
        → Leads k q (after_body (here_setting) b now)
    body_runs (body begin s end) free n place p q k now word shallow same suits stand here =
        sequence_runs s free n place p q k now word shallow same suits stand here

    sequence_runs : (s : Sequence) (free n place p q : ℕ) (k : Kept) (now : Situation) → free ≡ base + n → Shallow number n k → place ≡ p
        → SuitsSequence rs site.names inside s → Stand c p (sequence_code site free s place) q → Here c limit all (from f k) p [] now
        → Leads k q (after_sequence (here_setting) s now)
    sequence_runs (sequence s more) free n place p q k now word shallow same suits stand here =
        let code = statement_code site free s place in
        let one = parted c p code (statements_code site free more (place + length code)) q stand in
        after (after_statement (here_setting) s now) _ (statement_runs s free n place p one.0 k now word shallow same suits.0 one.1.0 here) (λ _ mid at.
        statements_run more free n (place + length code) one.0 q k mid word shallow (omega (arith, same, stands_to c p code one.0 one.1.0)) suits.1 one.1.1 at)

    statements_run : (ss : Statements) (free n place p q : ℕ) (k : Kept) (now : Situation) → free ≡ base + n → Shallow number n k → place ≡ p
        → SuitsStatements rs site.names inside ss → Stand c p (statements_code site free ss place) q → Here c limit all (from f k) p [] now
        → Leads k q (after_statements (here_setting) ss now)
    statements_run no_statement free n place p q k now word shallow same suits stand here = at_end p q k now stand here
    statements_run (next_statement line s more) free n place p q k now word shallow same suits stand here =
        let code = statement_code site free s place in
        let one = parted c p code (statements_code site free more (place + length code)) q stand in
        after (after_statement (here_setting) s now) _ (statement_runs s free n place p one.0 k now word shallow same suits.0 one.1.0 here) (λ _ mid at.
        statements_run more free n (place + length code) one.0 q k mid word shallow (omega (arith, same, stands_to c p code one.0 one.1.0)) suits.1 one.1.1 at)

    -- a branch, with what stands behind it
    branch_runs : (b : Branch) (n : ℕ) (k : Kept) (v : ℤ) → k.held number n ≡ Some v → Shallow number (n + 1) k
        → (later : ℕ → List Instr) (otherwise : Part (Unit {0}))
        → ((place p q : ℕ) (now : Situation) → place ≡ p → Stand c p (later place) q → Here c limit all (from f k) p [] now → Leads k q (otherwise now))
        → (place p q : ℕ) (now : Situation) → place ≡ p → SuitsBranch rs site.names inside b → Stand c p (branch_code site (base + n) b later place) q
        → Here c limit all (from f k) p [] now
        → Leads k q (after_branch (here_setting) v b otherwise now)
    branch_runs (branch labels colon s) n k v held few later otherwise later_runs place p q now same suits stand here =
        let found = place + label_tests_size labels + 1 in
        let code = statement_code site (base + n + 1) s found in
        let next = found + length code + 1 in
        let others = later next in
        let out = next + length others in
        let tests = label_tests site (base + n) found labels in
        let one = parted c p tests (jump next ∷ (code ++ (jump out ∷ others))) q stand in
        let two = parted c (one.0 + 1) code (jump out ∷ others) q one.1.1.1 in
        let m : one.0 ≡ p + label_tests_size labels = stands_to c p tests one.0 one.1.0 ∙ ap (λ z. p + z) (labels_size labels found (base + n)) in
        let m' : two.0 ≡ one.0 + 1 + length code = stands_to c (one.0 + 1) code two.0 two.1.0 in
        let ends : out ≡ q = omega (arith, same, m, m', stands_to c (two.0 + 1) others q two.1.1.1) in
        subst (λ (part : Course (Unit {0})). Leads k q part) (sym (choose_is (is_labelled scope labels v) (after_statement (here_setting) s) otherwise now))
        (labels_run k n v held found q (after_statement (here_setting) s now) (otherwise now) labels p one.0 now suits.0 one.1.0 here
        (λ at. so _ (statement_runs s (base + n + 1) (n + 1) found (one.0 + 1) two.0 k now (omega arith) few (omega (arith, same, m)) suits.1 two.1.0
        (subst (λ place_now. Here c limit all (from f k) place_now [] now) (omega (arith, same, m)) at))
        (λ _ last end. subst (λ place_now. Here c limit all (from f k) place_now [] last) ends (jumped {f = from f k} two.0 out [] last end two.1.1.0)))
        (λ at. later_runs next (two.0 + 1) q now (omega (arith, same, m, m')) two.1.1.1
        (subst (λ place_now. Here c limit all (from f k) place_now [] now) (omega (arith, same, m, m'))
        (jumped {f = from f k} one.0 next [] now at one.1.1.0))))

    branches_run : (bs : Branches) (n place p q : ℕ) (k : Kept) (v : ℤ) (now : Situation) → k.held number n ≡ Some v → Shallow number (n + 1) k → place ≡ p
        → SuitsBranches rs site.names inside bs → Stand c p (branches_code site (base + n) bs place) q → Here c limit all (from f k) p [] now
        → Leads k q (after_branches (here_setting) v bs now)
    branches_run no_branch n place p q k v now held few same suits stand here =
        let one = number_pushed {f = from f k} p [] now _ (negsuc 0) here stand.0 refl in
        record {
          comes = (indexed {f = from f k} (p + 1) (negsuc 0) [] now (record { low = pos 0; high = pos 0 })
              (record { low = refl; high = refl }) one stand.1.0).comes;
        }
    branches_run (next_branch line b more) n place p q k v now held few same suits stand here =
        branch_runs b n k v held few (branches_code site (base + n) more) (after_branches (here_setting) v more)
        (λ place_too r to u at_place later_stand later_here. branches_run more n place_too r to k v u held few at_place suits.1 later_stand later_here) place p
        q now same suits.0 stand here
