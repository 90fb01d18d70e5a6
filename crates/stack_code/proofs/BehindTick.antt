-- A TICK that leads straight to a place: what that says, and how it goes from one place to the next.
use Rattle.std.proofs.Common.{◌≡◌, ℕ, zero, suc, ◌+◌, ◌-◌, ◌<◌, ◌≤◌, Bool, true, false, not, ◌&&◌, ◌||◌, ◌⊎◌, cond, eqb, leb, Option, Some, None, List, [], ◌∷◌, refl, sym, ◌∙◌, ap, arith, inl, inr, count_by}
use Rattle.std.specs.Prelude.{is_some, is_none}
use Rattle.std.proofs.lemmas.Bool.Decides.{nat_tests}
use Rattle.std.proofs.lemmas.Bool.{cases_Bool, cases_eq, cond-true, cond-false, false≢true, eq-eqb, eqb-true, and_parts, and_from, or_cases, or_left, or_right, not-true}
use Rattle.std.proofs.lemmas.List.Sums.{sum_by-cons}
use Rattle.stack_code.specs.declared.instr.RoutineInfo.{RoutineInfo}
use Rattle.stack_code.specs.CodeLists.{CodeLists, instr_at}
use Rattle.stack_code.specs.CodeFile.{least}
use Rattle.stack_code.specs.Rules.{routine_of, is_target, is_tick, is_jump, leads_straight, is_behind_tick}
use Rattle.stack_code.proofs.Least.{fails_below, none_passes}

-- ---- Routines rise with the places

one_grows : (start p q : ℕ) → p ≤ q → cond (leb start p) 1 0 ≤ cond (leb start q) 1 0
one_grows start p q further = grind (arith, nat_tests)

count-cons : (place : ℕ) (r : RoutineInfo) (rs : List RoutineInfo)
    → count_by (λ x. leb x.start place) (r ∷ rs) ≡ cond (leb r.start place) 1 0 + count_by (λ x. leb x.start place) rs
count-cons place r rs = sum_by-cons (λ x. cond (leb x.start place) 1 0) r rs

count_grows : (rs : List RoutineInfo) (p q : ℕ) → p ≤ q → count_by (λ r. leb r.start p) rs ≤ count_by (λ r. leb r.start q) rs
count_grows [] p q further = omega arith
count_grows (r ∷ rs) p q further = omega (arith, one_grows r.start p q further, count_grows rs p q further, count-cons p r rs, count-cons q r rs)

routine_grows : (c : CodeLists) (p q : ℕ) → p ≤ q → routine_of c p ≤ routine_of c q
routine_grows c p q further = omega (arith, count_grows c.routines p q further)

-- ---- A search that finds

some_same : (m n : ℕ) → Some m ≡ Some n → m ≡ n
some_same m n e = cc

none_found : (n : ℕ) → None ≡ Some n → ⊥
none_found n e = cc

is_none-none : (o : Option ℕ) → is_none o ≡ true → o ≡ None
is_none-none None e = refl
is_none-none (Some n) e = absurd (false≢true e)

-- what is found lies within the search and passes
record IsFound (test : ℕ → Bool) (first n found : ℕ) : Type 0 where
  pub above : first ≤ found
  pub below : found < first + n
  pub passes : test found ≡ true

least_found : (test : ℕ → Bool) (first n found : ℕ) → least test first n ≡ Some found → IsFound test first n found
unfolding least
least_found test first zero found e = absurd (none_found found e)
least_found test first (suc n) found e =
    elim (cases_Bool (test first)) [
      | inl passes ↦
          let same : first ≡ found = some_same first found (sym (cond-true (test first) (Some first) (least test (first + 1) n) passes) ∙ e) in
          record { above = omega arith; below = omega arith; passes = ap test (sym same) ∙ passes }
      | inr fails ↦
          let rest = least_found test (first + 1) n found (sym (cond-false (test first) (Some first) (least test (first + 1) n) fails) ∙ e) in
          record { above = omega (arith, rest.above); below = omega (arith, rest.below); passes = rest.passes }
    ]

-- where one passes, one is found
finds : (test : ℕ → Bool) (first n k : ℕ) → first ≤ k → k < first + n → test k ≡ true → is_some (least test first n) ≡ true
finds test first n k above below passes =
    elim (least test first n) as (λ (o : Option ℕ). least test first n ≡ o → is_some o ≡ true) [
      | None ↦ (λ none. absurd (false≢true (sym (fails_below test first n none k above below) ∙ passes)))
      | Some found ↦ (λ e. refl)
    ] refl

-- ---- The sentence

-- the TICK stands before the place and in its routine, with no jump between, and no jump leads behind it
record Leads (c : CodeLists) (tick place : ℕ) : Type 0 where
  pub before : tick < place
  pub is : is_tick (instr_at c tick).op ≡ true
  pub routine : routine_of c tick ≡ routine_of c place
  pub jumps : (k : ℕ) → tick < k → k < place → is_jump (instr_at c k).op ≡ false
  pub targets : (k : ℕ) → tick < k → k ≤ place → is_target c k ≡ false

leads_from : (c : CodeLists) (tick place : ℕ) → tick < place → leads_straight c tick place ≡ true → Leads c tick place
leads_from c tick place before all =
    let outer = and_parts _ _ all in
    let middle = and_parts _ _ outer.0 in
    let inner = and_parts _ _ middle.0 in
    record {
      before = before;
      is = inner.0;
      routine = eqb-true _ _ inner.1;
      jumps =
          λ k above below. fails_below (λ n. is_jump (instr_at c n).op) (tick + 1) (place - (tick + 1)) (is_none-none _ middle.1) k (omega arith) (omega arith);
      targets = λ k above below. fails_below (is_target c) (tick + 1) (place - tick) (is_none-none _ outer.1) k (omega arith) (omega arith);
    }

leads_to : (c : CodeLists) (tick place : ℕ) → Leads c tick place → leads_straight c tick place ≡ true
leads_to c tick place l =
    and_from _ _ (and_from _ _ (and_from _ _ l.is (eq-eqb _ _ l.routine))
    (ap is_none (none_passes (λ n. is_jump (instr_at c n).op) (tick + 1) (place - (tick + 1)) (λ k above below. l.jumps k (omega arith) (omega arith)))))
    (ap is_none (none_passes (is_target c) (tick + 1) (place - tick) (λ k above below. l.targets k (omega arith) (omega arith))))

behind_from : (c : CodeLists) (place : ℕ) → is_behind_tick c place ≡ true → (tick : ℕ) × Leads c tick place
unfolding is_behind_tick
behind_from c place behind =
    let test : ℕ → Bool = λ tick. leads_straight c tick place in
    elim (least test 0 place) as (λ (o : Option ℕ). least test 0 place ≡ o → is_some o ≡ true → (tick : ℕ) × Leads c tick place) [
      | None ↦ (λ none some. absurd (false≢true some))
      | Some tick ↦ (λ e some. let found = least_found test 0 place tick e in (tick, leads_from c tick place (omega (arith, found.below)) found.passes))
    ] refl behind

behind_to : (c : CodeLists) (tick place : ℕ) → Leads c tick place → is_behind_tick c place ≡ true
unfolding is_behind_tick
behind_to c tick place l = finds (λ t. leads_straight c t place) 0 place tick (omega arith) (omega (arith, l.before)) (leads_to c tick place l)

-- ---- From one place to the next

-- the TICK stands there itself, or no jump does and it led there
record LedOn (c : CodeLists) (tick place : ℕ) : Type 0 where
  pub target : is_target c (place + 1) ≡ false
  pub routine : routine_of c (place + 1) ≡ routine_of c place
  pub led : (is_tick (instr_at c place).op ≡ true) ⊎ ((is_jump (instr_at c place).op ≡ false) × Leads c tick place)

led_on : (c : CodeLists) (tick place : ℕ) → Leads c tick (place + 1) → LedOn c tick place
led_on c tick place l =
    let up = routine_grows c tick place (omega (arith, l.before)) in
    let on = routine_grows c place (place + 1) (omega arith) in
    let same : routine_of c (place + 1) ≡ routine_of c place = omega (arith, l.routine, up, on) in
    record {
      target = l.targets (place + 1) l.before (omega arith);
      routine = same;
      led = elim (cases_eq tick place) [
        | inl here ↦ inl (ap (λ k. is_tick (instr_at c k).op) (sym here) ∙ l.is)
        | inr apart ↦
            let before : tick < place = omega (arith, l.before) in
            inr (
              l.jumps place before (omega arith),
              record {
                before = before;
                is = l.is;
                routine = l.routine ∙ same;
                jumps = λ k above below. l.jumps k above (omega arith);
                targets = λ k above below. l.targets k above (omega arith);
              },
            )
      ];
    }

module _ (c : CodeLists) (place : ℕ) (target : is_target c (place + 1) ≡ false) (routine : routine_of c (place + 1) ≡ routine_of c place) where
  leads_next : is_tick (instr_at c place).op ≡ true → Leads c place (place + 1)
  leads_next tick = record {
    before = omega arith;
    is = tick;
    routine = sym routine;
    jumps = λ k above below. absurd (omega arith);
    targets = λ k above below. (let same : k ≡ place + 1 = omega arith in ap (is_target c) same ∙ target);
  }

  leads_further : (tick : ℕ) → is_jump (instr_at c place).op ≡ false → Leads c tick place → Leads c tick (place + 1)
  leads_further tick jump l = record {
    before = omega (arith, l.before);
    is = l.is;
    routine = l.routine ∙ sym routine;
    jumps = λ k above below. elim (cases_eq k place) [
      | inl here ↦ ap (λ n. is_jump (instr_at c n).op) here ∙ jump
      | inr apart ↦ l.jumps k above (omega arith)
    ];
    targets = λ k above below. elim (cases_eq k (place + 1)) [
      | inl here ↦ ap (is_target c) here ∙ target
      | inr apart ↦ l.targets k above (omega arith)
    ];
  }

same_tests : (a b : Bool) → (a ≡ true → b ≡ true) → (b ≡ true → a ≡ true) → a ≡ b
same_tests true b there back = sym (there refl)
same_tests false true there back = back refl
same_tests false false there back = refl

-- the next place stands behind a TICK where no jump leads there, and the TICK is here, or no jump is and this place stands behind one
pub is_behind_tick_next : (c : CodeLists) (place : ℕ)
    → is_behind_tick c (place + 1)
    ≡ (not (is_target c (place + 1)) && eqb (routine_of c (place + 1)) (routine_of c place)
    && (is_tick (instr_at c place).op || (not (is_jump (instr_at c place).op) && is_behind_tick c place)))
is_behind_tick_next c place = same_tests _ _
    (λ behind.
    let (tick, l) = behind_from c (place + 1) behind in
    let on = led_on c tick place l in
    and_from _ _ (and_from _ _ (ap not on.target) (eq-eqb _ _ on.routine))
    (elim on.led [
      | inl here ↦ or_left _ _ here
      | inr led ↦ or_right _ _ (and_from _ _ (ap not led.0) (behind_to c tick place led.1))
    ]))
    (λ all.
    let parts = and_parts _ _ all in
    let front = and_parts _ _ parts.0 in
    let target = not-true _ front.0 in
    let routine = eqb-true _ _ front.1 in
    elim (or_cases _ _ parts.1) [
      | inl here ↦ behind_to c place (place + 1) (leads_next c place target routine here)
      | inr both ↦
          let more = and_parts _ _ both in
          let (tick, l) = behind_from c place more.1 in
          behind_to c tick (place + 1) (leads_further c place target routine tick (not-true _ more.0) l)
    ])

pub is_behind_tick_start : (c : CodeLists) → false ≡ is_behind_tick c 0
unfolding is_behind_tick least
is_behind_tick_start c = refl
