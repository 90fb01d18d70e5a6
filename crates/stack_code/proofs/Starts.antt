-- Where the routines start: the starts rise, so that a place belongs to the one before the next start.
use Rattle.std.proofs.Common.{◌≡◌, ℕ, zero, suc, ◌+◌, ◌<◌, ◌≤◌, true, false, cond, eqb, leb, ltb, None, not, List, [], ◌∷◌, length, get_or, refl, sym, ◌∙◌, ap, arith, inl, inr, add-one}
use Rattle.std.specs.List.{count_by}
use Rattle.std.proofs.lemmas.Bool.{cases_Bool, cases_lt, cond-true, cond-false, false≢true, ltb-true, ltb-false, leb-true, eqb-true, eq-eqb, ne_eqb, le-leb, lt-leb, leb-false, and_parts, not-false}
use Rattle.std.proofs.lemmas.List.Sums.{sum_by-cons}
use Rattle.stack_code.specs.declared.instr.RoutineInfo.{RoutineInfo}
use Rattle.stack_code.specs.CodeLists.{CodeLists, routine_at, no_routine}
use Rattle.stack_code.specs.Rules.{routine_of, routine_is_good, starts_well, broken_routine}
use Rattle.stack_code.proofs.Least.{fails_below}

-- ---- A list of starts that rise

pub record Rises (rs : List RoutineInfo) : Type 0 where
  pub next : (k : ℕ) → suc k < length rs → (get_or rs k no_routine).start < (get_or rs (suc k) no_routine).start

others_rise : (r : RoutineInfo) (rs : List RoutineInfo) → Rises (r ∷ rs) → Rises rs
others_rise r rs rises = record { next = λ k below. rises.next (suc k) (omega arith) }

abbrev begun : ℕ → List RoutineInfo → ℕ
begun place rs = count_by (λ r. leb r.start place) rs

begun_here : (place : ℕ) (r : RoutineInfo) (rs : List RoutineInfo) → r.start ≤ place → begun place (r ∷ rs) ≡ 1 + begun place rs
begun_here place r rs low = sum_by-cons (λ (x : RoutineInfo). cond (leb x.start place) 1 0) r rs
    ∙ ap (λ n. n + begun place rs) (cond-true (leb r.start place) 1 0 (le-leb _ _ low))

begun_later : (place : ℕ) (r : RoutineInfo) (rs : List RoutineInfo) → place < r.start → begun place (r ∷ rs) ≡ begun place rs
begun_later place r rs high =
    let rest : 0 + begun place rs ≡ begun place rs = omega arith in
    sum_by-cons (λ (x : RoutineInfo). cond (leb x.start place) 1 0) r rs
    ∙ ap (λ n. n + begun place rs) (cond-false (leb r.start place) 1 0 (lt-leb _ _ high)) ∙ rest

-- none has begun where the first hasn't
none_begun : (place : ℕ) (rs : List RoutineInfo) → Rises rs → (0 < length rs → place < (get_or rs 0 no_routine).start) → begun place rs ≡ 0
none_begun place [] rises later = refl
none_begun place (r ∷ rs) rises later =
    begun_later place r rs (later (omega arith))
    ∙ none_begun place rs (others_rise r rs rises) (λ some. omega (arith, later (omega arith), rises.next 0 (omega arith)))

-- those up to the last one that has begun
pub begun_to : (place : ℕ) (rs : List RoutineInfo) (k : ℕ) → Rises rs → k < length rs → (get_or rs k no_routine).start ≤ place → (suc k < length rs
    → place < (get_or rs (suc k) no_routine).start) → (begun place rs ≡ suc k) × ((get_or rs 0 no_routine).start ≤ place)
begun_to place [] k rises inside low high = absurd (omega arith)
begun_to place (r ∷ rs) zero rises inside low high =
    (begun_here place r rs low ∙ omega (arith, none_begun place rs (others_rise r rs rises) (λ some. high (omega arith))), low)
begun_to place (r ∷ rs) (suc k) rises inside low high =
    let others = begun_to place rs k (others_rise r rs rises) (omega arith) low (λ below. high (omega arith)) in
    let first : r.start ≤ place = omega (arith, others.1, rises.next 0 (omega arith)) in
    (begun_here place r rs first ∙ omega (arith, others.0), first)

-- the place stands at the start of a routine or behind it, and before the next one's
record IsWithin (place : ℕ) (rs : List RoutineInfo) (k : ℕ) : Type 0 where
  pub inside : k < length rs
  pub low : (get_or rs k no_routine).start ≤ place
  pub high : suc k < length rs → place < (get_or rs (suc k) no_routine).start

-- no other one has begun
only_first : (place : ℕ) (r : RoutineInfo) (rs : List RoutineInfo) → r.start ≤ place → begun place rs ≡ 0 → IsWithin place (r ∷ rs) 0
only_first place r [] low none = record { inside = omega arith; low = low; high = λ more. absurd (omega arith) }
only_first place r (s ∷ rs) low none = record {
  inside = omega arith;
  low = low;
  high = λ more. elim (cases_Bool (leb s.start place)) [
    | inl begins ↦ absurd (omega (arith, none, begun_here place s rs (leb-true _ _ begins)))
    | inr later ↦ leb-false _ _ later
  ];
}

begun_from : (place : ℕ) (rs : List RoutineInfo) (k : ℕ) → Rises rs → begun place rs ≡ suc k → IsWithin place rs k
begun_from place [] k rises counted = absurd (omega (arith, counted))
begun_from place (r ∷ rs) zero rises counted = elim (cases_Bool (leb r.start place)) [
  | inl low ↦ only_first place r rs (leb-true _ _ low) (omega (arith, counted, begun_here place r rs (leb-true _ _ low)))
  | inr high ↦ absurd (omega (arith, counted, none_begun place (r ∷ rs) rises (λ some. leb-false _ _ high)))
]
begun_from place (r ∷ rs) (suc k) rises counted = elim (cases_Bool (leb r.start place)) [
  | inl low ↦
      let others = begun_from place rs k (others_rise r rs rises) (omega (arith, counted, begun_here place r rs (leb-true _ _ low))) in
      record { inside = omega (arith, others.inside); low = others.low; high = λ more. others.high (omega arith) }
  | inr high ↦ absurd (omega (arith, counted, none_begun place (r ∷ rs) rises (λ some. leb-false _ _ high)))
]

-- ---- Code whose routines break no rule

record Starts (c : CodeLists) : Type 0 where
  pub rises : Rises c.routines
  pub first : 0 < length c.routines → (routine_at c 0).start ≡ 0

starts_well_at : (c : CodeLists) (k : ℕ) → broken_routine c ≡ None → k < length c.routines → starts_well c k ≡ true
starts_well_at c k none below =
    let height = and_parts _ _ (not-false _ (fails_below (λ n. not (routine_is_good c n)) 0 (length c.routines) none k (omega arith) (omega arith))) in
    (and_parts _ _ ((and_parts _ _ ((and_parts _ _ ((and_parts _ _ height.0).0)).0)).0)).0

starts : (c : CodeLists) → broken_routine c ≡ None → Starts c
starts c none = record {
  rises = record { next = λ k below. ltb-true _ _ (starts_well_at c (suc k) none below) };
  first = λ some. eqb-true _ _ ((and_parts _ _ ((and_parts _ _ (starts_well_at c 0 none some)).0)).0);
}

-- the first one has begun, where it starts at the first place
first_begun : (place : ℕ) (rs : List RoutineInfo) → 0 < length rs → (get_or rs 0 no_routine).start ≡ 0 → 1 ≤ begun place rs
first_begun place [] some first = absurd (omega arith)
first_begun place (r ∷ rs) some first = omega (arith, begun_here place r rs (omega (arith, first)))

within : (c : CodeLists) (place k : ℕ) → Starts c → 0 < length c.routines → routine_of c place ≡ k → IsWithin place c.routines k
within c place k st some e = begun_from place c.routines k st.rises (omega (arith, e, first_begun place c.routines some (st.first some)))

-- the places from a routine's start up to the next one's are its own
pub place_is_own : (c : CodeLists) (k place : ℕ) → Rises c.routines → k < length c.routines → (routine_at c k).start ≤ place
    → (suc k < length c.routines → place < (routine_at c (suc k)).start) → routine_of c place ≡ k
place_is_own c k place rises below low high =
    let all = begun_to place c.routines k rises below low high in
    omega (arith, all.0)

-- ---- The test of the code, on each way through it

module _ (c : CodeLists) (k place : ℕ) (none : broken_routine c ≡ None) (below : k < length c.routines) where
  pub starts_later : place < (routine_at c k).start → leb (routine_at c k).start place ≡ eqb (routine_of c place) k
  starts_later later = lt-leb _ _ later
      ∙ sym (ne_eqb (routine_of c place) k (λ own. omega (arith, later, (within c place k (starts c none) (omega arith) own).low)))

  pub is_last : (routine_at c k).start ≤ place → k + 1 ≡ length c.routines → true ≡ eqb (routine_of c place) k
  is_last low last = sym (eq-eqb _ _ (place_is_own c k place (starts c none).rises below low (λ more. absurd (omega (arith, last)))))

  pub next_starts : (routine_at c k).start ≤ place → (k + 1 ≡ length c.routines → ⊥) → ltb place (routine_at c (k + 1)).start ≡ eqb (routine_of c place) k
  next_starts low more = elim (cases_Bool (ltb place (routine_at c (k + 1)).start)) [
    | inl before ↦ before
        ∙ sym (eq-eqb _ _ (place_is_own c k place (starts c none).rises below low (λ _. ltb-true place (routine_at c (suc k)).start (rw add-one at before))))
    | inr behind ↦ behind ∙ sym (ne_eqb (routine_of c place) k (λ own.
        let high = (within c place k (starts c none) (omega arith) own).high (omega (arith, more)) in
        omega (arith, ltb-false place (routine_at c (suc k)).start (rw add-one at behind), high)))
  ]

-- the next place is of the same routine, or the next one starts there
pub next_routine : (c : CodeLists) (k place : ℕ) → broken_routine c ≡ None → 0 < length c.routines → routine_of c place ≡ k
    → eqb (routine_of c (place + 1)) k ≡ false
    → (k + 1 ≡ routine_of c (place + 1)) × (k + 1 < length c.routines)
next_routine c k place none some e other =
    let st = starts c none in
    let here = within c place k st some e in
    let more : k + 1 < length c.routines = elim (cases_lt (k + 1) (length c.routines)) [
      | inl less ↦ less
      | inr last ↦ absurd (false≢true (sym other ∙ sym (is_last c k (place + 1) none here.inside (omega (arith, here.low)) (omega (arith, here.inside)))))
    ] in
    let high = here.high (omega (arith, more)) in
    let next = st.rises.next (suc k) in
    let one : k + 1 ≡ suc k = omega arith in
    let test = next_starts c k (place + 1) none here.inside (omega (arith, here.low)) (λ last. omega (arith, more)) ∙ other in
    let behind : (routine_at c (suc k)).start ≤ place + 1 = ltb-false (place + 1) (routine_at c (suc k)).start (rw one at test) in
    (one ∙ sym (place_is_own c (suc k) (place + 1) st.rises (omega (arith, more)) behind (λ less. omega (arith, next less, high))), more)

-- the first place belongs to the program
pub first_routine : (c : CodeLists) → broken_routine c ≡ None → 0 < length c.routines → routine_of c 0 ≡ 0
first_routine c none some =
    let st = starts c none in
    place_is_own c 0 0 st.rises some (omega (arith, st.first some)) (λ more. omega (arith, st.rises.next 0 more))
