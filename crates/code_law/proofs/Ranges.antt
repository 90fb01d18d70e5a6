-- Which places of a program's code belong to which of its routines.
use Rattle.std.proofs.Common.{◌≡◌, ℕ, zero, suc, ◌+◌, ◌<◌, ◌≤◌, ◌⊎◌, ◌||◌, Bool, true, cond, List, [], ◌∷◌, length, Some, refl, sym, ◌∙◌, ap, ap₂, subst, arith, add-one, inl, inr}
use Rattle.std.specs.Prelude.{slice_get, nat_le}
use Rattle.std.specs.List.{count_by}
use Rattle.std.proofs.lemmas.Bool.{cond-true, cond-false, le-leb, lt-leb, lt-ltb, eq-eqb, and_from, or_left, or_right, cases_lt}
use Rattle.std.proofs.lemmas.List.{length-append}
use Rattle.std.proofs.lemmas.List.Sums.{sum_by-cons}
use Rattle.std.proofs.lemmas.Option.{none-some, same_Some, get_or_from_slice_get}
use Rattle.stack_code.specs.declared.instr.Instr.{Instr}
use Rattle.stack_code.specs.declared.instr.RoutineInfo.{RoutineInfo}
use Rattle.stack_code.specs.CodeLists.{CodeLists, routine_at, instr_at, no_instr}
use Rattle.stack_code.specs.Rules.{routine_of, height_at, goes_on, may_be_last, operands_fit}
use Rattle.stack_code.proofs.StraightLine.{height_begins, height_at_start}
use Rattle.pascal_tree.specs.Program.{Program}
use Rattle.pascal_tree.specs.Program as tree
use Rattle.pascal_mean.specs.Means.{Owner, OfProgram, OfRoutine}
use Rattle.pascal_mean.specs.Predeclared.{Item}
use Rattle.pascal_mean.specs.Declarations.{routines_after, heading_item, global_items}
use Rattle.pascal_code.specs.Frames.{declared_words}
use Rattle.pascal_code.specs.Senses.{Framed, framed_program, framed_after, all_framed, site_of}
use Rattle.pascal_code.specs.Statements.{body_code}
use Rattle.pascal_code.specs.Code.{ending, routine_code, routine_info, instrs_from, infos_from, calling_infos, code_of}
use Rattle.code_law.specs.Suited.{routines_of}
use Rattle.code_law.proofs.Standing.{Stand, parted, stands_to}
use Rattle.code_law.proofs.Compiled.{compiled_at}
use Rattle.code_law.proofs.Naming.{routine_is, framed_there}

-- ---- The last routine that starts at a place or before

abbrev begun : ℕ → List RoutineInfo → ℕ
begun x rs = count_by (λ r. nat_le r.start x) rs

begun_here : (x : ℕ) (r : RoutineInfo) (rs : List RoutineInfo) → r.start ≤ x → begun x (r ∷ rs) ≡ 1 + begun x rs
begun_here x r rs low =
    sum_by-cons (λ (i : RoutineInfo). cond (nat_le i.start x) 1 0) r rs
    ∙ ap (λ n. n + begun x rs) (cond-true (nat_le r.start x) 1 0 (le-leb _ _ low))

begun_later : (x : ℕ) (r : RoutineInfo) (rs : List RoutineInfo) → x < r.start → begun x (r ∷ rs) ≡ begun x rs
begun_later x r rs high =
    let rest : 0 + begun x rs ≡ begun x rs = omega arith in
    sum_by-cons (λ (i : RoutineInfo). cond (nat_le i.start x) 1 0) r rs
    ∙ ap (λ n. n + begun x rs) (cond-false (nat_le r.start x) 1 0 (lt-leb _ _ high)) ∙ rest

module _ (calling : CodeLists) where
  -- where a routine among those from a place on starts
  abbrev start_in : List Framed → ℕ → ℕ → ℕ
  start_in fs start k = (routine_at (record { routines = infos_from calling fs start; instrs = [] }) k).start

  abbrev end_in : List Framed → ℕ → ℕ → Framed → ℕ
  end_in fs start k r = start_in fs start k + length (routine_code r (start_in fs start k))

  none_begun : (fs : List Framed) (start x : ℕ) → x < start → begun x (infos_from calling fs start) ≡ 0
  none_begun [] start x low = refl
  none_begun (s ∷ fs) start x low =
      let code = routine_code s start in
      begun_later x (routine_info calling s start code) (infos_from calling fs (start + length code)) low
      ∙ none_begun fs (start + length code) x (omega (arith, low))

  starts_behind : (fs : List Framed) (start k : ℕ) (r : Framed) → slice_get fs k ≡ Some r → start ≤ start_in fs start k
  starts_behind [] start k r is = absurd (none-some r is)
  starts_behind (s ∷ fs) start zero r is = omega arith
  starts_behind (s ∷ fs) start (suc k) r is = omega (arith, starts_behind fs (start + length (routine_code s start)) k r is)

  ends_before : (fs : List Framed) (start k : ℕ) (r : Framed) → slice_get fs k ≡ Some r → end_in fs start k r ≤ start + length (instrs_from fs start)
  ends_before [] start k r is = absurd (none-some r is)
  ends_before (s ∷ fs) start zero r is =
      let code = routine_code s start in
      let same : length (routine_code s start) ≡ length (routine_code r start) = ap (λ (t : Framed). length (routine_code t start)) (same_Some s r is) in
      omega (arith, same, length-append code (instrs_from fs (start + length code)))
  ends_before (s ∷ fs) start (suc k) r is =
      let code = routine_code s start in
      omega (arith, ends_before fs (start + length code) k r is, length-append code (instrs_from fs (start + length code)))

  begun_in : (fs : List Framed) (start k : ℕ) (r : Framed) → slice_get fs k ≡ Some r → (x : ℕ) → start_in fs start k ≤ x → x < end_in fs start k r
      → begun x (infos_from calling fs start) ≡ suc k
  begun_in [] start k r is x low high = absurd (none-some r is)
  begun_in (s ∷ fs) start zero r is x low high =
      let code = routine_code s start in
      let before : x < start + length code = subst (λ (t : Framed). x < start + length (routine_code t start)) (sym (same_Some s r is)) high in
      begun_here x (routine_info calling s start code) (infos_from calling fs (start + length code)) low
      ∙ omega (arith, none_begun fs (start + length code) x before)
  begun_in (s ∷ fs) start (suc k) r is x low high =
      let code = routine_code s start in
      begun_here x (routine_info calling s start code) (infos_from calling fs (start + length code))
      (omega (arith, low, starts_behind fs (start + length code) k r is))
      ∙ omega (arith, begun_in fs (start + length code) k r is x low high)

  place_in : (fs : List Framed) (start x : ℕ) → start ≤ x → x < start + length (instrs_from fs start)
      → (k : ℕ) × (r : Framed) × (slice_get fs k ≡ Some r) × (start_in fs start k ≤ x) × (x < end_in fs start k r)
  place_in [] start x low high = absurd (omega (arith, low, high))
  place_in (s ∷ fs) start x low high =
      let code = routine_code s start in
      elim (cases_lt x (start + length code)) [
        | inl here ↦ (zero, s, refl, low, here)
        | inr there ↦
            let more = place_in fs (start + length code) x there (omega (arith, high, length-append code (instrs_from fs (start + length code)))) in
            (suc more.0, more.1, more.2, more.3, more.4)
      ]

  info_in : (fs : List Framed) (start k : ℕ) (r : Framed) → slice_get fs k ≡ Some r
      → routine_at (record { routines = infos_from calling fs start; instrs = [] }) k
      ≡ routine_info calling r (start_in fs start k) (routine_code r (start_in fs start k))
  info_in [] start k r is = absurd (none-some r is)
  info_in (s ∷ fs) start zero r is = ap (λ (t : Framed). routine_info calling t start (routine_code t start)) (same_Some s r is)
  info_in (s ∷ fs) start (suc k) r is = info_in fs (start + length (routine_code s start)) k r is

  next_start : (fs : List Framed) (start k : ℕ) (r : Framed) → slice_get fs k ≡ Some r → suc k < length fs → start_in fs start (suc k) ≡ end_in fs start k r
  next_start [] start k r is more = absurd (none-some r is)
  next_start (s ∷ []) start zero r is more = absurd (omega (arith, more))
  next_start (s ∷ t ∷ fs) start zero r is more = ap (λ (u : Framed). start + length (routine_code u start)) (same_Some s r is)
  next_start (s ∷ fs) start (suc k) r is more = next_start fs (start + length (routine_code s start)) k r is (omega (arith, more))

  as_many_infos : (fs : List Framed) (start : ℕ) → length (infos_from calling fs start) ≡ length fs
  as_many_infos [] start = refl
  as_many_infos (s ∷ fs) start = ap suc (as_many_infos fs (start + length (routine_code s start)))

-- ---- Places of a program's code

-- where a routine starts, and the place behind its last instruction
abbrev pub start_of : Program → ℕ → ℕ
start_of p k = (routine_at (code_of p) k).start

abbrev pub end_of : Program → ℕ → Framed → ℕ
end_of p k r = start_of p k + length (routine_code r (start_of p k))

-- a routine's places are its own
pub own_place : (p : Program) (k : ℕ) (r : Framed) → slice_get (all_framed p) k ≡ Some r → (x : ℕ) → start_of p k ≤ x → x < end_of p k r
    → routine_of (code_of p) x ≡ k
unfolding code_of
own_place p k r is x low high = omega (arith, begun_in (calling_infos (all_framed p)) (all_framed p) 0 k r is x low high)

-- each place is in a routine
pub place_of : (p : Program) (x : ℕ) → x < length (code_of p).instrs
    → (k : ℕ) × (r : Framed) × (slice_get (all_framed p) k ≡ Some r) × (start_of p k ≤ x) × (x < end_of p k r)
unfolding code_of
place_of p x low = place_in (calling_infos (all_framed p)) (all_framed p) 0 x (omega arith) (omega (arith, low))

-- the code of a routine lies in that of the program
pub ends_inside : (p : Program) (k : ℕ) (r : Framed) → slice_get (all_framed p) k ≡ Some r → end_of p k r ≤ length (code_of p).instrs
unfolding code_of
ends_inside p k r is = omega (arith, ends_before (calling_infos (all_framed p)) (all_framed p) 0 k r is)

-- each routine has its ending
pub has_ending : (r : Framed) (start : ℕ)
    → length (routine_code r start) ≡ length (body_code (site_of r) (declared_words r.frame) (r.declared).body start) + 1
has_ending r start = length-append (body_code (site_of r) (declared_words r.frame) (r.declared).body start) (ending r.owner ∷ [])

pub some_code : (p : Program) (k : ℕ) (r : Framed) → start_of p k < end_of p k r
some_code p k r = omega (arith, has_ending r (start_of p k))

same_end : (p : Program) (k j : ℕ) (r s : Framed) → slice_get (all_framed p) k ≡ Some r → slice_get (all_framed p) j ≡ Some s → k ≡ j
    → end_of p k r ≡ end_of p j s
same_end p k j r s is is_too same = ap₂ (end_of p) same (same_Some r s (sym is ∙ ap (slice_get (all_framed p)) same ∙ is_too))

-- what stands behind a routine isn't of it
pub other_behind : (p : Program) (k : ℕ) (r : Framed) → slice_get (all_framed p) k ≡ Some r → end_of p k r < length (code_of p).instrs
    → routine_of (code_of p) (end_of p k r) ≡ k → ⊥
other_behind p k r is low same =
    let there = place_of p (end_of p k r) low in
    let own : routine_of (code_of p) (end_of p k r) ≡ there.0 = own_place p there.0 there.1 there.2 (end_of p k r) there.3 there.4 in
    omega (arith, there.4, same_end p k there.0 r there.1 is there.2 (sym same ∙ own))

-- nothing is on the stack at a routine's start
starts_empty : (p : Program) (k : ℕ) (r : Framed) → slice_get (all_framed p) k ≡ Some r → (s : ℕ) → start_of p k ≡ s → height_at (code_of p) s ≡ 0
starts_empty p k r is zero at = sym (height_at_start (code_of p))
starts_empty p k r is (suc q) at =
    let c = code_of p in
    let there = place_of p q (omega (arith, at, some_code p k r, ends_inside p k r is)) in
    let own : routine_of c q ≡ there.0 = own_place p there.0 there.1 there.2 q there.3 there.4 in
    let next : start_of p k ≡ q + 1 = omega (arith, at) in
    let here : routine_of c (q + 1) ≡ k = ap (routine_of c) (sym next) ∙ own_place p k r is (start_of p k) (omega arith) (some_code p k r) in
    rw (← add-one) (height_begins c q (λ same. omega (arith, at, there.3, ap (start_of p) (sym own ∙ sym same ∙ here))))

pub start_is_empty : (p : Program) (k : ℕ) (r : Framed) → slice_get (all_framed p) k ≡ Some r → height_at (code_of p) (start_of p k) ≡ 0
start_is_empty p k r is = starts_empty p k r is (start_of p k) refl

-- the routine goes on up to its last instruction
pub stays_inside : (p : Program) (k : ℕ) (r : Framed) → slice_get (all_framed p) k ≡ Some r → (x : ℕ) → start_of p k ≤ x → x + 1 < end_of p k r
    → routine_of (code_of p) (x + 1) ≡ routine_of (code_of p) x
stays_inside p k r is x low high = own_place p k r is (x + 1) (omega (arith, low)) high ∙ sym (own_place p k r is x low (omega (arith, high)))

pub goes_on_inside : (p : Program) (k : ℕ) (r : Framed) → slice_get (all_framed p) k ≡ Some r → (x : ℕ) → start_of p k ≤ x → x + 1 < end_of p k r
    → goes_on (code_of p) x ≡ true
goes_on_inside p k r is x low high =
    and_from _ _ (lt-ltb _ _ (omega (arith, high, ends_inside p k r is))) (eq-eqb _ _ (stays_inside p k r is x low high))

-- ---- The parts of a routine

-- the place of a routine's ending
abbrev pub ending_of : Program → ℕ → Framed → ℕ
ending_of p k r = start_of p k + length (body_code (site_of r) (declared_words r.frame) (r.declared).body (start_of p k))

pub ending_is_last : (p : Program) (k : ℕ) (r : Framed) → end_of p k r ≡ ending_of p k r + 1
ending_is_last p k r = omega (arith, has_ending r (start_of p k))

pub whole_stands : (p : Program) (k : ℕ) (r : Framed) → slice_get (all_framed p) k ≡ Some r
    → Stand (code_of p) (start_of p k) (routine_code r (start_of p k)) (end_of p k r)
whole_stands p k r is =
    let compiled = compiled_at p k r is in
    let code = routine_code r (start_of p k) in
    subst (Stand (code_of p) (start_of p k) code) (stands_to (code_of p) (start_of p k) code compiled.end compiled.stands) compiled.stands

pub body_stands : (p : Program) (k : ℕ) (r : Framed) → slice_get (all_framed p) k ≡ Some r
    → Stand (code_of p) (start_of p k) (body_code (site_of r) (declared_words r.frame) (r.declared).body (start_of p k)) (ending_of p k r)
body_stands p k r is =
    let body = body_code (site_of r) (declared_words r.frame) (r.declared).body (start_of p k) in
    let two = parted (code_of p) (start_of p k) body (ending r.owner ∷ []) (end_of p k r) (whole_stands p k r is) in
    subst (Stand (code_of p) (start_of p k) body) (stands_to (code_of p) (start_of p k) body two.0 two.1.0) two.1.0

pub ending_stands : (p : Program) (k : ℕ) (r : Framed) → slice_get (all_framed p) k ≡ Some r
    → slice_get (code_of p).instrs (ending_of p k r) ≡ Some (ending r.owner)
ending_stands p k r is =
    let body = body_code (site_of r) (declared_words r.frame) (r.declared).body (start_of p k) in
    let two = parted (code_of p) (start_of p k) body (ending r.owner ∷ []) (end_of p k r) (whole_stands p k r is) in
    subst (λ q. slice_get (code_of p).instrs q ≡ Some (ending r.owner)) (stands_to (code_of p) (start_of p k) body two.0 two.1.0) two.1.1.0

pub ending_may_be_last : (o : Owner) → may_be_last (ending o).op ≡ true
ending_may_be_last OfProgram = refl
ending_may_be_last OfRoutine = refl

ends_well : (goes may : Bool) → (goes ≡ true) ⊎ (may ≡ true) → (goes || may) ≡ true
ends_well goes may (inl is) = or_left goes may is
ends_well goes may (inr is) = or_right goes may is

-- at each place its routine goes on, or it may end there
pub goes_on_or_ends : (p : Program) (k : ℕ) (r : Framed) → slice_get (all_framed p) k ≡ Some r → (x : ℕ) → start_of p k ≤ x → x < end_of p k r
    → (goes_on (code_of p) x || may_be_last (instr_at (code_of p) x).op) ≡ true
goes_on_or_ends p k r is x low high =
    let c = code_of p in
    ends_well (goes_on c x) (may_be_last (instr_at c x).op)
    (elim (cases_lt (x + 1) (end_of p k r)) [
      | inl inside ↦ inl (goes_on_inside p k r is x low inside)
      | inr behind ↦
          let last : ending_of p k r ≡ x = omega (arith, high, behind, ending_is_last p k r) in
          let there : slice_get c.instrs x ≡ Some (ending r.owner) = subst (λ q. slice_get c.instrs q ≡ Some (ending r.owner)) last (ending_stands p k r is) in
          inr (ap (λ (i : Instr). may_be_last i.op) (get_or_from_slice_get c.instrs x (ending r.owner) no_instr there) ∙ ending_may_be_last r.owner)
    ])

pub owner_of_program : (p : Program) (r : Framed) → slice_get (all_framed p) 0 ≡ Some r → r.owner ≡ OfProgram
owner_of_program p r is = ap (λ (t : Framed). t.owner) (sym (same_Some (framed_program p) r is))

pub owner_of_routine : (p : Program) (j : ℕ) (r : Framed) → slice_get (all_framed p) (suc j) ≡ Some r → r.owner ≡ OfRoutine
owner_of_routine p j r is = ap (λ (t : Framed). t.owner) (routine_is p j r is).is

-- the operands of the ending fit
ending_fits_at : (c : CodeLists) (x k : ℕ) (o : Owner) → routine_of c x ≡ k → (k ≡ 0 → o ≡ OfProgram) → ((j : ℕ) → k ≡ suc j → o ≡ OfRoutine)
    → operands_fit c x (ending o).op (ending o).a (ending o).b ≡ true
ending_fits_at c x zero OfProgram own program routine = eq-eqb (routine_of c x) 0 own
ending_fits_at c x zero OfRoutine own program routine = absurd (let e = program refl in cc)
ending_fits_at c x (suc j) OfProgram own program routine = absurd (let e = routine j refl in cc)
ending_fits_at c x (suc j) OfRoutine own program routine = lt-ltb 0 (routine_of c x) (omega (arith, own))

pub ending_fits : (p : Program) (k : ℕ) (r : Framed) → slice_get (all_framed p) k ≡ Some r
    → operands_fit (code_of p) (ending_of p k r) (ending r.owner).op (ending r.owner).a (ending r.owner).b ≡ true
ending_fits p k r is =
    ending_fits_at (code_of p) (ending_of p k r) k r.owner
    (own_place p k r is (ending_of p k r) (omega arith) (omega (arith, ending_is_last p k r)))
    (λ e. owner_of_program p r (subst (λ n. slice_get (all_framed p) n ≡ Some r) e is))
    (λ j e. owner_of_routine p j r (subst (λ n. slice_get (all_framed p) n ≡ Some r) e is))

-- ---- How many routines

pub as_many_routines : (p : Program) → length (code_of p).routines ≡ length (all_framed p)
unfolding code_of
as_many_routines p = as_many_infos (calling_infos (all_framed p)) (all_framed p) 0

as_many_framed : (k : ℕ) (known : List Item) (rs : List tree.Routine) → length (framed_after k known rs) ≡ length (routines_after k known rs)
as_many_framed k known [] = refl
as_many_framed k known (r ∷ more) = ap suc (as_many_framed (k + 1) (heading_item k known r ∷ known) more)

pub counted_routines : (p : Program) → length (code_of p).routines ≡ (routines_of p).count
counted_routines p = as_many_routines p ∙ ap suc (as_many_framed 1 (global_items p) p.routines)

pub routine_there : (p : Program) (k : ℕ) → k < length (code_of p).routines → (r : Framed) × (slice_get (all_framed p) k ≡ Some r)
routine_there p k low = framed_there p k (omega (arith, low, counted_routines p))

-- ---- Their records

-- the record of a routine
pub info_of : (p : Program) (k : ℕ) (r : Framed) → slice_get (all_framed p) k ≡ Some r
    → routine_at (code_of p) k ≡ routine_info (calling_infos (all_framed p)) r (start_of p k) (routine_code r (start_of p k))
unfolding code_of
info_of p k r is = info_in (calling_infos (all_framed p)) (all_framed p) 0 k r is

-- routine behind routine
pub start_of_next : (p : Program) (k : ℕ) (r : Framed) → slice_get (all_framed p) k ≡ Some r → suc k < length (code_of p).routines
    → start_of p (suc k) ≡ end_of p k r
unfolding code_of
start_of_next p k r is more =
    next_start (calling_infos (all_framed p)) (all_framed p) 0 k r is
    (omega (arith, more, as_many_infos (calling_infos (all_framed p)) (all_framed p) 0))
