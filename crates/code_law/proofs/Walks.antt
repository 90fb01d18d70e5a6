-- How high the operand stack stands at each place of code that lifts it.
use Rattle.std.proofs.Common.{◌≡◌, ℕ, zero, suc, ◌+◌, ◌-◌, ◌<◌, ◌≤◌, max, Bool, true, false, not, ◌||◌, List, [], ◌∷◌, ◌++◌, length, Some, refl, sym, ◌∙◌, ap, ap₂, subst, arith, inl, inr}
use Rattle.std.specs.Prelude.{slice_get, ◌==◌}
use Rattle.std.proofs.lemmas.Bool.{le-leb, eq-eqb, and_from, cases_lt}
use Rattle.std.proofs.lemmas.Option.{get_or_from_slice_get}
use Rattle.stack_code.specs.declared.table.Op.{Op}
use Rattle.stack_code.specs.declared.table.Op.TheVariants as op
use Rattle.stack_code.specs.declared.instr.Instr.{Instr}
use Rattle.stack_code.specs.CodeFile.{mark}
use Rattle.stack_code.specs.CodeLists.{CodeLists, routine_at, instr_at, no_instr}
use Rattle.stack_code.specs.Rules.{pops, pushes, routine_of, leaves_nothing, height_at, height_fits}
use Rattle.stack_code.proofs.StraightLine.{height_goes_on}
use Rattle.pascal_tree.specs.Program.{Program}
use Rattle.pascal_mean.specs.Means.{Owner, OfProgram, OfRoutine}
use Rattle.pascal_code.specs.Frames.{declared_words}
use Rattle.pascal_code.specs.Statements.{body_code}
use Rattle.pascal_code.specs.Senses.{Framed, all_framed, site_of}
use Rattle.pascal_code.specs.Code.{greatest_height, ending, routine_code, calling_infos, infos_from, code_of}
use Rattle.code_law.specs.Heights.{behind, Lift}
use Rattle.code_law.proofs.Standing.{Stand, stands_to}
use Rattle.code_law.proofs.Ranges.{start_of, end_of, own_place, stays_inside, start_is_empty, whole_stands, info_of}

-- ---- Codes in which calls ask the same

abbrev pub Alike : CodeLists → CodeLists → Type 0
Alike c d = (k : ℕ) → ((routine_at c k).params ≡ (routine_at d k).params) × ((routine_at c k).function ≡ (routine_at d k).function)

pub pops_alike : (c d : CodeLists) → Alike c d → (o : Op) (a : ℕ) → pops c o a ≡ pops d o a
pops_alike c d same op.Call a = (same a).0
pops_alike c d same other a = refl

pub pushes_alike : (c d : CodeLists) → Alike c d → (o : Op) (a : ℕ) → pushes c o a ≡ pushes d o a
pushes_alike c d same op.Call a = ap mark (same a).1
pushes_alike c d same other a = refl

infos_alike : (calling : CodeLists) (fs : List Framed) (start : ℕ)
    → Alike (calling_infos fs) (record { routines = infos_from calling fs start; instrs = [] })
infos_alike calling [] start k = (refl, refl)
infos_alike calling (s ∷ fs) start zero = (refl, refl)
infos_alike calling (s ∷ fs) start (suc k) = infos_alike calling fs (start + length (routine_code s start)) k

-- what calls ask is known before there is code
pub calls_alike : (p : Program) → Alike (calling_infos (all_framed p)) (code_of p)
unfolding code_of
calls_alike p k = infos_alike (calling_infos (all_framed p)) (all_framed p) 0 k

-- ---- The greatest height

pub greatest_alike : (c d : CodeLists) → Alike c d → (h : ℕ) (code : List Instr) → greatest_height c h code ≡ greatest_height d h code
greatest_alike c d same h [] = refl
greatest_alike c d same h (i ∷ more) =
    ap (λ n. max h n) (greatest_alike c d same (h - pops c i.op i.a + pushes c i.op i.a) more)
    ∙ ap₂ (λ a b. max h (greatest_height d (h - a + b) more)) (pops_alike c d same i.op i.a) (pushes_alike c d same i.op i.a)

pub greatest_from : (c : CodeLists) (h : ℕ) (code : List Instr) → h ≤ greatest_height c h code
greatest_from c h [] = omega arith
greatest_from c h (i ∷ more) = omega arith

pub greatest_low : (c : CodeLists) (least most h k : ℕ) (code : List Instr) → Lift c least most code h k → h ≤ most → greatest_height c h code ≤ most
greatest_low c least most h k [] lift low = low
greatest_low c least most h k (i ∷ more) lift low = omega (arith, low, greatest_low c least most (behind c i h) k more lift.4 lift.2)

-- ---- A routine's ending

-- behind a body that leaves nothing
pub with_ending : (c : CodeLists) (most : ℕ) (o : Owner) (h : ℕ) (code : List Instr) → Lift c 0 most code h 0 → Lift c 0 most (code ++ ending o ∷ []) h 0
with_ending c most OfProgram h [] lift = (omega arith, omega arith, omega (arith, lift), λ e. omega (arith, lift), omega (arith, lift))
with_ending c most OfRoutine h [] lift = (omega arith, omega arith, omega (arith, lift), λ e. omega (arith, lift), omega (arith, lift))
with_ending c most o h (i ∷ more) lift = (lift.0, lift.1, lift.2, lift.3, with_ending c most o (behind c i h) more lift.4)

-- the whole code of a routine lifts where its body does
pub routine_lifts : (c : CodeLists) (most : ℕ) (r : Framed) (start : ℕ)
    → Lift c 0 most (body_code (site_of r) (declared_words r.frame) (r.declared).body start) 0 0 → Lift c 0 most (routine_code r start) 0 0
routine_lifts c most r start lift = with_ending c most r.owner 0 (body_code (site_of r) (declared_words r.frame) (r.declared).body start) lift

-- ---- Along code

-- what holds at a place of an instruction there
pub record FitsAt (c : CodeLists) (least most greatest x : ℕ) (i : Instr) : Type 0 where
  pub finds : pops c i.op i.a ≤ height_at c x
  pub some : least ≤ behind c i (height_at c x)
  pub few : behind c i (height_at c x) ≤ most
  pub leaves : leaves_nothing i.op ≡ true → height_at c x - pops c i.op i.a ≡ 0
  pub low : behind c i (height_at c x) ≤ greatest

-- the next place of the routine
pub height_step : (c : CodeLists) (x : ℕ) (i : Instr) → routine_of c (x + 1) ≡ routine_of c x → slice_get c.instrs x ≡ Some i
    → height_at c (x + 1) ≡ behind c i (height_at c x)
height_step c x i same there =
    height_goes_on c x same ∙ ap (λ (j : Instr). behind c j (height_at c x)) (get_or_from_slice_get c.instrs x i no_instr there)

-- behind code, where its routine goes on
pub height_behind : (c : CodeLists) (least most : ℕ) (code : List Instr) (p q h k : ℕ)
    → ((x : ℕ) → p ≤ x → x < q → routine_of c (x + 1) ≡ routine_of c x) → Stand c p code q → Lift c least most code h k → height_at c p ≡ h
    → height_at c q ≡ k
height_behind c least most [] p q h k same stand lift at = ap (height_at c) (sym stand) ∙ at ∙ lift
height_behind c least most (i ∷ code) p q h k same stand lift at =
    let far = stands_to c (p + 1) code q stand.1 in
    height_behind c least most code (p + 1) q (behind c i h) k (λ x low high. same x (omega (arith, low)) high) stand.1 lift.4
    (height_step c p i (same p (omega arith) (omega (arith, far))) stand.0 ∙ ap (behind c i) at)

-- at each place of code, whose routine goes on up to its last instruction
pub heights_along : (c : CodeLists) (least most : ℕ) (code : List Instr) (p q h k : ℕ)
    → ((x : ℕ) → p ≤ x → x + 1 < q → routine_of c (x + 1) ≡ routine_of c x) → Stand c p code q → Lift c least most code h k → height_at c p ≡ h
    → (x : ℕ) → p ≤ x → x < q
    → (i : Instr) × (slice_get c.instrs x ≡ Some i) × FitsAt c least most (greatest_height c h code) x i
heights_along c least most [] p q h k same stand lift at x low high = absurd (omega (arith, stand, low, high))
heights_along c least most (i ∷ code) p q h k same stand lift at x low high =
    elim (cases_lt p x) [
      | inl later ↦
          let more =
          heights_along c least most code (p + 1) q (behind c i h) k (λ y far near. same y (omega (arith, far)) near) stand.1 lift.4
          (height_step c p i (same p (omega arith) (omega (arith, later, high))) stand.0 ∙ ap (behind c i) at) x (omega (arith, later)) high in (
            more.0,
            more.1,
            record {
              finds = (more.2).finds;
              some = (more.2).some;
              few = (more.2).few;
              leaves = (more.2).leaves;
              low = omega (arith, (more.2).low);
            },
          )
      | inr here ↦
          let this : p ≡ x = omega (arith, low, here) in
          let height : height_at c x ≡ h = ap (height_at c) (sym this) ∙ at in (
            i,
            subst (λ y. slice_get c.instrs y ≡ Some i) this stand.0,
            record {
              finds = subst (λ n. pops c i.op i.a ≤ n) (sym height) lift.0;
              some = subst (λ n. least ≤ behind c i n) (sym height) lift.1;
              few = subst (λ n. behind c i n ≤ most) (sym height) lift.2;
              leaves = λ e. subst (λ n. n - pops c i.op i.a ≡ 0) (sym height) (lift.3 e);
              low = subst (λ n. behind c i n ≤ greatest_height c h (i ∷ code)) (sym height) (omega (arith, greatest_from c (behind c i h) code));
            },
          )
    ]

-- ---- In a routine

-- the height of a routine's record is the greatest along its code
pub height_of : (p : Program) (k : ℕ) (r : Framed) → slice_get (all_framed p) k ≡ Some r
    → (routine_at (code_of p) k).height ≡ greatest_height (code_of p) 0 (routine_code r (start_of p k))
height_of p k r is =
    ap (λ i. i.height) (info_of p k r is) ∙ greatest_alike (calling_infos (all_framed p)) (code_of p) (calls_alike p) 0 (routine_code r (start_of p k))

-- a routine whose whole code lifts has a low record
pub height_is_low : (p : Program) (k : ℕ) (r : Framed) → slice_get (all_framed p) k ≡ Some r → (least most end : ℕ)
    → Lift (code_of p) least most (routine_code r (start_of p k)) 0 end → (routine_at (code_of p) k).height ≤ most
height_is_low p k r is least most end lift =
    omega (arith, height_of p k r is, greatest_low (code_of p) least most 0 end (routine_code r (start_of p k)) lift (omega arith))

nothing_left : (leaves : Bool) (n : ℕ) → (leaves ≡ true → n ≡ 0) → (not leaves || n == 0) ≡ true
nothing_left true n none = eq-eqb n 0 (none refl)
nothing_left false n none = refl

pub fits_from : (c : CodeLists) (least most greatest x : ℕ) (i : Instr) → FitsAt c least most greatest x i
    → greatest ≤ (routine_at c (routine_of c x)).height → height_fits c x i.op i.a (height_at c x) ≡ true
fits_from c least most greatest x i fits low =
    and_from _ _ (and_from _ _ (le-leb _ _ fits.finds) (le-leb _ _ (omega (arith, fits.low, low))))
    (nothing_left (leaves_nothing i.op) (height_at c x - pops c i.op i.a) fits.leaves)

-- what a routine whose whole code lifts has at each of its places
pub routine_heights : (p : Program) (k : ℕ) (r : Framed) → slice_get (all_framed p) k ≡ Some r → (least most end : ℕ)
    → Lift (code_of p) least most (routine_code r (start_of p k)) 0 end → (x : ℕ) → start_of p k ≤ x → x < end_of p k r
    → (i : Instr) × (slice_get (code_of p).instrs x ≡ Some i)
    × FitsAt (code_of p) least most (greatest_height (code_of p) 0 (routine_code r (start_of p k))) x i
routine_heights p k r is least most end lift x low high =
    heights_along (code_of p) least most (routine_code r (start_of p k)) (start_of p k) (end_of p k r) 0 end (stays_inside p k r is)
    (whole_stands p k r is) lift (start_is_empty p k r is) x low high

pub height_fits_inside : (p : Program) (k : ℕ) (r : Framed) → slice_get (all_framed p) k ≡ Some r → (least most end : ℕ)
    → Lift (code_of p) least most (routine_code r (start_of p k)) 0 end → (x : ℕ) → start_of p k ≤ x → x < end_of p k r
    → height_fits (code_of p) x (instr_at (code_of p) x).op (instr_at (code_of p) x).a (height_at (code_of p) x) ≡ true
height_fits_inside p k r is least most end lift x low high =
    let c = code_of p in
    let there = routine_heights p k r is least most end lift x low high in
    let here : instr_at c x ≡ there.0 = get_or_from_slice_get c.instrs x there.0 no_instr there.1 in
    let record_low : greatest_height c 0 (routine_code r (start_of p k)) ≤ (routine_at c (routine_of c x)).height =
    subst (λ j. greatest_height c 0 (routine_code r (start_of p k)) ≤ (routine_at c j).height) (sym (own_place p k r is x low high))
    (omega (arith, height_of p k r is)) in
    subst (λ (j : Instr). height_fits c x j.op j.a (height_at c x) ≡ true) (sym here)
    (fits_from c least most (greatest_height c 0 (routine_code r (start_of p k))) x there.0 there.2 record_low)
