-- What holds at each place of compiled statements: operands fit, and jumps lead where nothing is on the stack.
use Rattle.std.proofs.Common.{◌≡◌, ℕ, ◌+◌, ◌<◌, ◌≤◌, Bool, true, false, Some, List, [], ◌∷◌, length, ◌⊎◌, inl, inr, refl, sym, ◌∙◌, subst, arith}
use Rattle.std.specs.Prelude.{slice_get, ◌==◌, ◌&&◌, ◌||◌, nat_lt}
use Rattle.std.specs.List.{AllByRecursion}
use Rattle.std.proofs.lemmas.Bool.{false≢true, eq-eqb, lt-ltb, ltb-true, ltb-false, and_from, or_left, or_right}
use Rattle.std.proofs.lemmas.Option.{get_or_from_slice_get}
use Rattle.stack_code.specs.declared.instr.Instr.{Instr}
use Rattle.stack_code.specs.CodeLists.{CodeLists, instr_at, no_instr}
use Rattle.stack_code.specs.Rules.{routine_of, height_at, operands_fit, is_jump, is_tick, leaves_nothing, jump_fits}
use Rattle.pascal_code.specs.Senses.{Site}
use Rattle.pascal_code.specs.Statements.{load_own, jump, jump_if_false}
use Rattle.code_law.specs.Heights.{behind, Lift, IsPlain}
use Rattle.code_law.proofs.Standing.{Stand, stands_to}
use Rattle.code_law.proofs.Walks.{height_step as one_step, height_behind as all_steps}

-- What stands where statements begin and behind them: a tick, a jump or an end, or the load of a word that a FOR or a CASE keeps.
pub data Opens (site : Site) (base : ℕ) (i : Instr) : Type 0 where
  ATick : is_tick i.op ≡ true → Opens site base i
  AnEnd : leaves_nothing i.op ≡ true → Opens site base i
  AKeptWord : (w : ℕ) → base ≤ w → i ≡ load_own site w → Opens site base i

-- a jump stands before the place
pub record IsBehindJump (c : CodeLists) (a : ℕ) : Type 0 where
  pub before : ℕ
  pub next : before + 1 ≡ a
  pub jumps : is_jump (instr_at c before).op ≡ true

-- where a jump leads
pub record Lands (c : CodeLists) (site : Site) (base a : ℕ) : Type 0 where
  pub height : height_at c a ≡ 0
  pub opener : Opens site base (instr_at c a) ⊎ IsBehindJump c a

pub record IsFine (c : CodeLists) (site : Site) (base x : ℕ) : Type 0 where
  pub fits : operands_fit c x (instr_at c x).op (instr_at c x).a (instr_at c x).b ≡ true
  pub stays : is_jump (instr_at c x).op ≡ true → routine_of c (instr_at c x).a ≡ routine_of c x
  pub lands : is_jump (instr_at c x).op ≡ true → Lands c site base (instr_at c x).a

-- each place from one up to another
abbrev pub AreFine : CodeLists → Site → ℕ → ℕ → ℕ → Type 0
AreFine c site base p q = (x : ℕ) → p ≤ x → x < q → IsFine c site base x

pub lower_or_not : (x m : ℕ) → (x < m) ⊎ (m ≤ x)
lower_or_not x m = by_test (nat_lt x m) refl
  where
    by_test : (b : Bool) → nat_lt x m ≡ b → (x < m) ⊎ (m ≤ x)
    by_test true e = inl (ltb-true x m e)
    by_test false e = inr (ltb-false x m e)

pub found_at : (c : CodeLists) (p : ℕ) (i : Instr) → slice_get c.instrs p ≡ Some i → instr_at c p ≡ i
found_at c p i found = get_or_from_slice_get c.instrs p i no_instr found

module _ (c : CodeLists) (k : ℕ) (site : Site) (base start end : ℕ) (within : (x : ℕ) → start ≤ x → x < end → routine_of c x ≡ k)
    (some : end ≤ length c.instrs) where
  -- ---- Heights
  stays : (p : ℕ) → start ≤ p → p + 1 < end → routine_of c (p + 1) ≡ routine_of c p
  stays p low high = within (p + 1) (omega (arith, low)) high ∙ sym (within p low (omega (arith, high)))

  pub height_step : (p : ℕ) (i : Instr) → start ≤ p → p + 1 < end → slice_get c.instrs p ≡ Some i
      → height_at c (p + 1) ≡ behind c i (height_at c p)
  height_step p i low high found = one_step c p i (stays p low high) found

  pub height_behind : (least most : ℕ) (code : List Instr) (p q h n : ℕ) → start ≤ p → q < end → Stand c p code q
      → Lift c least most code h n → height_at c p ≡ h → height_at c q ≡ n
  height_behind least most code p q h n low high stand lift at =
      all_steps c least most code p q h n (λ x above below. stays x (omega (arith, low, above)) (omega (arith, below, high))) stand lift at

  -- ---- Single places, and several
  pub fine_more : (p m q : ℕ) → AreFine c site base p m → AreFine c site base m q → AreFine c site base p q
  fine_more p m q one two x low high = by_order (lower_or_not x m)
    where
      by_order : (x < m) ⊎ (m ≤ x) → IsFine c site base x
      by_order (inl less) = one x low less
      by_order (inr not_less) = two x not_less high

  pub fine_none : (p q : ℕ) → p ≡ q → AreFine c site base p q
  fine_none p q same x low high = absurd (omega (arith, same, low, high))

  pub fine_at : (p : ℕ) → IsFine c site base p → AreFine c site base p (p + 1)
  fine_at p fine x low high = let same : p ≡ x = omega (arith, low, high) in subst (IsFine c site base) same fine

  fine_from : (p : ℕ) (i : Instr) → slice_get c.instrs p ≡ Some i → operands_fit c p i.op i.a i.b ≡ true
      → (is_jump i.op ≡ true → (routine_of c i.a ≡ routine_of c p) × Lands c site base i.a) → AreFine c site base p (p + 1)
  fine_from p i found fits lands =
      let here : i ≡ instr_at c p = sym (found_at c p i found) in
      let there : is_jump (instr_at c p).op ≡ true → (routine_of c (instr_at c p).a ≡ routine_of c p) × Lands c site base (instr_at c p).a =
      subst (λ (j : Instr). is_jump j.op ≡ true → (routine_of c j.a ≡ routine_of c p) × Lands c site base j.a) here lands in
      fine_at p (record {
        fits = subst (λ (j : Instr). operands_fit c p j.op j.a j.b ≡ true) here fits;
        stays = λ jumps. (there jumps).0;
        lands = λ jumps. (there jumps).1;
      })

  -- what is no jump
  pub fine_one : (p : ℕ) (i : Instr) → slice_get c.instrs p ≡ Some i → is_jump i.op ≡ false → operands_fit c p i.op i.a i.b ≡ true
      → AreFine c site base p (p + 1)
  fine_one p i found none fits = fine_from p i found fits (λ jumps. absurd (false≢true (sym none ∙ jumps)))

  pub fine_plain : (code : List Instr) (p q : ℕ) → start ≤ p → q ≤ end → Stand c p code q → AllByRecursion (IsPlain c k) code → AreFine c site base p q
  fine_plain [] p q low high stand plain = fine_none p q stand
  fine_plain (i ∷ code) p q low high stand plain =
      let far : q ≡ p + 1 + length code = stands_to c (p + 1) code q stand.1 in
      fine_more p (p + 1) q
      (fine_one p i stand.0 (plain.0).no_jump ((plain.0).fits p (within p low (omega (arith, far, high)))))
      (fine_plain code (p + 1) q (omega (arith, low)) high stand.1 plain.1)

  -- a jump forward, or to a tick
  pub jump_fits_to : (p a : ℕ) → start ≤ p → p < end → start ≤ a → a < end → (p < a) ⊎ (is_tick (instr_at c a).op ≡ true) → jump_fits c p a ≡ true
  jump_fits_to p a low high low_to high_to way =
      and_from (nat_lt a (length c.instrs) && routine_of c a == routine_of c p) _
      (and_from (nat_lt a (length c.instrs)) _ (lt-ltb a (length c.instrs) (omega (arith, high_to, some)))
      (eq-eqb (routine_of c a) (routine_of c p) (within a low_to high_to ∙ sym (within p low high))))
      (by_way way)
    where
      by_way : (p < a) ⊎ (is_tick (instr_at c a).op ≡ true) → (nat_lt p a || is_tick (instr_at c a).op) ≡ true
      by_way (inl forward) = or_left (nat_lt p a) (is_tick (instr_at c a).op) (lt-ltb p a forward)
      by_way (inr back) = or_right (nat_lt p a) (is_tick (instr_at c a).op) back

  pub fine_jump : (p a : ℕ) → start ≤ p → p < end → start ≤ a → a < end → slice_get c.instrs p ≡ Some (jump a) → (p < a) ⊎ (is_tick (instr_at c a).op ≡ true)
      → Lands c site base a
      → AreFine c site base p (p + 1)
  fine_jump p a low high low_to high_to found way lands = fine_from p (jump a) found (jump_fits_to p a low high low_to high_to way)
      (λ jumps. (within a low_to high_to ∙ sym (within p low high), lands))

  pub fine_branch : (p a : ℕ) → start ≤ p → p < end → start ≤ a → a < end → slice_get c.instrs p ≡ Some (jump_if_false a)
      → (p < a) ⊎ (is_tick (instr_at c a).op ≡ true) → Lands c site base a
      → AreFine c site base p (p + 1)
  fine_branch p a low high low_to high_to found way lands = fine_from p (jump_if_false a) found (jump_fits_to p a low high low_to high_to way)
      (λ jumps. (within a low_to high_to ∙ sym (within p low high), lands))
