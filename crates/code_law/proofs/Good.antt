-- The code of a program that breaks no rule is good.
use Rattle.std.proofs.Common.{◌≡◌, ℕ, zero, suc, ◌+◌, ◌<◌, ◌≤◌, ◌⊎◌, inl, inr, Bool, true, false, not, ◌&&◌, ◌||◌, Some, List, [], ◌∷◌, length, refl, sym, ◌∙◌, ap, subst, arith}
use Rattle.std.specs.Prelude.{slice_get, is_some, ◌==◌}
use Rattle.std.specs.List.{list_any}
use Rattle.std.proofs.lemmas.Bool.{false≢true, eqb-true, eq-eqb, and_parts, or_left, or_right, or_cases}
use Rattle.std.proofs.lemmas.Option.{same_Some, slice_get_within}
use Rattle.stack_code.specs.declared.instr.Instr.{Instr}
use Rattle.stack_code.specs.CodeLists.{CodeLists, instr_at, routine_at}
use Rattle.stack_code.specs.Rules.{IsGood, routine_of, height_at, is_target, is_jump, is_call, is_behind_tick, leaves_nothing, operands_fit}
use Rattle.pascal_tree.specs.Program.{Program}
use Rattle.pascal_tree.specs.Limits.{IsTree, most_levels}
use Rattle.pascal_mean.specs.Means.{Owner, OfProgram, OfRoutine}
use Rattle.pascal_code.specs.Frames.{declared_words}
use Rattle.pascal_code.specs.Senses.{Framed, all_framed, site_of}
use Rattle.pascal_code.specs.Statements.{body_code}
use Rattle.pascal_code.specs.Code.{code_of, routine_code, ending, nested_in_body}
use Rattle.code_law.specs.Heights.{HasRoom, Lift, words_for}
use Rattle.code_law.specs.Suited.{routines_of, AreSuited}
use Rattle.code_law.proofs.Fine.{AnEnd, Lands, AreFine, lower_or_not, found_at}
use Rattle.code_law.proofs.StatementLifts.{Level, Rise, body_lifts}
use Rattle.code_law.proofs.StatementPlaces.{Plain, body_fine}
use Rattle.code_law.proofs.LiftedParts.{lift_wider, scalar_stored}
use Rattle.code_law.proofs.Lifts.{expr_lifts, assign_name_lifts, assign_element_lifts, call_statement_lifts}
use Rattle.code_law.proofs.Plain.{plain_more, expr_plain, index_plain, store_plain, store_element_plain, call_statement_plain, scalar_store_plain, load_own_plain, store_own_plain}
use Rattle.code_law.proofs.Ranges.{start_of, end_of, ending_of, own_place, place_of, ends_inside, start_is_empty, ending_is_last, body_stands, ending_stands, ending_fits, owner_of_program, owner_of_routine}
use Rattle.code_law.proofs.Walks.{routine_lifts}
use Rattle.code_law.proofs.Nested.{body_fits, words_are}
use Rattle.code_law.proofs.Records.{good_by_routines}

abbrev pub At : Program → ℕ → Framed → Type 0
At p k r = slice_get (all_framed p) k ≡ Some r

-- whether the routine is a function
abbrev pub is_function : Framed → Bool
is_function r = is_some ((r.declared).signature).answer

-- names have room in the frames of every routine
abbrev pub HaveRoom : Program → Type 0
HaveRoom p = (k : ℕ) (r : Framed) → At p k r → HasRoom (code_of p) k (routines_of p) (site_of r) (is_function r)

-- where something holds of an instruction
found_among : (p : Instr → Bool) (is : List Instr) → list_any p is ≡ true → (x : ℕ) × (i : Instr) × (slice_get is x ≡ Some i) × (p i ≡ true)
found_among p [] some = absurd (false≢true some)
found_among p (i ∷ more) some = by_first (or_cases (p i) (list_any p more) some) (λ others. found_among p more others)
  where
    later : (x : ℕ) × (j : Instr) × (slice_get more x ≡ Some j) × (p j ≡ true) → (x : ℕ) × (j : Instr) × (slice_get (i ∷ more) x ≡ Some j) × (p j ≡ true)
    later found = (suc found.0, found.1, found.2, found.3)

    by_first : (p i ≡ true) ⊎ (list_any p more ≡ true) → (list_any p more ≡ true → (x : ℕ) × (j : Instr) × (slice_get more x ≡ Some j) × (p j ≡ true))
        → (x : ℕ) × (j : Instr) × (slice_get (i ∷ more) x ≡ Some j) × (p j ≡ true)
    by_first (inl this) among = (0, i, refl, this)
    by_first (inr others) among = later (among others)

module _ (p : Program) (suited : AreSuited p) (tree : IsTree p) (room : HaveRoom p) where
  abbrev c : CodeLists
  c = code_of p

  pub rise_of : (k : ℕ) (r : Framed) → At p k r → Rise (code_of p) (routines_of p) (site_of r) (is_function r)
  rise_of k r at = record {
    expr = λ e suits fits. expr_lifts (room k r at) 1500 e 0 most_levels suits fits (omega arith);
    assign_name = λ x becomes e suits fits. assign_name_lifts (room k r at) x.letters (is_function r) e suits.0 suits.1 fits;
    assign_element = λ x i becomes e suits inside fits. assign_element_lifts (room k r at)
        ((site_of r).names x.letters) i e suits.0 suits.1 suits.2 inside fits;
    calls = λ x a suits fits. call_statement_lifts (room k r at) 1500 x a suits fits (omega arith);
    control = λ x is. scalar_stored (code_of p) 0 1500 (site_of r).result ((site_of r).names x.letters) 0 is (omega arith) (omega arith);
  }

  -- how many words the frame of a routine has
  own_of : (k : ℕ) (r : Framed) → At p k r → words_for (code_of p) k r.owner ≡ (routine_at (code_of p) k).words
  own_of zero r at = ap (words_for (code_of p) 0) (owner_of_program p r at)
  own_of (suc j) r at = ap (words_for (code_of p) (suc j)) (owner_of_routine p j r at)

  pub plain_of : (k : ℕ) (r : Framed) → At p k r → Plain (code_of p) k (routines_of p) (site_of r) (is_function r) (routine_at (code_of p) k).words
  plain_of k r at = record {
    expr = λ e suits. expr_plain (code_of p) k (room k r at) e suits;
    assign_name = λ x becomes e suits.
        plain_more (code_of p) k _ _ (expr_plain (code_of p) k (room k r at) e suits.1)
        (store_plain (code_of p) k (room k r at) x.letters ((site_of r).names x.letters) refl suits.0);
    assign_element = λ x i becomes e suits.
        plain_more (code_of p) k _ _ (index_plain (code_of p) k (room k r at) x.letters i suits.1)
        (plain_more (code_of p) k _ _ (expr_plain (code_of p) k (room k r at) e suits.2)
        (store_element_plain (code_of p) k (room k r at) x.letters ((site_of r).names x.letters) refl));
    calls = λ x a suits. call_statement_plain (code_of p) k (room k r at) x a suits;
    control = λ x is. scalar_store_plain (code_of p) k (room k r at) x.letters ((site_of r).names x.letters) refl is;
    load = λ w low. load_own_plain (code_of p) k (site_of r) w (omega (arith, own_of k r at, low));
    store = λ w low. store_own_plain (code_of p) k (site_of r) w (omega (arith, own_of k r at, low));
  }

  body_is_level : (k : ℕ) (r : Framed) → At p k r → Level (code_of p) (body_code (site_of r) (declared_words r.frame) (r.declared).body (start_of p k))
  body_is_level k r at =
      body_lifts (code_of p) (routines_of p) (site_of r) (is_function r) (rise_of k r at) (r.declared).body (declared_words r.frame) (start_of p k) most_levels
      (suited k r at).suits (body_fits p tree k r at)

  whole_lifts : (k : ℕ) (r : Framed) → At p k r → Lift (code_of p) 0 1536 (routine_code r (start_of p k)) 0 0
  whole_lifts k r at =
      routine_lifts (code_of p) 1536 r (start_of p k)
      (lift_wider (code_of p) 0 1500 0 1536 (body_code (site_of r) (declared_words r.frame) (r.declared).body (start_of p k)) 0 0 (omega arith)
      (omega arith) (body_is_level k r at))

  ending_leaves : (o : Owner) → leaves_nothing (ending o).op ≡ true
  ending_leaves OfProgram = refl
  ending_leaves OfRoutine = refl

  ending_is_no_jump : (o : Owner) → is_jump (ending o).op ≡ false
  ending_is_no_jump OfProgram = refl
  ending_is_no_jump OfRoutine = refl

  ending_is_no_call : (o : Owner) → is_call (ending o).op ≡ false
  ending_is_no_call OfProgram = refl
  ending_is_no_call OfRoutine = refl

  -- each place of a routine's statements
  body_is_fine : (k : ℕ) (r : Framed) → At p k r → AreFine (code_of p) (site_of r) (declared_words r.frame) (start_of p k) (ending_of p k r)
  body_is_fine k r at =
      let words : declared_words r.frame + nested_in_body (r.declared).body ≤ (routine_at (code_of p) k).words = omega (arith, words_are p k r at) in
      body_fine (code_of p) k (routines_of p) (site_of r) (is_function r) (declared_words r.frame) (routine_at (code_of p) k).words (start_of p k)
      (end_of p k r) (own_place p k r at) (ends_inside p k r at)
      (rise_of k r at) (plain_of k r at) (r.declared).body (declared_words r.frame) (start_of p k) (start_of p k) (ending_of p k r) most_levels
      (omega arith) words refl (suited k r at).suits
      (body_fits p tree k r at) (body_stands p k r at) (omega arith) (omega (arith, ending_is_last p k r)) (start_is_empty p k r at)
      (AnEnd (ap (λ (i : Instr). leaves_nothing i.op) (found_at (code_of p) (ending_of p k r) (ending r.owner) (ending_stands p k r at))
      ∙ ending_leaves r.owner))

  -- what is at the end, or in the statements
  in_routine : (k : ℕ) (r : Framed) (P : ℕ → Type 0) → ((x : ℕ) → start_of p k ≤ x → x < ending_of p k r → P x) → P (ending_of p k r) → (x : ℕ)
      → start_of p k ≤ x → x < end_of p k r → P x
  in_routine k r P body_has end_has x low high = by_order (lower_or_not x (ending_of p k r))
    where
      by_order : (x < ending_of p k r) ⊎ (ending_of p k r ≤ x) → P x
      by_order (inl less) = body_has x low less
      by_order (inr not_less) = let same : ending_of p k r ≡ x = omega (arith, not_less, high, ending_is_last p k r) in subst P same end_has

  -- where jumps lead
  jumps_land : (k : ℕ) (r : Framed) → At p k r → (x : ℕ) → start_of p k ≤ x → x < end_of p k r → is_jump (instr_at (code_of p) x).op ≡ true
      → Lands (code_of p) (site_of r) (declared_words r.frame) (instr_at (code_of p) x).a
  jumps_land k r at x low high =
      in_routine k r (λ y. is_jump (instr_at (code_of p) y).op ≡ true → Lands (code_of p) (site_of r) (declared_words r.frame) (instr_at (code_of p) y).a)
      (λ y above below. (body_is_fine k r at y above below).lands)
      (λ jumps. absurd (false≢true (sym (ap (λ (i : Instr). is_jump i.op) (found_at (code_of p) (ending_of p k r) (ending r.owner) (ending_stands p k r at))
      ∙ ending_is_no_jump r.owner) ∙ jumps)))
      x low high

  jump_stays : (k : ℕ) (r : Framed) → At p k r → (x : ℕ) → start_of p k ≤ x → x < end_of p k r → is_jump (instr_at (code_of p) x).op ≡ true
      → routine_of (code_of p) (instr_at (code_of p) x).a ≡ routine_of (code_of p) x
  jump_stays k r at x low high =
      in_routine k r (λ y. is_jump (instr_at (code_of p) y).op ≡ true → routine_of (code_of p) (instr_at (code_of p) y).a ≡ routine_of (code_of p) y)
      (λ y above below. (body_is_fine k r at y above below).stays)
      (λ jumps. absurd (false≢true (sym (ap (λ (i : Instr). is_jump i.op) (found_at (code_of p) (ending_of p k r) (ending r.owner) (ending_stands p k r at))
      ∙ ending_is_no_jump r.owner) ∙ jumps)))
      x low high

  operands_are_right : (k : ℕ) (r : Framed) → At p k r → (x : ℕ) → start_of p k ≤ x → x < end_of p k r
      → operands_fit (code_of p) x (instr_at (code_of p) x).op (instr_at (code_of p) x).a (instr_at (code_of p) x).b ≡ true
  operands_are_right k r at x low high =
      in_routine k r (λ y. operands_fit (code_of p) y (instr_at (code_of p) y).op (instr_at (code_of p) y).a (instr_at (code_of p) y).b ≡ true)
      (λ y above below. (body_is_fine k r at y above below).fits)
      (subst (λ (i : Instr). operands_fit (code_of p) (ending_of p k r) i.op i.a i.b ≡ true)
      (sym (found_at (code_of p) (ending_of p k r) (ending r.owner) (ending_stands p k r at))) (ending_fits p k r at))
      x low high

  -- A target has nothing on the stack, and what stands there opens statements or is behind a jump.
  pub targets_land : (k : ℕ) (r : Framed) → At p k r → (t : ℕ) → start_of p k ≤ t → t < end_of p k r → is_target (code_of p) t ≡ true
      → Lands (code_of p) (site_of r) (declared_words r.frame) t
  targets_land k r at t low high target =
      let found = found_among (λ (i : Instr). is_jump i.op && i.a == t) (code_of p).instrs target in
      let x = found.0 in
      let i = found.1 in
      let parts = and_parts (is_jump i.op) (i.a == t) found.3 in
      let leads : i.a ≡ t = eqb-true i.a t parts.1 in
      let here : instr_at (code_of p) x ≡ i = found_at (code_of p) x i found.2 in
      let place = place_of p x (slice_get_within (code_of p).instrs x i found.2) in
      let j = place.0 in
      let s = place.1 in
      let jumps : is_jump (instr_at (code_of p) x).op ≡ true = ap (λ (h : Instr). is_jump h.op) here ∙ parts.0 in
      let leads_there : (instr_at (code_of p) x).a ≡ t = ap (λ (h : Instr). h.a) here ∙ leads in
      let lands : Lands (code_of p) (site_of s) (declared_words s.frame) t =
      subst (Lands (code_of p) (site_of s) (declared_words s.frame)) leads_there (jumps_land j s place.2 x place.3 place.4 jumps) in
      let stays : routine_of (code_of p) t ≡ routine_of (code_of p) x = subst (λ (m : ℕ). routine_of (code_of p) m ≡ routine_of (code_of p) x) leads_there
      (jump_stays j s place.2 x place.3 place.4 jumps) in
      let same : j ≡ k = sym (own_place p j s place.2 x place.3 place.4) ∙ sym stays ∙ own_place p k r at t low high in
      let routine : s ≡ r = same_Some s r (sym place.2 ∙ ap (slice_get (all_framed p)) same ∙ at) in
      subst (λ (u : Framed). Lands (code_of p) (site_of u) (declared_words u.frame) t) routine lands

  targets_are_right : (x : ℕ) → ((k : ℕ) (r : Framed) → At p k r → start_of p k ≤ x → x < end_of p k r
      → (height_at (code_of p) x == 0 || not (is_target (code_of p) x)) ≡ true)
  targets_are_right x k r at low high = by_target (is_target (code_of p) x) refl
    where
      by_target : (b : Bool) → is_target (code_of p) x ≡ b → (height_at (code_of p) x == 0 || not (is_target (code_of p) x)) ≡ true
      by_target true is = or_left (height_at (code_of p) x == 0) (not (is_target (code_of p) x))
          (eq-eqb (height_at (code_of p) x) 0 (targets_land k r at x low high is).height)
      by_target false is = or_right (height_at (code_of p) x == 0) (not (is_target (code_of p) x)) (ap not is)

  -- each call stands behind a tick, in the statements of each routine
  abbrev pub CallsStandBehind : Type 0
  CallsStandBehind = (k : ℕ) (r : Framed) → At p k r → (x : ℕ) → start_of p k ≤ x → x < ending_of p k r → is_call (instr_at (code_of p) x).op ≡ true
      → is_behind_tick (code_of p) x ≡ true

  calls_are_right : CallsStandBehind → (k : ℕ) (r : Framed) → At p k r → (x : ℕ) → start_of p k ≤ x → x < end_of p k r
      → (not (is_call (instr_at (code_of p) x).op) || is_behind_tick (code_of p) x) ≡ true
  calls_are_right calls k r at x low high =
      in_routine k r (λ y. (not (is_call (instr_at (code_of p) y).op) || is_behind_tick (code_of p) y) ≡ true)
      (λ y above below. by_kind y above below (is_call (instr_at (code_of p) y).op) refl)
      (or_left (not (is_call (instr_at (code_of p) (ending_of p k r)).op)) (is_behind_tick (code_of p) (ending_of p k r))
      (ap not (ap (λ (i : Instr). is_call i.op) (found_at (code_of p) (ending_of p k r) (ending r.owner) (ending_stands p k r at))
      ∙ ending_is_no_call r.owner)))
      x low high
    where
      by_kind : (y : ℕ) → start_of p k ≤ y → y < ending_of p k r → (b : Bool) → is_call (instr_at (code_of p) y).op ≡ b
          → (not (is_call (instr_at (code_of p) y).op) || is_behind_tick (code_of p) y) ≡ true
      by_kind y above below true is = or_right (not (is_call (instr_at (code_of p) y).op)) (is_behind_tick (code_of p) y) (calls k r at y above below is)
      by_kind y above below false is = or_left (not (is_call (instr_at (code_of p) y).op)) (is_behind_tick (code_of p) y) (ap not is)

  pub good_code : ((k : ℕ) → k < length (code_of p).routines → (routine_at (code_of p) k).params ≤ 16) → CallsStandBehind → IsGood (code_of p)
  good_code few calls =
      good_by_routines p suited tree few whole_lifts
      (λ k r at x low high. record {
        operands = operands_are_right k r at x low high;
        target = targets_are_right x k r at low high;
        call = calls_are_right calls k r at x low high;
      })
