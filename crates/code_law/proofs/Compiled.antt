-- Where the code of each routine stands in that of the program.
use Rattle.std.proofs.Common.{◌≡◌, ℕ, zero, suc, ◌+◌, ◌≤◌, List, [], ◌∷◌, ◌++◌, length, Some, refl, sym, ◌∙◌, ap, subst, arith, append_assoc}
use Rattle.std.specs.Prelude.{slice_get, is_some}
use Rattle.std.proofs.lemmas.List.{length-append}
use Rattle.std.proofs.lemmas.Option.{none-some, same_Some, get_or_from_slice_get}
use Rattle.stack_code.specs.declared.instr.Instr.{Instr}
use Rattle.stack_code.specs.declared.instr.RoutineInfo.{RoutineInfo}
use Rattle.stack_code.specs.CodeLists.{CodeLists, routine_at, no_routine}
use Rattle.pascal_tree.specs.Program.{Program}
use Rattle.pascal_code.specs.Frames.{declared_words}
use Rattle.pascal_code.specs.Senses.{Framed, all_framed}
use Rattle.pascal_code.specs.Code.{routine_code, routine_info, instrs_from, infos_from, calling_infos, code_of}
use Rattle.code_law.proofs.Standing.{Stand}

-- the code of a routine stands at its start, and its record says what is called
pub record IsCompiled (c : CodeLists) (k : ℕ) (r : Framed) : Type 0 where
  pub end : ℕ
  pub stands : Stand c (routine_at c k).start (routine_code r (routine_at c k).start) end
  pub params : (routine_at c k).params ≡ (r.frame).parameters
  pub function : (routine_at c k).function ≡ is_some ((r.declared).signature).answer
  pub words : declared_words r.frame ≤ (routine_at c k).words

-- a routine among those from a place on
record Found (calling : CodeLists) (fs : List Framed) (start k : ℕ) (r : Framed) : Type 0 where
  at : ℕ
  front : List Instr
  rest : List Instr
  parts : instrs_from fs start ≡ front ++ (routine_code r at ++ rest)
  there : start + length front ≡ at
  info : slice_get (infos_from calling fs start) k ≡ Some (routine_info calling r at (routine_code r at))

found_in : (calling : CodeLists) (fs : List Framed) (start k : ℕ) (r : Framed) → slice_get fs k ≡ Some r → Found calling fs start k r
found_in calling [] start k r is = absurd (none-some r is)
found_in calling (s ∷ fs) start zero r is =
    let same : s ≡ r = same_Some s r is in
    let none : start + 0 ≡ start = omega arith in
    record {
      at = start;
      front = [];
      rest = instrs_from fs (start + length (routine_code s start));
      parts = ap (λ (t : Framed). routine_code t start ++ instrs_from fs (start + length (routine_code s start))) same;
      there = none;
      info = ap (λ (t : Framed). Some (routine_info calling t start (routine_code t start))) same;
    }
found_in calling (s ∷ fs) start (suc k) r is =
    let code = routine_code s start in
    let more = found_in calling fs (start + length code) k r is in
    record {
      at = more.at;
      front = code ++ more.front;
      rest = more.rest;
      parts = ap (λ (l : List Instr). code ++ l) more.parts ∙ sym (append_assoc code more.front (routine_code r more.at ++ more.rest));
      there = omega (arith, more.there, length-append code more.front);
      info = more.info;
    }

at_seam : (front : List Instr) (i : Instr) (rest : List Instr) (n : ℕ) → n ≡ length front → slice_get (front ++ i ∷ rest) n ≡ Some i
at_seam [] i rest zero is = refl
at_seam [] i rest (suc n) is = absurd (omega (arith, is))
at_seam (j ∷ front) i rest zero is = absurd (omega (arith, is))
at_seam (j ∷ front) i rest (suc n) is = at_seam front i rest n (omega (arith, is))

-- instructions among others stand there
pub stands_in : (c : CodeLists) (front is rest : List Instr) (p : ℕ) → c.instrs ≡ front ++ (is ++ rest) → p ≡ length front → Stand c p is (p + length is)
stands_in c front [] rest p whole at = let none : p ≡ p + 0 = omega arith in none
stands_in c front (i ∷ is) rest p whole at =
    let split : c.instrs ≡ (front ++ i ∷ []) ++ (is ++ rest) = whole ∙ sym (append_assoc front (i ∷ []) (is ++ rest)) in
    let later = stands_in c (front ++ i ∷ []) is rest (p + 1) split (omega (arith, at, length-append front (i ∷ []))) in
    let ends : p + 1 + length is ≡ p + length (i ∷ is) = omega arith in
    (ap (λ (l : List Instr). slice_get l p) whole ∙ at_seam front i (is ++ rest) p at, subst (Stand c (p + 1) is) ends later)

pub compiled_at : (p : Program) (k : ℕ) (r : Framed) → slice_get (all_framed p) k ≡ Some r → IsCompiled (code_of p) k r
unfolding code_of
compiled_at p k r is =
    let all = all_framed p in
    let calling = calling_infos all in
    let found = found_in calling all 0 k r is in
    let code = routine_code r found.at in
    let info : routine_at (code_of p) k ≡ routine_info calling r found.at code =
    get_or_from_slice_get (infos_from calling all 0) k (routine_info calling r found.at code) no_routine found.info in
    let start : found.at ≡ (routine_at (code_of p) k).start = ap (λ (i : RoutineInfo). i.start) (sym info) in
    let stand : Stand (code_of p) found.at code (found.at + length code) = stands_in (code_of p) found.front code found.rest found.at found.parts
    (omega (arith, found.there)) in
    record {
      end = found.at + length code;
      stands = subst (λ s. Stand (code_of p) s (routine_code r s) (found.at + length code)) start stand;
      params = ap (λ (i : RoutineInfo). i.params) info;
      function = ap (λ (i : RoutineInfo). i.function) info;
      words = omega (arith, ap (λ (i : RoutineInfo). i.words) info);
    }

-- the program's own code is the first
pub first_starts : (p : Program) → (routine_at (code_of p) 0).start ≡ 0
unfolding code_of
first_starts p = refl
