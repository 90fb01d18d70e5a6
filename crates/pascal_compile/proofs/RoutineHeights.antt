-- Heights that are found routine by routine are those of the code.
use Rattle.std.proofs.Common.{◌≡◌, ℕ, zero, suc, ◌+◌, ◌-◌, ◌<◌, ◌≤◌, ◌^◌, max, List, [], ◌∷◌, ◌++◌, length, take, drop, refl, sym, ap, ap₂, subst, ◌∙◌, arith, append_assoc}
use Rattle.std.specs.Prelude.{is_some}
use Rattle.std.proofs.Math.Seq.{drop-append_seam, take-append_seam}
use Rattle.std.proofs.lemmas.List.{length-append}
use Rattle.stack_code.specs.declared.table.Op.{Op}
use Rattle.stack_code.specs.declared.table.Op.TheVariants as op
use Rattle.stack_code.specs.declared.instr.Instr.{Instr}
use Rattle.stack_code.specs.declared.instr.RoutineInfo.{RoutineInfo}
use Rattle.stack_code.specs.CodeFile.{mark}
use Rattle.stack_code.specs.CodeLists.{CodeLists, routine_at}
use Rattle.stack_code.specs.Rules.{IsGood, pops, pushes}
use Rattle.pascal_tree.specs.Program.{Program}
use Rattle.pascal_code.specs.Frames.{declared_words}
use Rattle.pascal_code.specs.Senses.{Framed, all_framed}
use Rattle.pascal_code.specs.Code.{greatest_height, routine_code, routine_info, calling_infos, instrs_from, infos_from, code_of, nested_in_body}
use Rattle.pascal_compile.specs.Infos.{without_height, without_heights}
use Rattle.pascal_compile.specs.WithHeights.{called_in, end_before, own_instrs, own_height, with_heights, HasHeight, HaveHeights}
use Rattle.pascal_compile.proofs.GoodCode.{height_fits}

-- ---- What calls ask

-- calls ask the same of the routines of two codes
record AskAlike (c d : CodeLists) : Type 0 where
  params : (k : ℕ) → (routine_at c k).params ≡ (routine_at d k).params
  function : (k : ℕ) → (routine_at c k).function ≡ (routine_at d k).function

same_pops : (c d : CodeLists) → AskAlike c d → (o : Op) (a : ℕ) → pops c o a ≡ pops d o a
same_pops c d alike op.Call a = alike.params a
same_pops c d alike op.Sys a = refl
same_pops c d alike op.SysG a = refl
same_pops c d alike op.SysL a = refl
same_pops c d alike other a = refl

same_pushes : (c d : CodeLists) → AskAlike c d → (o : Op) (a : ℕ) → pushes c o a ≡ pushes d o a
same_pushes c d alike op.Call a = ap mark (alike.function a)
same_pushes c d alike op.Sys a = refl
same_pushes c d alike op.SysG a = refl
same_pushes c d alike op.SysL a = refl
same_pushes c d alike other a = refl

same_height : (c d : CodeLists) → AskAlike c d → (code : List Instr) (h : ℕ) → greatest_height c h code ≡ greatest_height d h code
same_height c d alike [] h = refl
same_height c d alike (i ∷ more) h =
    let behind : h - pops c i.op i.a + pushes c i.op i.a ≡ h - pops d i.op i.a + pushes d i.op i.a =
    ap₂ (λ n m. h - n + m) (same_pops c d alike i.op i.a) (same_pushes c d alike i.op i.a) in
    ap (max h) (ap (λ n. greatest_height c n more) behind ∙ same_height c d alike more (h - pops d i.op i.a + pushes d i.op i.a))

same_params : (c : CodeLists) (all : List Framed) (start k : ℕ)
    → (routine_at (called_in (without_heights (infos_from c all start))) k).params ≡ (routine_at (calling_infos all) k).params
same_params c [] start k = refl
same_params c (r ∷ more) start zero = refl
same_params c (r ∷ more) start (suc k) = same_params c more (start + length (routine_code r start)) k

same_function : (c : CodeLists) (all : List Framed) (start k : ℕ)
    → (routine_at (called_in (without_heights (infos_from c all start))) k).function ≡ (routine_at (calling_infos all) k).function
same_function c [] start k = refl
same_function c (r ∷ more) start zero = refl
same_function c (r ∷ more) start (suc k) = same_function c more (start + length (routine_code r start)) k

-- ---- Where the instructions of a routine end

end_is : (c : CodeLists) (more : List Framed) (start n : ℕ) → n ≡ start + length (instrs_from more start)
    → end_before n (without_heights (infos_from c more start)) ≡ start
end_is c [] start n e = omega (arith, e)
end_is c (r ∷ more) start n e = refl

own_is : (before code rest : List Instr) (start : ℕ) → length before ≡ start
    → take (start + length code - start) (drop start (before ++ (code ++ rest))) ≡ code
own_is before code rest start e =
    let long : start + length code - start ≡ length code = omega arith in
    ap₂ (λ n (l : List Instr). take n l) long (ap (λ n. drop n (before ++ (code ++ rest))) (sym e) ∙ drop-append_seam before (code ++ rest))
    ∙ take-append_seam code rest

-- ---- Routine by routine

module _ (c d : CodeLists) (alike : AskAlike d c) where
  -- What is found for the first of some routines: what stands before it, its own instructions, and those behind.
  record First (r : Framed) (more : List Framed) (start : ℕ) (whole : List Instr) : Type 0 where
    ends : end_before (length whole) (without_heights (infos_from c more (start + length (routine_code r start)))) ≡ start + length (routine_code r start)
    inside : start + length (routine_code r start) ≤ length whole
    height : own_height d whole (without_height (routine_info c r start (routine_code r start)))
        (end_before (length whole) (without_heights (infos_from c more (start + length (routine_code r start)))))
        ≡ greatest_height c 0 (routine_code r start)
    behind : List Instr
    long : length behind ≡ start + length (routine_code r start)
    parts : whole ≡ behind ++ instrs_from more (start + length (routine_code r start))

  first_of_routines : (r : Framed) (more : List Framed) (before : List Instr) (start : ℕ) → length before ≡ start
      → (whole : List Instr) → whole ≡ before ++ instrs_from (r ∷ more) start → First r more start whole
  first_of_routines r more before start e whole w =
      let code = routine_code r start in
      let next = start + length (routine_code r start) in
      let rest = instrs_from more next in
      let long : length (before ++ code) ≡ next = omega (arith, e, length-append before code) in
      let parts : whole ≡ (before ++ code) ++ rest = w ∙ sym (append_assoc before code rest) in
      let all_long : length whole ≡ next + length rest = omega (arith, ap length parts, length-append (before ++ code) rest, long) in
      let ends = end_is c more next (length whole) all_long in
      let own : own_instrs whole (without_height (routine_info c r start code)) (end_before (length whole) (without_heights (infos_from c more next))) ≡ code =
      ap₂ (λ n (l : List Instr). take (n - start) (drop start l)) ends w ∙ own_is before code rest start e in
      record {
        ends = ends;
        inside = omega (arith, all_long);
        height = ap (greatest_height d 0) own ∙ same_height d c alike code 0;
        behind = before ++ code;
        long = long;
        parts = parts;
      }

  heights_found : (all : List Framed) (before : List Instr) (start : ℕ) → length before ≡ start → (whole : List Instr) → whole ≡ before ++ instrs_from all start
      → with_heights d whole (without_heights (infos_from c all start)) ≡ infos_from c all start
  heights_found [] before start e whole w = refl
  heights_found (r ∷ more) before start e whole w =
      let first = first_of_routines r more before start e whole w in
      let next = start + length (routine_code r start) in
      ap₂ (λ n (l : List RoutineInfo). record {
        start = start;
        params = (r.frame).parameters;
        function = is_some ((r.declared).signature).answer;
        words = declared_words r.frame + nested_in_body (r.declared).body;
        height = n;
      } ∷ l) first.height (heights_found more first.behind next first.long whole first.parts)

  heights_fit : (all : List Framed) (before : List Instr) (start : ℕ) → length before ≡ start → (whole : List Instr) → whole ≡ before ++ instrs_from all start
      → ((k : ℕ) → k < length (infos_from c all start) → (routine_at (called_in (infos_from c all start)) k).height < 2 ^ 16)
      → HaveHeights d whole (without_heights (infos_from c all start))
  heights_fit [] before start e whole w low = tt
  heights_fit (r ∷ more) before start e whole w low =
      let first = first_of_routines r more before start e whole w in
      let next = start + length (routine_code r start) in
      let has : HasHeight d whole (without_height (routine_info c r start (routine_code r start)))
      (end_before (length whole) (without_heights (infos_from c more next))) =
      record {
        ordered = omega (arith, first.ends);
        inside = omega (arith, first.ends, first.inside);
        fits = subst (λ n. n < 2 ^ 16) (sym first.height) (low 0 (omega arith));
      } in
      (has, heights_fit more first.behind next first.long whole first.parts (λ k within. low (suc k) (omega (arith, within))))

-- ---- The code of a program

alike_of : (all : List Framed) → AskAlike (called_in (without_heights (infos_from (calling_infos all) all 0))) (calling_infos all)
alike_of all = record { params = same_params (calling_infos all) all 0; function = same_function (calling_infos all) all 0 }

-- the heights of its routines are those that are found
pub found_heights : (p : Program)
    → with_heights (called_in (without_heights (code_of p).routines)) (code_of p).instrs (without_heights (code_of p).routines) ≡ (code_of p).routines
unfolding code_of
found_heights p =
    let all = all_framed p in
    heights_found (calling_infos all) (called_in (without_heights (infos_from (calling_infos all) all 0))) (alike_of all) all [] 0 refl (instrs_from all 0) refl

-- and they fit 16 bits
pub fitting_heights : (p : Program) → IsGood (code_of p)
    → HaveHeights (called_in (without_heights (code_of p).routines)) (code_of p).instrs (without_heights (code_of p).routines)
unfolding code_of
fitting_heights p good =
    let all = all_framed p in
    heights_fit (calling_infos all) (called_in (without_heights (infos_from (calling_infos all) all 0))) (alike_of all) all [] 0 refl (instrs_from all 0) refl
    (λ k within. height_fits (code_of p) good k within)
