-- The run of compiled code is what the program means.
use Rattle.std.proofs.Common.{◌≡◌, ℕ, zero, suc, ◌+◌, ◌<◌, ◌≤◌, false, Some, None, List, [], ◌∷◌, ◌++◌, pos, refl, sym, ap, subst, arith}
use Rattle.std.specs.Prelude.{slice_get, replicate}
use Rattle.std.proofs.lemmas.Option.{none-some, same_Some}
use Rattle.solo_base.specs.declared.outcome.ProgResult.TheVariants as result
use Rattle.solo_base.specs.declared.system_call.SysReply.{SysReply}
use Rattle.stack_code.specs.declared.table.Op.TheVariants as op
use Rattle.stack_code.specs.CodeLists.{CodeLists, IsCode, routine_at}
use Rattle.stack_code.specs.Rules.{IsGood}
use Rattle.stack_machine.specs.Machine.{effect, start_state}
use Rattle.stack_machine.specs.Run.{Runs, AreFitting}
use Rattle.stack_machine.proofs.Safety.{begins_running}
use Rattle.pascal_tree.specs.Program.{Program}
use Rattle.pascal_mean.specs.Situation.{Course, Gives, Over}
use Rattle.pascal_mean.specs.Variables.{map_at}
use Rattle.pascal_mean.specs.Declarations.{all_declared, global_items, declared_headings}
use Rattle.pascal_mean.specs.Meaning.{called_value, in_order, outcome_of, opening, program_part, meaning_with, meaning}
use Rattle.pascal_code.specs.Frames.{Frame, declared_words}
use Rattle.pascal_code.specs.Senses.{Reference, framed_program, site_of, sense_in}
use Rattle.pascal_code.specs.Instructions.{bare}
use Rattle.pascal_code.specs.Statements.{body_code}
use Rattle.pascal_code.specs.Code.{code_of, ending}
use Rattle.stack_machine.specs.Activations.{words_from}
use Rattle.pascal_mean.specs.Variables.{fresh_map}
use Rattle.pascal_mean.specs.Means.{OfProgram}
use Rattle.code_law.specs.Regions.{AreApart}
use Rattle.code_law.specs.Ties.{AreTied}
use Rattle.code_law.specs.Named.{Named}
use Rattle.code_law.specs.Suited.{routines_of, AreSuited}
use Rattle.code_law.proofs.Standing.{Stand, parted}
use Rattle.code_law.proofs.Regions.{plain_is_apart}
use Rattle.code_law.proofs.Opening.{begun_is_tied}
use Rattle.code_law.proofs.Reached.{does, stops}
use Rattle.code_law.proofs.Here.{Fixed, own_number, Here, After, from, Kept}
use Rattle.code_law.proofs.Statements.{body_runs}
use Rattle.code_law.proofs.Compiled.{compiled_at, first_starts}
use Rattle.code_law.proofs.Sites.{globals_are, owner_among, over_words, headings_over, Itself}
use Rattle.code_law.proofs.Naming.{frame_of_program, program_is_named}
use Rattle.code_law.proofs.Calls.{calls_run}

halts : (c : CodeLists) (limit : ℕ) (replies : List SysReply) (f : Fixed) (q : ℕ) (course : Course (Unit {0})) → slice_get c.instrs q ≡ Some (bare op.Halt)
    → After c limit replies (λ _ n. Here c limit replies f q [] n) course → Runs c limit replies (outcome_of course)
unfolding effect
halts c limit replies f q (Gives done now) found after = stops result.Terminated now.line now.ticks after.comes.reached
    (does after.comes.reached (bare op.Halt) found)
halts c limit replies f q (Over outcome) found after = after.comes

-- the program has no VAR parameter
no_references : (p : Program) (x : List ℕ) (a : ℕ) → sense_in (frame_of_program p) x ≡ Some (Reference a) → a < 0
no_references p x a is = let e = owner_among OfProgram false (frame_of_program p) (global_items p) x (Reference a) (globals_are p) is in cc

pub compiled_runs : (p : Program) (limit : ℕ) (replies : List SysReply) → AreSuited p → IsCode (code_of p) → IsGood (code_of p)
    → AreFitting (code_of p) limit (start_state (code_of p)) replies → Runs (code_of p) limit replies (meaning p limit replies)
unfolding meaning meaning_with
compiled_runs p limit replies suited code good fitting =
    let c = code_of p in
    let r = framed_program p in
    let frame = frame_of_program p in
    let size = (routine_at c 0).words in
    let f : Fixed = record {
      routine = 0;
      callers = [];
      frames = frame ∷ [];
      references = λ d x. record { activation = 0; letters = [] };
      held = λ d i.
          None;
      floor = 0;
    } in
    let compiled = compiled_at p 0 r refl in
    let start : (routine_at c 0).start ≡ 0 = first_starts p in
    let words : declared_words frame ≤ 0 + size = omega (
      arith,
      compiled.words,
      over_words (global_items p) (declared_headings 1 p.routines (global_items p))
          (headings_over (global_items p) 1 p.routines (global_items p) Itself),
    ) in
    let here : Here c limit replies f 0 [] opening = record {
      below = [];
      words = replicate size (pos 0);
      reached = record {
        good = good;
        used = [];
        left = replies;
        begun = start_state c;
        steps = 0;
        split = refl;
        count = refl;
        replied = refl;
        moves =
            refl;
        runs = refl;
        here = begins_running c limit code good;
        fitting = fitting;
      };
      waiting = refl;
      agree = record {
        as_many = refl;
        all_open = refl;
        apart = λ d g at. subst (λ (h : Frame). AreApart h) (only d g at).1 (plain_is_apart (global_items p));
        tied = λ d g at. subst (λ n. AreTied (frame ∷ []) n g (map_at (opening).maps n) (words_from [] (replicate size (pos 0)) n)) (sym (only d g at).0)
            (subst (λ (h : Frame). AreTied (frame ∷ []) 0 h fresh_map (replicate size (pos 0))) (only d g at).1
            (begun_is_tied (frame ∷ []) 0 frame (plain_is_apart (global_items p)) (no_references p) [] [] [] size refl tt tt words (omega arith)));
        holds = λ d i g v at none. absurd (none-some v none);
      };
      named = λ d low. first_only d low;
      risen = omega arith;
    } in
    let names : Named f.frames (own_number f) (site_of r) (r.declared).scope = program_is_named p (suited 0 r refl).few in
    let k : Kept = record { floor = 0; held = λ d i. None } in
    let two = parted c 0 (body_code (site_of r) (declared_words r.frame) (r.declared).body 0) (ending r.owner ∷ []) compiled.end
    (subst (λ n. Stand c n (body_code (site_of r) (declared_words r.frame) (r.declared).body n ++ ending r.owner ∷ []) compiled.end) start
    compiled.stands) in
    halts c limit replies f two.0 (program_part (in_order replies) limit (all_declared p) opening) two.1.1.0
    (body_runs c limit replies f (site_of r) (r.declared).scope names false (λ e. cc) (routines_of p)
    (called_value (in_order replies) limit (all_declared p) 63)
    (λ m. calls_run p suited limit replies 63 (from f m) refl refl refl)
    (r.declared).body (declared_words r.frame) 0 0 0 two.0 k opening
    (omega (
      arith,
      ap declared_words (same_Some frame names.frame names.own_at),
      over_words (global_items p)
          (declared_headings 1 p.routines (global_items p)) (headings_over (global_items p) 1 p.routines (global_items p) Itself),
    ))
    (λ i v none. absurd (none-some v none)) refl
    (suited 0 r refl).suits two.1.0 here)
  where
    only : (d : ℕ) (g : Frame) → slice_get (frame_of_program p ∷ []) d ≡ Some g → (d ≡ 0) × (frame_of_program p ≡ g)
    only zero g at = (refl, same_Some _ g at)
    only (suc d) g at = absurd (none-some g at)

    first_only : (d : ℕ) → d < 1 → (map_at (opening).maps d).references ≡ (λ x. record { activation = 0; letters = [] })
    first_only zero low = refl
    first_only (suc d) low = absurd (omega (arith, low))
