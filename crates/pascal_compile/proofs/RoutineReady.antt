-- What is known of a routine of a program that breaks no rule, once its declarations are laid out.
use Rattle.std.proofs.Common.{◌≡◌, ℕ, ◌+◌, ◌≤◌, Bool, List, [], Option, Some, None, is_some, take, refl, arith}
use Rattle.std.specs.Prelude.{slice_get, min, if◌then◌else◌}
use Rattle.pascal_tree.specs.Program.{Parameters, Block, Routine, Program}
use Rattle.pascal_tree.specs.DeclarationRules.{broken}
use Rattle.pascal_tree.specs.Limits.{IsTree}
use Rattle.pascal_mean.specs.Means.{OfRoutine}
use Rattle.pascal_mean.specs.Declarations.{declared_constants, declared_variables, declared_parameters, parameter_list, signature_of, block_of, global_items}
use Rattle.pascal_code.specs.Frames.{declared_words, plain_frame}
use Rattle.pascal_code.specs.Senses.{Framed, framed_routine, framed_program}
use Rattle.pascal_compile.specs.declared.names.Names as names_type
use Rattle.pascal_compile.specs.declared.frame.Frame as frame_type
use Rattle.pascal_compile.specs.Seen.{seen_names}
use Rattle.pascal_compile.specs.Holds.{HoldsNames, Holds, HoldsFrame, LaidOut, known_at}
use Rattle.pascal_compile.specs.Passings.{parameters_in}
use Rattle.pascal_compile.proofs.Limits.{few_words, few_passed}
use Rattle.pascal_compile.proofs.RoutineFrames.{headings_words, framed_there, the_frame, parameters_are, routine_held}

abbrev pub the_routine : Program → ℕ → Routine → Framed
the_routine p j r = framed_routine (known_at p (j + 1)) (signature_of (known_at p j) r) (block_of r)

pub known_few : (p : Program) → IsTree p → broken p ≡ None → (count : ℕ) → declared_words (plain_frame (known_at p count)) ≤ 4096
known_few p tree none count =
    omega (
      arith,
      headings_words 1 (take count p.routines) (global_items p),
      headings_words 1 p.routines (global_items p),
      few_words p tree none 0 (framed_program p) refl,
    )

pub ready : (p : Program) → IsTree p → broken p ≡ None → (j : ℕ) (r : Routine) → slice_get p.routines j ≡ Some r
    → (a b d e f : frame_type.Frame) (n : names_type.Names) (ps : Option Parameters) (blk : Block) (function : Bool)
    → ps ≡ parameters_in r → HoldsFrame a (plain_frame [])
    → (HoldsFrame a (plain_frame []) → HoldsFrame b (plain_frame (declared_parameters (parameter_list (known_at p j) ps) [])))
    → HoldsNames n (plain_frame (known_at p (j + 1))) → blk ≡ block_of r → function ≡ is_some (signature_of (known_at p j) r).answer
    → ((x : List ℕ) → seen_names d.names x ≡ seen_names b.names x) → d.words ≡ min (b.words + (if function then 1 else 0)) 65535
    → LaidOut n d e (λ scope. declared_constants scope blk.consts) → LaidOut n e f (λ scope. declared_variables OfRoutine scope blk.vars)
    → Holds f (the_frame p j r) × (b.words ≡ (the_frame p j r).parameters)
ready p tree none j r there a b d e f n ps blk function ps_is first parameters known blk_is function_is names words constants variables =
    let is = framed_there p j r there in (
      routine_held p j r a b ps ps_is first parameters n d e f blk function known blk_is function_is names words constants variables
          (few_words p tree none (j + 1) (the_routine p j r) is),
      parameters_are p j r a b ps ps_is first parameters (few_passed p tree none (j + 1) (the_routine p j r) is),
    )
