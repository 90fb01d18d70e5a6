-- The size of a program is the number of its instructions.
use Rattle.std.proofs.Common.{◌≡◌, ℕ, ◌+◌, List, [], ◌∷◌, length, arith, refl, sym, length-append}
use Rattle.pascal_tree.specs.Program.{Routine, Program}
use Rattle.pascal_mean.specs.Predeclared.{Item}
use Rattle.pascal_mean.specs.Declarations.{all_declared, routines_after, block_of, signature_of, heading_item, declared_headings, global_items}
use Rattle.pascal_code.specs.Frames.{declared_words, plain_frame, routine_frame}
use Rattle.pascal_code.specs.Senses.{AreSenses, Framed, framed_program, framed_routine, framed_after, all_framed, site_of}
use Rattle.pascal_code.specs.Statements.{body_code}
use Rattle.pascal_code.specs.Code.{ending, routine_code, instrs_from, code_of}
use Rattle.pascal_code.specs.Size.{body_size, routines_size, size}
use Rattle.pascal_code.proofs.SensesAgree.{names_are_senses}
use Rattle.pascal_code.proofs.SizesOfStatements.{body_sized}

routine_sized : (r : Framed) → AreSenses (r.declared).scope r.names → (start : ℕ)
    → length (routine_code r start) ≡ body_size (r.declared).scope (r.declared).body + 1
routine_sized r are start =
    let code = body_code (site_of r) (declared_words r.frame) (r.declared).body start in
    omega (
      arith,
      length-append code (ending r.owner ∷ []),
      body_sized (site_of r) (r.declared).scope are (r.declared).body (declared_words r.frame) start,
    )

routines_sized : (k : ℕ) (known : List Item) (routines : List Routine) (start : ℕ)
    → length (instrs_from (framed_after k known routines) start) ≡ routines_size (routines_after k known routines)
routines_sized k known [] start = refl
routines_sized k known (r ∷ more) start =
    let these = heading_item k known r ∷ known in
    let first = framed_routine these (signature_of known r) (block_of r) in
    let code = routine_code first start in
    omega (
      arith,
      length-append code (instrs_from (framed_after (k + 1) these more) (start + length code)),
      routine_sized first (names_are_senses (routine_frame these (signature_of known r) (block_of r)) (plain_frame these)) start,
      routines_sized (k + 1) these more (start + length code),
    )

all_sized : (p : Program) → length (instrs_from (all_framed p) 0) ≡ routines_size (all_declared p)
all_sized p =
    let code = routine_code (framed_program p) 0 in
    omega (
      arith,
      length-append code (instrs_from (framed_after 1 (global_items p) p.routines) (0 + length code)),
      routine_sized (framed_program p)
          (names_are_senses (plain_frame []) (plain_frame (declared_headings 1 p.routines (global_items p)))) 0,
      routines_sized 1 (global_items p) p.routines (0 + length code),
    )

pub program_sized : (p : Program) → size p ≡ length (code_of p).instrs
unfolding size code_of
program_sized p = sym (all_sized p)
