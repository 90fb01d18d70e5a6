-- What a program that breaks no rule keeps of words and routines.
use Rattle.std.proofs.Common.{◌≡◌, ℕ, ◌≤◌, Some, None, arith}
use Rattle.std.specs.Prelude.{slice_get}
use Rattle.pascal_tree.specs.Program.{Program}
use Rattle.pascal_tree.specs.DeclarationRules.{broken}
use Rattle.pascal_tree.specs.Limits.{IsTree}
use Rattle.pascal_code.specs.Frames.{declared_words}
use Rattle.pascal_code.specs.Senses.{Framed, all_framed}
use Rattle.pascal_code.specs.Code.{nested_in_body}
use Rattle.code_law.proofs.SuitedPrograms.{suited}
use Rattle.code_law.proofs.BoundedRoutines.{routines_are_bounded}
use Rattle.code_law.proofs.Nested.{body_nested, body_fits}

pub few_words : (p : Program) → IsTree p → broken p ≡ None → (k : ℕ) (r : Framed) → slice_get (all_framed p) k ≡ Some r → declared_words r.frame ≤ 4096
few_words p tree none k r is = (suited p tree.words none k r is).few

pub few_passed : (p : Program) → IsTree p → broken p ≡ None → (k : ℕ) (r : Framed) → slice_get (all_framed p) k ≡ Some r → (r.frame).parameters ≤ 16
few_passed p tree none k r is = (routines_are_bounded p tree none k r is).passed

pub few_nested : (p : Program) → IsTree p → (k : ℕ) (r : Framed) → slice_get (all_framed p) k ≡ Some r → nested_in_body (r.declared).body ≤ 128
few_nested p tree k r is = omega (arith, body_nested (r.declared).body 64 (body_fits p tree k r is))
