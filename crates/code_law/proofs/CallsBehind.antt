-- Each CALL of a program's code stands behind a TICK that leads straight to it.
use Rattle.std.proofs.Common.{◌≡◌, ℕ, ◌+◌, ◌<◌, ◌≤◌, true, List, refl, arith}
use Rattle.stack_code.specs.CodeLists.{instr_at, routine_at}
use Rattle.stack_code.specs.Rules.{is_call, is_behind_tick}
use Rattle.pascal_tree.specs.Program.{Program}
use Rattle.pascal_tree.specs.Limits.{IsTree, most_levels}
use Rattle.pascal_code.specs.Frames.{declared_words}
use Rattle.pascal_code.specs.Senses.{Framed, Variable, Reference, site_of}
use Rattle.pascal_code.specs.Code.{code_of}
use Rattle.code_law.specs.Suited.{routines_of, AreSuited}
use Rattle.code_law.proofs.Ranges.{start_of, end_of, ending_of, own_place, ends_inside, start_is_empty, ending_is_last, body_stands}
use Rattle.code_law.proofs.Nested.{body_fits}
use Rattle.code_law.proofs.StatementCalls.{lifts_above, body_calls}
use Rattle.code_law.proofs.Good.{At, is_function, HaveRoom, rise_of, plain_of, targets_land}

-- the own variables and the VAR parameters of a routine lie below the words that FOR and CASE keep
pub record AreLow (r : Framed) : Type 0 where
  pub variable : (x : List ℕ) (a : ℕ) → (site_of r).names x ≡ Variable (site_of r).owner a → a < declared_words r.frame
  pub reference : (x : List ℕ) (a : ℕ) → (site_of r).names x ≡ Reference a → a + 1 < declared_words r.frame

pub calls_stand_behind : (p : Program) → AreSuited p → IsTree p → HaveRoom p → ((k : ℕ) (r : Framed) → At p k r → AreLow r)
    → (k : ℕ) (r : Framed) → At p k r → (x : ℕ) → start_of p k ≤ x → x < ending_of p k r → is_call (instr_at (code_of p) x).op ≡ true
    → is_behind_tick (code_of p) x ≡ true
calls_stand_behind p suited tree room low k r at =
    body_calls (code_of p) k (routines_of p) (site_of r) (is_function r) (declared_words r.frame) (routine_at (code_of p) k).words (start_of p k)
    (end_of p k r) (own_place p k r at)
    (ends_inside p k r at) (rise_of p suited tree room k r at) (plain_of p suited tree room k r at)
    (lifts_above (code_of p) k (routines_of p) (site_of r) (is_function r) (room k r at))
    (targets_land p suited tree room k r at) (low k r at).variable (low k r at).reference
    (r.declared).body (declared_words r.frame) most_levels (start_of p k) (start_of p k) (ending_of p k r) refl (suited k r at).suits
    (body_fits p tree k r at) (body_stands p k r at) (omega arith)
    (omega (arith, ending_is_last p k r)) (start_is_empty p k r at)
