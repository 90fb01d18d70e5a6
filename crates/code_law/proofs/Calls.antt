-- A call of a routine does what its statements mean, as deep as calls may go.
use Rattle.std.proofs.Common.{◌≡◌, ℕ, zero, suc, ◌+◌, ◌<◌, ◌≤◌, Bool, true, false, Some, List, [], ◌∷◌, ◌++◌, length, ℤ, refl, sym, ◌∙◌, ap, subst, arith}
use Rattle.std.specs.Prelude.{slice_get, is_some}
use Rattle.std.proofs.lemmas.List.{length-append}
use Rattle.std.proofs.lemmas.Option.{same_Some, slice_get_within}
use Rattle.solo_base.specs.declared.system_call.SysReply.{SysReply}
use Rattle.stack_code.specs.declared.table.Op.TheVariants as op
use Rattle.stack_code.specs.CodeLists.{routine_at}
use Rattle.pascal_tree.specs.Program.{Block, Program}
use Rattle.pascal_mean.specs.Means.{Signature}
use Rattle.pascal_mean.specs.Predeclared.{Item}
use Rattle.pascal_mean.specs.Situation.{Situation, Course, Part, Gives, and_then}
use Rattle.pascal_mean.specs.Variables.{map_at}
use Rattle.pascal_mean.specs.Calls.{Given, begun_map}
use Rattle.pascal_mean.specs.Declarations.{Declared, all_declared, global_items, declared_headings}
use Rattle.pascal_mean.specs.Meaning.{declared_at, begun, ended, setting_of, called_value, in_order}
use Rattle.pascal_mean.specs.Statements.{after_body}
use Rattle.pascal_code.specs.Frames.{Frame, declared_words, routine_frame}
use Rattle.pascal_code.specs.Senses.{Framed, framed_program, framed_routine, all_framed, site_of}
use Rattle.pascal_code.specs.Instructions.{bare, with_a}
use Rattle.pascal_code.specs.Statements.{body_code}
use Rattle.pascal_code.specs.Code.{code_of, ending}
use Rattle.code_law.specs.Arguments.{AreWords, Suit}
use Rattle.code_law.specs.Named.{Named}
use Rattle.code_law.specs.Suited.{routines_of, AreSuited}
use Rattle.code_law.proofs.Standing.{parted}
use Rattle.code_law.proofs.Regions.{border_low, parameters_border, routine_is_apart}
use Rattle.code_law.proofs.Lists.{first_of_more, last_of_more}
use Rattle.code_law.proofs.Opening.{on_top}
use Rattle.code_law.proofs.Here.{Fixed, own_number, Here, After, after, from, Kept}
use Rattle.code_law.proofs.Entry.{IsRoutine, caller_at, inner, begins, refuses, returns, returns_value, none_here}
use Rattle.code_law.proofs.Rows.{result_on}
use Rattle.code_law.proofs.Expressions.{CallsRun}
use Rattle.code_law.proofs.Statements.{body_runs}
use Rattle.code_law.proofs.Compiled.{compiled_at}
use Rattle.code_law.proofs.Sites.{references_low, over_words, headings_over, Over, Itself}
use Rattle.code_law.proofs.Naming.{frame_of_program, IsFramedRoutine, routine_is, declared_is, framed_there, routine_is_named, has_result}

-- the activation with a number ends, and the caller goes on
abbrev ends_with : ℕ → ℕ → Situation → Course ℤ
ends_with number line n = Gives ((map_at n.maps number).answer) (ended number line n)

abbrev whole_call : ℕ → List SysReply → Declared → ℕ → (ℕ → List Given → Part ℤ) → List Given → Situation → Course ℤ
whole_call limit replies d number does given now = and_then (after_body (setting_of (in_order replies) limit d number does) d.body (begun d given now))
    (λ _ n. ends_with number now.line n)

module _ (p : Program) (suited : AreSuited p) where
  pub program_few : declared_words (frame_of_program p) ≤ 4096
  program_few = omega (
    arith,
    (suited 0 (framed_program p) refl).few,
    over_words (global_items p) (declared_headings 1 p.routines (global_items p))
        (headings_over (global_items p) 1 p.routines (global_items p) Itself),
  )

  -- what a routine's frame is to its calls
  is_routine : (j : ℕ) (r : Framed) (at : slice_get (all_framed p) (suc j) ≡ Some r) (fr : IsFramedRoutine p r)
      → IsRoutine (code_of p) (suc j) (routine_frame fr.known fr.signature fr.block) (fr.signature).parameters
  is_routine j r at fr =
      let here : slice_get (all_framed p) (suc j) ≡ Some (framed_routine fr.known fr.signature fr.block) = at ∙ ap Some fr.is in
      let compiled = compiled_at p (suc j) (framed_routine fr.known fr.signature fr.block) here in
      record {
        apart = routine_is_apart fr.known fr.signature fr.block;
        among = references_low fr.known fr.signature fr.block;
        lie = (suited (suc j) (framed_routine fr.known fr.signature fr.block) here).lie;
        low = omega (
          arith,
          border_low (routine_frame fr.known fr.signature fr.block).parameters (routine_frame fr.known fr.signature fr.block).items
              (parameters_border fr.known fr.signature fr.block),
        );
        params = compiled.params;
        words = compiled.words;
      }

  module _ (limit : ℕ) (replies : List SysReply) where
    -- a routine that is called while another activation may open
    module _ (j : ℕ) (known : List Item) (signature : Signature) (block : Block) (over : Over (global_items p) known)
        (at : slice_get (all_framed p) (suc j) ≡ Some (framed_routine known signature block))
        (isr : IsRoutine (code_of p) (suc j) (routine_frame known signature block) signature.parameters) where
      routine_runs : (f : Fixed) → slice_get f.frames 0 ≡ Some (frame_of_program p) → length f.frames ≡ length f.callers + 1 → length f.callers < 63
          → (does : ℕ → List Given → Part ℤ)
          → ((g : Fixed) → g.frames ≡ f.frames ++ routine_frame known signature block ∷ [] → length g.callers ≡ length f.callers + 1
          → CallsRun (code_of p) limit replies g (routines_of p) does)
          → (given : List Given) (words rest : List ℤ) (q : ℕ) (now : Situation) → Here (code_of p) limit replies f q (on_top words rest) now
          → slice_get (code_of p).instrs q ≡ Some (with_a op.Call (suc j)) → Suit signature.parameters given
          → AreWords f.frames (length f.frames) given words
          → (gives : Bool) → is_some signature.answer ≡ gives
          → After (code_of p) limit replies (λ v n. Here (code_of p) limit replies f (q + 1) (result_on gives v rest) n)
          (whole_call limit replies (framed_routine known signature block).declared (length f.frames) does given now)
      routine_runs f first longer low does deeper given words rest q now here found suit are gives kind =
          let frame = routine_frame known signature block in
          let r = framed_routine known signature block in
          let c = code_of p in
          let g = inner f frame (begun_map signature.parameters given).references (suc j) q now.line rest in
          let compiled = compiled_at p (suc j) r at in
          let start = (routine_at c (suc j)).start in
          let code = body_code (site_of r) (declared_words frame) (r.declared).body start in
          let two = parted c start code (ending r.owner ∷ []) compiled.end compiled.stands in
          let callers : length g.callers ≡ length f.callers + 1 = length-append f.callers (caller_at f q now.line rest ∷ []) in
          let number : own_number g ≡ length f.frames = omega (arith, callers, longer) in
          let first_there : slice_get g.frames 0 ≡ Some (frame_of_program p) = first_of_more f.frames frame 0
          (slice_get_within f.frames 0 (frame_of_program p) first) ∙ first in
          let own_there : slice_get g.frames (own_number g) ≡ Some frame = last_of_more f.frames frame (own_number g) number in
          let names : Named g.frames (own_number g) (site_of r) (r.declared).scope =
          routine_is_named p known signature block over (suited (suc j) r at).few program_few g.frames (own_number g) first_there own_there in
          let its_frame : names.frame ≡ frame = same_Some names.frame frame (sym names.own_at ∙ own_there) in
          let k : Kept = record { floor = g.floor; held = g.held } in
          let opened = begins f frame signature.parameters (suc j) given words rest q now isr here found suit are low in
          let none : (i : ℕ) (v : ℤ) → g.held (own_number g) i ≡ Some v → i < 0 = λ i v held. absurd
          (none_here (length f.frames) f.held i v (subst (λ m. g.held m i ≡ Some v) number held)) in
          let body_done : After c limit replies (λ _ n. Here c limit replies g two.0 [] n)
          (after_body (setting_of (in_order replies) limit r.declared (own_number g) does) (r.declared).body (begun r.declared given now)) =
          body_runs c limit replies g (site_of r) (r.declared).scope names (is_some signature.answer)
          (λ function. ap (λ (h : Frame). h.result) its_frame ∙ has_result known signature block function) (routines_of p) does
          (λ m. deeper (from g m) refl callers)
          (r.declared).body (declared_words frame) 0 start start two.0 k (begun r.declared given now) (omega (arith, ap declared_words its_frame)) none refl
          (suited (suc j) r at).suits two.1.0 opened in
          let same_body : After c limit replies (λ _ n. Here c limit replies g two.0 [] n)
          (after_body (setting_of (in_order replies) limit r.declared (length f.frames) does) (r.declared).body (begun r.declared given now)) =
          subst (λ m. After c limit replies (λ _ n. Here c limit replies g two.0 [] n)
          (after_body (setting_of (in_order replies) limit r.declared m does) (r.declared).body (begun r.declared given now))) number body_done in
          after (after_body (setting_of (in_order replies) limit r.declared (length f.frames) does) (r.declared).body (begun r.declared given now)) _ same_body
          (λ _ n end. by_kind gives kind two.0 n two.1.1.0 end compiled.function)
        where
          by_kind : (b : Bool) → is_some signature.answer ≡ b → (m : ℕ) (n : Situation) → slice_get (code_of p).instrs m ≡ Some (bare op.Return)
              → Here (code_of p) limit replies (inner f (routine_frame known signature block) (begun_map signature.parameters given).references
              (suc j) q now.line rest) m [] n → (routine_at (code_of p) (suc j)).function ≡ is_some signature.answer
              → After (code_of p) limit replies (λ v k. Here (code_of p) limit replies f (q + 1) (result_on b v rest) k)
              (ends_with (length f.frames) now.line n)
          by_kind true is m n found_end end function =
              record {
                comes = returns_value f (routine_frame known signature block) (begun_map signature.parameters given).references
                    (suc j) q m now.line rest n end found_end (function ∙ is) isr.params (has_result known signature block is);
              }
          by_kind false is m n found_end end function =
              record {
                comes = returns f (routine_frame known signature block) (begun_map signature.parameters given).references
                    (suc j) q m now.line rest n end found_end (function ∙ is);
              }

    pub calls_run : (free : ℕ) (f : Fixed) → length f.callers + free ≡ 63 → slice_get f.frames 0 ≡ Some (frame_of_program p)
        → length f.frames ≡ length f.callers + 1
        → CallsRun (code_of p) limit replies f (routines_of p) (called_value (in_order replies) limit (all_declared p) free)
    calls_run zero f deep first longer k passing gives is given words rest q now here found suit are =
        record { comes = refuses f k q (on_top words rest) now here found (omega (arith, deep)) }
    calls_run (suc free) f deep first longer zero passing gives is given words rest q now here found suit are = absurd (omega (arith, is.some))
    calls_run (suc free) f deep first longer (suc j) passing gives is given words rest q now here found suit are =
        let there = framed_there p (suc j) is.low in
        let fr = routine_is p j there.0 there.1 in
        let r = framed_routine fr.known fr.signature fr.block in
        let frame = routine_frame fr.known fr.signature fr.block in
        let at : slice_get (all_framed p) (suc j) ≡ Some r = there.1 ∙ ap Some fr.is in
        let d : declared_at (all_declared p) (suc j) ≡ r.declared = declared_is p (suc j) r at in
        let maps : length now.maps ≡ length f.frames = here.agree.as_many in
        let does = called_value (in_order replies) limit (all_declared p) free in
        let kind : is_some (fr.signature).answer ≡ gives = sym (ap (λ (e : Declared). is_some (e.signature).answer) d) ∙ is.gives_is in
        let suits : Suit (fr.signature).parameters given = subst (λ (e : Declared). Suit (e.signature).parameters given) d suit in
        subst (λ (e : Declared). After (code_of p) limit replies (λ v n. Here (code_of p) limit replies f (q + 1) (result_on gives v rest) n)
        (whole_call limit replies e (length now.maps) does given now)) (sym d)
        (subst (λ m. After (code_of p) limit replies (λ v n. Here (code_of p) limit replies f (q + 1) (result_on gives v rest) n)
        (whole_call limit replies r.declared m does given now)) (sym maps)
        (routine_runs j fr.known fr.signature fr.block fr.over at (is_routine j there.0 there.1 fr) f first longer (omega (arith, deep)) does
        (λ g frames callers. calls_run free g (omega (arith, deep, callers))
        (ap (λ (fs : List Frame). slice_get fs 0) frames ∙ first_of_more f.frames frame 0 (slice_get_within f.frames 0 (frame_of_program p) first) ∙ first)
        (ap length frames ∙ omega (arith, callers, longer, length-append f.frames (frame ∷ []))))
        given words rest q now here found suits are gives kind))
