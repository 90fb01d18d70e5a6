-- What a run of the machine came to from its start, and what the next instruction makes of it.
use Rattle.std.proofs.Common.{◌≡◌, ℕ, zero, suc, ◌-◌, Bool, true, false, Option, Some, None, List, [], ◌∷◌, ◌++◌, length, refl, sym, ◌∙◌, ap, subst, arith}
use Rattle.std.proofs.lemmas.List.{append-nil, append_assoc, length-append}
use Rattle.std.specs.Prelude.{slice_get, if◌then◌else◌}
use Rattle.solo_base.specs.declared.outcome.ProgResult.{ProgResult}
use Rattle.solo_base.specs.declared.outcome.ProgResult.TheVariants as result
use Rattle.solo_base.specs.declared.system_call.SysCall.{SysCall}
use Rattle.solo_base.specs.declared.system_call.SysReply.{SysReply}
use Rattle.solo_base.specs.declared.system_call.SysReply.TheVariants as replies
use Rattle.solo_base.specs.Fits.{Fits}
use Rattle.solo_base.specs.RunOutcome.{Ends, Waits}
use Rattle.stack_code.specs.declared.instr.Instr.{Instr}
use Rattle.stack_code.specs.CodeLists.{CodeLists}
use Rattle.stack_code.specs.Rules.{IsGood}
use Rattle.stack_machine.specs.States.{State}
use Rattle.stack_machine.specs.State.{Goes, Asks, Stops, Lacks}
use Rattle.stack_machine.specs.Machine.{effect, next, next_by, next_of, start_state, answered, fail_call}
use Rattle.stack_machine.specs.Safe.{IsRunning}
use Rattle.stack_machine.specs.Run.{Moves, LeadsToCall, Replied, Runs, AreFitting}
use Rattle.stack_machine.proofs.Onward.{moves_more, has_ended}
use Rattle.stack_machine.proofs.Rounds.{replied_more}
use Rattle.stack_machine.proofs.Safety.{never_lacks, stays_running, answered_is_safe}
use Rattle.pascal_mean.specs.Meaning.{in_order}

-- the machine came from its start to this state, with these calls made
pub record Reached (c : CodeLists) (limit : ℕ) (all : List SysReply) (s : State) (made : List SysCall) : Type 0 where
  pub good : IsGood c
  pub used : List SysReply
  pub left : List SysReply
  pub begun : State
  pub steps : ℕ
  pub split : all ≡ used ++ left
  pub count : length used ≡ length made
  pub replied : Replied c limit (start_state c) used made begun
  pub moves : Moves c limit steps begun s
  pub runs : s.ended ≡ None
  pub here : IsRunning c limit s
  pub fitting : AreFitting c limit begun left

module _ {c : CodeLists} {limit : ℕ} {all : List SysReply} {s : State} {made : List SysCall} where
  -- what the instruction does that the code has at the program's place
  pub does : Reached c limit all s made → (i : Instr) → slice_get c.instrs s.current.place ≡ Some i → next c limit s ≡ effect c limit s i.op i.a i.b
  unfolding next
  does r i found = ap (next_of c limit s) r.runs ∙ ap (next_by c limit s) found

  pub goes : (t : State) → Reached c limit all s made → next c limit s ≡ Goes t → Reached c limit all t made
  goes t r e =
      let on = stays_running c limit s t r.good r.runs r.here e in
      record {
        good = r.good;
        used = r.used;
        left = r.left;
        begun = r.begun;
        steps = suc r.steps;
        split = r.split;
        count = r.count;
        replied = r.replied;
        moves =
            moves_more c limit r.steps r.begun s t r.moves e;
        runs = on.0;
        here = on.1;
        fitting = r.fitting;
      }

  -- nothing is lacking
  pub never : Reached c limit all s made → next c limit s ≡ Lacks → ⊥
  never r e = never_lacks c limit s r.good r.runs r.here e

  -- what would be lacking is there
  pub goes_if : (b : Bool) (t : State) → Reached c limit all s made → next c limit s ≡ (if b then Goes t else Lacks) → Reached c limit all t made
  goes_if true t r e = goes t r e
  goes_if false t r e = absurd (never_lacks c limit s r.good r.runs r.here e)

  pub is_there : (b : Bool) (t : State) → Reached c limit all s made → next c limit s ≡ (if b then Goes t else Lacks) → b ≡ true
  is_there true t r e = refl
  is_there false t r e = absurd (never_lacks c limit s r.good r.runs r.here e)

  pub asks_if : (b : Bool) (call : SysCall) → Reached c limit all s made → next c limit s ≡ (if b then Asks call s else Lacks) → next c limit s ≡ Asks call s
  asks_if true call r e = e
  asks_if false call r e = absurd (never_lacks c limit s r.good r.runs r.here e)

  pub stops_if : (b : Bool) (how : ProgResult) (line ticks : ℕ) → Reached c limit all s made → next c limit s ≡ (if b then Stops how line ticks else Lacks)
      → next c limit s ≡ Stops how line ticks
  stops_if true how line ticks r e = e
  stops_if false how line ticks r e = absurd (never_lacks c limit s r.good r.runs r.here e)

  pub stops : (how : ProgResult) (line ticks : ℕ) → Reached c limit all s made → next c limit s ≡ Stops how line ticks
      → Runs c limit all (Ends how line ticks made)
  stops how line ticks r e = (r.used, r.left, r.begun, r.split, r.replied, record { last = s; steps = r.steps; moves = r.moves; stops = e })

  leads : (call : SysCall) → (r : Reached c limit all s made) → next c limit s ≡ Asks call s → LeadsToCall c limit r.begun call s
  leads call r e = record { steps = r.steps; moves = r.moves; asks = e }

-- ---- A call

abbrev pub first_reply : List SysReply → Option SysReply
first_reply [] = None
first_reply (reply ∷ left) = Some reply

at_count : (used left : List SysReply) (n : ℕ) → length used ≡ n → slice_get (used ++ left) n ≡ first_reply left
at_count [] [] zero is = refl
at_count [] (reply ∷ left) zero is = refl
at_count [] left (suc n) is = absurd (omega (arith, is))
at_count (r ∷ used) left zero is = absurd (omega (arith, is))
at_count (r ∷ used) left (suc n) is = at_count used left n (omega (arith, is))

one_more : (all : List SysReply) (reply : SysReply) (left used : List SysReply) → all ≡ used ++ reply ∷ left → all ≡ (used ++ reply ∷ []) ++ left
one_more all reply left used split = split ∙ sym (append_assoc used (reply ∷ []) left)

module _ {c : CodeLists} {limit : ℕ} {all : List SysReply} {s : State} {made : List SysCall} (call : SysCall) (r : Reached c limit all s made) where
  -- the reply to the call that follows is the first of those that are left
  pub next_reply : in_order all (made ++ call ∷ []) ≡ first_reply r.left
  next_reply =
      let n : length (made ++ call ∷ []) - 1 ≡ length made = omega (arith, length-append made (call ∷ [])) in
      ap (slice_get all) n ∙ ap (λ (l : List SysReply). slice_get l (length made)) r.split ∙ at_count r.used r.left (length made) r.count

  module _ (e : next c limit s ≡ Asks call s) where
    -- it asks once more than there are replies
    pub waits : r.left ≡ [] → Runs c limit all (Waits (made ++ call ∷ []))
    waits none =
        let same : r.used ≡ all = sym (r.split ∙ ap (λ (l : List SysReply). r.used ++ l) none ∙ append-nil r.used) in
        (made, call, r.begun, s, refl, subst (λ (u : List SysReply). Replied c limit (start_state c) u made r.begun) same r.replied, leads call r e)

    module _ (reply : SysReply) (left : List SysReply) (is : r.left ≡ reply ∷ left) where
      fitting_here : AreFitting c limit r.begun (reply ∷ left)
      fitting_here = subst (AreFitting c limit r.begun) is r.fitting

      split_here : all ≡ (r.used ++ reply ∷ []) ++ left
      split_here = one_more all reply left r.used (r.split ∙ ap (λ (l : List SysReply). r.used ++ l) is)

      pub reply_fits : Fits call reply
      reply_fits = (fitting_here call s (leads call r e)).0

      pub is_answered : (answered c s reply).ended ≡ None → Reached c limit all (answered c s reply) (made ++ call ∷ [])
      is_answered runs = record {
        good = r.good;
        used = r.used ++ reply ∷ [];
        left = left;
        begun = answered c s reply;
        steps = 0;
        split = split_here;
        count = omega (arith, r.count, length-append r.used (reply ∷ []), length-append made (call ∷ []));
        replied = replied_more c limit (start_state c) r.begun s r.used made reply call r.replied (leads call r e);
        moves = refl;
        runs = runs;
        here = (answered_is_safe c limit s call reply s r.good r.runs r.here e reply_fits).1 runs;
        fitting = (fitting_here call s (leads call r e)).1;
      }

    pub fails : (left : List SysReply) → r.left ≡ replies.CallError ∷ left → Runs c limit all (Ends result.CallError s.current.line s.ticks (made ++ call ∷ []))
    unfolding answered
    fails left is = (
      r.used ++ replies.CallError ∷ [],
      left,
      fail_call s,
      split_here replies.CallError left is,
      replied_more c limit (start_state c) r.begun s r.used made replies.CallError call r.replied (leads call r e),
      has_ended c limit (fail_call s) (record { result = result.CallError; line = s.current.line; ticks = s.ticks }) refl,
    )
