-- Two runs of a code with inputs of which one goes on where the other ends.
use Rattle.std.proofs.Common.{◌≡◌, ℕ, Bool, false, ◌⊎◌, inl, inr, Some, None, List, [], ◌∷◌, ◌++◌, length, refl, sym, ◌∙◌, ap, subst, arith}
use Rattle.std.proofs.lemmas.List.{append-nil, length-append, nil_from_length, same_from_push}
use Rattle.solo_base.specs.declared.outcome.ProgResult.{ProgResult}
use Rattle.solo_base.specs.declared.system_call.SysCall.{SysCall}
use Rattle.solo_base.specs.declared.system_call.SysReply.{SysReply}
use Rattle.solo_base.specs.RunOutcome.{RunOutcome, Ends, Waits}
use Rattle.stack_code.specs.CodeLists.{CodeLists}
use Rattle.stack_machine.specs.States.{State}
use Rattle.stack_machine.specs.Machine.{start_state, answered}
use Rattle.stack_machine.specs.Run.{LeadsToCall, LeadsToEnd, Replied}
use Rattle.stack_machine.proofs.Pauses.{one_call, one_end, no_call_at_end}
use Rattle.pascal_mean.specs.MoreReplies.{calls_of, GoesOn}
use Rattle.pascal_mean.specs.Batch.{batch_reply, batch_replies, input_after}
use Rattle.batch_program.specs.Input.{reply_so_far, AreAnswered, input_behind}
use Rattle.batch_program.specs.Outcome.{RunsOn}
use Rattle.batch_program.proofs.Inputs.{reply_kept}

-- ---- A run as its answered calls and what comes behind them

pub data Tail : Type 0 where
  AtEnd : ProgResult → ℕ → ℕ → Tail
  AtCall : SysCall → Tail

abbrev pub outcome_by : Tail → List SysCall → RunOutcome
outcome_by (AtEnd r line ticks) made = Ends r line ticks made
outcome_by (AtCall call) made = Waits (made ++ call ∷ [])

abbrev pub ComesBehind : CodeLists → ℕ → List ℕ → Bool → State → Tail → Type 0
ComesBehind c limit input closed t (AtEnd r line ticks) = LeadsToEnd c limit t r line ticks
ComesBehind c limit input closed t (AtCall call) =
    (asked : State) × LeadsToCall c limit t call asked × (reply_so_far input closed call ≡ None)

pub record Course (c : CodeLists) (limit : ℕ) (s : State) (input : List ℕ) (closed : Bool) (made : List SysCall) (tail : Tail) : Type 0 where
  pub answered : AreAnswered input closed made
  pub behind : State
  pub replied : Replied c limit s (batch_replies input made) made behind
  pub comes : ComesBehind c limit (input_behind input made) closed behind tail

pub record HasCourse (c : CodeLists) (limit : ℕ) (input : List ℕ) (closed : Bool) (outcome : RunOutcome) : Type 0 where
  pub made : List SysCall
  pub tail : Tail
  pub is : outcome ≡ outcome_by tail made
  pub course : Course c limit (start_state c) input closed made tail

as_many : (c : CodeLists) (limit : ℕ) (s t : State) (replies : List SysReply) (made : List SysCall) → Replied c limit s replies made t
    → length replies ≡ length made
as_many c limit s t [] [] replied = refl
as_many c limit s t (reply ∷ replies) (call ∷ made) (asked, leads, others) =
    let same = as_many c limit (answered c asked reply) t replies made others in omega (arith, same)
as_many c limit s t [] (call ∷ made) replied = absurd replied
as_many c limit s t (reply ∷ replies) [] replied = absurd replied

replies_as_many : (input : List ℕ) (made : List SysCall) → length (batch_replies input made) ≡ length made
replies_as_many input [] = refl
replies_as_many input (call ∷ made) = let same = replies_as_many (input_after input call) made in omega (arith, same)

pub course_of : (c : CodeLists) (limit : ℕ) (input : List ℕ) (closed : Bool) (outcome : RunOutcome) → RunsOn c limit input closed outcome
    → HasCourse c limit input closed outcome
course_of c limit input closed (Ends r line ticks made) (all, (used, unused, t, split, replied, leads)) =
    let none : unused ≡ [] = nil_from_length unused (omega (
      arith,
      as_many c limit
          (start_state c) t used made replied,
      replies_as_many input made,
      ap length split,
      length-append used unused,
    )) in
    let same : used ≡ batch_replies input made = sym (append-nil used) ∙ ap (λ (l : List SysReply). used ++ l) (sym none) ∙ sym split in
    record {
      made = made;
      tail = AtEnd r line ticks;
      is = refl;
      course = record { answered = all; behind = t; replied = subst (λ l. Replied c limit (start_state c) l made t) same replied; comes = leads };
    }
course_of c limit input closed (Waits calls) (made, last, is, all, none, (before, call, t, asked, split, replied, leads)) =
    let same = same_from_push before made call last (sym split ∙ is) in
    record {
      made = made;
      tail = AtCall last;
      is = ap Waits is;
      course = record {
        answered = all;
        behind = t;
        replied = subst (λ l. Replied c limit (start_state c) (batch_replies input made) l t) same.0 replied;
        comes = (asked, subst (λ d. LeadsToCall c limit t d asked) same.1 leads, none);
      };
    }

-- ---- The same input, or more of it

abbrev pub MoreInput : List ℕ → Bool → List ℕ → Bool → Type 0
MoreInput input closed later closed_later =
    ((input ≡ later) × (closed ≡ closed_later)) ⊎ ((more : List ℕ) × (closed ≡ false) × (later ≡ input ++ more))

record SameReply (input : List ℕ) (closed : Bool) (later : List ℕ) (closed_later : Bool) (call : SysCall) : Type 0 where
  pub answered : reply_so_far later closed_later call ≡ Some (batch_reply later call)
  pub reply : batch_reply later call ≡ batch_reply input call
  pub after : MoreInput (input_after input call) closed (input_after later call) closed_later

same_reply : (input : List ℕ) (closed : Bool) (later : List ℕ) (closed_later : Bool) (call : SysCall) → MoreInput input closed later closed_later
    → reply_so_far input closed call ≡ Some (batch_reply input call) → SameReply input closed later closed_later call
same_reply input closed later closed_later call (inl (same, alike)) is =
    record {
      answered = subst (λ i. reply_so_far i closed_later call ≡ Some (batch_reply i call)) same
          (subst (λ b. reply_so_far input b call ≡ Some (batch_reply input call)) alike is);
      reply = ap (λ i. batch_reply i call) (sym same);
      after = inl (ap (λ i. input_after i call) same, alike);
    }
same_reply input closed later closed_later call (inr (more, open_yet, longer)) is =
    let kept = reply_kept input more closed_later call (subst (λ b. reply_so_far input b call ≡ Some (batch_reply input call)) open_yet is) in
    record {
      answered = subst (λ i. reply_so_far i closed_later call ≡ Some (batch_reply i call)) (sym longer) kept.answered;
      reply = ap (λ i. batch_reply i call) longer ∙ kept.reply;
      after = inr (more, open_yet, ap (λ i. input_after i call) longer ∙ kept.after);
    }

-- ---- Call by call

one_call_more : (call : SysCall) (tail : Tail) (made : List SysCall) → calls_of (outcome_by tail (call ∷ made)) ≡ call ∷ calls_of (outcome_by tail made)
one_call_more call (AtEnd r line ticks) made = refl
one_call_more call (AtCall last) made = refl

goes_on_behind : (call other : SysCall) (tail later : Tail) (made more : List SysCall) → call ≡ other → GoesOn (outcome_by tail made) (outcome_by later more)
    → GoesOn (outcome_by tail (call ∷ made)) (outcome_by later (other ∷ more))
goes_on_behind call other (AtEnd r line ticks) (AtEnd r' line' ticks') made more same is =
    let r_is : r' ≡ r = cc in
    let line_is : line' ≡ line = cc in
    let ticks_is : ticks' ≡ ticks = cc in
    let made_is : more ≡ made = cc in
    cc
goes_on_behind call other (AtEnd r line ticks) (AtCall last) made more same is = absurd cc
goes_on_behind call other (AtCall first) later made more same (rest, is) =
    (rest, one_call_more other later more ∙ ap (λ (l : List SysCall). other ∷ l) is ∙ ap (λ (d : SysCall). d ∷ ((made ++ first ∷ []) ++ rest)) (sym same))

-- an end or a call, and what comes there with more input
at_one_place : (c : CodeLists) (limit : ℕ) (t : State) (input : List ℕ) (closed : Bool) (later : List ℕ) (closed_later : Bool) (tail other : Tail)
    → ComesBehind c limit input closed t tail → ComesBehind c limit later closed_later t other → GoesOn (outcome_by tail []) (outcome_by other [])
at_one_place c limit t input closed later closed_later (AtEnd r line ticks) (AtEnd r' line' ticks') first second =
    let same = one_end c limit t r r' line line' ticks ticks' first second in
    ap (λ x. Ends x line' ticks' []) (sym same.0) ∙ ap (λ x. Ends r x ticks' []) (sym same.1) ∙ ap (λ x. Ends r line x []) (sym same.2)
at_one_place c limit t input closed later closed_later (AtEnd r line ticks) (AtCall call) first (asked, second, none) =
    absurd (no_call_at_end c limit t asked call r line ticks second first)
at_one_place c limit t input closed later closed_later (AtCall call) (AtEnd r line ticks) (asked, first, none) second =
    absurd (no_call_at_end c limit t asked call r line ticks first second)
at_one_place c limit t input closed later closed_later (AtCall call) (AtCall other) (asked, first, none) (asked_too, second, none_too) =
    ([], ap (λ (d : SysCall). d ∷ []) (sym (one_call c limit t asked asked_too call other first second).1))

-- what ends or waits there, where the other goes on by a call
goes_past : (c : CodeLists) (limit : ℕ) (t asked : State) (input : List ℕ) (closed : Bool) (tail later : Tail) (call : SysCall) (more : List SysCall)
    → ComesBehind c limit input closed t tail → LeadsToCall c limit t call asked → GoesOn (outcome_by tail []) (outcome_by later (call ∷ more))
goes_past c limit t asked input closed (AtEnd r line ticks) later call more first leads = absurd (no_call_at_end c limit t asked call r line ticks leads first)
goes_past c limit t asked input closed (AtCall last) later call more (asked_too, first, none) leads = (
  calls_of (outcome_by later more),
  one_call_more call later more ∙ ap (λ (d : SysCall). d ∷ calls_of (outcome_by later more))
      (sym (one_call c limit t asked_too asked last call first leads).1),
)

-- a call that was answered, where the other ends or waits with more input
never_less : (c : CodeLists) (limit : ℕ) (t asked : State) (input : List ℕ) (closed : Bool) (later : List ℕ) (closed_later : Bool) (tail : Tail)
    (call : SysCall)
    → SameReply input closed later closed_later call → LeadsToCall c limit t call asked → ComesBehind c limit later closed_later t tail → ⊥
never_less c limit t asked input closed later closed_later (AtEnd r line ticks) call same leads there =
    no_call_at_end c limit t asked call r line ticks leads there
never_less c limit t asked input closed later closed_later (AtCall last) call same leads (asked_too, there, none) =
    let is : call ≡ last = (one_call c limit t asked asked_too call last leads there).1 in
    let some : reply_so_far later closed_later last ≡ Some (batch_reply later call) =
    subst (λ d. reply_so_far later closed_later d ≡ Some (batch_reply later call)) is same.answered in
    let never : None ≡ Some (batch_reply later call) = sym none ∙ some in
    cc

pub goes_on : (c : CodeLists) (limit : ℕ) (s : State) (input : List ℕ) (closed : Bool) (later : List ℕ) (closed_later : Bool) (made more : List SysCall)
    (tail other : Tail)
    → MoreInput input closed later closed_later → Course c limit s input closed made tail → Course c limit s later closed_later more other
    → GoesOn (outcome_by tail made) (outcome_by other more)
goes_on c limit s input closed later closed_later [] [] tail other longer first second =
    at_one_place c limit s input closed later closed_later tail other
    (subst (λ t. ComesBehind c limit input closed t tail) (sym first.replied) first.comes)
    (subst (λ t. ComesBehind c limit later closed_later t other) (sym second.replied) second.comes)
goes_on c limit s input closed later closed_later [] (call ∷ more) tail other longer first second =
    let there = second.replied in
    goes_past c limit s there.0 input closed tail other call more (subst (λ t. ComesBehind c limit input closed t tail) (sym first.replied) first.comes) there.1
goes_on c limit s input closed later closed_later (call ∷ made) [] tail other longer first second =
    let here = first.replied in
    absurd (never_less c limit s here.0 input closed later closed_later other call
    (same_reply input closed later closed_later call longer first.answered.0) here.1
    (subst (λ t. ComesBehind c limit later closed_later t other) (sym second.replied) second.comes))
goes_on c limit s input closed later closed_later (call ∷ made) (next ∷ more) tail other longer first second =
    let here = first.replied in
    let there = second.replied in
    let same = one_call c limit s here.0 there.0 call next here.1 there.1 in
    let reply = same_reply input closed later closed_later call longer first.answered.0 in
    let left = input_after input call in
    let left_later = input_after later next in
    let state : answered c there.0 (batch_reply later next) ≡ answered c here.0 (batch_reply input call) =
    ap (λ t. answered c t (batch_reply later next)) (sym same.0) ∙ ap (λ d. answered c here.0 (batch_reply later d)) (sym same.1)
    ∙ ap (answered c here.0) reply.reply in
    goes_on_behind call next tail other made more same.1
    (goes_on c limit (answered c here.0 (batch_reply input call)) left closed left_later closed_later made more tail other
    (subst (λ d. MoreInput left closed (input_after later d) closed_later) same.1 reply.after)
    (record { answered = first.answered.1; behind = first.behind; replied = here.2; comes = first.comes })
    (record {
      answered = second.answered.1;
      behind = second.behind;
      replied = subst (λ t. Replied c limit t (batch_replies left_later more) more second.behind) state there.2;
      comes = second.comes;
    }))

pub runs_go_on : (c : CodeLists) (limit : ℕ) (input : List ℕ) (closed : Bool) (later : List ℕ) (closed_later : Bool) (outcome other : RunOutcome)
    → MoreInput input closed later closed_later → RunsOn c limit input closed outcome → RunsOn c limit later closed_later other → GoesOn outcome other
runs_go_on c limit input closed later closed_later outcome other longer first second =
    let a = course_of c limit input closed outcome first in
    let b = course_of c limit later closed_later other second in
    subst (λ o. GoesOn o other) (sym a.is) (subst (λ o. GoesOn (outcome_by a.tail a.made) o) (sym b.is)
    (goes_on c limit (start_state c) input closed later closed_later a.made b.made a.tail b.tail longer a.course b.course))

-- ---- One outcome

both_go_on : (outcome other : RunOutcome) → GoesOn outcome other → GoesOn other outcome → outcome ≡ other
both_go_on (Ends r line ticks made) other first second = sym first
both_go_on (Waits made) (Ends r line ticks all) first second = second
both_go_on (Waits made) (Waits all) (rest, is) (less, is_too) =
    let none : rest ≡ [] = nil_from_length rest (omega (arith, ap length is, ap length is_too, length-append made rest, length-append all less)) in
    ap Waits (sym (append-nil made) ∙ ap (λ (l : List SysCall). made ++ l) (sym none) ∙ sym is)

pub one_outcome : (c : CodeLists) (limit : ℕ) (input : List ℕ) (closed : Bool) (outcome other : RunOutcome)
    → RunsOn c limit input closed outcome → RunsOn c limit input closed other → outcome ≡ other
one_outcome c limit input closed outcome other first second =
    both_go_on outcome other (runs_go_on c limit input closed input closed outcome other (inl (refl, refl)) first second)
    (runs_go_on c limit input closed input closed other outcome (inl (refl, refl)) second first)
