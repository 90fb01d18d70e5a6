-- The laws of what answers a program's calls.
use Rattle.std.proofs.Common.{◌≡◌, ℕ, zero, suc, ◌-◌, ◌≤◌, ◌<◌, inl, inr, Some, None, List, [], ◌∷◌, ◌++◌, length, ℤ, refl, sym, ◌∙◌, ap, subst, arith}
use Rattle.std.proofs.lemmas.List.{length-append}
use Rattle.std.specs.Prelude.{slice_get}
use Rattle.solo_base.specs.declared.system_call.SysCall.{SysCall}
use Rattle.solo_base.specs.declared.system_call.SysReply.{SysReply}
use Rattle.solo_base.specs.declared.outcome.ProgResult.{ProgResult}
use Rattle.solo_base.specs.RunOutcome.{Ends, Waits}
use Rattle.solo_base.specs.Text.{text}
use Rattle.pascal_tree.specs.Program.{Program}
use Rattle.pascal_mean.specs.Declarations.{Declared, all_declared}
use Rattle.pascal_mean.specs.Situation.{Answers, Course, Part, Gives, Over, and_then}
use Rattle.pascal_mean.specs.Variables.{map_at}
use Rattle.pascal_mean.specs.Calls.{Given}
use Rattle.pascal_mean.specs.Statements.{after_body}
use Rattle.pascal_mean.specs.Meaning.{declared_at, begun, ended, setting_of, called_value, outcome_of, opening, program_part, in_order, meaning_with, meaning}
use Rattle.pascal_mean.specs.MoreReplies.{calls_of, GoesOn, AreAnswered, MoreRepliesGoOn, EachCallTakesAReply}
use Rattle.pascal_mean.specs.Batch.{Ending, EndsInOneWay, input_after, batch_answers, batch_replies, ending_of, EndsInBatch, EachEndsInBatch}
use Rattle.pascal_mean.proofs.Steady.{IsSteady, IsAnswered, Follows, Agree, Extends, Begins, then_steady, at_each, gives_steady, end_steady}
use Rattle.pascal_mean.proofs.SteadyStatements.{body_steady, after_change}

-- ---- A whole program

-- what a call does from a situation of which only the number of activations and the line are known
abbrev calling : Answers → ℕ → List Declared → ℕ → ℕ → List Given → ℕ → ℕ → Part ℤ
calling answers limit all free k given number line now =
    let r = declared_at all k in
    and_then (after_body (setting_of answers limit r number (called_value answers limit all free)) r.body (begun r given now))
    (λ _ after. Gives ((map_at after.maps number).answer) (ended number line after))

pub called_steady : (a b : Answers) (limit : ℕ) (all : List Declared) (free k : ℕ) (given : List Given)
    → IsSteady a b (called_value a limit all free k given) (called_value b limit all free k given)
called_steady a b limit all zero k given = end_steady _
called_steady a b limit all (suc free) k given =
    let r = declared_at all k in
    let leaving : ℕ → ℕ → Unit {0} → Part ℤ = λ number line _ after. Gives ((map_at after.maps number).answer) (ended number line after) in
    at_each (λ now. calling a limit all free k given (length now.maps) now.line) (λ now. calling b limit all free k given (length now.maps) now.line) (λ now.
    then_steady (leaving (length now.maps) now.line) (leaving (length now.maps) now.line)
    (after_change (begun r given) (λ n. refl)
    (body_steady a b limit r.scope (length now.maps) (called_value a limit all free) (called_value b limit all free)
    (λ j args. called_steady a b limit all free j args) r.body))
    (λ _. gives_steady (λ n. (map_at n.maps (length now.maps)).answer) (ended (length now.maps) now.line) (λ n. refl)))

pub program_steady : (a b : Answers) (limit : ℕ) (all : List Declared) → IsSteady a b (program_part a limit all) (program_part b limit all)
program_steady a b limit all =
    body_steady a b limit (declared_at all 0).scope 0 (called_value a limit all 63) (called_value b limit all 63)
    (λ k given. called_steady a b limit all 63 k given) (declared_at all 0).body

-- ---- Replies in order

got_within : (xs : List SysReply) (k : ℕ) (x : SysReply) → slice_get xs k ≡ Some x → k < length xs
got_within [] k x is = absurd cc
got_within (y ∷ ys) zero x is = omega arith
got_within (y ∷ ys) (suc k) x is = omega (arith, got_within ys k x is)

none_past : (xs : List SysReply) (k : ℕ) → slice_get xs k ≡ None → length xs ≤ k
none_past [] k is = omega arith
none_past (y ∷ ys) zero is = absurd cc
none_past (y ∷ ys) (suc k) is = omega (arith, none_past ys k is)

same_got : (xs more : List SysReply) (k : ℕ) → k < length xs → slice_get xs k ≡ slice_get (xs ++ more) k
same_got [] more k few = absurd (omega (arith, few))
same_got (y ∷ ys) more zero few = refl
same_got (y ∷ ys) more (suc k) few = same_got ys more k (omega (arith, few))

answered_count : (replies : List SysReply) (calls : List SysCall) → IsAnswered (in_order replies) calls → length calls ≤ length replies
answered_count replies calls (inl none) = omega (arith, ap length none)
answered_count replies calls (inr (reply, is)) = omega (arith, got_within replies (length calls - 1) reply is)

agree_in_order : (replies more : List SysReply) (calls : List SysCall) → length calls ≤ length replies
    → Agree (in_order replies) (in_order (replies ++ more)) calls
agree_in_order replies more calls few before after call is =
    same_got replies more (length (before
    ++ call ∷ []) - 1) (omega (arith, few, ap length is, length-append before (call ∷ after), length-append before (call ∷ [])))

begun_goes_on : (calls : List SysCall) (k : Course (Unit {0})) → Begins calls k → GoesOn (Waits calls) (outcome_of k)
begun_goes_on calls (Gives v then_is) begins = begins
begun_goes_on calls (Over outcome) begins = begins

goes_on : (replies more : List SysReply) (k other : Course (Unit {0})) → Follows (in_order replies) opening k
    → Extends (in_order replies) (in_order (replies ++ more)) k other → GoesOn (outcome_of k) (outcome_of other)
goes_on replies more (Gives v then_is) other follows extends =
    ap outcome_of (extends (agree_in_order replies more then_is.made (answered_count replies then_is.made (follows.answered (inl refl)))))
goes_on replies more (Over (Ends r line ticks calls)) other follows extends =
    ap outcome_of (extends (agree_in_order replies more calls (answered_count replies calls (follows.answered (inl refl)))))
goes_on replies more (Over (Waits calls)) other follows extends =
    let few = answered_count replies follows.rest (follows.answered (inl refl)) in
    begun_goes_on calls other (extends (λ before call is. agree_in_order replies more before
    (omega (arith, few, ap length is, ap length follows.made, length-append before (call ∷ []), length-append follows.rest (follows.call ∷ [])))))

pub more_replies : MoreRepliesGoOn
unfolding meaning meaning_with
more_replies p limit replies more =
    let steady = program_steady (in_order replies) (in_order (replies ++ more)) limit (all_declared p) in
    goes_on replies more (program_part (in_order replies) limit (all_declared p) opening) (program_part (in_order (replies
    ++ more)) limit (all_declared p) opening)
    (steady.follows opening) (steady.extends opening)

are_answered : (replies : List SysReply) (k : Course (Unit {0})) → Follows (in_order replies) opening k → AreAnswered (outcome_of k) replies
are_answered replies (Gives v then_is) follows = answered_count replies then_is.made (follows.answered (inl refl))
are_answered replies (Over (Ends r line ticks calls)) follows = answered_count replies calls (follows.answered (inl refl))
are_answered replies (Over (Waits calls)) follows =
    let few = answered_count replies follows.rest (follows.answered (inl refl)) in
    omega (arith, few, ap length follows.made, length-append follows.rest (follows.call ∷ []), none_past replies (length calls - 1) follows.none)

pub each_call : EachCallTakesAReply
unfolding meaning meaning_with
each_call p limit replies =
    are_answered replies (program_part (in_order replies) limit (all_declared p) opening)
    ((program_steady (in_order replies) (in_order replies) limit (all_declared p)).follows opening)

-- ---- In the batch

answers_some : (input : List ℕ) (before : List SysCall) (call : SysCall) → batch_answers input (before ++ call ∷ []) ≡ None → ⊥
answers_some input [] call is = cc
answers_some input (first ∷ []) call is = cc
answers_some input (first ∷ next ∷ more) call is = answers_some (input_after input first) (next ∷ more) call is

answers_are_replies : (input : List ℕ) (before after : List SysCall) (call : SysCall)
    → batch_answers input (before ++ call ∷ []) ≡ slice_get (batch_replies input (before ++ call ∷ after)) (length before)
answers_are_replies input [] after call = refl
answers_are_replies input (first ∷ []) after call = refl
answers_are_replies input (first ∷ next ∷ more) after call = answers_are_replies (input_after input first) (next ∷ more) after call

agree_in_batch : (input : List ℕ) (calls : List SysCall) → Agree (batch_answers input) (in_order (batch_replies input calls)) calls
agree_in_batch input calls before after call is =
    let place : length before ≡ length (before ++ call ∷ []) - 1 = omega (arith, length-append before (call ∷ [])) in
    answers_are_replies input before after call ∙ ap (λ l. slice_get (batch_replies input l) (length before)) (sym is)
    ∙ ap (slice_get (batch_replies input calls)) place

ends_so : (p : Program) (limit : ℕ) (cards : List (List ℕ)) (k : Course (Unit {0})) → Follows (batch_answers (text cards)) opening k
    → ((replies : List SysReply) → Extends (batch_answers (text cards)) (in_order replies) k (program_part (in_order replies) limit (all_declared p) opening))
    → EndsInBatch p limit cards (ending_of (outcome_of k))
unfolding meaning meaning_with
ends_so p limit cards (Gives v then_is) follows extends = record {
  calls = then_is.made;
  means = ap outcome_of (extends (batch_replies (text cards) then_is.made) (agree_in_batch (text cards) then_is.made));
  prints = refl;
}
ends_so p limit cards (Over (Ends r line ticks calls)) follows extends = record {
  calls = calls;
  means = ap outcome_of (extends (batch_replies (text cards) calls) (agree_in_batch (text cards) calls));
  prints = refl;
}
ends_so p limit cards (Over (Waits calls)) follows extends =
    absurd (answers_some (text cards) follows.rest follows.call (ap (batch_answers (text cards)) (sym follows.made) ∙ follows.none))

pub each_ends : EachEndsInBatch
unfolding meaning_with
each_ends p limit cards =
    let input = text cards in
    ends_so p limit cards (program_part (batch_answers input) limit (all_declared p) opening)
    ((program_steady (batch_answers input) (batch_answers input) limit (all_declared p)).follows opening)
    (λ replies. (program_steady (batch_answers input) (in_order replies) limit (all_declared p)).extends opening)

agree_back : (input : List ℕ) (calls : List SysCall) → Agree (in_order (batch_replies input calls)) (batch_answers input) calls
agree_back input calls before after call is = sym (agree_in_batch input calls before after call is)

-- a run that ended with replies is the run in a world that agrees on the calls that were made
ends_alike : (a b : Answers) (k other : Course (Unit {0})) (r : ProgResult) (line ticks : ℕ) (calls : List SysCall) → Agree a b calls → Extends a b k other
    → outcome_of k ≡ Ends r line ticks calls → outcome_of other ≡ Ends r line ticks calls
ends_alike a b (Gives v then_is) other r line ticks calls agree extends is =
    ap outcome_of (extends (subst (Agree a b) (sym (ap calls_of is)) agree)) ∙ is
ends_alike a b (Over (Ends r' line' ticks' calls')) other r line ticks calls agree extends is =
    ap outcome_of (extends (subst (Agree a b) (sym (ap calls_of is)) agree)) ∙ is
ends_alike a b (Over (Waits calls')) other r line ticks calls agree extends is = absurd cc

pub one_ending : EndsInOneWay
unfolding meaning meaning_with
one_ending p limit cards e ends =
    let input = text cards in
    let a = in_order (batch_replies input ends.calls) in
    let b = batch_answers input in
    let k = program_part a limit (all_declared p) opening in
    let other = program_part b limit (all_declared p) opening in
    let same : outcome_of other
    ≡ Ends e.result e.line e.ticks ends.calls =
    ends_alike a b k other e.result e.line e.ticks ends.calls (agree_back input ends.calls)
    ((program_steady a b limit (all_declared p)).extends opening) ends.means in
    ap (λ (output : List (List ℕ)). let f : Ending = record e { output = output } in f) ends.prints ∙ sym (ap ending_of same)
