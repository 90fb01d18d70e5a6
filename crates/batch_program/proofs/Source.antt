-- Code that does what its source means comes to what the source means with the same cards.
use Rattle.std.proofs.Common.{◌≡◌, ℕ, ◌+◌, ◌-◌, Bool, true, false, inl, inr, Option, Some, None, List, [], ◌∷◌, ◌++◌, length, refl, sym, ◌∙◌, ap, subst, append_assoc, arith}
use Rattle.std.specs.Prelude.{slice_get}
use Rattle.std.proofs.lemmas.List.{append-nil, length-append, nil_from_length, same_from_push}
use Rattle.solo_base.specs.declared.outcome.ProgResult.{ProgResult}
use Rattle.solo_base.specs.declared.system_call.SysCall.{SysCall}
use Rattle.solo_base.specs.declared.system_call.SysReply.{SysReply}
use Rattle.solo_base.specs.Fits.{Fits}
use Rattle.solo_base.specs.RunOutcome.{RunOutcome, Ends, Waits}
use Rattle.solo_base.specs.Text.{text}
use Rattle.stack_code.specs.CodeLists.{CodeLists}
use Rattle.stack_machine.specs.Run.{Runs}
use Rattle.pascal_tree.specs.Program.{Program}
use Rattle.pascal_mean.specs.Situation.{Course, Gives, Over}
use Rattle.pascal_mean.specs.Declarations.{all_declared}
use Rattle.pascal_mean.specs.Meaning.{outcome_of, opening, program_part, in_order, meaning_with, meaning}
use Rattle.pascal_mean.specs.MoreReplies.{calls_of, GoesOn, AreAnswered as TakeReplies, FitTheMeaning}
use Rattle.pascal_mean.specs.Batch.{batch_reply, batch_replies, input_after, ending_of, ending_in_batch}
use Rattle.pascal_mean.proofs.Steady.{IsAnswered, Follows, Agree, Extends, Begins}
use Rattle.pascal_mean.proofs.Answering.{program_steady, more_replies, each_call, one_ending}
use Rattle.batch_program.specs.Input.{reply_so_far, AreAnswered, input_behind, if_answered, answers_so_far}
use Rattle.batch_program.specs.Outcome.{RunsOn, meaning_so_far, EndsAs}
use Rattle.batch_program.specs.Laws.{MeansItsSource}
use Rattle.batch_program.proofs.Inputs.{reply_is, reply_closed, all_answered, reply_kept, text_append}
use Rattle.batch_program.proofs.Bytes.{AreCodes, fits_bytes, after_is_bytes}
use Rattle.batch_program.proofs.Courses.{one_outcome}

-- ---- The answers so far

if_some : (first later : Option SysReply) (reply : SysReply) → if_answered first later ≡ Some reply → ((x : SysReply) × (first ≡ Some x)) × (later ≡ Some reply)
if_some None later reply is = absurd cc
if_some (Some x) later reply is = ((x, refl), is)

-- where the last call has an answer, each has one
all_have : (input : List ℕ) (closed : Bool) (made : List SysCall) (reply : SysReply) → answers_so_far input closed made ≡ Some reply
    → AreAnswered input closed made
all_have input closed [] reply is = absurd cc
all_have input closed (call ∷ []) reply is = (is ∙ ap (λ r. Some r) (reply_is input closed call reply is), tt)
all_have input closed (call ∷ next ∷ more) reply is =
    let both = if_some (reply_so_far input closed call) (answers_so_far (input_after input call) closed (next ∷ more)) reply is in
    let first = both.0 in
    (first.1 ∙ ap (λ r. Some r) (reply_is input closed call first.0 first.1), all_have (input_after input call) closed (next ∷ more) reply both.1)

answered_so_far : (input : List ℕ) (closed : Bool) (made : List SysCall) → IsAnswered (answers_so_far input closed) made → AreAnswered input closed made
answered_so_far input closed made (inl none) = subst (AreAnswered input closed) (sym none) tt
answered_so_far input closed made (inr (reply, is)) = all_have input closed made reply is

-- the answer to a call behind answered ones
answer_behind : (input : List ℕ) (closed : Bool) (made : List SysCall) (call : SysCall) → AreAnswered input closed made
    → answers_so_far input closed (made ++ call ∷ []) ≡ reply_so_far (input_behind input made) closed call
answer_behind input closed [] call all = refl
answer_behind input closed (first ∷ []) call all = ap (λ o. if_answered o (reply_so_far (input_after input first) closed call)) all.0
answer_behind input closed (first ∷ next ∷ more) call all =
    ap (λ o. if_answered o (answers_so_far (input_after input first) closed ((next ∷ more) ++ call ∷ []))) all.0
    ∙ answer_behind (input_after input first) closed (next ∷ more) call all.1

-- and the reply at its place
answer_at : (input : List ℕ) (closed : Bool) (before after : List SysCall) (call : SysCall) → AreAnswered input closed (before ++ call ∷ after)
    → answers_so_far input closed (before ++ call ∷ []) ≡ slice_get (batch_replies input (before ++ call ∷ after)) (length before)
answer_at input closed [] after call all = all.0
answer_at input closed (first ∷ []) after call all =
    ap (λ o. if_answered o (reply_so_far (input_after input first) closed call)) all.0 ∙ answer_at (input_after input first) closed [] after call all.1
answer_at input closed (first ∷ next ∷ more) after call all =
    ap (λ o. if_answered o (answers_so_far (input_after input first) closed ((next ∷ more) ++ call ∷ []))) all.0
    ∙ answer_at (input_after input first) closed (next ∷ more) after call all.1

agree_so_far : (input : List ℕ) (closed : Bool) (made : List SysCall) → AreAnswered input closed made
    → Agree (answers_so_far input closed) (in_order (batch_replies input made)) made
agree_so_far input closed made all before after call is =
    let place : length before ≡ length (before ++ call ∷ []) - 1 = omega (arith, length-append before (call ∷ [])) in
    answer_at input closed before after call (subst (AreAnswered input closed) is all) ∙ ap (λ l. slice_get (batch_replies input l) (length before)) (sym is)
    ∙ ap (slice_get (batch_replies input made)) place

replies_count : (input : List ℕ) (made : List SysCall) → length (batch_replies input made) ≡ length made
replies_count input [] = refl
replies_count input (call ∷ made) = let same = replies_count (input_after input call) made in omega (arith, same)

-- ---- What the source means with them

-- the meaning with some of the batch's replies, by which the run of the code is one with these cards
pub record MeansOn (p : Program) (limit : ℕ) (input : List ℕ) (closed : Bool) (outcome : RunOutcome) : Type 0 where
  pub made : List SysCall
  pub rest : List SysCall
  pub means : meaning p limit (batch_replies input made) ≡ outcome
  pub calls : calls_of outcome ≡ made ++ rest
  pub all : (r : ProgResult) (line ticks : ℕ) (calls : List SysCall) → outcome ≡ Ends r line ticks calls → made ≡ calls
  pub last : (calls : List SysCall) → outcome ≡ Waits calls → (before : List SysCall) × (call : SysCall) × (calls ≡ before ++ call ∷ [])
  pub none : (calls : List SysCall) → outcome ≡ Waits calls → answers_so_far input closed calls ≡ None
  pub comes : (c : CodeLists) → Runs c limit (batch_replies input made) outcome → RunsOn c limit input closed outcome

ends_on : (p : Program) (limit : ℕ) (input : List ℕ) (closed : Bool) (r : ProgResult) (line ticks : ℕ) (made : List SysCall) → AreAnswered input closed made
    → meaning p limit (batch_replies input made) ≡ Ends r line ticks made → MeansOn p limit input closed (Ends r line ticks made)
ends_on p limit input closed r line ticks made all means =
    record {
      made = made;
      rest = [];
      means = means;
      calls = sym (append-nil made);
      all = λ r' line' ticks' calls same. cc;
      last = λ calls same. absurd cc;
      none = λ calls same. absurd cc;
      comes = λ c runs. (all, runs);
    }

begun_by : (calls : List SysCall) (k : Course (Unit {0})) → Begins calls k → (rest : List SysCall) × (calls_of (outcome_of k) ≡ calls ++ rest)
begun_by calls (Gives v then_is) begins = begins
begun_by calls (Over outcome) begins = begins

waits_so : (outcome : RunOutcome) (replies : List SysReply) (calls rest : List SysCall) → TakeReplies outcome replies → length calls ≡ length replies + 1
    → calls_of outcome ≡ calls ++ rest
    → outcome ≡ Waits calls
waits_so (Ends r line ticks made) replies calls rest few one is = absurd (omega (arith, few, one, ap length is, length-append calls rest))
waits_so (Waits made) replies calls rest few one is =
    let none : rest ≡ [] = nil_from_length rest (omega (arith, few, one, ap length is, length-append calls rest)) in
    ap Waits (is ∙ ap (λ (l : List SysCall). calls ++ l) none ∙ append-nil calls)

waits_on : (p : Program) (limit : ℕ) (input : List ℕ) (closed : Bool) (calls made : List SysCall) (call : SysCall) → calls ≡ made ++ call ∷ []
    → AreAnswered input closed made
    → answers_so_far input closed calls ≡ None → (rest : List SysCall) → calls_of (meaning p limit (batch_replies input made)) ≡ calls ++ rest
    → MeansOn p limit input closed (Waits calls)
waits_on p limit input closed calls made call is all none rest begins =
    let one : length calls ≡ length (batch_replies input made) + 1 = omega (arith, ap length is, length-append made (call ∷ []), replies_count input made) in
    let nothing = sym (answer_behind input closed made call all) ∙ ap (answers_so_far input closed) (sym is) ∙ none in
    record {
      made = made;
      rest = call ∷ [];
      means = waits_so (meaning p limit (batch_replies input made)) (batch_replies input made) calls rest
          (each_call p limit (batch_replies input made)) one begins;
      calls = is;
      all = λ r line ticks others same. absurd cc;
      last = λ others same. let alike : others ≡ calls = cc in (made, call, alike ∙ is);
      none = λ others same. let alike : calls ≡ others = cc in subst (λ l. answers_so_far input closed l ≡ None) alike none;
      comes = λ c runs. (made, call, is, all, nothing, runs);
    }

by_course : (p : Program) (limit : ℕ) (input : List ℕ) (closed : Bool) (k : Course (Unit {0})) → Follows (answers_so_far input closed) opening k
    → ((replies : List SysReply) → Extends (answers_so_far input closed) (in_order replies) k (program_part (in_order replies) limit (all_declared p) opening))
    → MeansOn p limit input closed (outcome_of k)
unfolding meaning meaning_with
by_course p limit input closed (Gives v then_is) follows extends =
    let all = answered_so_far input closed then_is.made (follows.answered (inl refl)) in
    ends_on p limit input closed _ _ _ then_is.made all (ap outcome_of
    (extends (batch_replies input then_is.made) (agree_so_far input closed then_is.made all)))
by_course p limit input closed (Over (Ends r line ticks made)) follows extends =
    let all = answered_so_far input closed made (follows.answered (inl refl)) in
    ends_on p limit input closed r line ticks made all (ap outcome_of (extends (batch_replies input made) (agree_so_far input closed made all)))
by_course p limit input closed (Over (Waits calls)) follows extends =
    let made = follows.rest in
    let all = answered_so_far input closed made (follows.answered (inl refl)) in
    let begins = begun_by calls (program_part (in_order (batch_replies input made)) limit (all_declared p) opening)
    (extends (batch_replies input made) (λ before call is.
    subst (Agree (answers_so_far input closed) (in_order (batch_replies input made))) (same_from_push made before follows.call call (sym follows.made
    ∙ is)).0 (agree_so_far input closed made all))) in
    waits_on p limit input closed calls made follows.call follows.made all follows.none begins.0 begins.1

pub means_on : (p : Program) (limit : ℕ) (input : List ℕ) (closed : Bool) → MeansOn p limit input closed (meaning_with (answers_so_far input closed) p limit)
unfolding meaning_with
means_on p limit input closed =
    let a = answers_so_far input closed in
    by_course p limit input closed (program_part a limit (all_declared p) opening) ((program_steady a a limit (all_declared p)).follows opening)
    (λ replies. (program_steady a (in_order replies) limit (all_declared p)).extends opening)

-- ---- Its replies fit

fits_there : (input : List ℕ) (made rest before_calls after_calls : List SysCall) (call : SysCall) (before after : List SysReply) (reply : SysReply)
    → AreCodes input
    → made ++ rest ≡ before_calls ++ call ∷ after_calls → length before_calls ≡ length before → batch_replies input made ≡ before ++ reply ∷ after
    → Fits call reply
fits_there input [] rest before_calls after_calls call [] after reply bytes calls same is = absurd cc
fits_there input [] rest before_calls after_calls call (b ∷ before) after reply bytes calls same is = absurd cc
fits_there input (c ∷ made) rest [] after_calls call [] after reply bytes calls same is =
    let call_is : c ≡ call = cc in
    let reply_is : batch_reply input c ≡ reply = cc in
    subst (λ d. Fits d reply) call_is (subst (Fits c) reply_is (fits_bytes input c bytes))
fits_there input (c ∷ made) rest (d ∷ before_calls) after_calls call (b ∷ before) after reply bytes calls same is =
    let others : made ++ rest ≡ before_calls ++ call ∷ after_calls = cc in
    let replies : batch_replies (input_after input c) made ≡ before ++ reply ∷ after = cc in
    fits_there (input_after input c) made rest before_calls after_calls call before after reply (after_is_bytes input c bytes) others
    (omega (arith, same)) replies
fits_there input (c ∷ made) rest [] after_calls call (b ∷ before) after reply bytes calls same is = absurd (omega (arith, same))
fits_there input (c ∷ made) rest (d ∷ before_calls) after_calls call [] after reply bytes calls same is = absurd (omega (arith, same))

replies_fit : (p : Program) (limit : ℕ) (input : List ℕ) (closed : Bool) (outcome : RunOutcome) → AreCodes input → (m : MeansOn p limit input closed outcome)
    → FitTheMeaning p limit (batch_replies input m.made)
replies_fit p limit input closed outcome bytes m before after reply calls call split waits =
    let goes : GoesOn (meaning p limit before) (meaning p limit (before ++ reply ∷ after)) = more_replies p limit before (reply ∷ after) in
    let further : GoesOn (Waits (calls ++ call ∷ [])) outcome =
    subst (λ o. GoesOn o outcome) waits (subst (GoesOn (meaning p limit before)) (ap (meaning p limit) (sym split) ∙ m.means) goes) in
    let count : TakeReplies (Waits (calls ++ call ∷ [])) before = subst (λ o. TakeReplies o before) waits (each_call p limit before) in
    let whole : m.made ++ m.rest ≡ calls ++ call ∷ further.0 = sym m.calls ∙ further.1 ∙ append_assoc calls (call ∷ []) further.0 in
    fits_there input m.made m.rest calls further.0 call before after reply bytes whole (omega (arith, count, length-append calls (call ∷ []))) split

-- ---- The laws

pub reaches_meaning : (c : CodeLists) (p : Program) (limit : ℕ) (input : List ℕ) (closed : Bool) → MeansItsSource c p → AreCodes input
    → RunsOn c limit input closed (meaning_with (answers_so_far input closed) p limit)
reaches_meaning c p limit input closed means bytes =
    let m = means_on p limit input closed in
    let meant = meaning_with (answers_so_far input closed) p limit in
    m.comes c (subst (Runs c limit (batch_replies input m.made)) m.means
    (means limit (batch_replies input m.made) (replies_fit p limit input closed meant bytes m)))

pub comes_to_meaning : (c : CodeLists) (p : Program) (limit : ℕ) (input : List ℕ) (closed : Bool) (outcome : RunOutcome) → MeansItsSource c p
    → AreCodes input → RunsOn c limit input closed outcome → outcome ≡ meaning_with (answers_so_far input closed) p limit
comes_to_meaning c p limit input closed outcome means bytes runs =
    one_outcome c limit input closed outcome (meaning_with (answers_so_far input closed) p limit) runs
    (reaches_meaning c p limit input closed means bytes)

-- once no further card comes, each call has an answer
never_none : (input : List ℕ) (made : List SysCall) (call : SysCall) → answers_so_far input true (made ++ call ∷ []) ≡ None → ⊥
never_none input made call none =
    let left = input_behind input made in
    let some : None ≡ Some (batch_reply left call) = sym none ∙ answer_behind input true made call (all_answered input made) ∙ reply_closed left call in
    cc

pub means_its_end : (p : Program) (limit : ℕ) (cards : List (List ℕ)) (outcome : RunOutcome) → MeansOn p limit (text cards) true outcome
    → EndsAs outcome (ending_in_batch p limit cards)
means_its_end p limit cards (Ends r line ticks calls) m =
    let same = m.all r line ticks calls refl in
    one_ending p limit cards (ending_of (Ends r line ticks calls))
    (record { calls = calls; means = ap (λ l. meaning p limit (batch_replies (text cards) l)) (sym same) ∙ m.means; prints = refl })
means_its_end p limit cards (Waits calls) m =
    let last = m.last calls refl in
    never_none (text cards) last.0 last.1 (subst (λ l. answers_so_far (text cards) true l ≡ None) last.2 (m.none calls refl))

pub comes_to_ending : (c : CodeLists) (p : Program) (limit : ℕ) (cards : List (List ℕ)) (outcome : RunOutcome) → MeansItsSource c p → AreCodes (text cards)
    → RunsOn c limit (text cards) true outcome → EndsAs outcome (ending_in_batch p limit cards)
comes_to_ending c p limit cards outcome means bytes runs =
    let same = comes_to_meaning c p limit (text cards) true outcome means bytes runs in
    means_its_end p limit cards outcome (subst (MeansOn p limit (text cards) true) (sym same) (means_on p limit (text cards) true))

pub meaning_ends : (p : Program) (limit : ℕ) (cards : List (List ℕ)) → EndsAs (meaning_so_far p limit cards true) (ending_in_batch p limit cards)
meaning_ends p limit cards = means_its_end p limit cards (meaning_so_far p limit cards true) (means_on p limit (text cards) true)

-- ---- More cards

-- an answered call in front
abbrev answers_behind : List ℕ → Bool → SysCall → List SysCall → Option SysReply
answers_behind input closed first calls = if_answered (reply_so_far input closed first) (answers_so_far (input_after input first) closed calls)

front_answered : (input : List ℕ) (closed : Bool) (first : SysCall) (calls : List SysCall) → reply_so_far input closed first ≡ Some (batch_reply input first)
    → answers_behind input closed first calls ≡ answers_so_far (input_after input first) closed calls
front_answered input closed first calls is = ap (λ o. if_answered o (answers_so_far (input_after input first) closed calls)) is

more_answers : (input more : List ℕ) (closed : Bool) (before after : List SysCall) (call : SysCall) → AreAnswered input false (before ++ call ∷ after)
    → answers_so_far input false (before ++ call ∷ []) ≡ answers_so_far (input ++ more) closed (before ++ call ∷ [])
more_answers input more closed [] after call all =
    let kept = reply_kept input more closed call all.0 in
    all.0 ∙ ap (λ r. Some r) (sym kept.reply) ∙ sym kept.answered
more_answers input more closed (first ∷ []) after call all =
    let kept = reply_kept input more closed first all.0 in
    let calls : List SysCall = call ∷ [] in
    front_answered input false first calls all.0 ∙ more_answers (input_after input first) more closed [] after call all.1
    ∙ ap (λ i. answers_so_far i closed calls) (sym kept.after) ∙ sym (front_answered (input ++ more) closed first calls kept.answered)
more_answers input more closed (first ∷ next ∷ before) after call all =
    let kept = reply_kept input more closed first all.0 in
    let calls : List SysCall = (next ∷ before) ++ call ∷ [] in
    front_answered input false first calls all.0 ∙ more_answers (input_after input first) more closed (next ∷ before) after call all.1
    ∙ ap (λ i. answers_so_far i closed calls) (sym kept.after) ∙ sym (front_answered (input ++ more) closed first calls kept.answered)

agree_with_more : (input more : List ℕ) (closed : Bool) (made : List SysCall) → AreAnswered input false made
    → Agree (answers_so_far input false) (answers_so_far (input ++ more) closed) made
agree_with_more input more closed made all before after call is = more_answers input more closed before after call (subst (AreAnswered input false) is all)

course_goes_on : (input more : List ℕ) (closed : Bool) (k other : Course (Unit {0})) → Follows (answers_so_far input false) opening k
    → Extends (answers_so_far input false) (answers_so_far (input ++ more) closed) k other → GoesOn (outcome_of k) (outcome_of other)
course_goes_on input more closed (Gives v then_is) other follows extends =
    ap outcome_of (extends (agree_with_more input more closed then_is.made (answered_so_far input false then_is.made (follows.answered (inl refl)))))
course_goes_on input more closed (Over (Ends r line ticks made)) other follows extends =
    ap outcome_of (extends (agree_with_more input more closed made (answered_so_far input false made (follows.answered (inl refl)))))
course_goes_on input more closed (Over (Waits calls)) other follows extends =
    begun_by calls other (extends (λ before call is.
    subst (Agree (answers_so_far input false) (answers_so_far (input ++ more) closed))
    (same_from_push follows.rest before follows.call call (sym follows.made ∙ is)).0
    (agree_with_more input more closed follows.rest (answered_so_far input false follows.rest (follows.answered (inl refl))))))

with_more_input : (p : Program) (limit : ℕ) (input more : List ℕ) (closed : Bool)
    → GoesOn (meaning_with (answers_so_far input false) p limit) (meaning_with (answers_so_far (input ++ more) closed) p limit)
unfolding meaning_with
with_more_input p limit input more closed =
    let a = answers_so_far input false in
    let b = answers_so_far (input ++ more) closed in
    let steady = program_steady a b limit (all_declared p) in
    course_goes_on input more closed (program_part a limit (all_declared p) opening) (program_part b limit (all_declared p) opening)
    (steady.follows opening) (steady.extends opening)

pub meaning_goes_on : (p : Program) (limit : ℕ) (cards more : List (List ℕ)) (closed : Bool)
    → GoesOn (meaning_so_far p limit cards false) (meaning_so_far p limit (cards ++ more) closed)
meaning_goes_on p limit cards more closed =
    subst (λ i. GoesOn (meaning_so_far p limit cards false) (meaning_with (answers_so_far i closed) p limit)) (sym (text_append cards more))
    (with_more_input p limit (text cards) (text more) closed)
