-- A program from pause to pause.
use Rattle.std.proofs.Common.{◌≡◌, ℕ, zero, suc, ◌+◌, ◌≤◌, Bool, true, false, Option, Some, None, List, [], ◌∷◌, ◌++◌, length, refl, sym, ◌∙◌, ap, subst, append_assoc, arith}
use Rattle.std.proofs.lemmas.List.{append-nil}
use Rattle.solo_base.specs.declared.system_call.SysCall.{SysCall}
use Rattle.solo_base.specs.declared.system_call.SysCall.TheVariants as calls
use Rattle.solo_base.specs.declared.system_call.SysReply.{SysReply}
use Rattle.solo_base.specs.RunOutcome.{RunOutcome, Ends, Waits}
use Rattle.solo_base.specs.Line.{IsLine}
use Rattle.solo_base.specs.Text.{line_text, text}
use Rattle.stack_code.specs.CodeLists.{CodeLists}
use Rattle.stack_code.specs.Rules.{IsGood}
use Rattle.stack_machine.specs.declared.running.Pause.{Pause}
use Rattle.stack_machine.specs.declared.running.Pause.TheVariants as pause
use Rattle.stack_machine.specs.declared.state.Finish.{Finish}
use Rattle.stack_machine.specs.States.{State}
use Rattle.stack_machine.specs.State.{Asks}
use Rattle.stack_machine.specs.Machine.{next, start_state, answered}
use Rattle.stack_machine.specs.Run.{Moves, Pauses, Runs}
use Rattle.stack_machine.specs.Standing.{Standing, StandsWell}
use Rattle.stack_machine.specs.History.{StandsFor, outcome_at}
use Rattle.stack_machine.proofs.Onward.{has_ended}
use Rattle.stack_machine.proofs.Pauses.{no_call_at_end}
use Rattle.stack_machine.specs.Left.{left_by, left_until_end, left_to_run}
use Rattle.stack_machine.proofs.Reply.{asks_running, goes_running}
use Rattle.stack_machine.proofs.Measure.{goes_less}
use Rattle.stack_machine.proofs.Rounds.{round_less}
use Rattle.pascal_mean.specs.Batch.{batch_reply, batch_replies, input_after, characters_of, Printed, last_line, output_of}
use Rattle.batch_program.specs.Input.{reply_so_far, AreAnswered, input_behind}
use Rattle.batch_program.specs.Outcome.{Work, RunsOn, printed_by}
use Rattle.batch_program.specs.Printing.{completed, Prints}
use Rattle.batch_program.specs.Progress.{Progress, NeedsCard, most_lines_left}
use Rattle.batch_program.specs.Told.{IsTold, Tells, line_in, HasGiven, GoesOn, IsOver, IsAt}
use Rattle.batch_program.specs.Steps.{last_told, told_of, TellsIf, lines_in_told, lowers}
use Rattle.batch_program.specs.declared.told.Told.TheVariants as told
use Rattle.batch_program.proofs.Inputs.{reply_is, HasNoReply, no_reply, behind_more, replies_more, answered_more, all_answered, replies_kept, text_append}
use Rattle.batch_program.proofs.Bytes.{text_is_bytes, lines_more}
use Rattle.batch_program.proofs.Printed.{printed, printed_call, lines_first}
use Rattle.batch_program.proofs.Onward.{comes_further}

-- ---- What a machine's `go` and `answer` say

pub record WentTo (m : Standing) (p : Pause) (n : Standing) : Type 0 where
  pub pauses : Pauses m.code m.limit m.state p n.state
  pub runs : (replies : List SysReply) (made : List SysCall) → StandsFor m replies made → Runs m.code m.limit replies (outcome_at p made)
  pub history : (replies : List SysReply) (made : List SysCall) → StandsFor m replies made → StandsFor n replies made
  pub code : n.code ≡ m.code
  pub limit : n.limit ≡ m.limit
  pub well : StandsWell n

pub record WasAnswered (m : Standing) (reply : SysReply) (n : Standing) : Type 0 where
  pub is : n ≡ record m { state = answered m.code m.state reply }
  pub history : (replies : List SysReply) (made : List SysCall) (call : SysCall) → next m.code m.limit m.state ≡ Asks call m.state
      → StandsFor m replies made → StandsFor n (replies ++ reply ∷ []) (made ++ call ∷ [])
  pub well : StandsWell n

-- ---- Moving a run to its work

pub moved_run : (c d : CodeLists) (limit other : ℕ) (input : List ℕ) (closed : Bool) (outcome : RunOutcome) → c ≡ d → limit ≡ other
    → RunsOn c limit input closed outcome → RunsOn d other input closed outcome
moved_run c d limit other input closed outcome code same runs =
    subst (λ e. RunsOn e other input closed outcome) code (subst (λ n. RunsOn c n input closed outcome) same runs)

-- ---- Before the first card

pub stands_new : (m : Standing) (code : CodeLists) (limit : ℕ) → m ≡ record { code = code; limit = limit; state = start_state code } → StandsFor m [] []
    → StandsWell m
    → IsAt (record { machine = m; input = []; closed = false; line = [] }) (record { code = code; limit = limit; cards = []; closed = false }) []
stands_new m code limit is stands well =
    record {
      calls = [];
      code = ap (λ (n : Standing). n.code) is;
      limit = ap (λ (n : Standing). n.limit) is;
      closed = refl;
      cards = tt;
      answered = tt;
      machine = stands;
      well = well;
      input = refl;
      lines = GoesOn refl;
    }

-- ---- A card more, or none

same_lines_given : (p q : Progress) (made : List SysCall) (given : List (List ℕ)) → q.machine ≡ p.machine → q.line ≡ p.line → HasGiven p made given
    → HasGiven q made given
same_lines_given p q made given machine line (GoesOn is) = GoesOn (is ∙ ap (λ l. printed given l) (sym line))
same_lines_given p q made given machine line (IsOver finish ended all none) =
    IsOver finish (ap (λ (m : Standing). m.state.ended) machine ∙ ended) all (line ∙ none)

pub stands_fed : (p : Progress) (w : Work) (given : List (List ℕ)) (card : List ℕ) → NeedsCard p → IsLine card → IsAt p w given
    → IsAt (record p { input = line_text card }) (record w { cards = w.cards ++ card ∷ [] }) given
stands_fed p w given card needs line at =
    let old = text w.cards in
    let new = text (w.cards ++ card ∷ []) in
    let none_closed : w.closed ≡ false = sym at.closed ∙ needs.closed in
    let kept = replies_kept old (text (card ∷ [])) w.closed at.calls (subst (λ b. AreAnswered old b at.calls) none_closed at.answered) in
    let whole : new ≡ old ++ text (card ∷ []) = text_append w.cards (card ∷ []) in
    let left : input_behind old at.calls ≡ [] = sym at.input ∙ needs.input in
    let one : text (card ∷ []) ≡ line_text card = append-nil (line_text card) in
    record {
      calls = at.calls;
      code = at.code;
      limit = at.limit;
      closed = at.closed;
      cards = lines_more w.cards card at.cards line;
      answered = subst (λ i. AreAnswered i w.closed at.calls) (sym whole) kept.answered;
      machine = subst (λ l. StandsFor p.machine l at.calls) (sym (ap (λ i. batch_replies i at.calls) whole ∙ kept.replies)) at.machine;
      well = at.well;
      input = sym (ap (λ i. input_behind i at.calls) whole ∙ kept.behind ∙ ap (λ l. l ++ text (card ∷ [])) left ∙ one);
      lines = same_lines_given p (record p { input = line_text card }) at.calls given refl refl at.lines;
    }

pub stands_closed : (p : Progress) (w : Work) (given : List (List ℕ)) → IsAt p w given → IsAt (record p { closed = true }) (record w { closed = true }) given
stands_closed p w given at =
    record {
      calls = at.calls;
      code = at.code;
      limit = at.limit;
      closed = refl;
      cards = at.cards;
      answered = all_answered (text w.cards) at.calls;
      machine = at.machine;
      well = at.well;
      input = at.input;
      lines = same_lines_given p (record p { closed = true }) at.calls given refl refl at.lines;
    }

-- ---- At the end

-- the lines that were given and the last one are all
all_given : (p : Progress) (made : List SysCall) (given : List (List ℕ)) (finish : Finish) (line : List ℕ) → p.line ≡ line → HasGiven p made given
    → output_of made ≡ given ++ line_in (last_told line finish)
all_given p made given finish [] is (GoesOn printed) =
    ap (λ (q : Printed). q.lines ++ last_line q.line) printed ∙ ap (λ l. given ++ last_line l) is
all_given p made given finish (code ∷ rest) is (GoesOn printed) =
    ap (λ (q : Printed). q.lines ++ last_line q.line) printed ∙ ap (λ l. given ++ last_line l) is
all_given p made given finish [] is (IsOver again ended all none) = sym all ∙ sym (append-nil given)
all_given p made given finish (code ∷ rest) is (IsOver again ended all none) = let never : (code ∷ rest) ≡ [] = sym is ∙ none in absurd cc

last_is_told : (made : List SysCall) (given : List (List ℕ)) (finish : Finish) (line : List ℕ) → output_of made ≡ given ++ line_in (last_told line finish)
    → IsTold given (Ends finish.result finish.line finish.ticks made) (last_told line finish)
last_is_told made given finish [] all = (all ∙ append-nil given, refl, refl)
last_is_told made given finish (code ∷ rest) all = ([], all)

pub told_at_end : (p : Progress) (w : Work) (given : List (List ℕ)) (finish : Finish) (n : Standing) → WentTo p.machine (pause.Finished finish) n
    → IsAt p w given
    → Tells w given (last_told p.line finish)
told_at_end p w given finish n went at =
    let outcome = Ends finish.result finish.line finish.ticks at.calls in
    record {
      outcome = outcome;
      comes = moved_run p.machine.code w.code p.machine.limit w.limit (text w.cards) w.closed outcome at.code at.limit
          (at.answered, went.runs (batch_replies (text w.cards) at.calls) at.calls at.machine);
      is_told = last_is_told at.calls given finish p.line (all_given p at.calls given finish p.line refl at.lines);
    }

pub stands_at_end : (p : Progress) (w : Work) (given : List (List ℕ)) (finish : Finish) (n : Standing) → WentTo p.machine (pause.Finished finish) n
    → IsAt p w given
    → IsAt (record p { machine = n; line = [] }) w (given ++ line_in (last_told p.line finish))
stands_at_end p w given finish n went at =
    record {
      calls = at.calls;
      code = went.code ∙ at.code;
      limit = went.limit ∙ at.limit;
      closed = at.closed;
      cards = at.cards;
      answered = at.answered;
      machine = went.history (batch_replies (text w.cards) at.calls) at.calls at.machine;
      well = went.well;
      input = at.input;
      lines = IsOver finish went.pauses.1 (sym (all_given p at.calls given finish p.line refl at.lines)) refl;
    }

-- ---- At a call

-- a program that has given its last line asks for nothing
still_given : (p : Progress) (made : List SysCall) (given : List (List ℕ)) (call : SysCall) (n : Standing) → WentTo p.machine (pause.Call call) n
    → HasGiven p made given
    → printed_by made ≡ record { lines = given; line = p.line }
still_given p made given call n went (GoesOn is) = is
still_given p made given call n went (IsOver finish ended all none) =
    absurd (no_call_at_end p.machine.code p.machine.limit p.machine.state n.state call finish.result finish.line finish.ticks went.pauses
    (has_ended p.machine.code p.machine.limit p.machine.state finish ended))

-- the reply by the input that the code keeps
reply_there : (p : Progress) (w : Work) (given : List (List ℕ)) (call : SysCall) (reply : Option SysReply) → (at : IsAt p w given)
    → reply_so_far p.input p.closed call ≡ reply
    → reply_so_far (input_behind (text w.cards) at.calls) w.closed call ≡ reply
reply_there p w given call reply at is =
    ap (λ i. reply_so_far i w.closed call) (sym at.input) ∙ ap (λ b. reply_so_far p.input b call) (sym at.closed) ∙ is

pub told_waits : (p : Progress) (w : Work) (given : List (List ℕ)) (call : SysCall) (n : Standing) → WentTo p.machine (pause.Call call) n
    → reply_so_far p.input p.closed call ≡ None
    → IsAt p w given → Tells w given told.WaitsForCard
told_waits p w given call n went none at =
    let outcome = Waits (at.calls ++ call ∷ []) in
    let runs = went.runs (batch_replies (text w.cards) at.calls) at.calls at.machine in
    let none_there = reply_there p w given call None at none in
    let waits = no_reply p.input p.closed call none in
    let silent : Prints p.line (characters_of call) None p.line = subst (λ c. Prints p.line (characters_of c) None p.line) (sym waits.is_read) refl in
    let printed = printed_call at.calls call given p.line p.line None (still_given p at.calls given call n went at.lines) silent in
    record {
      outcome = outcome;
      comes = moved_run p.machine.code w.code p.machine.limit w.limit (text w.cards) w.closed outcome at.code at.limit
          (at.calls, call, refl, at.answered, none_there, runs);
      is_told = ap (λ (q : Printed). q.lines) printed ∙ append-nil given;
    }

-- nothing is left behind the input, and a READ takes nothing
nothing_read : (input : List ℕ) (closed : Bool) (call : SysCall) → HasNoReply input closed call → input_after input call ≡ input
nothing_read input closed call waits =
    ap (λ c. input_after input c) waits.is_read ∙ ap (λ i. input_after i calls.Read) waits.nothing_left ∙ sym waits.nothing_left

pub stands_waiting : (p : Progress) (w : Work) (given : List (List ℕ)) (call : SysCall) (n : Standing) → WentTo p.machine (pause.Call call) n
    → reply_so_far p.input p.closed call ≡ None
    → IsAt p w given → IsAt (record p { machine = n; input = input_after p.input call }) w (given ++ [])
stands_waiting p w given call n went none at =
    let waits = no_reply p.input p.closed call none in
    rw (append-nil given) (record {
      calls = at.calls;
      code = went.code ∙ at.code;
      limit = went.limit ∙ at.limit;
      closed = at.closed;
      cards = at.cards;
      answered = at.answered;
      machine = went.history (batch_replies (text w.cards) at.calls) at.calls at.machine;
      well = went.well;
      input = nothing_read p.input p.closed call waits ∙ at.input;
      lines = GoesOn (still_given p at.calls given call n went at.lines);
    })

pub waits_for_card : (p : Progress) (call : SysCall) (n : Standing) → reply_so_far p.input p.closed call ≡ None
    → NeedsCard (record p { machine = n; input = input_after p.input call })
waits_for_card p call n none =
    let waits = no_reply p.input p.closed call none in
    record { input = nothing_read p.input p.closed call waits ∙ waits.nothing_left; closed = waits.is_open }

-- ---- Past a call

-- what the step past a call knows
pub record Passed (p : Progress) (call : SysCall) (reply : SysReply) (m n : Standing) (line : Option (List ℕ)) (after : List ℕ) : Type 0 where
  pub went : WentTo p.machine (pause.Call call) m
  pub replied : reply_so_far p.input p.closed call ≡ Some reply
  pub was_answered : WasAnswered m reply n
  pub prints : Prints p.line (characters_of call) line after

given_is : (line : Option (List ℕ)) → lines_in_told (told_of line) ≡ completed line
given_is None = refl
given_is (Some line) = refl

code_after : (p : Progress) (call : SysCall) (reply : SysReply) (m n : Standing) (line : Option (List ℕ)) (after : List ℕ)
    → Passed p call reply m n line after → n.code ≡ p.machine.code
code_after p call reply m n line after past = ap (λ (s : Standing). s.code) past.was_answered.is ∙ past.went.code

limit_after : (p : Progress) (call : SysCall) (reply : SysReply) (m n : Standing) (line : Option (List ℕ)) (after : List ℕ)
    → Passed p call reply m n line after → n.limit ≡ p.machine.limit
limit_after p call reply m n line after past = ap (λ (s : Standing). s.limit) past.was_answered.is ∙ past.went.limit

stands_behind : (p : Progress) (w : Work) (given : List (List ℕ)) (call : SysCall) (reply : SysReply) (m n : Standing) (line : Option (List ℕ))
    (after : List ℕ) → Passed p call reply m n line after
    → IsAt p w given → IsAt (record { machine = n; input = input_after p.input call; closed = p.closed; line = after }) w (given ++ completed line)
stands_behind p w given call reply m n line after past at =
    let input = text w.cards in
    let left = input_behind input at.calls in
    let there = reply_there p w given call (Some reply) at past.replied in
    let same : reply ≡ batch_reply left call = reply_is left w.closed call reply there in
    let before = past.went.history (batch_replies input at.calls) at.calls at.machine in
    let asks : next m.code m.limit m.state ≡ Asks call m.state =
    subst (λ l. next m.code l m.state ≡ Asks call m.state) (sym past.went.limit)
    (subst (λ c. next c p.machine.limit m.state ≡ Asks call m.state) (sym past.went.code) past.went.pauses.asks) in
    let more = past.was_answered.history (batch_replies input at.calls) at.calls call asks before in
    let replies : batch_replies input at.calls ++ reply ∷ []
    ≡ batch_replies input (at.calls ++ call ∷ []) = ap (λ r. batch_replies input at.calls ++ r ∷ []) same ∙ sym (replies_more input at.calls call) in
    record {
      calls = at.calls ++ call ∷ [];
      code = code_after p call reply m n line after past ∙ at.code;
      limit = limit_after p call reply m n line after past ∙ at.limit;
      closed = at.closed;
      cards = at.cards;
      answered = answered_more input w.closed at.calls call at.answered (there ∙ ap (λ r. Some r) same);
      machine = subst (λ l. StandsFor n l (at.calls ++ call ∷ [])) replies more;
      well = past.was_answered.well;
      input = ap (λ i. input_after i call) at.input ∙ sym (behind_more input at.calls call);
      lines = GoesOn (printed_call at.calls call given p.line after line (still_given p at.calls given call m past.went at.lines) past.prints);
    }

pub stands_past : (p : Progress) (w : Work) (given : List (List ℕ)) (call : SysCall) (reply : SysReply) (m n : Standing) (line : Option (List ℕ))
    (after : List ℕ) → Passed p call reply m n line after
    → IsAt p w given → IsAt (record { machine = n; input = input_after p.input call; closed = p.closed; line = after }) w
    (given ++ lines_in_told (told_of line))
stands_past p w given call reply m n line after past at =
    rw (given_is line) (stands_behind p w given call reply m n line after past at)

-- a line is the next one of what the program comes to
pub told_past : (p : Progress) (w : Work) (given : List (List ℕ)) (call : SysCall) (reply : SysReply) (m n : Standing) (line : Option (List ℕ))
    (after : List ℕ) → Passed p call reply m n line after
    → IsAt p w given → TellsIf w given (told_of line)
unfolding stands_behind
told_past p w given call reply m n None after past at = tt
told_past p w given call reply m n (Some line) after past at =
    let now = stands_behind p w given call reply m n (Some line) after past at in
    let further = comes_further n (text w.cards) w.closed now.calls (text_is_bytes w.cards at.cards) past.was_answered.well now.machine now.answered in
    let printed = printed_call at.calls call given p.line after (Some line) (still_given p at.calls given call m past.went at.lines) past.prints in
    let lines = lines_first further.outcome now.calls further.rest further.first in
    record {
      outcome = further.outcome;
      comes = moved_run n.code w.code n.limit w.limit (text w.cards) w.closed further.outcome now.code now.limit further.runs;
      is_told = (lines.0, lines.1 ∙ ap (λ (q : Printed). q.lines ++ lines.0) printed ∙ append_assoc given (line ∷ []) lines.0);
    }

-- ---- What is left

last_is_one : (line : List ℕ) → length (last_line line) ≤ 1
last_is_one [] = omega arith
last_is_one (code ∷ rest) = omega arith

pub less_past : (p : Progress) (call : SysCall) (reply : SysReply) (m n : Standing) (line : Option (List ℕ)) (after : List ℕ)
    → Passed p call reply m n line after
    → most_lines_left (record { machine = n; input = input_after p.input call; closed = p.closed; line = after }) + lowers (told_of line) ≤ most_lines_left p
less_past p call reply m n line after past =
    let c = p.machine.code in
    let same : left_until_end n.code n.limit n.state ≡ left_until_end c p.machine.limit (answered c m.state reply) =
    ap (λ (s : Standing). left_until_end s.code s.limit s.state) past.was_answered.is
    ∙ ap (λ d. left_until_end d m.limit (answered d m.state reply)) past.went.code
    ∙ ap (λ l. left_until_end c l (answered c m.state reply)) past.went.limit in
    let good = subst (λ d. IsGood d) past.went.code past.went.well.good in
    omega (arith, same, round_less c p.machine.limit p.machine.state m.state call reply good past.went.pauses, last_is_one after, lowers_one line)
  where
    lowers_one : (some : Option (List ℕ)) → lowers (told_of some) ≡ 1
    lowers_one None = refl
    lowers_one (Some l) = refl

none_left : (left : ℕ) (ended : Option Finish) (finish : Finish) → ended ≡ Some finish → left_by ended left ≡ 0
none_left left ended finish is = ap (λ o. left_by o left) is

last_lowers : (line : List ℕ) (finish : Finish) → length (line_in (last_told line finish)) ≡ length (last_line line)
last_lowers [] finish = refl
last_lowers (code ∷ rest) finish = refl

pub less_at_end : (p : Progress) (finish : Finish) (n : Standing) → WentTo p.machine (pause.Finished finish) n
    → most_lines_left (record p { machine = n; line = [] }) + length (line_in (last_told p.line finish)) ≤ most_lines_left p
less_at_end p finish n went =
    omega (arith, none_left (left_to_run n.code n.limit n.state) n.state.ended finish went.pauses.1, last_lowers p.line finish)

-- ---- What is left where it waits

moves_left : (c : CodeLists) (limit steps : ℕ) (s t : State) → IsGood c → Moves c limit steps s t → left_to_run c limit t ≤ left_to_run c limit s
moves_left c limit zero s t good same = omega (arith, ap (left_to_run c limit) same)
moves_left c limit (suc steps) s t good (mid, first, others) =
    omega (arith, goes_less c limit s mid good (goes_running c limit s mid first) first, moves_left c limit steps mid t good others)

begins_running : (c : CodeLists) (limit steps : ℕ) (s t : State) → Moves c limit steps s t → t.ended ≡ None → s.ended ≡ None
begins_running c limit zero s t same runs = ap (λ (v : State). v.ended) same ∙ runs
begins_running c limit (suc steps) s t (mid, first, others) runs = goes_running c limit s mid first

left_running : (left : ℕ) (ended : Option Finish) → ended ≡ None → left_by ended left ≡ left + 1
left_running left ended runs = ap (λ o. left_by o left) runs

pub less_waiting : (p : Progress) (call : SysCall) (n : Standing) → WentTo p.machine (pause.Call call) n
    → most_lines_left (record p { machine = n; input = input_after p.input call }) ≤ most_lines_left p
less_waiting p call n went =
    let m = p.machine in
    let c = m.code in
    let leads = went.pauses in
    let runs = asks_running c m.limit n.state call n.state leads.asks in
    let begins = begins_running c m.limit leads.steps m.state n.state leads.moves runs in
    let good = subst (λ d. IsGood d) went.code went.well.good in
    let same : left_until_end n.code n.limit n.state ≡ left_until_end c m.limit n.state =
    ap (λ d. left_until_end d n.limit n.state) went.code ∙ ap (λ l. left_until_end c l n.state) went.limit in
    omega (
      arith,
      same,
      left_running (left_to_run c m.limit n.state) n.state.ended runs,
      left_running (left_to_run c m.limit m.state) m.state.ended begins,
      moves_left c m.limit leads.steps m.state n.state good leads.moves,
    )
