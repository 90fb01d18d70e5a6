-- What a program under way stands for, step by step.
use Rattle.std.proofs.Common.{◌≡◌, ℕ, Bool, true, false, List, [], ◌∷◌, ◌++◌, refl, sym, ◌∙◌, ap, subst, append_assoc}
use Rattle.std.proofs.lemmas.List.{append-nil}
use Rattle.solo_base.specs.RunOutcome.{RunOutcome, Ends, Waits}
use Rattle.solo_base.specs.declared.outcome.ProgResult.{ProgResult}
use Rattle.solo_base.specs.Text.{text}
use Rattle.solo_base.specs.LineList.{AreLines}
use Rattle.pascal_mean.specs.MoreReplies.{GoesOn}
use Rattle.stack_code.specs.CodeLists.{CodeLists, IsCode}
use Rattle.stack_code.specs.Rules.{IsGood}
use Rattle.batch_program.specs.Outcome.{Work, ComesTo, lines_of, meaning_so_far}
use Rattle.batch_program.specs.RunSoFar.{run_so_far}
use Rattle.batch_program.specs.Progress.{Progress}
use Rattle.batch_program.specs.Told.{IsAt, IsTold, Tells}
use Rattle.batch_program.specs.Laws.{MeansItsSource, IsPrefix}
use Rattle.batch_program.specs.declared.told.Told.{Told}
use Rattle.batch_program.specs.declared.told.Told.TheVariants as told
use Rattle.batch_program.proofs.Bytes.{text_is_bytes}
use Rattle.batch_program.proofs.Courses.{one_outcome}
use Rattle.batch_program.proofs.Source.{reaches_meaning, meaning_goes_on}
use Rattle.batch_program.proofs.RunSoFar.{reaches_run, runs_go_further}
use Rattle.batch_program.proofs.MoreCards.{given_first}
use Rattle.code_law.specs.Compiling.{compiling, IsCodeFor}
use Rattle.code_law.specs.Texts.{result_line}
use Rattle.program_lines.specs.Task.{Source, Runs, RunsCode, Says, Task, source_of, outcome_lines, end_lines, source_lines, task_lines, new_task, with_card, at_end}
use Rattle.program_lines.specs.Standing.{IsSettled, Serves, IsUnderWay, StandsFor}
use Rattle.program_lines.specs.declared.program_lines.ProgramLines.{ProgramLines}
use Rattle.program_lines.specs.declared.program_lines.ProgramLines.TheVariants as made

-- ---- what comes of the code is what comes of its source
-- what comes of what a job has to run, with the cards so far
abbrev pub comes_of : Source → ℕ → List (List ℕ) → Bool → RunOutcome
comes_of (Runs program) limit input closed = meaning_so_far program limit input closed
comes_of (RunsCode file) limit input closed = run_so_far file limit input closed
comes_of (Says line) limit input closed = Waits []

its-lines : (name : List ℕ) (limit : ℕ) (source : Source) (code : CodeLists) (input : List (List ℕ)) (closed : Bool) → Serves code source
    → source_lines name limit source input closed ≡ outcome_lines name (comes_of source limit input closed)
its-lines name limit (Runs program) code input closed serves = refl
its-lines name limit (RunsCode file) code input closed serves = refl
its-lines name limit (Says line) code input closed serves = absurd serves

comes-so : (limit : ℕ) (source : Source) (code : CodeLists) (input : List (List ℕ)) (closed : Bool) → Serves code source → AreLines input
    → ComesTo (record { code = code; limit = limit; cards = input; closed = closed }) (comes_of source limit input closed)
comes-so limit (Runs program) code input closed means lines = reaches_meaning code program limit (text input) closed means (text_is_bytes input lines)
comes-so limit (RunsCode file) code input closed (same, is, good) lines =
    subst (λ c. ComesTo (record { code = c; limit = limit; cards = input; closed = closed }) (run_so_far file limit input closed)) (sym same)
    (reaches_run (record { code = file; limit = limit; cards = input; closed = closed }) is good lines)
comes-so limit (Says line) code input closed serves lines = absurd serves

comes-on : (limit : ℕ) (source : Source) (code : CodeLists) (input more : List (List ℕ)) (closed : Bool) → Serves code source
    → GoesOn (comes_of source limit input false) (comes_of source limit (input ++ more) closed)
comes-on limit (Runs program) code input more closed serves = meaning_goes_on program limit input more closed
comes-on limit (RunsCode file) code input more closed serves = runs_go_further file limit input more closed
comes-on limit (Says line) code input more closed serves = absurd serves

-- what is told is told of it
told-so : (w : Work) (outcome : RunOutcome) (given : List (List ℕ)) (t : Told) → ComesTo w outcome → Tells w given t → IsTold given outcome t
told-so w outcome given t comes tells =
    subst (λ o. IsTold given o t) (one_outcome w.code w.limit (text w.cards) w.closed tells.outcome outcome tells.comes comes) tells.is_told

told-end : (name : List ℕ) (given : List (List ℕ)) (outcome : RunOutcome) (how : ProgResult) (line : ℕ) → IsTold given outcome (told.Ended how line)
    → outcome_lines name outcome ≡ given ++ result_line name how line ∷ []
told-end name given (Ends r at ticks calls) how line (lines, r_is, at_is) =
    ap (λ ls. ls ++ result_line name r at ∷ []) lines
    ∙ ap (λ r. given ++ result_line name r at ∷ []) r_is
    ∙ ap (λ n. given ++ result_line name how n ∷ []) at_is
told-end name given (Waits calls) how line never = absurd never

told-waits : (name : List ℕ) (given : List (List ℕ)) (outcome : RunOutcome) → IsTold given outcome told.WaitsForCard
    → outcome_lines name outcome ≡ given
told-waits name given (Ends r at ticks calls) never = absurd never
told-waits name given (Waits calls) lines = append-nil (lines_of (Waits calls)) ∙ lines

stays-ended : (given : List (List ℕ)) (outcome later : RunOutcome) (how : ProgResult) (line : ℕ) → IsTold given outcome (told.Ended how line)
    → GoesOn outcome later → later ≡ outcome
stays-ended given (Ends r at ticks calls) later how line is goes = goes
stays-ended given (Waits calls) later how line never goes = absurd never

-- ---- a program that has ended
module _ (name : List ℕ) (r : Progress) (t : Task) (given : List (List ℕ)) (u : IsUnderWay name r t given) where
  abbrev pub work : Work
  work = record { code = u.code; limit = t.limit; cards = t.input; closed = t.closed }

  abbrev meant : RunOutcome
  meant = comes_of t.source t.limit t.input t.closed

  comes : ComesTo work meant
  comes = comes-so t.limit t.source u.code t.input t.closed u.serves u.at.cards

  pub ends-so : (how : ProgResult) (line : ℕ) → Tells work given (told.Ended how line) → IsSettled t (given ++ result_line name how line ∷ [])
  ends-so how line tells =
      let is = told-so work meant given (told.Ended how line) comes tells in
      let all : outcome_lines t.name meant ≡ given ++ result_line name how line ∷ [] =
      ap (λ n. outcome_lines n meant) u.name_is ∙ told-end name given meant how line is in
      record {
        now = its-lines t.name t.limit t.source u.code t.input t.closed u.serves ∙ all;
        later = λ is_open more closed.
            let then_is = comes_of t.source t.limit (t.input ++ more) closed in
            let goes : GoesOn meant then_is =
            subst (λ b. GoesOn (comes_of t.source t.limit t.input b) then_is) (sym is_open)
            (comes-on t.limit t.source u.code t.input more closed u.serves) in
            its-lines t.name t.limit t.source u.code (t.input ++ more) closed u.serves
            ∙ ap (outcome_lines t.name) (stays-ended given meant then_is how line is goes)
            ∙ all;
      }

  pub waits-so : Tells work given told.WaitsForCard → task_lines t ≡ given
  waits-so tells =
      let is = told-so work meant given told.WaitsForCard comes tells in
      its-lines t.name t.limit t.source u.code t.input t.closed u.serves ∙ told-waits t.name given meant is

-- ---- the same program, further on
pub goes-on : (name : List ℕ) (r now : Progress) (t : Task) (given more : List (List ℕ)) → IsUnderWay name r t given
    → ((w : Work) (given : List (List ℕ)) → IsAt r w given → IsAt now w (given ++ more))
    → IsUnderWay name now t (given ++ more)
goes-on name r now t given more u stands = record {
  name_is = u.name_is;
  code = u.code;
  serves = u.serves;
  at = stands (record { code = u.code; limit = t.limit; cards = t.input; closed = t.closed }) given u.at;
}

pub is-fed : (name : List ℕ) (r now : Progress) (t : Task) (given : List (List ℕ)) (card : List ℕ) → IsUnderWay name r t given
    → ((w : Work) (given : List (List ℕ)) → IsAt r w given → IsAt now (record w { cards = w.cards ++ card ∷ [] }) given)
    → IsUnderWay name now (with_card t card) given
is-fed name r now t given card u stands = record {
  name_is = u.name_is;
  code = u.code;
  serves = u.serves;
  at = stands (record { code = u.code; limit = t.limit; cards = t.input; closed = t.closed }) given u.at;
}

pub is-closed : (name : List ℕ) (r now : Progress) (t : Task) (given : List (List ℕ)) → IsUnderWay name r t given
    → ((w : Work) (given : List (List ℕ)) → IsAt r w given → IsAt now (record w { closed = true }) given)
    → IsUnderWay name now (at_end t) given
is-closed name r now t given u stands = record {
  name_is = u.name_is;
  code = u.code;
  serves = u.serves;
  at = stands (record { code = u.code; limit = t.limit; cards = t.input; closed = t.closed }) given u.at;
}

-- ---- all lines are known
pub settled-fed : (t : Task) (all : List (List ℕ)) (card : List ℕ) → IsSettled t all → t.closed ≡ false → IsSettled (with_card t card) all
settled-fed t all card s is_open = record {
  now = s.later is_open (card ∷ []) t.closed;
  later = λ still more closed.
      ap (λ i. source_lines t.name t.limit t.source i closed) (append_assoc t.input (card ∷ []) more)
      ∙ s.later is_open (card ∷ more) closed;
}

pub settled-closed : (t : Task) (all : List (List ℕ)) → IsSettled t all → t.closed ≡ false → IsSettled (at_end t) all
settled-closed t all s is_open = record {
  now = ap (λ i. source_lines t.name t.limit t.source i true) (sym (append-nil t.input)) ∙ s.later is_open [] true;
  later = λ never more closed. absurd cc;
}

pub says-so : (name : List ℕ) (limit : ℕ) (source : Source) (line : List ℕ) → source ≡ Says line → IsSettled (new_task name limit source) (line ∷ [])
says-so name limit source line is = record {
  now = ap (λ s. source_lines name limit s [] false) is;
  later = λ is_open more closed. ap (λ s. source_lines name limit s ([] ++ more) closed) is;
}

-- ---- before the first card
pub begins : (name : List ℕ) (limit : ℕ) (cards : List (List ℕ)) (code : CodeLists) (r : Progress) (is : IsCodeFor cards code)
    → MeansItsSource code is.program → IsAt r (record { code = code; limit = limit; cards = []; closed = false }) []
    → IsUnderWay name r (new_task name limit (source_of name (compiling cards))) []
begins name limit cards code r is means at = record {
  name_is = refl;
  code = code;
  serves = subst (λ k. Serves code (source_of name k)) (sym is.comes_to) means;
  at = at;
}

pub begins-code : (name : List ℕ) (limit : ℕ) (code : CodeLists) (r : Progress) → IsCode code → IsGood code
    → IsAt r (record { code = code; limit = limit; cards = []; closed = false }) []
    → IsUnderWay name r (new_task name limit (RunsCode code)) []
begins-code name limit code r is good at = record { name_is = refl; code = code; serves = (refl, is, good); at = at }

-- ---- what was given
-- What was given are the first of its lines.
pub given-first : (lines : ProgramLines) (t : Task) (given : List (List ℕ)) → StandsFor lines t given → IsPrefix given (task_lines t)
given-first (made.Runs name r) t given u =
    let w : Work = record { code = u.code; limit = t.limit; cards = t.input; closed = t.closed } in
    let meant = comes_of t.source t.limit t.input t.closed in
    let (rest, is) = given_first r w given meant u.at (comes-so t.limit t.source u.code t.input t.closed u.serves u.at.cards) in (
      rest ++ end_lines t.name meant,
      its-lines t.name t.limit t.source u.code t.input t.closed u.serves
          ∙ ap (λ ls. ls ++ end_lines t.name meant) is
          ∙ append_assoc given rest (end_lines t.name meant),
    )
given-first (made.Last line) t given s = (line ∷ [], s.now)
given-first made.Over t given s = ([], s.now ∙ sym (append-nil given))
