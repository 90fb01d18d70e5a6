-- The lines of a whole run: those that a program gave, card by card, and the fault behind them.
use Rattle.std.proofs.Common.{◌≡◌, ℕ, true, false, List, [], ◌∷◌, ◌++◌, Option, Some, None, refl, sym, ◌∙◌, ap, subst, append_assoc}
use Rattle.std.specs.Prelude.{if◌then◌else◌, Result, Ok, Err, OnOk}
use Rattle.std.proofs.lemmas.List.{append-nil}
use Rattle.deck_format.specs.declared.job.CardFault.{CardFault}
use Rattle.program_lines.specs.Task.{Task, Source, program_lines, task_lines, with_more, with_card, at_end}
use Rattle.program_lines.specs.Standing.{StandsFor}
use Rattle.program_lines.specs.declared.program_lines.ProgramLines.{ProgramLines}
use Rattle.batch_job.specs.Report.{fault_line, run_lines}
use Rattle.batch_job.specs.LinesSoFar.{fault_so_far}
use Rattle.batch_job.specs.Places.{Gave, Made, is_run}

pub gave-none : (t : Task) (given before : List (List ℕ)) (lines : ProgramLines) → StandsFor lines t given → Gave t given before before lines
gave-none t given before lines stands = record {
  more = [];
  pushed = sym (append-nil before);
  stands = subst (λ ls. StandsFor lines t ls) (sym (append-nil given)) stands;
}

pub gave-more : (t : Task) (given before middle after : List (List ℕ)) (lines now : ProgramLines) (line : List ℕ)
    → Gave t given before middle lines → after ≡ middle ++ line ∷ []
    → ((t : Task) (given : List (List ℕ)) → StandsFor lines t given → StandsFor now t (given ++ line ∷ []))
    → Gave t given before after now
gave-more t given before middle after lines now line gave pushed stands = record {
  more = gave.more ++ line ∷ [];
  pushed = pushed ∙ ap (λ ls. ls ++ line ∷ []) gave.pushed ∙ append_assoc before gave.more (line ∷ []);
  stands = subst (λ ls. StandsFor now t ls) (append_assoc given gave.more (line ∷ [])) (stands t (given ++ gave.more) gave.stands);
}

pub made-all : (t : Task) (given before after : List (List ℕ)) (lines now : ProgramLines) → Gave t given before after lines
    → ((t : Task) (given : List (List ℕ)) → StandsFor lines t given → StandsFor now t (given ++ []))
    → ((t : Task) (given : List (List ℕ)) → StandsFor lines t given → task_lines t ≡ given) → Made t given before after now
made-all t given before after lines now gave stands all = record {
  gave = record {
    more = gave.more;
    pushed = gave.pushed;
    stands = subst (λ ls. StandsFor now t ls) (append-nil (given ++ gave.more)) (stands t (given ++ gave.more) gave.stands);
  };
  all = all t (given ++ gave.more) gave.stands;
}

-- ---- card by card
pub run-begins : (t : Task) (before : List (List ℕ)) (lines : ProgramLines) → StandsFor lines t [] → t.closed ≡ false
    → Gave (with_more t [] false) [] before before lines
run-begins t before lines stands is_open =
    let same : t ≡ with_more t [] false =
    ap (λ i. record t { input = i }) (sym (append-nil t.input)) ∙ ap (λ c. record t { input = t.input ++ []; closed = c }) is_open in
    gave-none (with_more t [] false) [] before lines (subst (λ u. StandsFor lines u []) same stands)

pub run-fed : (t : Task) (before middle after some more : List (List ℕ)) (card : List ℕ) (lines made now : ProgramLines) → some ++ card ∷ [] ≡ more
    → Gave (with_more t some false) [] before middle lines
    → ((t : Task) (given : List (List ℕ)) → StandsFor lines t given → Made t given middle after made)
    → ((t : Task) (given : List (List ℕ)) → StandsFor made t given → t.closed ≡ false → StandsFor now (with_card t card) given)
    → Gave (with_more t more false) [] before after now
run-fed t before middle after some more card lines made now next gave makes feeds =
    let then_is = makes (with_more t some false) gave.more gave.stands in
    let fed = feeds (with_more t some false) (gave.more ++ then_is.gave.more) then_is.gave.stands refl in
    let same : (t.input ++ some) ++ card ∷ [] ≡ t.input ++ more = append_assoc t.input some (card ∷ []) ∙ ap (λ ls. t.input ++ ls) next in
    record {
      more = gave.more ++ then_is.gave.more;
      pushed = then_is.gave.pushed ∙ ap (λ ls. ls ++ then_is.gave.more) gave.pushed ∙ append_assoc before gave.more then_is.gave.more;
      stands = subst (λ i. StandsFor now (record t { input = i; closed = false }) (gave.more ++ then_is.gave.more)) same fed;
    }

pub run-ends : (t : Task) (before middle after all : List (List ℕ)) (lines closed made : ProgramLines)
    → Gave (with_more t all false) [] before middle lines
    → ((t : Task) (given : List (List ℕ)) → StandsFor lines t given → t.closed ≡ false → StandsFor closed (at_end t) given)
    → ((t : Task) (given : List (List ℕ)) → StandsFor closed t given → Made t given middle after made)
    → after ≡ before ++ task_lines (with_more t all true)
run-ends t before middle after all lines closed made gave closes makes =
    let then_is = makes (with_more t all true) gave.more (closes (with_more t all false) gave.more gave.stands refl) in
    then_is.gave.pushed
    ∙ ap (λ ls. ls ++ then_is.gave.more) gave.pushed
    ∙ append_assoc before gave.more then_is.gave.more
    ∙ ap (λ ls. before ++ ls) (sym then_is.all)

-- ---- the fault behind them
pub run-whole : (name : List ℕ) (limit : ℕ) (source : Source) (input before : List (List ℕ)) (fault : Option CardFault) → is_run fault ≡ true
    → (before ++ program_lines name limit source input) ++ fault_so_far name fault ≡ before ++ run_lines name limit source input fault
run-whole name limit source input before None is = append-nil (before ++ program_lines name limit source input)
run-whole name limit source input before (Some fault) is =
    append_assoc before (program_lines name limit source input) (fault_line name fault ∷ [])
    ∙ ap (λ t. before ++ (if t then program_lines name limit source input ++ fault_line name fault ∷ [] else fault_line name fault ∷ [])) (sym is)

pub fault-alone : (name : List ℕ) (limit : ℕ) (source : Source) (input before : List (List ℕ)) (fault : Option CardFault) → is_run fault ≡ false
    → before ++ fault_so_far name fault ≡ before ++ run_lines name limit source input fault
fault-alone name limit source input before None is = absurd cc
fault-alone name limit source input before (Some fault) is =
    ap (λ t. before ++ (if t then program_lines name limit source input ++ fault_line name fault ∷ [] else fault_line name fault ∷ [])) (sym is)

pub on-ok : {E : Type 0} (r : Result (Unit {0}) E) (P Q : Type 0) → (P → Q) → OnOk r P → OnOk r Q
on-ok (Ok x) P Q each is = each is
on-ok (Err e) P Q each is = tt
