-- How a whole program ends in the batch.
use Rattle.std.proofs.Common.{◌≡◌, ℕ, ◌+◌, ◌<◌, List, [], ◌∷◌, ◌++◌, length, get_or, drop, map, refl, sym, ◌∙◌, ap}
use Rattle.std.specs.Prelude.{flat_map}
use Rattle.solo_base.specs.declared.outcome.ProgResult.{ProgResult}
use Rattle.solo_base.specs.declared.outcome.ProgResult.TheVariants as result
use Rattle.solo_base.specs.RunOutcome.{RunOutcome, Ends, Waits}
use Rattle.solo_base.specs.Text.{text}
use Rattle.pascal_tree.specs.Statement.{body, Sequence}
use Rattle.pascal_tree.specs.Program.{Program}
use Rattle.pascal_mean.specs.Situation.{Situation, Course, Gives}
use Rattle.pascal_mean.specs.Declarations.{Declared, all_declared}
use Rattle.pascal_mean.specs.Expressions.{Setting}
use Rattle.pascal_mean.specs.Statements.{after_body, after_sequence}
use Rattle.pascal_mean.specs.Meaning.{declared_at, setting_of, called_value, outcome_of, opening, program_part, meaning_with}
use Rattle.pascal_mean.specs.Batch.{Printed, characters_of, with_character, with_characters, nothing_printed, lines_in, output_of, batch_answers, Ending, ending_of, ending_in_batch}
use Rattle.pascal_evaluate.specs.declared.run.Made.{Made}
use Rattle.pascal_evaluate.specs.declared.stop.Stop.TheVariants as stop
use Rattle.pascal_evaluate.specs.SeenStore.{seen_made}
use Rattle.pascal_evaluate.specs.Ran.{IsEnd, IsStopped}
use Rattle.pascal_evaluate.proofs.Declared.{at_place_or}

pub ends_well : (course : Course (Unit {0})) (now : Situation) → course ≡ Gives tt now → IsEnd (outcome_of course) result.Terminated now
ends_well course now is = rw is (refl, refl, refl, refl)

pub ends_badly : (course : Course (Unit {0})) (r : ProgResult) (now : Situation) → IsStopped course (stop.Over r) now → IsEnd (outcome_of course) r now
ends_badly course r now (outcome, is, ended) = rw is ended

-- the statements that were done are those of the program
pub part_is : (p : Program) (limit : ℕ) (input known : List ℕ) (all : List Declared) (c : Setting) (statements : Sequence) (first last : ℕ) (begins : Situation)
    → all ≡ all_declared p → input ≡ known → p.body ≡ body first statements last → begins ≡ opening
    → c ≡ setting_of (batch_answers input) limit (declared_at all 0) 0 (called_value (batch_answers input) limit all 63)
    → after_sequence c statements begins ≡ program_part (batch_answers known) limit (all_declared p) opening
part_is p limit input known all c statements first last begins all_is input_is body_is opens stands =
    ap (λ n. after_sequence c statements n) opens
    ∙ ap (λ e. after_sequence e statements opening) stands
    ∙ ap (λ l. after_sequence (setting_of (batch_answers input) limit (declared_at l 0) 0 (called_value
    (batch_answers input) limit l 63)) statements opening) all_is
    ∙ ap (λ i. after_sequence (setting_of (batch_answers i) limit (declared_at (all_declared p) 0) 0
    (called_value (batch_answers i) limit (all_declared p) 63)) statements opening) input_is
    ∙ ap (λ b. after_body (setting_of (batch_answers known) limit (declared_at (all_declared p) 0) 0
    (called_value (batch_answers known) limit (all_declared p) 63)) b opening) (sym body_is)

ending_is : (outcome : RunOutcome) (r : ProgResult) (now : Situation) (lines : List (List ℕ)) → IsEnd outcome r now → lines ≡ output_of now.made
    → record { result = r; line = now.line; ticks = now.ticks; output = lines } ≡ ending_of outcome
ending_is (Ends r line ticks calls) s now lines (same, line_is, ticks_is, printed) lines_are =
    let printing : List ℕ → List (List ℕ) = λ codes. lines_in (with_characters nothing_printed codes) in
    ap (λ output. let e : Ending = record { result = s; line = now.line; ticks = now.ticks; output = output } in e) (lines_are ∙ ap printing (sym printed))
    ∙ ap (λ result. let e : Ending = record { result = result; line = now.line; ticks = now.ticks; output = output_of calls } in e) (sym same)
    ∙ ap (λ line. let e : Ending = record { result = r; line = line; ticks = now.ticks; output = output_of calls } in e) (sym line_is)
    ∙ ap (λ ticks. let e : Ending = record { result = r; line = line; ticks = ticks; output = output_of calls } in e) (sym ticks_is)
ending_is (Waits calls) r now lines ended lines_are = absurd ended

pub batch_ending : (p : Program) (limit : ℕ) (cards : List (List ℕ)) (course : Course (Unit {0})) (r : ProgResult) (now : Situation) (lines : List (List ℕ))
    → course ≡ program_part (batch_answers (text cards)) limit (all_declared p) opening → IsEnd (outcome_of course) r now → lines ≡ output_of now.made
    → record { result = r; line = now.line; ticks = now.ticks; output = lines } ≡ ending_in_batch p limit cards
unfolding meaning_with
batch_ending p limit cards course r now lines is ended lines_are =
    ending_is (outcome_of course) r now lines ended lines_are ∙ ap (λ k. ending_of (outcome_of k)) is

-- ---- What is printed

characters_behind : (p : Printed) (first more : List ℕ) → with_characters p (first ++ more) ≡ with_characters (with_characters p first) more
characters_behind p [] more = refl
characters_behind p (code ∷ first) more = characters_behind (with_character p code) first more

pub printed_behind : (p q : Printed) (those : List Made) (i : ℕ) (d : Made) → i < length those
    → q ≡ with_characters p (characters_of (seen_made (get_or those i d)))
    → with_characters q (flat_map characters_of (map seen_made (drop (i + 1) those)))
    ≡ with_characters p (flat_map characters_of (map seen_made (drop i those)))
printed_behind p q those i d within is =
    let first = characters_of (seen_made (get_or those i d)) in
    let more = flat_map characters_of (map seen_made (drop (i + 1) those)) in
    ap (λ r. with_characters r more) is
    ∙ sym (characters_behind p first more)
    ∙ ap (λ calls. with_characters p (flat_map characters_of calls)) (sym (at_place_or seen_made those i d within))
