use Rattle.std.proofs.Common.{rules, arith, ◌≡◌, ◌∙◌, ◌+◌, ap, sym, subst, is_ok, drop, length, Ok, List, ℕ, [], ◌∷◌, ◌++◌}
use Rattle.std.proofs.Math.Seq.{drop-length}
use Rattle.std.proofs.ResultArms.{chosen}
use Rattle.std.proofs.lemmas.Result.{err_from_is_err_and}
use Rattle.solo_base.specs.Text.{text}
use Rattle.pascal_tree.specs.declared.token.Word.TheVariants as word
use Rattle.pascal_read.specs.Scan.{Explains, words, spot, next_line}
use Rattle.pascal_read.specs.Card.{before_all, words_behind, words_of_card}
use Rattle.pascal_read.proofs.Program.{text_of_card, explained_before, before_all-Ok}
use Rattle.pascal_read.proofs.Steps.{before_all-Err}
use Rattle.pascal_read.proofs.scanner.scan.Goals as goal
use Rattle.pascal_read.proofs.scanner.scan.Goals.{After-read_card, In_ok-push}

-- the words that are left are those of this card and of the cards behind it
at_card : (c : After-read_card) → words c.args.program.now ≡ before_all c.loop-place.tokens.items (words_of_card c.loop-place.comment c.loop-place.line c.bytes.result.now (text (drop (c.loop-place.place + 1) c.args.program.now)))
at_card c =
    c.loop-place.invariant.words
    ∙ ap (λ left. before_all c.loop-place.tokens.items (words_behind c.loop-place.comment c.loop-place.line left)) (text_of_card c.args.program.now c.loop-place.place c.bytes.result.now (c.get.ensures ∙ search rules))

pub returns-in_err-comment-clause-bad_word : goal.returns-in_err-comment-clause-bad_word
returns-in_err-comment-clause-bad_word c =
    let program = c.args.program.now in
    let fault = err_from_is_err_and c.from_residual.result c.from_residual.ensures.1 in
    let why = c.in_err-comment.field-0.0 in
    rw (fault.1, fault.2)
    (subst (Explains why) (sym (at_card (goal.at.returns-in_err-comment-clause-bad_word c).After-read_card))
    (explained_before why c.loop-place.tokens.items _ (c.in_err-comment.ensures.bad (text (drop (c.loop-place.place + 1) program)))))

pub loop-place-preserved : goal.loop-place-preserved
loop-place-preserved c =
    let later = text (drop (c.loop-place.place + 1) c.args.program.now) in
    record {
      words = at_card (goal.at.loop-place-preserved c).After-read_card
          ∙ c.in_ok-comment.ensures.read.words later
          ∙ ap (λ line. before_all c.read_card.new.tokens.items (words_behind c.in_ok-comment.comment line later)) (sym c.saturating_add-line.ensures);
      line = omega arith;
    }

-- behind the last card nothing is left
none_left : (program : List (List ℕ)) (place : ℕ) → place ≡ length program → drop place program ≡ []
none_left program place end = ap (λ n. drop n program) end ∙ drop-length program

pub returns-in-Some-clause-bad_word : goal.returns-in-Some-clause-bad_word
returns-in-Some-clause-bad_word c =
    let left = none_left c.args.program.now c.loop-place.place (omega arith) in
    c.loop-place.invariant.words
    ∙ (λ i. before_all c.loop-place.tokens.items (words_behind (c.in-Some.is i) c.loop-place.line (text (left i))))
    ∙ before_all-Err c.loop-place.tokens.items c.in-Some.line

pushed_end : (c : In_ok-push) → c.push.new.self.items ≡ c.loop-place.tokens.items ++ spot word.End c.loop-place.line ∷ []
pushed_end c = chosen _ _ _ _ c.push.ensures.items (ap is_ok c.in_ok-push.was)

pub returns-clause-words : goal.returns-clause-words
returns-clause-words c =
    let left = none_left c.args.program.now c.loop-place.place (omega arith) in
    c.loop-place.invariant.words
    ∙ (λ i. before_all c.loop-place.tokens.items (words_behind (c.in_default.is i) c.loop-place.line (text (left i))))
    ∙ before_all-Ok c.loop-place.tokens.items (spot word.End c.loop-place.line ∷ [])
    ∙ ap Ok (sym (pushed_end c))

pub returns-clause-ended : goal.returns-clause-ended
returns-clause-ended c =
    let end : c.loop-place.place ≡ length c.args.program.now = omega arith in (
      c.loop-place.tokens.items,
      pushed_end c ∙ ap (λ line. c.loop-place.tokens.items ++ spot word.End line ∷ []) (c.loop-place.invariant.line ∙ ap next_line end),
    )
