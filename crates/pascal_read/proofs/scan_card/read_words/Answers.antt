use Rattle.std.proofs.Common.{◌≡◌, ◌∙◌, ◌++◌, ◌∷◌, Some, None, ap, sym, subst, is_ok, arith, rules, drop, length-drop}
use Rattle.std.proofs.ResultArms.{chosen}
use Rattle.std.proofs.lemmas.List.{take_rest}
use Rattle.solo_base.specs.Line.{IsLine}
use Rattle.pascal_read.specs.Card.{before_all, behind_quote}
use Rattle.pascal_read.specs.Scan.{words_from}
use Rattle.pascal_read.proofs.Steps.{word_step, bad_step, line_drop, before_all-push, before_all-Err, before_all-from_Err}
use Rattle.pascal_read.proofs.Comments.{line_behind, behind_shorter, comment_on_card, words_behind_quote}
use Rattle.pascal_read.proofs.scan_card.read_words.Goals as goal
use Rattle.pascal_read.proofs.scan_card.read_words.Goals.{In-Some, In-None}

-- what stands behind the comment's second quote mark
behind_is : (c : In-Some) → behind_quote (drop 1 c.loop-rest.rest.now) ≡ Some c.in-Some.behind.now
behind_is c = ap behind_quote (sym (take_rest c.loop-rest.rest.now 1)) ∙ sym c.in-Some.ensures

none_behind : (c : In-None) → behind_quote (drop 1 c.loop-rest.rest.now) ≡ None
none_behind c = ap behind_quote (sym (take_rest c.loop-rest.rest.now 1)) ∙ sym c.in-None.ensures

pub loop-rest-smaller-in-Some : goal.loop-rest-smaller-in-Some
loop-rest-smaller-in-Some c =
    omega (arith, behind_shorter (drop 1 c.loop-rest.rest.now) c.in-Some.behind.now (behind_is c), length-drop 1 c.loop-rest.rest.now)

pub loop-rest-preserved-in-Some : goal.loop-rest-preserved-in-Some
loop-rest-preserved-in-Some c =
    let rest = c.loop-rest.rest.now in
    let line = c.args.line in
    record {
      line = line_behind (drop 1 rest) c.in-Some.behind.now (behind_is c) (line_drop 1 rest c.loop-rest.invariant.line);
      words = λ later.
          c.loop-rest.invariant.words later
          ∙ ap (before_all c.loop-rest.tokens.items) (comment_on_card line rest later c.loop-rest.invariant.line (omega arith) (search rules) ∙ ap (λ behind. words_behind_quote line line behind later) (behind_is c));
    }

pub returns-in-None-clause-read : goal.returns-in-None-clause-read
returns-in-None-clause-read c =
    let rest = c.loop-rest.rest.now in
    let line = c.args.line in
    record {
      words = λ later.
          c.loop-rest.invariant.words later
          ∙ ap (before_all c.loop-rest.tokens.items) (comment_on_card line rest later c.loop-rest.invariant.line (omega arith) (search rules) ∙ ap (λ behind. words_behind_quote line line behind later) (none_behind c));
    }

pub returns-in_default-2-clause-bad : goal.returns-in_default-2-clause-bad
returns-in_default-2-clause-bad c later =
    let piece = rw c.in_default-2.is at c.in_ok-found-in_default.ensures.piece in
    before_all-from_Err c.args.tokens.now.items (words_from c.args.line 0 (c.args.card.now ++ 10 ∷ later)) c.args.line
    (c.loop-rest.invariant.words later
    ∙ ap (before_all c.loop-rest.tokens.items) (bad_step c.args.line c.loop-rest.rest.now later (omega arith) (sym (piece later)))
    ∙ before_all-Err c.loop-rest.tokens.items c.args.line)

pub loop-rest-preserved : goal.loop-rest-preserved
loop-rest-preserved c =
    let rest = c.loop-rest.rest.now in
    let found = c.in-Some-2.found in
    let line = c.loop-rest.invariant.line in
    let left = take_rest rest found.length in
    let pushed = chosen _ _ _ _ c.push.ensures.items (ap is_ok c.in_ok-push-in_default.was) in
    let piece = rw c.in-Some-2.is at c.in_ok-found-in_default.ensures.piece in
    let begun = rw c.in-Some-2.is at c.in_ok-found-in_default.ensures.begun in
    let inside = rw c.in-Some-2.is at c.in_ok-found-in_default.ensures.inside in
    record {
      line = subst IsLine (sym left) (line_drop found.length rest line);
      words = λ later.
          c.loop-rest.invariant.words later
          ∙ ap (before_all c.loop-rest.tokens.items) (word_step c.args.line rest later found.word found.length line.printable begun inside (sym (piece later)))
          ∙ sym (before_all-push c.loop-rest.tokens.items _ _)
          ∙ (λ i. before_all (sym pushed i) (words_from c.args.line 0 (sym left i ++ 10 ∷ later)));
    }
