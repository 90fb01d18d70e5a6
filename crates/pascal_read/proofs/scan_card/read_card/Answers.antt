use Rattle.std.proofs.Common.{◌∙◌, ap, sym, subst}
use Rattle.std.proofs.lemmas.Result.{MatchResult-weaker}
use Rattle.pascal_read.specs.Scan.{Explains}
use Rattle.pascal_read.specs.Card.{before_all}
use Rattle.pascal_read.proofs.Comments.{line_behind, comment_ends, comment_goes_on}
use Rattle.pascal_read.proofs.scan_card.read_card.Goals as goal

pub read_words-requires-in-Some-behind_quote : goal.read_words-requires-in-Some-behind_quote
read_words-requires-in-Some-behind_quote c =
    line_behind c.args.card.now c.in-Some-behind_quote.rest.now (sym c.in-Some-behind_quote.ensures) c.requires

pub returns-in-Some-behind_quote-clause-read : goal.returns-in-Some-behind_quote-clause-read
returns-in-Some-behind_quote-clause-read c =
    MatchResult-weaker c.read_words-in-Some-behind_quote.result c.read_words-in-Some-behind_quote.ensures.read
    (λ open_comment reads. record {
      words = λ later.
          ap (before_all c.args.tokens.now.items) (comment_ends c.args.comment c.in-Some.field-0 c.args.line c.args.card.now c.in-Some-behind_quote.rest.now later c.in-Some.is (sym c.in-Some-behind_quote.ensures) c.requires)
          ∙ reads.words later;
    })
    (λ _ _. tt)

pub returns-in-Some-behind_quote-clause-bad : goal.returns-in-Some-behind_quote-clause-bad
returns-in-Some-behind_quote-clause-bad c =
    MatchResult-weaker c.read_words-in-Some-behind_quote.result c.read_words-in-Some-behind_quote.ensures.bad
    (λ _ _. tt)
    (λ fault explains later.
    subst (Explains fault) (sym (comment_ends c.args.comment c.in-Some.field-0 c.args.line c.args.card.now c.in-Some-behind_quote.rest.now later c.in-Some.is (sym c.in-Some-behind_quote.ensures) c.requires)) (explains later))

pub returns-in-None-behind_quote-clause-read : goal.returns-in-None-behind_quote-clause-read
returns-in-None-behind_quote-clause-read c = record {
  words = λ later.
      ap (before_all c.args.tokens.now.items) (comment_goes_on c.args.comment c.in-Some.field-0 c.args.line c.args.card.now later c.in-Some.is (sym c.in-None-behind_quote.ensures) c.requires);
}
