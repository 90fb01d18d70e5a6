use Rattle.pascal_read.proofs.ParseTokens.{words_behind, words_past}
use Rattle.pascal_read.proofs.parse_words.each_is_a_word.Goals as goal

pub loop-token-init : goal.loop-token-init
loop-token-init c = λ w. w

pub loop-token-preserved : goal.loop-token-preserved
loop-token-preserved c = λ w.
    c.loop-token.invariant
    (words_behind c.args.tokens.now c.loop-token.token-index c.token-item.result c.loop-token-test.true c.token-item.is
    (rw (← c.token.view_is) c.token.invariant) w)

pub returns : goal.returns
returns c = c.loop-token.invariant (words_past c.args.tokens.now c.loop-token.token-index c.loop-token-test.false c.loop-token.auto.token-index-end)
