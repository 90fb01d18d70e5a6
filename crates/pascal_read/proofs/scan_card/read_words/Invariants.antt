use Rattle.std.proofs.Common.{◌≡◌, ℕ, List, None, length}
use Rattle.solo_base.specs.Line.{IsLine}
use Rattle.pascal_read.specs.Card.{before_all, words_of_card}
use Rattle.pascal_read.proofs.scan_card.read_words.Given as goal

abbrev pub invariant-loop-rest : goal.invariant-loop-rest
invariant-loop-rest l = record {
  line : IsLine l.rest;
  words : (later : List ℕ) → before_all l.fn.tokens.items (words_of_card None l.line l.card later) ≡ before_all l.tokens.items (words_of_card None l.line l.rest later);
}

abbrev pub decreases-loop-rest : goal.decreases-loop-rest
decreases-loop-rest l = length l.rest
