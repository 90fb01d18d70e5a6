use Rattle.std.proofs.Common.{drop}
use Rattle.pascal_tree.specs.Word.{AreWords}
use Rattle.pascal_read.proofs.parse_words.each_is_a_word.Given as goal

-- words from here on make all words
abbrev pub invariant-loop-token : goal.invariant-loop-token
invariant-loop-token l = AreWords (drop l.token-index l.tokens) → AreWords l.tokens
