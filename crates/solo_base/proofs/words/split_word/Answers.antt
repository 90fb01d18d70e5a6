use Rattle.std.proofs.Common.{◌≡◌, ◌<◌, ℕ, false, length, take, arith}
use Rattle.std.specs.Prelude.{◌==◌}
use Rattle.std.proofs.lemmas.Bool.Decides.{nat_tests}
use Rattle.solo_base.proofs.Parting.{words-first}
use Rattle.solo_base.proofs.words.split_word.Goals as goal

some_of : (n : ℕ) → false ≡ n == 0 → 0 < n
some_of n test = grind (arith, nat_tests)

pub returns-clause-word : goal.returns-clause-word
returns-clause-word c =
    let some : 0 < length c.skip_blanks-text.result.now = some_of (length c.skip_blanks-text.result.now) c.if-is_empty.ensures in
    let long : 0 < c.word_length.result = rw c.word_length.ensures.length (c.skip_blanks-text.ensures.word some) in
    let word : 0 < length (take c.word_length.result c.skip_blanks-text.result.now) =
    rw (← c.split_at.ensures.front, c.split_at.ensures.front_len) long in
    rw (c.split_at.ensures.front, c.split_at.ensures.back, ← c.skip_blanks-text.ensures.same)
    (words-first c.skip_blanks-text.result.now c.word_length.result c.word_length.ensures.length word)
