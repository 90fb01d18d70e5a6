use Rattle.std.proofs.Common.{◌∙◌}
use Rattle.solo_commands.proofs.Cutting.{words_one, words_two}
use Rattle.solo_commands.proofs.Many.{many_words}
use Rattle.solo_commands.proofs.reading.of_words.Goals as goal

pub of_one-requires : goal.of_one-requires
of_one-requires c = rw c.trim.ensures (words_one c.args.text.now c.in_default.ensures.none)

pub returns-in_default : goal.returns-in_default
returns-in_default c =
    let said = rw c.trim.ensures at c.of_one.ensures in rw (words_one c.args.text.now c.in_default.ensures.none) said

pub of_two-requires : goal.of_two-requires
of_two-requires c =
    rw (c.trim-in-None.ensures, c.trim-in-None-2.ensures)
    (words_two c.args.text.now c.in-Some.first.now c.in-Some.rest.now c.in-Some.ensures.parts c.in-None.ensures.none)

pub returns-in-Some-cut : goal.returns-in-Some-cut
returns-in-Some-cut c =
    c.program.ensures
    ∙ many_words c.args.word.now c.args.text.now c.in-Some.first.now c.in-Some.rest.now _ _ c.in-Some.ensures.parts c.in-Some-cut.ensures.parts

pub returns-in-None : goal.returns-in-None
returns-in-None c =
    let said = rw (c.trim-in-None.ensures, c.trim-in-None-2.ensures) at c.of_two.ensures in
    rw (words_two c.args.text.now c.in-Some.first.now c.in-Some.rest.now c.in-Some.ensures.parts c.in-None.ensures.none) said
