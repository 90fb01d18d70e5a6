use Rattle.pascal_read.proofs.Capitals.{IsName-capitals}
use Rattle.pascal_read.proofs.scan_name.name_at.Goals as goal

pub word_named-requires : goal.word_named-requires
word_named-requires c =
    rw (c.in_capitals.ensures, c.front_letters-letters.ensures.front)
    (IsName-capitals c.args.rest.now c.requires.begun c.requires.letter c.requires.line.short)
