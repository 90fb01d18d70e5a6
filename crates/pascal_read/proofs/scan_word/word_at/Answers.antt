use Rattle.std.proofs.Common.{◌∙◌, ap, rules}
use Rattle.std.proofs.lemmas.List.{take_rest}
use Rattle.pascal_read.specs.Piece.{character_at}
use Rattle.pascal_read.proofs.CardEnd.{name_stands, number_stands, character_stands}
use Rattle.pascal_read.proofs.scan_word.word_at.Goals as goal

pub returns-in_ok-found-clause-piece : goal.returns-in_ok-found-clause-piece
returns-in_ok-found-clause-piece c later =
    c.in_ok-found.ensures.piece ∙ name_stands c.args.rest.now later c.requires.begun (search rules)

pub returns-then-is_ascii_digit-clause-piece : goal.returns-then-is_ascii_digit-clause-piece
returns-then-is_ascii_digit-clause-piece c later =
    c.number_at.ensures.piece ∙ number_stands c.args.rest.now later c.requires.begun (search rules) (search rules)

pub returns-then-first-eq39-clause-piece : goal.returns-then-first-eq39-clause-piece
returns-then-first-eq39-clause-piece c later =
    c.character_at.ensures.piece ∙ ap character_at (take_rest c.args.rest.now 1) ∙ character_stands c.args.rest.now later c.requires.begun (search rules)
