use Rattle.std.proofs.Common.{◌∙◌, drop, arith}
use Rattle.pascal_read.proofs.CardEnd.{symbol_alone, symbol_pair, ended}
use Rattle.pascal_read.proofs.scan_symbol.symbol_at.Goals as goal

pub returns-in-len1-clause-piece : goal.returns-in-len1-clause-piece
returns-in-len1-clause-piece c later =
    c.symbol_of.ensures.piece later ∙ symbol_alone c.args.rest.now later (omega arith) (omega arith)

pub returns-in-len2-up-clause-piece : goal.returns-in-len2-up-clause-piece
returns-in-len2-up-clause-piece c later =
    c.symbol_of-in-len2-up.ensures.piece (ended (drop 2 c.args.rest.now) later) ∙ symbol_pair c.args.rest.now later (omega arith)
