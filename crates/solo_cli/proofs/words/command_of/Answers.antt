use Rattle.solo_cli.proofs.WordNumbers.{four-words}
use Rattle.std.specs.Prelude.{string_bytes}
use Rattle.solo_cli.proofs.words.command_of.Goals as goal

pub returns-in_default-2 : goal.returns-in_default-2
returns-in_default-2 c = four-words (λ word. string_bytes word) c.args.words.now c.in_default.len_at_least
