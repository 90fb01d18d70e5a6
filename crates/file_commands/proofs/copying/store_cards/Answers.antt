use Rattle.std.proofs.Common.{sym, ◌∙◌}
use Rattle.file_commands.proofs.Copies.{found-none, found-one}
use Rattle.file_commands.proofs.copying.store_cards.Goals as goal

pub returns-in-Ok-None-clause-told : goal.returns-in-Ok-None-clause-told
returns-in-Ok-None-clause-told g c = λ pages told new.
    c.store_new_text.ensures.told pages (c.find.ensures.left ∙ told) (c.find.ensures.solo pages told) new
