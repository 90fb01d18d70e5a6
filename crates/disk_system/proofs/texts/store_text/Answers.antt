use Rattle.disk_system.proofs.Stored.{text_again}
use Rattle.disk_system.proofs.texts.store_text.Goals as goal

pub returns-in-Ok-store-clause-read_again : goal.returns-in-Ok-store-clause-read_again
returns-in-Ok-store-clause-read_again g c = text_again c.args.text.now c.requires.text

pub returns-in-Ok-clause-read_again : goal.returns-in-Ok-clause-read_again
returns-in-Ok-clause-read_again g c = text_again c.args.text.now c.requires.text

pub returns-clause-read_again : goal.returns-clause-read_again
returns-clause-read_again g c = text_again c.args.text.now c.requires.text
