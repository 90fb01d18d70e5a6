use Rattle.std.proofs.Common.{◌≡◌, ◌++◌, drop}
use Rattle.solo_base.specs.Text.{text}
use Rattle.disk_contents.specs.Contents.{IsText}
use Rattle.file_commands.proofs.texts.text_of_cards.Given as goal

abbrev pub invariant-loop-place : goal.invariant-loop-place
invariant-loop-place l = (l.bytes.items ++ text (drop l.place l.cards) ≡ text l.cards) × IsText l.bytes.items
