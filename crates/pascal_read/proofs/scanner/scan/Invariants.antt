use Rattle.std.proofs.Common.{◌≡◌, drop}
use Rattle.solo_base.specs.Text.{text}
use Rattle.pascal_read.specs.Scan.{words, next_line}
use Rattle.pascal_read.specs.Card.{before_all, words_behind}
use Rattle.pascal_read.proofs.scanner.scan.Given as goal

abbrev pub invariant-loop-place : goal.invariant-loop-place
invariant-loop-place l = record {
  words : words l.program ≡ before_all l.tokens.items (words_behind l.comment l.line (text (drop l.place l.program)));
  line : l.line ≡ next_line l.place;
}
