use Rattle.std.proofs.Common.{◌≡◌, drop, map}
use Rattle.std.specs.Prelude.{flat_map}
use Rattle.pascal_mean.specs.Batch.{with_characters, nothing_printed, characters_of}
use Rattle.pascal_evaluate.specs.SeenStore.{seen_made}
use Rattle.pascal_evaluate.proofs.program.printed.Given as goal

abbrev pub invariant-loop-place : goal.invariant-loop-place
invariant-loop-place l =
    with_characters l.output (flat_map characters_of (map seen_made (drop l.place l.made)))
    ≡ with_characters nothing_printed (flat_map characters_of (map seen_made l.made))
