use Rattle.std.proofs.Common.{◌<◌, refl, arith}
use Rattle.std.proofs.lemmas.List.Elements.{All-replicate}
use Rattle.code_tests.proofs.desk_runs.counting_page.Goals as goal

pub loop-k-init : goal.loop-k-init
loop-k-init c = (refl, All-replicate (λ byte. byte < 256) 512 0 (omega arith))
