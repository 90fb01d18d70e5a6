use Rattle.std.proofs.Common.{◌≡◌, ◌∙◌, ℕ, ap, length, get_or, replicate}
use Rattle.std.proofs.lemmas.List.{length-replicate}
use Rattle.disk_layout.proofs.FirstPage.{zeros_at}
use Rattle.disk_files.proofs.mount.no_roles.Goals as goal

pub returns-in-Ok-clause-blank : goal.returns-in-Ok-clause-blank
returns-in-Ok-clause-blank c =
    let zeros : c.in-Ok.roles.items ≡ replicate c.args.pages 0 = c.in-Ok.ensures.items_if_clones_equal (λ y h. h) in
    (ap length zeros ∙ length-replicate {A = ℕ} c.args.pages 0, λ n. ap (λ r. get_or r n 0) zeros ∙ zeros_at c.args.pages n)
