use Rattle.std.proofs.Common.{◌≡◌, ◌∙◌, ap, sym, subst, Ok, Err}
use Rattle.std.specs.Prelude.{◌⊎◌, MatchResult}
use Rattle.std.specs.FinMap as fin
use Rattle.disk_layout.specs.Files.{files as file_map}
use Rattle.disk_contents.specs.Contents.{file_bytes}
use Rattle.disk_system.specs.Calls.{IsOutside, text_answer, text_by}
use Rattle.disk_system.proofs.Stores.{looked_up}
use Rattle.disk_system.proofs.texts.text_of.Goals as goal

pub returns-in-Ok-clause-answer : goal.returns-in-Ok-clause-answer
returns-in-Ok-clause-answer g c = λ pages told.
    let found = looked_up (fin.get (file_map pages) c.args.name.now) c.in-Ok.info (c.in-Ok.ensures.answer pages told) in
    let expected = ap (λ info. text_by info.kind (file_bytes found.0)) found.2 ∙ sym (ap text_answer found.1) in
    subst (λ x. MatchResult c.text_by.result (λ text. x ≡ Ok text.items) (λ fault. IsOutside fault ⊎ (x ≡ Err fault))) expected
    (c.text_by.ensures.answer pages found.0 (c.in-Ok.ensures.left ∙ told) found.1 (ap (λ info. info.pages) found.2))
