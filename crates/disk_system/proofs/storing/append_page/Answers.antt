use Rattle.std.proofs.Common.{subst}
use Rattle.disk_layout.specs.Taking.{TakesNext}
use Rattle.disk_contents.specs.Contents.{cut}
use Rattle.disk_system.proofs.Stored.{length-cut}
use Rattle.disk_system.proofs.Stores.{appends, found_in, grown, its_file, on_done, only_fault}
use Rattle.disk_system.proofs.storing.append_page.Goals as goal

pub returns-clause-appended : goal.returns-clause-appended
returns-clause-appended g c = λ others file unused h loose short room.
    grown others c.args.name.now file c.args.bytes.now c.args.k unused _ h loose short room c.append.result _ c.page_at.result.0 c.page_at.ensures
    (c.append.ensures.file h.pages (record file { pages = cut c.args.bytes.now c.args.k }) h.told
    (its_file others c.args.name.now file c.args.bytes.now c.args.k unused _ h loose short room))

pub returns-clause-fault : goal.returns-clause-fault
returns-clause-fault g c = λ others file unused h loose short room.
    only_fault c.append.result _ (appends others c.args.name.now file c.args.bytes.now c.args.k unused _ h loose short room)
    (c.append.ensures.answer h.pages h.told)

pub returns-clause-taken : goal.returns-clause-taken
returns-clause-taken g c = λ others file unused h.
    on_done c.append.result _ _ (λ t. (t.0, t.1, subst (TakesNext h.pages t.0 c.args.name.now) (length-cut c.args.bytes.now c.args.k) t.2))
    (c.append.ensures.least h.pages (record file { pages = cut c.args.bytes.now c.args.k }) h.told
    (found_in others c.args.name.now (record file { pages = cut c.args.bytes.now c.args.k }) h.pages h.files))
