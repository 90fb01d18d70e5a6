use Rattle.std.proofs.Common.{◌<◌, ◌∙◌, ap, sym, subst, inr, arith}
use Rattle.disk_layout.specs.Files.{files, free_count, with_page_at}
use Rattle.disk_files.specs.Answers.{Answers, Holds, replace_answer}
use Rattle.disk_files.proofs.Numbers.{on_ok, if_err}
use Rattle.disk_layout.proofs.Lookups.{no_file, found_file, has_pages}
use Rattle.disk_layout.proofs.Grows.{the_file}
use Rattle.disk_files.proofs.AreaAfter.{area_after, index_named, replaced_by, holds_now, free_now, refused_left, unprotected_at, kept_from, range_at, inserted_as}
use Rattle.std.specs.Prelude.{slice_index_or}
use Rattle.disk_layout.specs.Layout.{blank_entry}
use Rattle.disk_files.proofs.file_area.FileArea.replace.Goals as goal

pub returns-in-None-clause-answer : goal.returns-in-None-clause-answer
returns-in-None-clause-answer g c = λ pages told.
    let laid = c.self.invariant.laid (ap (λ v. v.sound) c.self.view_is ∙ c.requires) pages (ap (λ v. g.A.Area.pages v.area) c.self.view_is ∙ told) in
    inr (ap (λ f. replace_answer f c.args.n) (sym (no_file _ _ _ laid c.args.name.now (λ p below used e. c.in-None.ensures.none p below used (e
    ∙ sym c.bytes.ensures.bytes)))))

pub returns-then-file-eq1-clause-answer : goal.returns-then-file-eq1-clause-answer
returns-then-file-eq1-clause-answer g c = λ pages told.
    let told_inside = ap (λ v. g.A.Area.pages v.area) c.self.view_is ∙ told in
    let laid = c.self.invariant.laid (ap (λ v. v.sound) c.self.view_is ∙ c.requires) pages told_inside in
    let below : c.in-Some.place < 240 = omega (arith, c.in-Some.ensures.inside, laid.places) in
    let found = found_file _ _ pages laid c.in-Some.place c.args.name.now below c.in-Some.ensures.used (c.in-Some.ensures.name ∙ c.bytes.ensures.bytes) in
    inr (sym (ap (λ f. replace_answer f c.args.n) found ∙ kept_from pages _ _ c.if-file-eq1.true))

pub invariant_of-self : goal.invariant_of-self
invariant_of-self g c =
    let sound = ap (λ v. v.sound) c.self.view_is ∙ c.requires in
    area_after _ _ _ _ _ _ _ _ _ _ c.replace_page-answer.result c.self.invariant sound c.replace_page-answer.ensures.size c.replace_page-answer.ensures.stays
    c.stays_sound-self-inside.ensures
    c.self.invariant.places c.self.invariant.entries
    (if_err c.replace_page-answer.result _ _ (λ fault. refused_left) c.replace_page-answer.ensures.refused)
    (λ pages told laid.
    let below : c.in-Some.place < 240 = omega (arith, c.in-Some.ensures.inside, laid.places) in
    on_ok c.replace_page-answer.result _ _ (λ w. (w.pages, w.told, w.laid))
    (replaced_by _ _ pages laid c.in-Some.place c.args.n below c.in-Some.ensures.used c.replace_page-answer.result _ c.args.page.now.0
    (c.replace_page-answer.ensures.wrote pages told (has_pages _ _ pages laid c.in-Some.place below c.in-Some.ensures.used))))

pub returns-clause-answer : goal.returns-clause-answer
returns-clause-answer g c = λ pages told.
    let told_inside = ap (λ v. g.A.Area.pages v.area) c.self.view_is ∙ told in
    let laid = c.self.invariant.laid (ap (λ v. v.sound) c.self.view_is ∙ c.requires) pages told_inside in
    let below : c.in-Some.place < 240 = omega (arith, c.in-Some.ensures.inside, laid.places) in
    let found = found_file _ _ pages laid c.in-Some.place c.args.name.now below c.in-Some.ensures.used (c.in-Some.ensures.name ∙ c.bytes.ensures.bytes) in
    subst (Answers c.replace_page-answer.result)
    (sym (ap (λ f. replace_answer f c.args.n) found ∙ unprotected_at pages _ _ c.if-file-eq1.false ∙ range_at pages _ c.args.n))
    (c.replace_page-answer.ensures.answer pages told_inside (has_pages _ _ pages laid c.in-Some.place below c.in-Some.ensures.used))

pub returns-clause-file : goal.returns-clause-file
returns-clause-file g c = λ pages file told is.
    let told_inside = ap (λ v. g.A.Area.pages v.area) c.self.view_is ∙ told in
    let laid = c.self.invariant.laid (ap (λ v. v.sound) c.self.view_is ∙ c.requires) pages told_inside in
    let below : c.in-Some.place < 240 = omega (arith, c.in-Some.ensures.inside, laid.places) in
    let named = c.in-Some.ensures.name ∙ c.bytes.ensures.bytes in
    let found = found_file _ _ pages laid c.in-Some.place c.args.name.now below c.in-Some.ensures.used named in
    let its = the_file (sym found ∙ is) in
    on_ok c.replace_page-answer.result _ _
    (λ w. subst (λ all. Holds (g.A.Area.pages c.replace_page-answer.new.area) all (free_count pages))
    (inserted_as (files pages) _ c.args.name.now _ file (λ f. with_page_at f c.args.n c.args.page.now.0) named its)
    (holds_now _ _ _ _ (free_count pages) (free_now _ _ pages laid) w))
    (replaced_by _ _ pages laid c.in-Some.place c.args.n below c.in-Some.ensures.used c.replace_page-answer.result _ c.args.page.now.0
    (c.replace_page-answer.ensures.wrote pages told_inside (has_pages _ _ pages laid c.in-Some.place below c.in-Some.ensures.used)))

pub returns-clause-place : goal.returns-clause-place
returns-clause-place g c = λ pages told.
    let told_inside = ap (λ v. g.A.Area.pages v.area) c.self.view_is ∙ told in
    let laid = c.self.invariant.laid (ap (λ v. v.sound) c.self.view_is ∙ c.requires) pages told_inside in
    let below : c.in-Some.place < 240 = omega (arith, c.in-Some.ensures.inside, laid.places) in
    let named = c.in-Some.ensures.name ∙ c.bytes.ensures.bytes in
    on_ok c.replace_page-answer.result _ _
    (λ w. (
      (slice_index_or c.self.inside.entries c.in-Some.place blank_entry).address,
      index_named _ _ pages laid c.in-Some.place below c.in-Some.ensures.used c.args.name.now named,
      w.1,
    ))
    (c.replace_page-answer.ensures.wrote pages told_inside (has_pages _ _ pages laid c.in-Some.place below c.in-Some.ensures.used))

pub returns-clause-kept : goal.returns-clause-kept
returns-clause-kept g c = record { entries = ap (λ v. v.entries) c.self.view_is; taken = ap (λ v. v.taken) c.self.view_is }
