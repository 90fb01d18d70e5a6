use Rattle.std.proofs.Common.{length, ◌<◌, ◌-◌, ◌∙◌, ap, sym, subst, inr, arith}
use Rattle.disk_layout.specs.Files.{files, free_count}
use Rattle.std.specs.Prelude.{slice_index_or}
use Rattle.disk_layout.specs.Layout.{blank_entry}
use Rattle.disk_layout.specs.Taking.{TakesNext}
use Rattle.disk_files.specs.Answers.{Holds, pages_needed, append_answer, append_answer_of, Answers, StandsOpen}
use Rattle.disk_files.proofs.Numbers.{on_ok, if_err}
use Rattle.disk_layout.proofs.Lookups.{no_file, found_file}
use Rattle.disk_layout.proofs.Grows.{may_grow, the_file, same_insert}
use Rattle.disk_files.proofs.AreaAfter.{append_at, protected_at, area_after, grown_by, holds_now, free_now, refused_same, file_length_at}
use Rattle.disk_files.proofs.file_area.FileArea.append.Goals as goal

pub returns-in-None-clause-answer : goal.returns-in-None-clause-answer
returns-in-None-clause-answer g c = λ pages told.
    let laid = c.self.invariant.laid (ap (λ v. v.sound) c.self.view_is ∙ c.requires) pages (ap (λ v. g.A.Area.pages v.area) c.self.view_is ∙ told) in
    inr (ap (λ f. append_answer f (free_count pages)) (sym (no_file _ _ _ laid c.args.name.now (λ p below used e. c.in-None.ensures.none p below used (e
    ∙ sym c.bytes.ensures.bytes)))))

pub returns-then-entry-eq1-clause-answer : goal.returns-then-entry-eq1-clause-answer
returns-then-entry-eq1-clause-answer g c = λ pages told.
    let told_inside = ap (λ v. g.A.Area.pages v.area) c.self.view_is ∙ told in
    let laid = c.self.invariant.laid (ap (λ v. v.sound) c.self.view_is ∙ c.requires) pages told_inside in
    let below : c.in-Some.place < 240 = omega (arith, c.in-Some.ensures.inside, laid.places) in
    let found = found_file _ _ pages laid c.in-Some.place c.args.name.now below c.in-Some.ensures.used (c.in-Some.ensures.name ∙ c.bytes.ensures.bytes) in
    inr (sym (ap (λ f. append_answer f (free_count pages)) found ∙ protected_at pages _ _ c.if-entry-eq1.true))

pub invariant_of-self : goal.invariant_of-self
invariant_of-self g c =
    let sound = ap (λ v. v.sound) c.self.view_is ∙ c.requires in
    area_after _ _ _ _ _ _ _ _ _ _ c.append_page-answer.result c.self.invariant sound c.append_page-answer.ensures.size c.append_page-answer.ensures.stays
    c.stays_sound-self-inside.ensures
    c.self.invariant.places c.self.invariant.entries
    (if_err c.append_page-answer.result _ _ (λ fault. refused_same) c.append_page-answer.ensures.refused)
    (λ pages told laid.
    let below : c.in-Some.place < 240 = omega (arith, c.in-Some.ensures.inside, laid.places) in
    let grow = may_grow _ _ pages laid c.in-Some.place below c.in-Some.ensures.used in
    on_ok c.append_page-answer.result _ _ (λ w. (w.0.pages, w.0.told, w.0.laid))
    (grown_by _ _ pages laid c.in-Some.place below c.in-Some.ensures.used c.append_page-answer.result _ _ c.args.page.now.0
    (c.append_page-answer.ensures.wrote pages told grow)))

pub returns-clause-answer : goal.returns-clause-answer
returns-clause-answer g c = λ pages told.
    let told_inside = ap (λ v. g.A.Area.pages v.area) c.self.view_is ∙ told in
    let laid = c.self.invariant.laid (ap (λ v. v.sound) c.self.view_is ∙ c.requires) pages told_inside in
    let below : c.in-Some.place < 240 = omega (arith, c.in-Some.ensures.inside, laid.places) in
    let found = found_file _ _ pages laid c.in-Some.place c.args.name.now below c.in-Some.ensures.used (c.in-Some.ensures.name ∙ c.bytes.ensures.bytes) in
    let grow = may_grow _ _ pages laid c.in-Some.place below c.in-Some.ensures.used in
    subst (Answers c.append_page-answer.result)
    (ap (append_answer_of _) (sym (free_now _ _ pages laid)) ∙ sym (append_at pages _ _ c.if-entry-eq1.false)
    ∙ ap (λ f. append_answer f (free_count pages)) (sym found))
    (c.append_page-answer.ensures.answer pages told_inside grow)

pub returns-clause-file : goal.returns-clause-file
returns-clause-file g c = λ pages file told is.
    let told_inside = ap (λ v. g.A.Area.pages v.area) c.self.view_is ∙ told in
    let laid = c.self.invariant.laid (ap (λ v. v.sound) c.self.view_is ∙ c.requires) pages told_inside in
    let below : c.in-Some.place < 240 = omega (arith, c.in-Some.ensures.inside, laid.places) in
    let named = c.in-Some.ensures.name ∙ c.bytes.ensures.bytes in
    let found = found_file _ _ pages laid c.in-Some.place c.args.name.now below c.in-Some.ensures.used named in
    let grow = may_grow _ _ pages laid c.in-Some.place below c.in-Some.ensures.used in
    let its = the_file (sym found ∙ is) in
    on_ok c.append_page-answer.result _ _
    (λ w. subst (λ all. Holds (g.A.Area.pages c.append_page-answer.new.area) all (free_count pages - pages_needed (length file.pages)))
    (same_insert (files pages) _ c.args.name.now _ file c.args.page.now.0 named its)
    (holds_now _ _ _ _ (free_count pages - pages_needed (length file.pages)) (let free =
    free_now _ _ pages laid in let count = ap (λ f. length f.pages) its in let counted = file_length_at pages _ in omega
    (arith, free, w.1, ap pages_needed (sym counted ∙ count))) w.0))
    (grown_by _ _ pages laid c.in-Some.place below c.in-Some.ensures.used c.append_page-answer.result _ _ c.args.page.now.0
    (c.append_page-answer.ensures.wrote pages told_inside grow))

pub returns-clause-least : goal.returns-clause-least
returns-clause-least g c = λ pages file told is.
    let told_inside = ap (λ v. g.A.Area.pages v.area) c.self.view_is ∙ told in
    let laid = c.self.invariant.laid (ap (λ v. v.sound) c.self.view_is ∙ c.requires) pages told_inside in
    let below : c.in-Some.place < 240 = omega (arith, c.in-Some.ensures.inside, laid.places) in
    let named = c.in-Some.ensures.name ∙ c.bytes.ensures.bytes in
    let found = found_file _ _ pages laid c.in-Some.place c.args.name.now below c.in-Some.ensures.used named in
    let grow = may_grow _ _ pages laid c.in-Some.place below c.in-Some.ensures.used in
    let count = sym (file_length_at pages _) ∙ ap (λ f. length f.pages) (the_file (sym found ∙ is)) in
    on_ok c.append_page-answer.result _ _
    (λ w. (
      w.2.0,
      w.2.1,
      subst (λ n. TakesNext pages w.2.0 n (length file.pages)) named
          (subst (TakesNext pages w.2.0 (slice_index_or c.self.inside.entries c.in-Some.place blank_entry).name) count w.2.2),
    ))
    (grown_by _ _ pages laid c.in-Some.place below c.in-Some.ensures.used c.append_page-answer.result _ _ c.args.page.now.0
    (c.append_page-answer.ensures.wrote pages told_inside grow))

-- a name that stands there is found, and not protected
pub returns-in-None-clause-open : goal.returns-in-None-clause-open
returns-in-None-clause-open g c = λ stands.
    let there = subst (λ entries. StandsOpen entries c.args.name.now) (sym (ap (λ v. v.entries) c.self.view_is)) stands in
    absurd (c.in-None.ensures.none there.place (omega (arith, there.inside, c.self.invariant.places)) there.used (there.named ∙ sym c.bytes.ensures.bytes))

pub returns-then-entry-eq1-clause-open : goal.returns-then-entry-eq1-clause-open
returns-then-entry-eq1-clause-open g c = λ stands.
    let there = subst (λ entries. StandsOpen entries c.args.name.now) (sym (ap (λ v. v.entries) c.self.view_is)) stands in
    let loose = there.unprotected c.in-Some.place (omega (arith, c.in-Some.ensures.inside, c.self.invariant.places)) c.in-Some.ensures.used
    (c.in-Some.ensures.name ∙ c.bytes.ensures.bytes) in
    absurd (omega (arith, loose, c.if-entry-eq1.true))
