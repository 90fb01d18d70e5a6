use Rattle.std.proofs.Common.{◌<◌, ◌∙◌, ap, sym, subst, inr, arith}
use Rattle.disk_files.specs.Answers.{read_answer, Answers}
use Rattle.disk_files.proofs.Kept.{left_alone}
use Rattle.disk_layout.proofs.SoloDisk.{laid_out_breaks_nothing}
use Rattle.disk_layout.proofs.Lookups.{no_file, found_file, has_pages}
use Rattle.disk_files.proofs.LookupAnswers.{read_at, page_read}
use Rattle.disk_files.proofs.file_area.FileArea.read_page.Goals as goal

pub returns-in-None-clause-answer : goal.returns-in-None-clause-answer
returns-in-None-clause-answer g c = λ pages told.
    let laid = c.self.invariant.laid (ap (λ v. v.sound) c.self.view_is ∙ c.requires) pages (ap (λ v. g.A.Area.pages v.area) c.self.view_is ∙ told) in
    inr (ap (λ f. read_answer f c.args.n) (sym (no_file _ _ _ laid c.args.name.now (λ p below used e. c.in-None.ensures.none p below used (e
    ∙ sym c.bytes.ensures.bytes)))))

pub invariant_of-self : goal.invariant_of-self
invariant_of-self g c =
    left_alone _ _ _ _ _ _ _ _ c.self.invariant c.read_file_page-answer.ensures.left c.read_file_page-answer.ensures.size (ap (λ v. v.sound) c.self.view_is
    ∙ c.requires)

pub returns-clause-answer : goal.returns-clause-answer
returns-clause-answer g c = λ pages told.
    let told_inside = ap (λ v. g.A.Area.pages v.area) c.self.view_is ∙ told in
    let laid = c.self.invariant.laid (ap (λ v. v.sound) c.self.view_is ∙ c.requires) pages told_inside in
    let below : c.in-Some.place < 240 = omega (arith, c.in-Some.ensures.inside, laid.places) in
    let found = found_file _ _ pages laid c.in-Some.place c.args.name.now below c.in-Some.ensures.used (c.in-Some.ensures.name ∙ c.bytes.ensures.bytes) in
    let answer = c.read_file_page-answer.ensures.answer pages told_inside (has_pages _ _ pages laid c.in-Some.place below c.in-Some.ensures.used) in
    subst (Answers c.read_file_page-answer.result) (sym (ap (λ f. read_answer f c.args.n) found ∙ read_at pages _ c.args.n)) answer

pub returns-clause-page : goal.returns-clause-page
returns-clause-page g c = λ pages file told is.
    let told_inside = ap (λ v. g.A.Area.pages v.area) c.self.view_is ∙ told in
    let laid = c.self.invariant.laid (ap (λ v. v.sound) c.self.view_is ∙ c.requires) pages told_inside in
    let below : c.in-Some.place < 240 = omega (arith, c.in-Some.ensures.inside, laid.places) in
    let found = found_file _ _ pages laid c.in-Some.place c.args.name.now below c.in-Some.ensures.used (c.in-Some.ensures.name ∙ c.bytes.ensures.bytes) in
    let has = has_pages _ _ pages laid c.in-Some.place below c.in-Some.ensures.used in
    page_read pages _ file c.args.n c.read_file_page-answer.result c.read_file_page-answer.new.page.0 (sym found ∙ is)
    (c.read_file_page-answer.ensures.answer pages told_inside has) (c.read_file_page-answer.ensures.page pages told_inside has)

pub returns-in-None-clause-solo : goal.returns-in-None-clause-solo
returns-in-None-clause-solo g c =
    λ pages told. laid_out_breaks_nothing _ _ pages (c.self.invariant.laid (ap (λ v. v.sound) c.self.view_is
    ∙ c.requires) pages (ap (λ v. g.A.Area.pages v.area) c.self.view_is ∙ told))

pub returns-clause-solo : goal.returns-clause-solo
returns-clause-solo g c =
    λ pages told. laid_out_breaks_nothing _ _ pages (c.self.invariant.laid (ap (λ v. v.sound) c.self.view_is
    ∙ c.requires) pages (ap (λ v. g.A.Area.pages v.area) c.self.view_is ∙ told))
