use Rattle.std.proofs.Common.{◌<◌, ◌∙◌, ap, sym, subst, inr, arith}
use Rattle.disk_files.specs.Answers.{lookup_answer, Answers}
use Rattle.disk_files.proofs.Kept.{left_alone}
use Rattle.disk_layout.proofs.SoloDisk.{laid_out_breaks_nothing}
use Rattle.disk_layout.proofs.Lookups.{no_file, found_file, has_pages}
use Rattle.disk_files.proofs.LookupAnswers.{info_at}
use Rattle.disk_files.proofs.file_area.FileArea.lookup.Goals as goal

pub returns-in-None-clause-answer : goal.returns-in-None-clause-answer
returns-in-None-clause-answer g c = λ pages told.
    let laid = c.self.invariant.laid (ap (λ v. v.sound) c.self.view_is ∙ c.requires) pages (ap (λ v. g.A.Area.pages v.area) c.self.view_is ∙ told) in
    inr (ap lookup_answer (sym (no_file _ _ _ laid c.args.name.now (λ p below used e. c.in-None.ensures.none p below used (e ∙ sym c.bytes.ensures.bytes)))))

pub invariant_of-self : goal.invariant_of-self
invariant_of-self g c =
    left_alone _ _ _ _ _ _ _ _ c.self.invariant c.info-answer.ensures.left c.info-answer.ensures.size (ap (λ v. v.sound) c.self.view_is ∙ c.requires)

pub returns-clause-answer : goal.returns-clause-answer
returns-clause-answer g c = λ pages told.
    let told_inside = ap (λ v. g.A.Area.pages v.area) c.self.view_is ∙ told in
    let laid = c.self.invariant.laid (ap (λ v. v.sound) c.self.view_is ∙ c.requires) pages told_inside in
    let below : c.in-Some.place < 240 = omega (arith, c.in-Some.ensures.inside, laid.places) in
    let found = found_file _ _ pages laid c.in-Some.place c.args.name.now below c.in-Some.ensures.used (c.in-Some.ensures.name ∙ c.bytes.ensures.bytes) in
    let answer = c.info-answer.ensures.answer pages told_inside (has_pages _ _ pages laid c.in-Some.place below c.in-Some.ensures.used).length in
    subst (Answers c.info-answer.result) (sym (ap lookup_answer found ∙ info_at pages _)) answer

pub returns-in-None-clause-solo : goal.returns-in-None-clause-solo
returns-in-None-clause-solo g c =
    λ pages told. laid_out_breaks_nothing _ _ pages (c.self.invariant.laid (ap (λ v. v.sound) c.self.view_is
    ∙ c.requires) pages (ap (λ v. g.A.Area.pages v.area) c.self.view_is ∙ told))

pub returns-clause-solo : goal.returns-clause-solo
returns-clause-solo g c =
    λ pages told. laid_out_breaks_nothing _ _ pages (c.self.invariant.laid (ap (λ v. v.sound) c.self.view_is
    ∙ c.requires) pages (ap (λ v. g.A.Area.pages v.area) c.self.view_is ∙ told))
