use Rattle.std.proofs.Common.{◌≡◌, ◌<◌, ◌∙◌, ℕ, Ok, ap, sym, subst, inl, inr, arith}
use Rattle.std.specs.FinMap as fin
use Rattle.disk_layout.specs.Files.{files, free_count}
use Rattle.disk_layout.specs.Names.{IsUsed, name_at}
use Rattle.disk_layout.specs.Writing.{IsRenamed}
use Rattle.disk_layout.proofs.Grows.{the_file}
use Rattle.disk_layout.proofs.Lookups.{no_file, found_file}
use Rattle.disk_files.specs.Answers.{Holds, rename_answer}
use Rattle.disk_files.proofs.Numbers.{on_ok, if_err, answers_ok}
use Rattle.disk_files.proofs.AreaAfter.{area_after, holds_now, free_now, kept_from, rename_at, renamed_as_told, unprotected_at}
use Rattle.disk_files.proofs.file_area.FileArea.rename.Goals as goal

pub returns-in-None-clause-answer : goal.returns-in-None-clause-answer
returns-in-None-clause-answer g c = λ pages told.
    let told_inside = ap (λ v. g.A.Area.pages v.area) c.self.view_is ∙ told in
    let laid = c.self.invariant.laid (ap (λ v. v.sound) c.self.view_is ∙ c.requires) pages told_inside in
    inr (ap (λ f. rename_answer f (fin.get (files pages) c.args.new.now))
    (sym (no_file _ _ _ laid c.args.old.now (λ p below used e. c.in-None.ensures.none p below used (e ∙ sym c.bytes.ensures.bytes)))))

pub returns-then-is_named-clause-answer : goal.returns-then-is_named-clause-answer
returns-then-is_named-clause-answer g c = λ pages told.
    let told_inside = ap (λ v. g.A.Area.pages v.area) c.self.view_is ∙ told in
    let laid = c.self.invariant.laid (ap (λ v. v.sound) c.self.view_is ∙ c.requires) pages told_inside in
    let below : c.in-Some.place < 240 = omega (arith, c.in-Some.ensures.inside, laid.places) in
    let named = c.in-Some.ensures.name ∙ c.bytes.ensures.bytes in
    let found = found_file _ _ pages laid c.in-Some.place c.args.old.now below c.in-Some.ensures.used named in
    let w = c.is_named.ensures.yes c.if-is_named.true in
    let other = found_file _ _ pages laid w.0 c.args.new.now (omega (arith, w.1, laid.places)) w.2 (w.3 ∙ c.bytes-2.ensures.bytes) in
    inr (sym (rename_at _ _ _ _ found other))

pub returns-then-entry-eq1-clause-answer : goal.returns-then-entry-eq1-clause-answer
returns-then-entry-eq1-clause-answer g c = λ pages told.
    let told_inside = ap (λ v. g.A.Area.pages v.area) c.self.view_is ∙ told in
    let laid = c.self.invariant.laid (ap (λ v. v.sound) c.self.view_is ∙ c.requires) pages told_inside in
    let below : c.in-Some.place < 240 = omega (arith, c.in-Some.ensures.inside, laid.places) in
    let named = c.in-Some.ensures.name ∙ c.bytes.ensures.bytes in
    let found = found_file _ _ pages laid c.in-Some.place c.args.old.now below c.in-Some.ensures.used named in
    let none = no_file _ _ _ laid c.args.new.now
    (λ p below used e. c.is_named.ensures.not c.if-is_named.false p below used (e ∙ sym c.bytes-2.ensures.bytes)) in
    inr (sym (rename_at _ _ _ _ found none
    ∙ kept_from pages _ (Ok tt) c.if-entry-eq1.true))

pub invariant_of-self : goal.invariant_of-self
invariant_of-self g c =
    area_after _ _ _ _ _ _ _ _ _ _ c.rename_file-answer.result c.self.invariant (ap (λ v. v.sound) c.self.view_is ∙ c.requires)
    c.rename_file-answer.ensures.size
    c.rename_file-answer.ensures.stays c.stays_sound-self-inside.ensures c.rename_file-answer.ensures.places
    (c.rename_file-answer.ensures.kept c.self.invariant.entries)
    (if_err c.rename_file-answer.result _ _ (λ fault. inl) c.rename_file-answer.ensures.fault)
    (λ pages told laid. on_ok c.rename_file-answer.result _ _ (λ w. (w.pages, w.told, w.laid))
    (c.rename_file-answer.ensures.wrote pages c.self.inside.map told laid
    (λ k inside used e. c.is_named.ensures.not c.if-is_named.false k (omega (arith, inside, laid.places)) used (e ∙ c.bytes-3.ensures.bytes
    ∙ sym c.bytes-2.ensures.bytes))))

pub returns-clause-answer : goal.returns-clause-answer
returns-clause-answer g c = λ pages told.
    let told_inside = ap (λ v. g.A.Area.pages v.area) c.self.view_is ∙ told in
    let laid = c.self.invariant.laid (ap (λ v. v.sound) c.self.view_is ∙ c.requires) pages told_inside in
    let below : c.in-Some.place < 240 = omega (arith, c.in-Some.ensures.inside, laid.places) in
    let named = c.in-Some.ensures.name ∙ c.bytes.ensures.bytes in
    let found = found_file _ _ pages laid c.in-Some.place c.args.old.now below c.in-Some.ensures.used named in
    let none = no_file _ _ _ laid c.args.new.now
    (λ p below used e. c.is_named.ensures.not c.if-is_named.false p below used (e ∙ sym c.bytes-2.ensures.bytes)) in
    answers_ok _ _ c.rename_file-answer.ensures.fault
    (rename_at _ _ _ _ found none ∙ unprotected_at pages _ (Ok tt) c.if-entry-eq1.false)

pub returns-clause-file : goal.returns-clause-file
returns-clause-file g c = λ pages file told is.
    let told_inside = ap (λ v. g.A.Area.pages v.area) c.self.view_is ∙ told in
    let laid = c.self.invariant.laid (ap (λ v. v.sound) c.self.view_is ∙ c.requires) pages told_inside in
    let below : c.in-Some.place < 240 = omega (arith, c.in-Some.ensures.inside, laid.places) in
    let named = c.in-Some.ensures.name ∙ c.bytes.ensures.bytes in
    let found = found_file _ _ pages laid c.in-Some.place c.args.old.now below c.in-Some.ensures.used named in
    on_ok c.rename_file-answer.result _ _
    (λ w. subst (λ all. Holds (g.A.Area.pages c.rename_file-answer.new.area) all (free_count pages))
    (renamed_as_told (files pages) _ c.args.old.now _ c.args.new.now _ file named c.bytes-3.ensures.bytes (the_file (sym found ∙ is)))
    (holds_now _ _ _ _ (free_count pages) (free_now _ _ pages laid) w))
    (c.rename_file-answer.ensures.wrote pages c.self.inside.map told_inside laid
    (λ k inside used e. c.is_named.ensures.not c.if-is_named.false k (omega (arith, inside, laid.places)) used (e ∙ c.bytes-3.ensures.bytes
    ∙ sym c.bytes-2.ensures.bytes)))

pub returns-clause-place : goal.returns-clause-place
returns-clause-place g c = λ pages told.
    let told_inside = ap (λ v. g.A.Area.pages v.area) c.self.view_is ∙ told in
    let laid = c.self.invariant.laid (ap (λ v. v.sound) c.self.view_is ∙ c.requires) pages told_inside in
    on_ok c.rename_file-answer.result _ _
    (λ renamed. subst (λ entries. (p : ℕ) × IsUsed entries p × (name_at entries p ≡ c.args.old.now)
    × IsRenamed entries c.rename_file-answer.new.entries p c.args.new.now)
    (ap (λ v. v.entries) c.self.view_is) (
      c.in-Some.place,
      c.in-Some.ensures.used,
      c.in-Some.ensures.name ∙ c.bytes.ensures.bytes,
      subst (IsRenamed c.self.inside.entries c.rename_file-answer.new.entries c.in-Some.place) c.bytes-3.ensures.bytes renamed,
    ))
    (c.rename_file-answer.ensures.renamed pages c.self.inside.map told_inside laid)

pub returns-clause-kept : goal.returns-clause-kept
returns-clause-kept g c = if_err c.rename_file-answer.result _ _ (λ fault. inl) c.rename_file-answer.ensures.fault
