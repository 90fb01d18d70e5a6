use Rattle.std.proofs.Common.{ℕ, ◌<◌, ◌+◌, ◌∙◌, Ok, length, ap, sym, subst, inl, inr, arith}
use Rattle.std.specs.FinMap as fin
use Rattle.disk_layout.specs.Files.{files, free_count}
use Rattle.disk_layout.specs.Deleting.{pages_held}
use Rattle.disk_layout.specs.Writing.{ClearsName}
use Rattle.disk_layout.proofs.Grows.{the_file}
use Rattle.disk_layout.proofs.Lookups.{no_file, found_file}
use Rattle.disk_layout.proofs.TakenPages.{free_and_taken}
use Rattle.disk_files.specs.Answers.{Holds, StandsAt, delete_answer}
use Rattle.disk_files.proofs.Numbers.{on_ok, if_err, answers_ok}
use Rattle.disk_files.proofs.AreaAfter.{area_after, holds_now, file_length_at, kept_from, unprotected_at}
use Rattle.disk_files.proofs.file_area.FileArea.delete.Goals as goal

pub returns-in-None-clause-answer : goal.returns-in-None-clause-answer
returns-in-None-clause-answer g c = λ pages told.
    let told_inside = ap (λ v. g.A.Area.pages v.area) c.self.view_is ∙ told in
    let laid = c.self.invariant.laid (ap (λ v. v.sound) c.self.view_is ∙ c.requires) pages told_inside in
    inr (ap delete_answer (sym (no_file _ _ _ laid c.args.name.now (λ p below used e. c.in-None.ensures.none p below used (e ∙ sym c.bytes.ensures.bytes)))))

pub returns-then-entry-eq1-clause-answer : goal.returns-then-entry-eq1-clause-answer
returns-then-entry-eq1-clause-answer g c = λ pages told.
    let told_inside = ap (λ v. g.A.Area.pages v.area) c.self.view_is ∙ told in
    let laid = c.self.invariant.laid (ap (λ v. v.sound) c.self.view_is ∙ c.requires) pages told_inside in
    let below : c.in-Some.place < 240 = omega (arith, c.in-Some.ensures.inside, laid.places) in
    let named = c.in-Some.ensures.name ∙ c.bytes.ensures.bytes in
    let found = found_file _ _ pages laid c.in-Some.place c.args.name.now below c.in-Some.ensures.used named in
    inr (sym (ap delete_answer found ∙ kept_from pages _ (Ok tt) c.if-entry-eq1.true))

pub invariant_of-self : goal.invariant_of-self
invariant_of-self g c =
    area_after _ _ _ _ _ _ _ _ _ _ c.delete_file-answer.result c.self.invariant (ap (λ v. v.sound) c.self.view_is ∙ c.requires)
    c.delete_file-answer.ensures.size
    c.delete_file-answer.ensures.stays c.stays_sound-self-inside.ensures c.delete_file-answer.ensures.places
    (c.delete_file-answer.ensures.kept c.self.invariant.entries)
    (if_err c.delete_file-answer.result _ _ (λ fault. inl) c.delete_file-answer.ensures.fault)
    (λ pages told laid. on_ok c.delete_file-answer.result _ _ (λ w. (w.0.pages, w.0.told, w.0.laid)) (c.delete_file-answer.ensures.wrote pages told laid))

pub returns-clause-answer : goal.returns-clause-answer
returns-clause-answer g c = λ pages told.
    let told_inside = ap (λ v. g.A.Area.pages v.area) c.self.view_is ∙ told in
    let laid = c.self.invariant.laid (ap (λ v. v.sound) c.self.view_is ∙ c.requires) pages told_inside in
    let below : c.in-Some.place < 240 = omega (arith, c.in-Some.ensures.inside, laid.places) in
    let named = c.in-Some.ensures.name ∙ c.bytes.ensures.bytes in
    let found = found_file _ _ pages laid c.in-Some.place c.args.name.now below c.in-Some.ensures.used named in
    answers_ok _ _ c.delete_file-answer.ensures.fault (ap delete_answer found ∙ unprotected_at pages _ (Ok tt) c.if-entry-eq1.false)

pub returns-clause-file : goal.returns-clause-file
returns-clause-file g c = λ pages file told is.
    let told_inside = ap (λ v. g.A.Area.pages v.area) c.self.view_is ∙ told in
    let laid = c.self.invariant.laid (ap (λ v. v.sound) c.self.view_is ∙ c.requires) pages told_inside in
    let below : c.in-Some.place < 240 = omega (arith, c.in-Some.ensures.inside, laid.places) in
    let named = c.in-Some.ensures.name ∙ c.bytes.ensures.bytes in
    let found = found_file _ _ pages laid c.in-Some.place c.args.name.now below c.in-Some.ensures.used named in
    let count = ap pages_held (sym (file_length_at pages _) ∙ ap (λ f. length f.pages) (the_file (sym found ∙ is))) in
    on_ok c.delete_file-answer.result _ _
    (λ w. subst (λ n. Holds (g.A.Area.pages c.delete_file-answer.new.area) (fin.remove (files pages) n) (free_count pages + pages_held (length file.pages)))
    named
    (holds_now _ _ _ _ (free_count pages + pages_held (length file.pages))
    (let free = free_and_taken _ pages laid.taken laid.within in omega (arith, free, w.1, count)) w.0))
    (c.delete_file-answer.ensures.wrote pages told_inside laid)

pub returns-clause-place : goal.returns-clause-place
returns-clause-place g c = λ pages told.
    let told_inside = ap (λ v. g.A.Area.pages v.area) c.self.view_is ∙ told in
    let laid = c.self.invariant.laid (ap (λ v. v.sound) c.self.view_is ∙ c.requires) pages told_inside in
    on_ok c.delete_file-answer.result _ _
    (λ cleared. subst (λ entries. (p : ℕ) × StandsAt entries p c.args.name.now × ClearsName entries c.delete_file-answer.new.entries p)
    (ap (λ v. v.entries) c.self.view_is) (
      c.in-Some.place,
      record { used = c.in-Some.ensures.used; named = c.in-Some.ensures.name ∙ c.bytes.ensures.bytes },
      cleared,
    ))
    (c.delete_file-answer.ensures.cleared pages told_inside laid)

pub returns-clause-kept : goal.returns-clause-kept
returns-clause-kept g c = if_err c.delete_file-answer.result _ _ (λ fault. inl) c.delete_file-answer.ensures.fault
