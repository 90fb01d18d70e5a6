use Rattle.std.proofs.Common.{ℕ, ◌≡◌, ◌<◌, ◌==◌, ◌∙◌, ap, sym, subst, inl, inr, arith}
use Rattle.std.specs.FinMap as fin
use Rattle.disk_layout.specs.Files.{files, free_count, with_protection}
use Rattle.std.specs.Prelude.{slice_index_or, if◌then◌else◌}
use Rattle.std.proofs.Common.{set as set_at}
use Rattle.disk_layout.specs.Layout.{blank_entry}
use Rattle.disk_layout.specs.Writing.{EntryWritten}
use Rattle.disk_layout.proofs.Protected.{protected_entry}
use Rattle.disk_files.specs.Answers.{Holds, IsFileArea, StandsAt, protect_answer}
use Rattle.disk_files.proofs.Numbers.{always, on_ok, if_err, answers_ok}
use Rattle.disk_layout.proofs.Lookups.{no_file, found_file}
use Rattle.disk_layout.proofs.Grows.{the_file}
use Rattle.disk_files.proofs.AreaAfter.{area_after, protected_by, protected_kept, set_kept, set_places, holds_now, free_now, inserted_as}
use Rattle.disk_files.proofs.file_area.FileArea.protect.Goals as goal

pub returns-in-None-clause-answer : goal.returns-in-None-clause-answer
returns-in-None-clause-answer g c = λ pages told.
    let laid = c.self.invariant.laid (ap (λ v. v.sound) c.self.view_is ∙ c.requires) pages (ap (λ v. g.A.Area.pages v.area) c.self.view_is ∙ told) in
    inr (ap protect_answer (sym (no_file _ _ _ laid c.args.name.now (λ p below used e. c.in-None.ensures.none p below used (e ∙ sym c.bytes.ensures.bytes)))))

pub invariant_of-self : goal.invariant_of-self
invariant_of-self g c =
    let sound = ap (λ v. v.sound) c.self.view_is ∙ c.requires in
    let area = c.self.invariant in
    let below : c.in-Some.place < 240 = omega (arith, c.in-Some.ensures.inside, area.places) in
    let entry_is : c.set_protection-entry.result
    ≡ protected_entry (slice_index_or c.self.inside.entries c.in-Some.place blank_entry) c.protection_number.result =
    c.set_protection-entry.ensures.entry in
    subst (λ kept. IsFileArea (g.A.Area.pages c.write_entry-answer.new.area) (g.A.Area.size c.write_entry-answer.new.area) kept c.self.inside.map
    c.stays_sound-self-inside.result)
    (sym (c.set_protection-entry.ensures.set ∙ ap (set_at c.self.inside.entries c.in-Some.place) entry_is))
    (area_after _ _ _ _ _ _ _ _ _ _ c.write_entry-answer.result c.self.invariant sound c.write_entry-answer.ensures.size c.write_entry-answer.ensures.stays
    c.stays_sound-self-inside.ensures
    (set_places _ c.in-Some.place _ area.places)
    (set_kept _ c.in-Some.place _ area.places below area.entries
    (protected_kept _ c.protection_number.result c.protection_number.ensures.small (area.entries c.in-Some.place below)))
    (if_err c.write_entry-answer.result _ _ (λ fault. inl) c.write_entry-answer.ensures.fault)
    (λ pages told laid.
    on_ok c.write_entry-answer.result _ _ (λ w. (w.pages, w.told, w.laid))
    (protected_by _ _ pages laid c.in-Some.place c.protection_number.result below c.in-Some.ensures.used c.protection_number.ensures.small
    c.write_entry-answer.result _
    (on_ok c.write_entry-answer.result _ _ (λ w. (w.0, w.1, subst (EntryWritten pages w.0 c.in-Some.place) entry_is w.2))
    (c.write_entry-answer.ensures.wrote pages told laid.as_many)))))

pub returns-clause-answer : goal.returns-clause-answer
returns-clause-answer g c = λ pages told.
    let told_inside = ap (λ v. g.A.Area.pages v.area) c.self.view_is ∙ told in
    let laid = c.self.invariant.laid (ap (λ v. v.sound) c.self.view_is ∙ c.requires) pages told_inside in
    let below : c.in-Some.place < 240 = omega (arith, c.in-Some.ensures.inside, laid.places) in
    let found = found_file _ _ pages laid c.in-Some.place c.args.name.now below c.in-Some.ensures.used (c.in-Some.ensures.name ∙ c.bytes.ensures.bytes) in
    answers_ok _ _ c.write_entry-answer.ensures.fault (ap protect_answer found)

pub returns-clause-file : goal.returns-clause-file
returns-clause-file g c = λ pages file told is.
    let told_inside = ap (λ v. g.A.Area.pages v.area) c.self.view_is ∙ told in
    let laid = c.self.invariant.laid (ap (λ v. v.sound) c.self.view_is ∙ c.requires) pages told_inside in
    let below : c.in-Some.place < 240 = omega (arith, c.in-Some.ensures.inside, laid.places) in
    let named = c.in-Some.ensures.name ∙ c.bytes.ensures.bytes in
    let found = found_file _ _ pages laid c.in-Some.place c.args.name.now below c.in-Some.ensures.used named in
    on_ok c.write_entry-answer.result _ _
    (λ w. subst (λ all. Holds (g.A.Area.pages c.write_entry-answer.new.area) all (free_count pages))
    (inserted_as (files pages) _ c.args.name.now _ file (λ f. with_protection f (c.protection_number.result == 1)) named (the_file (sym found ∙ is))
    ∙ ap (λ on. fin.insert (files pages) c.args.name.now (with_protection file on)) c.protection_number.ensures.same)
    (holds_now _ _ _ _ (free_count pages) (free_now _ _ pages laid) w))
    (protected_by _ _ pages laid c.in-Some.place c.protection_number.result below c.in-Some.ensures.used c.protection_number.ensures.small
    c.write_entry-answer.result _
    (on_ok c.write_entry-answer.result _ _ (λ w. (w.0, w.1, subst (EntryWritten pages w.0 c.in-Some.place) c.set_protection-entry.ensures.entry w.2))
    (c.write_entry-answer.ensures.wrote pages told_inside laid.as_many)))

pub returns-clause-place : goal.returns-clause-place
returns-clause-place g c =
    always c.write_entry-answer.result _
    (subst (λ entries. (p : ℕ) × StandsAt entries p c.args.name.now
    × (c.set_protection-entry.new.entries ≡ set_at entries p (record (slice_index_or entries p blank_entry) { protection = if c.args.on then 1 else 0 })))
    (ap (λ v. v.entries) c.self.view_is) (
      c.in-Some.place,
      record { used = c.in-Some.ensures.used; named = c.in-Some.ensures.name ∙ c.bytes.ensures.bytes },
      c.set_protection-entry.ensures.set ∙ ap (set_at c.self.inside.entries c.in-Some.place)
          (c.set_protection-entry.ensures.entry
          ∙ ap (protected_entry (slice_index_or c.self.inside.entries c.in-Some.place blank_entry)) c.protection_number.ensures.number),
    ))

pub returns-clause-kept : goal.returns-clause-kept
returns-clause-kept g c = if_err c.write_entry-answer.result _ _ (λ fault. inl) c.write_entry-answer.ensures.fault
