use Rattle.std.proofs.Common.{false, [], ◌<◌, ◌-◌, ◌∙◌, ap, sym, subst, inl, inr, arith}
use Rattle.std.specs.FinMap as fin
use Rattle.disk_layout.specs.Files.{files, free_count, name_count}
use Rattle.disk_layout.specs.Format.{key_of}
use Rattle.disk_layout.specs.Writing.{IsFirstEmpty}
use Rattle.disk_layout.specs.Taking.{TakesIndex}
use Rattle.disk_files.specs.Answers.{Holds, StandsOpen, create_answer, PutsFile}
use Rattle.disk_files.proofs.Numbers.{on_ok, if_err, answers_ok}
use Rattle.disk_layout.proofs.Lookups.{no_file, found_file}
use Rattle.disk_files.proofs.AreaAfter.{area_after, holds_now, free_now}
use Rattle.disk_files.proofs.Creates.{all_named, one_unnamed, full_answer, no_room_answer, done_answer}
use Rattle.disk_files.proofs.file_area.FileArea.create.Goals as goal

pub returns-then-is_named-clause-answer : goal.returns-then-is_named-clause-answer
returns-then-is_named-clause-answer g c = λ pages told.
    let laid = c.self.invariant.laid (ap (λ v. v.sound) c.self.view_is ∙ c.requires) pages (ap (λ v. g.A.Area.pages v.area) c.self.view_is ∙ told) in
    let w = c.is_named.ensures.yes c.if-is_named.true in
    let below : w.0 < 240 = omega (arith, w.1, laid.places) in
    inr (sym (ap (λ f. create_answer f (name_count pages) (free_count pages)) (found_file _ _ pages laid w.0 c.args.name.now below w.2 (w.3
    ∙ c.bytes.ensures.bytes))))

pub returns-in-None-clause-answer : goal.returns-in-None-clause-answer
returns-in-None-clause-answer g c = λ pages told.
    let laid = c.self.invariant.laid (ap (λ v. v.sound) c.self.view_is ∙ c.requires) pages (ap (λ v. g.A.Area.pages v.area) c.self.view_is ∙ told) in
    let none = no_file _ _ _ laid c.args.name.now (λ p below used e. c.is_named.ensures.not c.if-is_named.false p below used (e ∙ sym c.bytes.ensures.bytes)) in
    inr (sym (ap (λ f. create_answer f (name_count pages) (free_count pages)) none
    ∙ full_answer (name_count pages) (free_count pages) (all_named _ _ pages laid c.in-None.ensures.none)))

pub returns-then-free-eq0-clause-answer : goal.returns-then-free-eq0-clause-answer
returns-then-free-eq0-clause-answer g c = λ pages told.
    let laid = c.self.invariant.laid (ap (λ v. v.sound) c.self.view_is ∙ c.requires) pages (ap (λ v. g.A.Area.pages v.area) c.self.view_is ∙ told) in
    let none = no_file _ _ _ laid c.args.name.now (λ p below used e. c.is_named.ensures.not c.if-is_named.false p below used (e ∙ sym c.bytes.ensures.bytes)) in
    let below : c.in-Some.place < 240 = omega (arith, c.in-Some.ensures.inside, laid.places) in
    let free = free_now _ _ pages laid in
    inr (sym (ap (λ f. create_answer f (name_count pages) (free_count pages)) none
    ∙ no_room_answer (name_count pages) (free_count pages) (one_unnamed _ _ pages c.in-Some.place laid below c.in-Some.ensures.first.empty)
    (omega (arith, free, c.free.ensures, c.if-free-eq0.true))))

pub invariant_of-self : goal.invariant_of-self
invariant_of-self g c =
    let area = c.self.invariant in
    let below : c.in-Some.place < 240 = omega (arith, c.in-Some.ensures.inside, area.places) in
    area_after _ _ _ _ _ _ _ _ _ _ c.create_file-answer.result c.self.invariant (ap (λ v. v.sound) c.self.view_is
    ∙ c.requires) c.create_file-answer.ensures.size c.create_file-answer.ensures.stays
    c.stays_sound-self-inside.ensures c.create_file-answer.ensures.places (c.create_file-answer.ensures.kept area.entries)
    (if_err c.create_file-answer.result _ _ (λ fault. inl) c.create_file-answer.ensures.fault)
    (λ pages told laid. on_ok c.create_file-answer.result _ _ (λ w. (w.0.pages, w.0.told, w.0.laid))
    (c.create_file-answer.ensures.wrote pages told laid c.in-Some.ensures.first.empty
    (λ k inside used e. c.is_named.ensures.not c.if-is_named.false k (omega (arith, inside, area.places)) used (e ∙ c.bytes-3.ensures.bytes
    ∙ sym c.bytes.ensures.bytes))))

pub returns-clause-answer : goal.returns-clause-answer
returns-clause-answer g c = λ pages told.
    let laid = c.self.invariant.laid (ap (λ v. v.sound) c.self.view_is ∙ c.requires) pages (ap (λ v. g.A.Area.pages v.area) c.self.view_is ∙ told) in
    let none = no_file _ _ _ laid c.args.name.now (λ p below used e. c.is_named.ensures.not c.if-is_named.false p below used (e ∙ sym c.bytes.ensures.bytes)) in
    let below : c.in-Some.place < 240 = omega (arith, c.in-Some.ensures.inside, laid.places) in
    let free = free_now _ _ pages laid in
    answers_ok _ _ c.create_file-answer.ensures.fault (ap (λ f. create_answer f (name_count pages) (free_count pages)) none
    ∙ done_answer (name_count pages) (free_count pages) (one_unnamed _ _ pages c.in-Some.place laid below c.in-Some.ensures.first.empty)
    (λ e. c.if-free-eq0.false (omega (arith, free, c.free.ensures, e))))

pub returns-clause-file : goal.returns-clause-file
returns-clause-file g c = λ pages told.
    let told_inside = ap (λ v. g.A.Area.pages v.area) c.self.view_is ∙ told in
    let laid = c.self.invariant.laid (ap (λ v. v.sound) c.self.view_is ∙ c.requires) pages told_inside in
    let free = free_now _ _ pages laid in
    on_ok c.create_file-answer.result _ _
    (λ w. subst (λ n. Holds (g.A.Area.pages c.create_file-answer.new.area) (fin.insert (files pages) n (record {
      kind =
          c.args.kind;
      protected = false;
      pages = [];
    })) (free_count pages - 1))
    c.bytes-3.ensures.bytes (holds_now _ _ _ _ (free_count pages - 1) (omega (arith, free, w.1)) w.0))
    (c.create_file-answer.ensures.wrote pages told_inside laid c.in-Some.ensures.first.empty
    (λ k inside used e. c.is_named.ensures.not c.if-is_named.false k (omega (arith, inside, laid.places)) used (e ∙ c.bytes-3.ensures.bytes
    ∙ sym c.bytes.ensures.bytes)))

pub returns-clause-place : goal.returns-clause-place
returns-clause-place g c =
    on_ok c.create_file-answer.result _ _
    (λ named. (c.in-Some.place, first_of_view, named ∙ c.bytes-3.ensures.bytes))
    c.create_file-answer.ensures.named
  where
    first_of_view : IsFirstEmpty c.args.self.now.entries (key_of c.args.name.now - 1) c.in-Some.place
    first_of_view = subst (λ entries. IsFirstEmpty entries (key_of c.args.name.now - 1) c.in-Some.place) (ap (λ v. v.entries) c.self.view_is)
        (subst (λ from. IsFirstEmpty c.self.inside.entries from c.in-Some.place) (ap (λ n. n - 1) (c.key_of.ensures.key ∙ ap key_of c.bytes-2.ensures.bytes))
        c.in-Some.ensures.first)

pub returns-clause-least : goal.returns-clause-least
returns-clause-least g c = λ pages told.
    let told_inside = ap (λ v. g.A.Area.pages v.area) c.self.view_is ∙ told in
    let laid = c.self.invariant.laid (ap (λ v. v.sound) c.self.view_is ∙ c.requires) pages told_inside in
    on_ok c.create_file-answer.result _ _
    (λ w. (w.2.0, w.2.1, subst (TakesIndex pages w.2.0) c.bytes-3.ensures.bytes w.2.2))
    (c.create_file-answer.ensures.wrote pages told_inside laid c.in-Some.ensures.first.empty
    (λ k inside used e. c.is_named.ensures.not c.if-is_named.false k (omega (arith, inside, laid.places)) used (e ∙ c.bytes-3.ensures.bytes
    ∙ sym c.bytes.ensures.bytes)))

pub returns-clause-open : goal.returns-clause-open
returns-clause-open g c =
    on_ok c.create_file-answer.result _ _ (subst (StandsOpen c.create_file-answer.new.entries) c.bytes-3.ensures.bytes)
    (c.create_file-answer.ensures.open
    (λ k inside used e. c.is_named.ensures.not c.if-is_named.false k (omega (arith, inside, c.self.invariant.places)) used (e ∙ c.bytes-3.ensures.bytes
    ∙ sym c.bytes.ensures.bytes)))

pub returns-clause-puts : goal.returns-clause-puts
returns-clause-puts g c =
    on_ok c.create_file-answer.result _ _
    (λ put. (
      c.in-Some.place,
      first_of_view,
      subst (PutsFile c.args.self.now.entries c.create_file-answer.new.entries c.in-Some.place) c.bytes-3.ensures.bytes
          (subst (λ entries. PutsFile entries c.create_file-answer.new.entries c.in-Some.place c.bytes-3.result) (ap (λ v. v.entries) c.self.view_is) put),
    ))
    c.create_file-answer.ensures.puts
  where
    first_of_view : IsFirstEmpty c.args.self.now.entries (key_of c.args.name.now - 1) c.in-Some.place
    first_of_view = subst (λ entries. IsFirstEmpty entries (key_of c.args.name.now - 1) c.in-Some.place) (ap (λ v. v.entries) c.self.view_is)
        (subst (λ from. IsFirstEmpty c.self.inside.entries from c.in-Some.place) (ap (λ n. n - 1) (c.key_of.ensures.key ∙ ap key_of c.bytes-2.ensures.bytes))
        c.in-Some.ensures.first)

pub returns-clause-kept : goal.returns-clause-kept
returns-clause-kept g c = if_err c.create_file-answer.result _ _ (λ fault. inl) c.create_file-answer.ensures.fault
