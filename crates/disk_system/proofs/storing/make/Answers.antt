use Rattle.std.proofs.Common.{◌≤◌, ◌-◌, [], false, refl, subst, arith}
use Rattle.std.specs.FinMap as fin
use Rattle.disk_layout.specs.Files.{File, files as file_map, free_count, name_count}
use Rattle.disk_files.specs.Answers.{Holds}
use Rattle.disk_layout.specs.Taking.{TakesIndex}
use Rattle.disk_contents.specs.Contents.{cut}
use Rattle.disk_system.proofs.Stores.{has_room, held_by, on_done, one_told}
use Rattle.disk_system.proofs.storing.make.Goals as goal

pub returns-in-Ok-clause-made : goal.returns-in-Ok-clause-made
returns-in-Ok-clause-made g c = λ pages told is.
    let held = (has_room (fin.get (file_map pages) c.args.name.now) (name_count pages) (free_count pages) c.args.count is).held in
    let short = (has_room (fin.get (file_map pages) c.args.name.now) (name_count pages) (free_count pages) c.args.count is).short in
    let some : 1 ≤ free_count pages = omega (arith, held) in
    let file : File = record { kind = c.args.kind; protected = false; pages = [] } in
    on_done c.append_pages.result _ _
    (subst (Holds (g.A.Area.pages c.append_pages.new.files.area) (fin.insert (file_map pages) c.args.name.now (record {
      kind =
          c.args.kind;
      protected = false;
      pages = cut c.args.bytes.now c.args.count;
    }))) (held_by (free_count pages) c.args.count some))
    (c.append_pages.ensures.appended (file_map pages) file (free_count pages - 1) (c.in-Ok.ensures.file pages told) refl short (omega (arith, held)))

pub returns-in-Ok-clause-fault : goal.returns-in-Ok-clause-fault
returns-in-Ok-clause-fault g c = λ pages told is.
    let held = (has_room (fin.get (file_map pages) c.args.name.now) (name_count pages) (free_count pages) c.args.count is).held in
    let short = (has_room (fin.get (file_map pages) c.args.name.now) (name_count pages) (free_count pages) c.args.count is).short in
    let file : File = record { kind = c.args.kind; protected = false; pages = [] } in
    c.append_pages.ensures.fault (file_map pages) file (free_count pages - 1) (c.in-Ok.ensures.file pages told) refl short (omega (arith, held))

pub returns-in-Ok-clause-taken : goal.returns-in-Ok-clause-taken
returns-in-Ok-clause-taken g c = λ pages told is.
    let room = has_room (fin.get (file_map pages) c.args.name.now) (name_count pages) (free_count pages) c.args.count is in
    let held = room.held in
    let file : File = record { kind = c.args.kind; protected = false; pages = [] } in
    let h = c.in-Ok.ensures.file pages told in
    let made = c.in-Ok.ensures.least pages told in
    on_done c.append_pages.result _ _
    (λ t. (
      t.0,
      t.1,
      record {
        between = h.pages;
        index = subst (λ b. TakesIndex pages b c.args.name.now) (one_told _ made.0 h.pages made.1 h.told) made.2;
        others = t.2;
      },
    ))
    (c.append_pages.ensures.taken (file_map pages) file (free_count pages - 1) h refl room.short (omega (arith, held)))
