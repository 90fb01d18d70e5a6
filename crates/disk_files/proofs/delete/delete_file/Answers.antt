use Rattle.std.proofs.Common.{◌∙◌, arith}
use Rattle.disk_layout.proofs.Lookups.{has_pages}
use Rattle.disk_files.proofs.Numbers.{always, on_ok}
use Rattle.disk_files.proofs.Renames.{deleted_now, key_last, key_some, searched}
use Rattle.disk_files.proofs.delete.delete_file.Goals as goal

pub clear_name-requires-clause-some : goal.clear_name-requires-clause-some
clear_name-requires-clause-some g c = key_some _ c.requires.kept c.requires.used

pub clear_name-requires-clause-last : goal.clear_name-requires-clause-last
clear_name-requires-clause-last g c = key_last _ c.requires.kept c.requires.used

pub overflow_sub-entry : goal.overflow_sub-entry
overflow_sub-entry g c = key_some _ c.requires.kept c.requires.used

pub save_entry-requires-2-clause-place : goal.save_entry-requires-2-clause-place
save_entry-requires-2-clause-place g c =
    let some = key_some _ c.requires.kept c.requires.used in let last = key_last _ c.requires.kept c.requires.used in omega (arith, some, last)

pub returns-clause-wrote : goal.returns-clause-wrote
returns-clause-wrote g c = λ pages told laid.
    let below = c.requires.place in
    let freed = c.in_ok-free_file.ensures.freed pages told (has_pages _ _ pages laid c.args.place below c.requires.used) in
    let first = c.in_ok-save_entry.ensures.wrote pages (c.in_ok-free_file.ensures.left ∙ told) laid.as_many in
    let second = c.in_ok-save_entry-2.ensures.wrote first.0 first.1 (first.2.as_many ∙ laid.as_many) in
    on_ok c.save_map.result _ _
    (λ saved. deleted_now c.args.entries.now c.args.map.now pages laid c.args.place below c.requires.used c.requires.kept _ _ _ first.0 second.0 saved.0 saved.1
    freed (c.clear_name.ensures.clears (searched c.args.entries.now c.args.map.now pages laid c.args.place below c.requires.used c.requires.kept)) first.2
    second.2 saved.2)
    (c.save_map.ensures.saved second.0 second.1 (second.2.as_many ∙ first.2.as_many ∙ laid.as_many))

pub returns-clause-cleared : goal.returns-clause-cleared
returns-clause-cleared g c = λ pages told laid.
    always c.save_map.result _
    (c.clear_name.ensures.clears (searched c.args.entries.now c.args.map.now pages laid c.args.place c.requires.place c.requires.used c.requires.kept))
