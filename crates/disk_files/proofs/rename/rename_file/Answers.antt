use Rattle.std.proofs.Common.{◌∙◌, ◌-◌, subst, arith}
use Rattle.disk_layout.specs.Writing.{IsFirstEmpty}
use Rattle.disk_files.proofs.Numbers.{on_ok}
use Rattle.disk_files.proofs.Renames.{key_last, key_some, searched, renamed_as, renamed_kept, renamed_now}
use Rattle.disk_files.proofs.rename.rename_file.Goals as goal

pub clear_name-requires-clause-some : goal.clear_name-requires-clause-some
clear_name-requires-clause-some g c = key_some _ c.requires.kept c.requires.used

pub clear_name-requires-clause-last : goal.clear_name-requires-clause-last
clear_name-requires-clause-last g c = key_last _ c.requires.kept c.requires.used

pub overflow_sub-old : goal.overflow_sub-old
overflow_sub-old g c = key_some _ c.requires.kept c.requires.used

pub save_entry-requires-2-clause-place : goal.save_entry-requires-2-clause-place
save_entry-requires-2-clause-place g c =
    let some = key_some _ c.requires.kept c.requires.used in let last = key_last _ c.requires.kept c.requires.used in omega (arith, some, last)

pub returns-in_err-save_entry-clause-kept : goal.returns-in_err-save_entry-clause-kept
returns-in_err-save_entry-clause-kept g c = λ all.
    c.put_name.ensures.kept (c.clear_name.ensures.kept all)
    (renamed_kept _ c.args.name c.key_of-key.result c.requires.kept c.requires.used c.requires.ident c.key_of-key.ensures.key)

pub returns-in_err-save_entry-2-clause-kept : goal.returns-in_err-save_entry-2-clause-kept
returns-in_err-save_entry-2-clause-kept g c = λ all.
    c.put_name.ensures.kept (c.clear_name.ensures.kept all)
    (renamed_kept _ c.args.name c.key_of-key.result c.requires.kept c.requires.used c.requires.ident c.key_of-key.ensures.key)

pub returns-in_err-save_entry-3-clause-kept : goal.returns-in_err-save_entry-3-clause-kept
returns-in_err-save_entry-3-clause-kept g c = λ all.
    c.put_name.ensures.kept (c.clear_name.ensures.kept all)
    (renamed_kept _ c.args.name c.key_of-key.result c.requires.kept c.requires.used c.requires.ident c.key_of-key.ensures.key)

pub returns-clause-kept : goal.returns-clause-kept
returns-clause-kept g c = λ all.
    c.put_name.ensures.kept (c.clear_name.ensures.kept all)
    (renamed_kept _ c.args.name c.key_of-key.result c.requires.kept c.requires.used c.requires.ident c.key_of-key.ensures.key)

pub returns-clause-wrote : goal.returns-clause-wrote
returns-clause-wrote g c = λ pages taken told laid fresh.
    let below = c.requires.place in
    let cleared = c.clear_name.ensures.clears (searched c.args.entries.now taken pages laid c.args.place below c.requires.used c.requires.kept) in
    let one = c.in_ok-save_entry.ensures.wrote pages told laid.as_many in
    let two = c.in_ok-save_entry-2.ensures.wrote one.0 one.1 (one.2.as_many ∙ laid.as_many) in
    let three = c.in_ok-save_entry-3.ensures.wrote two.0 two.1 (two.2.as_many ∙ one.2.as_many ∙ laid.as_many) in
    on_ok c.save_entry-4.result _ _
    (λ saved. renamed_now c.args.entries.now taken pages laid c.args.place below c.requires.used c.requires.kept c.clear_name.new.entries c.put_name.new.entries
    c.in-Some.to c.key_of-key.result c.args.name (let places = cleared.places in omega (arith, c.in-Some.ensures.inside, places, c.requires.places))
    c.key_of-key.ensures.key c.key_of-key.ensures.some c.key_of-key.ensures.last c.requires.ident cleared c.put_name.ensures.puts _ one.0 two.0 three.0 saved.0
    saved.1 c.in-Some.ensures.first.empty fresh one.2 two.2 three.2 saved.2)
    (c.save_entry-4.ensures.wrote three.0 three.1 (three.2.as_many ∙ two.2.as_many ∙ one.2.as_many ∙ laid.as_many))

pub returns-clause-renamed : goal.returns-clause-renamed
returns-clause-renamed g c = λ pages taken told laid.
    let below = c.requires.place in
    let cleared = c.clear_name.ensures.clears (searched c.args.entries.now taken pages laid c.args.place below c.requires.used c.requires.kept) in
    let one = c.in_ok-save_entry.ensures.wrote pages told laid.as_many in
    let two = c.in_ok-save_entry-2.ensures.wrote one.0 one.1 (one.2.as_many ∙ laid.as_many) in
    let three = c.in_ok-save_entry-3.ensures.wrote two.0 two.1 (two.2.as_many ∙ one.2.as_many ∙ laid.as_many) in
    on_ok c.save_entry-4.result _ _
    (λ saved. renamed_as c.args.entries.now taken pages laid c.args.place below c.requires.used c.requires.kept c.clear_name.new.entries c.put_name.new.entries
    c.in-Some.to c.key_of-key.result c.args.name (let places = cleared.places in omega (arith, c.in-Some.ensures.inside, places, c.requires.places))
    c.key_of-key.ensures.key c.key_of-key.ensures.some c.key_of-key.ensures.last c.requires.ident cleared c.put_name.ensures.puts
    (subst (λ n. IsFirstEmpty c.clear_name.new.entries (n - 1) c.in-Some.to) c.key_of-key.ensures.key c.in-Some.ensures.first))
    (c.save_entry-4.ensures.wrote three.0 three.1 (three.2.as_many ∙ two.2.as_many ∙ one.2.as_many ∙ laid.as_many))
