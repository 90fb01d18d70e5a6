use Rattle.std.proofs.Common.{◌∙◌, length-set, refl}
use Rattle.disk_files.proofs.Numbers.{always, on_ok}
use Rattle.disk_files.proofs.Creates.{created_now, new_kept, open_put, searches_few}
use Rattle.disk_files.proofs.create.create_file.Goals as goal

pub returns-clause-wrote : goal.returns-clause-wrote
returns-clause-wrote g c = λ pages told laid empty fresh.
    let size = length-set pages c.take-index.result c.zeros.result.0 ∙ laid.as_many in
    let first = c.in_ok-save_entry.ensures.wrote _ (c.in_ok-write.ensures.page pages told) size in
    let second = c.in_ok-save_entry-2.ensures.wrote first.0 first.1 (first.2.as_many ∙ size) in
    on_ok c.save_map.result _ _
    (λ saved. created_now c.args.entries.now c.put_name.new.entries c.args.map.now c.take-index.new.map pages laid c.args.place c.take-index.result
    c.key_of-key.result c.args.name c.zeros.result.0
    c.number.result c.args.kind c.requires.place empty c.requires.ident c.number.ensures.kind c.number.ensures.some c.number.ensures.last
    c.key_of-key.ensures.key c.key_of-key.ensures.some
    c.key_of-key.ensures.last c.take-index.ensures.free c.take-index.ensures.least c.take-index.ensures.taken fresh c.zeros.ensures
    (c.put_name.ensures.puts (searches_few c.args.entries.now c.args.map.now pages laid)) _ first.0 second.0 saved.0 saved.1 first.2 second.2 saved.2)
    (c.save_map.ensures.saved second.0 second.1 (second.2.as_many ∙ first.2.as_many ∙ size))

pub returns-clause-kept : goal.returns-clause-kept
returns-clause-kept g c =
    λ all. c.put_name.ensures.kept all
    (new_kept _ _ _ _ c.requires.ident c.number.ensures.some c.number.ensures.last c.take-index.ensures.free c.key_of-key.ensures.key)

pub returns-in_err-save_entry-clause-kept : goal.returns-in_err-save_entry-clause-kept
returns-in_err-save_entry-clause-kept g c =
    λ all. c.put_name.ensures.kept all
    (new_kept _ _ _ _ c.requires.ident c.number.ensures.some c.number.ensures.last c.take-index.ensures.free c.key_of-key.ensures.key)

pub returns-in_err-save_entry-2-clause-kept : goal.returns-in_err-save_entry-2-clause-kept
returns-in_err-save_entry-2-clause-kept g c =
    λ all. c.put_name.ensures.kept all
    (new_kept _ _ _ _ c.requires.ident c.number.ensures.some c.number.ensures.last c.take-index.ensures.free c.key_of-key.ensures.key)

pub returns-clause-open : goal.returns-clause-open
returns-clause-open g c = λ fresh.
    always c.save_map.result _ (open_put c.args.entries.now c.put_name.new.entries c.args.place _ c.put_name.ensures.stands c.requires.place
    c.number.ensures.some refl fresh)

pub returns-clause-puts : goal.returns-clause-puts
returns-clause-puts g c = always c.save_map.result _ (record { new = _; named = refl; put = c.put_name.ensures.stands })
