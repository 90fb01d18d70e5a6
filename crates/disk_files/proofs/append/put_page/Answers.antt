use Rattle.std.proofs.Common.{◌≢◌, ◌∙◌, ap, sym, length-set}
use Rattle.std.specs.FinSet as fin
use Rattle.std.proofs.lemmas.Bool.{false≢true}
use Rattle.disk_files.proofs.Numbers.{on_ok}
use Rattle.disk_layout.proofs.Written.{append_writes}
use Rattle.disk_files.proofs.append.put_page.Goals as goal

pub returns-clause-wrote : goal.returns-clause-wrote
returns-clause-wrote g c = λ pages told size apart i_taken q_taken.
    let least = c.take-f.ensures.least in
    let i_f : c.args.i ≢ c.take-f.result = λ e. false≢true (sym least.free ∙ ap (fin.contains c.args.map.now) (sym e) ∙ i_taken) in
    let q_f : c.args.q ≢ c.take-f.result = λ e. false≢true (sym least.free ∙ ap (fin.contains c.args.map.now) (sym e) ∙ q_taken) in
    on_ok c.save_map.result _ _
    (λ saved. (
      saved.0,
      c.take-f.result,
      saved.1,
      least,
      c.take-f.ensures.free,
      c.take-f.ensures.taken,
      append_writes pages saved.0 c.take-f.new.map c.args.i c.args.q c.take-f.result c.args.count c.args.page.now.0 _ c.set_number.new.page.0 _
          c.set_number-2.new.page.0 c.set_number-3.new.page.0
          size c.requires.index_page c.requires.part_page c.take-f.ensures.free apart i_f q_f
          c.set_number.ensures.number c.set_number.ensures.others c.set_number-2.ensures.number c.set_number-2.ensures.others c.set_number-3.ensures.number
          c.set_number-3.ensures.others saved.2,
    ))
    (c.save_map.ensures.saved _ (c.in_ok-write-3.ensures.page _ (c.in_ok-write-2.ensures.page _ (c.in_ok-write.ensures.page pages told)))
    (length-set _ _ _ ∙ length-set _ _ _ ∙ length-set _ _ _ ∙ size))
