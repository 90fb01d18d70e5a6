use Rattle.disk_layout.proofs.EntryBytes.{entry_written}
use Rattle.disk_layout.proofs.entry.Entry.write.Goals as goal

pub returns : goal.returns
returns c =
    entry_written c.args.at c.args.self.now _ _ _ _ _ _ _
    c.set_name_bytes.ensures.others c.set_name_bytes.ensures.name c.set_number.ensures.others c.set_number.ensures.number c.set_number-2.ensures.others
    c.set_number-2.ensures.number
    c.set_number-3.ensures.others c.set_number-3.ensures.number c.set_number-4.ensures.others c.set_number-4.ensures.number c.set_number-5.ensures.others
    c.set_number-5.ensures.number
