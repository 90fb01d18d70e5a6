use Rattle.std.proofs.Common.{sym}
use Rattle.solo_base.proofs.Cuts.{length-pieces}
use Rattle.solo_base.proofs.line_list.LineList.len.Goals as goal

pub returns : goal.returns
returns c = rw (c.as_slice.ensures.value, ← c.self.view_is) (sym (length-pieces c.self.inside.text.items 0 c.self.inside.ends.items))
