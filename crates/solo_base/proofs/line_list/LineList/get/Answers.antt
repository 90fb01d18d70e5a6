use Rattle.std.proofs.Common.{◌≡◌, Some, length, arith, ◌<◌}
use Rattle.std.specs.Prelude.{slice_get}
use Rattle.solo_base.specs.Line.{IsLine}
use Rattle.solo_base.specs.LineList.{pieces}
use Rattle.solo_base.proofs.Cuts.{length-pieces, line_at}
use Rattle.solo_base.proofs.line_list.LineList.get.Goals as goal

pub piece-requires-clause-place : goal.piece-requires-clause-place
piece-requires-clause-place c =
    let few : c.args.place < length (pieces c.self.inside.text.items 0 c.self.inside.ends.items) = rw c.self.view_is c.requires in
    rw (c.deref-2.ensures.value, ← length-pieces c.self.inside.text.items 0 c.self.inside.ends.items) few

is_line : (c : goal.After-piece) → IsLine c.piece.result.now
is_line c =
    let at : slice_get (pieces c.self.inside.text.items 0 c.self.inside.ends.items) c.args.place ≡ Some c.piece.result.now =
    rw (c.deref.ensures.value, c.deref-2.ensures.value) at c.piece.ensures in
    line_at (pieces c.self.inside.text.items 0 c.self.inside.ends.items) c.args.place c.piece.result.now c.self.invariant.lines at

pub append-requires-clause-room : goal.append-requires-clause-room
append-requires-clause-room c = rw c.new-line.ensures (omega (arith, (is_line c).short))

pub append-requires-clause-printable : goal.append-requires-clause-printable
append-requires-clause-printable c = (is_line c).printable
