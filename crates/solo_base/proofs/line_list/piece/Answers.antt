use Rattle.std.proofs.Common.{length, rules, get_or, ◌≤◌}
use Rattle.solo_base.proofs.Cuts.{IsPieceAt, piece_at}
use Rattle.solo_base.proofs.line_list.piece.Goals as goal

pub slice_bounds-result-count : goal.slice_bounds-result-count
slice_bounds-result-count c =
    rw c.start_of-start.ensures (piece_at c.args.text.now 0 c.args.ends.now c.args.place c.requires.cut c.requires.place).rises

pub slice_bounds-result-start : goal.slice_bounds-result-start
slice_bounds-result-start c =
    let at : IsPieceAt c.args.text.now 0 c.args.ends.now c.args.place = piece_at c.args.text.now 0 c.args.ends.now c.args.place c.requires.cut c.requires.place in
    let rises : c.start_of-start.result ≤ get_or c.args.ends.now c.args.place 0 = rw c.start_of-start.ensures at.rises in
    search rules

pub slice_bounds-result-end : goal.slice_bounds-result-end
slice_bounds-result-end c =
    let at : IsPieceAt c.args.text.now 0 c.args.ends.now c.args.place = piece_at c.args.text.now 0 c.args.ends.now c.args.place c.requires.cut c.requires.place in
    let within : get_or c.args.ends.now c.args.place 0 ≤ length c.args.text.now = at.within in
    search rules

pub returns : goal.returns
returns c = rw c.start_of-start.ensures (piece_at c.args.text.now 0 c.args.ends.now c.args.place c.requires.cut c.requires.place).piece
