use Rattle.std.proofs.Common.{◌≡◌, ℕ, ◌+◌, ◌≤◌, ◌<◌, List, ◌∷◌, ◌++◌, length, get_or, set, take, drop, append_assoc, arith}
use Rattle.std.proofs.lemmas.List.{set_at, drop_more, take_more, length-append, length-take-le}
use Rattle.page_codec.proofs.form.write_at.Goals as goal

-- one byte more of the piece stands in its place
written_more : (old piece : List ℕ) (at i : ℕ) → at + length piece ≤ length old → i < length piece → set (take at old ++ take i piece ++ drop (at + i) old) (at + i) (get_or piece i 0) ≡ take at old ++ take (i + 1) piece ++ drop (at + (i + 1)) old
written_more old piece at i room lt =
    let front = take at old ++ take i piece in
    let len : length front ≡ at + i = omega (arith, length-append (take at old) (take i piece), length-take-le at old (omega arith), length-take-le i piece (omega arith)) in
    let behind : drop (at + i) old ≡ get_or old (at + i) 0 ∷ drop (at + i + 1) old = drop_more old (at + i) 0 (omega arith) in
    let same : at + i + 1 ≡ at + (i + 1) = omega arith in
    rw (behind, set_at front (get_or old (at + i) 0) (drop (at + i + 1) old) (get_or piece i 0) (at + i) len, take_more piece i 0 lt, ← same)
    (simp append_assoc)

pub loop-i-preserved : goal.loop-i-preserved
loop-i-preserved c =
    rw c.loop-i.invariant (written_more c.args.bytes.now c.args.piece.now c.args.at c.loop-i.i (omega arith) (omega arith))
