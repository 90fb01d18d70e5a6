use Rattle.std.proofs.Common.{◌≤◌, length, arith, sym}
use Rattle.solo_base.proofs.Names.{IsIdent-padded}
use Rattle.solo_base.proofs.ident.Ident.of.Goals as goal

pub invariant_of-result : goal.invariant_of-result
invariant_of-result c =
    let short : length c.args.bytes.now ≤ 12 = omega arith in
    rw c.padded.ensures (IsIdent-padded c.args.bytes.now short (sym c.if-not-is_name.ensures))
