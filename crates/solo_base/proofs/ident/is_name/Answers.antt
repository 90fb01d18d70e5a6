use Rattle.solo_base.proofs.Names.{is_name-first}
use Rattle.solo_base.proofs.ident.is_name.Goals as goal

pub returns-then-is_letter : goal.returns-then-is_letter
returns-then-is_letter c =
    rw (is_name-first c.args.bytes.now c.in-len1-up.len_at_least, ← c.if-is_letter.ensures) c.all_letters_or_digits.ensures
