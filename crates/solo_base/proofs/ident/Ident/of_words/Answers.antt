use Rattle.std.proofs.Common.{◌≡◌, true, sym, ◌∙◌, arith, ap}
use Rattle.solo_base.specs.Arithmetic.{are_bytes}
use Rattle.solo_base.specs.Ident.{identifier}
use Rattle.solo_base.specs.Blanks.{trimmed}
use Rattle.solo_base.proofs.Copies.{low_bytes}
use Rattle.solo_base.proofs.ident.Ident.of_words.Goals as goal

pub returns : goal.returns
returns c =
    let are : are_bytes c.args.words.now ≡ true = sym c.are_bytes.ensures ∙ c.if-not-are_bytes.false in
    let same = low_bytes c.args.words.now c.loop-place.bytes are (c.loop-place.invariant.long ∙ sym c.told-words)
    (λ i inside. c.loop-place.invariant.same i (omega (arith, c.told-words, inside, c.loop-place-test.false))) in
    rw are (c.of.ensures ∙ ap identifier (c.trim_end.ensures ∙ ap trimmed same))
