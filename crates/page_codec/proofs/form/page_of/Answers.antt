use Rattle.std.proofs.Common.{◌≡◌, ℕ, ◌+◌, ◌-◌, Bool, List, [], ◌∷◌, ◌++◌, length, get_or, take, drop, replicate, ap, ◌∙◌, sym, refl}
use Rattle.std.proofs.lemmas.List.{drop-drop, drop-replicate}
use Rattle.std.specs.Int.{w16, to_be_bytes}
use Rattle.solo_base.specs.declared.page.Page.{Page}
use Rattle.page_codec.specs.Form.{mark, page_bytes}
use Rattle.page_codec.proofs.form.page_of.Goals as goal

abbrev page_with : List ℕ → Page
page_with bytes = record { 0 = bytes }

-- six bytes of header and then the content, over zeros
built : (place : ℕ) (last : Bool) (content zeros first second : List ℕ) → drop 6 zeros ≡ replicate 506 0
    → first ≡ take 0 zeros ++ (get_or (to_be_bytes w16 place) 0 0 ∷ get_or (to_be_bytes w16 place) 1 0 ∷ mark last ∷ 0 ∷ get_or (to_be_bytes w16 (length content)) 0 0 ∷ get_or (to_be_bytes w16 (length content)) 1 0 ∷ []) ++ drop 6 zeros
    → second ≡ take 6 first ++ content ++ drop (6 + length content) first
    → second ≡ page_bytes place last content
built place last content zeros first second blank first-is second-is =
    let rest : drop (6 + length content) first ≡ replicate (506 - length content) 0 =
    sym (drop-drop (length content) 6 first) ∙ rw (first-is, blank) (drop-replicate (length content) 506 0) in
    rw (second-is, rest, first-is) refl

pub returns : goal.returns
returns c =
    let header = rw (c.to_be_bytes.ensures, c.to_be_bytes-2.ensures, c.mark.ensures) at c.write_at.ensures in
    let bytes-are = built c.args.place c.args.last c.args.content.now (replicate 512 0) c.write_at.new.bytes c.write_at-2.new.bytes (drop-replicate 6 512 0) header c.write_at-2.ensures in
    ap (λ (bytes : List ℕ). page_with bytes) bytes-are
