-- From card to card of a program.
use Rattle.std.proofs.Common.{◌≡◌, ℕ, zero, suc, ◌+◌, List, [], ◌∷◌, ◌++◌, Some, Ok, refl, sym, ap, ◌∙◌, drop, arith, append_assoc}
use Rattle.std.specs.Prelude.{slice_get}
use Rattle.solo_base.specs.Text.{text}
use Rattle.pascal_tree.specs.Word.{Spot}
use Rattle.pascal_read.specs.Scan.{Explains, Words, before}
use Rattle.pascal_read.specs.Card.{before_all}
use Rattle.pascal_read.specs.declared.scan_fault.ScanFault.{ScanFault}
use Rattle.pascal_read.specs.declared.scan_fault.ScanFault.TheVariants as fault
use Rattle.pascal_read.proofs.Steps.{before_all-Err}

-- the text of a program from a card on is this card, its end and the text of the others
pub text_of_card : (program : List (List ℕ)) (place : ℕ) (card : List ℕ) → slice_get program place ≡ Some card → text (drop place program) ≡ card ++ 10 ∷ text (drop (place + 1) program)
text_of_card [] place card found = cc
text_of_card (first ∷ others) zero card found =
    let same : first ≡ card = cc in
    append_assoc first (10 ∷ []) (text others) ∙ ap (λ line. line ++ 10 ∷ text others) same
text_of_card (first ∷ others) (suc place) card found =
    let more : suc place + 1 ≡ suc (place + 1) = omega arith in
    text_of_card others place card found ∙ ap (λ n. card ++ 10 ∷ text (drop n (first ∷ others))) (sym more)

-- a fault of the words of the cards from one on is a fault of all
pub explained_before : (why : ScanFault) (old : List Spot) (words : Words) → Explains why words → Explains why (before_all old words)
explained_before (fault.BadWord line) old words bad = ap (before_all old) bad ∙ before_all-Err old line
explained_before fault.NoMemory old words bad = tt

-- the end token stands behind all others
pub before_all-Ok : (old others : List Spot) → before_all old (Ok others) ≡ Ok (old ++ others)
before_all-Ok [] others = refl
before_all-Ok (first ∷ old) others = ap (before first) (before_all-Ok old others)
