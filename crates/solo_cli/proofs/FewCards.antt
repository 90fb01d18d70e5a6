-- A text has no more cards than bytes.
use Rattle.std.proofs.Common.{◌≤◌, ℕ, ◌+◌, Bool, true, false, ◌==◌, if◌then◌else◌, List, [], ◌∷◌, length, arith}
use Rattle.std.proofs.lemmas.List.{length-map}
use Rattle.solo_base.specs.Card.{lines, before_lines, card_of, cards}

begun : (code : ℕ) (pieces : List (List ℕ)) → length (before_lines code pieces) ≤ length pieces + 1
begun code [] = omega arith
begun code (first ∷ others) = omega arith

by-test : (test : Bool) (code n : ℕ) (pieces : List (List ℕ)) → length pieces ≤ n
    → length (if test then [] ∷ pieces else before_lines code pieces) ≤ n + 1
by-test true code n pieces few = omega (arith, few)
by-test false code n pieces few = (let one = begun code pieces in omega (arith, few, one))

few-lines : (bytes : List ℕ) → length (lines bytes) ≤ length bytes
few-lines [] = omega arith
few-lines (code ∷ rest) = (let all = by-test (code == 10) code (length rest) (lines rest) (few-lines rest) in omega (arith, all))

pub few-cards : (bytes : List ℕ) → length (cards bytes) ≤ length bytes
few-cards bytes = (let same = length-map (lines bytes) card_of in let few = few-lines bytes in omega (arith, same, few))
