-- Which of a session's maps the files are; and that no typed line is left.
use Rattle.std.proofs.Common.{◌≡◌, inl, inr, ◌<◌, ℕ, suc, Bool, true, false, ◌==◌, if◌then◌else◌, List, [], ◌∷◌, ◌++◌, map, Option, Some, None, refl, sym, ◌∙◌, ap, subst, arith}
use Rattle.std.specs.Prelude.{Contains}
use Rattle.solo_base.specs.Card.{before_lines, card_of, cards, lines}
use Rattle.solo_devices.specs.CardUnit.{byte_limit, bytes_total, items_ahead}
use Rattle.disk_layout.specs.Files.{Files}
use Rattle.session_law.specs.Passing.{IsAmong}
use Rattle.run_report.specs.Told.{SourceTold}
use Rattle.solo_cli.specs.Reading.{ReadsToEnd}
use Rattle.solo_cli.proofs.ReadToEnd.{taken-of}

-- ---- maps
among : (all first : Files) (list more : List Files) → IsAmong all first list → Contains ((first ∷ list) ++ more) all
among all first [] more is = (0, omega arith, sym is)
among all first (next ∷ list) more (inl is) = (0, omega arith, sym is)
among all first (next ∷ list) more (inr at) =
    let later = among all next list more at in let few = later.1 in (suc later.0, omega (arith, few), later.2)

pub among-maps : (all first : Files) (list more maps : List Files) → maps ≡ (first ∷ list) ++ more → IsAmong all first list → Contains maps all
among-maps all first list more maps are at = subst (λ maps. Contains maps all) (sym are) (among all first list more at)

-- ---- typed lines
some-first : (code : ℕ) (rest : List (List ℕ)) → before_lines code rest ≡ [] → ⊥
some-first code [] none = cc
some-first code (first ∷ others) none = cc

some-lines : (test : Bool) (code : ℕ) (rest : List (List ℕ)) → (if test then [] ∷ rest else before_lines code rest) ≡ [] → ⊥
some-lines true code rest none = cc
some-lines false code rest none = some-first code rest none

no-lines : (found : List (List ℕ)) → map card_of found ≡ [] → found ≡ []
no-lines [] none = refl
no-lines (line ∷ found) none = absurd cc

no-bytes : (bytes : List ℕ) → cards bytes ≡ [] → bytes ≡ []
no-bytes [] none = refl
no-bytes (code ∷ rest) none = absurd (some-lines (code == 10) code (lines rest) (no-lines (lines (code ∷ rest)) none))

last-none : (pending rest : List ℕ) → pending ++ rest ≡ [] → rest ≡ []
last-none [] rest none = none
last-none (code ∷ pending) rest none = absurd cc

none-ahead : (left : Option (List ℕ)) (pending : List ℕ) → items_ahead left pending ≡ Some [] → left ≡ Some []
none-ahead None pending none = cc
none-ahead (Some rest) pending none =
    let same : cards (pending ++ rest) ≡ [] = cc in ap Some (last-none pending rest (no-bytes (pending ++ rest) same))

pub typed-to-end : {Y : Type 0} {before after : SourceTold Y} {all : Type 0} (pending : List ℕ) → before.taken ≡ 0
    → bytes_total after.taken after.left ≡ bytes_total before.taken before.left → (all → items_ahead after.left pending ≡ Some [])
    → (all → byte_limit < after.taken → ⊥) → ReadsToEnd before after all
typed-to-end {before = before} {after = after} pending zero total ended few = record {
  emptied = λ bytes told all. none-ahead after.left pending (ended all);
  longer = λ bytes told more all.
      let left = none-ahead after.left pending (ended all) in
      let whole = (taken-of after.taken before.taken after.left before.left bytes zero told total).1
      (λ rest is. let same : Some rest ≡ Some [] = sym is ∙ left in cc) in
      few all (omega (arith, whole, more));
}
