-- The rows of a table, of which one changes.
use Rattle.std.proofs.Common.{◌≡◌, ℕ, zero, suc, ◌+◌, ◌<◌, List, [], ◌∷◌, ◌++◌, length, take, drop, map, get_or, slice_set, refl, sym, subst, arith}
use Rattle.std.proofs.lemmas.List.{take_more_set, drop-set-lt, drop_more}
use Rattle.real_time.specs.Starts.{Change, plan_of}
use Rattle.real_time.specs.Awaiting.{Row, Awaits, AllAwait}

abbrev pub name_of : Row → List ℕ
name_of row = row.name

two-names : (a b : List ℕ) (some others : List (List ℕ)) → a ≡ b → some ≡ others → a ∷ some ≡ b ∷ others
two-names a b some others e d = cc

pub same-names : (rows : List Row) (place : ℕ) (is d : Row) → place < length rows → is.name ≡ (get_or rows place d).name
    → map name_of (slice_set rows place is) ≡ map name_of rows
same-names [] place is d below same = absurd (omega (arith, below))
same-names (row ∷ rows) zero is d below same = two-names _ _ _ _ same refl
same-names (row ∷ rows) (suc place) is d below same = two-names _ _ _ _ refl (same-names rows place is d (omega (arith, below)) same)

pub all-append : (accepted : List Change) (now : ℕ) (rows : List Row) (row : Row) → AllAwait accepted now rows → Awaits (plan_of row.name accepted) now row
    → AllAwait accepted now (rows ++ row ∷ [])
all-append accepted now [] row all last = (last, tt)
all-append accepted now (first ∷ rows) row all last = (all.0, all-append accepted now rows row all.1 last)

pub await-more : (accepted : List Change) (change : Change) (now : ℕ) (rows : List Row) (place : ℕ) (is d : Row) → place < length rows
    → is.name ≡ (get_or rows place d).name
    → (Awaits (plan_of (get_or rows place d).name accepted) now (get_or rows place d)
    → Awaits (plan_of (get_or rows place d).name (change ∷ accepted)) now is)
    → AllAwait (change ∷ accepted) now (take place rows) × AllAwait accepted now (drop place rows)
    → AllAwait (change ∷ accepted) now (take (place + 1) (slice_set rows place is)) × AllAwait accepted now (drop (place + 1) (slice_set rows place is))
await-more accepted change now rows place is d below same changes both =
    let there = subst (AllAwait accepted now) (drop_more rows place d below) both.1 in
    let changed = subst (λ name. Awaits (plan_of name (change ∷ accepted)) now is) (sym same) (changes there.0) in (
      subst (AllAwait (change ∷ accepted) now) (sym (take_more_set rows place is below))
          (all-append (change ∷ accepted) now (take place rows) is both.0 changed),
      subst (AllAwait accepted now) (sym (drop-set-lt (place + 1) rows place is (omega arith))) there.1,
    )
