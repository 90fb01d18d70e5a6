-- A second passes for the rows of a table, one after the other.
use Rattle.std.proofs.Common.{◌≡◌, ℕ, zero, suc, ◌+◌, ◌<◌, Bool, List, [], ◌∷◌, length, take, map, get_or, slice_set, refl, sym, ◌∙◌, ap, subst, arith}
use Rattle.std.proofs.lemmas.List.{take_more_set, take_all, drop-set-lt, drop_more}
use Rattle.real_time.specs.Starts.{Script, next_second, plan_of}
use Rattle.real_time.specs.Awaiting.{Row, Awaits, AllAwait, Passed}
use Rattle.real_time.specs.Answers.{StandsForScript, StandsWithin, starts_at}
use Rattle.real_time.proofs.Changing.{name_of, same-names, all-append}

name-at : (rows : List Row) (place : ℕ) (d : Row) → place < length rows → get_or (map name_of rows) place [] ≡ (get_or rows place d).name
name-at [] place d below = absurd (omega (arith, below))
name-at (row ∷ rows) zero d below = refl
name-at (row ∷ rows) (suc place) d below = name-at rows place d (omega (arith, below))

module _ (s : Script) (rows : List Row) (place second : ℕ) (is d : Row) (starts : Bool) (below : place < length rows)
    (same : is.name ≡ (get_or rows place d).name)
    (passes : Awaits (plan_of (get_or rows place d).name s.accepted) s.now (get_or rows place d)
    → Passed (plan_of (get_or rows place d).name s.accepted) second (get_or rows place d) is starts)
    (second_is : second ≡ s.now + 1) (st : StandsWithin s place rows) where
  name-is : get_or s.tasks place [] ≡ (get_or rows place d).name
  name-is = ap (λ tasks. get_or tasks place []) (sym st.names) ∙ name-at rows place d below

  passed : Passed (plan_of (get_or rows place d).name s.accepted) second (get_or rows place d) is starts
  passed = passes (subst (AllAwait s.accepted s.now) (drop_more rows place d below) st.back).0

  pub pass-starts : starts ≡ starts_at s place
  pass-starts = rw (name-is, ← second_is) passed.starts_are

  pub pass-stands : StandsWithin s (place + 1) (slice_set rows place is)
  pass-stands = record {
    names = same-names rows place is d below same ∙ st.names;
    front =
        (let there = subst (λ name. Awaits (plan_of name s.accepted) (s.now + 1) is) (sym same)
        (subst (λ second. Awaits (plan_of (get_or rows place d).name s.accepted) second is) second_is passed.awaits) in
        subst (AllAwait s.accepted (s.now + 1)) (sym (take_more_set rows place is below)) (all-append s.accepted (s.now + 1)
        (take place rows) is st.front there));
    back = subst (AllAwait s.accepted s.now) (sym (drop-set-lt (place + 1) rows place is (omega arith)))
        (subst (AllAwait s.accepted s.now) (drop_more rows place d below) st.back).1;
    known = st.known;
  }

-- ---- a whole second
pub second-begins : (s : Script) (rows : List Row) → StandsForScript s rows → StandsWithin s 0 rows
second-begins s rows st = record { names = st.names; front = tt; back = st.await; known = st.known }

pub second-ends : (s : Script) (rows : List Row) → StandsWithin s (length rows) rows → StandsForScript (next_second s) rows
second-ends s rows st = record {
  names = st.names;
  await = subst (AllAwait s.accepted (s.now + 1)) (take_all (length rows) rows (omega arith)) st.front;
  known = st.known;
}
