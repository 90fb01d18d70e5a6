-- What START and STOP answer.
use Rattle.std.proofs.Common.{◌≡◌, ℕ, ◌<◌, ◌≤◌, Bool, true, false, List, [], ◌∷◌, map, refl, sym, ◌∙◌, ap, arith}
use Rattle.std.specs.Prelude.{nat_lt, ◌||◌}
use Rattle.std.specs.List.{list_any}
use Rattle.std.specs.Str.{bytes_eq}
use Rattle.std.proofs.lemmas.Bool.{lt-ltb, ltb-true}
use Rattle.real_time.specs.declared.plan.Plan.TheVariants.{Never, First}
use Rattle.real_time.specs.declared.plan.Planned.TheVariants.{NoTask, TimeIsPast, Done}
use Rattle.real_time.specs.Typed.{Plans, Stops}
use Rattle.real_time.specs.Starts.{Script, is_task}
use Rattle.real_time.specs.Awaiting.{Row, AllAwait, has_name}
use Rattle.real_time.specs.Answers.{StandsForScript, AnswersLine, start_text, stop_text}
use Rattle.real_time.proofs.Changing.{name_of}

named : (name : List ℕ) (rows : List Row) → list_any (has_name name) rows ≡ list_any (bytes_eq name) (map name_of rows)
named name [] = refl
named name (row ∷ rows) = ap (λ t. bytes_eq name row.name || t) (named name rows)

module _ (s : Script) (name : List ℕ) (old : List Row) (st : StandsForScript s old) where
  pub is-task : (t : Bool) → list_any (has_name name) old ≡ t → is_task s name ≡ t
  is-task t e = ap (list_any (bytes_eq name)) (sym st.names) ∙ sym (named name old) ∙ e

  pub start-none : (time period : ℕ) → list_any (has_name name) old ≡ false → AnswersLine s (Plans name time period) (start_text NoTask) old
  start-none time period none = (let no = is-task false none in record { shows = rw no refl; stands = rw no st })

  pub start-past : (time period now : ℕ) → s.now ≡ now → list_any (has_name name) old ≡ true → nat_lt now time ≡ false
      → AnswersLine s (Plans name time period) (start_text TimeIsPast) old
  start-past time period now at some past =
      let is = is-task true some in
      let late : nat_lt s.now time ≡ false = ap (λ n. nat_lt n time) at ∙ past in
      record { shows = rw (is, late) refl; stands = rw (is, late) st }

  pub start-done : (time period now : ℕ) (new : List Row) → s.now ≡ now → list_any (has_name name) old ≡ true → nat_lt now time ≡ true
      → map name_of new ≡ map name_of old → AllAwait (record { name = name; plan = First time period } ∷ s.accepted) s.now new
      → AnswersLine s (Plans name time period) (start_text Done) new
  start-done time period now new at some ahead same all =
      let is = is-task true some in
      let soon : nat_lt s.now time ≡ true = ap (λ n. nat_lt n time) at ∙ ahead in
      record { shows = rw (is, soon) refl; stands = rw (is, soon) (record { names = same ∙ st.names; await = all; known = (is, st.known) }) }

  pub stop-none : list_any (has_name name) old ≡ false → AnswersLine s (Stops name) (stop_text NoTask) old
  stop-none none = (let no = is-task false none in record { shows = rw no refl; stands = rw no st })

  pub stop-done : (new : List Row) → list_any (has_name name) old ≡ true → map name_of new ≡ map name_of old
      → AllAwait (record { name = name; plan = Never } ∷ s.accepted) s.now new → AnswersLine s (Stops name) (stop_text Done) new
  stop-done new some same all =
      (let is = is-task true some in record { shows = rw is refl; stands = rw is (record { names = same ∙ st.names; await = all; known = (is, st.known) }) })

pub has-passed : (now time : ℕ) → time ≤ now → nat_lt now time ≡ false
has-passed now time most = by (nat_lt now time) refl
  where
    by : (t : Bool) → nat_lt now time ≡ t → nat_lt now time ≡ false
    by false e = e
    by true e = (let less = ltb-true now time e in absurd (omega (arith, less, most)))

pub is-ahead : (now time : ℕ) → now < time → nat_lt now time ≡ true
is-ahead now time less = lt-ltb now time less
