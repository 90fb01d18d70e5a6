-- What TASK answers.
use Rattle.std.proofs.Common.{◌≡◌, ℕ, Bool, true, false, List, [], ◌∷◌, ◌++◌, length, map, refl, sym, ◌∙◌, ap, subst, arith}
use Rattle.std.specs.Prelude.{nat_lt}
use Rattle.std.specs.List.{list_any}
use Rattle.std.specs.Str.{bytes_eq}
use Rattle.std.proofs.lemmas.List.{map-append}
use Rattle.std.proofs.lemmas.Slice.Eq.{bytes_eq-Decides}
use Rattle.real_time.specs.declared.plan.Plan.TheVariants.{Never}
use Rattle.real_time.specs.declared.plan.Named.TheVariants.{TaskExists, TableFull, Done}
use Rattle.real_time.specs.Typed.{Names}
use Rattle.real_time.specs.Starts.{Script, Change, plan_of}
use Rattle.real_time.specs.Awaiting.{Row, Awaits, has_name, unplanned}
use Rattle.real_time.specs.Answers.{StandsForScript, AllNamed, AnswersLine, name_text}
use Rattle.real_time.proofs.Counted.{any-more}
use Rattle.real_time.proofs.Changing.{name_of, all-append}
use Rattle.real_time.proofs.Answering.{is-task}

-- nothing was accepted of a name that no task has
never-planned : (name : List ℕ) (tasks : List (List ℕ)) (accepted : List Change) → AllNamed tasks accepted → list_any (bytes_eq name) tasks ≡ false
    → plan_of name accepted ≡ Never
never-planned name tasks [] known none = refl
never-planned name tasks (change ∷ earlier) known none = by (bytes_eq change.name name) refl (never-planned name tasks earlier known.1 none)
  where
    by : (t : Bool) → bytes_eq change.name name ≡ t → plan_of name earlier ≡ Never → plan_of name (change ∷ earlier) ≡ Never
    by true e rest =
        let same = (bytes_eq-Decides change.name name).0 e in
        let some : list_any (bytes_eq name) tasks ≡ true = subst (λ n. list_any (bytes_eq n) tasks ≡ true) same known.0 in
        absurd cc
    by false e rest = rw e rest

named-more : (tasks : List (List ℕ)) (name : List ℕ) (accepted : List Change) → AllNamed tasks accepted → AllNamed (tasks ++ name ∷ []) accepted
named-more tasks name [] known = tt
named-more tasks name (change ∷ earlier) known =
    (any-more (bytes_eq change.name) tasks name known.0, named-more tasks name earlier known.1)

many-names : (rows : List Row) → length (map name_of rows) ≡ length rows
many-names [] = refl
many-names (row ∷ rows) = (let rest = many-names rows in omega (arith, rest))

module _ (s : Script) (name : List ℕ) (old : List Row) (st : StandsForScript s old) where
  pub name-exists : list_any (has_name name) old ≡ true → AnswersLine s (Names name) (name_text TaskExists) old
  name-exists some = (let is = is-task s name old st true some in record { shows = rw is refl; stands = rw is st })

  many : (full : Bool) → nat_lt (length old) 8 ≡ full → nat_lt (length s.tasks) 8 ≡ full
  many full e = ap (λ tasks. nat_lt (length tasks) 8) (sym st.names) ∙ ap (λ n. nat_lt n 8) (many-names old) ∙ e

  pub name-full : list_any (has_name name) old ≡ false → nat_lt (length old) 8 ≡ false → AnswersLine s (Names name) (name_text TableFull) old
  name-full none full =
      let no = is-task s name old st false none in
      let all = many false full in
      record { shows = rw (no, all) refl; stands = rw (no, all) st }

  pub name-new : list_any (has_name name) old ≡ false → nat_lt (length old) 8 ≡ true → Awaits Never s.now (unplanned name)
      → AnswersLine s (Names name) (name_text Done) (old ++ unplanned name ∷ [])
  name-new none room awaits =
      let no = is-task s name old st false none in
      let some = many true room in
      let plan = never-planned name s.tasks s.accepted st.known no in
      record {
        shows = rw (no, some) refl;
        stands = rw (no, some) (record {
          names = map-append name_of old (unplanned name ∷ []) ∙ ap (λ tasks. tasks ++ name ∷ []) st.names;
          await = all-append s.accepted s.now old (unplanned name) st.await (subst (λ p. Awaits p s.now (unplanned name)) (sym plan) awaits);
          known = named-more s.tasks name s.accepted st.known;
        });
      }
