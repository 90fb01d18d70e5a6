-- The runs that a script tells of a task are as many as the task's starts.
use Rattle.std.proofs.Common.{◌≡◌, ◌≢◌, ℕ, zero, suc, ◌+◌, Bool, true, false, Option, None, Some, List, [], ◌∷◌, ◌++◌, length, length-append, refl, sym, ◌∙◌, subst, arith, append_assoc}
use Rattle.std.specs.Prelude.{◌&&◌, ◌||◌, not, nat_lt, filter, if◌then◌else◌, slice_get}
use Rattle.std.specs.List.{list_any, AllByRecursion}
use Rattle.std.specs.Str.{bytes_eq}
use Rattle.std.proofs.lemmas.Slice.Eq.{bytes_eq-Decides}
use Rattle.solo_base.specs.declared.item.Item.{Item}
use Rattle.real_time.specs.Typed.{Typed, Blank, Names, Plans, Stops, Passes, Bad, typed}
use Rattle.real_time.specs.Starts.{Script, Change, behind_line, behind_seconds, is_due, is_task, may_name, may_plan, next_second, opening, plan_of, starters, times_started, within_clock}
use Rattle.real_time.specs.Deeds.{starts_from, starts_in_second, starts_named, starts_of_line, starts_of_seconds}

-- the script behind all lines
abbrev pub behind_all : Script → List Item → Script
behind_all s [] = s
behind_all s (item ∷ items) = behind_all (behind_line s (typed item)) items

-- the runs of the task at a place, if there is one
abbrev pub runs_named : Option (List ℕ) → Script → ℕ
runs_named None s = 0
runs_named (Some name) s = times_started name s

abbrev pub runs_at : ℕ → Script → ℕ
runs_at place s = runs_named (slice_get s.tasks place) s

-- No two of the names are the same.
abbrev pub AreApart : List (List ℕ) → Type 0
AreApart [] = Unit {0}
AreApart (name ∷ names) = (list_any (bytes_eq name) names ≡ false) × AreApart names

-- no two tasks have one name, and who started is a task
pub record IsKnown (s : Script) : Type 0 where
  pub apart : AreApart s.tasks
  pub started : AllByRecursion (λ name. is_task s name ≡ true) s.started

is-name : List ℕ → List ℕ → Bool
is-name name started = bytes_eq started name

-- ---- in a list of names
other-name : (name other : List ℕ) → name ≢ other → bytes_eq name other ≡ false
other-name name other differ = by (bytes_eq name other) refl
  where
    by : (t : Bool) → bytes_eq name other ≡ t → t ≡ false
    by false e = refl
    by true e = absurd (differ ((bytes_eq-Decides name other).0 e))

own-name : (name : List ℕ) → bytes_eq name name ≡ true
own-name name = (bytes_eq-Decides name name).1 refl

-- none of the names is this one
none-named : (name : List ℕ) (test : List ℕ → Bool) (names : List (List ℕ)) → list_any (bytes_eq name) names ≡ false
    → filter (λ started. bytes_eq started name) (filter test names) ≡ []
none-named name test [] none = refl
none-named name test (first ∷ names) none = by (bytes_eq name first) refl (test first) refl (none-named name test names)
  where
    by : (same : Bool) → bytes_eq name first ≡ same → (due : Bool) → test first ≡ due
        → (list_any (bytes_eq name) names ≡ false → filter (λ started. bytes_eq started name) (filter test names) ≡ [])
        → filter (λ started. bytes_eq started name) (filter test (first ∷ names)) ≡ []
    by true e due d rest = absurd (let some : list_any (bytes_eq name) (first ∷ names) ≡ true = rw e refl in cc)
    by false e false d rest = rw d (rest (rw e at none))
    by false e true d rest =
        let differ : bytes_eq first name ≡ false = other-name first name (λ same. (let own = own-name name in
        let no : bytes_eq name name ≡ false = subst (λ n. bytes_eq name n ≡ false) same e in cc)) in
        rw (d, differ) (rest (rw e at none))

in-names : (names : List (List ℕ)) (place : ℕ) (name : List ℕ) → slice_get names place ≡ Some name → list_any (bytes_eq name) names ≡ true
in-names [] place name is = absurd cc
in-names (first ∷ names) zero name is = (let same : first ≡ name = cc in let own = own-name name in rw (same, own) refl)
in-names (first ∷ names) (suc place) name is = by (bytes_eq name first) (in-names names place name is)
  where
    by : (same : Bool) → list_any (bytes_eq name) names ≡ true → (same || list_any (bytes_eq name) names) ≡ true
    by true rest = refl
    by false rest = rest

-- among those that a test takes, a name stands once where it takes it
once-named : (names : List (List ℕ)) (place : ℕ) (name : List ℕ) (test : List ℕ → Bool) (second : ℕ) → AreApart names → slice_get names place ≡ Some name
    → length (filter (λ started. bytes_eq started name) (filter test names)) ≡ length (if test name then second ∷ [] else [])
once-named [] place name test second apart is = absurd cc
once-named (first ∷ names) zero name test second apart is =
    let same : first ≡ name = cc in
    subst (λ first. length (filter (λ started. bytes_eq started name) (filter test (first ∷ names))) ≡ length (if test name then second ∷ [] else []))
    (sym same) (by (test name) refl (subst (λ first. list_any (bytes_eq first) names ≡ false) same apart.0))
  where
    by : (due : Bool) → test name ≡ due → list_any (bytes_eq name) names ≡ false
        → length (filter (λ started. bytes_eq started name) (filter test (name ∷ names))) ≡ length (if test name then second ∷ [] else [])
    by true e none = (let own = own-name name in let others = none-named name test names none in rw (e, own, others) refl)
    by false e none = (let others = none-named name test names none in rw (e, others) refl)
once-named (first ∷ names) (suc place) name test second apart is =
    let some = in-names names place name is in
    let differ : bytes_eq first name ≡ false = other-name first name (λ same. (let none = subst (λ n. list_any (bytes_eq n) names ≡ false) same apart.0 in
    cc)) in
    by (test first) refl differ (once-named names place name test second apart.1 is)
  where
    by : (due : Bool) → test first ≡ due → bytes_eq first name ≡ false
        → length (filter (λ started. bytes_eq started name) (filter test names)) ≡ length (if test name then second ∷ [] else [])
        → length (filter (λ started. bytes_eq started name) (filter test (first ∷ names))) ≡ length (if test name then second ∷ [] else [])
    by true e differ rest = rw (e, differ) rest
    by false e differ rest = rw e rest

filter-append : (test : List ℕ → Bool) (some more : List (List ℕ)) → length (filter test (some ++ more)) ≡ length (filter test some) + length (filter test more)
filter-append test [] more = omega arith
filter-append test (name ∷ some) more = by (test name) refl (filter-append test some more)
  where
    by : (t : Bool) → test name ≡ t → length (filter test (some ++ more)) ≡ length (filter test some) + length (filter test more)
        → length (filter test ((name ∷ some) ++ more)) ≡ length (filter test (name ∷ some)) + length (filter test more)
    by true e rest = rw e (omega (arith, rest))
    by false e rest = rw e rest

-- ---- a second passes
runs-second : (place : ℕ) (s : Script) → IsKnown s → length (starts_in_second place s (s.now + 1)) + runs_at place s ≡ runs_at place (next_second s)
runs-second place s known = by (slice_get s.tasks place) refl
  where
    by : (held : Option (List ℕ)) → slice_get s.tasks place ≡ held
        → length (starts_named held s.accepted (s.now + 1)) + runs_named held s ≡ runs_named held (next_second s)
    by None is = refl
    by (Some name) is =
        let once = once-named s.tasks place name (λ name. is_due (plan_of name s.accepted) (s.now + 1)) (s.now + 1) known.apart is in
        let sum = filter-append (λ started. bytes_eq started name) (starters s (s.now + 1)) s.started in
        omega (arith, once, sum)

-- those that start are tasks
all-append : (tasks some more : List (List ℕ)) → AllByRecursion (λ name. list_any (bytes_eq name) tasks ≡ true) some
    → AllByRecursion (λ name. list_any (bytes_eq name) tasks ≡ true) more → AllByRecursion (λ name. list_any (bytes_eq name) tasks ≡ true) (some ++ more)
all-append tasks [] more all too = too
all-append tasks (name ∷ some) more all too = (all.0, all-append tasks some more all.1 too)

any-within : (name : List ℕ) (front names : List (List ℕ)) → list_any (bytes_eq name) (front ++ name ∷ names) ≡ true
any-within name [] names = (let own = own-name name in rw own refl)
any-within name (first ∷ front) names = by (bytes_eq name first) (any-within name front names)
  where
    by : (same : Bool) → list_any (bytes_eq name) (front ++ name ∷ names) ≡ true → (same || list_any (bytes_eq name) (front ++ name ∷ names)) ≡ true
    by true rest = refl
    by false rest = rest

starters-tasks : (front names : List (List ℕ)) (test : List ℕ → Bool)
    → AllByRecursion (λ name. list_any (bytes_eq name) (front ++ names) ≡ true) (filter test names)
starters-tasks front [] test = tt
starters-tasks front (name ∷ names) test =
    by (test name) refl (subst (λ tasks. AllByRecursion (λ name. list_any (bytes_eq name) tasks ≡ true) (filter test names)) (moved front name names)
    (starters-tasks (front ++ name ∷ []) names test))
  where
    moved : (front : List (List ℕ)) (name : List ℕ) (names : List (List ℕ)) → (front ++ name ∷ []) ++ names ≡ front ++ name ∷ names
    moved front name names = append_assoc front (name ∷ []) names

    by : (due : Bool) → test name ≡ due → AllByRecursion (λ n. list_any (bytes_eq n) (front ++ name ∷ names) ≡ true) (filter test names)
        → AllByRecursion (λ n. list_any (bytes_eq n) (front ++ name ∷ names) ≡ true) (filter test (name ∷ names))
    by true e all = rw e (any-within name front names, all)
    by false e all = rw e all

known-second : (s : Script) → IsKnown s → IsKnown (next_second s)
known-second s known = record {
  apart = known.apart;
  started = all-append s.tasks (starters s (s.now + 1)) s.started (starters-tasks [] s.tasks _) known.started;
}

known-seconds : (seconds : ℕ) (s : Script) → IsKnown s → IsKnown (behind_seconds seconds s)
known-seconds zero s known = known
known-seconds (suc seconds) s known = known-seconds seconds (next_second s) (known-second s known)

runs-seconds : (place seconds : ℕ) (s : Script) → IsKnown s
    → length (starts_of_seconds place seconds s) + runs_at place s ≡ runs_at place (behind_seconds seconds s)
runs-seconds place zero s known = omega arith
runs-seconds place (suc seconds) s known =
    let one = runs-second place s known in
    let rest = runs-seconds place seconds (next_second s) (known-second s known) in
    let sum = length-append (starts_in_second place s (s.now + 1)) (starts_of_seconds place seconds (next_second s)) in
    omega (arith, one, rest, sum)

-- ---- one task more
pub any-more : (test : List ℕ → Bool) (tasks : List (List ℕ)) (name : List ℕ) → list_any test tasks ≡ true → list_any test (tasks ++ name ∷ []) ≡ true
any-more test [] name some = absurd cc
any-more test (task ∷ tasks) name some = by (test task) refl (any-more test tasks name)
  where
    by : (t : Bool) → test task ≡ t → (list_any test tasks ≡ true → list_any test (tasks ++ name ∷ []) ≡ true)
        → (test task || list_any test (tasks ++ name ∷ [])) ≡ true
    by true e rest = rw e refl
    by false e rest = rw e (rest (rw e at some))

none-more : (test : List ℕ → Bool) (tasks : List (List ℕ)) (name : List ℕ) → list_any test tasks ≡ false → test name ≡ false
    → list_any test (tasks ++ name ∷ []) ≡ false
none-more test [] name none last = rw last refl
none-more test (task ∷ tasks) name none last = by (test task) refl (λ rest. none-more test tasks name rest last)
  where
    by : (t : Bool) → test task ≡ t → (list_any test tasks ≡ false → list_any test (tasks ++ name ∷ []) ≡ false)
        → (test task || list_any test (tasks ++ name ∷ [])) ≡ false
    by true e rest = absurd (let some : list_any test (task ∷ tasks) ≡ true = rw e refl in cc)
    by false e rest = rw e (rest (rw e at none))

apart-more : (tasks : List (List ℕ)) (name : List ℕ) → AreApart tasks → list_any (bytes_eq name) tasks ≡ false → AreApart (tasks ++ name ∷ [])
apart-more [] name apart none = (refl, tt)
apart-more (task ∷ tasks) name apart none = by (bytes_eq name task) refl (apart-more tasks name apart.1)
  where
    by : (t : Bool) → bytes_eq name task ≡ t → (list_any (bytes_eq name) tasks ≡ false → AreApart (tasks ++ name ∷ [])) → AreApart ((task ∷ tasks) ++ name ∷ [])
    by true e rest = absurd (let some : list_any (bytes_eq name) (task ∷ tasks) ≡ true = rw e refl in cc)
    by false e rest =
        let differ : bytes_eq task name ≡ false = other-name task name (λ same. (let own = own-name name in
        let no : bytes_eq name name ≡ false = subst (λ n. bytes_eq name n ≡ false) same e in cc)) in
        (none-more (bytes_eq task) tasks name apart.0 differ, rest (rw e at none))

started-more : (tasks started : List (List ℕ)) (name : List ℕ) → AllByRecursion (λ n. list_any (bytes_eq n) tasks ≡ true) started
    → AllByRecursion (λ n. list_any (bytes_eq n) (tasks ++ name ∷ []) ≡ true) started
started-more tasks [] name all = tt
started-more tasks (first ∷ started) name all = (any-more (bytes_eq first) tasks name all.0, started-more tasks started name all.1)

never-started : (name : List ℕ) (tasks started : List (List ℕ)) → list_any (bytes_eq name) tasks ≡ false
    → AllByRecursion (λ n. list_any (bytes_eq n) tasks ≡ true) started → length (filter (λ n. bytes_eq n name) started) ≡ 0
never-started name tasks [] none all = refl
never-started name tasks (first ∷ started) none all = by (bytes_eq first name) refl (never-started name tasks started none all.1)
  where
    by : (t : Bool) → bytes_eq first name ≡ t → length (filter (λ n. bytes_eq n name) started) ≡ 0
        → length (filter (λ n. bytes_eq n name) (first ∷ started)) ≡ 0
    by true e rest =
        let same = (bytes_eq-Decides first name).0 e in
        let some = subst (λ n. list_any (bytes_eq n) tasks ≡ true) same all.0 in
        absurd cc
    by false e rest = rw e rest

runs-more : (s : Script) (names : List (List ℕ)) (name : List ℕ) (place : ℕ) → times_started name s ≡ 0
    → runs_named (slice_get names place) s ≡ runs_named (slice_get (names ++ name ∷ []) place) s
runs-more s [] name zero none = sym none
runs-more s [] name (suc place) none = refl
runs-more s (first ∷ names) name zero none = refl
runs-more s (first ∷ names) name (suc place) none = runs-more s names name place none

runs-tasks : (held : Option (List ℕ)) (s : Script) (tasks : List (List ℕ)) → runs_named held (record s { tasks = tasks }) ≡ runs_named held s
runs-tasks None s tasks = refl
runs-tasks (Some name) s tasks = refl

-- ---- a line
not-task : (is room : Bool) → (not is && room) ≡ true → is ≡ false
not-task false room e = refl
not-task true room e = absurd cc

known-line : (s : Script) (line : Typed) → IsKnown s → IsKnown (behind_line s line)
known-line s Blank known = known
known-line s (Names name) known = by (may_name s name) refl
  where
    by : (may : Bool) → may_name s name ≡ may → IsKnown (behind_line s (Names name))
    by false e = rw e known
    by true e = rw e (record {
      apart = apart-more s.tasks name known.apart (not-task (is_task s name) (nat_lt (length s.tasks) 8) e);
      started = started-more s.tasks s.started name known.started;
    })
known-line s (Plans name time period) known = by (may_plan s name time) refl
  where
    by : (may : Bool) → may_plan s name time ≡ may → IsKnown (behind_line s (Plans name time period))
    by false e = rw e known
    by true e = rw e (record { apart = known.apart; started = known.started })
known-line s (Stops name) known = by (is_task s name) refl
  where
    by : (may : Bool) → is_task s name ≡ may → IsKnown (behind_line s (Stops name))
    by false e = rw e known
    by true e = rw e (record { apart = known.apart; started = known.started })
known-line s (Passes seconds) known = by (within_clock s seconds) refl
  where
    by : (may : Bool) → within_clock s seconds ≡ may → IsKnown (behind_line s (Passes seconds))
    by false e = rw e known
    by true e = rw e (known-seconds seconds s known)
known-line s Bad known = known

plus-none : (a b : ℕ) → a ≡ b → 0 + a ≡ b
plus-none a b e = omega (arith, e)

runs-line : (place : ℕ) (s : Script) (line : Typed) → IsKnown s → length (starts_of_line place s line) + runs_at place s ≡ runs_at place (behind_line s line)
runs-line place s Blank known = omega arith
runs-line place s (Names name) known = plus-none _ _ (by (may_name s name) refl)
  where
    by : (may : Bool) → may_name s name ≡ may → runs_at place s ≡ runs_at place (behind_line s (Names name))
    by false e = rw e refl
    by true e =
        let none = never-started name s.tasks s.started (not-task (is_task s name) (nat_lt (length s.tasks) 8) e) known.started in
        rw e (runs-more s s.tasks name place none ∙ sym (runs-tasks (slice_get (s.tasks ++ name ∷ []) place) s (s.tasks ++ name ∷ [])))
runs-line place s (Plans name time period) known = plus-none _ _ (by (may_plan s name time) refl)
  where
    same : (held : Option (List ℕ)) (accepted : List Change) → runs_named held s ≡ runs_named held (record s { accepted = accepted })
    same None accepted = refl
    same (Some n) accepted = refl

    by : (may : Bool) → may_plan s name time ≡ may → runs_at place s ≡ runs_at place (behind_line s (Plans name time period))
    by false e = rw e refl
    by true e = rw e (same (slice_get s.tasks place) _)
runs-line place s (Stops name) known = plus-none _ _ (by (is_task s name) refl)
  where
    same : (held : Option (List ℕ)) (accepted : List Change) → runs_named held s ≡ runs_named held (record s { accepted = accepted })
    same None accepted = refl
    same (Some n) accepted = refl

    by : (may : Bool) → is_task s name ≡ may → runs_at place s ≡ runs_at place (behind_line s (Stops name))
    by false e = rw e refl
    by true e = rw e (same (slice_get s.tasks place) _)
runs-line place s (Passes seconds) known = by (within_clock s seconds) refl
  where
    by : (may : Bool) → within_clock s seconds ≡ may
        → length (starts_of_line place s (Passes seconds)) + runs_at place s ≡ runs_at place (behind_line s (Passes seconds))
    by false e = rw e (omega arith)
    by true e = rw e (runs-seconds place seconds s known)
runs-line place s Bad known = omega arith

-- ---- a whole script
known-all : (s : Script) (items : List Item) → IsKnown s → IsKnown (behind_all s items)
known-all s [] known = known
known-all s (item ∷ items) known = known-all (behind_line s (typed item)) items (known-line s (typed item) known)

runs-all : (place : ℕ) (s : Script) (items : List Item) → IsKnown s → length (starts_from place s items) + runs_at place s ≡ runs_at place (behind_all s items)
runs-all place s [] known = omega arith
runs-all place s (item ∷ items) known =
    let one = runs-line place s (typed item) known in
    let rest = runs-all place (behind_line s (typed item)) items (known-line s (typed item) known) in
    let sum = length-append (starts_of_line place s (typed item)) (starts_from place (behind_line s (typed item)) items) in
    omega (arith, one, rest, sum)

pub runs-told : (place : ℕ) (items : List Item) (name : List ℕ) → slice_get (behind_all opening items).tasks place ≡ Some name
    → times_started name (behind_all opening items) ≡ length (starts_from place opening items)
runs-told place items name is =
    let all = runs-all place opening items (record { apart = tt; started = tt }) in
    let here : runs_at place (behind_all opening items) ≡ times_started name (behind_all opening items) = rw is refl in
    let none : runs_at place opening ≡ 0 = refl in
    omega (arith, all, here, none)
