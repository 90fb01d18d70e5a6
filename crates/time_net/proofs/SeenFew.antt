-- No task starts more than a million times, whatever was typed.
use Rattle.std.proofs.Common.{◌≡◌, ℕ, zero, suc, ◌+◌, ◌≤◌, Bool, true, false, Option, None, Some, List, [], ◌∷◌, ◌++◌, append_assoc, length, length-append, refl, sym, ◌∙◌, ap, subst, arith}
use Rattle.std.specs.Prelude.{if◌then◌else◌, slice_get}
use Rattle.std.proofs.lemmas.Bool.{leb-true}
use Rattle.solo_base.specs.declared.item.Item.{Item}
use Rattle.solo_base.specs.declared.item.Item.TheVariants as item
use Rattle.solo_devices.specs.declared.card_read.CardRead.{CardRead}
use Rattle.solo_devices.specs.declared.card_read.CardRead.TheVariants as read
use Rattle.solo_devices.specs.CardUnit.{GivesNext, item_of}
use Rattle.network_run.specs.declared.stepped.Stepped.{Stepped}
use Rattle.network_run.specs.declared.stepped.Stepped.TheVariants as stepped
use Rattle.network_run.specs.Law.{AreEnabled, IsReached, run}
use Rattle.real_time.specs.declared.table.Woken.{Woken}
use Rattle.real_time.specs.declared.table.Woken.TheVariants as woken
use Rattle.real_time.specs.declared.table.Waited.{Waited}
use Rattle.real_time.specs.declared.table.Waited.TheVariants as waited
use Rattle.real_time.specs.Table.{Table, all_left, has_left, operator_resumed, sleeper_at, waited_by, woken_by}
use Rattle.real_time.specs.declared.typed_line.Typed.{Typed}
use Rattle.real_time.specs.declared.typed_line.Typed.TheVariants.{Blank, Names, Plans, Stops, Passes, Bad}
use Rattle.real_time.specs.Typed.{typed}
use Rattle.real_time.specs.declared.plan.Plan.TheVariants.{Never, First}
use Rattle.real_time.specs.Starts.{Change, Script, behind_line, is_due, is_task, may_name, may_plan, next_second, opening, plan_of, within_clock}
use Rattle.real_time.specs.Deeds.{Deed, Enters, Shows, Wakes, Returns, starts, starts_from, starts_in_second, starts_named, starts_of_line, starts_of_seconds}
use Rattle.real_time.specs.States.{Stage, Works, Closes, Joins, Tells, Ended, Opening, TimeState, TimeEvent, Accepts, Displays, Moves, Moved, after_woken, behind_display, behind_fault, join_move, joined_by, move_of, occurs, opened, operator_move, seen_at, stage_told, task_move, MayHappen}
use Rattle.real_time.specs.TimesLaw.{timing}
use Rattle.real_time.proofs.Reaching.{Holds, at-opening, keeps, reads-at}
use Rattle.real_time.proofs.Accounts.{Accounts, accounts-open, keeps-accounts}
use Rattle.time_net.proofs.Ticking.{time-behind}

-- ---- a script has at most one start of a task in a second
few-named : (name : Option (List ℕ)) (accepted : List Change) (second : ℕ) → length (starts_named name accepted second) ≤ 1
few-named None accepted second = omega arith
few-named (Some name) accepted second = by (is_due (plan_of name accepted) second)
  where
    by : (due : Bool) → length (if due then second ∷ [] else []) ≤ 1
    by true = omega arith
    by false = omega arith

few-seconds : (place seconds : ℕ) (s : Script) → length (starts_of_seconds place seconds s) ≤ seconds
few-seconds place zero s = omega arith
few-seconds place (suc seconds) s =
    let one = few-named (slice_get s.tasks place) s.accepted (s.now + 1) in
    let sum = length-append (starts_in_second place s (s.now + 1)) (starts_of_seconds place seconds (next_second s)) in
    let rest = few-seconds place seconds (next_second s) in
    omega (arith, one, sum, rest)

same-now : (may : Bool) (changed s : Script) → changed.now ≡ s.now → (if may then changed else s).now ≡ s.now
same-now true changed s is = is
same-now false changed s is = refl

-- a line leaves the clock within its limit, and starts a task in as many seconds as it lets pass at most
few-line : (place : ℕ) (s : Script) (line : Typed) → s.now ≤ 1000000
    → ((behind_line s line).now ≤ 1000000) × (length (starts_of_line place s line) + s.now ≤ (behind_line s line).now)
few-line place s Blank few = (few, omega arith)
few-line place s (Names name) few =
    let same = same-now (may_name s name) (record s { tasks = s.tasks ++ name ∷ [] }) s refl in (omega (arith, few, same), omega (arith, same))
few-line place s (Plans name time period) few =
    let same = same-now (may_plan s name time) (record s { accepted = record { name = name; plan = First time period } ∷ s.accepted }) s refl in (
      omega
          (arith, few, same),
      omega (arith, same),
    )
few-line place s (Stops name) few =
    let same = same-now (is_task s name) (record s { accepted = record { name = name; plan = Never } ∷ s.accepted }) s refl in (
      omega
          (arith, few, same),
      omega (arith, same),
    )
few-line place s (Passes seconds) few = by (within_clock s seconds) refl
  where
    by : (within : Bool) → within_clock s seconds ≡ within
        → ((behind_line s (Passes seconds)).now ≤ 1000000)
        × (length (starts_of_line place s (Passes seconds)) + s.now ≤ (behind_line s (Passes seconds)).now)
    by true e =
        let most = leb-true (s.now + seconds) 1000000 e in
        let time = time-behind seconds s in
        let starts_few = few-seconds place seconds s in
        rw e (omega (arith, most, time), omega (arith, time, starts_few))
    by false e = rw e (few, omega arith)
few-line place s Bad few = (few, omega arith)

few-from : (place : ℕ) (s : Script) (items : List Item) → s.now ≤ 1000000 → length (starts_from place s items) + s.now ≤ 1000000
few-from place s [] few = omega (arith, few)
few-from place s (it ∷ items) few =
    let (now, many) = few-line place s (typed it) few in
    let rest = few-from place (behind_line s (typed it)) items now in
    let sum = length-append (starts_of_line place s (typed it)) (starts_from place (behind_line s (typed it)) items) in
    omega (arith, many, rest, sum)

few-starts : (place : ℕ) (items : List Item) → length (starts place items) ≤ 1000000
few-starts place items = (let all = few-from place opening items (omega arith) in omega (arith, all))

-- ---- the same events over keys that tell what was typed, and then end
abbrev with_keys : TimeState → List Item → TimeState
with_keys s rest = record s { keys = Some rest }

abbrev with_keys_to : Moved → List Item → Moved
with_keys_to m rest = record { how = m.how; to = with_keys m.to rest }

woken-keys : (w : Woken) (s : TimeState) (place second : ℕ) (deeds : List Deed) (rest : List Item)
    → after_woken w (with_keys s rest) place second deeds ≡ with_keys_to (after_woken w s place second deeds) rest
woken-keys woken.NotDue s place second deeds rest = refl
woken-keys woken.Continued s place second deeds rest = refl
woken-keys woken.Delayed s place second deeds rest = refl

joined-keys : (all : Bool) (how : Stepped) (s : TimeState) (t : Table) (rest : List Item)
    → joined_by all how (with_keys s rest) t ≡ with_keys_to (joined_by all how s t) rest
joined-keys true how s t rest = refl
joined-keys false how s t rest = refl

joins-keys : (operator : Option ℕ) (s : TimeState) (rest : List Item) → join_move operator (with_keys s rest) ≡ with_keys_to (join_move operator s) rest
joins-keys None s rest = joined-keys (all_left s.table) stepped.Acted s s.table rest
joins-keys (Some p) s rest = joined-keys (all_left s.table) stepped.Resumed s (operator_resumed s.table) rest

operator-keys : (stage : Stage) (s : TimeState) (rest : List Item) → operator_move stage (with_keys s rest) ≡ with_keys_to (operator_move stage s) rest
operator-keys (Works []) s rest = refl
operator-keys (Works (Enters line ∷ deeds)) s rest = refl
operator-keys (Works (Shows text ∷ deeds)) s rest = refl
operator-keys (Works (Wakes place second due ∷ deeds)) s rest = woken-keys (woken_by due (sleeper_at s.table.queues place)) s place second deeds rest
operator-keys (Works (Returns ∷ deeds)) s rest = refl
operator-keys Closes s rest = refl
operator-keys Joins s rest = joins-keys s.table.operator s rest
operator-keys (Tells place []) s rest = refl
operator-keys (Tells place (name ∷ names)) s rest = refl
operator-keys Ended s rest = refl

task-keys : (left : Bool) (held : Option ℕ) (s : TimeState) (place : ℕ) (rest : List Item)
    → task_move left held (with_keys s rest) place ≡ with_keys_to (task_move left held s place) rest
task-keys true held s place rest = refl
task-keys false (Some p) s place rest = refl
task-keys false None s place rest = refl

move-keys : (s : TimeState) (p : ℕ) (rest : List Item) → move_of (with_keys s rest) p ≡ with_keys_to (move_of s p) rest
move-keys s zero rest = refl
move-keys s (suc zero) rest = operator-keys s.stage s rest
move-keys s (suc (suc place)) rest = task-keys (has_left s.table place) (sleeper_at s.table.queues place) s place rest

-- behind the keys nothing is left of them
abbrev FitsRest : Stage → List Item → Type 0
FitsRest (Works deeds) rest = Unit {0}
FitsRest Closes rest = rest ≡ []
FitsRest Joins rest = rest ≡ []
FitsRest (Tells place names) rest = rest ≡ []
FitsRest Ended rest = rest ≡ []

-- What is accounted for, whatever else is typed.
abbrev Accounted : List Item → TimeState → Type 0
Accounted given s = (rest : List Item) → FitsRest s.stage rest → Accounts (given ++ rest) (with_keys s rest)

-- ---- what an event leaves of them
fits-display : (stage : Stage) (rest : List Item) → FitsRest (behind_display stage) rest → FitsRest stage rest
fits-display (Works []) rest fits = tt
fits-display (Works (deed ∷ deeds)) rest fits = tt
fits-display Closes rest fits = fits
fits-display Joins rest fits = fits
fits-display (Tells place []) rest fits = fits
fits-display (Tells place (name ∷ names)) rest fits = fits
fits-display Ended rest fits = fits

fits-fault : (stage : Stage) (rest : List Item) → FitsRest (behind_fault stage) rest → FitsRest stage rest
fits-fault (Works deeds) rest fits = tt
fits-fault Closes rest fits = fits
fits-fault Joins rest fits = fits
fits-fault (Tells place names) rest fits = fits
fits-fault Ended rest fits = fits

fits-joined : (all : Bool) (how : Stepped) (s : TimeState) (t : Table) (rest : List Item) → FitsRest (joined_by all how s t).to.stage rest → rest ≡ []
fits-joined true how s t rest fits = fits
fits-joined false how s t rest fits = fits

fits-joins : (operator : Option ℕ) (s : TimeState) (rest : List Item) → FitsRest (join_move operator s).to.stage rest → rest ≡ []
fits-joins None s rest fits = fits-joined (all_left s.table) stepped.Acted s s.table rest fits
fits-joins (Some p) s rest fits = fits-joined (all_left s.table) stepped.Resumed s (operator_resumed s.table) rest fits

fits-operator : (s : TimeState) (stage : Stage) (rest : List Item) → s.stage ≡ stage → FitsRest (operator_move stage s).to.stage rest → FitsRest stage rest
fits-operator s (Works deeds) rest is fits = tt
fits-operator s Closes rest is fits = fits
fits-operator s Joins rest is fits = fits-joins s.table.operator s rest fits
fits-operator s (Tells place []) rest is fits = fits
fits-operator s (Tells place (name ∷ names)) rest is fits = subst (λ stage. FitsRest stage rest) is fits
fits-operator s Ended rest is fits = subst (λ stage. FitsRest stage rest) is fits

fits-told : (w : Waited) (stage : Stage) (rest : List Item) → FitsRest (stage_told w stage) rest → FitsRest stage rest
fits-told (waited.Starts second) (Works []) rest fits = tt
fits-told (waited.Starts second) (Works (deed ∷ deeds)) rest fits = tt
fits-told (waited.Starts second) Closes rest fits = fits
fits-told (waited.Starts second) Joins rest fits = fits
fits-told (waited.Starts second) (Tells place names) rest fits = fits
fits-told (waited.Starts second) Ended rest fits = fits
fits-told waited.Leaves stage rest fits = fits
fits-told waited.Delayed stage rest fits = fits

fits-task : (left : Bool) (held : Option ℕ) (s : TimeState) (place : ℕ) (rest : List Item) → FitsRest (task_move left held s place).to.stage rest
    → FitsRest s.stage rest
fits-task true held s place rest fits = fits
fits-task false (Some p) s place rest fits = fits
fits-task false None s place rest fits = fits-told (waited_by s.table place) s.stage rest fits

-- ---- an event goes so over them too
holds-keys : (s : TimeState) (rest : List Item) → Holds s → Holds (with_keys s rest)
holds-keys s rest h = record { table = h.table; fits = h.fits; tasks = h.tasks; lists = h.lists; ends = h.ends }

same-some : (a b : List Item) → Some a ≡ Some b → b ≡ a
same-some a b e = cc

gives-one : (it : Item) (rest : List Item) (answer : CardRead) → item_of answer ≡ it ∷ [] → (answer ≡ read.End → ⊥)
    → GivesNext (Some (it ∷ rest)) (Some rest) answer
gives-one it rest answer is more = record {
  told = λ items e. record {
    rest = rest;
    now_are = refl;
    items_are = same-some (it ∷ rest) items e ∙ ap (λ front. front ++ rest) (sym is);
    end = λ end. absurd (more end);
  };
  untold = λ none. absurd cc;
}

gives-none : (rest : List Item) (answer : CardRead) → item_of answer ≡ [] → (answer ≡ read.End → rest ≡ []) → GivesNext (Some rest) (Some rest) answer
gives-none rest answer is over = record {
  told = λ items e. record {
    rest = rest;
    now_are = refl;
    items_are = same-some rest items e ∙ ap (λ front. front ++ rest) (sym is);
    end = λ end. same-some rest items e ∙ over end;
  };
  untold = λ none. absurd cc;
}

module _ (given : List Item) (s : TimeState) (h : Holds s) (accounted : Accounted given s) where
  reading : (rest : List Item) → s.stage ≡ Works [] → Accounts (given ++ rest) (with_keys s rest)
  reading rest is = accounted rest (subst (λ stage. FitsRest stage rest) (sym is) tt)

  take-one : (it : Item) (answer : CardRead) (rest : List Item) → MayHappen (with_keys s (it ∷ rest)) (Accepts answer) → s.stage ≡ Works []
      → Accounts ((given ++ it ∷ []) ++ rest) (occurs (with_keys s (it ∷ rest)) (Accepts answer))
  take-one it answer rest happens is =
      subst (λ items. Accounts items (occurs (with_keys s (it ∷ rest)) (Accepts answer))) (sym (append_assoc given (it ∷ []) rest))
      (keeps-accounts (given ++ it ∷ rest) (with_keys s (it ∷ rest)) (Accepts answer) (holds-keys s (it ∷ rest) h) (reading (it ∷ rest) is) happens)

  take-none : (answer : CardRead) (rest : List Item) → MayHappen (with_keys s rest) (Accepts answer) → s.stage ≡ Works []
      → Accounts (given ++ rest) (occurs (with_keys s rest) (Accepts answer))
  take-none answer rest happens is =
      keeps-accounts (given ++ rest) (with_keys s rest) (Accepts answer) (holds-keys s rest h) (reading rest is) happens

  accounted-more : (event : TimeEvent) → MayHappen s event → (later : List Item) × Accounted later (occurs s event)
  accounted-more (Accepts (read.Card line)) is = (
    given ++ item.Line line ∷ [],
    λ rest fits. take-one (item.Line line) (read.Card line) rest (
      is.0,
      gives-one (item.Line line) rest (read.Card line) refl
          (λ end. absurd cc),
    ) (reads-at s.stage s.seen is.0),
  )
  accounted-more (Accepts read.Spoiled) is = (
    given ++ item.Spoiled ∷ [],
    λ rest fits. take-one item.Spoiled read.Spoiled rest (
      is.0,
      gives-one item.Spoiled rest read.Spoiled refl
          (λ end. absurd cc),
    ) (reads-at s.stage s.seen is.0),
  )
  accounted-more (Accepts read.End) is =
      (given, λ rest fits. take-none read.End rest (is.0, gives-none rest read.End refl (λ end. fits)) (reads-at s.stage s.seen is.0))
  accounted-more (Accepts read.Failed) is =
      (given, λ rest fits. take-none read.Failed rest (is.0, gives-none rest read.Failed refl (λ end. absurd cc)) (reads-at s.stage s.seen is.0))
  accounted-more (Accepts read.Limit) is =
      (given, λ rest fits. take-none read.Limit rest (is.0, gives-none rest read.Limit refl (λ end. absurd cc)) (reads-at s.stage s.seen is.0))
  accounted-more (Displays None now) is = (
    given,
    λ rest fits. keeps-accounts (given ++ rest) (with_keys s rest) (Displays None now) (holds-keys s rest h)
        (accounted rest (fits-display s.stage rest fits)) is,
  )
  accounted-more (Displays (Some fault) now) is = (
    given,
    λ rest fits. keeps-accounts (given ++ rest) (with_keys s rest) (Displays (Some fault) now) (holds-keys s rest h)
        (accounted rest (fits-fault s.stage rest fits)) is,
  )
  accounted-more (Moves zero how) is = absurd is.0
  accounted-more (Moves (suc zero) how) is = (
    given,
    λ rest fits. (let same = operator-keys s.stage s rest in
        subst (λ m. Accounts (given ++ rest) m.to) same (keeps-accounts (given ++ rest) (with_keys s rest) (Moves 1 how) (holds-keys s rest h)
        (accounted rest (fits-operator s s.stage rest refl fits)) (is.0, is.1, is.2 ∙ sym (ap (λ (m : Moved). m.how) same)))),
  )
  accounted-more (Moves (suc (suc place)) how) is = (
    given,
    λ rest fits. (let same = task-keys (has_left s.table place) (sleeper_at s.table.queues place) s place rest in
        subst (λ m. Accounts (given ++ rest) m.to) same (keeps-accounts (given ++ rest) (with_keys s rest) (Moves (suc (suc place)) how) (holds-keys s rest h)
        (accounted rest (fits-task (has_left s.table place) (sleeper_at s.table.queues place) s place rest fits))
        (is.0, is.1, is.2 ∙ sym (ap (λ (m : Moved). m.how) same)))),
  )

accounted-along : (given : List Item) (s : TimeState) (events : List TimeEvent) → Holds s → Accounted given s → AreEnabled timing s events
    → (later : List Item) × Accounted later (run timing s events)
accounted-along given s [] h accounted all = (given, accounted)
accounted-along given s (event ∷ events) h accounted all =
    let (later, more) = accounted-more given s h accounted event all.0 in
    accounted-along later (occurs s event) events (keeps s event h all.0) more all.1

accounted-first : (o : Opening) → Accounted [] (opened o)
accounted-first o rest fits = accounts-open record { keys = Some rest; console = o.console } rest refl

few-of : (seen pending more all : List ℕ) → seen ++ (pending ++ more) ≡ all → length all ≤ 1000000 → length seen ≤ 1000000
few-of seen pending more all is few =
    let sum = length-append seen (pending ++ more) in
    let same = ap length is in
    omega (arith, sum, same, few)

none-fits : (stage : Stage) → FitsRest stage []
none-fits (Works deeds) = tt
none-fits Closes = refl
none-fits Joins = refl
none-fits (Tells place names) = refl
none-fits Ended = refl

pub seen-few : (o : Opening) (s : TimeState) → IsReached timing (opened o) s → (place : ℕ) → length (seen_at s place) ≤ 1000000
seen-few o s reached place =
    let (given, accounted) = accounted-along [] (opened o) reached.events (at-opening o) (accounted-first o) reached.enabled in
    subst (λ s. length (seen_at s place) ≤ 1000000) reached.leads (by given (run timing (opened o) reached.events) accounted)
  where
    by : (given : List Item) (s : TimeState) → Accounted given s → length (seen_at s place) ≤ 1000000
    by given s accounted =
        let one = (accounted [] (none-fits s.stage)).starts place in
        few-of (seen_at s place) _ one.more (starts place (given ++ [])) one.all_are (few-starts place (given ++ []))
