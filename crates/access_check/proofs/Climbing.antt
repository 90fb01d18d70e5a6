-- Where a description is accepted, no run of its processes leads to a cycle: each process is inside monitors that
-- stand ever later in the order, so who waits stands before who is waited for.
use Rattle.std.proofs.Common.{◌≡◌, ℕ, ◌+◌, ◌<◌, ◌≤◌, Bool, true, false, cond, not, List, [], ◌∷◌, ◌++◌, refl, sym, arith, append_assoc}
use Rattle.std.proofs.lemmas.Grind.{flat_map-append}
use Rattle.std.specs.Prelude.{◌&&◌, find, is_some, flat_map, Option, Some, None, Result, Ok, Err, OnOk}
use Rattle.std.specs.Option.{unwrap_or, option_map_or}
use Rattle.std.specs.List.{list_all, position_from}
use Rattle.std.proofs.lemmas.Bool.Decides.{nat_tests}
use mathlib.Core.Logic.{◌⊎◌, inl, inr}
use Rattle.solo_base.specs.declared.item.Item.{Item}
use Rattle.access_check.specs.declared.card.Card.{Card}
use Rattle.access_check.specs.declared.card.Card.TheVariants as card
use Rattle.access_check.specs.declared.description.Description.{Description}
use Rattle.access_check.specs.declared.fault.Accepted.{Accepted}
use Rattle.access_check.specs.declared.fault.AccessFault.{AccessFault}
use Rattle.access_check.specs.Places.{same, place, has}
use Rattle.access_check.specs.Cards.{card_meaning}
use Rattle.access_check.specs.Description.{Access, description, rights, rights_in, rights_to, monitors_in}
use Rattle.access_check.specs.Judgement.{when, or_else, card_number, is_declared, card_fault, first_card_fault, missing, is_later, is_backward, backward, missing_fault, backward_fault, fault, judge, accepted}
use Rattle.access_check.specs.Runs.{IsListed, HasRight, MonitorsInside, at_first, MonitorMove, Enters, Leaves, without_last_entered, moved, caller_in, caller, May, RunFrom, led_to, WaitsFor, WaitInTurn, HasCycle, HasNoCycle}

-- ---- what an accepted description says of its rights

no_first : (first later : Option AccessFault) → or_else first later ≡ None → first ≡ None
no_first (Some fault) later is = absurd (grind arith)
no_first None later is = refl

no_later : (first later : Option AccessFault) → or_else first later ≡ None → later ≡ None
no_later (Some fault) later is = absurd (grind arith)
no_later None later is = is

no_fault : (found : Option AccessFault) (answer told : Accepted) → option_map_or Err found (Ok answer) ≡ Ok told → found ≡ None
no_fault (Some fault) answer told is = absurd (grind arith)
no_fault None answer told is = refl

none_backward : (found : Option Access) → backward_fault found ≡ None → found ≡ None
none_backward (Some a) is = absurd (grind arith)
none_backward None is = refl

not_when : (b : Bool) (fault : AccessFault) → when b fault ≡ None → b ≡ false
not_when true fault is = absurd (grind arith)
not_when false fault is = refl

fails_first : (b : Bool) (a : Access) (more : Option Access) → cond b (Some a) more ≡ None → b ≡ false
fails_first true a more is = absurd (grind arith)
fails_first false a more is = refl

fails_later : (b : Bool) (a : Access) (more : Option Access) → cond b (Some a) more ≡ None → more ≡ None
fails_later true a more is = absurd (grind arith)
fails_later false a more is = is

-- none of them passes a test that finds none
each_fails : (test : Access → Bool) (accesses : List Access) (a : Access) → find test accesses ≡ None → IsListed a accesses → test a ≡ false
each_fails test [] a none here = absurd here
each_fails test (x ∷ more) a none (inl e) = rw e (fails_first (test x) x (find test more) none)
each_fails test (x ∷ more) a none (inr there) = each_fails test more a (fails_later (test x) x (find test more) none) there

-- ---- each right is one to a declared monitor

both_first : (b c : Bool) → (b && c) ≡ true → b ≡ true
both_first true c is = refl
both_first false c is = absurd (grind arith)

both_second : (b c : Bool) → (b && c) ≡ true → c ≡ true
both_second true c is = is
both_second false c is = absurd (grind arith)

unless : (b : Bool) → not b ≡ false → b ≡ true
unless true is = refl
unless false is = absurd (grind arith)

-- each of some rights is one to a monitor of the list
AreTo : List (List ℕ) → List Access → Type 0
AreTo monitors accesses = (a : Access) → IsListed a accesses → has monitors a.monitor ≡ true

rights_are_to : (monitors : List (List ℕ)) (holder : List ℕ) (names : List (List ℕ))
    → list_all (has monitors) names ≡ true → (a : Access) → IsListed a (rights_to holder names) → has monitors a.monitor ≡ true
rights_are_to monitors holder [] all a here = absurd here
rights_are_to monitors holder (name ∷ more) all a (inl e) = rw e (both_first (has monitors name) (list_all (has monitors) more) all)
rights_are_to monitors holder (name ∷ more) all a (inr there) =
    rights_are_to monitors holder more (both_second (has monitors name) (list_all (has monitors) more) all) a there

of_card : (d : Description) (number : ℕ) (c : Card) → card_fault d number c ≡ None
    → (a : Access) → IsListed a (rights_in c) → has d.monitors a.monitor ≡ true
of_card d number card.Blank none a here = absurd here
of_card d number card.Bad none a here = absurd here
of_card d number (card.Monitor name) none a here = absurd here
of_card d number (card.Process name) none a here = absurd here
of_card d number (card.Order names) none a here = absurd here
of_card d number (card.Right holder names) none a here =
    rights_are_to d.monitors holder names
    (both_second (is_declared d holder) (list_all (has d.monitors) names)
    (unless (is_declared d holder && list_all (has d.monitors) names) (not_when (not (is_declared d holder && list_all (has d.monitors) names)) _ none)))
    a here

found_on : (b : Bool) (i : ℕ) (front both : Option ℕ) → (is_some front ≡ true → is_some both ≡ true)
    → is_some (cond b (Some i) front) ≡ true → is_some (cond b (Some i) both) ≡ true
found_on true i front both on is = refl
found_on false i front both on is = on is

-- what stands in a list stands in it where more stands behind it
stays : (names more : List (List ℕ)) (i : ℕ) (name : List ℕ)
    → is_some (position_from (same name) i names) ≡ true → is_some (position_from (same name) i (names ++ more)) ≡ true
stays [] more i name is = absurd (grind arith)
stays (x ∷ names) more i name is =
    found_on (same name x) i (position_from (same name) (i + 1) names) (position_from (same name) (i + 1) (names ++ more)) (stays names more (i + 1) name) is

declared_in : Item → List (List ℕ)
declared_in item = monitors_in (card_meaning item)

in_either : (front back : List Access) (a : Access) → IsListed a (front ++ back) → IsListed a front ⊎ IsListed a back
in_either [] back a here = inr here
in_either (x ∷ front) back a (inl e) = inl (inl e)
in_either (x ∷ front) back a (inr there) = elim (in_either front back a there) [ inl first ↦ inl (inr first) | inr second ↦ inr second ]

-- where no card has a fault
rights_declared : (before behind : List Item) → first_card_fault before behind ≡ None
    → (a : Access) → IsListed a (rights behind) → has (description (before ++ behind)).monitors a.monitor ≡ true
rights_declared before [] none a here = absurd here
rights_declared before (item ∷ behind) none a here =
    let rest : Option AccessFault = first_card_fault (before ++ item ∷ []) behind in
    let own : card_fault (description before) (card_number before) (card_meaning item) ≡ None = no_first _ rest none in
    let later : rest ≡ None = no_later (card_fault (description before) (card_number before) (card_meaning item)) rest none in
    elim (in_either (rights_in (card_meaning item)) (rights behind) a here) [
      | inl first ↦
          rw (flat_map-append (λ i. monitors_in (card_meaning i)) before (item ∷ behind))
          (stays (description before).monitors (flat_map (λ i. monitors_in (card_meaning i)) (item ∷ behind)) 0 a.monitor
          (of_card (description before) (card_number before) (card_meaning item) own a first))
      | inr second ↦ rw (← append_assoc before (item ∷ []) behind) (rights_declared (before ++ item ∷ []) behind later a second)
    ]

-- ---- the places of monitors in the order

-- how far behind a monitor stands in the order
height : Description → List ℕ → ℕ
height d name = unwrap_or (place d.order name) 0

rises : (here there : Option ℕ) → is_later here there ≡ true → unwrap_or here 0 < unwrap_or there 0
rises (Some here) (Some there) is = grind (arith, nat_tests)
rises (Some here) None is = absurd (grind arith)
rises None there is = absurd (grind arith)

forward : (b c : Bool) → (b && not c) ≡ false → b ≡ true → c ≡ true
forward b true is on = refl
forward true false is on = absurd (grind arith)
forward false false is on = absurd (grind arith)

-- what an accepted description says of each of its rights
record Rises (items : List Item) : Type 0 where
  declared : (a : Access) → IsListed a (rights items) → has (description items).monitors a.monitor ≡ true
  later : (a : Access) → IsListed a (rights items) → has (description items).monitors a.holder ≡ true
      → height (description items) a.holder < height (description items) a.monitor

accepted_rises : (items : List Item) (told : Accepted) → judge items ≡ Ok told → Rises items
unfolding height
accepted_rises items told is =
    let d : Description = description items in
    let whole : fault items ≡ None = no_fault (fault items) (accepted d) told is in
    let cards : first_card_fault [] items ≡ None = no_first (first_card_fault [] items) _ whole in
    let order : or_else (missing_fault (missing d)) (backward_fault (backward d (rights items))) ≡ None = no_later (first_card_fault [] items) _ whole in
    let none : backward d (rights items) ≡ None = none_backward (backward d (rights items)) (no_later (missing_fault (missing d)) _ order) in
    record {
      declared = rights_declared [] items cards;
      later = λ a here monitor.
          rises (place d.order a.holder) (place d.order a.monitor)
          (forward (has d.monitors a.holder) (is_later (place d.order a.holder) (place d.order a.monitor))
          (each_fails (is_backward d) (rights items) a none here) monitor);
    }

-- ---- the monitors that a process is inside

-- the next one stands before this in the order
Above : Description → List ℕ → List (List ℕ) → Type 0
unfolding height
Above d name [] = Unit {0}
Above d name (next ∷ more) = height d next < height d name

-- declared monitors, each later in the order than the one that was entered before it
Stacked : Description → List (List ℕ) → Type 0
Stacked d [] = Unit {0}
Stacked d (name ∷ more) = (has d.monitors name ≡ true) × Above d name more × Stacked d more

AreStacked : List Item → MonitorsInside → Type 0
AreStacked items state = (process : List ℕ) → Stacked (description items) (state process)

-- who calls stands above all monitors that the process is inside
highest : (d : Description) (process name : List ℕ) (inside : List (List ℕ)) → Stacked d inside → IsListed name inside
    → height d name ≤ height d (caller_in process inside)
unfolding Stacked Above
highest d process name [] stacked here = absurd here
highest d process name (last ∷ others) stacked (inl e) = rw e (omega arith)
highest d process name (last ∷ []) stacked (inr there) = absurd there
highest d process name (last ∷ next ∷ more) stacked (inr there) =
    let rest : height d name ≤ height d next = highest d process name (next ∷ more) stacked.2 there in
    let step : height d next < height d last = stacked.1 in
    omega arith

-- where a process is inside a monitor, a declared one calls for it
calls : (d : Description) (process name : List ℕ) (inside : List (List ℕ)) → Stacked d inside → IsListed name inside
    → has d.monitors (caller_in process inside) ≡ true
unfolding Stacked
calls d process name [] stacked here = absurd here
calls d process name (last ∷ others) stacked here = stacked.0

entered : (items : List Item) (rises : Rises items) (process name : List ℕ) (inside : List (List ℕ))
    → HasRight items (caller_in process inside) name → Stacked (description items) inside → Stacked (description items) (name ∷ inside)
unfolding Stacked Above
entered items rises process name [] right stacked = (rises.declared _ right, tt, tt)
entered items rises process name (last ∷ others) right stacked = (rises.declared _ right, rises.later _ right stacked.0, stacked)

left : (d : Description) (inside : List (List ℕ)) → Stacked d inside → Stacked d (without_last_entered inside)
unfolding Stacked
left d [] stacked = stacked
left d (last ∷ others) stacked = stacked.2

for_one : (d : Description) (b : Bool) (own others : List (List ℕ)) → Stacked d own → Stacked d others → Stacked d (cond b own others)
for_one d true own others first second = first
for_one d false own others first second = second

moves_on : (items : List Item) → Rises items → (state : MonitorsInside) (move : MonitorMove) → May items state move
    → AreStacked items state → AreStacked items (moved state move)
unfolding AreStacked
moves_on items rises state (Enters process monitor) may stacked = λ other.
    for_one (description items) (same process other) (monitor ∷ state process) (state other)
    (entered items rises process monitor (state process) may.right (stacked process)) (stacked other)
moves_on items rises state (Leaves process) may stacked = λ other.
    for_one (description items) (same process other) (without_last_entered (state process)) (state other)
    (left (description items) (state process) (stacked process)) (stacked other)

runs_on : (items : List Item) → Rises items → (state : MonitorsInside) (moves : List MonitorMove) → RunFrom items state moves
    → AreStacked items state → AreStacked items (led_to state moves)
runs_on items rises state [] run stacked = stacked
runs_on items rises state (move ∷ moves) run stacked =
    runs_on items rises (moved state move) moves run.1 (moves_on items rises state move run.0 stacked)

-- ---- who waits

-- a process is inside some monitor
record IsInside (state : MonitorsInside) (process : List ℕ) : Type 0 where
  monitor : List ℕ
  here : IsListed monitor (state process)

one_wait : (items : List Item) (rises : Rises items) (state : MonitorsInside) → AreStacked items state → (process other : List ℕ)
    → WaitsFor items state process other → IsInside state process
    → height (description items) (caller state process) < height (description items) (caller state other)
unfolding AreStacked
one_wait items rises state stacked process other waits inside =
    let d : Description = description items in
    let declared : has d.monitors (caller state process) ≡ true = calls d process inside.monitor (state process) (stacked process) inside.here in
    let first : height d (caller state process) < height d waits.monitor = rises.later _ waits.right declared in
    let second : height d waits.monitor ≤ height d (caller state other) = highest d other waits.monitor (state other) (stacked other) waits.inside in
    omega arith

is_waited_for : (items : List Item) (state : MonitorsInside) (process other : List ℕ) → WaitsFor items state process other → IsInside state other
is_waited_for items state process other waits = record { monitor = waits.monitor; here = waits.inside }

waits_up : (items : List Item) (rises : Rises items) (state : MonitorsInside) → AreStacked items state
    → (process : List ℕ) (others : List (List ℕ)) (end : List ℕ)
    → WaitInTurn items state process others end → IsInside state process
    → height (description items) (caller state process) < height (description items) (caller state end)
waits_up items rises state stacked process [] end waits inside = one_wait items rises state stacked process end waits inside
waits_up items rises state stacked process (next ∷ more) end waits inside =
    let first : height (description items) (caller state process) < height (description items) (caller state next) =
    one_wait items rises state stacked process next waits.0 inside in
    let rest : height (description items) (caller state next) < height (description items) (caller state end) =
    waits_up items rises state stacked next more end waits.1 (is_waited_for items state process next waits.0) in
    omega arith

last_inside : (items : List Item) (state : MonitorsInside) (process : List ℕ) (others : List (List ℕ)) (end : List ℕ)
    → WaitInTurn items state process others end → IsInside state end
last_inside items state process [] end waits = is_waited_for items state process end waits
last_inside items state process (next ∷ more) end waits = last_inside items state next more end waits.1

no_ring : (items : List Item) → Rises items → (state : MonitorsInside) → AreStacked items state → HasCycle items state → ⊥
no_ring items rises state stacked cycle =
    let up : height (description items) (caller state cycle.first) < height (description items) (caller state cycle.first) =
    waits_up items rises state stacked cycle.first cycle.others cycle.first cycle.waits
    (last_inside items state cycle.first cycle.others cycle.first cycle.waits) in
    omega arith

pub no_cycle : (items : List Item) (told : Accepted) → judge items ≡ Ok told → HasNoCycle items
unfolding AreStacked Stacked
no_cycle items told is moves run cycle =
    no_ring items (accepted_rises items told is) (led_to at_first moves)
    (runs_on items (accepted_rises items told is) at_first moves run (λ process. tt)) cycle

pub when_accepted : (items : List Item) (answer : Result Accepted AccessFault) → answer ≡ judge items → OnOk answer (HasNoCycle items)
when_accepted items (Ok told) is = no_cycle items told (sym is)
when_accepted items (Err fault) is = tt
