-- In each reached state the lines that were displayed and those still owed are the script's, and so are the
-- starts of each task.
use Rattle.std.proofs.Common.{◌≡◌, ◌≢◌, ◌⊎◌, inl, inr, ℕ, zero, suc, ◌+◌, ◌<◌, Bool, true, false, Option, None, Some, List, [], ◌∷◌, ◌++◌, length, append_assoc, slice_set, get_or-set_other, get_or-set_same, refl, sym, ◌∙◌, ap, subst, arith, eq-eqb}
use Rattle.std.specs.Prelude.{◌==◌, ◌&&◌, if◌then◌else◌, map, slice_get, slice_index_or, codes}
use Rattle.std.specs.Fmt.{decimal}
use Rattle.std.proofs.lemmas.List.{append-nil}
use Rattle.std.proofs.lemmas.Bool.Decides.{eqb_tells}
use Rattle.solo_base.specs.Blanks.{trimmed}
use Rattle.solo_base.specs.declared.item.Item.{Item}
use Rattle.solo_base.specs.declared.item.Item.TheVariants as item
use Rattle.solo_base.specs.declared.outcome.Cause.{Cause}
use Rattle.solo_base.specs.declared.outcome.Cause.TheVariants as cause
use Rattle.solo_devices.specs.declared.card_read.CardRead.{CardRead}
use Rattle.solo_devices.specs.declared.card_read.CardRead.TheVariants as read
use Rattle.solo_devices.specs.declared.printer_unit.PrintFault.{PrintFault}
use Rattle.solo_devices.specs.CardUnit.{TakesItem}
use Rattle.network_run.specs.declared.stepped.Stepped.{Stepped}
use Rattle.network_run.specs.declared.stepped.Stepped.TheVariants as stepped
use Rattle.network_run.specs.Law.{IsReached, AreEnabled, run}
use Rattle.queue_var.specs.declared.turn.Turn.{Turn}
use Rattle.queue_var.specs.declared.turn.Turn.TheVariants.{Free, Handed}
use Rattle.real_time.specs.declared.table.Seat.{Seat}
use Rattle.real_time.specs.declared.table.Seat.TheVariants.{Operator, Task}
use Rattle.real_time.specs.declared.table.Woken.TheVariants as woken
use Rattle.real_time.specs.declared.table.Waited.TheVariants as waited
use Rattle.real_time.specs.Table.{Table, after_close, behind_wait, after_wake, all_left, behind_leave, has_left, sleeper_at, is_awaited, operator_resumed, out_of_queue, woken_by}
use Rattle.real_time.specs.Typed.{typed}
use Rattle.real_time.specs.Starts.{Script, behind_line, opening, runs_line, times, times_from, times_started}
use Rattle.real_time.specs.Deeds.{Deed, Enters, Shows, Wakes, Returns, starts, starts_from}
use Rattle.real_time.specs.States.{Stage, Works, Closes, Joins, Tells, Ended, TimeState, Opening, opened, seen_at, Prints, told_line, action_at, TimeEvent, Accepts, Displays, Moves, keys_behind, after_item, after_accept, behind_display, behind_fault, display_cause, lines_printed, after_display, after_woken, names_by, names_told, joined_by, join_move, operator_move, with_start, stage_told, waits, task_move, occurs, OperatorMay, TaskMay, IsMove, MayHappen}
use Rattle.real_time.specs.TimesLaw.{timing}
use Rattle.real_time.specs.Owed.{lines_shown, starts_by, lines_owed, starts_owed, pending, pending_of, LinesAdd, StartsAdd, IsBehind}
use Rattle.real_time.proofs.LineDeeds.{line-shows, line-starts}
use Rattle.real_time.proofs.Counted.{behind_all, runs-told}
use Rattle.real_time.proofs.Reaching.{Fits, Holds, at-opening, keeps, reads-at, not-awaiting, is-outside, awaited-is}

-- the names that are still told are those of the tasks from the place on
abbrev pub IsTelling : Stage → Option Cause → List (List ℕ) → Type 0
IsTelling (Tells place names) None tasks = (i : ℕ) → slice_get names i ≡ slice_get tasks (place + i)
IsTelling (Tells place names) (Some why) tasks = names ≡ []
IsTelling (Works deeds) fault tasks = Unit {0}
IsTelling Closes fault tasks = Unit {0}
IsTelling Joins fault tasks = Unit {0}
IsTelling Ended fault tasks = Unit {0}

pub record Accounts (items : List Item) (s : TimeState) : Type 0 where
  pub rest : List Item
  pub keys : s.keys ≡ Some rest
  pub script : behind_all s.script rest ≡ behind_all opening items
  pub behind : IsBehind s.stage s.fault rest
  pub telling : IsTelling s.stage s.fault s.script.tasks
  pub lines : LinesAdd s rest (times items)
  pub starts : (place : ℕ) → StartsAdd s rest place (starts place items)

-- ---- nothing is pending
pending-closed : (turn : Turn Seat) (second place : ℕ) → pending turn true second place ≡ []
pending-closed (Handed (Task q)) second place = refl
pending-closed (Handed Operator) second place = refl
pending-closed Free second place = refl

pub closed-pending : (t : Table) (place : ℕ) → t.closed ≡ true → pending t.turn t.closed t.second place ≡ []
closed-pending t place is = rw is (pending-closed t.turn t.second place)

free-pending : (t : Table) (place : ℕ) → t.turn ≡ Free → pending t.turn t.closed t.second place ≡ []
free-pending t place is = rw is refl

operator-pending : (t : Table) (place : ℕ) → t.turn ≡ Handed Operator → pending t.turn t.closed t.second place ≡ []
operator-pending t place is = rw is refl

-- ---- a line is read
module _ (items : List Item) (s : TimeState) (a : Accounts items s) (stage_is : s.stage ≡ Works []) where
  no-fault : s.fault ≡ None
  no-fault = subst (λ stage. IsBehind stage s.fault a.rest) stage_is a.behind

  lines-ahead : a.lines.more ≡ times_from s.script a.rest
  lines-ahead = a.lines.are no-fault ∙ ap (λ stage. lines_owed stage s.script a.rest) stage_is

  starts-ahead : (place : ℕ) → (a.starts place).more ≡ starts_from place s.script a.rest
  starts-ahead place = (a.starts place).are no-fault ∙ ap (λ stage. starts_owed place stage s.script a.rest) stage_is

  -- one more
  account-item : (line : Item) (keys : Option (List Item)) (rest : List Item) → keys ≡ Some rest → a.rest ≡ line ∷ rest
      → Accounts items (record (after_item s line) { keys = keys })
  account-item line keys rest keys_are is = record {
    rest = rest;
    keys = keys_are;
    script = ap (λ rest. behind_all s.script rest) (sym is) ∙ a.script;
    behind = no-fault;
    telling = tt;
    lines = record {
      more = a.lines.more;
      all_are = a.lines.all_are;
      are = λ none. lines-ahead ∙ ap (times_from s.script) is
          ∙ ap (λ lines. lines ++ times_from (behind_line s.script (typed line)) rest) (sym (line-shows s.script (typed line)));
    };
    starts = λ place. record {
      more = (a.starts place).more;
      all_are = (a.starts place).all_are;
      are = λ none. starts-ahead place ∙ ap (starts_from place s.script) is
          ∙ ap (λ starts. starts ++ starts_from place (behind_line s.script (typed line)) rest) (sym (line-starts place s.script (typed line)));
    };
  }

  account-end : (keys : Option (List Item)) → keys ≡ Some [] → a.rest ≡ [] → Accounts items (record s { stage = Closes; keys = keys })
  account-end keys keys_are is = record {
    rest = [];
    keys = keys_are;
    script = ap (λ rest. behind_all s.script rest) (sym is) ∙ a.script;
    behind = λ none. refl;
    telling = tt;
    lines = record {
      more = a.lines.more;
      all_are = a.lines.all_are;
      are = λ none. lines-ahead ∙ ap (times_from s.script) is;
    };
    starts = λ place. record {
      more = (a.starts place).more;
      all_are = (a.starts place).all_are;
      are = λ none. starts-ahead place ∙ ap (starts_from place s.script) is;
    };
  }

  account-failed : (why : Cause) (keys : Option (List Item)) (rest : List Item) → keys ≡ Some rest → a.rest ≡ rest
      → Accounts items (record s { stage = Closes; fault = Some why; keys = keys })
  account-failed why keys rest keys_are is = record {
    rest = rest;
    keys = keys_are;
    script = ap (λ rest. behind_all s.script rest) (sym is) ∙ a.script;
    behind = λ none. absurd cc;
    telling = tt;
    lines = record { more = a.lines.more; all_are = a.lines.all_are; are = λ none. absurd cc };
    starts = λ place. record { more = (a.starts place).more; all_are = (a.starts place).all_are; are = λ none. absurd cc };
  }

  account-accept : (answer : CardRead) → TakesItem a.rest (keys_behind s.keys answer) answer → Accounts items (after_accept s answer)
  account-accept (read.Card line) takes = account-item (item.Line line) (keys_behind s.keys (read.Card line)) takes.rest takes.now_are takes.items_are
  account-accept read.Spoiled takes = account-item item.Spoiled (keys_behind s.keys read.Spoiled) takes.rest takes.now_are takes.items_are
  account-accept read.End takes =
      let none = takes.end refl in
      let same = takes.items_are in
      account-end (keys_behind s.keys read.End) (takes.now_are ∙ ap Some (sym same ∙ none)) none
  account-accept read.Failed takes = account-failed cause.ReadFault (keys_behind s.keys read.Failed) takes.rest takes.now_are takes.items_are
  account-accept read.Limit takes = account-failed cause.DeckLimit (keys_behind s.keys read.Limit) takes.rest takes.now_are takes.items_are

-- ---- a line is displayed
account-fault : (items : List Item) (s : TimeState) (fault : PrintFault) (now : Option (List ℕ)) → Accounts items s → (text : List ℕ)
    → action_at s.stage s.seen ≡ Prints text → Accounts items (after_display s (Some fault) now)
account-fault items s fault now a text next = record {
  rest = a.rest;
  keys = a.keys;
  script = a.script;
  behind = faulty s.stage next;
  telling = silent s.stage next;
  lines = record { more = a.lines.more; all_are = a.lines.all_are; are = λ none. absurd cc };
  starts = λ place. record { more = (a.starts place).more; all_are = (a.starts place).all_are; are = λ none. absurd cc };
}
  where
    faulty : (stage : Stage) → action_at stage s.seen ≡ Prints text → IsBehind (behind_fault stage) (Some (display_cause fault)) a.rest
    faulty (Works deeds) is = λ none. absurd cc
    faulty Closes is = λ none. absurd cc
    faulty Joins is = λ none. absurd cc
    faulty (Tells place names) is = λ none. absurd cc
    faulty Ended is = λ none. absurd cc

    silent : (stage : Stage) → action_at stage s.seen ≡ Prints text → IsTelling (behind_fault stage) (Some (display_cause fault)) s.script.tasks
    silent (Works deeds) is = tt
    silent Closes is = tt
    silent Joins is = tt
    silent (Tells place names) is = refl
    silent Ended is = tt

-- what is displayed is the first of what is owed
pub record Displayed (items : List Item) (s : TimeState) (rest : List Item) (text : List ℕ) (stage : Stage) : Type 0 where
  pub fault : s.fault ≡ None
  pub lines : lines_owed s.stage s.script rest ≡ text ∷ lines_owed stage s.script rest
  pub starts : (place : ℕ) → starts_owed place s.stage s.script rest ≡ starts_owed place stage s.script rest
  pub behind : IsBehind stage s.fault rest
  pub telling : IsTelling stage s.fault s.script.tasks

account-display : (items : List Item) (s : TimeState) (now : Option (List ℕ)) (text : List ℕ) → (a : Accounts items s) → action_at s.stage s.seen ≡ Prints text
    → Displayed items s a.rest text (behind_display s.stage) → Accounts items (after_display s None now)
account-display items s now text a next d = record {
  rest = a.rest;
  keys = a.keys;
  script = a.script;
  behind = d.behind;
  telling = d.telling;
  lines = record {
    more = lines_owed (behind_display s.stage) s.script a.rest;
    all_are = ap (λ next. (s.shown ++ lines_printed next) ++ lines_owed (behind_display s.stage) s.script a.rest) next
        ∙ append_assoc s.shown (text ∷ []) (lines_owed (behind_display s.stage) s.script a.rest)
        ∙ ap (λ lines. s.shown ++ lines) (sym (a.lines.are d.fault ∙ d.lines))
        ∙ a.lines.all_are;
    are = λ none. refl;
  };
  starts = λ place. record {
    more = (a.starts place).more;
    all_are = (a.starts place).all_are;
    are = λ none. (a.starts place).are none ∙ d.starts place;
  };
}

-- the count that a task tells is that of its starts
told-runs : (items : List Item) (s : TimeState) (h : Holds s) (a : Accounts items s) (place : ℕ) (name : List ℕ) (names : List (List ℕ))
    → s.stage ≡ Tells place (name ∷ names) → s.fault ≡ None → told_line s.seen place name ≡ runs_line s.script name
told-runs items s h a place name names stage_is none =
    let telling = subst (λ stage. IsTelling stage s.fault s.script.tasks) stage_is a.telling in
    let task : slice_get s.script.tasks place ≡ Some name = place-of (rw none at telling) in
    let all : a.rest ≡ [] = subst (λ stage. IsBehind stage s.fault a.rest) stage_is a.behind none in
    let script : s.script ≡ behind_all opening items = ap (behind_all s.script) (sym all) ∙ a.script in
    let runs = runs-told place items name (subst (λ script. slice_get script.tasks place ≡ Some name) script task) in
    let closed : s.table.closed ≡ true = (subst (λ stage. Fits stage s.table) stage_is h.fits).0 in
    let more : (a.starts place).more ≡ [] = (a.starts place).are none ∙ ap (λ stage. starts_owed place stage s.script a.rest) stage_is in
    let seen : seen_at s place ≡ starts place items =
    sym (append-nil (seen_at s place))
    ∙ ap (λ more. seen_at s place ++ more) (sym (ap (λ p. p ++ (a.starts place).more) (closed-pending s.table place closed) ∙ more))
    ∙ (a.starts place).all_are in
    let count = ap length seen ∙ sym runs ∙ ap (λ script. times_started name script) (sym script) in
    ap (λ n. trimmed name ++ codes ": " ++ decimal n ++ codes " RUNS") count
  where
    place-of : ((i : ℕ) → slice_get (name ∷ names) i ≡ slice_get s.script.tasks (place + i)) → slice_get s.script.tasks place ≡ Some name
    place-of telling = ap (slice_get s.script.tasks) (plus-zero place) ∙ sym (telling 0)
      where
        plus-zero : (n : ℕ) → n ≡ n + 0
        plus-zero n = omega arith

pub displays-first : (items : List Item) (s : TimeState) (h : Holds s) (a : Accounts items s) (text : List ℕ) (stage : Stage) → s.stage ≡ stage
    → action_at stage s.seen ≡ Prints text → Displayed items s a.rest text (behind_display stage)
displays-first items s h a text (Works []) stage_is is = absurd cc
displays-first items s h a text (Works (Enters line ∷ deeds)) stage_is is = absurd cc
displays-first items s h a text (Works (Shows line ∷ deeds)) stage_is is =
    let none = subst (λ stage. IsBehind stage s.fault a.rest) stage_is a.behind in
    record {
      fault = none;
      lines = rw stage_is (let same : line ≡ text = cc in ap (λ first. first ∷ (lines_shown deeds ++ times_from s.script a.rest)) same);
      starts = λ place. rw stage_is refl;
      behind = none;
      telling = tt;
    }
displays-first items s h a text (Works (Wakes place second due ∷ deeds)) stage_is is = absurd cc
displays-first items s h a text (Works (Returns ∷ deeds)) stage_is is = absurd cc
displays-first items s h a text Closes stage_is is = absurd cc
displays-first items s h a text Joins stage_is is = absurd cc
displays-first items s h a text (Tells place []) stage_is is = absurd cc
displays-first items s h a text (Tells place (name ∷ names)) stage_is is =
    let none = by s.fault refl (subst (λ stage. IsTelling stage s.fault s.script.tasks) stage_is a.telling) in
    let same : told_line s.seen place name ≡ text = cc in
    record {
      fault = none;
      lines = rw stage_is (ap (λ first. first ∷ map (runs_line s.script) names) (sym (told-runs items s h a place name names stage_is none) ∙ same));
      starts = λ q. rw stage_is refl;
      behind = subst (λ stage. IsBehind stage s.fault a.rest) stage_is a.behind;
      telling = subst (λ fault. IsTelling (Tells (suc place) names) fault s.script.tasks) (sym none)
          (next (rw none at (subst (λ stage. IsTelling stage s.fault s.script.tasks) stage_is a.telling)));
    }
  where
    by : (fault : Option Cause) → s.fault ≡ fault → IsTelling (Tells place (name ∷ names)) s.fault s.script.tasks → s.fault ≡ None
    by None e telling = e
    by (Some why) e telling = absurd (let none = rw e at telling in cc)

    next : ((i : ℕ) → slice_get (name ∷ names) i ≡ slice_get s.script.tasks (place + i)) → (i : ℕ)
        → slice_get names i ≡ slice_get s.script.tasks (suc place + i)
    next telling i = telling (suc i) ∙ ap (slice_get s.script.tasks) (moved place i)
      where
        moved : (place i : ℕ) → place + suc i ≡ suc place + i
        moved place i = omega arith
displays-first items s h a text Ended stage_is is = absurd cc

-- ---- the operator moves
-- while it works on a line
works-on : (items : List Item) (s : TimeState) (a : Accounts items s) (deeds new : List Deed) (table : Table) → s.stage ≡ Works deeds
    → lines_shown new ≡ lines_shown deeds
    → ((place : ℕ) → pending table.turn table.closed table.second place ++ starts_by place new ≡ pending_of s place ++ starts_by place deeds)
    → Accounts items (record s { stage = Works new; table = table })
works-on items s a deeds new table stage_is lines starts_are =
    let none = subst (λ stage. IsBehind stage s.fault a.rest) stage_is a.behind in
    record {
      rest = a.rest;
      keys = a.keys;
      script = a.script;
      behind = none;
      telling = tt;
      lines = record {
        more = a.lines.more;
        all_are = a.lines.all_are;
        are = λ n. a.lines.are none ∙ ap (λ stage. lines_owed stage s.script a.rest) stage_is ∙ ap (λ l. l ++ times_from s.script a.rest) (sym lines);
      };
      starts = λ place. record {
        more = starts_by place new ++ starts_from place s.script a.rest;
        all_are =
            (let more = (a.starts place).are none ∙ ap (λ stage. starts_owed place stage s.script a.rest) stage_is in
            ap (λ l. seen_at s place ++ l)
            (sym (append_assoc (pending table.turn table.closed table.second place) (starts_by place new) (starts_from place s.script a.rest))
            ∙ ap (λ l. l ++ starts_from place s.script a.rest) (starts_are place)
            ∙ append_assoc (pending_of s place) (starts_by place deeds) (starts_from place s.script a.rest)
            ∙ ap (λ l. pending_of s place ++ l) (sym more))
            ∙ (a.starts place).all_are);
        are = λ n. refl;
      };
    }

-- where nothing that is owed changes
same-owed : (items : List Item) (s : TimeState) (a : Accounts items s) (stage : Stage) (table : Table)
    → (lines_owed s.stage s.script a.rest ≡ lines_owed stage s.script a.rest) ⊎ (s.fault ≡ None → ⊥)
    → ((place : ℕ) → starts_owed place s.stage s.script a.rest ≡ starts_owed place stage s.script a.rest)
    → ((place : ℕ) → pending table.turn table.closed table.second place ≡ pending_of s place)
    → IsBehind stage s.fault a.rest → IsTelling stage s.fault s.script.tasks
    → Accounts items (record s { stage = stage; table = table })
same-owed items s a stage table lines owed same behind telling = record {
  rest = a.rest;
  keys = a.keys;
  script = a.script;
  behind = behind;
  telling = telling;
  lines = record {
    more = a.lines.more;
    all_are = a.lines.all_are;
    are = λ none. elim lines as (λ _. a.lines.more ≡ lines_owed stage s.script a.rest) [
      | inl is ↦ a.lines.are none ∙ is
      | inr faulty ↦ absurd (faulty none)
    ];
  };
  starts = λ place. record {
    more = (a.starts place).more;
    all_are = ap (λ p. seen_at s place ++ (p ++ (a.starts place).more)) (same place) ∙ (a.starts place).all_are;
    are = λ none. (a.starts place).are none ∙ owed place;
  };
}

joined-account : (items : List Item) (s : TimeState) (a : Accounts items s) (t : Table) (how : Stepped) (all : Bool) → s.stage ≡ Joins
    → s.table.closed ≡ true → t.closed ≡ true → Accounts items (joined_by all how s t).to
joined-account items s a t how true stage_is closed still =
    same-owed items s a (Tells 0 (names_told s)) t (by s.fault refl) (λ place. rw stage_is refl)
    (λ place. closed-pending t place still ∙ sym (closed-pending s.table place closed)) (behind s.fault refl) (telling s.fault)
  where
    by : (fault : Option Cause) → s.fault ≡ fault
        → (lines_owed s.stage s.script a.rest ≡ lines_owed (Tells 0 (names_told s)) s.script a.rest) ⊎ (s.fault ≡ None → ⊥)
    by None e = inl (rw (stage_is, e) refl)
    by (Some why) e = inr (λ none. absurd cc)

    behind : (fault : Option Cause) → s.fault ≡ fault → IsBehind (Tells 0 (names_told s)) s.fault a.rest
    behind fault e = subst (λ stage. IsBehind stage s.fault a.rest) stage_is a.behind

    telling : (fault : Option Cause) → IsTelling (Tells 0 (names_by fault s.script.tasks)) fault s.script.tasks
    telling None = λ i. ap (slice_get s.script.tasks) (zero-plus i)
      where
        zero-plus : (n : ℕ) → n ≡ 0 + n
        zero-plus n = omega arith
    telling (Some why) = refl
joined-account items s a t how false stage_is closed still =
    same-owed items s a Joins (record t { operator = Some 1 }) (inl (rw stage_is refl)) (λ place. rw stage_is refl)
    (λ place. closed-pending t place still ∙ sym (closed-pending s.table place closed)) (subst (λ stage. IsBehind stage s.fault a.rest) stage_is a.behind) tt

joins-account : (items : List Item) (s : TimeState) (a : Accounts items s) (operator : Option ℕ) → s.stage ≡ Joins → s.table.closed ≡ true
    → Accounts items (join_move operator s).to
joins-account items s a None stage_is closed = joined-account items s a s.table stepped.Acted (all_left s.table) stage_is closed closed
joins-account items s a (Some p) stage_is closed = joined-account items s a (operator_resumed s.table) stepped.Resumed (all_left s.table) stage_is closed closed

wakes-account : (items : List Item) (s : TimeState) (a : Accounts items s) (place second : ℕ) (due : Bool) (deeds : List Deed) (held : Option ℕ)
    → s.stage ≡ Works (Wakes place second due ∷ deeds) → s.table.turn ≡ Free → s.table.closed ≡ false
    → Accounts items (after_woken (woken_by due held) s place second deeds).to
wakes-account items s a place second false deeds held stage_is free open_yet =
    works-on items s a (Wakes place second false ∷ deeds) deeds s.table stage_is refl (λ q. not-due q)
  where
    none-due : (q : ℕ) (same : Bool) → (if same && false then second ∷ [] else []) ++ starts_by q deeds ≡ starts_by q deeds
    none-due q true = refl
    none-due q false = refl

    not-due : (q : ℕ) → pending_of s q ++ starts_by q deeds ≡ pending_of s q ++ ((if (place == q) && false then second ∷ [] else []) ++ starts_by q deeds)
    not-due q = ap (λ l. pending_of s q ++ l) (sym (none-due q (place == q)))
wakes-account items s a place second true deeds (Some p) stage_is free open_yet =
    works-on items s a (Wakes place second true ∷ deeds) deeds (after_wake s.table place second woken.Continued) stage_is refl (λ q. is-due q (place == q))
  where
    is-due : (q : ℕ) (same : Bool) → pending (Handed (Task place)) s.table.closed second q ++ starts_by q deeds
        ≡ pending_of s q ++ ((if (place == q) && true then second ∷ [] else []) ++ starts_by q deeds)
    is-due q same = rw (open_yet, free) (by (place == q))
      where
        by : (same : Bool) → (if same then second ∷ [] else []) ++ starts_by q deeds ≡ (if same && true then second ∷ [] else []) ++ starts_by q deeds
        by true = refl
        by false = refl
wakes-account items s a place second true deeds None stage_is free open_yet =
    works-on items s a (Wakes place second true ∷ deeds) (Wakes place second true ∷ deeds) (after_wake s.table place second woken.Delayed) stage_is refl
    (λ q. ap (λ p. p ++ starts_by q (Wakes place second true ∷ deeds))
    (free-pending (after_wake s.table place second woken.Delayed) q free ∙ sym (free-pending s.table q free)))

operator-account : (items : List Item) (s : TimeState) (h : Holds s) (a : Accounts items s) (stage : Stage) → s.stage ≡ stage → Fits stage s.table
    → OperatorMay (action_at stage s.seen) s.table → IsMove (action_at stage s.seen) → Accounts items (operator_move stage s).to
operator-account items s h a (Works []) stage_is fits may move = absurd move
operator-account items s h a (Works (Enters line ∷ deeds)) stage_is fits may move =
    works-on items s a (Enters line ∷ deeds) deeds s.table stage_is refl (λ place. refl)
operator-account items s h a (Works (Shows text ∷ deeds)) stage_is fits may move = absurd move
operator-account items s h a (Works (Wakes place second due ∷ deeds)) stage_is fits may move =
    wakes-account items s a place second due deeds (sleeper_at s.table.queues place) stage_is
    (is-outside s h (not-awaiting s place second due h may fits.1.1) may) fits.0
operator-account items s h a (Works (Returns ∷ deeds)) stage_is fits may move =
    works-on items s a (Returns ∷ deeds) deeds (operator_resumed s.table) stage_is refl
    (λ place. ap (λ p. p ++ starts_by place deeds) (sym (operator-pending s.table place fits.1)))
operator-account items s h a Closes stage_is fits may move =
    same-owed items s a Joins (after_close s.table) (inl (rw stage_is refl)) (λ place. rw stage_is refl)
    (λ place. closed-pending (after_close s.table) place refl ∙ sym (free-pending s.table place (is-outside s h fits.1 may)))
    (subst (λ stage. IsBehind stage s.fault a.rest) stage_is a.behind) tt
operator-account items s h a Joins stage_is fits may move = joins-account items s a s.table.operator stage_is fits
operator-account items s h a (Tells place []) stage_is fits may move =
    same-owed items s a Ended s.table (inl (rw stage_is refl)) (λ q. rw stage_is refl) (λ q. refl) (subst
    (λ stage. IsBehind stage s.fault a.rest) stage_is a.behind) tt
operator-account items s h a (Tells place (name ∷ names)) stage_is fits may move = absurd move
operator-account items s h a Ended stage_is fits may move = absurd move

-- ---- a task moves
seen-other : (seen : List (List ℕ)) (place q : ℕ) (starts : List ℕ) → q ≢ place → slice_index_or (slice_set seen place starts) q [] ≡ slice_index_or seen q []
seen-other seen place q starts other = rw get_or-set_other refl

seen-own : (seen : List (List ℕ)) (place : ℕ) (starts : List ℕ) → place < length seen → slice_index_or (slice_set seen place starts) place [] ≡ starts
seen-own seen place starts below = rw get_or-set_same refl

task-account : (items : List Item) (s : TimeState) (a : Accounts items s) (stage : Stage) (table : Table) (seen : List (List ℕ))
    → ((script : Script) (rest : List Item) → lines_owed s.stage script rest ≡ lines_owed stage script rest)
    → (IsBehind s.stage s.fault a.rest → IsBehind stage s.fault a.rest) → (IsTelling s.stage s.fault s.script.tasks → IsTelling stage s.fault s.script.tasks)
    → ((q : ℕ) → (more : List ℕ) × (slice_index_or seen q [] ++ (pending table.turn table.closed table.second q ++ more) ≡ starts q items)
    × (s.fault ≡ None → more ≡ starts_owed q stage s.script a.rest))
    → Accounts items (record s { table = table; seen = seen; stage = stage })
task-account items s a stage table seen lines behind telling starts_are = record {
  rest = a.rest;
  keys = a.keys;
  script = a.script;
  behind = behind a.behind;
  telling = telling a.telling;
  lines = record { more = a.lines.more; all_are = a.lines.all_are; are = λ none. a.lines.are none ∙ lines s.script a.rest };
  starts = λ q. (let found = starts_are q in record { more = found.0; all_are = found.1; are = found.2 });
}

-- it has not seen a start, and none is pending that wasn't
quiet-account : (items : List Item) (s : TimeState) (a : Accounts items s) (table : Table)
    → ((q : ℕ) → pending table.turn table.closed table.second q ≡ pending_of s q)
    → Accounts items (record s { table = table; seen = s.seen; stage = s.stage })
quiet-account items s a table same =
    task-account items s a s.stage table s.seen (λ script rest. refl) (λ behind. behind) (λ telling. telling)
    (λ q. (
      (a.starts q).more,
      ap (λ p. seen_at s q ++ (p ++ (a.starts q).more)) (same q) ∙ (a.starts q).all_are,
      (a.starts q).are,
    ))

resumes-account : (items : List Item) (s : TimeState) (h : Holds s) (a : Accounts items s) (place : ℕ) (closed : Bool) → place < 8
    → s.table.turn ≡ Handed (Task place) → s.table.closed ≡ closed
    → Accounts items (record s {
      table = if closed then behind_leave (out_of_queue s.table place) place else out_of_queue s.table place;
      seen = with_start s.seen place (if closed then waited.Leaves else waited.Starts s.table.second);
    })
resumes-account items s h a place true one handed c =
    quiet-account items s a (behind_leave (out_of_queue s.table place) place)
    (λ q. closed-pending (behind_leave (out_of_queue s.table place) place) q c ∙ sym (closed-pending s.table q c))
resumes-account items s h a place false one handed c =
    task-account items s a s.stage (out_of_queue s.table place) (with_start s.seen place (waited.Starts s.table.second)) (λ script rest. refl)
    (λ behind. behind) (λ telling. telling) (λ q. ((a.starts q).more, all q, (a.starts q).are))
  where
    was : (q : ℕ) → pending_of s q ≡ (if place == q then s.table.second ∷ [] else [])
    was q = rw (handed, c) refl

    all : (q : ℕ) → slice_index_or (with_start s.seen place (waited.Starts s.table.second)) q [] ++ ([] ++ (a.starts q).more) ≡ starts q items
    all q = elim (eqb_tells q place) as
        (λ _. slice_index_or (with_start s.seen place (waited.Starts s.table.second)) q [] ++ ([] ++ (a.starts q).more) ≡ starts q items) [
          | inl same ↦
              (let is = same.1 in
              let long : place < length s.seen = (let eight = h.lists.0 in omega (arith, one, eight)) in
              let own = eq-eqb place place refl in
              subst (λ q. slice_index_or (with_start s.seen place (waited.Starts s.table.second)) q [] ++ ([] ++ (a.starts q).more) ≡ starts q items) (sym is)
              (ap (λ seen. seen ++ (a.starts place).more) (seen-own s.seen place (seen_at s place ++ s.table.second ∷ []) long)
              ∙ append_assoc (seen_at s place) (s.table.second ∷ []) (a.starts place).more
              ∙ ap (λ p. seen_at s place ++ (p ++ (a.starts place).more)) (sym (was place ∙ ap (λ t. if t then s.table.second ∷ [] else []) own))
              ∙ (a.starts place).all_are))
          | inr other ↦
              (ap (λ seen. seen ++ (a.starts q).more) (seen-other s.seen place q (seen_at s place ++ s.table.second ∷ []) other.1)
              ∙ ap (λ p. seen_at s q ++ (p ++ (a.starts q).more)) (sym (was q ∙ apart q other.1))
              ∙ (a.starts q).all_are)
        ]
      where
        apart : (q : ℕ) → q ≢ place → (if place == q then s.table.second ∷ [] else []) ≡ []
        apart q other = elim (eqb_tells place q) as (λ _. (if place == q then s.table.second ∷ [] else []) ≡ []) [
          | inl same ↦ absurd (other (sym same.1))
          | inr differ ↦ (let no = differ.0 in rw no refl)
        ]

-- the operator's wake is done: the task has seen the start for which it waited
told-account : (items : List Item) (s : TimeState) (h : Holds s) (a : Accounts items s) (place : ℕ) (stage : Stage) → place < 8 → s.stage ≡ stage
    → Fits stage s.table → s.table.awaited ≡ Some place → s.table.turn ≡ Free
    → Accounts items (record s {
      table = behind_wait s.table place (waited.Starts s.table.second);
      seen = with_start s.seen place (waited.Starts s.table.second);
      stage = stage_told (waited.Starts s.table.second) stage;
    })
told-account items s h a place (Works []) one stage_is fits is free =
    absurd (let none = fits.1 in let waits = (h.table.awaits place is).operator in cc)
told-account items s h a place (Works (Enters line ∷ deeds)) one stage_is fits is free =
    absurd (let none = fits.1 in let waits = (h.table.awaits place is).operator in cc)
told-account items s h a place (Works (Shows text ∷ deeds)) one stage_is fits is free =
    absurd (let none = fits.1 in let waits = (h.table.awaits place is).operator in cc)
told-account items s h a place (Works (Wakes q second due ∷ deeds)) one stage_is fits is free =
    let wakes = waking fits.1.1 in
    task-account items s a (Works (Returns ∷ deeds)) (behind_wait s.table place (waited.Starts s.table.second))
    (with_start s.seen place (waited.Starts s.table.second)) (λ script rest. rw stage_is refl) (λ behind. subst
    (λ stage. IsBehind stage s.fault a.rest) stage_is behind)
    (λ telling. tt)
    (λ r. (starts_by r deeds ++ starts_from r s.script a.rest, all wakes r, λ none. refl))
  where
    waking : ((s.table.operator ≡ None) ⊎ ((s.table.awaited ≡ Some q) × (due ≡ true) × (s.table.second ≡ second)))
        → (q ≡ place) × (due ≡ true) × (s.table.second ≡ second)
    waking (inl none) = absurd (let waits = (h.table.awaits place is).operator in cc)
    waking (inr waits) = ((let awaited = waits.0 in cc), waits.1, waits.2)

    none-fault : s.fault ≡ None
    none-fault = subst (λ stage. IsBehind stage s.fault a.rest) stage_is a.behind

    -- what was owed to a task, where this wake is the first
    owed : (q ≡ place) × (due ≡ true) × (s.table.second ≡ second) → (r : ℕ)
        → seen_at s r ++ ((if place == r then s.table.second ∷ [] else []) ++ (starts_by r deeds ++ starts_from r s.script a.rest)) ≡ starts r items
    owed wakes r =
        let more = (a.starts r).are none-fault ∙ ap (λ stage. starts_owed r stage s.script a.rest) stage_is in
        ap (λ l. seen_at s r ++ l)
        (sym (append_assoc (if place == r then s.table.second ∷ [] else []) (starts_by r deeds) (starts_from r s.script a.rest))
        ∙ ap (λ l. (l ++ starts_by r deeds) ++ starts_from r s.script a.rest) (first wakes r)
        ∙ sym more
        ∙ ap (λ p. p ++ (a.starts r).more) (sym (free-pending s.table r free)))
        ∙ (a.starts r).all_are
      where
        both : (t : Bool) (second : ℕ) → (if t then second ∷ [] else []) ≡ (if t && true then second ∷ [] else [])
        both true second = refl
        both false second = refl

        first : (q ≡ place) × (due ≡ true) × (s.table.second ≡ second) → (r : ℕ)
            → (if place == r then s.table.second ∷ [] else []) ≡ (if (q == r) && due then second ∷ [] else [])
        first wakes r = rw (wakes.0, wakes.1, wakes.2) (both (place == r) second)

    all : (q ≡ place) × (due ≡ true) × (s.table.second ≡ second) → (r : ℕ)
        → slice_index_or (with_start s.seen place (waited.Starts s.table.second)) r [] ++ ([] ++ (starts_by r deeds ++ starts_from r s.script a.rest))
        ≡ starts r items
    all wakes r = elim (eqb_tells r place) as
        (λ _. slice_index_or (with_start s.seen place (waited.Starts s.table.second)) r [] ++ (starts_by r deeds ++ starts_from r s.script a.rest)
        ≡ starts r items) [
          | inl same ↦
              (let is = same.1 in
              let long : place < length s.seen = (let eight = h.lists.0 in omega (arith, one, eight)) in
              let own = eq-eqb place place refl in
              subst (λ r. slice_index_or (with_start s.seen place (waited.Starts s.table.second)) r [] ++ (starts_by r deeds ++ starts_from r s.script a.rest)
              ≡ starts r items) (sym is)
              (ap (λ seen. seen ++ (starts_by place deeds ++ starts_from place s.script a.rest)) (seen-own s.seen place
              (seen_at s place ++ s.table.second ∷ []) long)
              ∙ append_assoc (seen_at s place) (s.table.second ∷ []) (starts_by place deeds ++ starts_from place s.script a.rest)
              ∙ ap (λ t. seen_at s place ++ ((if t then s.table.second ∷ [] else []) ++ (starts_by place deeds ++ starts_from place s.script a.rest))) (sym own)
              ∙ owed wakes place))
          | inr other ↦
              (ap (λ seen. seen ++ (starts_by r deeds ++ starts_from r s.script a.rest)) (seen-other s.seen place r
              (seen_at s place ++ s.table.second ∷ []) other.1)
              ∙ ap (λ l. seen_at s r ++ (l ++ (starts_by r deeds ++ starts_from r s.script a.rest))) (sym (apart other.1))
              ∙ owed wakes r)
        ]
      where
        apart : r ≢ place → (if place == r then s.table.second ∷ [] else []) ≡ []
        apart other = elim (eqb_tells place r) as (λ _. (if place == r then s.table.second ∷ [] else []) ≡ []) [
          | inl same ↦ absurd (other (sym same.1))
          | inr differ ↦ (let no = differ.0 in rw no refl)
        ]
told-account items s h a place (Works (Returns ∷ deeds)) one stage_is fits is free = absurd (let handed = fits.1 in cc)
told-account items s h a place Closes one stage_is fits is free = absurd (let none = fits.1 in let waits = (h.table.awaits place is).operator in cc)
told-account items s h a place Joins one stage_is fits is free = absurd (let closed = fits in let not_closed = (h.table.awaits place is).open_yet in cc)
told-account items s h a place (Tells q names) one stage_is fits is free =
    absurd (let closed = fits.0 in let not_closed = (h.table.awaits place is).open_yet in cc)
told-account items s h a place Ended one stage_is fits is free = absurd (let closed = fits.0 in let not_closed = (h.table.awaits place is).open_yet in cc)

waits-account : (items : List Item) (s : TimeState) (h : Holds s) (a : Accounts items s) (place : ℕ) (closed awaited : Bool) → place < 8
    → s.table.turn ≡ Free → s.table.closed ≡ closed → is_awaited s.table.awaited place ≡ awaited
    → Accounts items (waits (if closed then waited.Leaves else (if awaited then waited.Starts s.table.second else waited.Delayed)) s place).to
waits-account items s h a place true awaited one free c is =
    quiet-account items s a (behind_wait s.table place waited.Leaves)
    (λ q. closed-pending (behind_wait s.table place waited.Leaves) q c ∙ sym (closed-pending s.table q c))
waits-account items s h a place false true one free c is =
    told-account items s h a place s.stage one refl h.fits (awaited-is s.table.awaited place is) free
waits-account items s h a place false false one free c is =
    quiet-account items s a (behind_wait s.table place waited.Delayed) (λ q. refl)

task-moves-account : (items : List Item) (s : TimeState) (h : Holds s) (a : Accounts items s) (place : ℕ) (left : Bool) (held : Option ℕ) → place < 8
    → has_left s.table place ≡ left → sleeper_at s.table.queues place ≡ held → TaskMay left s.table place → Accounts items (task_move left held s place).to
task-moves-account items s h a place true held one gone is may = record {
  rest = a.rest;
  keys = a.keys;
  script = a.script;
  behind = a.behind;
  telling = a.telling;
  lines = record { more = a.lines.more; all_are = a.lines.all_are; are = a.lines.are };
  starts = λ q. record { more = (a.starts q).more; all_are = (a.starts q).all_are; are = (a.starts q).are };
}
task-moves-account items s h a place false (Some p) one gone is (inl free) = absurd (let none = free.0 in cc)
task-moves-account items s h a place false (Some p) one gone is (inr handed) = resumes-account items s h a place s.table.closed one handed refl
task-moves-account items s h a place false None one gone is (inl free) =
    waits-account items s h a place s.table.closed (is_awaited s.table.awaited place) one free.1 refl refl
task-moves-account items s h a place false None one gone is (inr handed) = absurd (let there = h.table.handed place handed in cc)

-- ---- each event keeps them
pub keeps-accounts : (items : List Item) (s : TimeState) (event : TimeEvent) → Holds s → Accounts items s → MayHappen s event → Accounts items (occurs s event)
keeps-accounts items s (Accepts answer) h a is =
    account-accept items s a (reads-at s.stage s.seen is.0) answer (is.1.told a.rest a.keys)
keeps-accounts items s (Displays None now) h a is =
    account-display items s now is.0 a is.1 (displays-first items s h a is.0 s.stage refl is.1)
keeps-accounts items s (Displays (Some fault) now) h a is = account-fault items s fault now a is.0 is.1
keeps-accounts items s (Moves zero how) h a is = absurd is.0
keeps-accounts items s (Moves (suc zero) how) h a is = operator-account items s h a s.stage refl h.fits is.0 is.1
keeps-accounts items s (Moves (suc (suc place)) how) h a is =
    task-moves-account items s h a place (has_left s.table place) (sleeper_at s.table.queues place) is.0.0 refl refl is.0.2

pub accounts-open : (o : Opening) (items : List Item) → o.keys ≡ Some items → Accounts items (opened o)
accounts-open o items is = record {
  rest = items;
  keys = is;
  script = refl;
  behind = refl;
  telling = tt;
  lines = record { more = times items; all_are = refl; are = λ none. refl };
  starts = λ place. record { more = starts place items; all_are = ap (λ seen. seen ++ starts place items) (none-seen place); are = λ none. refl };
}
  where
    none-seen : (place : ℕ) → seen_at (opened o) place ≡ []
    none-seen zero = refl
    none-seen (suc zero) = refl
    none-seen (suc (suc zero)) = refl
    none-seen (suc (suc (suc zero))) = refl
    none-seen (suc (suc (suc (suc zero)))) = refl
    none-seen (suc (suc (suc (suc (suc zero))))) = refl
    none-seen (suc (suc (suc (suc (suc (suc zero)))))) = refl
    none-seen (suc (suc (suc (suc (suc (suc (suc zero))))))) = refl
    none-seen (suc (suc (suc (suc (suc (suc (suc (suc place)))))))) = refl

accounts-along : (items : List Item) (s : TimeState) (events : List TimeEvent) → Holds s → Accounts items s → AreEnabled timing s events
    → Accounts items (run timing s events)
accounts-along items s [] h a all = a
accounts-along items s (event ∷ events) h a all =
    accounts-along items (occurs s event) events (keeps s event h all.0) (keeps-accounts items s event h a all.0) all.1

pub accounts : (o : Opening) (s : TimeState) (items : List Item) → IsReached timing (opened o) s → o.keys ≡ Some items → Accounts items s
accounts o s items r is = subst (Accounts items) r.leads (accounts-along items (opened o) r.events (at-opening o) (accounts-open o items is) r.enabled)
