-- What the console has in each reached state.
use Rattle.std.proofs.Common.{◌≡◌, ℕ, zero, suc, Option, None, Some, List, [], ◌∷◌, ◌++◌, append_assoc, refl, sym, ◌∙◌, ap, subst}
use Rattle.std.proofs.lemmas.List.{append-nil}
use Rattle.solo_base.specs.Text.{line_text, text}
use Rattle.solo_base.specs.declared.item.Item.{Item}
use Rattle.solo_devices.specs.declared.card_read.CardRead.{CardRead}
use Rattle.solo_devices.specs.declared.card_read.CardRead.TheVariants as read
use Rattle.solo_devices.specs.declared.printer_unit.PrintFault.{PrintFault}
use Rattle.solo_devices.specs.PrinterUnit.{Gains}
use Rattle.network_run.specs.Law.{IsReached, AreEnabled, run}
use Rattle.real_time.specs.declared.table.Woken.TheVariants as woken
use Rattle.real_time.specs.Table.{all_left, has_left, sleeper_at, operator_resumed, woken_by, Table}
use Rattle.real_time.specs.Starts.{times}
use Rattle.real_time.specs.Deeds.{Deed, Enters, Shows, Wakes, Returns}
use Rattle.real_time.specs.States.{Stage, Works, Closes, Joins, Tells, Ended, TimeState, Opening, opened, seen_at, Prints, action_at, TimeEvent, Accepts, Displays, Moves, after_accept, behind_display, lines_printed, after_display, after_woken, joined_by, join_move, operator_move, task_move, occurs, MayHappen}
use Rattle.real_time.specs.TimesLaw.{timing}
use Rattle.real_time.specs.Owed.{lines_owed, starts_owed, pending_of, IsBehind}
use Rattle.real_time.proofs.Reaching.{Holds, at-opening, keeps, holds, Fits}
use Rattle.real_time.proofs.Accounts.{Accounts, Displayed, accounts, accounts-open, closed-pending, displays-first, keeps-accounts}
use Rattle.real_time.specs.Timed.{IsDone, IsWhole, IsTimed}
use Rattle.real_time.specs.declared.table.Woken.{Woken}
use Rattle.network_run.specs.declared.stepped.Stepped.{Stepped}
use Rattle.network_run.specs.declared.stepped.Stepped.TheVariants as stepped
use Rattle.std.specs.Prelude.{Bool, false, true}

-- The console that tells it has the lines that were displayed, and where there was a fault perhaps a part of
-- the next one.
pub record HasShown (given : List ℕ) (all : List ℕ) (s : TimeState) : Type 0 where
  pub part : List ℕ
  pub console : s.console ≡ Some (given ++ (text s.shown ++ part))
  pub more : List ℕ
  pub all_are : (text s.shown ++ part) ++ more ≡ all
  pub whole : s.fault ≡ None → part ≡ []

text-append : (some more : List (List ℕ)) → text (some ++ more) ≡ text some ++ text more
text-append [] more = refl
text-append (line ∷ some) more =
    ap (λ rest. line_text line ++ rest) (text-append some more) ∙ sym (append_assoc (line_text line) (text some) (text more))

-- an event that isn't a display leaves both
record SameConsole (s new : TimeState) : Type 0 where
  console : new.console ≡ s.console
  shown : new.shown ≡ s.shown
  fault : new.fault ≡ None → s.fault ≡ None

same-tells : (given all : List ℕ) (s new : TimeState) → SameConsole s new → HasShown given all s → HasShown given all new
same-tells given all s new same t = record {
  part = t.part;
  console = same.console ∙ t.console ∙ ap (λ shown. Some (given ++ (text shown ++ t.part))) (sym same.shown);
  more = t.more;
  all_are = ap (λ shown. (text shown ++ t.part) ++ t.more) same.shown ∙ t.all_are;
  whole = λ none. t.whole (same.fault none);
}

accept-same : (s : TimeState) (answer : CardRead) → SameConsole s (after_accept s answer)
accept-same s (read.Card line) = record { console = refl; shown = refl; fault = λ none. none }
accept-same s read.Spoiled = record { console = refl; shown = refl; fault = λ none. none }
accept-same s read.End = record { console = refl; shown = refl; fault = λ none. none }
accept-same s read.Failed = record { console = refl; shown = refl; fault = λ none. absurd cc }
accept-same s read.Limit = record { console = refl; shown = refl; fault = λ none. absurd cc }

same-itself : (s : TimeState) → SameConsole s s
same-itself s = record { console = refl; shown = refl; fault = λ none. none }

woken-same : (s : TimeState) (w : Woken) (place second : ℕ) (deeds : List Deed) → SameConsole s (after_woken w s place second deeds).to
woken-same s woken.NotDue place second deeds = record { console = refl; shown = refl; fault = λ none. none }
woken-same s woken.Continued place second deeds = record { console = refl; shown = refl; fault = λ none. none }
woken-same s woken.Delayed place second deeds = record { console = refl; shown = refl; fault = λ none. none }

joined-same : (s : TimeState) (t : Table) (how : Stepped) (all : Bool)
    → SameConsole s (joined_by all how s t).to
joined-same s t how true = record { console = refl; shown = refl; fault = λ none. none }
joined-same s t how false = record { console = refl; shown = refl; fault = λ none. none }

joins-same : (s : TimeState) (operator : Option ℕ) → SameConsole s (join_move operator s).to
joins-same s None = joined-same s s.table stepped.Acted (all_left s.table)
joins-same s (Some p) = joined-same s (operator_resumed s.table) stepped.Resumed (all_left s.table)

operator-same : (s : TimeState) (stage : Stage) → SameConsole s (operator_move stage s).to
operator-same s (Works []) = same-itself s
operator-same s (Works (Enters line ∷ deeds)) = record { console = refl; shown = refl; fault = λ none. none }
operator-same s (Works (Shows text ∷ deeds)) = same-itself s
operator-same s (Works (Wakes place second due ∷ deeds)) = woken-same s (woken_by due (sleeper_at s.table.queues place)) place second deeds
operator-same s (Works (Returns ∷ deeds)) = record { console = refl; shown = refl; fault = λ none. none }
operator-same s Closes = record { console = refl; shown = refl; fault = λ none. none }
operator-same s Joins = joins-same s s.table.operator
operator-same s (Tells place []) = record { console = refl; shown = refl; fault = λ none. none }
operator-same s (Tells place (name ∷ names)) = same-itself s
operator-same s Ended = same-itself s

task-same : (s : TimeState) (place : ℕ) (left : Bool) (held : Option ℕ) → SameConsole s (task_move left held s place).to
task-same s place true held = record { console = refl; shown = refl; fault = λ none. none }
task-same s place false (Some p) = record { console = refl; shown = refl; fault = λ none. none }
task-same s place false None = record { console = refl; shown = refl; fault = λ none. none }

-- ---- a line is displayed
printed-tells : (given : List ℕ) (items : List Item) (s : TimeState) (now : Option (List ℕ)) (line : List ℕ) (all : Type 0) → all
    → HasShown given (text (times items)) s
    → action_at s.stage s.seen ≡ Prints line → s.fault ≡ None → Gains s.console now (line_text line) all
    → Accounts items (after_display s None now) → HasShown given (text (times items)) (after_display s None now)
printed-tells given items s now line all holds t next none gains a =
    let empty = t.whole none in
    let gained = gains.told _ t.console in
    let whole = gained.all_is holds in
    let shown : text (s.shown ++ line ∷ []) ≡ text s.shown ++ line_text line = text-append s.shown (line ∷ [])
    ∙ ap (λ l. text s.shown ++ l) (append-nil (line_text line)) in
    record {
      part = [];
      console = gained.now_is
          ∙ ap Some (ap (λ part. (given ++ (text s.shown ++ t.part)) ++ part) whole
          ∙ ap (λ part. (given ++ (text s.shown ++ part)) ++ line_text line) empty
          ∙ ap (λ l. (given ++ l) ++ line_text line) (append-nil (text s.shown))
          ∙ append_assoc given (text s.shown) (line_text line)
          ∙ ap (λ l. given ++ l) (sym (append-nil _ ∙ ap (λ next. text (s.shown ++ lines_printed next)) next ∙ shown)));
      more = text a.lines.more;
      all_are = ap (λ l. l ++ text a.lines.more) (append-nil _) ∙ sym (text-append (s.shown ++ lines_printed (action_at s.stage s.seen)) a.lines.more)
          ∙ ap text a.lines.all_are;
      whole = λ n. refl;
    }

failed-tells : (given : List ℕ) (items : List Item) (s : TimeState) (fault : PrintFault) (now : Option (List ℕ)) (line : List ℕ)
    → HasShown given (text (times items)) s
    → (a : Accounts items s) → Displayed items s a.rest line (behind_display s.stage) → Gains s.console now (line_text line) (Some fault ≡ None)
    → HasShown given (text (times items)) (after_display s (Some fault) now)
failed-tells given items s fault now line t a d gains =
    let empty = t.whole d.fault in
    let gained = gains.told _ t.console in
    let more = a.lines.are d.fault ∙ d.lines in
    let later = lines_owed (behind_display s.stage) s.script a.rest in
    let lines : text s.shown ++ (line_text line ++ text later) ≡ text (times items) =
    sym (text-append s.shown (line ∷ later)) ∙ ap (λ more. text (s.shown ++ more)) (sym more) ∙ ap text a.lines.all_are in
    record {
      part = gained.part;
      console = gained.now_is
          ∙ ap Some (ap (λ part. (given ++ (text s.shown ++ part)) ++ gained.part) empty
          ∙ ap (λ l. (given ++ l) ++ gained.part) (append-nil (text s.shown))
          ∙ append_assoc given (text s.shown) gained.part);
      more = gained.prefix.rest ++ text later;
      all_are = append_assoc (text s.shown) gained.part (gained.prefix.rest ++ text later)
          ∙ ap (λ l. text s.shown ++ l) (sym (append_assoc gained.part gained.prefix.rest (text later)) ∙ ap (λ l. l ++ text later) gained.prefix.whole_is)
          ∙ lines;
      whole = λ n. absurd cc;
    }

keeps-tells : (given : List ℕ) (items : List Item) (s : TimeState) (event : TimeEvent) → Holds s → (a : Accounts items s) → MayHappen s event
    → HasShown given (text (times items)) s → HasShown given (text (times items)) (occurs s event)
keeps-tells given items s (Accepts answer) h a is t = same-tells given _ s (after_accept s answer) (accept-same s answer) t
keeps-tells given items s (Displays None now) h a is t =
    let d = displays-first items s h a is.0 s.stage refl is.1 in
    printed-tells given items s now is.0 _ refl t is.1 d.fault is.2 (keeps-accounts items s (Displays None now) h a is)
keeps-tells given items s (Displays (Some fault) now) h a is t =
    failed-tells given items s fault now is.0 t a (displays-first items s h a is.0 s.stage refl is.1) is.2
keeps-tells given items s (Moves zero how) h a is t = absurd is.0
keeps-tells given items s (Moves (suc zero) how) h a is t = same-tells given _ s (operator_move s.stage s).to (operator-same s s.stage) t
keeps-tells given items s (Moves (suc (suc place)) how) h a is t =
    same-tells given _ s (task_move (has_left s.table place) (sleeper_at s.table.queues place) s place).to
    (task-same s place (has_left s.table place) (sleeper_at s.table.queues place)) t

tells-along : (given : List ℕ) (items : List Item) (s : TimeState) (events : List TimeEvent) → Holds s → Accounts items s → AreEnabled timing s events
    → HasShown given (text (times items)) s → HasShown given (text (times items)) (run timing s events)
tells-along given items s [] h a all t = t
tells-along given items s (event ∷ events) h a all t =
    tells-along given items (occurs s event) events (keeps s event h all.0) (keeps-accounts items s event h a all.0) all.1
    (keeps-tells given items s event h a all.0 t)

-- ---- a console that doesn't tell
untold-event : (s : TimeState) (event : TimeEvent) → MayHappen s event → s.console ≡ None → (occurs s event).console ≡ None
untold-event s (Accepts answer) is none = (accept-same s answer).console ∙ none
untold-event s (Displays fault now) is none = is.2.untold none
untold-event s (Moves zero how) is none = absurd is.0
untold-event s (Moves (suc zero) how) is none = (operator-same s s.stage).console ∙ none
untold-event s (Moves (suc (suc place)) how) is none =
    (task-same s place (has_left s.table place) (sleeper_at s.table.queues place)).console ∙ none

untold-along : (s : TimeState) (events : List TimeEvent) → AreEnabled timing s events → s.console ≡ None → (run timing s events).console ≡ None
untold-along s [] all none = none
untold-along s (event ∷ events) all none = untold-along (occurs s event) events all.1 (untold-event s event all.0 none)

-- ---- the whole
module _ (o : Opening) (items : List Item) (told : o.keys ≡ Some items) (s : TimeState) (r : IsReached timing (opened o) s) where
  holds-here : Holds s
  holds-here = holds o s r

  a : Accounts items s
  a = accounts o s items r told

  tells : (given : List ℕ) → o.console ≡ Some given → HasShown given (text (times items)) s
  tells given is = subst (HasShown given (text (times items))) r.leads
      (tells-along given items (opened o) r.events (at-opening o) (accounts-open o items told) r.enabled record {
        part = [];
        console = is ∙ ap Some (sym (append-nil given));
        more = text (times items);
        all_are = refl;
        whole = λ none. refl;
      })

  done-lines : IsDone s → s.shown ≡ times items
  done-lines done =
      let more = a.lines.are done.1 ∙ ap (λ stage. lines_owed stage s.script a.rest) done.0 in
      sym (append-nil s.shown) ∙ ap (λ m. s.shown ++ m) (sym more) ∙ a.lines.all_are

  done-closed : IsDone s → s.table.closed ≡ true
  done-closed done = (subst (λ stage. Fits stage s.table) done.0 holds-here.fits).0

  done-whole : IsDone s → IsWhole items s
  done-whole done = record {
    shown = done-lines done;
    keys = a.keys ∙ ap Some (subst (λ stage. IsBehind stage s.fault a.rest) done.0 a.behind done.1);
    seen = λ place.
        let more = (a.starts place).are done.1 ∙ ap (λ stage. starts_owed place stage s.script a.rest) done.0 in
        sym (append-nil (seen_at s place))
        ∙ ap (λ m. seen_at s place ++ m) (sym (ap (λ p. p ++ (a.starts place).more) (closed-pending s.table place (done-closed done)) ∙ more))
        ∙ (a.starts place).all_are;
  }

  pub timed : IsTimed o items s
  timed = record {
    shown = (a.lines.more, a.lines.all_are);
    seen = λ place. (pending_of s place ++ (a.starts place).more, (a.starts place).all_are);
    console = record {
      told = λ given is.
          let t = tells given is in
          record {
            part = text s.shown ++ t.part;
            now_is = t.console;
            prefix = record { rest = t.more; whole_is = t.all_are };
            all_is = λ done. ap (λ part. text s.shown ++ part) (t.whole done.1) ∙ append-nil (text s.shown) ∙ ap text (done-lines done);
          };
      untold = λ none. subst (λ s. s.console ≡ None) r.leads (untold-along (opened o) r.events r.enabled none);
    };
    whole = done-whole;
  }
