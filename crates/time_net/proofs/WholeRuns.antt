-- A whole run, from the making of the nine to their end.
use Rattle.std.proofs.Common.{◌≡◌, ◌<◌, ℕ, zero, suc, Bool, true, false, Option, None, Some, List, [], ◌∷◌, refl, sym, ◌∙◌, ap, subst, arith}
use Rattle.std.specs.List.{AllByRecursion}
use Rattle.solo_base.specs.declared.item.Item.{Item}
use Rattle.solo_base.specs.declared.outcome.Cause.{Cause}
use Rattle.solo_base.specs.declared.outcome.Cause.TheVariants as cause
use Rattle.solo_base.specs.declared.outcome.Outcome.{Outcome}
use Rattle.solo_devices.specs.CardUnit.{byte_limit, bytes_total, items_ahead}
use Rattle.solo_devices.specs.Typewriter.{Typing}
use Rattle.solo_devices.specs.declared.card_read.CardRead.TheVariants as read
use Rattle.network_run.specs.declared.counts.Counts.{Counts}
use Rattle.network_run.specs.declared.rules.Rule.{Rule}
use Rattle.network_run.specs.declared.stepped.Stepped.{Stepped}
use Rattle.network_run.specs.declared.stepped.Stepped.TheVariants as stepped
use Rattle.network_run.specs.Counting.{counts_of, grants_of, raised}
use Rattle.network_run.specs.Law.{AllEnded, Placed, run}
use Rattle.network_run.specs.OneRun.{AreItsCounts}
use Rattle.network_run.specs.Runs.{RunsBy}
use Rattle.network_run.proofs.OneRun.{its-counts}
use Rattle.real_time.specs.declared.table.Woken.{Woken}
use Rattle.real_time.specs.declared.table.Woken.TheVariants as woken
use Rattle.real_time.specs.Deeds.{Deed, Enters, Shows, Wakes, Returns}
use Rattle.real_time.proofs.Sureness.{sure}
use Rattle.real_time.specs.States.{Stage, Works, Closes, Joins, Tells, Ended, Accepts, Displays, Moves, TimeEvent, TimeState, after_woken, join_move, joined_by, move_of, occurs, operator_move, task_move}
use Rattle.real_time.specs.Table.{Table, all_left, has_left, operator_resumed, sleeper_at, woken_by}
use Rattle.real_time.specs.TimesLaw.{IsUntroubled, timing}
use Rattle.real_time.proofs.Unstuck.{sound}
use Rattle.time_net.specs.declared.net.TimeNet.{TimeNet}
use Rattle.time_net.specs.TimeStands.{IsCounted, IsFaultOfTimes, TimesStand, OpensOver, Tellers, all_runs, outcome_with}
use Rattle.time_net.specs.TimesRuns.{TimesRun, fault_told}

-- ---- a fault stays
woken-fault : (w : Woken) (s : TimeState) (place second : ℕ) (deeds : List Deed) → (after_woken w s place second deeds).to.fault ≡ s.fault
woken-fault woken.NotDue s place second deeds = refl
woken-fault woken.Continued s place second deeds = refl
woken-fault woken.Delayed s place second deeds = refl

joined-fault : (all : Bool) (how : Stepped) (s : TimeState) (t : Table) → (joined_by all how s t).to.fault ≡ s.fault
joined-fault true how s t = refl
joined-fault false how s t = refl

joins-fault : (operator : Option ℕ) (s : TimeState) → (join_move operator s).to.fault ≡ s.fault
joins-fault None s = joined-fault (all_left s.table) stepped.Acted s s.table
joins-fault (Some p) s = joined-fault (all_left s.table) stepped.Resumed s (operator_resumed s.table)

operator-fault : (s : TimeState) (stage : Stage) → (operator_move stage s).to.fault ≡ s.fault
operator-fault s (Works []) = refl
operator-fault s (Works (Enters line ∷ deeds)) = refl
operator-fault s (Works (Shows text ∷ deeds)) = refl
operator-fault s (Works (Wakes place second due ∷ deeds)) = woken-fault (woken_by due (sleeper_at s.table.queues place)) s place second deeds
operator-fault s (Works (Returns ∷ deeds)) = refl
operator-fault s Closes = refl
operator-fault s Joins = joins-fault s.table.operator s
operator-fault s (Tells place []) = refl
operator-fault s (Tells place (name ∷ names)) = refl
operator-fault s Ended = refl

task-fault : (s : TimeState) (place : ℕ) (left : Bool) (held : Option ℕ) → (task_move left held s place).to.fault ≡ s.fault
task-fault s place true held = refl
task-fault s place false (Some p) = refl
task-fault s place false None = refl

move-fault : (s : TimeState) (p : ℕ) → (move_of s p).to.fault ≡ s.fault
move-fault s zero = refl
move-fault s (suc zero) = operator-fault s s.stage
move-fault s (suc (suc place)) = task-fault s place (has_left s.table place) (sleeper_at s.table.queues place)

-- behind an event without a fault there was none before it, and no device failed in it
well-before : (s : TimeState) (event : TimeEvent) → (occurs s event).fault ≡ None → (s.fault ≡ None) × IsUntroubled event
well-before s (Accepts (read.Card line)) none = (none, tt)
well-before s (Accepts read.Spoiled) none = (none, tt)
well-before s (Accepts read.End) none = (none, tt)
well-before s (Accepts read.Failed) none = absurd cc
well-before s (Accepts read.Limit) none = absurd cc
well-before s (Displays None now) none = (none, refl)
well-before s (Displays (Some fault) now) none = absurd cc
well-before s (Moves p how) none = (sym (move-fault s p) ∙ none, tt)

all-well : (s : TimeState) (events : List TimeEvent) → (run timing s events).fault ≡ None → (s.fault ≡ None) × AllByRecursion IsUntroubled events
all-well s [] none = (none, tt)
all-well s (event ∷ events) none =
    let (here, later) = all-well (occurs s event) events none in
    let (before, smooth) = well-before s event here in
    (before, (smooth, later))

-- ---- nothing is granted
no-grants : (s : TimeState) (events : List TimeEvent) → grants_of timing s events ≡ 0
no-grants s [] = refl
no-grants s (event ∷ events) = (let rest = no-grants (occurs s event) events in omega (arith, rest))

pub none-granted : (s : TimeState) (events : List TimeEvent) (counts : Counts) → counts ≡ counts_of timing s events → counts.grants ≡ 0
none-granted s events counts are =
    ap (λ (c : Counts). c.grants) are ∙ ap (raised 0) (no-grants s events)

-- ---- outcomes
fault-of : (o : Outcome) (fault : Option Cause) → o ≡ outcome_with fault → fault_told o ≡ fault
fault-of o None is = ap fault_told is
fault-of o (Some c) is = ap fault_told is

pub the-fault : (o : Outcome) (fault : Option Cause) → o ≡ outcome_with fault → fault ≡ fault_told o
the-fault o fault is = sym (fault-of o fault is)

pub outcome-told : (o : Outcome) (fault : Option Cause) → o ≡ outcome_with fault → o ≡ outcome_with (fault_told o)
outcome-told o None is = rw is refl
outcome-told o (Some c) is = rw is refl

module _ {Y T : Type 0} (tells : Tellers Y T) (net : TimeNet Y T) (keys : Y) (console : T) where
  -- ---- at the opening nothing has failed
  pub counted-first : OpensOver tells net keys console → tells.taken keys ≡ 0 → IsCounted tells keys console net.operator.fault net.typewriter
  counted-first opens unread =
      let keys_are = opens.devices.0 in
      let console_is = opens.devices.1 in
      let well = opens.well in record {
        read = λ is. absurd (let none : None ≡ Some cause.ReadFault = sym well ∙ is in cc);
        limit = λ is. absurd (let none : None ≡ Some cause.DeckLimit = sym well ∙ is in cc);
        beyond = λ over. absurd (never (tells.taken net.typewriter.keys.source) (ap tells.taken keys_are ∙ unread) over);
        shown = λ is. absurd (let none : None ≡ Some cause.ConsoleFault = sym well ∙ is in cc);
        read_on = (let same = ap tells.read_faults keys_are in omega (arith, same));
        shown_on = (let same = ap tells.shown_faults console_is in omega (arith, same));
        total = ap (λ keys. bytes_total (tells.taken keys) (tells.left keys)) keys_are;
      }
    where
      never : (taken : ℕ) → taken ≡ 0 → byte_limit < taken → ⊥
      never taken none over = omega (arith, none, over)

  pub known-first : OpensOver tells net keys console → IsFaultOfTimes net.operator.fault
  known-first opens = subst IsFaultOfTimes (sym opens.well) tt

-- ---- the run
module _ {Y T : Type 0} (tells : Tellers Y T) (first last : TimeNet Y T) (rule : Rule) (at : Placed timing (TimesStand tells first)) (counts : Counts)
    (ran : RunsBy timing (TimesStand tells last) rule at.state counts) (ended : AllEnded timing (run timing at.state ran.events)) where
  pub to-end : (starts : List ℕ) → starts ≡ all_runs (run timing at.state ran.events) → (t : Typing Y T) → t ≡ last.typewriter
      → TimesRun rule at.state counts starts (items_ahead (tells.left t.keys.source) t.keys.pending) (tells.given t.console.sink)
  to-end starts seen t same = record {
    events = ran.events;
    enabled = ran.enabled;
    by_rule = ran.by_rule;
    counts_are = ran.counts_are;
    ended = ended;
    starts_are = seen;
    keys_are = ran.stands.is.keys ∙ ap (λ (t : Typing Y T). items_ahead (tells.left t.keys.source) t.keys.pending) (sym same);
    console_is = ran.stands.is.console ∙ ap (λ (t : Typing Y T). tells.given t.console.sink) (sym same);
  }

  pub the-counts : (items : List Item) → at.opening.keys ≡ Some items → last.operator.fault ≡ None → AreItsCounts timing rule at.state counts
  the-counts items told well =
      its-counts timing sound sure at.opening (items, told) (TimesStand tells last) rule at.state counts ran at.reached
      (all-well at.state ran.events (sym ran.stands.is.operator.fault_is ∙ well)).1 ended
