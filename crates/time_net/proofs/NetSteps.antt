-- A step of the network is an event of its law.
use Rattle.std.proofs.Common.{◌≡◌, ◌≢◌, ◌↔◌, ℕ, suc, ◌<◌, ◌≤◌, true, false, Option, None, Some, List, [], ◌∷◌, ◌++◌, get_or, length, refl, sym, ◌∙◌, ap, subst, arith}
use Rattle.std.specs.Prelude.{drop, slice_set}
use Rattle.solo_base.specs.Text.{line_text}
use Rattle.solo_base.specs.declared.item.Item.{Item}
use Rattle.solo_base.specs.declared.outcome.Cause.{Cause}
use Rattle.solo_base.specs.declared.outcome.Cause.TheVariants as cause
use Rattle.solo_devices.specs.Count.{Rose}
use Rattle.solo_devices.specs.CardUnit.{GivesNext, IsAllTaken, byte_limit, bytes_total, item_of, items_ahead, work_ahead}
use Rattle.solo_devices.specs.PrinterUnit.{Gains}
use Rattle.solo_devices.specs.Typewriter.{Typing}
use Rattle.solo_devices.specs.declared.card_read.CardRead.{CardRead}
use Rattle.solo_devices.specs.declared.card_read.CardRead.TheVariants as read
use Rattle.solo_devices.specs.declared.printer_unit.PrintFault.{PrintFault}
use Rattle.solo_devices.specs.declared.printer_unit.PrintFault.TheVariants as print
use Rattle.network_run.specs.declared.stepped.Stepped.{Stepped}
use Rattle.network_run.specs.declared.stepped.Stepped.TheVariants as stepped
use Rattle.network_run.specs.Law.{IsReached, Steps}
use Rattle.real_time.specs.Table.{Table}
use Rattle.real_time.specs.Starts.{Script}
use Rattle.real_time.specs.States.{Stage, Works, Closes, Joins, Tells, Ended, Accepts, Displays, MayHappen, MayMove, Moved, Moves, Opening, OperatorMay, Prints, TimeEvent, TimeState, action_at, after_answer, behind_display, behind_fault, display_cause, how_went, keys_behind, move_of, occurs, opened, operator_move, process_of}
use Rattle.real_time.specs.TimesLaw.{timing}
use Rattle.real_time.proofs.Reaching.{Fits, holds}
use Rattle.time_net.specs.declared.calling.Call.{Call}
use Rattle.time_net.specs.declared.net.TimeNet.{TimeNet}
use Rattle.time_net.specs.declared.operator.Operator.{Operator}
use Rattle.time_net.specs.declared.task_proc.TaskProc.{TaskProc}
use Rattle.time_net.specs.Falls.{net-falls}
use Rattle.time_net.specs.Standing.{CallsFor, IsCall, OperatorStands, OperatorIsAt, behind_call}
use Rattle.time_net.specs.TableCalls.{MayCallTable, called_how, called_table}
use Rattle.time_net.specs.TaskSteps.{TasksStand, stepped_how, stepped_table, stepped_task}
use Rattle.time_net.specs.TimeStands.{IsCounted, IsFaultOfTimes, IsReadOut, KeepsCounts, LeavesLines, TimesMoves, TimesStand, NineStand, Tellers, keys_ahead, operator_held}
use Rattle.time_net.proofs.OperatorMoves.{CallMoved, call-moved}
use Rattle.time_net.proofs.SeenFew.{seen-few}
use Rattle.time_net.proofs.TaskMoves.{TaskMoved, task-moved, tasks-moved, tasks-same}
use Rattle.time_net.proofs.TaskKeeps.{task-keeps}

-- ---- what a card unit gives is what the keys are behind it
keys-follow : (before now : Option (List Item)) (answer : CardRead) → GivesNext before now answer → now ≡ keys_behind before answer
keys-follow None now answer gives = gives.untold refl
keys-follow (Some items) now answer gives = (let takes = gives.told items refl in takes.now_are ∙ ap Some (by answer items takes.rest takes.items_are))
  where
    by : (answer : CardRead) (items rest : List Item) → items ≡ item_of answer ++ rest → rest ≡ drop (length (item_of answer)) items
    by (read.Card line) items rest is = sym (ap (drop 1) is)
    by read.Spoiled items rest is = sym (ap (drop 1) is)
    by read.End items rest is = sym is
    by read.Failed items rest is = sym is
    by read.Limit items rest is = sym is

-- ---- counts
raised-up : (a b c : ℕ) → a ≤ b → Rose b c → Rose a c
raised-up a b c less rose = omega (arith, less, rose)

pub keeps-same : {Y T : Type 0} (tells : Tellers Y T) (old new : TimeNet Y T) → new.operator.fault ≡ old.operator.fault → new.typewriter ≡ old.typewriter
    → KeepsCounts tells old new
keeps-same tells old new fault typewriter = record {
  counted = λ keys console were.
      subst (λ t. IsCounted tells keys console new.operator.fault t) (sym typewriter)
      (subst (λ f. IsCounted tells keys console f old.typewriter) (sym fault) were);
  known = λ were. subst IsFaultOfTimes (sym fault) were;
}

-- what a typewriter counts of a line that it reads
pub record AcceptCounts {Y T : Type 0} (tells : Tellers Y T) (old new : Typing Y T) (answer : CardRead) : Type 0 where
  pub failed : answer ≡ read.Failed → Rose (tells.read_faults old.keys.source) (tells.read_faults new.keys.source)
  pub counts : tells.read_faults old.keys.source ≤ tells.read_faults new.keys.source
  pub limit : (answer ≡ read.Limit) ↔ (byte_limit < tells.taken new.keys.source)
  pub live : answer ≢ read.Failed → answer ≢ read.Limit → new.keys.live ≡ true
  pub total : bytes_total (tells.taken new.keys.source) (tells.left new.keys.source)
      ≡ bytes_total (tells.taken old.keys.source) (tells.left old.keys.source)
  pub falls : 0 < length (item_of answer) → keys_ahead tells new < keys_ahead tells old
  pub console : new.console ≡ old.console
  pub all_taken : answer ≡ read.End → IsAllTaken (tells.left new.keys.source)

read-fault : (s : TimeState) (answer : CardRead) → s.fault ≡ None → (after_answer s answer).fault ≡ Some cause.ReadFault → answer ≡ read.Failed
read-fault s (read.Card line) none is = absurd (let no_fault : None ≡ Some cause.ReadFault = sym none ∙ is in cc)
read-fault s read.Spoiled none is = absurd (let no_fault : None ≡ Some cause.ReadFault = sym none ∙ is in cc)
read-fault s read.End none is = absurd (let no_fault : None ≡ Some cause.ReadFault = sym none ∙ is in cc)
read-fault s read.Failed none is = refl
read-fault s read.Limit none is = absurd cc

limit-fault : (s : TimeState) (answer : CardRead) → s.fault ≡ None → (after_answer s answer).fault ≡ Some cause.DeckLimit → answer ≡ read.Limit
limit-fault s (read.Card line) none is = absurd (let no_fault : None ≡ Some cause.DeckLimit = sym none ∙ is in cc)
limit-fault s read.Spoiled none is = absurd (let no_fault : None ≡ Some cause.DeckLimit = sym none ∙ is in cc)
limit-fault s read.End none is = absurd (let no_fault : None ≡ Some cause.DeckLimit = sym none ∙ is in cc)
limit-fault s read.Failed none is = absurd cc
limit-fault s read.Limit none is = refl

no-console : (s : TimeState) (answer : CardRead) → s.fault ≡ None → (after_answer s answer).fault ≡ Some cause.ConsoleFault → ⊥
no-console s (read.Card line) none is = (let no_fault : None ≡ Some cause.ConsoleFault = sym none ∙ is in cc)
no-console s read.Spoiled none is = (let no_fault : None ≡ Some cause.ConsoleFault = sym none ∙ is in cc)
no-console s read.End none is = (let no_fault : None ≡ Some cause.ConsoleFault = sym none ∙ is in cc)
no-console s read.Failed none is = cc
no-console s read.Limit none is = cc

known-fault : (s : TimeState) (answer : CardRead) → IsFaultOfTimes s.fault → IsFaultOfTimes (after_answer s answer).fault
known-fault s (read.Card line) known = known
known-fault s read.Spoiled known = known
known-fault s read.End known = known
known-fault s read.Failed known = tt
known-fault s read.Limit known = tt

read-keeps : {Y T : Type 0} (tells : Tellers Y T) (old new : TimeNet Y T) (s : TimeState) (answer : CardRead) → s.fault ≡ None
    → old.operator.fault ≡ s.fault → new.operator.fault ≡ (after_answer s answer).fault → AcceptCounts tells old.typewriter new.typewriter answer
    → KeepsCounts tells old new
read-keeps tells old new s answer none fault_is now_fault counts = record {
  counted = λ keys console were. subst (λ f. IsCounted tells keys console f new.typewriter) (sym now_fault) (record {
    read = λ is. raised-up _ _ _ were.read_on (counts.failed (read-fault s answer none is));
    limit = λ is. counts.limit.0 (limit-fault s answer none is);
    beyond = λ over. ap (λ answer. (after_answer s answer).fault) (counts.limit.1 over);
    shown = λ is. absurd (no-console s answer none is);
    read_on = (let first = were.read_on in let more = counts.counts in omega (arith, first, more));
    shown_on = subst (λ c. tells.shown_faults console ≤ tells.shown_faults c.sink) (sym counts.console) were.shown_on;
    total = counts.total ∙ were.total;
  });
  known = λ known. subst IsFaultOfTimes (sym now_fault) (known-fault s answer (subst IsFaultOfTimes fault_is known));
}

-- ---- a step with its event
module _ {Y T : Type 0} (tells : Tellers Y T) (old : TimeNet Y T) (o : Opening) (s : TimeState) (reached : IsReached timing (opened o) s)
    (stands : TimesStand tells old s) where
  step-of : (new : TimeNet Y T) (event : TimeEvent) (p : ℕ) (result : Stepped) → process_of event ≡ p → result ≡ how_went event → MayHappen s event
      → NineStand tells new (occurs s event) → LeavesLines event (keys_ahead tells old.typewriter) (keys_ahead tells new.typewriter)
      → KeepsCounts tells old new → Steps timing (TimesStand tells) (TimesMoves tells) old new s p result
  step-of new event p result is told happens at lines keeps =
      let less = net-falls tells old new o s event reached happens lines in
      let most = stands.within in
      record {
        event = event;
        process_is = is;
        told = told;
        enabled = happens;
        stands = record { is = at; within = omega (arith, less, most) };
        moves = record { lines = lines; keeps = keeps };
      }

  -- ---- a line is read
  read-out : (answer : CardRead) (left : Option (List ℕ)) → (answer ≡ read.End → IsAllTaken left)
      → IsReadOut (after_answer s answer).stage (after_answer s answer).fault left
  read-out (read.Card line) left over = tt
  read-out read.Spoiled left over = tt
  read-out read.End left over = λ none. over refl
  read-out read.Failed left over = λ none. absurd cc
  read-out read.Limit left over = λ none. absurd cc

  live-behind : (answer : CardRead) → (after_answer s answer).fault ≡ None → (answer ≢ read.Failed) × (answer ≢ read.Limit)
  live-behind (read.Card line) none = (λ e. cc, λ e. cc)
  live-behind read.Spoiled none = (λ e. cc, λ e. cc)
  live-behind read.End none = (λ e. cc, λ e. cc)
  live-behind read.Failed none = absurd cc
  live-behind read.Limit none = absurd cc

  answer-same : (answer : CardRead) → ((after_answer s answer).table ≡ s.table) × ((after_answer s answer).seen ≡ s.seen)
      × ((after_answer s answer).ended ≡ s.ended) × ((after_answer s answer).console ≡ s.console)
  answer-same (read.Card line) = (refl, refl, refl, refl)
  answer-same read.Spoiled = (refl, refl, refl, refl)
  answer-same read.End = (refl, refl, refl, refl)
  answer-same read.Failed = (refl, refl, refl, refl)
  answer-same read.Limit = (refl, refl, refl, refl)

  pub read-steps : (t : Typing Y T) (operator : Operator) (answer : CardRead) → s.stage ≡ Works [] → s.fault ≡ None
      → GivesNext (items_ahead (tells.left old.typewriter.keys.source) old.typewriter.keys.pending)
      (items_ahead (tells.left t.keys.source) t.keys.pending) answer
      → AcceptCounts tells old.typewriter t answer → OperatorIsAt operator (after_answer s answer)
      → Steps timing (TimesStand tells) (TimesMoves tells) old (record old { typewriter = t; operator = operator }) s 1 stepped.Acted
  read-steps t operator answer is none gives counts at =
      let same = answer-same answer in
      let at_keys = subst (λ keys. GivesNext keys (items_ahead (tells.left t.keys.source) t.keys.pending) answer) (sym stands.is.keys) gives in
      let behind = keys-follow s.keys (items_ahead (tells.left t.keys.source) t.keys.pending) answer at_keys in
      let new : TimeNet Y T = record old { typewriter = t; operator = operator } in
      step-of new (Accepts answer) 1 stepped.Acted refl refl
      (ap (λ stage. action_at stage s.seen) is, subst (λ now. GivesNext s.keys now answer) behind at_keys)
      record {
        keys = sym behind;
        console = same.3 ∙ stands.is.console ∙ ap (λ c. tells.given c.sink) (sym counts.console);
        keys_live = λ well. (let ok = live-behind answer well in counts.live ok.0 ok.1);
        console_live = λ well. ap (λ c. c.live) counts.console ∙ stands.is.console_live none;
        table = stands.is.table ∙ sym same.0;
        held = ap (λ (t : Table). t.operator) same.0 ∙ stands.is.held;
        operator = record { does = at.does; fault_is = at.fault_is };
        tasks = tasks-same old.tasks s (occurs s (Accepts answer)) (λ place. record {
          seen = ap (λ seen. get_or seen place []) same.1;
          ended = ap (λ ended. get_or ended place true) same.2;
          left = ap (λ (t : Table). get_or t.left place false) same.0;
          held = ap (λ (t : Table). get_or t.queues place None) same.0;
        }) stands.is.tasks;
        read_out = read-out answer (tells.left t.keys.source) counts.all_taken;
      }
      counts.falls (read-keeps tells old new s answer none stands.is.operator.fault_is at.fault_is counts)

  -- ---- a line is displayed
  shown-out : (stage : Stage) (fault : Option Cause) (left : Option (List ℕ)) → IsReadOut stage fault left → IsReadOut (behind_display stage) fault left
  shown-out (Works []) fault left out = tt
  shown-out (Works (deed ∷ deeds)) fault left out = tt
  shown-out Closes fault left out = out
  shown-out Joins fault left out = out
  shown-out (Tells place []) fault left out = out
  shown-out (Tells place (name ∷ names)) fault left out = out
  shown-out Ended fault left out = out

  fault-out : (stage : Stage) (c : Cause) (left : Option (List ℕ)) → IsReadOut (behind_fault stage) (Some c) left
  fault-out (Works deeds) c left = λ none. absurd cc
  fault-out Closes c left = λ none. absurd cc
  fault-out Joins c left = λ none. absurd cc
  fault-out (Tells place names) c left = λ none. absurd cc
  fault-out Ended c left = λ none. absurd cc

  gains-where : (before now : Option (List ℕ)) (whole : List ℕ) (all other : Type 0) → (other → all) → Gains before now whole all
      → Gains before now whole other
  gains-where before now whole all other change gains = record {
    told = λ given told. record {
      part = (gains.told given told).part;
      now_is = (gains.told given told).now_is;
      prefix = (gains.told given told).prefix;
      all_is = λ more. (gains.told given told).all_is (change more);
    };
    untold = gains.untold;
  }

  module _ (t : Typing Y T) (operator : Operator) (line : List ℕ) (asks : action_at s.stage s.seen ≡ Prints line) (well : s.fault ≡ None)
      (keys : t.keys ≡ old.typewriter.keys) (on : tells.shown_faults old.typewriter.console.sink ≤ tells.shown_faults t.console.sink) where
    displayed-lines : keys_ahead tells t ≡ keys_ahead tells old.typewriter
    displayed-lines = ap (λ keys. work_ahead (tells.taken keys.source) keys.pending keys.ended) keys

    -- it was displayed
    pub shown-steps : (all : Type 0) → all → Gains (tells.given old.typewriter.console.sink) (tells.given t.console.sink) (line_text line) all
        → t.console.live ≡ true → OperatorStands operator (behind_display s.stage) s.script s.fault
        → Steps timing (TimesStand tells) (TimesMoves tells) old (record old { typewriter = t; operator = operator }) s 1 stepped.Acted
    shown-steps all ok gains live at =
        let new : TimeNet Y T = record old { typewriter = t; operator = operator } in
        let happens = gains-where (tells.given old.typewriter.console.sink) (tells.given t.console.sink) (line_text line) all
        (◌≡◌ {A = Option PrintFault} None None)
        (λ e. ok) gains in
        step-of new (Displays None (tells.given t.console.sink)) 1 stepped.Acted refl refl (
          line,
          asks,
          subst (λ before. Gains before (tells.given t.console.sink) (line_text line) (◌≡◌ {A = Option PrintFault} None None))
              (sym stands.is.console) happens,
        )
        record {
          keys = stands.is.keys ∙ ap (λ keys. items_ahead (tells.left keys.source) keys.pending) (sym keys);
          console = refl;
          keys_live = λ none. ap (λ keys. keys.live) keys ∙ stands.is.keys_live none;
          console_live = λ none. live;
          table = stands.is.table;
          held = stands.is.held;
          operator = record { does = at.does; fault_is = at.fault_is };
          tasks = tasks-same old.tasks s (occurs s (Displays None (tells.given t.console.sink)))
              (λ place. record { seen = refl; ended = refl; left = refl; held = refl }) stands.is.tasks;
          read_out = subst (λ keys. IsReadOut (behind_display s.stage) s.fault (tells.left keys.source)) (sym keys)
              (shown-out s.stage s.fault (tells.left old.typewriter.keys.source) stands.is.read_out);
        }
        displayed-lines record {
          counted = λ first console were. (let fault = at.fault_is ∙ sym stands.is.operator.fault_is in
              subst (λ f. IsCounted tells first console f t) (sym fault) (record {
                read = λ is. subst (λ keys. Rose (tells.read_faults first) (tells.read_faults keys.source)) (sym keys) (were.read is);
                limit = λ is. subst (λ keys. byte_limit < tells.taken keys.source) (sym keys) (were.limit is);
                beyond = λ over. were.beyond (subst (λ keys. byte_limit < tells.taken keys.source) keys over);
                shown = λ is. absurd (no-fault fault is);
                read_on = subst (λ keys. tells.read_faults first ≤ tells.read_faults keys.source) (sym keys) were.read_on;
                shown_on = (let front = were.shown_on in omega (arith, front, on));
                total = subst (λ keys. bytes_total (tells.taken keys.source) (tells.left keys.source) ≡ bytes_total (tells.taken first) (tells.left first))
                    (sym keys) were.total;
              }));
          known = λ known. subst IsFaultOfTimes (sym (at.fault_is ∙ sym stands.is.operator.fault_is)) known;
        }
      where
        no-fault : operator.fault ≡ old.operator.fault → old.operator.fault ≡ Some cause.ConsoleFault → ⊥
        no-fault same is = (let none : None ≡ Some cause.ConsoleFault = sym well ∙ sym stands.is.operator.fault_is ∙ is in cc)

    -- it was not
    pub failed-steps : (all : Type 0) (fault : PrintFault) → Gains (tells.given old.typewriter.console.sink) (tells.given t.console.sink) (line_text line) all
        → (fault ≡ print.Failed → Rose (tells.shown_faults old.typewriter.console.sink) (tells.shown_faults t.console.sink))
        → OperatorStands operator (behind_fault s.stage) s.script (Some (display_cause fault))
        → Steps timing (TimesStand tells) (TimesMoves tells) old (record old { typewriter = t; operator = operator }) s 1 stepped.Acted
    failed-steps all fault gains rose at =
        let new : TimeNet Y T = record old { typewriter = t; operator = operator } in
        let happens = gains-where (tells.given old.typewriter.console.sink) (tells.given t.console.sink) (line_text line) all (◌≡◌ {A = Option PrintFault}
        (Some fault) None)
        (λ e. absurd cc) gains in
        step-of new (Displays (Some fault) (tells.given t.console.sink)) 1 stepped.Acted refl refl (
          line,
          asks,
          subst (λ before. Gains before (tells.given t.console.sink) (line_text line) (◌≡◌ {A = Option PrintFault} (Some fault) None))
              (sym stands.is.console) happens,
        )
        record {
          keys = stands.is.keys ∙ ap (λ keys. items_ahead (tells.left keys.source) keys.pending) (sym keys);
          console = refl;
          keys_live = λ none. absurd cc;
          console_live = λ none. absurd cc;
          table = stands.is.table;
          held = stands.is.held;
          operator = record { does = at.does; fault_is = at.fault_is };
          tasks = tasks-same old.tasks s (occurs s (Displays (Some fault) (tells.given t.console.sink)))
              (λ place. record { seen = refl; ended = refl; left = refl; held = refl }) stands.is.tasks;
          read_out = fault-out s.stage (display_cause fault) (tells.left t.keys.source);
        }
        displayed-lines record {
          counted = λ first console were. subst (λ f. IsCounted tells first console f t) (sym at.fault_is) (record {
            read = λ is. absurd (not-read fault is);
            limit = λ is. absurd (not-limit fault is);
            beyond = λ over. absurd (not-beyond (were.beyond (subst (λ keys. byte_limit < tells.taken keys.source) keys over)));
            shown = λ is. raised-up _ _ _ were.shown_on (rose (console-failed fault is));
            read_on = subst (λ keys. tells.read_faults first ≤ tells.read_faults keys.source) (sym keys) were.read_on;
            shown_on = (let front = were.shown_on in omega (arith, front, on));
            total = subst (λ keys. bytes_total (tells.taken keys.source) (tells.left keys.source) ≡ bytes_total (tells.taken first) (tells.left first))
                (sym keys) were.total;
          });
          known = λ known. subst IsFaultOfTimes (sym at.fault_is) (shown-known fault);
        }
      where
        not-read : (fault : PrintFault) → Some (display_cause fault) ≡ Some cause.ReadFault → ⊥
        not-read print.Failed is = cc
        not-read print.NoMemory is = cc

        not-limit : (fault : PrintFault) → Some (display_cause fault) ≡ Some cause.DeckLimit → ⊥
        not-limit print.Failed is = cc
        not-limit print.NoMemory is = cc

        not-beyond : old.operator.fault ≡ Some cause.DeckLimit → ⊥
        not-beyond is = (let none : None ≡ Some cause.DeckLimit = sym well ∙ sym stands.is.operator.fault_is ∙ is in cc)

        console-failed : (fault : PrintFault) → Some (display_cause fault) ≡ Some cause.ConsoleFault → fault ≡ print.Failed
        console-failed print.Failed is = refl
        console-failed print.NoMemory is = absurd cc

        shown-known : (fault : PrintFault) → IsFaultOfTimes (Some (display_cause fault))
        shown-known print.Failed = tt
        shown-known print.NoMemory = tt

  -- ---- a call of the operator
  call-out : (stage : Stage) (script : Script) (fault : Option Cause) (left : Option (List ℕ)) → IsCall stage → IsReadOut stage fault left
      → IsReadOut (behind_call stage script fault) fault left
  call-out (Works []) script fault left may out = tt
  call-out (Works (deed ∷ deeds)) script fault left may out = tt
  call-out Closes script fault left may out = out
  call-out Joins script fault left may out = out
  call-out (Tells place []) script fault left may out = out
  call-out (Tells place (name ∷ names)) script fault left may out = absurd may
  call-out Ended script fault left may out = absurd may

  -- the parts of a call or an end
  call-step : (new : TimeNet Y T) (how : Stepped) (table : Table) (m : Moved) → m ≡ operator_move s.stage s → CallMoved s s.stage how table m
      → MayMove s 1 → new.typewriter ≡ old.typewriter → new.tasks ≡ old.tasks → new.table ≡ m.to.table → new.operator.fault ≡ s.fault
      → m.to.table.operator ≡ operator_held new.waits → OperatorIsAt new.operator m.to → IsReadOut m.to.stage m.to.fault (tells.left old.typewriter.keys.source)
      → Steps timing (TimesStand tells) (TimesMoves tells) old new s 1 how
  call-step new how table m is moved may typewriter tasks now fault held at out =
      step-of new (Moves 1 how) 1 how refl refl
      (may, moved.is_move s.seen, moved.how_is ∙ ap (λ (m : Moved). m.how) is)
      (subst (λ (m : Moved). NineStand tells new m.to) is record {
        keys = moved.devices.0 ∙ stands.is.keys ∙ ap (λ (t : Typing Y T). items_ahead (tells.left t.keys.source) t.keys.pending) (sym typewriter);
        console = moved.devices.1 ∙ stands.is.console ∙ ap (λ (t : Typing Y T). tells.given t.console.sink) (sym typewriter);
        keys_live = λ none. ap (λ (t : Typing Y T). t.keys.live) typewriter ∙ stands.is.keys_live (sym moved.fault ∙ none);
        console_live = λ none. ap (λ (t : Typing Y T). t.console.live) typewriter ∙ stands.is.console_live (sym moved.fault ∙ none);
        table = now;
        held = held;
        operator = at;
        tasks = subst (λ tasks. TasksStand tasks m.to) (sym tasks) (tasks-same old.tasks s m.to moved.same stands.is.tasks);
        read_out = subst (λ (t : Typing Y T). IsReadOut m.to.stage m.to.fault (tells.left t.keys.source)) (sym typewriter) out;
      })
      (ap (keys_ahead tells) typewriter)
      (keeps-same tells old new (fault ∙ sym stands.is.operator.fault_is) typewriter)

  at-now : (operator : Operator) (m : Moved) (stage : Stage) → m.to.stage ≡ stage → m.to.script ≡ s.script → m.to.fault ≡ s.fault
      → OperatorStands operator stage s.script s.fault → OperatorIsAt operator m.to
  at-now operator m stage stage_is script fault at =
      subst (λ stage. OperatorStands operator stage m.to.script m.to.fault) (sym stage_is)
      (subst (λ script. OperatorStands operator stage script m.to.fault) (sym script) (subst (λ fault. OperatorStands operator stage s.script fault)
      (sym fault) at))

  out-now : (m : Moved) (stage : Stage) (left : Option (List ℕ)) → m.to.stage ≡ stage → m.to.fault ≡ s.fault → IsReadOut stage s.fault left
      → IsReadOut m.to.stage m.to.fault left
  out-now m stage left stage_is fault out =
      subst (λ stage. IsReadOut stage m.to.fault left) (sym stage_is) (subst (λ fault. IsReadOut stage fault left) (sym fault) out)

  -- the operator waits
  pub delayed-steps : (c : Call) (how : Stepped) (table : Table) → CallsFor c s.stage → MayMove s 1 → how ≡ called_how c old.waits old.table
      → table ≡ called_table c old.waits old.table → how ≡ stepped.Delayed
      → Steps timing (TimesStand tells) (TimesMoves tells) old (record old { table = table; waits = true }) s 1 how
  delayed-steps c how table asks may how_is table_is delayed =
      let goes = call-moved s (holds o s reached) c old.waits stands.is.held asks may in
      let moved : CallMoved s s.stage (called_how c old.waits s.table) (called_table c old.waits s.table) (operator_move s.stage s) = goes.1 in
      let at_table = stands.is.table in
      let so = how_is ∙ ap (called_how c old.waits) at_table in
      let late = moved.delayed (sym so ∙ delayed) in
      subst (λ h. Steps timing (TimesStand tells) (TimesMoves tells) old (record old { table = table; waits = true }) s 1 h) (sym so)
      (call-step (record old { table = table; waits = true }) (called_how c old.waits s.table) (called_table c old.waits s.table) (operator_move s.stage s) refl
      moved may refl refl (table_is ∙ ap (called_table c old.waits) at_table ∙ moved.table_is) stands.is.operator.fault_is late.1
      (at-now old.operator (operator_move s.stage s) s.stage late.0 moved.script moved.fault stands.is.operator)
      (out-now (operator_move s.stage s) s.stage (tells.left old.typewriter.keys.source) late.0 moved.fault stands.is.read_out))

  -- it goes on
  pub called-steps : (c : Call) (how : Stepped) (table : Table) (operator : Operator) → CallsFor c s.stage → MayMove s 1
      → how ≡ called_how c old.waits old.table → table ≡ called_table c old.waits old.table → (how ≡ stepped.Delayed → ⊥)
      → (IsCall s.stage → OperatorStands operator (behind_call s.stage s.script s.fault) s.script s.fault)
      → Steps timing (TimesStand tells) (TimesMoves tells) old (record old { table = table; waits = false; operator = operator }) s 1 how
  called-steps c how table operator asks may how_is table_is going at =
      let goes = call-moved s (holds o s reached) c old.waits stands.is.held asks may in
      let moved : CallMoved s s.stage (called_how c old.waits s.table) (called_table c old.waits s.table) (operator_move s.stage s) = goes.1 in
      let at_table = stands.is.table in
      let so = how_is ∙ ap (called_how c old.waits) at_table in
      let gone = moved.gone (λ e. going (so ∙ e)) in
      let now = at moved.is_call in
      subst (λ h. Steps timing (TimesStand tells) (TimesMoves tells) old (record old { table = table; waits = false; operator = operator }) s 1 h) (sym so)
      (call-step (record old { table = table; waits = false; operator = operator }) (called_how c old.waits s.table) (called_table c old.waits s.table)
      (operator_move s.stage s) refl moved may refl refl (table_is ∙ ap (called_table c old.waits) at_table ∙ moved.table_is) now.fault_is gone.1
      (at-now operator (operator_move s.stage s) (behind_call s.stage s.script s.fault) gone.0 moved.script moved.fault now)
      (out-now (operator_move s.stage s) (behind_call s.stage s.script s.fault) (tells.left old.typewriter.keys.source) gone.0 moved.fault
      (call-out s.stage s.script s.fault (tells.left old.typewriter.keys.source) moved.is_call stands.is.read_out)))

  pub call-may : (c : Call) → CallsFor c s.stage → MayMove s 1 → MayCallTable c old.waits old.table
  call-may c asks may =
      subst (MayCallTable c old.waits) (sym stands.is.table) (call-moved s (holds o s reached) c old.waits stands.is.held asks may).0

  -- it ends
  ends-moved : (place : ℕ) → s.stage ≡ Tells place [] → s.table.operator ≡ None
      → CallMoved s (Tells place []) stepped.Ended s.table (operator_move (Tells place []) s)
  ends-moved place is none = record {
    how_is = refl;
    table_is = refl;
    delayed = λ e. absurd cc;
    gone = λ e. (refl, none);
    script = refl;
    fault = refl;
    devices = (refl, refl);
    same = λ place. record { seen = refl; ended = refl; left = refl; held = refl };
    is_move = λ seen. tt;
    is_call = tt;
  }

  pub ended-steps : (place : ℕ) (operator : Operator) → s.stage ≡ Tells place []
      → (IsCall s.stage → OperatorStands operator (behind_call s.stage s.script s.fault) s.script s.fault)
      → Steps timing (TimesStand tells) (TimesMoves tells) old (record old { operator = operator }) s 1 stepped.Ended
  ended-steps place operator is at =
      let h = holds o s reached in
      let none = (subst (λ stage. Fits stage s.table) is h.fits).1 in
      let moved = subst (λ stage. CallMoved s stage stepped.Ended s.table (operator_move stage s)) (sym is) (ends-moved place is none) in
      let gone = moved.gone (λ e. cc) in
      let now = at moved.is_call in
      call-step (record old { operator = operator }) stepped.Ended s.table (operator_move s.stage s) refl moved
      (subst (λ stage. OperatorMay (action_at stage s.seen) s.table) (sym is) tt) refl refl (stands.is.table ∙ moved.table_is) now.fault_is
      (gone.1 ∙ sym none ∙ stands.is.held)
      (at-now operator (operator_move s.stage s) (behind_call s.stage s.script s.fault) gone.0 moved.script moved.fault now)
      (out-now (operator_move s.stage s) (behind_call s.stage s.script s.fault) (tells.left old.typewriter.keys.source) gone.0 moved.fault
      (call-out s.stage s.script s.fault (tells.left old.typewriter.keys.source) moved.is_call stands.is.read_out))

  -- ---- a step of a task
  pub task-may : (place : ℕ) (d : TaskProc) → MayMove s (suc (suc place)) → TaskMoved s place (get_or old.tasks place d)
  task-may place d may =
      task-moved s (holds o s reached) place (get_or old.tasks place d) may.0 (stands.is.tasks.each place d may.0) (seen-few o s reached place) may

  pub task-steps : (place : ℕ) (d : TaskProc) (how : Stepped) (table : Table) (tasks : List TaskProc) → MayMove s (suc (suc place))
      → how ≡ stepped_how (get_or old.tasks place d).phase old.table place
      → table ≡ stepped_table (get_or old.tasks place d).phase old.table place
      → tasks ≡ slice_set old.tasks place (stepped_task (get_or old.tasks place d) old.table place)
      → Steps timing (TimesStand tells) (TimesMoves tells) old (record old { table = table; tasks = tasks }) s (suc (suc place)) how
  task-steps place d how table tasks may how_is table_is tasks_are =
      let h = holds o s reached in
      let task = get_or old.tasks place d in
      let moved = task-may place d may in
      let kept = task-keeps s h place old.operator may stands.is.operator in
      let so = how_is ∙ ap (λ t. stepped_how task.phase t place) stands.is.table ∙ moved.how in
      let new : TimeNet Y T = record old { table = table; tasks = tasks } in
      subst (λ h. Steps timing (TimesStand tells) (TimesMoves tells) old new s (suc (suc place)) h) (sym so)
      (step-of new (Moves (suc (suc place)) (move_of s (suc (suc place))).how) (suc (suc place)) (move_of s (suc (suc place))).how refl refl (may, tt, refl)
      record {
        keys = kept.keys ∙ stands.is.keys;
        console = kept.console ∙ stands.is.console;
        keys_live = λ none. stands.is.keys_live (sym kept.fault ∙ none);
        console_live = λ none. stands.is.console_live (sym kept.fault ∙ none);
        table = table_is ∙ ap (λ t. stepped_table task.phase t place) stands.is.table ∙ moved.table;
        held = kept.held ∙ stands.is.held;
        operator = kept.at;
        tasks = subst (λ tasks. TasksStand tasks (move_of s (suc (suc place))).to)
            (sym (tasks_are ∙ ap (λ t. slice_set old.tasks place (stepped_task task t place)) stands.is.table))
            (tasks-moved s (move_of s (suc (suc place))).to place old.tasks (stepped_task task s.table place) may.0 moved.one stands.is.tasks);
        read_out = kept.out (tells.left old.typewriter.keys.source) stands.is.read_out;
      }
      refl (keeps-same tells old new refl refl))
