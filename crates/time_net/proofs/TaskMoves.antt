-- A step of a task is its event in the law.
use Rattle.std.proofs.Common.{◌≡◌, ◌≢◌, inl, inr, ℕ, suc, ◌+◌, ◌<◌, ◌≤◌, Bool, true, false, Option, None, Some, List, [], ◌∷◌, ◌++◌, get_or, get_or-set_other, get_or-set_same, length, length-append, slice_set, refl, sym, ◌∙◌, ap, subst, arith}
use Rattle.std.specs.Prelude.{IsSome, if◌then◌else◌, min}
use Rattle.std.proofs.lemmas.List.{length-set}
use Rattle.std.proofs.lemmas.Bool.Decides.{eqb_tells}
use Rattle.queue_var.specs.declared.turn.Turn.{Turn}
use Rattle.queue_var.specs.declared.turn.Turn.TheVariants.{Free, Handed}
use Rattle.network_run.specs.declared.stepped.Stepped.TheVariants as stepped
use Rattle.real_time.specs.declared.table.Seat.{Seat}
use Rattle.real_time.specs.declared.table.Seat.TheVariants.{Task}
use Rattle.real_time.specs.declared.table.Waited.TheVariants as waited
use Rattle.real_time.specs.Table.{MayComeIn, Table, behind_leave, behind_wait, has_left, is_awaited, out_of_queue, resumed_by, sleeper_at, waited_by}
use Rattle.real_time.specs.States.{MayMove, Moved, Stage, TimeState, TaskMay, ended_at, goes_on, move_of, seen_at, task_move, waits, with_start}
use Rattle.real_time.proofs.Reaching.{Holds}
use Rattle.time_net.specs.declared.task_proc.Phase.{Phase}
use Rattle.time_net.specs.declared.task_proc.Phase.TheVariants.{Runs, Waits, Left, Ended}
use Rattle.time_net.specs.declared.task_proc.TaskProc.{TaskProc}
use Rattle.time_net.specs.TaskSteps.{MayCallBy, MayCallIn, PhaseFits, TaskStands, TasksStand, stepped_how, stepped_table, stepped_task, told}

-- ---- one of a list
own : {A : Type 0} (list : List A) (place : ℕ) (it d : A) → place < length list → get_or (slice_set list place it) place d ≡ it
own list place it d below = get_or-set_same list place it d below

others : {A : Type 0} (list : List A) (place q : ℕ) (it d : A) → q ≢ place → get_or (slice_set list place it) q d ≡ get_or list q d
others list place q it d differ = get_or-set_other list place q it d differ

-- ---- the parts of a state that a task stands for
pub record SameAt (s now : TimeState) (place : ℕ) : Type 0 where
  pub seen : seen_at now place ≡ seen_at s place
  pub ended : ended_at now place ≡ ended_at s place
  pub left : has_left now.table place ≡ has_left s.table place
  pub held : sleeper_at now.table.queues place ≡ sleeper_at s.table.queues place

pub stands-same : (task : TaskProc) (s now : TimeState) (place : ℕ) → SameAt s now place → TaskStands task place s → TaskStands task place now
stands-same task s now place same st = record {
  runs_are = st.runs_are ∙ ap length (sym same.seen);
  phase_is = subst (λ e. PhaseFits task.phase e (has_left now.table place) (sleeper_at now.table.queues place)) (sym same.ended)
      (subst (λ l. PhaseFits task.phase (ended_at s place) l (sleeper_at now.table.queues place)) (sym same.left)
      (subst (λ h. PhaseFits task.phase (ended_at s place) (has_left s.table place) h) (sym same.held) st.phase_is));
}

pub tasks-same : (tasks : List TaskProc) (s now : TimeState) → ((place : ℕ) → SameAt s now place) → TasksStand tasks s → TasksStand tasks now
tasks-same tasks s now same st = record {
  eight = st.eight;
  each = λ place d below. stands-same (get_or tasks place d) s now place (same place) (st.each place d below);
}

-- ---- one task moves
pub record OneMoves (s now : TimeState) (place : ℕ) (task : TaskProc) : Type 0 where
  pub task_is : TaskStands task place now
  pub same : (q : ℕ) → q ≢ place → SameAt s now q

counted : (runs : ℕ) (seen : List ℕ) (second : ℕ) → runs ≡ length seen → length seen ≤ 1000000 → min (runs + 1) 4294967295 ≡ length (seen ++ second ∷ [])
counted runs seen second is few = (let sum = length-append seen (second ∷ []) in omega (arith, is, few, sum))

module _ (s : TimeState) (h : Holds s) (place : ℕ) (task : TaskProc) (below : place < 8) (st : TaskStands task place s)
    (few : length (seen_at s place) ≤ 1000000) where
  long-seen : place < length s.seen
  long-seen = (let eight = h.lists.0 in omega (arith, below, eight))

  long-ended : place < length s.ended
  long-ended = (let eight = h.lists.1 in omega (arith, below, eight))

  long-left : place < length s.table.left
  long-left = (let eight = h.table.places in omega (arith, below, eight))

  long-queues : place < length s.table.queues
  long-queues = (let eight = h.table.queues in omega (arith, below, eight))

  -- it ends
  ends : PhaseFits Left (ended_at s place) (has_left s.table place) (sleeper_at s.table.queues place)
      → OneMoves s (record s { ended = slice_set s.ended place true }) place (record { runs = task.runs; phase = Ended })
  ends is = record {
    task_is = record { runs_are = st.runs_are; phase_is = own s.ended place true true long-ended };
    same = λ q differ. record { seen = refl; ended = others s.ended place q true true differ; left = refl; held = refl };
  }

  -- it has started, in a table with the same queues and marks but for its own queue
  module _ (table : Table) (second : ℕ) (left : has_left table place ≡ false) (awake : sleeper_at table.queues place ≡ None)
      (not_ended : ended_at s place ≡ false)
      (left_others : (q : ℕ) → has_left table q ≡ has_left s.table q)
      (held_others : (q : ℕ) → q ≢ place → sleeper_at table.queues q ≡ sleeper_at s.table.queues q) where
    has-started : (stage : Stage) → OneMoves s (record s { table = table; seen = slice_set s.seen place (seen_at s place ++ second ∷ []); stage = stage }) place
        (told task (waited.Starts second))
    has-started stage = record {
      task_is = record {
        runs_are = counted task.runs (seen_at s place) second st.runs_are few ∙ ap length (sym (own s.seen place
            (seen_at s place ++ second ∷ []) [] long-seen));
        phase_is = (not_ended, left, awake);
      };
      same = λ q differ. record {
        seen = others s.seen place q (seen_at s place ++ second ∷ []) [] differ;
        ended = refl;
        left = left_others q;
        held = held_others q differ;
      };
    }

  -- it has left
  has-left : (queues : List (Option ℕ)) (turn : Turn Seat) (stage : Stage) → ended_at s place ≡ false
      → ((q : ℕ) → q ≢ place → sleeper_at queues q ≡ sleeper_at s.table.queues q)
      → OneMoves s (record s { table = record s.table { queues = queues; left = slice_set s.table.left place true; turn = turn }; stage = stage }) place
      (told task waited.Leaves)
  has-left queues turn stage not_ended held_others = record {
    task_is = record { runs_are = st.runs_are; phase_is = (not_ended, own s.table.left place true false long-left) };
    same = λ q differ. record {
      seen = refl;
      ended = refl;
      left = others s.table.left place q true false differ;
      held = held_others q differ;
    };
  }

  -- it waits
  sleeps : (stage : Stage) → ended_at s place ≡ false → has_left s.table place ≡ false
      → OneMoves s (record s { table = record s.table { queues = slice_set s.table.queues place (Some (place + 2)) }; stage = stage }) place
      (told task waited.Delayed)
  sleeps stage not_ended here = record {
    task_is = record {
      runs_are = st.runs_are;
      phase_is = (not_ended, here, subst IsSome (sym (own s.table.queues place (Some (place + 2)) None long-queues)) refl);
    };
    same = λ q differ. record {
      seen = refl;
      ended = refl;
      left = refl;
      held = others s.table.queues place q (Some (place + 2)) None differ;
    };
  }

  -- ---- by where it is
  abbrev moves : Moved
  moves = move_of s (suc (suc place))

  moves-runs : has_left s.table place ≡ false → sleeper_at s.table.queues place ≡ None → moves ≡ waits (waited_by s.table place) s place
  moves-runs left held =
      ap (λ l. task_move l (sleeper_at s.table.queues place) s place) left ∙ ap (λ held. task_move false held s place) held

  some-held : (held : Option ℕ) → IsSome held → task_move false held s place ≡ goes_on s place
  some-held (Some p) is = refl
  some-held None is = absurd cc

  moves-waits : has_left s.table place ≡ false → IsSome (sleeper_at s.table.queues place) → moves ≡ goes_on s place
  moves-waits left held = ap (λ l. task_move l (sleeper_at s.table.queues place) s place) left ∙ some-held (sleeper_at s.table.queues place) held

  moves-left : has_left s.table place ≡ true → moves ≡ record { how = stepped.Ended; to = record s { ended = slice_set s.ended place true } }
  moves-left left = ap (λ l. task_move l (sleeper_at s.table.queues place) s place) left

  waits-one : ended_at s place ≡ false → has_left s.table place ≡ false → sleeper_at s.table.queues place ≡ None
      → OneMoves s (waits (waited_by s.table place) s place).to place (told task (waited_by s.table place))
  waits-one not_ended here awake = by s.table.closed (is_awaited s.table.awaited place)
    where
      by : (closed awaited : Bool)
          → OneMoves s (waits (if closed then waited.Leaves else (if awaited then waited.Starts s.table.second else waited.Delayed)) s place).to place
          (told task (if closed then waited.Leaves else (if awaited then waited.Starts s.table.second else waited.Delayed)))
      by true awaited = has-left s.table.queues (behind_leave s.table place).turn s.stage not_ended (λ q differ. refl)
      by false true =
          has-started (behind_wait s.table place (waited.Starts s.table.second)) s.table.second here awake not_ended (λ q. refl) (λ q differ. refl)
          (waits (waited.Starts s.table.second) s place).to.stage
      by false false = sleeps s.stage not_ended here

  goes-one : ended_at s place ≡ false → has_left s.table place ≡ false
      → OneMoves s (goes_on s place).to place (told task (resumed_by s.table))
  goes-one not_ended here = by s.table.closed
    where
      by : (closed : Bool)
          → OneMoves s (record s {
            table = if closed then behind_leave (out_of_queue s.table place) place else out_of_queue s.table place;
            seen = with_start s.seen place (if closed then waited.Leaves else waited.Starts s.table.second);
          }) place (told task (if closed then waited.Leaves else waited.Starts s.table.second))
      by true =
          has-left (slice_set s.table.queues place None) (behind_leave (out_of_queue s.table place) place).turn s.stage not_ended
          (λ q differ. others s.table.queues place q None None differ)
      by false =
          has-started (out_of_queue s.table place) s.table.second here (own s.table.queues place None None long-queues) not_ended (λ q. refl)
          (λ q differ. others s.table.queues place q None None differ) s.stage

-- ---- a step
-- The table's call may be made, and the step is the task's event.
pub record TaskMoved (s : TimeState) (place : ℕ) (task : TaskProc) : Type 0 where
  pub may : MayCallBy task.phase s.table place
  pub how : stepped_how task.phase s.table place ≡ (move_of s (suc (suc place))).how
  pub table : stepped_table task.phase s.table place ≡ (move_of s (suc (suc place))).to.table
  pub one : OneMoves s (move_of s (suc (suc place))).to place (stepped_task task s.table place)

call-in : (s : TimeState) (place : ℕ) → Holds s → place < 8 → MayCallIn s.table place
call-in s place h below = record { one = below; queues = h.table.queues; seats = h.table.places }

outside : (s : TimeState) (place : ℕ) → Holds s → sleeper_at s.table.queues place ≡ None → MayComeIn s.table (Task place) → s.table.turn ≡ Free
outside s place h none (inl free) = free.1
outside s place h none (inr handed) = absurd (let there = h.table.handed place handed in cc)

inside-queue : (held : Option ℕ) → IsSome held → held ≡ None → ⊥
inside-queue None is none = cc
inside-queue (Some p) is none = cc

handed-on : (s : TimeState) (place : ℕ) → IsSome (sleeper_at s.table.queues place) → MayComeIn s.table (Task place) → s.table.turn ≡ Handed (Task place)
handed-on s place held (inl free) = absurd (inside-queue (sleeper_at s.table.queues place) held free.0)
handed-on s place held (inr handed) = handed

moved-by : (s : TimeState) (h : Holds s) (place runs : ℕ) (phase : Phase) → place < 8 → TaskStands (record { runs = runs; phase = phase }) place s
    → length (seen_at s place) ≤ 1000000 → MayMove s (suc (suc place)) → TaskMoved s place (record { runs = runs; phase = phase })
moved-by s h place runs Runs below st few may =
    let task : TaskProc = record { runs = runs; phase = Runs } in
    let phase : (ended_at s place ≡ false) × (has_left s.table place ≡ false) × (sleeper_at s.table.queues place ≡ None) = st.phase_is in
    let same = moves-runs s h place task below st few phase.1 phase.2 in record {
      may = (
        call-in s place h below,
        outside s place h phase.2 (subst (λ left. TaskMay left s.table place) phase.1 may.2),
        phase.2,
      );
      how = sym (ap (λ (m : Moved). m.how) same);
      table = sym (ap (λ (m : Moved). m.to.table) same);
      one = subst (λ (m : Moved). OneMoves s m.to place (told task (waited_by s.table place))) (sym same)
          (waits-one s h place task below st few phase.0 phase.1 phase.2);
    }
moved-by s h place runs Waits below st few may =
    let task : TaskProc = record { runs = runs; phase = Waits } in
    let phase : (ended_at s place ≡ false) × (has_left s.table place ≡ false) × IsSome (sleeper_at s.table.queues place) = st.phase_is in
    let same = moves-waits s h place task below st few phase.1 phase.2 in record {
      may = (
        call-in s place h below,
        handed-on s place phase.2 (subst (λ left. TaskMay left s.table place) phase.1 may.2),
        phase.2,
      );
      how = sym (ap (λ (m : Moved). m.how) same);
      table = sym (ap (λ (m : Moved). m.to.table) same);
      one = subst (λ (m : Moved). OneMoves s m.to place (told task (resumed_by s.table))) (sym same)
          (goes-one s h place task below st few phase.0 phase.1);
    }
moved-by s h place runs Left below st few may =
    let task : TaskProc = record { runs = runs; phase = Left } in
    let phase : (ended_at s place ≡ false) × (has_left s.table place ≡ true) = st.phase_is in
    let same = moves-left s h place task below st few phase.1 in record {
      may = tt;
      how = sym (ap (λ (m : Moved). m.how) same);
      table = sym (ap (λ (m : Moved). m.to.table) same);
      one = subst (λ (m : Moved). OneMoves s m.to place (record { runs = runs; phase = Ended })) (sym same)
          (ends s h place task below st few phase);
    }
moved-by s h place runs Ended below st few may = absurd (let is = st.phase_is in let not_ended = may.1 in cc)

pub task-moved : (s : TimeState) (h : Holds s) (place : ℕ) (task : TaskProc) → place < 8 → TaskStands task place s
    → length (seen_at s place) ≤ 1000000 → MayMove s (suc (suc place)) → TaskMoved s place task
task-moved s h place task below st few may = moved-by s h place task.runs task.phase below st few may

-- the tasks behind it
pub tasks-moved : (s now : TimeState) (place : ℕ) (tasks : List TaskProc) (task : TaskProc) → place < 8 → OneMoves s now place task → TasksStand tasks s
    → TasksStand (slice_set tasks place task) now
tasks-moved s now place tasks task below one st = record {
  eight = length-set tasks place task ∙ st.eight;
  each = each;
}
  where
    long : place < length tasks
    long = (let eight = st.eight in omega (arith, eight, below))

    each : (q : ℕ) (d : TaskProc) → q < 8 → TaskStands (get_or (slice_set tasks place task) q d) q now
    each q d small = elim (eqb_tells q place) as (λ _. TaskStands (get_or (slice_set tasks place task) q d) q now) [
      | inl same ↦
          subst (λ q. TaskStands (get_or (slice_set tasks place task) q d) q now) (sym same.1)
          (subst (λ t. TaskStands t place now) (sym (own tasks place task d long)) one.task_is)
      | inr other ↦
          subst (λ t. TaskStands t q now) (sym (others tasks place q task d other.1))
          (stands-same (get_or tasks q d) s now q (one.same q other.1) (st.each q d small))
    ]
