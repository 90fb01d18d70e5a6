-- A step of a task leaves the operator where it is, or ends the wake in which it waits for the task.
use Rattle.std.proofs.Common.{◌≡◌, ◌⊎◌, inl, inr, ℕ, suc, ◌+◌, Bool, true, false, Option, None, Some, List, [], ◌∷◌, ◌++◌, refl, sym, ◌∙◌, ap}
use Rattle.std.specs.Prelude.{if◌then◌else◌}
use Rattle.solo_base.specs.declared.outcome.Cause.{Cause}
use Rattle.real_time.specs.declared.table.Waited.TheVariants as waited
use Rattle.real_time.specs.Table.{behind_leave, has_left, is_awaited, out_of_queue, sleeper_at}
use Rattle.real_time.specs.Starts.{Script}
use Rattle.real_time.specs.Awaiting.{Row}
use Rattle.real_time.specs.Deeds.{Deed, Enters, Shows, Wakes, Returns, shows_start}
use Rattle.real_time.specs.States.{Stage, Works, Closes, Joins, Tells, Ended, MayMove, Moved, TimeState, move_of, stage_told, task_move, waits}
use Rattle.real_time.proofs.Reaching.{Fits, Holds, awaited-is}
use Rattle.time_net.specs.declared.operator.Doing.{Doing}
use Rattle.time_net.specs.declared.operator.Doing.TheVariants as doing
use Rattle.time_net.specs.declared.operator.Operator.{Operator}
use Rattle.time_net.specs.Standing.{Does, OperatorIsAt, name_at, ticks_from}
use Rattle.time_net.specs.TimeStands.{IsReadOut}

pub record Keeps (s : TimeState) (operator : Operator) (m : Moved) : Type 0 where
  pub keys : m.to.keys ≡ s.keys
  pub console : m.to.console ≡ s.console
  pub fault : m.to.fault ≡ s.fault
  pub held : m.to.table.operator ≡ s.table.operator
  pub at : OperatorIsAt operator m.to
  pub out : (left : Option (List ℕ)) → IsReadOut s.stage s.fault left → IsReadOut m.to.stage m.to.fault left

-- ---- the wake in which the operator waits is done
same-deeds : (a b : Deed) (some more : List Deed) → Works (a ∷ some) ≡ Works (b ∷ more) → some ≡ more
same-deeds a b some more e = cc

returns-does : (d : Doing) (rows : List Row) (now : ℕ) (stage : Stage) (script : Script) (fault : Option Cause) (q second : ℕ) (due : Bool)
    (deeds : List Deed) → stage ≡ Works (Wakes q second due ∷ deeds) → Does d rows now stage script fault
    → Does d rows now (Works (Returns ∷ deeds)) script fault
returns-does doing.Reads rows now stage script fault q second due deeds is does = absurd (let other = does.0 in cc)
returns-does (doing.Enters it) rows now stage script fault q second due deeds is does = absurd (let other = does.0.1 in cc)
returns-does (doing.Answers it) rows now stage script fault q second due deeds is does = absurd (let other = does.0 in cc)
returns-does (doing.Wakes place at is_due left) rows now stage script fault q second due deeds is does = record {
  s = does.s;
  passing = does.passing;
  inside = does.inside;
  script_is = does.script_is;
  due_is = does.due_is;
  stage_is = inr (by does.stage_is);
  well = does.well;
}
  where
    by : ((stage ≡ Works (Wakes place at is_due ∷ shows_start is_due at (name_at does.s place) ++ ticks_from does.s (place + 1) left))
        ⊎ (stage ≡ Works (Returns ∷ shows_start is_due at (name_at does.s place) ++ ticks_from does.s (place + 1) left)))
        → Works (Returns ∷ deeds) ≡ Works (Returns ∷ shows_start is_due at (name_at does.s place) ++ ticks_from does.s (place + 1) left)
    by (inl other) = ap (λ deeds. Works (Returns ∷ deeds)) (same-deeds (Wakes q second due) (Wakes place at is_due) deeds _ (sym is ∙ other))
    by (inr other) = absurd cc
returns-does (doing.Starts place at left) rows now stage script fault q second due deeds is does = absurd (let other = does.stage_is in cc)
returns-does doing.Closes rows now stage script fault q second due deeds is does = absurd (let other = does.0 in cc)
returns-does doing.Joins rows now stage script fault q second due deeds is does = absurd (let other = does.0 in cc)
returns-does (doing.Tells place) rows now stage script fault q second due deeds is does = absurd (let other = does.stage_is in cc)
returns-does doing.Ends rows now stage script fault q second due deeds is does = absurd (let other = does.1 in cc)
returns-does doing.Ended rows now stage script fault q second due deeds is does = absurd (let other = does in cc)

module _ (s : TimeState) (h : Holds s) (place : ℕ) (operator : Operator) (st : OperatorIsAt operator s) where
  told-does : (stage : Stage) → s.stage ≡ stage → Fits stage s.table → s.table.awaited ≡ Some place
      → Does operator.doing operator.tasks.items operator.clock (stage_told (waited.Starts s.table.second) stage) s.script s.fault
      × ((left : Option (List ℕ)) → IsReadOut (stage_told (waited.Starts s.table.second) stage) s.fault left)
  told-does (Works []) is fits awaited = absurd (let none = fits.1 in let waits = (h.table.awaits place awaited).operator in cc)
  told-does (Works (Enters line ∷ deeds)) is fits awaited = absurd (let none = fits.1 in let waits = (h.table.awaits place awaited).operator in cc)
  told-does (Works (Shows text ∷ deeds)) is fits awaited = absurd (let none = fits.1 in let waits = (h.table.awaits place awaited).operator in cc)
  told-does (Works (Wakes q second due ∷ deeds)) is fits awaited =
      (returns-does operator.doing operator.tasks.items operator.clock s.stage s.script s.fault q second due deeds is st.does, λ left. tt)
  told-does (Works (Returns ∷ deeds)) is fits awaited =
      absurd (let handed = fits.1 in let free = (h.table.awaits place awaited).free in cc)
  told-does Closes is fits awaited = absurd (let none = fits.1 in let waits = (h.table.awaits place awaited).operator in cc)
  told-does Joins is fits awaited = absurd (let closed = fits in let not_closed = (h.table.awaits place awaited).open_yet in cc)
  told-does (Tells q names) is fits awaited = absurd (let closed = fits.0 in let not_closed = (h.table.awaits place awaited).open_yet in cc)
  told-does Ended is fits awaited = absurd (let closed = fits.0 in let not_closed = (h.table.awaits place awaited).open_yet in cc)

  waits-keeps : (closed awaited : Bool) → is_awaited s.table.awaited place ≡ awaited
      → Keeps s operator (waits (if closed then waited.Leaves else (if awaited then waited.Starts s.table.second else waited.Delayed)) s place)
  waits-keeps true awaited is = record {
    keys = refl;
    console = refl;
    fault = refl;
    held = refl;
    at = record { does = st.does; fault_is = st.fault_is };
    out = λ left out. out;
  }
  waits-keeps false true is =
      let told = told-does s.stage refl h.fits (awaited-is s.table.awaited place is) in record {
        keys = refl;
        console = refl;
        fault = refl;
        held = refl;
        at = record { does = told.0; fault_is = st.fault_is };
        out = λ left out. told.1 left;
      }
  waits-keeps false false is = record {
    keys = refl;
    console = refl;
    fault = refl;
    held = refl;
    at = record { does = st.does; fault_is = st.fault_is };
    out = λ left out. out;
  }

  resumed-held : (closed : Bool)
      → (if closed then behind_leave (out_of_queue s.table place) place else out_of_queue s.table place).operator ≡ s.table.operator
  resumed-held true = refl
  resumed-held false = refl

  keeps-by : (left : Bool) (held : Option ℕ) → Keeps s operator (task_move left held s place)
  keeps-by true held = record {
    keys = refl;
    console = refl;
    fault = refl;
    held = refl;
    at = record { does = st.does; fault_is = st.fault_is };
    out = λ left out. out;
  }
  keeps-by false (Some p) = record {
    keys = refl;
    console = refl;
    fault = refl;
    held = resumed-held s.table.closed;
    at = record { does = st.does; fault_is = st.fault_is };
    out = λ left out. out;
  }
  keeps-by false None = waits-keeps s.table.closed (is_awaited s.table.awaited place) refl

pub task-keeps : (s : TimeState) (h : Holds s) (place : ℕ) (operator : Operator) → MayMove s (suc (suc place)) → OperatorIsAt operator s
    → Keeps s operator (move_of s (suc (suc place)))
task-keeps s h place operator may st = keeps-by s h place operator st (has_left s.table place) (sleeper_at s.table.queues place)
