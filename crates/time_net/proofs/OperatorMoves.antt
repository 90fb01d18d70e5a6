-- A call of the operator is its event in the law.
use Rattle.std.proofs.Common.{◌≡◌, ◌⊎◌, inl, inr, ℕ, Bool, true, false, Option, None, Some, List, ◌∷◌, refl, sym, ap, subst, arith}
use Rattle.std.specs.Prelude.{IsSome, if◌then◌else◌, slice_index_or}
use Rattle.queue_var.specs.declared.turn.Turn.TheVariants.{Handed}
use Rattle.network_run.specs.declared.stepped.Stepped.{Stepped}
use Rattle.network_run.specs.declared.stepped.Stepped.TheVariants as stepped
use Rattle.real_time.specs.declared.table.Seat.TheVariants.{Operator}
use Rattle.real_time.specs.Table.{MayComeIn, Table, after_wake, all_left, operator_resumed, sleeper_at, woken_by}
use Rattle.real_time.specs.declared.typed_line.Typed.{Typed}
use Rattle.real_time.specs.Deeds.{Deed, Enters, Wakes, Returns}
use Rattle.real_time.specs.States.{Stage, Works, Closes, Joins, IsMove, MayMove, Moved, OperatorMay, TimeState, action_at, after_woken, join_move, joined_by, operator_move}
use Rattle.real_time.proofs.Reaching.{Fits, Holds, is-outside}
use Rattle.time_net.specs.declared.calling.Call.{Call}
use Rattle.time_net.specs.declared.calling.Call.TheVariants as call
use Rattle.time_net.specs.Standing.{CallsFor, IsCall, behind_call}
use Rattle.time_net.specs.TableCalls.{MayCallTable, called_how, called_table, how_woken}
use Rattle.time_net.specs.TimeStands.{operator_held}
use Rattle.time_net.proofs.TaskMoves.{SameAt}

-- What a call of the operator at this stage is in the law.
pub record CallMoved (s : TimeState) (stage : Stage) (how : Stepped) (table : Table) (m : Moved) : Type 0 where
  pub how_is : how ≡ m.how
  pub table_is : table ≡ m.to.table
  pub delayed : how ≡ stepped.Delayed → (m.to.stage ≡ stage) × (m.to.table.operator ≡ Some 1)
  pub gone : (how ≡ stepped.Delayed → ⊥) → (m.to.stage ≡ behind_call stage s.script s.fault) × (m.to.table.operator ≡ None)
  pub script : m.to.script ≡ s.script
  pub fault : m.to.fault ≡ s.fault
  pub devices : (m.to.keys ≡ s.keys) × (m.to.console ≡ s.console)
  pub same : (place : ℕ) → SameAt s m.to place
  pub is_move : (seen : List (List ℕ)) → IsMove (action_at stage seen)
  pub is_call : IsCall stage

all-same : (s : TimeState) (place : ℕ) → SameAt s s place
all-same s place = record { seen = refl; ended = refl; left = refl; held = refl }

module _ (s : TimeState) (h : Holds s) where
  fits-at : (stage : Stage) → s.stage ≡ stage → Fits stage s.table
  fits-at stage is = subst (λ stage. Fits stage s.table) is h.fits

  comes-in : (stage : Stage) → s.stage ≡ stage → MayMove s 1 → OperatorMay (action_at stage s.seen) s.table
  comes-in stage is may = subst (λ stage. OperatorMay (action_at stage s.seen) s.table) is may

  -- an entry
  enters : (line : Typed) (deeds : List Deed) (waits : Bool) → s.stage ≡ Works (Enters line ∷ deeds)
      → CallMoved s (Works (Enters line ∷ deeds)) (called_how call.Enters waits s.table) (called_table call.Enters waits s.table)
      (operator_move (Works (Enters line ∷ deeds)) s)
  enters line deeds waits is = record {
    how_is = refl;
    table_is = refl;
    delayed = λ e. absurd cc;
    gone = λ e. (refl, (fits-at (Works (Enters line ∷ deeds)) is).1);
    script = refl;
    fault = refl;
    devices = (refl, refl);
    same = λ place. record { seen = refl; ended = refl; left = refl; held = refl };
    is_move = λ seen. tt;
    is_call = tt;
  }

  -- a wake that is begun
  wakes : (place second : ℕ) (due : Bool) (deeds : List Deed) (held : Option ℕ) → s.table.operator ≡ None
      → CallMoved s (Works (Wakes place second due ∷ deeds)) (how_woken (woken_by due held))
      (after_woken (woken_by due held) s place second deeds).to.table (after_woken (woken_by due held) s place second deeds)
  wakes place second false deeds held none = record {
    how_is = refl;
    table_is = refl;
    delayed = λ e. absurd cc;
    gone = λ e. (refl, none);
    script = refl;
    fault = refl;
    devices = (refl, refl);
    same = λ place. record { seen = refl; ended = refl; left = refl; held = refl };
    is_move = λ seen. tt;
    is_call = tt;
  }
  wakes place second true deeds (Some p) none = record {
    how_is = refl;
    table_is = refl;
    delayed = λ e. absurd cc;
    gone = λ e. (refl, none);
    script = refl;
    fault = refl;
    devices = (refl, refl);
    same = λ place. record { seen = refl; ended = refl; left = refl; held = refl };
    is_move = λ seen. tt;
    is_call = tt;
  }
  wakes place second true deeds None none = record {
    how_is = refl;
    table_is = refl;
    delayed = λ e. (refl, refl);
    gone = λ e. absurd (e refl);
    script = refl;
    fault = refl;
    devices = (refl, refl);
    same = λ place. record { seen = refl; ended = refl; left = refl; held = refl };
    is_move = λ seen. tt;
    is_call = tt;
  }

  -- the table behind a wake
  woken-table : (place second : ℕ) (due : Bool) (deeds : List Deed) (held : Option ℕ)
      → after_wake s.table place second (woken_by due held) ≡ (after_woken (woken_by due held) s place second deeds).to.table
  woken-table place second false deeds held = refl
  woken-table place second true deeds (Some p) = refl
  woken-table place second true deeds None = refl

  -- a wake in which it waited
  returns : (place second : ℕ) (due : Bool) (deeds : List Deed)
      → CallMoved s (Works (Returns ∷ deeds)) (called_how (call.Wakes place second due) true s.table)
      (called_table (call.Wakes place second due) true s.table) (operator_move (Works (Returns ∷ deeds)) s)
  returns place second due deeds = record {
    how_is = refl;
    table_is = refl;
    delayed = λ e. absurd cc;
    gone = λ e. (refl, refl);
    script = refl;
    fault = refl;
    devices = (refl, refl);
    same = λ place. record { seen = refl; ended = refl; left = refl; held = refl };
    is_move = λ seen. tt;
    is_call = tt;
  }

  closing : (waits : Bool) → s.stage ≡ Closes
      → CallMoved s Closes (called_how call.Closes waits s.table) (called_table call.Closes waits s.table) (operator_move Closes s)
  closing waits is = record {
    how_is = refl;
    table_is = refl;
    delayed = λ e. absurd cc;
    gone = λ e. (refl, (fits-at Closes is).1);
    script = refl;
    fault = refl;
    devices = (refl, refl);
    same = λ place. record { seen = refl; ended = refl; left = refl; held = refl };
    is_move = λ seen. tt;
    is_call = tt;
  }

  joining : (all : Bool) (how : Stepped) (t : Table) → (how ≡ stepped.Delayed → ⊥) → t.operator ≡ None → t.queues ≡ s.table.queues → t.left ≡ s.table.left
      → CallMoved s Joins (if all then how else stepped.Delayed) (if all then t else record t { operator = Some 1 }) (joined_by all how s t)
  joining true how t going none queues left = record {
    how_is = refl;
    table_is = refl;
    delayed = λ e. absurd (going e);
    gone = λ e. (refl, none);
    script = refl;
    fault = refl;
    devices = (refl, refl);
    same = λ place. record { seen = refl; ended = refl; left = ap (λ l. slice_index_or l place false) left; held = ap (λ q. sleeper_at q place) queues };
    is_move = λ seen. tt;
    is_call = tt;
  }
  joining false how t going none queues left = record {
    how_is = refl;
    table_is = refl;
    delayed = λ e. (refl, refl);
    gone = λ e. absurd (e refl);
    script = refl;
    fault = refl;
    devices = (refl, refl);
    same = λ place. record { seen = refl; ended = refl; left = ap (λ l. slice_index_or l place false) left; held = ap (λ q. sleeper_at q place) queues };
    is_move = λ seen. tt;
    is_call = tt;
  }

  -- ---- each call may be made, and is so
  handed : s.table.operator ≡ Some 1 → MayComeIn s.table Operator → s.table.turn ≡ Handed Operator
  handed held (inl free) = absurd (let none = free.0 in cc)
  handed held (inr turn) = turn

  abbrev pub Goes : Call → Bool → Type 0
  Goes c waits = MayCallTable c waits s.table
      × CallMoved s s.stage (called_how c waits s.table) (called_table c waits s.table) (operator_move s.stage s)

  goes-at : (c : Call) (waits : Bool) (stage : Stage) → s.stage ≡ stage → MayCallTable c waits s.table
      → CallMoved s stage (called_how c waits s.table) (called_table c waits s.table) (operator_move stage s) → Goes c waits
  goes-at c waits stage is may moved =
      (may, subst (λ stage. CallMoved s stage (called_how c waits s.table) (called_table c waits s.table) (operator_move stage s)) (sym is) moved)

  waking : (place second : ℕ) (due : Bool) (deeds : List Deed) (waits : Bool) → s.table.operator ≡ operator_held waits
      → s.stage ≡ Works (Wakes place second due ∷ deeds) → MayMove s 1 → Goes (call.Wakes place second due) waits
  waking place second due deeds false held is may =
      let stage : Stage = Works (Wakes place second due ∷ deeds) in
      let fits = fits-at stage is in
      let below = fits.1.0 in
      let eight = h.table.queues in
      goes-at (call.Wakes place second due) false stage is (is-outside s h held (comes-in stage is may), held, omega (arith, below, eight))
      (subst (λ t. CallMoved s stage (how_woken (woken_by due (sleeper_at s.table.queues place))) t (operator_move stage s))
      (sym (woken-table place second due deeds (sleeper_at s.table.queues place))) (wakes place second due deeds (sleeper_at s.table.queues place) held))
  waking place second due deeds true held is may =
      let stage : Stage = Works (Wakes place second due ∷ deeds) in
      absurd (by (fits-at stage is).1.1 (handed held (comes-in stage is may)))
    where
      by : ((s.table.operator ≡ None) ⊎ ((s.table.awaited ≡ Some place) × (due ≡ true) × (s.table.second ≡ second))) → s.table.turn ≡ Handed Operator → ⊥
      by (inl none) turn = cc
      by (inr waits) turn = (let free = (h.table.awaits place waits.0).free in cc)

  returning : (place second : ℕ) (due : Bool) (deeds : List Deed) (waits : Bool) → s.table.operator ≡ operator_held waits
      → s.stage ≡ Works (Returns ∷ deeds) → MayMove s 1 → Goes (call.Wakes place second due) waits
  returning place second due deeds false held is may =
      absurd (let turn = (fits-at (Works (Returns ∷ deeds)) is).1 in let waits = h.table.handed_operator turn in cc)
  returning place second due deeds true held is may =
      goes-at (call.Wakes place second due) true (Works (Returns ∷ deeds)) is (subst IsSome (sym held) refl) (returns place second due deeds)

  join-move : (operator : Option ℕ) → s.table.operator ≡ operator → join_move s.table.operator s ≡ join_move operator s
  join-move operator is = ap (λ operator. join_move operator s) is

  joins : (waits : Bool) → s.table.operator ≡ operator_held waits → s.stage ≡ Joins → Goes call.Joins waits
  joins false held is =
      goes-at call.Joins false Joins is held
      (subst (λ m. CallMoved s Joins (called_how call.Joins false s.table) (called_table call.Joins false s.table) m) (sym (join-move None held))
      (joining (all_left s.table) stepped.Acted s.table (λ e. cc) held refl refl))
  joins true held is =
      goes-at call.Joins true Joins is (subst IsSome (sym held) refl)
      (subst (λ m. CallMoved s Joins (called_how call.Joins true s.table) (called_table call.Joins true s.table) m) (sym (join-move (Some 1) held))
      (joining (all_left s.table) stepped.Resumed (operator_resumed s.table) (λ e. cc) refl refl refl))

  pub call-moved : (c : Call) (waits : Bool) → s.table.operator ≡ operator_held waits → CallsFor c s.stage → MayMove s 1 → Goes c waits
  call-moved call.Enters waits held asks may =
      goes-at call.Enters waits (Works (Enters asks.0 ∷ asks.1)) asks.2 tt (enters asks.0 asks.1 waits asks.2)
  call-moved (call.Wakes place second due) waits held asks may = by asks.1
    where
      by : ((s.stage ≡ Works (Wakes place second due ∷ asks.0)) ⊎ (s.stage ≡ Works (Returns ∷ asks.0))) → Goes (call.Wakes place second due) waits
      by (inl is) = waking place second due asks.0 waits held is may
      by (inr is) = returning place second due asks.0 waits held is may
  call-moved call.Closes waits held asks may = goes-at call.Closes waits Closes asks tt (closing waits asks)
  call-moved call.Joins waits held asks may = joins waits held asks
