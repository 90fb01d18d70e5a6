-- What a process of Solo does next: at which buffers, and that it may.
use Rattle.std.proofs.Common.{◌≡◌, ◌⊎◌, inl, inr, ℕ, true, false, if◌then◌else◌, List, [], ◌∷◌, Option, None, Some, refl, sym, ◌∙◌, ap, subst}
use Rattle.solo_base.specs.declared.outcome.Side.{Side}
use Rattle.solo_base.specs.declared.outcome.Outcome.{Outcome}
use Rattle.network_law.specs.Acts.{At, Passes, made_stop}
use Rattle.network_law.specs.Network.{Follows, acts}
use Rattle.place_law.specs.Process.{Process, place, caused, has_stopped, how_ended, stops_next, next_by, next_action}
use Rattle.place_law.proofs.Nexts.{unless-some}
use Rattle.solo_law.specs.Actions.{Action, Reply}
use Rattle.solo_law.specs.Actions as act
use Rattle.solo_law.specs.Replies.{view}
use Rattle.solo_law.specs.InputPlaces.{input}
use Rattle.solo_law.specs.JobPlaces.{job}
use Rattle.solo_law.specs.OutputPlaces.{output}
use Rattle.solo_law.specs.Solo.{process, solo, SoloEntry, IsProcess}
use Rattle.solo_law.proofs.Placed.{solo-lawful}
use Rattle.solo_procs.specs.Machine as machine

-- ---- closing down
abbrev pub OneOf : List ℕ → Action → Type 0
OneOf [] a = (how : Outcome) × (a ≡ act.Ended how)
OneOf (b ∷ later) a = (a ≡ act.Stop b) ⊎ OneOf later a

closes-by : (p : Process Action Reply) (buffers : List ℕ) (how : Outcome) (h : List SoloEntry) → OneOf buffers (stops_next view p buffers how h)
closes-by p [] how h = (how, refl)
closes-by p (b ∷ later) how h =
    elim (has_stopped p b h) as (λ stopped. OneOf (b ∷ later) (if stopped then stops_next view p later how h else act.Stop b)) [
      | true ↦ inr (closes-by p later how h)
      | false ↦ inl refl
    ]

-- at its place without a cause, or closing down with one
pub data Does (p : Process Action Reply) (h : List SoloEntry) (a : Action) : Type 0 where
  Free : caused view p h ≡ None → a ≡ p.does (place p h) → Does p h a
  Closing : OneOf p.buffers a → Does p h a

pub does-so : (p : Process Action Reply) (h : List SoloEntry) (a : Action) → next_action view p h ≡ Some a → Does p h a
does-so p h a next =
    by-cause (caused view p h) refl (unless-some (how_ended view h) (next_by view p (caused view p h) h) a next).1 where
      by-cause : (cause : Option Outcome) → caused view p h ≡ cause → next_by view p (caused view p h) h ≡ a → Does p h a
      by-cause None e is = Free e (sym is ∙ ap (λ cause. next_by view p cause h) e)
      by-cause (Some how) e is =
          Closing (subst (OneOf p.buffers) (sym (ap (λ cause. next_by view p cause h) e) ∙ is) (closes-by p p.buffers how h))

-- ---- the history of a machine is one of the law
pub follows-1 : (h : List SoloEntry) → machine.Follows input h → Follows solo 1 h
follows-1 [] follows = tt
follows-1 (entry ∷ h) follows = (follows.0, follows.1, follows-1 h follows.2)

pub follows-2 : (h : List SoloEntry) → machine.Follows job h → Follows solo 2 h
follows-2 [] follows = tt
follows-2 (entry ∷ h) follows = (follows.0, follows.1, follows-2 h follows.2)

pub follows-3 : (h : List SoloEntry) → machine.Follows output h → Follows solo 3 h
follows-3 [] follows = tt
follows-3 (entry ∷ h) follows = (follows.0, follows.1, follows-3 h follows.2)

-- ---- a side at which it calls isn't stopped
pub running-at : (p : ℕ) (h : List SoloEntry) (a : Action) (b : ℕ) (side : Side) → IsProcess p → Follows solo p h → next_action view (process p) h ≡ Some a
    → (process p).calls a ≡ At b side Passes → made_stop b side (acts solo p h) ≡ false
running-at p h a b side one follows next calls =
    solo-lawful.unstopped p h b side Passes one follows (record { action = a; next = next; call = calls })
