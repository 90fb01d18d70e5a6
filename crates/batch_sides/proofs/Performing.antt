-- An action that was performed, and what follows for the pass of a process that has ended.
use Rattle.std.proofs.Common.{◌≡◌, ℕ, Bool, true, false, List, ◌∷◌, Option, None, Some, sym, ◌∙◌, ap, subst}
use Rattle.solo_base.specs.declared.outcome.Outcome.{Outcome}
use Rattle.resource_mon.specs.Seats.{Desk, Pass, Seat}
use Rattle.batch_procs.specs.declared.actions.Action.{Action}
use Rattle.batch_procs.specs.declared.actions.Action.TheVariants as act
use Rattle.batch_procs.specs.declared.actions.Reply.{Reply}
use Rattle.batch_procs.specs.Fits.{Fits, MayLack}
use Rattle.batch_procs.specs.History.{Entry, Does, holds, newest}
use Rattle.batch_procs.specs.Jobs.{Jobs}
use Rattle.batch_procs.specs.Laws.{IsRelay}
use Rattle.batch_procs.specs.Process.{Process, Follows}
use Rattle.batch_procs.proofs.Holding.{ended-holds_not}
use Rattle.side_by_side.specs.Came.{Came}
use Rattle.batch_sides.specs.Desks.{IsAt, pass_of}
use Rattle.batch_sides.specs.Running.{EndsSo, Performed}

pub both-as : {A B : Type 0} (P : A → B → Type 0) {x y : A} {u v : B} → x ≡ y → u ≡ v → P y v → P x u
both-as P {x} {y} {u} {v} e f is = subst (λ x. P x u) (sym e) (subst (λ u. P y u) (sym f) is)

-- who was told that all had come, and did so
pub came-whole : {start here : ℕ} {all whole : Bool} {Did Stay : Type 0} → here ≡ start → whole ≡ all → whole ≡ true → Did → Came start here all Did Stay
came-whole at is told did = record { came = at; did = λ all. did; stay = λ none. (let e = sym told ∙ is ∙ none in absurd cc) }

-- who was told that one had not come, and stays
pub came-stays : {start here : ℕ} {all whole : Bool} {Did Stay : Type 0} → here ≡ start → whole ≡ all → whole ≡ false → Stay → Came start here all Did Stay
came-stays at is told stays = record { came = at; did = λ all. (let e = sym told ∙ is ∙ all in absurd cc); stay = λ none. stays }

module _ {L : Type 0} (J : Jobs L) where
  -- one that doesn't lack memory
  pub only-does : {Stands : List (Entry L) → Type 0} (a : Action) (r : Reply L) (h : List (Entry L)) → Fits J a r → (MayLack a r → ⊥)
      → Stands (Does a r ∷ h) → Performed J Stands a r h
  only-does a r h fits not done = record { fits = fits; done = done; lacks = λ may. absurd (not may) }

  -- who has ended hasn't got the disk
  pub ended-without : (p : Process L) (h : List (Entry L)) (how : Outcome) (disk : Desk) (seat : Seat) (pass : Option Pass) → IsRelay p → Follows J p h
      → newest h ≡ Some (act.Ended how) → IsAt disk seat pass (holds h) → pass ≡ None
  ended-without p h how disk seat pass relay follows last at =
      at.pass_is ∙ ap (λ has. pass_of has seat) (ended-holds_not J p h how relay follows last)

  pub ended-so : {C : Type 0} (p : Process L) (Ran : C → Option Pass → List (Entry L) → Type 0) {now side : C} {pass : Option Pass} {how : Outcome}
      → EndsSo J p (Ran side pass) how → pass ≡ None → now ≡ side → EndsSo J p (Ran now None) how
  ended-so p Ran {now} {side} {pass} {how} ends none same =
      subst (λ now. EndsSo J p (Ran now None) how) (sym same) (subst (λ pass. EndsSo J p (Ran side pass) how) none ends)
