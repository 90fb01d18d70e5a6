-- How a process of the twin network has ended, and where one waits.
use Rattle.std.proofs.Common.{◌≡◌, ◌⊎◌, inl, inr, ℕ, ◌==◌, ◌&&◌, ◌||◌, Bool, true, false, if◌then◌else◌, List, [], ◌∷◌, Option, None, Some, refl, sym, ◌∙◌, ap, subst}
use Rattle.std.specs.List.{AllByRecursion}
use Rattle.std.proofs.lemmas.Bool.{eqb-true}
use Rattle.std.proofs.lemmas.Bool.Decides.{eqb_tells}
use Rattle.queue_var.specs.Sides.{same_side}
use Rattle.network_law.specs.Acts.{Call, At, Visit, Awaits, Passes, Moves, Stops, made_stop}
use Rattle.network_law.specs.Acts as go
use Rattle.network_law.specs.Network.{IsOne, acts}
use Rattle.network_law.specs.Network as law
use Rattle.network_law.specs.Kept.{CanWait}
use Rattle.solo_base.specs.declared.outcome.Side.{Side}
use Rattle.solo_base.specs.declared.outcome.Side.TheVariants.{Sender, Receiver}
use Rattle.solo_base.specs.declared.outcome.Outcome.{Outcome}
use Rattle.page_codec.specs.Packing.{fits}
use Rattle.batch_procs.specs.declared.actions.Reply.{Reply}
use Rattle.batch_procs.specs.Jobs.{Jobs}
use Rattle.place_law.specs.Process.{Does, LacksMemory, Delays, or_new}
use Rattle.solo_base.specs.declared.outcome.Outcome.TheVariants as outcome
use Rattle.batch_procs.specs.declared.actions.Reply.TheVariants as reply
use Rattle.twin_law.specs.Process.{Action, AwaitRoom, AwaitItem, Request, PutPage, TakePage, Load, Release, Stop, Ended, Entry, Aim, Reads, PutsFeed, TakesFeed, PutsPage, TakesPage, Loads, Works, Prints, Finishes, Process, place, aim, given_cause, caused, holds, stops_at, has_stopped, is_end, has_ended, newest, begins, moves, working, stops_next, closes, Closing, closing_by, closing, next_by, unless_ended, next_action}
use Rattle.twin_law.specs.Sides.{other}
use Rattle.twin_law.specs.Table.{process}
use Rattle.twin_law.specs.Twin.{side_at, call, Fits, twin}
use Rattle.twin_law.proofs.Lawful.{Shape, Closes, SeatedAt, next-shape, unless-some, not-both}

-- ---- an end comes where all of the buffers in question are stopped
abbrev pub AllStopped : {L : Type 0} → List (Entry L) → List ℕ → Type 0
AllStopped h buffers = AllByRecursion (λ b. has_stopped b h ≡ true) buffers

stops-all : {L : Type 0} (buffers : List ℕ) (how : Outcome) (h : List (Entry L)) → is_end (stops_next buffers how h) ≡ true → AllStopped h buffers
stops-all [] how h e = tt
stops-all (b ∷ later) how h e =
    let P : Bool → Type 0 = λ t. has_stopped b h ≡ t → is_end (if t then stops_next later how h else Stop b) ≡ true → AllStopped h (b ∷ later) in
    elim (has_stopped b h) as P [ true ↦ (λ is e. (is, stops-all later how h e)) | false ↦ (λ is e. absurd cc) ] refl e

pub closes-all : {L : Type 0} (buffers : List ℕ) (how : Outcome) (h : List (Entry L)) → is_end (closes buffers how h) ≡ true → AllStopped h buffers
closes-all buffers how h e =
    let P : Bool → Type 0 = λ t. is_end (if t then Release else stops_next buffers how h) ≡ true → AllStopped h buffers in
    elim (holds h) as P [ true ↦ (λ e. absurd cc) | false ↦ (λ e. stops-all buffers how h e) ] e

or-here : (t u : Bool) → u ≡ true → (t || u) ≡ true
or-here true u e = refl
or-here false u e = e

pub still-stopped : {L : Type 0} (buffers : List ℕ) (a : Action) (r : Reply L) (h : List (Entry L)) → AllStopped h buffers → AllStopped (Does a r ∷ h) buffers
still-stopped [] a r h all = tt
still-stopped (b ∷ later) a r h all = (or-here (stops_at b a) (has_stopped b h) all.0, still-stopped later a r h all.1)

begins-end : (m : Aim) → is_end (begins m) ≡ true → m ≡ Finishes
begins-end Finishes e = refl
begins-end Reads e = absurd cc
begins-end (PutsFeed b f) e = absurd cc
begins-end (TakesFeed b) e = absurd cc
begins-end (PutsPage b page) e = absurd cc
begins-end (TakesPage b) e = absurd cc
begins-end (Loads file) e = absurd cc
begins-end Works e = absurd cc
begins-end (Prints line) e = absurd cc

moves-end : (m : Aim) → is_end (moves m) ≡ true → ⊥
moves-end (PutsPage b page) e = cc
moves-end (TakesPage b) e = cc
moves-end (Loads file) e = cc
moves-end other e = cc

pub working-end : (n : Option Action) (m : Aim) → is_end (working n m) ≡ true → m ≡ Finishes
working-end (Some (AwaitRoom b)) m e = absurd cc
working-end (Some (AwaitItem b)) m e = absurd cc
working-end (Some Request) m e = absurd (moves-end m e)
working-end (Some (PutPage b page)) m e = absurd cc
working-end (Some (TakePage b)) m e = absurd cc
working-end (Some (Load file)) m e = absurd cc
working-end other m e = begins-end m e

pub finishes-closing : {L : Type 0} (p : Process L) (cause : Option Outcome) (m : Aim) → closing_by p cause m ≡ None → m ≡ Finishes → ⊥
finishes-closing p (Some how) m e f = cc
finishes-closing p None Finishes e f = cc
finishes-closing p None Reads e f = cc
finishes-closing p None (PutsFeed b x) e f = cc
finishes-closing p None (TakesFeed b) e f = cc
finishes-closing p None (PutsPage b page) e f = cc
finishes-closing p None (TakesPage b) e f = cc
finishes-closing p None (Loads file) e f = cc
finishes-closing p None Works e f = cc
finishes-closing p None (Prints line) e f = cc

-- with all work done and its spools stopped, or with a cause and all of its buffers stopped
pub data EndedAs {L : Type 0} (p : Process L) (h : List (Entry L)) : Type 0 where
  Finished : caused p h ≡ None → aim p h ≡ Finishes → AllStopped h p.spools → EndedAs p h
  Closed : AllStopped h p.buffers → EndedAs p h

ended-closing : {L : Type 0} (p : Process L) (h : List (Entry L)) (how : Outcome) (r : Reply L) (cause : Option Outcome) (m : Aim) (c : Closing) → caused p h ≡ cause → aim p h ≡ m
    → closing_by p cause m ≡ Some c → is_end (closes c.stops c.how h) ≡ true → r ≡ reply.Done → EndedAs p (Does (Ended how) r ∷ h)
ended-closing p h how r (Some cause) m c ec em e is done =
    let same : record { stops = p.buffers; how = cause } ≡ c = cc in
    Closed (still-stopped p.buffers (Ended how) r h (subst (λ (c : Closing). AllStopped h c.stops) (sym same) (closes-all c.stops c.how h is)))
ended-closing p h how r None Finishes c ec em e is done =
    let same : record { stops = p.spools; how = outcome.Done } ≡ c = cc in
    Finished (ap (λ old. or_new old (given_cause p (place p h) (Ended how) r)) ec ∙ ap (given_cause p (place p h) (Ended how)) done) em
    (still-stopped p.spools (Ended how) r h (subst (λ (c : Closing). AllStopped h c.stops) (sym same) (closes-all c.stops c.how h is)))
ended-closing p h how r None other c ec em e is done = absurd cc

done-end : {L : Type 0} (how : Outcome) (r : Reply L) → Fits (Ended how) r → r ≡ reply.Done
done-end how reply.Done fits = refl
done-end how r fits = absurd fits

ended-here : {L : Type 0} (p : Process L) (x : Action) (r : Reply L) (h : List (Entry L)) (c : Option Closing) → closing p h ≡ c → Fits x r → next_by p c h ≡ x → is_end x ≡ true
    → EndedAs p (Does x r ∷ h)
ended-here p (Ended how) r h None e fits next is =
    absurd (finishes-closing p (caused p h) (aim p h) e (working-end (newest h) (aim p h) (ap is_end next)))
ended-here p (Ended how) r h (Some c) e fits next is =
    ended-closing p h how r (caused p h) (aim p h) c refl refl e (ap is_end next) (done-end how r fits)
ended-here p x r h c e fits next is = absurd cc

end-here : (t u : Bool) → u ≡ false → (t || u) ≡ true → t ≡ true
end-here true u none e = refl
end-here false u none e = absurd (not-both u e none)

not-after : {L : Type 0} (p : Process L) (h : List (Entry L)) (a : Action) → has_ended h ≡ true → next_action p h ≡ Some a → ⊥
not-after p h a e next = (let no = sym (ap (λ t. unless_ended t (next_by p (closing p h) h)) e) ∙ next in cc)

pub none-ended : {L : Type 0} (p : Process L) (h : List (Entry L)) → next_action p h ≡ None → has_ended h ≡ true
none-ended p h e = by-test (has_ended h) (next_by p (closing p h) h) e where
  by-test : (t : Bool) (a : Action) → unless_ended t a ≡ None → t ≡ true
  by-test true a e = refl
  by-test false a e = absurd cc

-- ---- a stop that it made is an act
same-side : (side : Side) → same_side side side ≡ true
same-side Sender = refl
same-side Receiver = refl

same-number : (b : ℕ) → (b == b) ≡ true
same-number b = elim (eqb_tells b b) as (λ _. (b == b) ≡ true) [ inl a ↦ a.0 | inr a ↦ absurd (a.1 refl) ]

both-true : (t u : Bool) → t ≡ true → u ≡ true → (t && u) ≡ true
both-true true u e f = f
both-true false u e f = absurd cc

made-here : (p b : ℕ) (a : Action) → stops_at b a ≡ true → go.stops_at b (side_at p b) (call p a) ≡ true
made-here p b (Stop c) e =
    subst (λ c. ((b == c) && same_side (side_at p b) (side_at p c)) ≡ true) (eqb-true b c e)
    (both-true (b == b) (same_side (side_at p b) (side_at p b)) (same-number b) (same-side (side_at p b)))
made-here p b other e = absurd cc

or-either : (t u : Bool) → (t || u) ≡ true → (t ≡ true) ⊎ (u ≡ true)
or-either true u e = inl refl
or-either false u e = inr e

or-front : (t u : Bool) → t ≡ true → (t || u) ≡ true
or-front true u e = refl
or-front false u e = absurd cc

-- ---- where one waits
abbrev pub AimsAt : Aim → ℕ → Side → Type 0
AimsAt (PutsFeed c f) b side = (c ≡ b) × (Sender ≡ side)
AimsAt (TakesFeed c) b side = (c ≡ b) × (Receiver ≡ side)
AimsAt (PutsPage c page) b side = (c ≡ b) × (Sender ≡ side)
AimsAt (TakesPage c) b side = (c ≡ b) × (Receiver ≡ side)
AimsAt other b side = ⊥

moves-waits : (p : ℕ) (m : Aim) (b : ℕ) (side : Side) (visit : Visit) → CanWait visit → call p (moves m) ≡ At b side visit → ⊥
moves-waits p (PutsPage c page) b side visit can e = (let same : Moves ≡ visit = cc in subst CanWait (sym same) can)
moves-waits p (TakesPage c) b side visit can e = (let same : Moves ≡ visit = cc in subst CanWait (sym same) can)
moves-waits p (Loads file) b side visit can e = cc
moves-waits p other b side visit can e = cc

begins-waits : (p : ℕ) (m : Aim) (b : ℕ) (side : Side) (visit : Visit) → call p (begins m) ≡ At b side visit → AimsAt m b side
begins-waits p (PutsFeed c f) b side visit e = (cc, cc)
begins-waits p (TakesFeed c) b side visit e = (cc, cc)
begins-waits p (PutsPage c page) b side visit e = (cc, cc)
begins-waits p (TakesPage c) b side visit e = (cc, cc)
begins-waits p Reads b side visit e = absurd cc
begins-waits p (Loads file) b side visit e = absurd cc
begins-waits p Works b side visit e = absurd cc
begins-waits p (Prints line) b side visit e = absurd cc
begins-waits p Finishes b side visit e = absurd cc

working-waits : (p : ℕ) (n : Option Action) (m : Aim) (b : ℕ) (side : Side) (visit : Visit) → CanWait visit → call p (working n m) ≡ At b side visit → AimsAt m b side
working-waits p (Some (AwaitRoom c)) m b side visit can e = absurd cc
working-waits p (Some (AwaitItem c)) m b side visit can e = absurd cc
working-waits p (Some Request) m b side visit can e = absurd (moves-waits p m b side visit can e)
working-waits p (Some (PutPage c page)) m b side visit can e = absurd cc
working-waits p (Some (TakePage c)) m b side visit can e = absurd cc
working-waits p (Some (Load file)) m b side visit can e = absurd cc
working-waits p other m b side visit can e = begins-waits p m b side visit e

closes-waits : {L : Type 0} (p : ℕ) (Is : ℕ → Type 0) (h : List (Entry L)) (a : Action) (b : ℕ) (side : Side) (visit : Visit) → CanWait visit → Closes Is h a → call p a ≡ At b side visit → ⊥
closes-waits p Is h (Stop c) b side visit can is e = (let same : Stops ≡ visit = cc in subst CanWait (sym same) can)
closes-waits p Is h (Ended how) b side visit can is e = cc
closes-waits p Is h Release b side visit can is e = cc
closes-waits p Is h other b side visit can is e = is

free-closing : {L : Type 0} (p : Process L) (cause : Option Outcome) (m : Aim) → closing_by p cause m ≡ None → cause ≡ None
free-closing p None m e = refl
free-closing p (Some how) m e = absurd cc

module _ {L : Type 0} (J : Jobs L) where
  pub ended-as : (p : ℕ) (h : List (Entry L)) → law.Follows (twin J) p h → has_ended h ≡ true → EndedAs (process J p) h
  ended-as p [] follows e = absurd cc
  ended-as p (Does x r ∷ h) follows e =
      let P : Bool → Type 0 = λ t. has_ended h ≡ t → EndedAs (process J p) (Does x r ∷ h) in
      elim (has_ended h) as P [
        | true ↦ (λ before. absurd (not-after (process J p) h x before follows.0))
        | false ↦ (λ before.
            let c = closing (process J p) h in
            let next = (unless-some (has_ended h) (next_by (process J p) c h) x follows.0).1 in
            ended-here (process J p) x r h c refl follows.1.0 next (end-here (is_end x) (has_ended h) before e))
      ] refl
  ended-as p (LacksMemory x r ∷ h) follows e = absurd (not-after (process J p) h x e follows.0)
  ended-as p (Delays x ∷ h) follows e = absurd (not-after (process J p) h x e follows.0)

  pub made : (p b : ℕ) (h : List (Entry L)) → has_stopped b h ≡ true → made_stop b (side_at p b) (acts (twin J) p h) ≡ true
  made p b [] e = absurd cc
  made p b (Does a r ∷ h) e =
      elim (or-either (stops_at b a) (has_stopped b h) e) as (λ _. (go.stops_at b (side_at p b) (call p a) || made_stop b (side_at p b) (acts (twin J) p h)) ≡ true) [
        | inl now ↦ or-front _ _ (made-here p b a now)
        | inr old ↦ or-here (go.stops_at b (side_at p b) (call p a)) _ (made p b h old)
      ]
  made p b (LacksMemory a r ∷ h) e = or-here (go.stops_at b (side_at p b) (call p a)) _ (made p b h e)
  made p b (Delays a ∷ h) e = or-here (go.stops_at b (side_at p b) (call p a)) _ (made p b h e)

  -- who waits has no cause, and waits where it aims
  pub record Waits (p : ℕ) (h : List (Entry L)) (b : ℕ) (side : Side) : Type 0 where
    pub free : caused (process J p) h ≡ None
    pub aims : AimsAt (aim (process J p) h) b side

  pub waits-by : (p : ℕ) (h : List (Entry L)) (a : Action) (b : ℕ) (side : Side) (visit : Visit) → IsOne (twin J) p → CanWait visit
      → next_action (process J p) h ≡ Some a → call p a ≡ At b side visit → Waits p h b side
  waits-by p h a b side visit one can next e = by-closing (closing (process J p) h) refl (next-shape J p h a one next) where
    by-closing : (c : Option Closing) → closing (process J p) h ≡ c → Shape J p h c a → Waits p h b side
    by-closing None is shape = record {
      free = free-closing (process J p) (caused (process J p) h) (aim (process J p) h) is;
      aims = working-waits p (newest h) (aim (process J p) h) b side visit can (ap (call p) (sym shape.0) ∙ e);
    }
    by-closing (Some c) is shape = absurd (closes-waits p (SeatedAt J p) h a b side visit can shape e)
