-- What a machine says and keeps, for any work.
use Rattle.std.proofs.Common.{◌≡◌, ◌<◌, ◌+◌, ◌^◌, ℕ, zero, suc, min, Bool, true, false, ◌&&◌, ◌||◌, ◌==◌, not, if◌then◌else◌, List, [], ◌∷◌, length, Option, None, Some, refl, sym, ◌∙◌, ap, subst, arith}
use Rattle.std.specs.Prelude.{slice_get, Ok, Err}
use Rattle.std.proofs.lemmas.Bool.{eqb-true, eq-eqb}
use Rattle.solo_base.specs.declared.no_memory.NoMemory.{NoMemory}
use Rattle.solo_base.specs.declared.outcome.Outcome.{Outcome}
use Rattle.solo_base.specs.declared.outcome.Outcome.TheVariants as outcome
use Rattle.solo_base.specs.declared.outcome.Cause.TheVariants as cause
use Rattle.batch_procs.specs.Jobs.{Jobs}
use Rattle.batch_procs.specs.declared.actions.Action.{Action}
use Rattle.batch_procs.specs.declared.actions.Action.TheVariants as act
use Rattle.batch_procs.specs.declared.actions.Reply.{Reply}
use Rattle.batch_procs.specs.declared.round.Step.{Step}
use Rattle.batch_procs.specs.declared.round.Step.TheVariants as step
use Rattle.batch_procs.specs.declared.machine.Machine.{Machine}
use Rattle.batch_procs.specs.Parcels.{Parcel, is_ended}
use Rattle.batch_procs.specs.History.{Entry, Does, LacksMemory, Delays, taken, holds, holds_after, has_stopped, newest}
use Rattle.batch_procs.specs.Causes.{given_cause, or_new, caused}
use Rattle.batch_procs.specs.Fits.{Fits, MayLack, MayWait}
use Rattle.batch_procs.specs.Process.{Process, unworked, due, aim, begins, stops_next, closes, closing, next_by, next_action, Follows}
use Rattle.batch_procs.specs.Laws.{IsHeld, IsRelay, AreAbove, AreOrdered}
use Rattle.batch_procs.specs.Machine.{step_of, step_after, held_at, AreStopped, stops_after, StandsFor, NextIs, Uses, Answers}
use Rattle.batch_procs.specs.Parts.{some-same}
use Rattle.batch_procs.proofs.Closing.{working-no_stop, aimed-no_stop}
use Rattle.batch_procs.proofs.Relay.{closing-next}
use Rattle.batch_procs.proofs.Holding.{holder-next, moves-holding}

-- ---- the stops
pub none-stopped : (L : Type 0) (buffers : List ℕ) → AreStopped {L = L} buffers 0 []
none-stopped L [] = tt
none-stopped L (b ∷ later) = (refl, none-stopped L later)

stopped-or : (t u : Bool) → u ≡ true → (t || u) ≡ true
stopped-or true u e = refl
stopped-or false u e = e

stopped-or' : (t u : Bool) → t ≡ true → (t || u) ≡ true
stopped-or' true u e = refl
stopped-or' false u e = absurd cc

stop-same : (c b : ℕ) → act.Stop c ≡ act.Stop b → Some c ≡ Some b
stop-same c b e = cc

below-length : (buffers : List ℕ) (n b : ℕ) → slice_get buffers n ≡ Some b → n < length buffers
below-length [] n b is = absurd cc
below-length (c ∷ later) zero b is = omega arith
below-length (c ∷ later) (suc n) b is = let less = below-length later n b is in omega (arith, less)

-- ---- the end
pub ended-step : (last : Option Action) → step_after last ≡ step.Ended → (how : Outcome) × (last ≡ Some (act.Ended how))
ended-step (Some (act.Ended how)) e = (how, refl)
ended-step None e = absurd cc
ended-step (Some action) e = absurd cc

-- ---- what is next
closing-is : (newest : Option Action) (next a : Action) → next ≡ a → NextIs (closing newest next) a
closing-is None next a e = e
closing-is (Some (act.Ended how)) next a e = tt
closing-is (Some other) next a e = e

-- ---- the beginning
none-works : (t : Bool) → (t && false) ≡ false
none-works true = refl
none-works false = refl

one-more : (n len : ℕ) → n < len → len < 2 ^ 8 → suc n ≡ min (n + 1) 255
one-more n len below few = omega (arith, below, few)

-- the cause
cause-after : (old : Option Outcome) (given new : Option Outcome) → (old ≡ None → given ≡ new) → or_new old given ≡ or_new old new
cause-after None given new same = same refl
cause-after (Some how) given new same = refl

or-first : (old new : Option Outcome) → or_new old new ≡ None → old ≡ None
or-first None new e = refl
or-first (Some how) new e = absurd cc

or-second : (old new : Option Outcome) → or_new old new ≡ None → new ≡ None
or-second None new e = e
or-second (Some how) new e = absurd cc

no-none : (old : Option Outcome) (how : Outcome) → or_new old (Some how) ≡ None → ⊥
no-none None how e = cc
no-none (Some before) how e = cc

module _ {L : Type 0} (J : Jobs L) where
  -- ---- the disk: held by the step
  pub not-held : (p : Process L) (h : List (Entry L)) (a : Action) → IsRelay p → Follows J p h → next_action p h ≡ Some a → (IsHeld a → ⊥) → holds h ≡ false
  not-held p h a relay follows next not =
      let P : Bool → Type 0 = λ t. holds h ≡ t → t ≡ false in
      elim (holds h) as P [
        | true ↦ (λ e. let on = holder-next J p h relay follows e in absurd (not (subst IsHeld (some-same on.action a (sym on.is ∙ next)) on.held)))
        | false ↦ (λ e. refl)
      ] refl

  held-after : (p : Process L) (h : List (Entry L)) (a : Action) → IsRelay p → Follows J p h → next_action p h ≡ Some a → holds_after (holds h) a ≡ held_at
      (step_of a)
  held-after p h act.Request relay follows next = refl
  held-after p h act.Release relay follows next = refl
  held-after p h (act.PutPage page) relay follows next = moves-holding J p h (act.PutPage page) relay follows next tt
  held-after p h act.TakePage relay follows next = moves-holding J p h act.TakePage relay follows next tt
  held-after p h (act.Load file) relay follows next = moves-holding J p h (act.Load file) relay follows next tt
  held-after p h other relay follows next = not-held p h other relay follows next (λ is. is)

  held-lacking : (p : Process L) (h : List (Entry L)) (a : Action) (r : Reply L) → IsRelay p → Follows J p h → next_action p h ≡ Some a → MayLack a r
      → holds h ≡ held_at (step_of a)
  held-lacking p h act.TakePage r relay follows next lacks = moves-holding J p h act.TakePage relay follows next tt
  held-lacking p h act.Local r relay follows next lacks = not-held p h act.Local relay follows next (λ is. is)
  held-lacking p h other r relay follows next lacks = absurd lacks

  pub held-by : (p : Process L) (h : List (Entry L)) → IsRelay p → Follows J p h → holds h ≡ held_at (step_after (newest h))
  held-by p [] relay follows = refl
  held-by p (Does a r ∷ h) relay follows = held-after p h a relay follows.2 follows.0
  held-by p (LacksMemory a r ∷ h) relay follows = held-lacking p h a r relay follows.2 follows.0 follows.1.1
  held-by p (Delays a ∷ h) relay follows = held-by p h relay follows.2

  pub stopped-same : (buffers : List ℕ) (n : ℕ) (h now : List (Entry L)) → ((b : ℕ) → has_stopped b now ≡ has_stopped b h) → AreStopped buffers n h
      → AreStopped buffers n now
  stopped-same [] zero h now same are = tt
  stopped-same [] (suc n) h now same are = are
  stopped-same (b ∷ later) zero h now same are = (same b ∙ are.0, stopped-same later 0 h now same are.1)
  stopped-same (b ∷ later) (suc n) h now same are = (same b ∙ are.0, stopped-same later n h now same are.1)

  -- no buffer but this one
  stopped-others : (later : List ℕ) (b : ℕ) (r : Reply L) (h : List (Entry L)) → AreAbove b later → AreStopped later 0 h → AreStopped later 0
      (Does (act.Stop b) r ∷ h)
  stopped-others [] b r h above are = tt
  stopped-others (c ∷ later) b r h above are = (other (c == b) refl, stopped-others later b r h above.1 are.1)
    where
      other : (t : Bool) → (c == b) ≡ t → (t || has_stopped c h) ≡ false
      other true e = absurd (let same = eqb-true c b e in let less = above.0 in omega (arith, same, less))
      other false e = are.0

  pub stopped-one : (buffers : List ℕ) (n b : ℕ) (r : Reply L) (h : List (Entry L)) → AreOrdered buffers → slice_get buffers n ≡ Some b → AreStopped buffers n h
      → AreStopped buffers (suc n) (Does (act.Stop b) r ∷ h)
  stopped-one [] n b r h ordered is are = absurd cc
  stopped-one (c ∷ later) zero b r h ordered is are =
      let same : c ≡ b = some-same c b is in
      (stopped-or' (c == b) (has_stopped c h) (eq-eqb c b same), stopped-others later b r h (subst (λ n. AreAbove n later) same ordered.0) are.1)
  stopped-one (c ∷ later) (suc n) b r h ordered is are = (stopped-or (c == b) (has_stopped c h) are.0, stopped-one later n b r h ordered.1 is are.1)

  -- the place of a buffer that is stopped next
  pub stops-at : (buffers : List ℕ) (n b : ℕ) (how : Outcome) (h : List (Entry L)) → AreStopped buffers n h → stops_next buffers how h ≡ act.Stop b
      → slice_get buffers n ≡ Some b
  stops-at [] n b how h are is = absurd cc
  stops-at (c ∷ later) zero b how h are is = stop-same c b (rw are.0 at is)
  stops-at (c ∷ later) (suc n) b how h are is = stops-at later n b how h are.1 (rw are.0 at is)

  -- what is stopped next
  pub stops-some : (buffers : List ℕ) (n b : ℕ) (how : Outcome) (h : List (Entry L)) → AreStopped buffers n h → slice_get buffers n ≡ Some b
      → stops_next buffers how h ≡ act.Stop b
  stops-some [] n b how h are is = absurd cc
  stops-some (c ∷ later) zero b how h are is = rw are.0 (ap act.Stop (some-same c b is))
  stops-some (c ∷ later) (suc n) b how h are is = rw are.0 (stops-some later n b how h are.1 is)

  pub stops-none : (buffers : List ℕ) (n : ℕ) (how : Outcome) (h : List (Entry L)) → AreStopped buffers n h → slice_get buffers n ≡ None
      → stops_next buffers how h ≡ act.Ended how
  stops-none [] n how h are is = refl
  stops-none (c ∷ later) zero how h are is = absurd cc
  stops-none (c ∷ later) (suc n) how h are is = rw are.0 (stops-none later n how h are.1 is)

  module _ {W X : Type 0} {p : Process L} {keeps : W → List (Parcel L) → List (Parcel L) → Bool → Type 0} {m : Machine X W} {h : List (Entry L)}
      (st : StandsFor J p keeps m h)
      (relay : IsRelay p) where
    pub next-closes : (cause : Outcome) (a : Action) → m.cause ≡ Some cause → closes p.buffers cause h ≡ a → NextIs (next_action p h) a
    next-closes cause a e is = subst (λ c. NextIs (next_by p c h) a) (sym (sym st.cause ∙ e)) (closing-is (newest h) (closes p.buffers cause h) a is)

    held : holds h ≡ held_at m.step
    held = held-by p h relay st.follows ∙ ap held_at (sym st.step)

    pub closes-release : (cause : Outcome) → held_at m.step ≡ true → closes p.buffers cause h ≡ act.Release
    closes-release cause on = rw (held ∙ on) refl

    pub closes-stop : (cause : Outcome) (b : ℕ) → held_at m.step ≡ false → slice_get p.buffers m.stops ≡ Some b → closes p.buffers cause h ≡ act.Stop b
    closes-stop cause b off is = rw (held ∙ off) (stops-some p.buffers m.stops b cause h st.stops is)

    pub closes-end : (cause : Outcome) → held_at m.step ≡ false → slice_get p.buffers m.stops ≡ None → closes p.buffers cause h ≡ act.Ended cause
    closes-end cause off is = rw (held ∙ off) (stops-none p.buffers m.stops cause h st.stops is)

  -- ---- a call that waits
  pub waits-on : {W X : Type 0} (p : Process L) (keeps : W → List (Parcel L) → List (Parcel L) → Bool → Type 0) (m : Machine X W) (h : List (Entry L))
      (a : Action)
      → StandsFor J p keeps m h → next_action p h ≡ Some a → MayWait a → StandsFor J p keeps m (Delays a ∷ h)
  waits-on p keeps m h a st next may = record {
    follows = (next, may, st.follows);
    cause = st.cause;
    step = st.step;
    stops = stopped-same p.buffers m.stops h (Delays a ∷ h) (λ b. refl) st.stops;
    work = st.work;
  }

  pub stands-new : {W X : Type 0} (p : Process L) (keeps : W → List (Parcel L) → List (Parcel L) → Bool → Type 0) (m : Machine X W) → keeps m.work [] [] false
      → m.step ≡ step.Free → m.cause ≡ None → m.stops ≡ 0 → StandsFor J p keeps m []
  stands-new p keeps m begins free no_cause no_stops = record {
    follows = tt;
    cause = no_cause;
    step = free;
    stops = subst (λ n. AreStopped {L = L} p.buffers n []) (sym no_stops) (none-stopped L p.buffers);
    work = λ none. subst (λ t. keeps m.work [] [] t) (sym (none-works p.works)) begins;
  }

  -- ---- a reply: the stops
  stop-caused : (p : Process L) (cause : Option Outcome) (h : List (Entry L)) (b : ℕ) → IsRelay p → next_by p cause h ≡ Some (act.Stop b)
      → (how : Outcome) × (stops_next p.buffers how h ≡ act.Stop b)
  stop-caused p None h b relay next =
      absurd (working-no_stop (newest h) (aim p h) (act.Stop b) (aimed-no_stop J p.takes (p.wants (taken h)) (due p h) (is_ended (taken h))
      (unworked p h) relay.takes) next)
  stop-caused p (Some how) h b relay next =
      let is = closing-next (newest h) (closes p.buffers how h) (act.Stop b) next in
      let P : Bool → Type 0 = λ t. (if t then act.Release else stops_next p.buffers how h) ≡ act.Stop b → stops_next p.buffers how h ≡ act.Stop b in
      (how, (let on : P (holds h) = elim (holds h) as P [ true ↦ (λ e. absurd cc) | false ↦ (λ e. e) ] in on is))

  stopped-after : (p : Process L) (n : ℕ) (a : Action) (r : Reply L) (h : List (Entry L)) → IsRelay p → next_action p h ≡ Some a → AreStopped p.buffers n h
      → AreStopped p.buffers (stops_after n a) (Does a r ∷ h)
  stopped-after p n (act.Stop b) r h relay next are =
      let (how, is) = stop-caused p (caused h) h b relay next in
      let at = stops-at p.buffers n b how h are is in
      subst (λ n. AreStopped p.buffers n (Does (act.Stop b) r
      ∷ h)) (one-more n (length p.buffers) (below-length p.buffers n b at) relay.few) (stopped-one p.buffers n b r h relay.ordered at are)
  stopped-after p n other r h relay next are = stopped-same p.buffers n h (Does other r ∷ h) (λ b. refl) are

  stopped-lacking : (buffers : List ℕ) (n : ℕ) (a : Action) (r : Reply L) (h : List (Entry L)) → MayLack a r → AreStopped buffers n h
      → AreStopped buffers (stops_after n a) (LacksMemory a r ∷ h)
  stopped-lacking buffers n act.TakePage r h lacks are = stopped-same buffers n h (LacksMemory act.TakePage r ∷ h) (λ b. refl) are
  stopped-lacking buffers n act.Local r h lacks are = stopped-same buffers n h (LacksMemory act.Local r ∷ h) (λ b. refl) are
  stopped-lacking buffers n other r h lacks are = absurd lacks

  -- ---- and the machine behind it
  pub stands-done : {W X : Type 0} (p : Process L) (keeps : W → List (Parcel L) → List (Parcel L) → Bool
      → Type 0) (m : Machine X W) (h : List (Entry L)) (a : Action) (r : Reply L) (cause : Option Outcome) (work : W) → IsRelay p → StandsFor J p keeps m h
      → next_action p h ≡ Some a → Fits J a r
      → (caused h ≡ None → Uses p (keeps work) a r cause h) → StandsFor J p keeps record {
        work =
            work;
        step = step_of a;
        cause = or_new m.cause cause;
        stops = stops_after m.stops a;
        of = m.of;
      } (Does a r ∷ h)
  stands-done p keeps m h a r cause work relay st next fits uses = record {
    follows = (next, fits, st.follows);
    cause = ap (λ c. or_new c cause) st.cause ∙ cause-after (caused h) cause (given_cause a r h) (λ none. (uses none).cause_is);
    step = refl;
    stops = stopped-after p m.stops a r h relay next st.stops;
    work = λ none.
        let before = or-first (caused h) (given_cause a r h) none in
        let used = uses before in
        used.keeps (used.cause_is ∙ or-second (caused h) (given_cause a r h) none);
  }

  pub stands-lacking : {W X : Type 0} (p : Process L) (keeps : W → List (Parcel L) → List (Parcel L) → Bool
      → Type 0) (m : Machine X W) (h : List (Entry L)) (a : Action) (r : Reply L) (work : W) → StandsFor J p keeps m h → next_action p h ≡ Some a
      → (p.works ≡ true) × MayLack a r
      → StandsFor J p keeps record {
        work =
            work;
        step = step_of a;
        cause = or_new m.cause (Some (outcome.Fault cause.NoMemory));
        stops = stops_after m.stops a;
        of = m.of;
      } (LacksMemory a r ∷ h)
  stands-lacking p keeps m h a r work st next lacks = record {
    follows = (next, lacks, st.follows);
    cause = ap (λ c. or_new c (Some (outcome.Fault cause.NoMemory))) st.cause;
    step = refl;
    stops = stopped-lacking p.buffers m.stops a r h lacks.1 st.stops;
    work = λ none. absurd (no-none (caused h) (outcome.Fault cause.NoMemory) none);
  }

  -- the answer of next, where there is one
  pub next-same : (p : Process L) (h : List (Entry L)) (a said : Action) → NextIs (next_action p h) said → next_action p h ≡ Some a → said ≡ a
  next-same p h a said is next = (let P : Option Action → Type 0 = λ n. NextIs n said in let e : a ≡ said = subst P next is in sym e)

  -- ---- what give does
  pub gives-done : {W X : Type 0} (p : Process L) (keeps : W → List (Parcel L) → List (Parcel L) → Bool
      → Type 0) (m : Machine X W) (work : W) (said : Action) (r : Reply L) (given : Option Outcome) (at : Step) (caused_now : Option Outcome) (n : ℕ) →
      IsRelay p → Answers J p keeps m.work said r (Ok given) work → ((h : List (Entry L)) → StandsFor J p keeps m h → NextIs (next_action p h) said)
      → at ≡ step_of said
      → caused_now ≡ or_new m.cause given → n ≡ stops_after m.stops said →
      (h : List (Entry L)) (a : Action) → StandsFor J p keeps m h → next_action p h ≡ Some a → Fits J a r
      → StandsFor J p keeps record { work = work; step = at; cause = caused_now; stops = n; of = m.of } (Does a r ∷ h)
  gives-done p keeps m work said r given at caused_now n relay answers says stepped caused_is stopped h a st next fits =
      let same : said ≡ a = next-same p h a said (says h st) next in
      let answers_a : Answers J p keeps m.work a r (Ok given) work = subst (λ a. Answers J p keeps m.work a r (Ok given) work) same answers in
      let stands = stands-done p keeps m h a r given work relay st next fits (λ none. answers_a.uses h st.follows none next fits (st.work none)) in
      rw (stepped ∙ ap step_of same, caused_is, stopped ∙ ap (stops_after m.stops) same) stands

  pub gives-lacking : {W X : Type 0} (p : Process L) (keeps : W → List (Parcel L) → List (Parcel L) → Bool
      → Type 0) (m : Machine X W) (work : W) (said : Action) (r : Reply L) (refused : NoMemory) (at : Step) (caused_now : Option Outcome) (n : ℕ) →
      Answers J p keeps m.work said r (Err refused) work → ((h : List (Entry L)) → StandsFor J p keeps m h → NextIs (next_action p h) said) → at ≡ step_of said
      → caused_now ≡ or_new m.cause (Some (outcome.Fault cause.NoMemory)) → n ≡ stops_after m.stops said →
      (h : List (Entry L)) (a : Action) → StandsFor J p keeps m h → next_action p h ≡ Some a → Fits J a r
      → StandsFor J p keeps record { work = work; step = at; cause = caused_now; stops = n; of = m.of } (LacksMemory a r ∷ h)
  gives-lacking p keeps m work said r refused at caused_now n answers says stepped caused_is stopped h a st next fits =
      let same : said ≡ a = next-same p h a said (says h st) next in
      let lacks : (p.works ≡ true) × MayLack a r = (
        answers.lacks.0,
        subst (λ a. MayLack a r) same
            (answers.lacks.1 (subst (λ a. Fits J a r) (sym same) fits)),
      ) in
      let stands = stands-lacking p keeps m h a r work st next lacks in
      rw (stepped ∙ ap step_of same, caused_is, stopped ∙ ap (stops_after m.stops) same) stands
