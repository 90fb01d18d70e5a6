-- How the processes end: each as its cause says, and each cause was given by an entry.
use Rattle.std.proofs.Common.{◌≡◌, ◌⊎◌, inl, inr, ℕ, ◌||◌, Bool, true, false, if◌then◌else◌, List, [], ◌∷◌, Option, None, Some, refl, sym, ◌∙◌, ap, subst}
use Rattle.network_law.specs.Network.{IsOne}
use Rattle.network_law.specs.Network as law
use Rattle.place_law.specs.Ending.{outcome_by}
use Rattle.solo_base.specs.declared.outcome.Outcome.{Outcome}
use Rattle.solo_base.specs.declared.outcome.Cause.{Cause}
use Rattle.solo_devices.specs.declared.card_read.CardRead.{CardRead}
use Rattle.page_codec.specs.Packing.{fits}
use Rattle.batch_procs.specs.declared.actions.Reply.{Reply}
use Rattle.batch_procs.specs.Causes.{fault_read}
use Rattle.batch_procs.specs.Jobs.{Jobs}
use Rattle.place_law.specs.Process.{Does, LacksMemory, Delays, or_new, fault_in}
use Rattle.solo_base.specs.declared.outcome.Outcome.TheVariants as outcome
use Rattle.solo_base.specs.declared.outcome.Cause.TheVariants as cause
use Rattle.solo_devices.specs.declared.card_read.CardRead.TheVariants as read
use Rattle.batch_procs.specs.declared.actions.Reply.TheVariants as reply
use Rattle.twin_law.specs.Process.{Action, Release, Stop, Ended, Entry, Aim, Finishes, Process, place, aim, given_cause, caused, holds, has_stopped, is_end, has_ended, newest, stops_next, closes, Closing, closing_by, closing, next_by, next_action}
use Rattle.twin_law.specs.Sides.{other}
use Rattle.twin_law.specs.Table.{process}
use Rattle.twin_law.specs.Twin.{Fits, twin}
use Rattle.twin_law.specs.Outcomes.{ends_as, how_ended, EndsRightly, GivenBy}
use Rattle.twin_law.proofs.Lawful.{unless-some}
use Rattle.twin_law.proofs.Ended.{closes-all, still-stopped, working-end, finishes-closing}

-- ---- an end is one
ends-known : (a : Action) (how : Outcome) → ends_as a ≡ Some how → a ≡ Ended how
ends-known (Ended how) other e = (let same : how ≡ other = cc in ap Ended same)
ends-known a how e = absurd cc

is-an_end : (a : Action) (how : Outcome) → ends_as a ≡ Some how → is_end a ≡ true
is-an_end a how e = ap is_end (ends-known a how e)

or-front : (t u : Bool) → t ≡ true → (t || u) ≡ true
or-front true u e = refl
or-front false u e = absurd cc

or-here : (t u : Bool) → u ≡ true → (t || u) ≡ true
or-here true u e = refl
or-here false u e = e

known-by : {L : Type 0} (a : Action) (h : List (Entry L)) (old : Option Outcome) (how : Outcome) → or_new old (ends_as a) ≡ Some how
    → ((o : Outcome) → old ≡ Some o → has_ended h ≡ true) → (is_end a || has_ended h) ≡ true
known-by a h None how e was = or-front (is_end a) (has_ended h) (is-an_end a how e)
known-by a h (Some o) how e was = or-here (is_end a) (has_ended h) (was o refl)

end-known : {L : Type 0} (h : List (Entry L)) (how : Outcome) → how_ended h ≡ Some how → has_ended h ≡ true
end-known [] how e = absurd cc
end-known (Does a r ∷ h) how e = known-by a h (how_ended h) how e (λ o was. end-known h o was)
end-known (LacksMemory a r ∷ h) how e = end-known h how e
end-known (Delays a ∷ h) how e = end-known h how e

not-both : (t : Bool) → t ≡ true → t ≡ false → ⊥
not-both t a b = cc

none-yet : {L : Type 0} (h : List (Entry L)) → has_ended h ≡ false → how_ended h ≡ None
none-yet h going =
    elim (how_ended h) as (λ o. how_ended h ≡ o → how_ended h ≡ None) [
      | None ↦ (λ e. e)
      | Some o ↦ (λ e. absurd (not-both (has_ended h) (end-known h o e) going))
    ] refl

-- ---- what an end says
stops-how : {L : Type 0} (buffers : List ℕ) (how other : Outcome) (h : List (Entry L)) → stops_next buffers how h ≡ Ended other → how ≡ other
stops-how [] how other h e = cc
stops-how (b ∷ later) how other h e =
    elim (has_stopped b h) as (λ t. (if t then stops_next later how h else Stop b) ≡ Ended other → how ≡ other) [
      | true ↦ (λ e. stops-how later how other h e)
      | false ↦ (λ e. absurd cc)
    ] e

closes-how : {L : Type 0} (buffers : List ℕ) (how other : Outcome) (h : List (Entry L)) → closes buffers how h ≡ Ended other → how ≡ other
closes-how buffers how other h e =
    elim (holds h) as (λ t. (if t then Release else stops_next buffers how h) ≡ Ended other → how ≡ other) [
      | true ↦ (λ e. absurd cc)
      | false ↦ (λ e. stops-how buffers how other h e)
    ] e

rightly-closing : {L : Type 0} (p : Process L) (h : List (Entry L)) (how : Outcome) (cause : Option Outcome) (m : Aim) (c : Closing) → caused p h ≡ cause → aim p h ≡ m
    → closing_by p cause m ≡ Some c → closes c.stops c.how h ≡ Ended how → EndsRightly p (Does (Ended how) reply.Done ∷ h) how
rightly-closing p h how (Some why) m c ec em e next =
    let same : record { stops = p.buffers; how = why } ≡ c = cc in
    let is : closes p.buffers why h ≡ Ended how = ap (λ (c : Closing). closes c.stops c.how h) same ∙ next in
    let stays : caused p (Does (Ended how) reply.Done ∷ h) ≡ Some why = ap (λ old. or_new old None) ec in
    record {
      by_cause = ap outcome_by stays ∙ closes-how p.buffers why how h is;
      done = λ none. absurd (let never = sym stays ∙ none in cc);
      closed = λ why _. still-stopped p.buffers (Ended how) reply.Done h (closes-all p.buffers _ h (ap is_end is));
    }
rightly-closing p h how None Finishes c ec em e next =
    let same : record { stops = p.spools; how = outcome.Done } ≡ c = cc in
    let is : closes p.spools outcome.Done h ≡ Ended how = ap (λ (c : Closing). closes c.stops c.how h) same ∙ next in
    let stays : caused p (Does (Ended how) reply.Done ∷ h) ≡ None = ap (λ old. or_new old None) ec in
    record {
      by_cause = ap outcome_by stays ∙ closes-how p.spools outcome.Done how h is;
      done = λ _. (em, still-stopped p.spools (Ended how) reply.Done h (closes-all p.spools outcome.Done h (ap is_end is)));
      closed = λ why some. absurd (let never = sym stays ∙ some in cc);
    }
rightly-closing p h how None other c ec em e next = absurd cc

rightly-by : {L : Type 0} (p : Process L) (h : List (Entry L)) (how : Outcome) (c : Option Closing) → closing p h ≡ c → next_by p c h ≡ Ended how
    → EndsRightly p (Does (Ended how) reply.Done ∷ h) how
rightly-by p h how None e next = absurd (finishes-closing p (caused p h) (aim p h) e (working-end (newest h) (aim p h) (ap is_end next)))
rightly-by p h how (Some c) e next = rightly-closing p h how (caused p h) (aim p h) c refl refl e next

done-only : {L : Type 0} (how : Outcome) (r : Reply L) → Fits (Ended how) r → r ≡ reply.Done
done-only how reply.Done fits = refl
done-only how r fits = absurd fits

module _ {L : Type 0} (J : Jobs L) where
  rightly-here : (p : ℕ) (h : List (Entry L)) (a : Action) (r : Reply L) (how : Outcome) → next_action (process J p) h ≡ Some a → Fits a r → or_new (how_ended h) (ends_as a) ≡ Some how
      → EndsRightly (process J p) (Does a r ∷ h) how
  rightly-here p h a r how next fits e =
      let parts = unless-some (has_ended h) (next_by (process J p) (closing (process J p) h) h) a next in
      let is : a ≡ Ended how = ends-known a how (ap (λ old. or_new old (ends_as a)) (sym (none-yet h parts.0)) ∙ e) in
      let end : next_by (process J p) (closing (process J p) h) h ≡ Ended how = parts.1 ∙ is in
      let done : r ≡ reply.Done = done-only how r (subst (λ a. Fits a r) is fits) in
      subst (λ a. EndsRightly (process J p) (Does a r ∷ h) how) (sym is)
      (subst (λ r. EndsRightly (process J p) (Does (Ended how) r ∷ h) how) (sym done) (rightly-by (process J p) h how (closing (process J p) h) refl end))

  pub ends-rightly : (p : ℕ) (h : List (Entry L)) (how : Outcome) → law.Follows (twin J) p h → how_ended h ≡ Some how → EndsRightly (process J p) h how
  ends-rightly p [] how follows e = absurd cc
  ends-rightly p (Does a r ∷ h) how follows e = rightly-here p h a r how follows.0 follows.1.0 e
  ends-rightly p (LacksMemory a r ∷ h) how follows e =
      absurd (not-both (has_ended h) (end-known h how e) (unless-some (has_ended h) (next_by (process J p) (closing (process J p) h) h) a follows.0).0)
  ends-rightly p (Delays a ∷ h) how follows e =
      absurd (not-both (has_ended h) (end-known h how e) (unless-some (has_ended h) (next_by (process J p) (closing (process J p) h) h) a follows.0).0)

-- ---- that the work is done is no cause
read-not_done : (answer : CardRead) → fault_read answer ≡ Some outcome.Done → ⊥
read-not_done (read.Card line) e = cc
read-not_done read.Spoiled e = cc
read-not_done read.End e = cc
read-not_done read.Failed e = cc
read-not_done read.Limit e = cc

fault-not_done : (c : Option Cause) → fault_in c ≡ Some outcome.Done → ⊥
fault-not_done None e = cc
fault-not_done (Some c) e = cc

module _ {L : Type 0} (p : Process L) where
  given-not_done : (x : p.Place) (a : Action) (r : Reply L) → given_cause p x a r ≡ Some outcome.Done → ⊥
  given-not_done x a reply.Done e = cc
  given-not_done x a reply.Stopped e = cc
  given-not_done x a reply.Failed e = cc
  given-not_done x a reply.NoMemory e = cc
  given-not_done x a (reply.Card answer) e = read-not_done answer e
  given-not_done x a (reply.Feed f) e = cc
  given-not_done x a (reply.Page page last) e = fault-not_done (p.finds x (reply.Page page last)) e
  given-not_done x a (reply.Loaded load) e = cc

  or-not_done : (old new : Option Outcome) → (old ≡ Some outcome.Done → ⊥) → (new ≡ Some outcome.Done → ⊥) → or_new old new ≡ Some outcome.Done → ⊥
  or-not_done None new first second e = second e
  or-not_done (Some how) new first second e = first e

  pub not-done : (h : List (Entry L)) → caused p h ≡ Some outcome.Done → ⊥
  not-done [] e = cc
  not-done (Does a r ∷ h) e = or-not_done (caused p h) (given_cause p (place p h) a r) (not-done h) (given-not_done (place p h) a r) e
  not-done (LacksMemory a r ∷ h) e = or-not_done (caused p h) (Some (outcome.Fault cause.NoMemory)) (not-done h) (λ never. cc) e
  not-done (Delays a ∷ h) e = not-done h e

  done-free : (cause : Option Outcome) → (cause ≡ Some outcome.Done → ⊥) → outcome_by cause ≡ outcome.Done → cause ≡ None
  done-free None never e = refl
  done-free (Some how) never e = absurd (never (ap Some e))

  -- one that is done has no cause, and did all its work
  pub done-where : (h : List (Entry L)) → EndsRightly p h outcome.Done → (caused p h ≡ None) × (aim p h ≡ Finishes)
  done-where h is =
      let none = done-free (caused p h) (not-done h) is.by_cause in
      (none, (is.done none).0)

  -- ---- each cause was given by an entry
  given-first : (old new : Option Outcome) (how : Outcome) → or_new old new ≡ Some how → ((old ≡ None) × (new ≡ Some how)) ⊎ (old ≡ Some how)
  given-first None new how e = inl (refl, e)
  given-first (Some o) new how e = inr e

  same-some : (a b : Outcome) → Some a ≡ Some b → a ≡ b
  same-some a b e = cc

  pub given-by : (h : List (Entry L)) (how : Outcome) → caused p h ≡ Some how → GivenBy p how h
  given-by [] how e = absurd cc
  given-by (Does a r ∷ h) how e =
      elim (given-first (caused p h) (given_cause p (place p h) a r) how e) as (λ _. GivenBy p how (Does a r ∷ h)) [ inl now ↦ inl now | inr old ↦ inr (given-by h how old) ]
  given-by (LacksMemory a r ∷ h) how e =
      elim (given-first (caused p h) (Some (outcome.Fault cause.NoMemory)) how e) as (λ _. GivenBy p how (LacksMemory a r ∷ h)) [
        | inl now ↦ inl (now.0, sym (same-some (outcome.Fault cause.NoMemory) how now.1))
        | inr old ↦ inr (given-by h how old)
      ]
  given-by (Delays a ∷ h) how e = given-by h how e
