-- What a process does next: what it does at its place, the stop of a buffer that it hasn't stopped, or its end.
use Rattle.std.proofs.Common.{◌≡◌, ℕ, Bool, true, false, if◌then◌else◌, List, [], ◌∷◌, Option, None, Some, refl, sym, ◌∙◌, ap, subst}
use Rattle.std.specs.List.{AllByRecursion}
use Rattle.solo_base.specs.declared.outcome.Outcome.{Outcome}
use Rattle.network_law.specs.Acts.{Call}
use Rattle.network_law.specs.Network.{IsOne}
use Rattle.place_law.specs.Process.{Entry, place, caused, or_new, has_stopped, how_ended, stops_next, next_by, unless_ended, next_action}
use Rattle.place_law.specs.Table.{Table, network_of, StopsOwn, IsPlaced}

pub or-none : (old new : Option Outcome) → or_new old new ≡ None → old ≡ None
or-none None new e = refl
or-none (Some how) new e = absurd cc

pub or-new : (old new : Option Outcome) → or_new old new ≡ None → new ≡ None
or-new None new e = e
or-new (Some how) new e = absurd cc

pub unless-some : {Action : Type 0} (how : Option Outcome) (a b : Action) → unless_ended how a ≡ Some b → (how ≡ None) × (a ≡ b)
unless-some None a b e = (refl, cc)
unless-some (Some how) a b e = absurd cc

pub same-calls : {Action : Type 0} (calls : Action → Call) (a b : Action) (c d : Call) → a ≡ b → calls a ≡ c → calls b ≡ d → c ≡ d
same-calls calls a b c d e x y = sym x ∙ ap calls e ∙ y

module _ {Devices Action Reply Parcel : Type 0} (t : Table Devices Action Reply Parcel) where
  -- a buffer of the process that it hasn't stopped yet, where it has this cause
  pub record IsStop (p : ℕ) (h : List (Entry Action Reply)) (cause : Option Outcome) (a : Action) (b : ℕ) : Type 0 where
    pub at : StopsOwn t.seat p (t.process p).calls t.view.stop b
    pub not_yet : has_stopped (t.process p) b h ≡ false
    pub why : Outcome
    pub caused_so : cause ≡ Some why
    pub is : a ≡ t.view.stop b

  pub record IsEnd (p : ℕ) (h : List (Entry Action Reply)) (cause : Option Outcome) (a : Action) : Type 0 where
    pub why : Outcome
    pub caused_so : cause ≡ Some why
    pub closed : AllByRecursion (λ b. has_stopped (t.process p) b h ≡ true) (t.process p).buffers
    pub is : a ≡ t.view.end why

  pub data Shape (p : ℕ) (h : List (Entry Action Reply)) (cause : Option Outcome) (a : Action) : Type 0 where
    AtPlace : cause ≡ None → a ≡ (t.process p).does (place (t.process p) h) → Shape p h cause a
    Stopping : (b : ℕ) → IsStop p h cause a b → Shape p h cause a
    Ending : IsEnd p h cause a → Shape p h cause a

  -- what closing down comes to, where the buffers in front of these are stopped
  pub data Closes (p : ℕ) (h : List (Entry Action Reply)) (buffers : List ℕ) (how : Outcome) (a : Action) : Type 0 where
    Stops_one : (b : ℕ) → StopsOwn t.seat p (t.process p).calls t.view.stop b → has_stopped (t.process p) b h ≡ false
        → a ≡ t.view.stop b → Closes p h buffers how a
    Ends_now : AllByRecursion (λ b. has_stopped (t.process p) b h ≡ true) buffers → a ≡ t.view.end how → Closes p h buffers how a

  closes-on : (p : ℕ) (h : List (Entry Action Reply)) (b : ℕ) (later : List ℕ) (how : Outcome) (a : Action) → has_stopped (t.process p) b h ≡ true
      → Closes p h later how a → Closes p h (b ∷ later) how a
  closes-on p h b later how a stopped (Stops_one c at not_yet is) = Stops_one c at not_yet is
  closes-on p h b later how a stopped (Ends_now all is) = Ends_now (stopped, all) is

  closes : (p : ℕ) (h : List (Entry Action Reply)) (buffers : List ℕ) (how : Outcome)
      → AllByRecursion (StopsOwn t.seat p (t.process p).calls t.view.stop) buffers → Closes p h buffers how (stops_next t.view (t.process p) buffers how h)
  closes p h [] how all = Ends_now tt refl
  closes p h (b ∷ later) how all =
      let P : Bool → Type 0 = λ stopped. has_stopped (t.process p) b h ≡ stopped
      → Closes p h (b ∷ later) how (if stopped then stops_next t.view (t.process p) later how h else t.view.stop b) in
      elim (has_stopped (t.process p) b h) as P [
        | true ↦ (λ e. closes-on p h b later how _ e (closes p h later how all.1))
        | false ↦ (λ e. Stops_one b all.0 e refl)
      ] refl

  module _ (is : IsPlaced t) where
    shape : (p : ℕ) (h : List (Entry Action Reply)) (cause : Option Outcome) (a : Action) → IsOne (network_of t) p → next_by t.view (t.process p) cause h ≡ a
        → Shape p h cause a
    shape p h None a one e = AtPlace refl (sym e)
    shape p h (Some how) a one e =
        elim (closes p h (t.process p).buffers how (is.stops p one)) as (λ _. Shape p h (Some how) a) [
          | Stops_one b at not_yet same ↦ Stopping b record { at = at; not_yet = not_yet; why = how; caused_so = refl; is = sym e ∙ same }
          | Ends_now all same ↦ Ending record { why = how; caused_so = refl; closed = all; is = sym e ∙ same }
        ]

    pub next-shape : (p : ℕ) (h : List (Entry Action Reply)) (a : Action) → IsOne (network_of t) p → next_action t.view (t.process p) h ≡ Some a
        → Shape p h (caused t.view (t.process p) h) a
    next-shape p h a one next =
        shape p h (caused t.view (t.process p) h) a one
        (unless-some (how_ended t.view h) (next_by t.view (t.process p) (caused t.view (t.process p) h) h) a next).1

    -- What holds of what it does at each place, of stops and of its end holds of what it does next.
    pub next-is : (Is : Action → Type 0) (p : ℕ) (h : List (Entry Action Reply)) (a : Action) → IsOne (network_of t) p
        → ((at : (t.process p).Place) → Is ((t.process p).does at)) → ((b : ℕ) → Is (t.view.stop b)) → ((how : Outcome) → Is (t.view.end how))
        → next_action t.view (t.process p) h ≡ Some a → Is a
    next-is Is p h a one at_places at_stops at_ends next =
        elim (next-shape p h a one next) as (λ _. Is a) [
          | AtPlace free e ↦ subst Is (sym e) (at_places (place (t.process p) h))
          | Stopping b stop ↦ subst Is (sym stop.is) (at_stops b)
          | Ending end ↦ subst Is (sym end.is) (at_ends end.why)
        ]

  -- where it has no cause it does what it does at its place
  pub does-next : (p : ℕ) (h : List (Entry Action Reply)) (a : Action) → caused t.view (t.process p) h ≡ None → next_action t.view (t.process p) h ≡ Some a
      → (t.process p).does (place (t.process p) h) ≡ a
  does-next p h a none next =
      sym (ap (λ cause. next_by t.view (t.process p) cause h) none)
      ∙ (unless-some (how_ended t.view h) (next_by t.view (t.process p) (caused t.view (t.process p) h) h) a next).1

  -- and has not ended
  pub goes-on : (p : ℕ) (h : List (Entry Action Reply)) (a : Action) → next_action t.view (t.process p) h ≡ Some a → how_ended t.view h ≡ None
  goes-on p h a next = (unless-some (how_ended t.view h) (next_by t.view (t.process p) (caused t.view (t.process p) h) h) a next).0
