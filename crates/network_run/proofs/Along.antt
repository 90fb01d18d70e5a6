-- Lists of events with one more at the end.
use Rattle.std.proofs.Common.{◌≡◌, ◌<◌, ◌≤◌, ◌+◌, ℕ, suc, List, [], ◌∷◌, ◌++◌, length, length-append, map, take, get_or, Some, refl, sym, ◌∙◌, ap, subst, arith}
use Rattle.std.specs.Prelude.{slice_get}
use Rattle.std.proofs.lemmas.List.{map-append}
use Rattle.std.proofs.lemmas.Option.{slice_get-get_or, slice_get_past}
use Rattle.std.proofs.Math.Seq.{take-suc}
use Rattle.network_run.specs.declared.stepped.Stepped.{Stepped}
use Rattle.network_run.specs.Law.{Law, Placed, IsReached, AreEnabled, run, Steps}
use Rattle.network_run.specs.Runs.{RunsAlong}

module _ (law : Law) where
  pub run-more : (s : law.State) (events : List law.Event) (event : law.Event)
      → run law s (events ++ event ∷ []) ≡ law.happens (run law s events) event
  run-more s [] event = refl
  run-more s (first ∷ events) event = run-more (law.happens s first) events event

  pub one-more : (s : law.State) (events : List law.Event) (event : law.Event) → AreEnabled law s events → law.IsEnabled (run law s events) event
      → AreEnabled law s (events ++ event ∷ [])
  one-more s [] event all last = (last, tt)
  one-more s (first ∷ events) event all last = (all.0, one-more (law.happens s first) events event all.1 last)

  abbrev pub reached-more : (start s : law.State) (event : law.Event) → IsReached law start s → law.IsEnabled s event
      → IsReached law start (law.happens s event)
  reached-more start s event r enabled = record {
    events = r.events ++ event ∷ [];
    enabled = one-more start r.events event r.enabled (subst (λ s. law.IsEnabled s event) (sym r.leads) enabled);
    leads = run-more start r.events event ∙ ap (λ s. law.happens s event) r.leads;
  }

  pub reached-run : (start s : law.State) (events : List law.Event) → IsReached law start s → AreEnabled law s events
      → IsReached law start (run law s events)
  reached-run start s [] reached all = reached
  reached-run start s (first ∷ events) reached all =
      reached-run start (law.happens s first) events (reached-more start s first reached all.0) all.1

  -- the place behind enabled events
  abbrev pub place-behind : (Stands New : law.State → Type 0) (at : Placed law Stands) (events : List law.Event) → AreEnabled law at.state events
      → New (run law at.state events) → Placed law New
  place-behind Stands New at events all stands = record {
    opening = at.opening;
    state = run law at.state events;
    reached = reached-run (law.opened at.opening) at.state events at.reached all;
    stands = stands;
  }

  -- ---- by a list of processes
  pub record TakenSoFar (Stands : law.State → Type 0) (list : List ℕ) (s : law.State) (taken : ℕ) : Type 0 where
    pub events : List law.Event
    pub enabled : AreEnabled law s events
    pub listed : map law.process events ≡ take taken list
    pub many : taken ≡ length events
    pub stands : Stands (run law s events)

  pub none-taken : (Stands : law.State → Type 0) (list : List ℕ) (s : law.State) → Stands s → TakenSoFar Stands list s 0
  none-taken Stands list s stands = record { events = []; enabled = tt; listed = refl; many = refl; stands = stands }

  next_is : (n : ℕ) → n + 1 ≡ suc n
  next_is n = omega arith

  module _ {N : Type 0} (Stands : N → law.State → Type 0) (Moves : N → law.Event → N → Type 0) where
    pub taken-more : (old new : N) (list : List ℕ) (s : law.State) (taken p : ℕ) (result : Stepped) → taken < length list → p ≡ get_or list taken 0
        → (so_far : TakenSoFar (Stands old) list s taken)
        → Steps law Stands Moves old new (run law s so_far.events) p result → TakenSoFar (Stands new) list s (taken + 1)
    taken-more old new list s taken p result below next so_far steps = record {
      events = so_far.events ++ steps.event ∷ [];
      enabled = one-more s so_far.events steps.event so_far.enabled steps.enabled;
      listed =
          map-append law.process so_far.events (steps.event ∷ [])
          ∙ ap (λ front. front ++ law.process steps.event ∷ []) so_far.listed
          ∙ ap (λ q. take taken list ++ q ∷ []) (steps.process_is ∙ next)
          ∙ sym (ap (λ n. take n list) (next_is taken) ∙ take-suc list taken 0 below);
      many = ap (λ n. n + 1) so_far.many ∙ sym (length-append so_far.events (steps.event ∷ []));
      stands = subst (λ s. Stands new s) (sym (run-more s so_far.events steps.event)) steps.stands;
    }

  -- the place that it came to
  abbrev pub place-taken : (Stands New : law.State → Type 0) (list : List ℕ) (taken : ℕ) (at : Placed law Stands) → TakenSoFar New list at.state taken
      → Placed law New
  place-taken Stands New list taken at so_far = place-behind Stands New at so_far.events so_far.enabled so_far.stands

  pub halted : (Stands : law.State → Type 0) (list : List ℕ) (s : law.State) (taken : ℕ) (so_far : TakenSoFar Stands list s taken)
      → ((p : ℕ) → slice_get list taken ≡ Some p → law.MayGo (run law s so_far.events) p → ⊥) → RunsAlong law Stands list s taken
  halted Stands list s taken so_far halts = record {
    events = so_far.events;
    enabled = so_far.enabled;
    listed = so_far.listed;
    many = so_far.many;
    stands = so_far.stands;
    halts = halts;
  }

  -- the process at the end of what was taken may not go on, or there is none
  pub halts-at : (P : ℕ → Type 0) (list : List ℕ) (taken : ℕ) → taken < length list → (P (get_or list taken 0) → ⊥) → (p : ℕ)
      → slice_get list taken ≡ Some p → P p → ⊥
  halts-at P list taken below not p is may =
      let at = slice_get-get_or list taken 0 below in
      let same : p ≡ get_or list taken 0 = cc in
      not (subst P same may)

  pub halts-past : (P : ℕ → Type 0) (list : List ℕ) (taken : ℕ) → length list ≤ taken → (p : ℕ) → slice_get list taken ≡ Some p → P p → ⊥
  halts-past P list taken past p is may = (let none = slice_get_past list taken past in cc)
