-- What one process and the devices hold together, by events: the others have to leave it.
use Rattle.std.proofs.Common.{◌≡◌, inl, inr, ℕ, List, [], ◌∷◌, Some, sym, subst}
use Rattle.std.proofs.lemmas.Bool.Decides.{eqb_tells}
use Rattle.network_run.specs.Law.{AreEnabled, IsReached, run}
use Rattle.network_law.specs.Network.{Network, State, Event, IsOne, IsEnabled, Follows, happens, set}
use Rattle.network_law.specs.Stepping.{Openings, law_of}
use Rattle.network_law.proofs.Numbers.{set-same, set-other}

module _ {Devices Action Entry Parcel : Type 0} (network : Network Devices Action Entry Parcel) (p : ℕ) (Holds : List Entry → Devices → Type 0)
    -- its own entries keep it
    (own : (h : List Entry) (devices : Devices) (entry : Entry) (gained : List ℕ) → Follows network p (entry ∷ h)
    → network.Allows devices entry gained → Holds h devices → Holds (entry ∷ h) (network.given devices entry gained))
    -- and so do those of the others
    (others : (q : ℕ) (h g : List Entry) (devices : Devices) (entry : Entry) (gained : List ℕ) → IsOne network q → (q ≡ p → ⊥)
    → network.next q g ≡ Some (network.action entry) → network.Suits q entry → network.Allows devices entry gained → Holds h devices
    → Holds h (network.given devices entry gained)) where
  record Now (h : List Entry) (devices : Devices) : Type 0 where
    follows : Follows network p h
    holds : Holds h devices

  event-now : (s : State Devices Entry Parcel) (event : Event Entry) → IsEnabled network s event → Now (s.histories p) s.devices
      → Now ((happens network s event).histories p) (happens network s event).devices
  event-now s event enabled is =
      let q = event.process in
      let entry = event.entry in
      let after = network.given s.devices entry event.gained in
      elim (eqb_tells q p) as (λ _. Now ((happens network s event).histories p) (happens network s event).devices) [
        | inl same ↦
            let now : set s.histories q (entry ∷ s.histories q) p ≡ entry ∷ s.histories p =
            subst (λ q. set s.histories q (entry ∷ s.histories q) p ≡ entry ∷ s.histories p) (sym same.1)
            (set-same s.histories p (entry ∷ s.histories p)) in
            let next = subst (λ q. network.next q (s.histories q) ≡ Some (network.action entry)) same.1 enabled.next in
            let suits = subst (λ q. network.Suits q entry) same.1 enabled.suits in
            let follows : Follows network p (entry ∷ s.histories p) = (next, suits, is.follows) in
            subst (λ h. Now h after) (sym now)
            record { follows = follows; holds = own (s.histories p) s.devices entry event.gained follows enabled.allowed is.holds }
        | inr differ ↦
            let now : set s.histories q (entry ∷ s.histories q) p ≡ s.histories p =
            set-other s.histories q (entry ∷ s.histories q) p (λ e. differ.1 (sym e)) in
            subst (λ h. Now h after) (sym now) record {
              follows = is.follows;
              holds = others q (s.histories p) (s.histories q) s.devices entry event.gained enabled.one differ.1 enabled.next enabled.suits
                  enabled.allowed is.holds;
            }
      ]

  run-now : (openings : Openings Devices Entry) (s : State Devices Entry Parcel) (events : List (Event Entry))
      → AreEnabled (law_of network openings) s events → Now (s.histories p) s.devices
      → Now ((run (law_of network openings) s events).histories p) (run (law_of network openings) s events).devices
  run-now openings s [] are is = is
  run-now openings s (event ∷ events) are is = run-now openings (happens network s event) events are.1 (event-now s event are.0 is)

  -- So it holds in each reached state, where it holds at the beginning.
  pub holds-reached : (openings : Openings Devices Entry) (start s : State Devices Entry Parcel) → start.histories p ≡ []
      → Holds [] start.devices → IsReached (law_of network openings) start s → Holds (s.histories p) s.devices
  holds-reached openings start s empty first reached =
      let opening : Now (start.histories p) start.devices =
      subst (λ h. Now h start.devices) (sym empty) record { follows = tt; holds = first } in
      (subst (λ (s : State Devices Entry Parcel). Now (s.histories p) s.devices) reached.leads
      (run-now openings start reached.events reached.enabled opening)).holds
