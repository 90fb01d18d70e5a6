-- A state that is reached went through the state before each entry of a history.
use Rattle.std.proofs.Common.{◌≡◌, ◌⊎◌, inl, inr, ℕ, List, [], ◌∷◌, ◌++◌, refl, sym, ◌∙◌, ap, subst}
use Rattle.std.proofs.lemmas.Bool.Decides.{eqb_tells}
use Rattle.network_run.specs.Law as run
use Rattle.network_run.specs.Law.{AreEnabled}
use Rattle.network_run.proofs.Along.{reached-more}
use Rattle.network_law.specs.Network.{happens}
use Rattle.network_law.proofs.Numbers.{set-same, set-other}
use Rattle.solo_law.specs.Devices.{Devices}
use Rattle.solo_law.specs.Solo.{solo, opened, the_law, SoloState, SoloEntry, SoloEvent, IsReached}

same-rest : (x y : SoloEntry) (xs ys : List SoloEntry) → x ∷ xs ≡ y ∷ ys → xs ≡ ys
same-rest x y xs ys e = cc

nothing-behind : (later before : List SoloEntry) (entry : SoloEntry) → [] ≡ later ++ (entry ∷ before) → ⊥
nothing-behind [] before entry e = cc
nothing-behind (first ∷ later) before entry e = cc

module _ (devices : Devices) (p : ℕ) (entry : SoloEntry) (before : List SoloEntry) where
  -- the process had made these entries by then
  record HadMade : Type 0 where
    state : SoloState
    reached : run.IsReached the_law (opened devices) state
    is : state.histories p ≡ before

  -- in this state it has made the entry
  abbrev HasMade : SoloState → Type 0
  HasMade s = (later : List SoloEntry) × (s.histories p ≡ later ++ (entry ∷ before))

  made-by : (s : SoloState) (first : SoloEntry) (later : List SoloEntry) → run.IsReached the_law (opened devices) s
      → first ∷ s.histories p ≡ later ++ (entry ∷ before) → HadMade ⊎ HasMade s
  made-by s first [] reached e = inl (record { state = s; reached = reached; is = same-rest first entry (s.histories p) before e })
  made-by s first (last ∷ later) reached e = inr (later, same-rest first last (s.histories p) (later ++ (entry ∷ before)) e)

  one-back : (s : SoloState) (event : SoloEvent) → run.IsReached the_law (opened devices) s → HasMade (happens solo s event) → HadMade ⊎ HasMade s
  one-back s event reached made =
      elim (eqb_tells p event.process) as (λ _. HadMade ⊎ HasMade s) [
        | inl same ↦ made-by s event.entry made.0 reached
            (sym (subst (λ q. (happens solo s event).histories q ≡ event.entry ∷ s.histories q) (sym same.1)
            (set-same s.histories event.process (event.entry ∷ s.histories event.process))) ∙ made.1)
        | inr differ ↦ inr (made.0, sym (set-other s.histories event.process (event.entry ∷ s.histories event.process) p differ.1) ∙ made.1)
      ]

  goes-back : (events : List SoloEvent) (s : SoloState) → run.IsReached the_law (opened devices) s → AreEnabled the_law s events
      → HasMade (run.run the_law s events) → HadMade ⊎ HasMade s
  goes-back [] s reached enabled made = inr made
  goes-back (event ∷ events) s reached enabled made =
      elim (goes-back events (happens solo s event) (reached-more the_law (opened devices) s event reached enabled.0) enabled.1 made)
      as (λ _. HadMade ⊎ HasMade s) [
        | inl had ↦ inl had
        | inr has ↦ one-back s event reached has
      ]

-- Behind a reached state whose history has this entry is the one before it.
pub record WentThrough (devices : Devices) (p : ℕ) (before : List SoloEntry) : Type 0 where
  pub state : SoloState
  pub reached : IsReached devices state
  pub is : state.histories p ≡ before

pub went-through : (devices : Devices) (s : SoloState) (p : ℕ) (entry : SoloEntry) (later before : List SoloEntry) → IsReached devices s
    → s.histories p ≡ later ++ (entry ∷ before) → WentThrough devices p before
went-through devices s p entry later before reached e =
    elim (goes-back devices p entry before reached.reached.events (opened devices) (record { events = []; enabled = tt; leads = refl }) reached.reached.enabled
    (later, ap (λ (s : SoloState). s.histories p) reached.reached.leads ∙ e)) as (λ _. WentThrough devices p before) [
      | inl had ↦ record { state = had.state; reached = record { sound = reached.sound; reached = had.reached }; is = had.is }
      | inr has ↦ absurd (nothing-behind has.0 before entry has.1)
    ]
