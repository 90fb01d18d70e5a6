-- What holds of each network whatever its processes do: who may go on, and that a grant is seen at the desk.
use Rattle.std.proofs.Common.{◌≡◌, ◌≤◌, ℕ, Bool, ◌-◌, if◌then◌else◌, List, [], ◌∷◌, ◌++◌, length, length-append, Option, None, Some, refl, sym, ◌∙◌, ap, arith}
use Rattle.std.specs.Prelude.{option_to_list}
use Rattle.std.proofs.lemmas.List.{append-nil}
use Rattle.resource_mon.specs.Claims.{EachOnce, first_of, claimants}
use Rattle.network_law.specs.Acts.{Call, Alone, At, Asks, Gives, Went}
use Rattle.network_law.specs.Desk.{Desk, asked, after_asking}
use Rattle.network_law.specs.Network.{Network, State, Event, IsOne, IsEnabled, Fits, happens, desk_after, call_of}
use Rattle.network_law.proofs.Numbers.{same-number, other-number}
use Rattle.network_law.proofs.Reached.{reached-stands}
use Rattle.network_run.specs.Counting.{grants_by}
use Rattle.network_run.specs.Law.{IsReached, NoneGoes, AllEnded}
use Rattle.network_run.specs.Sound.{IsSoundLaw}
use Rattle.network_law.specs.Processes.{IsLawful}
use Rattle.network_law.specs.Stepping.{Openings, MayGo, law_of}

module _ {Devices Action Entry Parcel : Type 0} (network : Network Devices Action Entry Parcel) where
  pub goers : (s : State Devices Entry Parcel) (p : ℕ) → MayGo network s p
      → IsOne network p × (network.next p (s.histories p) ≡ None → ⊥)
  goers s p may = (may.one, λ none. (let some = may.next in cc))

  pub enabled-go : (s : State Devices Entry Parcel) (event : Event Entry) → IsEnabled network s event → MayGo network s event.process
  enabled-go s event is = record { action = network.action event.entry; one = is.one; next = is.next; may = is.may }

-- ---- the holder before and behind a call tells a grant
same-holder : (h : Option ℕ) → grants_by h h ≡ 0
same-holder None = refl
same-holder (Some p) = ap (λ t. if t then 0 else 1) (same-number p)

none-more : (granted : List ℕ) → 0 ≡ length granted - length granted
none-more granted = omega arith

none-added : (granted : List ℕ) → 0 ≡ length (granted ++ []) - length granted
none-added granted = (let same : length (granted ++ []) ≡ length granted = ap length (append-nil granted) in omega (arith, same))

one-added : (granted : List ℕ) (p : ℕ) → 1 ≡ length (granted ++ p ∷ []) - length granted
one-added granted p = (let more = length-append granted (p ∷ []) in omega (arith, more))

abbrev Told_by : Desk → Desk → Type 0
Told_by old new = grants_by old.claims.holder new.claims.holder ≡ length new.granted - length old.granted

asking : {Parcel : Type 0} (desk : Desk) (p : ℕ) (turn holder : Option ℕ) (w : Went Parcel) → desk.claims.handed ≡ turn → desk.claims.holder ≡ holder
    → w ≡ asked turn holder → Told_by desk (after_asking desk p w)
asking desk p (Some t) holder w turn_is holder_is is = rw (is, turn_is) (same-holder desk.claims.holder ∙ none-more desk.granted)
asking desk p None None w turn_is holder_is is = rw (is, turn_is, holder_is) (one-added desk.granted p)
asking desk p None (Some h) w turn_is holder_is is = rw is (same-holder desk.claims.holder ∙ none-more desk.granted)

giving : (holder : Option ℕ) (waiting granted : List ℕ) → EachOnce (option_to_list holder ++ waiting)
    → grants_by holder (first_of waiting) ≡ length (granted ++ option_to_list (first_of waiting)) - length granted
giving holder [] granted once = none-added granted
giving None (q ∷ later) granted once = one-added granted q
giving (Some h) (q ∷ later) granted once =
    ap (λ t. if t then 0 else 1) (other-number h q (λ same. once.0.0 (sym same))) ∙ one-added granted q

module _ {Devices Entry Parcel : Type 0} where
  by-call : (mark : Parcel → Bool) (s : State Devices Entry Parcel) (p : ℕ) (c : Call) (w : Went Parcel) → EachOnce (claimants s.desk.claims)
      → Fits mark s c w → Told_by s.desk (desk_after c p w s.desk)
  by-call mark s p Alone w once fits = same-holder s.desk.claims.holder ∙ none-more s.desk.granted
  by-call mark s p (At b side visit) w once fits = same-holder s.desk.claims.holder ∙ none-more s.desk.granted
  by-call mark s p Asks w once fits = asking s.desk p s.desk.claims.handed s.desk.claims.holder w refl refl fits
  by-call mark s p Gives w once fits = giving s.desk.claims.holder s.desk.claims.waiting s.desk.granted once

pub granted : {Devices Action Entry Parcel : Type 0} (network : Network Devices Action Entry Parcel) (s : State Devices Entry Parcel) (event : Event Entry)
    → EachOnce (claimants s.desk.claims) → IsEnabled network s event
    → length (happens network s event).desk.granted - length s.desk.granted
    ≡ grants_by s.desk.claims.holder (happens network s event).desk.claims.holder
granted network s event once is =
    sym (by-call network.mark s event.process (call_of network event.process event.entry) (network.went event.entry) once is.fits)

-- So the law of a lawful network of few processes is sound, where no reached state is stuck.
pub sound : {Devices Action Entry Parcel : Type 0} (network : Network Devices Action Entry Parcel) (openings : Openings Devices Entry) → IsLawful network
    → network.size ≤ 16
    → ((o : openings.Opening) (s : State Devices Entry Parcel) → IsReached (law_of network openings) ((law_of network openings).opened o) s
    → NoneGoes (law_of network openings) s → AllEnded (law_of network openings) s)
    → IsSoundLaw (law_of network openings)
sound network openings laws few never = record {
  few = few;
  goers = goers network;
  enabled_go = enabled-go network;
  never_stuck = never;
  granted = λ o s event reached is. granted network s event (reached-stands laws openings o s reached).desk.one_holder.each_once is;
}
