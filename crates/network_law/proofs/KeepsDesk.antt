-- Each enabled event keeps who has the disk, and who waits for it.
use Rattle.std.proofs.Common.{◌≡◌, ◌≢◌, ◌⊎◌, inl, inr, ℕ, true, false, List, [], ◌∷◌, ◌++◌, Option, None, Some, refl, sym, ◌∙◌, ap, subst}
use Rattle.std.specs.Prelude.{option_to_list}
use Rattle.std.specs.List.{AllByRecursion}
use Rattle.std.proofs.lemmas.Bool.Decides.{eqb_tells}
use Rattle.resource_mon.specs.Claims.{Claims, IsNoneOf, EachOnce, claimants, grant_by, after_request, after_release, after_resumed, first_of, later_of}
use Rattle.resource_mon.specs.declared.grant.Grant.TheVariants as grant
use Rattle.resource_mon.specs.History.{request-history, release-history, resumed-history}
use Rattle.network_law.specs.Acts.{Call, Alone, At, Asks, Gives, Went, Delayed, Done, holds_by, holds, waits}
use Rattle.network_law.specs.Desk.{Desk, asked, after_grant, after_asking, after_giving, MayAsk}
use Rattle.network_law.specs.Network.{Network, State, Event, IsEnabled, Follows, MayCall, Fits, call_of, desk_after, happens, acts}
use Rattle.network_law.specs.Processes.{CallsNext, IsLawful}
use Rattle.network_law.specs.Kept.{IsAmong, StandsAtDesk, DeskStands, QueuesStand}
use Rattle.network_law.proofs.Seats.{calls, acts-own, acts-other}
use Rattle.network_law.proofs.KeepsQueues.{some-same, same-call, calls-other, calls-before, calls-again, calls-same, waits-own, own-delayed}

-- ---- lists of processes
both-all : {P Q R : ℕ → Type 0} → ((q : ℕ) → P q → Q q → R q) → (qs : List ℕ) → AllByRecursion P qs → AllByRecursion Q qs → AllByRecursion R qs
both-all each [] ps qs = tt
both-all each (q ∷ rest) ps qs = (each q ps.0 qs.0, both-all each rest ps.1 qs.1)

each-all : {P R : ℕ → Type 0} → ((q : ℕ) → P q → R q) → (qs : List ℕ) → AllByRecursion P qs → AllByRecursion R qs
each-all each [] ps = tt
each-all each (q ∷ rest) ps = (each q ps.0, each-all each rest ps.1)

all-more : (P : ℕ → Type 0) (qs : List ℕ) (q : ℕ) → AllByRecursion P qs → P q → AllByRecursion P (qs ++ q ∷ [])
all-more P [] q ps is = (is, tt)
all-more P (first ∷ later) q ps is = (ps.0, all-more P later q ps.1 is)

first-all : (P : ℕ → Type 0) (qs : List ℕ) (q : ℕ) → AllByRecursion P qs → first_of qs ≡ Some q → P q
first-all P [] q ps e = absurd cc
first-all P (first ∷ later) q ps e = subst P (some-same first q e) ps.0

later-all : (P : ℕ → Type 0) (qs : List ℕ) → AllByRecursion P qs → AllByRecursion P (later_of qs)
later-all P [] ps = tt
later-all P (first ∷ later) ps = ps.1

holder-once : (holder : Option ℕ) (waiting : List ℕ) (p : ℕ) → holder ≡ Some p → EachOnce (option_to_list holder ++ waiting) → IsNoneOf waiting p
holder-once None waiting p e once = absurd cc
holder-once (Some q) waiting p e once = subst (IsNoneOf waiting) (some-same q p e) once.0

none-of : (holder : Option ℕ) (waiting : List ℕ) (p : ℕ) → (holder ≡ Some p → ⊥) → IsNoneOf waiting p → IsNoneOf (option_to_list holder ++ waiting) p
none-of None waiting p not none = none
none-of (Some q) waiting p not none = ((λ e. not (ap Some e)), none)

-- the last of a longer list
among-last : (qs : List ℕ) (q : ℕ) → IsAmong (qs ++ q ∷ []) q
among-last [] q = inl refl
among-last (first ∷ later) q = inr (among-last later q)

among-more : (qs : List ℕ) (p q : ℕ) → IsAmong qs q → IsAmong (qs ++ p ∷ []) q
among-more [] p q is = absurd is
among-more (first ∷ later) p q (inl e) = inl e
among-more (first ∷ later) p q (inr is) = inr (among-more later p q is)

-- the first of them, or a later one
first-or-later : (qs : List ℕ) (q : ℕ) → IsAmong qs q → IsAmong (later_of qs) q ⊎ (first_of qs ≡ Some q)
first-or-later [] q is = absurd is
first-or-later (first ∷ later) q (inl e) = inr (ap Some e)
first-or-later (first ∷ later) q (inr is) = inl is

module _ {Devices Action Entry Parcel : Type 0} {network : Network Devices Action Entry Parcel} (laws : IsLawful network) (s : State Devices Entry Parcel)
    (event : Event Entry)
    (follows : (q : ℕ) → Follows network q (s.histories q)) (queues : QueuesStand network s) (stand : DeskStands network s)
    (enabled : IsEnabled network s event) where
  abbrev p : ℕ
  p = event.process

  abbrev new : State Devices Entry Parcel
  new = happens network s event

  abbrev c : Call
  c = call_of network event.process event.entry

  abbrev w : Went Parcel
  w = network.went event.entry

  -- ---- who isn't touched stands as before
  at_desk-still : (q : ℕ) → StandsAtDesk network s q → q ≢ p → StandsAtDesk network new q
  at_desk-still q is differ = record {
    waits_now = ap waits (acts-other laws s event follows enabled q differ) ∙ is.waits_now;
    calls = calls-other laws s event follows queues enabled q differ Asks is.calls;
    holds_not = ap holds (acts-other laws s event follows enabled q differ) ∙ is.holds_not;
  }

  holds-other : (q : ℕ) → (q ≡ p → ⊥) → holds (acts network q (new.histories q)) ≡ holds (acts network q (s.histories q))
  holds-other q differ = ap holds (acts-other laws s event follows enabled q differ)

  holds-own : holds (acts network p (new.histories p)) ≡ holds_by (holds (acts network p (s.histories p))) c w
  holds-own = ap holds (acts-own laws s event follows enabled)

  -- one that does something else doesn't stand at the desk
  not-at : (c ≡ Asks → ⊥) → (q : ℕ) → StandsAtDesk network s q → q ≢ p
  not-at differ q is same =
      differ (same-call p (s.histories p) c Asks (calls laws s event follows enabled c refl)
      (subst (λ q. CallsNext network q (s.histories q) Asks) same is.calls))

  still-holds : holds_by (holds (acts network p (s.histories p))) c w ≡ holds (acts network p (s.histories p)) → (q : ℕ)
      → holds (acts network q (new.histories q)) ≡ holds (acts network q (s.histories q))
  still-holds same q =
      elim (eqb_tells q p) as (λ _. holds (acts network q (new.histories q)) ≡ holds (acts network q (s.histories q))) [
        | inl own ↦ subst (λ q. holds (acts network q (new.histories q)) ≡ holds (acts network q (s.histories q))) (sym own.1) (holds-own ∙ same)
        | inr differ ↦ holds-other q differ.1
      ]

  -- ---- who is delayed
  abbrev Waits : State Devices Entry Parcel → ℕ → Type 0
  Waits s q = (waits (acts network q (s.histories q)) ≡ true) × CallsNext network q (s.histories q) Asks

  abbrev Stands : State Devices Entry Parcel → ℕ → Type 0
  Stands s q = IsAmong s.desk.claims.waiting q ⊎ (s.desk.claims.handed ≡ Some q)

  waits-before : (q : ℕ) → (q ≡ p → ⊥) → Waits new q → Stands s q
  waits-before q differ (waits_now, is) =
      stand.delayed q (sym (ap waits (acts-other laws s event follows enabled q differ)) ∙ waits_now)
      (calls-before laws s event follows queues enabled q differ Asks is)

  -- one that wasn't delayed at the desk doesn't wait there
  waits-not : (w ≡ Delayed → c ≡ Asks → ⊥) → Waits new p → ⊥
  waits-not not (waits_now, is) =
      let delayed = own-delayed laws s event follows queues enabled waits_now in
      not delayed (calls-same laws s event follows queues enabled delayed Asks is)

  delayed-by : (Waits new p → Stands new p) → ((q : ℕ) → (q ≡ p → ⊥) → Stands s q → Stands new q) → (q : ℕ)
      → waits (acts network q (new.histories q)) ≡ true → CallsNext network q (new.histories q) Asks → Stands new q
  delayed-by own others q waits_now is =
      elim (eqb_tells q p) as (λ _. Stands new q) [
        | inl same ↦ subst (λ q. Waits new q → Stands new q) (sym same.1) own (waits_now, is)
        | inr differ ↦ others q differ.1 (waits-before q differ.1 (waits_now, is))
      ]

  -- where it wasn't delayed there
  delayed-others : (w ≡ Delayed → c ≡ Asks → ⊥) → ((q : ℕ) → (q ≡ p → ⊥) → Stands s q → Stands new q) → (q : ℕ)
      → waits (acts network q (new.histories q)) ≡ true → CallsNext network q (new.histories q) Asks → Stands new q
  delayed-others not others = delayed-by (λ is. absurd (waits-not not is)) others

  -- ---- an event that doesn't touch the disk
  still : (c ≡ Asks → ⊥) → holds_by (holds (acts network p (s.histories p))) c w ≡ holds (acts network p (s.histories p)) → new.desk ≡ s.desk
      → DeskStands network new
  still differ same desk_is =
      let claims_is : new.desk.claims ≡ s.desk.claims = ap (λ (desk : Desk). desk.claims) desk_is in
      record {
        one_holder = rw desk_is stand.one_holder;
        waiting = subst (λ (claims : Claims). AllByRecursion (StandsAtDesk network new) claims.waiting) (sym claims_is)
            (both-all at_desk-still s.desk.claims.waiting stand.waiting (each-all (not-at differ) s.desk.claims.waiting stand.waiting));
        handed = λ q at. (let is = stand.handed q (sym (ap (λ (claims : Claims). claims.handed) claims_is) ∙ at) in at_desk-still q is (not-at differ q is));
        delayed = delayed-others (λ delayed. differ)
            (λ q other is. subst (λ (claims : Claims). IsAmong claims.waiting q ⊎ (claims.handed ≡ Some q)) (sym claims_is) is);
        holder = λ q at. elim (stand.holder q (sym (ap (λ (claims : Claims). claims.holder) claims_is) ∙ at)) as
            (λ _. (new.desk.claims.handed ≡ Some q) ⊎ (holds (acts network q (new.histories q)) ≡ true)) [
              | inl handed ↦ inl (ap (λ (claims : Claims). claims.handed) claims_is ∙ handed)
              | inr on ↦ inr (still-holds same q ∙ on)
            ];
        holds_alone = λ q on. ap (λ (claims : Claims). claims.holder) claims_is ∙ stand.holds_alone q (sym (still-holds same q) ∙ on);
      }

  asks-not : c ≡ Asks → holds (acts network p (s.histories p)) ≡ false
  asks-not e = laws.asks p (s.histories p) enabled.one (follows p) (calls laws s event follows enabled Asks e)

  none-asks : c ≡ Asks → s.desk.claims.handed ≡ None → IsNoneOf s.desk.claims.waiting p → IsNoneOf (claimants s.desk.claims) p
  none-asks e no_turn none =
      none-of s.desk.claims.holder s.desk.claims.waiting p
      (λ held. (elim (stand.holder p held) as (λ _. ⊥) [ inl handed ↦ cc | inr on ↦ (let off = asks-not e in cc) ])) none

  may-ask : c ≡ Asks → MayAsk s.desk.claims p
  may-ask e = subst (λ k. MayCall s p k) e enabled.may

  none-waits : c ≡ Asks → s.desk.claims.handed ≡ None → IsNoneOf s.desk.claims.waiting p
  none-waits e no_turn = elim (may-ask e) as (λ _. IsNoneOf s.desk.claims.waiting p) [ inl is ↦ is.1 | inr is ↦ absurd cc ]

  -- ---- it asks while another has the disk, and waits
  asks-delayed : c ≡ Asks → w ≡ Delayed → s.desk.claims.handed ≡ None → (h : ℕ) → s.desk.claims.holder ≡ Some h → DeskStands network new
  asks-delayed e delayed no_turn h held =
      let desk_is : new.desk ≡ record s.desk { claims = after_request s.desk.claims p grant.Wait; requested = s.desk.requested ++ p ∷ [] } =
      ap (λ k. desk_after k p w s.desk) e ∙ ap (after_asking s.desk p) delayed in
      let claims_is : new.desk.claims ≡ after_request s.desk.claims p grant.Wait = ap (λ (desk : Desk). desk.claims) desk_is in
      let same : holds_by (holds (acts network p (s.histories p))) c w ≡ holds (acts network p (s.histories p)) = rw (e, delayed) refl in
      let none = none-waits e no_turn in
      record {
        one_holder = rw desk_is (request-history s.desk.claims (after_request s.desk.claims p grant.Wait) p grant.Wait (inl no_turn) (none-asks e no_turn none)
            (sym (ap grant_by held)) refl s.desk.requested s.desk.granted s.desk.released stand.one_holder);
        waiting = subst (λ (claims : Claims). AllByRecursion (StandsAtDesk network new) claims.waiting) (sym claims_is)
            (all-more (StandsAtDesk network new) s.desk.claims.waiting p (both-all at_desk-still s.desk.claims.waiting stand.waiting none) record {
              waits_now = waits-own laws s event follows queues enabled delayed;
              calls = calls-again laws s event follows queues enabled delayed Asks e;
              holds_not = holds-own ∙ same ∙ asks-not e;
            });
        handed = λ q at. (let turn = sym (ap (λ (claims : Claims). claims.handed) claims_is) ∙ at in absurd cc);
        delayed = delayed-by
            (λ is. inl (subst (λ (claims : Claims). IsAmong claims.waiting p) (sym claims_is) (among-last s.desk.claims.waiting p)))
            (λ q other is. elim is as (λ _. Stands new q) [
              | inl waiting ↦ inl (subst (λ (claims : Claims). IsAmong claims.waiting q) (sym claims_is)
                  (among-more s.desk.claims.waiting p q waiting))
              | inr turn ↦ absurd cc
            ]);
        holder = λ q at. elim (stand.holder q (sym (ap (λ (claims : Claims). claims.holder) claims_is) ∙ at)) as
            (λ _. (new.desk.claims.handed ≡ Some q) ⊎ (holds (acts network q (new.histories q)) ≡ true)) [
              | inl handed ↦ absurd cc
              | inr on ↦ inr (still-holds same q ∙ on)
            ];
        holds_alone = λ q on. ap (λ (claims : Claims). claims.holder) claims_is ∙ stand.holds_alone q (sym (still-holds same q) ∙ on);
      }

  -- ---- it asks while nobody has the disk
  others-off : s.desk.claims.holder ≡ None → (q : ℕ) → holds (acts network q (s.histories q)) ≡ true → ⊥
  others-off nobody q on = let e = stand.holds_alone q on in cc

  now-holds : c ≡ Asks → w ≡ Done → holds (acts network p (new.histories p)) ≡ true
  now-holds e done = holds-own ∙ ap (λ k. holds_by (holds (acts network p (s.histories p))) k w) e
      ∙ ap (holds_by (holds (acts network p (s.histories p))) Asks) done

  asks-granted : c ≡ Asks → w ≡ Done → s.desk.claims.handed ≡ None → s.desk.claims.holder ≡ None → DeskStands network new
  asks-granted e done no_turn nobody =
      let granted : Desk = record {
        claims = after_request s.desk.claims p grant.Got;
        requested = s.desk.requested ++ p ∷ [];
        granted = s.desk.granted ++ p ∷ [];
        released = s.desk.released;
      } in
      let desk_is : new.desk ≡ granted = ap (λ k. desk_after k p w s.desk) e ∙ ap (after_asking s.desk p) done
      ∙ ap (λ turn. after_grant turn s.desk p) no_turn in
      let claims_is : new.desk.claims ≡ after_request s.desk.claims p grant.Got = ap (λ (desk : Desk). desk.claims) desk_is in
      record {
        one_holder = rw desk_is (request-history s.desk.claims (after_request s.desk.claims p grant.Got) p grant.Got (inl no_turn)
            (none-asks e no_turn (none-waits e no_turn)) (sym (ap grant_by nobody)) refl s.desk.requested s.desk.granted s.desk.released stand.one_holder);
        waiting = subst (AllByRecursion (StandsAtDesk network new)) (sym (ap (λ (claims : Claims). claims.waiting) claims_is
            ∙ stand.one_holder.idle nobody)) tt;
        handed = λ q at. (let turn = sym (ap (λ (claims : Claims). claims.handed) claims_is) ∙ at in absurd cc);
        delayed = delayed-others (λ delayed asks. cc) (λ q other is. elim is as (λ _. Stands new q) [
          | inl waiting ↦ absurd (subst (λ qs. IsAmong qs q) (stand.one_holder.idle nobody) waiting)
          | inr turn ↦ absurd cc
        ]);
        holder = λ q at. inr (subst (λ q. holds (acts network q (new.histories q)) ≡ true)
            (some-same p q (sym (ap (λ (claims : Claims). claims.holder) claims_is) ∙ at)) (now-holds e done));
        holds_alone = λ q on. ap (λ (claims : Claims). claims.holder) claims_is ∙ elim (eqb_tells q p) as (λ _. Some p ≡ Some q) [
          | inl own ↦ ap Some (sym own.1)
          | inr differ ↦ absurd (others-off nobody q (sym (holds-other q differ.1) ∙ on))
        ];
      }

  -- ---- the disk was handed to it
  asks-resumed : c ≡ Asks → w ≡ Done → (q : ℕ) → s.desk.claims.handed ≡ Some q → DeskStands network new
  asks-resumed e done q turn =
      let desk_is : new.desk ≡ record s.desk { claims = after_resumed s.desk.claims } = ap (λ k. desk_after k p w s.desk) e ∙ ap (after_asking s.desk p) done
      ∙ ap (λ turn. after_grant turn s.desk p) turn in
      let claims_is : new.desk.claims ≡ after_resumed s.desk.claims = ap (λ (desk : Desk). desk.claims) desk_is in
      let own : s.desk.claims.handed ≡ Some p = elim (may-ask e) as (λ _. s.desk.claims.handed
      ≡ Some p) [ inl is ↦ (let none = is.0 in absurd cc) | inr is ↦ is ] in
      let held : s.desk.claims.holder ≡ Some p = stand.one_holder.handed_to_holder p own in
      record {
        one_holder = rw desk_is (resumed-history s.desk.claims
            (after_resumed s.desk.claims) refl s.desk.requested s.desk.granted s.desk.released stand.one_holder);
        waiting = subst (λ (claims : Claims). AllByRecursion (StandsAtDesk network new) claims.waiting) (sym claims_is)
            (both-all at_desk-still s.desk.claims.waiting stand.waiting
            (holder-once s.desk.claims.holder s.desk.claims.waiting p held stand.one_holder.each_once));
        handed = λ q at. (let turn = sym (ap (λ (claims : Claims). claims.handed) claims_is) ∙ at in absurd cc);
        delayed = delayed-others (λ delayed asks. cc) (λ q other is. elim is as (λ _. Stands new q) [
          | inl waiting ↦ inl (subst (λ (claims : Claims). IsAmong claims.waiting q) (sym claims_is) waiting)
          | inr turn ↦ absurd (other (sym (some-same p q (sym own ∙ turn))))
        ]);
        holder = λ q at. inr (subst (λ q. holds (acts network q (new.histories q)) ≡ true)
            (some-same p q (sym held ∙ sym (ap (λ (claims : Claims). claims.holder) claims_is) ∙ at)) (now-holds e done));
        holds_alone = λ q on. ap (λ (claims : Claims). claims.holder) claims_is ∙ elim (eqb_tells q p) as (λ _. s.desk.claims.holder ≡ Some q) [
          | inl same ↦ held ∙ ap Some (sym same.1)
          | inr differ ↦ stand.holds_alone q (sym (holds-other q differ.1) ∙ on)
        ];
      }

  -- ---- it gives the disk back
  gives : c ≡ Gives → w ≡ Done → DeskStands network new
  gives e done =
      let desk_is : new.desk ≡ after_giving s.desk = ap (λ k. desk_after k p w s.desk) e in
      let claims_is : new.desk.claims ≡ after_release s.desk.claims = ap (λ (desk : Desk). desk.claims) desk_is in
      let held : s.desk.claims.holder ≡ Some p = stand.holds_alone p (laws.gives p (s.histories p) enabled.one (follows p)
      (calls laws s event follows enabled Gives e)) in
      let waits_on = both-all at_desk-still s.desk.claims.waiting stand.waiting
      (holder-once s.desk.claims.holder s.desk.claims.waiting p held stand.one_holder.each_once) in
      let off : holds (acts network p (new.histories p)) ≡ false = holds-own ∙ ap (λ k. holds_by (holds (acts network p (s.histories p))) k w) e
      ∙ ap (holds_by (holds (acts network p (s.histories p))) Gives) done in
      record {
        one_holder = rw desk_is (release-history s.desk.claims (after_release s.desk.claims)
            (first_of s.desk.claims.waiting) refl refl s.desk.requested s.desk.granted s.desk.released stand.one_holder);
        waiting = subst (λ (claims : Claims). AllByRecursion (StandsAtDesk network new) claims.waiting) (sym claims_is)
            (later-all (StandsAtDesk network new) s.desk.claims.waiting waits_on);
        handed = λ q at. first-all (StandsAtDesk network new) s.desk.claims.waiting q waits_on (sym (ap (λ (claims : Claims). claims.handed) claims_is) ∙ at);
        delayed = delayed-others (λ delayed asks. (let no = sym e ∙ asks in cc)) (λ q other is. elim is as (λ _. Stands new q) [
          | inl waiting ↦ subst (λ (claims : Claims). IsAmong claims.waiting q ⊎ (claims.handed ≡ Some q)) (sym claims_is)
              (first-or-later s.desk.claims.waiting q waiting)
          | inr turn ↦ absurd (other (sym (some-same p q (sym held ∙ stand.one_holder.handed_to_holder q turn))))
        ]);
        holder = λ q at. inl (ap (λ (claims : Claims). claims.handed) claims_is ∙ sym (ap (λ (claims : Claims). claims.holder) claims_is) ∙ at);
        holds_alone = λ q on. elim (eqb_tells q p) as (λ _. new.desk.claims.holder ≡ Some q) [
          | inl own ↦ absurd (let no = subst (λ q. holds (acts network q (new.histories q)) ≡ true) own.1 on in cc)
          | inr differ ↦ absurd (differ.1 (sym (some-same p q (sym held ∙ stand.holds_alone q (sym (holds-other q differ.1) ∙ on)))))
        ];
      }

  -- ---- every call
  asks-by : (handed holder : Option ℕ) → s.desk.claims.handed ≡ handed → s.desk.claims.holder ≡ holder → c ≡ Asks → w ≡ asked handed holder
      → DeskStands network new
  asks-by (Some q) holder turn held e fits = asks-resumed e fits q turn
  asks-by None None turn held e fits = asks-granted e fits turn held
  asks-by None (Some h) turn held e fits = asks-delayed e fits turn h held

  keeps-by : (k : Call) → c ≡ k → DeskStands network new
  keeps-by Asks e = asks-by s.desk.claims.handed s.desk.claims.holder refl refl e (subst (λ k. Fits network.mark s k w) e enabled.fits)
  keeps-by Gives e = gives e (subst (λ k. Fits network.mark s k w) e enabled.fits)
  keeps-by Alone e = still (λ asks. (let no = sym e ∙ asks in cc)) (ap (λ k. holds_by (holds (acts network p (s.histories p))) k w) e)
      (ap (λ k. desk_after k p w s.desk) e)
  keeps-by (At b side visit) e = still (λ asks. (let no = sym e ∙ asks in cc)) (ap (λ k. holds_by (holds (acts network p (s.histories p))) k w) e)
      (ap (λ k. desk_after k p w s.desk) e)

  pub keeps-desk : DeskStands network new
  keeps-desk = keeps-by c refl
