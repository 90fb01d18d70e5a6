-- A row whose waiting places are ranked is a ranked network, so it is never stuck.
use Rattle.std.proofs.Common.{◌≡◌, ◌⊎◌, inl, inr, ℕ, ◌≤◌, true, List, Option, None, Some, refl, sym, ◌∙◌, ap, subst}
use Rattle.solo_base.specs.declared.outcome.Side.{Side}
use Rattle.solo_base.specs.declared.outcome.Side.TheVariants.{Sender, Receiver}
use Rattle.solo_base.specs.declared.outcome.Outcome.{Outcome}
use Rattle.queue_var.specs.Sides.{other}
use Rattle.network_run.specs.Sound.{IsSoundLaw}
use Rattle.network_law.specs.Acts.{made_stop}
use Rattle.network_law.specs.Network.{Network, IsOne, acts}
use Rattle.network_law.specs.Kept.{IsAmong}
use Rattle.network_law.specs.Stepping.{Openings, law_of}
use Rattle.place_law.specs.Process.{Entry}
use Rattle.place_law.specs.Table.{StopsOwn}
use Rattle.row_law.specs.Process.{place, caused, has_stopped, next_action}
use Rattle.row_law.specs.Row.{Row, network_of, IsRow}
use Rattle.row_law.specs.Ranks.{CallsAt, WaitsFor, IsRanked}
use Rattle.row_law.specs.Waits.{Meets, Ranks}
use Rattle.row_law.proofs.Known.{not-both}
use Rattle.row_law.proofs.Lawful.{lawful}
use Rattle.row_law.proofs.Ended.{of-all, none-ended, ends-rightly, made, is-at}
use Rattle.row_law.proofs.Ranked.{ranked-sound}

other-side : (a b : Side) → (a ≡ b) ⊎ (a ≡ other b)
other-side Sender Sender = inl refl
other-side Receiver Receiver = inl refl
other-side Sender Receiver = inr refl
other-side Receiver Sender = inr refl

module _ {Devices Action Reply Parcel : Type 0} (t : Row Devices Action Reply Parcel) (is : IsRow t) (capacity : ℕ → ℕ) (ranks : Ranks t capacity) where
  abbrev net : Network Devices Action (Entry Action Reply) Parcel
  net = network_of t

  -- the process at the other side
  meets : (p : ℕ) (h : List (Entry Action Reply)) (b : ℕ) (side : Side) → IsOne net p → CallsAt net p h b side → Meets t p b side
  meets p h b side one w = ranks.meets p one (place (t.process p) h) b side (is-at t is p h b side one w).calls

  -- a stop of its buffer is one at its side
  stopped-there : (p : ℕ) (h : List (Entry Action Reply)) (q : ℕ) (g : List (Entry Action Reply)) (b : ℕ) (side : Side) → WaitsFor net capacity p h q g b side
      → has_stopped (t.process q) b g ≡ true → StopsOwn t.seat q (t.process q).calls t.view.stop b → ⊥
  stopped-there p h q g b side for stopped own =
      elim (other-side own.side side) as (λ _. ⊥) [
        | inl here ↦
            (meets p h b side for.one for.calls).apart
            (for.other_seated ∙ sym own.seated ∙ ap (t.seat b) here ∙ for.seated)
        | inr there ↦
            let is_made : made_stop b (other side) (acts net q g) ≡ true =
            subst (λ side. made_stop b side (acts net q g) ≡ true) there (made t is q b g own.side for.other_one for.other_follows own.is stopped) in
            not-both _ is_made for.other_going
      ]

  never-over : (p : ℕ) (h : List (Entry Action Reply)) (q : ℕ) (g : List (Entry Action Reply)) (b : ℕ) (side : Side) → WaitsFor net capacity p h q g b side
      → next_action t.view (t.process q) g ≡ None → ⊥
  never-over p h q g b side for ended =
      let (how, so) = none-ended t q g ended in
      let ends = ends-rightly t is q g how for.other_one for.other_follows so in
      let listed = subst (λ q. IsAmong (t.process q).buffers b) for.other_seated (meets p h b side for.one for.calls).listed in
      let placed = is.placed q for.other_one in
      let P : Option Outcome → Type 0 = λ cause. caused t.view (t.process q) g ≡ cause → ⊥ in
      elim (caused t.view (t.process q) g) as P [
        | Some why ↦ (λ e. stopped-there p h q g b side for
            (of-all (λ b. has_stopped (t.process q) b g ≡ true) (t.process q).buffers b (ends.closed why e) listed)
            (of-all (StopsOwn t.seat q (t.process q).calls t.view.stop) (t.process q).buffers b placed.stops listed))
        | None ↦ (λ free.
            ranks.never_over p h q g b side for (is-at t is p h b side for.one for.calls) record { free = free; over = (ends.done free).0 }
            (λ spool. stopped-there p h q g b side for
            (of-all (λ b. has_stopped (t.process q) b g ≡ true) (t.process q).spools b (ends.done free).1 spool)
            (of-all (StopsOwn t.seat q (t.process q).calls t.view.stop) (t.process q).spools b placed.stops_done spool)))
      ] refl

  pub is-ranked : IsRanked (network_of t) capacity
  is-ranked = record {
    layer = ranks.layer;
    rank = ranks.rank;
    partner = λ p h b side one follows w. (meets p h b side one w).partner;
    never_over = λ p h q g b side for ended. never-over p h q g b side for ended;
    falls = λ p h q g b side c of for w lacks apart.
        ranks.falls p h q g b side c of for (is-at t is p h b side for.one for.calls) (is-at t is q g c of for.other_one w) lacks apart;
  }

-- So its law is sound, for who steps it.
pub row-sound : {Devices Action Reply Parcel : Type 0} (t : Row Devices Action Reply Parcel) (openings : Openings Devices (Entry Action Reply)) → IsRow t → t.size ≤ 16
    → ((o : openings.Opening) (b : ℕ) → 1 ≤ openings.sizes o b) → ((o : openings.Opening) → Ranks t (openings.sizes o)) → IsSoundLaw (law_of (network_of t) openings)
row-sound t openings is few some ranks = ranked-sound (network_of t) openings (lawful t is) few some (λ o. is-ranked t is (openings.sizes o) (ranks o))
