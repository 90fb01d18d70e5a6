-- Whatever the order of the events, and whichever of them fail: what went into a buffer in one state that a row can
-- reach, and what went into it in another, is the same as far as both go, where the devices answered the same.
use Rattle.std.proofs.Common.{◌≡◌, inl, inr, ℕ, true, List, [], ◌∷◌, ◌++◌, refl, sym, ◌∙◌, ap, subst}
use Rattle.std.proofs.lemmas.Bool.Decides.{eqb_tells}
use Rattle.solo_base.specs.declared.outcome.Side.{Side}
use Rattle.solo_base.specs.declared.outcome.Side.TheVariants.{Sender, Receiver}
use Rattle.solo_base.specs.Prefixes.{IsPrefixOf}
use Rattle.network_run.specs.Law.{AreEnabled, IsReached, run}
use Rattle.network_law.specs.Acts.{Call, Alone, At, Asks, Gives, Visit, Went, moved, moved_by}
use Rattle.network_law.specs.Network.{Network, State, Event, IsOne, IsEnabled, happens, acts, inside_at}
use Rattle.network_law.specs.Network as law
use Rattle.network_law.specs.Stepping.{Openings, law_of}
use Rattle.network_law.specs.Kept.{IsTold, Stands, passed}
use Rattle.network_law.proofs.Numbers.{set-same, set-other}
use Rattle.network_law.proofs.Seats.{elsewhere-at}
use Rattle.network_law.proofs.Reached.{stands-event, reached-stands, opening-stands}
use Rattle.place_law.specs.Process.{Entry, Does, LacksMemory, Delays, action_of}
use Rattle.row_law.specs.Process.{caused, place, went}
use Rattle.row_law.specs.Row.{Row, network_of, IsRow}
use Rattle.row_law.specs.Determined.{AreComparable, step_if, steps, moves_of, answers_of, answers, AnswerAlike, PassAlike, AreDetermined}
use Rattle.row_law.proofs.Lawful.{lawful}
use Rattle.row_law.proofs.Comparable.{prefix-trans, prefix-itself, parts-comparable}
use Rattle.row_law.proofs.Stepping.{determined, stepped, put-steps, took-steps, moves-append, answers-append}

module _ {Devices Action Reply Parcel : Type 0} (t : Row Devices Action Reply Parcel) (is : IsRow t) (all : AreDetermined t) where
  abbrev net : Network Devices Action (Entry Action Reply) Parcel
  net = network_of t

  abbrev RowState : Type 0
  RowState = State Devices (Entry Action Reply) Parcel

  -- ---- one process, with two histories that took and heard the same
  pub puts-alike : (p : ℕ) → IsOne net p → (h g : List (Entry Action Reply)) → law.Follows net p h → law.Follows net p g
      → ((b : ℕ) → AreComparable (moved b Receiver (acts net p h)) (moved b Receiver (acts net p g)))
      → AreComparable (answers_of (t.process p) (steps t.view (t.process p) h)) (answers_of (t.process p) (steps t.view (t.process p) g))
      → (c : ℕ) → AreComparable (moved c Sender (acts net p h)) (moved c Sender (acts net p g))
  puts-alike p one h g first second took heard c =
      let own = all.processes p one in
      let xs = steps t.view (t.process p) h in
      let ys = steps t.view (t.process p) g in
      let same = determined t.view (t.process p) own xs ys (t.process p).start (stepped t is p one own h first).runs (stepped t is p one own g second).runs
      (λ b. parts-comparable _ _ (moved b Receiver (acts net p h)) (moved b Receiver (acts net p g)) (took-steps t is p one own b h first).1
      (took-steps t is p one own b g second).1 (took b)) heard in
      let mine = put-steps t is p one own c h first in
      let theirs = put-steps t is p one own c g second in
      elim same as (λ _. AreComparable (moved c Sender (acts net p h)) (moved c Sender (acts net p g))) [
        | inl part ↦ inl (
          moves_of t.view (t.process p) c Sender part.0,
          ap (λ l. l ++ moves_of t.view (t.process p) c Sender part.0) (sym mine) ∙ sym (moves-append t.view (t.process p) c Sender xs part.0)
              ∙ ap (moves_of t.view (t.process p) c Sender) part.1 ∙ theirs,
        )
        | inr part ↦ inr (
          moves_of t.view (t.process p) c Sender part.0,
          ap (λ l. l ++ moves_of t.view (t.process p) c Sender part.0) (sym theirs) ∙ sym (moves-append t.view (t.process p) c Sender ys part.0)
              ∙ ap (moves_of t.view (t.process p) c Sender) part.1 ∙ mine,
        )
      ]

  -- ---- what is heard later begins with what was heard
  later-steps : (p : ℕ) (entry : Entry Action Reply) (h : List (Entry Action Reply))
      → IsPrefixOf (answers_of (t.process p) (steps t.view (t.process p) h)) (answers_of (t.process p) (steps t.view (t.process p) (entry ∷ h)))
  later-steps p (Does a r) h = (
    answers_of (t.process p) (step_if (caused t.view (t.process p) (Does a r ∷ h)) ((t.process p).does (place (t.process p) h)) a r),
    sym (answers-append t.view (t.process p) (steps t.view (t.process p) h) (step_if (caused t.view (t.process p) (Does a r ∷ h)) ((t.process p).does (place (t.process p) h)) a r)),
  )
  later-steps p (LacksMemory a r) h = prefix-itself (answers_of (t.process p) (steps t.view (t.process p) h))
  later-steps p (Delays a) h = prefix-itself (answers_of (t.process p) (steps t.view (t.process p) h))

  Heard : RowState → ℕ → List Reply
  Heard s p = answers t s p

  pub later-event : (s : RowState) (event : Event (Entry Action Reply)) (p : ℕ) → IsPrefixOf (answers t s p) (answers t (happens net s event) p)
  later-event s event p =
      elim (eqb_tells p event.process) as (λ _. IsPrefixOf (answers t s p) (answers t (happens net s event) p)) [
        | inl same ↦ subst (λ q. IsPrefixOf (answers t s q) (answers t (happens net s event) q)) (sym same.1)
            (subst (λ h. IsPrefixOf (answers t s event.process) (answers_of (t.process event.process) (steps t.view (t.process event.process) h)))
            (sym (set-same s.histories event.process (event.entry ∷ s.histories event.process))) (later-steps event.process event.entry (s.histories event.process)))
        | inr differ ↦ subst (λ h. IsPrefixOf (answers t s p) (answers_of (t.process p) (steps t.view (t.process p) h)))
            (sym (set-other s.histories event.process (event.entry ∷ s.histories event.process) p differ.1)) (prefix-itself (answers t s p))
      ]

  pub later-run : (openings : Openings Devices (Entry Action Reply)) (s : RowState) (events : List (Event (Entry Action Reply))) (p : ℕ)
      → IsPrefixOf (answers t s p) (answers t (run (law_of net openings) s events) p)
  later-run openings s [] p = prefix-itself (answers t s p)
  later-run openings s (event ∷ events) p =
      prefix-trans (answers t s p) (answers t (happens net s event) p) _ (later-event s event p) (later-run openings (happens net s event) events p)

  -- ---- who doesn't sit at a side moves nothing there
  elsewhere : (b : ℕ) (side : Side) (c : Call) (w : Went Parcel) → ((visit : Visit) → c ≡ At b side visit → ⊥) → moved_by b side c w ≡ []
  elsewhere b side (At d of visit) w not =
      (elsewhere-at b d side of visit w (λ same. not visit (ap (λ d. At d of visit) (sym same.number) ∙ ap (λ of. At b of visit) (sym same.side)))).moved
  elsewhere b side Alone w not = refl
  elsewhere b side Asks w not = refl
  elsewhere b side Gives w not = refl

  pub not-there : (p b : ℕ) (side : Side) (h : List (Entry Action Reply)) → IsOne net p → law.Follows net p h → (t.seat b side ≡ p → ⊥) → moved b side (acts net p h) ≡ []
  not-there p b side [] one follows not = refl
  not-there p b side (entry ∷ h) one follows not =
      let old = not-there p b side h one follows.2 not in
      let now : moved_by b side ((t.process p).calls (action_of entry)) (went t.view entry) ≡ [] =
      elsewhere b side ((t.process p).calls (action_of entry)) (went t.view entry)
      (λ visit e. not ((lawful t is).seated p h b side visit one follows.2 record { action = action_of entry; next = follows.0; call = e })) in
      ap (λ ms. ms ++ moved_by b side ((t.process p).calls (action_of entry)) (went t.view entry)) old ∙ now

  -- ---- two states: what was taken from a buffer is a first part of what was put into it
  pub handed : (start s : RowState) → Stands net start s → ((b : ℕ) → IsTold (s.buffers b)) → (b : ℕ) → IsPrefixOf (passed net s b Receiver) (passed net s b Sender)
  handed start s st told b = (let (inside, e) = told b in (inside, (st.buffers.hand_over b).parcels inside e))

  took-by : (start s : RowState) → Stands net start s → ((b : ℕ) → IsTold (s.buffers b)) → (p : ℕ) → IsOne net p → (b : ℕ)
      → IsPrefixOf (moved b Receiver (acts net p (s.histories p))) (passed net s b Sender)
  took-by start s st told p one b =
      elim (eqb_tells (t.seat b Receiver) p) as (λ _. IsPrefixOf (moved b Receiver (acts net p (s.histories p))) (passed net s b Sender)) [
        | inl same ↦ subst (λ p. IsPrefixOf (moved b Receiver (acts net p (s.histories p))) (passed net s b Sender)) same.1 (handed start s st told b)
        | inr differ ↦ subst (λ ms. IsPrefixOf ms (passed net s b Sender)) (sym (not-there p b Receiver (s.histories p) one (st.follows p) differ.1)) (passed net s b Sender, refl)
      ]

  module _ (other z : RowState) (sz : Stands net other z) (told_z : (b : ℕ) → IsTold (z.buffers b)) where
    -- ---- one event
    module _ (start s : RowState) (event : Event (Entry Action Reply)) (st : Stands net start s) (told : (b : ℕ) → IsTold (start.buffers b)) (enabled : IsEnabled net s event)
        (alike : PassAlike t s z) (heard : AnswerAlike t (happens net s event) z) where
      abbrev after : RowState
      after = happens net s event

      abbrev Alike : ℕ → Type 0
      Alike b = AreComparable (passed net after b Sender) (passed net z b Sender)

      after-stands : Stands net start after
      after-stands = stands-event (lawful t is) start s event st enabled

      after-told : (b : ℕ) → IsTold (after.buffers b)
      after-told b = after-stands.told b (told b)

      -- a buffer into which another puts
      still : (b : ℕ) → (t.seat b Sender ≡ event.process → ⊥) → Alike b
      still b differ =
          subst (λ h. AreComparable (moved b Sender (acts net (t.seat b Sender) h)) (passed net z b Sender))
          (sym (set-other s.histories event.process (event.entry ∷ s.histories event.process) (t.seat b Sender) differ)) (alike b)

      -- what the process of the event took, from wherever
      took : (b : ℕ) → AreComparable (moved b Receiver (acts net event.process (after.histories event.process))) (moved b Receiver (acts net event.process (z.histories event.process)))
      took b =
          elim (eqb_tells (t.seat b Receiver) event.process)
          as (λ _. AreComparable (moved b Receiver (acts net event.process (after.histories event.process))) (moved b Receiver (acts net event.process (z.histories event.process)))) [
            | inl same ↦
                parts-comparable _ _ (passed net after b Sender) (passed net z b Sender) (took-by start after after-stands after-told event.process enabled.one b)
                (took-by other z sz told_z event.process enabled.one b) (still b (λ own. all.apart b (own ∙ sym same.1)))
            | inr differ ↦
                inl (subst (λ ms. IsPrefixOf ms (moved b Receiver (acts net event.process (z.histories event.process))))
                (sym (not-there event.process b Receiver (after.histories event.process) enabled.one (after-stands.follows event.process) differ.1))
                (moved b Receiver (acts net event.process (z.histories event.process)), refl))
          ]

      own : (b : ℕ) → t.seat b Sender ≡ event.process → Alike b
      own b same =
          let puts = puts-alike event.process enabled.one (after.histories event.process) (z.histories event.process) (after-stands.follows event.process)
          (sz.follows event.process) took (heard event.process enabled.one) b in
          subst (λ q. AreComparable (moved b Sender (acts net q (after.histories q))) (moved b Sender (acts net q (z.histories q)))) (sym same) puts

      pub event-alike : PassAlike t after z
      event-alike b = elim (eqb_tells (t.seat b Sender) event.process) as (λ _. Alike b) [ inl same ↦ own b same.1 | inr differ ↦ still b differ.1 ]

    -- ---- every run
    run-alike : (openings : Openings Devices (Entry Action Reply)) (start s : RowState) (events : List (Event (Entry Action Reply))) → AreEnabled (law_of net openings) s events
        → Stands net start s → ((b : ℕ) → IsTold (start.buffers b)) → PassAlike t s z → AnswerAlike t (run (law_of net openings) s events) z
        → PassAlike t (run (law_of net openings) s events) z
    run-alike openings start s [] are st told alike heard = alike
    run-alike openings start s (event ∷ events) are st told alike heard =
        let after = happens net s event in
        let heard_now : AnswerAlike t after z =
        λ p one. parts-comparable _ _ (answers t (run (law_of net openings) after events) p) (answers t z p) (later-run openings after events p) (prefix-itself (answers t z p)) (heard p one) in
        run-alike openings start after events are.1 (stands-event (lawful t is) start s event st are.0) told (event-alike start s event st told are.0 alike heard_now) heard

-- Of two states that a row can reach, from whichever openings that tell what is inside their buffers.
pub pass-alike : {Devices Action Reply Parcel : Type 0} (t : Row Devices Action Reply Parcel) (openings : Openings Devices (Entry Action Reply)) → IsRow t → AreDetermined t
    → (o u : openings.Opening) (s z : State Devices (Entry Action Reply) Parcel)
    → ((b : ℕ) → openings.told o b ≡ true) → ((b : ℕ) → openings.told u b ≡ true)
    → IsReached (law_of (network_of t) openings) ((law_of (network_of t) openings).opened o) s
    → IsReached (law_of (network_of t) openings) ((law_of (network_of t) openings).opened u) z → AnswerAlike t s z → PassAlike t s z
pass-alike t openings is all o u s z told_o told_u reached_s reached_z heard =
    let law = law_of (network_of t) openings in
    let sz = reached-stands (lawful t is) openings u z reached_z in
    let told_z : (b : ℕ) → IsTold (z.buffers b) = λ b. sz.told b (opened-told u told_u b) in
    let first = run-alike t is all (law.opened u) z sz told_z openings (law.opened o) (law.opened o) reached_s.events reached_s.enabled
    (opening-stands (network_of t) (openings.devices o) (openings.sizes o) (openings.told o)) (λ b. opened-told o told_o b) (λ b. inl (passed (network_of t) z b Sender, refl))
    (subst (λ s. AnswerAlike t s z) (sym reached_s.leads) heard) in
    subst (λ s. PassAlike t s z) reached_s.leads first where
      opened-told : (o : openings.Opening) → ((b : ℕ) → openings.told o b ≡ true) → (b : ℕ) → IsTold (((law_of (network_of t) openings).opened o).buffers b)
      opened-told o told b = ([], ap inside_at (told b))
