-- No reached state of the twin network is stuck. Who has ended has stopped its spools, so who waits at a spool has a neighbour that
-- waits. The one circle that is left, from the output process round to the input process, is against the counts of whole streams.
use Rattle.std.proofs.Common.{◌≡◌, ◌⊎◌, inl, inr, ℕ, ◌+◌, ◌≤◌, Bool, true, List, [], ◌++◌, length, map, None, refl, sym, ◌∙◌, ap, subst, arith}
use Rattle.queue_var.specs.declared.stops.Stops.{Stops as Marks}
use Rattle.queue_var.specs.declared.stops.Stops.TheVariants as marks
use Rattle.queue_var.specs.HandsOver.{Lacks}
use Rattle.queue_var.specs.Sides.{stopped_by, is_among, first_of}
use Rattle.network_law.specs.Acts.{Call, made_stop}
use Rattle.network_law.specs.Network.{IsEnabled, IsOne, MayCall, acts}
use Rattle.network_law.specs.Processes.{CallsNext}
use Rattle.network_law.specs.Kept.{Stands, passed}
use Rattle.network_law.proofs.Rests.{IsBlocked, rests}
use Rattle.solo_base.specs.declared.outcome.Side.{Side}
use Rattle.solo_base.specs.declared.outcome.Side.TheVariants.{Sender, Receiver}
use Rattle.batch_procs.specs.Jobs.{Jobs, AreJobs}
use Rattle.batch_procs.specs.Parcels.{is_last}
use Rattle.twin_law.specs.Process.{Finishes, place, aim, caused, has_stopped, next_action}
use Rattle.twin_law.specs.Sides.{Twin, A, B, other, to_job, from_job}
use Rattle.twin_law.specs.Ends.{CardPlace, ReadsCard, PutsCard, PutsEnd, HasPut, card_aims, card, PrinterPlace, TakesLine, PrintsLine, HasPrinted, printer_aims, printer}
use Rattle.twin_law.specs.Input.{InputPlace, Takes, PutsFull, PutsLast, PutsEmptyA, PutsEmptyB, HasDealt, input_aims, input}
use Rattle.twin_law.specs.Job.{JobPlace, TakesItems, LoadsFile, Toils, PutsLines, PutsLastLines, HasWorked, job_aims, job}
use Rattle.twin_law.specs.Output.{OutputPlace, TakesLines, PutsLine, PutsOver, HasGathered, output_aims, output}
use Rattle.twin_law.specs.Table.{process}
use Rattle.twin_law.specs.Twin.{seat, side_at, twin, TwinState, TwinEvent}
use Rattle.twin_law.specs.Opening.{AreGoodFiles, AreCards, IsSmooth}
use Rattle.twin_law.specs.Alone.{takes, puts}
use Rattle.twin_law.proofs.Lawful.{lawful, each-process}
use Rattle.twin_law.proofs.Answers.{smooth-event}
use Rattle.twin_law.proofs.Marks.{trues, trues-append, whole, whole-none, whole-behind}
use Rattle.twin_law.proofs.EndCounts.{card_ends, input_ends, output_ends, printer_ends, card-stands, printer-stands, input-ended, output-ended}
use Rattle.twin_law.proofs.DealCounts.{InTurn, InputIs, input-stands}
use Rattle.twin_law.proofs.JobCounts.{JobIs, owed, job-a-stands, job-b-stands}
use Rattle.twin_law.proofs.GatherCounts.{OutputIs, output-stands}
use Rattle.twin_law.proofs.Ended.{EndedAs, Finished, Closed, AimsAt, ended-as, none-ended, made, waits-by}

-- a side that stopped is told
marked-told : (stops : Marks) (side : Side) → is_among side stops ≡ true → first_of stops ≡ None → ⊥
marked-told marks.Neither side is none = cc
marked-told (marks.One by) side is none = cc
marked-told (marks.Both by) side is none = cc

-- ---- what the streams that were put say of the side in turn at the input process
abbrev OutOfTurn : Twin → List Bool → List Bool → Type 0
OutOfTurn A xs ys = (trues xs ≡ trues ys + 1) × (whole xs ≡ true)
OutOfTurn B xs ys = trues xs ≡ trues ys + 2

abbrev Deals : Twin → List Bool → List Bool → Type 0
Deals x xs ys = InTurn x (trues xs) (trues ys) ⊎ OutOfTurn x xs ys

-- a process that has finished is at its last place
card-done : (x : CardPlace) → card_aims x ≡ Finishes → card_ends x ≡ 1
card-done HasPut e = refl
card-done ReadsCard e = absurd cc
card-done (PutsCard item) e = absurd cc
card-done PutsEnd e = absurd cc

input-done : (x : InputPlace) → input_aims x ≡ Finishes → input_ends x ≡ 1
input-done HasDealt e = refl
input-done (Takes side inside hand) e = absurd cc
input-done (PutsFull side inside full hand) e = absurd cc
input-done (PutsLast side last opener) e = absurd cc
input-done (PutsEmptyA side) e = absurd cc
input-done (PutsEmptyB side) e = absurd cc

output-done : (x : OutputPlace) → output_aims x ≡ Finishes → output_ends x ≡ 1
output-done HasGathered e = refl
output-done (TakesLines t) e = absurd cc
output-done (PutsLine line later t over) e = absurd cc
output-done PutsOver e = absurd cc

printer-done : (x : PrinterPlace) → printer_aims x ≡ Finishes → printer_ends x ≡ 1
printer-done HasPrinted e = refl
printer-done TakesLine e = absurd cc
printer-done (PrintsLine line) e = absurd cc

-- the circle: what was put, taken and left of whole streams at the four spools
circle-a : (g2 i2 s2 g3 i3 s3 g4 i4 s4 g5 i5 s5 o : ℕ) → g2 + i2 ≡ s2 → g3 + i3 ≡ s3 → g4 + i4 ≡ s4 → g5 + i5 ≡ s5 → i4 ≡ 0 → i2 ≡ 0 → g2 ≡ s4 → g3 ≡ s5 + o → g4 ≡ g5
    → s3 + 1 ≤ s2 → ⊥
circle-a g2 i2 s2 g3 i3 s3 g4 i4 s4 g5 i5 s5 o e2 e3 e4 e5 n4 n2 ja jb out more = omega (arith, e2, e3, e4, e5, n4, n2, ja, jb, out, more)

circle-b : (g2 i2 s2 g3 i3 s3 g4 i4 s4 g5 i5 s5 o : ℕ) → g2 + i2 ≡ s2 → g3 + i3 ≡ s3 → g4 + i4 ≡ s4 → g5 + i5 ≡ s5 → i5 ≡ 0 → i3 ≡ 0 → g3 ≡ s5 → g2 ≡ s4 + o → g4 ≡ g5 + 1
    → s2 ≡ s3 → ⊥
circle-b g2 i2 s2 g3 i3 s3 g4 i4 s4 g5 i5 s5 o e2 e3 e4 e5 n5 n3 jb ja out same = omega (arith, e2, e3, e4, e5, n5, n3, jb, ja, out, same)

none-left : (g2 i2 s2 g3 i3 s3 g4 i4 s4 g5 i5 s5 o : ℕ) → g2 + i2 ≡ s2 → g3 + i3 ≡ s3 → g4 + i4 ≡ s4 → g5 + i5 ≡ s5 → i5 ≡ 0 → i3 ≡ 0 → g3 ≡ s5 → g2 ≡ s4 + o → g4 ≡ g5 + 1
    → s2 ≡ s3 + 1 → i2 ≡ 0
none-left g2 i2 s2 g3 i3 s3 g4 i4 s4 g5 i5 s5 o e2 e3 e4 e5 n5 n3 jb ja out same = omega (arith, e2, e3, e4, e5, n5, n3, jb, ja, out, same)

module _ {L : Type 0} {J : Jobs L} (jobs : AreJobs J) (opening s : TwinState L) (st : Stands (twin J) opening s) (some : (b : ℕ) → 1 ≤ (opening.buffers b).capacity)
    (cards : AreCards s.devices.deck) (good : AreGoodFiles J s.devices.files) (none : (event : TwinEvent L) → IsEnabled (twin J) s event → IsSmooth event.entry → ⊥) where
  abbrev inside : ℕ → List Bool
  inside b = (s.buffers b).marks

  abbrev sent : ℕ → List Bool
  sent b = map is_last (passed (twin J) s b Sender)

  abbrev got : ℕ → List Bool
  got b = map is_last (passed (twin J) s b Receiver)

  abbrev Open : ℕ → Type 0
  Open b = stopped_by (s.buffers b).sides ≡ None

  abbrev Full : ℕ → Type 0
  Full b = length (inside b) ≡ (s.buffers b).capacity

  may-not : (p : ℕ) (c : Call) → IsOne (twin J) p → CallsNext (twin J) p (s.histories p) c → MayCall s p c → ⊥
  may-not p c one calls may =
      let is = smooth-event jobs opening s st cards good p calls.action one calls.next (subst (MayCall s p) (sym calls.call) may) in
      none is.event is.enabled is.smooth

  rests-now : (p : ℕ) → IsOne (twin J) p → (next_action (process J p) (s.histories p) ≡ None) ⊎ IsBlocked (twin J) s p
  rests-now p one = rests (lawful J) opening s st may-not p one

  -- ---- buffers
  order : (b : ℕ) → got b ++ inside b ≡ sent b
  order b = (st.buffers.hand_over b).marks.in_order

  count : (b : ℕ) → trues (got b) + trues (inside b) ≡ trues (sent b)
  count b = sym (trues-append (got b) (inside b)) ∙ ap trues (order b)

  not-full : (b : ℕ) → inside b ≡ [] → Full b → ⊥
  not-full b empty full =
      let n : length (inside b) ≡ 0 = ap length empty in let c = st.capacity b in let room = some b in omega (arith, n, full, c, room)

  not-stopped : (p b : ℕ) → seat b (side_at p b) ≡ p → has_stopped b (s.histories p) ≡ true → Open b → ⊥
  not-stopped p b seated stopped free =
      let side = side_at p b in
      let q = seat b side in
      let is : made_stop b side (acts (twin J) q (s.histories q)) ≡ true =
      subst (λ q. made_stop b side (acts (twin J) q (s.histories q)) ≡ true) (sym seated) (made J p b (s.histories p) stopped) in
      marked-told (s.buffers b).sides.stops side ((st.buffers.hand_over b).stopped_first.each side ∙ st.buffers.stops b side ∙ is) free

  -- ---- who waits, and where
  record At-buffer (b : ℕ) (side : Side) : Type 0 where
    lacks : Lacks (s.buffers b).capacity (inside b) side
    going : Open b

  record Waiting (p : ℕ) (w : IsBlocked (twin J) s p) : Type 0 where
    free : caused (process J p) (s.histories p) ≡ None
    aims : AimsAt (aim (process J p) (s.histories p)) w.buffer w.side
    here : At-buffer w.buffer w.side

  waiting : (p : ℕ) (w : IsBlocked (twin J) s p) → IsOne (twin J) p → Waiting p w
  waiting p w one =
      let is = waits-by J p (s.histories p) w.calls.action w.buffer w.side w.visit one w.can_wait w.calls.next w.calls.call in
      record { free = is.free; aims = is.aims; here = record { lacks = w.lacks; going = w.not_stopped } }

  there : (b c : ℕ) (side of : Side) → (c ≡ b) × (of ≡ side) → At-buffer b side → At-buffer c of
  there b c side of e is = subst (λ b. At-buffer b of) (sym e.0) (subst (λ side. At-buffer b side) (sym e.1) is)

  has-ended : (p : ℕ) → next_action (process J p) (s.histories p) ≡ None → EndedAs (process J p) (s.histories p)
  has-ended p e = ended-as J p (s.histories p) (st.follows p) (none-ended (process J p) (s.histories p) e)

  is-1 : IsOne (twin J) 1
  is-1 = (omega arith, omega arith)

  is-2 : IsOne (twin J) 2
  is-2 = (omega arith, omega arith)

  is-3 : IsOne (twin J) 3
  is-3 = (omega arith, omega arith)

  is-4 : IsOne (twin J) 4
  is-4 = (omega arith, omega arith)

  is-5 : IsOne (twin J) 5
  is-5 = (omega arith, omega arith)

  is-6 : IsOne (twin J) 6
  is-6 = (omega arith, omega arith)

  -- ---- 1 card
  record CardWaits : Type 0 where
    full : Full 1
    going : Open 1
    none_put : trues (sent 1) ≡ 0

  card-at : (x : CardPlace) (b : ℕ) (side : Side) → AimsAt (card_aims x) b side → At-buffer b side → trues (sent 1) ≡ card_ends x → CardWaits
  card-at (PutsCard item) b side is here e = (let w = there b 1 side Sender is here in record { full = w.lacks; going = w.going; none_put = e })
  card-at PutsEnd b side is here e = (let w = there b 1 side Sender is here in record { full = w.lacks; going = w.going; none_put = e })
  card-at ReadsCard b side is here e = absurd is
  card-at HasPut b side is here e = absurd is

  card-waits : IsBlocked (twin J) s 1 → CardWaits
  card-waits w = (let is = waiting 1 w is-1 in
      card-at (place card (s.histories 1)) w.buffer w.side is.aims is.here (card-stands J (s.histories 1) (st.follows 1) is.free))

  abbrev CardGone : Type 0
  CardGone = Open 1 → trues (sent 1) ≡ 1

  card-gone : next_action card (s.histories 1) ≡ None → CardGone
  card-gone e = elim (has-ended 1 e) as (λ _. CardGone) [
    | Finished free last stops ↦ (λ going. card-stands J (s.histories 1) (st.follows 1) free ∙ card-done (place card (s.histories 1)) last)
    | Closed all ↦ (λ going. absurd (not-stopped 1 1 refl all.0 going))
  ]

  -- ---- 2 input
  record InputReads : Type 0 where
    empty : inside 1 ≡ []
    going : Open 1
    none_got : trues (got 1) ≡ 0

  record InputDeals (x : Twin) : Type 0 where
    full : Full (to_job x)
    going : Open (to_job x)
    deals : Deals x (sent 2) (sent 3)

  data InputWaits : Type 0 where
    Reads : InputReads → InputWaits
    DealsTo : (x : Twin) → InputDeals x → InputWaits

  input-at : (x : InputPlace) (b : ℕ) (side : Side) → AimsAt (input_aims x) b side → At-buffer b side → trues (got 1) ≡ input_ends x → InputIs x (sent 2) (sent 3) → InputWaits
  input-at (Takes to within hand) b side is here e f = (let w = there b 1 side Receiver is here in Reads record { empty = w.lacks; going = w.going; none_got = e })
  input-at (PutsFull to within full hand) b side is here e f =
      (let w = there b (to_job to) side Sender is here in DealsTo to record { full = w.lacks; going = w.going; deals = inl f.0 })
  input-at (PutsLast to last opener) b side is here e f =
      (let w = there b (to_job to) side Sender is here in DealsTo to record { full = w.lacks; going = w.going; deals = inl f.0 })
  input-at (PutsEmptyA A) b side is here e f = (let w = there b 2 side Sender is here in DealsTo A record { full = w.lacks; going = w.going; deals = inl f.0 })
  input-at (PutsEmptyA B) b side is here e f = (let w = there b 2 side Sender is here in DealsTo A record { full = w.lacks; going = w.going; deals = inr f })
  input-at (PutsEmptyB A) b side is here e f = (let w = there b 3 side Sender is here in DealsTo B record { full = w.lacks; going = w.going; deals = inl f })
  input-at (PutsEmptyB B) b side is here e f = (let w = there b 3 side Sender is here in DealsTo B record { full = w.lacks; going = w.going; deals = inr f })
  input-at HasDealt b side is here e f = absurd is

  input-waits : IsBlocked (twin J) s 2 → InputWaits
  input-waits w = (let is = waiting 2 w is-2 in
      input-at (place input (s.histories 2)) w.buffer w.side is.aims is.here (input-ended J (s.histories 2) (st.follows 2) is.free)
      (input-stands J (s.histories 2) (st.follows 2) is.free))

  record InputGone : Type 0 where
    line : Open 1 → trues (got 1) ≡ 1
    spools : (x : Twin) → Open (to_job x) → ⊥

  both : (P : Twin → Type 0) → P A → P B → (x : Twin) → P x
  both P a b A = a
  both P a b B = b

  input-gone : next_action input (s.histories 2) ≡ None → InputGone
  input-gone e = elim (has-ended 2 e) as (λ _. InputGone) [
    | Finished free last stops ↦ record {
      line = λ going. input-ended J (s.histories 2) (st.follows 2) free ∙ input-done (place input (s.histories 2)) last;
      spools = both (λ x. Open (to_job x) → ⊥) (not-stopped 2 2 refl stops.0) (not-stopped 2 3 refl stops.1.0);
    }
    | Closed all ↦ record {
      line = λ going. absurd (not-stopped 2 1 refl all.0 going);
      spools = both (λ x. Open (to_job x) → ⊥) (not-stopped 2 2 refl all.1.0) (not-stopped 2 3 refl all.1.1.0);
    }
  ]

  -- ---- 3 and 4 job
  record JobTakes (x : Twin) : Type 0 where
    empty : inside (to_job x) ≡ []
    going : Open (to_job x)
    owes : trues (got (to_job x)) ≡ trues (sent (from_job x)) + 0

  record JobPuts (x : Twin) : Type 0 where
    full : Full (from_job x)
    going : Open (from_job x)
    more : ℕ
    owes : trues (got (to_job x)) ≡ trues (sent (from_job x)) + more

  abbrev JobWaits : Twin → Type 0
  JobWaits x = JobTakes x ⊎ JobPuts x

  job-at : (x : Twin) (y : JobPlace L) (b : ℕ) (side : Side) → AimsAt (job_aims x y) b side → At-buffer b side → JobIs y (got (to_job x)) (sent (from_job x)) → JobWaits x
  job-at x (TakesItems stream) b side is here f = (let w = there b (to_job x) side Receiver is here in inl record { empty = w.lacks; going = w.going; owes = f.0 })
  job-at x (PutsLines page stream last) b side is here f =
      (let w = there b (from_job x) side Sender is here in inr record { full = w.lacks; going = w.going; more = owed (PutsLines page stream last); owes = f.0 })
  job-at x (PutsLastLines page some) b side is here f =
      (let w = there b (from_job x) side Sender is here in inr record { full = w.lacks; going = w.going; more = 1; owes = f.0 })
  job-at x (LoadsFile file stream last) b side is here f = absurd is
  job-at x (Toils stream last) b side is here f = absurd is
  job-at x HasWorked b side is here f = absurd is

  job-a-waits : IsBlocked (twin J) s 3 → JobWaits A
  job-a-waits w = (let is = waiting 3 w is-3 in
      job-at A (place (job J A) (s.histories 3)) w.buffer w.side is.aims is.here (job-a-stands J (s.histories 3) (st.follows 3) is.free))

  job-b-waits : IsBlocked (twin J) s 4 → JobWaits B
  job-b-waits w = (let is = waiting 4 w is-4 in
      job-at B (place (job J B) (s.histories 4)) w.buffer w.side is.aims is.here (job-b-stands J (s.histories 4) (st.follows 4) is.free))

  record JobGone (x : Twin) : Type 0 where
    taking : Open (to_job x) → ⊥
    putting : Open (from_job x) → ⊥

  job-a-gone : next_action (job J A) (s.histories 3) ≡ None → JobGone A
  job-a-gone e = elim (has-ended 3 e) as (λ _. JobGone A) [
    | Finished free last stops ↦ record { taking = not-stopped 3 2 refl stops.0; putting = not-stopped 3 4 refl stops.1.0 }
    | Closed all ↦ record { taking = not-stopped 3 2 refl all.0; putting = not-stopped 3 4 refl all.1.0 }
  ]

  job-b-gone : next_action (job J B) (s.histories 4) ≡ None → JobGone B
  job-b-gone e = elim (has-ended 4 e) as (λ _. JobGone B) [
    | Finished free last stops ↦ record { taking = not-stopped 4 3 refl stops.0; putting = not-stopped 4 5 refl stops.1.0 }
    | Closed all ↦ record { taking = not-stopped 4 3 refl all.0; putting = not-stopped 4 5 refl all.1.0 }
  ]

  job-rest : (x : Twin) → JobGone x ⊎ JobWaits x
  job-rest A = elim (rests-now 3 is-3) as (λ _. JobGone A ⊎ JobWaits A) [ inl e ↦ inl (job-a-gone e) | inr w ↦ inr (job-a-waits w) ]
  job-rest B = elim (rests-now 4 is-4) as (λ _. JobGone B ⊎ JobWaits B) [ inl e ↦ inl (job-b-gone e) | inr w ↦ inr (job-b-waits w) ]

  -- ---- 5 output
  record OutputTakes (x : Twin) : Type 0 where
    empty : inside (from_job x) ≡ []
    going : Open (from_job x)
    turn : InTurn x (trues (got 4)) (trues (got 5))

  record OutputPuts : Type 0 where
    full : Full 6
    going : Open 6
    none_put : trues (sent 6) ≡ 0

  data OutputWaits : Type 0 where
    TakesFrom : (x : Twin) → OutputTakes x → OutputWaits
    Puts : OutputPuts → OutputWaits

  output-at : (x : OutputPlace) (b : ℕ) (side : Side) → AimsAt (output_aims x) b side → At-buffer b side → trues (sent 6) ≡ output_ends x → OutputIs x (got 4) (got 5) → OutputWaits
  output-at (TakesLines t) b side is here e f =
      (let w = there b (from_job t.side) side Receiver is here in TakesFrom t.side record { empty = w.lacks; going = w.going; turn = f })
  output-at (PutsLine line later t over) b side is here e f = (let w = there b 6 side Sender is here in Puts record { full = w.lacks; going = w.going; none_put = e })
  output-at PutsOver b side is here e f = (let w = there b 6 side Sender is here in Puts record { full = w.lacks; going = w.going; none_put = e })
  output-at HasGathered b side is here e f = absurd is

  output-waits : IsBlocked (twin J) s 5 → OutputWaits
  output-waits w = (let is = waiting 5 w is-5 in
      output-at (place output (s.histories 5)) w.buffer w.side is.aims is.here (output-ended J (s.histories 5) (st.follows 5) is.free)
      (output-stands J (s.histories 5) (st.follows 5) is.free))

  record OutputGone : Type 0 where
    line : Open 6 → trues (sent 6) ≡ 1
    spools : (x : Twin) → Open (from_job x) → ⊥

  output-gone : next_action output (s.histories 5) ≡ None → OutputGone
  output-gone e = elim (has-ended 5 e) as (λ _. OutputGone) [
    | Finished free last stops ↦ record {
      line = λ going. output-ended J (s.histories 5) (st.follows 5) free ∙ output-done (place output (s.histories 5)) last;
      spools = both (λ x. Open (from_job x) → ⊥) (not-stopped 5 4 refl stops.0) (not-stopped 5 5 refl stops.1.0);
    }
    | Closed all ↦ record {
      line = λ going. absurd (not-stopped 5 6 refl all.1.1.0 going);
      spools = both (λ x. Open (from_job x) → ⊥) (not-stopped 5 4 refl all.0) (not-stopped 5 5 refl all.1.0);
    }
  ]

  -- ---- 6 printer
  record PrinterWaits : Type 0 where
    empty : inside 6 ≡ []
    going : Open 6
    none_got : trues (got 6) ≡ 0

  printer-at : (x : PrinterPlace) (b : ℕ) (side : Side) → AimsAt (printer_aims x) b side → At-buffer b side → trues (got 6) ≡ printer_ends x → PrinterWaits
  printer-at TakesLine b side is here e = (let w = there b 6 side Receiver is here in record { empty = w.lacks; going = w.going; none_got = e })
  printer-at (PrintsLine line) b side is here e = absurd is
  printer-at HasPrinted b side is here e = absurd is

  printer-waits : IsBlocked (twin J) s 6 → PrinterWaits
  printer-waits w = (let is = waiting 6 w is-6 in
      printer-at (place printer (s.histories 6)) w.buffer w.side is.aims is.here (printer-stands J (s.histories 6) (st.follows 6) is.free))

  printer-gone : next_action printer (s.histories 6) ≡ None → Open 6 → trues (got 6) ≡ 1
  printer-gone e = elim (has-ended 6 e) as (λ _. Open 6 → trues (got 6) ≡ 1) [
    | Finished free last stops ↦ (λ going. printer-stands J (s.histories 6) (st.follows 6) free ∙ printer-done (place printer (s.histories 6)) last)
    | Closed all ↦ (λ going. absurd (not-stopped 6 6 refl all.0 going))
  ]

  -- ---- the output process doesn't wait for the printer, nor the input process for the card process
  output-puts-not : OutputPuts → ⊥
  output-puts-not w = elim (rests-now 6 is-6) as (λ _. ⊥) [
    | inl e ↦ (let a = printer-gone e w.going in let b = w.none_put in let c = count 6 in omega (arith, a, b, c))
    | inr blocked ↦ not-full 6 (printer-waits blocked).empty w.full
  ]

  input-reads-not : InputReads → ⊥
  input-reads-not w = elim (rests-now 1 is-1) as (λ _. ⊥) [
    | inl e ↦ (let a = card-gone e w.going in let b = w.none_got in let c = count 1 in let d : trues (inside 1) ≡ 0 = ap trues w.empty in omega (arith, a, b, c, d))
    | inr blocked ↦ not-full 1 w.empty (card-waits blocked).full
  ]

  -- ---- the circle: output waits for one job process, that for the input process, that for the other job process, and that for output
  empty-trues : (b : ℕ) → inside b ≡ [] → trues (inside b) ≡ 0
  empty-trues b e = ap trues e

  circle : (x : Twin) → OutputTakes x → JobTakes x → InputDeals (other x) → JobPuts (other x) → ⊥
  circle A out takes deals puts =
      elim deals.deals as (λ _. ⊥) [
        | inl turn ↦ round (omega (arith, turn))
        | inr more ↦ round (omega (arith, more))
      ] where
        round : trues (sent 3) + 1 ≤ trues (sent 2) → ⊥
        round more =
            circle-a (trues (got 2)) (trues (inside 2)) (trues (sent 2)) (trues (got 3)) (trues (inside 3)) (trues (sent 3)) (trues (got 4)) (trues (inside 4)) (trues (sent 4))
            (trues (got 5)) (trues (inside 5)) (trues (sent 5)) puts.more (count 2) (count 3) (count 4) (count 5) (empty-trues 4 out.empty) (empty-trues 2 takes.empty)
            (let a = takes.owes in omega (arith, a)) puts.owes out.turn more
  circle B out takes deals puts =
      elim deals.deals as (λ _. ⊥) [
        | inl turn ↦ circle-b (trues (got 2)) (trues (inside 2)) (trues (sent 2)) (trues (got 3)) (trues (inside 3)) (trues (sent 3)) (trues (got 4)) (trues (inside 4)) (trues (sent 4))
            (trues (got 5)) (trues (inside 5)) (trues (sent 5)) puts.more (count 2) (count 3) (count 4) (count 5) (empty-trues 5 out.empty) (empty-trues 3 takes.empty)
            (let a = takes.owes in omega (arith, a)) puts.owes out.turn turn
        | inr more ↦
            (let left = none-left (trues (got 2)) (trues (inside 2)) (trues (sent 2)) (trues (got 3)) (trues (inside 3)) (trues (sent 3)) (trues (got 4)) (trues (inside 4)) (trues (sent 4))
            (trues (got 5)) (trues (inside 5)) (trues (sent 5)) puts.more (count 2) (count 3) (count 4) (count 5) (empty-trues 5 out.empty) (empty-trues 3 takes.empty)
            (let a = takes.owes in omega (arith, a)) puts.owes out.turn more.0 in
            not-full 2 (nothing-left left more.1) deals.full)
      ] where
        nothing-left : trues (inside 2) ≡ 0 → whole (sent 2) ≡ true → inside 2 ≡ []
        nothing-left left w =
            elim (whole-behind (got 2) (inside 2) (ap whole (order 2) ∙ w)) as (λ _. inside 2 ≡ []) [
              | inl empty ↦ empty
              | inr is ↦ whole-none (inside 2) is left
            ]

  -- the input process that waits at the other side
  deals-apart : (x y : Twin) → OutputTakes x → JobTakes x → InputDeals y → JobGone y ⊎ JobWaits y → ⊥
  deals-apart x y out takes deals rest = by-side x y out takes deals rest where
    at-other : (x : Twin) → OutputTakes x → JobTakes x → InputDeals (other x) → JobGone (other x) ⊎ JobWaits (other x) → ⊥
    at-other x out takes deals rest =
        elim rest as (λ _. ⊥) [
          | inl gone ↦ gone.taking deals.going
          | inr waits ↦ elim waits as (λ _. ⊥) [
            | inl w ↦ not-full (to_job (other x)) w.empty deals.full
            | inr w ↦ circle x out takes deals w
          ]
        ]

    by-side : (x y : Twin) → OutputTakes x → JobTakes x → InputDeals y → JobGone y ⊎ JobWaits y → ⊥
    by-side A A out takes deals rest = not-full 2 takes.empty deals.full
    by-side B B out takes deals rest = not-full 3 takes.empty deals.full
    by-side A B out takes deals rest = at-other A out takes deals rest
    by-side B A out takes deals rest = at-other B out takes deals rest

  job-takes-then : (x : Twin) → OutputTakes x → JobTakes x → InputWaits → ⊥
  job-takes-then x out takes (Reads w) = input-reads-not w
  job-takes-then x out takes (DealsTo y w) = deals-apart x y out takes w (job-rest y)

  output-takes-not : (x : Twin) → OutputTakes x → ⊥
  output-takes-not x out =
      elim (job-rest x) as (λ _. ⊥) [
        | inl gone ↦ gone.putting out.going
        | inr waits ↦ elim waits as (λ _. ⊥) [
          | inl takes ↦ elim (rests-now 2 is-2) as (λ _. ⊥) [
            | inl e ↦ (input-gone e).spools x takes.going
            | inr blocked ↦ job-takes-then x out takes (input-waits blocked)
          ]
          | inr puts ↦ not-full (from_job x) out.empty puts.full
        ]
      ]

  output-not : OutputWaits → ⊥
  output-not (TakesFrom x w) = output-takes-not x w
  output-not (Puts w) = output-puts-not w

  -- ---- so the output process has ended, and then the job processes don't wait for it, nor the input process for them
  output-over : OutputGone
  output-over = elim (rests-now 5 is-5) as (λ _. OutputGone) [ inl e ↦ output-gone e | inr w ↦ absurd (output-not (output-waits w)) ]

  job-puts-not : (x : Twin) → JobPuts x → ⊥
  job-puts-not x w = output-over.spools x w.going

  input-deals-not : (x : Twin) → InputDeals x → ⊥
  input-deals-not x deals =
      elim (job-rest x) as (λ _. ⊥) [
        | inl gone ↦ gone.taking deals.going
        | inr waits ↦ elim waits as (λ _. ⊥) [
          | inl w ↦ not-full (to_job x) w.empty deals.full
          | inr w ↦ job-puts-not x w
        ]
      ]

  input-not : InputWaits → ⊥
  input-not (Reads w) = input-reads-not w
  input-not (DealsTo x w) = input-deals-not x w

  input-over : InputGone
  input-over = elim (rests-now 2 is-2) as (λ _. InputGone) [ inl e ↦ input-gone e | inr w ↦ absurd (input-not (input-waits w)) ]

  job-not : (x : Twin) → JobWaits x → ⊥
  job-not x waits = elim waits as (λ _. ⊥) [ inl w ↦ input-over.spools x w.going | inr w ↦ job-puts-not x w ]

  card-not : CardWaits → ⊥
  card-not w = (let a = input-over.line w.going in let b = w.none_put in let c = count 1 in omega (arith, a, b, c))

  printer-not : PrinterWaits → ⊥
  printer-not w =
      (let a = output-over.line w.going in let b = w.none_got in let c = count 6 in let d : trues (inside 6) ≡ 0 = ap trues w.empty in omega (arith, a, b, c, d))

  abbrev HasNone : ℕ → Type 0
  HasNone p = next_action (process J p) (s.histories p) ≡ None

  ended-by : (p : ℕ) → IsOne (twin J) p → (IsBlocked (twin J) s p → ⊥) → HasNone p
  ended-by p one not = elim (rests-now p one) as (λ _. HasNone p) [ inl e ↦ e | inr w ↦ absurd (not w) ]

  pub ended-all : (p : ℕ) → IsOne (twin J) p → HasNone p
  ended-all p one =
      each-process J HasNone p one (ended-by 1 is-1 (λ w. card-not (card-waits w))) (ended-by 2 is-2 (λ w. input-not (input-waits w)))
      (ended-by 3 is-3 (λ w. job-not A (job-a-waits w))) (ended-by 4 is-4 (λ w. job-not B (job-b-waits w)))
      (ended-by 5 is-5 (λ w. output-not (output-waits w))) (ended-by 6 is-6 (λ w. printer-not (printer-waits w)))
