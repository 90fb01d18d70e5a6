-- Over told devices nobody is told of a stop as long as none of the six has a fault: who stopped did all its work, and then
-- nobody calls it any more. So where none has a fault all six are done.
use Rattle.std.proofs.Common.{◌≡◌, inl, inr, ℕ, true, List, [], ◌∷◌, ◌++◌, length, map, None, Some, refl, sym, ◌∙◌, ap, subst, arith}
use Rattle.std.proofs.lemmas.List.{append-nil, length-map}
use Rattle.network_law.specs.Acts.{At, Visit, made_stop, moved}
use Rattle.network_law.specs.Buffer.{Closed as IsClosed, found}
use Rattle.network_law.specs.Network.{IsOne, acts}
use Rattle.network_law.specs.Kept.{Stands, IsTold, passed, CanWait}
use Rattle.queue_var.specs.Sides.{other}
use Rattle.solo_base.specs.Prefixes.{IsPrefixOf}
use Rattle.solo_base.specs.declared.item.Item.{Item}
use Rattle.solo_base.specs.declared.outcome.Side.{Side}
use Rattle.solo_base.specs.declared.outcome.Side.TheVariants.{Sender, Receiver}
use Rattle.page_codec.specs.Items.{AreItems}
use Rattle.batch_procs.specs.Jobs.{Jobs, AreJobs, FilesAs}
use Rattle.batch_procs.specs.Parcels.{Parcel, is_last}
use Rattle.twin_law.specs.Process.{Action, Finishes, place, aim, caused, has_stopped, next_action}
use Rattle.twin_law.specs.Sides.{A, B, Dealt, dealt}
use Rattle.twin_law.specs.Input.{HasDealt, input_aims, input}
use Rattle.twin_law.specs.Job.{HasWorked, job_aims, job}
use Rattle.twin_law.specs.Output.{HasGathered, output_aims, output}
use Rattle.twin_law.specs.Table.{process}
use Rattle.twin_law.specs.Twin.{seat, call, twin, TwinState}
use Rattle.twin_law.specs.Alone.{AreLoadedSo}
use Rattle.twin_law.specs.UnitWork.{AreByUnits}
use Rattle.twin_law.proofs.Lawful.{each-process, lawful}
use Rattle.twin_law.proofs.Ended.{AimsAt, waits-by}
use Rattle.twin_law.proofs.Kahn.{seat-of, AllWithin, Within, took, handed, input-quiet, job-quiet, output-quiet}
use Rattle.twin_law.proofs.InputAlone.{deck_feeds, input-alone, InputDone}
use Rattle.twin_law.proofs.JobAlone.{job-alone, JobDone}
use Rattle.twin_law.proofs.OutputAlone.{output-alone, OutputDone}
use Rattle.twin_law.proofs.PrinterAlone.{both-first}
use Rattle.twin_law.proofs.Dealing.{dealt-each}
use Rattle.twin_law.proofs.Strips.{Strip, parcels}
use Rattle.twin_law.proofs.Whole.{whole, within, us, both, unit-strips, report-strips, unit_strip, report_strip, dealt-at, made-at, closed-2, closed-3, closed-4, closed-5}
use Rattle.twin_law.proofs.Over.{OnTheWay, on-the-way, took-whole, starved, put-whole, put-no_more}
use Rattle.twin_law.proofs.AtEnds.{Among, finished, first-among, input-over, input-puts, input-silent, job-over, job-puts, job-silent, job-takes, made-back, no-part, output-over, output-takes, told-by}

module _ {L : Type 0} {J : Jobs L} (jobs : AreJobs J) (by : AreByUnits J) (F : FilesAs L) (items : List Item) (are : AreItems items)
    (opening s : TwinState L) (st : Stands (twin J) opening s) (told : (b : ℕ) → IsTold (s.buffers b)) (so : (p : ℕ) → AreLoadedSo F (s.histories p))
    (first : IsPrefixOf (passed (twin J) s 1 Sender) (deck_feeds items))
    (clean : (p : ℕ) → IsOne (twin J) p → caused (process J p) (s.histories p) ≡ None) where
  abbrev all : ℕ → List (Parcel L)
  all = whole jobs by F items are

  abbrev In : ℕ → Type 0
  In b = Within J opening s st told F so all b

  parts : AllWithin J opening s st told F so all
  parts = within jobs by F items are opening s st told so first

  is-2 : IsOne (twin J) 2
  is-2 = (omega arith, omega arith)

  is-3 : IsOne (twin J) 3
  is-3 = (omega arith, omega arith)

  is-4 : IsOne (twin J) 4
  is-4 = (omega arith, omega arith)

  is-5 : IsOne (twin J) 5
  is-5 = (omega arith, omega arith)

  in-2 : (b : ℕ) → seat b Receiver ≡ 2 → In b
  in-2 b = seat-of b (λ b q. q ≡ 2 → In b) (λ e. first) (λ e. absurd cc) (λ e. absurd cc) (λ e. absurd cc) (λ e. absurd cc) (λ e. absurd cc)

  in-3 : (b : ℕ) → seat b Receiver ≡ 3 → In b
  in-3 b = seat-of b (λ b q. q ≡ 3 → In b) (λ e. absurd cc) (λ e. parts.to_a) (λ e. absurd cc) (λ e. absurd cc) (λ e. absurd cc) (λ e. absurd cc)

  in-4 : (b : ℕ) → seat b Receiver ≡ 4 → In b
  in-4 b = seat-of b (λ b q. q ≡ 4 → In b) (λ e. absurd cc) (λ e. absurd cc) (λ e. parts.to_b) (λ e. absurd cc) (λ e. absurd cc) (λ e. absurd cc)

  in-5 : (b : ℕ) → seat b Receiver ≡ 5 → In b
  in-5 b = seat-of b (λ b q. q ≡ 5 → In b) (λ e. absurd cc) (λ e. absurd cc) (λ e. absurd cc) (λ e. parts.from_a) (λ e. parts.from_b) (λ e. absurd cc)

  took-2 : (b : ℕ) → IsPrefixOf (moved b Receiver (acts (twin J) 2 (s.histories 2))) (all b)
  took-2 = took J opening s st told F so all 2 is-2 in-2

  took-3 : (b : ℕ) → IsPrefixOf (moved b Receiver (acts (twin J) 3 (s.histories 3))) (all b)
  took-3 = took J opening s st told F so all 3 is-3 in-3

  took-4 : (b : ℕ) → IsPrefixOf (moved b Receiver (acts (twin J) 4 (s.histories 4))) (all b)
  took-4 = took J opening s st told F so all 4 is-4 in-4

  took-5 : (b : ℕ) → IsPrefixOf (moved b Receiver (acts (twin J) 5 (s.histories 5))) (all b)
  took-5 = took J opening s st told F so all 5 is-5 in-5

  -- ---- each alone, to its end
  abbrev units-are : List (List Item)
  units-are = us jobs by F items are

  abbrev done-2 : InputDone F items all
  done-2 = input-alone F items all refl

  abbrev strips-a : List Strip
  strips-a = map unit_strip (dealt units-are).a

  abbrev strips-b : List Strip
  strips-b = map unit_strip (dealt units-are).b

  abbrev done-3 : JobDone jobs F A strips-a all
  done-3 = job-alone jobs F A strips-a (unit-strips jobs by F items are (dealt units-are).a (both jobs by F items are).a) all refl

  abbrev done-4 : JobDone jobs F B strips-b all
  done-4 = job-alone jobs F B strips-b (unit-strips jobs by F items are (dealt units-are).b (both jobs by F items are).b) all refl

  abbrev done-5 : OutputDone F (map (report_strip jobs by F) units-are) all
  done-5 = output-alone F (map (report_strip jobs by F) units-are) (report-strips jobs by F items are) all
      (ap (λ (d : Dealt Strip). parcels d.a) (sym (dealt-each (report_strip jobs by F) units-are)))
      (ap (λ (d : Dealt Strip). parcels d.b) (sym (dealt-each (report_strip jobs by F) units-are)))

  way-3 : OnTheWay J 3 is-3 F (job-quiet J A) all (s.histories 3) (st.follows 3) (so 3) (clean 3 is-3) took-3 HasWorked done-3.left
  way-3 = on-the-way J 3 is-3 F (job-quiet J A) all (s.histories 3) (st.follows 3) (so 3) (clean 3 is-3) took-3 HasWorked done-3.left _ done-3.goes (λ w. refl)

  way-4 : OnTheWay J 4 is-4 F (job-quiet J B) all (s.histories 4) (st.follows 4) (so 4) (clean 4 is-4) took-4 HasWorked done-4.left
  way-4 = on-the-way J 4 is-4 F (job-quiet J B) all (s.histories 4) (st.follows 4) (so 4) (clean 4 is-4) took-4 HasWorked done-4.left _ done-4.goes (λ w. refl)

  way-5 : OnTheWay J 5 is-5 F output-quiet all (s.histories 5) (st.follows 5) (so 5) (clean 5 is-5) took-5 HasGathered done-5.left
  way-5 = on-the-way J 5 is-5 F output-quiet all (s.histories 5) (st.follows 5) (so 5) (clean 5 is-5) took-5 HasGathered done-5.left _ done-5.goes (λ w. refl)

  abbrev Sent : ℕ → Type 0
  Sent b = passed (twin J) s b Sender ≡ all b

  abbrev Got : ℕ → Type 0
  Got b = passed (twin J) s b Receiver ≡ all b

  -- ---- who is at its end put all and took all
  dealt-to-a : aim (process J 2) (s.histories 2) ≡ Finishes → Sent 2
  dealt-to-a last = both-first (passed (twin J) s 2 Sender) (all 2) parts.to_a
      (subst (λ ps. IsPrefixOf ps (passed (twin J) s 2 Sender)) (dealt-at jobs by F items are 2 done-2.puts (dealt units-are).a done-2.at_a)
      (put-whole J 2 is-2 F input-quiet all (s.histories 2) (st.follows 2) (so 2) (clean 2 is-2) took-2 HasDealt done-2.left done-2.puts done-2.goes
      (input-silent F) (input-over (place (input {L = L}) (s.histories 2)) last) 2 refl))

  dealt-to-b : aim (process J 2) (s.histories 2) ≡ Finishes → Sent 3
  dealt-to-b last = both-first (passed (twin J) s 3 Sender) (all 3) parts.to_b
      (subst (λ ps. IsPrefixOf ps (passed (twin J) s 3 Sender)) (dealt-at jobs by F items are 3 done-2.puts (dealt units-are).b done-2.at_b)
      (put-whole J 2 is-2 F input-quiet all (s.histories 2) (st.follows 2) (so 2) (clean 2 is-2) took-2 HasDealt done-2.left done-2.puts done-2.goes
      (input-silent F) (input-over (place (input {L = L}) (s.histories 2)) last) 3 refl))

  worked-to-a : aim (process J 3) (s.histories 3) ≡ Finishes → Sent 4
  worked-to-a last = both-first (passed (twin J) s 4 Sender) (all 4) parts.from_a
      (subst (λ ps. IsPrefixOf ps (passed (twin J) s 4 Sender)) (made-at jobs by F items are A (dealt units-are).a)
      (put-whole J 3 is-3 F (job-quiet J A) all (s.histories 3) (st.follows 3) (so 3) (clean 3 is-3) took-3 HasWorked done-3.left _ done-3.goes
      (job-silent J A F) (job-over A (place (job J A) (s.histories 3)) last) 4 refl))

  worked-to-b : aim (process J 4) (s.histories 4) ≡ Finishes → Sent 5
  worked-to-b last = both-first (passed (twin J) s 5 Sender) (all 5) parts.from_b
      (subst (λ ps. IsPrefixOf ps (passed (twin J) s 5 Sender)) (made-at jobs by F items are B (dealt units-are).b)
      (put-whole J 4 is-4 F (job-quiet J B) all (s.histories 4) (st.follows 4) (so 4) (clean 4 is-4) took-4 HasWorked done-4.left _ done-4.goes
      (job-silent J B F) (job-over B (place (job J B) (s.histories 4)) last) 5 refl))

  worked-on-a : aim (process J 3) (s.histories 3) ≡ Finishes → Got 2
  worked-on-a last = took-whole J 3 is-3 F (job-quiet J A) all (s.histories 3) (st.follows 3) (so 3) (clean 3 is-3) took-3 HasWorked done-3.left way-3
      (λ w. refl)
      (job-over A (place (job J A) (s.histories 3)) last) 2 done-3.none

  worked-on-b : aim (process J 4) (s.histories 4) ≡ Finishes → Got 3
  worked-on-b last = took-whole J 4 is-4 F (job-quiet J B) all (s.histories 4) (st.follows 4) (so 4) (clean 4 is-4) took-4 HasWorked done-4.left way-4
      (λ w. refl)
      (job-over B (place (job J B) (s.histories 4)) last) 3 done-4.none

  gathered-from-a : aim (process J 5) (s.histories 5) ≡ Finishes → Got 4
  gathered-from-a last = took-whole J 5 is-5 F output-quiet all (s.histories 5) (st.follows 5) (so 5) (clean 5 is-5) took-5 HasGathered done-5.left way-5
      (λ w. refl)
      (output-over (place (output {L = L}) (s.histories 5)) last) 4 done-5.from_a

  gathered-from-b : aim (process J 5) (s.histories 5) ≡ Finishes → Got 5
  gathered-from-b last = took-whole J 5 is-5 F output-quiet all (s.histories 5) (st.follows 5) (so 5) (clean 5 is-5) took-5 HasGathered done-5.left way-5
      (λ w. refl)
      (output-over (place (output {L = L}) (s.histories 5)) last) 5 done-5.from_b

  -- ---- a buffer of which all was taken, and one of which all was put and nothing is left
  filled : (b : ℕ) → In b → Got b → Sent b
  filled b within got =
      both-first (passed (twin J) s b Sender) (all b) within
      (subst (λ ps. IsPrefixOf ps (passed (twin J) s b Sender)) got (handed J opening s st told F so b))

  emptied : (b : ℕ) → (s.buffers b).marks ≡ [] → Sent b → Got b
  emptied b none sent =
      let put = passed (twin J) s b Sender in
      let took = passed (twin J) s b Receiver in
      let order = ap length
      (sym (append-nil (map is_last took)) ∙ ap (λ more. map is_last took ++ more) (sym none) ∙ (st.buffers.hand_over b).marks.in_order) in
      let x = length-map took is_last in
      let y = length-map put is_last in
      no-part took put (handed J opening s st told F so b) (omega (arith, order, x, y)) ∙ sent

  -- ---- nobody calls where the other side is at its end
  abbrev Clash : ℕ → Side → ℕ → Type 0
  Clash b side q = seat b (other side) ≡ q → (side ≡ Receiver → (s.buffers b).marks ≡ [])
      → AimsAt (aim (process J (seat b side)) (s.histories (seat b side))) b side → ⊥

  no-deal-a : Got 2 → AimsAt (input_aims (place (input {L = L}) (s.histories 2))) 2 Sender → ⊥
  no-deal-a got is =
      let next = input-puts (place (input {L = L}) (s.histories 2)) 2 is in
      put-no_more J 2 is-2 F input-quiet all (s.histories 2) (st.follows 2) (so 2) (clean 2 is-2) took-2 2 next.0 refl next.1 (closed-2 jobs by F items are)
      (filled 2 parts.to_a got)

  no-deal-b : Got 3 → AimsAt (input_aims (place (input {L = L}) (s.histories 2))) 3 Sender → ⊥
  no-deal-b got is =
      let next = input-puts (place (input {L = L}) (s.histories 2)) 3 is in
      put-no_more J 2 is-2 F input-quiet all (s.histories 2) (st.follows 2) (so 2) (clean 2 is-2) took-2 3 next.0 refl next.1 (closed-3 jobs by F items are)
      (filled 3 parts.to_b got)

  no-put-a : Got 4 → AimsAt (job_aims A (place (job J A) (s.histories 3))) 4 Sender → ⊥
  no-put-a got is =
      let next = job-puts A (place (job J A) (s.histories 3)) 4 is in
      put-no_more J 3 is-3 F (job-quiet J A) all (s.histories 3) (st.follows 3) (so 3) (clean 3 is-3) took-3 4 next.0 refl next.1 (closed-4 jobs by F items are)
      (filled 4 parts.from_a got)

  no-put-b : Got 5 → AimsAt (job_aims B (place (job J B) (s.histories 4))) 5 Sender → ⊥
  no-put-b got is =
      let next = job-puts B (place (job J B) (s.histories 4)) 5 is in
      put-no_more J 4 is-4 F (job-quiet J B) all (s.histories 4) (st.follows 4) (so 4) (clean 4 is-4) took-4 5 next.0 refl next.1 (closed-5 jobs by F items are)
      (filled 5 parts.from_b got)

  no-take-a : Sent 2 → (s.buffers 2).marks ≡ [] → AimsAt (job_aims A (place (job J A) (s.histories 3))) 2 Receiver → ⊥
  no-take-a sent none is =
      let t = job-takes J A (place (job J A) (s.histories 3)) 2 is in
      t.going (starved J 3 is-3 F (job-quiet J A) all (s.histories 3) (st.follows 3) (so 3) (clean 3 is-3) took-3 HasWorked done-3.left way-3 2 t.aims t.same
      (emptied 2 none sent))

  no-take-b : Sent 3 → (s.buffers 3).marks ≡ [] → AimsAt (job_aims B (place (job J B) (s.histories 4))) 3 Receiver → ⊥
  no-take-b sent none is =
      let t = job-takes J B (place (job J B) (s.histories 4)) 3 is in
      t.going (starved J 4 is-4 F (job-quiet J B) all (s.histories 4) (st.follows 4) (so 4) (clean 4 is-4) took-4 HasWorked done-4.left way-4 3 t.aims t.same
      (emptied 3 none sent))

  no-gather-a : Sent 4 → (s.buffers 4).marks ≡ [] → AimsAt (output_aims (place (output {L = L}) (s.histories 5))) 4 Receiver → ⊥
  no-gather-a sent none is =
      let t = output-takes (place (output {L = L}) (s.histories 5)) 4 is in
      t.going (starved J 5 is-5 F output-quiet all (s.histories 5) (st.follows 5) (so 5) (clean 5 is-5) took-5 HasGathered done-5.left way-5 4 t.aims t.same
      (emptied 4 none sent))

  no-gather-b : Sent 5 → (s.buffers 5).marks ≡ [] → AimsAt (output_aims (place (output {L = L}) (s.histories 5))) 5 Receiver → ⊥
  no-gather-b sent none is =
      let t = output-takes (place (output {L = L}) (s.histories 5)) 5 is in
      t.going (starved J 5 is-5 F output-quiet all (s.histories 5) (st.follows 5) (so 5) (clean 5 is-5) took-5 HasGathered done-5.left way-5 5 t.aims t.same
      (emptied 5 none sent))

  by-2 : (b : ℕ) (side : Side) → aim (process J 2) (s.histories 2) ≡ Finishes → Among b (2 ∷ 3 ∷ []) → Clash b side 2
  by-2 b Receiver last (inl same) = subst (λ b. Clash b Receiver 2) same (λ e none is. no-take-a (dealt-to-a last) (none refl) is)
  by-2 b Sender last (inl same) = subst (λ b. Clash b Sender 2) same (λ e none is. cc)
  by-2 b Receiver last (inr (inl same)) = subst (λ b. Clash b Receiver 2) same (λ e none is. no-take-b (dealt-to-b last) (none refl) is)
  by-2 b Sender last (inr (inl same)) = subst (λ b. Clash b Sender 2) same (λ e none is. cc)
  by-2 b side last (inr (inr none)) = absurd none

  by-3 : (b : ℕ) (side : Side) → aim (process J 3) (s.histories 3) ≡ Finishes → Among b (2 ∷ 4 ∷ []) → Clash b side 3
  by-3 b Receiver last (inl same) = subst (λ b. Clash b Receiver 3) same (λ e none is. cc)
  by-3 b Sender last (inl same) = subst (λ b. Clash b Sender 3) same (λ e none is. no-deal-a (worked-on-a last) is)
  by-3 b Receiver last (inr (inl same)) = subst (λ b. Clash b Receiver 3) same (λ e none is. no-gather-a (worked-to-a last) (none refl) is)
  by-3 b Sender last (inr (inl same)) = subst (λ b. Clash b Sender 3) same (λ e none is. cc)
  by-3 b side last (inr (inr none)) = absurd none

  by-4 : (b : ℕ) (side : Side) → aim (process J 4) (s.histories 4) ≡ Finishes → Among b (3 ∷ 5 ∷ []) → Clash b side 4
  by-4 b Receiver last (inl same) = subst (λ b. Clash b Receiver 4) same (λ e none is. cc)
  by-4 b Sender last (inl same) = subst (λ b. Clash b Sender 4) same (λ e none is. no-deal-b (worked-on-b last) is)
  by-4 b Receiver last (inr (inl same)) = subst (λ b. Clash b Receiver 4) same (λ e none is. no-gather-b (worked-to-b last) (none refl) is)
  by-4 b Sender last (inr (inl same)) = subst (λ b. Clash b Sender 4) same (λ e none is. cc)
  by-4 b side last (inr (inr none)) = absurd none

  by-5 : (b : ℕ) (side : Side) → aim (process J 5) (s.histories 5) ≡ Finishes → Among b (4 ∷ 5 ∷ []) → Clash b side 5
  by-5 b Receiver last (inl same) = subst (λ b. Clash b Receiver 5) same (λ e none is. cc)
  by-5 b Sender last (inl same) = subst (λ b. Clash b Sender 5) same (λ e none is. no-put-a (gathered-from-a last) is)
  by-5 b Receiver last (inr (inl same)) = subst (λ b. Clash b Receiver 5) same (λ e none is. cc)
  by-5 b Sender last (inr (inl same)) = subst (λ b. Clash b Sender 5) same (λ e none is. no-put-b (gathered-from-b last) is)
  by-5 b side last (inr (inr none)) = absurd none

  clash : (q b : ℕ) (side : Side) → IsOne (twin J) q → aim (process J q) (s.histories q) ≡ Finishes → Among b (process J q).spools → Clash b side q
  clash q b side one =
      each-process J (λ q. aim (process J q) (s.histories q) ≡ Finishes → Among b (process J q).spools → Clash b side q) q one
      (λ last no. absurd no) (by-2 b side) (by-3 b side) (by-4 b side) (by-5 b side) (λ last no. absurd no)

  -- ---- so nobody is told of a stop
  pub never-told : (p : ℕ) (a : Action) (b : ℕ) (side : Side) (visit : Visit) → IsOne (twin J) p → next_action (process J p) (s.histories p) ≡ Some a
      → call p a ≡ At b side visit → CanWait visit → found (s.buffers b) side ≡ IsClosed → ⊥
  never-told p a b side visit one next at can closed =
      let waits = waits-by J p (s.histories p) a b side visit one can next at in
      let seated : seat b side ≡ p = (lawful J).seated p (s.histories p) b side visit one (st.follows p) record { action = a; next = next; call = at } in
      let by = told-by (s.buffers b) side closed in
      let q = seat b (other side) in
      let made : made_stop b (other side) (acts (twin J) q (s.histories q)) ≡ true =
      sym (st.buffers.stops b (other side)) ∙ sym ((st.buffers.hand_over b).stopped_first.each (other side))
      ∙ first-among (s.buffers b).sides.stops (other side) by.by_other in
      let stopped : has_stopped b (s.histories q) ≡ true = made-back J q b (other side) (s.histories q) (st.follows q) made in
      elim (st.others q) as (λ _. ⊥) [
        | inl is ↦
            let end = finished J q b (s.histories q) is (st.follows q) (clean q is) stopped in
            clash q b side is end.last end.spool refl by.empty (subst (λ p. AimsAt (aim (process J p) (s.histories p)) b side) (sym seated) waits.aims)
        | inr none ↦ (let no = sym (ap (has_stopped b) none) ∙ stopped in cc)
      ]
