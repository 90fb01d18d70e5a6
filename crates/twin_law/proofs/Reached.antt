-- What holds of every reached state.
use Rattle.std.proofs.Common.{◌≡◌, ℕ, ◌≤◌, ◌==◌, Bool, true, false, List, [], ◌++◌, None, Some, refl, sym, ◌∙◌, ap, subst, arith, lit≤}
use Rattle.solo_devices.specs.PrinterUnit.{Gains, GainsOf}
use Rattle.network_run.specs.Law.{NoneGoes, AllEnded}
use Rattle.network_run.specs.Sound.{IsSoundLaw}
use Rattle.network_law.specs.Network.{IsOne, IsEnabled}
use Rattle.network_law.specs.Kept.{IsTold, passed}
use Rattle.network_law.proofs.Goers as goers
use Rattle.solo_base.specs.declared.item.Item.{Item}
use Rattle.solo_base.specs.declared.outcome.Side.TheVariants.{Sender, Receiver}
use Rattle.solo_base.specs.Prefixes.{IsPrefixOf}
use Rattle.solo_base.specs.Text.{text}
use Rattle.batch_procs.specs.Jobs.{Jobs, AreJobs, FilesAs, one_thread}
use Rattle.solo_base.specs.declared.outcome.Outcome.TheVariants as outcome
use Rattle.twin_law.specs.Process.{Finishes, place, aim, caused, next_action}
use Rattle.twin_law.specs.Ends.{CardPlace, ReadsCard, PutsCard, PutsEnd, HasPut, card_aims, card, PrinterPlace, TakesLine, PrintsLine, HasPrinted, printer_aims, printer}
use Rattle.twin_law.specs.Table.{process}
use Rattle.twin_law.specs.Twin.{given, twin, TwinState, TwinEvent, IsProcess}
use Rattle.twin_law.specs.Opening.{Spools, AreInBounds, AreTold, is_line, one_line, spool_by, size_of, AreGoodFiles, Opening, IsSmooth}
use Rattle.twin_law.specs.TheLaw.{the_openings, the_law, first_state, IsReached, IsStuck}
use Rattle.twin_law.specs.Alone.{AreLoadedSo}
use Rattle.twin_law.specs.UnitWork.{AreByUnits}
use Rattle.twin_law.specs.Told.{printed}
use Rattle.twin_law.specs.Outcomes.{AllDone, HaveCauses}
use Rattle.twin_law.specs.Holds.{IsRead, Holds}
use Rattle.twin_law.proofs.Lawful.{lawful}
use Rattle.twin_law.proofs.Ended.{none-ended}
use Rattle.twin_law.proofs.NeverStuck.{ended-all}
use Rattle.twin_law.proofs.Kahn.{prefix-trans}
use Rattle.twin_law.proofs.Whole.{line_feeds, prints-first}
use Rattle.twin_law.proofs.CardReads.{put-first, end-put}
use Rattle.twin_law.proofs.Paper.{due_at, text-append}
use Rattle.twin_law.proofs.PrinterAlone.{printed-first, printed-all}
use Rattle.twin_law.proofs.Devices.{Centre, reached-centre}
use Rattle.twin_law.proofs.Outcomes.{ends-rightly, done-where, given-by}
use Rattle.twin_law.proofs.Together.{all-told, stopped-by}
use Rattle.twin_law.proofs.Undamaged.{undamaged}
use Rattle.twin_law.proofs.Faults.{card-faulty, input-faulty, job-a-faulty, job-b-faulty, output-faulty, printer-faulty}

-- ---- the buffers of an opening
some-room : (spools : Spools) → AreInBounds spools → (b : ℕ) → 1 ≤ size_of spools b
some-room spools bounds b = by (is_line b) (b == 2) (b == 3) (b == 4) where
  by : (line two three four : Bool)
      → 1 ≤ (spool_by line one_line (spool_by two spools.to_a (spool_by three spools.to_b (spool_by four spools.from_a spools.from_b)))).size
  by true two three four = lit≤ tt
  by false true three four = bounds.to_a.some
  by false false true four = bounds.to_b.some
  by false false false true = bounds.from_a.some
  by false false false false = bounds.from_b.some

-- ---- a text begins as its lines do
text-first : (some all : List (List ℕ)) → IsPrefixOf some all → IsPrefixOf (text some) (text all)
text-first some all (rest, e) = (text rest, sym (text-append some rest) ∙ ap text e)

card-over : (x : CardPlace) → card_aims x ≡ Finishes → x ≡ HasPut
card-over HasPut e = refl
card-over ReadsCard e = absurd cc
card-over (PutsCard item) e = absurd cc
card-over PutsEnd e = absurd cc

printer-over : (x : PrinterPlace) → printer_aims x ≡ Finishes → x ≡ HasPrinted
printer-over HasPrinted e = refl
printer-over TakesLine e = absurd cc
printer-over (PrintsLine line) e = absurd cc

module _ {L : Type 0} {J : Jobs L} (jobs : AreJobs J) where
  is-6 : IsOne (twin J) 6
  is-6 = (omega arith, omega arith)

  -- ---- never stuck
  ended-where : (o : Opening J) (s : TwinState L) → IsReached o s → ((event : TwinEvent L) → IsEnabled (twin J) s event → IsSmooth event.entry → ⊥)
      → (p : ℕ) → IsOne (twin J) p → next_action (process J p) (s.histories p) ≡ None
  ended-where o s reached none p one =
      let c = reached-centre J o s reached in
      ended-all jobs (first_state o) s c.stands (some-room o.spools o.bounds) (c.devices.cards o.cards) (subst (AreGoodFiles J) (sym c.devices.files_same) o.good) none p one

  pub never-stuck : (o : Opening J) (s : TwinState L) → IsReached o s → IsStuck J s → ⊥
  never-stuck o s reached stuck =
      stuck.not_ended (λ p one. none-ended (process J p) (s.histories p) (ended-where o s reached stuck.none_enabled p one))

  none-goes : (o : Opening J) (s : TwinState L) → IsReached o s → NoneGoes (the_law J) s → AllEnded (the_law J) s
  none-goes o s reached none p one =
      ended-where o s reached (λ event is smooth. none event.process is.one (goers.enabled-go (twin J) s event is)) p one

  pub sound : IsSoundLaw (the_law J)
  sound = goers.sound (twin J) (the_openings J) (lawful J) (lit≤ tt) none-goes

  -- ---- the paper
  module _ (o : Opening J) (s : TwinState L) (reached : IsReached o s) where
    abbrev centre : Centre J (first_state o) s
    centre = reached-centre J o s reached

    pub told-now : AreTold o.spools → (b : ℕ) → IsTold (s.buffers b)
    told-now told b = centre.stands.told b (rw (all-told o.spools told b) ([], refl))

    done-at : (p : ℕ) → IsProcess p → AllDone s → (caused (process J p) (s.histories p) ≡ None) × (aim (process J p) (s.histories p) ≡ Finishes)
    done-at p one all =
        done-where (process J p) (s.histories p) (ends-rightly J p (s.histories p) outcome.Done (centre.stands.follows p) (all p one))

    module _ (by : AreByUnits J) (told : AreTold o.spools) (items : List Item) (found : FilesAs L) (deck_is : o.deck ≡ Some items) (files_are : o.files ≡ Some found) where
      abbrev lines : List (List ℕ)
      lines = one_thread J items found

      so : (p : ℕ) → AreLoadedSo found (s.histories p)
      so = centre.devices.loaded found files_are

      given-to : IsPrefixOf (passed (twin J) s 6 Sender) (line_feeds lines)
      given-to =
          let d = centre.devices.deck items deck_is in
          prints-first jobs by found items (o.cards items deck_is) (first_state o) s centre.stands (told-now told) so
          (put-first J (s.histories 1) items d.left (centre.stands.follows 1) d.parts d.ended)

      pub taken : IsPrefixOf (passed (twin J) s 6 Receiver) (line_feeds lines)
      taken =
          let (inside, is) = told-now told 6 in
          prefix-trans (passed (twin J) s 6 Receiver) (passed (twin J) s 6 Sender) (line_feeds lines)
          (inside, (centre.stands.buffers.hand_over 6).parcels inside is) given-to

      gains-of : (given : List ℕ) → o.paper ≡ Some given → GainsOf given s.devices.paper (text lines) (AllDone s)
      gains-of given e =
          let p = centre.devices.paper given e in
          let h = s.histories 6 in
          let first = printed-first found J is-6 h (centre.stands.follows 6) (so 6) lines taken in
          record {
            part = p.gained;
            now_is = p.now_is;
            prefix = (let (rest, e) = prefix-trans p.gained (text (printed h ++ due_at (place (printer {L = L}) h))) (text lines) p.part
                (text-first (printed h ++ due_at (place (printer {L = L}) h)) lines first) in record { rest = rest; whole_is = e });
            all_is = λ all.
                (let is = done-at 6 (omega arith, omega arith) all in
                p.free is.0 ∙ ap text (printed-all found J is-6 h (centre.stands.follows 6) (so 6) lines taken (printer-over (place (printer {L = L}) h) is.1)));
          }

      prints-now : Gains o.paper s.devices.paper (text lines) (AllDone s)
      prints-now = record { told = gains-of; untold = λ e. centre.devices.paper_untold e }

    reads-now : (items : List Item) → o.deck ≡ Some items → IsRead s items
    reads-now items e =
        let d = centre.devices.deck items e in
        record {
          left = d.left;
          left_is = d.left_is;
          cards_are = d.parts;
          all = λ all.
              (let is = done-at 1 (omega arith, omega arith) all in
              d.ended (end-put J (s.histories 1) (centre.stands.follows 1) (card-over (place (card {L = L}) (s.histories 1)) is.1)));
        }

    causes-now : HaveCauses J s
    causes-now = record {
      given = λ p how one e. given-by (process J p) (s.histories p) how e;
      card = λ c e. card-faulty J (s.histories 1) c (centre.stands.follows 1) e;
      input = λ c e. input-faulty J (s.histories 2) c (centre.stands.follows 2) e;
      job_a = λ c e. job-a-faulty J (s.histories 3) c (centre.stands.follows 3) e;
      job_b = λ c e. job-b-faulty J (s.histories 4) c (centre.stands.follows 4) e;
      output = λ c e. output-faulty J (s.histories 5) c (centre.stands.follows 5) e;
      printer = λ c e. printer-faulty J (s.histories 6) c (centre.stands.follows 6) e;
    }

    pub holds : Holds o s
    holds = record {
      prints = prints-now;
      reads = reads-now;
      loads_so = centre.devices.loaded;
      stands = centre.stands;
      ends = λ p how one e. ends-rightly J p (s.histories p) how (centre.stands.follows p) e;
      causes = causes-now;
      undamaged = λ told. undamaged jobs (first_state o) s centre.stands (told-now told);
      stopped = λ by told items found deck files p one is. stopped-by jobs by o told items found deck files s reached p one is;
    }
