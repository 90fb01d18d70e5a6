-- Three processes that ended, whose buffers' ends have met, are three processes side by side.
use Rattle.std.proofs.Common.{◌≡◌, inl, inr, ℕ, List, ◌++◌, Option, None, Some, refl, sym, subst, arith}
use Rattle.std.proofs.lemmas.Bool.Decides.{eqb_tells}
use Rattle.solo_base.specs.declared.item.Item.{Item}
use Rattle.solo_base.specs.declared.outcome.Side.{Side}
use Rattle.solo_base.specs.declared.outcome.Outcome.{Outcome}
use Rattle.solo_devices.specs.CardUnit.{items_ahead}
use Rattle.page_codec.specs.Items.{AreItems}
use Rattle.page_codec.proofs.CardItems.{card-items}
use Rattle.exchange_law.specs.Parcels.{OfArg, OfPage}
use Rattle.place_law.specs.Process.{how_ended}
use Rattle.solo_law.specs.Replies.{view}
use Rattle.solo_law.specs.Devices.{Devices, AreSound}
use Rattle.solo_law.specs.Holds.{IsBuffer}
use Rattle.solo_law.specs.Solo.{SoloEntry}
use Rattle.solo_law.proofs.Placed.{each-process}
use Rattle.solo_ends.specs.Ends.{EndTogether, FaultsAre}
use Rattle.solo_threads.specs.Threads.{Deed, entries, IsThread, HaveMet, SideBySide, EndedSo, outcomes_of, stops_of}
use Rattle.solo_threads.proofs.Together.{together, faults-are}
use Rattle.solo_run.specs.declared.row.Row.{Row}
use Rattle.solo_run.specs.declared.row.RowEnded.{RowEnded}
use Rattle.solo_run.specs.Job.{JobWorld}
use Rattle.solo_run.specs.Row.{RowRan}
use Rattle.solo_run.specs.Whole.{RowTold, AllMeet, by_number}
use Rattle.solo_run.proofs.EndCalls.{have-met}

each-buffer : (P : ℕ → Type 0) (b : ℕ) → IsBuffer b → P 1 → P 2 → P 3 → P 4 → P 5 → P 6 → P b
each-buffer P b is one two three four five six =
    elim (eqb_tells b 1) as (λ _. P b) [
      | inl e ↦ subst P (sym e.1) one
      | inr a ↦ elim (eqb_tells b 2) as (λ _. P b) [
        | inl e ↦ subst P (sym e.1) two
        | inr c ↦ elim (eqb_tells b 3) as (λ _. P b) [
          | inl e ↦ subst P (sym e.1) three
          | inr d ↦ elim (eqb_tells b 4) as (λ _. P b) [
            | inl e ↦ subst P (sym e.1) four
            | inr f ↦ elim (eqb_tells b 5) as (λ _. P b) [
              | inl e ↦ subst P (sym e.1) five
              | inr g ↦ (let last : b ≡ 6 =
                  (let a = a.1 in let c = c.1 in let d = d.1 in let f = f.1 in let g = g.1 in let low = is.0 in let high = is.1 in
                  omega (arith, a, c, d, f, g, low, high)) in
                  subst P (sym last) six)
            ]
          ]
        ]
      ]
    ]

-- what a source tells are cards
same-items : (a b : List Item) → Some a ≡ Some b → a ≡ b
same-items a b e = cc

pub told-items : (left : Option (List ℕ)) (pending : List ℕ) (items : List Item) → items_ahead left pending ≡ Some items → AreItems items
told-items None pending items e = absurd cc
told-items (Some rest) pending items e = subst AreItems (same-items _ _ e) (card-items (pending ++ rest))

module _ {S Y T F K : Type 0} (left : S → Option (List ℕ)) (taken reads : S → ℕ) (w : JobWorld Y T F) (given : K → Option (List ℕ)) (faults : K → ℕ)
    (row : Row S Y K T F) (ended : RowEnded S Y K T F) (ran : RowRan left taken reads w given faults row ended) (by : ℕ → Option Side) (met : AllMeet ended by) where
  abbrev pub deeds : ℕ → List Deed
  deeds = by_number ran.input_ended.deeds ran.job_ended.deeds ran.output_ended.deeds

  abbrev pub how : ℕ → Outcome
  how = by_number ended.input.1 ended.job.1 ended.output.1

  abbrev histories : ℕ → List SoloEntry
  histories p = entries (deeds p)

  abbrev Met : ℕ → Type 0
  Met b = HaveMet histories b (by b)

  all-met : (b : ℕ) → IsBuffer b → Met b
  all-met b is =
      each-buffer Met b is
      (have-met OfArg 1 histories _ _ met.card_orders_rest (by 1) met.card_orders ran.job_ended.ran.0.card_orders.calls ran.input_ended.ran.orders.calls)
      (have-met OfPage 2 histories _ _ met.cards_rest (by 2) met.cards ran.input_ended.ran.pages.calls ran.job_ended.ran.0.cards.calls)
      (have-met OfArg 3 histories _ _ met.card_reports_rest (by 3) met.card_reports ran.input_ended.ran.reports.calls ran.job_ended.ran.0.card_reports.calls)
      (have-met OfArg 4 histories _ _ met.print_orders_rest (by 4) met.print_orders ran.job_ended.ran.0.print_orders.calls ran.output_ended.ran.orders.calls)
      (have-met OfPage 5 histories _ _ met.pages_rest (by 5) met.pages ran.job_ended.ran.0.pages.calls ran.output_ended.ran.pages.calls)
      (have-met OfArg 6 histories _ _ met.print_reports_rest (by 6) met.print_reports ran.output_ended.ran.reports.calls ran.job_ended.ran.0.print_reports.calls)

  -- Over whatever told devices they began with, they ran side by side.
  pub side-by-side : (d : Devices) → AreSound d → RowTold left w given row d → SideBySide d deeds by
  side-by-side d sound told = record {
    sound = sound;
    threads = λ p one. each-process (λ p. IsThread p d (deeds p)) p one record {
      follows = ran.input_ended.follows;
      answered = ran.input_ended.answered;
      allowed = (ran.input_ended.ran.told d told.input).0;
    } record {
      follows = ran.job_ended.follows;
      answered = ran.job_ended.answered;
      allowed = (ran.job_ended.ran.0.told d told.job).0;
    } record {
      follows = ran.output_ended.follows;
      answered = ran.output_ended.answered;
      allowed = (ran.output_ended.ran.told d told.output).0;
    };
    met = all-met;
  }

  -- ---- there are such devices: what was told, and nothing of the work
  abbrev told_devices : Devices
  told_devices = record {
    cards = items_ahead (left row.input.cards.source) row.input.cards.pending;
    keys = items_ahead (w.left row.job.typewriter.keys.source) row.job.typewriter.keys.pending;
    paper = given row.output.paper.sink;
    console = w.given row.job.typewriter.console.sink;
    work = None;
  }

  told-sound : AreSound told_devices
  told-sound = record {
    cards = λ items e. told-items (left row.input.cards.source) row.input.cards.pending items e;
    keys = λ items e. told-items (w.left row.job.typewriter.keys.source) row.job.typewriter.keys.pending items e;
    work = λ plan e. absurd cc;
  }

  told-so : RowTold left w given row told_devices
  told-so = record {
    input = refl;
    job = record { keys = refl; console = refl; work = λ works plan e. absurd cc };
    output = refl;
  }

  ended-so : EndedSo deeds how
  ended-so p one =
      each-process (λ p. how_ended view (entries (deeds p)) ≡ Some (how p)) p one
      ran.input_ended.ended ran.job_ended.ended ran.output_ended.ended

  -- So they end together as the processes of the network.
  pub ends-together : EndTogether (outcomes_of how) (stops_of by)
  ends-together = together told_devices deeds by how (side-by-side told_devices told-sound told-so) ended-so

  pub ends-faults : FaultsAre (outcomes_of how)
  ends-faults = faults-are told_devices deeds by how (side-by-side told_devices told-sound told-so) ended-so
