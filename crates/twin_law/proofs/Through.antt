-- What goes through a buffer: feeds through the two line buffers, pages through the four spools.
use Rattle.std.proofs.Common.{◌≡◌, inl, inr, ℕ, ◌==◌, ◌&&◌, Bool, true, false, List, [], ◌∷◌, ◌++◌, Some, refl, sym, subst}
use Rattle.std.specs.List.{AllByRecursion}
use Rattle.std.proofs.lemmas.Bool.Decides.{eqb_tells}
use Rattle.network_law.specs.Acts.{Delayed, moved, moved_by, if_at}
use Rattle.network_law.specs.Network.{IsOne, acts}
use Rattle.network_law.specs.Network as law
use Rattle.network_law.specs.Kept.{Stands, passed}
use Rattle.solo_base.specs.declared.outcome.Side.TheVariants.{Sender, Receiver}
use Rattle.page_codec.specs.Packing.{fits}
use Rattle.batch_procs.specs.declared.actions.Reply.{Reply}
use Rattle.batch_procs.specs.Jobs.{Jobs}
use Rattle.batch_procs.specs.Parcels.{Parcel, OfFeed, OfPage, mark, IsAFeed, IsAPage}
use Rattle.place_law.specs.Process.{Does, LacksMemory, Delays}
use Rattle.batch_procs.specs.declared.actions.Reply.TheVariants as reply
use Rattle.twin_law.specs.Process.{Action, ReadCard, PutFeed, TakeFeed, AwaitRoom, AwaitItem, Request, PutPage, TakePage, Load, Release, Local, Print, Stop, Ended, Entry, Aim, Reads, PutsFeed, TakesFeed, PutsPage, TakesPage, Loads, Works, Prints, Finishes, place, aim, next_action}
use Rattle.twin_law.specs.Sides.{Twin, A, B, from_job}
use Rattle.twin_law.specs.Ends.{CardPlace, ReadsCard, PutsCard, PutsEnd, HasPut, card_aims, PrinterPlace, TakesLine, PrintsLine, HasPrinted, printer_aims}
use Rattle.twin_law.specs.Input.{InputPlace, Takes, PutsFull, PutsLast, PutsEmptyA, PutsEmptyB, HasDealt, input_aims}
use Rattle.twin_law.specs.Job.{JobPlace, TakesItems, LoadsFile, Toils, PutsLines, PutsLastLines, HasWorked, job_aims}
use Rattle.twin_law.specs.Output.{OutputPlace, TakesLines, PutsLine, PutsOver, HasGathered, output_aims}
use Rattle.twin_law.specs.Table.{process}
use Rattle.twin_law.specs.Twin.{seat, call, went_by, Fits, MayLack, twin, TwinState}
use Rattle.twin_law.specs.Opening.{is_line}
use Rattle.twin_law.proofs.Lawful.{each-process}
use Rattle.twin_law.proofs.Marks.{makes, IsAround, made, none-delayed}

abbrev pub KindAt : {L : Type 0} → Bool → Parcel L → Type 0
KindAt true x = IsAFeed x
KindAt false x = IsAPage x

abbrev pub AimsRightly : Aim → Type 0
AimsRightly (PutsFeed b f) = is_line b ≡ true
AimsRightly (TakesFeed b) = is_line b ≡ true
AimsRightly (PutsPage b page) = is_line b ≡ false
AimsRightly (TakesPage b) = is_line b ≡ false
AimsRightly m = Unit {0}

abbrev pub ActsRightly : Action → Type 0
ActsRightly (PutFeed b f) = is_line b ≡ true
ActsRightly (TakeFeed b) = is_line b ≡ true
ActsRightly (PutPage b page) = is_line b ≡ false
ActsRightly (TakePage b) = is_line b ≡ false
ActsRightly a = Unit {0}

card-aims : (x : CardPlace) → AimsRightly (card_aims x)
card-aims ReadsCard = tt
card-aims (PutsCard item) = refl
card-aims PutsEnd = refl
card-aims HasPut = tt

input-aims : (x : InputPlace) → AimsRightly (input_aims x)
input-aims (Takes side inside hand) = refl
input-aims (PutsFull A inside page hand) = refl
input-aims (PutsFull B inside page hand) = refl
input-aims (PutsLast A page opener) = refl
input-aims (PutsLast B page opener) = refl
input-aims (PutsEmptyA side) = refl
input-aims (PutsEmptyB side) = refl
input-aims HasDealt = tt

job-aims : {L : Type 0} (side : Twin) (x : JobPlace L) → AimsRightly (job_aims side x)
job-aims A (TakesItems s) = refl
job-aims B (TakesItems s) = refl
job-aims side (LoadsFile file s last) = tt
job-aims side (Toils s last) = tt
job-aims A (PutsLines page s last) = refl
job-aims B (PutsLines page s last) = refl
job-aims A (PutsLastLines page some) = refl
job-aims B (PutsLastLines page some) = refl
job-aims side HasWorked = tt

turn-aims : (side : Twin) → AimsRightly (TakesPage (from_job side))
turn-aims A = refl
turn-aims B = refl

output-aims : (x : OutputPlace) → AimsRightly (output_aims x)
output-aims (TakesLines t) = turn-aims t.side
output-aims (PutsLine line later t over) = refl
output-aims PutsOver = refl
output-aims HasGathered = tt

printer-aims : (x : PrinterPlace) → AimsRightly (printer_aims x)
printer-aims TakesLine = refl
printer-aims (PrintsLine line) = tt
printer-aims HasPrinted = tt

acts-around : (a : Action) → IsAround a → ActsRightly a
acts-around (AwaitRoom b) is = tt
acts-around (AwaitItem b) is = tt
acts-around Request is = tt
acts-around Release is = tt
acts-around (Stop b) is = tt
acts-around (Ended how) is = tt
acts-around a is = absurd is

acts-made : (m : Aim) → AimsRightly m → ActsRightly (makes m)
acts-made Reads is = tt
acts-made (PutsFeed b f) is = is
acts-made (TakesFeed b) is = is
acts-made (PutsPage b page) is = is
acts-made (TakesPage b) is = is
acts-made (Loads file) is = tt
acts-made Works is = tt
acts-made (Prints line) is = tt
acts-made Finishes is = tt

-- ---- what is moved at a side
abbrev AreOf : {L : Type 0} → ℕ → List (Parcel L) → Type 0
AreOf b all = AllByRecursion (KindAt (is_line b)) all

moved-kind : {L : Type 0} (b c : ℕ) (x : Parcel L) → KindAt (is_line c) x → AreOf b (if_at ((b == c) && true) x)
moved-kind b c x is =
    elim (eqb_tells b c) as (λ _. AreOf b (if_at ((b == c) && true) x)) [
      | inl e ↦ rw e.0 (subst (λ c. KindAt (is_line c) x) (sym e.1) is, tt)
      | inr e ↦ rw e.0 tt
    ]

moved-not : {L : Type 0} (b : ℕ) (t : Bool) (x : Parcel L) → AreOf b (if_at (t && false) x)
moved-not b true x = tt
moved-not b false x = tt

put-kind : {L : Type 0} (p b : ℕ) (a : Action) (r : Reply L) → ActsRightly a → Fits a r → AreOf b (moved_by b Sender (call p a) (went_by a r))
put-kind {L} p b (PutFeed c f) reply.Done is fits = moved-kind b c (OfFeed f) (subst (λ t. KindAt {L = L} t (OfFeed f)) (sym is) tt)
put-kind p b (PutFeed c f) reply.Stopped is fits = tt
put-kind {L} p b (PutPage c page) reply.Done is fits = moved-kind b c (OfPage page (mark page)) (subst (λ t. KindAt {L = L} t (OfPage page (mark page))) (sym is) tt)
put-kind p b (PutPage c page) reply.Failed is fits = tt
put-kind p b (TakeFeed c) (reply.Feed f) is fits = moved-not b (b == c) (OfFeed f)
put-kind p b (TakeFeed c) reply.Stopped is fits = tt
put-kind p b (TakePage c) (reply.Page page last) is fits = moved-not b (b == c) (OfPage page last)
put-kind p b (TakePage c) reply.Failed is fits = tt
put-kind p b ReadCard (reply.Card answer) is fits = tt
put-kind p b (AwaitRoom c) reply.Done is fits = tt
put-kind p b (AwaitRoom c) reply.Stopped is fits = tt
put-kind p b (AwaitItem c) reply.Done is fits = tt
put-kind p b (AwaitItem c) reply.Stopped is fits = tt
put-kind p b Request reply.Done is fits = tt
put-kind p b Release reply.Done is fits = tt
put-kind p b (Load file) (reply.Loaded load) is fits = tt
put-kind p b (Load file) reply.Failed is fits = tt
put-kind p b (Load file) reply.NoMemory is fits = tt
put-kind p b Local reply.Done is fits = tt
put-kind p b (Print line) reply.Done is fits = tt
put-kind p b (Print line) reply.Failed is fits = tt
put-kind p b (Print line) reply.NoMemory is fits = tt
put-kind p b (Stop c) reply.Done is fits = tt
put-kind p b (Ended how) reply.Done is fits = tt
put-kind p b a r is fits = absurd fits

lacks-kind : {L : Type 0} (p b : ℕ) (a : Action) (r : Reply L) → MayLack a r → AreOf b (moved_by b Sender (call p a) (went_by a r))
lacks-kind p b (TakePage c) (reply.Page page last) may = moved-not b (b == c) (OfPage page last)
lacks-kind p b Local reply.Done may = tt
lacks-kind p b a r may = absurd may

all-both : {T : Type 0} (Is : T → Type 0) (some more : List T) → AllByRecursion Is some → AllByRecursion Is more → AllByRecursion Is (some ++ more)
all-both Is [] more all rest = rest
all-both Is (x ∷ some) more all rest = (all.0, all-both Is some more all.1 rest)

all-behind : {T : Type 0} (Is : T → Type 0) (some more : List T) → AllByRecursion Is (some ++ more) → AllByRecursion Is more
all-behind Is [] more all = all
all-behind Is (x ∷ some) more all = all-behind Is some more all.1

module _ {L : Type 0} (J : Jobs L) where
  abbrev pub Rightly : ℕ → Type 0
  Rightly p = (x : (process J p).Place) → AimsRightly ((process J p).aims x)

  pub aims-rightly : (p : ℕ) → IsOne (twin J) p → Rightly p
  aims-rightly p one = each-process J Rightly p one card-aims input-aims (job-aims A) (job-aims B) output-aims printer-aims

  pub acts-rightly : (p : ℕ) (h : List (Entry L)) (a : Action) → IsOne (twin J) p → next_action (process J p) h ≡ Some a → ActsRightly a
  acts-rightly p h a one next =
      elim (made J p h a one next) as (λ _. ActsRightly a) [
        | inl around ↦ acts-around a around
        | inr same ↦ subst ActsRightly same (acts-made (aim (process J p) h) (aims-rightly p one (place (process J p) h)))
      ]

  put-kinds : (p b : ℕ) (h : List (Entry L)) → IsOne (twin J) p → law.Follows (twin J) p h → AreOf b (moved b Sender (acts (twin J) p h))
  put-kinds p b [] one follows = tt
  put-kinds p b (Does a r ∷ h) one follows =
      all-both (KindAt (is_line b)) (moved b Sender (acts (twin J) p h)) (moved_by b Sender (call p a) (went_by a r)) (put-kinds p b h one follows.2)
      (put-kind p b a r (acts-rightly p h a one follows.0) follows.1.0)
  put-kinds p b (LacksMemory a r ∷ h) one follows =
      all-both (KindAt (is_line b)) (moved b Sender (acts (twin J) p h)) (moved_by b Sender (call p a) (went_by a r)) (put-kinds p b h one follows.2)
      (lacks-kind p b a r follows.1.1)
  put-kinds p b (Delays a ∷ h) one follows =
      all-both (KindAt (is_line b)) (moved b Sender (acts (twin J) p h)) (moved_by b Sender (call p a) Delayed) (put-kinds p b h one follows.2)
      (subst (AreOf b) (sym (none-delayed b Sender (call p a))) tt)

  -- all that is inside
  pub kinds-inside : (opening s : TwinState L) → Stands (twin J) opening s → (b : ℕ) (inside : List (Parcel L)) → (s.buffers b).inside ≡ Some inside
      → AreOf b inside
  kinds-inside opening s st b inside told =
      let p = seat b Sender in
      let put : AreOf b (passed (twin J) s b Sender) =
      elim (st.others p) as (λ _. AreOf b (passed (twin J) s b Sender)) [
        | inl one ↦ put-kinds p b (s.histories p) one (st.follows p)
        | inr none ↦ rw none tt
      ] in
      all-behind (KindAt (is_line b)) (passed (twin J) s b Receiver) inside (subst (AreOf b) (sym ((st.buffers.hand_over b).parcels inside told)) put)
