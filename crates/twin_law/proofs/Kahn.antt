-- Whatever the order of the events, what went into each buffer is the first of what the processes give alone: of any lists, one for
-- each buffer, that are closed under what each process puts alone for them.
use Rattle.std.proofs.Common.{◌≡◌, ◌⊎◌, inl, inr, ℕ, ◌==◌, ◌&&◌, ◌≤◌, Bool, true, false, if◌then◌else◌, List, [], ◌∷◌, ◌++◌, Option, None, Some, refl, sym, ◌∙◌, ap, subst, arith}
use Rattle.std.proofs.lemmas.List.{append_assoc, append-nil}
use Rattle.std.proofs.lemmas.Bool.{eqb-true}
use Rattle.std.proofs.lemmas.Bool.Decides.{eqb_tells}
use Rattle.queue_var.specs.Sides.{same_side}
use Rattle.network_law.specs.Acts.{Call, Alone, At, Asks, Gives, Visit, Went, Delayed, Told, Moved, moved, moved_by, if_at}
use Rattle.network_law.specs.Acts as go
use Rattle.network_law.specs.Network.{IsOne, acts}
use Rattle.network_law.specs.Network as law
use Rattle.network_law.specs.Kept.{IsTold, Stands, passed}
use Rattle.solo_base.specs.declared.outcome.Side.{Side}
use Rattle.solo_base.specs.declared.outcome.Side.TheVariants.{Sender, Receiver}
use Rattle.solo_base.specs.declared.outcome.Outcome.{Outcome}
use Rattle.solo_base.specs.Prefixes.{IsPrefixOf}
use Rattle.page_codec.specs.Packing.{fits}
use Rattle.batch_procs.specs.declared.actions.Reply.{Reply}
use Rattle.batch_procs.specs.Jobs.{Jobs, FilesAs}
use Rattle.batch_procs.specs.Parcels.{Parcel, OfFeed, OfPage, OfLine, mark}
use Rattle.place_law.specs.Process.{Does, LacksMemory, Delays, action_of}
use Rattle.batch_procs.specs.declared.actions.Reply.TheVariants as reply
use Rattle.twin_law.specs.Process.{Action, ReadCard, PutFeed, TakeFeed, AwaitRoom, AwaitItem, Request, PutPage, TakePage, Load, Release, Local, Print, Stop, Ended, Entry, Reads, place, aim, caused, closing_by, next_action}
use Rattle.twin_law.specs.Sides.{Twin, A, B}
use Rattle.twin_law.specs.Ends.{PrinterPlace, TakesLine, PrintsLine, HasPrinted, printer_aims, printer_behind, printer}
use Rattle.twin_law.specs.Input.{InputPlace, Takes, PutsFull, PutsLast, PutsEmptyA, PutsEmptyB, HasDealt, input_aims, input_behind, input}
use Rattle.twin_law.specs.Job.{JobPlace, TakesItems, LoadsFile, Toils, PutsLines, PutsLastLines, HasWorked, job_aims, job_behind, job}
use Rattle.twin_law.specs.Output.{OutputPlace, TakesLines, PutsLine, PutsOver, HasGathered, output_aims, output_behind, output}
use Rattle.twin_law.specs.Table.{process}
use Rattle.twin_law.specs.Twin.{seat, call, went_by, went, Fits, MayLack, twin, TwinState}
use Rattle.twin_law.specs.Alone.{Put, alone, put_at, AreLoadedSo, puts_by, puts, before_entry, before_all, steps_more}
use Rattle.twin_law.proofs.Lawful.{Shape, SeatedAt, next-shape, lawful, or-none, not-lacking}
use Rattle.twin_law.proofs.Marks.{IsAround, made-closes, none-delayed}
use Rattle.twin_law.proofs.Tells.{Same, IsBad, IsQuiet, alone-same, tells}

-- ---- the four that take and put, and the one that takes and prints
input-stays : {L : Type 0} (x : InputPlace) (r : Reply L) → IsBad r → input_behind x r ≡ x
input-stays (Takes side inside hand) reply.Stopped is = refl
input-stays (Takes side inside hand) reply.Failed is = refl
input-stays (Takes side inside hand) reply.NoMemory is = refl
input-stays (PutsFull side inside page hand) reply.Stopped is = refl
input-stays (PutsFull side inside page hand) reply.Failed is = refl
input-stays (PutsFull side inside page hand) reply.NoMemory is = refl
input-stays (PutsLast side page opener) reply.Stopped is = refl
input-stays (PutsLast side page opener) reply.Failed is = refl
input-stays (PutsLast side page opener) reply.NoMemory is = refl
input-stays (PutsEmptyA side) reply.Stopped is = refl
input-stays (PutsEmptyA side) reply.Failed is = refl
input-stays (PutsEmptyA side) reply.NoMemory is = refl
input-stays (PutsEmptyB side) reply.Stopped is = refl
input-stays (PutsEmptyB side) reply.Failed is = refl
input-stays (PutsEmptyB side) reply.NoMemory is = refl
input-stays HasDealt r is = refl
input-stays x r is = absurd is

job-stays : {L : Type 0} (J : Jobs L) (x : JobPlace L) (r : Reply L) → IsBad r → job_behind J x r ≡ x
job-stays J (TakesItems s) reply.Stopped is = refl
job-stays J (TakesItems s) reply.Failed is = refl
job-stays J (TakesItems s) reply.NoMemory is = refl
job-stays J (LoadsFile file s last) reply.Stopped is = refl
job-stays J (LoadsFile file s last) reply.Failed is = refl
job-stays J (LoadsFile file s last) reply.NoMemory is = refl
job-stays J (Toils s last) reply.Stopped is = refl
job-stays J (Toils s last) reply.Failed is = refl
job-stays J (Toils s last) reply.NoMemory is = refl
job-stays J (PutsLines page s last) reply.Stopped is = refl
job-stays J (PutsLines page s last) reply.Failed is = refl
job-stays J (PutsLines page s last) reply.NoMemory is = refl
job-stays J (PutsLastLines page some) reply.Stopped is = refl
job-stays J (PutsLastLines page some) reply.Failed is = refl
job-stays J (PutsLastLines page some) reply.NoMemory is = refl
job-stays J HasWorked r is = refl
job-stays J x r is = absurd is

output-stays : {L : Type 0} (x : OutputPlace) (r : Reply L) → IsBad r → output_behind x r ≡ x
output-stays (TakesLines t) reply.Stopped is = refl
output-stays (TakesLines t) reply.Failed is = refl
output-stays (TakesLines t) reply.NoMemory is = refl
output-stays (PutsLine line later t over) reply.Stopped is = refl
output-stays (PutsLine line later t over) reply.Failed is = refl
output-stays (PutsLine line later t over) reply.NoMemory is = refl
output-stays PutsOver reply.Stopped is = refl
output-stays PutsOver reply.Failed is = refl
output-stays PutsOver reply.NoMemory is = refl
output-stays HasGathered r is = refl
output-stays x r is = absurd is

printer-stays : {L : Type 0} (x : PrinterPlace) (r : Reply L) → IsBad r → printer_behind x r ≡ x
printer-stays TakesLine reply.Stopped is = refl
printer-stays TakesLine reply.Failed is = refl
printer-stays TakesLine reply.NoMemory is = refl
printer-stays (PrintsLine line) reply.Stopped is = refl
printer-stays (PrintsLine line) reply.Failed is = refl
printer-stays (PrintsLine line) reply.NoMemory is = refl
printer-stays HasPrinted r is = refl
printer-stays x r is = absurd is

printer-reads : (x : PrinterPlace) → printer_aims x ≡ Reads → ⊥
printer-reads TakesLine e = cc
printer-reads (PrintsLine line) e = cc
printer-reads HasPrinted e = cc

input-reads : (x : InputPlace) → input_aims x ≡ Reads → ⊥
input-reads (Takes side inside hand) e = cc
input-reads (PutsFull side inside full hand) e = cc
input-reads (PutsLast side last opener) e = cc
input-reads (PutsEmptyA side) e = cc
input-reads (PutsEmptyB side) e = cc
input-reads HasDealt e = cc

job-reads : {L : Type 0} (side : Twin) (x : JobPlace L) → job_aims side x ≡ Reads → ⊥
job-reads side (TakesItems s) e = cc
job-reads side (LoadsFile file s last) e = cc
job-reads side (Toils s last) e = cc
job-reads side (PutsLines page s last) e = cc
job-reads side (PutsLastLines page some) e = cc
job-reads side HasWorked e = cc

output-reads : (x : OutputPlace) → output_aims x ≡ Reads → ⊥
output-reads (TakesLines t) e = cc
output-reads (PutsLine line later t over) e = cc
output-reads PutsOver e = cc
output-reads HasGathered e = cc

pub input-quiet : {L : Type 0} → IsQuiet (input {L = L})
input-quiet = record { reads_not = input-reads; stays = input-stays }

pub job-quiet : {L : Type 0} (J : Jobs L) (side : Twin) → IsQuiet (job J side)
job-quiet J side = record { reads_not = job-reads side; stays = job-stays J }

pub output-quiet : {L : Type 0} → IsQuiet (output {L = L})
output-quiet = record { reads_not = output-reads; stays = output-stays }

pub printer-quiet : {L : Type 0} → IsQuiet (printer {L = L})
printer-quiet = record { reads_not = printer-reads; stays = printer-stays }

-- ---- what was put, as the acts tell it
if-put : {L : Type 0} (t : Bool) (x : Parcel L) → (if t then x ∷ [] else []) ++ [] ≡ if_at (t && true) x
if-put true x = refl
if-put false x = refl

pub put-append : {L : Type 0} (b : ℕ) (some more : List (Put L)) → put_at b (some ++ more) ≡ put_at b some ++ put_at b more
put-append b [] more = refl
put-append b (put ∷ some) more =
    ap (λ rest. (if b == put.at then put.parcel ∷ [] else []) ++ rest) (put-append b some more)
    ∙ sym (append_assoc (if b == put.at then put.parcel ∷ [] else []) (put_at b some) (put_at b more))

and-not : {L : Type 0} (t : Bool) (x : Parcel L) → [] ≡ if_at (t && false) x
and-not true x = refl
and-not false x = refl

put-now : {L : Type 0} (p b : ℕ) (a : Action) (r : Reply L) → (b == 0) ≡ false → Fits a r → put_at b (puts_by a r) ≡ moved_by b Sender (call p a) (went_by a r)
put-now p b (PutFeed c f) reply.Done some fits = if-put (b == c) (OfFeed f)
put-now p b (PutFeed c f) reply.Stopped some fits = refl
put-now p b (PutPage c page) reply.Done some fits = if-put (b == c) (OfPage page (mark page))
put-now p b (PutPage c page) reply.Failed some fits = refl
put-now p b (Print line) reply.Done some fits = ap (λ t. (if t then OfLine line ∷ [] else []) ++ []) some
put-now p b (Print line) reply.Failed some fits = refl
put-now p b (Print line) reply.NoMemory some fits = refl
put-now p b (TakeFeed c) (reply.Feed f) some fits = and-not (b == c) (OfFeed f)
put-now p b (TakeFeed c) reply.Stopped some fits = refl
put-now p b (TakePage c) (reply.Page page last) some fits = and-not (b == c) (OfPage page last)
put-now p b (TakePage c) reply.Failed some fits = refl
put-now p b ReadCard (reply.Card answer) some fits = refl
put-now p b (AwaitRoom c) reply.Done some fits = refl
put-now p b (AwaitRoom c) reply.Stopped some fits = refl
put-now p b (AwaitItem c) reply.Done some fits = refl
put-now p b (AwaitItem c) reply.Stopped some fits = refl
put-now p b Request reply.Done some fits = refl
put-now p b Release reply.Done some fits = refl
put-now p b (Load file) (reply.Loaded load) some fits = refl
put-now p b (Load file) reply.Failed some fits = refl
put-now p b (Load file) reply.NoMemory some fits = refl
put-now p b Local reply.Done some fits = refl
put-now p b (Stop c) reply.Done some fits = refl
put-now p b (Ended how) reply.Done some fits = refl
put-now p b a r some fits = absurd fits

put-lacking : {L : Type 0} (p b : ℕ) (a : Action) (r : Reply L) → MayLack a r → [] ≡ moved_by b Sender (call p a) (went_by a r)
put-lacking p b (TakePage c) (reply.Page page last) may = and-not (b == c) (OfPage page last)
put-lacking p b Local reply.Done may = refl
put-lacking p b a r may = absurd may

abbrev pub seen_by : {L : Type 0} → ℕ → Action → Reply L → List (Parcel L)
seen_by b (TakeFeed c) (reply.Feed f) = if b == c then OfFeed f ∷ [] else []
seen_by b (TakePage c) (reply.Page page last) = if b == c then OfPage page last ∷ [] else []
seen_by b action reply = []

abbrev pub seen : {L : Type 0} → ℕ → List (Entry L) → List (Parcel L)
seen b [] = []
seen b (Does action reply ∷ before) = seen b before ++ seen_by b action reply
seen b (LacksMemory action reply ∷ before) = seen b before
seen b (Delays action ∷ before) = seen b before

if-ahead : {L : Type 0} (t : Bool) (x : Parcel L) (ahead : List (Parcel L)) → (if t then x ∷ ahead else ahead) ≡ (if t then x ∷ [] else []) ++ ahead
if-ahead true x ahead = refl
if-ahead false x ahead = refl

entry-seen : {L : Type 0} (b : ℕ) (a : Action) (r : Reply L) (ahead : ℕ → List (Parcel L)) → Fits a r → before_entry a r ahead b ≡ seen_by b a r ++ ahead b
entry-seen b (TakeFeed c) (reply.Feed f) ahead fits = if-ahead (b == c) (OfFeed f) (ahead b)
entry-seen b (TakePage c) (reply.Page page last) ahead fits = if-ahead (b == c) (OfPage page last) (ahead b)
entry-seen b a r ahead fits = refl

if-got : {L : Type 0} (t : Bool) (x : Parcel L) → (if t then x ∷ [] else []) ≡ if_at (t && true) x
if-got true x = refl
if-got false x = refl

seen-now : {L : Type 0} (p b : ℕ) (a : Action) (r : Reply L) → Fits a r → seen_by b a r ≡ moved_by b Receiver (call p a) (went_by a r)
seen-now p b (TakeFeed c) (reply.Feed f) fits = if-got (b == c) (OfFeed f)
seen-now p b (TakePage c) (reply.Page page last) fits = if-got (b == c) (OfPage page last)
seen-now p b (TakeFeed c) reply.Stopped fits = refl
seen-now p b (TakePage c) reply.Failed fits = refl
seen-now p b (PutFeed c f) reply.Done fits = and-not (b == c) (OfFeed f)
seen-now p b (PutFeed c f) reply.Stopped fits = refl
seen-now p b (PutPage c page) reply.Done fits = and-not (b == c) (OfPage page (mark page))
seen-now p b (PutPage c page) reply.Failed fits = refl
seen-now p b (Print line) reply.Done fits = refl
seen-now p b (Print line) reply.Failed fits = refl
seen-now p b (Print line) reply.NoMemory fits = refl
seen-now p b ReadCard (reply.Card answer) fits = refl
seen-now p b (AwaitRoom c) reply.Done fits = refl
seen-now p b (AwaitRoom c) reply.Stopped fits = refl
seen-now p b (AwaitItem c) reply.Done fits = refl
seen-now p b (AwaitItem c) reply.Stopped fits = refl
seen-now p b Request reply.Done fits = refl
seen-now p b Release reply.Done fits = refl
seen-now p b (Load file) (reply.Loaded load) fits = refl
seen-now p b (Load file) reply.Failed fits = refl
seen-now p b (Load file) reply.NoMemory fits = refl
seen-now p b Local reply.Done fits = refl
seen-now p b (Stop c) reply.Done fits = refl
seen-now p b (Ended how) reply.Done fits = refl
seen-now p b a r fits = absurd fits

pub around-unseen : {L : Type 0} (b : ℕ) (a : Action) (r : Reply L) → IsAround a → seen_by b a r ≡ []
around-unseen b (AwaitRoom c) r is = refl
around-unseen b (AwaitItem c) r is = refl
around-unseen b Request r is = refl
around-unseen b Release r is = refl
around-unseen b (Stop c) r is = refl
around-unseen b (Ended how) r is = refl
around-unseen b a r is = absurd is

prefix-more : {T : Type 0} (a b c d : List T) → IsPrefixOf a b → c ≡ [] → IsPrefixOf (a ++ c) (b ++ d)
prefix-more a b c d (rest, e) none = (
  rest ++ d,
  ap (λ c. (a ++ c) ++ (rest ++ d)) none ∙ ap (λ a. a ++ (rest ++ d)) (append-nil a)
      ∙ sym (append_assoc a rest d) ∙ ap (λ b. b ++ d) e,
)

pub prefix-trans : {T : Type 0} (a b c : List T) → IsPrefixOf a b → IsPrefixOf b c → IsPrefixOf a c
prefix-trans a b c (r, e) (q, f) = (r ++ q, sym (append_assoc a r q) ∙ ap (λ b. b ++ q) e ∙ f)

module _ {L : Type 0} (J : Jobs L) (p : ℕ) (one : IsOne (twin J) p) where
  pub put-sent : (b : ℕ) (h : List (Entry L)) → (b == 0) ≡ false → law.Follows (twin J) p h → put_at b (puts h) ≡ moved b Sender (acts (twin J) p h)
  put-sent b [] some follows = refl
  put-sent b (Does a r ∷ h) some follows =
      put-append b (puts h) (puts_by a r) ∙ ap (λ now. put_at b (puts h) ++ now) (put-now p b a r some follows.1.0)
      ∙ ap (λ old. old ++ moved_by b Sender (call p a) (went_by a r)) (put-sent b h some follows.2)
  put-sent b (LacksMemory a r ∷ h) some follows =
      put-sent b h some follows.2 ∙ sym (append-nil (moved b Sender (acts (twin J) p h)))
      ∙ ap (λ now. moved b Sender (acts (twin J) p h) ++ now) (put-lacking p b a r follows.1.1)
  put-sent b (Delays a ∷ h) some follows =
      put-sent b h some follows.2 ∙ sym (append-nil (moved b Sender (acts (twin J) p h)))
      ∙ ap (λ now. moved b Sender (acts (twin J) p h) ++ now) (sym (none-delayed b Sender (call p a)))

  pub before-seen : (b : ℕ) (h : List (Entry L)) (ahead : ℕ → List (Parcel L)) → law.Follows (twin J) p h → before_all h ahead b ≡ seen b h ++ ahead b
  before-seen b [] ahead follows = refl
  before-seen b (Does a r ∷ h) ahead follows =
      before-seen b h (before_entry a r ahead) follows.2 ∙ ap (λ now. seen b h ++ now) (entry-seen b a r ahead follows.1.0)
      ∙ sym (append_assoc (seen b h) (seen_by b a r) (ahead b))
  before-seen b (LacksMemory a r ∷ h) ahead follows = before-seen b h ahead follows.2
  before-seen b (Delays a ∷ h) ahead follows = before-seen b h ahead follows.2

  -- with a cause nothing more is taken
  caused-around : (h : List (Entry L)) (a : Action) (how : Outcome) → caused (process J p) h ≡ Some how → next_action (process J p) h ≡ Some a → IsAround a
  caused-around h a how some next =
      made-closes (SeatedAt J p) h a
      (subst (λ cause. Shape J p h (closing_by (process J p) cause (aim (process J p) h)) a) some (next-shape J p h a one next))

  abbrev pub Tied : ℕ → List (Entry L) → Type 0
  Tied b h = (caused (process J p) h ≡ None → seen b h ≡ moved b Receiver (acts (twin J) p h)) × IsPrefixOf (seen b h) (moved b Receiver (acts (twin J) p h))

  pub tied : (b : ℕ) (h : List (Entry L)) → law.Follows (twin J) p h → Tied b h
  tied b [] follows = ((λ none. refl), ([], refl))
  tied b (Does a r ∷ h) follows = by-cause (caused (process J p) h) refl (tied b h follows.2) where
    by-cause : (cause : Option Outcome) → caused (process J p) h ≡ cause → Tied b h → Tied b (Does a r ∷ h)
    by-cause None is was =
        let same : seen b (Does a r ∷ h) ≡ moved b Receiver (acts (twin J) p (Does a r ∷ h)) =
        ap (λ old. old ++ seen_by b a r) (was.0 is) ∙ ap (λ now. moved b Receiver (acts (twin J) p h) ++ now) (seen-now p b a r follows.1.0) in
        ((λ none. same), ([], append-nil (seen b (Does a r ∷ h)) ∙ same))
    by-cause (Some how) is was = (
      (λ none. absurd (let old = or-none (caused (process J p) h) _ none in let no = sym old ∙ is in cc)),
      prefix-more (seen b h) (moved b Receiver (acts (twin J) p h)) (seen_by b a r) (moved_by b Receiver (call p a) (went_by a r)) was.1
          (around-unseen b a r (caused-around h a how is follows.0)),
    )
  tied b (LacksMemory a r ∷ h) follows =
      let was = tied b h follows.2 in (
        (λ none. absurd (not-lacking (caused (process J p) h) _ none)),
        subst (λ ms. IsPrefixOf ms (moved b Receiver (acts (twin J) p h) ++ moved_by b Receiver (call p a) (went_by a r))) (append-nil (seen b h))
            (prefix-more (seen b h) (moved b Receiver (acts (twin J) p h)) [] (moved_by b Receiver (call p a) (went_by a r)) was.1 refl),
      )
  tied b (Delays a ∷ h) follows =
      let was = tied b h follows.2 in
      let same : moved b Receiver (acts (twin J) p h) ≡ moved b Receiver (acts (twin J) p (Delays a ∷ h)) =
      sym (append-nil (moved b Receiver (acts (twin J) p h))) ∙ ap (λ now. moved b Receiver (acts (twin J) p h) ++ now) (sym (none-delayed b Receiver (call p a))) in
      ((λ none. was.0 none ∙ same), subst (IsPrefixOf (seen b h)) same was.1)

  -- what it took is the first of these lists; then what it put, followed by what it would put alone, is what it puts alone for them
  pub puts-alone : (F : FilesAs L) (quiet : IsQuiet (process J p)) (all : ℕ → List (Parcel L)) (h : List (Entry L)) → law.Follows (twin J) p h → AreLoadedSo F h
      → ((b : ℕ) → IsPrefixOf (moved b Receiver (acts (twin J) p h)) (all b)) → (n : ℕ)
      → (ahead : ℕ → List (Parcel L)) × (puts h ++ alone F (process J p) n (place (process J p) h) ahead ≡ alone F (process J p) (steps_more h n) (process J p).start all)
  puts-alone F quiet all h follows so took n =
      let first : (b : ℕ) → IsPrefixOf (seen b h) (all b) =
      λ b. prefix-trans (seen b h) (moved b Receiver (acts (twin J) p h)) (all b) (tied b h follows).1 (took b) in
      let ahead : ℕ → List (Parcel L) = λ b. (first b).0 in
      let same : Same (before_all h ahead) all = λ b. before-seen b h ahead follows ∙ (first b).1 in
      (ahead, tells J F p one quiet h n ahead follows so ∙ alone-same F (process J p) (steps_more h n) (process J p).start (before_all h ahead) all same)

  pub put-alone : (F : FilesAs L) (quiet : IsQuiet (process J p)) (all : ℕ → List (Parcel L)) (h : List (Entry L)) → law.Follows (twin J) p h → AreLoadedSo F h
      → ((b : ℕ) → IsPrefixOf (moved b Receiver (acts (twin J) p h)) (all b)) → (c n : ℕ) → (c == 0) ≡ false
      → IsPrefixOf (moved c Sender (acts (twin J) p h)) (put_at c (alone F (process J p) (steps_more h n) (process J p).start all))
  put-alone F quiet all h follows so took c n some =
      let (ahead, whole) = puts-alone F quiet all h follows so took n in (
        put_at c (alone F (process J p) n (place (process J p) h) ahead),
        ap (λ ms. ms ++ put_at c (alone F (process J p) n (place (process J p) h) ahead)) (sym (put-sent c h some follows))
            ∙ sym (put-append c (puts h) (alone F (process J p) n (place (process J p) h) ahead)) ∙ ap (put_at c) whole,
      )

-- ---- who doesn't sit at a side moves nothing there
same-or : (side of : Side) → (same_side side of ≡ false) ⊎ (side ≡ of)
same-or Sender Sender = inr refl
same-or Receiver Receiver = inr refl
same-or Sender Receiver = inl refl
same-or Receiver Sender = inl refl

and-false : (t u : Bool) → u ≡ false → (t && u) ≡ false
and-false true u e = e
and-false false u e = refl

moved-elsewhere : {L : Type 0} (b : ℕ) (side : Side) (c : Call) (w : Went (Parcel L)) → ((visit : Visit) → c ≡ At b side visit → ⊥) → moved_by b side c w ≡ []
moved-elsewhere b side (At d of visit) (Moved x) not =
    elim (same-or side of) as (λ _. if_at ((b == d) && same_side side of) x ≡ []) [
      | inl apart ↦ ap (λ t. if_at t x) (and-false (b == d) (same_side side of) apart)
      | inr same ↦ elim (eqb_tells b d) as (λ _. if_at ((b == d) && same_side side of) x ≡ []) [
        | inl e ↦ absurd (not visit (ap (λ d. At d of visit) (sym e.1) ∙ ap (λ of. At b of visit) (sym same)))
        | inr e ↦ ap (λ t. if_at (t && same_side side of) x) e.0
      ]
    ]
moved-elsewhere b side (At d of visit) Delayed not = refl
moved-elsewhere b side (At d of visit) Told not = refl
moved-elsewhere b side (At d of visit) go.Done not = refl
moved-elsewhere b side Alone w not = refl
moved-elsewhere b side Asks w not = refl
moved-elsewhere b side Gives w not = refl

-- which process takes from a buffer
pub seat-of : (b : ℕ) (P : ℕ → ℕ → Type 0) → P 1 2 → P 2 3 → P 3 4 → P 4 5 → P 5 5 → P b 6 → P b (seat b Receiver)
seat-of b P one two three four five six =
    elim (b == 1) as (λ t. (b == 1) ≡ t → P b (if t then 2 else if b == 2 then 3 else if b == 3 then 4 else if b == 4 then 5 else if b == 5 then 5 else 6)) [
      | true ↦ (λ e. subst (λ b. P b 2) (sym (eqb-true b 1 e)) one)
      | false ↦ (λ _. elim (b == 2) as (λ t. (b == 2) ≡ t → P b (if t then 3 else if b == 3 then 4 else if b == 4 then 5 else if b == 5 then 5 else 6)) [
        | true ↦ (λ e. subst (λ b. P b 3) (sym (eqb-true b 2 e)) two)
        | false ↦ (λ _. elim (b == 3) as (λ t. (b == 3) ≡ t → P b (if t then 4 else if b == 4 then 5 else if b == 5 then 5 else 6)) [
          | true ↦ (λ e. subst (λ b. P b 4) (sym (eqb-true b 3 e)) three)
          | false ↦ (λ _. elim (b == 4) as (λ t. (b == 4) ≡ t → P b (if t then 5 else if b == 5 then 5 else 6)) [
            | true ↦ (λ e. subst (λ b. P b 5) (sym (eqb-true b 4 e)) four)
            | false ↦ (λ _. elim (b == 5) as (λ t. (b == 5) ≡ t → P b (if t then 5 else 6)) [
              | true ↦ (λ e. subst (λ b. P b 5) (sym (eqb-true b 5 e)) five)
              | false ↦ (λ _. six)
            ] refl)
          ] refl)
        ] refl)
      ] refl)
    ] refl

module _ {L : Type 0} (J : Jobs L) (opening s : TwinState L) (st : Stands (twin J) opening s) (told : (b : ℕ) → IsTold (s.buffers b)) (F : FilesAs L)
    (so : (p : ℕ) → AreLoadedSo F (s.histories p)) where
  not-there : (p b : ℕ) (h : List (Entry L)) → IsOne (twin J) p → law.Follows (twin J) p h → (seat b Receiver ≡ p → ⊥) → moved b Receiver (acts (twin J) p h) ≡ []
  not-there p b [] one follows not = refl
  not-there p b (entry ∷ h) one follows not =
      let old = not-there p b h one follows.2 not in
      let now : moved_by b Receiver (call p (action_of entry)) (went entry) ≡ [] =
      moved-elsewhere b Receiver (call p (action_of entry)) (went entry) (λ visit e. not ((lawful J).seated p h b Receiver visit one follows.2
      record { action = action_of entry; next = follows.0; call = e })) in
      ap (λ ms. ms ++ moved_by b Receiver (call p (action_of entry)) (went entry)) old ∙ now

  pub handed : (b : ℕ) → IsPrefixOf (passed (twin J) s b Receiver) (passed (twin J) s b Sender)
  handed b = (let (inside, is) = told b in (inside, (st.buffers.hand_over b).parcels inside is))

  module _ (all : ℕ → List (Parcel L)) where
    -- all that went into a buffer is the first of its list
    abbrev pub Within : ℕ → Type 0
    Within b = IsPrefixOf (passed (twin J) s b Sender) (all b)

    pub took : (p : ℕ) → IsOne (twin J) p → ((b : ℕ) → seat b Receiver ≡ p → Within b) → (b : ℕ) → IsPrefixOf (moved b Receiver (acts (twin J) p (s.histories p))) (all b)
    took p one within b =
        elim (eqb_tells (seat b Receiver) p) as (λ _. IsPrefixOf (moved b Receiver (acts (twin J) p (s.histories p))) (all b)) [
          | inl e ↦ prefix-trans (moved b Receiver (acts (twin J) p (s.histories p))) (passed (twin J) s b Sender) (all b)
              (subst (λ p. IsPrefixOf (moved b Receiver (acts (twin J) p (s.histories p))) (passed (twin J) s b Sender)) e.1 (handed b)) (within b e.1)
          | inr e ↦ subst (λ ms. IsPrefixOf ms (all b)) (sym (not-there p b (s.histories p) one (st.follows p) e.1)) (all b, refl)
        ]

    -- what a process puts alone for these lists, in however many steps, is the first of them
    abbrev pub IsClosed : Type 0
    IsClosed = (c n : ℕ) → 2 ≤ c → c ≤ 6 → IsPrefixOf (put_at c (alone F (process J (seat c Sender)) n (process J (seat c Sender)).start all)) (all c)

    within-by : (p c : ℕ) → IsOne (twin J) p → IsQuiet (process J p) → seat c Sender ≡ p → (c == 0) ≡ false → 2 ≤ c → c ≤ 6 → IsClosed
        → ((b : ℕ) → seat b Receiver ≡ p → Within b) → Within c
    within-by p c one quiet seated some low high closed within =
        let first = put-alone J p one F quiet all (s.histories p) (st.follows p) (so p) (took p one within) c 0 some in
        let second = closed c (steps_more (s.histories p) 0) low high in
        let here : IsPrefixOf (put_at c (alone F (process J p) (steps_more (s.histories p) 0) (process J p).start all)) (all c) =
        subst (λ q. IsPrefixOf (put_at c (alone F (process J q) (steps_more (s.histories p) 0) (process J q).start all)) (all c)) seated second in
        subst (λ q. IsPrefixOf (moved c Sender (acts (twin J) q (s.histories q))) (all c)) (sym seated)
        (prefix-trans (moved c Sender (acts (twin J) p (s.histories p))) _ (all c) first here)

    pub record AllWithin : Type 0 where
      pub to_a : Within 2
      pub to_b : Within 3
      pub from_a : Within 4
      pub from_b : Within 5
      pub lines : Within 6

    pub kahn : Within 1 → IsClosed → AllWithin
    kahn first closed =
        let for_input : (b : ℕ) → seat b Receiver ≡ 2 → Within b =
        λ b. seat-of b (λ b q. q ≡ 2 → Within b) (λ e. first) (λ e. absurd cc) (λ e. absurd cc) (λ e. absurd cc) (λ e. absurd cc) (λ e. absurd cc) in
        let two = within-by 2 2 (omega arith, omega arith) input-quiet refl refl (omega arith) (omega arith) closed for_input in
        let three = within-by 2 3 (omega arith, omega arith) input-quiet refl refl (omega arith) (omega arith) closed for_input in
        let four = within-by 3 4 (omega arith, omega arith) (job-quiet J A) refl refl (omega arith) (omega arith) closed
        (λ b. seat-of b (λ b q. q ≡ 3 → Within b) (λ e. absurd cc) (λ e. two) (λ e. absurd cc) (λ e. absurd cc) (λ e. absurd cc) (λ e. absurd cc)) in
        let five = within-by 4 5 (omega arith, omega arith) (job-quiet J B) refl refl (omega arith) (omega arith) closed
        (λ b. seat-of b (λ b q. q ≡ 4 → Within b) (λ e. absurd cc) (λ e. absurd cc) (λ e. three) (λ e. absurd cc) (λ e. absurd cc) (λ e. absurd cc)) in
        let six = within-by 5 6 (omega arith, omega arith) output-quiet refl refl (omega arith) (omega arith) closed
        (λ b. seat-of b (λ b q. q ≡ 5 → Within b) (λ e. absurd cc) (λ e. absurd cc) (λ e. absurd cc) (λ e. four) (λ e. five) (λ e. absurd cc)) in
        record { to_a = two; to_b = three; from_a = four; from_b = five; lines = six }
