-- Who stopped a buffer without a cause did all its work; what a process does at its end and before it, and what one found that is
-- told of a stop.
use Rattle.std.proofs.Common.{◌≡◌, ◌⊎◌, inl, inr, ℕ, zero, suc, ◌≤◌, ◌==◌, ◌||◌, Bool, true, false, if◌then◌else◌, List, [], ◌∷◌, ◌++◌, length, length-append, Option, None, Some, refl, sym, ◌∙◌, ap, subst, arith}
use Rattle.std.proofs.lemmas.Bool.{eqb-true}
use Rattle.std.proofs.lemmas.List.{append-nil}
use Rattle.network_law.specs.Acts.{made_stop}
use Rattle.network_law.specs.Buffer.{Buffer, Closed as IsClosed, found, room_found, parcel_found}
use Rattle.network_law.specs.Network.{IsOne, acts}
use Rattle.network_law.specs.Network as law
use Rattle.queue_var.specs.declared.stops.Stops.{Stops as Marks}
use Rattle.queue_var.specs.declared.stops.Stops.TheVariants as marks
use Rattle.queue_var.specs.Sides.{first_of, is_among, stopped_by, other}
use Rattle.solo_base.specs.Prefixes.{IsPrefixOf}
use Rattle.solo_base.specs.declared.item.Feed.TheVariants as feed
use Rattle.solo_base.specs.declared.page.Page.{Page}
use Rattle.solo_base.specs.declared.outcome.Side.{Side}
use Rattle.solo_base.specs.declared.outcome.Side.TheVariants.{Sender, Receiver}
use Rattle.solo_base.specs.declared.outcome.Outcome.{Outcome}
use Rattle.solo_base.specs.declared.outcome.Outcome.TheVariants as outcome
use Rattle.batch_procs.specs.declared.actions.Reply.{Reply}
use Rattle.batch_procs.specs.declared.actions.Reply.TheVariants as reply
use Rattle.batch_procs.specs.Jobs.{Jobs, FilesAs}
use Rattle.batch_procs.specs.Parcels.{Parcel}
use Rattle.place_law.specs.Process.{Does, LacksMemory, Delays, or_new}
use Rattle.twin_law.specs.Process.{Action, Release, Stop, Ended, Entry, Aim, Reads, PutsFeed, TakesFeed, PutsPage, TakesPage, Loads, Works, Prints, Finishes, Process, stands_behind, place, aim, given_cause, caused, holds, has_stopped, has_ended, stops_at, stops_next, closes, Closing, closing_by, closing, next_by}
use Rattle.twin_law.specs.Sides.{Twin}
use Rattle.twin_law.specs.Input.{InputPlace, Takes, PutsFull, PutsLast, PutsEmptyA, PutsEmptyB, HasDealt, empty_page, input_aims, input}
use Rattle.twin_law.specs.Job.{JobPlace, TakesItems, LoadsFile, Toils, PutsLines, PutsLastLines, HasWorked, job_aims, job}
use Rattle.twin_law.specs.Output.{OutputPlace, TakesLines, PutsLine, PutsOver, HasGathered, output_aims, output}
use Rattle.twin_law.specs.Table.{process}
use Rattle.twin_law.specs.Twin.{twin}
use Rattle.twin_law.specs.Alone.{alone}
use Rattle.twin_law.proofs.Lawful.{Shape, Closes, SeatsAction, next-shape, unless-some, unstopped, not-made}
use Rattle.twin_law.proofs.Ended.{AimsAt}

abbrev pub Among : ℕ → List ℕ → Type 0
Among b [] = ⊥
Among b (c ∷ later) = (c ≡ b) ⊎ Among b later

-- ---- what is stopped behind the work is a spool
stops-of : {L : Type 0} (buffers : List ℕ) (how : Outcome) (h : List (Entry L)) (b : ℕ) → stops_next buffers how h ≡ Stop b → Among b buffers
stops-of [] how h b e = absurd cc
stops-of (c ∷ later) how h b e =
    elim (has_stopped c h) as (λ t. (if t then stops_next later how h else Stop c) ≡ Stop b → Among b (c ∷ later)) [
      | true ↦ (λ e. inr (stops-of later how h b e))
      | false ↦ (λ e. inl cc)
    ] e

closes-of : {L : Type 0} (buffers : List ℕ) (how : Outcome) (h : List (Entry L)) (b : ℕ) → closes buffers how h ≡ Stop b → Among b buffers
closes-of buffers how h b e =
    elim (holds h) as (λ t. (if t then Release else stops_next buffers how h) ≡ Stop b → Among b buffers) [
      | true ↦ (λ e. absurd cc)
      | false ↦ (λ e. stops-of buffers how h b e)
    ] e

closing-free : {L : Type 0} (p : Process L) (m : Aim) (c : Closing) → closing_by p None m ≡ Some c → (m ≡ Finishes) × (c.stops ≡ p.spools)
closing-free p Finishes c e = (refl, (let same : record { stops = p.spools; how = outcome.Done } ≡ c = cc in sym (ap (λ (c : Closing). c.stops) same)))
closing-free p Reads c e = absurd cc
closing-free p (PutsFeed b f) c e = absurd cc
closing-free p (TakesFeed b) c e = absurd cc
closing-free p (PutsPage b page) c e = absurd cc
closing-free p (TakesPage b) c e = absurd cc
closing-free p (Loads file) c e = absurd cc
closing-free p Works c e = absurd cc
closing-free p (Prints line) c e = absurd cc

or-free : (old new : Option Outcome) → or_new old new ≡ None → old ≡ None
or-free None new e = refl
or-free (Some how) new e = absurd cc

lacks-free : (old : Option Outcome) (how : Outcome) → or_new old (Some how) ≡ None → ⊥
lacks-free None how e = cc
lacks-free (Some old) how e = cc

or-either : (t u : Bool) → (t || u) ≡ true → (t ≡ true) ⊎ (u ≡ true)
or-either true u e = inl refl
or-either false u e = inr e

-- a call of closing down changes no place
closes-place : {L : Type 0} (p : Process L) (Is : ℕ → Type 0) (h : List (Entry L)) (x : p.Place) (a : Action) (r : Reply L) → Closes Is h a
    → stands_behind p x a r ≡ x
closes-place p Is h x (Stop c) r is = refl
closes-place p Is h x (Ended how) r is = refl
closes-place p Is h x Release r is = refl
closes-place p Is h x a r is = absurd is

stop-is : (b : ℕ) (a : Action) → stops_at b a ≡ true → a ≡ Stop b
stop-is b (Stop c) e = ap Stop (sym (eqb-true b c e))
stop-is b a e = absurd cc

not-stop : (p b : ℕ) (a : Action) → SeatsAction p a → stops_at b a ≡ false
not-stop p b (Stop c) is = absurd is
not-stop p b a is = refl

none-stopped : (t u : Bool) → t ≡ false → u ≡ false → (t || u) ≡ true → ⊥
none-stopped true u e f is = cc
none-stopped false u e f is = (let no = sym f ∙ is in cc)

module _ {L : Type 0} (J : Jobs L) where
  -- who stopped a buffer without a cause did all its work
  pub record HasFinished (p b : ℕ) (h : List (Entry L)) : Type 0 where
    pub last : aim (process J p) h ≡ Finishes
    pub spool : Among b (process J p).spools

  -- one that closes down without a cause is at its end, and stops spools
  record IsOver (p : ℕ) (h : List (Entry L)) (a : Action) (r : Reply L) : Type 0 where
    here : aim (process J p) (Does a r ∷ h) ≡ Finishes
    spools : (b : ℕ) → a ≡ Stop b → Among b (process J p).spools

  over-by : (p : ℕ) (h : List (Entry L)) (a : Action) (r : Reply L) (c : Closing) → caused (process J p) h ≡ None → closing (process J p) h ≡ Some c
      → Shape J p h (Some c) a → next_by (process J p) (Some c) h ≡ a → IsOver p h a r
  over-by p h a r c free is shape next =
      let by : closing_by (process J p) None (aim (process J p) h) ≡ Some c = ap (λ cause. closing_by (process J p) cause (aim (process J p) h)) (sym free)
      ∙ is in
      let last = closing-free (process J p) (aim (process J p) h) c by in
      record {
        here = ap (process J p).aims (closes-place (process J p) _ h (place (process J p) h) a r shape) ∙ last.0;
        spools = λ b e. subst (λ buffers. Among b buffers) last.1 (closes-of c.stops c.how h b (next ∙ e));
      }

  pub finished : (p b : ℕ) (h : List (Entry L)) → IsOne (twin J) p → law.Follows (twin J) p h → caused (process J p) h ≡ None → has_stopped b h ≡ true
      → HasFinished p b h
  finished p b [] one follows free e = absurd cc
  finished p b (Does a r ∷ h) one follows free e =
      by-closing (closing (process J p) h) refl (next-shape J p h a one follows.0) (λ before. finished p b h one follows.2 old before) where
        old : caused (process J p) h ≡ None
        old = or-free (caused (process J p) h) (given_cause (process J p) (place (process J p) h) a r) free

        next : (c : Option Closing) → closing (process J p) h ≡ c → next_by (process J p) c h ≡ a
        next c is = subst (λ c. next_by (process J p) c h ≡ a) is (unless-some (has_ended h) (next_by (process J p) (closing (process J p) h) h) a follows.0).1

        by-closing : (c : Option Closing) → closing (process J p) h ≡ c → Shape J p h c a → (has_stopped b h ≡ true → HasFinished p b h)
            → HasFinished p b (Does a r ∷ h)
        by-closing None is shape was =
            absurd (none-stopped (stops_at b a) (has_stopped b h) (not-stop p b a shape.1) (unstopped J p b h one follows.2 is) e)
        by-closing (Some c) is shape was =
            let over = over-by p h a r c old is shape (next (Some c) is) in
            elim (or-either (stops_at b a) (has_stopped b h) e) as (λ _. HasFinished p b (Does a r ∷ h)) [
              | inl now ↦ record { last = over.here; spool = over.spools b (stop-is b a now) }
              | inr before ↦ record { last = over.here; spool = (was before).spool }
            ]
  finished p b (LacksMemory a r ∷ h) one follows free e = absurd (lacks-free (caused (process J p) h) _ free)
  finished p b (Delays a ∷ h) one follows free e =
      let was = finished p b h one follows.2 free e in record { last = was.last; spool = was.spool }

-- ---- where one stands at its end
pub input-over : (x : InputPlace) → input_aims x ≡ Finishes → x ≡ HasDealt
input-over HasDealt e = refl
input-over (Takes side inside hand) e = absurd cc
input-over (PutsFull side inside page hand) e = absurd cc
input-over (PutsLast side page opener) e = absurd cc
input-over (PutsEmptyA side) e = absurd cc
input-over (PutsEmptyB side) e = absurd cc

pub job-over : {L : Type 0} (side : Twin) (x : JobPlace L) → job_aims side x ≡ Finishes → x ≡ HasWorked
job-over side HasWorked e = refl
job-over side (TakesItems s) e = absurd cc
job-over side (LoadsFile file s last) e = absurd cc
job-over side (Toils s last) e = absurd cc
job-over side (PutsLines page s last) e = absurd cc
job-over side (PutsLastLines page some) e = absurd cc

pub output-over : (x : OutputPlace) → output_aims x ≡ Finishes → x ≡ HasGathered
output-over HasGathered e = refl
output-over (TakesLines t) e = absurd cc
output-over (PutsLine line later t over) e = absurd cc
output-over PutsOver e = absurd cc

-- ---- who calls at a spool
pub input-puts : (x : InputPlace) (b : ℕ) → AimsAt (input_aims x) b Sender → (page : Page) × (input_aims x ≡ PutsPage b page)
input-puts (PutsFull side inside page hand) b is = (page, ap (λ b. PutsPage b page) is.0)
input-puts (PutsLast side page opener) b is = (page, ap (λ b. PutsPage b page) is.0)
input-puts (PutsEmptyA side) b is = (empty_page, ap (λ b. PutsPage b empty_page) is.0)
input-puts (PutsEmptyB side) b is = (empty_page, ap (λ b. PutsPage b empty_page) is.0)
input-puts (Takes side inside hand) b is = absurd (let no = is.1 in cc)
input-puts HasDealt b is = absurd is

pub job-puts : {L : Type 0} (side : Twin) (x : JobPlace L) (b : ℕ) → AimsAt (job_aims side x) b Sender → (page : Page) × (job_aims side x ≡ PutsPage b page)
job-puts side (PutsLines page s last) b is = (page, ap (λ b. PutsPage b page) is.0)
job-puts side (PutsLastLines page some) b is = (page, ap (λ b. PutsPage b page) is.0)
job-puts side (TakesItems s) b is = absurd (let no = is.1 in cc)
job-puts side (LoadsFile file s last) b is = absurd is
job-puts side (Toils s last) b is = absurd is
job-puts side HasWorked b is = absurd is

-- one that takes a page stays where it is without one, and isn't at its end
pub record Takes-page {L : Type 0} (p : Process L) (x y : p.Place) (b : ℕ) : Type 0 where
  pub aims : p.aims x ≡ TakesPage b
  pub same : p.behind x (reply.Feed feed.End) ≡ x
  pub going : x ≡ y → ⊥

pub job-takes : {L : Type 0} (J : Jobs L) (side : Twin) (x : JobPlace L) (b : ℕ) → AimsAt (job_aims side x) b Receiver → Takes-page (job J side) x HasWorked b
job-takes J side (TakesItems s) b is = record { aims = ap TakesPage is.0; same = refl; going = λ e. cc }
job-takes J side (PutsLines page s last) b is = absurd (let no = is.1 in cc)
job-takes J side (PutsLastLines page some) b is = absurd (let no = is.1 in cc)
job-takes J side (LoadsFile file s last) b is = absurd is
job-takes J side (Toils s last) b is = absurd is
job-takes J side HasWorked b is = absurd is

pub output-takes : {L : Type 0} (x : OutputPlace) (b : ℕ) → AimsAt (output_aims x) b Receiver → Takes-page (output {L = L}) x HasGathered b
output-takes (TakesLines t) b is = record { aims = ap TakesPage is.0; same = refl; going = λ e. cc }
output-takes (PutsLine line later t over) b is = absurd (let no = is.1 in cc)
output-takes PutsOver b is = absurd (let no = is.1 in cc)
output-takes HasGathered b is = absurd is

-- ---- nothing more is put at an end
pub input-silent : {L : Type 0} (F : FilesAs L) (n : ℕ) (w : ℕ → List (Parcel L)) → alone F input n HasDealt w ≡ []
input-silent F zero w = refl
input-silent F (suc n) w = refl

pub job-silent : {L : Type 0} (J : Jobs L) (side : Twin) (F : FilesAs L) (n : ℕ) (w : ℕ → List (Parcel L)) → alone F (job J side) n HasWorked w ≡ []
job-silent J side F zero w = refl
job-silent J side F (suc n) w = refl

-- ---- a buffer that is empty: all that was put was taken
none-of : {T : Type 0} (xs : List T) → length xs ≡ 0 → xs ≡ []
none-of [] e = refl
none-of (x ∷ xs) e = absurd (omega (arith, e))

pub no-part : {T : Type 0} (some all : List T) → IsPrefixOf some all → length all ≤ length some → some ≡ all
no-part some all (rest, e) few =
    let both = length-append some rest in
    let same = ap length e in
    let none : rest ≡ [] = none-of rest (omega (arith, both, same, few)) in
    sym (append-nil some) ∙ ap (λ more. some ++ more) (sym none) ∙ e

-- ---- what was found where one is told of a stop
pub record ToldBy {L : Type 0} (buffer : Buffer (Parcel L)) (side : Side) : Type 0 where
  pub by_other : stopped_by buffer.sides ≡ Some (other side)
  pub empty : side ≡ Receiver → buffer.marks ≡ []

room-closed : (by : Option Side) (full : Bool) → room_found by full ≡ IsClosed → by ≡ Some Receiver
room-closed (Some Receiver) full e = refl
room-closed (Some Sender) true e = absurd cc
room-closed (Some Sender) false e = absurd cc
room-closed None true e = absurd cc
room-closed None false e = absurd cc

parcel-closed : (by : Option Side) (marks : List Bool) → parcel_found by marks ≡ IsClosed → (by ≡ Some Sender) × (marks ≡ [])
parcel-closed by (mark ∷ more) e = absurd cc
parcel-closed (Some Sender) [] e = (refl, refl)
parcel-closed (Some Receiver) [] e = absurd cc
parcel-closed None [] e = absurd cc

pub told-by : {L : Type 0} (buffer : Buffer (Parcel L)) (side : Side) → found buffer side ≡ IsClosed → ToldBy buffer side
told-by buffer Sender e = record { by_other = room-closed (stopped_by buffer.sides) (length buffer.marks == buffer.capacity) e; empty = λ no. absurd cc }
told-by buffer Receiver e =
    let is = parcel-closed (stopped_by buffer.sides) buffer.marks e in record { by_other = is.0; empty = λ _. is.1 }

pub first-among : (stops : Marks) (side : Side) → first_of stops ≡ Some side → is_among side stops ≡ true
first-among marks.Neither side e = absurd cc
first-among (marks.One Sender) Sender e = refl
first-among (marks.One Receiver) Receiver e = refl
first-among (marks.One Sender) Receiver e = absurd cc
first-among (marks.One Receiver) Sender e = absurd cc
first-among (marks.Both by) side e = refl

pub made-back : {L : Type 0} (J : Jobs L) (p b : ℕ) (side : Side) (h : List (Entry L)) → law.Follows (twin J) p h → made_stop b side (acts (twin J) p h) ≡ true
    → has_stopped b h ≡ true
made-back J p b side h follows e =
    elim (has_stopped b h) as (λ t. has_stopped b h ≡ t → t ≡ true) [
      | true ↦ (λ is. refl)
      | false ↦ (λ is. absurd (let no = sym e ∙ not-made J p b side h follows is in cc))
    ] refl
