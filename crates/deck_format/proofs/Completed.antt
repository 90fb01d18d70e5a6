-- The jobs that some items complete stay, whatever follows.
use Rattle.std.proofs.Common.{◌≡◌, ◌≢◌, ℕ, ◌+◌, true, false, List, [], ◌∷◌, ◌++◌, Some, None, refl, sym, ◌∙◌, ap, append_assoc, flat_map, zero-add, count_by, arith, eqb}
use Rattle.std.proofs.lemmas.Bool.Decides.{nat_tests}
use Rattle.std.proofs.lemmas.List.{append-nil}
use Rattle.solo_base.specs.declared.item.Item.{Item}
use Rattle.solo_base.specs.declared.item.Item.TheVariants.{Spoiled}
use Rattle.deck_format.specs.declared.job.Job.{Job}
use Rattle.deck_format.specs.declared.job.Job.TheVariants as job
use Rattle.deck_format.specs.declared.place.Place.{Place}
use Rattle.deck_format.specs.declared.place.Place.TheVariants.{Outside, InGroup}
use Rattle.deck_format.specs.Jobs.{jobs, cut, opener_in}
use Rattle.deck_format.specs.Jobs as deck
use Rattle.deck_format.specs.JobReader.{jobs_from, closed, opened, behind, is_in_group, control_in, StandsFor}
use Rattle.deck_format.proofs.Steps.{open_more, end_more, behind_more}
use Rattle.deck_format.specs.Completed.{before_last, completed}

-- ---- all but the last
before_last-append : {T : Type 0} (front : List T) (x : T) (rest : List T) → before_last (front ++ x ∷ rest) ≡ front ++ before_last (x ∷ rest)
before_last-append [] x rest = refl
before_last-append (y ∷ []) x rest = refl
before_last-append (y ∷ z ∷ front) x rest = ap (λ xs. y ∷ xs) (before_last-append (z ∷ front) x rest)

-- where an item leads, and the jobs that it completes
pub record Led (place : Place) (item : Item) : Type 0 where
  pub gives : List Job
  pub to : Place
  pub more : (more : List Item) → jobs_from place (item ∷ more) ≡ gives ++ jobs_from to more

leads : (place : Place) (item : Item) → Led place item
leads place item =
    elim (opener_in (control_in item)) as (λ found. opener_in (control_in item) ≡ found → Led place item) [
      | Some o ↦ (λ e. record { gives = closed place; to = InGroup (opened o); more = λ more. open_more place item o more e })
      | None ↦ (λ e. elim (is_in_group place) as (λ group. is_in_group place ≡ group → Led place item) [
        | false ↦ (λ out. record { gives = []; to = behind place item (control_in item); more = λ more. behind_more place item (control_in item) more refl e (λ group. cc) })
        | true ↦ (λ inside. elim (deck.ends_in (control_in item)) as (λ ends. deck.ends_in (control_in item) ≡ ends → Led place item) [
          | true ↦ (λ ends. record { gives = closed place; to = Outside 0; more = λ more. end_more place item more inside e ends })
          | false ↦ (λ goes_on. record { gives = []; to = behind place item (control_in item); more = λ more. behind_more place item (control_in item) more refl e (λ group. goes_on) })
        ] refl)
      ] refl)
    ] refl

-- a spoiled card belongs to one job
skipped-one : (n : ℕ) → n ≢ 0 → deck.skipped n ≡ job.Skipped n ∷ []
skipped-one n some = let e : eqb n 0 ≡ false = grind (arith, nat_tests) in rw e refl

counted : (n : ℕ) → deck.card_count (n + 1) ≢ 0
counted n e = absurd (grind arith)

one-open : (place : Place) → (job : Job) × (jobs_from place (Spoiled ∷ []) ≡ job ∷ [])
one-open (Outside count) = (job.Skipped (deck.card_count (count + 1)), ap (λ js. js ++ []) (skipped-one (deck.card_count (count + 1)) (counted count)))
one-open (InGroup group) = (_, refl)

-- some job is open behind these items and a spoiled card
has_open : (place : Place) (items : List Item) → (first : Job) × ((rest : List Job) × (jobs_from place (items ++ Spoiled ∷ []) ≡ first ∷ rest))
has_open place [] = let (job, e) = one-open place in (job, ([], e))
has_open place (item ∷ items) =
    let led = leads place item in
    let (first, (rest, e)) = has_open led.to items in
    front-open led.gives first rest (led.more (items ++ Spoiled ∷ []) ∙ ap (λ js. led.gives ++ js) e)
  where
    front-open : (gives : List Job) (first : Job) (rest : List Job) → jobs_from place (item ∷ items ++ Spoiled ∷ []) ≡ gives ++ first ∷ rest → (a : Job) × ((b : List Job) × (jobs_from place (item ∷ items ++ Spoiled ∷ []) ≡ a ∷ b))
    front-open [] first rest e = (first, (rest, e))
    front-open (j ∷ js) first rest e = (j, (js ++ first ∷ rest, e))

-- what a place gives ahead of the open job
ahead : Place → List Item → List Job
ahead place items = before_last (jobs_from place (items ++ Spoiled ∷ []))

ahead-led : (place : Place) (item : Item) (items : List Item) → (led : Led place item) → ahead place (item ∷ items) ≡ led.gives ++ ahead led.to items
unfolding ahead
ahead-led place item items led =
    let (first, (rest, e)) = has_open led.to items in
    ap before_last (led.more (items ++ Spoiled ∷ []) ∙ ap (λ js. led.gives ++ js) e)
    ∙ before_last-append led.gives first rest
    ∙ ap (λ js. led.gives ++ before_last js) (sym e)

ahead-nothing : (place : Place) → ahead place [] ≡ []
unfolding ahead
ahead-nothing place = let (job, e) = one-open place in ap before_last e

-- what is ahead of the open job stays, whatever comes
ahead-jobs : (place : Place) (items more : List Item) → (rest : List Job) × (ahead place items ++ rest ≡ jobs_from place (items ++ more))
ahead-jobs place [] more = (jobs_from place more, ap (λ js. js ++ jobs_from place more) (ahead-nothing place))
ahead-jobs place (item ∷ items) more =
    let led = leads place item in
    let (rest, e) = ahead-jobs led.to items more in
    (rest, ap (λ js. js ++ rest) (ahead-led place item items led) ∙ append_assoc led.gives (ahead led.to items) rest ∙ ap (λ js. led.gives ++ js) e ∙ sym (led.more (items ++ more)))

ahead-more : (place : Place) (items more : List Item) → (rest : List Job) × (ahead place items ++ rest ≡ ahead place (items ++ more))
ahead-more place [] more = (ahead place more, ap (λ js. js ++ ahead place more) (ahead-nothing place))
ahead-more place (item ∷ items) more =
    let led = leads place item in
    let (rest, e) = ahead-more led.to items more in
    (rest, ap (λ js. js ++ rest) (ahead-led place item items led) ∙ append_assoc led.gives (ahead led.to items) rest ∙ ap (λ js. led.gives ++ js) e ∙ sym (ahead-led place item (items ++ more) led))

from-start : (items : List Item) → jobs items ≡ jobs_from (Outside 0) items
from-start items =
    let count = count_by deck.counts (cut items).front in
    ap (λ n. deck.skipped (deck.card_count n) ++ flat_map deck.group_jobs (cut items).groups) (sym (zero-add count))

completed-ahead : (items : List Item) → completed items ≡ ahead (Outside 0) items
unfolding ahead
completed-ahead items = ap before_last (from-start (items ++ Spoiled ∷ []))

pub completed-more : (items more : List Item) → (rest : List Job) × (completed items ++ rest ≡ completed (items ++ more))
completed-more items more =
    let (rest, e) = ahead-more (Outside 0) items more in
    (rest, ap (λ js. js ++ rest) (completed-ahead items) ∙ e ∙ sym (completed-ahead (items ++ more)))

pub completed-jobs : (items more : List Item) → (rest : List Job) × (completed items ++ rest ≡ jobs (items ++ more))
completed-jobs items more =
    let (rest, e) = ahead-jobs (Outside 0) items more in
    (rest, ap (λ js. js ++ rest) (completed-ahead items) ∙ e ∙ sym (from-start (items ++ more)))

-- what a reader gave is what the items complete
pub given-is_completed : (place : Place) (items : List Item) (so_far : List Job) → StandsFor place items so_far → so_far ≡ completed items
given-is_completed place items so_far stands =
    let (job, e) = one-open place in
    sym (append-nil so_far) ∙ sym (before_last-append so_far job []) ∙ ap (λ js. before_last (so_far ++ js)) (sym e) ∙ ap before_last (sym (stands.jobs_are (Spoiled ∷ [])))

-- of what an item gives, all is completed by it
pub push-completes : (old new : Place) (item : Item) (gives : List Job) → ((more : List Item) → jobs_from old (item ∷ more) ≡ gives ++ jobs_from new more)
    → (items : List Item) (so_far : List Job) → StandsFor old items so_far → completed (items ++ item ∷ []) ≡ completed items ++ gives
push-completes old new item gives next items so_far stands =
    let after : StandsFor new (items ++ item ∷ []) (so_far ++ gives) = record {
      jobs_are = λ more. ap jobs (append_assoc items (item ∷ []) more) ∙ stands.jobs_are (item ∷ more) ∙ ap (λ js. so_far ++ js) (next more)
          ∙ sym (append_assoc so_far gives (jobs_from new more));
    } in
    sym (given-is_completed new (items ++ item ∷ []) (so_far ++ gives) after) ∙ ap (λ js. js ++ gives) (given-is_completed old items so_far stands)
