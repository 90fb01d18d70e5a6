-- What the job process makes of needs, lines and pages.
use Rattle.std.proofs.Common.{◌≡◌, ◌≤◌, ℕ, zero, suc, ◌+◌, not, Bool, true, false, List, [], ◌∷◌, length, Option, None, Some, refl, sym, ◌∙◌, ap, subst, arith}
use Rattle.std.specs.Prelude.{drop, slice_get}
use Rattle.solo_base.specs.declared.item.Item.{Item}
use Rattle.solo_base.specs.declared.item.Item.TheVariants.{Line}
use Rattle.solo_base.specs.declared.page.Page.{Page}
use Rattle.solo_base.specs.declared.system_call.Arg.{Arg}
use Rattle.solo_base.specs.declared.system_call.Arg.TheVariants as arg
use Rattle.solo_devices.specs.declared.card_read.CardRead.{CardRead}
use Rattle.solo_devices.specs.declared.card_read.CardRead.TheVariants as read
use Rattle.exchange_law.specs.Pages.{lines_of, page_with}
use Rattle.solo_law.specs.Work.{Work}
use Rattle.solo_law.specs.Work as law
use Rattle.solo_law.specs.JobPlaces.{JobPlace, Listens, OrdersCards, TakesCards, TakesReport, Accepts, PutsPage, DismissesInput, Behind, GoesOn, EndsWith, works, answers, meets, ends, puts_page, begins_with, behind_typed, behind_accepted, behind_put, file_of}
use Rattle.solo_procs.specs.declared.commands.Given.{Given}
use Rattle.solo_procs.specs.declared.commands.Given.TheVariants as given
use Rattle.solo_procs.specs.declared.commands.Need.{Need}
use Rattle.solo_procs.specs.declared.commands.Need.TheVariants as need
use Rattle.solo_procs.specs.declared.job_proc.JobAt.TheVariants as here
use Rattle.solo_procs.specs.declared.job_proc.JobProc.{JobProc}
use Rattle.solo_procs.specs.Commands.{Kind, AtTyped, given_of, kind_given, kind_behind, pages_behind, IsNeed}
use Rattle.exchange_law.specs.Pages.{last_page}
use Rattle.solo_procs.specs.Job.{JobStands, CameSo, says_true}
use Rattle.solo_procs.specs.JobSteps.{IsAnswering, IsPutting}

some-same : {A : Type 0} (a b : A) → Some a ≡ Some b → a ≡ b
some-same a b e = cc

-- ---- lists of lines
drop-next : {A : Type 0} (xs : List A) (n : ℕ) (x : A) → slice_get xs n ≡ Some x → drop n xs ≡ x ∷ drop (suc n) xs
drop-next [] n x is = absurd cc
drop-next (y ∷ xs) zero x is = ap (λ z. z ∷ xs) (some-same y x is)
drop-next (y ∷ xs) (suc n) x is = drop-next xs n x is

drop-past : {A : Type 0} (xs : List A) (n : ℕ) → length xs ≤ n → drop n xs ≡ []
drop-past [] zero past = refl
drop-past [] (suc n) past = refl
drop-past (x ∷ xs) zero past = absurd (omega (arith, past))
drop-past (x ∷ xs) (suc n) past = drop-past xs n (omega (arith, past))

-- the commands of two that are the same
pub same-commands : {C : Type 0} (a b : JobProc C) → a ≡ b → a.commands ≡ b.commands
same-commands {C} a b e = ap (λ (j : JobProc C). j.commands) e

module _ {C : Type 0} (awaits : C → ℕ → Kind → Type 0) (j : JobProc C) where
  -- ---- a need that the work came to
  module _ (work : Work) (needed : law.Need) (came : CameSo awaits j work needed) where
    -- this need, of the code
    is-need : (n : Need) → j.met ≡ Some n → IsNeed work.pages n needed
    is-need n is = subst (λ n. IsNeed work.pages n needed) (some-same came.need n (sym came.met ∙ is)) came.is

    pub meets-cards : j.met ≡ Some need.Cards → JobStands awaits (record j { met = None; place = here.OrdersCards }) (meets work.pages needed)
    meets-cards is = by needed (is-need need.Cards is) came.awaited
      where
        by : (n : law.Need) → IsNeed work.pages need.Cards n → awaits j.commands (pages_behind n work.pages) (kind_behind n)
            → JobStands awaits (record j { met = None; place = here.OrdersCards }) (meets work.pages n)
        by law.CardsNeeded same awaited = record { place = tt; holds = came.prints; unmet = refl; taken = came.taken; awaited = awaited }
        by other same awaited = absurd same

    pub meets-line : j.met ≡ Some need.Line → JobStands awaits (record j { met = None; place = here.Accepts }) (meets work.pages needed)
    meets-line is = by needed (is-need need.Line is) came.awaited
      where
        by : (n : law.Need) → IsNeed work.pages need.Line n → awaits j.commands (pages_behind n work.pages) (kind_behind n)
            → JobStands awaits (record j { met = None; place = here.Accepts }) (meets work.pages n)
        by law.LineNeeded same awaited = record { place = tt; holds = came.prints; unmet = refl; taken = came.taken; awaited = awaited }
        by other same awaited = absurd same

    pub meets-display : (line : List ℕ) → j.met ≡ Some (need.Display line)
        → JobStands awaits (record j { met = None; place = here.Displays line }) (meets work.pages needed)
    meets-display line is = by needed (is-need (need.Display line) is) came.awaited
      where
        by : (n : law.Need) → IsNeed work.pages (need.Display line) n → awaits j.commands (pages_behind n work.pages) (kind_behind n)
            → JobStands awaits (record j { met = None; place = here.Displays line }) (meets work.pages n)
        by (law.DisplayNeeded shown) same awaited =
            record { place = same; holds = came.prints; unmet = refl; taken = came.taken; awaited = awaited }
        by other same awaited = absurd same

    pub meets-page : (page : Page) (Now : JobPlace → Type 0) → j.met ≡ Some (need.Page page)
        → ((behind : Behind) (pages : ℕ) → IsPutting awaits (record j { met = None; ends = false }) behind pages → Now (puts_page pages page behind))
        → Now (meets work.pages needed)
    meets-page page Now is puts = by needed (is-need (need.Page page) is) came.awaited
      where
        by : (n : law.Need) → IsNeed work.pages (need.Page page) n → awaits j.commands (pages_behind n work.pages) (kind_behind n) → Now (meets work.pages n)
        by (law.PageNeeded lines) same awaited =
            subst (λ page. Now (puts_page work.pages page GoesOn)) same
            (puts GoesOn work.pages record { holds = refl; prints = came.prints; unmet = refl; taken = came.taken; awaited = awaited })
        by other same awaited = absurd same

    pub meets-end : (last : Option Page) (lines : List (List ℕ)) (Now : JobPlace → Type 0) → j.met ≡ Some (need.End last lines)
        → ((pages : ℕ) (printed answers : List (List ℕ)) → last ≡ last_page pages printed
        → IsPutting awaits (record j { met = None; ends = true; answers = lines; answered = 0 }) (EndsWith answers) pages → Now (ends pages printed answers))
        → Now (meets work.pages needed)
    meets-end last lines Now is goes = by needed (is-need (need.End last lines) is) came.awaited
      where
        by : (n : law.Need) → IsNeed work.pages (need.End last lines) n → awaits j.commands (pages_behind n work.pages) (kind_behind n)
            → Now (meets work.pages n)
        by (law.EndNeeded printed answers) same awaited =
            goes work.pages printed answers same.0 record { holds = (refl, same.1); prints = came.prints; unmet = refl; taken = came.taken; awaited = awaited }
        by other same awaited = absurd same

  -- it came to some need
  pub met-some : (work : Work) (needed : law.Need) → CameSo awaits j work needed → j.met ≡ None → ⊥
  met-some work needed came none = (let is = came.met in cc)

  -- ---- a page is put
  pub puts-first : (page : Page) (behind : Behind) (pages : ℕ) → j.prints ≡ false → IsPutting awaits j behind pages
      → JobStands awaits (record j { place = here.OrdersPrinter page }) (puts_page pages page behind)
  puts-first page behind zero is putting =
      record { place = refl; holds = putting.holds; unmet = putting.unmet; taken = putting.taken; awaited = putting.awaited }
  puts-first page behind (suc pages) is putting = absurd (let prints = putting.prints in cc)

  pub puts-next : (page : Page) (behind : Behind) (pages : ℕ) → j.prints ≡ true → IsPutting awaits j behind pages
      → JobStands awaits (record j { place = here.PutsPage page }) (puts_page pages page behind)
  puts-next page behind zero is putting = absurd (let prints = putting.prints in cc)
  puts-next page behind (suc pages) is putting =
      record { place = refl; holds = putting.holds; unmet = putting.unmet; taken = putting.taken; awaited = putting.awaited }

  pub ends-page : (page : Page) (Now : JobPlace → Type 0)
      → ((behind : Behind) (pages : ℕ) → IsPutting awaits j behind pages → Now (puts_page pages page behind))
      → (pages : ℕ) (printed lines : List (List ℕ)) → Some page ≡ last_page pages printed → IsPutting awaits j (EndsWith lines) pages
      → Now (ends pages printed lines)
  ends-page page Now puts zero [] lines is putting = absurd cc
  ends-page page Now puts zero (line ∷ printed) lines is putting =
      subst (λ page. Now (puts_page 0 page (EndsWith lines))) (some-same page (page_with 0 true (line ∷ printed)) is) (puts (EndsWith lines) 0 putting)
  ends-page page Now puts (suc pages) printed lines is putting =
      subst (λ page. Now (puts_page (suc pages) page (EndsWith lines))) (some-same page (page_with (suc pages) true printed) is)
      (puts (EndsWith lines) (suc pages) putting)

  pub ends-without : (Now : JobPlace → Type 0) → ((lines : List (List ℕ)) → IsAnswering awaits j lines → Now (answers lines))
      → (pages : ℕ) (printed lines : List (List ℕ)) → None ≡ last_page pages printed → IsPutting awaits j (EndsWith lines) pages
      → Now (ends pages printed lines)
  ends-without Now goes zero [] lines is putting =
      goes lines record { left = putting.holds.1; unmet = putting.unmet; taken = putting.taken; awaited = putting.awaited }
  ends-without Now goes zero (line ∷ printed) lines is putting = absurd cc
  ends-without Now goes (suc pages) printed lines is putting = absurd cc

  -- and was put
  pub put-ends : (page : Page) (behind : Behind) (pages : ℕ) → j.ends ≡ true → JobStands awaits j (PutsPage page behind pages)
      → JobStands awaits (record j { prints = true; place = here.TakesPrinted }) (behind_put behind (suc pages))
  put-ends page (EndsWith lines) pages is kept =
      record { place = tt; holds = kept.holds.1; unmet = kept.unmet; taken = kept.taken; awaited = kept.awaited }
  put-ends page GoesOn pages is kept = absurd (let goes = kept.holds in cc)

  pub put-goes_on : (page : Page) (behind : Behind) (pages : ℕ) → j.ends ≡ false → JobStands awaits j (PutsPage page behind pages)
      → JobStands awaits (record j { prints = true; place = here.Toils; given = given.Nothing }) (behind_put behind (suc pages))
  put-goes_on page GoesOn pages is kept =
      record { place = tt; holds = (refl, refl); unmet = kept.unmet; taken = kept.taken; awaited = kept.awaited }
  put-goes_on page (EndsWith lines) pages is kept = absurd (let ends = kept.holds.0 in cc)

  -- ---- a line answers
  pub answers-next : (line : List ℕ) (next : ℕ) → slice_get j.answers j.answered ≡ Some line → next ≡ j.answered + 1
      → (lines : List (List ℕ)) → IsAnswering awaits j lines → JobStands awaits (record j { answered = next; place = here.AnswersLine line }) (answers lines)
  answers-next line next get is lines answering =
      let parts : line ∷ drop (suc j.answered) j.answers ≡ lines = sym (drop-next j.answers j.answered line get) ∙ answering.left in
      let later : suc j.answered ≡ next = omega (arith, is) in
      subst (λ lines. JobStands awaits (record j { answered = next; place = here.AnswersLine line }) (answers lines)) parts record {
        place = refl;
        holds = ap (λ n. drop n j.answers) (sym later);
        unmet = answering.unmet;
        taken = answering.taken;
        awaited = answering.awaited;
      }

  pub answers-none : length j.answers ≤ j.answered → (lines : List (List ℕ)) → IsAnswering awaits j lines
      → JobStands awaits (record j { place = here.Listens }) (answers lines)
  answers-none past lines answering =
      subst (λ lines. JobStands awaits (record j { place = here.Listens }) (answers lines)) (sym (drop-past j.answers j.answered past) ∙ answering.left)
      record {
        place = tt;
        holds = tt;
        unmet = answering.unmet;
        taken = answering.taken;
        awaited = answering.awaited;
      }

  -- ---- a card file
  pub cards-ordered : (pages : ℕ) → JobStands awaits j (OrdersCards pages)
      → JobStands awaits (record j { cards = []; place = here.TakesCards }) (TakesCards 0 [] pages)
  cards-ordered pages kept = record { place = tt; holds = (refl, kept.holds); unmet = kept.unmet; taken = kept.taken; awaited = kept.awaited }

  file-given : (items : List Item) (cards : List (List ℕ)) (report : Arg) → cards ≡ lines_of items
      → given_of (given.Cards cards (not (says_true report))) ≡ file_of items report
  file-given items cards (arg.Bool true) is = ap (λ cards. law.OfCards cards false) is
  file-given items cards (arg.Bool false) is = ap (λ cards. law.OfCards cards true) is
  file-given items cards arg.Nil is = ap (λ cards. law.OfCards cards true) is
  file-given items cards (arg.Int n) is = ap (λ cards. law.OfCards cards true) is
  file-given items cards (arg.Id name) is = ap (λ cards. law.OfCards cards true) is

  kind-file : (items : List Item) (report : Arg) → kind_given (file_of items report) ≡ kind_given (law.OfCards [] true)
  kind-file items (arg.Bool true) = refl
  kind-file items (arg.Bool false) = refl
  kind-file items arg.Nil = refl
  kind-file items (arg.Int n) = refl
  kind-file items (arg.Id name) = refl

  pub file-taken : (report : Arg) (spoiled : Bool) (left : List (List ℕ)) → spoiled ≡ not (says_true report) → (items : List Item) (pages : ℕ)
      → JobStands awaits j (TakesReport items pages)
      → JobStands awaits (record j { cards = left; place = here.Toils; given = given.Cards j.cards spoiled }) (works (file_of items report) pages)
  file-taken report spoiled left is items pages kept = record {
    place = tt;
    holds = (ap (λ t. given_of (given.Cards j.cards t)) is ∙ file-given items j.cards report kept.holds.0, kept.holds.1);
    unmet = kept.unmet;
    taken = kept.taken;
    awaited = subst (λ kind. awaits j.commands pages kind) (sym (kind-file items report)) kept.awaited;
  }

  -- ---- a typed line
  pub begins : (item : Item) → JobStands awaits j Listens
      → JobStands awaits (record j { prints = false; place = here.Toils; given = given.Line item }) (works (law.OfLine item) 0)
  begins item kept = record { place = tt; holds = (refl, refl); unmet = kept.unmet; taken = kept.taken; awaited = kept.awaited }

  pub begins-line : (line trimmed : List ℕ) → (trimmed ≡ [] → ⊥) → JobStands awaits j Listens
      → JobStands awaits (record j { prints = false; place = here.Toils; given = given.Line (Line line) }) (begins_with trimmed line)
  begins-line line [] some kept = absurd (some refl)
  begins-line line (code ∷ more) some kept = begins (Line line) kept

  pub leaves : JobStands awaits j Listens → JobStands awaits (record j { place = here.DismissesInput }) DismissesInput
  leaves kept = record { place = tt; holds = tt; unmet = kept.unmet; taken = kept.taken; awaited = kept.awaited }

  pub accepts : (typed : law.Given) (g : Given) (pages : ℕ) → given_of g ≡ typed → AtTyped ≡ kind_given typed → JobStands awaits j (Accepts pages)
      → JobStands awaits (record j { place = here.Toils; given = g }) (works typed pages)
  accepts typed g pages is kind kept = record {
    place = tt;
    holds = (is, kept.holds);
    unmet = kept.unmet;
    taken = kept.taken;
    awaited = subst (λ kind. awaits j.commands pages kind) kind kept.awaited;
  }

  -- no line was typed
  pub listens-on : (typed : CardRead) → ((line : List ℕ) → typed ≡ read.Card line → ⊥) → (typed ≡ read.Spoiled → ⊥) → (typed ≡ read.End → ⊥)
      → JobStands awaits j Listens → JobStands awaits j (behind_typed typed)
  listens-on (read.Card line) card spoiled end kept = absurd (card line refl)
  listens-on read.Spoiled card spoiled end kept = absurd (spoiled refl)
  listens-on read.End card spoiled end kept = absurd (end refl)
  listens-on other card spoiled end kept = kept

  pub accepts-on : (typed : CardRead) → ((line : List ℕ) → typed ≡ read.Card line → ⊥) → (typed ≡ read.Spoiled → ⊥) → (typed ≡ read.End → ⊥)
      → (pages : ℕ) → JobStands awaits j (Accepts pages) → JobStands awaits j (behind_accepted pages typed)
  accepts-on (read.Card line) card spoiled end pages kept = absurd (card line refl)
  accepts-on read.Spoiled card spoiled end pages kept = absurd (spoiled refl)
  accepts-on read.End card spoiled end pages kept = absurd (end refl)
  accepts-on other card spoiled end pages kept = kept
