-- The steps of the output process.
use Rattle.std.proofs.Common.{◌≡◌, ℕ, ◌+◌, ◌%◌, ◌^◌, Bool, true, false, List, [], ◌∷◌, ◌++◌, Option, None, Some, refl, sym, ◌∙◌, ap, subst, arith}
use Rattle.std.specs.Prelude.{Ok, Err, option_to_list}
use Rattle.solo_base.specs.declared.page.Page.{Page}
use Rattle.solo_base.specs.declared.system_call.Arg.{Arg}
use Rattle.solo_base.specs.declared.system_call.Arg.TheVariants as arg
use Rattle.solo_base.specs.declared.outcome.Outcome.TheVariants as outcome
use Rattle.solo_base.specs.declared.outcome.Cause.{Cause}
use Rattle.solo_devices.specs.declared.card_read.CardRead.{CardRead}
use Rattle.page_codec.specs.declared.judge.BadPage.{BadPage}
use Rattle.page_codec.specs.Reading.{PageContent, page_read}
use Rattle.exchange_law.specs.Pages.{is_last, page_gives, items_read, lines_of, damage}
use Rattle.exchange_law.specs.Parcels.{is_nil}
use Rattle.place_law.specs.Process.{fault_in}
use Rattle.solo_law.specs.Actions.{Reply}
use Rattle.solo_law.specs.Actions as act
use Rattle.solo_law.specs.Replies.{Fits}
use Rattle.solo_law.specs.OutputPlaces.{output, OutputPlace, AwaitsPrinting, TakesPage, PrintsLine, ReportsPrinted, IsDone, output_does, output_behind, prints, behind_page}
use Rattle.solo_procs.specs.declared.actions.SoloAction.{SoloAction}
use Rattle.solo_procs.specs.declared.actions.SoloAction.TheVariants as say
use Rattle.solo_procs.specs.declared.output_proc.OutputAt.{OutputAt}
use Rattle.solo_procs.specs.declared.output_proc.OutputAt.TheVariants as here
use Rattle.solo_procs.specs.Said as said
use Rattle.solo_procs.specs.Machine.{Takes}
use Rattle.solo_procs.specs.Hands.{page_behind, place_after}
use Rattle.solo_procs.specs.Output.{lines_left, IsUnprinted, OutputStands}
use Rattle.solo_procs.proofs.InputSteps.{done-case}

-- ---- what it does
abbrev pub output_said : OutputAt → SoloAction
output_said here.AwaitsPrinting = say.TakeArg 4
output_said here.TakesPage = say.TakePage 5
output_said (here.PrintsLine line) = say.Print line
output_said here.ReportsPrinted = say.PutArg 6 (arg.Bool true)
output_said here.IsDone = say.Ended outcome.Done

pub output-does : (place now : OutputAt) (pages : ℕ) (items : Option PageContent) (last : Bool) (at : OutputPlace) → place ≡ now
    → OutputStands place pages items last at → output_said now ≡ said.said (output_does at)
output-does place now pages items last AwaitsPrinting is kept = ap output_said (sym is ∙ kept.0)
output-does place now pages items last (TakesPage taken) is kept = ap output_said (sym is ∙ kept.0)
output-does place now pages items last (PrintsLine line later ending taken) is kept = ap output_said (sym is ∙ kept.0)
output-does place now pages items last ReportsPrinted is kept = ap output_said (sym is ∙ kept.0)
output-does place now pages items last IsDone is kept = ap output_said (sym is ∙ kept)

-- ---- what it does is done
module _ (place : OutputAt) (pages : ℕ) (items : Option PageContent) (last : Bool) where
  -- a line was printed
  printed-by : (line : List ℕ) (Now : OutputPlace → Type 0) → place ≡ here.PrintsLine line
      → ((later : List (List ℕ)) (ending : Bool) (taken : ℕ) → IsUnprinted pages items last later ending taken → Now (prints later ending taken))
      → (at : OutputPlace) → OutputStands place pages items last at → Now (output_behind at act.Done)
  printed-by line Now is goes AwaitsPrinting kept = absurd (let same = kept.0 in cc)
  printed-by line Now is goes (TakesPage taken) kept = absurd (let same = kept.0 in cc)
  printed-by line Now is goes (PrintsLine printed later ending taken) kept = goes later ending taken kept.1
  printed-by line Now is goes ReportsPrinted kept = absurd (let same = kept.0 in cc)
  printed-by line Now is goes IsDone kept = absurd (let same = kept in cc)

  pub output-printed : (line : List ℕ) (Now : OutputPlace → Type 0) → place ≡ here.PrintsLine line
      → ((later : List (List ℕ)) (ending : Bool) (taken : ℕ) → IsUnprinted pages items last later ending taken → Now (prints later ending taken))
      → (at : OutputPlace) (answer : Reply) → Fits (output_does at) answer → said.IsHeardDone (OutputStands place pages items last at) (λ need. ⊥) answer
      → Now (output_behind at answer)
  output-printed line Now is goes at answer fits done =
      done-case (OutputStands place pages items last at) (λ r. Now (output_behind at r)) answer done (printed-by line Now is goes at)

  -- a report was put
  reported-by : place ≡ here.ReportsPrinted → (at : OutputPlace) → OutputStands place pages items last at
      → OutputStands here.AwaitsPrinting pages items last (output_behind at act.Done)
  reported-by is AwaitsPrinting kept = absurd (let same = kept.0 in cc)
  reported-by is (TakesPage taken) kept = absurd (let same = kept.0 in cc)
  reported-by is (PrintsLine line later ending taken) kept = absurd (let same = kept.0 in cc)
  reported-by is ReportsPrinted kept = (refl, kept.1)
  reported-by is IsDone kept = absurd (let same = kept in cc)

  pub output-reported : place ≡ here.ReportsPrinted → (at : OutputPlace) (answer : Reply) → Fits (output_does at) answer
      → said.IsHeardDone (OutputStands place pages items last at) (λ need. ⊥) answer
      → OutputStands here.AwaitsPrinting pages items last (output_behind at answer)
  output-reported is at answer fits done =
      done-case (OutputStands place pages items last at) (λ r. OutputStands here.AwaitsPrinting pages items last (output_behind at r)) answer done
      (reported-by is at)

  -- it was neither
  stays-by : ((line : List ℕ) → place ≡ here.PrintsLine line → ⊥) → (place ≡ here.ReportsPrinted → ⊥) → (at : OutputPlace)
      → OutputStands place pages items last at → Fits (output_does at) act.Done → OutputStands place pages items last (output_behind at act.Done)
  stays-by line_not reports AwaitsPrinting kept fits = absurd fits
  stays-by line_not reports (TakesPage taken) kept fits = absurd fits
  stays-by line_not reports (PrintsLine line later ending taken) kept fits = absurd (line_not line kept.0)
  stays-by line_not reports ReportsPrinted kept fits = absurd (reports kept.0)
  stays-by line_not reports IsDone kept fits = kept

  pub output-stays : ((line : List ℕ) → place ≡ here.PrintsLine line → ⊥) → (place ≡ here.ReportsPrinted → ⊥) → (at : OutputPlace) (answer : Reply)
      → Fits (output_does at) answer → said.IsHeardDone (OutputStands place pages items last at) (λ need. ⊥) answer
      → OutputStands place pages items last (output_behind at answer)
  output-stays line_not reports at answer fits done =
      done-case (OutputStands place pages items last at) (λ r. Fits (output_does at) r → OutputStands place pages items last (output_behind at r)) answer done
      (stays-by line_not reports at) fits

  -- ---- an order
  pub output-nil : (a : Arg) → is_nil a ≡ true → (at : OutputPlace) → OutputStands place pages items last at → Fits (output_does at) (act.OfArg a)
      → OutputStands here.IsDone pages items last (output_behind at (act.OfArg a))
  output-nil arg.Nil is AwaitsPrinting kept fits = refl
  output-nil (arg.Bool t) is AwaitsPrinting kept fits = absurd cc
  output-nil (arg.Int n) is AwaitsPrinting kept fits = absurd cc
  output-nil (arg.Id name) is AwaitsPrinting kept fits = absurd cc
  output-nil a is (TakesPage taken) kept fits = absurd fits
  output-nil a is (PrintsLine line later ending taken) kept fits = absurd fits
  output-nil a is ReportsPrinted kept fits = absurd fits
  output-nil a is IsDone kept fits = absurd fits

  pub output-order : (a : Arg) → is_nil a ≡ false → (at : OutputPlace) → OutputStands place pages items last at → Fits (output_does at) (act.OfArg a)
      → OutputStands here.TakesPage pages items last (output_behind at (act.OfArg a))
  output-order arg.Nil is AwaitsPrinting kept fits = absurd cc
  output-order (arg.Bool t) is AwaitsPrinting kept fits = (refl, kept.1)
  output-order (arg.Int n) is AwaitsPrinting kept fits = (refl, kept.1)
  output-order (arg.Id name) is AwaitsPrinting kept fits = (refl, kept.1)
  output-order a is (TakesPage taken) kept fits = absurd fits
  output-order a is (PrintsLine line later ending taken) kept fits = absurd fits
  output-order a is ReportsPrinted kept fits = absurd fits
  output-order a is IsDone kept fits = absurd fits

pub output-no_card : (at : OutputPlace) (card : CardRead) → Fits (output_does at) (act.OfCard card) → ⊥
output-no_card AwaitsPrinting card fits = fits
output-no_card (TakesPage taken) card fits = fits
output-no_card (PrintsLine line later ending taken) card fits = fits
output-no_card ReportsPrinted card fits = fits
output-no_card IsDone card fits = fits

-- ---- the next line
next-after : (n : ℕ) → (n % 2 ^ 16 + 1) % 2 ^ 16 ≡ (n + 1) % 2 ^ 16
next-after n = omega arith

pub place-next : (last : Bool) (n : ℕ) → page_behind last (n % 2 ^ 16) ≡ place_after last (n + 1)
place-next true n = refl
place-next false n = next-after n

first-is : (line other : List ℕ) (rest later : List (List ℕ)) → (line ∷ rest) ≡ (other ∷ later) → (line ≡ other) × (rest ≡ later)
first-is line other rest later e = (cc, cc)

-- a line is left
pub goes-line : (pages : ℕ) (old now : Option PageContent) (last : Bool) (line : List ℕ) → lines_left old ≡ option_to_list (Some line) ++ lines_left now
    → (later : List (List ℕ)) (ending : Bool) (taken : ℕ) → IsUnprinted pages old last later ending taken
    → OutputStands (here.PrintsLine line) pages now last (prints later ending taken)
goes-line pages old now last line left [] ending taken is = absurd (let none = is.left in cc)
goes-line pages old now last line left (next ∷ later) ending taken is =
    let same = first-is line next (lines_left now) later (sym left ∙ is.left) in
    (ap here.PrintsLine same.0, record { left = same.1; ends = is.ends; next = is.next })

-- none is left, of the last page or of another
pub goes-behind : (place : OutputAt) (pages : ℕ) (old now : Option PageContent) (last : Bool)
    → lines_left old ≡ [] → (later : List (List ℕ)) (ending : Bool) (taken : ℕ)
    → ((is : last ≡ ending) → pages ≡ place_after ending taken → OutputStands place pages now last (behind_page ending taken))
    → IsUnprinted pages old last later ending taken → OutputStands place pages now last (prints later ending taken)
goes-behind place pages old now last none [] ending taken behind is = behind is.ends is.next
goes-behind place pages old now last none (next ∷ later) ending taken behind is = absurd (let some = is.left in cc)

pub behind-last : (pages : ℕ) (now : Option PageContent) (last : Bool) → last ≡ true → (ending : Bool) (taken : ℕ) → last ≡ ending
    → pages ≡ place_after ending taken → OutputStands here.ReportsPrinted pages now last (behind_page ending taken)
behind-last pages now last is true taken same next = (refl, next)
behind-last pages now last is false taken same next = absurd cc

pub behind-other : (pages : ℕ) (now : Option PageContent) (last : Bool) → last ≡ false → (ending : Bool) (taken : ℕ) → last ≡ ending
    → pages ≡ place_after ending taken → OutputStands here.TakesPage pages now last (behind_page ending taken)
behind-other pages now last is false taken same next = (refl, next)
behind-other pages now last is true taken same next = absurd cc

-- ---- a page
-- the process takes pages
takes-page : (place : OutputAt) (pages : ℕ) (items : Option PageContent) (last : Bool) (page : Page) (Is : OutputPlace → Type 0)
    → ((taken : ℕ) → pages ≡ taken % 2 ^ 16 → Is (TakesPage taken))
    → (at : OutputPlace) → OutputStands place pages items last at → Fits (output_does at) (act.OfPage page) → Is at
takes-page place pages items last page Is takes AwaitsPrinting kept fits = absurd fits
takes-page place pages items last page Is takes (TakesPage taken) kept fits = takes taken kept.1
takes-page place pages items last page Is takes (PrintsLine line later ending taken) kept fits = absurd fits
takes-page place pages items last page Is takes ReportsPrinted kept fits = absurd fits
takes-page place pages items last page Is takes IsDone kept fits = absurd fits

-- a page in form
pub output-takes : (place : OutputAt) (pages next : ℕ) (items : Option PageContent) (last told : Bool) (page : Page) (content : PageContent)
    (Now : OutputPlace → Type 0) → page_read pages (is_last page) page ≡ Ok content → next ≡ page_behind (is_last page) pages → told ≡ is_last page
    → ((later : List (List ℕ)) (ending : Bool) (taken : ℕ) → IsUnprinted next (Some content) told later ending taken → Now (prints later ending taken))
    → (at : OutputPlace) → OutputStands place pages items last at → Fits (output_does at) (act.OfPage page) → Takes output Now at (act.OfPage page) None
output-takes place pages next items last told page content Now reads after ends goes =
    takes-page place pages items last page (λ at. Takes output Now at (act.OfPage page) None) (λ taken is.
    let read : page_gives taken page ≡ Ok content = ap (λ n. page_read n (is_last page) page) (sym is) ∙ reads in (
      sym (ap (λ r. fault_in (damage r)) read),
      λ none. subst (λ r. Now (prints (lines_of (items_read r)) (is_last page) (taken + 1))) (sym read)
          (goes (lines_of content.items) (is_last page) (taken + 1) record {
            left = refl;
            ends = ends;
            next = after ∙ ap (page_behind (is_last page)) is ∙ place-next (is_last page) taken;
          }),
    ))

-- and one out of form
pub output-damaged : (place : OutputAt) (pages : ℕ) (items : Option PageContent) (last : Bool) (page : Page) (bad : BadPage) (cause : Cause)
    (Now : OutputPlace → Type 0) → page_read pages (is_last page) page ≡ Err bad → damage (Err bad) ≡ Some cause
    → (at : OutputPlace) → OutputStands place pages items last at → Fits (output_does at) (act.OfPage page)
    → Takes output Now at (act.OfPage page) (Some (outcome.Fault cause))
output-damaged place pages items last page bad cause Now reads is_damage =
    takes-page place pages items last page (λ at. Takes output Now at (act.OfPage page) (Some (outcome.Fault cause))) (λ taken is.
    let read : page_gives taken page ≡ Err bad = ap (λ n. page_read n (is_last page) page) (sym is) ∙ reads in (
      sym (ap (λ r. fault_in (damage r)) read ∙ ap fault_in is_damage),
      λ none. absurd cc,
    ))
