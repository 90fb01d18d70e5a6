-- Which place of the law the output process stands at.
use Rattle.std.specs.Prelude.{◌≡◌, ℕ, ◌%◌, ◌^◌, Bool, List, [], Option, None, Some}
use Rattle.page_codec.specs.Reading.{PageContent}
use Rattle.exchange_law.specs.Pages.{lines_of}
use Rattle.solo_law.specs.OutputPlaces.{OutputPlace, AwaitsPrinting, TakesPage, PrintsLine, ReportsPrinted, IsDone}
use Rattle.solo_procs.specs.declared.output_proc.OutputAt.{OutputAt}
use Rattle.solo_procs.specs.declared.output_proc.OutputAt.TheVariants as here
use Rattle.solo_procs.specs.Hands.{place_after}

-- the lines that are left of a page, if there is one
abbrev pub lines_left : Option PageContent → List (List ℕ)
lines_left None = []
lines_left (Some content) = lines_of content.items

-- These lines are left of a page that ends its stream or doesn't, of which so many pages were taken.
pub record IsUnprinted (place : ℕ) (items : Option PageContent) (last : Bool) (later : List (List ℕ))
    (ending : Bool) (pages : ℕ) : Type 0 where
  pub left : lines_left items ≡ later
  pub ends : last ≡ ending
  pub next : place ≡ place_after ending pages

abbrev pub OutputStands : OutputAt → ℕ → Option PageContent → Bool → OutputPlace → Type 0
OutputStands at place items last AwaitsPrinting = (at ≡ here.AwaitsPrinting) × (place ≡ 0)
OutputStands at place items last (TakesPage pages) = (at ≡ here.TakesPage) × (place ≡ pages % 2 ^ 16)
OutputStands at place items last (PrintsLine line later ending pages) =
    (at ≡ here.PrintsLine line) × IsUnprinted place items last later ending pages
OutputStands at place items last ReportsPrinted = (at ≡ here.ReportsPrinted) × (place ≡ 0)
OutputStands at place items last IsDone = at ≡ here.IsDone
