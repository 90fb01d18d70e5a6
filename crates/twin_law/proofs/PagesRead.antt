-- A page that is read: it has items and its mark, or it is damaged.
use Rattle.std.proofs.Common.{ℕ, Bool, List, None, Some}
use Rattle.std.specs.Prelude.{Result, Ok, Err}
use Rattle.solo_base.specs.declared.item.Item.{Item}
use Rattle.solo_base.specs.declared.page.Page.{Page}
use Rattle.page_codec.specs.declared.judge.BadPage.{BadPage}
use Rattle.page_codec.specs.Reading.{PageContent, page_read, bad_place, content_or_bad}

pub read-either : (P : Result PageContent BadPage → Type 0) (n : ℕ) (last : Bool) (page : Page)
    → ((items : List Item) → P (Ok (record { items = items; last = last }))) → ((bad : BadPage) → P (Err bad)) → P (page_read n last page)
read-either P n last page good bad =
    elim (bad_place n last page.0) as (λ at. P (content_or_bad n last page.0 at)) [
      | None ↦ good _
      | Some at ↦ bad _
    ]
