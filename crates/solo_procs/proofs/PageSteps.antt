-- The pages of streams, one behind the other.
use Rattle.std.proofs.Common.{◌≡◌, ◌==◌, not, Bool, true, false, refl, sym, ◌∙◌}
use Rattle.std.specs.Prelude.{Ok, IsTrue, slice_index}
use Rattle.std.proofs.lemmas.Bool.{eqb-true, eq-eqb}
use Rattle.solo_base.specs.declared.page.Page.{Page}
use Rattle.page_codec.specs.Reading.{PageContent}
use Rattle.page_codec.specs.Stream.{Awaited, awaited_after}
use Rattle.exchange_law.specs.Pages.{is_last}
use Rattle.solo_procs.specs.Hands.{page_behind, renewed}

told-not : (told t : Bool) → (IsTrue told → IsTrue t) → (IsTrue t → IsTrue told) → told ≡ t
told-not true true sure likely = refl
told-not true false sure likely = absurd (let no_way = sure refl in cc)
told-not false true sure likely = absurd (let no_way = likely refl in cc)
told-not false false sure likely = refl

pub last-is : (told : Bool) (page : Page) → ((IsTrue told → slice_index page.0 2 ≡ 0 → ⊥) × ((slice_index page.0 2 ≡ 0 → ⊥) → IsTrue told))
    → told ≡ is_last page
last-is told page (sure, likely) = by (slice_index page.0 2 == 0) refl
  where
    by : (t : Bool) → (slice_index page.0 2 == 0) ≡ t → told ≡ not t
    by true e = told-not told false (λ is. absurd (sure is (eqb-true (slice_index page.0 2) 0 e))) (λ is. absurd cc)
    by false e = told-not told true (λ is. refl) (λ is. likely (λ same. (let both = sym e ∙ eq-eqb (slice_index page.0 2) 0 same in cc)))

pub renewed-place : (last : Bool) (awaited : Awaited) (content : PageContent)
    → (renewed last (awaited_after awaited last (Ok content))).place ≡ page_behind last awaited.place
renewed-place true awaited content = refl
renewed-place false awaited content = refl

pub renewed-goes_on : (last : Bool) (awaited : Awaited) (content : PageContent)
    → (renewed last (awaited_after awaited last (Ok content))).ended ≡ false
renewed-goes_on true awaited content = refl
renewed-goes_on false awaited content = refl
