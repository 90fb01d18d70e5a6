-- Streams of pages, one page after the other.
use Rattle.std.proofs.Common.{◌≡◌, ℕ, Bool, List, [], ◌∷◌, ◌++◌, None, refl, sym, ◌∙◌, ap, subst, append_assoc}
use Rattle.std.proofs.lemmas.List.{append-nil}
use Rattle.solo_base.specs.declared.page.Page.{Page}
use Rattle.exchange_law.specs.Pages.{is_last, page_gives, items_read, damage, lines_of}
use Rattle.exchange_law.specs.Parcels.{Parcel, OfArg, OfPage, count_behind, stream_lines, count_after, IsNumbered, AreNumbered}
use Rattle.exchange_law.proofs.Lines.{marked-with, undamaged}

pub stream-append : (n : ℕ) (some more : List Parcel) → stream_lines n (some ++ more) ≡ stream_lines n some ++ stream_lines (count_after n some) more
stream-append n [] more = refl
stream-append n (OfPage page ∷ some) more =
    ap (λ lines. lines_of (items_read (page_gives n page)) ++ lines) (stream-append (count_behind (is_last page) n) some more)
    ∙ sym (append_assoc (lines_of (items_read (page_gives n page))) _ _)
stream-append n (OfArg x ∷ some) more = stream-append n some more

pub count-append : (n : ℕ) (some more : List Parcel) → count_after n (some ++ more) ≡ count_after (count_after n some) more
count-append n [] more = refl
count-append n (OfPage page ∷ some) more = count-append (count_behind (is_last page) n) some more
count-append n (OfArg x ∷ some) more = count-append n some more

pub numbered-front : (n : ℕ) (some more : List Parcel) → AreNumbered n (some ++ more) → AreNumbered n some
numbered-front n [] more are = tt
numbered-front n (OfPage page ∷ some) more are = (are.0, numbered-front (count_behind (is_last page) n) some more are.1)
numbered-front n (OfArg x ∷ some) more are = numbered-front n some more are

pub numbered-behind : (n : ℕ) (some more : List Parcel) → AreNumbered n (some ++ more) → AreNumbered (count_after n some) more
numbered-behind n [] more are = are
numbered-behind n (OfPage page ∷ some) more are = numbered-behind (count_behind (is_last page) n) some more are.1
numbered-behind n (OfArg x ∷ some) more are = numbered-behind n some more are

pub numbered-both : (n : ℕ) (some more : List Parcel) → AreNumbered n some → AreNumbered (count_after n some) more → AreNumbered n (some ++ more)
numbered-both n [] more a b = b
numbered-both n (OfPage page ∷ some) more a b = (a.0, numbered-both (count_behind (is_last page) n) some more a.1 b)
numbered-both n (OfArg x ∷ some) more a b = numbered-both n some more a b

-- ---- a stream that grows, where `So` says what holds with so many pages of the last stream behind it
pub record Stands (So : ℕ → Type 0) (parcels : List Parcel) : Type 0 where
  pub so : So (count_after 0 parcels)
  pub numbered : AreNumbered 0 parcels

pub stands-still : (So : ℕ → Type 0) (parcels : List Parcel) → Stands So parcels → Stands So (parcels ++ [])
stands-still So parcels is = subst (Stands So) (sym (append-nil parcels)) is

pub numbered-mark : (n : ℕ) (last : Bool) (page : Page) → IsNumbered n last page → is_last page ≡ last
numbered-mark n last page is = ap is_last is.is ∙ marked-with n last is.lines

pub page-put : (So : ℕ → Type 0) (parcels : List Parcel) (last : Bool) (page : Page) → AreNumbered 0 parcels
    → IsNumbered (count_after 0 parcels) last page → So (count_behind last (count_after 0 parcels)) → Stands So (parcels ++ OfPage page ∷ [])
page-put So parcels last page are is so =
    let same = numbered-mark (count_after 0 parcels) last page is in
    record {
      so = subst So (sym (count-append 0 parcels (OfPage page ∷ []) ∙ ap (λ t. count_behind t (count_after 0 parcels)) same)) so;
      numbered = numbered-both 0 parcels (OfPage page ∷ []) are
          (subst (λ t. IsNumbered (count_after 0 parcels) t page) (sym same) is, tt);
    }

-- the next page of a stream is in form
pub next-undamaged : (parcels : List Parcel) (page : Page) → AreNumbered 0 (parcels ++ OfPage page ∷ [])
    → damage (page_gives (count_after 0 parcels) page) ≡ None
next-undamaged parcels page are =
    let is = (numbered-behind 0 parcels (OfPage page ∷ []) are).0 in
    ap (λ page. damage (page_gives (count_after 0 parcels) page)) is.is ∙ undamaged (count_after 0 parcels) (is_last page) is.lines is.are
