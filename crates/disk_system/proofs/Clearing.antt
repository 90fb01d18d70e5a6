-- What the writes of a format leave, one after the other.
use Rattle.std.proofs.Common.{◌≡◌, ℕ, ◌+◌, ◌-◌, ◌<◌, ◌≤◌, Option, List, [], length, set, refl, ap, sym, ◌∙◌, inl, inr, arith, length-set}
use Rattle.std.specs.Prelude.{◌⊎◌, nat_lt, slice_set}
use Rattle.std.specs.Option.{unwrap_or}
use Rattle.std.proofs.lemmas.Option.{unwrap_or-slice_get}
use Rattle.solo_devices.specs.Area.{Writes}
use Rattle.solo_devices.specs.declared.area.Moved.{Moved}
use Rattle.std.specs.FinSet as fin
use Rattle.std.proofs.lemmas.Bool.{cases_eq}
use Rattle.solo_base.specs.PageBytes.{zero_page}
use Rattle.solo_base.specs.declared.page.Page.{Page}
use Rattle.disk_pages.specs.Pages.{Pages, IsBitMap}
use Rattle.disk_pages.specs.Bits.{is_marked}
use Rattle.disk_layout.specs.Disk.{page_at}
use Rattle.disk_layout.specs.Format.{label}
use Rattle.disk_layout.proofs.Written.{page_written, page_beside, saves_map}
use Rattle.disk_system.specs.Formatted.{IsCleared, IsFormatted, KeepsFilePages}

pub cleared_none : (pages : List (List ℕ)) → IsCleared pages 0 pages
cleared_none pages = record { as_many = refl; cleared = λ n below. absurd (omega (arith, below)); others = λ n apart. refl }

pub cleared_next : (pages now : List (List ℕ)) (n : ℕ) → n < 15 → length pages ≡ 4288 → IsCleared pages n now
    → IsCleared pages (n + 1) (set now (1 + n) zero_page)
cleared_next pages now n few size was = record {
  as_many = length-set now (1 + n) zero_page ∙ was.as_many;
  cleared = λ k below. elim (cases_eq k n) [
    | inl here ↦ ap (λ x. page_at (set now (1 + n) zero_page) (1 + x)) here ∙ page_written now (1 + n) zero_page (omega (arith, few, size, was.as_many))
    | inr apart ↦ page_beside now (1 + n) (1 + k) zero_page (λ e. apart (omega (arith, e))) ∙ was.cleared k (omega (arith, below, apart))
  ];
  others = λ k apart. page_beside now (1 + n) k zero_page (λ e. not_it k e apart) ∙ was.others k (wider k apart);
}
  where
    not_it : (k : ℕ) → k ≡ 1 + n → (k < 1) ⊎ (n + 1 < k) → ⊥
    not_it k e (inl below) = omega (arith, e, below)
    not_it k e (inr past) = omega (arith, e, past)

    wider : (k : ℕ) → (k < 1) ⊎ (n + 1 < k) → (k < 1) ⊎ (n < k)
    wider k (inl below) = inl below
    wider k (inr past) = inr (omega (arith, past))

pub formatted : (pages first cleared : List (List ℕ)) (taken : Pages) (low high : Page) → length pages ≡ 4288 → first ≡ set pages 0 label
    → IsCleared first 15 cleared → ((n : ℕ) → n < 4288 → is_marked low high n ≡ fin.contains taken n) → IsBitMap low high
    → ((n : ℕ) → fin.contains taken n ≡ nat_lt n 18) → IsFormatted pages (set (set cleared 16 low.0) 17 high.0)
formatted pages first cleared taken low high size first_is was bits format fresh =
    let as_many : length cleared ≡ length pages = was.as_many ∙ ap length first_is ∙ length-set pages 0 label in
    let saved = saves_map cleared low high taken (as_many ∙ size) bits format in
    record {
      as_many = saved.as_many ∙ as_many;
      first = saved.others 0 (λ e. absurd (omega (arith, e))) (λ e. absurd (omega (arith, e))) ∙ was.others 0 (inl (omega arith))
          ∙ ap (λ x. page_at x 0) first_is
          ∙ page_written pages 0 label (omega (arith, size));
      catalogue = λ n some last.
          saved.others n (λ e. omega (arith, e, last)) (λ e. omega (arith, e, last))
          ∙ ap (page_at cleared) (back n some) ∙ was.cleared (n - 1) (omega (arith, some, last));
      marked = λ n within. saved.marked n within ∙ fresh n;
      zeros = saved.zeros;
      others = λ n past.
          saved.others n (λ e. omega (arith, e, past)) (λ e. omega (arith, e, past))
          ∙ was.others n (inr (omega (arith, past))) ∙ ap (λ x. page_at x n) first_is
          ∙ page_beside pages 0 n label (λ e. omega (arith, e, past));
    }
  where
    back : (n : ℕ) → 1 ≤ n → n ≡ 1 + (n - 1)
    back n some = omega (arith, some)

-- a write of a page that is no file's
pub wrote_apart : (before now : Option (List (List ℕ))) (n : ℕ) (answer : Moved) (page : List ℕ) → n < 18
    → Writes before now n answer page → KeepsFilePages before now
wrote_apart before now n Moved.Done page apart w = record {
  told = λ pages told. (slice_set pages n page, w.told pages told, λ m past. page_beside pages n m page (λ e. omega (arith, e, apart, past)));
  untold = w.untold;
}
wrote_apart before now n Moved.Failed page apart w = record {
  told = λ pages told.
      let x = w.told pages told in (
        x.0,
        x.1,
        λ m past. sym (unwrap_or-slice_get x.0 m [])
            ∙ ap (λ o. unwrap_or o []) (x.2.others m (λ e. omega (arith, e, apart, past))) ∙ unwrap_or-slice_get pages m [],
      );
  untold = w.untold;
}
