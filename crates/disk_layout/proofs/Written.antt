-- Pages that were written.
use Rattle.std.proofs.Common.{◌≡◌, ◌≢◌, ℕ, ◌+◌, ◌*◌, ◌/◌, ◌%◌, ◌<◌, List, [], length, get_or, set, refl, ap, sym, ◌∙◌, inl, inr, arith, get_or-set_same, get_or-set_other, length-set}
use Rattle.std.specs.FinSet as fin
use Rattle.std.proofs.lemmas.Bool.{cases_lt}
use Rattle.solo_base.specs.declared.page.Page.{Page}
use Rattle.disk_pages.specs.Pages.{Pages, IsBitMap}
use Rattle.disk_pages.specs.Bits.{is_marked}
use Rattle.solo_base.specs.PageBytes.{number_at}
use Rattle.disk_pages.specs.Field.{ChangesOnly}
use Rattle.disk_layout.specs.Disk.{page_at, number_of, marked_of}
use Rattle.disk_layout.specs.Format.{IsAddress}
use Rattle.disk_layout.specs.Appending.{SavesMap, AppendWrites}

pub page_written : (pages : List (List ℕ)) (n : ℕ) (bytes : List ℕ) → n < length pages → page_at (set pages n bytes) n ≡ bytes
page_written pages n bytes below = get_or-set_same pages n bytes [] below

pub page_beside : (pages : List (List ℕ)) (n m : ℕ) (bytes : List ℕ) → m ≢ n → page_at (set pages n bytes) m ≡ page_at pages m
page_beside pages n m bytes apart = get_or-set_other pages n m bytes [] apart

-- a number beside the one that was changed
pub number_kept : (old new : List ℕ) (m k at : ℕ) → ChangesOnly at 2 old new → at ≡ 2 * m → k ≢ m → number_at new (2 * k) ≡ number_at old (2 * k)
number_kept old new m k at changes here apart = elim (cases_lt k m) [
  | inl below ↦
      let low = changes.before (2 * k) (omega arith) in let high = changes.before (2 * k + 1) (omega arith) in
      ap (λ x. x * 256 + get_or new (2 * k + 1) 0) low ∙ ap (λ x. get_or old (2 * k) 0 * 256 + x) high
  | inr above ↦
      let low = changes.behind (2 * k) (omega arith) in let high = changes.behind (2 * k + 1) (omega arith) in
      ap (λ x. x * 256 + get_or new (2 * k + 1) 0) low ∙ ap (λ x. get_or old (2 * k) 0 * 256 + x) high
]

pub saves_map : (pages : List (List ℕ)) (low high : Page) (taken : Pages) → length pages ≡ 4288
    → ((n : ℕ) → n < 4288 → is_marked low high n ≡ fin.contains taken n) → IsBitMap low high
    → SavesMap pages (set (set pages 16 low.0) 17 high.0) taken
unfolding marked_of
saves_map pages low high taken size bits format =
    let first : page_at (set (set pages 16 low.0) 17 high.0) 16 ≡ low.0 = page_beside (set pages 16 low.0) 17 16 high.0 (λ e. absurd (omega (arith, e)))
    ∙ page_written pages 16 low.0 (omega (arith, size)) in
    let last : page_at (set (set pages 16 low.0) 17 high.0) 17
    ≡ high.0 = page_written (set pages 16 low.0) 17 high.0 (omega (arith, size, length-set pages 16 low.0)) in
    let page : List ℕ → Page = λ bytes. record { 0 = bytes } in
    record {
      as_many = length-set _ 17 high.0 ∙ length-set pages 16 low.0;
      others = λ n not_first not_last. page_beside _ 17 n high.0 not_last ∙ page_beside pages 16 n low.0 not_first;
      marked =
          λ n within. ap (λ x. is_marked (page x) (page (page_at (set (set pages 16 low.0) 17 high.0) 17)) n) first ∙ ap (λ x. is_marked low (page x) n) last
          ∙ bits n within;
      zeros = λ k behind. ap (λ x. get_or x k 0) last ∙ format.zeros k behind;
    }

-- numbers of a page whose bytes are known
pub number_in : (pages : List (List ℕ)) (n k : ℕ) (bytes : List ℕ) → page_at pages n ≡ bytes → number_of pages n k ≡ number_at bytes (2 * k)
unfolding number_of
number_in pages n k bytes is = ap (λ b. number_at b (2 * k)) is

pub number_stays : (pages after : List (List ℕ)) (n k : ℕ) → page_at after n ≡ page_at pages n → number_of after n k ≡ number_of pages n k
unfolding number_of
number_stays pages after n k is = ap (λ b. number_at b (2 * k)) is

module _ (pages after : List (List ℕ)) (taken : Pages) (i q f count : ℕ) (page old_part part old_index counted index : List ℕ)
    (size : length pages ≡ 4288) (i_free : IsAddress i) (q_free : IsAddress q) (f_free : IsAddress f) (i_q : i ≢ q) (i_f : i ≢ f) (q_f : q ≢ f)
    (part_number : number_at part (2 * (count % 250)) ≡ f) (part_others : ChangesOnly (2 * (count % 250)) 2 old_part part)
    (length_number : number_at counted 0 ≡ count + 1) (length_others : ChangesOnly 0 2 old_index counted)
    (index_number : number_at index (2 * (count / 250 + 1)) ≡ q) (index_others : ChangesOnly (2 * (count / 250 + 1)) 2 counted index)
    (saved : SavesMap (set (set (set pages f page) q part) i index) after taken) where
  at_file_page : (n : ℕ) → IsAddress n → page_at after n ≡ page_at (set (set (set pages f page) q part) i index) n
  at_file_page n free = saved.others n (λ e. omega (arith, e, free.file_page)) (λ e. omega (arith, e, free.file_page))

  at_index : page_at after i ≡ index
  at_index = at_file_page i i_free ∙ page_written _ i index (omega (arith, i_free.within, size, length-set (set pages f page) q part, length-set pages f page))

  at_part : page_at after q ≡ part
  at_part =
      at_file_page q q_free ∙ page_beside _ i q index (λ e. i_q (sym e)) ∙ page_written _ q part (omega (arith, q_free.within, size, length-set pages f page))

  at_file : page_at after f ≡ page
  at_file =
      at_file_page f f_free ∙ page_beside _ i f index (λ e. i_f (sym e)) ∙ page_beside _ q f part (λ e. q_f (sym e))
      ∙ page_written pages f page (omega (arith, f_free.within, size))

  pub append_writes : AppendWrites pages after taken i q f count old_index old_part page
  append_writes = record {
    as_many = saved.as_many ∙ length-set _ i index ∙ length-set _ q part ∙ length-set pages f page;
    file = at_file;
    named = number_in after q (count % 250) part at_part ∙ part_number;
    part_kept = λ j apart. number_in after q j part at_part ∙ number_kept old_part part (count % 250) j _ part_others refl apart;
    length = number_in after i 0 index at_index ∙ number_kept counted index (count / 250 + 1) 0 _ index_others refl (λ e. omega (arith, e)) ∙ length_number;
    index = number_in after i (count / 250 + 1) index at_index ∙ index_number;
    index_kept = λ k some apart.
        number_in after i k index at_index ∙ number_kept counted index (count / 250 + 1) k _ index_others refl apart
        ∙ number_kept old_index counted 0 k 0 length_others refl some;
    others = λ n not_f not_q not_i not_first not_last.
        saved.others n not_first not_last ∙ page_beside _ i n index not_i ∙ page_beside _ q n part not_q ∙ page_beside pages f n page not_f;
    marked = saved.marked;
    zeros = saved.zeros;
  }

-- number k of page n, as it is read from the bytes of the page
pub number_read : (pages : List (List ℕ)) (bytes : List ℕ) (n n' k at r : ℕ) → r ≡ number_at bytes at → at ≡ 2 * k → bytes ≡ page_at pages n' → n' ≡ n
    → r ≡ number_of pages n k
unfolding number_of
number_read pages bytes n n' k at r is place read same =
    is ∙ ap (number_at bytes) place ∙ ap (λ b. number_at b (2 * k)) read ∙ ap (λ m. number_at (page_at pages m) (2 * k)) same
