-- A file is the same where its entry, its length and its pages are.
use Rattle.std.proofs.Common.{◌≡◌, ◌≢◌, ℕ, suc, zero, ◌<◌, ◌==◌, ◌++◌, ◌∷◌, [], List, get_or, set, refl, ap, sym, ◌∙◌, inl, inr, arith, length-set, get_or-set_same, get_or-set_other}
use Rattle.std.proofs.lemmas.Bool.{cases_eq}
use Rattle.std.proofs.lemmas.List.{ext_get_or}
use Rattle.disk_layout.specs.declared.entry.Entry.{Entry}
use Rattle.disk_layout.specs.Disk.{disk_of, page_at, number_of}
use Rattle.disk_layout.specs.Files.{file_at, first_pages, kind_of, page_of, pages_named}
use Rattle.disk_layout.proofs.Lookups.{length-first_pages, first_pages_at}

module _ (pages after : List (List ℕ)) where
  named_stay : (a a' : ℕ → ℕ) (n : ℕ) → ((j : ℕ) → j < n → page_at after (a' j) ≡ page_at pages (a j)) → pages_named after a' n ≡ pages_named pages a n
  unfolding pages_named
  named_stay a a' zero same = refl
  named_stay a a' (suc n) same =
      ap (λ x. x ++ page_at after (a' n) ∷ []) (named_stay a a' n (λ j below. same j (omega (arith, below))))
      ∙ ap (λ x. pages_named pages a n ++ x ∷ []) (same n (omega arith))

  pub pages_stay : (e e' : Entry) → number_of after e'.address 0 ≡ number_of pages e.address 0
      → ((j : ℕ) → j < number_of pages e.address 0 → page_at after (page_of (disk_of after) e'.address j) ≡ page_at pages (page_of (disk_of pages) e.address j))
      → first_pages after e'.address (number_of after e'.address 0) ≡ first_pages pages e.address (number_of pages e.address 0)
  pages_stay e e' count same =
      ap (first_pages after e'.address) count
      ∙ named_stay (page_of (disk_of pages) e.address) (page_of (disk_of after) e'.address) (number_of pages e.address 0) same

  pub file_stays : (e e' : Entry) → e'.kind ≡ e.kind → e'.protection ≡ e.protection → number_of after e'.address 0 ≡ number_of pages e.address 0
      → ((j : ℕ) → j < number_of pages e.address 0 → page_at after (page_of (disk_of after) e'.address j) ≡ page_at pages (page_of (disk_of pages) e.address j))
      → file_at after e' ≡ file_at pages e
  unfolding file_at
  file_stays e e' kind protection count same =
      ap (λ k. record { kind = kind_of k; protected = e'.protection == 1; pages = first_pages after e'.address (number_of after e'.address 0) }) kind
      ∙ ap (λ k. record { kind = kind_of e.kind; protected = k == 1; pages = first_pages after e'.address (number_of after e'.address 0) }) protection
      ∙ ap (λ ps. record { kind = kind_of e.kind; protected = e.protection == 1; pages = ps }) (pages_stay e e' count same)

  -- one page of a file is another
  pub one_page_set : (i i' n j : ℕ) (bytes : List ℕ) → j < n → page_at after (page_of (disk_of after) i' j) ≡ bytes
      → ((k : ℕ) → k < n → k ≢ j → page_at after (page_of (disk_of after) i' k) ≡ page_at pages (page_of (disk_of pages) i k))
      → first_pages after i' n ≡ set (first_pages pages i n) j bytes
  one_page_set i i' n j bytes below here others =
      let size = length-first_pages pages i n in
      ext_get_or [] (first_pages after i' n) (set (first_pages pages i n) j bytes) (length-first_pages after i' n
      ∙ sym (length-set (first_pages pages i n) j bytes ∙ size))
      (λ k inside.
      let less : k < n = omega (arith, inside, length-first_pages after i' n) in
      first_pages_at after i' n k less ∙ elim (cases_eq k j) [
        | inl own ↦ ap (λ x. page_at after (page_of (disk_of after) i' x)) own ∙ here
            ∙ sym (ap (λ x. get_or (set (first_pages pages i n) j bytes) x []) own
            ∙ get_or-set_same (first_pages pages i n) j bytes [] (omega (arith, below, size)))
        | inr apart ↦ others k less apart ∙ sym (get_or-set_other (first_pages pages i n) j k bytes [] apart ∙ first_pages_at pages i n k less)
      ])
