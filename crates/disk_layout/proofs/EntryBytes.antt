-- The fields of an entry, as they are written into the bytes of a page.
use Rattle.std.proofs.Common.{◌≡◌, ◌≢◌, ℕ, ◌+◌, ◌-◌, ◌*◌, ◌/◌, ◌%◌, ◌<◌, ◌≤◌, min, List, length, take, drop, get_or, set, ap, sym, ◌∙◌, inl, inr, arith, length-take, length-drop, length-set}
use Rattle.std.specs.Prelude.{◌⊎◌}
use Rattle.std.proofs.lemmas.Bool.{cases_eq, cases_lt}
use Rattle.std.proofs.lemmas.List.{ext_get_or, get_or-drop, get_or-take}
use Rattle.solo_base.specs.PageBytes.{number_at}
use Rattle.disk_pages.specs.Field.{ChangesOnly}
use Rattle.disk_layout.specs.declared.entry.Entry.{Entry}
use Rattle.disk_layout.specs.Disk.{entry_in, entry_of, spare_of, page_at}
use Rattle.disk_layout.specs.Writing.{WritesEntry, EntryWritten}
use Rattle.disk_layout.proofs.Written.{page_written, page_beside}

module _ (at count : ℕ) (old new : List ℕ) (c : ChangesOnly at count old new) where
  byte_kept : (k : ℕ) → (k < at) ⊎ (at + count ≤ k) → get_or new k 0 ≡ get_or old k 0
  byte_kept k (inl low) = c.before k low
  byte_kept k (inr high) = c.behind k high

  pub number_stays_at : (from : ℕ) → (from + 2 ≤ at) ⊎ (at + count ≤ from) → number_at new from ≡ number_at old from
  number_stays_at from apart =
      let low = byte_kept from (first apart) in let high = byte_kept (from + 1) (second apart) in
      ap (λ x. x * 256 + get_or new (from + 1) 0) low ∙ ap (λ x. get_or old from 0 * 256 + x) high
    where
      first : (from + 2 ≤ at) ⊎ (at + count ≤ from) → (from < at) ⊎ (at + count ≤ from)
      first (inl low) = inl (omega (arith, low))
      first (inr high) = inr high

      second : (from + 2 ≤ at) ⊎ (at + count ≤ from) → (from + 1 < at) ⊎ (at + count ≤ from + 1)
      second (inl low) = inl (omega (arith, low))
      second (inr high) = inr (omega (arith, high))

  pub bytes_stay : (from wide : ℕ) → (from + wide ≤ at) ⊎ (at + count ≤ from) → take wide (drop from new) ≡ take wide (drop from old)
  bytes_stay from wide apart =
      ext_get_or 0 (take wide (drop from new)) (take wide (drop from old))
      (length-take wide (drop from new) ∙ ap (min wide) (length-drop from new ∙ ap (λ n. n - from) c.as_many ∙ sym (length-drop from old))
      ∙ sym (length-take wide (drop from old)))
      (λ i below.
      let inside : i < wide = omega (arith, below, length-take wide (drop from new)) in
      get_or-take wide (drop from new) i 0 inside ∙ get_or-drop from new i 0 ∙ byte_kept (from + i) (place i inside apart)
      ∙ sym (get_or-take wide (drop from old) i 0 inside ∙ get_or-drop from old i 0))
    where
      place : (i : ℕ) → i < wide → (from + wide ≤ at) ⊎ (at + count ≤ from) → (from + i < at) ⊎ (at + count ≤ from + i)
      place i inside (inl low) = inl (omega (arith, inside, low))
      place i inside (inr high) = inr (omega (arith, high))

same_fields : {n n' : List ℕ} {k k' a a' p p' y y' s s' : ℕ} → n ≡ n' → k ≡ k' → a ≡ a' → p ≡ p' → y ≡ y' → s ≡ s'
    → ◌≡◌ {A =
    Entry} (record {
      name =
          n;
      kind =
          k;
      address =
          a;
      protection = p;
      key = y;
      searches = s;
    }) (record { name = n'; kind = k'; address = a'; protection = p'; key = y'; searches = s' })
same_fields n k a p y s = cc

-- six fields are written one after the other
module _ (at : ℕ) (e : Entry) (b0 b1 b2 b3 b4 b5 b6 : List ℕ)
    (c1 : ChangesOnly at 12 b0 b1) (n1 : take 12 (drop at b1) ≡ e.name)
    (c2 : ChangesOnly (at + 12) 2 b1 b2) (n2 : number_at b2 (at + 12) ≡ e.kind)
    (c3 : ChangesOnly (at + 14) 2 b2 b3) (n3 : number_at b3 (at + 14) ≡ e.address)
    (c4 : ChangesOnly (at + 16) 2 b3 b4) (n4 : number_at b4 (at + 16) ≡ e.protection)
    (c5 : ChangesOnly (at + 28) 2 b4 b5) (n5 : number_at b5 (at + 28) ≡ e.key)
    (c6 : ChangesOnly (at + 30) 2 b5 b6) (n6 : number_at b6 (at + 30) ≡ e.searches) where
  name_is : take 12 (drop at b6) ≡ e.name
  name_is =
      bytes_stay _ _ b5 b6 c6 at 12 (inl (omega arith)) ∙ bytes_stay _ _ b4 b5 c5 at 12 (inl (omega arith)) ∙ bytes_stay _ _ b3 b4 c4 at 12 (inl (omega arith))
      ∙ bytes_stay _ _ b2 b3 c3 at 12 (inl (omega arith)) ∙ bytes_stay _ _ b1 b2 c2 at 12 (inl (omega arith)) ∙ n1

  kind_is : number_at b6 (at + 12) ≡ e.kind
  kind_is =
      number_stays_at _ _ b5 b6 c6 (at + 12) (inl (omega arith)) ∙ number_stays_at _ _ b4 b5 c5 (at + 12) (inl (omega arith))
      ∙ number_stays_at _ _ b3 b4 c4 (at + 12) (inl (omega arith)) ∙ number_stays_at _ _ b2 b3 c3 (at + 12) (inl (omega arith)) ∙ n2

  address_is : number_at b6 (at + 14) ≡ e.address
  address_is =
      number_stays_at _ _ b5 b6 c6 (at + 14) (inl (omega arith)) ∙ number_stays_at _ _ b4 b5 c5 (at + 14) (inl (omega arith))
      ∙ number_stays_at _ _ b3 b4 c4 (at + 14) (inl (omega arith)) ∙ n3

  protection_is : number_at b6 (at + 16) ≡ e.protection
  protection_is = number_stays_at _ _ b5 b6 c6 (at + 16) (inl (omega arith)) ∙ number_stays_at _ _ b4 b5 c5 (at + 16) (inl (omega arith)) ∙ n4

  key_is : number_at b6 (at + 28) ≡ e.key
  key_is = number_stays_at _ _ b5 b6 c6 (at + 28) (inl (omega arith)) ∙ n5

  -- bytes that none of the fields has
  others_stay : (from wide : ℕ) → (from + wide ≤ at) ⊎ (at + 32 ≤ from) → take wide (drop from b6) ≡ take wide (drop from b0)
  others_stay from wide (inl low) =
      bytes_stay _ _ b5 b6 c6 from wide (inl (omega (arith, low))) ∙ bytes_stay _ _ b4 b5 c5 from wide (inl (omega (arith, low)))
      ∙ bytes_stay _ _ b3 b4 c4 from wide (inl (omega (arith, low)))
      ∙ bytes_stay _ _ b2 b3 c3 from wide (inl (omega (arith, low))) ∙ bytes_stay _ _ b1 b2 c2 from wide (inl (omega (arith, low)))
      ∙ bytes_stay _ _ b0 b1 c1 from wide (inl low)
  others_stay from wide (inr high) =
      bytes_stay _ _ b5 b6 c6 from wide (inr (omega (arith, high))) ∙ bytes_stay _ _ b4 b5 c5 from wide (inr (omega (arith, high)))
      ∙ bytes_stay _ _ b3 b4 c4 from wide (inr (omega (arith, high)))
      ∙ bytes_stay _ _ b2 b3 c3 from wide (inr (omega (arith, high))) ∙ bytes_stay _ _ b1 b2 c2 from wide (inr (omega (arith, high)))
      ∙ bytes_stay _ _ b0 b1 c1 from wide (inr (omega (arith, high)))

  numbers_stay : (from : ℕ) → (from + 2 ≤ at) ⊎ (at + 32 ≤ from) → number_at b6 from ≡ number_at b0 from
  numbers_stay from (inl low) =
      number_stays_at _ _ b5 b6 c6 from (inl (omega (arith, low))) ∙ number_stays_at _ _ b4 b5 c5 from (inl (omega (arith, low)))
      ∙ number_stays_at _ _ b3 b4 c4 from (inl (omega (arith, low)))
      ∙ number_stays_at _ _ b2 b3 c3 from (inl (omega (arith, low))) ∙ number_stays_at _ _ b1 b2 c2 from (inl (omega (arith, low)))
      ∙ number_stays_at _ _ b0 b1 c1 from (inl low)
  numbers_stay from (inr high) =
      number_stays_at _ _ b5 b6 c6 from (inr (omega (arith, high))) ∙ number_stays_at _ _ b4 b5 c5 from (inr (omega (arith, high)))
      ∙ number_stays_at _ _ b3 b4 c4 from (inr (omega (arith, high)))
      ∙ number_stays_at _ _ b2 b3 c3 from (inr (omega (arith, high))) ∙ number_stays_at _ _ b1 b2 c2 from (inr (omega (arith, high)))
      ∙ number_stays_at _ _ b0 b1 c1 from (inr (omega (arith, high)))

  -- the spare bytes stand between the fields
  spare_stays : take 10 (drop (at + 18) b6) ≡ take 10 (drop (at + 18) b0)
  spare_stays =
      bytes_stay _ _ b5 b6 c6 (at + 18) 10 (inl (omega arith)) ∙ bytes_stay _ _ b4 b5 c5 (at + 18) 10 (inl (omega arith))
      ∙ bytes_stay _ _ b3 b4 c4 (at + 18) 10 (inr (omega arith))
      ∙ bytes_stay _ _ b2 b3 c3 (at + 18) 10 (inr (omega arith)) ∙ bytes_stay _ _ b1 b2 c2 (at + 18) 10 (inr (omega arith))
      ∙ bytes_stay _ _ b0 b1 c1 (at + 18) 10 (inr (omega arith))

  within : (other from wide : ℕ) → from + wide ≤ 32 → (other + 32 ≤ at) ⊎ (at + 32 ≤ other) → (other + from + wide ≤ at) ⊎ (at + 32 ≤ other + from)
  within other from wide small (inl low) = inl (omega (arith, small, low))
  within other from wide small (inr high) = inr (omega (arith, high))

  whole : (other : ℕ) → (other + 32 ≤ at) ⊎ (at + 32 ≤ other) → (other + 12 ≤ at) ⊎ (at + 32 ≤ other)
  whole other (inl low) = inl (omega (arith, low))
  whole other (inr high) = inr high

  pub entry_written : WritesEntry at e b0 b6
  unfolding entry_in
  entry_written =
      let name = name_is in let kind = kind_is in let address = address_is in let protection = protection_is in let key = key_is in
      record {
        as_many = c6.as_many ∙ c5.as_many ∙ c4.as_many ∙ c3.as_many ∙ c2.as_many ∙ c1.as_many;
        is = same_fields name kind address protection key n6;
        spare = spare_stays;
        others = λ other apart.
            let name_kept = others_stay other 12 (whole other apart) in
            let kind_kept = numbers_stay (other + 12) (within other 12 2 (omega arith) apart) in
            let address_kept = numbers_stay (other + 14) (within other 14 2 (omega arith) apart) in
            let protection_kept = numbers_stay (other + 16) (within other 16 2 (omega arith) apart) in
            let key_kept = numbers_stay (other + 28) (within other 28 2 (omega arith) apart) in
            let searches_kept = numbers_stay (other + 30) (within other 30 2 (omega arith) apart) in
            same_fields name_kept kind_kept address_kept protection_kept key_kept searches_kept;
        other_spare = λ other apart. others_stay (other + 18) 10 (within other 18 10 (omega arith) apart);
      }

-- the entry at a place of the catalogue is written
pub entry_put : (pages : List (List ℕ)) (p : ℕ) (e : Entry) (old new : List ℕ) → length pages ≡ 4288 → p < 240 → old ≡ page_at pages (1 + p / 16)
    → WritesEntry (32 * (p % 16)) e old new
    → EntryWritten pages (set pages (1 + p / 16) new) p e
unfolding entry_of spare_of
entry_put pages p e old new size below read w =
    let here : page_at (set pages (1 + p / 16) new) (1 + p / 16) ≡ new = page_written pages (1 + p / 16) new (omega (arith, size, below)) in
    record {
      as_many = length-set pages (1 + p / 16) new;
      is = ap (λ b. entry_in b (32 * (p % 16))) here ∙ w.is;
      entries = λ k inside apart. elim (cases_eq (k / 16) (p / 16)) [
        | inl same ↦
            let at : page_at (set pages (1 + p / 16) new) (1 + k / 16) ≡ new = ap (λ n. page_at (set pages (1 + p / 16) new) (1 + n)) same ∙ here in
            ap (λ b. entry_in b (32 * (k % 16))) at ∙ w.others (32 * (k % 16)) (beside k apart same)
            ∙ ap (λ b. entry_in b (32 * (k % 16))) (read ∙ ap (λ n. page_at pages (1 + n)) (sym same))
        | inr other ↦ ap (λ b. entry_in b (32 * (k % 16))) (page_beside pages (1 + p / 16) (1 + k / 16) new (λ x. other (omega (arith, x))))
      ];
      spares = λ k inside. elim (cases_eq (k / 16) (p / 16)) [
        | inl same ↦
            let at : page_at (set pages (1 + p / 16) new) (1 + k / 16) ≡ new = ap (λ n. page_at (set pages (1 + p / 16) new) (1 + n)) same ∙ here in
            ap (λ b. take 10 (drop (32 * (k % 16) + 18) b)) at
            ∙ elim (cases_eq k p) [
              | inl own ↦ let is : k % 16 ≡ p % 16 = ap (λ n. n % 16) own in
                  ap (λ n. take 10 (drop (32 * n + 18) new)) is ∙ w.spare ∙ ap (λ n. take 10 (drop (32 * n + 18) old)) (sym is)
              | inr apart ↦ w.other_spare (32 * (k % 16)) (beside k apart same)
            ]
            ∙ ap (λ b. take 10 (drop (32 * (k % 16) + 18) b)) (read ∙ ap (λ n. page_at pages (1 + n)) (sym same))
        | inr other ↦ ap (λ b. take 10 (drop (32 * (k % 16) + 18) b)) (page_beside pages (1 + p / 16) (1 + k / 16) new (λ x. other (omega (arith, x))))
      ];
      others = λ n apart. page_beside pages (1 + p / 16) n new apart;
    }
  where
    beside : (k : ℕ) → k ≢ p → k / 16 ≡ p / 16 → (32 * (k % 16) + 32 ≤ 32 * (p % 16)) ⊎ (32 * (p % 16) + 32 ≤ 32 * (k % 16))
    beside k apart same = elim (cases_lt (k % 16) (p % 16)) [
      | inl less ↦ inl (omega (arith, less))
      | inr not_less ↦ inr (omega (arith, not_less, apart, same))
    ]
