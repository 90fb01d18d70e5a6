-- The least page that breaks the format, from what was found of the label, the catalogue, the pages of files and the bits.
use Rattle.std.proofs.Common.{◌≡◌, ◌≢◌, ℕ, ◌+◌, ◌/◌, ◌<◌, ◌≤◌, Bool, true, false, Option, Some, None, List, refl, sym, subst, inl, inr, arith}
use Rattle.std.specs.Prelude.{nat_lt, MatchOption, slice_index}
use Rattle.std.proofs.lemmas.Bool.{cases_lt, cond-true, cond-false, lt-ltb, le-ltb}
use Rattle.disk_layout.specs.Disk.{Disk, disk_of, page_at}
use Rattle.disk_layout.specs.Format.{EntryIsRight, MarkIsRight, KeepsFormat, IsSoloDisk, IsBad, label}
use Rattle.disk_layout.specs.Judging.{EntryStands, SearchesAreRight, IndexKeeps, PartKeeps, JudgedBelow, least_page}

pub entry_right : (d : Disk) (p : ℕ) → EntryStands d p × SearchesAreRight d p → EntryIsRight d p
entry_right d p both = record { whole = both.0.whole; name = both.0.name; address = both.0.address; searches = both.1 }

pub entry_parts : (d : Disk) (p : ℕ) → EntryIsRight d p → EntryStands d p × SearchesAreRight d p
entry_parts d p right = (record { whole = right.whole; name = right.name; address = right.address }, right.searches)

module _ (pages : List (List ℕ)) where
  -- pages before those of files keep the format where the label and the catalogue do
  early : (n : ℕ) → n < 16 → (n ≡ 0 → page_at pages 0 ≡ label) → ((p : ℕ) → p < 240 → n ≡ 1 + p / 16 → EntryIsRight (disk_of pages) p) → KeepsFormat pages n
  early n below first entries = record {
    first = first;
    catalogue = entries;
    bits = λ m within is. absurd (omega (arith, below, is));
    zeros = λ is. absurd (omega (arith, below, is));
    index = λ x. let free = x.free in absurd (omega (arith, below, free.file_page));
    part = λ by place x. let free = x.free in absurd (omega (arith, below, free.file_page));
  }

  pub label_bad : page_at pages 0 ≢ label → IsBad pages 0
  label_bad other = record { breaks = λ keeps. other (keeps.first refl); least = λ lesser below. absurd (omega (arith, below)) }

  pub catalogue_bad : page_at pages 0 ≡ label → (bad : ℕ) → JudgedBelow (λ p. EntryStands (disk_of pages) p × SearchesAreRight (disk_of pages) p) 240 (Some bad)
      → IsBad pages (1 + bad / 16)
  catalogue_bad first bad j = record {
    breaks = λ keeps. j.1 (entry_parts (disk_of pages) bad (keeps.catalogue bad j.0 refl));
    least =
        λ lesser below. early lesser (omega (arith, below, j.0)) (λ _. first) (λ p within is. entry_right (disk_of pages) p (j.2 p (omega (arith, below, is))));
  }

  module _ (first : page_at pages 0 ≡ label) (right : (p : ℕ) → p < 240 → EntryIsRight (disk_of pages) p) where
    map_bad : (n bit : ℕ) → n ≡ 16 + bit / 4096 → bit < 4288 → (MarkIsRight (disk_of pages) bit → ⊥) → ((m : ℕ) → m < bit → MarkIsRight (disk_of pages) m)
        → IsBad pages n
    map_bad n bit is within wrong before = record {
      breaks = λ keeps. wrong (keeps.bits bit within is);
      least = λ lesser below. record {
        first = λ _. first;
        catalogue = λ p inside _. right p inside;
        bits = λ m inside at. before m (omega (arith, below, is, at));
        zeros = λ at. absurd (omega (arith, below, is, at, within));
        index = λ x. let free = x.free in absurd (omega (arith, below, is, within, free.file_page));
        part = λ by place x. let free = x.free in absurd (omega (arith, below, is, within, free.file_page));
      };
    }

    module _ (marks : (m : ℕ) → m < 4288 → MarkIsRight (disk_of pages) m) where
      rest_bad : (((k : ℕ) → 24 ≤ k → slice_index (page_at pages 17) k ≡ 0) → ⊥) → IsBad pages 17
      rest_bad wrong = record {
        breaks = λ keeps. wrong (keeps.zeros refl);
        least = λ lesser below. record {
          first = λ _. first;
          catalogue = λ p inside _. right p inside;
          bits = λ m inside _. marks m inside;
          zeros = λ at. absurd (omega (arith, below, at));
          index = λ x. let free = x.free in absurd (omega (arith, below, free.file_page));
          part = λ by place x. let free = x.free in absurd (omega (arith, below, free.file_page));
        };
      }

      pages_judged : (bad : Option ℕ) → ((k : ℕ) → 24 ≤ k → slice_index (page_at pages 17) k ≡ 0)
          → JudgedBelow (λ n. IndexKeeps (disk_of pages) n × PartKeeps (disk_of pages) n) 4288 bad
          → MatchOption bad (IsSoloDisk pages) (IsBad pages)
      pages_judged None zeros j = λ n. record {
        first = λ _. first;
        catalogue = λ p inside _. right p inside;
        bits = λ m inside _. marks m inside;
        zeros = λ _. zeros;
        index = λ x. (j n x.free.within).0 x;
        part = λ by place x. (j n x.free.within).1 by place x;
      }
      pages_judged (Some bad) zeros j = record {
        breaks = λ keeps. j.1 (keeps.index, keeps.part);
        least = λ lesser below. record {
          first = λ _. first;
          catalogue = λ p inside _. right p inside;
          bits = λ m inside _. marks m inside;
          zeros = λ _. zeros;
          index = (j.2 lesser below).0;
          part = (j.2 lesser below).1;
        };
      }

    pub disk_judged : (bad_bit : Option ℕ) (zeros : Bool) (bad_page : Option ℕ) → JudgedBelow (MarkIsRight (disk_of pages)) 4288 bad_bit
        → (zeros ≡ true → (k : ℕ) → 24 ≤ k → slice_index (page_at pages 17) k ≡ 0)
        → (zeros ≡ false → ((k : ℕ) → 24 ≤ k → slice_index (page_at pages 17) k ≡ 0) → ⊥)
        → JudgedBelow (λ n. IndexKeeps (disk_of pages) n × PartKeeps (disk_of pages) n) 4288 bad_page
        → MatchOption (least_page bad_bit zeros bad_page) (IsSoloDisk pages) (IsBad pages)
    disk_judged (Some bit) zeros bad_page j z z' l = elim (cases_lt bit 4096) [
      | inl low ↦ subst (λ x. MatchOption x (IsSoloDisk pages) (IsBad pages)) (sym (cond-true (nat_lt bit 4096) (Some 16) (Some 17) (lt-ltb bit 4096 low)))
          (map_bad 16 bit (omega (arith, low)) j.0 j.1 j.2)
      | inr high ↦ subst (λ x. MatchOption x (IsSoloDisk pages) (IsBad pages)) (sym (cond-false (nat_lt bit 4096) (Some 16) (Some 17) (le-ltb bit 4096 high)))
          (let within = j.0 in map_bad 17 bit (omega (arith, high, within)) j.0 j.1 j.2)
    ]
    disk_judged None true bad_page j z z' l = pages_judged j bad_page (z refl) l
    disk_judged None false bad_page j z z' l = rest_bad j (z' refl)
