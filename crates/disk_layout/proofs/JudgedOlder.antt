-- The least page that breaks format 1, from what was found of the label, the catalogue, the map pages and the bits.
use Rattle.std.proofs.Common.{◌≡◌, ◌≢◌, ℕ, ◌+◌, ◌/◌, ◌<◌, ◌≤◌, Bool, true, false, Option, Some, None, List, refl, sym, subst, inl, inr, arith}
use Rattle.std.specs.Prelude.{nat_lt, MatchOption, slice_index}
use Rattle.std.proofs.lemmas.Bool.{cases_lt, cond-true, cond-false, lt-ltb, le-ltb}
use Rattle.disk_layout.specs.Disk.{disk_of, page_at}
use Rattle.disk_layout.specs.Format.{EntryIsRight}
use Rattle.disk_layout.specs.Format1.{IsBad1, IsSoloDisk1, KeepsFormat1, Mark1IsRight, label1}
use Rattle.disk_layout.specs.Judging.{EntryStands, JudgedBelow, MapKeeps, SearchesAreRight, least_page}
use Rattle.disk_layout.proofs.JudgedDisk.{entry_parts, entry_right}

module _ (pages : List (List ℕ)) where
  early : (n : ℕ) → n < 16 → (n ≡ 0 → page_at pages 0 ≡ label1) → ((p : ℕ) → p < 240 → n ≡ 1 + p / 16 → EntryIsRight (disk_of pages) p)
      → KeepsFormat1 pages n
  early n below first entries = record {
    first = first;
    catalogue = entries;
    bits = λ m within is. absurd (omega (arith, below, is));
    zeros = λ is. absurd (omega (arith, below, is));
    map = λ x. let free = x.free in absurd (omega (arith, below, free.file_page));
  }

  pub label1_bad : page_at pages 0 ≢ label1 → IsBad1 pages 0
  label1_bad other = record { breaks = λ keeps. other (keeps.first refl); least = λ lesser below. absurd (omega (arith, below)) }

  pub catalogue1_bad : page_at pages 0 ≡ label1 → (bad : ℕ)
      → JudgedBelow (λ p. EntryStands (disk_of pages) p × SearchesAreRight (disk_of pages) p) 240 (Some bad)
      → IsBad1 pages (1 + bad / 16)
  catalogue1_bad first bad j = record {
    breaks = λ keeps. j.1 (entry_parts (disk_of pages) bad (keeps.catalogue bad j.0 refl));
    least =
        λ lesser below. early lesser (omega (arith, below, j.0)) (λ _. first) (λ p within is. entry_right (disk_of pages) p (j.2 p (omega (arith, below, is))));
  }

  module _ (first : page_at pages 0 ≡ label1) (right : (p : ℕ) → p < 240 → EntryIsRight (disk_of pages) p) where
    map_bad : (n bit : ℕ) → n ≡ 16 + bit / 4096 → bit < 4288 → (Mark1IsRight (disk_of pages) bit → ⊥)
        → ((m : ℕ) → m < bit → Mark1IsRight (disk_of pages) m) → IsBad1 pages n
    map_bad n bit is within wrong before = record {
      breaks = λ keeps. wrong (keeps.bits bit within is);
      least = λ lesser below. record {
        first = λ _. first;
        catalogue = λ p inside _. right p inside;
        bits = λ m inside at. before m (omega (arith, below, is, at));
        zeros = λ at. absurd (omega (arith, below, is, at, within));
        map = λ x. let free = x.free in absurd (omega (arith, below, is, within, free.file_page));
      };
    }

    module _ (marks : (m : ℕ) → m < 4288 → Mark1IsRight (disk_of pages) m) where
      rest_bad : (((k : ℕ) → 24 ≤ k → slice_index (page_at pages 17) k ≡ 0) → ⊥) → IsBad1 pages 17
      rest_bad wrong = record {
        breaks = λ keeps. wrong (keeps.zeros refl);
        least = λ lesser below. record {
          first = λ _. first;
          catalogue = λ p inside _. right p inside;
          bits = λ m inside _. marks m inside;
          zeros = λ at. absurd (omega (arith, below, at));
          map = λ x. let free = x.free in absurd (omega (arith, below, free.file_page));
        };
      }

      maps_judged : (bad : Option ℕ) → ((k : ℕ) → 24 ≤ k → slice_index (page_at pages 17) k ≡ 0) → JudgedBelow (MapKeeps (disk_of pages)) 4288 bad
          → MatchOption bad (IsSoloDisk1 pages) (IsBad1 pages)
      maps_judged None zeros j = λ n. record {
        first = λ _. first;
        catalogue = λ p inside _. right p inside;
        bits = λ m inside _. marks m inside;
        zeros = λ _. zeros;
        map = λ x. j n x.free.within x;
      }
      maps_judged (Some bad) zeros j = record {
        breaks = λ keeps. j.1 keeps.map;
        least = λ lesser below. record {
          first = λ _. first;
          catalogue = λ p inside _. right p inside;
          bits = λ m inside _. marks m inside;
          zeros = λ _. zeros;
          map = j.2 lesser below;
        };
      }

    pub disk1_judged : (bad_bit : Option ℕ) (zeros : Bool) (bad_page : Option ℕ) → JudgedBelow (Mark1IsRight (disk_of pages)) 4288 bad_bit
        → (zeros ≡ true → (k : ℕ) → 24 ≤ k → slice_index (page_at pages 17) k ≡ 0)
        → (zeros ≡ false → ((k : ℕ) → 24 ≤ k → slice_index (page_at pages 17) k ≡ 0) → ⊥)
        → JudgedBelow (MapKeeps (disk_of pages)) 4288 bad_page
        → MatchOption (least_page bad_bit zeros bad_page) (IsSoloDisk1 pages) (IsBad1 pages)
    disk1_judged (Some bit) zeros bad_page j z z' l = elim (cases_lt bit 4096) [
      | inl low ↦ subst (λ x. MatchOption x (IsSoloDisk1 pages) (IsBad1 pages)) (sym (cond-true (nat_lt bit 4096) (Some 16) (Some 17) (lt-ltb bit 4096 low)))
          (map_bad 16 bit (omega (arith, low)) j.0 j.1 j.2)
      | inr high ↦ subst (λ x. MatchOption x (IsSoloDisk1 pages) (IsBad1 pages)) (sym (cond-false (nat_lt bit 4096) (Some 16) (Some 17) (le-ltb bit 4096 high)))
          (let within = j.0 in map_bad 17 bit (omega (arith, high, within)) j.0 j.1 j.2)
    ]
    disk1_judged None true bad_page j z z' l = maps_judged j bad_page (z refl) l
    disk1_judged None false bad_page j z z' l = rest_bad j (z' refl)
