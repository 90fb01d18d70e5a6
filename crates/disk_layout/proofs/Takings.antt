-- The pages that a create and an append take are the least that are free.
use Rattle.std.proofs.Common.{◌≡◌, ◌≢◌, ℕ, ◌+◌, ◌/◌, ◌%◌, ◌<◌, ◌==◌, ◌||◌, Bool, List, refl, ap, sym, subst, ◌∙◌, arith}
use Rattle.std.specs.FinSet as set
use Rattle.disk_pages.specs.Pages.{Pages, IsLeastFree}
use Rattle.disk_pages.proofs.MarkedPages.{insert_is}
use Rattle.disk_layout.specs.declared.entry.Entry.{Entry}
use Rattle.disk_layout.specs.Disk.{disk_of, marked_of, number_of}
use Rattle.disk_layout.specs.Files.{page_of}
use Rattle.disk_layout.specs.Layout.{IsLaidOut}
use Rattle.disk_layout.specs.Appending.{Appends, PartFor}
use Rattle.disk_layout.specs.Appending.PartFor.{Fresh, There}
use Rattle.disk_layout.specs.Taking.{TakesLeast, TakesNext, HasIndex}

-- what is told of the bits, by the taken pages
pub takes_least : (taken taken_now : Pages) (before now : ℕ → Bool) (n : ℕ) → IsLeastFree taken n → taken_now ≡ set.insert taken n
    → ((m : ℕ) → m < 4288 → before m ≡ set.contains taken m) → ((m : ℕ) → m < 4288 → now m ≡ set.contains taken_now m) → TakesLeast before now n
takes_least taken taken_now before now n least is was are =
    let within = least.within in
    record {
      within = least.within;
      free = was n least.within ∙ least.free;
      least = λ m less. was m (omega (arith, less, within)) ∙ least.least m less;
      marked = λ m inside. are m inside ∙ ap (λ s. set.contains s m) is ∙ insert_is taken n m ∙ ap (λ b. (m == n) || b) (sym (was m inside));
    }

pub takes_next : (kept : List Entry) (taken taken_now : Pages) (pages after : List (List ℕ)) (i count : ℕ) (old_index page name : List ℕ)
    → IsLaidOut kept taken pages → Appends pages after taken taken_now i count old_index page → HasIndex after name i → TakesNext pages after name count
takes_next kept taken taken_now pages after i count old_index page name laid a indexed = record {
  index = i;
  indexed = indexed;
  between = set.contains a.with_part;
  part = λ none. subst (TakesLeast (marked_of pages) (set.contains a.with_part)) (sym a.writes.index) (fresh a.part_for none);
  same_part = λ some m inside. there a.part_for some m ∙ sym (laid.taken m inside);
  page = takes_page;
}
  where
    fresh : {q : ℕ} {part : List ℕ} {others : Pages} → PartFor pages taken i count q part others → count % 250 ≡ 0
        → TakesLeast (marked_of pages) (set.contains others) q
    fresh {q} {part} {others} (Fresh none least is zeros) e = takes_least taken others (marked_of pages) (set.contains others) q least is laid.taken
        (λ m inside. refl)
    fresh {q} {part} {others} (There some q_is is bytes) e = absurd (some e)

    there : {q : ℕ} {part : List ℕ} {others : Pages} → PartFor pages taken i count q part others → count % 250 ≢ 0
        → (m : ℕ) → set.contains others m ≡ set.contains taken m
    there {q} {part} {others} (Fresh none least is zeros) e m = absurd (e none)
    there {q} {part} {others} (There some q_is is bytes) e m = ap (λ s. set.contains s m) is

    takes_page : TakesLeast (set.contains a.with_part) (marked_of after) (page_of (disk_of after) i count)
    takes_page =
        let is : number_of after (number_of after i (count / 250 + 1)) (count % 250) ≡ a.file_page =
        ap (λ x. number_of after x (count % 250)) a.writes.index ∙ a.writes.named in
        subst (TakesLeast (set.contains a.with_part) (marked_of after)) (sym is)
        (takes_least a.with_part taken_now (set.contains a.with_part) (marked_of after) a.file_page a.least a.taken_is (λ m inside. refl) a.writes.marked)
