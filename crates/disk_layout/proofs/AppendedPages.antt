-- The pages after an append are laid out, and the map has the file with one page more.
use Rattle.std.proofs.Common.{◌≡◌, ◌≢◌, ℕ, suc, zero, ◌+◌, ◌*◌, ◌/◌, ◌%◌, ◌<◌, ◌≤◌, Bool, true, false, ◌==◌, ◌||◌, Option, Some, None, is_some, List, [], ◌∷◌, ◌++◌, get_or, take, drop, replicate, refl, ap, sym, ◌∙◌, inl, inr, arith, add-one}
use Rattle.std.specs.Prelude.{◌⊎◌, nat_lt}
use Rattle.std.specs.FinSet as set
use Rattle.std.specs.FinMap as fin
use Rattle.std.proofs.lemmas.Bool.{cases_eq, eq-eqb, ne_eqb, true≢false}
use Rattle.disk_pages.specs.Pages.{Pages, IsLeastFree}
use Rattle.solo_base.specs.PageBytes.{number_at}
use Rattle.disk_pages.proofs.MarkedPages.{insert_is}
use Rattle.disk_layout.specs.declared.entry.Entry.{Entry}
use Rattle.disk_layout.specs.Disk.{Disk, disk_of, page_at, entry_of, spare_of, number_of, marked_of, entry_page, entry_byte, entry_in}
use Rattle.disk_layout.specs.Format.{IsAddress}
use Rattle.disk_layout.specs.Files.{pages_named, kind_of, files, named_at, file_at, first_pages, page_of, with_page}
use Rattle.disk_layout.specs.Layout.{Use, index_at, length_at, HasFile, IsLaidOut}
use Rattle.disk_layout.specs.Layout.Use.{Index, Part, Page}
use Rattle.disk_layout.specs.Appending.{AppendWrites, PartFor}
use Rattle.disk_layout.specs.Appending.PartFor.{Fresh, There}
use Rattle.disk_layout.proofs.Appended.{Appended, owner_then, owns_then, page_same, length_own, new_page, index_numbers}
use Rattle.disk_layout.proofs.Entries.{still_right}
use Rattle.disk_layout.proofs.Lookups.{names_apart, named_used, named_empty, beside}
use Rattle.disk_layout.proofs.Maps.{Named, files_with}
use Rattle.disk_layout.proofs.TakenPages.{past_insert}
use Rattle.disk_layout.proofs.Written.{number_stays, number_in}

get_or_zeros : (n k : ℕ) → ◌≡◌ {A = ℕ} (get_or (replicate n 0) k 0) 0
get_or_zeros zero k = refl
get_or_zeros (suc n) zero = refl
get_or_zeros (suc n) (suc k) = get_or_zeros n k

pub number_of_zeros : (bytes : List ℕ) (at : ℕ) → bytes ≡ replicate 512 0 → number_at bytes at ≡ 0
number_of_zeros bytes at zeros =
    ap (λ b. number_at b at) zeros ∙ (let low = get_or_zeros 512 at in let high = get_or_zeros 512 (at + 1) in omega (arith, low, high))

or_false : (a b : Bool) → (a || b) ≡ false → b ≡ false
or_false false b e = e
or_false true b e = absurd (true≢false e)

none_of : (x : Option Use) → is_some x ≡ false → x ≡ None
none_of None e = refl
none_of (Some u) e = absurd (true≢false e)

module _ (kept : List Entry) (taken : Pages) (pages : List (List ℕ)) (laid : IsLaidOut kept taken pages) where
  -- a page that isn't taken serves for nothing
  pub unowned : (n : ℕ) → n < 4288 → set.contains taken n ≡ false → laid.owner n ≡ None
  unowned n within free = none_of _ (or_false (nat_lt n 18) _ (sym (laid.owns.marked n within) ∙ laid.taken n within ∙ free))

  -- and one that serves for something is taken
  pub owned_taken : (n : ℕ) (u : Use) → laid.owner n ≡ Some u → set.contains taken n ≡ true
  owned_taken n u e =
      sym (laid.taken n (laid.owns.free n u e).within) ∙ laid.owns.marked n (laid.owns.free n u e).within ∙ ap (λ x. nat_lt n 18 || is_some x) e
      ∙ or_true (nat_lt n 18)
    where
      or_true : (b : Bool) → (b || true) ≡ true
      or_true true = refl
      or_true false = refl

  module _ (p q f : ℕ) (after : List (List ℕ)) (with_part taken_then : Pages) (part page : List ℕ) (has : HasFile (disk_of pages) p)
      (room : length_at (disk_of pages) p < 4000)
      (q_free : IsAddress q) (f_free : IsAddress f) (part_for : PartFor pages taken (index_at (disk_of pages) p) (length_at (disk_of pages) p) q part with_part)
      (least : IsLeastFree with_part f) (taken_is : taken_then ≡ set.insert with_part f)
      (writes : AppendWrites pages after taken_then (index_at (disk_of pages) p) q f (length_at (disk_of pages) p) (page_at pages (index_at (disk_of pages) p))
      part page) where
    abbrev d : Disk
    d = disk_of pages

    abbrev d' : Disk
    d' = disk_of after

    abbrev L : ℕ
    L = length_at (disk_of pages) p

    abbrev i : ℕ
    i = index_at (disk_of pages) p

    i_is_free : IsAddress i
    i_is_free = laid.owns.free _ _ (laid.owns.known (Index p) has)

    -- the catalogue stays
    catalogue_stays : (k : ℕ) → k < 240 → page_at after (entry_page k) ≡ page_at pages (entry_page k)
    catalogue_stays k below = writes.others (1 + k / 16)
        (λ e. omega (arith, e, f_free.file_page)) (λ e. omega (arith, e, q_free.file_page)) (λ e. omega (arith, e, i_is_free.file_page)) (λ e. omega (arith, e))
        (λ e. omega (arith, e))

    entries_stay : (k : ℕ) → k < 240 → entry_of after k ≡ entry_of pages k
    unfolding entry_of
    entries_stay k below = ap (λ bytes. entry_in bytes (entry_byte k)) (catalogue_stays k below)

    spares_stay : (k : ℕ) → k < 240 → spare_of after k ≡ spare_of pages k
    unfolding spare_of
    spares_stay k below = ap (λ bytes. take 10 (drop (entry_byte k + 18) bytes)) (catalogue_stays k below)

    there_owner : L % 250 ≢ 0 → q ≡ number_of pages i (L / 250 + 1) → laid.owner q ≡ Some (Part p (L / 250))
    there_owner some q_is = ap laid.owner q_is ∙ laid.owns.known (Part p (L / 250)) (has, omega (arith, some))

    with_part_is : (n : ℕ) → set.contains with_part n ≡ ((n == q) || set.contains taken n)
    with_part_is n = elim part_for [
      | Fresh none least_q is zeros ↦ ap (λ s. set.contains s n) is ∙ insert_is taken q n
      | There some q_is is old ↦ ap (λ s. set.contains s n) is ∙ elim (cases_eq n q) [
        | inl here ↦ ap (set.contains taken) here ∙ owned_taken q _ (there_owner some q_is) ∙ sym (ap (λ b. b || set.contains taken n) (eq-eqb n q here))
        | inr apart ↦ sym (ap (λ b. b || set.contains taken n) (ne_eqb n q apart))
      ]
    ]

    free_before : (n : ℕ) → set.contains with_part n ≡ false → (n ≢ q) × (set.contains taken n ≡ false)
    free_before n free = (
      λ e. true≢false (sym (ap (λ b. b || set.contains taken n) (eq-eqb n q e)) ∙ sym (with_part_is n) ∙ free),
      or_false (n == q) _ (sym (with_part_is n) ∙ free),
    )

    part_is : ((L % 250 ≡ 0) × (laid.owner q ≡ None)) ⊎ ((L % 250 ≢ 0) × (laid.owner q ≡ Some (Part p (L / 250))))
    part_is = elim part_for [
      | Fresh none least_q is zeros ↦ inl (none, unowned q q_free.within least_q.free)
      | There some q_is is old ↦ inr (some, there_owner some q_is)
    ]

    part_stays : (j : ℕ) → j < L % 250 → number_of after q j ≡ number_of pages q j
    part_stays j before = elim part_for [
      | Fresh none least_q is zeros ↦ absurd (omega (arith, none, before))
      | There some q_is is old ↦ writes.part_kept j (λ e. omega (arith, e, before)) ∙ sym (number_in pages q j part (sym old))
    ]

    part_ends : (j : ℕ) → L % 250 < j → j < 256 → number_of after q j ≡ 0
    part_ends j behind within = writes.part_kept j (λ e. omega (arith, e, behind)) ∙ elim part_for [
      | Fresh none least_q is zeros ↦ number_of_zeros part (2 * j) zeros
      | There some q_is is old ↦
          sym (number_in pages q j part (sym old)) ∙ ap (λ n. number_of pages n j) q_is
          ∙ laid.owns.part_rest p (L / 250) j has (omega (arith, some)) (omega (arith, behind)) within
    ]

    marks : (n : ℕ) → n < 4288 → marked_of after n ≡ ((n == f) || ((n == q) || marked_of pages n))
    marks n within =
        writes.marked n within ∙ ap (λ s. set.contains s n) taken_is ∙ insert_is with_part f n
        ∙ ap (λ b. (n == f) || b) (with_part_is n) ∙ ap (λ b. (n == f) || ((n == q) || b)) (sym (laid.taken n within))

    appended : Appended d d' laid.owner p q f
    appended = record {
      has = has;
      room = room;
      entries = entries_stay;
      free_page = f_free;
      unused = unowned f f_free.within (free_before f least.free).1;
      part_page = q_free;
      apart = λ e. (free_before f least.free).0 (sym e);
      part = part_is;
      named = writes.named;
      part_kept = part_stays;
      part_rest = part_ends;
      length = writes.length;
      index = writes.index;
      index_kept = λ k some apart. writes.index_kept k some apart ∙ sym (number_in pages i k _ refl);
      others =
          λ n k free not_f not_q not_i. number_stays pages after n k
          (writes.others n not_f not_q not_i (λ e. omega (arith, e, free.file_page)) (λ e. omega (arith, e, free.file_page)));
      marked = marks;
    }

    with_part_past : (n : ℕ) → 4288 ≤ n → set.contains with_part n ≡ false
    with_part_past n past = with_part_is n ∙ ap (λ b. b || set.contains taken n) (ne_eqb n q (λ e. omega (arith, e, q_free.within))) ∙ laid.within n past

    pub laid_then : IsLaidOut kept taken_then after
    laid_then = record {
      as_many = writes.as_many ∙ laid.as_many;
      first =
          writes.others 0 (λ e. omega (arith, e, f_free.file_page)) (λ e. omega (arith, e, q_free.file_page)) (λ e. omega (arith, e, i_is_free.file_page))
          (λ e. omega (arith, e)) (λ e. omega (arith, e)) ∙ laid.first;
      places = laid.places;
      entries = λ k below. laid.entries k below ∙ sym (entries_stay k below);
      right = λ k below. still_right d d' entries_stay spares_stay k below (laid.right k below);
      zeros = writes.zeros;
      taken = writes.marked;
      within = λ n past. ap (λ s. set.contains s n) taken_is ∙ past_insert with_part f f_free.within with_part_past n past;
      owner = owner_then d d' laid.owner p q f laid.owns appended;
      owns = owns_then d d' laid.owner p q f laid.owns appended;
    }

    -- ---- The map

    -- a page of a file stays
    page_stays : (n p' j : ℕ) → laid.owner n ≡ Some (Page p' j) → page_at after n ≡ page_at pages n
    page_stays n p' j e =
        let free = laid.owns.free n _ e in
        writes.others n (λ h. none_is_some (sym (unowned f f_free.within (free_before f least.free).1) ∙ ap laid.owner (sym h) ∙ e))
        (λ h. elim part_is [
          | inl fresh ↦ none_is_some (sym fresh.1 ∙ ap laid.owner (sym h) ∙ e)
          | inr there ↦ part_is_page (sym there.1 ∙ ap laid.owner (sym h) ∙ e)
        ])
        (λ h. index_is_page (sym (laid.owns.known (Index p) has) ∙ ap laid.owner (sym h)
        ∙ e)) (λ h. omega (arith, h, free.file_page)) (λ h. omega (arith, h, free.file_page))
      where
        none_is_some : {u : Use} → ◌≡◌ {A = Option Use} None (Some u) → ⊥
        none_is_some x = cc

        part_is_page : {a b k l : ℕ} → ◌≡◌ {A = Option Use} (Some (Part a b)) (Some (Page k l)) → ⊥
        part_is_page x = cc

        index_is_page : {a k l : ℕ} → ◌≡◌ {A = Option Use} (Some (Index a)) (Some (Page k l)) → ⊥
        index_is_page x = cc

    file_page_stays : (p' j : ℕ) → HasFile d p' → j < length_at d p'
        → page_at after (page_of d' (index_at d' p') j) ≡ page_at pages (page_of d (index_at d p') j)
    file_page_stays p' j file below =
        ap (page_at after) (page_same d d' laid.owner p q f laid.owns appended p' j file below) ∙ page_stays _ p' j (laid.owns.known (Page p' j) (file, below))

    first_pages_stay : (p' n : ℕ) → HasFile d p' → n ≤ length_at d p' → first_pages after (index_at d' p') n ≡ first_pages pages (index_at d p') n
    unfolding pages_named
    first_pages_stay p' zero file within = refl
    first_pages_stay p' (suc n) file within =
        ap (λ x. x ++ page_at after (page_of d' (index_at d' p') n) ∷ []) (first_pages_stay p' n file (omega arith))
        ∙ ap (λ x. first_pages pages (index_at d p') n ++ x ∷ []) (file_page_stays p' n file (omega arith))

    others_stay : (p' : ℕ) → HasFile d p' → p' ≢ p → file_at after (entry_of after p') ≡ file_at pages (entry_of pages p')
    unfolding file_at
    others_stay p' file other =
        let count : number_of after (index_at d' p') 0 ≡ length_at d p' = index_numbers d d' laid.owner p q f laid.owns appended p' other file 0 in
        let its : first_pages after (index_at d' p') (number_of after (index_at d' p') 0) ≡ first_pages pages (index_at d p') (length_at d p') =
        (ap (first_pages after (index_at d' p')) count ∙ first_pages_stay p' (length_at d p') file (omega arith)) in
        ap (λ e. record {
          kind =
              kind_of e.kind;
          protected =
              e.protection == 1;
          pages = first_pages after (index_at d' p') (number_of after (index_at d' p') 0);
        }) (entries_stay p' file.inside)
        ∙ ap (λ ps. record { kind = kind_of (entry_of pages p').kind; protected = (entry_of pages p').protection == 1; pages = ps }) its

    own_file : file_at after (entry_of after p) ≡ with_page (file_at pages (entry_of pages p)) page
    unfolding file_at pages_named
    own_file =
        let last : page_at after (page_of d' (index_at d' p) L) ≡ page = ap (page_at after) (new_page d d' laid.owner p q f laid.owns appended) ∙ writes.file in
        let its : first_pages after (index_at d' p) (number_of after (index_at d' p) 0) ≡ first_pages pages i L ++ page ∷ [] =
        (ap (first_pages after (index_at d' p)) (length_own d d' laid.owner p q f laid.owns appended ∙ add-one L)
        ∙ ap (λ x. x ++ page_at after (page_of d' (index_at d' p) L) ∷ []) (first_pages_stay p L has (omega arith))
        ∙ ap (λ x. first_pages pages i L ++ x ∷ []) last) in
        ap (λ e. record {
          kind =
              kind_of e.kind;
          protected =
              e.protection == 1;
          pages = first_pages after (index_at d' p) (number_of after (index_at d' p) 0);
        }) (entries_stay p has.inside)
        ∙ ap (λ ps. record { kind = kind_of (entry_of pages p).kind; protected = (entry_of pages p).protection == 1; pages = ps }) its

    named_stays : (k : ℕ) → k < 240 → k ≢ p → named_at after k ≡ named_at pages k
    named_stays k below other = elim (cases_eq (entry_of pages k).kind 0) [
      | inl empty ↦ named_empty after k (ap (λ e. e.kind) (entries_stay k below) ∙ empty) ∙ sym (named_empty pages k empty)
      | inr used ↦
          named_used after k (λ e. used (sym (ap (λ x. x.kind) (entries_stay k below)) ∙ e))
          ∙ ap (λ e. Some (e.name, file_at after (entry_of after k))) (entries_stay k below)
          ∙ ap (λ x. Some ((entry_of pages k).name, x)) (others_stay k (record { inside = below; used = used }) other)
          ∙ sym (named_used pages k used)
    ]

    pub files_then : files after ≡ fin.insert (files pages) (entry_of pages p).name (with_page (file_at pages (entry_of pages p)) page)
    files_then =
        files_with (named_at pages) (named_at after) p 240 has.inside named_stays (entry_of pages p).name
        (λ k below other. beside pages (entry_of pages p).name k (λ used e. names_apart kept taken pages laid p k has.inside below other has.used used e))
        (with_page (file_at pages (entry_of pages p)) page)
        (λ x e. ap name_of (sym e ∙ named_used pages p has.used))
        (named_used after p (λ e. has.used (sym (ap (λ x. x.kind) (entries_stay p has.inside)) ∙ e))
        ∙ ap (λ e. Some (e.name, file_at after (entry_of after p))) (entries_stay p has.inside) ∙ ap (λ x. Some ((entry_of pages p).name, x)) own_file)
      where
        name_of : Named → List ℕ
        name_of None = []
        name_of (Some x) = x.0
