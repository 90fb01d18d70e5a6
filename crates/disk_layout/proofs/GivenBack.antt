-- The taken pages after those of a file were given back.
use Rattle.std.proofs.Common.{◌≡◌, ◌≢◌, ℕ, suc, zero, ◌+◌, ◌*◌, ◌/◌, ◌%◌, ◌<◌, ◌≤◌, min, Bool, true, false, not, ◌==◌, ◌&&◌, cond, Option, Some, None, is_some, refl, ap, sym, subst, ◌∙◌, inl, inr, arith}
use Rattle.std.specs.Prelude.{◌⊎◌, nat_lt}
use Rattle.std.specs.FinSet as set
use Rattle.std.proofs.lemmas.Bool.{cases_eq, cases_lt, eq-eqb, ne_eqb, lt-ltb, le-ltb}
use Rattle.disk_pages.specs.Pages.{Pages}
use Rattle.disk_pages.proofs.MarkedPages.{remove_is, len_one_fewer}
use Rattle.disk_layout.specs.Disk.{Disk}
use Rattle.disk_layout.specs.Format.{part_count, count_in_part}
use Rattle.disk_layout.specs.Deleting.{given_back, without_part, without_parts, without_file, pages_held}
use Rattle.disk_layout.specs.Layout.{Use, index_at, length_at, part_at, address_of, HasFile, InUse, Owns}
use Rattle.disk_layout.specs.Layout.Use.{Index, Part, Page}
use Rattle.disk_layout.proofs.Created.{keep, place}

-- the order in which the pages of a file are given back: each part behind its pages, and the index page last
abbrev rank : Use → ℕ
rank (Index p) = 4016
rank (Part p k) = 251 * k + 250
rank (Page p j) = j + j / 250

-- whether a page serves the file at a place, and its turn was before this one
abbrev is_gone : ℕ → ℕ → Option Use → Bool
is_gone p turn None = false
is_gone p turn (Some u) = (place u == p) && nat_lt (rank u) turn

and_false : (b : Bool) → (b && false) ≡ false
and_false true = refl
and_false false = refl

and_true : (b : Bool) → (b && true) ≡ b
and_true true = refl
and_true false = refl

some_is : (u v : Use) → ◌≡◌ {A = Option Use} (Some u) (Some v) → u ≡ v
some_is u v e = cc

none_is_some : (u : Use) → ◌≡◌ {A = Option Use} None (Some u) → ⊥
none_is_some u e = cc

module _ (d : Disk) (owner : ℕ → Option Use) (o : Owns d owner) (p : ℕ) (has : HasFile d p) (taken : Pages)
    (owned : (n : ℕ) (u : Use) → owner n ≡ Some u → set.contains taken n ≡ true) where
  -- those whose turn was before this one are given back, and they are so many
  record Freed (turn count : ℕ) (now : Pages) : Type 0 where
    pub gone : (n : ℕ) → set.contains now n ≡ (set.contains taken n && not (is_gone p turn (owner n)))
    pub counted : set.len now + count ≡ set.len taken

  -- the page with this turn serves for this
  same_turn : (u v : Use) → InUse d u → InUse d v → place u ≡ place v → rank u ≡ rank v → u ≡ v
  same_turn (Index a) (Index b) iu iv e r = ap Index e
  same_turn (Index a) (Part b k) iu iv e r = absurd (omega (arith, r))
  same_turn (Index a) (Page b j) iu iv e r = absurd (let short = o.short b iv.0 in omega (arith, r, short, iv.1))
  same_turn (Part a k) (Index b) iu iv e r = absurd (omega (arith, r))
  same_turn (Part a k) (Part b m) iu iv e r = ap (λ x. Part x k) e ∙ ap (Part b) (omega (arith, r))
  same_turn (Part a k) (Page b j) iu iv e r = absurd (omega (arith, r))
  same_turn (Page a j) (Index b) iu iv e r = absurd (let short = o.short a iu.0 in omega (arith, r, short, iu.1))
  same_turn (Page a j) (Part b m) iu iv e r = absurd (omega (arith, r))
  same_turn (Page a j) (Page b m) iu iv e r = ap (λ x. Page x j) e ∙ ap (Page b) (omega (arith, r))

  -- nothing but its own page changes its state at a turn
  turn_passes : (u : Use) → InUse d u → place u ≡ p → (x : Option Use) → ((v : Use) → x ≡ Some v → InUse d v × (u ≢ v))
      → is_gone p (rank u + 1) x ≡ is_gone p (rank u) x
  turn_passes u its own None apart = refl
  turn_passes u its own (Some v) apart = elim (cases_eq (place v) p) [
    | inl same ↦
        let other : rank v ≢ rank u = λ e. (apart v refl).1 (same_turn u v its (apart v refl).0 (own ∙ sym same) (sym e)) in
        ap (λ b. (place v == p) && b) (elim (cases_lt (rank v) (rank u)) [
          | inl before ↦ lt-ltb (rank v) (rank u + 1) (omega (arith, before)) ∙ sym (lt-ltb (rank v) (rank u) before)
          | inr behind ↦ le-ltb (rank v) (rank u + 1) (omega (arith, behind, other)) ∙ sym (le-ltb (rank v) (rank u) behind)
        ])
    | inr other ↦ ap (λ b. b && nat_lt (rank v) (rank u + 1)) (ne_eqb (place v) p other)
        ∙ sym (ap (λ b. b && nat_lt (rank v) (rank u)) (ne_eqb (place v) p other))
  ]

  gone_here : (u : Use) → place u ≡ p → is_gone p (rank u + 1) (Some u) ≡ true
  gone_here u own = ap (λ b. b && nat_lt (rank u) (rank u + 1)) (eq-eqb (place u) p own) ∙ lt-ltb (rank u) (rank u + 1) (omega arith)

  there_before : (u : Use) → is_gone p (rank u) (Some u) ≡ false
  there_before u = ap (λ b. (place u == p) && b) (le-ltb (rank u) (rank u) (omega arith)) ∙ and_false (place u == p)

  one_freed : (u : Use) (count : ℕ) (now : Pages) → InUse d u → place u ≡ p → Freed (rank u) count now
      → Freed (rank u + 1) (count + 1) (set.remove now (address_of d u))
  one_freed u count now its own f =
      let known = o.known u its in
      record {
        gone = λ n. remove_is now (address_of d u) n ∙ elim (cases_eq n (address_of d u)) [
          | inl here ↦
              ap (λ b. not b && set.contains now n) (eq-eqb n (address_of d u) here)
              ∙ sym (ap (λ x. set.contains taken n && not (is_gone p (rank u + 1) x)) (ap owner here ∙ known)
              ∙ ap (λ b. set.contains taken n && not b) (gone_here u own) ∙ and_false (set.contains taken n))
          | inr apart ↦
              ap (λ b. not b && set.contains now n) (ne_eqb n (address_of d u) apart) ∙ f.gone n
              ∙ ap (λ b. set.contains taken n && not b)
              (sym (turn_passes u its own (owner n) (λ v is. ((o.only n v is).0, λ e. apart (sym (o.only n v is).1 ∙ ap (address_of d) (sym e))))))
        ];
        counted =
            let here : set.contains now (address_of d u) ≡ true = f.gone (address_of d u)
            ∙ ap (λ b. b && not (is_gone p (rank u) (owner (address_of d u)))) (owned _ u known)
            ∙ ap (λ x. not (is_gone p (rank u) x)) known ∙ ap not (there_before u) in
            omega (arith, len_one_fewer now (address_of d u) here, f.counted);
      }

  -- turns that no page has
  turns_pass : (turn later count : ℕ) (now : Pages) → turn ≤ later → ((u : Use) → InUse d u → place u ≡ p → (rank u < turn) ⊎ (later ≤ rank u))
      → Freed turn count now → Freed later count now
  turns_pass turn later count now less none f = record {
    gone = λ n. f.gone n ∙ ap (λ b. set.contains taken n && not b) (sym (stays (owner n) (λ u e. (o.only n u e).0)));
    counted = f.counted;
  }
    where
      stays : (x : Option Use) → ((u : Use) → x ≡ Some u → InUse d u) → is_gone p later x ≡ is_gone p turn x
      stays None its = refl
      stays (Some u) its = elim (cases_eq (place u) p) [
        | inl own ↦ ap (λ b. (place u == p) && b) (elim (none u (its u refl) own) [
          | inl before ↦ lt-ltb (rank u) later (omega (arith, before, less)) ∙ sym (lt-ltb (rank u) turn before)
          | inr behind ↦ le-ltb (rank u) later behind ∙ sym (le-ltb (rank u) turn (omega (arith, behind, less)))
        ])
        | inr other ↦ ap (λ b. b && nat_lt (rank u) later) (ne_eqb (place u) p other) ∙ sym (ap (λ b. b && nat_lt (rank u) turn) (ne_eqb (place u) p other))
      ]

  abbrev L : ℕ
  L = length_at d p

  -- the pages of part k
  numbers_freed : (k : ℕ) → k < part_count L → (c count : ℕ) (now : Pages) → c ≤ count_in_part L k → Freed (251 * k) count now
      → Freed (251 * k + c) (count + c) (given_back now (d.number (part_at d p k)) c)
  unfolding given_back
  numbers_freed k below zero count now small f =
      subst (λ t. Freed t (count + 0) now) (let e : 251 * k ≡ 251 * k + 0 = omega arith in e)
      (subst (λ m. Freed (251 * k) m now) (let e : count ≡ count + 0 = omega arith in e) f)
  numbers_freed k below (suc c) count now small f =
      let j : ℕ = 250 * k + c in
      let part_is : j / 250 ≡ k = omega (arith, small) in
      let number_is : j % 250 ≡ c = omega (arith, small) in
      let turn_is : rank (Page p j) ≡ 251 * k + c = omega (arith, part_is) in
      let its : InUse d (Page p j) = (has, omega (arith, small)) in
      let before = numbers_freed k below c count now (omega (arith, small)) f in
      let done = one_freed (Page p j) (count + c) (given_back now (d.number (part_at d p k)) c) its refl
      (subst (λ t. Freed t (count + c) (given_back now (d.number (part_at d p k)) c)) (sym turn_is) before) in
      let address : address_of d (Page p j) ≡ d.number (part_at d p k) c = ap (λ x. d.number (part_at d p x) (j % 250)) part_is
      ∙ ap (d.number (part_at d p k)) number_is in
      subst (λ t. Freed t (count + suc c) (given_back now (d.number (part_at d p k)) (suc c)))
      (let e : rank (Page p j) + 1 ≡ 251 * k + suc c = omega (arith, turn_is) in e)
      (subst (λ m. Freed (rank (Page p j) + 1) m (given_back now (d.number (part_at d p k)) (suc c))) (let e : count + c + 1 ≡ count + suc c = omega arith in e)
      (subst (λ a. Freed (rank (Page p j) + 1) (count + c + 1) (set.remove (given_back now (d.number (part_at d p k)) c) a)) address done))

  part_freed : (k count : ℕ) (now : Pages) → k < part_count L → Freed (251 * k) count now
      → Freed (251 * (k + 1)) (count + count_in_part L k + 1) (without_part now d (part_at d p k) (count_in_part L k))
  part_freed k count now below f =
      let c : ℕ = count_in_part L k in
      let numbers = numbers_freed k below c count now (omega arith) f in
      let ready = turns_pass (251 * k + c) (251 * k + 250) (count + c) (given_back now (d.number (part_at d p k)) c) (omega arith) (no_turn k below) numbers in
      let done = one_freed (Part p k) (count + c) (given_back now (d.number (part_at d p k)) c) (has, below) refl ready in
      subst (λ t. Freed t (count + c + 1) (without_part now d (part_at d p k) c)) (let e : 251 * k + 250 + 1 ≡ 251 * (k + 1) = omega arith in e) done
    where
      no_turn : (k : ℕ) → k < part_count L → (u : Use) → InUse d u → place u ≡ p → (rank u < 251 * k + count_in_part L k) ⊎ (251 * k + 250 ≤ rank u)
      no_turn k below (Index a) its own = let short = o.short p has in inr (omega (arith, short, below))
      no_turn k below (Part a m) its own = elim (cases_lt (251 * m + 250) (251 * k + count_in_part L k)) [
        | inl less ↦ inl less
        | inr more ↦ inr (omega (arith, more))
      ]
      no_turn k below (Page a j) its own =
          let length_is : length_at d a ≡ L = ap (length_at d) own in
          elim (cases_lt (j + j / 250) (251 * k + count_in_part L k)) [
            | inl less ↦ inl less
            | inr more ↦ inr (omega (arith, more, its.1, length_is))
          ]

  parts_freed : (k : ℕ) → k ≤ part_count L → Freed (251 * k) (min (250 * k) L + k) (without_parts taken d (index_at d p) k)
  unfolding without_parts
  parts_freed zero within = record {
    gone = λ n. sym (ap (λ b. set.contains taken n && not b) (none_gone (owner n)) ∙ and_true (set.contains taken n));
    counted = omega arith;
  }
    where
      none_gone : (x : Option Use) → is_gone p 0 x ≡ false
      none_gone None = refl
      none_gone (Some u) = ap (λ b. (place u == p) && b) (le-ltb (rank u) 0 (omega arith)) ∙ and_false (place u == p)
  parts_freed (suc k) within =
      let before = parts_freed k (omega (arith, within)) in
      let done = part_freed k (min (250 * k) L + k) (without_parts taken d (index_at d p) k) (omega (arith, within)) before in
      let more : min (250 * k) L + k + count_in_part L k + 1 ≡ min (250 * suc k) L + suc k = omega arith in
      let turn : 251 * (k + 1) ≡ 251 * suc k = omega arith in
      subst (λ t. Freed t (min (250 * suc k) L + suc k) (without_parts taken d (index_at d p) (suc k))) turn
      (subst (λ m. Freed (251 * (k + 1)) m (without_parts taken d (index_at d p) (suc k))) more done)

  file_freed : Freed 4017 (pages_held L) (without_file taken d (index_at d p))
  file_freed =
      let short = o.short p has in
      let all = parts_freed (part_count L) (omega arith) in
      let ready = turns_pass (251 * part_count L) 4016 (min (250 * part_count L) L + part_count L) (without_parts taken d (index_at d p) (part_count L))
      (omega (arith, short)) no_turn all in
      let done = one_freed (Index p) (min (250 * part_count L) L + part_count L) (without_parts taken d (index_at d p) (part_count L)) has refl ready in
      subst (λ m. Freed 4017 m (without_file taken d (index_at d p))) (let e : min (250 * part_count L) L + part_count L + 1 ≡ pages_held L = omega arith in e)
      done
    where
      no_turn : (u : Use) → InUse d u → place u ≡ p → (rank u < 251 * part_count L) ⊎ (4016 ≤ rank u)
      no_turn (Index a) its own = inr (omega arith)
      no_turn (Part a m) its own = let same : length_at d a ≡ L = ap (length_at d) own in inl (omega (arith, its.1, same))
      no_turn (Page a j) its own = let same : length_at d a ≡ L = ap (length_at d) own in inl (omega (arith, its.1, same))

  -- what is still taken serves for another file
  pub freed_are : (n : ℕ) → set.contains (without_file taken d (index_at d p)) n
      ≡ (set.contains taken n && not (is_some (owner n) && not (is_some (keep p (owner n)))))
  freed_are n = file_freed.gone n ∙ ap (λ b. set.contains taken n && not b) (all_gone (owner n) (λ u e. (o.only n u e).0))
    where
      last : (u : Use) → InUse d u → rank u < 4017
      last (Index a) its = omega arith
      last (Part a k) its = let short = o.short a its.0 in omega (arith, short, its.1)
      last (Page a j) its = let short = o.short a its.0 in omega (arith, short, its.1)

      unless : (b : Bool) (u : Use) → not (is_some (cond b None (Some u))) ≡ b
      unless true u = refl
      unless false u = refl

      all_gone : (x : Option Use) → ((u : Use) → x ≡ Some u → InUse d u) → is_gone p 4017 x ≡ (is_some x && not (is_some (keep p x)))
      all_gone None its = refl
      all_gone (Some u) its =
          ap (λ b. (place u == p) && b) (lt-ltb (rank u) 4017 (last u (its u refl))) ∙ and_true (place u == p) ∙ sym (unless (place u == p) u)

  pub freed_counted : set.len (without_file taken d (index_at d p)) + pages_held L ≡ set.len taken
  freed_counted = file_freed.counted
