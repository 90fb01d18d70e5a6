-- A file that moves to another place of the catalogue: the pages are laid out again.
use Rattle.std.proofs.Common.{◌≡◌, ℕ, ◌+◌, ◌/◌, ◌%◌, ◌<◌, ◌||◌, Option, Some, None, is_some, refl, ap, sym, subst, ◌∙◌, arith}
use Rattle.std.specs.Prelude.{nat_lt}
use Rattle.disk_layout.specs.Disk.{Disk}
use Rattle.disk_layout.specs.Format.{part_count}
use Rattle.disk_layout.specs.Layout.{Use, index_at, length_at, part_at, address_of, HasFile, InUse, Owns}
use Rattle.disk_layout.specs.Layout.Use.{Index, Part, Page}

abbrev pub at_place : (ℕ → ℕ) → Use → Use
at_place f (Index p) = Index (f p)
at_place f (Part p k) = Part (f p) k
at_place f (Page p j) = Page (f p) j

abbrev pub moved_use : (ℕ → ℕ) → Option Use → Option Use
moved_use f None = None
moved_use f (Some u) = Some (at_place f u)

-- each file stands at the place `to` of its place before, and `from` leads back; nothing else changed
pub record Moved (d d' : Disk) (to from : ℕ → ℕ) : Type 0 where
  pub back : (p : ℕ) → HasFile d' p → HasFile d (from p) × (index_at d' p ≡ index_at d (from p)) × (to (from p) ≡ p)
  pub forth : (p : ℕ) → HasFile d p → HasFile d' (to p) × (from (to p) ≡ p)
  pub indexes : (p k : ℕ) → HasFile d p → d'.number (index_at d p) k ≡ d.number (index_at d p) k
  pub parts : (p k j : ℕ) → HasFile d p → k < part_count (length_at d p) → d'.number (part_at d p k) j ≡ d.number (part_at d p k) j
  pub marked : (n : ℕ) → n < 4288 → d'.marked n ≡ d.marked n

module _ (d d' : Disk) (owner : ℕ → Option Use) (to from : ℕ → ℕ) (o : Owns d owner) (a : Moved d d' to from) where
  abbrev pub owner_moved : ℕ → Option Use
  owner_moved n = moved_use to (owner n)

  pub index_numbers : (p : ℕ) → HasFile d' p → (k : ℕ) → d'.number (index_at d' p) k ≡ d.number (index_at d (from p)) k
  index_numbers p has k = let b = a.back p has in ap (λ n. d'.number n k) b.1 ∙ a.indexes (from p) k b.0

  part_numbers : (p k : ℕ) → HasFile d' p → k < part_count (length_at d (from p)) → (j : ℕ) → d'.number (part_at d' p k) j ≡ d.number (part_at d (from p) k) j
  part_numbers p k has below j = ap (λ n. d'.number n j) (index_numbers p has (k + 1)) ∙ a.parts (from p) k j (a.back p has).0 below

  pub used_before : (u : Use) → InUse d' u
      → InUse d (at_place from u) × (address_of d' u ≡ address_of d (at_place from u)) × (at_place to (at_place from u) ≡ u)
  used_before (Index p) has = let b = a.back p has in (b.0, b.1, ap Index b.2)
  used_before (Part p k) its =
      let b = a.back p its.0 in
      ((b.0, omega (arith, its.1, index_numbers p its.0 0)), index_numbers p its.0 (k + 1), ap (λ x. Part x k) b.2)
  used_before (Page p j) its =
      let b = a.back p its.0 in
      let less : j < length_at d (from p) = omega (arith, its.1, index_numbers p its.0 0) in
      ((b.0, less), part_numbers p (j / 250) its.0 (omega (arith, less)) (j % 250), ap (λ x. Page x j) b.2)

  used_now : (u : Use) → InUse d u → InUse d' (at_place to u) × (at_place from (at_place to u) ≡ u)
  used_now (Index p) has = let f = a.forth p has in (f.0, ap Index f.1)
  used_now (Part p k) its =
      let f = a.forth p its.0 in
      let same : length_at d' (to p) ≡ length_at d p = index_numbers (to p) f.0 0 ∙ ap (length_at d) f.1 in
      ((f.0, omega (arith, its.1, same)), ap (λ x. Part x k) f.1)
  used_now (Page p j) its =
      let f = a.forth p its.0 in
      let same : length_at d' (to p) ≡ length_at d p = index_numbers (to p) f.0 0 ∙ ap (length_at d) f.1 in
      ((f.0, omega (arith, its.1, same)), ap (λ x. Page x j) f.1)

  owner_before : (n : ℕ) (u : Use) → owner_moved n ≡ Some u → (v : Use) × (owner n ≡ Some v) × (at_place to v ≡ u)
  owner_before n u e = elim (owner n) as (λ x. moved_use to x ≡ Some u → (v : Use) × (x ≡ Some v) × (at_place to v ≡ u)) [
    | None ↦ λ h. absurd (none_is_some h)
    | Some v ↦ λ h. (v, refl, same_use (at_place to v) h)
  ] e
    where
      none_is_some : ◌≡◌ {A = Option Use} None (Some u) → ⊥
      none_is_some x = cc

      same_use : (v : Use) → ◌≡◌ {A = Option Use} (Some v) (Some u) → v ≡ u
      same_use v x = cc

  as_owned : (x : Option Use) → is_some (moved_use to x) ≡ is_some x
  as_owned None = refl
  as_owned (Some u) = refl

  pub owns_moved : Owns d' owner_moved
  owns_moved = record {
    known = λ u its. let b = used_before u its in ap owner_moved b.1 ∙ ap (moved_use to) (o.known _ b.0) ∙ ap Some b.2;
    only = λ n u e.
        let v = owner_before n u e in
        let its = o.only n v.0 v.1 in
        let now = used_now v.0 its.0 in
        let here : address_of d' (at_place to v.0) ≡ n = (used_before _ now.0).1 ∙ ap (address_of d) now.1 ∙ its.1 in
        subst (λ x. InUse d' x × (address_of d' x ≡ n)) v.2 (now.0, here);
    free = λ n u e. let v = owner_before n u e in o.free n v.0 v.1;
    marked = λ n within. a.marked n within ∙ o.marked n within ∙ ap (λ b. nat_lt n 18 || b) (sym (as_owned (owner n)));
    short = λ p has. omega (arith, index_numbers p has 0, o.short (from p) (a.back p has).0);
    index_rest = λ p k has late within. index_numbers p has k ∙ o.index_rest (from p) k (a.back p has).0 (omega (arith, late, index_numbers p has 0)) within;
    part_rest = λ p k j has below late within.
        let same = index_numbers p has 0 in
        let before : k < part_count (length_at d (from p)) = omega (arith, below, same) in
        part_numbers p k has before j ∙ o.part_rest (from p) k j (a.back p has).0 before (omega (arith, late, same)) within;
  }
