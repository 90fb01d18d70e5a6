-- A PUT is refused where the file is protected, has no such page, or can't grow; and there alone.
use Rattle.std.proofs.Common.{◌≡◌, ◌⊎◌, inl, inr, ℕ, ◌+◌, ◌≤◌, ◌<◌, Bool, true, false, ◌&&◌, ◌==◌, if◌then◌else◌, List, length, Option, None, refl, sym, ◌∙◌, ap, subst, arith}
use Rattle.std.specs.Prelude.{nat_le, nat_lt, pos, negsuc}
use Rattle.std.proofs.lemmas.Bool.{cases_Bool, cases_lt, and_cases, and_left, and_right, ltb-false, leb-false, eqb-true, eqb-false, le-ltb, lt-leb, eq-eqb, ne_eqb}
use Rattle.disk_layout.specs.Files.{File, with_page, with_page_at}
use Rattle.disk_files.specs.Answers.{pages_needed}
use Rattle.program_task.specs.OpenFiles.{can_grow, file_if, with_page_put, put_in}
use Rattle.solo_task.specs.Puts.{LacksRoom, IsRefused, PutsAreRefusedSo}

-- ---- why nothing comes of it
none-if : (t : Bool) (file : File) → file_if t file ≡ None → t ≡ false
none-if true file e = absurd cc
none-if false file e = refl

if-none : (t : Bool) (file : File) → t ≡ false → file_if t file ≡ None
if-none t file e = ap (λ t. file_if t file) e

lacks-room : (unused : ℕ) (file : File) → can_grow unused file ≡ false → LacksRoom unused (length file.pages)
lacks-room unused file e =
    elim (and_cases (nat_lt (length file.pages) 4000) (nat_le (pages_needed (length file.pages)) unused) e) as (λ _. LacksRoom unused (length file.pages)) [
      | inl full ↦ inl (ltb-false (length file.pages) 4000 full)
      | inr few ↦ inr (leb-false (pages_needed (length file.pages)) unused few)
    ]

no-room : (unused : ℕ) (file : File) → LacksRoom unused (length file.pages) → can_grow unused file ≡ false
no-room unused file (inl full) =
    and_left (nat_lt (length file.pages) 4000) (nat_le (pages_needed (length file.pages)) unused) (le-ltb (length file.pages) 4000 full)
no-room unused file (inr few) =
    and_right (nat_lt (length file.pages) 4000) (nat_le (pages_needed (length file.pages)) unused)
    (lt-leb (pages_needed (length file.pages)) unused few)

least-zero : (p : ℕ) → p < 1 → p ≡ 0
least-zero p e = omega (arith, e)

next-one : (p n : ℕ) → n < p → p ≤ n + 1 → p ≡ n + 1
next-one p n e f = omega (arith, e, f)

outside : (p n : ℕ) → (p == n + 1) ≡ false → (nat_le 1 p && nat_le p n) ≡ false → (p ≡ 0) ⊎ (n + 1 < p)
outside p n differs e =
    elim (and_cases (nat_le 1 p) (nat_le p n) e) as (λ _. (p ≡ 0) ⊎ (n + 1 < p)) [
      | inl low ↦ inl (least-zero p (leb-false 1 p low))
      | inr high ↦ elim (cases_lt (n + 1) p) as (λ _. (p ≡ 0) ⊎ (n + 1 < p)) [
        | inl past ↦ inr past
        | inr within ↦ absurd (eqb-false p (n + 1) differs (next-one p n (leb-false p n high) within))
      ]
    ]

beyond : (p n : ℕ) → n + 1 < p → n < p
beyond p n e = omega (arith, e)

not-next : (p n : ℕ) → n + 1 < p → p ≡ n + 1 → ⊥
not-next p n e f = omega (arith, e, f)

not-first : (p n : ℕ) → p ≡ 0 → p ≡ n + 1 → ⊥
not-first p n e f = omega (arith, e, f)

low-range : (p n : ℕ) → p ≡ 0 → (nat_le 1 p && nat_le p n) ≡ false
low-range p n e = subst (λ p. (nat_le 1 p && nat_le p n) ≡ false) (sym e) refl

module _ (unused : ℕ) (file : File) (p : ℕ) (page : List ℕ) where
  abbrev choose : Bool → Option File
  choose next =
      if next then file_if (can_grow unused file) (with_page file page)
      else file_if (nat_le 1 p && nat_le p (length file.pages)) (with_page_at file p page)

  abbrev unless : Bool → Option File
  unless protected = if protected then None else with_page_put unused file p page

  put-none : with_page_put unused file p page ≡ None → IsRefused unused file (pos p)
  put-none e =
      elim (cases_Bool (p == length file.pages + 1)) as (λ _. IsRefused unused file (pos p)) [
        | inl next ↦ inr (inr (
          ap pos (eqb-true p (length file.pages + 1) next),
          lacks-room unused file (none-if (can_grow unused file) (with_page file page) (sym (ap choose next) ∙ e)),
        ))
        | inr differs ↦ inr (inl (outside p (length file.pages) differs
            (none-if (nat_le 1 p && nat_le p (length file.pages)) (with_page_at file p page) (sym (ap choose differs) ∙ e))))
      ]

  refused : put_in unused file (pos p) page ≡ None → IsRefused unused file (pos p)
  refused e =
      elim (cases_Bool file.protected) as (λ _. IsRefused unused file (pos p)) [
        | inl is ↦ inl is
        | inr free ↦ put-none (sym (ap unless free) ∙ e)
      ]

  from-put : with_page_put unused file p page ≡ None → put_in unused file (pos p) page ≡ None
  from-put e =
      elim (cases_Bool file.protected) as (λ _. put_in unused file (pos p) page ≡ None) [
        | inl is ↦ ap unless is
        | inr free ↦ ap unless free ∙ e
      ]

  no-page : (p ≡ length file.pages + 1 → ⊥) → (nat_le 1 p && nat_le p (length file.pages)) ≡ false → with_page_put unused file p page ≡ None
  no-page differs range =
      ap choose (ne_eqb p (length file.pages + 1) differs)
      ∙ if-none (nat_le 1 p && nat_le p (length file.pages)) (with_page_at file p page) range

  refuses : IsRefused unused file (pos p) → put_in unused file (pos p) page ≡ None
  refuses (inl protected) = ap unless protected
  refuses (inr (inl (inl none))) = from-put (no-page (not-first p (length file.pages) none) (low-range p (length file.pages) none))
  refuses (inr (inl (inr past))) =
      from-put (no-page (not-next p (length file.pages) past)
      (and_right (nat_le 1 p) (nat_le p (length file.pages)) (lt-leb p (length file.pages) (beyond p (length file.pages) past))))
  refuses (inr (inr (next, lacks))) =
      let same : p ≡ length file.pages + 1 = same-pos p (length file.pages + 1) next in
      from-put (ap choose (eq-eqb p (length file.pages + 1) same)
      ∙ if-none (can_grow unused file) (with_page file page) (no-room unused file lacks))
    where
      same-pos : (a b : ℕ) → pos a ≡ pos b → a ≡ b
      same-pos a b e = cc

pub puts-refused : PutsAreRefusedSo
puts-refused unused file (pos p) page = (refused unused file p page, refuses unused file p page)
puts-refused unused file (negsuc p) page = ((λ e. inr (inl tt)), (λ is. refl))
