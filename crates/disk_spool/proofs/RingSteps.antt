-- How a ring changes where a page comes into it or goes out.
use Rattle.std.proofs.Common.{◌≡◌, ℕ, ◌+◌, ◌-◌, ◌<◌, ◌≤◌, Bool, false, List, [], ◌∷◌, length, drop, get_or, set, ap, sym, ◌∙◌, inl, inr, ◌≢◌, arith}
use Rattle.std.proofs.lemmas.List.{nil_from_length}
use Rattle.std.proofs.lemmas.Bool.{cases_eq}
use Rattle.queue_var.specs.Circle.{place, places}
use Rattle.disk_spool.specs.Ring.{Ring, at_places, with_page, without_first}
use Rattle.disk_spool.specs.Places.{length_at_places, put_behind, earliest_apart}

-- the ring of these fields
abbrev pub ring_of : ℕ → ℕ → ℕ → List Bool → Ring
ring_of capacity first held marks = record { capacity = capacity; first = first; marks = at_places false marks (places capacity first 0 held) }

module _ (capacity first held : ℕ) (marks : List Bool) (inside : first < capacity) where
  pub page_added : (mark : Bool) (ring : Ring) → ring_of capacity first held marks ≡ ring → held < capacity → capacity ≤ length marks
      → ring_of capacity first (held + 1) (set marks (place capacity first held) mark) ≡ with_page ring mark
  page_added mark ring view room few =
      ap (λ (all : List Bool). let r : Ring = record { capacity = capacity; first = first; marks = all } in r) (put_behind false marks mark capacity first held inside room few)
      ∙ ap (λ r. with_page r mark) view

  -- the marks are that of the earliest page, and then those of the others
  earliest_mark : held ≤ capacity → 0 < held → at_places false marks (places capacity first 0 held) ≡ get_or marks first false ∷ at_places false marks (places capacity (place capacity first 1) 0 (held - 1))
  earliest_mark within some =
      let one_more : held - 1 + 1 ≡ held = omega arith in
      ap (λ n. at_places false marks (places capacity first 0 n)) (sym one_more) ∙ earliest_apart false marks capacity first (held - 1) inside (omega arith)

  pub mark_first : (ring : Ring) → ring_of capacity first held marks ≡ ring → held ≤ capacity → 0 < held
      → ring.marks ≡ get_or marks first false ∷ (ring_of capacity (place capacity first 1) (held - 1) marks).marks
  mark_first ring view within some = sym (ap (λ (r : Ring). r.marks) view) ∙ earliest_mark within some

  pub page_removed : (ring : Ring) → ring_of capacity first held marks ≡ ring → held ≤ capacity → 0 < held
      → ring_of capacity (place capacity first 1) (held - 1) marks ≡ without_first ring
  page_removed ring view within some =
      ap (λ (all : List Bool). let r : Ring = record { capacity = capacity; first = place capacity first 1; marks = drop 1 all } in r) (sym (earliest_mark within some))
      ∙ ap without_first view

module _ (capacity first held : ℕ) (marks : List Bool) (ring : Ring) (view : ring_of capacity first held marks ≡ ring) where
  pub count_is : held ≡ length ring.marks
  count_is = sym (length_at_places false marks capacity first held) ∙ ap (λ (r : Ring). length r.marks) view

  pub has_room : length ring.marks < ring.capacity → held < capacity
  has_room room = let same = ap (λ (r : Ring). r.capacity) view in omega (arith, count_is)

  pub has_some : ring.marks ≢ [] → 0 < held
  has_some some = elim (cases_eq held 0) [
    | inl none ↦ absurd (some (nil_from_length ring.marks (sym count_is ∙ none)))
    | inr more ↦ omega arith
  ]
