-- The names of a map one after the other are its entries.
use Rattle.std.proofs.Common.{◌≡◌, ℕ, suc, zero, ◌+◌, ◌<◌, ◌≤◌, ◌==◌, ◌&&◌, Bool, true, false, cond, not, min, Option, Some, None, is_some, List, [], ◌∷◌, ◌++◌, length, map, take, get_or, refl, ap, sym, subst, ◌∙◌, inl, inr, arith}
use Rattle.std.specs.Prelude.{T}
use Rattle.std.specs.declared.cmp.Ordering.{Ordering}
use Rattle.std.specs.declared.cmp.Ordering.TheVariants.{Less, Equal, Greater}
use Rattle.std.specs.Ordering.{nat_cmp, is_eq, is_lt, ordering_reverse}
use Rattle.std.specs.Cmp.Lexicographic.{slice_cmp, nat_list_cmp_total}
use Rattle.std.specs.FinMap as fin
use Rattle.std.specs.FinMap.{find, is_sorted, entries_sorted, get-entries, len-entries, len-insert, len-empty, nat_cmp-IsAntisymmetric, slice_cmp-IsAntisymmetric}
use Rattle.std.proofs.lemmas.Bool.{cases_eq, cases_lt, true≢false}
use Rattle.std.proofs.lemmas.Cmp.{tied_itself}
use Rattle.std.proofs.lemmas.List.{take_all, map_more}
use Rattle.disk_layout.specs.declared.kind.FileKind.TheVariants.{Scratch}
use Rattle.disk_layout.specs.Disk.{entry_of}
use Rattle.disk_layout.specs.Format.{count_below}
use Rattle.disk_layout.specs.Files.{File, Files, files, files_below, file_at, named_as, named_at, name_count, with_file}
use Rattle.disk_layout.specs.Names.{IsNameAfter, comes_before, is_past}
use Rattle.disk_layout.proofs.Entries.{count_same}
use Rattle.disk_layout.proofs.Maps.{Named}
use Rattle.disk_layout.proofs.NextNames.{not_before_itself}
use Rattle.disk_system.specs.Listing.{NextLine, file_line}

abbrev Pair : Type 0
Pair = List ℕ × File

abbrev order : List ℕ → List ℕ → Ordering
order = slice_cmp nat_cmp

abbrev none : Pair
none = ([], record { kind = Scratch; protected = false; pages = [] })

abbrev pub key : List Pair → ℕ → List ℕ
key es i = (get_or es i none).0

-- ---- Entries that rise

first : (a b : Bool) → T (a && b) → T a
first true b h = tt
first false b h = h

second : (a b : Bool) → T (a && b) → T b
second true b h = h
second false b h = absurd h

is_less : (r : Ordering) → T (is_lt r) → r ≡ Less
is_less Less h = refl
is_less Equal h = absurd h
is_less Greater h = absurd h

below_at : (x : List ℕ) (es : List Pair) (j : ℕ) → T (fin.Entries.below_all order x es) → j < length es → order x (key es j) ≡ Less
below_at x [] j h inside = absurd (omega (arith, inside))
below_at x (e ∷ es) zero h inside = is_less _ (first _ _ h)
below_at x (e ∷ es) (suc j) h inside = below_at x es j (second _ _ h) (omega (arith, inside))

rises : (es : List Pair) (i j : ℕ) → T (is_sorted order es) → i < j → j < length es → order (key es i) (key es j) ≡ Less
rises [] i j h less inside = absurd (omega (arith, inside))
rises (e ∷ es) i zero h less inside = absurd (omega (arith, less))
rises (e ∷ es) zero (suc j) h less inside = below_at e.0 es j (first _ _ h) (omega (arith, inside))
rises (e ∷ es) (suc i) (suc j) h less inside = rises es i j (second _ _ h) (omega (arith, less)) (omega (arith, inside))

reversed : (a b : List ℕ) → order a b ≡ Less → order b a ≡ Greater
reversed a b less = nat_list_cmp_total.antisymm b a ∙ ap ordering_reverse less

abbrev StandsIn : List ℕ → File → List Pair → Type 0
StandsIn q file es = (i : ℕ) × (i < length es) × (q ≡ key es i) × (file ≡ (get_or es i none).1)

abbrev Behind : List ℕ → File → List Pair → Type 0
Behind q file es = find order q es ≡ Some file → StandsIn q file es

-- a name that is found stands at a place
found_at : (q : List ℕ) (es : List Pair) (file : File) → Behind q file es
found_at q [] file is = absurd (none_is_some is)
  where
    none_is_some : ◌≡◌ {A = Option File} None (Some file) → ⊥
    none_is_some e = cc
found_at q (e ∷ es) file is = by_tie (order q e.0) refl (λ rest. found_at q es file rest)
  where
    same : (a b : File) → ◌≡◌ {A = Option File} (Some a) (Some b) → b ≡ a
    same a b h = cc

    later : Behind q file es → find order q es ≡ Some file → StandsIn q file (e ∷ es)
    later behind rest = let w = behind rest in (suc w.0, omega (arith, w.1), w.2, w.3)

    by_tie : (r : Ordering) → order q e.0 ≡ r → Behind q file es → StandsIn q file (e ∷ es)
    by_tie Equal tie behind = (
      0,
      omega arith,
      slice_cmp-IsAntisymmetric nat_cmp-IsAntisymmetric q e.0 tie,
      same e.1 file (sym (ap (λ r. cond (is_eq r) (Some e.1) (find order q es)) tie) ∙ is),
    )
    by_tie Less less behind = later behind (sym (ap (λ r. cond (is_eq r) (Some e.1) (find order q es)) less) ∙ is)
    by_tie Greater more behind = later behind (sym (ap (λ r. cond (is_eq r) (Some e.1) (find order q es)) more) ∙ is)

-- and at each place its name is found
at_found : (es : List Pair) (i : ℕ) → T (is_sorted order es) → i < length es → find order (key es i) es ≡ Some (get_or es i none).1
at_found [] i h inside = absurd (omega (arith, inside))
at_found (e ∷ es) zero h inside = ap (λ r. cond (is_eq r) (Some e.1) (find order e.0 es)) (tied_itself nat_list_cmp_total e.0)
at_found (e ∷ es) (suc i) h inside =
    let below : i < length es = omega (arith, inside) in
    ap (λ r. cond (is_eq r) (Some e.1) (find order (key es i) es)) (reversed e.0 (key es i) (below_at e.0 es i (first _ _ h) below))
    ∙ at_found es i (second _ _ h) below

-- ---- The next name

-- the last of the first so many names
abbrev pub last_of : List Pair → ℕ → Option (List ℕ)
last_of es zero = None
last_of es (suc k) = Some (key es k)

module _ (m : Files) where
  abbrev es : List Pair
  es = fin.entries m

  sorted : T (is_sorted order es)
  sorted = entries_sorted m

  place_of : (q : List ℕ) (file : File) → fin.get m q ≡ Some file → (i : ℕ) × (i < length es) × (q ≡ key es i) × (file ≡ (get_or es i none).1)
  place_of q file is = found_at q es file (sym (get-entries m q) ∙ is)

  stands : (i : ℕ) → i < length es → fin.get m (key es i) ≡ Some (get_or es i none).1
  stands i inside = get-entries m (key es i) ∙ at_found es i sorted inside

  is_behind : (k i : ℕ) → k ≤ i → i < length es → is_past (last_of es k) (key es i) ≡ true
  is_behind zero i less inside = refl
  is_behind (suc k) i less inside = ap is_lt (rises es k i sorted (omega (arith, less)) inside)

  is_early : (k i : ℕ) → i < k → k ≤ length es → is_past (last_of es k) (key es i) ≡ false
  is_early zero i less inside = absurd (omega (arith, less))
  is_early (suc k) i less inside = elim (cases_eq i k) [
    | inl here ↦ ap (λ x. comes_before (key es k) (key es x)) here ∙ not_before_itself (key es k)
    | inr apart ↦ ap is_lt (reversed (key es i) (key es k) (rises es i k sorted (omega (arith, less, apart)) (omega (arith, inside))))
  ]

  pub next_is : (k : ℕ) (name : List ℕ) (file : File) → k ≤ length es → IsNameAfter m (last_of es k) (Some name) → fin.get m name ≡ Some file
      → (k < length es) × (name ≡ key es k) × (file ≡ (get_or es k none).1)
  next_is k name file within next is =
      let w = place_of name file is in
      let past : is_past (last_of es k) (key es w.0) ≡ true = ap (is_past (last_of es k)) (sym w.2) ∙ next.1 in
      let not_early : k ≤ w.0 = elim (cases_lt w.0 k) [
        | inl early ↦ absurd (true≢false (sym past ∙ is_early k w.0 early within))
        | inr late ↦ late
      ] in
      let here : w.0 ≡ k = elim (cases_eq w.0 k) [
        | inl same ↦ same
        | inr apart ↦
            let between : k < w.0 = omega (arith, not_early, apart) in
            let inside : k < length es = omega (arith, between, w.1) in
            absurd (true≢false (sym (ap is_lt (rises es k w.0 sorted between w.1)) ∙ ap (comes_before (key es k)) (sym w.2)
            ∙ next.2 (key es k) (get_or es k none).1 (stands k inside) (is_behind k k (omega arith) inside)))
      ] in (
        omega (arith, w.1, here),
        w.2 ∙ ap (key es) here,
        w.3 ∙ ap (λ x. (get_or es x none).1) here,
      )

  pub no_next : (k : ℕ) → IsNameAfter m (last_of es k) None → length es ≤ k
  no_next k over = elim (cases_lt k (length es)) [
    | inl inside ↦ absurd (true≢false (sym (is_behind k k (omega arith) inside) ∙ over (key es k) (get_or es k none).1 (stands k inside)))
    | inr past ↦ past
  ]

  -- ---- The lines

  abbrev line : Pair → List ℕ
  line e = file_line e.0 e.1

  -- after so many steps
  pub record ListedTo (j : ℕ) (latest : Option (List ℕ)) (so_far : List (List ℕ)) : Type 0 where
    pub last : latest ≡ last_of es (min j (length es))
    pub lines : so_far ≡ map line (take j es)

  pub listed_none : (lines : List (List ℕ)) → lines ≡ [] → ListedTo 0 None lines
  listed_none lines is = record { last = ap (last_of es) (none_yet (length es)); lines = is }
    where
      none_yet : (n : ℕ) → 0 ≡ min 0 n
      none_yet n = omega arith

  pub listed_next : (j : ℕ) (last last_now : Option (List ℕ)) (lines lines_now : List (List ℕ)) → ListedTo j last lines
      → NextLine m last lines last_now lines_now → ListedTo (j + 1) last_now lines_now
  listed_next j last last_now lines lines_now was (inl some) =
      let k : ℕ = min j (length es) in
      let w = next_is k some.0 some.1 (omega arith) (subst (λ l. IsNameAfter m l (Some some.0)) was.last some.2) some.3 in
      let k_is : k ≡ j = omega (arith, w.0) in
      let inside : j < length es = omega (arith, w.0) in
      record {
        last = some.4 ∙ ap (λ x. Some x) (w.1 ∙ ap (key es) k_is) ∙ ap (last_of es) (next_place j inside);
        lines =
            some.5 ∙ ap (λ ls. ls ++ file_line some.0 some.1 ∷ []) was.lines
            ∙ ap (λ x. map line (take j es) ++ file_line x some.1 ∷ []) (w.1 ∙ ap (key es) k_is)
            ∙ ap (λ x. map line (take j es) ++ file_line (key es j) x ∷ []) (w.2 ∙ ap (λ x. (get_or es x none).1) k_is) ∙ sym (map_more line es j none inside);
      }
    where
      next_place : (j : ℕ) {n : ℕ} → j < n → suc j ≡ min (j + 1) n
      next_place j inside = omega (arith, inside)
  listed_next j last last_now lines lines_now was (inr over) =
      let past = no_next (min j (length es)) (subst (λ l. IsNameAfter m l None) was.last over.0) in
      let all : length es ≤ j = omega (arith, past) in
      record {
        last = over.1 ∙ was.last ∙ ap (last_of es) (same j all);
        lines = over.2 ∙ was.lines ∙ ap (map line) (take_all j es all ∙ sym (take_all (j + 1) es (omega (arith, all))));
      }
    where
      same : (j : ℕ) {n : ℕ} → n ≤ j → min j n ≡ min (j + 1) n
      same j all = omega (arith, all)

  pub listed_all : (j : ℕ) (last : Option (List ℕ)) (lines : List (List ℕ)) → ListedTo j last lines → fin.len m ≤ j → lines ≡ map line es
  listed_all j last lines was all = was.lines ∙ ap (map line) (take_all j es (let n = len-entries m in omega (arith, n, all)))

-- ---- How many there are

one_more : (m : Files) (q : List ℕ) (file : File) → fin.len (fin.insert m q file) ≤ fin.len m + 1
one_more m q file = by_test (fin.contains_key m q) (len-insert nat_list_cmp_total m q file)
  where
    by_test : (b : Bool) {n : ℕ} → n ≡ cond b (fin.len m) (fin.len m + 1) → n ≤ fin.len m + 1
    by_test true e = omega (arith, e)
    by_test false e = omega (arith, e)

few_files : (at : ℕ → Named) (n : ℕ) → fin.len (files_below at n) ≤ count_below (λ p. is_some (at p)) n
unfolding files_below count_below
few_files at zero = let none = len-empty order File in omega (arith, none)
few_files at (suc n) = by_file (at n) refl (few_files at n)
  where
    by_file : (x : Named) → at n ≡ x → fin.len (files_below at n) ≤ count_below (λ p. is_some (at p)) n
        → fin.len (with_file (at n) (files_below at n)) ≤ cond (is_some (at n)) 1 0 + count_below (λ p. is_some (at p)) n
    by_file None is before =
        let len = ap (λ x. fin.len (with_file x (files_below at n))) is in omega (arith, before, len)
    by_file (Some named) is before =
        let len = ap (λ x. fin.len (with_file x (files_below at n))) is in
        let here = ap {B = ℕ} (λ x. cond (is_some x) 1 0) is in
        omega (arith, before, len, here, one_more (files_below at n) named.0 named.1)

named_used : (pages : List (List ℕ)) (p : ℕ) → is_some (named_at pages p) ≡ not ((entry_of pages p).kind == 0)
unfolding named_as
named_used pages p = by_test ((entry_of pages p).kind == 0)
  where
    by_test : (b : Bool) → is_some {T = List ℕ × File} (cond b None (Some ((entry_of pages p).name, file_at pages (entry_of pages p)))) ≡ not b
    by_test true = refl
    by_test false = refl

pub few_names : (pages : List (List ℕ)) → fin.len (files pages) ≤ name_count pages
few_names pages =
    let counted = count_same (λ p. not ((entry_of pages p).kind == 0)) (λ p. is_some (named_at pages p)) 240 (λ p _. named_used pages p) in
    omega (arith, few_files (named_at pages) 240, counted)
