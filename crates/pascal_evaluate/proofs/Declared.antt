-- Names that are declared one after the other.
use Rattle.std.proofs.Common.{◌≡◌, ℕ, zero, suc, ◌+◌, ◌<◌, Option, Some, None, List, [], ◌∷◌, ◌++◌, length, get_or, drop, map, refl, sym, ◌∙◌, ap, append_assoc, add-one, drop-cons, arith}
use Rattle.std.proofs.Math.Path.{fun_ext}
use Rattle.std.proofs.lemmas.List.{drop-map}
use Rattle.pascal_tree.specs.Program.{ParameterGroup, Block, Routine}
use Rattle.pascal_mean.specs.Means.{Means, Parameter, Signature}
use Rattle.pascal_mean.specs.Predeclared.{Item}
use Rattle.pascal_mean.specs.Scope.{Scope, found, scope_of}
use Rattle.pascal_mean.specs.Declarations.{parameter_means, group_parameters, declared_parameters, parameters_after, signature_of, block_of, Declared, own_items, declared_routine, heading_item, declared_headings, routines_after}

pub declared_parameters-append : (ps qs : List Parameter) (items : List Item)
    → declared_parameters (ps ++ qs) items ≡ declared_parameters qs (declared_parameters ps items)
declared_parameters-append [] qs items = refl
declared_parameters-append (p ∷ more) qs items = declared_parameters-append more qs (record { letters = p.letters; means = parameter_means p } ∷ items)

behind : (n : ℕ) (items rest : List Item) (i : Item) → drop n items ≡ i ∷ rest → drop (suc n) items ≡ rest
behind zero [] rest i is = absurd cc
behind zero (j ∷ items) rest i is = cc
behind (suc n) [] rest i is = absurd cc
behind (suc n) (j ∷ items) rest i is = behind n items rest i is

-- behind the headings stands what was there before them
pub drop_headings : (k : ℕ) (rs : List Routine) (items : List Item) → drop (length rs) (declared_headings k rs items) ≡ items
drop_headings k [] items = refl
drop_headings k (r ∷ more) items =
    behind (length more) (declared_headings (k + 1) more (heading_item k items r ∷ items)) items (heading_item k items r)
    (drop_headings (k + 1) more (heading_item k items r ∷ items))

pub length_headings : (k : ℕ) (rs : List Routine) (items : List Item) → length (declared_headings k rs items) ≡ length rs + length items
length_headings k [] items = omega arith
length_headings k (r ∷ more) items = omega (arith, length_headings (k + 1) more (heading_item k items r ∷ items))

-- behind the headings after a routine's stand this heading and what was before it
pub known_is : (k : ℕ) (names items : List Item) (r : Routine) (more : List Routine) → declared_headings k (r ∷ more) items ≡ names
    → drop (length more) names ≡ heading_item k items r ∷ items
known_is k names items r more is = ap (drop (length more)) (sym is) ∙ drop_headings (k + 1) more (heading_item k items r ∷ items)

-- ---- Places of lists

pub at_place : {A B : Type 0} (f : A → B) (xs : List A) (i : ℕ) (x : A) → i < length xs → x ≡ get_or xs i x
    → map f (drop i xs) ≡ f x ∷ map f (drop (i + 1) xs)
at_place f xs i x within is =
    ap (map f) (drop-cons xs i x within)
    ∙ ap (λ y. f y ∷ map f (drop (suc i) xs)) (sym is) ∙ ap (λ n. f x ∷ map f (drop n xs)) (sym (add-one i))

pub at_place_or : {A B : Type 0} (f : A → B) (xs : List A) (i : ℕ) (d : A) → i < length xs
    → map f (drop i xs) ≡ f (get_or xs i d) ∷ map f (drop (i + 1) xs)
at_place_or f xs i d within =
    ap (map f) (drop-cons xs i d within) ∙ ap (λ n. f (get_or xs i d) ∷ map f (drop n xs)) (sym (add-one i))

-- ---- Groups of parameters

module _ (program own after : List Item) (list more_list : List Parameter) (g : ℕ × ParameterGroup) (more all : List (ℕ × ParameterGroup))
    (first : all ≡ g ∷ more) (listed : more_list ≡ list ++ group_parameters (scope_of own program) g.1)
    (declared : after ≡ declared_parameters (group_parameters (scope_of own program) g.1) own) where
  pub groups_behind : more_list ++ parameters_after after program more ≡ list ++ parameters_after own program all
  groups_behind =
      let these = group_parameters (scope_of own program) g.1 in
      ap (λ l. l ++ parameters_after after program more) listed
      ∙ ap (λ items. (list ++ these) ++ parameters_after items program more) declared
      ∙ append_assoc list these (parameters_after (declared_parameters these own) program more)
      ∙ ap (λ gs. list ++ parameters_after own program gs) (sym first)

  pub own_behind : own ≡ declared_parameters list [] → after ≡ declared_parameters more_list []
  own_behind before =
      let these = group_parameters (scope_of own program) g.1 in
      declared ∙ ap (declared_parameters these) before ∙ sym (declared_parameters-append list these []) ∙ ap (λ l. declared_parameters l []) (sym listed)

-- ---- The names of the program itself

one_list : (items : List Item) (x : List ℕ) → scope_of items [] x ≡ scope_of [] items x
one_list items x = step (found items x) refl where
  step : (q : Option Means) → found items x ≡ q → scope_of items [] x ≡ scope_of [] items x
  step None is = rw is refl
  step (Some m) is = rw is refl

-- with one list alone, it is the same whether it is the own one or the program's
pub one_scope : ◌≡◌ {A = List Item → Scope} (λ own. scope_of own []) (scope_of [])
one_scope = fun_ext (λ items. fun_ext (λ x. one_list items x))

-- ---- Routines

pub routine_is : (known : List Item) (s t : Signature) (b e : Block) (own : List Item) → s ≡ t → b ≡ e → own ≡ own_items known s b
    → record { signature = s; scope = scope_of own known; body = b.body } ≡ declared_routine known t e
routine_is known s t b e own same_signature same_block is =
    ap (λ (items : List Item). let d : Declared = record { signature = s; scope = scope_of items known; body = b.body } in d) is
    ∙ ap (declared_routine known s) same_block ∙ ap (λ signature. declared_routine known signature e) same_signature

pub known_first : {A : Type 0} (see : A → Item) (xs : List A) (n : ℕ) (rs : List Routine) (items : List Item) → map see xs ≡ declared_headings 1 rs items
    → n ≡ length rs → map see (drop n xs) ≡ items
known_first see xs n rs items is all =
    sym (drop-map see n xs) ∙ ap (drop n) is ∙ ap (λ m. drop m (declared_headings 1 rs items)) all ∙ drop_headings 1 rs items

module _ (k : ℕ) (names before known : List Item) (r : Routine) (more rest : List Routine) (first : rest ≡ r ∷ more)
    (named : declared_headings k rest before ≡ names) (behind_is : known ≡ drop (length more) names) where
  pub next_known : known ≡ heading_item k before r ∷ before
  next_known = behind_is ∙ known_is k names before r more (ap (λ rs. declared_headings k rs before) (sym first) ∙ named)

  pub next_named : declared_headings (k + 1) more known ≡ names
  next_named = ap (declared_headings (k + 1) more) next_known ∙ ap (λ rs. declared_headings k rs before) (sym first) ∙ named

  pub next_all : (ds more_ds all : List Declared) (d : Declared) → more_ds ≡ ds ++ d ∷ []
      → d ≡ declared_routine known (signature_of before r) (block_of r) → ds ++ routines_after k before rest ≡ all
      → more_ds ++ routines_after (k + 1) known more ≡ all
  next_all ds more_ds all d pushed is so_far =
      ap (λ l. l ++ routines_after (k + 1) known more) pushed
      ∙ append_assoc ds (d ∷ []) (routines_after (k + 1) known more)
      ∙ ap (λ e. ds ++ e ∷ routines_after (k + 1) known more) is
      ∙ ap (λ items. ds ++ declared_routine items (signature_of before r) (block_of r) ∷ routines_after (k + 1) items more) next_known
      ∙ ap (λ rs. ds ++ routines_after k before rs) (sym first) ∙ so_far
