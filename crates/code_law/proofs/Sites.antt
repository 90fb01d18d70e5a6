-- What names have in the frames of the open activations.
use Rattle.std.proofs.Common.{◌≡◌, ℕ, ◌+◌, ◌<◌, ◌≤◌, Bool, true, false, List, [], ◌∷◌, Option, Some, None, refl, sym, ◌∙◌, ap, subst, arith}
use Rattle.std.specs.Prelude.{bytes_eq, if◌then◌else◌}
use Rattle.std.proofs.lemmas.Bool.{lt-ltb}
use Rattle.std.proofs.lemmas.Option.{none-some, same_Some}
use Rattle.pascal_tree.specs.declared.declaration.Definition.{Definition}
use Rattle.pascal_tree.specs.declared.declaration.Kind.{Kind}
use Rattle.pascal_tree.specs.declared.declaration.Kind.TheVariants as kind
use Rattle.pascal_tree.specs.Program.{Group, Consts, Vars, Block, Routine, Program}
use Rattle.pascal_mean.specs.Means.{Means, Owner, OfProgram, OfRoutine, Bounds, Signature, Parameter}
use Rattle.pascal_mean.specs.Means as meant
use Rattle.pascal_mean.specs.Predeclared.{Item, predeclared}
use Rattle.pascal_mean.specs.Scope.{Scope, scope_of}
use Rattle.pascal_mean.specs.Declarations.{declared_names, declared_definitions, declared_constants, declared_groups, declared_variables, declared_parameters, parameter_means, own_items, constant_item, variable_of, name_list, declared_headings, heading_item, global_items}
use Rattle.pascal_code.specs.Frames.{Frame, words_of, words_in, place_behind, plain_frame, routine_frame}
use Rattle.pascal_code.specs.Senses as to_code
use Rattle.pascal_code.specs.Senses.{Sense, sense, Variable, Array, Reference, sense_among, sense_in, first_sense, names_in}

-- ---- What all items of a list have
abbrev pub AllItems : (Means → Type 0) → List Item → Type 0
AllItems P [] = Unit {0}
AllItems P (i ∷ earlier) = P i.means × AllItems P earlier

pub names_have : (P : Means → Type 0) (means : Means) (xs : List (List ℕ)) (items : List Item) → P means → AllItems P items
    → AllItems P (declared_names means xs items)
names_have P means [] items has are = are
names_have P means (x ∷ more) items has are = names_have P means more (record { letters = x; means = means } ∷ items) has (has, are)

definitions_have : (P : Means → Type 0) (scope : List Item → Scope) → ((s : Scope) (d : Definition) → P (constant_item s d).means)
    → (ds : List Definition) (items : List Item) → AllItems P items → AllItems P (declared_definitions scope ds items)
definitions_have P scope has [] items are = are
definitions_have P scope has (d ∷ more) items are = definitions_have P scope has more (constant_item (scope items) d ∷ items) (has (scope items) d, are)

pub constants_have : (P : Means → Type 0) (scope : List Item → Scope) → ((s : Scope) (d : Definition) → P (constant_item s d).means)
    → (c : Option Consts) (items : List Item) → AllItems P items → AllItems P (declared_constants scope c items)
constants_have P scope has None items are = are
constants_have P scope has (Some c) items are = definitions_have P scope has (c.first ∷ c.rest) items are

groups_have : (P : Means → Type 0) (owner : Owner) (scope : List Item → Scope) → ((s : Scope) (k : Kind) → P (variable_of owner s k))
    → (gs : List Group) (items : List Item) → AllItems P items → AllItems P (declared_groups owner scope gs items)
groups_have P owner scope has [] items are = are
groups_have P owner scope has (g ∷ more) items are =
    let means = variable_of owner (scope items) g.kind in
    groups_have P owner scope has more (declared_names means (name_list g.names) items)
    (names_have P means (name_list g.names) items (has (scope items) g.kind) are)

pub variables_have : (P : Means → Type 0) (owner : Owner) (scope : List Item → Scope) → ((s : Scope) (k : Kind) → P (variable_of owner s k))
    → (v : Option Vars) (items : List Item) → AllItems P items → AllItems P (declared_variables owner scope v items)
variables_have P owner scope has None items are = are
variables_have P owner scope has (Some v) items are = groups_have P owner scope has (v.first ∷ v.rest) items are

-- ---- Whose variables they are
abbrev pub OfOwner : Owner → Bool → Means → Type 0
OfOwner owner refs (meant.Variable o t) = o ≡ owner
OfOwner owner refs (meant.Array o t b) = o ≡ owner
OfOwner owner refs (meant.Reference t) = refs ≡ true
OfOwner owner refs (meant.Constant t v) = Unit {0}
OfOwner owner refs (meant.Routine k s) = Unit {0}
OfOwner owner refs (meant.Function f) = Unit {0}
OfOwner owner refs (meant.Interface p) = Unit {0}
OfOwner owner refs (meant.TypeName t) = Unit {0}
OfOwner owner refs meant.Nothing = Unit {0}

variable_owner : (owner : Owner) (refs : Bool) (s : Scope) (k : Kind) → OfOwner owner refs (variable_of owner s k)
variable_owner owner refs s (kind.Name n) = refl
variable_owner owner refs s (kind.Array line opening low up_to high closing of element) = refl

parameters_own : (ps : List Parameter) (items : List Item) → AllItems (OfOwner OfRoutine true) items
    → AllItems (OfOwner OfRoutine true) (declared_parameters ps items)
parameters_own [] items are = are
parameters_own (p ∷ more) items are = parameters_own more (record { letters = p.letters; means = parameter_means p } ∷ items) (own p.is_variable, are)
  where
    own : (b : Bool) → OfOwner OfRoutine true (if b then meant.Reference p.scalar else meant.Variable OfRoutine p.scalar)
    own true = refl
    own false = refl

pub own_are : (known : List Item) (signature : Signature) (b : Block) → AllItems (OfOwner OfRoutine true) (own_items known signature b)
own_are known signature b =
    let scope : List Item → Scope = λ own. scope_of own known in
    variables_have (OfOwner OfRoutine true) OfRoutine scope (variable_owner OfRoutine true) b.vars _
    (constants_have (OfOwner OfRoutine true) scope (λ s d. tt) b.consts _ (parameters_own signature.parameters [] tt))

pub globals_are : (p : Program) → AllItems (OfOwner OfProgram false) (global_items p)
globals_are p =
    variables_have (OfOwner OfProgram false) OfProgram (scope_of []) (variable_owner OfProgram false) p.vars _
    (constants_have (OfOwner OfProgram false) (scope_of []) (λ s d. tt) p.consts [] tt)

pub headings_are : (k : ℕ) (rs : List Routine) (items : List Item) → AllItems (OfOwner OfProgram false) items
    → AllItems (OfOwner OfProgram false) (declared_headings k rs items)
headings_are k [] items are = are
headings_are k (r ∷ more) items are = headings_are (k + 1) more (heading_item k items r ∷ items) (tt, are)

-- a sense among them
abbrev pub SenseOf : Owner → Bool → Sense → Type 0
SenseOf owner refs (Variable o a) = o ≡ owner
SenseOf owner refs (Array o a b) = o ≡ owner
SenseOf owner refs (Reference a) = refs ≡ true
SenseOf owner refs (to_code.Constant v) = Unit {0}
SenseOf owner refs (to_code.Routine k passing) = Unit {0}
SenseOf owner refs (to_code.Function f) = Unit {0}
SenseOf owner refs (to_code.Interface p) = Unit {0}
SenseOf owner refs to_code.Nothing = Unit {0}

sense_owner : (owner : Owner) (refs : Bool) (m : Means) (a : ℕ) → OfOwner owner refs m → SenseOf owner refs (sense m a)
sense_owner owner refs (meant.Variable o t) a is = is
sense_owner owner refs (meant.Array o t b) a is = is
sense_owner owner refs (meant.Reference t) a is = is
sense_owner owner refs (meant.Constant t v) a is = tt
sense_owner owner refs (meant.Routine k s) a is = tt
sense_owner owner refs (meant.Function f) a is = tt
sense_owner owner refs (meant.Interface p) a is = tt
sense_owner owner refs (meant.TypeName t) a is = tt
sense_owner owner refs meant.Nothing a is = tt

pub owner_among : (owner : Owner) (refs : Bool) (f : Frame) (items : List Item) (x : List ℕ) (s : Sense) → AllItems (OfOwner owner refs) items
    → sense_among f items x ≡ Some s → SenseOf owner refs s
owner_among owner refs f [] x s are is = absurd (none-some s is)
owner_among owner refs f (i ∷ earlier) x s are is = by_name (bytes_eq i.letters x) (owner_among owner refs f earlier x s are.1) is
  where
    by_name : (same : Bool) → (sense_among f earlier x ≡ Some s → SenseOf owner refs s)
        → (if same then Some (sense i.means (place_behind f earlier)) else sense_among f earlier x) ≡ Some s → SenseOf owner refs s
    by_name true later is = subst (SenseOf owner refs) (same_Some _ s is) (sense_owner owner refs i.means (place_behind f earlier) are.0)
    by_name false later is = later is

-- what is declared before any program is of either owner
pub predeclared_are : (owner : Owner) → AllItems (OfOwner owner false) predeclared
predeclared_are owner = (
  tt,
  (
    tt,
    (
      tt,
      (
        tt,
        (
          tt,
          (
            tt,
            (
              tt,
              (
                tt,
                (
                  tt,
                  (
                    tt,
                    (
                      tt,
                      (
                        tt,
                        (
                          tt,
                          (
                            tt,
                            (
                              tt,
                              (
                                tt,
                                (
                                  tt,
                                  (
                                    tt,
                                    (
                                      tt,
                                      (
                                        tt,
                                        (
                                          tt,
                                          (
                                            tt,
                                            (
                                              tt,
                                              (
                                                tt,
                                                (
                                                  tt,
                                                  (tt, tt),
                                                ),
                                              ),
                                            ),
                                          ),
                                        ),
                                      ),
                                    ),
                                  ),
                                ),
                              ),
                            ),
                          ),
                        ),
                      ),
                    ),
                  ),
                ),
              ),
            ),
          ),
        ),
      ),
    ),
  ),
)

-- ---- Where a name was found
pub data FoundAs (own program : Frame) (x : List ℕ) (s : Sense) : Type 0 where
  OfOwn : sense_in own x ≡ Some s → FoundAs own program x s
  OfOuter : sense_in program x ≡ Some s → FoundAs own program x s
  Before : sense_in (plain_frame predeclared) x ≡ Some s → FoundAs own program x s
  Nowhere : to_code.Nothing ≡ s → FoundAs own program x s

pub found_as : (own program : Frame) (x : List ℕ) (s : Sense) → names_in own program x ≡ s → FoundAs own program x s
found_as own program x s is = by_cases (sense_in own x) (sense_in program x) (sense_in (plain_frame predeclared) x) refl refl refl is
  where
    by_cases : (a b d : Option Sense) → sense_in own x ≡ a → sense_in program x ≡ b → sense_in (plain_frame predeclared) x ≡ d → first_sense a b d ≡ s
        → FoundAs own program x s
    by_cases (Some t) b d e e2 e3 is = OfOwn (e ∙ ap Some is)
    by_cases None (Some t) d e e2 e3 is = OfOuter (e2 ∙ ap Some is)
    by_cases None None (Some t) e e2 e3 is = Before (e3 ∙ ap Some is)
    by_cases None None None e e2 e3 is = Nowhere is

-- ---- The program's names, with headings over them
pub data Over (base : List Item) : List Item → Type 0 where
  Itself : Over base base
  Heading : (k : ℕ) (known : List Item) (r : Routine) → Over base known → Over base (heading_item k known r ∷ known)

-- a sense with words
abbrev pub HasRegion : Sense → Type 0
HasRegion (Variable o a) = Unit {0}
HasRegion (Array o a b) = Unit {0}
HasRegion (Reference a) = Unit {0}
HasRegion (to_code.Constant v) = ⊥
HasRegion (to_code.Routine k passing) = ⊥
HasRegion (to_code.Function f) = ⊥
HasRegion (to_code.Interface p) = ⊥
HasRegion to_code.Nothing = ⊥

same_plain : (one two items : List Item) (x : List ℕ) → sense_among (plain_frame one) items x ≡ sense_among (plain_frame two) items x
same_plain one two [] x = refl
same_plain one two (i ∷ earlier) x = ap (λ (o : Option Sense). if bytes_eq i.letters x then Some (sense i.means (place_behind (plain_frame one) earlier)) else
    o) (same_plain one two earlier x)

pub through_headings : (base known : List Item) → Over base known → (x : List ℕ) (s : Sense) → HasRegion s → sense_in (plain_frame known) x ≡ Some s
    → sense_in (plain_frame base) x ≡ Some s
through_headings base known Itself x s has is = is
through_headings base (i ∷ items) (Heading k known r over) x s has is =
    through_headings base known over x s has (sym (same_plain (heading_item k known r ∷ known) known known x)
    ∙ by_name (bytes_eq (heading_item k known r).letters x) is)
  where
    by_name : (same : Bool) → (if same then Some (sense (heading_item k known r).means (place_behind (plain_frame (heading_item k known r ∷ known)) known)) else
        sense_among (plain_frame (heading_item k known r ∷ known)) known x) ≡ Some s
        → sense_among (plain_frame (heading_item k known r ∷ known)) known x ≡ Some s
    by_name true e = absurd (subst HasRegion (sym (same_Some _ s e)) has)
    by_name false e = e

pub over_are : (base known : List Item) → Over base known → AllItems (OfOwner OfProgram false) base → AllItems (OfOwner OfProgram false) known
over_are base known Itself are = are
over_are base (i ∷ items) (Heading k known r over) are = (tt, over_are base known over are)

pub over_words : (base known : List Item) → Over base known → words_in known ≡ words_in base
over_words base known Itself = refl
over_words base (i ∷ items) (Heading k known r over) = omega (arith, over_words base known over)

pub headings_over : (base : List Item) (k : ℕ) (rs : List Routine) (known : List Item) → Over base known → Over base (declared_headings k rs known)
headings_over base k [] known over = over
headings_over base k (r ∷ more) known over = headings_over base (k + 1) more (heading_item k known r ∷ known) (Heading k known r over)

-- ---- References are parameters
RefsBelow : Frame → List Item → Type 0
RefsBelow f items = (x : List ℕ) (a : ℕ) → sense_among f items x ≡ Some (Reference a) → a < f.parameters

NoReference : Means → Type 0
NoReference m = (a b : ℕ) → sense m a ≡ Reference b → ⊥

refs_more : (f : Frame) (i : Item) (items : List Item) → NoReference i.means → RefsBelow f items → RefsBelow f (i ∷ items)
unfolding RefsBelow NoReference
refs_more f i items lacks below x a is = by_name (bytes_eq i.letters x) is
  where
    by_name : (same : Bool) → (if same then Some (sense i.means (place_behind f items)) else sense_among f items x) ≡ Some (Reference a) → a < f.parameters
    by_name true e = absurd (lacks (place_behind f items) a (same_Some _ _ e))
    by_name false e = below x a e

constant_no : (s : Scope) (d : Definition) → NoReference (constant_item s d).means
unfolding NoReference
constant_no s d a b e = cc

variable_no : (s : Scope) (k : Kind) → NoReference (variable_of OfRoutine s k)
unfolding NoReference
variable_no s (kind.Name n) a b e = cc
variable_no s (kind.Array line opening low up_to high closing of element) a b e = cc

refs_names : (f : Frame) (means : Means) (xs : List (List ℕ)) (items : List Item) → NoReference means → RefsBelow f items
    → RefsBelow f (declared_names means xs items)
refs_names f means [] items lacks below = below
refs_names f means (x ∷ more) items lacks below = refs_names f means more (record { letters = x; means = means } ∷ items) lacks
    (refs_more f (record { letters = x; means = means }) items lacks below)

refs_definitions : (f : Frame) (scope : List Item → Scope) (ds : List Definition) (items : List Item) → RefsBelow f items
    → RefsBelow f (declared_definitions scope ds items)
refs_definitions f scope [] items below = below
refs_definitions f scope (d ∷ more) items below = refs_definitions f scope more (constant_item (scope items) d ∷ items)
    (refs_more f (constant_item (scope items) d) items (constant_no (scope items) d) below)

refs_constants : (f : Frame) (scope : List Item → Scope) (c : Option Consts) (items : List Item) → RefsBelow f items
    → RefsBelow f (declared_constants scope c items)
refs_constants f scope None items below = below
refs_constants f scope (Some c) items below = refs_definitions f scope (c.first ∷ c.rest) items below

refs_groups : (f : Frame) (scope : List Item → Scope) (gs : List Group) (items : List Item) → RefsBelow f items
    → RefsBelow f (declared_groups OfRoutine scope gs items)
refs_groups f scope [] items below = below
refs_groups f scope (g ∷ more) items below =
    let means = variable_of OfRoutine (scope items) g.kind in
    refs_groups f scope more (declared_names means (name_list g.names) items)
    (refs_names f means (name_list g.names) items (variable_no (scope items) g.kind) below)

refs_variables : (f : Frame) (scope : List Item → Scope) (v : Option Vars) (items : List Item) → RefsBelow f items
    → RefsBelow f (declared_variables OfRoutine scope v items)
refs_variables f scope None items below = below
refs_variables f scope (Some v) items below = refs_groups f scope (v.first ∷ v.rest) items below

-- among parameters, which have the first words
refs_parameters : (f : Frame) (items : List Item) → words_in items ≤ f.parameters → RefsBelow f items
unfolding RefsBelow
refs_parameters f [] low x a is = absurd (none-some _ is)
refs_parameters f (i ∷ earlier) low x a is = by_name (bytes_eq i.letters x) (λ e. refs_parameters f earlier (omega (arith, low)) x a e) is
  where
    by_means : (m : Means) → words_of m + words_in earlier ≤ f.parameters → sense m (place_behind f earlier) ≡ Reference a → a < f.parameters
    by_means (meant.Reference t) low e =
        let here : place_behind f earlier ≡ a = reference_place (place_behind f earlier) a e in
        let near : words_in earlier < f.parameters = omega (arith, low) in
        let first : place_behind f earlier ≡ words_in earlier = ap (λ b. if b then words_in earlier else words_in earlier + f.result)
        (lt-ltb (words_in earlier) f.parameters near) in
        omega (arith, here, first, near)
      where
        reference_place : (c d : ℕ) → Reference c ≡ Reference d → c ≡ d
        reference_place c d e = cc
    by_means (meant.Variable o t) low e = cc
    by_means (meant.Array o t b) low e = cc
    by_means (meant.Constant t v) low e = cc
    by_means (meant.Routine k s) low e = cc
    by_means (meant.Function g) low e = cc
    by_means (meant.Interface p) low e = cc
    by_means (meant.TypeName t) low e = cc
    by_means meant.Nothing low e = cc

    by_name : (same : Bool) → (sense_among f earlier x ≡ Some (Reference a) → a < f.parameters)
        → (if same then Some (sense i.means (place_behind f earlier)) else sense_among f earlier x) ≡ Some (Reference a) → a < f.parameters
    by_name true later e = by_means i.means low (same_Some _ _ e)
    by_name false later e = later e

pub references_low : (known : List Item) (signature : Signature) (b : Block) (x : List ℕ) (a : ℕ)
    → let f = routine_frame known signature b in sense_in f x ≡ Some (Reference a) → a < f.parameters
unfolding RefsBelow
references_low known signature b x a is =
    let f = routine_frame known signature b in
    let scope : List Item → Scope = λ own. scope_of own known in
    let these = declared_parameters signature.parameters [] in
    refs_variables f scope b.vars (declared_constants scope b.consts these) (refs_constants f scope b.consts these (refs_parameters f these (omega arith))) x a
    is
