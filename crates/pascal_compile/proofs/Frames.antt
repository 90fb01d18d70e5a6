-- A declaration extends the frame that is held.
use Rattle.std.proofs.Common.{◌≡◌, ℕ, ◌+◌, ◌≤◌, List, [], ◌∷◌, ◌++◌, map, Option, Some, None, ℤ, refl, sym, ap, ap₂, ◌∙◌, subst, arith}
use Rattle.std.specs.Prelude.{min, bytes_eq, if◌then◌else◌}
use Rattle.std.proofs.Common.{nat_lt}
use Rattle.std.proofs.lemmas.Bool.{le-ltb}
use Rattle.pascal_tree.specs.declared.constant.Constant.{Constant}
use Rattle.pascal_tree.specs.declared.declaration.Definition.{Definition}
use Rattle.pascal_tree.specs.declared.declaration.Kind.TheVariants as kind
use Rattle.pascal_tree.specs.Word.{NameAt}
use Rattle.pascal_tree.specs.Program.{ParameterGroup}
use Rattle.pascal_mean.specs.Means.{Means, Scalar, Owner, OfRoutine, Parameter}
use Rattle.pascal_mean.specs.Predeclared.{Item, predeclared}
use Rattle.pascal_mean.specs.Scope.{Scope, scope_of, constant_number}
use Rattle.pascal_mean.specs.Declarations.{name_list, declared_names, constant_item, variable_of, parameter_of, parameter_means, group_parameters, declared_parameters, parameters_after}
use Rattle.pascal_code.specs.Frames.{Frame, words_of, words_in, behind_result, declared_words, plain_frame}
use Rattle.pascal_code.specs.Senses.{Sense, AreSenses, sense, sense_among, sense_in, first_sense, number_of, constant_value}
use Rattle.pascal_code.specs.Senses as to_code
use Rattle.pascal_code.proofs.SensesAgree.{constants_alike}
use Rattle.pascal_compile.specs.declared.names.Names as names_type
use Rattle.pascal_compile.specs.declared.frame.Frame as frame_type
use Rattle.pascal_compile.specs.declared.frame.Held as held_type
use Rattle.pascal_compile.specs.declared.frame.Held.TheVariants as held
use Rattle.pascal_mean.specs.Variables.{size_of}
use Rattle.pascal_compile.specs.Seen.{seen_owner, seen_names, seen_scope}
use Rattle.pascal_compile.specs.Holds.{Holds, HoldsFrame, with_items, held_sense, held_words, HeldAs, NamesLaidOut, Tells, LaidOut, ParametersLaidOut}

abbrev Code : Type 0
Code = frame_type.Frame

-- ---- One declaration

-- what else a frame has doesn't tell a name among declarations
pub same_among : (f g : Frame) → f.parameters ≡ g.parameters → f.result ≡ g.result → (items : List Item) (x : List ℕ)
    → sense_among f items x ≡ sense_among g items x
same_among f g p r [] x = refl
same_among f g p r (i ∷ earlier) x =
    ap₂ (λ (n : ℕ) (o : Option Sense). if bytes_eq i.letters x then Some (sense i.means n) else o)
    (ap₂ (λ (q s : ℕ). if nat_lt (words_in earlier) q then words_in earlier else words_in earlier + s) p r)
    (same_among f g p r earlier x)

-- what is declared behind all parameters lies behind the result
pub behind : (f : Frame) (words : ℕ) → f.parameters ≤ words → behind_result f words ≡ words + f.result
behind f words far = ap (λ b. if b then words else words + f.result) (le-ltb words f.parameters far)

-- the names behind a declaration
abbrev pub Named : Code → Code → List ℕ → Sense → Type 0
Named a b letters s = (x : List ℕ) → seen_names b.names x ≡ (if bytes_eq letters x then Some s else seen_names a.names x)

holds_more : (a b : Code) (f : Frame) (i : Item) (s : Sense) → Named a b i.letters s → b.words ≡ a.words + words_of i.means
    → s ≡ sense i.means (declared_words f) → Holds a f → Holds b (with_items f (i ∷ f.items))
holds_more a b f i s named words is h = record {
  names = λ x. named x
      ∙ ap₂ (λ (t : Sense) (o : Option Sense). if bytes_eq i.letters x then Some t else o)
      (is ∙ ap (λ (n : ℕ). sense i.means n) (sym (behind f (words_in f.items) h.behind)))
      (h.names x ∙ same_among f (with_items f (i ∷ f.items)) refl refl f.items x);
  words = omega (arith, words, h.words);
  behind = omega (arith, h.behind);
}

pub item_held : (a b : Code) (f : Frame) (i : Item) (s : Sense) → Named a b i.letters s
    → (Holds a f → b.words ≡ min (a.words + words_of i.means) 65535) → (Holds a f → s ≡ sense i.means (declared_words f))
    → HoldsFrame a f → HoldsFrame b (with_items f (i ∷ f.items))
item_held a b f i s named words is before fits =
    let h = before (omega (arith, fits)) in
    let w : b.words ≡ a.words + words_of i.means = omega (arith, words h, h.words, fits) in
    holds_more a b f i s named w (is h) h

-- ---- Names that hold alike

names_grow : (m : Means) (xs : List (List ℕ)) (items : List Item) → words_in items ≤ words_in (declared_names m xs items)
names_grow m [] items = omega arith
names_grow m (x ∷ more) items = omega (arith, names_grow m more (record { letters = x; means = m } ∷ items))

pub no_names : (h : held_type.Held) (a : Code) → NamesLaidOut h a a []
no_names h a f m is before = before

pub name_then : (h : held_type.Held) (a b c : Code) (x : List ℕ) (more : List (List ℕ)) → Named a b x (held_sense h (seen_owner a.owner) a.words)
    → b.words ≡ min (a.words + held_words h) 65535 → b.owner ≡ a.owner → NamesLaidOut h b c more → NamesLaidOut h a c (x ∷ more)
name_then h a b c x more named words owner later f m is before =
    let i : Item = record { letters = x; means = m } in
    later (with_items f (i ∷ f.items)) m (subst (λ o. HeldAs h (seen_owner o) m) (sym owner) is)
    (item_held a b f i (held_sense h (seen_owner a.owner) a.words) named
    (λ k. words ∙ ap (λ (n : ℕ). min (a.words + n) 65535) (sym is.words_are))
    (λ k. sym (is.sense_is a.words) ∙ ap (λ (n : ℕ). sense m n) k.words) before)

-- ---- Constants

-- names as the code holds them are those of the scope
pub tells : (program : names_type.Names) (a : Code) (f : Frame) (scope : List Item → Scope) → Tells program scope → Holds a f
    → AreSenses (scope f.items) (seen_scope a.names program)
tells program a f scope are h x =
    let s = are f x in
    (s.0, ap (λ (o : Option Sense). first_sense o (seen_names program x) (sense_in (plain_frame predeclared) x)) (h.names x) ∙ s.1)

pub constant_laid : (program : names_type.Names) (a b : Code) (d : Definition) (v : ℤ) → v ≡ constant_value (seen_scope a.names program) d.value
    → Named a b (d.name).letters (to_code.Constant v) → b.words ≡ a.words
    → LaidOut program a b (λ scope items. constant_item (scope items) d ∷ items)
constant_laid program a b d v is named words scope are f before fits =
    item_held a b f (constant_item (scope f.items) d) (to_code.Constant v) named
    (λ h. omega (arith, words, h.words, fits))
    (λ h. ap to_code.Constant (is ∙ constants_alike (scope f.items) (seen_scope a.names program) (tells program a f scope are h) d.value))
    before fits

-- ---- Variables

pub array_held : (names : List ℕ → Sense) (low high : Constant) (v w : ℤ) → v ≡ constant_value names low → w ≡ constant_value names high
    → (owner : Owner) (scope : Scope) → AreSenses scope names → (line opening up_to closing of : ℕ) (element : NameAt)
    → HeldAs (held.Array (record { low = v; high = w })) owner (variable_of owner scope (kind.Array line opening low up_to high closing of element))
array_held names low high v w is is2 owner scope are line opening up_to closing of element =
    let one : constant_number scope low ≡ v = sym (is ∙ constants_alike scope names are low) in
    let two : constant_number scope high ≡ w = sym (is2 ∙ constants_alike scope names are high) in
    record {
      sense_is = λ place. ap₂ (λ (l h : ℤ). to_code.Array owner place (record { low = l; high = h })) one two;
      words_are = ap₂ (λ (l h : ℤ). size_of (record { low = l; high = h })) one two;
    }

pub group_laid : (program : names_type.Names) (a b : Code) (h : held_type.Held) (xs : List (List ℕ)) (means : Scope → Means)
    → ((scope : Scope) → AreSenses scope (seen_scope a.names program) → HeldAs h (seen_owner a.owner) (means scope)) → NamesLaidOut h a b xs
    → LaidOut program a b (λ scope items. declared_names (means (scope items)) xs items)
group_laid program a b h xs means held names scope are f before fits =
    let m = means (scope f.items) in
    let few : declared_words f ≤ 4096 = omega (arith, fits, names_grow m xs f.items) in
    names f m (held (scope f.items) (tells program a f scope are (before few))) before fits

-- ---- One list of declarations after another

pub nothing_laid : (program : names_type.Names) (a : Code) → LaidOut program a a (λ scope items. items)
nothing_laid program a scope are f before = before

pub laid_then : (program : names_type.Names) (a b c : Code) (one two : (List Item → Scope) → List Item → List Item)
    → LaidOut program a b one → LaidOut program b c two → LaidOut program a c (λ scope items. two scope (one scope items))
laid_then program a b c one two first second scope are f before =
    second scope are (with_items f (one scope f.items)) (first scope are f before)

-- ---- Parameters

-- a group of parameters is a list of names with one meaning
as_names : (v : Option ℕ) (t : Scalar) (m : Means) → ((x : List ℕ) → parameter_means (parameter_of v t x) ≡ m) → (xs : List (List ℕ)) (items : List Item)
    → declared_parameters (map (parameter_of v t) xs) items ≡ declared_names m xs items
as_names v t m is [] items = refl
as_names v t m is (x ∷ more) items =
    ap (λ (p : Parameter). declared_parameters (map (parameter_of v t) more) (record { letters = p.letters; means = parameter_means p } ∷ items)) refl
    ∙ as_names v t m is more (record { letters = (parameter_of v t x).letters; means = parameter_means (parameter_of v t x) } ∷ items)
    ∙ ap₂ (λ (y : List ℕ) (n : Means). declared_names m more (record { letters = y; means = n } ∷ items)) (letters v) (is x)
  where
    letters : (w : Option ℕ) → (parameter_of w t x).letters ≡ x
    letters None = refl
    letters (Some line) = refl

one_meaning : (v : Option ℕ) (t : Scalar) (x : List ℕ) → parameter_means (parameter_of v t x) ≡ parameter_means (parameter_of v t [])
one_meaning None t x = refl
one_meaning (Some line) t x = refl

pub parameters_laid : (a b : Code) (h : held_type.Held) (g : ParameterGroup)
    → ((t : Scalar) (x : List ℕ) → HeldAs h OfRoutine (parameter_means (parameter_of g.var t x))) → NamesLaidOut h a b (name_list g.names)
    → (t : Scalar) (f : Frame) → seen_owner a.owner ≡ OfRoutine → HoldsFrame a f
    → HoldsFrame b (with_items f (declared_parameters (map (parameter_of g.var t) (name_list g.names)) f.items))
parameters_laid a b h g held names t f owner before =
    let m = parameter_means (parameter_of g.var t []) in
    subst (λ (items : List Item). HoldsFrame b (with_items f items))
    (sym (as_names g.var t m (one_meaning g.var t) (name_list g.names) f.items))
    (names f m (subst (λ o. HeldAs h o m) (sym owner) (held t [])) before)

parameters_parted : (one two : List Parameter) (items : List Item)
    → declared_parameters (one ++ two) items ≡ declared_parameters two (declared_parameters one items)
parameters_parted [] two items = refl
parameters_parted (p ∷ more) two items = parameters_parted more two (record { letters = p.letters; means = parameter_means p } ∷ items)

pub no_parameters : (a : Code) → ParametersLaidOut a a []
no_parameters a known f owner before = before

pub parameters_then : (a b c : Code) (g : ℕ × ParameterGroup) (more : List (ℕ × ParameterGroup))
    → ((scope : Scope) (f : Frame) → seen_owner a.owner ≡ OfRoutine → HoldsFrame a f
    → HoldsFrame b (with_items f (declared_parameters (group_parameters scope g.1) f.items)))
    → b.owner ≡ a.owner → ParametersLaidOut b c more → ParametersLaidOut a c (g ∷ more)
parameters_then a b c g more first same later known f owner before =
    let these = group_parameters (scope_of f.items known) g.1 in
    let own = declared_parameters these f.items in
    subst (λ (items : List Item). HoldsFrame c (with_items f items)) (sym (parameters_parted these (parameters_after own known more) f.items))
    (later known (with_items f own) (ap seen_owner same ∙ owner) (first (scope_of f.items known) f owner before))
