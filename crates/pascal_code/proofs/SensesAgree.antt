-- What a name is to the code is what it means, with a first word.
use Rattle.std.proofs.Common.{◌≡◌, ℕ, Bool, true, false, List, [], ◌∷◌, Option, Some, None, refl, ap, ◌∙◌}
use Rattle.std.specs.Prelude.{bytes_eq, if◌then◌else◌}
use Rattle.pascal_tree.specs.declared.constant.Constant.{Constant}
use Rattle.pascal_tree.specs.declared.constant.Constant.TheVariants as constant
use Rattle.pascal_mean.specs.Means.{Means}
use Rattle.pascal_mean.specs.Means as meant
use Rattle.pascal_mean.specs.Predeclared.{Item, predeclared}
use Rattle.pascal_mean.specs.Scope.{Scope, found, first_of_three, scope_of, number_named, constant_number}
use Rattle.pascal_mean.specs.Calls.{passing_named}
use Rattle.pascal_code.specs.Frames.{Frame, place_behind, plain_frame}
use Rattle.pascal_code.specs.Senses.{Sense, AreSenses, sense, sense_among, sense_in, first_sense, names_in, number_of, constant_value}
use Rattle.pascal_code.specs.Calls.{passing_of}

-- the same declaration was found, or none
abbrev pub Alike : Option Means → Option Sense → Type 0
Alike None None = Unit {0}
Alike (Some m) (Some s) = (a : ℕ) × (s ≡ sense m a)
Alike None (Some s) = ⊥
Alike (Some m) None = ⊥

alike_if : (is : Bool) (m : Means) (a : ℕ) (o : Option Means) (p : Option Sense) → Alike o p
    → Alike (if is then Some m else o) (if is then Some (sense m a) else p)
alike_if true m a o p h = (a, refl)
alike_if false m a o p h = h

pub alike_among : (f : Frame) (items : List Item) (x : List ℕ) → Alike (found items x) (sense_among f items x)
alike_among f [] x = tt
alike_among f (i ∷ earlier) x =
    alike_if (bytes_eq i.letters x) i.means (place_behind f earlier) (found earlier x) (sense_among f earlier x)
    (alike_among f earlier x)

first_alike : (o1 : Option Means) (p1 : Option Sense) (o2 : Option Means) (p2 : Option Sense)
    (o3 : Option Means) (p3 : Option Sense) → Alike o1 p1 → Alike o2 p2 → Alike o3 p3
    → (a : ℕ) × (first_sense p1 p2 p3 ≡ sense (first_of_three o1 o2 o3) a)
first_alike (Some m) (Some s) o2 p2 o3 p3 h i j = h
first_alike (Some m) None o2 p2 o3 p3 h i j = absurd h
first_alike None (Some s) o2 p2 o3 p3 h i j = absurd h
first_alike None None (Some m) (Some s) o3 p3 h i j = i
first_alike None None (Some m) None o3 p3 h i j = absurd i
first_alike None None None (Some s) o3 p3 h i j = absurd i
first_alike None None None None (Some m) (Some s) h i j = j
first_alike None None None None (Some m) None h i j = absurd j
first_alike None None None None None (Some s) h i j = absurd j
first_alike None None None None None None h i j = (0, refl)

pub names_are_senses : (own program : Frame) → AreSenses (scope_of own.items program.items) (names_in own program)
names_are_senses own program x =
    first_alike (found own.items x) (sense_in own x) (found program.items x) (sense_in program x)
    (found predeclared x) (sense_in (plain_frame predeclared) x)
    (alike_among own own.items x) (alike_among program program.items x)
    (alike_among (plain_frame predeclared) predeclared x)

-- arguments are passed alike
pub passing_alike : (m : Means) (a : ℕ) → passing_of (sense m a) ≡ passing_named m
passing_alike (meant.Constant t v) a = refl
passing_alike (meant.Variable owner t) a = refl
passing_alike (meant.Array owner t bounds) a = refl
passing_alike (meant.Reference t) a = refl
passing_alike (meant.Routine k signature) a = refl
passing_alike (meant.Function f) a = refl
passing_alike (meant.Interface p) a = refl
passing_alike (meant.TypeName t) a = refl
passing_alike meant.Nothing a = refl

-- ---- Constants

number_alike : (m : Means) (a : ℕ) → number_of (sense m a) ≡ number_named m
number_alike (meant.Constant t v) a = refl
number_alike (meant.Variable owner t) a = refl
number_alike (meant.Array owner t bounds) a = refl
number_alike (meant.Reference t) a = refl
number_alike (meant.Routine k signature) a = refl
number_alike (meant.Function f) a = refl
number_alike (meant.Interface p) a = refl
number_alike (meant.TypeName t) a = refl
number_alike meant.Nothing a = refl

-- a constant stands for the number that it means
pub constants_alike : (scope : Scope) (names : List ℕ → Sense) → AreSenses scope names → (c : Constant)
    → constant_value names c ≡ constant_number scope c
constants_alike scope names are (constant.Name n) =
    ap number_of (are n.letters).1 ∙ number_alike (scope n.letters) (are n.letters).0
constants_alike scope names are (constant.Number n) = refl
constants_alike scope names are (constant.Negative line n) = refl
constants_alike scope names are (constant.Character c) = refl
