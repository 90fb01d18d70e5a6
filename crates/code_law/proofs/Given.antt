-- Arguments as they are given, and the words that stand for them.
use Rattle.std.proofs.Common.{◌≡◌, ℕ, ◌+◌, Bool, true, false, List, [], ◌∷◌, ◌++◌, length, map, ℤ, refl, sym, ◌∙◌, ap, subst, arith}
use Rattle.std.specs.Prelude.{if◌then◌else◌}
use Rattle.solo_base.specs.declared.interface.Procedure.{Procedure}
use Rattle.solo_base.specs.declared.interface.Procedure.TheVariants as row
use Rattle.solo_base.specs.declared.system_call.SysReply.{SysReply}
use Rattle.solo_base.specs.Interface.{call_row_of}
use Rattle.stack_code.specs.declared.instr.Instr.{Instr}
use Rattle.stack_code.specs.CodeLists.{CodeLists}
use Rattle.pascal_mean.specs.Means.{Means, Owner, Bounds, Parameter}
use Rattle.pascal_mean.specs.Means as meant
use Rattle.pascal_mean.specs.Scope.{Scope}
use Rattle.pascal_mean.specs.Situation.{Situation, Place, Part}
use Rattle.pascal_mean.specs.Variables.{owner_number, place_named, ArrayPlace, array_named, size_of}
use Rattle.pascal_mean.specs.Calls.{Passing, ByValue, ByVariable, ByArray, Given, Value, Alias, Elements, passed, row_passing, values_in, variables_in, arrays_in}
use Rattle.pascal_mean.specs.Calls as mean
use Rattle.pascal_code.specs.Senses.{Sense, sense, Constant, Variable, Array, Reference, Routine, Function, Interface, Nothing, Site}
use Rattle.pascal_code.specs.Calls.{passed_code, variables_among, arrays_among}
use Rattle.code_law.specs.Arguments.{IsAlias, AreWords, Suits, Suit}
use Rattle.code_law.specs.Named.{Named}
use Rattle.code_law.specs.Suits.{IsScalar, IsArrayOf, array_size, CanPass, variable_count}
use Rattle.code_law.proofs.Standing.{Stand}
use Rattle.code_law.proofs.Here.{Fixed, own_number, Here, After, after}
use Rattle.code_law.proofs.Opening.{on_top}
use Rattle.code_law.proofs.Variables.{IsPlace, place_is, passed_on}

-- ---- One argument

-- a variable that a routine gets is two words, and one that a row sets has none
abbrev pub IsVariable : Fixed → Sense → List ℕ → Sense → Place → List ℤ → Type 0
IsVariable f (Routine k passing) x s at words = (one : ℤ) × ((two : ℤ) × ((words ≡ one ∷ two ∷ []) × IsAlias f.frames (length f.frames) at one two))
IsVariable f (Interface p) x s at words = (words ≡ []) × IsPlace f x s at
IsVariable f (Function g) x s at words = ⊥
IsVariable f (Constant v) x s at words = ⊥
IsVariable f (Variable o a) x s at words = ⊥
IsVariable f (Array o a b) x s at words = ⊥
IsVariable f (Reference a) x s at words = ⊥
IsVariable f Nothing x s at words = ⊥

abbrev pub IsWhole : Fixed → ℕ → List ℕ → Sense → ArrayPlace → Type 0
IsWhole f size x (Array o a b) e = (e ≡ record { activation = owner_number o (own_number f); letters = x; bounds = b }) × (size_of b ≡ size)
IsWhole f size x (Constant v) e = ⊥
IsWhole f size x (Variable o a) e = ⊥
IsWhole f size x (Reference a) e = ⊥
IsWhole f size x (Routine k passing) e = ⊥
IsWhole f size x (Function g) e = ⊥
IsWhole f size x (Interface p) e = ⊥
IsWhole f size x Nothing e = ⊥

abbrev pub IsGiven : Fixed → Sense → Passing → List ℕ → Sense → Given → List ℤ → Type 0
IsGiven f callee ByValue x s (Value v) words = words ≡ v ∷ []
IsGiven f callee ByVariable x s (Alias at) words = IsVariable f callee x s at words
IsGiven f callee ByArray x s (Elements e) words = (words ≡ []) × IsWhole f (array_size callee) x s e
IsGiven f callee by x s given words = ⊥

pub record OneGiven (c : CodeLists) (limit : ℕ) (all : List SysReply) (f : Fixed) (callee : Sense) (by : Passing) (x : List ℕ) (s : Sense) (q : ℕ)
    (rest : List ℤ) (given : Given) (now : Situation) : Type 0 where
  pub words : List ℤ
  pub is : IsGiven f callee by x s given words
  pub here : Here c limit all f q (on_top words rest) now

array_is : (f : Fixed) (size : ℕ) (x : List ℕ) (m : Means) (a : ℕ) → IsArrayOf size (sense m a) → IsWhole f size x (sense m a) (array_named m (own_number f) x)
array_is f size x (meant.Array o t b) a can = (refl, can)
array_is f size x (meant.Constant t v) a can = absurd can
array_is f size x (meant.Variable o t) a can = absurd can
array_is f size x (meant.Reference t) a can = absurd can
array_is f size x (meant.Routine k s) a can = absurd can
array_is f size x (meant.Function g) a can = absurd can
array_is f size x (meant.Interface g) a can = absurd can
array_is f size x (meant.TypeName t) a can = absurd can
array_is f size x meant.Nothing a can = absurd can

module _ {c : CodeLists} {limit : ℕ} {all : List SysReply} {f : Fixed} {site : Site} {scope : Scope} (names : Named f.frames (own_number f) site scope) where
  variable_given : (callee : Sense) (x : List ℕ) (m : Means) (a p q : ℕ) (rest : List ℤ) (now : Situation) (code : List Instr) → site.names x ≡ sense m a
      → CanPass callee ByVariable (sense m a) (Unit {0}) → Stand c p (passed_code callee ByVariable (sense m a) code) q → Here c limit all f p rest now
      → OneGiven c limit all f callee ByVariable x (sense m a) q rest (Alias (place_named m (own_number f) x now)) now
  variable_given (Routine k passing) x m a p q rest now code is can stand h =
      let on = passed_on names x m a p q rest now is can.1 stand h in
      record { words = on.one ∷ on.two ∷ []; is = (on.one, (on.two, (refl, on.alias))); here = on.here }
  variable_given (Interface g) x m a p q rest now code is can stand h =
      record { words = []; is = (refl, place_is names h x m a can.1); here = subst (λ n. Here c limit all f n rest now) stand h }
  variable_given (Function g) x m a p q rest now code is can stand h = absurd can.0
  variable_given (Constant v) x m a p q rest now code is can stand h = absurd can.0
  variable_given (Variable o b) x m a p q rest now code is can stand h = absurd can.0
  variable_given (Array o b bounds) x m a p q rest now code is can stand h = absurd can.0
  variable_given (Reference b) x m a p q rest now code is can stand h = absurd can.0
  variable_given Nothing x m a p q rest now code is can stand h = absurd can.0

  -- an argument whose code, where it is a value, gives it
  pub one_given : (callee : Sense) (by : Passing) (x : List ℕ) (p q : ℕ) (rest : List ℤ) (now : Situation) (value : Part ℤ) (code : List Instr)
      (SuitsIt : Type 0)
      → ((m : ℕ) → SuitsIt → Stand c p code m → Here c limit all f p rest now → After c limit all (λ v n. Here c limit all f m (v ∷ rest) n) (value now))
      → CanPass callee by (site.names x) SuitsIt → Stand c p (passed_code callee by (site.names x) code) q → Here c limit all f p rest now
      → After c limit all (λ g n. OneGiven c limit all f callee by x (site.names x) q rest g n) (passed by (scope x) (own_number f) x value now)
  one_given callee ByValue x p q rest now value code SuitsIt runs can stand h =
      after (value now) _ (runs q can stand h) (λ v n there. record { comes = record { words = v ∷ []; is = refl; here = there } })
  one_given callee ByVariable x p q rest now value code SuitsIt runs can stand h =
      let there = names.senses x in
      record {
        comes = subst (λ s. OneGiven c limit all f callee ByVariable x s q rest (Alias (place_named (scope x) (own_number f) x now)) now) (sym there.1)
            (variable_given callee x (scope x) there.0 p q rest now code there.1 (can.0, subst IsScalar there.1 can.1)
            (subst (λ s. Stand c p (passed_code callee ByVariable s code) q) there.1 stand) h);
      }
  one_given callee ByArray x p q rest now value code SuitsIt runs can stand h =
      let there = names.senses x in
      record {
        comes = record {
          words = [];
          is = (
            refl,
            subst (λ s. IsWhole f (array_size callee) x s (array_named (scope x) (own_number f) x)) (sym there.1)
                (array_is f (array_size callee) x (scope x) there.0 (subst (IsArrayOf (array_size callee)) there.1 can.1)),
          );
          here = subst (λ n. Here c limit all f n rest now) stand h;
        };
      }

-- ---- All arguments, by the names that they are

abbrev pub AreGiven : Fixed → Site → Sense → List Passing → List (List ℕ) → List Given → List (List ℤ) → Type 0
AreGiven f site callee [] [] [] [] = Unit {0}
AreGiven f site callee (by ∷ others) (x ∷ xs) (g ∷ given) (ws ∷ words) = IsGiven f callee by x (site.names x) g ws × AreGiven f site callee others xs given
    words
AreGiven f site callee passing xs given words = ⊥

abbrev pub joined : List (List ℤ) → List ℤ
joined [] = []
joined (ws ∷ more) = ws ++ joined more

pub top_of_both : (first next rest : List ℤ) → on_top (first ++ next) rest ≡ on_top next (on_top first rest)
top_of_both [] next rest = refl
top_of_both (w ∷ first) next rest = top_of_both first next (w ∷ rest)

-- ---- Of a routine
pub routine_words : (f : Fixed) (site : Site) (k : ℕ) (passing : List Passing) → (by : List Passing) (xs : List (List ℕ)) (given : List Given)
    (words : List (List ℤ)) → AreGiven f site (Routine k passing) by xs given words → AreWords f.frames (length f.frames) given (joined words)
routine_words f site k passing [] [] [] [] are = tt
routine_words f site k passing (ByValue ∷ by) (x ∷ xs) (Value v ∷ given) (ws ∷ words) are =
    subst (λ (u : List ℤ). AreWords f.frames (length f.frames) (Value v ∷ given) (u ++ joined words)) (sym are.0)
    (refl, routine_words f site k passing by xs given words are.1)
routine_words f site k passing (ByVariable ∷ by) (x ∷ xs) (Alias at ∷ given) (ws ∷ words) are =
    subst (λ (u : List ℤ). AreWords f.frames (length f.frames) (Alias at ∷ given) (u ++ joined words)) (sym are.0.1.1.0)
    (are.0.1.1.1, routine_words f site k passing by xs given words are.1)
routine_words f site k passing (ByArray ∷ by) (x ∷ xs) (Elements e ∷ given) (ws ∷ words) are = no_elements (site.names x) are.0.1
  where
    no_elements : (s : Sense) → IsWhole f 0 x s e → AreWords f.frames (length f.frames) (Elements e ∷ given) (ws ++ joined words)
    no_elements (Array o a b) is = absurd (omega (arith, is.1))
    no_elements (Constant v) is = absurd is
    no_elements (Variable o a) is = absurd is
    no_elements (Reference a) is = absurd is
    no_elements (Routine j q) is = absurd is
    no_elements (Function g) is = absurd is
    no_elements (Interface q) is = absurd is
    no_elements Nothing is = absurd is
routine_words f site k passing (ByValue ∷ by) (x ∷ xs) (Alias at ∷ given) (ws ∷ words) are = absurd are.0
routine_words f site k passing (ByValue ∷ by) (x ∷ xs) (Elements e ∷ given) (ws ∷ words) are = absurd are.0
routine_words f site k passing (ByVariable ∷ by) (x ∷ xs) (Value v ∷ given) (ws ∷ words) are = absurd are.0
routine_words f site k passing (ByVariable ∷ by) (x ∷ xs) (Elements e ∷ given) (ws ∷ words) are = absurd are.0
routine_words f site k passing (ByArray ∷ by) (x ∷ xs) (Value v ∷ given) (ws ∷ words) are = absurd are.0
routine_words f site k passing (ByArray ∷ by) (x ∷ xs) (Alias at ∷ given) (ws ∷ words) are = absurd are.0
routine_words f site k passing [] [] [] (ws ∷ words) are = absurd are
routine_words f site k passing [] [] (g ∷ given) words are = absurd are
routine_words f site k passing [] (x ∷ xs) given words are = absurd are
routine_words f site k passing (by ∷ others) [] given words are = absurd are
routine_words f site k passing (by ∷ others) (x ∷ xs) [] words are = absurd are
routine_words f site k passing (by ∷ others) (x ∷ xs) (g ∷ given) [] are = absurd are

-- they are as its parameters ask
suits_one : (f : Fixed) (site : Site) (k : ℕ) (passing : List Passing) (p : Parameter) (by : Passing) (x : List ℕ) (g : Given) (words : List ℤ)
    → by ≡ mean.passing_of p → IsGiven f (Routine k passing) by x (site.names x) g words → Suits p g
suits_one f site k passing p ByValue x (Value v) words by is = sym by
suits_one f site k passing p ByVariable x (Alias at) words by is = sym by
suits_one f site k passing p ByArray x (Elements e) words by is = no_array p (sym by)
  where
    no_array : (p : Parameter) → mean.passing_of p ≡ ByArray → ⊥
    no_array p e = by_flag p.is_variable e
      where
        by_flag : (b : Bool) → (if b then ByVariable else ByValue) ≡ ByArray → ⊥
        by_flag true e = cc
        by_flag false e = cc
suits_one f site k passing p ByValue x (Alias at) words by is = absurd is
suits_one f site k passing p ByValue x (Elements e) words by is = absurd is
suits_one f site k passing p ByVariable x (Value v) words by is = absurd is
suits_one f site k passing p ByVariable x (Elements e) words by is = absurd is
suits_one f site k passing p ByArray x (Value v) words by is = absurd is
suits_one f site k passing p ByArray x (Alias at) words by is = absurd is

first_passing : (by by' : Passing) (more more' : List Passing) → by ∷ more ≡ by' ∷ more' → (by ≡ by') × (more ≡ more')
first_passing by by' more more' e = (cc, cc)

none_passing : (by : Passing) (more : List Passing) → [] ≡ by ∷ more → ⊥
none_passing by more e = cc

pub routine_suits : (f : Fixed) (site : Site) (k : ℕ) (passing : List Passing) → (parameters : List Parameter) (by : List Passing) (xs : List (List ℕ))
    (given : List Given) (words : List (List ℤ)) → by ≡ map mean.passing_of parameters
    → AreGiven f site (Routine k passing) by xs given words → Suit parameters given
routine_suits f site k passing [] [] [] [] [] same are = tt
routine_suits f site k passing (p ∷ parameters) (by ∷ others) (x ∷ xs) (g ∷ given) (ws ∷ words) same are =
    let parts = first_passing by (mean.passing_of p) others (map mean.passing_of parameters) same in
    (suits_one f site k passing p by x g ws parts.0 are.0, routine_suits f site k passing parameters others xs given words parts.1 are.1)
routine_suits f site k passing [] (by ∷ others) xs given words same are = absurd (none_passing by others (sym same))
routine_suits f site k passing (p ∷ parameters) [] xs given words same are = absurd (none_passing (mean.passing_of p) (map mean.passing_of parameters) same)
routine_suits f site k passing [] [] [] [] (ws ∷ words) same are = absurd are
routine_suits f site k passing [] [] [] (g ∷ given) words same are = absurd are
routine_suits f site k passing [] [] (x ∷ xs) given words same are = absurd are
routine_suits f site k passing (p ∷ parameters) (by ∷ others) [] given words same are = absurd are
routine_suits f site k passing (p ∷ parameters) (by ∷ others) (x ∷ xs) [] words same are = absurd are
routine_suits f site k passing (p ∷ parameters) (by ∷ others) (x ∷ xs) (g ∷ given) [] same are = absurd are

-- ---- Of a row

-- the places of its variables, and its arrays, each beside the sense that its name has
abbrev pub ArePlaces : Fixed → List (List ℕ) → List Sense → List Place → Type 0
ArePlaces f [] [] [] = Unit {0}
ArePlaces f (x ∷ xs) (s ∷ senses) (at ∷ places) = IsPlace f x s at × ArePlaces f xs senses places
ArePlaces f xs senses places = ⊥

abbrev pub AreWhole : Fixed → ℕ → List (List ℕ) → List Sense → List ArrayPlace → Type 0
AreWhole f size [] [] [] = Unit {0}
AreWhole f size (x ∷ xs) (s ∷ senses) (e ∷ arrays) = IsWhole f size x s e × AreWhole f size xs senses arrays
AreWhole f size xs senses arrays = ⊥

-- the names that are passed so
abbrev pub variable_names : List Passing → List (List ℕ) → List (List ℕ)
variable_names [] xs = []
variable_names (by ∷ others) [] = []
variable_names (ByValue ∷ others) (x ∷ xs) = variable_names others xs
variable_names (ByVariable ∷ others) (x ∷ xs) = x ∷ variable_names others xs
variable_names (ByArray ∷ others) (x ∷ xs) = variable_names others xs

abbrev pub array_names : List Passing → List (List ℕ) → List (List ℕ)
array_names [] xs = []
array_names (by ∷ others) [] = []
array_names (ByValue ∷ others) (x ∷ xs) = array_names others xs
array_names (ByVariable ∷ others) (x ∷ xs) = array_names others xs
array_names (ByArray ∷ others) (x ∷ xs) = x ∷ array_names others xs

abbrev pub value_count : List Passing → ℕ
value_count [] = 0
value_count (ByValue ∷ more) = value_count more + 1
value_count (ByVariable ∷ more) = value_count more
value_count (ByArray ∷ more) = value_count more

abbrev pub array_count : List Passing → ℕ
array_count [] = 0
array_count (ByValue ∷ more) = array_count more
array_count (ByVariable ∷ more) = array_count more
array_count (ByArray ∷ more) = array_count more + 1

pub record IsRowGiven (f : Fixed) (site : Site) (p : Procedure) (by : List Passing) (xs : List (List ℕ)) (given : List Given)
    (words : List (List ℤ)) : Type 0 where
  pub values : joined words ≡ values_in given
  pub value_count_is : length (values_in given) ≡ value_count by
  pub variable_count_is : length (variables_in given) ≡ variable_count by
  pub array_count_is : length (arrays_in given) ≡ array_count by
  pub places : ArePlaces f (variable_names by xs) (variables_among by (map site.names xs)) (variables_in given)
  pub wholes : AreWhole f (call_row_of p).array (array_names by xs) (arrays_among by (map site.names xs)) (arrays_in given)

pub row_given : (f : Fixed) (site : Site) (p : Procedure) (by : List Passing) (xs : List (List ℕ)) (given : List Given) (words : List (List ℤ))
    → AreGiven f site (Interface p) by xs given words → IsRowGiven f site p by xs given words
row_given f site p [] [] [] [] are = record { values = refl; value_count_is = refl; variable_count_is = refl; array_count_is = refl; places = tt; wholes = tt }
row_given f site p (ByValue ∷ by) (x ∷ xs) (Value v ∷ given) (ws ∷ words) are =
    let more = row_given f site p by xs given words are.1 in
    record {
      values = ap (λ (u : List ℤ). u ++ joined words) are.0 ∙ ap (λ (u : List ℤ). v ∷ u) more.values;
      value_count_is = omega (arith, more.value_count_is);
      variable_count_is = more.variable_count_is;
      array_count_is = more.array_count_is;
      places = more.places;
      wholes = more.wholes;
    }
row_given f site p (ByVariable ∷ by) (x ∷ xs) (Alias at ∷ given) (ws ∷ words) are =
    let more = row_given f site p by xs given words are.1 in
    record {
      values = ap (λ (u : List ℤ). u ++ joined words) are.0.0 ∙ more.values;
      value_count_is = more.value_count_is;
      variable_count_is = omega (arith, more.variable_count_is);
      array_count_is = more.array_count_is;
      places = (are.0.1, more.places);
      wholes = more.wholes;
    }
row_given f site p (ByArray ∷ by) (x ∷ xs) (Elements e ∷ given) (ws ∷ words) are =
    let more = row_given f site p by xs given words are.1 in
    record {
      values = ap (λ (u : List ℤ). u ++ joined words) are.0.0 ∙ more.values;
      value_count_is = more.value_count_is;
      variable_count_is = more.variable_count_is;
      array_count_is = omega (arith, more.array_count_is);
      places = more.places;
      wholes = (are.0.1, more.wholes);
    }
row_given f site p (ByValue ∷ by) (x ∷ xs) (Alias at ∷ given) (ws ∷ words) are = absurd are.0
row_given f site p (ByValue ∷ by) (x ∷ xs) (Elements e ∷ given) (ws ∷ words) are = absurd are.0
row_given f site p (ByVariable ∷ by) (x ∷ xs) (Value v ∷ given) (ws ∷ words) are = absurd are.0
row_given f site p (ByVariable ∷ by) (x ∷ xs) (Elements e ∷ given) (ws ∷ words) are = absurd are.0
row_given f site p (ByArray ∷ by) (x ∷ xs) (Value v ∷ given) (ws ∷ words) are = absurd are.0
row_given f site p (ByArray ∷ by) (x ∷ xs) (Alias at ∷ given) (ws ∷ words) are = absurd are.0
row_given f site p [] [] [] (ws ∷ words) are = absurd are
row_given f site p [] [] (g ∷ given) words are = absurd are
row_given f site p [] (x ∷ xs) given words are = absurd are
row_given f site p (by ∷ others) [] given words are = absurd are
row_given f site p (by ∷ others) (x ∷ xs) [] words are = absurd are
row_given f site p (by ∷ others) (x ∷ xs) (g ∷ given) [] are = absurd are

-- the values that a row takes, and whether it has an array
pub row_values : (p : Procedure) → value_count (row_passing p) ≡ (call_row_of p).values
row_values row.Read = refl
row_values row.Write = refl
row_values row.WriteInt = refl
row_values row.Accept = refl
row_values row.Display = refl
row_values row.Open = refl
row_values row.Close = refl
row_values row.Get = refl
row_values row.Put = refl
row_values row.Length = refl
row_values row.Lookup = refl
row_values row.ReadArg = refl
row_values row.WriteArg = refl
row_values row.Run = refl

pub row_array : (p : Procedure) → 0 ≡ array_count (row_passing p) → (call_row_of p).array ≡ 0
row_array row.Read none = refl
row_array row.Write none = refl
row_array row.WriteInt none = refl
row_array row.Accept none = refl
row_array row.Display none = refl
row_array row.Close none = refl
row_array row.Length none = refl
row_array row.Open none = absurd (omega (arith, none))
row_array row.Get none = absurd (omega (arith, none))
row_array row.Put none = absurd (omega (arith, none))
row_array row.Lookup none = absurd (omega (arith, none))
row_array row.ReadArg none = absurd (omega (arith, none))
row_array row.WriteArg none = absurd (omega (arith, none))
row_array row.Run none = absurd (omega (arith, none))
