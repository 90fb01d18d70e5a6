-- A name that is loaded, set, or passed on.
use Rattle.std.proofs.Common.{◌≡◌, ℕ, ◌+◌, ◌<◌, Some, List, ◌∷◌, length, ℤ, pos, refl, sym, ◌∙◌, ap, subst, arith}
use Rattle.std.proofs.lemmas.Option.{slice_get_within}
use Rattle.std.specs.Prelude.{slice_get}
use Rattle.solo_base.specs.declared.system_call.SysReply.{SysReply}
use Rattle.stack_code.specs.declared.table.Op.TheVariants as op
use Rattle.stack_code.specs.CodeLists.{CodeLists}
use Rattle.stack_machine.specs.Activations.{words_from}
use Rattle.pascal_mean.specs.Means.{Means, Owner, OfProgram, OfRoutine, Bounds}
use Rattle.pascal_mean.specs.Means as meant
use Rattle.pascal_mean.specs.Scope.{Scope}
use Rattle.pascal_mean.specs.Situation.{Situation, Place}
use Rattle.pascal_mean.specs.Variables.{map_at, owner_number, place_named, value_at, stored}
use Rattle.pascal_code.specs.Senses.{Sense, sense, Constant, Variable, Array, Reference, Routine, Function, Interface, Nothing, Site}
use Rattle.pascal_code.specs.Instructions.{with_a, load_word}
use Rattle.pascal_code.specs.Names.{store_code, reference_code}
use Rattle.code_law.specs.Ties.{IsReferred}
use Rattle.code_law.specs.Arguments.{IsAlias}
use Rattle.code_law.specs.Named.{Named}
use Rattle.code_law.specs.Suits.{IsScalar}
use Rattle.code_law.proofs.Standing.{Stand}
use Rattle.code_law.proofs.Here.{Fixed, own_number, Here}
use Rattle.code_law.proofs.Loads.{word_of, own_words, word_loaded, referred, reference_loaded, own_reference, named_word}
use Rattle.code_law.proofs.Stores.{variable_stored, reference_stored}

-- what is set where a name's code sets it, whatever happened since
abbrev pub IsPlace : Fixed → List ℕ → Sense → Place → Type 0
IsPlace f x (Variable o a) at = at ≡ record { activation = owner_number o (own_number f); letters = x }
IsPlace f x (Reference a) at = at ≡ f.references (own_number f) x
IsPlace f x (Constant v) at = ⊥
IsPlace f x (Array o a b) at = ⊥
IsPlace f x (Routine k passing) at = ⊥
IsPlace f x (Function g) at = ⊥
IsPlace f x (Interface g) at = ⊥
IsPlace f x Nothing at = ⊥

-- the two words of a variable stand on top
pub record PassedOn (c : CodeLists) (limit : ℕ) (all : List SysReply) (f : Fixed) (q : ℕ) (operands : List ℤ) (at : Place) (now : Situation) : Type 0 where
  pub one : ℤ
  pub two : ℤ
  pub alias : IsAlias f.frames (length f.frames) at one two
  pub here : Here c limit all f q (two ∷ one ∷ operands) now

module _ {c : CodeLists} {limit : ℕ} {all : List SysReply} {f : Fixed} {site : Site} {scope : Scope} (names : Named f.frames (own_number f) site scope) where
  own_low : {p : ℕ} {operands : List ℤ} {now : Situation} → Here c limit all f p operands now → own_number f < length f.frames
  own_low h = slice_get_within f.frames (own_number f) names.frame names.own_at

  -- the place that a VAR parameter names stays
  reference_stays : {p : ℕ} {operands : List ℤ} {now : Situation} → Here c limit all f p operands now → (x : List ℕ)
      → (map_at now.maps (own_number f)).references x ≡ f.references (own_number f) x
  reference_stays h x = ap (λ (r : List ℕ → Place). r x) (h.named (own_number f) (own_low h))

  pub reference_words : {p : ℕ} {operands : List ℤ} {now : Situation} (h : Here c limit all f p operands now) (x : List ℕ) (a : ℕ) → site.names x ≡ Reference a
      → IsReferred f.frames (own_number f) h.words a (f.references (own_number f) x)
  reference_words h x a is =
      subst (IsReferred f.frames (own_number f) h.words a) (reference_stays h x) (own_reference h names.frame x a names.own_at (names.references x a is))

  -- ---- Loads
  pub variable_loaded : (x : List ℕ) (o : Owner) (t : meant.Scalar) (a p : ℕ) (operands : List ℤ) (now : Situation) → site.names x ≡ Variable o a
      → slice_get c.instrs p ≡ Some (load_word o a) → Here c limit all f p operands now
      → Here c limit all f (p + 1) (value_at (place_named (meant.Variable o t) (own_number f) x now) now ∷ operands) now
  variable_loaded x o t a p operands now is found h =
      let has = names.variables x o a is in
      word_loaded o p operands now a _ h found (word_of h (owner_number o (own_number f)) has.frame x has.owner a has.frame_is has.is)

  pub parameter_loaded : (x : List ℕ) (t : meant.Scalar) (a p : ℕ) (operands : List ℤ) (now : Situation) → site.names x ≡ Reference a
      → slice_get c.instrs p ≡ Some (with_a op.LoadR a) → Here c limit all f p operands now
      → Here c limit all f (p + 1) (value_at (place_named (meant.Reference t) (own_number f) x now) now ∷ operands) now
  parameter_loaded x t a p operands now is found h =
      let at = own_reference h names.frame x a names.own_at (names.references x a is) in
      reference_loaded p operands now a ((map_at now.maps (own_number f)).references x) _ h found at
      (named_word h a ((map_at now.maps (own_number f)).references x) at)

  -- ---- Places that are set
  pub place_stored : (x : List ℕ) (s : Sense) (at : Place) (p q : ℕ) (v : ℤ) (rest : List ℤ) (now : Situation) → site.names x ≡ s → IsPlace f x s at
      → Stand c p (store_code site.result s) q → Here c limit all f p (v ∷ rest) now
      → Here c limit all f q rest (stored at v now)
  place_stored x (Variable o a) at p q v rest now is place stand h =
      let has = names.variables x o a is in
      subst (λ m. Here c limit all f m rest (stored at v now)) stand.1
      (subst (λ (w : Place). Here c limit all f (p + 1) rest (stored w v now)) (sym place)
      (variable_stored o p v rest now a x has.owner has.frame h has.frame_is has.is stand.0))
  place_stored x (Reference a) at p q v rest now is place stand h =
      subst (λ m. Here c limit all f m rest (stored at v now)) stand.1
      (reference_stored p v rest now a at h (subst (IsReferred f.frames (own_number f) h.words a) (sym place) (reference_words h x a is)) stand.0)
  place_stored x (Constant w) at p q v rest now is place stand h = absurd place
  place_stored x (Array o a b) at p q v rest now is place stand h = absurd place
  place_stored x (Routine k passing) at p q v rest now is place stand h = absurd place
  place_stored x (Function g) at p q v rest now is place stand h = absurd place
  place_stored x (Interface g) at p q v rest now is place stand h = absurd place
  place_stored x Nothing at p q v rest now is place stand h = absurd place

  -- the place of a scalar name
  pub place_is : {p : ℕ} {operands : List ℤ} {now : Situation} → Here c limit all f p operands now → (x : List ℕ) (m : Means) (a : ℕ) → IsScalar (sense m a)
      → IsPlace f x (sense m a) (place_named m (own_number f) x now)
  place_is h x (meant.Variable o t) a scalar = refl
  place_is h x (meant.Reference t) a scalar = reference_stays h x
  place_is h x (meant.Constant t v) a scalar = absurd scalar
  place_is h x (meant.Array o t b) a scalar = absurd scalar
  place_is h x (meant.Routine k s) a scalar = absurd scalar
  place_is h x (meant.Function g) a scalar = absurd scalar
  place_is h x (meant.Interface g) a scalar = absurd scalar
  place_is h x (meant.TypeName t) a scalar = absurd scalar
  place_is h x meant.Nothing a scalar = absurd scalar

  -- ---- A variable that is passed on to a routine
  low_number : {p : ℕ} {operands : List ℤ} {now : Situation} → Here c limit all f p operands now → (o : Owner) → owner_number o (own_number f) < length f.frames
  low_number h OfProgram = let own = own_low h in omega (arith, own)
  low_number h OfRoutine = own_low h

  pub passed_on : (x : List ℕ) (m : Means) (a p q : ℕ) (operands : List ℤ) (now : Situation) → site.names x ≡ sense m a → IsScalar (sense m a)
      → Stand c p (reference_code (sense m a)) q → Here c limit all f p operands now
      → PassedOn c limit all f q operands (place_named m (own_number f) x now) now
  passed_on x (meant.Variable o t) a p q operands now is scalar stand h =
      let has = names.variables x o a is in
      record {
        one = pos (owner_number o (own_number f));
        two = pos a;
        alias = record {
          below = low_number h o;
          first = refl;
          frame = has.frame;
          frame_is = has.frame_is;
          owner = has.owner;
          word = a;
          is = has.is;
          second =
              refl;
        };
        here = subst (λ m. Here c limit all f m (pos a ∷ pos (owner_number o (own_number f)) ∷ operands) now) stand.1
            (referred o p operands now a has.small h stand.0);
      }
  passed_on x (meant.Reference t) a p q operands now is scalar stand h =
      let at = (map_at now.maps (own_number f)).references x in
      let r = own_reference h names.frame x a names.own_at (names.references x a is) in
      let number : slice_get (words_from h.below h.words (own_number f)) a ≡ Some (pos at.activation) =
      ap (λ (w : List ℤ). slice_get w a) (own_words h) ∙ r.numbered in
      let first : Here c limit all f (p + 1) (pos at.activation ∷ operands) now = word_loaded OfRoutine p operands now a (pos at.activation) h stand.0 number in
      let again = own_reference first names.frame x a names.own_at (names.references x a is) in
      let word : slice_get (words_from first.below first.words (own_number f)) (a + 1) ≡ Some (pos again.word) =
      ap (λ (w : List ℤ). slice_get w (a + 1)) (own_words first) ∙ again.placed in
      record {
        one = pos at.activation;
        two = pos again.word;
        alias = record {
          below = omega (arith, again.below, slice_get_within f.frames (own_number f) names.frame names.own_at);
          first = refl;
          frame =
              again.frame;
          frame_is = again.frame_is;
          owner = again.owner;
          word = again.word;
          is = again.is;
          second = refl;
        };
        here = subst (λ m. Here c limit all f m (pos again.word ∷ pos at.activation ∷ operands) now) stand.1.1
            (word_loaded OfRoutine (p + 1) (pos at.activation ∷ operands) now (a + 1) (pos again.word) first stand.1.0 word);
      }
  passed_on x (meant.Constant t v) a p q operands now is scalar stand h = absurd scalar
  passed_on x (meant.Array o t b) a p q operands now is scalar stand h = absurd scalar
  passed_on x (meant.Routine k s) a p q operands now is scalar stand h = absurd scalar
  passed_on x (meant.Function g) a p q operands now is scalar stand h = absurd scalar
  passed_on x (meant.Interface g) a p q operands now is scalar stand h = absurd scalar
  passed_on x (meant.TypeName t) a p q operands now is scalar stand h = absurd scalar
  passed_on x meant.Nothing a p q operands now is scalar stand h = absurd scalar
