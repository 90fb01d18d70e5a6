-- A line more behind what a paper gained.
use Rattle.std.proofs.Common.{◌≡◌, ℕ, List, [], ◌∷◌, ◌++◌, Option, Some, refl, sym, ◌∙◌, ap, subst, append_assoc, append-nil}
use Rattle.solo_base.specs.Text.{text, line_text}
use Rattle.solo_devices.specs.PrinterUnit.{Gains, GainsOf}

pub text-append : (lines more : List (List ℕ)) → text (lines ++ more) ≡ text lines ++ text more
text-append [] more = refl
text-append (line ∷ lines) more = ap (λ bytes. line_text line ++ bytes) (text-append lines more) ∙ sym (append_assoc (line_text line) (text lines) (text more))

text-one : (lines : List (List ℕ)) (line : List ℕ) → text (lines ++ line ∷ []) ≡ text lines ++ line_text line
text-one lines line = text-append lines (line ∷ []) ∙ ap (λ bytes. text lines ++ bytes) (append-nil (line_text line))

module _ (before mid now : Option (List ℕ)) (lines : List (List ℕ)) (line : List ℕ) (first all : Type 0) where
  second-of : (given : List ℕ) → first → GainsOf given mid (text lines) first
      → ((given : List ℕ) → mid ≡ Some given → GainsOf given now (line_text line) all) → GainsOf given now (text (lines ++ line ∷ [])) all
  second-of given is one told =
      let two : GainsOf (given ++ one.part) now (line_text line) all = told (given ++ one.part) one.now_is in
      record {
        part = text lines ++ two.part;
        now_is = two.now_is ∙ ap Some (append_assoc given one.part two.part ∙ ap (λ front. given ++ (front ++ two.part)) (one.all_is is));
        prefix = record {
          rest = two.prefix.rest;
          whole_is = append_assoc (text lines) two.part two.prefix.rest ∙ ap (λ more. text lines ++ more) two.prefix.whole_is ∙ sym (text-one lines line);
        };
        all_is = λ all. ap (λ more. text lines ++ more) (two.all_is all) ∙ sym (text-one lines line);
      }

  pub both : first → Gains before mid (text lines) first → Gains mid now (line_text line) all → Gains before now (text (lines ++ line ∷ [])) all
  both is one two = record {
    told = λ given told. second-of given is (one.told given told) two.told;
    untold = λ none. two.untold (one.untold none);
  }

module _ (before now : Option (List ℕ)) (lines : List (List ℕ)) (line : List ℕ) (all : Type 0) where
  short-of : (given : List ℕ) → (all → ⊥) → GainsOf given now (text lines) all → GainsOf given now (text (lines ++ line ∷ [])) all
  short-of given never one = record {
    part = one.part;
    now_is = one.now_is;
    prefix = record {
      rest = one.prefix.rest ++ line_text line;
      whole_is = sym (append_assoc one.part one.prefix.rest (line_text line)) ∙ ap (λ front. front ++ line_text line) one.prefix.whole_is
          ∙ sym (text-one lines line);
    };
    all_is = λ all. absurd (never all);
  }

  pub without : (all → ⊥) → Gains before now (text lines) all → Gains before now (text (lines ++ line ∷ [])) all
  without never one = record {
    told = λ given told. short-of given never (one.told given told);
    untold = one.untold;
  }

-- nothing is gained
pub nothing : (given : Option (List ℕ)) (whole : List ℕ) (all : Type 0) → (all → ⊥) → Gains given given whole all
nothing given whole all never = record {
  told = λ bytes told. record {
    part = [];
    now_is = told ∙ ap Some (sym (append-nil bytes));
    prefix = record { rest = whole; whole_is = refl };
    all_is = λ all. absurd (never all);
  };
  untold = λ none. none;
}

-- the same said of equals, where more asks for all
pub gains-same : (before before' now now' : Option (List ℕ)) (whole whole' : List ℕ) (all other : Type 0)
    → before ≡ before' → now ≡ now' → whole ≡ whole' → (other → all) → Gains before now whole all → Gains before' now' whole' other
gains-same before before' now now' whole whole' all other b n w change gains =
    subst (λ b. Gains b now' whole' other) b (subst (λ n. Gains before n whole' other) n (subst (λ w. Gains before now w other) w record {
      told = λ given told. record {
        part = (gains.told given told).part;
        now_is = (gains.told given told).now_is;
        prefix = (gains.told given told).prefix;
        all_is = λ more. (gains.told given told).all_is (change more);
      };
      untold = gains.untold;
    }))
