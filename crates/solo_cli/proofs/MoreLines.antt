-- What a paper gains of lines that are printed one by one.
use Rattle.std.proofs.Common.{◌≡◌, ℕ, List, ◌∷◌, ◌++◌, Option, Some, sym, ◌∙◌, ap, append_assoc}
use Rattle.solo_base.specs.Text.{text, line_text}
use Rattle.solo_devices.specs.PrinterUnit.{Gains, GainsOf}

module _ (before mid now : Option (List ℕ)) (line : List ℕ) (lines : List (List ℕ)) (first all : Type 0) where
  on : (given : List ℕ) → first → GainsOf given mid (line_text line) first
      → ((given : List ℕ) → mid ≡ Some given → GainsOf given now (text lines) all) → GainsOf given now (text (line ∷ lines)) all
  on given is one later =
      let two = later (given ++ one.part) one.now_is in
      record {
        part = line_text line ++ two.part;
        now_is = two.now_is ∙ ap Some (append_assoc given one.part two.part ∙ ap (λ front. given ++ (front ++ two.part)) (one.all_is is));
        prefix = record {
          rest = two.prefix.rest;
          whole_is = append_assoc (line_text line) two.part two.prefix.rest ∙ ap (λ more. line_text line ++ more) two.prefix.whole_is;
        };
        all_is = λ all. ap (λ more. line_text line ++ more) (two.all_is all);
      }

  -- the first line, and then the others
  pub then_others : first → Gains before mid (line_text line) first → Gains mid now (text lines) all → Gains before now (text (line ∷ lines)) all
  then_others is one two = record {
    told = λ given told. on given is (one.told given told) two.told;
    untold = λ none. two.untold (one.untold none);
  }

module _ (before now : Option (List ℕ)) (line : List ℕ) (lines : List (List ℕ)) (first all : Type 0) where
  short : (given : List ℕ) → (all → ⊥) → GainsOf given now (line_text line) first → GainsOf given now (text (line ∷ lines)) all
  short given never one = record {
    part = one.part;
    now_is = one.now_is;
    prefix = record {
      rest = one.prefix.rest ++ text lines;
      whole_is = sym (append_assoc one.part one.prefix.rest (text lines)) ∙ ap (λ front. front ++ text lines) one.prefix.whole_is;
    };
    all_is = λ all. absurd (never all);
  }

  -- the first line alone, or a part of it
  pub first_alone : (all → ⊥) → Gains before now (line_text line) first → Gains before now (text (line ∷ lines)) all
  first_alone never one = record {
    told = λ given told. short given never (one.told given told);
    untold = one.untold;
  }
