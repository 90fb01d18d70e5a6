-- What the paper gained is the text of the lines that the printer process printed, and a part of the line in hand.
use Rattle.std.proofs.Common.{◌≡◌, inl, inr, ℕ, List, [], ◌∷◌, ◌++◌, Option, None, Some, refl, sym, ◌∙◌, ap, subst, option_map}
use Rattle.std.proofs.lemmas.List.{append_assoc, append-nil}
use Rattle.network_law.specs.Network.{IsOne}
use Rattle.solo_base.specs.declared.outcome.Outcome.{Outcome}
use Rattle.solo_base.specs.Prefixes.{IsPrefixOf}
use Rattle.solo_base.specs.Text.{line_text, text}
use Rattle.page_codec.specs.Packing.{fits}
use Rattle.batch_procs.specs.declared.actions.Reply.{Reply}
use Rattle.batch_procs.specs.Jobs.{Jobs}
use Rattle.place_law.specs.Process.{Does, LacksMemory, Delays, action_of, or_new}
use Rattle.solo_base.specs.declared.outcome.Outcome.TheVariants as outcome
use Rattle.batch_procs.specs.declared.actions.Reply.TheVariants as reply
use Rattle.twin_law.specs.Process.{Action, AwaitRoom, AwaitItem, Request, Release, Stop, Ended, Entry, stands_behind, place, given_cause, caused, next_action}
use Rattle.twin_law.specs.Ends.{PrinterPlace, TakesLine, PrintsLine, HasPrinted, printer_aims, behind_line, printer}
use Rattle.twin_law.specs.Table.{process}
use Rattle.twin_law.specs.Twin.{Fits, Suits, Devices, Allows, given, twin}
use Rattle.twin_law.specs.Told.{printed_by, printed}
use Rattle.twin_law.proofs.Lawful.{or-none, not-lacking}
use Rattle.twin_law.proofs.Marks.{makes, IsAround}
use Rattle.twin_law.proofs.Open.{made-free}

pub text-append : (some more : List (List ℕ)) → text (some ++ more) ≡ text some ++ text more
text-append [] more = refl
text-append (line ∷ some) more = ap (λ rest. line_text line ++ rest) (text-append some more) ∙ sym (append_assoc (line_text line) (text some) (text more))

text-line : (some : List (List ℕ)) (line : List ℕ) → text (some ++ line ∷ []) ≡ text some ++ line_text line
text-line some line = text-append some (line ∷ []) ∙ ap (λ last. text some ++ last) (append-nil (line_text line))

-- the line in hand
abbrev pub due_at : PrinterPlace → List (List ℕ)
due_at (PrintsLine line) = line ∷ []
due_at x = []

pub record Paper (given : List ℕ) (now : Option (List ℕ)) (x : PrinterPlace) (cause : Option Outcome) (lines : List (List ℕ)) : Type 0 where
  pub gained : List ℕ
  pub now_is : now ≡ Some (given ++ gained)
  pub free : cause ≡ None → gained ≡ text lines
  pub part : IsPrefixOf gained (text (lines ++ due_at x))

-- an entry that gave the paper nothing, and printed nothing
none-gained : (given gained part : List ℕ) (now : Option (List ℕ)) → part ≡ [] → now ≡ Some (given ++ gained) → option_map (λ before. before ++ part) now ≡ Some (given ++ gained)
none-gained given gained part now none e =
    ap (λ part. option_map (λ before. before ++ part) now) none ∙ ap (option_map (λ before. before ++ [])) e ∙ ap Some (append-nil (given ++ gained))

part-more : (gained : List ℕ) (lines more : List (List ℕ)) → IsPrefixOf gained (text lines) → IsPrefixOf gained (text (lines ++ more))
part-more gained lines more (rest, e) = (rest ++ text more, sym (append_assoc gained rest (text more)) ∙ ap (λ ps. ps ++ text more) e ∙ sym (text-append lines more))

still : (given part : List ℕ) (now : Option (List ℕ)) (x y : PrinterPlace) (old new : Option Outcome) (lines : List (List ℕ)) → part ≡ [] → (new ≡ None → old ≡ None)
    → IsPrefixOf (due_at x) (due_at y) → Paper given now x old lines → Paper given (option_map (λ before. before ++ part) now) y new (lines ++ [])
still given part now x y old new lines none back (more, due) p = record {
  gained = p.gained;
  now_is = none-gained given p.gained part now none p.now_is;
  free = λ e. p.free (back e) ∙ ap text (sym (append-nil lines));
  part = subst (λ all. IsPrefixOf p.gained (text all))
      (append_assoc lines (due_at x) more ∙ ap (λ due. lines ++ due) due ∙ ap (λ lines. lines ++ due_at y) (sym (append-nil lines)))
      (part-more p.gained (lines ++ due_at x) more p.part);
}

same-due : (x : PrinterPlace) → IsPrefixOf (due_at x) (due_at x)
same-due x = ([], append-nil (due_at x))

nothing-due : (xs : List (List ℕ)) → IsPrefixOf [] xs
nothing-due xs = (xs, refl)

-- a line, or a part of it
line-printed : (given part : List ℕ) (now : Option (List ℕ)) (line : List ℕ) (old new : Option Outcome) (lines : List (List ℕ)) → part ≡ line_text line → old ≡ None
    → Paper given now (PrintsLine line) old lines → Paper given (option_map (λ before. before ++ part) now) TakesLine new (lines ++ line ∷ [])
line-printed given part now line old new lines whole none p =
    let all : p.gained ++ part ≡ text (lines ++ line ∷ []) = ap (λ gained. gained ++ part) (p.free none) ∙ ap (λ part. text lines ++ part) whole ∙ sym (text-line lines line) in
    record {
      gained = p.gained ++ part;
      now_is = ap (option_map (λ before. before ++ part)) p.now_is ∙ ap Some (append_assoc given p.gained part);
      free = λ _. all;
      part = ([], append-nil (p.gained ++ part) ∙ all ∙ ap text (sym (append-nil (lines ++ line ∷ []))));
    }

line-failed : (given part : List ℕ) (now : Option (List ℕ)) (line : List ℕ) (old new : Option Outcome) (lines : List (List ℕ)) → IsPrefixOf part (line_text line) → old ≡ None
    → (new ≡ None → ⊥) → Paper given now (PrintsLine line) old lines → Paper given (option_map (λ before. before ++ part) now) (PrintsLine line) new (lines ++ [])
line-failed given part now line old new lines (rest, is) none not p =
    let all : (p.gained ++ part) ++ rest ≡ text ((lines ++ []) ++ line ∷ []) =
    append_assoc p.gained part rest ∙ ap (λ more. p.gained ++ more) is ∙ ap (λ gained. gained ++ line_text line) (p.free none) ∙ sym (text-line lines line)
    ∙ ap (λ lines. text (lines ++ line ∷ [])) (sym (append-nil lines)) in
    record {
      gained = p.gained ++ part;
      now_is = ap (option_map (λ before. before ++ part)) p.now_is ∙ ap Some (append_assoc given p.gained part);
      free = λ e. absurd (not e);
      part = (rest, all);
    }

module _ {L : Type 0} where
  -- what an entry that isn't a print gives the paper
  around-gains : (devices : Devices L) (a : Action) (r : Reply L) (part : List ℕ) → IsAround a → Fits a r → Allows devices (Does a r) part → part ≡ []
  around-gains devices (AwaitRoom b) r part around fits e = e
  around-gains devices (AwaitItem b) r part around fits e = e
  around-gains devices Request r part around fits e = e
  around-gains devices Release r part around fits e = e
  around-gains devices (Stop b) r part around fits e = e
  around-gains devices (Ended how) r part around fits e = e
  around-gains devices a r part around fits e = absurd around

  around-prints : (a : Action) (r : Reply L) → IsAround a → printed_by (Does a r) ≡ []
  around-prints (AwaitRoom b) r around = refl
  around-prints (AwaitItem b) r around = refl
  around-prints Request r around = refl
  around-prints Release r around = refl
  around-prints (Stop b) r around = refl
  around-prints (Ended how) r around = refl
  around-prints a r around = absurd around

  around-place : (x : PrinterPlace) (a : Action) (r : Reply L) → IsAround a → stands_behind printer x a r ≡ x
  around-place x (AwaitRoom b) r around = refl
  around-place x (AwaitItem b) r around = refl
  around-place x Request r around = refl
  around-place x Release r around = refl
  around-place x (Stop b) r around = refl
  around-place x (Ended how) r around = refl
  around-place x a r around = absurd around

  aimed : (devices : Devices L) (given part : List ℕ) (x : PrinterPlace) (r : Reply L) (old : Option Outcome) (lines : List (List ℕ)) → Fits (makes (printer_aims x)) r
      → Allows devices (Does (makes (printer_aims x)) r) part → old ≡ None → Paper given devices.paper x old lines
      → Paper given (option_map (λ before. before ++ part) devices.paper) (stands_behind printer x (makes (printer_aims x)) r)
      (or_new old (given_cause printer x (makes (printer_aims x)) r)) (lines ++ printed_by (Does (makes (printer_aims x)) r))
  aimed devices given part TakesLine (reply.Feed f) old lines fits allows none p =
      still given part devices.paper TakesLine (behind_line f) old (or_new old None) lines allows (λ e. none) (nothing-due (due_at (behind_line f))) p
  aimed devices given part TakesLine reply.Stopped old lines fits allows none p =
      still given part devices.paper TakesLine TakesLine old (or_new old (Some outcome.Stopped)) lines allows (λ e. none) (same-due TakesLine) p
  aimed devices given part (PrintsLine line) reply.Done old lines fits allows none p = line-printed given part devices.paper line old (or_new old None) lines allows none p
  aimed devices given part (PrintsLine line) reply.Failed old lines fits allows none p =
      line-failed given part devices.paper line old (or_new old _) lines allows none (not-lacking old _) p
  aimed devices given part (PrintsLine line) reply.NoMemory old lines fits allows none p =
      line-failed given part devices.paper line old (or_new old _) lines allows none (not-lacking old _) p
  aimed devices given part HasPrinted reply.Done old lines fits allows none p =
      still given part devices.paper HasPrinted HasPrinted old (or_new old None) lines allows (λ e. none) (same-due HasPrinted) p
  aimed devices given part x r old lines fits allows none p = absurd fits

  abbrev pub PaperIs : List ℕ → Option (List ℕ) → List (Entry L) → Type 0
  PaperIs given now h = Paper given now (place (printer {L = L}) h) (caused (printer {L = L}) h) (printed h)

  module _ (J : Jobs L) (one : IsOne (twin J) 6) where
    abbrev After : Devices L → List ℕ → List ℕ → List (Entry L) → Action → Reply L → Type 0
    After devices given part h a r =
        Paper given (option_map (λ before. before ++ part) devices.paper) (stands_behind printer (place (printer {L = L}) h) a r)
        (or_new (caused (printer {L = L}) h) (given_cause printer (place (printer {L = L}) h) a r)) (printed h ++ printed_by (Does a r))

    around-paper : (devices : Devices L) (given part : List ℕ) (h : List (Entry L)) (a : Action) (r : Reply L) → IsAround a → Fits a r → Allows devices (Does a r) part
        → PaperIs given devices.paper h → After devices given part h a r
    around-paper devices given part h a r around fits allows p =
        let x = place (printer {L = L}) h in
        let old = caused (printer {L = L}) h in
        subst (λ (y : PrinterPlace). Paper given (option_map (λ before. before ++ part) devices.paper) y (or_new old (given_cause printer x a r)) (printed h ++ printed_by (Does a r)))
        (sym (around-place x a r around))
        (subst (λ (now : List (List ℕ)). Paper given (option_map (λ before. before ++ part) devices.paper) x (or_new old (given_cause printer x a r)) (printed h ++ now))
        (sym (around-prints a r around))
        (still given part devices.paper x x old (or_new old (given_cause printer x a r)) (printed h) (around-gains devices a r part around fits allows)
        (or-none old (given_cause printer x a r)) (same-due x) p))

    paper-own : (devices : Devices L) (given part : List ℕ) (h : List (Entry L)) (a : Action) (r : Reply L) → next_action (process J 6) h ≡ Some a → Fits a r
        → Allows devices (Does a r) part → PaperIs given devices.paper h → After devices given part h a r
    paper-own devices given part h a r next fits allows p =
        elim (made-free J 6 h a one next) as (λ _. After devices given part h a r) [
          | inl around ↦ around-paper devices given part h a r around fits allows p
          | inr is ↦ (subst (λ a. Fits a r → Allows devices (Does a r) part → After devices given part h a r) is.1
              (λ fits allows. aimed devices given part (place (printer {L = L}) h) r (caused (printer {L = L}) h) (printed h) fits allows is.0 p)) fits allows
        ]

    -- one more entry of the printer process
    pub paper-more : (devices : Devices L) (given part : List ℕ) (h : List (Entry L)) (entry : Entry L) → next_action (process J 6) h ≡ Some (action_of entry)
        → Suits J (process J 6) entry → Allows devices entry part → PaperIs given devices.paper h
        → PaperIs given (option_map (λ before. before ++ part) devices.paper) (entry ∷ h)
    paper-more devices given part h (Does a r) next suits allows p = paper-own devices given part h a r next suits.0 allows p
    paper-more devices given part h (LacksMemory a r) next suits allows p = absurd (let never = suits.0 in cc)
    paper-more devices given part h (Delays a) next suits allows p =
        let x = place (printer {L = L}) h in
        still given part devices.paper x x (caused (printer {L = L}) h) (caused (printer {L = L}) h) (printed h) allows (λ e. e) (same-due x) p
