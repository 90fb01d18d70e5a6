-- A device that one process alone writes has gained a first part of what was to be written, and just what was written where
-- the process has no cause to stop.
use Rattle.std.proofs.Common.{◌≡◌, ℕ, List, [], ◌∷◌, ◌++◌, Option, None, Some, refl, sym, ◌∙◌, ap, subst, append_assoc}
use Rattle.std.proofs.lemmas.List.{append-nil}
use Rattle.solo_base.specs.Prefixes.{IsPrefixOf}
use Rattle.solo_base.specs.Text.{line_text, text}
use Rattle.solo_devices.specs.PrinterUnit as printer
use Rattle.network_law.specs.Network.{Follows}
use Rattle.network_law.specs.Network as law
use Rattle.place_law.specs.Process.{Does, LacksMemory, Delays, action_of, caused, next_action}
use Rattle.place_law.proofs.Nexts.{or-none}
use Rattle.place_law.proofs.Followed.{holds-reached}
use Rattle.solo_law.specs.Actions.{Action, Reply}
use Rattle.solo_law.specs.Actions as act
use Rattle.solo_law.specs.Replies.{view}
use Rattle.solo_law.specs.Devices.{Devices, Allows, gains}
use Rattle.solo_law.specs.Devices as devices
use Rattle.solo_law.specs.Solo.{process, solo, opened, SoloState, SoloEntry, IsReached, IsProcess, openings}
use Rattle.solo_law.specs.Told.{written_by, written}

pub text-append : (some more : List (List ℕ)) → text (some ++ more) ≡ text some ++ text more
text-append [] more = refl
text-append (line ∷ some) more = ap (λ rest. line_text line ++ rest) (text-append some more) ∙ sym (append_assoc (line_text line) (text some) (text more))

pub longer : (part whole more : List ℕ) → IsPrefixOf part whole → IsPrefixOf part (whole ++ more)
longer part whole more is = (is.0 ++ more, sym (append_assoc part is.0 more) ∙ ap (λ x. x ++ more) is.1)

-- as a printer unit says it
pub as-prefix : (part whole : List ℕ) → IsPrefixOf part whole → printer.IsPrefixOf part whole
as-prefix part whole is = record { rest = is.0; whole_is = is.1 }

-- of one that gives a line: it gives the line whole, or where that fails a part of it
abbrev pub GaveBy : Reply → List ℕ → List ℕ → Type 0
GaveBy act.Done gained line = gained ≡ line_text line
GaveBy reply gained line = IsPrefixOf gained (line_text line)

gave-part : (reply : Reply) (gained line : List ℕ) → GaveBy reply gained line → IsPrefixOf gained (line_text line)
gave-part act.Done gained line is = ([], append-nil gained ∙ is)
gave-part reply gained line is = is

module _ (p : ℕ) (writes : Action → Option (List ℕ)) (sink : Devices → Option (List ℕ)) (whole : List SoloEntry → List (List ℕ))
    (quiet : (d : Devices) (entry : SoloEntry) (gained : List ℕ) → writes (action_of entry) ≡ None → sink (devices.given d entry gained) ≡ sink d)
    (lacking : (d : Devices) (a : Action) (r : Reply) (gained : List ℕ) → sink (devices.given d (LacksMemory a r) gained) ≡ sink d)
    (waiting : (d : Devices) (a : Action) (gained : List ℕ) → sink (devices.given d (Delays a) gained) ≡ sink d)
    (gave : (d : Devices) (a : Action) (r : Reply) (gained line : List ℕ) → writes a ≡ Some line → Allows d (Does a r) gained
    → (sink (devices.given d (Does a r) gained) ≡ gains gained (sink d)) × GaveBy r gained line)
    (grows : (entry : SoloEntry) (h : List SoloEntry) → (more : List (List ℕ)) × (whole (entry ∷ h) ≡ whole h ++ more))
    (free : (h : List SoloEntry) (a : Action) (line : List ℕ) → next_action view (process p) h ≡ Some a → writes a ≡ Some line
    → caused view (process p) h ≡ None)
    (due : (h : List SoloEntry) (a : Action) (line : List ℕ) → Follows solo p h → next_action view (process p) h ≡ Some a → writes a ≡ Some line
    → caused view (process p) h ≡ None → (rest : List (List ℕ)) × (whole h ≡ written writes h ++ (line ∷ rest)))
    (failed : (h : List SoloEntry) (a : Action) (r : Reply) (line : List ℕ) → writes a ≡ Some line → caused view (process p) (Does a r ∷ h) ≡ None
    → law.Follows solo p (Does a r ∷ h) → r ≡ act.Done)
    (others : (q : ℕ) (g : List SoloEntry) (a : Action) → IsProcess q → (q ≡ p → ⊥) → next_action view (process q) g ≡ Some a → writes a ≡ None)
    (before : List ℕ) where
  pub record Tells (h : List SoloEntry) (d : Devices) : Type 0 where
    pub follows : Follows solo p h
    pub part : List ℕ
    pub now : sink d ≡ Some (before ++ part)
    pub exact : caused view (process p) h ≡ None → part ≡ text (written writes h)
    pub first : IsPrefixOf part (text (whole h))

  grown : (entry : SoloEntry) (h : List SoloEntry) (part : List ℕ) → IsPrefixOf part (text (whole h)) → IsPrefixOf part (text (whole (entry ∷ h)))
  grown entry h part is =
      let (more, e) = grows entry h in
      subst (IsPrefixOf part) (sym (ap text e ∙ text-append (whole h) more)) (longer part (text (whole h)) (text more) is)

  -- a line that is given behind a part that is just what was written
  one-line : (h : List SoloEntry) (line gained : List ℕ) (rest : List (List ℕ)) → whole h ≡ written writes h ++ (line ∷ rest)
      → IsPrefixOf gained (line_text line) → IsPrefixOf (text (written writes h) ++ gained) (text (whole h))
  one-line h line gained rest e is =
      let (later, same) = is in (
        later ++ text rest,
        append_assoc (text (written writes h)) gained (later ++ text rest)
            ∙ ap (λ x. text (written writes h) ++ x) (sym (append_assoc gained later (text rest)) ∙ ap (λ x. x ++ text rest) same)
            ∙ sym (ap text e ∙ text-append (written writes h) (line ∷ rest)),
      )

  own-line : (h : List SoloEntry) (d : Devices) (a : Action) (r : Reply) (gained line : List ℕ) → law.Follows solo p (Does a r ∷ h) → Allows d (Does a r) gained
      → writes a ≡ Some line → Tells h d → Tells (Does a r ∷ h) (devices.given d (Does a r) gained)
  own-line h d a r gained line follows allowed e is =
      let (sink_is, gave_is) = gave d a r gained line e allowed in
      let none = free h a line follows.0 e in
      let (rest, whole_is) = due h a line is.follows follows.0 e none in
      let same : is.part ≡ text (written writes h) = is.exact none in
      record {
        follows = follows;
        part = is.part ++ gained;
        now = sink_is ∙ ap (gains gained) is.now ∙ ap Some (append_assoc before is.part gained);
        exact = λ free_now.
            let done = failed h a r line e free_now follows in
            let line_given : gained ≡ line_text line = subst (λ r. GaveBy r gained line) done gave_is in
            ap (λ x. x ++ gained) same ∙ ap (λ x. text (written writes h) ++ x) (line_given ∙ sym (append-nil (line_text line)))
            ∙ sym (text-append (written writes h) (line ∷ []))
            ∙ ap (λ lines. text (written writes h ++ lines)) (sym (ap (λ of. written_by of r) e ∙ ap (written_by (Some line)) done));
        first = grown (Does a r) h (is.part ++ gained)
            (subst (λ x. IsPrefixOf (x ++ gained) (text (whole h))) (sym same) (one-line h line gained rest whole_is (gave-part r gained line gave_is)));
      }

  plain : (h : List SoloEntry) (d after : Devices) (entry : SoloEntry) → law.Follows solo p (entry ∷ h) → sink after ≡ sink d
      → (caused view (process p) (entry ∷ h) ≡ None → caused view (process p) h ≡ None) → written writes (entry ∷ h) ≡ written writes h → Tells h d
      → Tells (entry ∷ h) after
  plain h d after entry follows same freed none is = record {
    follows = follows;
    part = is.part;
    now = same ∙ is.now;
    exact = λ free_now. is.exact (freed free_now) ∙ ap text (sym none);
    first = grown entry h is.part is.first;
  }

  own-does : (h : List SoloEntry) (d : Devices) (a : Action) (r : Reply) (gained : List ℕ) (line : Option (List ℕ)) → writes a ≡ line
      → law.Follows solo p (Does a r ∷ h) → Allows d (Does a r) gained → Tells h d → Tells (Does a r ∷ h) (devices.given d (Does a r) gained)
  own-does h d a r gained (Some line) e follows allowed is = own-line h d a r gained line follows allowed e is
  own-does h d a r gained None e follows allowed is =
      plain h d _ (Does a r) follows (quiet d (Does a r) gained e) (or-none (caused view (process p) h) _)
      (ap (λ of. written writes h ++ written_by of r) e ∙ append-nil (written writes h)) is

  own : (h : List SoloEntry) (d : Devices) (entry : SoloEntry) (gained : List ℕ) → law.Follows solo p (entry ∷ h) → Allows d entry gained → Tells h d
      → Tells (entry ∷ h) (devices.given d entry gained)
  own h d (Does a r) gained follows allowed is = own-does h d a r gained (writes a) refl follows allowed is
  own h d (LacksMemory a r) gained follows allowed is =
      plain h d _ (LacksMemory a r) follows (lacking d a r gained) (or-none (caused view (process p) h) _) refl is
  own h d (Delays a) gained follows allowed is = plain h d _ (Delays a) follows (waiting d a gained) (λ free_now. free_now) refl is

  other : (q : ℕ) (h g : List SoloEntry) (d : Devices) (entry : SoloEntry) (gained : List ℕ) → IsProcess q → (q ≡ p → ⊥)
      → next_action view (process q) g ≡ Some (action_of entry) → Tells h d → Tells h (devices.given d entry gained)
  other q h g d entry gained one differ next is = record {
    follows = is.follows;
    part = is.part;
    now = quiet d entry gained (others q g (action_of entry) one differ next) ∙ is.now;
    exact = is.exact;
    first = is.first;
  }

  pub sink-tells : (d : Devices) (s : SoloState) → whole [] ≡ [] → sink d ≡ Some before → IsReached d s → Tells (s.histories p) s.devices
  sink-tells d s none told reached =
      holds-reached solo p Tells own (λ q h g d entry gained one differ next suits allowed is. other q h g d entry gained one differ next is)
      openings (opened d) s refl record {
        follows = tt;
        part = [];
        now = told ∙ ap Some (sym (append-nil before));
        exact = λ free_now. refl;
        first = (text (whole []), refl);
      } reached.reached
