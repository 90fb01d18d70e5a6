-- Over told files each piece of work comes to what they make of it, and of those before it.
use Rattle.std.proofs.Common.{◌≡◌, ℕ, List, [], ◌∷◌, ◌++◌, Some, refl, sym, ◌∙◌, ap}
use Rattle.std.specs.Option.{option_map}
use Rattle.std.proofs.lemmas.List.{append-nil}
use Rattle.network_law.specs.Network.{Follows}
use Rattle.place_law.specs.Process.{Does, LacksMemory, Delays, action_of, next_action}
use Rattle.place_law.proofs.Followed.{holds-reached}
use Rattle.place_law.proofs.Nexts.{next-is}
use Rattle.solo_law.specs.Work.{Given, Plan}
use Rattle.solo_law.specs.Actions.{Action, Reply}
use Rattle.solo_law.specs.Actions as act
use Rattle.solo_law.specs.Replies.{view}
use Rattle.solo_law.specs.InputPlaces.{InputPlace, input_does}
use Rattle.solo_law.specs.InputPlaces as input_at
use Rattle.solo_law.specs.OutputPlaces.{OutputPlace, output_does}
use Rattle.solo_law.specs.OutputPlaces as output_at
use Rattle.solo_law.specs.Devices.{Devices, Allows, plan_behind}
use Rattle.solo_law.specs.Devices as devices
use Rattle.solo_law.specs.Solo.{process, table, solo, opened, SoloState, SoloEntry, IsReached, IsProcess, openings}
use Rattle.solo_law.specs.Told.{needs, begun, needs_of}
use Rattle.solo_law.proofs.Placed.{each-process, placed}

-- what told files make of the work from then on
abbrev plan_after : Plan → List Given → Plan
plan_after plan [] = plan
plan_after plan (given ∷ rest) = plan_after (plan_behind given plan) rest

after-one : (plan : Plan) (some : List Given) (given : Given) → plan_after plan (some ++ given ∷ []) ≡ plan_behind given (plan_after plan some)
after-one plan [] given = refl
after-one plan (first ∷ some) given = after-one (plan_behind first plan) some given

needs-one : (plan : Plan) (some : List Given) (given : Given)
    → needs_of plan (some ++ given ∷ []) ≡ needs_of plan some ++ (plan_after plan some [] given) ∷ []
needs-one plan [] given = refl
needs-one plan (first ∷ some) given = ap (λ rest. plan [] first ∷ rest) (needs-one (plan_behind first plan) some given)

-- ---- only the job process works
abbrev NoWork : Action → Type 0
NoWork (act.Works work) = ⊥
NoWork other = Unit {0}

input-idle : (a : InputPlace) → NoWork (input_does a)
input-idle input_at.AwaitsOrder = tt
input-idle (input_at.Reads pages hand sound) = tt
input-idle (input_at.PutsFull page pages hand) = tt
input-idle (input_at.PutsLast page sound) = tt
input-idle (input_at.Reports sound) = tt
input-idle input_at.IsOver = tt

output-idle : (a : OutputPlace) → NoWork (output_does a)
output-idle output_at.AwaitsPrinting = tt
output-idle (output_at.TakesPage pages) = tt
output-idle (output_at.PrintsLine line later last pages) = tt
output-idle output_at.ReportsPrinted = tt
output-idle output_at.IsDone = tt

others-idle : (q : ℕ) (g : List SoloEntry) (a : Action) → IsProcess q → (q ≡ 2 → ⊥) → next_action view (process q) g ≡ Some a → NoWork a
others-idle q g a one differ next =
    next-is table placed NoWork q g a one
    (each-process (λ q. (q ≡ 2 → ⊥) → (a : (process q).Place) → NoWork ((process q).does a)) q one (λ differ. input-idle)
    (λ differ. absurd (differ refl)) (λ differ. output-idle) differ) (λ b. tt) (λ how. tt) next

same-work : (d : Devices) (entry : SoloEntry) (gained : List ℕ) → NoWork (action_of entry) → (devices.given d entry gained).work ≡ d.work
same-work d (Does act.ReadCard (act.OfCard answer)) gained idle = refl
same-work d (Does act.Accept (act.OfCard answer)) gained idle = refl
same-work d (Does (act.Works work) reply) gained idle = absurd idle
same-work d (Does (act.Print line) reply) gained idle = refl
same-work d (Does (act.Display line) reply) gained idle = refl
same-work d entry gained idle = refl

module _ (plan : Plan) where
  record WorksSo (h : List SoloEntry) (d : Devices) : Type 0 where
    now : d.work ≡ Some (plan_after plan (begun h))
    so : needs h ≡ needs_of plan (begun h)

  plain : (h : List SoloEntry) (d after : Devices) (entry : SoloEntry) → after.work ≡ d.work → begun (entry ∷ h) ≡ begun h → needs (entry ∷ h) ≡ needs h
      → WorksSo h d → WorksSo (entry ∷ h) after
  plain h d after entry same none found is = record {
    now = same ∙ is.now ∙ ap (λ x. Some (plan_after plan x)) (sym none);
    so = found ∙ is.so ∙ ap (needs_of plan) (sym none);
  }

  own : (h : List SoloEntry) (d : Devices) (entry : SoloEntry) (gained : List ℕ) → Follows solo 2 (entry ∷ h) → Allows d entry gained → WorksSo h d
      → WorksSo (entry ∷ h) (devices.given d entry gained)
  own h d (Does (act.Works work) (act.Found need)) gained follows allowed is = record {
    now = ap (option_map (plan_behind work.given)) is.now ∙ ap Some (sym (after-one plan (begun h) work.given));
    so = ap (λ x. x ++ need ∷ []) is.so ∙ ap (λ x. needs_of plan (begun h) ++ x ∷ []) (allowed.0 (plan_after plan (begun h)) is.now)
        ∙ sym (needs-one plan (begun h) work.given);
  }
  own h d (Does act.ReadCard (act.OfCard answer)) gained follows allowed is = plain h d _ _ refl (append-nil (begun h)) (append-nil (needs h)) is
  own h d (Does act.Accept (act.OfCard answer)) gained follows allowed is = plain h d _ _ refl (append-nil (begun h)) (append-nil (needs h)) is
  own h d (Does (act.Print line) reply) gained follows allowed is = plain h d _ _ refl (append-nil (begun h)) (append-nil (needs h)) is
  own h d (Does (act.Display line) reply) gained follows allowed is = plain h d _ _ refl (append-nil (begun h)) (append-nil (needs h)) is
  own h d (LacksMemory a r) gained follows allowed is = plain h d _ _ refl refl refl is
  own h d (Delays a) gained follows allowed is = plain h d _ _ refl refl refl is
  own h d (Does a r) gained follows allowed is = plain h d _ _ refl (append-nil (begun h)) (append-nil (needs h)) is

  pub works-so : (d : Devices) (s : SoloState) → d.work ≡ Some plan → IsReached d s → needs (s.histories 2) ≡ needs_of plan (begun (s.histories 2))
  works-so d s told reached =
      (holds-reached solo 2 WorksSo own
      (λ q h g d entry gained one differ next suits allowed is.
      record { now = same-work d entry gained (others-idle q g (action_of entry) one differ next) ∙ is.now; so = is.so })
      openings (opened d) s refl record { now = told; so = refl } reached.reached).so
