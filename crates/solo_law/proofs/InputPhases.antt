-- How far the input process is in its exchange with the job process, by its place.
use Rattle.std.proofs.Common.{◌≡◌, ℕ, suc, ◌+◌, if◌then◌else◌, Bool, true, false, List, [], ◌∷◌, ◌++◌, length, None, refl, sym, subst}
use Rattle.solo_base.specs.declared.item.Item.TheVariants.{Line}
use Rattle.solo_base.specs.declared.outcome.Side.TheVariants.{Sender, Receiver}
use Rattle.solo_base.specs.declared.system_call.Arg.TheVariants as arg
use Rattle.solo_devices.specs.declared.card_read.CardRead.{CardRead}
use Rattle.solo_devices.specs.declared.card_read.CardRead.TheVariants as read
use Rattle.deck_format.specs.Jobs.{is_end}
use Rattle.network_law.specs.Network.{Follows, acts}
use Rattle.exchange_law.specs.Pages.{is_last, has_room_for, page_with}
use Rattle.exchange_law.specs.Parcels.{mark}
use Rattle.exchange_law.specs.Phases.{trues, falses, Phase, Idle, Moving, Reporting, Left, PhaseIs}
use Rattle.exchange_law.proofs.Counted.{marks_at, marks_by}
use Rattle.solo_law.proofs.Counted.{counted}
use Rattle.exchange_law.proofs.Lines.{marked-with}
use Rattle.exchange_law.proofs.Phases.{stays, orders, dismisses, ends_pages, reports}
use Rattle.place_law.specs.Process.{place, caused, given_cause}
use Rattle.solo_law.specs.Actions.{Reply}
use Rattle.solo_law.specs.Actions as act
use Rattle.solo_law.specs.Buffers.{call, went_by}
use Rattle.solo_law.specs.Replies.{Fits, view}
use Rattle.solo_law.specs.InputPlaces.{InputPlace, input_does, input_behind, packs, packs_if, closes_file, behind_card, input}
use Rattle.solo_law.specs.InputPlaces as at
use Rattle.solo_law.specs.Solo.{table, solo, SoloEntry}
use Rattle.solo_law.proofs.Nones.{no-some}

abbrev pub input_phase : InputPlace → Phase
input_phase at.AwaitsOrder = Idle
input_phase (at.Reports sound) = Reporting
input_phase at.IsOver = Left
input_phase other = Moving

-- a page in hand has its mark
abbrev IsMarked : InputPlace → Type 0
IsMarked (at.PutsFull page pages hand) = is_last page ≡ false
IsMarked (at.PutsLast page sound) = is_last page ≡ true
IsMarked other = Unit {0}

abbrev pub InputIs : InputPlace → ℕ → ℕ → ℕ → ℕ → Type 0
InputIs a o d l n = IsMarked a × PhaseIs (input_phase a) o d l n

-- a place at which cards are read or pages put
abbrev IsMoving : InputPlace → Type 0
IsMoving a = IsMarked a × (input_phase a ≡ Moving)

packs-on : (pages : ℕ) (hand : List (List ℕ)) (line : List ℕ) → IsMoving (packs pages hand line)
packs-on pages hand line =
    elim (has_room_for hand line) as (λ t. IsMoving (if t then at.Reads pages (hand ++ line ∷ []) true
    else at.PutsFull (page_with pages false hand) (suc pages) (line ∷ []))) [
      | true ↦ (tt, refl)
      | false ↦ (marked-with pages false hand, refl)
    ]

packs_if-on : (sound : Bool) (pages : ℕ) (hand : List (List ℕ)) (line : List ℕ) → IsMoving (packs_if sound pages hand line)
packs_if-on true pages hand line = packs-on pages hand line
packs_if-on false pages hand line = (tt, refl)

closes-on : (pages : ℕ) (hand : List (List ℕ)) (sound : Bool) → IsMoving (closes_file pages hand sound)
closes-on pages hand sound = (marked-with pages true hand, refl)

card-on : (pages : ℕ) (hand : List (List ℕ)) (sound : Bool) (answer : CardRead) → IsMoving (behind_card pages hand sound answer)
card-on pages hand sound (read.Card line) =
    elim (is_end (Line line)) as (λ t. IsMoving (if t then closes_file pages hand sound else packs_if sound pages hand line)) [
      | true ↦ closes-on pages hand sound
      | false ↦ packs_if-on sound pages hand line
    ]
card-on pages hand sound read.Spoiled = (tt, refl)
card-on pages hand sound read.End = closes-on pages hand sound
card-on pages hand sound other = (tt, refl)

moves-on : (a : InputPlace) (o d l n : ℕ) → IsMoving a → PhaseIs Moving o d l n → InputIs a (o + 0) (d + 0) (l + 0) (n + 0)
moves-on a o d l n on is = (on.0, subst (λ phase. PhaseIs phase (o + 0) (d + 0) (l + 0) (n + 0)) (sym on.1) (stays Moving o d l n is))

input-step : (a : InputPlace) (reply : Reply) (o d l n : ℕ) → Fits (input_does a) reply → given_cause view input a (input_does a) reply ≡ None
    → InputIs a o d l n → InputIs (input_behind a reply) (o + falses (marks_by mark 1 Receiver (call 1 (input_does a)) (went_by (input_does a) reply)))
    (d + trues (marks_by mark 1 Receiver (call 1 (input_does a)) (went_by (input_does a) reply)))
    (l + trues (marks_by mark 2 Sender (call 1 (input_does a)) (went_by (input_does a) reply)))
    (n + length (marks_by mark 3 Sender (call 1 (input_does a)) (went_by (input_does a) reply)))
input-step at.AwaitsOrder (act.OfArg arg.Nil) o d l n fits free is = (tt, dismisses o d l n is.1)
input-step at.AwaitsOrder (act.OfArg other) o d l n fits free is = (tt, orders o d l n is.1)
input-step at.AwaitsOrder act.Stopped o d l n fits free is = absurd (no-some free)
input-step (at.Reads pages hand sound) (act.OfCard answer) o d l n fits free is =
    moves-on (behind_card pages hand sound answer) o d l n (card-on pages hand sound answer) is.1
input-step (at.PutsFull page pages hand) act.Done o d l n fits free is =
    (tt, subst (λ t. PhaseIs Moving (o + 0) (d + 0) (l + trues (t ∷ [])) (n + 0)) (sym is.0) (stays Moving o d l n is.1))
input-step (at.PutsFull page pages hand) act.Stopped o d l n fits free is = absurd (no-some free)
input-step (at.PutsLast page sound) act.Done o d l n fits free is =
    (tt, subst (λ t. PhaseIs Reporting (o + 0) (d + 0) (l + trues (t ∷ [])) (n + 0)) (sym is.0) (ends_pages o d l n is.1))
input-step (at.PutsLast page sound) act.Stopped o d l n fits free is = absurd (no-some free)
input-step (at.Reports sound) act.Done o d l n fits free is = (tt, reports o d l n is.1)
input-step (at.Reports sound) act.Stopped o d l n fits free is = absurd (no-some free)
input-step at.IsOver act.Done o d l n fits free is = (tt, stays Left o d l n is.1)
input-step a reply o d l n fits free is = absurd fits

pub input-stands : (h : List SoloEntry) → Follows solo 1 h → caused view input h ≡ None
    → InputIs (place input h) (falses (marks_at mark 1 Receiver (acts solo 1 h))) (trues (marks_at mark 1 Receiver (acts solo 1 h)))
    (trues (marks_at mark 2 Sender (acts solo 1 h))) (length (marks_at mark 3 Sender (acts solo 1 h)))
input-stands h follows none = counted table 1 1 2 3 Receiver Sender Sender InputIs (tt, (refl, refl, refl)) input-step h follows none
