-- What the output process took of whole streams from both sides, at each of its places.
use Rattle.std.proofs.Common.{◌≡◌, ℕ, Bool, true, false, ◌&&◌, List, [], ◌∷◌, ◌++◌, None, refl, sym, ◌∙◌, ap, subst, arith}
use Rattle.network_law.specs.Acts.{At, Moves, Moved}
use Rattle.network_law.specs.Network.{IsOne, acts}
use Rattle.network_law.specs.Network as law
use Rattle.std.specs.Prelude.{◌%◌, ◌^◌}
use Rattle.solo_base.specs.declared.item.Item.{Item}
use Rattle.solo_base.specs.declared.page.Page.{Page}
use Rattle.solo_base.specs.declared.outcome.Side.TheVariants.{Receiver}
use Rattle.page_codec.specs.Packing.{fits}
use Rattle.batch_procs.specs.declared.actions.Reply.{Reply}
use Rattle.batch_procs.specs.Sends.{lines_of}
use Rattle.batch_procs.specs.Jobs.{Jobs}
use Rattle.batch_procs.specs.Parcels.{Parcel, OfPage, is_last}
use Rattle.place_law.specs.Process.{fault_in}
use Rattle.batch_procs.specs.declared.actions.Reply.TheVariants as reply
use Rattle.twin_law.specs.Process.{Entry, stands_behind, place, given_cause, caused}
use Rattle.twin_law.specs.Sides.{Twin, A, B, other, from_job}
use Rattle.twin_law.specs.Job.{damage}
use Rattle.twin_law.specs.Output.{Turn, OutputPlace, TakesLines, PutsLine, PutsOver, HasGathered, output_aims, puts_line, turn_behind, behind_lines, page_in_turn, output}
use Rattle.twin_law.specs.Twin.{call, went_by, Fits, twin}
use Rattle.twin_law.proofs.PagesRead.{read-either}
use Rattle.twin_law.proofs.DealCounts.{InTurn, turn-nil, turn-false-a, turn-false-b, turn-true-a, turn-true-b}
use Rattle.twin_law.proofs.Marks.{trues, makes, marks_by, marks_at, stands}

-- ---- 5 output: whole streams in turn, and the end
abbrev pub OutputIs : OutputPlace → List Bool → List Bool → Type 0
OutputIs (TakesLines t) us vs = InTurn t.side (trues us) (trues vs)
OutputIs (PutsLine line later t true) us vs = Unit {0}
OutputIs (PutsLine line later t false) us vs = InTurn t.side (trues us) (trues vs)
OutputIs PutsOver us vs = Unit {0}
OutputIs HasGathered us vs = Unit {0}

output-puts : (lines : List (List ℕ)) (t : Turn) (over : Bool) (us vs : List Bool) → InTurn t.side (trues us) (trues vs) → OutputIs (puts_line lines t over) us vs
output-puts [] t true us vs is = tt
output-puts [] t false us vs is = is
output-puts (line ∷ later) t true us vs is = tt
output-puts (line ∷ later) t false us vs is = is

output-over : (lines : List (List ℕ)) (t : Turn) (us vs : List Bool) → OutputIs (puts_line lines t true) us vs
output-over [] t us vs = tt
output-over (line ∷ later) t us vs = tt

abbrev got4 : Twin → Bool → List Bool
got4 A last = last ∷ []
got4 B last = []

abbrev got5 : Twin → Bool → List Bool
got5 A last = []
got5 B last = last ∷ []

got-4 : {L : Type 0} (side : Twin) (parcel : Parcel L) → marks_by 4 Receiver (At (from_job side) Receiver Moves) (Moved parcel) ≡ got4 side (is_last parcel)
got-4 A parcel = refl
got-4 B parcel = refl

got-5 : {L : Type 0} (side : Twin) (parcel : Parcel L) → marks_by 5 Receiver (At (from_job side) Receiver Moves) (Moved parcel) ≡ got5 side (is_last parcel)
got-5 A parcel = refl
got-5 B parcel = refl

abbrev turned : Twin → Bool → Twin
turned side true = other side
turned side false = side

turned-is : (t : Turn) (last : Bool) (items : List Item) → turned t.side last ≡ (turn_behind t last items).side
turned-is t true items = refl
turned-is t false items = refl

turn-on : (side : Twin) (last : Bool) (us vs : List Bool) → InTurn side (trues us) (trues vs)
    → InTurn (turned side last) (trues (us ++ got4 side last)) (trues (vs ++ got5 side last))
turn-on A true us vs is = turn-true-a us vs is
turn-on A false us vs is = turn-false-a us vs is
turn-on B true us vs is = turn-true-b us vs is
turn-on B false us vs is = turn-false-b us vs is

-- a page that was taken and isn't damaged
abbrev Moves-in : {L : Type 0} → ℕ → Twin → Parcel L → List Bool
Moves-in b side parcel = marks_by b Receiver (At (from_job side) Receiver Moves) (Moved parcel)

taken-is : {L : Type 0} (t : Turn) (page : Page) (last : Bool) (parcel : Parcel L) (us vs : List Bool) → is_last parcel ≡ last → fault_in (damage (page_in_turn t page last)) ≡ None
    → InTurn t.side (trues us) (trues vs) → OutputIs (behind_lines t (page_in_turn t page last)) (us ++ Moves-in 4 t.side parcel) (vs ++ Moves-in 5 t.side parcel)
taken-is t page last parcel us vs same none is =
    let moved4 = Moves-in 4 t.side parcel in
    let moved5 = Moves-in 5 t.side parcel in
    let four : moved4 ≡ got4 t.side last = got-4 t.side parcel ∙ ap (got4 t.side) same in
    let five : moved5 ≡ got5 t.side last = got-5 t.side parcel ∙ ap (got5 t.side) same in
    read-either (λ result. fault_in (damage result) ≡ None → OutputIs (behind_lines t result) (us ++ moved4) (vs ++ moved5)) (t.pages % 2 ^ 16) last page
    (λ items none. output-puts (lines_of items) (turn_behind t last items) (last && t.ended) (us ++ moved4) (vs ++ moved5)
    (subst (λ ms. InTurn (turn_behind t last items).side (trues (us ++ ms)) (trues (vs ++ moved5))) (sym four)
    (subst (λ ms. InTurn (turn_behind t last items).side (trues (us ++ got4 t.side last)) (trues (vs ++ ms))) (sym five)
    (subst (λ side. InTurn side (trues (us ++ got4 t.side last)) (trues (vs ++ got5 t.side last))) (turned-is t last items)
    (turn-on t.side last us vs is)))))
    (λ bad none. absurd cc) none

output-step : {L : Type 0} (x : OutputPlace) (r : Reply L) (us vs : List Bool) → Fits (makes (output_aims x)) r → given_cause output x (makes (output_aims x)) r ≡ None → OutputIs x us vs
    → OutputIs (stands_behind output x (makes (output_aims x)) r) (us ++ marks_by 4 Receiver (call 5 (makes (output_aims x))) (went_by (makes (output_aims x)) r))
    (vs ++ marks_by 5 Receiver (call 5 (makes (output_aims x))) (went_by (makes (output_aims x)) r))
output-step {L} (TakesLines t) (reply.Page page last) us vs fits none is = taken-is {L = L} t page last (OfPage page last) us vs refl none is
output-step (TakesLines t) reply.Failed us vs fits none is = absurd cc
output-step (PutsLine line later t true) reply.Done us vs fits none is = output-over later t (us ++ []) (vs ++ [])
output-step (PutsLine line later t false) reply.Done us vs fits none is = output-puts later t false (us ++ []) (vs ++ []) (turn-nil t.side us vs is)
output-step (PutsLine line later t over) reply.Stopped us vs fits none is = absurd cc
output-step PutsOver reply.Done us vs fits none is = tt
output-step PutsOver reply.Stopped us vs fits none is = absurd cc
output-step HasGathered reply.Done us vs fits none is = tt
output-step x r us vs fits none is = absurd fits

module _ {L : Type 0} (J : Jobs L) where
  pub output-stands : (h : List (Entry L)) → law.Follows (twin J) 5 h → caused output h ≡ None
      → OutputIs (place output h) (marks_at J 5 4 Receiver h) (marks_at J 5 5 Receiver h)
  output-stands h follows none = stands J 5 (omega arith, omega arith) 4 5 Receiver Receiver OutputIs refl output-step h follows none
