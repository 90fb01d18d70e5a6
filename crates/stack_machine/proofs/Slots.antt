-- The slots in which activations wait: those up to a count are seen, and each has the same room.
use Rattle.std.proofs.Common.{◌≡◌, ℕ, zero, suc, ◌+◌, ◌-◌, ◌<◌, ◌≤◌, List, [], ◌∷◌, ◌++◌, length, take, set, get_or, map, ℤ, Some, sym, ◌∙◌, ap, arith, subst}
use Rattle.std.specs.Prelude.{slice_get, slice_set}
use Rattle.std.proofs.Math.Seq.{take-set-lt}
use Rattle.std.proofs.lemmas.List.{length-take, length-map, take_more_set, take_more, take-set, get_or-take, get_or-map, map-append, map-set}
use Rattle.std.proofs.lemmas.Option.{get_or_from_slice_get}
use Rattle.stack_machine.specs.declared.room.Room.{Room}
use Rattle.stack_machine.specs.declared.slot.Slot.{Slot}
use Rattle.stack_machine.specs.States.{Activation}
use Rattle.stack_machine.specs.Activations.{nobody}
use Rattle.stack_machine.specs.Slots.{shown_slot, HasRoomOf, HaveRoomOf}
use Rattle.stack_machine.specs.Store.{Bounded, Waiters}

abbrev waiters : List Activation → Room → Waiters
waiters waiting room = record { waiting = waiting; room = room }

-- as many are seen as are counted
pub seen_count : (slots : List Slot) (count : ℕ) → count ≤ length slots → length (map shown_slot (take count slots)) ≡ count
seen_count slots count room = omega (arith, length-map (take count slots) shown_slot, length-take count slots)

-- one that is seen
pub seen_at : (slots : List Slot) (count number : ℕ) (past : Slot) → count ≤ length slots → number < count
    → get_or (map shown_slot (take count slots)) number nobody ≡ shown_slot (get_or slots number past)
seen_at slots count number past room inside =
    get_or-map shown_slot (take count slots) number past nobody (omega (arith, length-take count slots))
    ∙ ap shown_slot (get_or-take count slots number past inside)

-- one more is seen
pub seen_more : (slots : List Slot) (count : ℕ) (a : Slot) → count < length slots
    → map shown_slot (take (count + 1) (set slots count a)) ≡ map shown_slot (take count slots) ++ shown_slot a ∷ []
seen_more slots count a inside = ap (map shown_slot) (take_more_set slots count a inside) ∙ map-append shown_slot (take count slots) (a ∷ [])

-- one fewer is seen, whatever stands in its slot then
pub seen_fewer : (slots : List Slot) (count : ℕ) (past a : Slot) → 0 < count → count ≤ length slots
    → map shown_slot (take count slots) ≡ map shown_slot (take (count - 1) (set slots (count - 1) a)) ++ shown_slot (get_or slots (count - 1) past) ∷ []
seen_fewer slots count past a some room =
    let back : count ≡ count - 1 + 1 = omega arith in
    ap (λ n. map shown_slot (take n slots)) back ∙ ap (map shown_slot) (take_more slots (count - 1) past (omega arith))
    ∙ map-append shown_slot (take (count - 1) slots) (get_or slots (count - 1) past ∷ [])
    ∙ ap (λ (l : List Slot). map shown_slot l ++ shown_slot (get_or slots (count - 1) past) ∷ []) (sym (take-set slots (count - 1) a))

-- ---- Room

pub room_pushed : (room : Room) (slots : List Slot) (a : Slot) → HaveRoomOf room slots → HasRoomOf room a → HaveRoomOf room (slots ++ a ∷ [])
room_pushed room [] a all here = (here, tt)
room_pushed room (b ∷ slots) a all here = (all.0, room_pushed room slots a all.1 here)

pub room_set : (room : Room) (slots : List Slot) (n : ℕ) (a : Slot) → HaveRoomOf room slots → HasRoomOf room a → HaveRoomOf room (set slots n a)
room_set room [] n a all here = tt
room_set room (b ∷ slots) zero a all here = (here, all.1)
room_set room (b ∷ slots) (suc n) a all here = (all.0, room_set room slots n a all.1 here)

pub room_at : (room : Room) (slots : List Slot) (n : ℕ) (past : Slot) → HaveRoomOf room slots → n < length slots → HasRoomOf room (get_or slots n past)
room_at room [] n past all inside = absurd (omega arith)
room_at room (b ∷ slots) zero past all inside = all.0
room_at room (b ∷ slots) (suc n) past all inside = room_at room slots n past all.1 (omega arith)

pub slot_room : (room : Room) (slots : List Slot) (n : ℕ) (slot : Slot) → HaveRoomOf room slots → n < length slots → slot ≡ get_or slots n slot → HasRoomOf room slot
slot_room room slots n slot all inside is = subst (HasRoomOf room) (sym is) (room_at room slots n slot all inside)

-- ---- A word

pub slot_set : (slots : List Slot) (seen : Waiters) (room : Room) (count number place : ℕ) (word : ℤ) (slot : Slot) (a : Activation) (words : Bounded)
    → waiters (map shown_slot (take count slots)) room ≡ seen → count ≤ length slots → number < length seen.waiting
    → slot ≡ get_or slots number slot → slice_get seen.waiting number ≡ Some a → words ≡ record slot.words { words = slice_set slot.words.words place word }
    → waiters (map shown_slot (take count (set slots number (record slot { words = words })))) room ≡ record seen { waiting = slice_set seen.waiting number (record a { words = slice_set a.words place word }) }
slot_set slots seen room count number place word slot a words view within waits value found changed =
    let shown = ap (λ (w : Waiters). w.waiting) view in
    let below : number < count = omega (arith, ap (λ (w : Waiters). length w.waiting) view, seen_count slots count within) in
    let same : a ≡ shown_slot slot =
    sym (get_or_from_slice_get seen.waiting number a nobody found) ∙ ap (λ (l : List Activation). get_or l number nobody) (sym shown)
    ∙ seen_at slots count number slot within below ∙ ap shown_slot (sym value) in
    let new = record slot { words = words } in
    ap (λ (l : List Slot). waiters (map shown_slot l) room) (take-set-lt count slots number new below)
    ∙ ap (λ (l : List Activation). waiters l room) (map-set shown_slot (take count slots) number new)
    ∙ ap (λ (b : Bounded). waiters (set (map shown_slot (take count slots)) number (record (shown_slot slot) { words = b.words })) room) changed
    ∙ ap (λ (w : Waiters). record w { waiting = set w.waiting number (record (shown_slot slot) { words = slice_set slot.words.words place word }) }) view
    ∙ ap (λ (b : Activation). record seen { waiting = set seen.waiting number (record b { words = slice_set b.words place word }) }) (sym same)
