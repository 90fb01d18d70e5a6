-- Calls of the interface, as the batch answers them.
use Rattle.std.proofs.Common.{◌≡◌, ℕ, zero, suc, ◌+◌, ◌-◌, ◌<◌, Bool, true, false, ◌&&◌, Option, Some, None, inl, inr, List, [], ◌∷◌, ◌++◌, map, drop, ℤ, pos, ◌+ℤ◌, refl, sym, ◌∙◌, ap, add-zero, add-one, arith}
use Rattle.std.specs.Prelude.{◌⊎◌, reverse, flat_map}
use Rattle.std.proofs.lemmas.Grind.{flat_map-append, reverse_onto}
use Rattle.std.proofs.lemmas.List.{map-append}
use Rattle.std.proofs.lemmas.Int.{ints}
use Rattle.solo_base.specs.Arithmetic.{is_byte, are_bytes}
use Rattle.solo_base.specs.Replies.{results_in}
use Rattle.solo_base.specs.RunOutcome.{Ends}
use Rattle.solo_base.specs.declared.outcome.ProgResult.TheVariants as result
use Rattle.solo_base.specs.declared.system_call.SysCall.{SysCall}
use Rattle.solo_base.specs.declared.system_call.SysCall.TheVariants as calls
use Rattle.solo_base.specs.declared.system_call.SysReply.{SysReply}
use Rattle.solo_base.specs.declared.system_call.SysReply.TheVariants as replies
use Rattle.solo_base.specs.declared.interface.Procedure.{Procedure}
use Rattle.solo_base.specs.declared.interface.Procedure.TheVariants as row
use Rattle.pascal_mean.specs.Situation.{Place, Situation, Course, Part, Gives, and_then, with_call, answered_by}
use Rattle.pascal_mean.specs.Variables.{stored, ArrayPlace, element_at, elements_from, whole_array}
use Rattle.pascal_mean.specs.Calls.{Given, Value, Alias, Elements, first_value, variables_in, arrays_in, array_read, set_array, set_variables, set_by, after_call, interface_value}
use Rattle.pascal_mean.specs.Batch.{characters_of, next_character, but_the_first, batch_reply, input_after, batch_answers}
use Rattle.pascal_evaluate.specs.declared.run.Made.{Made}
use Rattle.pascal_evaluate.specs.declared.run.Made.TheVariants as made
use Rattle.pascal_evaluate.specs.declared.stop.Stop.TheVariants as stop
use Rattle.pascal_evaluate.specs.SeenStore.{seen_made, reads, last_alias, alias_or, first_elements}
use Rattle.pascal_evaluate.specs.Ran.{IsStopped}

-- ---- The input that is left

pub left : List ℕ → List SysCall → List ℕ
left input [] = input
left input (call ∷ more) = left (input_after input call) more

answers_to : (input : List ℕ) (before : List SysCall) (call : SysCall)
    → batch_answers input (before ++ call ∷ []) ≡ Some (batch_reply (left input before) call)
unfolding left
answers_to input [] call = refl
answers_to input (first ∷ []) call = refl
answers_to input (first ∷ next ∷ more) call = answers_to (input_after input first) (next ∷ more) call

drop_none : (n : ℕ) → drop {A = ℕ} n [] ≡ []
drop_none zero = refl
drop_none (suc n) = refl

drop_next : (n : ℕ) (input : List ℕ) → drop n (but_the_first input) ≡ drop (n + 1) input
drop_next n [] = rw add-one (drop_none n)
drop_next n (code ∷ rest) = rw add-one refl

pub left_is : (input : List ℕ) (before : List Made) → left input (map seen_made before) ≡ drop (reads before) input
unfolding left
left_is input [] = refl
left_is input (made.Read ∷ more) = left_is (but_the_first input) more ∙ drop_next (reads more) input
left_is input (made.Write code ∷ more) = left_is input more
left_is input (made.WriteInt number ∷ more) = left_is input more

-- ---- What a reply sets

no_variable : (ps : List Place) (now : Situation) → set_variables ps [] now ≡ now
no_variable [] now = refl
no_variable (p ∷ more) now = refl

no_element : (arrays : List ArrayPlace) (now : Situation) → set_array arrays [] now ≡ now
no_element [] now = refl
no_element (a ∷ more) now = refl

first_of : List Place → Option Place
first_of [] = None
first_of (p ∷ more) = Some p

set_one : Option Place → ℤ → Situation → Situation
set_one None v now = now
set_one (Some p) v now = stored p v now

set_first : (ps : List Place) (v : ℤ) (now : Situation) → set_variables ps (v ∷ []) now ≡ set_one (first_of ps) v now
unfolding first_of set_one
set_first [] v now = refl
set_first (p ∷ more) v now = no_variable more (stored p v now)

first_behind : (ps : List Place) (p : Place) → first_of (ps ++ p ∷ []) ≡ alias_or (first_of ps) (Alias p)
unfolding first_of
first_behind [] p = refl
first_behind (q ∷ more) p = refl

none_else : (last : Option Place) (v : ℤ) → alias_or last (Value v) ≡ last
none_else None v = refl
none_else (Some p) v = refl

none_else_too : (last : Option Place) (a : ArrayPlace) → alias_or last (Elements a) ≡ last
none_else_too None a = refl
none_else_too (Some p) a = refl

last_is_first : (given : List Given) → last_alias given ≡ first_of (reverse (variables_in given))
unfolding first_of
last_is_first [] = refl
last_is_first (Value v ∷ more) = none_else (last_alias more) v ∙ last_is_first more
last_is_first (Elements a ∷ more) = none_else_too (last_alias more) a ∙ last_is_first more
last_is_first (Alias p ∷ more) =
    ap (λ last. alias_or last (Alias p)) (last_is_first more)
    ∙ sym (first_behind (reverse (variables_in more)) p)
    ∙ ap first_of (sym (reverse_onto (variables_in more) p []))

-- the last variable gets the one value of a reply
pub sets_last : (given : List Given) (p : Place) (v : ℤ) (now : Situation) → last_alias given ≡ Some p
    → set_variables (reverse (variables_in given)) (v ∷ []) now ≡ stored p v now
unfolding set_one
sets_last given p v now is =
    set_first (reverse (variables_in given)) v now ∙ ap (λ last. set_one last v now) (sym (last_is_first given) ∙ is)

pub sets_none : (given : List Given) (v : ℤ) (now : Situation) → last_alias given ≡ None
    → set_variables (reverse (variables_in given)) (v ∷ []) now ≡ now
unfolding set_one
sets_none given v now is =
    set_first (reverse (variables_in given)) v now ∙ ap (λ last. set_one last v now) (sym (last_is_first given) ∙ is)

-- ---- Calls

abbrev taken : List Given → SysReply → Part ℤ
taken given reply now = Gives (first_value (results_in reply)) (set_by reply given now)

abbrev then_taken : SysCall → List Given → Situation → Option SysReply → Course ℤ
then_taken call given now reply = and_then (answered_by reply (with_call call now)) (taken given)

answered : (input : List ℕ) (call : SysCall) (given : List Given) (now : Situation) (reply : SysReply) → batch_reply (left input now.made) call ≡ reply
    → after_call (batch_answers input) (Some call) given now ≡ then_taken call given now (Some reply)
answered input call given now reply is = ap (then_taken call given now) (answers_to input now.made call ∙ ap Some is)

same_ticks : (now : Situation) → record now { ticks = now.ticks + 0 } ≡ now
same_ticks now = ap (λ ticks. let n : Situation = record now { ticks = ticks } in n) (add-zero now.ticks)

-- a call that the batch takes
pub done : (input : List ℕ) (call : SysCall) (given : List Given) (now : Situation) → ((left : List ℕ) → batch_reply left call ≡ replies.Done)
    → after_call (batch_answers input) (Some call) given now ≡ Gives (pos 0) (with_call call now)
done input call given now is =
    answered input call given now replies.Done (is (left input now.made))
    ∙ ap (Gives (pos 0)) (no_variable (reverse (variables_in given)) (set_array (arrays_in given) []
    (record now { made = now.made ++ call ∷ []; ticks = now.ticks + 0 }))
    ∙ no_element (arrays_in given) (record now { made = now.made ++ call ∷ []; ticks = now.ticks + 0 }) ∙ same_ticks (with_call call now))

-- the next character, which the last variable gets
pub character_read : (input : List ℕ) (before : List Made) (given : List Given) (now : Situation) → now.made ≡ map seen_made before
    → after_call (batch_answers input) (Some calls.Read) given now
    ≡ Gives (pos (next_character (drop (reads before) input)))
    (set_variables (reverse (variables_in given)) (pos (next_character (drop (reads before) input)) ∷ []) (with_call calls.Read now))
character_read input before given now is =
    let there : left input now.made ≡ drop (reads before) input = ap (left input) is ∙ left_is input before in
    let code = next_character (drop (reads before) input) in
    let set : Situation → Course ℤ = λ n. Gives (pos code) (set_variables (reverse (variables_in given)) (pos code ∷ []) n) in
    answered input calls.Read given now (replies.Char code) (ap (λ l. replies.Char (next_character l)) there)
    ∙ ap set (no_element (arrays_in given) (record now { made = now.made ++ calls.Read ∷ []; ticks = now.ticks + 0 }) ∙ same_ticks (with_call calls.Read now))

no_characters : (before : List SysCall) (call : SysCall) → characters_of call ≡ [] → flat_map characters_of (before ++ call ∷ [])
    ≡ flat_map characters_of before
no_characters before call quiet =
    flat_map-append characters_of before (call ∷ []) ∙ ap (λ l. flat_map characters_of before ++ (l ++ [])) quiet
    ∙ nothing_behind (flat_map characters_of before) where
      nothing_behind : (xs : List ℕ) → xs ++ [] ≡ xs
      nothing_behind [] = refl
      nothing_behind (x ∷ more) = ap (λ l. x ∷ l) (nothing_behind more)

-- a call that the batch refuses
pub refused : (input : List ℕ) (call : SysCall) (given : List Given) (now : Situation) → ((left : List ℕ) → batch_reply left call ≡ replies.CallError)
    → characters_of call ≡ [] → IsStopped (after_call (batch_answers input) (Some call) given now) (stop.Over result.CallError) now
refused input call given now is quiet = (
  Ends result.CallError now.line now.ticks (now.made ++ call ∷ []),
  answered input call given now replies.CallError (is (left input now.made)),
  (refl, refl, refl, no_characters now.made call quiet),
)

-- the rows that are refused whatever they are given
abbrev pub IsRefused : Procedure → Type 0
IsRefused row.Read = ⊥
IsRefused row.Write = ⊥
IsRefused row.WriteInt = ⊥
IsRefused row.Display = ⊥
IsRefused row.Put = ⊥
IsRefused row.Accept = Unit {0}
IsRefused row.Open = Unit {0}
IsRefused row.Close = Unit {0}
IsRefused row.Get = Unit {0}
IsRefused row.Length = Unit {0}
IsRefused row.Lookup = Unit {0}
IsRefused row.ReadArg = Unit {0}
IsRefused row.WriteArg = Unit {0}
IsRefused row.Run = Unit {0}

pub are_refused : (p : Procedure) → (p ≡ row.Accept) ⊎ ((p ≡ row.Open) ⊎ ((p ≡ row.Close) ⊎ ((p ≡ row.Get) ⊎ ((p ≡ row.Length) ⊎ ((p
    ≡ row.Lookup) ⊎ ((p ≡ row.ReadArg) ⊎ ((p ≡ row.WriteArg) ⊎ (p ≡ row.Run))))))))
    → IsRefused p
are_refused p (inl is) = rw is tt
are_refused p (inr (inl is)) = rw is tt
are_refused p (inr (inr (inl is))) = rw is tt
are_refused p (inr (inr (inr (inl is)))) = rw is tt
are_refused p (inr (inr (inr (inr (inl is))))) = rw is tt
are_refused p (inr (inr (inr (inr (inr (inl is)))))) = rw is tt
are_refused p (inr (inr (inr (inr (inr (inr (inl is))))))) = rw is tt
are_refused p (inr (inr (inr (inr (inr (inr (inr (inl is)))))))) = rw is tt
are_refused p (inr (inr (inr (inr (inr (inr (inr (inr is)))))))) = rw is tt

pub row_refused : (input : List ℕ) (p : Procedure) (given : List Given) (now : Situation) (limit : ℕ) → IsRefused p
    → IsStopped (interface_value (batch_answers input) limit p given now) (stop.Over result.CallError) now
row_refused input row.Read given now limit is = absurd is
row_refused input row.Write given now limit is = absurd is
row_refused input row.WriteInt given now limit is = absurd is
row_refused input row.Display given now limit is = absurd is
row_refused input row.Put given now limit is = absurd is
row_refused input row.Accept given now limit is = refused input _ given now (λ left. refl) refl
row_refused input row.Open given now limit is = refused input _ given now (λ left. refl) refl
row_refused input row.Close given now limit is = refused input _ given now (λ left. refl) refl
row_refused input row.Get given now limit is = refused input _ given now (λ left. refl) refl
row_refused input row.Length given now limit is = refused input _ given now (λ left. refl) refl
row_refused input row.Lookup given now limit is = refused input _ given now (λ left. refl) refl
row_refused input row.ReadArg given now limit is = refused input _ given now (λ left. refl) refl
row_refused input row.WriteArg given now limit is = refused input _ given now (λ left. refl) refl
row_refused input row.Run given now limit is = refused input _ given now (λ left. refl) refl

-- ---- What is kept of the calls

pub pushed : (before after : List Made) (m : Made) (call : SysCall) → after ≡ before ++ m ∷ [] → seen_made m ≡ call
    → map seen_made after ≡ map seen_made before ++ call ∷ []
pushed before after m call is seen =
    ap (map seen_made) is ∙ map-append seen_made before (m ∷ []) ∙ ap (λ c. map seen_made before ++ c ∷ []) seen

-- ---- The array among arguments

pub array_first : (given : List Given) (a : ArrayPlace) (now : Situation) → first_elements given ≡ Some a → array_read (arrays_in given) now ≡ whole_array a now
array_first [] a now is = absurd cc
array_first (Value v ∷ more) a now is = array_first more a now is
array_first (Alias p ∷ more) a now is = array_first more a now is
array_first (Elements b ∷ more) a now is = let same : b ≡ a = cc in ap (λ x. whole_array x now) same

pub array_none : (given : List Given) (now : Situation) → first_elements given ≡ None → array_read (arrays_in given) now ≡ []
array_none [] now is = refl
array_none (Value v ∷ more) now is = array_none more now is
array_none (Alias p ∷ more) now is = array_none more now is
array_none (Elements b ∷ more) now is = absurd cc

-- ---- The words of an array

next_index : (low : ℤ) (place : ℕ) → (low +ℤ pos place) +ℤ pos 1 ≡ low +ℤ pos (place + 1)
next_index low place = omega (arith, ints)

-- the words from a place on are those at the place and behind it
pub words_at : (a : ArrayPlace) (low : ℤ) (place size : ℕ) (now : Situation) → place < size
    → are_bytes (elements_from a (low +ℤ pos place) (size - place) now)
    ≡ (is_byte (element_at a (low +ℤ pos place) now) && are_bytes (elements_from a (low +ℤ pos (place + 1)) (size - (place + 1)) now))
words_at a low place size now within =
    let more : size - place ≡ suc (size - (place + 1)) = omega arith in
    rw (more, next_index low place) refl

and_false : (b c : Bool) → b ≡ false → (b && c) ≡ false
and_false true c is = absurd cc
and_false false c is = refl

and_true : (b c : Bool) → b ≡ true → (b && c) ≡ c
and_true true c is = refl
and_true false c is = absurd cc

module _ (a : ArrayPlace) (low : ℤ) (place size : ℕ) (now : Situation) (within : place < size) where
  pub no_byte_at : is_byte (element_at a (low +ℤ pos place) now) ≡ false → are_bytes (elements_from a (low +ℤ pos place) (size - place) now) ≡ false
  no_byte_at is =
      words_at a low place size now within
      ∙ and_false (is_byte (element_at a (low +ℤ pos place) now)) (are_bytes (elements_from a (low +ℤ pos (place + 1)) (size - (place + 1)) now)) is

  pub byte_at : is_byte (element_at a (low +ℤ pos place) now) ≡ true
      → are_bytes (elements_from a (low +ℤ pos (place + 1)) (size - (place + 1)) now) ≡ are_bytes (elements_from a (low +ℤ pos place) (size - place) now)
  byte_at is =
      sym (words_at a low place size now within
      ∙ and_true (is_byte (element_at a (low +ℤ pos place) now)) (are_bytes (elements_from a (low +ℤ pos (place + 1)) (size - (place + 1)) now)) is)
