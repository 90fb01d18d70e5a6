-- A law.
-- The two laws of the room: each entry keeps who is inside and that writers are alone, and wakes whoever
-- gets the turn.
use Rattle.std.specs.Prelude.{◌≡◌, ℕ, ◌%◌, ◌≤◌, Bool, true, false, List, [], ◌∷◌, ◌++◌, length, slice_index_or, slice_set}
use Rattle.std.proofs.Common.{refl, sym, ap, ◌∙◌, subst, arith, length-set, get_or-set_same, get_or-set_other}
use mathlib.Core.Logic.{dite}
use native.Mathlib.Decide.{ℕ_discrete}
use Rattle.monitor_gate.specs.Kind.{with_entry, Completes, Suspends}
use Rattle.monitor_gate.specs.Lists.{with_entry_same, with_entry_other}
use Rattle.readers_writers.specs.declared.room.Use.{Use}
use Rattle.readers_writers.specs.declared.room.Use.TheVariants.{Begin, End}
use Rattle.readers_writers.specs.declared.room.Room.{Room}
use Rattle.readers_writers.specs.Room.{is_inside, is_waiting, inside_behind, IsTied, IsWoken, WakesRightly, Begins, Ends, Moves, Rests}

abbrev pub goes_in : Use → Bool
goes_in Begin = true
goes_in End = false

-- the last that a process did says whether it is inside
pub last_says : (is : Bool) (done : List Use) (use_now : Use)
    → inside_behind is (done ++ use_now ∷ []) ≡ goes_in use_now
last_says is [] Begin = refl
last_says is [] End = refl
last_says is (Begin ∷ later) use_now = last_says true later use_now
last_says is (End ∷ later) use_now = last_says false later use_now

-- of the writers, and of the readers
even_of : (P : ℕ → Type 0) → P 2 → P 4 → (q : ℕ) → 1 ≤ q → q ≤ 4 → q % 2 ≡ 0 → P q
even_of P two four q low high even =
    dite (ℕ_discrete q 2) (λ is. subst P (sym is) two) (λ ne. (let is : q ≡ 4 =
    omega arith in subst P (sym is) four))

odd_of : (P : ℕ → Type 0) → P 1 → P 3 → (q : ℕ) → 1 ≤ q → q ≤ 4 → (q % 2 ≡ 0 → ⊥) → P q
odd_of P one three q low high odd =
    dite (ℕ_discrete q 1) (λ is. subst P (sym is) one) (λ ne. (let is : q ≡ 3 =
    omega (arith, odd) in subst P (sym is) three))

both_ways : {P : Type 0} (b : Bool) → b ≡ true → b ≡ false → P
both_ways b is isnt = absurd cc

module _ (before after : Room) (lists : ℕ
    → List Use) (p : ℕ) (now : Bool) (tied : IsTied before lists) (low : 1 ≤ p) (high : p ≤ 4)
    (inside : after.inside ≡ slice_set before.inside p now) where
  own_place : is_inside p after ≡ now
  own_place = let five = tied.places.0 in ap (λ w. slice_index_or w p false) inside
      ∙ get_or-set_same before.inside p now false (omega arith)

  other_place : (q : ℕ) → (q ≡ p → ⊥) → is_inside q after ≡ is_inside q before
  other_place q ne = ap (λ w. slice_index_or w q false) inside
      ∙ get_or-set_other before.inside p q now false ne

  inside_so : (done : Use) → goes_in done ≡ now → (q : ℕ) → 1 ≤ q → q ≤ 4
      → is_inside q after ≡ inside_behind false (with_entry lists p done q)
  inside_so done says q from to = dite (ℕ_discrete q p)
      (λ is. rw is (own_place ∙ sym says ∙ sym (last_says false (lists p) done)
      ∙ ap (inside_behind false) (sym (with_entry_same lists p done))))
      (λ ne. other_place q ne ∙ tied.inside q from to
      ∙ ap (inside_behind false) (sym (with_entry_other lists p done q ne)))

begun : (before after : Room) (lists : ℕ → List Use) (p : ℕ) → IsTied before lists → Begins p before after
    → IsTied after (with_entry lists p Begin)
begun before after lists p tied moved =
    let low = moved.process.0 in let high = moved.process.1 in let may = moved.may in
    let other = other_place before after lists p true tied low high moved.inside in record {
      places = (
        ap length moved.inside ∙ length-set before.inside p true
            ∙ tied.places.0,
        ap length moved.waiting ∙ length-set before.waiting p false ∙ tied.places.1,
      );
      inside = inside_so before after lists p true tied low high moved.inside Begin refl;
      alone = λ a b a_low a_high b_low b_high even in_a in_b. dite (ℕ_discrete a p)
          (λ a_is. dite (ℕ_discrete b p) (λ b_is. b_is ∙ sym a_is) (λ b_ne.
          (let was : is_inside b before ≡ true = sym (other b b_ne)
          ∙ in_b in let readers = may.no_reader (ap (λ n. n % 2) (sym a_is) ∙ even) in
          let out : is_inside b before ≡ false = dite (ℕ_discrete (b % 2) 0)
          (λ e. even_of (λ q. is_inside q before ≡ false) may.no_writer.0 may.no_writer.1 b b_low b_high e)
          (λ o. odd_of (λ q. is_inside q before ≡ false) readers.0 readers.1 b b_low b_high o) in
          both_ways (is_inside b before) was out)))
          (λ a_ne. both_ways (is_inside a before) (sym (other a a_ne)
          ∙ in_a) (even_of
          (λ q. is_inside q before ≡ false) may.no_writer.0 may.no_writer.1 a a_low a_high even));
    }

ended : (before after : Room) (lists : ℕ → List Use) (p : ℕ) → IsTied before lists → Ends p before after
    → IsTied after (with_entry lists p End)
ended before after lists p tied moved =
    let low = moved.process.0 in let high = moved.process.1 in
    let other = other_place before after lists p false tied low high moved.inside in
    let out = own_place before after lists p false tied low high moved.inside in
    let apart : (q : ℕ) → is_inside q after ≡ true → q ≡ p
    → ⊥ = (λ q is same. both_ways (is_inside p after) (ap (λ n. is_inside n after) (sym same)
    ∙ is) out) in record {
      places = (
        ap length moved.inside ∙ length-set before.inside p false
            ∙ tied.places.0,
        ap length moved.waiting ∙ length-set before.waiting p false ∙ tied.places.1,
      );
      inside = inside_so before after lists p false tied low high moved.inside End refl;
      alone = λ a b a_low a_high b_low b_high even in_a in_b.
          tied.alone a b a_low a_high b_low b_high even (sym (other a (apart a in_a))
          ∙ in_a) (sym (other b (apart b in_b)) ∙ in_b);
    }

pub moves_tied : (before after : Room) (lists : ℕ → List Use) (p : ℕ) (entry : Use) → IsTied before lists
    → Moves p before entry after → IsTied after (with_entry lists p entry)
moves_tied before after lists p Begin tied moved = begun before after lists p tied moved
moves_tied before after lists p End tied moved = ended before after lists p tied moved

out_again : (before after : Room) (lists : ℕ → List Use) (p : ℕ) → IsTied before lists → p ≤ 4
    → after.waiting ≡ slice_set before.waiting p false → WakesRightly after
    → Completes (λ (s : Room). s.turn) is_waiting IsWoken p before after
out_again before after lists p tied high waiting woken = let five = tied.places.1 in record {
  out = ap (λ w. slice_index_or w p false) waiting
      ∙ get_or-set_same before.waiting p false false (omega arith);
  others = λ q ne. ap (λ w. slice_index_or w q false) waiting
      ∙ get_or-set_other before.waiting p q false false ne;
  woken = λ q is. let h = woken q is in (h.0, record { turn = is; may = h.1 });
}

pub moves_done : (before after : Room) (lists : ℕ → List Use) (p : ℕ) (entry : Use) → IsTied before lists
    → Moves p before entry after
    → Completes (λ (s : Room). s.turn) is_waiting IsWoken p before after
moves_done before after lists p Begin tied moved =
    out_again before after lists p tied moved.process.1 moved.waiting moved.woken
moves_done before after lists p End tied moved =
    out_again before after lists p tied moved.process.1 moved.waiting moved.woken

pub rests_tied : (before after : Room) (lists : ℕ → List Use) (p : ℕ) → IsTied before lists
    → Rests p before after → IsTied after lists
rests_tied before after lists p tied rested = record {
  places = (
    ap length rested.inside ∙ tied.places.0,
    ap length rested.waiting
        ∙ length-set before.waiting p true ∙ tied.places.1,
  );
  inside = λ q from to. ap (λ w. slice_index_or w q false) rested.inside ∙ tied.inside q from to;
  alone = λ a b a_low a_high b_low b_high even in_a in_b. tied.alone a b a_low a_high b_low b_high even
      (ap (λ w. slice_index_or w a false) (sym rested.inside)
      ∙ in_a) (ap (λ w. slice_index_or w b false) (sym rested.inside) ∙ in_b);
}

pub rests_done : (before after : Room) (lists : ℕ → List Use) (p : ℕ) → IsTied before lists
    → Rests p before after → Suspends (λ (s : Room). s.turn) is_waiting p before after
rests_done before after lists p tied rested = let five = tied.places.1 in let high =
    rested.process.1 in record {
      waiting = ap (λ w. slice_index_or w p false) rested.waiting
          ∙ get_or-set_same before.waiting p true false (omega arith);
      others = λ q ne. ap (λ w. slice_index_or w q false) rested.waiting
          ∙ get_or-set_other before.waiting p q true false ne;
      free = rested.free;
    }
