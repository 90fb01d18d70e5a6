-- The queues of a resource as processes come and go.
use Rattle.std.proofs.Common.{◌≡◌, ◌≢◌, ◌⊎◌, inl, inr, ℕ, suc, ◌<◌, Option, None, Some, List, [], ◌∷◌, ◌++◌, length, option_to_list, slice_set, get_or-set_other, get_or-set_same, refl, sym, ◌∙◌, ap, append_assoc, arith, Contains}
use Rattle.std.proofs.lemmas.List.{append-nil}
use Rattle.std.proofs.lemmas.Bool.Decides.{eqb_tells}
use Rattle.std.specs.List.{AllByRecursion}
use Rattle.queue_var.specs.declared.turn.Turn.{Turn}
use Rattle.queue_var.specs.declared.turn.Turn.TheVariants.{Free, Handed}
use Rattle.queue_var.specs.Turn.{handed}
use Rattle.resource_mon.specs.Claims.{IsNoneOf}
use Rattle.resource_mon.specs.Queued.{Queued, StandsIn, in_queue, processes_at}

-- a position that isn't contained is none of them
pub none_of : (positions : List ℕ) (k : ℕ) → (Contains positions k → ⊥) → IsNoneOf positions k
none_of [] k absent = tt
none_of (j ∷ js) k absent = (
  (λ e. absent (0, (grind arith), e)),
  none_of js k (λ (i, below, same). absent (suc i, (grind arith), same)),
)

processes-set : (queues : List (Option ℕ)) (positions : List ℕ) (k : ℕ) (held : Option ℕ) → IsNoneOf positions k → processes_at (slice_set queues k held) positions ≡ processes_at queues positions
processes-set queues [] k held none = refl
processes-set queues (j ∷ js) k held none =
    let ne : j ≢ k = none.0 in
    let here : in_queue (slice_set queues k held) j ≡ in_queue queues j = rw get_or-set_other refl in
    let rest = processes-set queues js k held none.1 in
    cc

processes-more : (queues : List (Option ℕ)) (positions : List ℕ) (k : ℕ) → processes_at queues (positions ++ k ∷ []) ≡ processes_at queues positions ++ option_to_list (in_queue queues k)
processes-more queues [] k = append-nil _
processes-more queues (j ∷ js) k =
    ap (λ ps. option_to_list (in_queue queues j) ++ ps) (processes-more queues js k) ∙ sym (append_assoc (option_to_list (in_queue queues j)) (processes_at queues js) (option_to_list (in_queue queues k)))

-- one more waits, behind the others
pub processes-delayed : (queues : List (Option ℕ)) (positions : List ℕ) (k p : ℕ) → k < length queues → IsNoneOf positions k → processes_at (slice_set queues k (Some p)) (positions ++ k ∷ []) ≡ processes_at queues positions ++ p ∷ []
processes-delayed queues positions k p inside none =
    let here : in_queue (slice_set queues k (Some p)) k ≡ Some p = rw get_or-set_same refl in
    processes-more (slice_set queues k (Some p)) positions k
    ∙ ap (λ ps. ps ++ option_to_list (in_queue (slice_set queues k (Some p)) k)) (processes-set queues positions k (Some p) none)
    ∙ ap (λ held. processes_at queues positions ++ option_to_list held) here

pub processes-resumed : (queues : List (Option ℕ)) (positions : List ℕ) (k : ℕ) → IsNoneOf positions k → processes_at (slice_set queues k None) positions ≡ processes_at queues positions
processes-resumed queues positions k none = processes-set queues positions k None none

-- ---- each position in use keeps its process
in_use-set : (N : ℕ) (queues : List (Option ℕ)) (positions : List ℕ) (k : ℕ) (held : Option ℕ) → IsNoneOf positions k → AllByRecursion (λ k. (k < N) × ((p : ℕ) × (in_queue queues k ≡ Some p))) positions → AllByRecursion (λ j. (j < N) × ((p : ℕ) × (in_queue (slice_set queues k held) j ≡ Some p))) positions
in_use-set N queues [] k held none all = tt
in_use-set N queues (j ∷ js) k held none all =
    let ne : j ≢ k = none.0 in
    let here : in_queue (slice_set queues k held) j ≡ in_queue queues j = rw get_or-set_other refl in
    ((all.0.0, (all.0.1.0, here ∙ all.0.1.1)), in_use-set N queues js k held none.1 all.1)

in_use-more : (P : ℕ → Type 0) (positions : List ℕ) (k : ℕ) → AllByRecursion P positions → P k → AllByRecursion P (positions ++ k ∷ [])
in_use-more P [] k all here = (here, tt)
in_use-more P (j ∷ js) k all here = (all.0, in_use-more P js k all.1 here)

none_of-more : (positions : List ℕ) (j k : ℕ) → IsNoneOf (positions ++ j ∷ []) k → IsNoneOf positions k × (j ≢ k)
none_of-more [] j k none = (tt, none.0)
none_of-more (i ∷ is) j k none = let rest = none_of-more is j k none.1 in ((none.0, rest.0), rest.1)

-- a process arrives at a position that was unused
pub queued-delayed : (N : ℕ) (queues : List (Option ℕ)) (positions : List ℕ) (turn : Turn ℕ) (holder : Option ℕ) (k p : ℕ) → Queued N queues positions turn holder → ((j : ℕ) → turn ≢ Handed j) → length queues ≡ N → k < N → IsNoneOf positions k → Queued N (slice_set queues k (Some p)) (positions ++ k ∷ []) turn holder
queued-delayed N queues positions turn holder k p q free long below none =
    let inside : k < length queues = omega arith in
    record {
      in_use = in_use-more _ positions k (in_use-set N queues positions k (Some p) none q.in_use) (below, (p, (rw get_or-set_same refl)));
      unused = λ j lt other not_handed.
          (let parts = none_of-more positions k j other in
          let ne : j ≢ k = λ e. parts.1 (sym e) in
          rw get_or-set_other (q.unused j lt parts.0 not_handed));
      handed = λ j h. absurd (free j h);
    }

-- the first departs, and the turn is handed to it
pub queued-departed : (N : ℕ) (queues : List (Option ℕ)) (k : ℕ) (positions : List ℕ) (turn : Turn ℕ) (holder : Option ℕ) → Queued N queues (k ∷ positions) turn holder → ((j : ℕ) → turn ≢ Handed j) → IsNoneOf positions k → Queued N queues positions (Handed k) (in_queue queues k)
queued-departed N queues k positions turn holder q free none =
    record {
      in_use = q.in_use.1;
      unused = λ j lt other not_handed. q.unused j lt ((λ e. not_handed (ap Handed e)), other) (free j);
      handed = λ j h. (let e : j ≡ k = cc in rw e (q.in_use.0.0, none, refl, q.in_use.0.1));
    }

-- the process to which the turn was handed leaves its queue
pub queued-resumed : (N : ℕ) (queues : List (Option ℕ)) (positions : List ℕ) (k : ℕ) (holder : Option ℕ) → Queued N queues positions (Handed k) holder → length queues ≡ N → Queued N (slice_set queues k None) positions Free holder
queued-resumed N queues positions k holder q long =
    let h = q.handed k refl in
    record {
      in_use = in_use-set N queues positions k None h.1 q.in_use;
      unused = λ j lt other not_handed.
          (elim (eqb_tells j k) as (λ _. in_queue (slice_set queues k None) j ≡ None) [
            | inl same ↦ (let e : j ≡ k = same.1 in let inside : k < length queues = omega arith in rw e (rw get_or-set_same refl))
            | inr differs ↦ (let ne : j ≢ k = differs.1 in rw get_or-set_other (q.unused j lt other (λ e. ne (cc))))
          ]);
      handed = λ j e. cc;
    }

-- A turn that is handed to nobody is free.
pub turn_is_free : (N : ℕ) (queues : List (Option ℕ)) (positions : List ℕ) (turn : Turn ℕ) (holder : Option ℕ) → Queued N queues positions turn holder → handed turn (in_queue queues) ≡ None → (k : ℕ) → turn ≢ Handed k
turn_is_free N queues positions turn holder q free k e =
    let h = q.handed k e in
    let none = rw e at free in
    let same = h.2 in
    let some = h.3.1 in
    cc

-- A process that may enter and has no claim finds the turn free.
pub free_turn : (N : ℕ) (queues : List (Option ℕ)) (positions : List ℕ) (turn : Turn ℕ) (holder : Option ℕ) (p : ℕ) → Queued N queues positions turn holder → (handed turn (in_queue queues) ≡ None) ⊎ (handed turn (in_queue queues) ≡ Some p) → IsNoneOf (option_to_list holder ++ processes_at queues positions) p → (k : ℕ) → turn ≢ Handed k
free_turn N queues positions turn holder p q (inl free) none k e = turn_is_free N queues positions turn holder q free k e
free_turn N queues positions turn holder p q (inr mine) none k e =
    let h = q.handed k e in
    let held : holder ≡ Some p = sym h.2 ∙ (rw e at mine) in
    let apart = rw held at none in
    apart.0 refl

-- a position that is unused
pub empty_at : (N : ℕ) (queues : List (Option ℕ)) (positions : List ℕ) (turn : Turn ℕ) (holder : Option ℕ) (k : ℕ) → Queued N queues positions turn holder → ((j : ℕ) → turn ≢ Handed j) → k < N → IsNoneOf positions k → in_queue queues k ≡ None
empty_at N queues positions turn holder k q free below none = q.unused k below none (free k)

-- who stands at the first position
pub first_at : (N : ℕ) (queues : List (Option ℕ)) (positions : List ℕ) (turn : Turn ℕ) (holder : Option ℕ) (k : ℕ) (later : List ℕ) → Queued N queues positions turn holder → positions ≡ k ∷ later → (p : ℕ) × (in_queue queues k ≡ Some p)
first_at N queues positions turn holder k later q e = let all = rw e at q.in_use in all.0.1

pub processes-departed : (queues : List (Option ℕ)) (k p : ℕ) (later : List ℕ) → in_queue queues k ≡ Some p → processes_at queues (k ∷ later) ≡ p ∷ processes_at queues later
processes-departed queues k p later e = ap (λ held. option_to_list held ++ processes_at queues later) e

pub length-processes : (N : ℕ) (queues : List (Option ℕ)) (positions : List ℕ) → AllByRecursion (λ k. (k < N) × ((p : ℕ) × (in_queue queues k ≡ Some p))) positions → length (processes_at queues positions) ≡ length positions
length-processes N queues [] all = refl
length-processes N queues (k ∷ ks) all =
    let here = processes-departed queues k all.0.1.0 ks all.0.1.1 in
    ap length here ∙ ap suc (length-processes N queues ks all.1)

-- A turn stays with nobody when one more waits.
pub handed-delayed : (queues : List (Option ℕ)) (turn : Turn ℕ) (k : ℕ) (held : Option ℕ) → ((j : ℕ) → turn ≢ Handed j) → handed turn (in_queue (slice_set queues k held)) ≡ handed turn (in_queue queues)
handed-delayed queues Free k held free = refl
handed-delayed queues (Handed j) k held free = absurd (free j refl)

-- ---- a process that neither has the resource nor waits for it
none-held : (held : Option ℕ) (others : List ℕ) (p : ℕ) → IsNoneOf (option_to_list held ++ others) p → held ≡ Some p → ⊥
none-held None others p none is = cc
none-held (Some q) others p none is = none.0 cc

none-others : (held : Option ℕ) (others : List ℕ) (p : ℕ) → IsNoneOf (option_to_list held ++ others) p → IsNoneOf others p
none-others None others p none = none
none-others (Some q) others p none = none.1

pub none-both : (held : Option ℕ) (others : List ℕ) (p : ℕ) → held ≢ Some p → IsNoneOf others p → IsNoneOf (option_to_list held ++ others) p
none-both None others p apart none = none
none-both (Some q) others p apart none = ((λ e. apart (ap Some e)), none)

-- A process that stands at none of these positions isn't in a queue at one of them.
apart : (queues : List (Option ℕ)) (positions : List ℕ) (k p : ℕ) → in_queue queues k ≡ Some p → IsNoneOf (processes_at queues positions) p → IsNoneOf positions k
apart queues [] k p held none = tt
apart queues (j ∷ js) k p held none = (
  (λ same. none-held (in_queue queues j) (processes_at queues js) p none (ap (in_queue queues) same ∙ held)),
  apart queues js k p held (none-others (in_queue queues j) (processes_at queues js) p none),
)

nowhere : (N : ℕ) (queues : List (Option ℕ)) (positions : List ℕ) (p : ℕ) → length queues ≡ N → AllByRecursion (λ k. (k < N) × ((q : ℕ) × (in_queue queues k ≡ Some q))) positions
    → (StandsIn queues p → ⊥) → IsNoneOf (processes_at queues positions) p
nowhere N queues [] p long all none = tt
nowhere N queues (k ∷ ks) p long all none =
    let below = all.0.0 in
    none-both (in_queue queues k) (processes_at queues ks) p (λ held. none (k, omega arith, held)) (nowhere N queues ks p long all.1 none)

module _ (N : ℕ) (queues : List (Option ℕ)) (positions : List ℕ) (turn : Turn ℕ) (holder : Option ℕ) (p : ℕ) (q : Queued N queues positions turn holder) (long : length queues ≡ N) where
  pub no_claim : holder ≢ Some p → (StandsIn queues p → ⊥) → IsNoneOf (option_to_list holder ++ processes_at queues positions) p
  no_claim differs none = none-both holder (processes_at queues positions) p differs (nowhere N queues positions p long q.in_use none)

  pub in_no_queue : handed turn (in_queue queues) ≡ None → IsNoneOf (option_to_list holder ++ processes_at queues positions) p → StandsIn queues p → ⊥
  in_no_queue free none stands =
      let below : stands.0 < N = let inside = stands.1 in omega arith in
      let empty = q.unused stands.0 below (apart queues positions stands.0 p stands.2 (none-others holder (processes_at queues positions) p none)) (turn_is_free N queues positions turn holder q free stands.0) in
      let held = stands.2 in
      cc
