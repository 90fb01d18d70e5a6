-- The places around a circle of N.
use Rattle.std.proofs.Common.{◌≡◌, ◌≢◌, ℕ, zero, suc, ◌+◌, ◌-◌, ◌%◌, ◌<◌, ◌≤◌, inl, inr, List, [], ◌∷◌, ◌++◌, length, refl, ap, sym, ◌∙◌, add-one, zero-add, arith, get_or, Contains, drop}
use Rattle.std.proofs.Math.Nat.{suc-mod, mod_self, mod-lt, mod-eq_of_lt}
use Rattle.std.proofs.lemmas.Bool.{cases_lt}
use Rattle.queue_var.specs.Fifo.{Move, Arrival, Departure, StandsFor, arrivals}
use Rattle.queue_var.specs.Circle.{place, places, shown}

pub length-places : (N first i k : ℕ) → length (places N first i k) ≡ k
length-places N first i zero = refl
length-places N first i (suc k) = grind (arith, length-places N first (suc i) k)

place-zero : (N first : ℕ) → first < N → place N first 0 ≡ first
place-zero N first a = grind arith

-- one place more, at the end
pub places-last : (N first i k : ℕ) → places N first i (suc k) ≡ places N first i k ++ place N first (i + k) ∷ []
places-last N first i zero = grind arith
places-last N first i (suc k) =
    let e : i + suc k ≡ suc i + k = omega arith in
    rw e (ap (λ xs. place N first i ∷ xs) (places-last N first (suc i) k))

-- the next place but i is i places behind the next
pub place-step : (N first i : ℕ) → first < N → suc i ≤ N → place N first (suc i) ≡ place N (place N first 1) i
place-step N first i a b = grind arith

place-next : (N first i : ℕ) → first < N → i < N → place N first (i + 1) ≡ place N (place N first i) 1
place-next N first i a b = grind arith

pub places-step : (N first i k : ℕ) → first < N → i + k < N → places N first (suc i) k ≡ places N (place N first 1) i k
places-step N first i zero a b = refl
places-step N first i (suc k) a b =
    let here = place-step N first i a (omega arith) in
    let rest = places-step N first (suc i) k a (omega arith) in
    cc

pub get-places : (N first i k j d : ℕ) → j < k → get_or (places N first i k) j d ≡ place N first (i + j)
get-places N first i zero j d h = grind arith
get-places N first i (suc k) zero d h = grind arith
get-places N first i (suc k) (suc j) d h =
    let e : i + suc j ≡ suc i + j = omega arith in
    rw e (get-places N first (suc i) k j d (omega arith))

place-apart : (N first i j : ℕ) → first < N → i < N → j < N → i ≢ j → place N first i ≡ place N first j → ⊥
place-apart N first i j a b c ne e = grind arith

-- a place that is not among those in a row
pub not_among : (N first i k x : ℕ) → first < N → x < N → i + k ≤ N → ((j : ℕ) → i ≤ j → j < i + k → j ≢ x) → Contains (places N first i k) (place N first x) → ⊥
not_among N first i k x a b c other (j, below, same) =
    let lt : j < k = simp length-places at below in
    let is = get-places N first i k j (place N first x) lt in
    place-apart N first (i + j) x a (omega arith) b (other (i + j) (omega arith) (omega arith)) (sym is ∙ same)

-- the mod of the next number is one place further
pub mod-next : (N a : ℕ) → 0 < N → (a + 1) % N ≡ place N (a % N) 1
mod-next N a h =
    let b : a % N < N = mod-lt a h in
    let e : (a + 1) % N ≡ suc (a % N) % N = rw add-one (suc-mod a N) in
    elim (cases_lt (a % N + 1) N) as (λ _. (a + 1) % N ≡ place N (a % N) 1) [
      | inl lt ↦ (let small : suc (a % N) < N = omega arith in let same = mod-eq_of_lt small in grind (arith, e, same))
      | inr ge ↦ (let full : suc (a % N) ≡ N = omega arith in let zero_next : suc (a % N) % N ≡ 0 = rw full (mod_self N) in grind (arith, e, zero_next))
    ]

-- ---- what a FIFO shows
pub length-shown : (N first k : ℕ) → length (shown N first k).waiting ≡ k
length-shown N first k = length-places N first 0 k

pub behind : (N first k : ℕ) → (shown N first (k + 1)).waiting ≡ (shown N first k).waiting ++ (shown N first k).next ∷ []
behind N first k = rw add-one (places-last N first 0 k ∙ ap (λ j. places N first 0 k ++ place N first j ∷ []) (zero-add k))

pub fresh : (N first k : ℕ) → first < N → k < N → Contains (shown N first k).waiting (place N first k) → ⊥
fresh N first k a b = not_among N first 0 k k a b (omega arith) (λ j from below. omega arith)

pub stands-arrival : (N first k : ℕ) (before : List Move) → first < N → k < N → StandsFor N before (shown N first k) → StandsFor N (Arrival ∷ before) (shown N first (k + 1))
stands-arrival N first k before a b h =
    record {
      waiting_is = behind N first k ∙ (let w = h.waiting_is in let n = h.next_is in cc);
      next_is = place-next N first k a b ∙ ap (λ p. place N p 1) h.next_is ∙ sym (mod-next N (arrivals before) (omega arith));
    }

-- what departs is the first
pub earliest : (N first length : ℕ) → first < N → 0 < length → length ≤ N → (shown N first length).waiting ≡ first ∷ (shown N (place N first 1) (length - 1)).waiting
earliest N first zero a b c = absurd (omega arith)
earliest N first (suc k) a b c =
    let e : suc k - 1 ≡ k = omega arith in
    rw e (let p = place-zero N first a in let q = places-step N first 0 k a (omega arith) in cc)

pub next-kept : (N first length : ℕ) → first < N → 0 < length → length ≤ N → (shown N (place N first 1) (length - 1)).next ≡ (shown N first length).next
next-kept N first zero a b c = absurd (omega arith)
next-kept N first (suc k) a b c =
    let e : suc k - 1 ≡ k = omega arith in
    rw e (sym (place-step N first k a c))

pub alone : (N first length : ℕ) → first < N → 0 < length → length ≤ N → Contains (shown N (place N first 1) (length - 1)).waiting first → ⊥
alone N first zero a b c = absurd (omega arith)
alone N first (suc k) a b c =
    let e : suc k - 1 ≡ k = omega arith in
    let q = places-step N first 0 k a (omega arith) in
    rw (e, ← q) (let p = place-zero N first a in let n = not_among N first 1 k 0 a (omega arith) (omega arith) (λ j from below. omega arith) in rw p at n)

pub stands-departure : (N first length : ℕ) (before : List Move) → first < N → 0 < length → length ≤ N → StandsFor N before (shown N first length) → StandsFor N (Departure ∷ before) (shown N (place N first 1) (length - 1))
stands-departure N first length before a b c h =
    record {
      waiting_is = let f = earliest N first length a b c in let w = h.waiting_is in ap (drop 1) (sym f) ∙ ap (drop 1) w;
      next_is = next-kept N first length a b c ∙ h.next_is;
    }

pub not_empty : (N first k : ℕ) → (shown N first k).waiting ≢ [] → 0 < k
not_empty N first zero h = absurd (h refl)
not_empty N first (suc k) h = omega arith
