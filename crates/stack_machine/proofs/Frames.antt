-- The words of any open activation: what a write to them changes, and what it leaves.
use Rattle.std.proofs.Common.{◌≡◌, ◌≢◌, ℕ, zero, suc, ◌<◌, ◌≤◌, List, [], ◌∷◌, length, ℤ, Some, refl, sym, ◌∙◌, ap, arith}
use Rattle.std.specs.Prelude.{slice_get, slice_index_or, slice_set}
use Rattle.std.proofs.lemmas.Option.{slice_get-get_or}
use Rattle.stack_machine.specs.States.{Activation, State}
use Rattle.stack_machine.specs.Activations.{nobody, words_from, waiting_with, own_with}
use Rattle.stack_machine.specs.Laws.{WordsAreKept}
use Rattle.stack_machine.specs.declared.state.Store.{Store}
use Rattle.stack_machine.specs.Store.{Bounded, Waiters}
use Rattle.stack_machine.specs.Shown.{shown, in_store}
use Rattle.stack_machine.specs.State.{words_at, with_words_at}

pub as_many_wait : (below : List Activation) (number : ℕ) (words : List ℤ) → length (waiting_with below number words) ≡ length below
as_many_wait [] number words = refl
as_many_wait (a ∷ above) zero words = refl
as_many_wait (a ∷ above) (suc number) words = ap suc (as_many_wait above number words)

-- ---- What was written is read, and other frames stay

back_from : (below : List Activation) (own : List ℤ) (number : ℕ) (words : List ℤ) → number ≤ length below
    → words_from (waiting_with below number words) (own_with below own number words) number ≡ words
back_from [] own zero words there = refl
back_from [] own (suc number) words there = absurd (omega arith)
back_from (a ∷ above) own zero words there = refl
back_from (a ∷ above) own (suc number) words there = back_from above own number words (omega arith)

pub back_at : (s : State) (number : ℕ) (words : List ℤ) → number ≤ length s.below → words_at (with_words_at s number words) number ≡ words
back_at s number words there = back_from s.below s.current.words number words there

others_from : (below : List Activation) (own : List ℤ) (number other : ℕ) (words : List ℤ) → other ≢ number
    → words_from (waiting_with below number words) (own_with below own number words) other ≡ words_from below own other
others_from [] own zero zero words apart = absurd (apart refl)
others_from [] own zero (suc other) words apart = refl
others_from [] own (suc number) zero words apart = refl
others_from [] own (suc number) (suc other) words apart = refl
others_from (a ∷ above) own zero zero words apart = absurd (apart refl)
others_from (a ∷ above) own zero (suc other) words apart = refl
others_from (a ∷ above) own (suc number) zero words apart = refl
others_from (a ∷ above) own (suc number) (suc other) words apart = others_from above own number other words (λ same. apart (ap suc same))

pub others_at : (s : State) (number other : ℕ) (words : List ℤ) → other ≢ number → words_at (with_words_at s number words) other ≡ words_at s other
others_at s number other words apart = others_from s.below s.current.words number other words apart

-- ---- Words written again

-- a state with these activations waiting and these own words
with_parts : State → List Activation → List ℤ → State
with_parts s below own = record s { below = below; current = record s.current { words = own } }

both_parts : (s : State) (below below' : List Activation) (own own' : List ℤ) → below ≡ below' → own ≡ own' → with_parts s below own ≡ with_parts s below' own'
both_parts s below below' own own' e f = ap (λ (b : List Activation). with_parts s b own) e ∙ ap (λ (w : List ℤ). with_parts s below' w) f

again_waiting : (below : List Activation) (number : ℕ) (first second : List ℤ)
    → waiting_with (waiting_with below number first) number second ≡ waiting_with below number second
again_waiting [] number first second = refl
again_waiting (a ∷ above) zero first second = refl
again_waiting (a ∷ above) (suc number) first second = ap (λ (b : List Activation). a ∷ b) (again_waiting above number first second)

again_own : (below : List Activation) (own : List ℤ) (number : ℕ) (first second : List ℤ)
    → own_with (waiting_with below number first) (own_with below own number first) number second ≡ own_with below own number second
again_own [] own zero first second = refl
again_own [] own (suc number) first second = refl
again_own (a ∷ above) own zero first second = refl
again_own (a ∷ above) own (suc number) first second = again_own above own number first second

pub again_at : (s : State) (number : ℕ) (first second : List ℤ) → with_words_at (with_words_at s number first) number second ≡ with_words_at s number second
unfolding with_parts
again_at s number first second = both_parts s _ _ _ _ (again_waiting s.below number first second) (again_own s.below s.current.words number first second)

-- the same words change nothing
same_waiting : (below : List Activation) (own : List ℤ) (number : ℕ) → waiting_with below number (words_from below own number) ≡ below
same_waiting [] own number = refl
same_waiting (a ∷ above) own zero = refl
same_waiting (a ∷ above) own (suc number) = ap (λ (b : List Activation). a ∷ b) (same_waiting above own number)

same_own : (below : List Activation) (own : List ℤ) (number : ℕ) → own_with below own number (words_from below own number) ≡ own
same_own [] own zero = refl
same_own [] own (suc number) = refl
same_own (a ∷ above) own zero = refl
same_own (a ∷ above) own (suc number) = same_own above own number

pub same_at : (s : State) (number : ℕ) → with_words_at s number (words_at s number) ≡ s
unfolding with_parts
same_at s number = both_parts s _ _ _ _ (same_waiting s.below s.current.words number) (same_own s.below s.current.words number)

-- a write keeps how many words there are
pub own_length : (below : List Activation) (own : List ℤ) (number : ℕ) (words : List ℤ) → length words ≡ length (words_from below own number)
    → length (own_with below own number words) ≡ length own
own_length [] own zero words same = same
own_length [] own (suc number) words same = refl
own_length (a ∷ above) own zero words same = refl
own_length (a ∷ above) own (suc number) words same = own_length above own number words same

-- ---- The activation with a number waits, or is the current one, or isn't open

pub words_waiting : (below : List Activation) (own : List ℤ) (number : ℕ) → number < length below
    → words_from below own number ≡ (slice_index_or below number nobody).words
words_waiting [] own number waits = absurd (omega arith)
words_waiting (a ∷ above) own zero waits = refl
words_waiting (a ∷ above) own (suc number) waits = words_waiting above own number (omega arith)

pub own_stays : (below : List Activation) (own : List ℤ) (number : ℕ) (words : List ℤ) → number < length below → own_with below own number words ≡ own
own_stays [] own number words waits = absurd (omega arith)
own_stays (a ∷ above) own zero words waits = refl
own_stays (a ∷ above) own (suc number) words waits = own_stays above own number words (omega arith)

pub words_own : (below : List Activation) (own : List ℤ) (number : ℕ) → number ≡ length below → words_from below own number ≡ own
words_own [] own zero last = refl
words_own [] own (suc number) last = absurd (omega arith)
words_own (a ∷ above) own zero last = absurd (omega arith)
words_own (a ∷ above) own (suc number) last = words_own above own number (omega arith)

pub own_written : (below : List Activation) (own : List ℤ) (number : ℕ) (words : List ℤ) → number ≡ length below → own_with below own number words ≡ words
own_written [] own zero words last = refl
own_written [] own (suc number) words last = absurd (omega arith)
own_written (a ∷ above) own zero words last = absurd (omega arith)
own_written (a ∷ above) own (suc number) words last = own_written above own number words (omega arith)

pub waiting_stay : (below : List Activation) (number : ℕ) (words : List ℤ) → length below ≤ number → waiting_with below number words ≡ below
waiting_stay [] number words past = refl
waiting_stay (a ∷ above) zero words past = absurd (omega arith)
waiting_stay (a ∷ above) (suc number) words past = ap (λ (b : List Activation). a ∷ b) (waiting_stay above number words (omega arith))

pub words_past : (below : List Activation) (own : List ℤ) (number : ℕ) → length below < number → words_from below own number ≡ []
words_past [] own zero past = absurd (omega arith)
words_past [] own (suc number) past = refl
words_past (a ∷ above) own zero past = absurd (omega arith)
words_past (a ∷ above) own (suc number) past = words_past above own number (omega arith)

-- a word that is changed in place, where the activation waits
pub waiting_set : (below : List Activation) (number : ℕ) (words : List ℤ) → number < length below
    → slice_set below number (record (slice_index_or below number nobody) { words = words }) ≡ waiting_with below number words
waiting_set [] number words waits = absurd (omega arith)
waiting_set (a ∷ above) zero words waits = refl
waiting_set (a ∷ above) (suc number) words waits = ap (λ (b : List Activation). a ∷ b) (waiting_set above number words (omega arith))

-- the state once a word of an activation that waits was changed
set_waiting : (s : State) (number place : ℕ) (word : ℤ) (new : List Activation) → number < length s.below
    → ((a : Activation) → slice_get s.below number ≡ Some a → new ≡ slice_set s.below number (record a { words = slice_set a.words place word }))
    → record s { below = new } ≡ with_words_at s number (slice_set (words_at s number) place word)
unfolding with_parts
set_waiting s number place word new waits changed =
    let a = slice_index_or s.below number nobody in
    let words = slice_set (words_at s number) place word in
    let same : slice_set a.words place word ≡ words = ap (λ (w : List ℤ). slice_set w place word) (sym (words_waiting s.below s.current.words number waits)) in
    let below : new ≡ waiting_with s.below number words =
    changed a (slice_get-get_or s.below number nobody waits) ∙ waiting_set s.below number (slice_set a.words place word) waits
    ∙ ap (waiting_with s.below number) same in
    both_parts s new (waiting_with s.below number words) s.current.words (own_with s.below s.current.words number words) below (sym (own_stays s.below s.current.words number words waits))

-- and once an own one was
set_own : (s : State) (number place : ℕ) (word : ℤ) (new : List ℤ) → number ≡ length s.below → new ≡ slice_set s.current.words place word
    → record s { current = record s.current { words = new } } ≡ with_words_at s number (slice_set (words_at s number) place word)
unfolding with_parts
set_own s number place word new last changed =
    let words = slice_set (words_at s number) place word in
    let own : new ≡ own_with s.below s.current.words number words =
    changed ∙ ap (λ (w : List ℤ). slice_set w place word) (sym (words_own s.below s.current.words number last))
    ∙ sym (own_written s.below s.current.words number words last) in
    both_parts s s.below (waiting_with s.below number words) new (own_with s.below s.current.words number words) (sym (waiting_stay s.below number words (omega (arith, last)))) own

-- the same, in a store
pub word_set_waiting : (s : Store) (number place : ℕ) (word : ℤ) (new : Waiters) → number < length s.below.waiting
    → ((a : Activation) → slice_get s.below.waiting number ≡ Some a → new ≡ record s.below { waiting = slice_set s.below.waiting number (record a { words = slice_set a.words place word }) })
    → record s { below = new } ≡ in_store s (with_words_at (shown s) number (slice_set (words_at (shown s) number) place word))
word_set_waiting s number place word new waits changed =
    let is = changed (slice_index_or s.below.waiting number nobody) (slice_get-get_or s.below.waiting number nobody waits) in
    ap (λ (b : Waiters). record s { below = b }) is
    ∙ ap (in_store s) (set_waiting (shown s) number place word _ waits (λ a found. ap (λ (w : Waiters). w.waiting) (sym is ∙ changed a found)))

pub word_set_own : (s : Store) (number place : ℕ) (word : ℤ) (new : Bounded) → number ≡ length s.below.waiting
    → new ≡ record s.current.words { words = slice_set s.current.words.words place word }
    → record s { current = record s.current { words = new } } ≡ in_store s (with_words_at (shown s) number (slice_set (words_at (shown s) number) place word))
word_set_own s number place word new last changed =
    ap (λ (b : Bounded). record s { current = record s.current { words = b } }) changed
    ∙ ap (in_store s) (set_own (shown s) number place word (slice_set s.current.words.words place word) last refl)

-- an activation that doesn't wait and has a word is the current one
pub last_is_open : (below : List Activation) (own : List ℤ) (number place : ℕ) → place < length (words_from below own number) → length below ≤ number
    → number ≡ length below
last_is_open [] own zero place inside past = refl
last_is_open [] own (suc number) place inside past = absurd (omega arith)
last_is_open (a ∷ above) own zero place inside past = absurd (omega arith)
last_is_open (a ∷ above) own (suc number) place inside past = ap suc (last_is_open above own number place inside (omega arith))

-- ---- The law

pub words_kept : (s : State) (number : ℕ) (words : List ℤ) → WordsAreKept s number words
unfolding with_parts
words_kept s number words = record {
  written = back_at s number words;
  others = λ other apart. others_at s number other words apart;
  own = words_own s.below s.current.words (length s.below) refl;
  own_written =
      both_parts s _ _ _ _ (waiting_stay s.below (length s.below) words (omega arith)) (own_written s.below s.current.words (length s.below) words refl);
}
