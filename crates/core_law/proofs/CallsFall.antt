-- Each event of the core lowers the calls that are left.
use Rattle.std.proofs.Common.{◌≡◌, ℕ, suc, ◌+◌, ◌*◌, ◌-◌, ◌≤◌, ◌<◌, Bool, List, ◌∷◌, ◌++◌, map, length, length-append, Option, None, Some, refl, sym, ◌∙◌, ap, arith, lit≤}
use Rattle.std.proofs.lemmas.List.{length-map}
use Rattle.solo_base.specs.declared.outcome.Outcome.{Outcome}
use Rattle.batch_procs.specs.declared.actions.Action.{Action}
use Rattle.batch_procs.specs.declared.actions.Action.TheVariants as act
use Rattle.batch_procs.specs.Parcels.{Parcel, is_last, is_ended, handed}
use Rattle.batch_procs.specs.History.{Entry, Does, LacksMemory, Delays, taken, taken_by, took, put, put_by, sent, holds, newest}
use Rattle.batch_procs.specs.Causes.{caused}
use Rattle.batch_procs.specs.Process.{Process, Follows}
use Rattle.batch_procs.specs.Machine.{step_after}
use Rattle.batch_procs.specs.Ahead.{ahead, ahead_at, ahead_by, most_of, one_if}
use Rattle.batch_procs.specs.Table.{process}
use Rattle.batch_procs.proofs.Ahead.{ahead_falls}
use Rattle.batch_procs.proofs.Falling.{unstopped-same}
use Rattle.batch_procs.proofs.PageBounds.{bounds}
use Rattle.network_law.specs.Network.{IsEnabled, happens}
use Rattle.network_law.specs.Kept.{Stands}
use Rattle.network_law.proofs.Reached.{stands-event}
use Rattle.core_law.specs.Core.{core, CoreState, CoreEvent, IsBuffer}
use Rattle.core_law.specs.Work.{weight, reads_left, calls_left, LeavesFewer}
use Rattle.core_law.proofs.Acting.{follows-of}
use Rattle.core_law.proofs.DeckFalls.{deck-falls, reads-not, leaves-same}
use Rattle.core_law.proofs.Ends.{the-five}
use Rattle.core_law.proofs.Handed.{stands-between}
use Rattle.core_law.proofs.HandedLists.{handed-append}
use Rattle.core_law.proofs.Lawful.{lawful}
use Rattle.core_law.proofs.Row.{each-process}
use Rattle.batch_procs.specs.Jobs.{Jobs, AreJobs}

module _ {L : Type 0} {J : Jobs L} (jobs : AreJobs J) where
  -- ---- what an entry costs: a delay nothing
  abbrev pub cost : Entry L → ℕ
  cost (Does a r) = 1
  cost (LacksMemory a r) = 1
  cost (Delays a) = 0

  delay-by : (heavy most : ℕ) (p : Process L) (h : List (Entry L)) (a : Action) (cause : Option Outcome)
      → ahead_by heavy most p cause (Delays a ∷ h) ≡ ahead_by heavy most p cause h
  delay-by heavy most p h a None = refl
  delay-by heavy most p h a (Some how) = ap (λ n. one_if (holds h) + n + 1) (unstopped-same J p.buffers h (Delays a ∷ h) (λ b. refl))

  process-falls : (p : ℕ) (h : List (Entry L)) (entry : Entry L) → Follows J (process J p) (entry ∷ h)
      → ahead (weight J p) (most_of J p) (process J p) (entry ∷ h) + weight J p * length (put entry) + cost entry
      ≤ ahead (weight J p) (most_of J p) (process J p) h + ((weight J p + 9) * most_of J p + 5) * length (handed (took entry))
  process-falls p h (Does a r) follows = ahead_falls J (weight J p) (most_of J p) (process J p) h (Does a r) ((the-five jobs).relays p)
      (bounds jobs p) follows tt
  process-falls p h (LacksMemory a r) follows = ahead_falls J (weight J p) (most_of J p) (process J p) h (LacksMemory a r) ((the-five jobs).relays p)
      (bounds jobs p) follows tt
  process-falls p h (Delays a) follows =
      let same : ahead (weight J p) (most_of J p) (process J p) (Delays a ∷ h) ≡ ahead (weight J p) (most_of J p) (process J p) h
      = ap (ahead_at (step_after (newest h))) (delay-by (weight J p) (most_of J p) (process J p) h a (caused h)) in
      numbers _ _ _ _ same
    where
      numbers : (a b x y : ℕ) → a ≡ b → a + x * 0 + 0 ≤ b + y * 0
      numbers a b x y e = omega (arith, e)

  -- ---- what was put and taken
  sent-more : (h : List (Entry L)) (entry : Entry L) → length (sent (entry ∷ h)) ≡ length (sent h) + length (put entry)
  sent-more h (Does a r) = length-append (sent h) (put_by a r)
  sent-more h (LacksMemory a r) = omega arith
  sent-more h (Delays a) = omega arith

  taken-more : (h : List (Entry L)) (entry : Entry L) → length (handed (taken (entry ∷ h))) ≡ length (handed (taken h)) + length (handed (took entry))
  taken-more h (Does a r) = ap length (handed-append jobs (taken h) (taken_by r)) ∙ length-append (handed (taken h)) (handed (taken_by r))
  taken-more h (LacksMemory a r) = ap length (handed-append jobs (taken h) (taken_by r)) ∙ length-append (handed (taken h)) (handed (taken_by r))
  taken-more h (Delays a) = omega arith

  -- ---- numbers
  counted : (sent taken : List (Parcel L)) (marks : List Bool) → map is_last taken ++ marks ≡ map is_last sent → length taken + length marks ≡ length sent
  counted sent taken marks e =
      let all = sym (length-append (map is_last taken) marks) ∙ ap length e in
      let a = length-map taken is_last in
      let b = length-map sent is_last in
      omega (arith, all, a, b)

  module _ (opening s : CoreState L) (event : CoreEvent L) (st : Stands (core J (process J)) opening s) (enabled : IsEnabled (core J (process J)) s event) where
    abbrev pub next_state : CoreState L
    next_state = happens (core J (process J)) s event

    pub st-next : Stands (core J (process J)) opening next_state
    st-next = stands-event (lawful jobs (the-five jobs)) opening s event st enabled

    follows-next : Follows J (process J event.process) (event.entry ∷ s.histories event.process)
    follows-next = (enabled.next, enabled.suits, follows-of jobs (process J) event.process (s.histories event.process) (st.follows event.process))

    inside : (b : ℕ) → IsBuffer b → length (handed (taken (s.histories (suc b)))) + length (s.buffers b).marks ≡ length (sent (s.histories b))
    inside b is = counted _ _ _ (stands-between jobs (the-five jobs) opening s st b is).marks.in_order

    inside-next : (b : ℕ) → IsBuffer b
        → length (handed (taken (next_state.histories (suc b)))) + length (next_state.buffers b).marks ≡ length (sent (next_state.histories b))
    inside-next b is = counted _ _ _ (stands-between jobs (the-five jobs) opening next_state st-next b is).marks.in_order

  more-inside : (t m n s more puts : ℕ) → t + m ≡ s → t + n ≡ more → more ≡ s + puts → n ≡ m + puts
  more-inside t m n s more puts a b e = omega (arith, a, b, e)

  less-inside : (t m n s more takes : ℕ) → t + m ≡ s → more + n ≡ s → more ≡ t + takes → n + takes ≡ m
  less-inside t m n s more takes a b e = omega (arith, a, b, e)

  same-inside : (t m n s : ℕ) → t + m ≡ s → t + n ≡ s → n ≡ m
  same-inside t m n s a b = omega (arith, a, b)

  -- the products of a weight
  times-most : (w s t r : ℕ) → s + t ≤ r → w * s + w * t ≤ w * r
  times-most w s t r few =
      let more : r ≡ s + t + (r - (s + t)) = omega (arith, few) in
      let all : w * r ≡ w * (s + t + (r - (s + t))) = ap (λ n. w * n) more in
      let parts : w * (s + t + (r - (s + t))) ≡ w * s + w * t + w * (r - (s + t)) = grind arith in
      plain (w * s) (w * t) (w * r) (w * (r - (s + t))) (all ∙ parts)
    where
      plain : (x y z k : ℕ) → z ≡ x + y + k → x + y ≤ z
      plain x y z k e = omega (arith, e)

  times-more : (w n m puts : ℕ) → n ≡ m + puts → w * n ≡ w * m + w * puts
  times-more w n m puts e = (let parts : w * (m + puts) ≡ w * m + w * puts = grind arith in ap (λ n. w * n) e ∙ parts)

  times-less : (w n m takes : ℕ) → n + takes ≡ m → w * n + w * takes ≡ w * m
  times-less w n m takes e = sym (times-more w m n takes (sym e))

  times-same : (w n m : ℕ) → n ≡ m → w * n ≡ w * m
  times-same w n m e = ap (λ n. w * n) e

  -- By the number of the process: what it takes, it itself, and what it puts. The products stand for what may come of the deck and of what is inside.
  falls-1 : (d d' a b a2 a3 a4 a5 m1 n1 m2 n2 m3 n3 m4 n4 takes puts c : ℕ) → b + puts + c ≤ a + takes → d' + takes ≤ d → n1 ≡ m1 + puts → n2 ≡ m2 → n3 ≡ m3
      → n4 ≡ m4 → d' + (b + a2 + a3 + a4 + a5) + (n1 + n2 + n3 + n4) + c ≤ d + (a + a2 + a3 + a4 + a5) + (m1 + m2 + m3 + m4)
  falls-1 d d' a b a2 a3 a4 a5 m1 n1 m2 n2 m3 n3 m4 n4 takes puts c falls deck one two three four = omega (arith, falls, deck, one, two, three, four)

  falls-2 : (d d' a b a1 a3 a4 a5 m1 n1 m2 n2 m3 n3 m4 n4 takes puts c : ℕ) → b + puts + c ≤ a + takes → d' ≡ d → n1 + takes ≡ m1 → n2 ≡ m2 + puts → n3 ≡ m3
      → n4 ≡ m4 → d' + (a1 + b + a3 + a4 + a5) + (n1 + n2 + n3 + n4) + c ≤ d + (a1 + a + a3 + a4 + a5) + (m1 + m2 + m3 + m4)
  falls-2 d d' a b a1 a3 a4 a5 m1 n1 m2 n2 m3 n3 m4 n4 takes puts c falls deck one two three four = omega (arith, falls, deck, one, two, three, four)

  falls-3 : (d d' a b a1 a2 a4 a5 m1 n1 m2 n2 m3 n3 m4 n4 takes puts c : ℕ) → b + puts + c ≤ a + takes → d' ≡ d → n1 ≡ m1 → n2 + takes ≡ m2 → n3 ≡ m3 + puts
      → n4 ≡ m4 → d' + (a1 + a2 + b + a4 + a5) + (n1 + n2 + n3 + n4) + c ≤ d + (a1 + a2 + a + a4 + a5) + (m1 + m2 + m3 + m4)
  falls-3 d d' a b a1 a2 a4 a5 m1 n1 m2 n2 m3 n3 m4 n4 takes puts c falls deck one two three four = omega (arith, falls, deck, one, two, three, four)

  falls-4 : (d d' a b a1 a2 a3 a5 m1 n1 m2 n2 m3 n3 m4 n4 takes puts c : ℕ) → b + puts + c ≤ a + takes → d' ≡ d → n1 ≡ m1 → n2 ≡ m2 → n3 + takes ≡ m3
      → n4 ≡ m4 + puts → d' + (a1 + a2 + a3 + b + a5) + (n1 + n2 + n3 + n4) + c ≤ d + (a1 + a2 + a3 + a + a5) + (m1 + m2 + m3 + m4)
  falls-4 d d' a b a1 a2 a3 a5 m1 n1 m2 n2 m3 n3 m4 n4 takes puts c falls deck one two three four = omega (arith, falls, deck, one, two, three, four)

  falls-5 : (d d' a b a1 a2 a3 a4 m1 n1 m2 n2 m3 n3 m4 n4 takes puts c : ℕ) → b + puts + c ≤ a + takes → d' ≡ d → n1 ≡ m1 → n2 ≡ m2 → n3 ≡ m3
      → n4 + takes ≡ m4 → d' + (a1 + a2 + a3 + a4 + b) + (n1 + n2 + n3 + n4) + c ≤ d + (a1 + a2 + a3 + a4 + a) + (m1 + m2 + m3 + m4)
  falls-5 d d' a b a1 a2 a3 a4 m1 n1 m2 n2 m3 n3 m4 n4 takes puts c falls deck one two three four = omega (arith, falls, deck, one, two, three, four)

  buffer-is : (b : ℕ) → 1 ≤ b → b < 5 → IsBuffer b
  buffer-is b low high = (low, high)

  abbrev one : IsBuffer 1
  one = buffer-is 1 (lit≤ tt) (lit≤ tt)

  abbrev two : IsBuffer 2
  two = buffer-is 2 (lit≤ tt) (lit≤ tt)

  abbrev three : IsBuffer 3
  three = buffer-is 3 (lit≤ tt) (lit≤ tt)

  abbrev four : IsBuffer 4
  four = buffer-is 4 (lit≤ tt) (lit≤ tt)

  module _ (opening s : CoreState L) (st : Stands (core J (process J)) opening s) (entry : Entry L) (gained : List ℕ) (cards left : ℕ)
      (leaves : LeavesFewer entry cards left) where
    abbrev event_of : ℕ → CoreEvent L
    event_of p = record { process = p; entry = entry; gained = gained }

    abbrev Falls : ℕ → Type 0
    Falls p = IsEnabled (core J (process J)) s (event_of p)
        → calls_left J left (happens (core J (process J)) s (event_of p)) + cost entry ≤ calls_left J cards s

    abbrev puts : ℕ
    puts = length (put entry)

    abbrev takes : ℕ
    takes = length (handed (took entry))

    same-at : (p b : ℕ) (enabled : IsEnabled (core J (process J)) s (event_of p)) → IsBuffer b
        → (happens (core J (process J)) s (event_of p)).histories (suc b) ≡ s.histories (suc b) → (happens (core J (process J)) s (event_of p)).histories b
        ≡ s.histories b
        → length ((happens (core J (process J)) s (event_of p)).buffers b).marks ≡ length (s.buffers b).marks
    same-at p b enabled is above own =
        let now = inside-next opening s (event_of p) st enabled b is in
        let before = inside opening s (event_of p) st enabled b is in
        same-inside _ _ _ _ before (ap (λ h. length (handed (taken h)) + length ((happens (core J (process J)) s (event_of p)).buffers b).marks) (sym above)
        ∙ now
        ∙ ap (λ h. length (sent h)) own)

    more-at : (p : ℕ) (enabled : IsEnabled (core J (process J)) s (event_of p)) → IsBuffer p
        → (happens (core J (process J)) s (event_of p)).histories (suc p) ≡ s.histories (suc p)
        → (happens (core J (process J)) s (event_of p)).histories p ≡ entry ∷ s.histories p
        → length ((happens (core J (process J)) s (event_of p)).buffers p).marks ≡ length (s.buffers p).marks + puts
    more-at p enabled is above own =
        let now = inside-next opening s (event_of p) st enabled p is in
        let before = inside opening s (event_of p) st enabled p is in
        more-inside _ _ _ _ _ puts before
        (ap (λ h. length (handed (taken h)) + length ((happens (core J (process J)) s (event_of p)).buffers p).marks) (sym above) ∙ now
        ∙ ap (λ h. length (sent h)) own)
        (sent-more (s.histories p) entry)

    less-at : (p b : ℕ) (enabled : IsEnabled (core J (process J)) s (event_of p)) → IsBuffer b → suc b ≡ p
        → (happens (core J (process J)) s (event_of p)).histories (suc b) ≡ entry ∷ s.histories (suc b)
        → (happens (core J (process J)) s (event_of p)).histories b ≡ s.histories b
        → length ((happens (core J (process J)) s (event_of p)).buffers b).marks + takes ≡ length (s.buffers b).marks
    less-at p b enabled is number above own =
        let now = inside-next opening s (event_of p) st enabled b is in
        let before = inside opening s (event_of p) st enabled b is in
        less-inside _ _ _ _ _ takes before
        (ap (λ h. length (handed (taken h)) + length ((happens (core J (process J)) s (event_of p)).buffers b).marks) (sym above) ∙ now
        ∙ ap (λ h. length (sent h)) own)
        (taken-more (s.histories (suc b)) entry)

    deck-same : (p : ℕ) → IsEnabled (core J (process J)) s (event_of p) → ((process J p).takes ≡ act.ReadCard → ⊥)
        → reads_left (caused (s.histories 1)) (is_ended (taken (s.histories 1))) left ≡ reads_left (caused (s.histories 1)) (is_ended (taken
        (s.histories 1))) cards
    deck-same p enabled not =
        ap (reads_left (caused (s.histories 1)) (is_ended (taken (s.histories 1))))
        (leaves-same jobs entry cards left (reads-not jobs p (s.histories p) _ not enabled.next) leaves)

    -- what may come of what is inside a buffer, behind the event
    abbrev Inside : ℕ → ℕ → ℕ
    Inside p b = length ((happens (core J (process J)) s (event_of p)).buffers b).marks

    abbrev Before : ℕ → ℕ
    Before b = length (s.buffers b).marks

    first-falls : Falls 1
    first-falls enabled =
        let follows = follows-next opening s (event_of 1) st enabled in
        falls-1 _ _ _ _ _ _ _ _ (weight J 1 * Before 1) (weight J 1 * Inside 1 1) (weight J 2 * Before 2) (weight J 2 * Inside 1 2) (weight J 3 * Before 3)
        (weight J 3 * Inside 1 3) (weight J 4 * Before 4) (weight J 4 * Inside 1 4) (weight J 0 * takes) (weight J 1 * puts) (cost entry)
        (process-falls 1 (s.histories 1) entry follows)
        (times-most (weight J 0) _ takes _ (deck-falls jobs (s.histories 1) cards left entry follows leaves))
        (times-more (weight J 1) (Inside 1 1) (Before 1) puts (more-at 1 enabled one refl refl))
        (times-same (weight J 2) _ _ (same-at 1 2 enabled two refl refl))
        (times-same (weight J 3) _ _ (same-at 1 3 enabled three refl refl)) (times-same (weight J 4) _ _ (same-at 1 4 enabled four refl refl))

    second-falls : Falls 2
    second-falls enabled =
        falls-2 _ _ _ _ _ _ _ _ (weight J 1 * Before 1) (weight J 1 * Inside 2 1) (weight J 2 * Before 2) (weight J 2 * Inside 2 2) (weight J 3 * Before 3)
        (weight J 3 * Inside 2 3) (weight J 4 * Before 4) (weight J 4 * Inside 2 4) (weight J 1 * takes) (weight J 2 * puts) (cost entry)
        (process-falls 2 (s.histories 2) entry (follows-next opening s (event_of 2) st enabled))
        (times-same (weight J 0) _ _ (deck-same 2 enabled (λ e. cc)))
        (times-less (weight J 1) (Inside 2 1) (Before 1) takes (less-at 2 1 enabled one refl refl refl))
        (times-more (weight J 2) (Inside 2 2) (Before 2) puts (more-at 2 enabled two refl refl))
        (times-same (weight J 3) _ _ (same-at 2 3 enabled three refl refl)) (times-same (weight J 4) _ _ (same-at 2 4 enabled four refl refl))

    third-falls : Falls 3
    third-falls enabled =
        falls-3 _ _ _ _ _ _ _ _ (weight J 1 * Before 1) (weight J 1 * Inside 3 1) (weight J 2 * Before 2) (weight J 2 * Inside 3 2) (weight J 3 * Before 3)
        (weight J 3 * Inside 3 3) (weight J 4 * Before 4) (weight J 4 * Inside 3 4) (weight J 2 * takes) (weight J 3 * puts) (cost entry)
        (process-falls 3 (s.histories 3) entry (follows-next opening s (event_of 3) st enabled))
        (times-same (weight J 0) _ _ (deck-same 3 enabled (λ e. cc))) (times-same (weight J 1) _ _ (same-at 3 1 enabled one refl refl))
        (times-less (weight J 2) (Inside 3 2) (Before 2) takes (less-at 3 2 enabled two refl refl refl))
        (times-more (weight J 3) (Inside 3 3) (Before 3) puts (more-at 3 enabled three refl refl))
        (times-same (weight J 4) _ _ (same-at 3 4 enabled four refl refl))

    fourth-falls : Falls 4
    fourth-falls enabled =
        falls-4 _ _ _ _ _ _ _ _ (weight J 1 * Before 1) (weight J 1 * Inside 4 1) (weight J 2 * Before 2) (weight J 2 * Inside 4 2) (weight J 3 * Before 3)
        (weight J 3 * Inside 4 3) (weight J 4 * Before 4) (weight J 4 * Inside 4 4) (weight J 3 * takes) (weight J 4 * puts) (cost entry)
        (process-falls 4 (s.histories 4) entry (follows-next opening s (event_of 4) st enabled))
        (times-same (weight J 0) _ _ (deck-same 4 enabled (λ e. cc))) (times-same (weight J 1) _ _ (same-at 4 1 enabled one refl refl))
        (times-same (weight J 2) _ _ (same-at 4 2 enabled two refl refl))
        (times-less (weight J 3) (Inside 4 3) (Before 3) takes (less-at 4 3 enabled three refl refl refl))
        (times-more (weight J 4) (Inside 4 4) (Before 4) puts (more-at 4 enabled four refl refl))

    fifth-falls : Falls 5
    fifth-falls enabled =
        falls-5 _ _ _ _ _ _ _ _ (weight J 1 * Before 1) (weight J 1 * Inside 5 1) (weight J 2 * Before 2) (weight J 2 * Inside 5 2) (weight J 3 * Before 3)
        (weight J 3 * Inside 5 3) (weight J 4 * Before 4) (weight J 4 * Inside 5 4) (weight J 4 * takes) (weight J 5 * puts) (cost entry)
        (process-falls 5 (s.histories 5) entry (follows-next opening s (event_of 5) st enabled))
        (times-same (weight J 0) _ _ (deck-same 5 enabled (λ e. cc))) (times-same (weight J 1) _ _ (same-at 5 1 enabled one refl refl))
        (times-same (weight J 2) _ _ (same-at 5 2 enabled two refl refl)) (times-same (weight J 3) _ _ (same-at 5 3 enabled three refl refl))
        (times-less (weight J 4) (Inside 5 4) (Before 4) takes (less-at 5 4 enabled four refl refl refl))

  pub calls-fall : (opening s : CoreState L) (st : Stands (core J (process J)) opening s) (event : CoreEvent L) (cards left : ℕ)
      → LeavesFewer event.entry cards left
      → IsEnabled (core J (process J)) s event → calls_left J left (happens (core J (process J)) s event) + cost event.entry ≤ calls_left J cards s
  calls-fall opening s st event cards left leaves enabled =
      each-process (Falls opening s st event.entry event.gained cards left leaves) event.process enabled.one
      (first-falls opening s st event.entry event.gained cards left leaves) (second-falls opening s st event.entry event.gained cards left leaves)
      (third-falls opening s st event.entry event.gained cards left leaves) (fourth-falls opening s st event.entry event.gained cards left leaves)
      (fifth-falls opening s st event.entry event.gained cards left leaves) enabled
