-- A law.
-- The three of the chain meet what the law asks. The ghost members of `ShortChain` cite it, so it stands here.
use Rattle.std.proofs.Common.{◌≡◌, inl, inr, ◌<◌, ℕ, suc, List, [], ◌∷◌, Option, None, Some, refl, sym, ◌∙◌, subst, arith, lit≤}
use Rattle.std.specs.List.{AllByRecursion}
use Rattle.std.proofs.lemmas.Bool.Decides.{eqb_tells}
use Rattle.solo_base.specs.declared.outcome.Side.{Side}
use Rattle.solo_base.specs.declared.outcome.Side.TheVariants.{Sender, Receiver}
use Rattle.solo_base.specs.declared.outcome.Outcome.{Outcome}
use Rattle.solo_base.specs.declared.outcome.Outcome.TheVariants as outcome
use Rattle.queue_var.specs.Sides.{other}
use Rattle.network_law.specs.Acts.{Delayed, Told}
use Rattle.network_law.specs.Network.{IsOne}
use Rattle.place_law.specs.Process.{given_cause}
use Rattle.place_law.specs.Table.{network_of, PassesHere, StopsOwn, IsToldAt, MovesNothing, IsPlaced}
use Rattle.replay_law.specs.Arranged.{ThreadsAreARun}
use Rattle.replay_law.specs.Replay.{GoesSo, AreOwned, IsReplayable, AreRanks}
use Rattle.replay_law.specs.Tables.{AtBuffer, IsThreaded}
use Rattle.replay_law.proofs.Placed.{replayable}
use Rattle.replay_law.proofs.Schedule.{one-run}
use Rattle.chain_replay.specs.Chain.{Action, Puts, Takes, Stop, Ended, Reply, Done, Number, Stopped, seat, call, went_by, Fits, cause_of, ends_so, view, Place, Taking, Putting, Over, first_does, first_behind, second_does, second_behind, third_does, third_behind, table, IsBuffer, rank, openings, chain}

module _ (numbers : List ℕ) where
  abbrev One : ℕ → Type 0
  One p = IsOne (network_of (table numbers)) p

  abbrev does : (p : ℕ) → ((table numbers).process p).Place → Action
  does p = ((table numbers).process p).does

  pub each : (P : ℕ → Type 0) (p : ℕ) → One p → P 1 → P 2 → P 3 → P p
  each P p is one two three =
      elim (eqb_tells p 1) as (λ _. P p) [
        | inl a ↦ subst P (sym a.1) one
        | inr a ↦ elim (eqb_tells p 2) as (λ _. P p) [
          | inl c ↦ subst P (sym c.1) two
          | inr c ↦ subst P (sym (last p is a.1 c.1)) three
        ]
      ] where
        last : (p : ℕ) → One p → (p ≡ 1 → ⊥) → (p ≡ 2 → ⊥) → p ≡ 3
        last p is a c = (let low = is.0 in let high = is.1 in omega (arith, a, c, low, high))

  b-1 : IsBuffer 1
  b-1 = (lit≤ tt, lit≤ tt)

  b-2 : IsBuffer 2
  b-2 = (lit≤ tt, lit≤ tt)

  -- ---- at each place
  first-passes : (at : List ℕ) → PassesHere seat 1 (call 1 (first_does at)) × AtBuffer IsBuffer (call 1 (first_does at))
  first-passes [] = (tt, tt)
  first-passes (n ∷ later) = (refl, b-1)

  second-passes : (at : Place) → PassesHere seat 2 (call 2 (second_does at)) × AtBuffer IsBuffer (call 2 (second_does at))
  second-passes Taking = (refl, b-1)
  second-passes (Putting n) = (refl, b-2)
  second-passes Over = (tt, tt)

  third-passes : (at : Place) → PassesHere seat 3 (call 3 (third_does at)) × AtBuffer IsBuffer (call 3 (third_does at))
  third-passes Taking = (refl, b-2)
  third-passes (Putting n) = (tt, tt)
  third-passes Over = (tt, tt)

  abbrev Passes_here : ℕ → Type 0
  Passes_here p = (at : ((table numbers).process p).Place)
      → PassesHere seat p (((table numbers).process p).calls (does p at)) × AtBuffer IsBuffer (((table numbers).process p).calls (does p at))

  passes : (p : ℕ) → One p → Passes_here p
  passes p one = each Passes_here p one first-passes second-passes third-passes

  -- ---- stops and ends
  abbrev Own : ℕ → Type 0
  Own p = AllByRecursion (StopsOwn seat p ((table numbers).process p).calls view.stop) ((table numbers).process p).buffers

  own : (p : ℕ) → One p → Own p
  own p one =
      each Own p one (record { side = Sender; seated = refl; is = refl }, tt)
      (record { side = Receiver; seated = refl; is = refl }, (record { side = Sender; seated = refl; is = refl }, tt))
      (record { side = Receiver; seated = refl; is = refl }, tt)

  same-done : (how : Outcome) → Some outcome.Done ≡ Some how → how ≡ outcome.Done
  same-done how e = cc

  first-last : (at : List ℕ) (how : Outcome) → ends_so (first_does at) ≡ Some how
      → (how ≡ outcome.Done) × ((reply : Reply) → ends_so (first_does (first_behind at reply)) ≡ Some how)
  first-last [] how e = (same-done how e, λ reply. e)
  first-last (n ∷ later) how e = absurd cc

  second-last : (at : Place) (how : Outcome) → ends_so (second_does at) ≡ Some how
      → (how ≡ outcome.Done) × ((reply : Reply) → ends_so (second_does (second_behind at reply)) ≡ Some how)
  second-last Taking how e = absurd cc
  second-last (Putting n) how e = absurd cc
  second-last Over how e = (same-done how e, λ reply. e)

  third-last : (at : Place) (how : Outcome) → ends_so (third_does at) ≡ Some how
      → (how ≡ outcome.Done) × ((reply : Reply) → ends_so (third_does (third_behind at reply)) ≡ Some how)
  third-last Taking how e = absurd cc
  third-last (Putting n) how e = (same-done how e, λ reply. e)
  third-last Over how e = (same-done how e, λ reply. e)

  abbrev Lasts : ℕ → Type 0
  Lasts p = (at : ((table numbers).process p).Place) (how : Outcome) → ends_so (does p at) ≡ Some how
      → (how ≡ outcome.Done) × ((reply : Reply) → ends_so (does p (((table numbers).process p).behind at reply)) ≡ Some how)

  lasts : (p : ℕ) → One p → Lasts p
  lasts p one = each Lasts p one first-last second-last third-last

  -- ---- causes
  abbrev Causes : ℕ → Type 0
  Causes p = (at : ((table numbers).process p).Place) (action : Action) (reply : Reply)
      → given_cause view ((table numbers).process p) at action reply ≡ cause_of action reply

  or-none : (old : Option Outcome) → Rattle.place_law.specs.Process.or_new old None ≡ old
  or-none None = refl
  or-none (Some how) = refl

  causes : (p : ℕ) → One p → Causes p
  causes p one =
      each Causes p one (λ at a r. or-none (cause_of a r)) (λ at a r. or-none (cause_of a r)) (λ at a r. or-none (cause_of a r))

  not-done : (action : Action) (reply : Reply) → cause_of action reply ≡ Some outcome.Done → ⊥
  not-done action Stopped e = cc
  not-done action Done e = cc
  not-done action (Number n) e = cc

  quiet : (action : Action) (reply : Reply) (how : Outcome) → Fits action reply → ends_so action ≡ Some how → cause_of action reply ≡ None
  quiet (Ended why) Done how fits e = refl
  quiet (Ended why) reply how fits e = absurd fits
  quiet action reply how fits e = absurd cc

  told-at : (p : ℕ) (action : Action) (reply : Reply) → Fits action reply → cause_of action reply ≡ Some outcome.Stopped
      → IsToldAt (call p action) (went_by action reply)
  told-at p (Puts b n) Stopped fits e = tt
  told-at p (Takes b) Stopped fits e = tt
  told-at p action Done fits e = absurd cc
  told-at p action (Number n) fits e = absurd cc
  told-at p action reply fits e = absurd fits

  abbrev CallsSo : ℕ → Type 0
  CallsSo p = (action : Action) → ((table numbers).process p).calls action ≡ call p action

  calls-so : (p : ℕ) → One p → CallsSo p
  calls-so p one = each CallsSo p one (λ action. refl) (λ action. refl) (λ action. refl)

  answered : (action : Action) (reply : Reply) → went_by action reply ≡ Delayed → ⊥
  answered (Puts b n) Done e = cc
  answered (Takes b) (Number n) e = cc
  answered action Stopped e = cc
  answered action reply e = cc

  stop-moves : (b : ℕ) (reply : Reply) → MovesNothing (went_by (Stop b) reply)
  stop-moves b Stopped = tt
  stop-moves b reply = tt

  goes : (p : ℕ) (action : Action) (reply : Reply) → Fits action reply → GoesSo (call p action) (went_by action reply)
  goes p (Puts b n) Done fits = tt
  goes p (Puts b n) Stopped fits = tt
  goes p (Takes b) (Number n) fits = tt
  goes p (Takes b) Stopped fits = tt
  goes p (Stop b) Done fits = tt
  goes p (Ended how) Done fits = tt
  goes p action reply fits = absurd fits

  heeds : (action : Action) (reply : Reply) → Fits action reply → went_by action reply ≡ Told → (how : Outcome) × (cause_of action reply ≡ Some how)
  heeds action Stopped fits e = (outcome.Stopped, refl)
  heeds (Puts b n) Done fits e = absurd cc
  heeds (Takes b) (Number n) fits e = absurd cc
  heeds action reply fits e = absurd cc

  placed : IsPlaced (table numbers)
  placed = record {
    passes = λ p one at. (passes p one at).0;
    stops = own;
    some = λ p one. each (λ p. ((table numbers).process p).buffers ≡ [] → ⊥) p one (λ e. cc) (λ e. cc) (λ e. cc);
    ends = λ p how one. calls-so p one (Ended how);
    ends_so = λ how. refl;
    goes_on = λ b. refl;
    stop_kept = λ b reply may. may;
    stop_prompt = λ b may. may;
    stop_moves_not = stop-moves;
    last = λ p one at how e. (lasts p one at how e).0;
    stays = λ p one at reply how e. (lasts p one at how e).1 reply;
    quiet = λ p one at action reply how fits e. causes p one at action reply ∙ quiet action reply how fits e;
    not_done = λ p one at action reply e. not-done action reply (sym (causes p one at action reply) ∙ e);
    told = λ p one at action reply fits e. subst (λ c. IsToldAt c (went_by action reply)) (sym (calls-so p one action))
        (told-at p action reply fits (sym (causes p one at action reply) ∙ e));
    answered = answered;
    lack_fits = λ action reply may. absurd may;
  }

  -- ---- what its threads ask besides
  threaded : IsThreaded (table numbers) IsBuffer
  threaded = record {
    placed = placed;
    places = λ p one at. (passes p one at).1;
    buffers = λ p one. each (λ p. AllByRecursion IsBuffer ((table numbers).process p).buffers) p one (b-1, tt) (b-1, (b-2, tt)) (b-2, tt);
    seats = seated;
    apart = λ b is e. not-next b e;
    goes = λ p action reply one fits. subst (λ c. GoesSo c (went_by action reply)) (sym (calls-so p one action)) (goes p action reply fits);
    heeds = heeds;
  } where
    seated : (b : ℕ) (side : Side) → IsBuffer b → One (seat b side)
    seated b Sender is = (is.0, (let below = is.1 in omega (arith, below)))
    seated b Receiver is = (omega arith, is.1)

    not-next : (b : ℕ) → b ≡ suc b → ⊥
    not-next b e = omega (arith, e)

  pub ranked : AreRanks (network_of (table numbers)) IsBuffer rank
  ranked = record { falls = falls } where
    falls : (b : ℕ) (side : Side) (c : ℕ) (of : Side) → IsBuffer b → IsBuffer c → seat b (other side) ≡ seat c of → (b ≡ c → ⊥) → rank c of < rank b side
    falls b Sender c Sender at there faces differ = (let below = there.1 in omega (arith, faces, below))
    falls b Sender c Receiver at there faces differ = absurd (omega (arith, faces, differ))
    falls b Receiver c Sender at there faces differ = absurd (differ faces)
    falls b Receiver c Receiver at there faces differ = omega (arith, faces)

  no-devices : AreOwned (network_of (table numbers)) (λ p d e. Unit {0})
  no-devices = record {
    itself = λ p d. tt;
    allowed = λ p h d e entry gained one follows next owns allowed. allowed;
    own = λ p h d e entry gained one follows next owns. tt;
    others = λ q p h d e entry gained one follows next differ allowed owns. tt;
  }

  pub three-replayable : IsReplayable (network_of (table numbers)) IsBuffer (λ p d e. Unit {0})
  three-replayable = replayable threaded no-devices

  pub three-are-a-run : ThreadsAreARun (chain numbers)
  three-are-a-run ran beside = one-run three-replayable beside openings rank ranked
