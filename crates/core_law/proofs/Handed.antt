-- What the sender of a buffer sent and its receiver took stand at the buffer.
use Rattle.std.proofs.Common.{◌≡◌, ℕ, suc, ◌≤◌, subst, arith}
use Rattle.solo_base.specs.declared.outcome.Side.TheVariants.{Sender}
use Rattle.batch_procs.specs.Parcels.{is_last, handed}
use Rattle.batch_procs.specs.History.{taken, sent}
use Rattle.batch_procs.specs.Process.{Process}
use Rattle.network_law.specs.Kept.{StandsFor, Stands, passed}
use Rattle.core_law.specs.Core.{core, CoreState, IsBuffer}
use Rattle.core_law.proofs.Row.{IsRow}
use Rattle.core_law.proofs.Acting.{follows-of}
use Rattle.core_law.proofs.Passed.{passed-sent, passed-taken}
use Rattle.batch_procs.specs.Jobs.{Jobs, AreJobs}

module _ {L : Type 0} {J : Jobs L} (jobs : AreJobs J) where
  not-first : (b : ℕ) → 1 ≤ b → suc b ≡ 1 → ⊥
  not-first b low e = omega (arith, low, e)

  pub stands-between : {row : ℕ → Process L} (laws : IsRow jobs row) (opening s : CoreState L) → Stands (core J row) opening s → (b : ℕ) → IsBuffer b
      → StandsFor is_last (sent (s.histories b)) (handed (taken (s.histories (suc b)))) (s.buffers b)
  stands-between {row} laws opening s st b is =
      let sent_is = passed-sent jobs laws b is (s.histories b) (follows-of jobs row b (s.histories b) (st.follows b)) in
      let taken_is = passed-taken jobs laws (suc b) (not-first b is.0) (s.histories (suc b)) (follows-of jobs row (suc b) (s.histories (suc b))
      (st.follows (suc b))) in
      subst (λ st. StandsFor is_last st (handed (taken (s.histories (suc b)))) (s.buffers b)) sent_is
      (subst (λ tk. StandsFor is_last (passed (core J row) s b Sender) tk (s.buffers b)) taken_is (st.buffers.hand_over b))
