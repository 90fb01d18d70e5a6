-- How the nine ended.
use Rattle.std.proofs.Common.{◌≡◌, ◌⊎◌, inl, inr, ℕ, zero, suc, ◌+◌, ◌<◌, Option, None, Some, List, [], ◌∷◌, ◌++◌, get_or, length, refl, sym, ◌∙◌, ap, subst, arith}
use Rattle.std.specs.Prelude.{map}
use Rattle.solo_base.specs.Text.{text}
use Rattle.solo_base.specs.declared.item.Item.{Item}
use Rattle.solo_base.specs.declared.outcome.Cause.{Cause}
use Rattle.solo_base.specs.declared.outcome.Outcome.TheVariants as outcome
use Rattle.solo_devices.specs.CardUnit.{IsAllTaken, items_ahead}
use Rattle.solo_devices.specs.PrinterUnit.{Gains}
use Rattle.network_run.specs.Law.{Placed}
use Rattle.real_time.specs.Awaiting.{Row}
use Rattle.real_time.proofs.Consoles.{timed}
use Rattle.real_time.specs.Deeds.{Returns, Wakes, shows_start}
use Rattle.real_time.proofs.Reaching.{holds}
use Rattle.real_time.specs.Starts.{Script, times}
use Rattle.real_time.specs.States.{Stage, Works, Ended}
use Rattle.real_time.specs.TimesLaw.{timing}
use Rattle.time_net.specs.declared.net.TimeNet.{TimeNet}
use Rattle.time_net.specs.declared.operator.Doing.{Doing}
use Rattle.time_net.specs.declared.operator.Doing.TheVariants as doing
use Rattle.time_net.specs.declared.task_proc.TaskProc.{TaskProc}
use Rattle.time_net.specs.Standing.{Does, name_at, ticks_from}
use Rattle.time_net.specs.TimeStands.{NineHaveEnded, IsReadOut, TimesStand, Tellers, all_runs, outcome_with}

-- ---- a list of eight
pub eight-of : {A : Type 0} (f : A → ℕ) (d : A) (list : List A) → length list ≡ 8
    → f (get_or list 0 d) ∷ f (get_or list 1 d) ∷ f (get_or list 2 d) ∷ f (get_or list 3 d) ∷ f (get_or list 4 d) ∷ f (get_or list 5 d)
    ∷ f (get_or list 6 d) ∷ f (get_or list 7 d) ∷ [] ≡ map f list
eight-of f d [] long = absurd (omega (arith, long))
eight-of f d (a ∷ []) long = absurd (omega (arith, long))
eight-of f d (a ∷ b ∷ []) long = absurd (omega (arith, long))
eight-of f d (a ∷ b ∷ c ∷ []) long = absurd (omega (arith, long))
eight-of f d (a ∷ b ∷ c ∷ e ∷ []) long = absurd (omega (arith, long))
eight-of f d (a ∷ b ∷ c ∷ e ∷ g ∷ []) long = absurd (omega (arith, long))
eight-of f d (a ∷ b ∷ c ∷ e ∷ g ∷ h ∷ []) long = absurd (omega (arith, long))
eight-of f d (a ∷ b ∷ c ∷ e ∷ g ∷ h ∷ i ∷ []) long = absurd (omega (arith, long))
eight-of f d (a ∷ b ∷ c ∷ e ∷ g ∷ h ∷ i ∷ j ∷ []) long = refl
eight-of f d (a ∷ b ∷ c ∷ e ∷ g ∷ h ∷ i ∷ j ∷ k ∷ more) long = absurd (omega (arith, long))

-- ---- where it has ended at one place it has at each
doing-ended : (d : Doing) (rows : List Row) (now : ℕ) (stage : Stage) (script : Script) (fault : Option Cause) → Does d rows now stage script fault
    → stage ≡ Ended → d ≡ doing.Ended
doing-ended doing.Reads rows now stage script fault does is = absurd (let at = does.0 in cc)
doing-ended (doing.Enters it) rows now stage script fault does is = absurd (let at = does.0.1 in cc)
doing-ended (doing.Answers it) rows now stage script fault does is = absurd (let at = does.0 in cc)
doing-ended (doing.Wakes place second due left) rows now stage script fault does is = absurd (by does.stage_is)
  where
    by : ((stage ≡ Works (Wakes place second due ∷ shows_start due second (name_at does.s place) ++ ticks_from does.s (place + 1) left))
        ⊎ (stage ≡ Works (Returns ∷ shows_start due second (name_at does.s place) ++ ticks_from does.s (place + 1) left))) → ⊥
    by (inl at) = cc
    by (inr at) = cc
doing-ended (doing.Starts place second left) rows now stage script fault does is = absurd (let at = does.stage_is in cc)
doing-ended doing.Closes rows now stage script fault does is = absurd (let at = does.0 in cc)
doing-ended doing.Joins rows now stage script fault does is = absurd (let at = does.0 in cc)
doing-ended (doing.Tells place) rows now stage script fault does is = absurd (let at = does.stage_is in cc)
doing-ended doing.Ends rows now stage script fault does is = absurd (let at = does.1 in cc)
doing-ended doing.Ended rows now stage script fault does is = refl

pub well-done : (fault : Option Cause) → outcome_with fault ≡ outcome.Done → fault ≡ None
well-done None is = refl
well-done (Some c) is = absurd cc

module _ {Y T : Type 0} (tells : Tellers Y T) (net : TimeNet Y T) (have : NineHaveEnded tells net) where
  has-ended : net.operator.doing ≡ doing.Ended
  has-ended =
      let s = have.at.state in
      doing-ended net.operator.doing net.operator.tasks.items net.operator.clock s.stage s.script s.fault have.at.stands.is.operator.does
      (have.ended 1 (omega arith, omega arith))

  module _ (at : Placed timing (TimesStand tells net)) where
    pub ended-stage : at.state.stage ≡ Ended
    ended-stage =
        subst (λ d. Does d net.operator.tasks.items net.operator.clock at.state.stage at.state.script at.state.fault) has-ended at.stands.is.operator.does

    pub well : outcome_with net.operator.fault ≡ outcome.Done → at.state.fault ≡ None
    well done = sym at.stands.is.operator.fault_is ∙ well-done net.operator.fault done

    pub shows : (items : List Item) → at.opening.keys ≡ Some items
        → Gains at.opening.console (tells.given net.typewriter.console.sink) (text (times items)) (outcome_with net.operator.fault ≡ outcome.Done)
    shows items told =
        let all = timed at.opening items told at.state at.reached in
        subst (λ now. Gains at.opening.console now (text (times items)) (outcome_with net.operator.fault ≡ outcome.Done)) at.stands.is.console record {
          told = λ given is. record {
            part = (all.console.told given is).part;
            now_is = (all.console.told given is).now_is;
            prefix = (all.console.told given is).prefix;
            all_is = λ done. (all.console.told given is).all_is (ended-stage, well done);
          };
          untold = all.console.untold;
        }

    pub reads : (items : List Item) → at.opening.keys ≡ Some items → outcome_with net.operator.fault ≡ outcome.Done
        → items_ahead (tells.left net.typewriter.keys.source) net.typewriter.keys.pending ≡ Some []
    reads items told done =
        let all = timed at.opening items told at.state at.reached in
        sym at.stands.is.keys ∙ (all.whole (ended-stage, well done)).keys

    pub runs : (tasks : List TaskProc) → tasks ≡ net.tasks → map (λ task. task.runs) tasks ≡ all_runs at.state
    runs tasks are =
        let h = holds at.opening at.state at.reached in
        let st = at.stands.is.tasks in
        ap (map (λ task. task.runs)) are
        ∙ by net.tasks at.state.seen (st.eight ∙ sym h.lists.0) (λ place d e below.
        (let eight = st.eight in (st.each place d (omega (arith, below, eight))).runs_are ∙ ap length (default at.state.seen place e
        (below-seen place below))))
      where
        below-seen : (place : ℕ) → place < length net.tasks → place < length at.state.seen
        below-seen place below =
            let h = holds at.opening at.state at.reached in
            let eight = at.stands.is.tasks.eight in
            let long = h.lists.0 in
            omega (arith, below, eight, long)

        default : (seen : List (List ℕ)) (place : ℕ) (e : List ℕ) → place < length seen → get_or seen place [] ≡ get_or seen place e
        default [] place e below = absurd (omega (arith, below))
        default (one ∷ seen) zero e below = refl
        default (one ∷ seen) (suc place) e below = default seen place e (omega (arith, below))

        by : (tasks : List TaskProc) (seen : List (List ℕ)) → length tasks ≡ length seen
            → ((place : ℕ) (d : TaskProc) (e : List ℕ) → place < length tasks → (get_or tasks place d).runs ≡ length (get_or seen place e))
            → map (λ task. task.runs) tasks ≡ map length seen
        by [] [] long each = refl
        by [] (one ∷ seen) long each = absurd (let no_length : 0 ≡ suc (length seen) = long in omega (arith, no_length))
        by (task ∷ tasks) [] long each = absurd (let no_length : suc (length tasks) ≡ 0 = long in omega (arith, no_length))
        by (task ∷ tasks) (one ∷ seen) long each =
            let rest = by tasks seen (omega (arith, long)) (λ place d e below. each (suc place) d e (omega (arith, below))) in
            let first = each 0 task one (omega arith) in
            cc

  pub all-taken : outcome_with net.operator.fault ≡ outcome.Done → IsAllTaken (tells.left net.typewriter.keys.source)
  all-taken done =
      let at = have.at in
      subst (λ stage. IsReadOut stage at.state.fault (tells.left net.typewriter.keys.source)) (ended-stage at) at.stands.is.read_out (well at done)
