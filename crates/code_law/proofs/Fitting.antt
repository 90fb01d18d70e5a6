-- That the replies fit is said of the meaning alone.
use Rattle.std.proofs.Common.{◌≡◌, ℕ, List, [], ◌∷◌, ◌++◌, refl, sym, ◌∙◌, subst}
use Rattle.std.proofs.lemmas.List.{append_assoc}
use Rattle.solo_base.specs.declared.system_call.SysCall.{SysCall}
use Rattle.solo_base.specs.declared.system_call.SysReply.{SysReply}
use Rattle.solo_base.specs.Fits.{Fits}
use Rattle.solo_base.specs.RunOutcome.{Waits}
use Rattle.stack_code.specs.CodeLists.{CodeLists, IsCode}
use Rattle.stack_code.specs.Rules.{IsGood}
use Rattle.stack_machine.specs.States.{State}
use Rattle.stack_machine.specs.Machine.{start_state, answered}
use Rattle.stack_machine.specs.Run.{LeadsToCall, Replied, Runs, AreFitting}
use Rattle.stack_machine.proofs.Pauses.{one_call}
use Rattle.stack_machine.proofs.Rounds.{replied_more}
use Rattle.stack_machine.proofs.Outcomes.{one_run}
use Rattle.pascal_tree.specs.Program.{Program}
use Rattle.pascal_mean.specs.Meaning.{meaning}
use Rattle.pascal_mean.specs.MoreReplies.{FitTheMeaning}
use Rattle.pascal_code.specs.Code.{code_of}
use Rattle.code_law.specs.Suited.{AreSuited}
use Rattle.code_law.proofs.Whole.{compiled_runs}

-- a list that fits, and one reply more that fits where it ends
fitting_more : (c : CodeLists) (limit : ℕ) (s t : State) (used : List SysReply) (made : List SysCall) (reply : SysReply) → AreFitting c limit s used
    → Replied c limit s used made t
    → ((call : SysCall) (u : State) → LeadsToCall c limit t call u → Fits call reply) → AreFitting c limit s (used ++ reply ∷ [])
fitting_more c limit s t [] [] reply fitting same fits = λ call u leads. (fits call u (subst (λ v. LeadsToCall c limit v call u) same leads), tt)
fitting_more c limit s t [] (d ∷ made) reply fitting replied fits = absurd replied
fitting_more c limit s t (r ∷ used) [] reply fitting replied fits = absurd replied
fitting_more c limit s t (r ∷ used) (d ∷ made) reply fitting replied fits = λ call u leads.
    let same = one_call c limit s replied.0 u d call replied.1 leads in (
      (fitting call u leads).0,
      fitting_more c limit (answered c u r) t used made reply (fitting call u leads).1
          (subst (λ v. Replied c limit (answered c v r) used made t) same.0 replied.2) fits,
    )

module _ (p : Program) (limit : ℕ) (suited : AreSuited p) (code : IsCode (code_of p)) (good : IsGood (code_of p)) (all : List SysReply)
    (fit : FitTheMeaning p limit all) where
  abbrev c : CodeLists
  c = code_of p

  -- what is left of the replies fits the machine that got the others
  from_there : (left used : List SysReply) (made : List SysCall) (s : State) → all ≡ used ++ left → AreFitting c limit (start_state c) used
      → Replied c limit (start_state c) used made s → AreFitting c limit s left
  from_there [] used made s split fitting replied = tt
  from_there (reply ∷ left) used made s split fitting replied = λ call t leads.
      let means : (d : SysCall) (u : State) → LeadsToCall c limit s d u → Fits d reply = λ d u there.
      fit used left reply made d split (one_run c limit used (meaning p limit used) (Waits (made ++ d ∷ []))
      (compiled_runs p limit used suited code good fitting) (made, d, s, u, refl, replied, there)) in (
        means call t leads,
        from_there left (used ++ reply ∷ []) (made ++ call ∷ []) (answered c t reply) (split ∙ sym (append_assoc used (reply ∷ []) left))
            (fitting_more c limit (start_state c) s used made reply fitting replied means)
            (replied_more c limit (start_state c) s t used made reply call replied leads),
      )

  -- the theorem, with nothing of the machine in its premise
  pub runs_as_meant : Runs c limit all (meaning p limit all)
  runs_as_meant = compiled_runs p limit all suited code good (from_there all [] [] (start_state c) refl tt refl)
