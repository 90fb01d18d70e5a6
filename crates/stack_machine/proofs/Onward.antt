-- A program that goes on by itself.
use Rattle.std.proofs.Common.{◌≡◌, ℕ, zero, suc, ◌<◌, Some, None, List, [], ℤ, pos, refl, sym, ◌∙◌, ap, arith, subst}
use Rattle.std.proofs.lemmas.Option.{none-some, same_Some}
use Rattle.std.specs.Prelude.{replicate, slice_get}
use Rattle.stack_code.specs.declared.instr.Instr.{Instr}
use Rattle.solo_base.specs.declared.system_call.SysCall.{SysCall}
use Rattle.stack_code.specs.CodeLists.{CodeLists, IsCode, routine_at}
use Rattle.stack_code.specs.Rules.{IsGood}
use Rattle.stack_machine.specs.States.{Activation, State}
use Rattle.stack_machine.specs.declared.state.Finish.{Finish}
use Rattle.stack_machine.specs.State.{Goes, Asks, Stops, Lacks}
use Rattle.stack_machine.specs.Machine.{effect, next, next_by, next_of}
use Rattle.stack_machine.specs.Run.{Moves, LeadsToCall, LeadsToEnd}
use Rattle.stack_machine.specs.Safe.{IsSound, IsRunning}
use Rattle.stack_machine.specs.Left.{left_to_run}
use Rattle.stack_machine.proofs.Measure.{goes_less, asks_here}
use Rattle.stack_machine.proofs.Safety.{never_lacks, stays_running, stops_within_limit, begins_sound}

-- one instruction more
pub moves_more : (c : CodeLists) (limit steps : ℕ) (s t u : State) → Moves c limit steps s t → next c limit t ≡ Goes u → Moves c limit (suc steps) s u
moves_more c limit zero s t u same goes = (u, ap (next c limit) same ∙ goes, refl)
moves_more c limit (suc steps) s t u (mid, first, others) goes = (mid, first, moves_more c limit steps mid t u others goes)

-- the program came from one state to another by itself, and runs on from there
pub record IsUnderWay (c : CodeLists) (limit : ℕ) (s t : State) : Type 0 where
  pub good : IsGood c
  pub steps : ℕ
  pub moves : Moves c limit steps s t
  pub runs : t.ended ≡ None
  pub here : IsRunning c limit t

-- what the instruction does that the code has at the program's place
pub next_here : (c : CodeLists) (limit : ℕ) (s t : State) (i : Instr) → IsUnderWay c limit s t → slice_get c.instrs t.current.place ≡ Some i → next c limit t ≡ effect c limit t i.op i.a i.b
unfolding next
next_here c limit s t i way found = ap (next_of c limit t) way.runs ∙ ap (next_by c limit t) found

pub sets_out : (c : CodeLists) (limit : ℕ) (s : State) → IsSound c limit s → s.ended ≡ None → IsUnderWay c limit s s
sets_out c limit s sound runs = record { good = sound.good; steps = 0; moves = refl; runs = runs; here = sound.safe runs }

pub goes_further : (c : CodeLists) (limit : ℕ) (s t u : State) → IsUnderWay c limit s t → next c limit t ≡ Goes u → IsUnderWay c limit s u
goes_further c limit s t u way goes =
    let on = stays_running c limit t u way.good way.runs way.here goes in
    record { good = way.good; steps = suc way.steps; moves = moves_more c limit way.steps s t u way.moves goes; runs = on.0; here = on.1 }

pub comes_nearer : (c : CodeLists) (limit : ℕ) (s t u : State) → IsUnderWay c limit s t → next c limit t ≡ Goes u → left_to_run c limit u < left_to_run c limit t
comes_nearer c limit s t u way goes = goes_less c limit t u way.good way.runs goes

pub never_stuck : (c : CodeLists) (limit : ℕ) (s t : State) → IsUnderWay c limit s t → next c limit t ≡ Lacks → ⊥
never_stuck c limit s t way lacks = never_lacks c limit t way.good way.runs way.here lacks

-- it asks for a call, and stands where it asks
pub asks_there : (c : CodeLists) (limit : ℕ) (s t u : State) (call : SysCall) → IsUnderWay c limit s t → next c limit t ≡ Asks call u → LeadsToCall c limit s call u × IsSound c limit u
asks_there c limit s t u call way asks =
    let same = (asks_here c limit t u call way.good way.runs asks).0 in
    let P : State → Type 0 = λ v. LeadsToCall c limit s call v × IsSound c limit v in
    subst P (sym same) (
      record { steps = way.steps; moves = way.moves; asks = asks ∙ ap (Asks call) same },
      record { good = way.good; safe = λ _. way.here; ended = λ finish is. absurd (none-some finish (sym way.runs ∙ is)) },
    )

-- it ends, and stays so
pub ends_there : (c : CodeLists) (limit : ℕ) (s t u : State) (finish : Finish) → IsUnderWay c limit s t → next c limit t ≡ Stops finish.result finish.line finish.ticks → u.ended ≡ Some finish
    → (LeadsToEnd c limit s finish.result finish.line finish.ticks × (u.ended ≡ Some finish)) × IsSound c limit u
ends_there c limit s t u finish way stops ended =
    let within = stops_within_limit c limit t finish.result finish.line finish.ticks way.good way.runs way.here stops in (
      (record { last = t; steps = way.steps; moves = way.moves; stops = stops }, ended),
      record {
        good = way.good;
        safe = λ runs. absurd (none-some _ (sym runs ∙ ended));
        ended = λ other is. omega (arith, within, ap (λ (f : Finish). f.ticks) (same_Some _ _ (sym is ∙ ended)));
      },
    )

-- a program that ended does nothing more
pub has_ended : (c : CodeLists) (limit : ℕ) (s : State) (finish : Finish) → s.ended ≡ Some finish → LeadsToEnd c limit s finish.result finish.line finish.ticks
unfolding next
has_ended c limit s finish ended = record { last = s; steps = 0; moves = refl; stops = ap (next_of c limit s) ended }

-- a machine that was made of empty parts
pub begins_empty : (c : CodeLists) (limit : ℕ) (below : List Activation) (words operands : List ℤ) → IsCode c → IsGood c → below ≡ [] → words ≡ replicate (routine_at c 0).words (pos 0) → operands ≡ []
    → IsSound c limit (record { below = below; current = record { routine = 0; place = 0; line = 0; words = words; operands = operands }; ticks = 0; ended = None })
begins_empty c limit below words operands code good no_below zeros no_operands = rw (no_below, zeros, no_operands) (begins_sound c limit code good)
