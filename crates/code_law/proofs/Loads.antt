-- Loads of variables, of elements and through references.
use Rattle.std.proofs.Common.{◌≡◌, ℕ, ◌+◌, Option, Some, List, ◌∷◌, length, ℤ, pos, sym, ◌∙◌, ap, subst}
use Rattle.std.specs.Prelude.{slice_get, if◌then◌else◌, nat_lt}
use Rattle.std.specs.Int.{w16, cast_signed}
use Rattle.solo_base.specs.declared.system_call.SysReply.{SysReply}
use Rattle.stack_code.specs.declared.table.Op.TheVariants as op
use Rattle.stack_code.specs.CodeLists.{CodeLists, routine_at}
use Rattle.stack_machine.specs.States.{State}
use Rattle.stack_machine.specs.Activations.{words_from}
use Rattle.stack_machine.specs.State.{Goes, Lacks}
use Rattle.stack_machine.specs.Effects.{push_found, push_named, load_named}
use Rattle.stack_machine.specs.Machine.{effect}
use Rattle.pascal_mean.specs.Means.{Owner, OfProgram, OfRoutine}
use Rattle.pascal_mean.specs.Situation.{Situation, Place}
use Rattle.pascal_mean.specs.Variables.{map_at, owner_number, value_at}
use Rattle.pascal_code.specs.Frames.{Frame}
use Rattle.pascal_code.specs.Senses.{Variable, Reference, sense_in}
use Rattle.pascal_code.specs.Instructions.{with_a, with_both, load_word}
use Rattle.pascal_code.specs.Instructions as code
use Rattle.code_law.specs.Ties.{IsReferred}
use Rattle.code_law.proofs.Lists.{last_frame}
use Rattle.code_law.proofs.Reached.{does, goes_if}
use Rattle.code_law.proofs.Here.{Fixed, own_number, state_at, Here, number_of, further}
use Rattle.code_law.proofs.Steps.{pushed}

-- the word of a variable of the activation with a number
pub word_of : {c : CodeLists} {limit : ℕ} {all : List SysReply} {f : Fixed} {p : ℕ} {operands : List ℤ} {now : Situation}
    (h : Here c limit all f p operands now) (d : ℕ) (g : Frame) (x : List ℕ) (o : Owner) (a : ℕ)
    → slice_get f.frames d ≡ Some g → sense_in g x ≡ Some (Variable o a) → slice_get (words_from h.below h.words d) a ≡ Some ((map_at now.maps d).values x)
word_of h d g x o a is at = (h.agree.tied d g is).scalars x o a at

-- the own words are the last
pub own_words : {c : CodeLists} {limit : ℕ} {all : List SysReply} {f : Fixed} {p : ℕ} {operands : List ℤ} {now : Situation}
    (h : Here c limit all f p operands now) → words_from h.below h.words (own_number f) ≡ h.words
own_words h = last_frame h.below h.words _ (number_of h)

module _ {c : CodeLists} {limit : ℕ} {all : List SysReply} {f : Fixed} where
  -- a word of the program's frame, or of the own one
  pub word_loaded : (owner : Owner) (p : ℕ) (operands : List ℤ) (now : Situation) (a : ℕ) (v : ℤ) (h : Here c limit all f p operands now)
      → slice_get c.instrs p ≡ Some (load_word owner a)
      → slice_get (words_from h.below h.words (owner_number owner (own_number f))) a ≡ Some v → Here c limit all f (p + 1) (v ∷ operands) now
  unfolding effect
  word_loaded OfProgram p operands now a v h found at =
      pushed p operands now (with_a op.LoadG a) v h found (ap (push_found c (state_at f.routine h.below p now.line h.words operands now.ticks)) at)
  word_loaded OfRoutine p operands now a v h found at =
      let own : slice_get h.words a ≡ Some v = ap (λ (w : List ℤ). slice_get w a) (sym (own_words h)) ∙ at in
      pushed p operands now (with_a op.LoadL a) v h found (ap (push_found c (state_at f.routine h.below p now.line h.words operands now.ticks)) own)

  -- ---- References
  pub referred : (owner : Owner) (p : ℕ) (operands : List ℤ) (now : Situation) (a : ℕ) → cast_signed w16 a ≡ pos a → (h : Here c limit all f p operands now)
      → slice_get c.instrs p ≡ Some (code.refer owner a)
      → Here c limit all f (p + 1) (pos a ∷ pos (owner_number owner (own_number f)) ∷ operands) now
  unfolding effect
  referred OfProgram p operands now a small h found =
      let s = state_at f.routine h.below p now.line h.words operands now.ticks in
      let t : ℤ → State = λ word. state_at f.routine h.below (p + 1) now.line h.words (word ∷ pos 0 ∷ operands) now.ticks in
      further (p + 1) (pos a ∷ pos 0 ∷ operands) h
      (goes_if (nat_lt (length operands + 1) (routine_at c f.routine).height) (t (pos a)) h.reached
      (does h.reached (with_a op.RefG a) found ∙ ap (λ (u : State). if nat_lt (length operands + 1) (routine_at c f.routine).height then Goes u else Lacks)
      (ap t small)))
  referred OfRoutine p operands now a small h found =
      let s = state_at f.routine h.below p now.line h.words operands now.ticks in
      let t : ℤ → ℕ → State = λ word number. state_at f.routine h.below (p + 1) now.line h.words (word ∷ pos number ∷ operands) now.ticks in
      further (p + 1) (pos a ∷ pos (own_number f) ∷ operands) h
      (goes_if (nat_lt (length operands + 1) (routine_at c f.routine).height) (t (pos a) (own_number f)) h.reached
      (does h.reached (with_a op.RefL a) found
      ∙ ap (λ (u : State). if nat_lt (length operands + 1) (routine_at c f.routine).height then Goes u else Lacks)
      (ap (λ w. t w (length h.below)) small ∙ ap (t (pos a)) (sym (number_of h)))))

  -- what a reference names
  pub reference_loaded : (p : ℕ) (operands : List ℤ) (now : Situation) (a : ℕ) (at : Place) (v : ℤ) (h : Here c limit all f p operands now)
      → slice_get c.instrs p ≡ Some (with_a op.LoadR a)
      → (r : IsReferred f.frames (own_number f) h.words a at) → slice_get (words_from h.below h.words at.activation) r.word ≡ Some v
      → Here c limit all f (p + 1) (v ∷ operands) now
  unfolding effect
  reference_loaded p operands now a at v h found r word =
      let s = state_at f.routine h.below p now.line h.words operands now.ticks in
      pushed p operands now (with_a op.LoadR a) v h found
      (ap (λ (n : Option ℤ). load_named c s n (slice_get h.words (a + 1))) r.numbered ∙ ap (load_named c s (Some (pos at.activation))) r.placed
      ∙ ap (push_named c s) word)

-- the words of a reference of the current activation
pub own_reference : {c : CodeLists} {limit : ℕ} {all : List SysReply} {f : Fixed} {p : ℕ} {operands : List ℤ} {now : Situation}
    (h : Here c limit all f p operands now) (g : Frame) (x : List ℕ) (a : ℕ)
    → slice_get f.frames (own_number f) ≡ Some g → sense_in g x ≡ Some (Reference a)
    → IsReferred f.frames (own_number f) h.words a ((map_at now.maps (own_number f)).references x)
own_reference {f = f} {now = now} h g x a is at =
    subst (λ (w : List ℤ). IsReferred f.frames (own_number f) w a ((map_at now.maps (own_number f)).references x)) (own_words h)
    ((h.agree.tied (own_number f) g is).references x a at)

-- and the word of the variable that it names
pub named_word : {c : CodeLists} {limit : ℕ} {all : List SysReply} {f : Fixed} {p : ℕ} {operands : List ℤ} {now : Situation}
    (h : Here c limit all f p operands now) (a : ℕ) (at : Place)
    → (r : IsReferred f.frames (own_number f) h.words a at) → slice_get (words_from h.below h.words at.activation) r.word ≡ Some (value_at at now)
named_word h a at r = word_of h at.activation r.frame at.letters r.owner r.word r.frame_is r.is
