-- Where the machine stands in the code of an activation, and in which situation.
use Rattle.std.proofs.Common.{◌≡◌, ℕ, ◌≤◌, ◌<◌, Some, None, List, [], map, length, ℤ, sym, ap, ◌∙◌}
use Rattle.std.proofs.lemmas.List.{length-map}
use Rattle.solo_base.specs.declared.system_call.SysReply.{SysReply}
use Rattle.stack_code.specs.CodeLists.{CodeLists}
use Rattle.stack_machine.specs.States.{Activation, State}
use Rattle.stack_machine.specs.Run.{Runs}
use Rattle.pascal_mean.specs.Situation.{Situation, Place, Course, Gives, Over, and_then}
use Rattle.pascal_mean.specs.Variables.{map_at}
use Rattle.pascal_code.specs.Frames.{Frame}
use Rattle.code_law.specs.Ties.{Held, Agree}
use Rattle.code_law.proofs.Reached.{Reached}
use Rattle.code_law.proofs.Agreeing.{agree_weaker}

-- What stays while an activation runs: its routine, the activations that wait below it but for their words, the
-- frames of all, what the VAR parameters of each name, what is held in them, and a number of ticks that were taken.
-- The activation's own number is that of its callers.
pub record Fixed : Type 0 where
  pub routine : ℕ
  pub callers : List Activation
  pub frames : List Frame
  pub references : ℕ → List ℕ → Place
  pub held : Held
  pub floor : ℕ

abbrev pub own_number : Fixed → ℕ
own_number f = length f.callers

abbrev pub at_rest : Activation → Activation
at_rest a = record a { words = [] }

abbrev pub state_at : ℕ → List Activation → ℕ → ℕ → List ℤ → List ℤ → ℕ → State
state_at routine below p line words operands ticks =
    record { below = below; current = record { routine = routine; place = p; line = line; words = words; operands = operands }; ticks = ticks; ended = None }

-- the machine stands at a place with these operands, and its frames agree with the maps
pub record Here (c : CodeLists) (limit : ℕ) (all : List SysReply) (f : Fixed) (p : ℕ) (operands : List ℤ) (now : Situation) : Type 0 where
  pub below : List Activation
  pub words : List ℤ
  pub reached : Reached c limit all (state_at f.routine below p now.line words operands now.ticks) now.made
  pub waiting : map at_rest below ≡ f.callers
  pub agree : Agree f.frames f.held now.maps below words
  pub named : (d : ℕ) → d < length f.frames → (map_at now.maps d).references ≡ f.references d
  pub risen : f.floor ≤ now.ticks

-- the number of the activation is that of those that wait
pub number_of : {c : CodeLists} {limit : ℕ} {all : List SysReply} {f : Fixed} {p : ℕ} {operands : List ℤ} {now : Situation}
    → (h : Here c limit all f p operands now) → own_number f ≡ length h.below
number_of h = ap length (sym h.waiting) ∙ length-map h.below at_rest

-- the same frames, further on
pub further : {c : CodeLists} {limit : ℕ} {all : List SysReply} {f : Fixed} {p : ℕ} {operands : List ℤ} {now : Situation} (q : ℕ) (others : List ℤ)
    → (h : Here c limit all f p operands now)
    → Reached c limit all (state_at f.routine h.below q now.line h.words others now.ticks) now.made → Here c limit all f q others now
further q others h reached = record {
  below = h.below;
  words = h.words;
  reached = reached;
  waiting = h.waiting;
  agree = h.agree;
  named = h.named;
  risen =
      h.risen;
}

-- what a part comes to: the situation behind it, or the outcome of the whole run
abbrev pub Comes : {A : Type 0} → CodeLists → ℕ → List SysReply → (A → Situation → Type 0) → Course A → Type 0
Comes c limit all P (Gives value now) = P value now
Comes c limit all P (Over outcome) = Runs c limit all outcome

pub record After {A : Type 0} (c : CodeLists) (limit : ℕ) (all : List SysReply) (P : A → Situation → Type 0) (part : Course A) : Type 0 where
  pub comes : Comes c limit all P part

-- one part behind another
pub after : {A B : Type 0} {c : CodeLists} {limit : ℕ} {all : List SysReply} {P : A → Situation → Type 0} {Q : B → Situation → Type 0} (part : Course A)
    (go : A → Situation → Course B)
    → After c limit all P part → ((value : A) (now : Situation) → P value now → After c limit all Q (go value now)) → After c limit all Q (and_then part go)
after (Gives value now) go first rest = rest value now first.comes
after (Over outcome) go first rest = record { comes = first.comes }

-- said otherwise
pub so : {A : Type 0} {c : CodeLists} {limit : ℕ} {all : List SysReply} {P Q : A → Situation → Type 0} (part : Course A) → After c limit all P part
    → ((value : A) (now : Situation) → P value now → Q value now) → After c limit all Q part
so (Gives value now) first rest = record { comes = rest value now first.comes }
so (Over outcome) first rest = record { comes = first.comes }

-- what may change while an activation runs: the ticks that were taken at least, and what is held
pub record Kept : Type 0 where
  pub floor : ℕ
  pub held : Held

abbrev pub from : Fixed → Kept → Fixed
from f k = record f { floor = k.floor; held = k.held }

-- less is held
pub on_less : {c : CodeLists} {limit : ℕ} {all : List SysReply} {f : Fixed} {p : ℕ} {operands : List ℤ} {now : Situation} (k : Kept)
    → Here c limit all f p operands now → k.floor ≤ now.ticks
    → ((d i : ℕ) (v : ℤ) → k.held d i ≡ Some v → f.held d i ≡ Some v) → Here c limit all (from f k) p operands now
on_less {f = f} k h low less = record {
  below = h.below;
  words = h.words;
  reached = h.reached;
  waiting = h.waiting;
  agree =
      agree_weaker h.agree k.held less;
  named = h.named;
  risen = low;
}

pub on_floor : {c : CodeLists} {limit : ℕ} {all : List SysReply} {f : Fixed} {p : ℕ} {operands : List ℤ} {now : Situation} (floor : ℕ)
    → Here c limit all f p operands now → floor ≤ now.ticks → Here c limit all (record f { floor = floor }) p operands now
on_floor floor h low = record { below = h.below; words = h.words; reached = h.reached; waiting = h.waiting; agree = h.agree; named = h.named; risen = low }
