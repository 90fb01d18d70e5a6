-- What RUN comes to, and what holds of the stack behind a call.
use Rattle.std.proofs.Common.{◌≡◌, ℕ, zero, suc, ◌+◌, ◌<◌, ◌≤◌, ℤ, Bool, true, false, List, [], ◌∷◌, ◌++◌, length, reverse, Option, Some, None, refl, sym, ◌∙◌, ap, subst, inl, inr, arith}
use Rattle.std.specs.Prelude.{nat_le}
use Rattle.std.proofs.lemmas.List.{reverse-append}
use Rattle.std.proofs.lemmas.Bool.{cases_lt, lt-leb, le-leb}
use Rattle.solo_base.specs.Arguments.{word_name}
use Rattle.solo_base.specs.Fits.{Fits}
use Rattle.solo_base.specs.declared.system_call.Arg.{Arg}
use Rattle.solo_base.specs.declared.system_call.SysCall.{SysCall}
use Rattle.solo_base.specs.declared.system_call.SysCall.TheVariants as calls
use Rattle.solo_base.specs.declared.system_call.SysReply.{SysReply}
use Rattle.disk_layout.specs.Files.{files}
use Rattle.disk_contents.specs.Loading.{program_of}
use Rattle.disk_contents.specs.declared.loading.Loaded.{Loaded}
use Rattle.disk_contents.specs.declared.loading.Loaded.TheVariants.{Code, NoFile, NotCode, BadCode}
use Rattle.stack_code.specs.CodeLists.{CodeLists}
use Rattle.stack_machine.specs.declared.state.Finish.{Finish}
use Rattle.stack_machine.specs.Standing.{Awaits}
use Rattle.program_task.specs.Program.{Own, Shared, Runner}
use Rattle.program_task.specs.Table.{answer, runs, runs_nothing, loaded_as}
use Rattle.program_task.specs.Run.{runner}
use Rattle.prog_stack.specs.declared.frame.Frame.{Frame}
use Rattle.prog_stack.specs.declared.served.Served.TheVariants as served
use Rattle.prog_stack.specs.Answers.{sharing, ComesTo, IsOwn, Simply}
use Rattle.prog_stack.specs.Programs.{nothing_ran}
use Rattle.prog_stack.specs.declared.served.Served.{Served}
use Rattle.prog_stack.specs.Callers.{AreCallers, IsStack, TakesAtMost, MayPop}
use Rattle.prog_stack.specs.Serves.{Serves, IsNotRun, RunsCode, HasCode, Pops, PopsSo, PopsTop}

-- ---- A RUN that runs nothing

-- it is refused, by what the area tells and with the room that is left
abbrev pub RefusesRun : ℕ → List ℤ → ℕ → Frame → List Frame → Option (List (List ℕ)) → Type 0
RefusesRun size name left top below before =
    (pages : List (List ℕ)) (room : ℕ) (w : Shared) → before ≡ Some pages → room + length (top ∷ below) ≡ size
    → runs (runner room) left (loaded_as (files pages) (word_name name)) top.own w ≡ runs_nothing top.own w

pub run_refused : (size : ℕ) (name : List ℤ) (left : ℕ) (top : Frame) (below : List Frame) (before after : Option (List (List ℕ))) (reply : SysReply)
    → reply ≡ nothing_ran → Fits (calls.Run name left) reply → after ≡ before → RefusesRun size name left top below before
    → IsNotRun (calls.Run name left) size top below before
    → Serves size (calls.Run name left) top below before (served.Reply reply) (top ∷ below) after
run_refused size name left top below before after reply is fits same refuses not_run = (
  top.own,
  refl,
  fits,
  refl,
  (is, refl),
  not_run,
  λ pages room told places. record {
    pages = pages;
    told = same ∙ told;
    comes = λ h. subst (λ r. ComesTo (answer (runner room) (calls.Run name left) top.own (sharing (files pages) h)) (files pages)
        (record { reply = r; own = top.own; shared = sharing (files pages) h })) (sym is) (Simply (refuses pages room (sharing
        (files pages) h) told places) refl);
  },
)

-- with five programs on the stack
pub refused_full : (size : ℕ) (name : List ℤ) (left : ℕ) (top : Frame) (below : List Frame) (before : Option (List (List ℕ)))
    → nat_le size (length (top ∷ below)) ≡ true
    → RefusesRun size name left top below before
refused_full size name left top below before full pages zero w told places = refl
refused_full size name left top below before full pages (suc room) w told places =
    absurd (both (sym full ∙ lt-leb size (length (top ∷ below)) (omega (arith, places)))) where
      both : true ≡ false → ⊥
      both e = cc

-- what isn't code isn't run
data IsNoCode (l : Loaded) : Type 0 where
  NoneThere : l ≡ NoFile → IsNoCode l
  NotOne : l ≡ NotCode → IsNoCode l
  Broken : (at : ℕ) → l ≡ BadCode at → IsNoCode l

not_run : (deeper : Option Runner) (left : ℕ) (l : Loaded) (own : Own) (w : Shared) → IsNoCode l → runs deeper left l own w ≡ runs_nothing own w
not_run None left l own w (NoneThere is) = ap (λ x. runs None left x own w) is
not_run None left l own w (NotOne is) = ap (λ x. runs None left x own w) is
not_run None left l own w (Broken at is) = ap (λ x. runs None left x own w) is
not_run (Some run) left l own w (NoneThere is) = ap (λ x. runs (Some run) left x own w) is
not_run (Some run) left l own w (NotOne is) = ap (λ x. runs (Some run) left x own w) is
not_run (Some run) left l own w (Broken at is) = ap (λ x. runs (Some run) left x own w) is

-- no name
pub refused_name : (size : ℕ) (name : List ℤ) (left : ℕ) (top : Frame) (below : List Frame) (before : Option (List (List ℕ))) → word_name name ≡ None
    → RefusesRun size name left top below before
refused_name size name left top below before none pages room w told places =
    not_run (runner room) left (loaded_as (files pages) (word_name name)) top.own w (NoneThere (ap (loaded_as (files pages)) none))

-- what is loaded so is no code, and isn't run
pub refused_code : (size : ℕ) (name : List ℤ) (left : ℕ) (ident : List ℕ) (code : Option CodeLists) (top : Frame) (below : List Frame)
    (before : Option (List (List ℕ)))
    → word_name name ≡ Some ident → code ≡ None → ((pages : List (List ℕ)) → before ≡ Some pages → HasCode (program_of (files pages) ident) code)
    → RefusesRun size name left top below before
refused_code size name left ident code top below before is none found pages room w told places =
    not_run (runner room) left (loaded_as (files pages) (word_name name)) top.own w
    (subst IsNoCode (sym (ap (loaded_as (files pages)) is)) (no_code (program_of (files pages) ident) (subst (HasCode (program_of
    (files pages) ident)) none (found pages told)))) where
      no_code : (l : Loaded) → HasCode l None → IsNoCode l
      no_code (Code c) e = absurd cc
      no_code NoFile e = NoneThere refl
      no_code NotCode e = NotOne refl
      no_code (BadCode at) e = Broken at refl

-- ---- Where a RUN is answered at once

pub not_run_full : (size : ℕ) (name : List ℤ) (left : ℕ) (top : Frame) (below : List Frame) (before : Option (List (List ℕ)))
    → nat_le size (length (top ∷ below)) ≡ true → IsNotRun (calls.Run name left) size top below before
not_run_full size name left top below before full = λ pages code told is. elim (cases_lt (length (top ∷ below)) size) [
  | inl few ↦ absurd (both (sym full ∙ lt-leb size (length (top ∷ below)) few))
  | inr past ↦ past
] where
  both : true ≡ false → ⊥
  both e = cc

no_file : (code : CodeLists) → NoFile ≡ Code code → ⊥
no_file code e = cc

pub not_run_name : (size : ℕ) (name : List ℤ) (left : ℕ) (top : Frame) (below : List Frame) (before : Option (List (List ℕ))) → word_name name ≡ None
    → IsNotRun (calls.Run name left) size top below before
not_run_name size name left top below before none = λ pages code told is. absurd (no_file code (sym (ap (loaded_as (files pages)) none) ∙ is))

pub not_run_code : (size : ℕ) (name : List ℤ) (left : ℕ) (ident : List ℕ) (found : Option CodeLists) (top : Frame) (below : List Frame)
    (before : Option (List (List ℕ)))
    → word_name name ≡ Some ident → found ≡ None → ((pages : List (List ℕ)) → before ≡ Some pages → HasCode (program_of (files pages) ident) found)
    → IsNotRun (calls.Run name left) size top below before
not_run_code size name left ident found top below before is none has = λ pages code told loaded.
    absurd (no_code code (program_of (files pages) ident) (sym (ap (loaded_as (files pages)) is) ∙ loaded)
    (subst (HasCode (program_of (files pages) ident)) none (has pages told))) where
      no_code : (code : CodeLists) (l : Loaded) → l ≡ Code code → HasCode l None → ⊥
      no_code code (Code c) e h = cc
      no_code code NoFile e h = cc
      no_code code NotCode e h = cc
      no_code code (BadCode at) e h = cc

-- no other call is a RUN
pub own_not_run : (call : SysCall) (size : ℕ) (top : Frame) (below : List Frame) (before : Option (List (List ℕ))) → IsOwn call
    → IsNotRun call size top below before
own_not_run calls.Read size top below before own = absurd own
own_not_run (calls.Write code) size top below before own = absurd own
own_not_run (calls.WriteInt number) size top below before own = absurd own
own_not_run calls.Accept size top below before own = absurd own
own_not_run (calls.Display code) size top below before own = absurd own
own_not_run (calls.Open f name) size top below before own = tt
own_not_run (calls.Close f) size top below before own = tt
own_not_run (calls.Get f p) size top below before own = tt
own_not_run (calls.Put f p page) size top below before own = tt
own_not_run (calls.Length f) size top below before own = tt
own_not_run (calls.Lookup name) size top below before own = tt
own_not_run calls.ReadArg size top below before own = tt
own_not_run (calls.WriteArg tag number name) size top below before own = tt
own_not_run (calls.Run name left) size top below before own = absurd own

-- ---- A RUN of code

has_code : (l : Loaded) (c : CodeLists) → HasCode l (Some c) → l ≡ Code c
has_code (Code d) c e = ap (λ x. Code x) (sym (same_code c d e)) where
  same_code : (a b : CodeLists) → Some a ≡ Some b → a ≡ b
  same_code a b e = cc
has_code NoFile c e = absurd cc
has_code NotCode c e = absurd cc
has_code (BadCode at) c e = absurd cc

pub code_served : (size : ℕ) (name : List ℤ) (left : ℕ) (ident : List ℕ) (code : CodeLists) (top : Frame) (below : List Frame) (before after : Option
    (List (List ℕ)))
    (s : Served) (now : List Frame) → length (top ∷ below) < size → word_name name ≡ Some ident → after ≡ before
    → ((pages : List (List ℕ)) → before ≡ Some pages → HasCode (program_of (files pages) ident) (Some code))
    → RunsCode code left top below s now → Serves size (calls.Run name left) top below before s now after
code_served size name left ident code top below before after (served.Reply reply) now few is same found runs = absurd runs
code_served size name left ident code top below before after (served.Device call) now few is same found runs = absurd runs
code_served size name left ident code top below before after served.Pushed now few is same found runs = (
  record {
    name = name;
    left = left;
    code = code;
    run = refl;
    few = few;
    is = runs;
    loaded = λ pages told. ap (loaded_as (files pages)) is ∙ has_code (program_of (files pages) ident) code (found pages told);
  },
  same,
)
code_served size name left ident code top below before after served.DiskFault now few is same found runs = absurd runs
code_served size name left ident code top below before after served.NoMemory now few is same found runs = (
  record { name = name; left = left; run = refl; few = few },
  same,
)

pub memory_lacks : (size : ℕ) (name : List ℤ) (left : ℕ) (top : Frame) (below : List Frame) (before after : Option (List (List ℕ))) (now : List Frame)
    → length (top ∷ below) < size → after ≡ before → Serves size (calls.Run name left) top below before served.NoMemory now after
memory_lacks size name left top below before after now few same = (record { name = name; left = left; run = refl; few = few }, same)

-- a stack that isn't full has room
pub has_room_left : (size count : ℕ) (full : Bool) → count ≤ size → full ≡ false → full ≡ nat_le size count → count < size
has_room_left size count full few no_more is = elim (cases_lt count size) [
  | inl below ↦ below
  | inr past ↦ absurd (both (sym (le-leb size count past) ∙ sym is ∙ no_more))
] where
  both : true ≡ false → ⊥
  both e = cc

-- a reply is no program that was put on the stack
pub reply_not_pushed : (reply : SysReply) → served.Reply reply ≡ served.Pushed → ⊥
reply_not_pushed reply e = cc

-- ---- The end of a program

-- the nearest of the programs below waits for this reply
pub caller_awaits : (ticks : ℕ) (items rest : List Frame) (caller : Frame) (finish : Finish) (reply : SysReply) → items ≡ rest ++ caller ∷ []
    → AreCallers ticks (reverse items) → finish.ticks ≤ ticks → ((name : List ℤ) (left : ℕ) → finish.ticks ≤ left → Fits (calls.Run name left) reply)
    → Awaits caller.machine reply
caller_awaits ticks items rest caller finish reply is callers few fits =
    by_first (subst (λ l. AreCallers ticks (reverse l)) is callers) where
      by_first : AreCallers ticks (reverse (rest ++ caller ∷ [])) → Awaits caller.machine reply
      by_first all =
          let first : AreCallers ticks (caller ∷ reverse rest) = subst (AreCallers ticks) (reverse-append rest (caller ∷ [])) all in
          let waits = first.0 in
          (calls.Run waits.name waits.left, waits.asks, fits waits.name waits.left (let e = waits.enough in omega (arith, few, e)))

pub pops_more : (finish : Finish) (top : Frame) (below now : List Frame) (args : List Arg) (more : Bool) → more ≡ true
    → PopsSo more finish top below now → args ≡ []
    → Pops finish top below args now
pops_more finish top [] now args true is pops none = absurd pops
pops_more finish top (caller ∷ below) now args true is pops none = (none, pops)
pops_more finish top below now args false is pops none = absurd cc

pub pops_last : (finish : Finish) (top last : Frame) (below others : List Frame) (args : List Arg) (more : Bool) → more ≡ false
    → PopsSo more finish top below (last ∷ others)
    → args ≡ last.own.outgoing → Pops finish top below args []
pops_last finish top last below others args true is pops given = absurd cc
pops_last finish top last [] others args false is (none, same) given = (
  given
      ∙ ap (λ (f : Frame). f.own.outgoing) (first_same last top others [] same),
  refl,
) where
  first_same : (a b : Frame) (xs ys : List Frame) → (a ∷ xs) ≡ (b ∷ ys) → a ≡ b
  first_same a b xs ys e = cc
pops_last finish top last (caller ∷ below) others args false is (some, same) given = absurd (no_more caller below some) where
  no_more : (a : Frame) (xs : List Frame) → (a ∷ xs) ≡ [] → ⊥
  no_more a xs e = cc

-- a stack behind the end of its top program
pub stack_popped : (size : ℕ) (finish : Finish) (programs : List Frame) (args : List Arg) (now : List Frame) → IsStack size programs
    → PopsTop finish programs args now → IsStack size now
stack_popped size finish [] args now stack pops = absurd pops
stack_popped size finish (top ∷ []) args now stack (given, is) = subst (IsStack size) (sym is) tt
stack_popped size finish (top ∷ caller ∷ below) args now stack (given, is) =
    subst (IsStack size) (sym is) (let few = stack.0 in omega (arith, few), stack.1.1)

-- it may be popped
pub may_pop : (size ticks : ℕ) (programs : List Frame) → IsStack size programs → TakesAtMost ticks programs → MayPop ticks programs
may_pop size ticks [] stack few = few
may_pop size ticks (top ∷ below) stack few = (few, stack.1)
