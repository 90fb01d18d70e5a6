-- What the rows of arguments and of open files come to.
use Rattle.std.proofs.Common.{◌≡◌, ℕ, ◌+◌, ◌≤◌, ℤ, true, false, List, [], ◌∷◌, length, drop, Option, Some, None, Result, Ok, Err, refl, sym, ◌∙◌, ap, subst}
use Rattle.std.specs.Prelude.{IfOk}
use Rattle.std.specs.List.{slice_get}
use Rattle.std.specs.FinMap as fin
use Rattle.std.proofs.lemmas.List.{drop_all, drop_more}
use Rattle.std.proofs.lemmas.Option.{slice_get_within, get_or_from_slice_get}
use Rattle.solo_base.specs.Arguments.{word_name}
use Rattle.solo_base.specs.declared.system_call.Arg.{Arg}
use Rattle.solo_base.specs.declared.system_call.SysCall.{SysCall}
use Rattle.solo_base.specs.declared.system_call.SysCall.TheVariants as calls
use Rattle.solo_base.specs.declared.system_call.SysReply.{SysReply}
use Rattle.solo_base.specs.declared.system_call.SysReply.TheVariants as replies
use Rattle.solo_base.specs.declared.page.Page.{Page}
use Rattle.solo_base.specs.declared.system_call.Arg.TheVariants as arg
use Rattle.disk_layout.specs.Files.{File, Files, files}
use Rattle.disk_files.specs.declared.fault.FileFault.{FileFault}
use Rattle.disk_files.specs.declared.fault.FileFault.TheVariants.{DiskFault}
use Rattle.disk_files.specs.Answers.{FaultsOnly}
use Rattle.program_task.specs.Task.{Task}
use Rattle.program_task.specs.Program.{Own, Shared, Answer, Runner, simply, refuses}
use Rattle.program_task.specs.Arguments.{argument, next_argument, later_arguments, reads_argument}
use Rattle.program_task.specs.OpenFiles.{found_file, open_as, with_open, opens_found, opens, closes, of_found, of_open, puts}
use Rattle.prog_stack.specs.Answers.{Hand, sharing, AnswersAlone, AnswersAnywhere, AnswersBy, AnswersCall, ComesAnywhere, ComesTo, OpensSo, Simply, is_device, IsOwn, is_free, opened_name, uses_area}
use Rattle.prog_stack.specs.FileCalls.{OfFile, PutsSo}

-- ---- Numbers of open files

same_name : (a b : List ℕ) → Some a ≡ Some b → a ≡ b
same_name a b e = cc

pub not_open : (use_file : List ℕ → File → Own → Shared → Task Answer) (slot : Option (Option (List ℕ))) (own : Own) (w : Shared) → opened_name slot ≡ None
    → of_open use_file slot own w ≡ refuses own w
not_open use_file None own w none = refl
not_open use_file (Some None) own w none = refl
not_open use_file (Some (Some name)) own w none = absurd cc

pub is_open : (use_file : List ℕ → File → Own → Shared → Task Answer) (slot : Option (Option (List ℕ))) (name : List ℕ) (own : Own) (w : Shared)
    → opened_name slot ≡ Some name → of_open use_file slot own w ≡ of_found use_file name (fin.get w.files name) own w
is_open use_file None name own w is = absurd cc
is_open use_file (Some None) name own w is = absurd cc
is_open use_file (Some (Some other)) name own w is = ap (λ n. of_found use_file n (fin.get w.files n) own w) (same_name other name is)

pub closes_none : (f : ℤ) (slot : Option (Option (List ℕ))) (own : Own) (w : Shared) → opened_name slot ≡ None → closes f slot own w ≡ refuses own w
closes_none f None own w none = refl
closes_none f (Some None) own w none = refl
closes_none f (Some (Some name)) own w none = absurd cc

pub closes_one : (f : ℤ) (slot : Option (Option (List ℕ))) (name : List ℕ) (own : Own) (w : Shared) → opened_name slot ≡ Some name
    → closes f slot own w ≡ simply replies.Done (with_open own f None) w
closes_one f None name own w is = absurd cc
closes_one f (Some None) name own w is = absurd cc
closes_one f (Some (Some other)) name own w is = refl

pub opens_not : (f : ℤ) (name : Option (List ℕ)) (slot : Option (Option (List ℕ))) (own : Own) (w : Shared) → is_free slot ≡ false
    → opens f name slot own w ≡ refuses own w
opens_not f name None own w taken = refl
opens_not f name (Some None) own w taken = absurd cc
opens_not f name (Some (Some other)) own w taken = refl

pub opens_free : (f : ℤ) (name : Option (List ℕ)) (slot : Option (Option (List ℕ))) (own : Own) (w : Shared) → is_free slot ≡ true
    → opens f name slot own w ≡ opens_found f name (found_file w.files name) own w
opens_free f name None own w free = absurd cc
opens_free f name (Some None) own w free = refl
opens_free f name (Some (Some other)) own w free = absurd cc

-- a call of the file that is open, by what the file's call answers
pub open_by : (use_file : List ℕ → File → Own → Shared → Task Answer) (slot : Option (Option (List ℕ))) (name : List ℕ) (own : Own) (all : Files)
    (result : Result SysReply FileFault)
    → opened_name slot ≡ Some name → IfOk result (λ reply. OfFile use_file name all reply)
    → IfOk result (λ reply. (deeper : Option Runner) (h : Hand) → of_open use_file slot own (sharing all h) ≡ simply reply own (sharing all h))
open_by use_file slot name own all (Ok reply) is of_file = λ deeper h. is_open use_file slot name own (sharing all h) is ∙ of_file own h
open_by use_file slot name own all (Err fault) is of_file = tt

pub put_by : (f p : ℤ) (page : Page) (slot : Option (Option (List ℕ))) (name : List ℕ) (own : Own) (before after : Option (List (List ℕ)))
    (result : Result SysReply FileFault)
    → open_as own f ≡ slot → opened_name slot ≡ Some name
    → ((pages : List (List ℕ)) → before ≡ Some pages → IfOk result (λ reply. PutsSo p page.0 name pages reply after))
    → IfOk result (λ reply. AnswersCall (calls.Put f p page) own before reply own after)
put_by f p page slot name own before after (Err fault) here is put = tt
put_by f p page slot name own before after (Ok reply) here is put = λ pages deeper told.
    let there = put pages told own in
    record {
      pages = there.pages;
      told = there.told;
      comes = λ h. subst (λ t. ComesTo t (files pages) (record { reply = reply; own = own; shared = sharing (files there.pages) h }))
          (sym (ap (λ s. of_open (puts p page.0) s own (sharing (files pages) h)) here
          ∙ is_open (puts p page.0) slot name own (sharing (files pages) h) is)) (there.comes h);
    }

-- a call that is served by itself is no device's
pub own_no_device : (call : SysCall) → IsOwn call → is_device call ≡ false
own_no_device calls.Read own = absurd own
own_no_device (calls.Write code) own = absurd own
own_no_device (calls.WriteInt number) own = absurd own
own_no_device calls.Accept own = absurd own
own_no_device (calls.Display code) own = absurd own
own_no_device (calls.Open f name) own = refl
own_no_device (calls.Close f) own = refl
own_no_device (calls.Get f p) own = refl
own_no_device (calls.Put f p page) own = refl
own_no_device (calls.Length f) own = refl
own_no_device (calls.Lookup name) own = refl
own_no_device calls.ReadArg own = refl
own_no_device (calls.WriteArg tag number name) own = refl
own_no_device (calls.Run name left) own = absurd own

-- ---- Over every area

-- a call that uses the area, and leaves what the program has whatever its reply is
pub by_area : (call : SysCall) (own : Own) (result : Result SysReply FileFault) → uses_area call ≡ true
    → ((reply : SysReply) → AnswersAnywhere call own reply own) → ComesAnywhere call own result own
by_area call own (Ok reply) uses answers = answers reply
by_area call own (Err fault) uses answers = uses

pub opened_so : (f : ℤ) (name : Option (List ℕ)) (found : List ℕ) (own own_now : Own) → name ≡ Some found → is_free (open_as own f) ≡ true
    → own_now ≡ with_open own f (Some found) → OpensSo f name own (replies.Opened true) own_now
opened_so f name found own own_now is free opened = (found, is, free, opened)

pub opens_anywhere : (f : ℤ) (name : List ℤ) (own own_now : Own) (result : Result SysReply FileFault)
    → IfOk result (λ reply. OpensSo f (word_name name) own reply own_now) → ComesAnywhere (calls.Open f name) own result own_now
opens_anywhere f name own own_now (Ok reply) opens = opens
opens_anywhere f name own own_now (Err fault) opens = refl

-- no fault of the area, whatever was answered
pub only_ok : {T : Type 0} (before now : ℕ) (x : T) → FaultsOnly before now (Ok x) → FaultsOnly {T = Unit {0}} before now (Ok tt)
only_ok before now x only = record { later = only.later; stays = only.stays; cause = λ e. absurd (not_err e) } where
  not_err : ◌≡◌ {A = Result (Unit {0}) FileFault} (Ok tt) (Err DiskFault) → ⊥
  not_err e = cc

-- ---- Calls that leave the files

pub alone_answers : (call : SysCall) (own own_now : Own) (reply : SysReply) (told : Option (List (List ℕ))) → AnswersAlone call own reply own_now
    → AnswersCall call own told reply own_now told
alone_answers call own own_now reply told alone = λ pages deeper is.
    record { pages = pages; told = is; comes = λ h. Simply (alone deeper (sharing (files pages) h)) refl }

pub by_files : (call : SysCall) (own own_now : Own) (result : Result SysReply FileFault) (before after : Option (List (List ℕ))) → after ≡ before
    → ((pages : List (List ℕ)) → before ≡ Some pages → IfOk result (λ reply. AnswersBy (files pages) call own reply own_now))
    → IfOk result (λ reply. AnswersCall call own before reply own_now after)
by_files call own own_now (Err fault) before after same answers = tt
by_files call own own_now (Ok reply) before after same answers = λ pages deeper is.
    record { pages = pages; told = same ∙ is; comes = λ h. Simply (answers pages is deeper h) refl }

-- ---- Arguments

-- the row of READARG, by what is left and what is left then
pub reads_last : (own : Own) (w : Shared) → own.incoming ≡ [] → reads_argument own w ≡ simply (argument arg.Nil) own w
reads_last own w none =
    ap (λ l. simply (next_argument l) (record own { incoming = later_arguments l }) w) none
    ∙ ap (λ l. simply (argument arg.Nil) (record own { incoming = l }) w) (sym none)

pub reads_next : (own : Own) (first : Arg) (rest : List Arg) (w : Shared) → own.incoming ≡ first ∷ rest
    → reads_argument own w ≡ simply (argument first) (record own { incoming = rest }) w
reads_next own first rest w is = ap (λ l. simply (next_argument l) (record own { incoming = later_arguments l }) w) is

-- where all were read, nothing is left
pub none_left : (args : List Arg) (read : ℕ) → length args ≤ read → drop read args ≡ []
none_left args read past = drop_all read args past

-- an argument that is left, and those behind it
pub one_left : (args : List Arg) (read : ℕ) (first : Arg) → slice_get args read ≡ Some first → drop read args ≡ first ∷ drop (read + 1) args
one_left args read first is =
    drop_more args read first (slice_get_within args read first is) ∙ ap (λ a. a ∷ drop (read + 1) args) (get_or_from_slice_get args read first first is)
