-- Laws of tasks, and rows of the table that were worked by hand.
use Rattle.std.specs.Prelude.{◌≡◌, ℕ, Bool, true, false, List, [], ◌∷◌, ◌++◌, map, replicate, Option, Some, None, ℤ, pos, negsuc, codes}
use Rattle.std.specs.FinMap as fin
use Rattle.solo_base.specs.declared.outcome.ProgResult.TheVariants as result
use Rattle.solo_base.specs.declared.system_call.Arg.{Arg}
use Rattle.solo_base.specs.declared.system_call.Arg.TheVariants as arg
use Rattle.solo_base.specs.declared.system_call.SysCall.{SysCall}
use Rattle.solo_base.specs.declared.system_call.SysCall.TheVariants as calls
use Rattle.solo_base.specs.declared.system_call.SysReply.{SysReply}
use Rattle.solo_base.specs.declared.system_call.SysReply.TheVariants as replies
use Rattle.disk_layout.specs.declared.kind.FileKind.TheVariants.{Scratch, Ascii}
use Rattle.disk_layout.specs.Files.{File}
use Rattle.disk_contents.specs.declared.loading.Loaded.{Loaded}
use Rattle.disk_contents.specs.declared.loading.Loaded.TheVariants.{Code, NoFile, NotCode, BadCode}
use Rattle.stack_code.specs.CodeLists.{CodeLists}
use Rattle.program_task.specs.Task.{Task, Gives, Prints, and_then}
use Rattle.program_task.specs.Program.{Own, Shared, Answer, Ended, Runner, begins_with, simply, refuses}
use Rattle.program_task.specs.OpenFiles.{put_in, page_numbered, opens_found, closes, looks_up}
use Rattle.program_task.specs.Table.{answer, runs}

-- ---- One task after another

-- a task behind which nothing follows is itself
abbrev pub NothingFollows : Type 0 → Type 0
NothingFollows A = (t : Task A) → and_then t (λ a. Gives a) ≡ t

-- it makes no difference which two of three are put together first
abbrev pub OneAfterAnother : Type 0 → Type 0 → Type 0 → Type 0
OneAfterAnother A B C =
    (t : Task A) (f : A → Task B) (g : B → Task C)
    → and_then (and_then t f) g ≡ and_then t (λ a. and_then (f a) g)

-- ---- Rows of the table

-- a call has this reply, and the program has and shares this then
abbrev pub Replies : SysCall → Own → Shared → SysReply → Own → Shared → Type 0
Replies call own w reply own_then w_then = answer None call own w ≡ simply reply own_then w_then

abbrev pub no_files : Shared
no_files = record {
  files = fin.empty;
  input = Some (codes "AB");
  spoiled = false;
  typed = codes "C";
  display = codes "X";
  print = codes "Y";
}

abbrev pub array_of : List ℕ → List ℤ
array_of name = map pos name

-- `PROG` and eight blanks, as a name and as the words of an array
abbrev pub prog_name : List ℕ
prog_name = codes "PROG        "

-- three arguments to read, and two that were written
abbrev pub with_arguments : Own
with_arguments = record {
  incoming = arg.Int (negsuc 6) ∷ arg.Id prog_name ∷ arg.Bool true ∷ [];
  outgoing = arg.Nil ∷ arg.Int (pos 7) ∷ [];
  first = Some prog_name;
  second = None;
}

abbrev pub many_written : ℕ → Own
many_written count = record with_arguments { outgoing = replicate count arg.Nil }

-- what such a program calls, the reply, and what it has or shares of its own then
abbrev pub SharesThen : SysCall → SysReply → Shared → Type 0
SharesThen call reply then_shared = Replies call with_arguments no_files reply with_arguments then_shared

abbrev pub HasThen : Own → SysCall → SysReply → Own → Type 0
HasThen own call reply then_own = Replies call own no_files reply then_own no_files

abbrev pub IsCallError : Own → SysCall → Type 0
IsCallError own call = HasThen own call replies.CallError own

pub record CharacterRows : Type 0 where
  pub read : SharesThen calls.Read (replies.Char 65) (record no_files { input = Some (codes "B") })
  pub read_behind : Replies calls.Read with_arguments (record no_files { input = Some [] }) (replies.Char 25)
      with_arguments (record no_files { input = Some [] })
  pub accepts : SharesThen calls.Accept (replies.Char 67) (record no_files { typed = [] })
  pub write : SharesThen (calls.Write 90) replies.Done (record no_files { print = codes "YZ" })
  pub unprinted : SharesThen (calls.Display 7) replies.Done (record no_files { display = codes "X?" })
  pub line : answer None (calls.Write 10) with_arguments no_files
      ≡ Prints (codes "Y") (simply replies.Done with_arguments (record no_files { print = [] }))

abbrev pub reads_one : List Arg → Own
reads_one incoming = record with_arguments { incoming = incoming }

abbrev pub nil_argument : SysCall
nil_argument = calls.WriteArg (pos 0) (pos 5) (array_of prog_name)

abbrev pub name_argument : List ℕ → SysCall
name_argument name = calls.WriteArg (pos 3) (pos 9) (array_of name)

pub record ArgumentRows : Type 0 where
  pub negative : HasThen with_arguments calls.ReadArg (replies.Argument (pos 2) (negsuc 6) (replicate 12 32))
      (reads_one (arg.Id prog_name ∷ arg.Bool true ∷ []))
  pub name : HasThen (reads_one (arg.Id prog_name ∷ [])) calls.ReadArg
      (replies.Argument (pos 3) (pos 0) prog_name) (reads_one [])
  pub truth : HasThen (reads_one (arg.Bool true ∷ [])) calls.ReadArg
      (replies.Argument (pos 1) (pos 1) (replicate 12 32)) (reads_one [])
  pub none_left : HasThen (reads_one []) calls.ReadArg (replies.Argument (pos 0) (pos 0) (replicate 12 32))
      (reads_one [])
  pub small_letters : HasThen with_arguments (name_argument (codes "prog        ")) replies.Done
      (record with_arguments { outgoing = arg.Nil ∷ arg.Int (pos 7) ∷ arg.Id prog_name ∷ [] })
  pub no_name : IsCallError with_arguments (name_argument (codes "2X          "))
  pub no_boolean : IsCallError with_arguments (calls.WriteArg (pos 1) (pos 2) (array_of prog_name))
  pub no_tag : IsCallError with_arguments (calls.WriteArg (pos 4) (pos 0) (array_of prog_name))
  pub tenth : HasThen (many_written 9) nil_argument replies.Done (many_written 10)
  pub eleventh : IsCallError (many_written 10) nil_argument

-- two pages, of which the second has other bytes
abbrev pub two_pages : File
two_pages = record { kind = Ascii; protected = false; pages = codes "FIRST" ∷ codes "SECOND" ∷ [] }

abbrev pub with_pages : List (List ℕ) → Option File
with_pages pages = Some (record two_pages { pages = pages })

abbrev pub no_pages : File
no_pages = record two_pages { pages = [] }

-- page p becomes NEW, where so many pages are free
abbrev pub new_put : ℕ → File → ℤ → Option File
new_put unused file p = put_in unused file p (codes "NEW")

pub record FileRows : Type 0 where
  pub second : page_numbered two_pages.pages (pos 2) ≡ Some (codes "SECOND")
  pub page_zero : page_numbered two_pages.pages (pos 0) ≡ None
  pub past_the_end : page_numbered two_pages.pages (pos 3) ≡ None
  pub below_zero : page_numbered two_pages.pages (negsuc 0) ≡ None
  pub replaced : new_put 0 two_pages (pos 1) ≡ with_pages (codes "NEW" ∷ codes "SECOND" ∷ [])
  pub appended : new_put 1 two_pages (pos 3) ≡ with_pages (codes "FIRST" ∷ codes "SECOND" ∷ codes "NEW" ∷ [])
  pub no_free_page : new_put 0 two_pages (pos 3) ≡ None
  pub no_page_for_a_part : new_put 1 no_pages (pos 1) ≡ None
  pub first_page : new_put 2 no_pages (pos 1) ≡ with_pages (codes "NEW" ∷ [])
  pub a_gap : new_put 9 two_pages (pos 4) ≡ None
  pub put_at_zero : new_put 9 two_pages (pos 0) ≡ None
  pub protected : new_put 9 (record two_pages { protected = true }) (pos 1) ≡ None
  pub opens : opens_found (pos 2) (Some prog_name) (Some two_pages) with_arguments no_files
      ≡ simply (replies.Opened true) (record with_arguments { second = Some prog_name }) no_files
  pub open_twice : IsCallError with_arguments (calls.Open (pos 1) (array_of prog_name))
  pub third : IsCallError with_arguments (calls.Open (pos 3) (array_of prog_name))
  pub closes : HasThen with_arguments (calls.Close (pos 1)) replies.Done
      (record with_arguments { first = None })
  pub not_open : IsCallError with_arguments (calls.Close (pos 2))
  pub kind : looks_up (Some two_pages) with_arguments no_files
      ≡ simply (replies.Found (pos 2) true) with_arguments no_files

-- a program that ends in line 40,000 after 5 ticks, and writes what it was given and one argument more
abbrev pub echoes : Runner
echoes c limit own w = Gives (record {
  result = result.RangeError;
  line = 40000;
  ticks = 5;
  outgoing = own.incoming ++ arg.Int (pos 1) ∷ [];
  shared = w;
})

-- what is loaded so isn't run, for this program and with this room
abbrev pub RunsNothing : Option Runner → Loaded → Type 0
RunsNothing deeper loaded =
    runs deeper 9 loaded with_arguments no_files
    ≡ simply (replies.Ran (pos 0) (pos 6) 0) with_arguments no_files

pub record RunRows : Type 0 where
  pub there_and_back : (c : CodeLists) → runs (Some echoes) 9 (Code c) with_arguments no_files
      ≡ simply (replies.Ran (pos 32767) (pos 2) 5) (record with_arguments {
        incoming =
            arg.Nil ∷ arg.Int (pos 7) ∷ arg.Int (pos 1) ∷ [];
        outgoing = [];
      }) no_files
  pub no_room : (c : CodeLists) → RunsNothing None (Code c)
  pub no_file : RunsNothing (Some echoes) NoFile
  pub a_text : RunsNothing (Some echoes) NotCode
  pub bad_code : RunsNothing (Some echoes) (BadCode 12)
