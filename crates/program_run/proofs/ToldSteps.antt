-- What a step of the code is of the task that is left, by told files.
use Rattle.std.proofs.Common.{◌≡◌, ℕ, true, false, List, [], ◌∷◌, ◌++◌, drop, Option, Some, None, refl, sym, ◌∙◌, ap, subst}
use Rattle.solo_base.specs.Text.{text}
use Rattle.solo_base.specs.declared.system_call.Arg.{Arg}
use Rattle.solo_base.specs.declared.system_call.SysCall.{SysCall}
use Rattle.solo_base.specs.declared.system_call.SysCall.TheVariants as calls
use Rattle.solo_base.specs.declared.system_call.SysReply.{SysReply}
use Rattle.solo_base.specs.declared.system_call.SysReply.TheVariants as replies
use Rattle.disk_layout.specs.Files.{Files, files}
use Rattle.pascal_mean.specs.Batch.{next_character, but_the_first, last_line}
use Rattle.program_task.specs.Task.{Task, CardFile, and_then, Gives, ReadsCards, Accepts, Displays, Prints, prints_all}
use Rattle.program_task.specs.Program.{Own, Shared, Answer, Ended}
use Rattle.program_task.specs.Table.{answer}
use Rattle.program_task.specs.Run.{runner, program_room}
use Rattle.program_task.specs.Characters.{typed_text}
use Rattle.stack_machine.specs.declared.running.Pause.{Pause}
use Rattle.stack_machine.specs.declared.state.Finish.{Finish}
use Rattle.prog_stack.specs.declared.frame.Frame.{Frame}
use Rattle.prog_stack.specs.declared.served.Served.{Served}
use Rattle.prog_stack.specs.declared.served.Served.TheVariants as served
use Rattle.prog_stack.specs.Answers.{Hand, sharing}
use Rattle.prog_stack.specs.Callers.{TopAsks, TopWell, TopBegins, RunsTop, with_reply}
use Rattle.prog_stack.specs.Laws.{Comes, Now, Behind, ComesBack, end_of}
use Rattle.prog_stack.specs.Programs.{behind_reply}
use Rattle.prog_stack.specs.Rest.{IsAt}
use Rattle.prog_stack.specs.Serves.{ServesTop, PopsTop, top_ended}
use Rattle.prog_stack.proofs.Steps.{runs_itself, asked, served_so, popped_so}
use Rattle.solo_base.specs.declared.item.Feed.{Feed}
use Rattle.solo_law.specs.Work as law
use Rattle.solo_task.specs.Answers.{Doing}
use Rattle.solo_task.specs.Doing.{ends_program}
use Rattle.solo_task.specs.Needs.{comes_to, fits_behind, WantsCards, WantsLine, GoesOn}
use Rattle.solo_work.specs.declared.printing.Printing.{Printing}
use Rattle.solo_work.specs.Printing.{prints_then}
use Rattle.program_run.specs.Sight.{Sight, IsLeftOf, IsThere}
use Rattle.program_run.specs.Steps.{IsReplied, IsAsking, EndsWith, answers_of}
use Rattle.program_run.specs.Sharing.{ReadsSo, AcceptsSo}
use Rattle.program_run.specs.Work.{CameTo, Reaches}
use Rattle.program_run.proofs.Table.{replied_with, reads_none, accepts_none}
use Rattle.program_run.proofs.Tasks.{GoesTo, here, changing, on-page, full-page}

-- what holds of a sight with these parts
of_parts : (P : Sight → Type 0) (now : Sight) (name : List ℕ) (programs : List Frame) (hand : Hand) → now.name ≡ name → now.programs ≡ programs → now.hand ≡ hand
    → P (record { name = name; programs = programs; hand = hand }) → P now
of_parts P now name programs hand a b c holds =
    subst (λ n. P (record { name = n; programs = now.programs; hand = now.hand })) (sym a)
    (subst (λ l. P (record { name = name; programs = l; hand = now.hand })) (sym b)
    (subst (λ h. P (record { name = name; programs = programs; hand = h })) (sym c) holds))

-- ---- Programs alone

pub ran_left : (before now : List Frame) (paused : Pause) (w : Shared) (t : Task Ended) → IsAt program_room before w t → RunsTop before (Some paused) now → TopWell now
    → IsAt program_room now w t
ran_left [] now paused w t at runs well = absurd at
ran_left (top ∷ below) now paused w t at (s, pauses, is) well =
    subst (λ l. IsAt program_room l w t) (sym is) (runs_itself program_room top below w t paused s at pauses (subst TopWell is well))

-- where the top program asks for this call, its answer is left, and then what follows
pub record AsksFirst (call : SysCall) (programs : List Frame) (w : Shared) (t : Task Ended) : Type 0 where
  pub room : ℕ
  pub own : Own
  pub later : Answer → Task Ended
  pub is : t ≡ and_then (answer (runner room) call own w) later
  pub goes_on : (reply : SysReply) (shared : Shared) → TopWell (with_reply reply programs)
      → IsAt program_room (with_reply reply programs) shared (later (record { reply = reply; own = own; shared = shared }))

pub asks_first : (call : SysCall) (programs : List Frame) (w : Shared) (t : Task Ended) → IsAt program_room programs w t → TopAsks call programs → AsksFirst call programs w t
asks_first call [] w t at asks = absurd at
asks_first call (top ∷ below) w t at asks =
    let a = asked program_room call top below w t at asks in
    record {
      room = a.room;
      own = top.own;
      later = a.later;
      is = a.is;
      goes_on = λ reply shared well. a.goes_on (record { reply = reply; own = top.own; shared = shared }) well;
    }

-- ---- A call that is served at once

reply_back : (hand : List (List ℕ)) (name : List ℕ) (programs : List Frame) (reply : SysReply) (h : Hand) (old : List (List ℕ)) (after : Option (List (List ℕ))) (t : Task Ended)
    → ComesBack program_room programs reply h old after t → TopWell (with_reply reply programs)
    → GoesTo hand (files old) (and_then t (ends_program name)) (record { name = name; programs = with_reply reply programs; hand = h }) hand after
reply_back hand name [] reply h old after t back well = absurd back
reply_back hand name (top ∷ below) reply h old after t back well = by (back.comes well) where
  by : Comes program_room (behind_reply top reply top.own) below (files old) (sharing (files back.pages) h) t
      → GoesTo hand (files old) (and_then t (ends_program name)) (record { name = name; programs = with_reply reply (top ∷ below); hand = h }) hand after
  by (Now left same) = record {
    later = and_then t (ends_program name);
    reaches = here hand (and_then t (ends_program name)) back.pages (files old) after back.told same;
    left = record { task = t; left = left; is = refl };
  }
  by (Behind later is left) = record {
    later = and_then later (ends_program name);
    reaches = changing hand (files old) (and_then t (ends_program name)) (and_then later (ends_program name)) back.pages after back.told (ap (λ u. and_then u (ends_program name)) is);
    left = record { task = later; left = left; is = refl };
  }

goes_from : (hand : List (List ℕ)) (all : Files) (doing same : Doing) (now : Sight) (after : Option (List (List ℕ))) → doing ≡ same → GoesTo hand all same now hand after
    → GoesTo hand all doing now hand after
goes_from hand all doing same now after is g = subst (λ d. GoesTo hand all d now hand after) (sym is) g

serves_old : (call : SysCall) (programs : List Frame) (before : Option (List (List ℕ))) (old : List (List ℕ)) (s : Served) (now : List Frame) (after : Option (List (List ℕ)))
    → before ≡ Some old → ServesTop program_room call programs before s now after → ServesTop program_room call programs (Some old) s now after
serves_old call programs before old s now after told serves = subst (λ b. ServesTop program_room call programs b s now after) told serves

served_left : (call : SysCall) (programs : List Frame) (old : List (List ℕ)) (reply : SysReply) (now : List Frame) (after : Option (List (List ℕ))) (h : Hand) (t : Task Ended)
    → IsAt program_room programs (sharing (files old) h) t → TopAsks call programs → ServesTop program_room call programs (Some old) (served.Reply reply) now after
    → ComesBack program_room now reply h old after t
served_left call [] old reply now after h t at asks serves = absurd at
served_left call (top ∷ below) old reply now after h t at asks serves = served_so program_room call top below old (served.Reply reply) now after h t at asks serves

pub replies_told : (hand : List (List ℕ)) (call : SysCall) (p : Sight) (before : Option (List (List ℕ))) (old : List (List ℕ)) (doing : Doing) (reply : SysReply) (programs : List Frame) (now : Sight)
    (after : Option (List (List ℕ))) → before ≡ Some old → IsLeftOf p (files old) doing → TopAsks call p.programs
    → ServesTop program_room call p.programs before (served.Reply reply) programs after → IsReplied reply (record p { programs = programs }) now → now.hand ≡ p.hand
    → GoesTo hand (files old) doing now hand after
replies_told hand call p before old doing reply programs now after told is asks serves replied same =
    goes_from hand (files old) doing (and_then is.task (ends_program p.name)) now after is.is
    (of_parts (λ s. GoesTo hand (files old) (and_then is.task (ends_program p.name)) s hand after) now p.name (with_reply reply programs) p.hand replied.name replied.programs same
    (reply_back hand p.name programs reply p.hand old after is.task
    (served_left call p.programs old reply programs after p.hand is.task is.left asks (serves_old call p.programs before old (served.Reply reply) programs after told serves))
    (subst TopWell replied.programs replied.well)))

-- ---- A program that is put on the stack

pushed_left : (call : SysCall) (programs : List Frame) (old : List (List ℕ)) (now : List Frame) (after : Option (List (List ℕ))) (h : Hand) (t : Task Ended)
    → IsAt program_room programs (sharing (files old) h) t → TopAsks call programs → ServesTop program_room call programs (Some old) served.Pushed now after → TopWell now
    → IsAt program_room now (sharing (files old) h) t
pushed_left call [] old now after h t at asks serves well = absurd at
pushed_left call (top ∷ below) old now after h t at asks serves well = served_so program_room call top below old served.Pushed now after h t at asks serves well

stays_told : (call : SysCall) (programs : List Frame) (before : Option (List (List ℕ))) (now : List Frame) (after : Option (List (List ℕ))) → IsThere programs
    → ServesTop program_room call programs before served.Pushed now after → after ≡ before
stays_told call [] before now after there serves = absurd there
stays_told call (top ∷ below) before now after there serves = serves.1

pub begins_well : (programs : List Frame) → TopBegins programs → TopWell programs
begins_well [] begins = absurd begins
begins_well (top ∷ below) begins = begins.0

at_is_there : (programs : List Frame) (w : Shared) (t : Task Ended) → IsAt program_room programs w t → IsThere programs
at_is_there [] w t at = absurd at
at_is_there (top ∷ below) w t at = tt

pub runs_told : (hand : List (List ℕ)) (call : SysCall) (p : Sight) (before : Option (List (List ℕ))) (old : List (List ℕ)) (doing : Doing) (now : Sight) (after : Option (List (List ℕ)))
    → before ≡ Some old → IsLeftOf p (files old) doing → TopAsks call p.programs → ServesTop program_room call p.programs before served.Pushed now.programs after
    → TopBegins now.programs → now.name ≡ p.name → now.hand ≡ p.hand → GoesTo hand (files old) doing now hand after
runs_told hand call p before old doing now after told is asks serves begins name same =
    record {
      later = doing;
      reaches = here hand doing old (files old) after
          (stays_told call p.programs before now.programs after (at_is_there p.programs (sharing (files old) p.hand) is.task is.left) serves ∙ told) refl;
      left = of_parts (λ s. IsLeftOf s (files old) doing) now p.name now.programs p.hand name refl same (record {
        task = is.task;
        left = pushed_left call p.programs old now.programs after p.hand is.task is.left asks
            (serves_old call p.programs before old served.Pushed now.programs after told serves) (begins_well now.programs begins);
        is = is.is;
      });
    }

-- ---- A call of a device

-- behind the reply this is left
behind : (p now : Sight) (all : Files) (call : SysCall) (t : Task Ended) (reply : SysReply) (asks : AsksFirst call p.programs (sharing all p.hand) t) → IsReplied reply p now
    → IsLeftOf now all (and_then (asks.later (replied_with reply asks.own all now.hand)) (ends_program p.name))
behind p now all call t reply asks is =
    of_parts (λ s. IsLeftOf s all (and_then (asks.later (replied_with reply asks.own all now.hand)) (ends_program p.name))) now p.name (with_reply reply p.programs) now.hand
    is.name is.programs refl
    (record {
      task = asks.later (replied_with reply asks.own all now.hand);
      left = asks.goes_on reply (sharing all now.hand) (subst TopWell is.programs is.well);
      is = refl;
    })

-- the task of the command, where that of the call is this
task_is : (p : Sight) (all : Files) (doing : Doing) (left : IsLeftOf p all doing) (call : SysCall) (asks : AsksFirst call p.programs (sharing all p.hand) left.task) (t : Task Answer)
    → answer (runner asks.room) call asks.own (sharing all p.hand) ≡ t → doing ≡ and_then (and_then t asks.later) (ends_program p.name)
task_is p all doing left call asks t is =
    left.is ∙ ap (λ u. and_then u (ends_program p.name)) (asks.is ∙ ap (λ u. and_then u asks.later) is)

-- it is answered at once
pub answers_told : (hand : List (List ℕ)) (p now : Sight) (old : List (List ℕ)) (doing : Doing) (left : IsLeftOf p (files old) doing) (call : SysCall) (reply : SysReply) (after : Option (List (List ℕ)))
    (asks : AsksFirst call p.programs (sharing (files old) p.hand) left.task) → after ≡ Some old
    → answer (runner asks.room) call asks.own (sharing (files old) p.hand) ≡ Gives (replied_with reply asks.own (files old) now.hand) → IsReplied reply p now
    → GoesTo hand (files old) doing now hand after
answers_told hand p now old doing left call reply after asks told is replied =
    let later = and_then (asks.later (replied_with reply asks.own (files old) now.hand)) (ends_program p.name) in
    goes_from hand (files old) doing later now after (task_is p (files old) doing left call asks (Gives (replied_with reply asks.own (files old) now.hand)) is)
    (record { later = later; reaches = here hand later old (files old) after told refl; left = behind p now (files old) call left.task reply asks replied })

-- a line is displayed before
pub displays_told : (hand : List (List ℕ)) (p now : Sight) (old : List (List ℕ)) (doing : Doing) (left : IsLeftOf p (files old) doing) (call : SysCall) (line : List ℕ) (after : Option (List (List ℕ)))
    (asks : AsksFirst call p.programs (sharing (files old) p.hand) left.task) → after ≡ Some old
    → answer (runner asks.room) call asks.own (sharing (files old) p.hand) ≡ Displays line (Gives (replied_with replies.Done asks.own (files old) now.hand)) → IsReplied replies.Done p now
    → CameTo hand (files old) doing (law.DisplayNeeded line) now hand after
displays_told hand p now old doing left call line after asks told is replied =
    let later = and_then (asks.later (replied_with replies.Done asks.own (files old) now.hand)) (ends_program p.name) in
    record {
      pages = old;
      told = told;
      maps = [];
      pause = GoesOn hand later;
      comes = ap (comes_to hand (files old)) (task_is p (files old) doing left call asks (Displays line (Gives (replied_with replies.Done asks.own (files old) now.hand))) is);
      stands = (later, refl, behind p now (files old) call left.task replies.Done asks replied);
    }

-- or one is printed
pub record PrintsFirst (now : Sight) (all : Files) (line : List ℕ) (doing : Doing) : Type 0 where
  pub later : Doing
  pub is : doing ≡ Prints line later
  pub left : IsLeftOf now all later

pub prints_first : (p now : Sight) (all : Files) (doing : Doing) (left : IsLeftOf p all doing) (call : SysCall) (line : List ℕ)
    (asks : AsksFirst call p.programs (sharing all p.hand) left.task)
    → answer (runner asks.room) call asks.own (sharing all p.hand) ≡ Prints line (Gives (replied_with replies.Done asks.own all now.hand)) → IsReplied replies.Done p now
    → PrintsFirst now all line doing
prints_first p now all doing left call line asks is replied =
    record {
      later = and_then (asks.later (replied_with replies.Done asks.own all now.hand)) (ends_program p.name);
      is = task_is p all doing left call asks (Prints line (Gives (replied_with replies.Done asks.own all now.hand))) is;
      left = behind p now all call left.task replies.Done asks replied;
    }

pub prints_told : (hand : List (List ℕ)) (now : Sight) (old : List (List ℕ)) (line : List ℕ) (doing : Doing) (after : Option (List (List ℕ))) → after ≡ Some old
    → PrintsFirst now (files old) line doing → fits_behind hand line ≡ true → GoesTo hand (files old) doing now (hand ++ line ∷ []) after
prints_told hand now old line doing after told prints room =
    record { later = prints.later; reaches = on-page hand line doing prints.later old after told room prints.is; left = prints.left }

pub fills_told : (hand : List (List ℕ)) (now : Sight) (old : List (List ℕ)) (line : List ℕ) (doing : Doing) (after : Option (List (List ℕ))) → after ≡ Some old
    → PrintsFirst now (files old) line doing → fits_behind hand line ≡ false → CameTo hand (files old) doing (law.PageNeeded hand) now (line ∷ []) after
fills_told hand now old line doing after told prints room =
    record {
      pages = old;
      told = told;
      maps = [];
      pause = GoesOn (line ∷ []) prints.later;
      comes = full-page hand line doing prints.later (files old) room prints.is;
      stands = (prints.later, refl, prints.left);
    }

-- ---- A card file or a line is needed

pub cards_told : (hand : List (List ℕ)) (p now : Sight) (old : List (List ℕ)) (doing : Doing) (after : Option (List (List ℕ))) → after ≡ Some old → IsLeftOf p (files old) doing
    → TopAsks calls.Read p.programs → ReadsSo p.hand None now.hand → IsAsking p now → CameTo hand (files old) doing law.CardsNeeded now hand after
cards_told hand p now old doing after told left asks reads is =
    let a = asks_first calls.Read p.programs (sharing (files old) p.hand) left.task left.left asks in
    let none = reads_none a.own (files old) p.hand now.hand reads in
    let gives : CardFile → Answer = λ file. replied_with (replies.Char (next_character (text file.cards))) a.own (files old)
    (record p.hand { input = Some (but_the_first (text file.cards)); spoiled = file.spoiled }) in
    let more : CardFile → Doing = λ file. and_then (a.later (gives file)) (ends_program p.name) in
    record {
      pages = old;
      told = told;
      maps = [];
      pause = WantsCards hand more;
      comes = ap (comes_to hand (files old)) (task_is p (files old) doing left calls.Read a (ReadsCards (λ file. Gives (gives file))) none.0);
      stands = (
        more,
        refl,
        λ file next takes.
            of_parts (λ s. IsLeftOf s (files old) (more file)) next p.name (with_reply (replies.Char (next_character (text file.cards))) p.programs)
            (record p.hand { input = Some (but_the_first (text file.cards)); spoiled = file.spoiled })
            (ap (λ (s : Sight). s.name) takes.is ∙ is.name)
            (ap (λ (s : Sight). s.programs) takes.is ∙ ap (with_reply (replies.Char (next_character (text file.cards)))) is.programs)
            (ap (λ (s : Sight). s.hand) takes.is ∙ ap {A = Hand} (λ h. record h { input = Some (but_the_first (text file.cards)); spoiled = file.spoiled }) none.1)
            (record {
              task = a.later (gives file);
              left = a.goes_on (replies.Char (next_character (text file.cards)))
                  (sharing (files old) (record p.hand { input = Some (but_the_first (text file.cards)); spoiled = file.spoiled }))
                  (subst TopWell (ap (λ (s : Sight). s.programs) takes.is ∙ ap (with_reply (replies.Char (next_character (text file.cards)))) is.programs) takes.well);
              is = refl;
            }),
      );
    }

pub line_told : (hand : List (List ℕ)) (p now : Sight) (old : List (List ℕ)) (doing : Doing) (after : Option (List (List ℕ))) → after ≡ Some old → IsLeftOf p (files old) doing
    → TopAsks calls.Accept p.programs → AcceptsSo p.hand None now.hand → IsAsking p now → CameTo hand (files old) doing law.LineNeeded now hand after
line_told hand p now old doing after told left asks accepts is =
    let a = asks_first calls.Accept p.programs (sharing (files old) p.hand) left.task left.left asks in
    let none = accepts_none a.own (files old) p.hand now.hand accepts in
    let gives : Feed → Answer = λ typed. replied_with (replies.Char (next_character (typed_text typed))) a.own (files old)
    (record p.hand { typed = but_the_first (typed_text typed) }) in
    let more : Feed → Doing = λ typed. and_then (a.later (gives typed)) (ends_program p.name) in
    record {
      pages = old;
      told = told;
      maps = [];
      pause = WantsLine hand more;
      comes = ap (comes_to hand (files old)) (task_is p (files old) doing left calls.Accept a (Accepts (λ typed. Gives (gives typed))) none.0);
      stands = (
        more,
        refl,
        λ typed next takes.
            of_parts (λ s. IsLeftOf s (files old) (more typed)) next p.name (with_reply (replies.Char (next_character (typed_text typed))) p.programs)
            (record p.hand { typed = but_the_first (typed_text typed) })
            (ap (λ (s : Sight). s.name) takes.is ∙ is.name)
            (ap (λ (s : Sight). s.programs) takes.is ∙ ap (with_reply (replies.Char (next_character (typed_text typed)))) is.programs)
            (ap (λ (s : Sight). s.hand) takes.is ∙ ap {A = Hand} (λ h. record h { typed = but_the_first (typed_text typed) }) none.1)
            (record {
              task = a.later (gives typed);
              left = a.goes_on (replies.Char (next_character (typed_text typed)))
                  (sharing (files old) (record p.hand { typed = but_the_first (typed_text typed) }))
                  (subst TopWell (ap (λ (s : Sight). s.programs) takes.is ∙ ap (with_reply (replies.Char (next_character (typed_text typed)))) is.programs) takes.well);
              is = refl;
            }),
      );
    }

-- ---- The end of the top program

ended_left : (finish : Finish) (programs : List Frame) (args : List Arg) (now : List Frame) (w : Shared) (t : Task Ended) → IsAt program_room programs w t
    → top_ended programs ≡ Some finish → PopsTop finish programs args now → IsThere now → TopWell now → IsAt program_room now w t
ended_left finish [] args now w t at ended pops there well = absurd at
ended_left finish (top ∷ below) args [] w t at ended pops there well = absurd there
ended_left finish (top ∷ below) args (caller ∷ rest) w t at ended pops there well =
    popped_so program_room finish top below args (caller ∷ rest) w t at ended pops well

pub end_told : (hand : List (List ℕ)) (finish : Finish) (p : Sight) (old : List (List ℕ)) (doing : Doing) (args : List Arg) (now : Sight) (after : Option (List (List ℕ))) → after ≡ Some old
    → IsLeftOf p (files old) doing → top_ended p.programs ≡ Some finish → PopsTop finish p.programs args now.programs → IsThere now.programs → TopWell now.programs
    → now.name ≡ p.name → now.hand ≡ p.hand → GoesTo hand (files old) doing now hand after
end_told hand finish p old doing args now after told left ended pops there well name same =
    record {
      later = doing;
      reaches = here hand doing old (files old) after told refl;
      left = of_parts (λ s. IsLeftOf s (files old) doing) now p.name now.programs p.hand name refl same (record {
        task = left.task;
        left = ended_left finish p.programs args now.programs (sharing (files old) p.hand) left.task left.left ended pops there well;
        is = left.is;
      });
    }

-- the command ends
pub record GivesEnd (finish : Finish) (w : Shared) (t : Task Ended) : Type 0 where
  pub own : Own
  pub is : t ≡ Gives (end_of finish own w)

last_left : (finish : Finish) (programs : List Frame) (args : List Arg) (w : Shared) (t : Task Ended) → IsAt program_room programs w t
    → top_ended programs ≡ Some finish → PopsTop finish programs args [] → GivesEnd finish w t
last_left finish [] args w t at ended pops = absurd at
last_left finish (top ∷ below) args w t at ended pops = record { own = top.own; is = popped_so program_room finish top below args [] w t at ended pops }

drop_none : (lines : List (List ℕ)) → drop 0 lines ≡ lines
drop_none [] = refl
drop_none (line ∷ lines) = refl

left_to_print : (name : List ℕ) (finish : Finish) (h : Hand) (printing : Printing) → EndsWith name finish h printing
    → prints_all (last_line h.print) (Gives (answers_of name finish h)) ≡ prints_then printing.lines printing.next printing.answers
left_to_print name finish h printing is =
    ap (λ l. prints_all l (Gives (answers_of name finish h))) (sym is.lines)
    ∙ ap (λ a. prints_all printing.lines (Gives a)) (sym is.answers)
    ∙ ap (λ l. prints_all l (Gives printing.answers)) (sym (drop_none printing.lines))
    ∙ ap (λ n. prints_all (drop n printing.lines) (Gives printing.answers)) (sym is.next)

pub ends_told : (hand : List (List ℕ)) (finish : Finish) (p : Sight) (old : List (List ℕ)) (doing : Doing) (args : List Arg) (printing : Printing) (after : Option (List (List ℕ)))
    → after ≡ Some old → IsLeftOf p (files old) doing → top_ended p.programs ≡ Some finish → PopsTop finish p.programs args [] → EndsWith p.name finish p.hand printing
    → Reaches hand (files old) doing hand (prints_then printing.lines printing.next printing.answers) after
ends_told hand finish p old doing args printing after told left ended pops is =
    let e = last_left finish p.programs args (sharing (files old) p.hand) left.task left.left ended pops in
    subst (λ d. Reaches hand (files old) d hand (prints_then printing.lines printing.next printing.answers) after)
    (sym (left.is ∙ ap (λ u. and_then u (ends_program p.name)) e.is ∙ left_to_print p.name finish p.hand printing is))
    (here hand (prints_then printing.lines printing.next printing.answers) old (files old) after told refl)
