-- The calls of devices: characters of the card file, of the typewriter, and of the lines that are made.
use Rattle.std.specs.Prelude.{ℕ, List, [], ◌∷◌, Option, Some, None}
use Rattle.solo_base.specs.Text.{line_text, text}
use Rattle.solo_base.specs.declared.item.Item.TheVariants.{Line, Spoiled}
use Rattle.solo_base.specs.declared.item.Feed.{Feed}
use Rattle.solo_base.specs.declared.item.Feed.TheVariants as feed
use Rattle.solo_base.specs.declared.system_call.SysReply.TheVariants as replies
use Rattle.pascal_mean.specs.Batch.{next_character, but_the_first, with_characters}
use Rattle.program_task.specs.Task.{Task, ReadsCards, Accepts, prints_all, displays_all}
use Rattle.program_task.specs.Program.{Own, Shared, Answer, simply}

-- ---- READ

-- the next character of the card file, and code 25 behind the last one
abbrev pub reads : List ℕ → Own → Shared → Task Answer
reads input own w =
    simply (replies.Char (next_character input)) own (record w { input = Some (but_the_first input) })

-- the first READ of a command needs the next card file
abbrev pub reads_from : Option (List ℕ) → Own → Shared → Task Answer
reads_from (Some input) own w = reads input own w
reads_from None own w = ReadsCards (λ file. reads (text file.cards) own (record w { spoiled = file.spoiled }))

-- ---- ACCEPT

-- the characters of a typed line: a spoiled one gives code 10 alone, and the end of the keys none
abbrev pub typed_text : Feed → List ℕ
typed_text (feed.Item (Line line)) = line_text line
typed_text (feed.Item Spoiled) = 10 ∷ []
typed_text feed.End = []

-- the next character of the typed line, and code 25 where the keys have ended
abbrev pub accepted : List ℕ → Own → Shared → Task Answer
accepted typed own w =
    simply (replies.Char (next_character typed)) own (record w { typed = but_the_first typed })

-- where none is left of it the next line is needed
abbrev pub accepts : List ℕ → Own → Shared → Task Answer
accepts (code ∷ rest) own w = accepted (code ∷ rest) own w
accepts [] own w = Accepts (λ typed. accepted (typed_text typed) own w)

-- ---- WRITE, WRITEINT and DISPLAY

-- the lines that these characters complete are printed, and the one in hand is kept
abbrev pub writes : List ℕ → Own → Shared → Task Answer
writes characters own w =
    let p = with_characters (record { lines = []; line = w.print }) characters in
    prints_all p.lines (simply replies.Done own (record w { print = p.line }))

abbrev pub displays : List ℕ → Own → Shared → Task Answer
displays characters own w =
    let p = with_characters (record { lines = []; line = w.display }) characters in
    displays_all p.lines (simply replies.Done own (record w { display = p.line }))
