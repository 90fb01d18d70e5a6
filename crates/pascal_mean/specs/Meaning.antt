-- What a program means.
use Rattle.std.specs.Prelude.{ℕ, zero, suc, ◌-◌, List, [], ◌∷◌, ◌++◌, length, take, slice_get, unwrap_or, ℤ}
use Rattle.solo_base.specs.declared.outcome.ProgResult.TheVariants as result
use Rattle.solo_base.specs.declared.system_call.SysReply.{SysReply}
use Rattle.solo_base.specs.RunOutcome.{RunOutcome, Ends}
use Rattle.pascal_tree.specs.Program.{Program}
use Rattle.pascal_mean.specs.Declarations.{Declared, all_declared, no_routine}
use Rattle.pascal_mean.specs.Situation.{Answers, Situation, Course, Part, Gives, Over, and_then, end_with}
use Rattle.pascal_mean.specs.Variables.{fresh_map, map_at}
use Rattle.pascal_mean.specs.Calls.{Given, begun_map}
use Rattle.pascal_mean.specs.Expressions.{Setting}
use Rattle.pascal_mean.specs.Statements.{after_body}

-- a routine by its number, the program's being 0
abbrev pub declared_at : List Declared → ℕ → Declared
declared_at all k = unwrap_or (slice_get all k) no_routine

-- an activation that begins: it took no tick yet
abbrev pub begun : Declared → List Given → Situation → Situation
begun r given now = record now { maps = now.maps ++ begun_map (r.signature).parameters given ∷ []; line = 0 }

-- the activation with this number has ended, and the line is again its caller's
abbrev pub ended : ℕ → ℕ → Situation → Situation
ended number line now = record now { maps = take number now.maps; line = line }

-- what statements of a routine stand in, in the activation with a number
abbrev pub setting_of : Answers → ℕ → Declared → ℕ → (ℕ → List Given → Part ℤ) → Setting
setting_of answers limit r number does =
    record { answers = answers; limit = limit; scope = r.scope; number = number; does = does }

-- a call of a routine while so many activations may still open, which gives the result of a function
abbrev pub called_value : Answers → ℕ → List Declared → ℕ → ℕ → List Given → Part ℤ
called_value answers limit all zero k given now = end_with result.StackLimit now
called_value answers limit all (suc free) k given now =
    let r = declared_at all k in
    let number = length now.maps in
    let inside = setting_of answers limit r number (called_value answers limit all free) in
    and_then (after_body inside r.body (begun r given now)) (λ _ after.
    Gives ((map_at after.maps number).answer) (ended number now.line after))

abbrev pub outcome_of : Course (Unit {0}) → RunOutcome
outcome_of (Gives done now) = Ends result.Terminated now.line now.ticks now.made
outcome_of (Over outcome) = outcome

-- before the program's first statement
abbrev pub opening : Situation
opening = record { maps = fresh_map ∷ []; line = 0; ticks = 0; made = [] }

-- the statements of the program itself: at most 64 activations are open, the program's included
abbrev pub program_part : Answers → ℕ → List Declared → Part (Unit {0})
program_part answers limit all =
    let program = declared_at all 0 in
    after_body (setting_of answers limit program 0 (called_value answers limit all 63)) program.body

-- what a program does under a limit of ticks where its calls are answered so
unfoldable pub meaning_with : Answers → Program → ℕ → RunOutcome
meaning_with answers program limit = outcome_of (program_part answers limit (all_declared program) opening)

-- each call is answered by the reply at its place
abbrev pub in_order : List SysReply → Answers
in_order replies calls = slice_get replies (length calls - 1)

-- What a program does under a limit of ticks where its calls are answered by these replies.
unfoldable pub meaning : Program → ℕ → List SysReply → RunOutcome
meaning program limit replies = meaning_with (in_order replies) program limit
