-- Arguments, as a program reads and writes them: a tag, a number and a name.
use Rattle.std.specs.Prelude.{ℕ, zero, suc, Bool, true, false, if◌then◌else◌, List, [], ◌∷◌, ◌++◌, length, nat_lt, replicate, Option, Some, None, ℤ, pos}
use Rattle.solo_base.specs.Arguments.{word_name}
use Rattle.solo_base.specs.Arithmetic.{truth}
use Rattle.solo_base.specs.declared.arg_list.TheConstants.{ARG_LIMIT}
use Rattle.solo_base.specs.declared.system_call.Arg.{Arg}
use Rattle.solo_base.specs.declared.system_call.Arg.TheVariants as arg
use Rattle.solo_base.specs.declared.system_call.SysReply.{SysReply}
use Rattle.solo_base.specs.declared.system_call.SysReply.TheVariants as replies
use Rattle.program_task.specs.Task.{Task}
use Rattle.program_task.specs.Program.{Own, Shared, Answer, simply, refuses}

abbrev pub blank_name : List ℕ
blank_name = replicate 12 32

-- READARG: an argument's tag is 0 for nil, 1 for a boolean, 2 for an integer, 3 for an identifier; what it
-- doesn't use is 0 and blanks
abbrev pub argument : Arg → SysReply
argument arg.Nil = replies.Argument (pos 0) (pos 0) blank_name
argument (arg.Bool value) = replies.Argument (pos 1) (truth value) blank_name
argument (arg.Int value) = replies.Argument (pos 2) value blank_name
argument (arg.Id name) = replies.Argument (pos 3) (pos 0) name

-- the first of the arguments that weren't read; nil where none is left
abbrev pub next_argument : List Arg → SysReply
next_argument [] = argument arg.Nil
next_argument (first ∷ rest) = argument first

abbrev pub later_arguments : List Arg → List Arg
later_arguments [] = []
later_arguments (first ∷ rest) = rest

abbrev pub reads_argument : Own → Shared → Task Answer
reads_argument own w =
    simply (next_argument own.incoming) (record own { incoming = later_arguments own.incoming }) w

-- WRITEARG: the argument with a tag, a number and a name in an array; none where the tag is none of the four,
-- a boolean is neither 0 nor 1, or the array names nothing
abbrev pub boolean_of : ℤ → Option Arg
boolean_of (pos zero) = Some (arg.Bool false)
boolean_of (pos (suc zero)) = Some (arg.Bool true)
boolean_of other = None

abbrev pub named_argument : Option (List ℕ) → Option Arg
named_argument None = None
named_argument (Some name) = Some (arg.Id name)

abbrev pub argument_of : ℤ → ℤ → List ℤ → Option Arg
argument_of (pos zero) number array = Some arg.Nil
argument_of (pos (suc zero)) number array = boolean_of number
argument_of (pos (suc (suc zero))) number array = Some (arg.Int number)
argument_of (pos (suc (suc (suc zero)))) number array = named_argument (word_name array)
argument_of other number array = None

-- behind those that were written, of which there are at most 10
abbrev pub writes_argument : Option Arg → Own → Shared → Task Answer
writes_argument None own w = refuses own w
writes_argument (Some written) own w =
    if nat_lt (length own.outgoing) ARG_LIMIT
    then simply replies.Done (record own { outgoing = own.outgoing ++ written ∷ [] }) w
    else refuses own w
