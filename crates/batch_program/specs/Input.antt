-- The replies that a program gets while its cards come, one after the other.
use Rattle.std.specs.Prelude.{◌≡◌, ℕ, Bool, true, false, List, [], ◌∷◌, Option, Some, None}
use Rattle.solo_base.specs.declared.system_call.SysCall.{SysCall}
use Rattle.solo_base.specs.declared.system_call.SysCall.TheVariants as calls
use Rattle.solo_base.specs.declared.system_call.SysReply.{SysReply}
use Rattle.solo_base.specs.declared.system_call.SysReply.TheVariants as replies
use Rattle.pascal_mean.specs.Situation.{Answers}
use Rattle.pascal_mean.specs.Batch.{next_character, batch_reply, input_after}

-- The next character of the input that is left. Behind the last one there is none yet while more cards may
-- come; once no further one comes it is code 25 for ever.
abbrev pub character_so_far : List ℕ → Bool → Option ℕ
character_so_far [] false = None
character_so_far [] true = Some (next_character [])
character_so_far (code ∷ rest) closed = Some (next_character (code ∷ rest))

abbrev pub read_so_far : Option ℕ → Option SysReply
read_so_far None = None
read_so_far (Some code) = Some (replies.Char code)

-- the batch's reply to a call; a READ that finds no character has none yet
abbrev pub reply_so_far : List ℕ → Bool → SysCall → Option SysReply
reply_so_far input closed calls.Read = read_so_far (character_so_far input closed)
reply_so_far input closed other = Some (batch_reply input other)

-- each of these calls has a reply by now
abbrev pub AreAnswered : List ℕ → Bool → List SysCall → Type 0
AreAnswered input closed [] = Unit {0}
AreAnswered input closed (call ∷ more) =
    (reply_so_far input closed call ≡ Some (batch_reply input call))
    × AreAnswered (input_after input call) closed more

-- the input that is left behind these calls
abbrev pub input_behind : List ℕ → List SysCall → List ℕ
input_behind input [] = input
input_behind input (call ∷ more) = input_behind (input_after input call) more

-- the reply to the last of some calls, where each before it has one
abbrev pub if_answered : Option SysReply → Option SysReply → Option SysReply
if_answered None later = None
if_answered (Some reply) later = later

abbrev pub answers_so_far : List ℕ → Bool → Answers
answers_so_far input closed [] = None
answers_so_far input closed (call ∷ []) = reply_so_far input closed call
answers_so_far input closed (call ∷ next ∷ more) =
    if_answered (reply_so_far input closed call)
    (answers_so_far (input_after input call) closed (next ∷ more))
