-- What a reply gives to the program that made the call.
use Rattle.std.specs.Prelude.{ℕ, List, [], ◌∷◌, map, ℤ, pos}
use Rattle.solo_base.specs.Arithmetic.{truth}
use Rattle.solo_base.specs.declared.system_call.SysReply.{SysReply}
use Rattle.solo_base.specs.declared.system_call.SysReply.TheVariants as replies

-- the words for the variables that the call sets and for its result, the last one first: an argument
-- gives its number and its tag, a program's end its result and its line
abbrev pub results_in : SysReply → List ℤ
results_in (replies.Char byte) = pos byte ∷ []
results_in (replies.Opened found) = truth found ∷ []
results_in (replies.Length pages) = pages ∷ []
results_in (replies.Found kind found) = truth found ∷ kind ∷ []
results_in (replies.Argument tag number name) = number ∷ tag ∷ []
results_in (replies.Ran line number ticks) = number ∷ line ∷ []
results_in other = []

-- the words that a reply sets in the array of the call, from the array's first on
abbrev pub array_in : SysReply → List ℤ
array_in (replies.Page page) = map pos page.0
array_in (replies.Argument tag number name) = map pos name
array_in other = []

-- the ticks that a reply says were taken
abbrev pub ticks_in : SysReply → ℕ
ticks_in (replies.Ran line number ticks) = ticks
ticks_in other = 0
