-- The calls of devices, by what the programs of a command share.
use Rattle.std.specs.Prelude.{◌≡◌, ℕ, List, [], ◌∷◌, Option}
use Rattle.std.specs.Option.{option_map}
use Rattle.solo_base.specs.declared.system_call.SysCall.{SysCall}
use Rattle.pascal_mean.specs.Batch.{next_character, but_the_first, characters_of}
use Rattle.batch_program.specs.Printing.{Prints}
use Rattle.prog_stack.specs.Answers.{Hand}
use Rattle.program_run.specs.Characters.{first_of}

-- a character of the card file is read, if one was read before
pub record ReadsSo (h : Hand) (found : Option ℕ) (now : Hand) : Type 0 where
  pub code : found ≡ option_map next_character h.input
  pub left : now ≡ record h { input = option_map but_the_first h.input }

-- a character of the typed line is accepted, if one is left
pub record AcceptsSo (h : Hand) (found : Option ℕ) (now : Hand) : Type 0 where
  pub code : found ≡ first_of h.typed
  pub left : now ≡ record h { typed = but_the_first h.typed }

-- what a call writes completes this line or none
pub record WritesSo (h : Hand) (call : SysCall) (full : Option (List ℕ)) (now : Hand) : Type 0 where
  pub line : Prints h.print (characters_of call) full now.print
  pub left : now ≡ record h { print = now.print }

pub record DisplaysSo (h : Hand) (code : ℕ) (full : Option (List ℕ)) (now : Hand) : Type 0 where
  pub line : Prints h.display (code ∷ []) full now.display
  pub left : now ≡ record h { display = now.display }
