-- A typewriter: the keys on which lines are typed, and the console on which they are displayed.
use Rattle.std.specs.Prelude.{refl}
use Rattle.std.specs.Coded.{Coded, code_by, coded×}
use Rattle.solo_devices.specs.CardUnit.{Held, held_code}
use Rattle.solo_devices.specs.PrinterUnit.{Printing, printing_code}

-- The keys are read as a card unit reads a deck, and the console is printed on as a printer unit prints.
pub record Typing (Y T : Type 0) : Type 0 where
  pub keys : Held Y
  pub console : Printing T

-- it is stored as its fields
abbrev pub typing_code : {Y T : Type 0} → Coded Y → Coded T → Coded (Typing Y T)
typing_code {Y} {T} keys console =
    code_by (Held Y × Printing T) (coded× (held_code keys) (printing_code console))
    (λ t. (t.keys, t.console)) (λ p. record { keys = p.0; console = p.1 }) (λ _. refl)
