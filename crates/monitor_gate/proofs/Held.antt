-- What a seat holds once it took the slot.
use Rattle.std.proofs.Common.{◌≡◌, ℕ, List, ◌∷◌, Option, Some, sym, ap, ◌∙◌}
use Rattle.atomic_table.specs.Table.{Me, rest}
use Rattle.monitor_gate.specs.declared.view.View.{View}
use Rattle.monitor_gate.specs.Steps.{inside}

pub held : {S E : Type 0} (now before : Me (Option S) (View S E)) (x : S) → now ≡ inside before x → (old : Option S) × (now.1 ≡ (0, old) ∷ rest now.1)
held now before x is = let holds = ap (λ (m : Me (Option _) (View _ _)). m.1) is in (Some x, holds ∙ ap (λ (cs : List (ℕ × Option _)). (0, Some x) ∷ rest cs) (sym holds))
