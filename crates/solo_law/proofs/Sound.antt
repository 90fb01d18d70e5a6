-- What is told of the devices stays sound with each event.
use Rattle.std.proofs.Common.{◌≡◌, ℕ, zero, suc, List, [], ◌∷◌, length, drop, Option, None, Some, refl, subst}
use Rattle.std.specs.Option.{option_map}
use Rattle.solo_base.specs.declared.item.Item.{Item}
use Rattle.solo_devices.specs.declared.card_read.CardRead.{CardRead}
use Rattle.solo_devices.specs.CardUnit.{item_of}
use Rattle.page_codec.specs.Items.{AreItems}
use Rattle.network_run.specs.Law.{run}
use Rattle.network_law.specs.Network.{happens}
use Rattle.place_law.specs.Process.{Does}
use Rattle.solo_law.specs.Work.{Given, Plan, PlanFits}
use Rattle.solo_law.specs.Actions.{Action, Reply}
use Rattle.solo_law.specs.Actions as act
use Rattle.solo_law.specs.Devices.{Devices, AreSound, read_off, plan_behind}
use Rattle.solo_law.specs.Devices as devices
use Rattle.solo_law.specs.Solo.{solo, opened, SoloState, SoloEntry, SoloEvent, IsReached, the_law}

drop-items : (n : ℕ) (items : List Item) → AreItems items → AreItems (drop n items)
drop-items zero items are = are
drop-items (suc n) [] are = tt
drop-items (suc n) (item ∷ items) are = drop-items n items are.1

rest-items : (answer : CardRead) (deck : Option (List Item)) → ((items : List Item) → deck ≡ Some items → AreItems items) → (items : List Item)
    → read_off answer deck ≡ Some items → AreItems items
rest-items answer None are items e = absurd cc
rest-items answer (Some all) are items e = subst AreItems (the-rest (drop (length (item_of answer)) all) items e)
    (drop-items (length (item_of answer)) all (are all refl)) where
      the-rest : (a b : List Item) → Some a ≡ Some b → a ≡ b
      the-rest a b e = cc

rest-plan : (given : Given) (told : Option Plan) → ((plan : Plan) → told ≡ Some plan → PlanFits plan) → (plan : Plan)
    → option_map (plan_behind given) told ≡ Some plan → PlanFits plan
rest-plan given None fits plan e = absurd cc
rest-plan given (Some first) fits plan e =
    subst PlanFits (the-plan (plan_behind given first) plan e) (λ before next. fits first refl (given ∷ before) next) where
      the-plan : (a b : Plan) → Some a ≡ Some b → a ≡ b
      the-plan a b e = cc

pub given-sound : (d : Devices) (entry : SoloEntry) (gained : List ℕ) → AreSound d → AreSound (devices.given d entry gained)
given-sound d (Does act.ReadCard (act.OfCard answer)) gained are =
    record { cards = rest-items answer d.cards are.cards; keys = are.keys; work = are.work }
given-sound d (Does act.Accept (act.OfCard answer)) gained are =
    record { cards = are.cards; keys = rest-items answer d.keys are.keys; work = are.work }
given-sound d (Does (act.Works work) (act.Found need)) gained are =
    record { cards = are.cards; keys = are.keys; work = rest-plan work.given d.work are.work }
given-sound d (Does (act.Print line) reply) gained are = record { cards = are.cards; keys = are.keys; work = are.work }
given-sound d (Does (act.Display line) reply) gained are = record { cards = are.cards; keys = are.keys; work = are.work }
given-sound d entry gained are = are

run-sound : (s : SoloState) (events : List SoloEvent) → AreSound s.devices → AreSound (run the_law s events).devices
run-sound s [] are = are
run-sound s (event ∷ events) are = run-sound (happens solo s event) events (given-sound s.devices event.entry event.gained are)

pub reached-sound : (d : Devices) (s : SoloState) → IsReached d s → AreSound s.devices
reached-sound d s reached =
    subst (λ (s : SoloState). AreSound s.devices) reached.reached.leads (run-sound (opened d) reached.reached.events reached.sound)
