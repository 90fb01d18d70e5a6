-- What the three processes of Solo do next, by computing.
use Rattle.std.proofs.Common.{◌≡◌, List, [], ◌∷◌, None, Some, refl, true, false}
use Rattle.std.specs.Prelude.{codes}
use Rattle.solo_base.specs.declared.item.Item.TheVariants.{Line, Spoiled}
use Rattle.solo_base.specs.declared.system_call.Arg.TheVariants as arg
use Rattle.solo_base.specs.declared.outcome.Outcome.TheVariants as outcome
use Rattle.solo_base.specs.declared.outcome.Cause.TheVariants as cause
use Rattle.solo_base.specs.declared.page.Page.{Page}
use Rattle.solo_devices.specs.declared.card_read.CardRead.TheVariants as read
use Rattle.page_codec.specs.Form.{page_of}
use Rattle.page_codec.specs.Items.{items_bytes}
use Rattle.place_law.specs.Process.{Does, Delays, next_action}
use Rattle.solo_law.specs.Work.{OfLine, OfCards, OfNothing, CardsNeeded, PageNeeded, EndNeeded}
use Rattle.solo_law.specs.Actions as act
use Rattle.solo_law.specs.Replies.{view}
use Rattle.solo_law.specs.InputPlaces.{input}
use Rattle.solo_law.specs.OutputPlaces.{output}
use Rattle.solo_law.specs.JobPlaces.{job, cards_order, printer_order}
use Rattle.solo_law.specs.Solo.{SoloEntry}

-- ---- the end of what is typed: both are dismissed, and the job process ends
dismisses : next_action view job (Does act.Accept (act.OfCard read.End) ∷ []) ≡ Some (act.PutArg 1 arg.Nil)
dismisses = refl

dismisses-output : next_action view job (Does (act.PutArg 1 arg.Nil) act.Done ∷ Does act.Accept (act.OfCard read.End) ∷ []) ≡ Some (act.PutArg 4 arg.Nil)
dismisses-output = refl

job-ends : next_action view job (Does (act.PutArg 4 arg.Nil) act.Done ∷ Does (act.PutArg 1 arg.Nil) act.Done ∷ Does act.Accept (act.OfCard read.End) ∷ [])
    ≡ Some (act.Ended outcome.Done)
job-ends = refl

input-ends : next_action view input (Does (act.TakeArg 1) (act.OfArg arg.Nil) ∷ []) ≡ Some (act.Ended outcome.Done)
input-ends = refl

nothing-then : next_action view input (Does (act.Ended outcome.Done) act.Done ∷ Does (act.TakeArg 1) (act.OfArg arg.Nil) ∷ []) ≡ None
nothing-then = refl

-- ---- a blank line is passed over
passed_over : next_action view job (Does act.Accept (act.OfCard (read.Card [])) ∷ []) ≡ Some act.Accept
passed_over = refl

-- ---- a spoiled line is worked on as any other, and answered
abbrev spoiled : List SoloEntry
spoiled = Does act.Accept (act.OfCard read.Spoiled) ∷ []

works : next_action view job spoiled ≡ Some (act.Works (record { given = OfLine Spoiled; pages = 0 }))
works = refl

abbrev answered : List SoloEntry
answered = Does (act.Works (record { given = OfLine Spoiled; pages = 0 })) (act.Found (EndNeeded [] (codes "BAD COMMAND" ∷ []))) ∷ spoiled

answers : next_action view job answered ≡ Some (act.Display (codes "BAD COMMAND"))
answers = refl

listens : next_action view job (Does (act.Display (codes "BAD COMMAND")) act.Done ∷ answered) ≡ Some act.Accept
listens = refl

-- ---- a copy from cards with a spoiled card
abbrev copying : List SoloEntry
copying = Does act.Accept (act.OfCard (read.Card (codes "copy(cards, t)"))) ∷ []

abbrev found : List SoloEntry
found = Does (act.Works (record { given = OfLine (Line (codes "copy(cards, t)")); pages = 0 })) (act.Found CardsNeeded) ∷ copying

orders : next_action view job found ≡ Some (act.PutArg 1 cards_order)
orders = refl

abbrev one_page : List SoloEntry
one_page = Does (act.TakePage 2) (act.OfPage (page_of 0 true (items_bytes (Line (codes "A") ∷ [])))) ∷ Does (act.PutArg 1 cards_order) act.Done ∷ found

takes-report : next_action view job one_page ≡ Some (act.TakeArg 3)
takes-report = refl

goes_on : next_action view job (Does (act.TakeArg 3) (act.OfArg (arg.Bool false)) ∷ one_page)
    ≡ Some (act.Works (record { given = OfCards (codes "A" ∷ []) true; pages = 0 }))
goes_on = refl

-- the input process drops the cards behind the spoiled one, and reports it
abbrev ordered : List SoloEntry
ordered = Does (act.TakeArg 1) (act.OfArg cards_order) ∷ []

abbrev read_all : List SoloEntry
read_all = Does act.ReadCard (act.OfCard (read.Card (codes "#END"))) ∷ Does act.ReadCard (act.OfCard (read.Card (codes "B")))
    ∷ Does act.ReadCard (act.OfCard read.Spoiled) ∷ Does act.ReadCard (act.OfCard (read.Card (codes "A"))) ∷ ordered

puts-last : next_action view input read_all ≡ Some (act.PutPage 2 (page_of 0 true (items_bytes (Line (codes "A") ∷ []))))
puts-last = refl

reports : next_action view input (Does (act.PutPage 2 (page_of 0 true (items_bytes (Line (codes "A") ∷ [])))) act.Done ∷ read_all) ≡ Some (act.PutArg 3
    (arg.Bool false))
reports = refl

-- ---- a page that completes is put behind an order, and a last one is waited for
abbrev full : Page
full = page_of 0 false (items_bytes (Line (codes "A") ∷ []))

abbrev printing : List SoloEntry
printing = Does (act.Works (record { given = OfLine (Line (codes "p")); pages = 0 })) (act.Found (PageNeeded (codes "A" ∷ [])))
    ∷ Does act.Accept (act.OfCard (read.Card (codes "p"))) ∷ []

orders-printer : next_action view job printing ≡ Some (act.PutArg 4 printer_order)
orders-printer = refl

puts-page : next_action view job (Does (act.PutArg 4 printer_order) act.Done ∷ printing) ≡ Some (act.PutPage 5 full)
puts-page = refl

works-on : next_action view job (Does (act.PutPage 5 full) act.Done ∷ Does (act.PutArg 4 printer_order) act.Done ∷ printing)
    ≡ Some (act.Works (record { given = OfNothing; pages = 1 }))
works-on = refl

prints : next_action view output (Does (act.TakePage 5) (act.OfPage (page_of 0 true (items_bytes (Line (codes "H") ∷ Line (codes "I") ∷ [])))) ∷ Does
    (act.TakeArg 4)
    (act.OfArg printer_order) ∷ []) ≡ Some (act.Print (codes "H"))
prints = refl

-- ---- a call that waits is made again; with a cause the buffers are stopped in order
again : next_action view output (Delays (act.TakeArg 4) ∷ []) ≡ Some (act.TakeArg 4)
again = refl

stops : next_action view job (Does act.Accept (act.OfCard read.Failed) ∷ []) ≡ Some (act.Stop 1)
stops = refl

ends-so : next_action view input (Does (act.Stop 3) act.Done ∷ Does (act.Stop 2) act.Done ∷ Does (act.Stop 1) act.Done ∷ Does act.ReadCard
    (act.OfCard read.Limit) ∷ ordered)
    ≡ Some (act.Ended (outcome.Fault cause.DeckLimit))
ends-so = refl
