-- The table, row by row, on small histories: each is checked by computing alone.
use Rattle.std.proofs.Common.{◌≡◌, ℕ, true, false, List, [], ◌∷◌, Some, refl}
use Rattle.std.specs.Prelude.{codes}
use Rattle.solo_base.specs.declared.item.Item.{Item}
use Rattle.solo_base.specs.declared.item.Item.TheVariants.{Line, Spoiled}
use Rattle.solo_base.specs.declared.item.Feed.TheVariants as feed
use Rattle.solo_base.specs.declared.outcome.Outcome.TheVariants as outcome
use Rattle.solo_base.specs.declared.outcome.Cause.TheVariants as cause
use Rattle.solo_devices.specs.declared.card_read.CardRead.TheVariants as read
use Rattle.page_codec.specs.Form.{page_of}
use Rattle.batch_procs.specs.Jobs.{Jobs}
use Rattle.batch_procs.specs.declared.actions.Action.TheVariants as act
use Rattle.batch_procs.specs.declared.actions.Reply.TheVariants as reply
use Rattle.batch_procs.specs.History.{Entry, Does, LacksMemory, Delays}
use Rattle.batch_procs.specs.Process.{next_action}
use Rattle.batch_procs.specs.Table.{card, input, job, output, printer}

-- small jobs: each line is the name of a file, and nothing is printed
abbrev lines_named : List Item → List (List ℕ)
lines_named [] = []
lines_named (Line line ∷ rest) = line ∷ lines_named rest
lines_named (Spoiled ∷ rest) = lines_named rest

abbrev small : Jobs (Unit {0})
small = record {
  named = lines_named;
  lines = λ items loads ended. [];
  whole = λ items loads ended. ended;
  IsLoad = λ load. Unit {0};
  missing = tt;
  most = 1;
}

-- card: a card is put before the next is read, and End is put before it ends
reads : next_action (card {L = Unit {0}}) [] ≡ Some act.ReadCard
reads = refl

puts : next_action (card {L = Unit {0}}) (Does act.ReadCard (reply.Card read.End) ∷ []) ≡ Some (act.PutFeed feed.End)
puts = refl

again : next_action (card {L = Unit {0}}) (Delays (act.PutFeed feed.End) ∷ Does act.ReadCard (reply.Card read.End) ∷ []) ≡ Some (act.PutFeed feed.End)
again = refl

ends : next_action (card {L = Unit {0}}) (Does (act.PutFeed feed.End) reply.Done ∷ Does act.ReadCard (reply.Card read.End) ∷ []) ≡ Some (act.Ended outcome.Done)
ends = refl

fails : next_action (card {L = Unit {0}}) (Does (act.Stop 1) reply.Done ∷ Does act.ReadCard (reply.Card read.Failed) ∷ []) ≡ Some
    (act.Ended (outcome.Fault cause.ReadFault))
fails = refl

-- input: it awaits room, requests, puts, releases; the last page
awaits : next_action (input {L = Unit {0}}) (Does act.TakeFeed (reply.Feed feed.End) ∷ []) ≡ Some act.AwaitRoom
awaits = refl

requests : next_action (input {L = Unit {0}}) (Does act.AwaitRoom reply.Done ∷ Does act.TakeFeed (reply.Feed feed.End) ∷ []) ≡ Some act.Request
requests = refl

moves : next_action (input {L = Unit {0}}) (Does act.Request reply.Done ∷ Does act.AwaitRoom reply.Done ∷ Does act.TakeFeed (reply.Feed feed.End) ∷ [])
    ≡ Some (act.PutPage (page_of 0 true []))
moves = refl

releases : next_action (input {L = Unit {0}}) (Does (act.PutPage (page_of 0 true [])) reply.Failed ∷ Does act.Request reply.Done ∷ Does act.AwaitRoom reply.Done
    ∷ Does act.TakeFeed (reply.Feed feed.End) ∷ []) ≡ Some act.Release
releases = refl

stops : next_action (input {L = Unit {0}}) (Does (act.Stop 1) reply.Done ∷ Does act.Release reply.Done ∷ Does (act.PutPage (page_of 0 true [])) reply.Failed
    ∷ Does act.Request reply.Done ∷ Does act.AwaitRoom reply.Done ∷ Does act.TakeFeed (reply.Feed feed.End) ∷ []) ≡ Some (act.Stop 2)
stops = refl

done : next_action (input {L = Unit {0}}) (Does act.Release reply.Done ∷ Does (act.PutPage (page_of 0 true [])) reply.Done ∷ Does act.Request reply.Done
    ∷ Does act.AwaitRoom reply.Done ∷ Does act.TakeFeed (reply.Feed feed.End) ∷ []) ≡ Some (act.Ended outcome.Done)
done = refl

-- job: it works behind each page that it took and each that it put
awaits_item : next_action (job small) [] ≡ Some act.AwaitItem
awaits_item = refl

works : next_action (job small) (Does act.Release reply.Done ∷ Does act.TakePage (reply.Page (page_of 0 true []) true) ∷ Does act.Request reply.Done
    ∷ Does act.AwaitItem reply.Done ∷ []) ≡ Some act.Local
works = refl

sends : next_action (job small) (Does act.Local reply.Done ∷ Does act.Release reply.Done ∷ Does act.TakePage (reply.Page (page_of 0 true []) true)
    ∷ Does act.Request reply.Done ∷ Does act.AwaitItem reply.Done ∷ []) ≡ Some act.AwaitRoom
sends = refl

-- before it works it loads the files that its page names: one with the card `F`
abbrev run_page : List ℕ
run_page = 1 ∷ codes "F"

abbrev taken_page : List (Entry (Unit {0}))
taken_page = Does act.Release reply.Done ∷ Does act.TakePage (reply.Page (page_of 0 true run_page) true) ∷ Does act.Request reply.Done
    ∷ Does act.AwaitItem reply.Done ∷ []

asks : next_action (job small) taken_page ≡ Some act.Request
asks = refl

loads : next_action (job small) (Does act.Request reply.Done ∷ taken_page) ≡ Some (act.Load (codes "F"))
loads = refl

gives_back : next_action (job small) (Does (act.Load (codes "F")) (reply.Loaded tt) ∷ Does act.Request reply.Done ∷ taken_page) ≡ Some act.Release
gives_back = refl

works_then : next_action (job small) (Does act.Release reply.Done ∷ Does (act.Load (codes "F")) (reply.Loaded tt) ∷ Does act.Request reply.Done
    ∷ taken_page) ≡ Some act.Local
works_then = refl

-- behind a page that isn't the last it works on, and behind the last it ends
again_works : next_action (job small) (Does act.Release reply.Done ∷ Does (act.PutPage (page_of 0 false [])) reply.Done ∷ []) ≡ Some act.Local
again_works = refl

job_done : next_action (job small) (Does act.Release reply.Done ∷ Does (act.PutPage (page_of 0 true [])) reply.Done ∷ Does act.Request reply.Done
    ∷ Does act.AwaitRoom reply.Done ∷ Does act.Local reply.Done ∷ Does act.Release reply.Done ∷ Does act.TakePage (reply.Page (page_of 0 true []) true)
    ∷ Does act.Request reply.Done ∷ Does act.AwaitItem reply.Done ∷ []) ≡ Some (act.Ended outcome.Done)
job_done = refl

-- without the memory to unpack, the disk is released first
lacks : next_action (job small)
    (LacksMemory act.TakePage (reply.Page (page_of 0 true []) true) ∷ Does act.Request reply.Done ∷ Does act.AwaitItem reply.Done ∷ [])
    ≡ Some act.Release
lacks = refl

-- a page that isn't the one expected
damaged : next_action (output {L = Unit {0}}) (Does act.Release reply.Done ∷ Does act.TakePage
    (reply.Page (page_of 1 true []) true) ∷ Does act.Request reply.Done
    ∷ Does act.AwaitItem reply.Done ∷ []) ≡ Some (act.Stop 3)
damaged = refl

-- printer
prints : next_action (printer {L = Unit {0}}) (Does act.TakeFeed (reply.Feed (feed.Item (Line (72 ∷ 73 ∷ [])))) ∷ []) ≡ Some (act.Print (72 ∷ 73 ∷ []))
prints = refl
