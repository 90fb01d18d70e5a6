-- What one history tells of the files that it loaded: in the order in which they are named, and all where the work is done.
use Rattle.std.proofs.Common.{◌≡◌, ℕ, zero, suc, ◌≤◌, Bool, true, false, ◌&&◌, if◌then◌else◌, List, [], ◌∷◌, ◌++◌, length, length-append, drop, map, None, Some, refl, sym, ◌∙◌, ap, subst, append_assoc, arith}
use Rattle.std.proofs.lemmas.List.{append-nil}
use Rattle.solo_base.specs.declared.outcome.Outcome.TheVariants as outcome
use Rattle.solo_devices.specs.declared.card_read.CardRead.TheVariants as read
use Rattle.solo_base.specs.Prefixes.{IsPrefixOf}
use Rattle.batch_procs.specs.declared.actions.Action.{Action}
use Rattle.batch_procs.specs.declared.actions.Action.TheVariants as act
use Rattle.batch_procs.specs.declared.actions.Reply.{Reply}
use Rattle.batch_procs.specs.declared.actions.Reply.TheVariants as reply
use Rattle.batch_procs.specs.Parcels.{Parcel, OfLoad, is_ended, loads, handed}
use Rattle.batch_procs.specs.History.{Entry, Does, LacksMemory, Delays, action_of, card_taken, taken_by, taken, took, sent, is_unworked, newest}
use Rattle.batch_procs.specs.Fits.{Fits, MayLack}
use Rattle.batch_procs.specs.Causes.{caused, given_cause}
use Rattle.batch_procs.specs.Process.{Process, IsFitting, Follows, unworked, due, aim, next_action}
use Rattle.batch_procs.specs.Laws.{IsRelay}
use Rattle.batch_procs.specs.Parts.{IsMonotone, some-same, behind-both, drop-part, part-cons}
use Rattle.batch_procs.specs.Relays.{loads-append, unpacked-load, unpacked-monotone, job-relay}
use Rattle.batch_procs.specs.Sends.{items, unpacked}
use Rattle.batch_procs.specs.Table.{job}
use Rattle.batch_procs.proofs.Relay.{IsPut, next-put, aimed-put}
use Rattle.batch_procs.proofs.Closing.{or-none, works-next, working-end, aimed-end}
use Rattle.batch_procs.proofs.Holding.{some-not_none}
use Rattle.batch_procs.proofs.Ended.{done-free}
use Rattle.batch_procs.proofs.Nexts.{next-local, next-load}
use Rattle.core_law.specs.FilesLoaded.{file_loaded, files_loaded, AreLoadedSo}
use Rattle.core_law.proofs.HandedLists.{handed-append}
use Rattle.batch_procs.specs.Jobs.{Jobs, AreJobs, FilesAs}

-- ---- behind the work none is wanted any more
-- no take, and no load
abbrev pub TakesNone : Action → Type 0
TakesNone act.ReadCard = ⊥
TakesNone act.TakeFeed = ⊥
TakesNone act.TakePage = ⊥
TakesNone (act.Load file) = ⊥
TakesNone other = Unit {0}

module _ {L : Type 0} {J : Jobs L} (jobs : AreJobs J) where
  -- ---- an entry loads one file, or none
  -- what it took is a load where it loaded a file, and no load else
  abbrev LoadsOne : Entry L → Type 0
  LoadsOne entry = length (loads (took entry)) ≡ length (file_loaded entry)

  pub card-loads : (answer : Rattle.solo_devices.specs.declared.card_read.CardRead.CardRead) → loads (card_taken {L = L} answer) ≡ []
  card-loads (read.Card line) = refl
  card-loads read.Spoiled = refl
  card-loads read.End = refl
  card-loads read.Failed = refl
  card-loads read.Limit = refl

  -- no other reply than that of a load
  reply-loads : (a : Action) (r : Reply L) → Fits J a r → length (loads (taken_by r)) ≡ length (file_loaded (Does a r))
  reply-loads (act.Load file) (reply.Loaded load) fits = refl
  reply-loads act.ReadCard (reply.Card answer) fits = ap length (card-loads answer)
  reply-loads act.TakeFeed (reply.Feed f) fits = refl
  reply-loads act.TakePage (reply.Page page last) fits = refl
  reply-loads a reply.Done fits = refl
  reply-loads a reply.Stopped fits = refl
  reply-loads a reply.Failed fits = refl
  reply-loads a reply.NoMemory fits = refl
  reply-loads a r fits = absurd fits

  pub lack-loads : (a : Action) (r : Reply L) → MayLack a r → loads (taken_by r) ≡ []
  lack-loads act.TakePage (reply.Page page last) may = refl
  lack-loads act.Local reply.Done may = refl
  lack-loads a r may = absurd may

  taken-more : (entry : Entry L) (h : List (Entry L)) → taken (entry ∷ h) ≡ taken h ++ took entry
  taken-more (Does a r) h = refl
  taken-more (LacksMemory a r) h = refl
  taken-more (Delays a) h = sym (append-nil (taken h))

  loads-one : (p : Process L) (entry : Entry L) → IsFitting J p entry → LoadsOne entry
  loads-one p (Does a r) fits = reply-loads a r fits
  loads-one p (LacksMemory a r) fits = ap length (lack-loads a r fits.1)
  loads-one p (Delays a) fits = refl

  -- As many loads were taken as files were loaded.
  pub as-many : (p : Process L) (h : List (Entry L)) → Follows J p h → length (loads (taken h)) ≡ length (files_loaded h)
  as-many p [] follows = refl
  as-many p (entry ∷ h) follows =
      let before = as-many p h follows.2 in
      let one = loads-one p entry follows.1 in
      let some = ap (λ ps. length (loads ps)) (taken-more entry h) ∙ ap length (loads-append (taken h) (took entry))
      ∙ length-append (loads (taken h)) (loads (took entry)) in
      let all = length-append (files_loaded h) (file_loaded entry) in
      omega (arith, before, one, some, all)

  -- ---- told files
  pub map-append : (found : FilesAs L) (some more : List (List ℕ)) → map found (some ++ more) ≡ map found some ++ map found more
  map-append found [] more = refl
  map-append found (file ∷ some) more = ap (λ ls. found file ∷ ls) (map-append found some more)

  -- an entry that loads a file as these say, or none
  pub loaded-more : (found : FilesAs L) (entry : Entry L) (h : List (Entry L)) → loads (took entry) ≡ map found (file_loaded entry) → AreLoadedSo found h
      → AreLoadedSo found (entry ∷ h)
  loaded-more found entry h one so =
      ap loads (taken-more entry h) ∙ loads-append (taken h) (took entry) ∙ ap (λ ls. ls ++ loads (took entry)) so
      ∙ ap (λ ls. map found (files_loaded h) ++ ls) one ∙ sym (map-append found (files_loaded h) (file_loaded entry))

  -- ---- who wants none takes none
  pub wants-none : (p : Process L) (h : List (Entry L)) (file : List ℕ) → IsRelay p → Follows J p h → ((all : List (Parcel L)) → p.wants all ≡ [])
      → next_action p h ≡ Some (act.Load file) → ⊥
  wants-none p h file relay follows none next =
      (let wants = next-load J p h file relay follows next in let no = sym (none (taken h)) ∙ wants.first in cc)

  card-handed : (answer : Rattle.solo_devices.specs.declared.card_read.CardRead.CardRead) → handed (card_taken {L = L} answer) ≡ card_taken answer
  card-handed (read.Card line) = refl
  card-handed read.Spoiled = refl
  card-handed read.End = refl
  card-handed read.Failed = refl
  card-handed read.Limit = refl

  reply-handed : (a : Action) (r : Reply L) → Fits J a r → ((file : List ℕ) → a ≡ act.Load file → ⊥) → handed (taken_by r) ≡ taken_by r
  reply-handed (act.Load file) (reply.Loaded load) fits not = absurd (not file refl)
  reply-handed act.ReadCard (reply.Card answer) fits not = card-handed answer
  reply-handed act.TakeFeed (reply.Feed f) fits not = refl
  reply-handed act.TakePage (reply.Page page last) fits not = refl
  reply-handed a reply.Done fits not = refl
  reply-handed a reply.Stopped fits not = refl
  reply-handed a reply.Failed fits not = refl
  reply-handed a reply.NoMemory fits not = refl
  reply-handed a r fits not = absurd fits

  lack-handed : (a : Action) (r : Reply L) → MayLack a r → handed (taken_by r) ≡ taken_by r
  lack-handed act.TakePage (reply.Page page last) may = refl
  lack-handed act.Local reply.Done may = refl
  lack-handed a r may = absurd may

  all-handed : (some more : List (Parcel L)) → handed some ≡ some → handed more ≡ more → handed (some ++ more) ≡ some ++ more
  all-handed some more a b = handed-append jobs some more ∙ ap (λ ps. ps ++ handed more) a ∙ ap (λ ps. some ++ ps) b

  pub takes-handed : (p : Process L) (h : List (Entry L)) → IsRelay p → Follows J p h → ((all : List (Parcel L)) → p.wants all ≡ [])
      → handed (taken h) ≡ taken h
  takes-handed p [] relay follows none = refl
  takes-handed p (Does a r ∷ h) relay follows none =
      all-handed (taken h) (taken_by r) (takes-handed p h relay follows.2 none)
      (reply-handed a r follows.1 (λ file e. wants-none p h file relay follows.2 none (follows.0 ∙ ap Some e)))
  takes-handed p (LacksMemory a r ∷ h) relay follows none =
      all-handed (taken h) (taken_by r) (takes-handed p h relay follows.2 none) (lack-handed a r follows.1.1)
  takes-handed p (Delays a ∷ h) relay follows none = takes-handed p h relay follows.2 none

  -- ---- the job process loads the files that its pages name, in order
  -- the files that these pages name
  abbrev pub names_in : List (Parcel L) → List (List ℕ)
  names_in tk = J.named (items (unpacked 0 tk))

  items-monotone : IsMonotone items
  items-monotone [] more = (items more, refl)
  items-monotone (Rattle.solo_base.specs.declared.item.Feed.TheVariants.Item item ∷ some) more = part-cons item _ _ (items-monotone some more)
  items-monotone (Rattle.solo_base.specs.declared.item.Feed.TheVariants.End ∷ some) more = ([], refl)

  pub files-monotone : IsMonotone J.named
  files-monotone some more = (J.named more, sym (jobs.named_add some more))

  pub names-monotone : IsMonotone names_in
  names-monotone = behind-both (unpacked 0) (λ fs. J.named (items fs)) (unpacked-monotone 0) (behind-both items J.named items-monotone files-monotone)

  prefix-longer : (part some whole : List (List ℕ)) → IsPrefixOf part some → IsPrefixOf some whole → IsPrefixOf part whole
  prefix-longer part some whole (a, e) (b, g) = (a ++ b, sym (append_assoc part a b) ∙ ap (λ xs. xs ++ b) e ∙ g)

  -- one more
  next-file : (part all later : List (List ℕ)) (file : List ℕ) (n : ℕ) → n ≡ length part → drop n all ≡ file ∷ later → IsPrefixOf part all
      → IsPrefixOf (part ++ file ∷ []) all
  next-file part all later file n many first (rest, e) =
      let left : rest ≡ file ∷ later = sym (drop-part part rest) ∙ ap (drop (length part)) e ∙ ap (λ n. drop n all) (sym many) ∙ first in
      (later, append_assoc part (file ∷ []) later ∙ ap (λ fs. part ++ fs) (sym left) ∙ e)

  abbrev InOrder : List (Entry L) → Type 0
  InOrder h = IsPrefixOf (files_loaded h) (names_in (taken h))

  order-still : (entry : Entry L) (h : List (Entry L)) → file_loaded entry ≡ [] → InOrder h → InOrder (entry ∷ h)
  order-still entry h none is =
      subst (λ ps. IsPrefixOf (files_loaded h ++ file_loaded entry) (names_in ps)) (sym (taken-more entry h))
      (subst (λ fs. IsPrefixOf fs (names_in (taken h ++ took entry))) (sym (ap (λ fs. files_loaded h ++ fs) none ∙ append-nil (files_loaded h)))
      (prefix-longer _ _ _ is (names-monotone (taken h) (took entry))))

  order-load : (h : List (Entry L)) (file : List ℕ) (load : L) → Follows J (job J) h → next_action (job J) h ≡ Some (act.Load file) → InOrder h
      → InOrder (Does (act.Load file) (reply.Loaded load) ∷ h)
  order-load h file load follows next is =
      let wants = next-load J (job J) h file (job-relay jobs) follows next in
      let same : names_in (taken h) ≡ names_in (taken h ++ OfLoad load ∷ []) = ap (λ fs. J.named (items fs)) (sym (unpacked-load 0 (taken h) load)) in
      subst (λ fs. IsPrefixOf (files_loaded h ++ file ∷ []) fs) same
      (next-file (files_loaded h) (names_in (taken h)) wants.later file (length (loads (taken h))) (as-many (job J) h follows) wants.first is)

  order-entry : (entry : Entry L) (h : List (Entry L)) → Follows J (job J) h → next_action (job J) h ≡ Some (action_of entry) → InOrder h → InOrder (entry ∷ h)
  order-entry (Does (act.Load file) (reply.Loaded load)) h follows next is = order-load h file load follows next is
  order-entry entry h follows next is = order-still entry h refl is

  pub in-order : (h : List (Entry L)) → Follows J (job J) h → IsPrefixOf (files_loaded h) (names_in (taken h))
  in-order [] follows = (names_in [], refl)
  in-order (entry ∷ h) follows = order-entry entry h follows.2 follows.0 (in-order h follows.2)

  pub plain-reply : (a : Action) (r : Reply L) → Fits J a r → TakesNone a → taken_by r ≡ []
  plain-reply a reply.Done fits is = refl
  plain-reply a reply.Stopped fits is = refl
  plain-reply a reply.Failed fits is = refl
  plain-reply a reply.NoMemory fits is = refl
  plain-reply act.ReadCard (reply.Card answer) fits is = absurd is
  plain-reply act.TakeFeed (reply.Feed f) fits is = absurd is
  plain-reply act.TakePage (reply.Page page last) fits is = absurd is
  plain-reply (act.Load file) (reply.Loaded load) fits is = absurd is
  plain-reply a r fits is = absurd fits

  wants-same : (p : Process L) (tk more : List (Parcel L)) → more ≡ [] → p.wants tk ≡ [] → p.wants (tk ++ more) ≡ []
  wants-same p tk more none e = ap (λ ps. p.wants (tk ++ ps)) none ∙ ap p.wants (append-nil tk) ∙ e

  drop-all : (ps : List (Parcel L)) → drop (length ps) ps ≡ []
  drop-all [] = refl
  drop-all (x ∷ ps) = drop-all ps

  -- something is due only where the work is done
  due-worked : (p : Process L) (h : List (Entry L)) (first : Parcel L) (more : List (Parcel L)) → due p h ≡ first ∷ more → unworked p h ≡ false
  due-worked p h first more is =
      let P : Bool → Type 0 = λ t. drop (length (sent h)) (if t then sent h else p.sends (taken h)) ≡ first ∷ more → t ≡ false in
      elim (unworked p h) as P [ true ↦ (λ e. (let no = sym (drop-all (sent h)) ∙ e in absurd cc)) | false ↦ (λ e. refl) ] is

  put-worked : (p : Process L) (h : List (Entry L)) (a : Action) → IsRelay p → next_action p h ≡ Some a → IsPut a → unworked p h ≡ false
  put-worked p h a relay next put =
      let is = aimed-put J p.takes (p.wants (taken h)) (due p h) (is_ended (taken h)) (unworked p h) a relay.takes
      (next-put J p (caused h) h a next put).1 put in
      due-worked p h is.first is.more is.due_is

  works-on : (works left : Bool) → works ≡ true → (works && left) ≡ false → left ≡ false
  works-on true left is off = off
  works-on false left is off = absurd cc

  not-both : (works left : Bool) → left ≡ false → (works && left) ≡ true → ⊥
  not-both true left off on = cc
  not-both false left off on = cc

  module _ (p : Process L) (relay : IsRelay p) (works : p.works ≡ true) (h : List (Entry L)) (follows : Follows J p h)
      (before : is_unworked h ≡ false → p.wants (taken h) ≡ []) where
    worked-put : (a : Action) (r : Reply L) → next_action p h ≡ Some a → Fits J a r → IsPut a → TakesNone a → p.wants (taken h ++ taken_by r) ≡ []
    worked-put a r next fits put none =
        wants-same p (taken h) (taken_by r) (plain-reply a r fits none) (before (works-on p.works (is_unworked h) works (put-worked p h a relay next put)))

    worked-still : (a : Action) (r : Reply L) → Fits J a r → TakesNone a → is_unworked h ≡ false → p.wants (taken h ++ taken_by r) ≡ []
    worked-still a r fits none off = wants-same p (taken h) (taken_by r) (plain-reply a r fits none) (before off)

    worked-by : (a : Action) (r : Reply L) → next_action p h ≡ Some a → Fits J a r → is_unworked (Does a r ∷ h) ≡ false → p.wants (taken h ++ taken_by r) ≡ []
    worked-by act.Local r next fits off =
        wants-same p (taken h) (taken_by r) (plain-reply act.Local r fits tt) (next-local J p h relay follows next).1
    worked-by act.ReadCard r next fits off = absurd cc
    worked-by act.TakeFeed r next fits off = absurd cc
    worked-by act.TakePage r next fits off = absurd cc
    worked-by (act.PutFeed f) r next fits off = worked-put (act.PutFeed f) r next fits tt tt
    worked-by (act.PutPage page) r next fits off = worked-put (act.PutPage page) r next fits tt tt
    worked-by (act.Print line) r next fits off = worked-put (act.Print line) r next fits tt tt
    worked-by (act.Load file) r next fits off = absurd (not-both p.works (is_unworked h) off (next-load J p h file relay follows next).works)
    worked-by act.AwaitRoom r next fits off = worked-still act.AwaitRoom r fits tt off
    worked-by act.AwaitItem r next fits off = worked-still act.AwaitItem r fits tt off
    worked-by act.Request r next fits off = worked-still act.Request r fits tt off
    worked-by act.Release r next fits off = worked-still act.Release r fits tt off
    worked-by (act.Stop b) r next fits off = worked-still (act.Stop b) r fits tt off
    worked-by (act.Ended how) r next fits off = worked-still (act.Ended how) r fits tt off

  worked-none : (p : Process L) → IsRelay p → p.works ≡ true → p.wants [] ≡ [] → (h : List (Entry L)) → Follows J p h → caused h ≡ None → is_unworked h ≡ false
      → p.wants (taken h) ≡ []
  worked-none p relay works opens [] follows none off = opens
  worked-none p relay works opens (Does a r ∷ h) follows none off =
      worked-by p relay works h follows.2 (worked-none p relay works opens h follows.2
      (or-none (caused h) (given_cause a r h) none)) a r follows.0 follows.1 off
  worked-none p relay works opens (LacksMemory a r ∷ h) follows none off = absurd (some-not_none (caused h) _ none)
  worked-none p relay works opens (Delays a ∷ h) follows none off = worked-none p relay works opens h follows.2 none off

  no-files : (files : List (List ℕ)) → length files ≤ 0 → files ≡ []
  no-files [] few = refl
  no-files (file ∷ files) few = absurd (omega (arith, few))

  nothing-named : J.named [] ≡ []
  nothing-named = no-files (J.named []) (jobs.few_named [])

  -- With its work done and no cause, the job process wants no file.
  pub job-worked : (h : List (Entry L)) → Follows J (job J) h → caused h ≡ None → unworked (job J) h ≡ false → (job J).wants (taken h) ≡ []
  job-worked h follows none worked = worked-none (job J) (job-relay jobs) refl nothing-named h follows none worked

  drop-none : (n : ℕ) (files : List (List ℕ)) → drop n files ≡ [] → length files ≤ n
  drop-none zero [] e = omega arith
  drop-none zero (file ∷ files) e = absurd cc
  drop-none (suc n) [] e = omega arith
  drop-none (suc n) (file ∷ files) e = (let few = drop-none n files e in omega (arith, few))

  pub none-named : (h : List (Entry L)) → (job J).wants (taken h) ≡ [] → length (names_in (taken h)) ≤ length (loads (taken h))
  none-named h e = drop-none (length (loads (taken h))) (names_in (taken h)) e

  -- ---- one that ended with its work done
  pub done-worked : (p : Process L) (h : List (Entry L)) → IsRelay p → Follows J p h → newest h ≡ Some (act.Ended outcome.Done) → unworked p h ≡ false
  done-worked p [] relay follows e = absurd cc
  done-worked p (Does a r ∷ h) relay follows e =
      let next : next_action p h ≡ Some (act.Ended outcome.Done) = follows.0 ∙ e in
      let none = or-none (caused h) (given_cause a r h) (done-free J p (Does a r ∷ h) follows e) in
      let same : a ≡ act.Ended outcome.Done = some-same a (act.Ended outcome.Done) e in
      let aims = working-end (newest h) (aim p h) outcome.Done (works-next J p h (act.Ended outcome.Done) next none) in
      let is = aimed-end J p.takes (p.wants (taken h)) (due p h) (is_ended (taken h)) (unworked p h) outcome.Done relay.takes aims in
      rw same is.worked
  done-worked p (LacksMemory a r ∷ h) relay follows e = absurd (some-not_none (caused h) _ (done-free J p (LacksMemory a r ∷ h) follows e))
  done-worked p (Delays a ∷ h) relay follows e = done-worked p h relay follows.2 e

  all-same : (part all : List (List ℕ)) → IsPrefixOf part all → length all ≤ length part → part ≡ all
  all-same part all (rest, e) few =
      let sum = sym (length-append part rest) ∙ ap length e in
      sym (append-nil part) ∙ ap (λ fs. part ++ fs) (sym (nothing rest (omega (arith, sum, few)))) ∙ e
    where
      nothing : (fs : List (List ℕ)) → length fs ≤ 0 → fs ≡ []
      nothing [] few = refl
      nothing (f ∷ fs) few = absurd (omega (arith, few))

  -- The job process loaded all files that its pages name, where it ended with its work done.
  pub all-in-order : (h : List (Entry L)) → Follows J (job J) h → newest h ≡ Some (act.Ended outcome.Done) → files_loaded h ≡ names_in (taken h)
  all-in-order h follows e =
      let few = none-named h (job-worked h follows (done-free J (job J) h follows e) (done-worked (job J) h (job-relay jobs) follows e)) in
      let many = as-many (job J) h follows in
      all-same (files_loaded h) (names_in (taken h)) (in-order h follows) (omega (arith, few, many))
