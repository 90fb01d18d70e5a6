-- The law of the core is sound; and where an opening tells all, nothing is left open but who steps next.
use Rattle.std.proofs.Common.{◌≡◌, ℕ, ◌+◌, ◌-◌, ◌≤◌, ◌<◌, true, List, [], ◌∷◌, ◌++◌, length, length-append, length-drop, drop, Option, None, Some, refl, sym, ◌∙◌, ap, subst, option_map, arith, lit≤}
use Rattle.solo_base.specs.declared.item.Item.{Item}
use Rattle.solo_base.specs.declared.outcome.Outcome.{Outcome}
use Rattle.solo_devices.specs.CardUnit.{item_of}
use Rattle.batch_procs.specs.declared.actions.Action.TheVariants as act
use Rattle.batch_procs.specs.declared.actions.Reply.TheVariants as reply
use Rattle.batch_procs.specs.History.{Entry, Does, LacksMemory, Delays, newest}
use Rattle.batch_procs.specs.Causes.{caused}
use Rattle.batch_procs.specs.Laws.{HasEnded}
use Rattle.batch_procs.specs.Process.{Process, next_action, next_by, working, closing, closes, aim}
use Rattle.batch_procs.specs.Table.{process}
use Rattle.batch_procs.proofs.Holding.{none-next}
use Rattle.network_run.specs.Law.{AreEnabled, NoneGoes, AllEnded}
use Rattle.network_run.specs.Sound.{IsSoundLaw, IsSureLaw}
use Rattle.network_law.specs.Network.{IsEnabled, happens}
use Rattle.network_law.specs.Stepping.{MayGo}
use Rattle.network_law.proofs.Goers as goers
use Rattle.network_law.proofs.Telling.{may-tell}
use Rattle.core_law.specs.Core.{Devices, Allows, core, read_off, upstream, CoreState, CoreEvent}
use Rattle.core_law.specs.Ends.{IsProcess, IsSmooth}
use Rattle.core_law.specs.Opening.{AreGoodFiles, Opening, told_of, first_state}
use Rattle.core_law.specs.TheLaw.{TellsAll, the_openings, the_law, IsReached}
use Rattle.core_law.specs.Work.{events_left, LeavesFewer}
use Rattle.core_law.proofs.Answers.{smooth-event}
use Rattle.core_law.proofs.Ends.{the-five}
use Rattle.core_law.proofs.Knowing.{loads_in, finds-so}
use Rattle.core_law.proofs.Lawful.{lawful}
use Rattle.core_law.proofs.OneEvent as single
use Rattle.core_law.proofs.Reached.{Centre, centre-run, opening-centre, reached-centre, ended-where, told-is, all-told}
use Rattle.core_law.proofs.Row.{each-process}
use Rattle.core_law.proofs.WorkFalls.{work-lower}
use Rattle.batch_procs.specs.Jobs.{Jobs, AreJobs}

module _ {L : Type 0} {J : Jobs L} (jobs : AreJobs J) where
  -- ---- behind its end a process does nothing more
  none-by : (p : Process L) (cause : Option Outcome) (h : List (Entry L)) (how : Outcome) → newest h ≡ Some (act.Ended how) → next_by p cause h ≡ None
  none-by p None h how e = ap (λ last. working last (aim p h)) e
  none-by p (Some c) h how e = ap (λ last. closing last (closes p.buffers c h)) e

  pub ended-none : (p : Process L) (h : List (Entry L)) → HasEnded h → next_action p h ≡ None
  ended-none p h ended = none-by p (caused h) h ended.0 ended.1

  -- so it has ended where it has no next action, and there alone
  pub all-ended : (s : CoreState L) → AllEnded (the_law J) s → (p : ℕ) → IsProcess p → HasEnded (s.histories p)
  all-ended s all p one = none-next J (process J p) (s.histories p) (all p one)

  -- an opening is reached
  pub opening-reached : (o : Opening J) → IsReached o (first_state o)
  opening-reached o = record { events = []; enabled = tt; leads = refl }

  -- ---- never stuck
  never-stuck : (o : Opening J) (s : CoreState L) → IsReached o s → NoneGoes (the_law J) s → AllEnded (the_law J) s
  never-stuck o s reached none p one =
      ended-none (process J p) (s.histories p)
      (ended-where jobs o s reached (λ event is smooth. none event.process is.one (goers.enabled-go (core J (process J)) s event is))
      p one)

  pub sound : IsSoundLaw (the_law J)
  sound = goers.sound (core J (process J)) (the_openings J) (lawful jobs (the-five jobs)) (lit≤ tt) never-stuck

  -- ---- an event without a failure is the only one
  one-event : (o : Opening J) (s : CoreState L) (event other : CoreEvent L) → IsReached o s → TellsAll o → IsEnabled (core J (process J)) s event
      → IsEnabled (core J (process J)) s other → IsSmooth event.entry → IsSmooth other.entry → other.process ≡ event.process → other ≡ event
  one-event o s event other reached told first second smooth too same =
      let c = reached-centre jobs o s reached in
      let read = c.devices.read told.items told.deck in
      let b = upstream event.process in
      let before = each-process (λ p. told_of o.spools (upstream p) ≡ true) event.process first.one refl refl told.spools.input told.spools.output refl in
      let (inside, inside_is) = c.stands.told b (told-is jobs o.spools b before) in
      single.one-event jobs s (loads_in jobs o.files) read.left event other read.left_is inside inside_is first second smooth too
      (finds-so jobs o.spools o.deck o.paper o.files told.items told.spools told.deck o.cards s c event first told.files)
      (finds-so jobs o.spools o.deck o.paper o.files told.items told.spools told.deck o.cards s c other second told.files) same

  -- ---- and there is one
  some-event : (o : Opening J) (s : CoreState L) (p : ℕ) → IsReached o s → TellsAll o → MayGo (core J (process J)) s p
      → (event : CoreEvent L) × IsEnabled (core J (process J)) s event × (event.process ≡ p) × IsSmooth event.entry
  some-event o s p reached told may =
      let c = reached-centre jobs o s reached in
      let e = smooth-event jobs (the-five jobs) (first_state o) s c.stands (λ b at takes. told-is jobs o.spools b (all-told jobs o.spools told.spools b at))
      (c.devices.cards o.cards) (subst (AreGoodFiles J) (sym c.devices.files_same) o.good) p may.action may.one may.next may.may in
      (e.event, e.enabled, e.of, e.smooth)

  -- ---- each event leaves less of a told deck
  fewer : (n : ℕ) (front rest left : List Item) → n ≡ length front → left ≡ front ++ rest → 0 < n → length (drop n left) < length left
  fewer n front rest left n_is is some =
      let all = ap length is ∙ length-append front rest in
      let dropped = length-drop n left in
      omega (arith, n_is, all, dropped, some)

  leaves-fewer : (devices : Devices L) (entry : Entry L) (gained : List ℕ) (left : List Item) → Allows devices entry gained → devices.deck ≡ Some left
      → LeavesFewer entry (length left) (length (drop (length (read_off entry)) left))
  leaves-fewer devices (Does act.ReadCard (reply.Card answer)) gained left allowed is = λ some.
      (let (rest, parts) = allowed.0.item left is in fewer (length (item_of answer)) (item_of answer) rest left refl parts some)
  leaves-fewer devices (Does act.ReadCard r) gained left allowed is = λ some. absurd (omega (arith, some))
  leaves-fewer devices (Does a r) gained left allowed is = refl
  leaves-fewer devices (LacksMemory a r) gained left allowed is = refl
  leaves-fewer devices (Delays a) gained left allowed is = refl

  few-events : (opening s : CoreState L) (left : List Item) (events : List (CoreEvent L)) → Centre jobs opening s → s.devices.deck ≡ Some left
      → AreEnabled (the_law J) s events → length events ≤ events_left J (length left) s
  few-events opening s left [] c is are = omega arith
  few-events opening s left (event ∷ events) c is are =
      let now = drop (length (read_off event.entry)) left in
      let after = happens (core J (process J)) s event in
      let rest = few-events opening after now events (centre-run jobs opening s (event ∷ []) (are.0, tt) c)
      (ap (option_map (drop (length (read_off event.entry)))) is) are.1 in
      let less = work-lower jobs opening s event (length left) (length now) c.stands are.0
      (leaves-fewer s.devices event.entry event.gained left are.0.allowed is) in
      omega (arith, rest, less)

  no-longer : (o : Opening J) → TellsAll o → (most : ℕ) × ((events : List (CoreEvent L)) → AreEnabled (the_law J) (first_state o) events → length events ≤ most)
  no-longer o told = (
    events_left J (length told.items) (first_state o),
    λ events are. few-events (first_state o) (first_state o) told.items events (opening-centre jobs o.spools o.deck o.paper o.files) told.deck are,
  )

  pub sure : IsSureLaw (the_law J)
  sure = record { may_tell = may-tell (core J (process J)); one_event = one-event; some_event = some-event; no_longer = no-longer }
