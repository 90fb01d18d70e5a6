-- A row meets what the law asks of the processes of a network.
use Rattle.std.proofs.Common.{◌≡◌, ℕ, ◌||◌, true, false, if◌then◌else◌, List, [], ◌∷◌, Option, None, Some, refl, sym, ◌∙◌, ap, subst}
use Rattle.solo_base.specs.declared.outcome.Side.{Side}
use Rattle.solo_base.specs.declared.outcome.Outcome.{Outcome}
use Rattle.solo_base.specs.declared.outcome.Outcome.TheVariants as outcome
use Rattle.network_law.specs.Acts.{Call, Alone, At, Asks, Gives, Visit, Awaits, Passes, Moves, Stops, Delayed, Done, Act, made_stop, holds, holds_by, found_ready}
use Rattle.network_law.specs.Network.{Network, IsOne, acts}
use Rattle.network_law.specs.Network as law
use Rattle.network_law.specs.Processes.{CallsNext, IsPrompt, IsLawful}
use Rattle.network_law.proofs.KeepsQueues.{at-number, at-side}
use Rattle.place_law.specs.Process.{Entry, Does, LacksMemory, Delays, action_of, or_new, stops_by, unless_ended}
use Rattle.place_law.proofs.Nexts.{or-none, or-new}
use Rattle.place_law.proofs.Lawful.{or-falses, both-falses}
use Rattle.row_law.specs.Process.{Process, place, caused, has_disk, has_stopped, how_ended, stops_next, closes, next_by, next_action, went}
use Rattle.row_law.specs.Row.{Row, network_of, Stage, Free, Awaited, Granted, Holding, MayDo, IsRow}
use Rattle.row_law.proofs.Nexts as nexts
use Rattle.row_law.proofs.Nexts.{AtPlace, Giving, Stopping, Ending, next-shape, goes-on, goes}
use Rattle.row_law.proofs.Known.{not-both, not-here, may-no_stop, may-seated, Known, known-behind, holds-delayed, no-stop_delayed, known-delayed, not-lacking, some-none}

module _ {Devices Action Reply Parcel : Type 0} (t : Row Devices Action Reply Parcel) (is : IsRow t) where
  abbrev net : Network Devices Action (Entry Action Reply) Parcel
  net = network_of t

  -- who closes down has a cause, or does nothing more at its place
  pub not-closing : (p : ℕ) (h : List (Entry Action Reply)) (a : Action) → nexts.Closes t p h → caused t.view (t.process p) h ≡ None
      → (t.process p).does (place (t.process p) h) ≡ Some a → ⊥
  not-closing p h a c none does = by c.why where
    by : nexts.Closing t p h c.stops c.how → ⊥
    by (nexts.ByCause e same) = some-none _ _ e none
    by (nexts.AllDone free over same so) = some-none _ _ does over

  -- and still does behind an answer
  pub closing-still : (p : ℕ) (h : List (Entry Action Reply)) (r : Reply) → IsOne net p → nexts.Closes t p h → caused t.view (t.process p) h ≡ None
      → (t.process p).does ((t.process p).behind (place (t.process p) h) r) ≡ None
  closing-still p h r one c none = by c.why where
    by : nexts.Closing t p h c.stops c.how → (t.process p).does ((t.process p).behind (place (t.process p) h) r) ≡ None
    by (nexts.ByCause e same) = absurd (some-none _ _ e none)
    by (nexts.AllDone free over same so) = (is.placed p one).stays (place (t.process p) h) r over

  -- ---- what is known where a process has no cause and does something at its place
  abbrev KnownAt : (p : ℕ) → IsOne net p → List (Entry Action Reply) → Type 0
  KnownAt p one h = Known ((is.placed p one).stage (place (t.process p) h)) (acts net p h)

  pub known : (p : ℕ) (h : List (Entry Action Reply)) (a : Action) (one : IsOne net p) → law.Follows net p h → caused t.view (t.process p) h ≡ None
      → (t.process p).does (place (t.process p) h) ≡ Some a → KnownAt p one h
  known p [] a one follows none does = subst (λ stage. Known {Parcel = Parcel} stage []) (sym (is.placed p one).starts) refl
  known p (Does b r ∷ h) a one follows none does =
      let at = place (t.process p) h in
      let placed = is.placed p one in
      let before = or-none (caused t.view (t.process p) h) _ none in
      let now = or-new (caused t.view (t.process p) h) _ none in
      elim (next-shape t is p h b one follows.0) as (λ _. KnownAt p one (Does b r ∷ h)) [
        | AtPlace free e ↦
            subst (λ stage. Known stage (acts net p (Does b r ∷ h))) (sym (placed.staged at b r e follows.1 now))
            (known-behind t.seat p (placed.stage at) ((t.process p).calls b) (t.view.went b r) (acts net p h) (placed.may at b e)
            (known p h b one follows.2 before e) (is.view.answered b r) (λ n side call. placed.finds_there at b r n side e follows.1 now call))
        | Giving c disk same ↦ absurd (some-none _ _ does (closing-still p h r one c before))
        | Stopping c n stop ↦ absurd (some-none _ _ does (closing-still p h r one c before))
        | Ending end ↦ absurd (some-none _ _ does (closing-still p h r one end.closes before))
      ]
  known p (LacksMemory b r ∷ h) a one follows none does = absurd (not-lacking (caused t.view (t.process p) h) _ none)
  known p (Delays b ∷ h) a one follows none does =
      known-delayed ((is.placed p one).stage (place (t.process p) h)) ((t.process p).calls b) (acts net p h) ((is.placed p one).waits b follows.1)
      (known p h a one follows.2 none does)

  -- ---- seats
  pub seated : (p : ℕ) (h : List (Entry Action Reply)) (b : ℕ) (side : Side) (visit : Visit) → IsOne net p → CallsNext net p h (At b side visit)
      → t.seat b side ≡ p
  seated p h b side visit one calls =
      elim (next-shape t is p h calls.action one calls.next) as (λ _. t.seat b side ≡ p) [
        | AtPlace free e ↦
            let at = place (t.process p) h in
            may-seated t.seat p ((is.placed p one).stage at) b side visit
            (subst (MayDo t.seat p ((is.placed p one).stage at)) calls.call ((is.placed p one).may at calls.action e))
        | Giving c disk same ↦ absurd (let no : Gives ≡ At b side visit = sym (is.placed p one).gives ∙ ap (t.process p).calls (sym same) ∙ calls.call in cc)
        | Stopping c n stop ↦
            let same : At n stop.at.side Stops ≡ At b side visit = sym stop.at.is ∙ ap (t.process p).calls (sym stop.is) ∙ calls.call in
            subst (λ b. t.seat b side ≡ p) (at-number n b stop.at.side side Stops visit same)
            (subst (λ side. t.seat n side ≡ p) (at-side n b stop.at.side side Stops visit same) stop.at.seated)
        | Ending end ↦ absurd (let no : Alone ≡ At b side visit = sym ((is.placed p one).ends end.closes.how) ∙ ap (t.process p).calls (sym end.is) ∙ calls.call in cc)
      ]

  -- ---- who does something at its place has stopped nothing
  pub unstopped : (p b : ℕ) (h : List (Entry Action Reply)) (a : Action) → IsOne net p → law.Follows net p h → caused t.view (t.process p) h ≡ None
      → (t.process p).does (place (t.process p) h) ≡ Some a → has_stopped (t.process p) b h ≡ false
  unstopped p b [] a one follows none does = refl
  unstopped p b (Does c r ∷ h) a one follows none does =
      let at = place (t.process p) h in
      let before = or-none (caused t.view (t.process p) h) _ none in
      elim (next-shape t is p h c one follows.0) as (λ _. (stops_by b ((t.process p).calls c) || has_stopped (t.process p) b h) ≡ false) [
        | AtPlace free e ↦
            both-falses _ _ (may-no_stop t.seat p b ((is.placed p one).stage at) ((t.process p).calls c) ((is.placed p one).may at c e))
            (unstopped p b h c one follows.2 before e)
        | Giving d disk same ↦ absurd (some-none _ _ does (closing-still p h r one d before))
        | Stopping d n stop ↦ absurd (some-none _ _ does (closing-still p h r one d before))
        | Ending end ↦ absurd (some-none _ _ does (closing-still p h r one end.closes before))
      ]
  unstopped p b (LacksMemory c r ∷ h) a one follows none does = absurd (not-lacking (caused t.view (t.process p) h) _ none)
  unstopped p b (Delays c ∷ h) a one follows none does = unstopped p b h a one follows.2 none does

  -- what its history doesn't tell of stops, its acts don't tell
  pub not-made : (p b : ℕ) (side : Side) (h : List (Entry Action Reply)) → IsOne net p → law.Follows net p h → has_stopped (t.process p) b h ≡ false
      → made_stop b side (acts net p h) ≡ false
  not-made p b side [] one follows e = refl
  not-made p b side (Does a r ∷ h) one follows e =
      let parts = or-falses (stops_by b ((t.process p).calls a)) (has_stopped (t.process p) b h) e in
      both-falses _ _ (not-here b side ((t.process p).calls a) parts.0) (not-made p b side h one follows.2 parts.1)
  not-made p b side (LacksMemory a r ∷ h) one follows e =
      let parts = or-falses (stops_by b ((t.process p).calls a)) (has_stopped (t.process p) b h) e in
      both-falses _ _ (not-here b side ((t.process p).calls a) parts.0) (not-made p b side h one follows.2 parts.1)
  not-made p b side (Delays a ∷ h) one follows e =
      both-falses _ _ (no-stop_delayed b side ((t.process p).calls a) ((is.placed p one).waits a follows.1)) (not-made p b side h one follows.2 e)

  not-yet : (p : ℕ) (h : List (Entry Action Reply)) (b : ℕ) (side : Side) (visit : Visit) → IsOne net p → law.Follows net p h
      → CallsNext net p h (At b side visit) → has_stopped (t.process p) b h ≡ false
  not-yet p h b side visit one follows calls =
      elim (next-shape t is p h calls.action one calls.next) as (λ _. has_stopped (t.process p) b h ≡ false) [
        | AtPlace free e ↦ unstopped p b h calls.action one follows free e
        | Giving c disk same ↦ absurd (let no : Gives ≡ At b side visit = sym (is.placed p one).gives ∙ ap (t.process p).calls (sym same) ∙ calls.call in cc)
        | Stopping c n stop ↦
            let same : At n stop.at.side Stops ≡ At b side visit = sym stop.at.is ∙ ap (t.process p).calls (sym stop.is) ∙ calls.call in
            subst (λ b. has_stopped (t.process p) b h ≡ false) (at-number n b stop.at.side side Stops visit same) stop.not_yet
        | Ending end ↦ absurd (let no : Alone ≡ At b side visit = sym ((is.placed p one).ends end.closes.how) ∙ ap (t.process p).calls (sym end.is) ∙ calls.call in cc)
      ]

  -- ---- the disk, as the acts tell it
  pub disk-as : (p : ℕ) (h : List (Entry Action Reply)) → IsOne net p → law.Follows net p h → holds (acts net p h) ≡ has_disk t.view (t.process p) h
  disk-as p [] one follows = refl
  disk-as p (Does a r ∷ h) one follows = ap (λ before. holds_by before ((t.process p).calls a) (t.view.went a r)) (disk-as p h one follows.2)
  disk-as p (LacksMemory a r ∷ h) one follows = ap (λ before. holds_by before ((t.process p).calls a) (t.view.went a r)) (disk-as p h one follows.2)
  disk-as p (Delays a ∷ h) one follows = holds-delayed Parcel (holds (acts net p h)) ((t.process p).calls a) ((is.placed p one).waits a follows.1) ∙ disk-as p h one follows.2

  -- what it may do where this is known
  found-may : (stage : Stage) (n b : ℕ) (side : Side) (ac : List (Act Parcel)) → MayDo t.seat n stage (At b side Moves) → Known stage ac → found_ready b side ac ≡ true
  found-may Free n b side ac may sure = absurd may
  found-may (Awaited c of) n b side ac may sure = absurd may
  found-may (Granted c of) n b side ac may sure =
      subst (λ b. found_ready b side ac ≡ true) (sym may.0) (subst (λ side. found_ready c side ac ≡ true) (sym may.1) sure.1)
  found-may Holding n b side ac may sure = absurd may

  asks-may : (stage : Stage) (n : ℕ) (ac : List (Act Parcel)) → MayDo t.seat n stage Asks → Known stage ac → holds ac ≡ false
  asks-may Free n ac may sure = sure
  asks-may (Awaited b side) n ac may sure = sure.0
  asks-may (Granted b side) n ac may sure = absurd may
  asks-may Holding n ac may sure = absurd may

  gives-may : (stage : Stage) (n : ℕ) (ac : List (Act Parcel)) → MayDo t.seat n stage Gives → Known stage ac → holds ac ≡ true
  gives-may Free n ac may sure = absurd may
  gives-may (Awaited b side) n ac may sure = absurd may
  gives-may (Granted b side) n ac may sure = absurd may
  gives-may Holding n ac may sure = sure

  prompt-may : (stage : Stage) (n : ℕ) (c : Call) (ac : List (Act Parcel)) → MayDo t.seat n stage c → Known stage ac → holds ac ≡ true → IsPrompt c
  prompt-may Free n c ac may sure held = absurd (not-both _ held sure)
  prompt-may (Awaited b side) n c ac may sure held = absurd (not-both _ held sure.0)
  prompt-may (Granted b side) n (At c of Moves) ac may sure held = tt
  prompt-may (Granted b side) n (At c of Awaits) ac may sure held = absurd may
  prompt-may (Granted b side) n (At c of Passes) ac may sure held = absurd may
  prompt-may (Granted b side) n (At c of Stops) ac may sure held = absurd may
  prompt-may (Granted b side) n Alone ac may sure held = absurd may
  prompt-may (Granted b side) n Asks ac may sure held = absurd may
  prompt-may (Granted b side) n Gives ac may sure held = absurd may
  prompt-may Holding n Alone ac may sure held = tt
  prompt-may Holding n Gives ac may sure held = tt
  prompt-may Holding n Asks ac may sure held = absurd may
  prompt-may Holding n (At c of visit) ac may sure held = absurd may

  -- ---- each of the calls
  may-as : (p : ℕ) (h : List (Entry Action Reply)) (a : Action) (c : Call) (one : IsOne net p) → (t.process p).does (place (t.process p) h) ≡ Some a
      → (t.process p).calls a ≡ c → MayDo t.seat p ((is.placed p one).stage (place (t.process p) h)) c
  may-as p h a c one e same =
      subst (MayDo t.seat p ((is.placed p one).stage (place (t.process p) h))) same ((is.placed p one).may (place (t.process p) h) a e)

  found : (p : ℕ) (h : List (Entry Action Reply)) (b : ℕ) (side : Side) → IsOne net p → law.Follows net p h → CallsNext net p h (At b side Moves)
      → found_ready b side (acts net p h) ≡ true
  found p h b side one follows calls =
      elim (next-shape t is p h calls.action one calls.next) as (λ _. found_ready b side (acts net p h) ≡ true) [
        | AtPlace free e ↦ found-may _ p b side (acts net p h) (may-as p h calls.action (At b side Moves) one e calls.call) (known p h calls.action one follows free e)
        | Giving c disk same ↦ absurd (let no : Gives ≡ At b side Moves = sym (is.placed p one).gives ∙ ap (t.process p).calls (sym same) ∙ calls.call in cc)
        | Stopping c n stop ↦ absurd (let no : At n stop.at.side Stops ≡ At b side Moves = sym stop.at.is ∙ ap (t.process p).calls (sym stop.is) ∙ calls.call in cc)
        | Ending end ↦ absurd (let no : Alone ≡ At b side Moves = sym ((is.placed p one).ends end.closes.how) ∙ ap (t.process p).calls (sym end.is) ∙ calls.call in cc)
      ]

  asks : (p : ℕ) (h : List (Entry Action Reply)) → IsOne net p → law.Follows net p h → CallsNext net p h Asks → holds (acts net p h) ≡ false
  asks p h one follows calls =
      elim (next-shape t is p h calls.action one calls.next) as (λ _. holds (acts net p h) ≡ false) [
        | AtPlace free e ↦ asks-may _ p (acts net p h) (may-as p h calls.action Asks one e calls.call) (known p h calls.action one follows free e)
        | Giving c disk same ↦ absurd (let no : Gives ≡ Asks = sym (is.placed p one).gives ∙ ap (t.process p).calls (sym same) ∙ calls.call in cc)
        | Stopping c n stop ↦ disk-as p h one follows ∙ stop.free
        | Ending end ↦ disk-as p h one follows ∙ end.free
      ]

  gives : (p : ℕ) (h : List (Entry Action Reply)) → IsOne net p → law.Follows net p h → CallsNext net p h Gives → holds (acts net p h) ≡ true
  gives p h one follows calls =
      elim (next-shape t is p h calls.action one calls.next) as (λ _. holds (acts net p h) ≡ true) [
        | AtPlace free e ↦ gives-may _ p (acts net p h) (may-as p h calls.action Gives one e calls.call) (known p h calls.action one follows free e)
        | Giving c disk same ↦ disk-as p h one follows ∙ disk
        | Stopping c n stop ↦ absurd (let no : At n stop.at.side Stops ≡ Gives = sym stop.at.is ∙ ap (t.process p).calls (sym stop.is) ∙ calls.call in cc)
        | Ending end ↦ absurd (let no : Alone ≡ Gives = sym ((is.placed p one).ends end.closes.how) ∙ ap (t.process p).calls (sym end.is) ∙ calls.call in cc)
      ]

  -- who has ended doesn't have the disk
  or-is : (old new : Option Outcome) (how : Outcome) → old ≡ None → or_new old new ≡ Some how → new ≡ Some how
  or-is None new how e is = is
  or-is (Some why) new how e is = absurd cc

  pub ended-free : (p : ℕ) (h : List (Entry Action Reply)) (how : Outcome) → IsOne net p → law.Follows net p h → how_ended t.view h ≡ Some how
      → has_disk t.view (t.process p) h ≡ false
  ended-free p [] how one follows e = refl
  ended-free p (Does a r ∷ h) how one follows e =
      let now = or-is (how_ended t.view h) (t.view.ends a) how (goes-on t p h a follows.0) e in
      elim (next-shape t is p h a one follows.0) as (λ _. holds_by (has_disk t.view (t.process p) h) ((t.process p).calls a) (t.view.went a r) ≡ false) [
        | AtPlace free at ↦ absurd (some-none _ _ now ((is.placed p one).goes_on (place (t.process p) h) a at))
        | Giving c disk same ↦ absurd (some-none _ _ now (ap t.view.ends same ∙ is.view.gives_on))
        | Stopping c n stop ↦ absurd (some-none _ _ now (ap t.view.ends stop.is ∙ is.view.stops_on n))
        | Ending end ↦
            ap (λ c. holds_by (has_disk t.view (t.process p) h) c (t.view.went a r)) (ap (t.process p).calls end.is ∙ (is.placed p one).ends end.closes.how) ∙ end.free
      ]
  ended-free p (LacksMemory a r ∷ h) how one follows e = absurd (some-none _ _ e (goes-on t p h a follows.0))
  ended-free p (Delays a ∷ h) how one follows e = absurd (some-none _ _ e (goes-on t p h a follows.0))

  prompt : (p : ℕ) (h : List (Entry Action Reply)) (a : Action) → IsOne net p → law.Follows net p h → holds (acts net p h) ≡ true
      → next_action t.view (t.process p) h ≡ Some a → IsPrompt ((t.process p).calls a)
  prompt p h a one follows on next =
      elim (next-shape t is p h a one next) as (λ _. IsPrompt ((t.process p).calls a)) [
        | AtPlace free e ↦ prompt-may _ p _ (acts net p h) ((is.placed p one).may (place (t.process p) h) a e) (known p h a one follows free e) on
        | Giving c disk same ↦ subst IsPrompt (sym (ap (t.process p).calls same ∙ (is.placed p one).gives)) tt
        | Stopping c n stop ↦ absurd (not-both _ on (disk-as p h one follows ∙ stop.free))
        | Ending end ↦ absurd (not-both _ on (disk-as p h one follows ∙ end.free))
      ]

  held : (p : ℕ) (h : List (Entry Action Reply)) → IsOne net p → law.Follows net p h → holds (acts net p h) ≡ true
      → (c : Call) × IsPrompt c × CallsNext net p h c
  held p h one follows on =
      elim (how_ended t.view h) as (λ how. how_ended t.view h ≡ how → (c : Call) × IsPrompt c × CallsNext net p h c) [
        | Some how ↦ (λ e. absurd (not-both _ on (disk-as p h one follows ∙ ended-free p h how one follows e)))
        | None ↦ (λ e.
            let (a, next) = goes t p h e in
            ((t.process p).calls a, prompt p h a one follows on next, record { action = a; next = next; call = refl }))
      ] refl

  -- ---- a call that waits is made again
  same-stops : (p : Process Action Reply) (buffers : List ℕ) (how : Outcome) (h : List (Entry Action Reply)) (a : Action)
      → stops_next t.view p buffers how (Delays a ∷ h) ≡ stops_next t.view p buffers how h
  same-stops p [] how h a = refl
  same-stops p (b ∷ later) how h a = ap (λ next. if has_stopped p b h then next else t.view.stop b) (same-stops p later how h a)

  same-closes : (p : Process Action Reply) (buffers : List ℕ) (how : Outcome) (h : List (Entry Action Reply)) (a : Action)
      → closes t.view p buffers how (Delays a ∷ h) ≡ closes t.view p buffers how h
  same-closes p buffers how h a = ap (λ next. if has_disk t.view p h then t.view.give else next) (same-stops p buffers how h a)

  same-next : (p : Process Action Reply) (cause : Option Outcome) (does : Option Action) (h : List (Entry Action Reply)) (a : Action)
      → next_by t.view p cause does (Delays a ∷ h) ≡ next_by t.view p cause does h
  same-next p (Some how) does h a = same-closes p p.buffers how h a
  same-next p None None h a = same-closes p p.spools outcome.Done h a
  same-next p None (Some b) h a = refl

  again : (p : ℕ) (h : List (Entry Action Reply)) (entry : Entry Action Reply) → went t.view entry ≡ Delayed
      → next_action t.view (t.process p) h ≡ Some (action_of entry) → next_action t.view (t.process p) (entry ∷ h) ≡ Some (action_of entry)
  again p h (Does a r) e next = absurd (is.view.answered a r e)
  again p h (LacksMemory a r) e next = absurd (is.view.answered a r e)
  again p h (Delays a) e next =
      ap (unless_ended (how_ended t.view h)) (same-next (t.process p) (caused t.view (t.process p) h) ((t.process p).does (place (t.process p) h)) h a) ∙ next

  pub lawful : IsLawful (network_of t)
  lawful = record {
    seated = λ p h b side visit one follows calls. seated p h b side visit one calls;
    unstopped = λ p h b side visit one follows calls. not-made p b side h one follows (not-yet p h b side visit one follows calls);
    found = λ p h b side one follows calls. found p h b side one follows calls;
    asks = λ p h one follows calls. asks p h one follows calls;
    gives = λ p h one follows calls. gives p h one follows calls;
    held = λ p h one follows on. held p h one follows on;
    again = λ p h entry delayed next. again p h entry delayed next;
  }
