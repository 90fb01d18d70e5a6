-- Each step on the word keeps the rule, and tells what it is to tell.
use Rattle.std.proofs.Common.{◌≡◌, ℕ, ◌≢◌, ◌+◌, ◌*◌, ◌/◌, ◌%◌, ◌<◌, ◌≤◌, eqb, Bool, true, true≢false, List, [], ◌∷◌, ◌++◌, get_or, set, Option, Some, None, refl, sym, ap, ◌∙◌, subst, ⊎_elim, arith, get_or-set_same, length-set}
use mathlib.Core.Logic.{dite}
use mathlib.Core.Option as maybe
use mathlib.Core.Option.{some, none, some-injective, some-ne-none}
use native.Mathlib.Decide.{ℕ_discrete}
use lib.ListN.{get_elem?}
use lib.Seq.{set-get_or}
use prog.Atomic.{either}
use Rattle.atomic_table.specs.Table.{State, Me, step, stepped, keeps, takes, gives, homes_after, put_back, Allows}
use Rattle.atomic_table.proofs.Lists.{at_set, set_again, set_here, set_else}
use Rattle.monitor_gate.specs.declared.view.Line.{Line}
use Rattle.monitor_gate.specs.declared.view.Stage.{Stage}
use Rattle.monitor_gate.specs.declared.view.Stage.TheVariants.{Outside, Inside, Delayed}
use Rattle.monitor_gate.specs.declared.view.View.{View}
use Rattle.monitor_gate.specs.Kind.{with_entry, OthersWait, Completes, Suspends}
use Rattle.monitor_gate.specs.Views.{Each, AreApart, own_line, at_stage, completed}
use Rattle.monitor_gate.specs.Rule.{IsWithin, Stands, IsLineOf, Fits, Waiter, HandedTo, IsKept}
use Rattle.monitor_gate.specs.Steps.{Found, entered, resumed, left, delayed, unchanged}
use Rattle.monitor_gate.specs.Lists.{with_entry_same, with_entry_other}
use Rattle.monitor_gate.proofs.Lists.{either_hit, either_miss, there}
use Rattle.monitor_gate.proofs.Stays.{IsActive, active_agrees, active_listed, active_own, active_apart, other_fits}

module _ {S E : Type 0} (handed : S → Option ℕ) (ties : S → S → (ℕ → List E) → Type 0) (waits : ℕ → S → Bool) (wakes : ℕ → S → Type 0) (opening : S) (passes : ℕ) where
  abbrev Table : Type 0
  Table = State (Option S) (View S E)

  abbrev Sat : Type 0
  Sat = Me (Option S) (View S E)

  abbrev Rule : Table → Type 0
  Rule = IsKept handed ties waits wakes opening passes

  -- the word after a step, and what it says
  record Turned (s : Table) (word : ℕ) (homes : List (maybe.Option (Option S))) (now : S) (turn : ℕ) : Type 0 where
    marks : ℕ
    word_is : word ≡ turn + 65536 * marks
    word_low : turn < 65536
    home : turn ≢ 1 → homes ≡ some (Some now) ∷ []
    out : turn ≡ 1 → homes ≡ none ∷ []
    free : turn ≡ 0 → handed now ≡ None
    handed_on : (p : ℕ) → turn ≡ p + 2 → HandedTo handed waits wakes p now

  module _ (s : Table) (r : Rule s) (id : ℕ) (v : View S E) (at : get_elem? s.views id ≡ some v) where
    fits : Fits waits opening r.now r.lists r.owner r.made r.turn r.inside id v
    fits = r.each id v at

    waiter_else : (w : View S E) (p : ℕ) → p ≢ v.number → Waiter s.views p → Waiter (set s.views id w) p
    waiter_else w p ne h = record {
      seat = h.seat;
      view = h.view;
      there = set_else s.views id h.seat w (λ e. ne (sym h.is ∙ ap (λ (x : View S E). x.number) (some-injective h.view v (sym h.there ∙ (ap (get_elem? s.views) e ∙ at))))) ∙ h.there;
      is = h.is;
      within = h.within;
    }

    -- the process of seat `id` makes a step, to the view w
    turns : (w : View S E) (word : ℕ) (homes : List (maybe.Option (Option S))) (now : S) (lists : ℕ → List E) (turn inside : ℕ)
        → IsActive v.stage → w.number ≡ v.number → OthersWait waits v.number r.now now → ((q : ℕ) → q ≢ v.number → lists q ≡ r.lists q) → (r.turn ≡ 1 → id ≡ r.inside)
        → Fits waits opening now lists r.owner r.made turn inside id w
        → (waits v.number now ≡ true → IsWithin w.stage)
        → ties opening now lists
        → Turned s word homes now turn
        → (turn ≡ 1 → (inside ≡ id) × (w.stage ≡ Inside now))
        → Rule record { words = set s.words 0 word; homes = homes; views = set s.views id w }
    turns w word homes now lists turn inside act same quiet listed alone mine within tied t in_now =
        let own = active_own waits opening r.now r.lists r.owner r.made r.turn r.inside id v fits act in
        let one = r.one_word in
        let here : get_elem? (set s.views id w) id ≡ some w = set_here s.views id w (there s.views id v at) in record {
          now = now;
          lists = lists;
          owner = r.owner;
          made = r.made;
          turn = turn;
          marks = t.marks;
          inside = inside;
          one_word = length-set s.words 0 word ∙ one;
          word_is = get_or-set_same s.words 0 word 0 (omega arith) ∙ t.word_is;
          word_low = t.word_low;
          few = r.few;
          tied = tied;
          unmade = λ p not. dite (ℕ_discrete p v.number) (λ e. let low = own.low in let high = own.high in let gone : 1 ≤ p → r.made < p = not in absurd (omega (arith, gone (subst (λ (n : ℕ). 1 ≤ n) (sym e) low))))
              (λ ne. listed p ne ∙ r.unmade p not);
          home = t.home;
          out = t.out;
          free = t.free;
          handed_on = t.handed_on;
          entered = λ is. let i = in_now is in record { view = w; there = subst (λ (n : ℕ). get_elem? (set s.views id w) n ≡ some w) (sym i.0) here; within = i.1 };
          waiting = λ p is. dite (ℕ_discrete p v.number) (λ e. record { seat = id; view = w; there = here; is = same ∙ sym e; within = within (subst (λ (n : ℕ). waits n now ≡ true) e is) })
              (λ ne. waiter_else w p ne (r.waiting p (sym (quiet p ne) ∙ is)));
          each = λ j u e. ⊎_elim (λ (x : (j ≡ id) × (w ≡ u)). subst (λ (y : ℕ × View S E). Fits waits opening now lists r.owner r.made turn inside y.0 y.1) (λ i. (sym x.0 i, x.1 i)) mine)
              (λ (x : (j ≢ id) × (get_elem? s.views j ≡ some u)). other_fits waits opening r.now r.lists r.owner r.made r.turn r.inside j u (r.each j u x.1) now lists turn inside id v.number own.owned x.0 quiet listed alone)
              (at_set s.views id j w u e);
        }

    -- the view of a process that takes the turn
    inside_fits : IsActive v.stage → (inside : ℕ) → inside ≡ id → Fits waits opening r.now r.lists r.owner r.made 1 inside id (at_stage (Inside r.now) v)
    inside_fits act inside is = record {
      agrees = active_agrees opening v.stage v.opening act fits.agrees;
      stands = (refl, refl, sym is);
      listed = active_listed waits opening r.now r.lists r.owner r.made r.turn r.inside id v fits act;
      apart = active_apart waits opening r.now r.lists r.owner r.made r.turn r.inside id v fits act;
    }

    -- the process of seat `id` takes the turn, where the gate is free or handed to it
    takes_turn : (cs : List (ℕ × Option S)) (word : ℕ) → IsActive v.stage → r.turn ≢ 1 → (marks : ℕ) → word ≡ 1 + 65536 * marks
        → Rule (stepped s 0 word id cs (at_stage (Inside r.now) v) (takes 0 (Some r.now)))
    takes_turn cs word act apart marks word_is = turns (at_stage (Inside r.now) v) word (set s.homes 0 none) r.now r.lists 1 id act refl (λ q ne. refl) (λ q ne. refl) (λ one. absurd (apart one)) (inside_fits act id refl) (λ _. tt) r.tied record {
      marks = marks;
      word_is = word_is;
      word_low = omega arith;
      home = λ ne. absurd (ne refl);
      out = λ _. ap (λ (hs : List (maybe.Option (Option S))). set hs 0 none) (r.home apart);
      free = λ e. absurd (omega arith);
      handed_on = λ p e. absurd (omega arith);
    } (λ _. (refl, refl))

    found : IsActive v.stage → Found ties opening v.number v.entries r.now
    found act = let own = active_own waits opening r.now r.lists r.owner r.made r.turn r.inside id v fits act in record { lists = r.lists; tied = r.tied; mine = own.has }

    found_as : IsActive v.stage → (known : S) → v.opening ≡ Some known → Found ties known v.number v.entries r.now
    found_as act known e = let same : opening ≡ known = cc (active_agrees opening v.stage v.opening act fits.agrees, e) in subst (λ (o : S). Found ties o v.number v.entries r.now) same (found act)

  -- nothing happens
  unmoved : (s : Table) (r : Rule s) (id : ℕ) (v : View S E) (cs : List (ℕ × Option S)) (word : ℕ) → get_elem? s.views id ≡ some v → word ≡ get_or s.words 0 0 → Rule (stepped s 0 word id cs v keeps)
  unmoved s r id v cs word at same = subst (λ (z : List ℕ × List (View S E)). Rule record { words = z.0; homes = s.homes; views = z.1 })
      (λ i. (sym (ap (set s.words 0) same ∙ set-get_or s.words 0 0) i, sym (set_again s.views id v at) i)) r

  stood : (stage : Stage S) (s : Table) (r : Rule s) (id : ℕ) (v : View S E) → get_elem? s.views id ≡ some v → v.stage ≡ stage → Stands waits r.now r.made r.turn r.inside id v.number stage
  stood stage s r id v at is = subst (λ (st : Stage S). Stands waits r.now r.made r.turn r.inside id v.number st) is (r.each id v at).stands

  as_active : (stage : Stage S) (v : View S E) → v.stage ≡ stage → IsActive stage → IsActive v.stage
  as_active stage v is = subst IsActive (sym is)

  -- The word is `old`, whose turn lets the process in, and becomes `new`.
  pub enters : (slots id : ℕ) (me : Sat) (old new : ℕ) → old % 65536 ≡ 0 → new ≡ old + 1 → me.0.stage ≡ Outside
      → Allows Rule slots id me 0 (λ n. either (eqb n old) new n) (entered handed ties waits (step slots 0 old new none) me)
  enters slots id me old new is_free next outside s r _ at _ = dite (ℕ_discrete (get_or s.words 0 0) old)
      (λ e. let word_is = r.word_is in let low = r.word_low in let free : r.turn ≡ 0 = omega arith in
      let act = as_active Outside me.0 outside tt in (
        at_stage (Inside r.now) me.0,
        takes 0 (Some r.now),
        ap (λ (hs : List (maybe.Option (Option S))). get_elem? hs 0) (r.home (omega arith)),
        subst (λ (z : ℕ). Rule (stepped s 0 z id me.1 (at_stage (Inside r.now) me.0) (takes 0 (Some r.now)))) (sym (either_hit (get_or s.words 0 0) old new e))
            (takes_turn s r id me.0 at me.1 new act (omega arith) r.marks (omega arith)),
        ((λ _. (r.now, refl, found_as s r id me.0 at act, r.free free, stood Outside s r id me.0 at outside)), (λ ne. absurd (ne e))),
      ))
      (λ ne. (me.0, keeps, tt, unmoved s r id me.0 me.1 _ at (either_miss (get_or s.words 0 0) old new ne), ((λ e. absurd (ne e)), (λ _. refl))))

  pub resumes : (slots id : ℕ) (me : Sat) (old new : ℕ) → old % 65536 ≡ me.0.number + 2 → new + me.0.number + 1 ≡ old → me.0.stage ≡ Delayed
      → Allows Rule slots id me 0 (λ n. either (eqb n old) new n) (resumed handed ties waits wakes (step slots 0 old new none) me)
  resumes slots id me old new is_mine next waiting s r _ at _ = dite (ℕ_discrete (get_or s.words 0 0) old)
      (λ e. let word_is = r.word_is in let low = r.word_low in let mine : r.turn ≡ me.0.number + 2 = omega arith in
      let act = as_active Delayed me.0 waiting tt in let on = r.handed_on me.0.number mine in (
        at_stage (Inside r.now) me.0,
        takes 0 (Some r.now),
        ap (λ (hs : List (maybe.Option (Option S))). get_elem? hs 0) (r.home (omega arith)),
        subst (λ (z : ℕ). Rule (stepped s 0 z id me.1 (at_stage (Inside r.now) me.0) (takes 0 (Some r.now)))) (sym (either_hit (get_or s.words 0 0) old new e))
            (takes_turn s r id me.0 at me.1 new act (omega arith) r.marks (omega arith)),
        ((λ _. (r.now, refl, found_as s r id me.0 at act, on.turn, on.waiting, on.wakes_it)), (λ ne. absurd (ne e))),
      ))
      (λ ne. (me.0, keeps, tt, unmoved s r id me.0 me.1 _ at (either_miss (get_or s.words 0 0) old new ne), ((λ e. absurd (ne e)), (λ _. refl))))

  -- the word and the slot after the process inside gave the state y back
  record GivesBack (y : S) (turn : ℕ) : Type 0 where
    apart : turn ≢ 1
    free : turn ≡ 0 → handed y ≡ None
    handed_on : (p : ℕ) → turn ≡ p + 2 → HandedTo handed waits wakes p y

  leaves_as : (x y : S) (e : E) (lists : ℕ → List E) (p turn : ℕ) → Completes handed waits wakes p x y → (turn ≡ 0 → handed y ≡ None) → ((q : ℕ) → turn ≡ q + 2 → handed y ≡ Some q) → turn ≢ 1 → GivesBack y turn
  leaves_as x y e lists p turn done free on apart = record { apart = apart; free = free; handed_on = λ q is. record { turn = on q is; waiting = (done.woken q (on q is)).0; wakes_it = (done.woken q (on q is)).1 } }

  turned_back : (s : Table) (y : S) (new : ℕ) (homes : List (maybe.Option (Option S))) → GivesBack y (new % 65536) → homes ≡ some (Some y) ∷ []
      → Turned s new homes y (new % 65536)
  turned_back s y new homes b is = record {
    marks = new / 65536;
    word_is = omega arith;
    word_low = omega arith;
    home = λ _. is;
    out = λ e. absurd (b.apart e);
    free = b.free;
    handed_on = b.handed_on;
  }

  given_back : (s : Table) (r : Rule s) (held : List (ℕ × Option S)) (y : S) (cs : List (ℕ × Option S)) → held ≡ (0, Some y) ∷ cs → r.turn ≡ 1 → homes_after s.homes held gives ≡ some (Some y) ∷ []
  given_back s r held y cs has one = ap (put_back s.homes) has ∙ ap (λ (hs : List (maybe.Option (Option S))). set hs 0 (some (Some y))) (r.out one)

  -- The process inside gives back the state y, to which an entry of it led.
  pub leaves : (slots id : ℕ) (me : Sat) (x y : S) (entry : E) (cs : List (ℕ × Option S)) (gained : List E) (new : ℕ)
      → ((lists : ℕ → List E) → ties opening x lists → ties opening y (with_entry lists me.0.number entry) × Completes handed waits wakes me.0.number x y)
      → me.0.stage ≡ Inside x → me.0.joined ≡ [] → me.1 ≡ (0, Some y) ∷ cs → gained ≡ entry ∷ []
      → (new % 65536 ≡ 0 → handed y ≡ None) → ((q : ℕ) → new % 65536 ≡ q + 2 → handed y ≡ Some q) → new % 65536 ≢ 1
      → Allows Rule slots id me 0 (λ _. new) (left gained (step slots 0 new 0 none) me)
  leaves slots id me x y entry cs gained new law in_x alone has adds free on apart s r _ at _ =
      let v = me.0 in let p = me.0.number in
      let in_now = stood (Inside x) s r id v at in_x in
      let act = as_active (Inside x) v in_x tt in
      let own = active_own waits opening r.now r.lists r.owner r.made r.turn r.inside id v (r.each id v at) act in
      let lawful = law r.lists (subst (λ (z : S). ties opening z r.lists) (sym in_now.0) r.tied) in
      let done : Completes handed waits wakes p r.now y = subst (λ (z : S). Completes handed waits wakes p z y) in_now.0 lawful.1 in
      let back = leaves_as r.now y entry r.lists p (new % 65536) done free on apart in
      let w : View S E = completed gained v in (
        w,
        gives,
        tt,
        subst (λ (hs : List (maybe.Option (Option S))). Rule record { words = set s.words 0 new; homes = hs; views = set s.views id w }) (sym (given_back s r me.1 y cs has in_now.1))
            (turns s r id v at w new (some (Some y) ∷ []) y (with_entry r.lists p entry) (new % 65536) r.inside act refl done.others (with_entry_other r.lists p entry) (λ _. in_now.2) record {
              agrees = active_agrees opening v.stage v.opening act (r.each id v at).agrees;
              stands = done.out;
              listed = (
                record { has = with_entry_same r.lists p entry ∙ (ap (λ (es : List E). es ++ entry ∷ []) own.has ∙ ap (λ (es : List E). v.entries ++ es) (sym adds)); owned = own.owned; low = own.low; high = own.high },
                subst (λ (ls : List (Line E)). Each (IsLineOf (with_entry r.lists p entry) r.owner r.made id) ls) (sym alone) tt,
              );
              apart = subst (λ (ls : List (Line E)). AreApart (own_line w ∷ ls)) (sym alone) (tt, tt);
            } (λ waits_y. absurd (true≢false (sym waits_y ∙ done.out))) lawful.0 (turned_back s y new (some (Some y) ∷ []) back refl) (λ e. absurd (apart e))),
        refl,
      )

  -- The process inside gives back the state y, and is delayed.
  pub delays : (slots id : ℕ) (me : Sat) (x y : S) (cs : List (ℕ × Option S)) (marks new : ℕ) → new ≡ 65536 * marks
      → ((lists : ℕ → List E) → ties opening x lists → ties opening y lists × Suspends handed waits me.0.number x y)
      → me.0.stage ≡ Inside x → me.1 ≡ (0, Some y) ∷ cs
      → Allows Rule slots id me 0 (λ _. new) (delayed (step slots 0 new 0 none) me)
  delays slots id me x y cs marks new word_is law in_x has s r _ at _ =
      let v = me.0 in
      let in_now = stood (Inside x) s r id v at in_x in
      let act = as_active (Inside x) v in_x tt in
      let lawful = law r.lists (subst (λ (z : S). ties opening z r.lists) (sym in_now.0) r.tied) in
      let rests : Suspends handed waits v.number r.now y = subst (λ (z : S). Suspends handed waits v.number z y) in_now.0 lawful.1 in
      let w : View S E = at_stage Delayed v in (
        w,
        gives,
        tt,
        subst (λ (hs : List (maybe.Option (Option S))). Rule record { words = set s.words 0 new; homes = hs; views = set s.views id w }) (sym (given_back s r me.1 y cs has in_now.1))
            (turns s r id v at w new (some (Some y) ∷ []) y r.lists 0 r.inside act refl rests.others (λ q ne. refl) (λ _. in_now.2) record {
              agrees = active_agrees opening v.stage v.opening act (r.each id v at).agrees;
              stands = rests.waiting;
              listed = active_listed waits opening r.now r.lists r.owner r.made r.turn r.inside id v (r.each id v at) act;
              apart = active_apart waits opening r.now r.lists r.owner r.made r.turn r.inside id v (r.each id v at) act;
            } (λ _. tt) lawful.0 record {
              marks = marks;
              word_is = omega arith;
              word_low = omega arith;
              home = λ _. refl;
              out = λ e. absurd (omega arith);
              free = λ _. rests.free;
              handed_on = λ p e. absurd (omega arith);
            } (λ e. absurd (omega arith))),
        refl,
      )

  -- only the word changes, and not its turn
  reworded : (s : Table) (r : Rule s) (new : ℕ) → new % 65536 ≡ get_or s.words 0 0 % 65536 → Rule record { words = set s.words 0 new; homes = s.homes; views = s.views }
  reworded s r new next = let one = r.one_word in let is = r.word_is in let low = r.word_low in record {
    now = r.now;
    lists = r.lists;
    owner = r.owner;
    made = r.made;
    turn = r.turn;
    marks = new / 65536;
    inside = r.inside;
    one_word = length-set s.words 0 new ∙ one;
    word_is = get_or-set_same s.words 0 new 0 (omega arith) ∙ omega arith;
    word_low = low;
    few = r.few;
    tied = r.tied;
    unmade = r.unmade;
    home = r.home;
    out = r.out;
    free = r.free;
    handed_on = r.handed_on;
    entered = r.entered;
    waiting = r.waiting;
    each = r.each;
  }

  -- A process says that it may be asleep.
  pub tells : (slots id : ℕ) (me : Sat) (old new : ℕ) → new % 65536 ≡ old % 65536
      → Allows Rule slots id me 0 (λ n. either (eqb n old) new n) (unchanged (step slots 0 old new none) me)
  tells slots id me old new next s r _ at _ = (
    me.0,
    keeps,
    tt,
    dite (ℕ_discrete (get_or s.words 0 0) old)
        (λ e. subst (λ (z : ℕ). Rule (stepped s 0 z id me.1 me.0 keeps)) (sym (either_hit (get_or s.words 0 0) old new e))
        (subst (λ (vs : List (View S E)). Rule record { words = set s.words 0 new; homes = s.homes; views = vs }) (sym (set_again s.views id me.0 at)) (reworded s r new (next ∙ ap (λ (n : ℕ). n % 65536) (sym e)))))
        (λ ne. unmoved s r id me.0 me.1 _ at (either_miss (get_or s.words 0 0) old new ne)),
    refl,
  )

  -- the same, of the seat once it holds the state
  pub leaves_from : (slots id : ℕ) (before me : Sat) (x y : S) (entry : E) (gained : List E) (new : ℕ) → me ≡ (before.0, (0, Some y) ∷ [])
      → ((lists : ℕ → List E) → ties opening x lists → ties opening y (with_entry lists before.0.number entry) × Completes handed waits wakes before.0.number x y)
      → before.0.stage ≡ Inside x → before.0.joined ≡ [] → gained ≡ entry ∷ []
      → (new % 65536 ≡ 0 → handed y ≡ None) → ((q : ℕ) → new % 65536 ≡ q + 2 → handed y ≡ Some q) → new % 65536 ≢ 1
      → Allows Rule slots id me 0 (λ _. new) (left gained (step slots 0 new 0 none) me)
  leaves_from slots id before me x y entry gained new holding law in_x alone adds free on apart = subst (λ (m : Sat). Allows Rule slots id m 0 (λ _. new) (left gained (step slots 0 new 0 none) m)) (sym holding)
      (leaves slots id (before.0, (0, Some y) ∷ []) x y entry [] gained new law in_x alone refl adds free on apart)

  pub delays_from : (slots id : ℕ) (before me : Sat) (x y : S) (marks new : ℕ) → new ≡ 65536 * marks → me ≡ (before.0, (0, Some y) ∷ [])
      → ((lists : ℕ → List E) → ties opening x lists → ties opening y lists × Suspends handed waits before.0.number x y)
      → before.0.stage ≡ Inside x
      → Allows Rule slots id me 0 (λ _. new) (delayed (step slots 0 new 0 none) me)
  delays_from slots id before me x y marks new word_is holding law in_x = subst (λ (m : Sat). Allows Rule slots id m 0 (λ _. new) (delayed (step slots 0 new 0 none) m)) (sym holding)
      (delays slots id (before.0, (0, Some y) ∷ []) x y [] marks new word_is law in_x refl)
