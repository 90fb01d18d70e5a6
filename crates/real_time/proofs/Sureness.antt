-- Where the keys are told, nothing is open but who goes next.
use Rattle.std.proofs.Common.{◌≡◌, ◌⊎◌, inl, inr, ℕ, zero, suc, ◌+◌, ◌*◌, ◌<◌, ◌≤◌, Bool, true, false, Option, None, Some, List, [], ◌∷◌, ◌++◌, length, refl, sym, ◌∙◌, ap, subst, arith, length-append}
use Rattle.std.specs.Prelude.{nat_lt}
use Rattle.std.specs.Option.{option_map}
use Rattle.std.proofs.lemmas.Bool.{ltb-true, lt-ltb}
use Rattle.std.proofs.lemmas.Bool.Decides.{eqb_tells}
use Rattle.solo_base.specs.Text.{line_text}
use Rattle.solo_base.specs.declared.item.Item.{Item}
use Rattle.solo_base.specs.declared.item.Item.TheVariants as item
use Rattle.solo_devices.specs.declared.card_read.CardRead.{CardRead}
use Rattle.solo_devices.specs.declared.card_read.CardRead.TheVariants as read
use Rattle.solo_devices.specs.CardUnit.{GivesNext, TakesItem, item_of}
use Rattle.solo_devices.specs.PrinterUnit.{Gains}
use Rattle.network_run.specs.Law.{AreEnabled}
use Rattle.network_run.specs.Sound.{IsSureLaw}
use Rattle.queue_var.specs.declared.turn.Turn.{Turn}
use Rattle.queue_var.specs.declared.turn.Turn.TheVariants.{Free, Handed}
use Rattle.real_time.specs.declared.table.Seat.{Seat}
use Rattle.real_time.specs.declared.table.Seat.TheVariants.{Operator, Task}
use Rattle.network_run.specs.declared.stepped.Stepped.{Stepped}
use Rattle.network_run.specs.declared.stepped.Stepped.TheVariants as stepped
use Rattle.real_time.specs.declared.table.Woken.{Woken}
use Rattle.real_time.specs.declared.table.Woken.TheVariants as woken
use Rattle.real_time.specs.Deeds.{Deed, Enters, Shows, Wakes, Returns}
use Rattle.real_time.specs.Table.{Table, MayComeIn, all_left, has_left, sleeper_at, operator_resumed, seat_queue, woken_by}
use Rattle.real_time.specs.States.{Stage, Works, Closes, Joins, Tells, Ended, TimeState, Opening, opened, ended_at, Action, Reads, Prints, Calls, Ends, Nothing, action_at, TimeEvent, Accepts, Displays, Moves, process_of, keys_behind, after_woken, joined_by, join_move, operator_move, task_move, move_of, occurs, OperatorMay, TaskMay, MayMove, IsMove, MayHappen}
use Rattle.real_time.specs.TimesLaw.{timing, IsTypedAnswer, IsUntroubled}
use Rattle.real_time.proofs.Reaching.{Holds, at-opening, keeps}
use Rattle.real_time.proofs.Accounts.{accounts}
use Rattle.real_time.specs.Weights.{lines_read, work_left}
use Rattle.real_time.proofs.Weights.{falls}
use Rattle.std.proofs.lemmas.List.{append-nil}

-- ---- who may go on can be told
abbrev no-or : Type 0 → Type 0
no-or X = X ⊎ (X → ⊥)

tells-seat : (a b : Seat) → no-or (a ≡ b)
tells-seat Operator Operator = inl refl
tells-seat Operator (Task q) = inr (λ e. absurd cc)
tells-seat (Task p) Operator = inr (λ e. absurd cc)
tells-seat (Task p) (Task q) = elim (eqb_tells p q) as (λ _. no-or (Task p ≡ Task q)) [
  | inl same ↦ inl (ap Task same.1)
  | inr other ↦ inr (λ e. other.1 cc)
]

tells-turn : (turn : Turn Seat) (seat : Seat) → no-or (turn ≡ Handed seat)
tells-turn Free seat = inr (λ e. absurd cc)
tells-turn (Handed handed) seat = elim (tells-seat handed seat) as (λ _. no-or ((Handed handed) ≡ Handed seat)) [
  | inl same ↦ inl (ap Handed same)
  | inr other ↦ inr (λ e. other cc)
]

tells-enter : (t : Table) (seat : Seat) → no-or (MayComeIn t seat)
tells-enter t seat = by (seat_queue t seat) refl t.turn refl
  where
    by : (held : Option ℕ) → seat_queue t seat ≡ held → (turn : Turn Seat) → t.turn ≡ turn → no-or (MayComeIn t seat)
    by None e Free f = inl (inl (e, f))
    by (Some p) e Free f = inr (λ may. elim may as (λ _. ⊥) [ inl free ↦ (let none = free.0 in absurd cc) | inr handed ↦ absurd cc ])
    by held e (Handed other) f = elim (tells-turn t.turn seat) as (λ _. no-or (MayComeIn t seat)) [
      | inl handed ↦ inl (inr handed)
      | inr differ ↦ inr (λ may. elim may as (λ _. ⊥) [ inl free ↦ (let none = free.1 in absurd cc) | inr handed ↦ differ handed ])
    ]

tells-operator : (next : Action) (t : Table) → no-or (OperatorMay next t)
tells-operator Reads t = inl tt
tells-operator (Prints text) t = inl tt
tells-operator Calls t = tells-enter t Operator
tells-operator Ends t = inl tt
tells-operator Nothing t = inr (λ may. may)

tells-left : (left : Bool) (t : Table) (place : ℕ) → no-or (TaskMay left t place)
tells-left true t place = inl tt
tells-left false t place = tells-enter t (Task place)

tells-below : (a b : ℕ) → no-or (a < b)
tells-below a b = by (nat_lt a b) refl
  where
    by : (t : Bool) → nat_lt a b ≡ t → no-or (a < b)
    by true e = inl (ltb-true a b e)
    by false e = inr (λ below. (let some = lt-ltb a b below in absurd cc))

tells-false : (b : Bool) → no-or (b ≡ false)
tells-false false = inl refl
tells-false true = inr (λ e. absurd cc)

all-of : (X Y Z : Type 0) → no-or X → no-or Y → no-or Z → no-or (X × Y × Z)
all-of X Y Z (inl x) (inl y) (inl z) = inl (x, y, z)
all-of X Y Z (inr never) y z = inr (λ all. never all.0)
all-of X Y Z (inl x) (inr never) z = inr (λ all. never all.1)
all-of X Y Z (inl x) (inl y) (inr never) = inr (λ all. never all.2)

may-tell : (s : TimeState) (p : ℕ) → MayMove s p ⊎ (MayMove s p → ⊥)
may-tell s zero = inr (λ may. may)
may-tell s (suc zero) = tells-operator (action_at s.stage s.seen) s.table
may-tell s (suc (suc place)) =
    all-of (place < 8) (ended_at s place ≡ false) (TaskMay (has_left s.table place) s.table place) (tells-below place 8)
    (tells-false (ended_at s place)) (tells-left (has_left s.table place) s.table place)

-- ---- one answer of the keys
one-answer : (rest : List Item) (answer other : CardRead) (now now_other : Option (List Item)) → TakesItem rest now answer → TakesItem rest now_other other
    → IsTypedAnswer answer → IsTypedAnswer other → other ≡ answer
one-answer rest (read.Card line) (read.Card typed) now now_other takes takes_other is is_other =
    let same = takes.items_are in let too = takes_other.items_are in ap read.Card (let e : typed ≡ line = cc in e)
one-answer rest (read.Card line) read.Spoiled now now_other takes takes_other is is_other =
    absurd (let same = takes.items_are in let too = takes_other.items_are in cc)
one-answer rest (read.Card line) read.End now now_other takes takes_other is is_other =
    absurd (let same = takes.items_are in let none = takes_other.end refl in cc)
one-answer rest read.Spoiled (read.Card typed) now now_other takes takes_other is is_other =
    absurd (let same = takes.items_are in let too = takes_other.items_are in cc)
one-answer rest read.Spoiled read.Spoiled now now_other takes takes_other is is_other = refl
one-answer rest read.Spoiled read.End now now_other takes takes_other is is_other =
    absurd (let same = takes.items_are in let none = takes_other.end refl in cc)
one-answer rest read.End (read.Card typed) now now_other takes takes_other is is_other =
    absurd (let none = takes.end refl in let too = takes_other.items_are in cc)
one-answer rest read.End read.Spoiled now now_other takes takes_other is is_other =
    absurd (let none = takes.end refl in let too = takes_other.items_are in cc)
one-answer rest read.End read.End now now_other takes takes_other is is_other = refl
one-answer rest read.Failed other now now_other takes takes_other is is_other = absurd is
one-answer rest read.Limit other now now_other takes takes_other is is_other = absurd is
one-answer rest (read.Card line) read.Failed now now_other takes takes_other is is_other = absurd is_other
one-answer rest (read.Card line) read.Limit now now_other takes takes_other is is_other = absurd is_other
one-answer rest read.Spoiled read.Failed now now_other takes takes_other is is_other = absurd is_other
one-answer rest read.Spoiled read.Limit now now_other takes takes_other is is_other = absurd is_other
one-answer rest read.End read.Failed now now_other takes takes_other is is_other = absurd is_other
one-answer rest read.End read.Limit now now_other takes takes_other is is_other = absurd is_other

-- ---- one content of the console
gained : (before now : Option (List ℕ)) (line : List ℕ) (all : Type 0) → all → Gains before now line all → now ≡ option_map (λ given. given ++ line) before
gained None now line all is gains = gains.untold refl
gained (Some given) now line all is gains =
    let told = gains.told given refl in
    told.now_is ∙ ap (λ part. Some (given ++ part)) (told.all_is is)

one-content : (before now other : Option (List ℕ)) (line : List ℕ) (all too : Type 0) → all → too → Gains before now line all → Gains before other line too
    → other ≡ now
one-content before now other line all too is is_too gains gains_too = gained before other line too is_too gains_too ∙ sym (gained before now line all is gains)

no-move : (next : Action) → next ≡ Reads → IsMove next → ⊥
no-move Reads is move = move
no-move (Prints text) is move = move
no-move Calls is move = absurd cc
no-move Ends is move = absurd cc
no-move Nothing is move = move

no-print : (next : Action) (text : List ℕ) → next ≡ Prints text → IsMove next → ⊥
no-print Reads text is move = move
no-print (Prints line) text is move = move
no-print Calls text is move = absurd cc
no-print Ends text is move = absurd cc
no-print Nothing text is move = move

one-of : (s : TimeState) (rest : List Item) → s.keys ≡ Some rest → (event other : TimeEvent) → MayHappen s event → MayHappen s other → IsUntroubled event
    → IsUntroubled other
    → process_of other ≡ process_of event → other ≡ event
one-of s rest keys (Accepts answer) (Accepts other) is too smooth smooth_too same =
    ap Accepts (one-answer rest answer other _ _ (is.1.told rest keys) (too.1.told rest keys) smooth smooth_too)
one-of s rest keys (Accepts answer) (Displays fault now) is too smooth smooth_too same = absurd (let reads = is.0 in let prints = too.1 in cc)
one-of s rest keys (Accepts answer) (Moves zero how) is too smooth smooth_too same = absurd too.0
one-of s rest keys (Accepts answer) (Moves (suc zero) how) is too smooth smooth_too same = absurd (no-move (action_at s.stage s.seen) is.0 too.1)
one-of s rest keys (Accepts answer) (Moves (suc (suc place)) how) is too smooth smooth_too same = absurd (omega (arith, same))
one-of s rest keys (Displays fault now) (Accepts answer) is too smooth smooth_too same = absurd (let reads = too.0 in let prints = is.1 in cc)
one-of s rest keys (Displays fault now) (Displays other content) is too smooth smooth_too same =
    let line : is.0 ≡ too.0 = (let a = is.1 in let b = too.1 in cc) in
    let gains = subst (λ line. Gains s.console now (line_text line) (fault ≡ None)) line is.2 in
    let contents = one-content s.console now content (line_text too.0) (fault ≡ None) (other ≡ None) smooth smooth_too gains too.2 in
    ap (λ fault. Displays fault content) (smooth_too ∙ sym smooth) ∙ ap (Displays fault) contents
one-of s rest keys (Displays fault now) (Moves zero how) is too smooth smooth_too same = absurd too.0
one-of s rest keys (Displays fault now) (Moves (suc zero) how) is too smooth smooth_too same =
    absurd (no-print (action_at s.stage s.seen) is.0 is.1 too.1)
one-of s rest keys (Displays fault now) (Moves (suc (suc place)) how) is too smooth smooth_too same = absurd (omega (arith, same))
one-of s rest keys (Moves zero how) other is too smooth smooth_too same = absurd is.0
one-of s rest keys (Moves (suc zero) how) (Accepts answer) is too smooth smooth_too same = absurd (no-move (action_at s.stage s.seen) too.0 is.1)
one-of s rest keys (Moves (suc zero) how) (Displays fault now) is too smooth smooth_too same =
    absurd (no-print (action_at s.stage s.seen) too.0 too.1 is.1)
one-of s rest keys (Moves (suc (suc place)) how) (Accepts answer) is too smooth smooth_too same = absurd (omega (arith, same))
one-of s rest keys (Moves (suc (suc place)) how) (Displays fault now) is too smooth smooth_too same = absurd (omega (arith, same))
one-of s rest keys (Moves (suc p) how) (Moves q other) is too smooth smooth_too same =
    let moves : other ≡ how = too.2 ∙ ap (λ q. (move_of s q).how) same ∙ sym is.2 in
    ap (λ q. Moves q other) same ∙ ap (Moves (suc p)) moves

-- ---- some event
next-answer : (rest : List Item) → (answer : CardRead) × IsTypedAnswer answer × ((items : List Item) → Some rest ≡ Some items
    → TakesItem items (keys_behind (Some rest) answer) answer)
next-answer [] = (read.End, tt, λ items same. (let is : items ≡ [] = cc in record { rest = []; now_are = refl; items_are = is; end = λ e. is }))
next-answer (item.Line line ∷ rest) = (
  read.Card line,
  tt,
  λ items same. (let is : items ≡ item.Line line ∷ rest = cc in
      record { rest = rest; now_are = refl; items_are = is; end = λ e. absurd cc }),
)
next-answer (item.Spoiled ∷ rest) = (
  read.Spoiled,
  tt,
  λ items same. (let is : items ≡ item.Spoiled ∷ rest = cc in
      record { rest = rest; now_are = refl; items_are = is; end = λ e. absurd cc }),
)

gives-next : (keys : Option (List Item)) (rest : List Item) → keys ≡ Some rest
    → (answer : CardRead) × IsTypedAnswer answer × GivesNext keys (keys_behind keys answer) answer
gives-next keys rest is =
    let (answer, smooth, takes) = next-answer rest in (
      answer,
      smooth,
      record {
        told = λ items are. subst (λ keys. TakesItem items (keys_behind keys answer) answer) (sym is) (takes items (sym is ∙ are));
        untold = λ none. absurd cc;
      },
    )

gains-line : (before : Option (List ℕ)) (line : List ℕ) (all : Type 0) → Gains before (option_map (λ given. given ++ line) before) line all
gains-line None line all = record { told = λ given is. absurd cc; untold = λ none. refl }
gains-line (Some given) line all = record {
  told = λ g is. record {
    part = line;
    now_is = (let same : given ≡ g = cc in ap (λ g. Some (g ++ line)) same);
    prefix = record { rest = []; whole_is = append-nil line };
    all_is = λ a. refl;
  };
  untold = λ none. absurd cc;
}

pub record SomeEvent (s : TimeState) (p : ℕ) : Type 0 where
  pub event : TimeEvent
  pub is : MayHappen s event
  pub process_is : process_of event ≡ p
  pub smooth : IsUntroubled event

some-operator : (s : TimeState) (rest : List Item) (next : Action) → s.keys ≡ Some rest → action_at s.stage s.seen ≡ next → OperatorMay next s.table
    → SomeEvent s 1
some-operator s rest Reads keys is may =
    let (answer, smooth, gives) = gives-next s.keys rest keys in
    record { event = Accepts answer; is = (is, gives); process_is = refl; smooth = smooth }
some-operator s rest (Prints text) keys is may = record {
  event = Displays None (option_map (λ given. given ++ line_text text) s.console);
  is = (text, is, gains-line s.console (line_text text) _);
  process_is = refl;
  smooth = refl;
}
some-operator s rest Calls keys is may = record {
  event = Moves 1 (operator_move s.stage s).how;
  is = (subst (λ next. OperatorMay next s.table) (sym is) may, subst IsMove (sym is) tt, refl);
  process_is = refl;
  smooth = tt;
}
some-operator s rest Ends keys is may = record {
  event = Moves 1 (operator_move s.stage s).how;
  is = (subst (λ next. OperatorMay next s.table) (sym is) may, subst IsMove (sym is) tt, refl);
  process_is = refl;
  smooth = tt;
}
some-operator s rest Nothing keys is may = absurd may

some-of : (s : TimeState) (rest : List Item) (p : ℕ) → s.keys ≡ Some rest → MayMove s p → SomeEvent s p
some-of s rest zero keys may = absurd may
some-of s rest (suc zero) keys may = some-operator s rest (action_at s.stage s.seen) keys refl may
some-of s rest (suc (suc place)) keys may = record {
  event = Moves (suc (suc place)) (move_of s (suc (suc place))).how;
  is = (may, tt, refl);
  process_is = refl;
  smooth = tt;
}

-- ---- no run is longer
kept-woken : (s : TimeState) (w : Woken) (place second : ℕ) (deeds : List Deed) → (after_woken w s place second deeds).to.keys ≡ s.keys
kept-woken s woken.NotDue place second deeds = refl
kept-woken s woken.Continued place second deeds = refl
kept-woken s woken.Delayed place second deeds = refl

kept-joined : (all : Bool) (how : Stepped) (s : TimeState) (t : Table) → (joined_by all how s t).to.keys ≡ s.keys
kept-joined true how s t = refl
kept-joined false how s t = refl

kept-joins : (operator : Option ℕ) (s : TimeState) → (join_move operator s).to.keys ≡ s.keys
kept-joins None s = kept-joined (all_left s.table) stepped.Acted s s.table
kept-joins (Some p) s = kept-joined (all_left s.table) stepped.Resumed s (operator_resumed s.table)

kept-operator : (s : TimeState) (stage : Stage) → (operator_move stage s).to.keys ≡ s.keys
kept-operator s (Works []) = refl
kept-operator s (Works (Enters line ∷ deeds)) = refl
kept-operator s (Works (Shows text ∷ deeds)) = refl
kept-operator s (Works (Wakes place second due ∷ deeds)) = kept-woken s (woken_by due (sleeper_at s.table.queues place)) place second deeds
kept-operator s (Works (Returns ∷ deeds)) = refl
kept-operator s Closes = refl
kept-operator s Joins = kept-joins s.table.operator s
kept-operator s (Tells place []) = refl
kept-operator s (Tells place (name ∷ names)) = refl
kept-operator s Ended = refl

kept-task : (s : TimeState) (place : ℕ) (left : Bool) (held : Option ℕ) → (task_move left held s place).to.keys ≡ s.keys
kept-task s place true held = refl
kept-task s place false (Some p) = refl
kept-task s place false None = refl

pub keys-fall : (s : TimeState) (event : TimeEvent) (rest : List Item) → s.keys ≡ Some rest → MayHappen s event
    → (later : List Item) × ((occurs s event).keys ≡ Some later) × (length later + lines_read event ≡ length rest)
keys-fall s (Accepts answer) rest keys is =
    let takes = is.1.told rest keys in
    let same = ap length takes.items_are in
    let sum = length-append (item_of answer) takes.rest in
    (takes.rest, takes.now_are, omega (arith, same, sum))
keys-fall s (Displays None now) rest keys is = (rest, keys, omega arith)
keys-fall s (Displays (Some fault) now) rest keys is = (rest, keys, omega arith)
keys-fall s (Moves zero how) rest keys is = absurd is.0
keys-fall s (Moves (suc zero) how) rest keys is = (rest, kept-operator s s.stage ∙ keys, omega arith)
keys-fall s (Moves (suc (suc place)) how) rest keys is =
    (rest, kept-task s place (has_left s.table place) (sleeper_at s.table.queues place) ∙ keys, omega arith)

no-longer : (s : TimeState) (events : List TimeEvent) (rest : List Item) → Holds s → s.keys ≡ Some rest → AreEnabled timing s events
    → length events ≤ 90000000 * length rest + work_left s
no-longer s [] rest h keys all = omega arith
no-longer s (event ∷ events) rest h keys all =
    let less = falls s event h all.0 in
    let (later, is, sum) = keys-fall s event rest keys all.0 in
    let more = no-longer (occurs s event) events later (keeps s event h all.0) is all.1 in
    omega (arith, less, sum, more)

pub few-events : (o : Opening) (items : List Item) (events : List TimeEvent) → o.keys ≡ Some items → AreEnabled timing (opened o) events
    → length events ≤ 90000000 * length items + 1000
few-events o items events told all =
    let few = no-longer (opened o) events items (at-opening o) told all in
    let start : work_left (opened o) ≡ 87 = refl in
    omega (arith, few, start)

pub sure : IsSureLaw timing
sure = record {
  may_tell = may-tell;
  one_event = λ o s event other reached told is too smooth smooth_too same.
      let a = accounts o s told.0 reached told.1 in
      one-of s a.rest a.keys event other is too smooth smooth_too same;
  some_event = λ o s p reached told may.
      let a = accounts o s told.0 reached told.1 in
      let some = some-of s a.rest p a.keys may in
      (some.event, some.is, some.process_is, some.smooth);
  no_longer = λ o told. (90000000 * length told.0 + 1000, λ events all. few-events o told.0 events told.1 all);
}
