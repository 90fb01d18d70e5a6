-- An activation begins, and ends.
use Rattle.std.proofs.Common.{◌≡◌, ℕ, ◌+◌, ◌-◌, ◌<◌, ◌≤◌, Bool, true, false, Some, None, List, [], ◌∷◌, ◌++◌, length, take, drop, map, ℤ, pos, refl, sym, ◌∙◌, ap, subst, arith}
use Rattle.std.specs.Prelude.{slice_get, if◌then◌else◌, nat_le, nat_lt, reverse, replicate}
use Rattle.std.proofs.lemmas.Bool.{lt-leb, le-leb, lt-ltb, ltb-true, ltb-false}
use Rattle.std.proofs.lemmas.Option.{none-some, slice_get_within}
use Rattle.std.proofs.lemmas.List.{map-append, length-append, take_at, drop_at, reverse-reverse, length-reverse}
use Rattle.solo_base.specs.declared.outcome.ProgResult.TheVariants as result
use Rattle.solo_base.specs.declared.system_call.SysReply.{SysReply}
use Rattle.solo_base.specs.RunOutcome.{Ends}
use Rattle.stack_code.specs.declared.table.Op.TheVariants as op
use Rattle.stack_code.specs.CodeLists.{CodeLists, routine_at}
use Rattle.stack_machine.specs.States.{Activation, State}
use Rattle.stack_machine.specs.State.{has_room, Lacks, Goes, stop}
use Rattle.stack_machine.specs.Effects.{enter, give_back}
use Rattle.stack_machine.specs.Machine.{effect, next}
use Rattle.stack_machine.specs.Run.{Runs}
use Rattle.stack_machine.proofs.Last.{leave_from}
use Rattle.pascal_mean.specs.Means.{Parameter}
use Rattle.pascal_mean.specs.Situation.{Situation, Map, Place}
use Rattle.pascal_mean.specs.Variables.{map_at}
use Rattle.pascal_mean.specs.Calls.{Given, begun_map}
use Rattle.pascal_code.specs.Frames.{Frame, declared_words}
use Rattle.pascal_code.specs.Senses.{Reference, sense_in}
use Rattle.pascal_code.specs.Instructions.{bare, with_a}
use Rattle.code_law.specs.Regions.{AreApart}
use Rattle.code_law.specs.Ties.{Held, AreTied, Agree}
use Rattle.code_law.specs.Arguments.{AreWords, Suit, LieFrom}
use Rattle.code_law.proofs.Lists.{last_of_more, last_frame, first_map, last_map, map_below}
use Rattle.code_law.proofs.Agreeing.{agree_more, agree_less, tied_more}
use Rattle.code_law.proofs.Opening.{on_top, top_reversed, parameter_words, begun_is_tied}
use Rattle.code_law.proofs.Reached.{Reached, does, goes, goes_if, stops}
use Rattle.code_law.proofs.Here.{Fixed, at_rest, state_at, Here, number_of}

-- What is known of a routine's frame, and of its place in the code.
pub record IsRoutine (c : CodeLists) (k : ℕ) (g : Frame) (parameters : List Parameter) : Type 0 where
  pub apart : AreApart g
  pub among : (x : List ℕ) (a : ℕ) → sense_in g x ≡ Some (Reference a) → a < g.parameters
  pub lie : LieFrom g 0 parameters
  pub low : g.parameters + g.result ≤ declared_words g
  pub params : (routine_at c k).params ≡ g.parameters
  pub words : declared_words g ≤ (routine_at c k).words

-- the caller as it waits
abbrev pub caller_at : Fixed → ℕ → ℕ → List ℤ → Activation
caller_at f p line operands = record { routine = f.routine; place = p + 1; line = line; words = []; operands = operands }

-- what is held below a number stays, and nothing is held from it on
abbrev pub held_below : ℕ → Held → Held
held_below n held d i = if nat_le n d then None else held d i

-- the activation of a called routine
abbrev pub inner : Fixed → Frame → (List ℕ → Place) → ℕ → ℕ → ℕ → List ℤ → Fixed
inner f g references k p line operands = record {
  routine = k;
  callers = f.callers ++ caller_at f p line operands ∷ [];
  frames = f.frames ++ g ∷ [];
  references = λ d. if nat_lt d (length f.frames) then f.references d else references;
  held = held_below (length f.frames) f.held;
  floor = f.floor;
}

-- the latest of the waiting activations
pub record Latest (below callers : List Activation) (caller : Activation) : Type 0 where
  pub others : List Activation
  pub last : Activation
  pub parts : below ≡ others ++ last ∷ []
  pub waiting : map at_rest others ≡ callers
  pub rests : at_rest last ≡ caller

heads : (a b : Activation) (others bs : List Activation) → a ∷ others ≡ b ∷ bs → (a ≡ b) × (others ≡ bs)
heads a b others bs e = (cc, cc)

nothing : (a : Activation) (others : List Activation) → [] ≡ a ∷ others → ⊥
nothing a others e = cc

pub latest : (below callers : List Activation) (caller : Activation) → map at_rest below ≡ callers ++ caller ∷ [] → Latest below callers caller
latest [] [] caller waiting = absurd (nothing caller [] waiting)
latest [] (d ∷ callers) caller waiting = absurd (nothing d (callers ++ caller ∷ []) waiting)
latest (b ∷ []) [] caller waiting = record { others = []; last = b; parts = refl; waiting = refl; rests = (heads (at_rest b) caller [] [] waiting).0 }
latest (b ∷ a ∷ below) [] caller waiting = absurd (nothing (at_rest a) (map at_rest below)
    (sym (heads (at_rest b) caller (at_rest a ∷ map at_rest below) [] waiting).1))
latest (b ∷ below) (d ∷ callers) caller waiting =
    let parts = heads (at_rest b) d (map at_rest below) (callers ++ caller ∷ []) waiting in
    before b d parts.0 (latest below callers caller parts.1)
  where
    before : (b d : Activation) → at_rest b ≡ d → Latest below callers caller → Latest (b ∷ below) (d ∷ callers) caller
    before b d same more = record {
      others = b ∷ more.others;
      last = more.last;
      parts = ap (λ (l : List Activation). b ∷ l) more.parts;
      waiting = ap (λ (e : Activation). e ∷ map at_rest more.others) same ∙ ap (λ (l : List Activation). d ∷ l) more.waiting;
      rests = more.rests;
    }

held_there : (n : ℕ) (held : Held) (d i : ℕ) (v : ℤ) → held_below n held d i ≡ Some v → held d i ≡ Some v
held_there n held d i v is = by_test (nat_le n d) is
  where
    by_test : (b : Bool) → (if b then None else held d i) ≡ Some v → held d i ≡ Some v
    by_test true e = absurd (none-some v e)
    by_test false e = e

pub none_here : (n : ℕ) (held : Held) (i : ℕ) (v : ℤ) → held_below n held n i ≡ Some v → ⊥
none_here n held i v is = none-some v (sym (ap (λ b. if b then None else held n i) (le-leb n n (omega arith))) ∙ is)

still_held : (n : ℕ) (held : Held) (d i : ℕ) (v : ℤ) → d < n → held d i ≡ Some v → held_below n held d i ≡ Some v
still_held n held d i v low is = ap (λ b. if b then None else held d i) (lt-leb n d low) ∙ is

module _ {c : CodeLists} {limit : ℕ} {all : List SysReply} where
  pub begins : (f : Fixed) (g : Frame) (parameters : List Parameter) (k : ℕ) (given : List Given) (passed under : List ℤ) (p : ℕ) (now : Situation)
      → IsRoutine c k g parameters
      → Here c limit all f p (on_top passed under) now → slice_get c.instrs p ≡ Some (with_a op.Call k) → Suit parameters given
      → AreWords f.frames (length f.frames) given passed → length f.callers < 63
      → Here c limit all (inner f g (begun_map parameters given).references k p now.line under) (routine_at c k).start []
      (record now { maps = now.maps ++ begun_map parameters given ∷ []; line = 0 })
  unfolding effect
  begins f g parameters k given passed under p now is h found suit are low =
      let r = routine_at c k in
      let operands = on_top passed under in
      let size = r.words - r.params in
      let words = passed ++ replicate size (pos 0) in
      let s = state_at f.routine h.below p now.line h.words operands now.ticks in
      let few : length h.below < 63 = omega (arith, low, number_of h) in
      let over : operands ≡ reverse passed ++ under = top_reversed passed under in
      let count : length passed ≡ g.parameters = omega (arith, parameter_words f.frames (length f.frames) g parameters given passed 0 is.lie suit are) in
      let many : r.params ≡ length (reverse passed) = omega (arith, is.params, count, length-reverse passed) in
      let caller : List ℤ → Activation = λ left. record { routine = f.routine; place = p + 1; line = now.line; words = h.words; operands = left } in
      let t : List ℤ → List ℤ → State = λ left frame. record {
        below = h.below ++ caller left ∷ [];
        current = record { routine = k; place = r.start; line = 0; words = frame; operands = [] };
        ticks =
            now.ticks;
        ended = None;
      } in
      let frame : reverse (take r.params operands) ++ replicate size (pos 0) ≡ words =
      ap (λ (l : List ℤ). reverse l ++ replicate size (pos 0)) (ap (take r.params) over ∙ take_at (reverse passed) under r.params (sym many))
      ∙ ap (λ (l : List ℤ). l ++ replicate size (pos 0)) (reverse-reverse passed) in
      let state : t (drop r.params operands) (reverse (take r.params operands) ++ replicate size (pos 0)) ≡ t under words =
      ap (λ (l : List ℤ). t l (reverse (take r.params operands) ++ replicate size (pos 0)))
      (ap (drop r.params) over ∙ drop_at (reverse passed) under r.params (sym many)) ∙ ap (t under) frame in
      let entered : next c limit s ≡ enter s r k = does h.reached (with_a op.Call k) found
      ∙ ap (λ b. if b then stop s result.StackLimit else enter s r k) (lt-leb 63 (length h.below) few) in
      let number : length f.frames ≡ length h.below + 1 = h.agree.all_open in
      let tied : AreTied (f.frames ++ g ∷ []) (length f.frames) g (begun_map parameters given) words =
      tied_more g (omega arith) (begun_is_tied f.frames (length f.frames) g is.apart is.among parameters given passed size is.lie suit are
      (omega (arith, count, is.params, is.words)) is.low) in
      record {
        below = h.below ++ caller under ∷ [];
        words = words;
        reached = subst (λ (u : State). Reached c limit all u now.made) state
            (goes_if (nat_le r.params (length operands)) (t (drop r.params operands) (reverse (take r.params operands) ++ replicate size (pos 0))) h.reached
            entered);
        waiting = map-append at_rest h.below (caller under ∷ []) ∙ ap (λ (l : List Activation). l ++ caller_at f p now.line under ∷ []) h.waiting;
        agree = agree_more (caller under) h.agree g (begun_map parameters given) words (held_below (length f.frames) f.held) is.apart
            (λ d i v before held. held_there (length f.frames) f.held d i v held)
            (λ i v held. none_here (length f.frames) f.held i v held) tied;
        named = λ d low. by_number d (nat_lt d (length f.frames)) refl low;
        risen = h.risen;
      }
    where
      by_number : (d : ℕ) (b : Bool) → nat_lt d (length f.frames) ≡ b → d < length (f.frames ++ g ∷ [])
          → (map_at (now.maps ++ begun_map parameters given ∷ []) d).references ≡ (if b then f.references d else (begun_map parameters given).references)
      by_number d true e low =
          let before : d < length f.frames = ltb-true d (length f.frames) e in
          ap (λ (m : Map). m.references) (first_map now.maps (begun_map parameters given) d (omega (arith, before, h.agree.as_many))) ∙ h.named d before
      by_number d false e low =
          let after : length f.frames ≤ d = ltb-false d (length f.frames) e in
          let last : d ≡ length now.maps = omega (arith, after, low, h.agree.as_many, length-append f.frames (g ∷ [])) in
          ap (λ (m : Map). m.references) (last_map now.maps (begun_map parameters given) d last)

  -- too many are open
  pub refuses : (f : Fixed) (k p : ℕ) (operands : List ℤ) (now : Situation) → Here c limit all f p operands now → slice_get c.instrs p ≡ Some (with_a op.Call k)
      → 63 ≤ length f.callers → Runs c limit all (Ends result.StackLimit now.line now.ticks now.made)
  unfolding effect
  refuses f k p operands now h found full =
      let s = state_at f.routine h.below p now.line h.words operands now.ticks in
      let many : 63 ≤ length h.below = omega (arith, full, number_of h) in
      stops result.StackLimit now.line now.ticks h.reached
      (does h.reached (with_a op.Call k) found ∙ ap (λ b. if b then stop s result.StackLimit else enter s (routine_at c k) k)
      (le-leb 63 (length h.below) many))

  -- what is left when the current activation has ended
  module _ (f : Fixed) (g : Frame) (references : List ℕ → Place) (k p q line : ℕ) (operands : List ℤ) (now : Situation)
      (h : Here c limit all (inner f g references k p line operands) q [] now) where
    abbrev outer : Latest h.below f.callers (caller_at f p line operands)
    outer = latest h.below f.callers (caller_at f p line operands) h.waiting

    last_is : (outer).last ≡ record (caller_at f p line operands) { words = (outer).last.words }
    last_is = ap (λ (a : Activation). record a { words = (outer).last.words }) (outer).rests

    agree_outside : Agree f.frames f.held (take (length f.frames) now.maps) (outer).others (outer).last.words
    agree_outside =
        let before : Agree (f.frames ++ g ∷ []) (held_below (length f.frames) f.held) now.maps ((outer).others ++ (outer).last ∷ []) h.words =
        subst (λ (b : List Activation). Agree (f.frames ++ g ∷ []) (held_below (length f.frames) f.held) now.maps b h.words) (outer).parts h.agree in
        held_again (agree_less (outer).last g before)
      where
        held_again : {maps : List Map} {below : List Activation} {words : List ℤ} → Agree f.frames (held_below (length f.frames) f.held) maps below words
            → Agree f.frames f.held maps below words
        held_again agree = record {
          as_many = agree.as_many;
          all_open = agree.all_open;
          apart = agree.apart;
          tied = agree.tied;
          holds = λ d i r v at is. agree.holds d i r v at (still_held (length f.frames) f.held d i v (slice_get_within f.frames d r at) is);
        }

    named_outside : (d : ℕ) → d < length f.frames → (map_at (take (length f.frames) now.maps) d).references ≡ f.references d
    named_outside d low =
        ap (λ (m : Map). m.references) (map_below now.maps (length f.frames) d low) ∙ h.named d (omega (arith, low, length-append f.frames (g ∷ [])))
        ∙ ap (λ b. if b then f.references d else references) (lt-ltb d (length f.frames) low)

    pub returns : slice_get c.instrs q ≡ Some (bare op.Return) → (routine_at c k).function ≡ false
        → Here c limit all f (p + 1) operands (record now { maps = take (length f.frames) now.maps; line = line })
    unfolding effect
    returns found procedure =
        let s = state_at k h.below q now.line h.words [] now.ticks in
        let l = outer in
        let left : next c limit s ≡ Goes (record s { below = l.others; current = l.last }) =
        does h.reached (bare op.Return) found ∙ leave_from c s l.others l.last l.parts
        ∙ ap (λ b. if b then give_back c s l.others l.last (slice_get h.words (routine_at c k).params) else Goes
        (record s { below = l.others; current = l.last })) procedure in
        let back : next c limit s ≡ Goes (state_at f.routine l.others (p + 1) line l.last.words operands now.ticks) =
        left ∙ ap (λ (a : Activation). Goes (record s { below = l.others; current = a })) last_is in
        record {
          below = l.others;
          words = l.last.words;
          reached = goes (state_at f.routine l.others (p + 1) line l.last.words operands now.ticks) h.reached back;
          waiting = l.waiting;
          agree = agree_outside;
          named = named_outside;
          risen = h.risen;
        }

    -- a function's result is pushed
    pub returns_value : slice_get c.instrs q ≡ Some (bare op.Return) → (routine_at c k).function ≡ true → (routine_at c k).params ≡ g.parameters → g.result ≡ 1
        → Here c limit all f (p + 1) ((map_at now.maps (length f.frames)).answer ∷ operands)
        (record now { maps = take (length f.frames) now.maps; line = line })
    unfolding effect
    returns_value found procedure params has =
        let s = state_at k h.below q now.line h.words [] now.ticks in
        let l = outer in
        let word = (map_at now.maps (length f.frames)).answer in
        let number : length f.frames ≡ length h.below = omega (arith, h.agree.all_open, length-append f.frames (g ∷ [])) in
        let tied : AreTied (f.frames ++ g ∷ []) (length f.frames) g (map_at now.maps (length f.frames)) h.words =
        subst (λ (w : List ℤ). AreTied (f.frames ++ g ∷ []) (length f.frames) g (map_at now.maps (length f.frames)) w)
        (last_frame h.below h.words (length f.frames) number)
        (h.agree.tied (length f.frames) g (last_of_more f.frames g (length f.frames) refl)) in
        let found_word : slice_get h.words (routine_at c k).params ≡ Some word = ap (slice_get h.words) params ∙ tied.answer has in
        let room = has_room c l.last in
        let t : Activation → State = λ a. record s { below = l.others; current = record a { operands = word ∷ a.operands } } in
        let left : next c limit s ≡ (if room then Goes (t l.last) else Lacks) =
        does h.reached (bare op.Return) found ∙ leave_from c s l.others l.last l.parts
        ∙ ap (λ b. if b then give_back c s l.others l.last (slice_get h.words (routine_at c k).params) else Goes
        (record s { below = l.others; current = l.last })) procedure
        ∙ ap (give_back c s l.others l.last) found_word in
        let back : next c limit s ≡ (if room then Goes (t (record (caller_at f p line operands) { words = l.last.words })) else Lacks) =
        left ∙ ap (λ (a : Activation). if room then Goes (t a) else Lacks) last_is in
        record {
          below = l.others;
          words = l.last.words;
          reached = goes_if room (state_at f.routine l.others (p + 1) line l.last.words (word ∷ operands) now.ticks) h.reached back;
          waiting = l.waiting;
          agree = agree_outside;
          named = named_outside;
          risen = h.risen;
        }
