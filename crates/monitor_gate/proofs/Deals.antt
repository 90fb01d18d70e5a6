-- A gate is opened, its passes are dealt and joined, and it is closed.
use Rattle.std.proofs.Common.{◌≡◌, ℕ, zero, suc, ◌≢◌, ◌+◌, ◌<◌, ◌≤◌, Bool, true, false, true≢false, List, [], ◌∷◌, ◌++◌, length, set, Option, Some, None, refl, sym, ap, ◌∙◌, subst, ⊎_elim, arith}
use mathlib.Core.Option.{some, some-injective, some-ne-none}
use lib.ListN.{get_elem?}
use Rattle.atomic_table.specs.Table.{State, Splits, Joins, opening}
use Rattle.atomic_table.proofs.Lists.{at_set, set_else, at_longer}
use Rattle.monitor_gate.specs.declared.view.Line.{Line}
use Rattle.monitor_gate.specs.declared.view.Stage.{Stage}
use Rattle.monitor_gate.specs.declared.view.Stage.TheVariants.{Spent, Making, Outside, Inside, Delayed}
use Rattle.monitor_gate.specs.declared.view.View.{View}
use Rattle.monitor_gate.specs.Views.{Each, AreApart, lines, own_line, at_stage, maker, fresh, spent, made_of, one_more, dealing, dealt, both}
use Rattle.monitor_gate.specs.Rule.{IsWithin, Agrees, Stands, IsLineOf, Fits, IsKept}
use Rattle.monitor_gate.proofs.Lists.{each_map, each_append, apart_append, at_end, with_owner, with_owner_same, with_owner_other, handed_over, handed_over_same, handed_over_other}
use Rattle.monitor_gate.proofs.Stays.{IsActive, within_active, active_lines, active_listed, active_own, active_apart}

module _ {S E : Type 0} (handed : S → Option ℕ) (ties : S → S → (ℕ → List E) → Type 0) (waits : ℕ → S → Bool) (wakes : ℕ → S → Type 0) (start : S) (passes : ℕ) where
  abbrev Table : Type 0
  Table = State (Option S) (View S E)

  abbrev Rule : Table → Type 0
  Rule = IsKept handed ties waits wakes start passes

  pub opens : ties start start (λ _. []) → ((p : ℕ) → waits p start ≡ false) → handed start ≡ None → Rule (opening (0 ∷ []) (Some start ∷ []) (maker start 0))
  opens tied quiet free = record {
    now = start;
    lists = λ _. [];
    owner = λ _. 0;
    made = 0;
    turn = 0;
    marks = 0;
    inside = 0;
    one_word = refl;
    word_is = omega arith;
    word_low = omega arith;
    few = omega arith;
    tied = tied;
    unmade = λ p not. refl;
    home = λ _. refl;
    out = λ e. absurd (omega arith);
    free = λ _. free;
    handed_on = λ p e. absurd (omega arith);
    entered = λ e. absurd (omega arith);
    waiting = λ p is. absurd (true≢false (sym is ∙ quiet p));
    each = first;
  }
    where
      first : (seat : ℕ) (v : View S E) → get_elem? (maker start 0 ∷ []) seat ≡ some v → Fits waits start start (λ _. []) (λ _. 0) 0 0 0 seat v
      first zero v e = subst (Fits waits start start (λ _. []) (λ _. 0) 0 0 0 0) (some-injective _ _ e) record { agrees = refl; stands = (refl, refl); listed = tt; apart = tt }
      first (suc seat) v e = absurd (some-ne-none v (sym e))

  pub opens_with : (state : S) (slots : List (Option S)) → start ≡ state → slots ≡ Some state ∷ [] → ties state state (λ _. []) → ((p : ℕ) → waits p state ≡ false) → handed state ≡ None
      → Rule (opening (0 ∷ []) slots (maker start 0))
  opens_with state slots is has tied quiet free = subst (λ (xs : List (Option S)). Rule (opening (0 ∷ []) xs (maker start 0))) (ap (λ (x : S). Some x ∷ []) is ∙ sym has)
      (opens (subst (λ (x : S). ties x x (λ _. [])) (sym is) tied) (subst (λ (x : S). (p : ℕ) → waits p x ≡ false) (sym is) quiet) (subst (λ (x : S). handed x ≡ None) (sym is) free))

  module _ (s : Table) (r : Rule s) (id : ℕ) (v : View S E) (at : get_elem? s.views id ≡ some v) where
    -- the seat of a process that is in an entry is another one
    apart : (seat : ℕ) (u : View S E) → get_elem? s.views seat ≡ some u → IsWithin u.stage → (IsWithin v.stage → ⊥) → seat ≢ id
    apart seat u e w not is = let same : u ≡ v = some-injective u v (sym e ∙ (ap (get_elem? s.views) is ∙ at)) in not (subst (λ (x : View S E). IsWithin x.stage) same w)

    -- no process with a number that wasn't made waits
    pub unmade_quiet : (p : ℕ) → r.made < p → waits p r.now ≡ false
    unmade_quiet p more = elim (waits p r.now) as (λ b. waits p r.now ≡ b → waits p r.now ≡ false) [ true ↦ λ is. absurd (late is) | false ↦ λ is. is ] refl
      where
        late : waits p r.now ≡ true → ⊥
        late is =
            let h = r.waiting p is in
            let own = active_own waits start r.now r.lists r.owner r.made r.turn r.inside h.seat h.view (r.each h.seat h.view h.there) (within_active h.view.stage h.within) in
            let high = own.high in
            let same = h.is in
            omega arith

    -- where the seat `id` is the maker's: what the rule says of another seat stays so, when one more pass was made
    module _ (made_is : v.stage ≡ Making r.made) (first : id ≡ 0) (newest : ℕ) where
      owners : ℕ → ℕ
      owners = with_owner r.owner (r.made + 1) newest

      lines_stay : (seat : ℕ) (ls : List (Line E)) → Each (IsLineOf r.lists r.owner r.made seat) ls → Each (IsLineOf r.lists owners (r.made + 1) seat) ls
      unfolding owners
      lines_stay seat = each_map (IsLineOf r.lists r.owner r.made seat) (IsLineOf r.lists owners (r.made + 1) seat) (λ l k. let high = k.high in record {
        has = k.has;
        owned = with_owner_other r.owner (r.made + 1) newest l.number (λ e. omega arith) ∙ k.owned;
        low = k.low;
        high = omega arith;
      })

      stands_stay : (seat number : ℕ) → seat ≢ id → (st : Stage S) → Stands waits r.now r.made r.turn r.inside seat number st → Stands waits r.now (r.made + 1) r.turn r.inside seat number st
      stands_stay seat number other Spent k = tt
      stands_stay seat number other (Making count) k = absurd (other (k.1 ∙ sym first))
      stands_stay seat number other Outside k = k
      stands_stay seat number other (Inside x) k = k
      stands_stay seat number other Delayed k = k

      other_fits : (seat : ℕ) (u : View S E) → seat ≢ id → Fits waits start r.now r.lists r.owner r.made r.turn r.inside seat u → Fits waits start r.now r.lists owners (r.made + 1) r.turn r.inside seat u
      other_fits seat u other f = record { agrees = f.agrees; stands = stands_stay seat u.number other u.stage f.stands; listed = lines_stay seat (lines u) f.listed; apart = f.apart }

      maker_fits : Fits waits start r.now r.lists owners (r.made + 1) r.turn r.inside id (at_stage (Making (r.made + 1)) v)
      maker_fits = let f = r.each id v at in record {
        agrees = subst (λ (st : Stage S). Agrees start st v.opening) made_is f.agrees;
        stands = (refl, first);
        listed = tt;
        apart = tt;
      }

      newest_fits : Fits waits start r.now r.lists owners (r.made + 1) r.turn r.inside newest (fresh v.opening (r.made + 1))
      unfolding owners
      newest_fits = let f = r.each id v at in record {
        agrees = subst (λ (st : Stage S). Agrees start st v.opening) made_is f.agrees;
        stands = unmade_quiet (r.made + 1) (omega arith);
        listed = (record { has = r.unmade (r.made + 1) (λ _. omega arith); owned = with_owner_same r.owner (r.made + 1) newest; low = omega arith; high = omega arith }, tt);
        apart = (tt, tt);
      }

      splits_at : newest ≡ length (set s.views id (at_stage (Making (r.made + 1)) v)) → r.made + 1 ≤ passes
          → Rule record { words = s.words; homes = s.homes; views = set s.views id (at_stage (Making (r.made + 1)) v) ++ fresh v.opening (r.made + 1) ∷ [] }
      splits_at is few =
          let w : View S E = at_stage (Making (r.made + 1)) v in let n : View S E = fresh v.opening (r.made + 1) in
          let stays : (seat : ℕ) (u : View S E) → get_elem? s.views seat ≡ some u → IsWithin u.stage → get_elem? (set s.views id w ++ n ∷ []) seat ≡ some u =
          λ seat u e h. at_longer (set s.views id w) (n ∷ []) seat u (set_else s.views id seat w (apart seat u e h (subst (λ (st : Stage S). IsWithin st → ⊥) (sym made_is) (λ z. z))) ∙ e) in record {
            now = r.now;
            lists = r.lists;
            owner = owners;
            made = r.made + 1;
            turn = r.turn;
            marks = r.marks;
            inside = r.inside;
            one_word = r.one_word;
            word_is = r.word_is;
            word_low = r.word_low;
            few = few;
            tied = r.tied;
            unmade = λ p not. r.unmade p (λ low. let more = not low in omega arith);
            home = r.home;
            out = r.out;
            free = r.free;
            handed_on = r.handed_on;
            entered = λ one. let i = r.entered one in record { view = i.view; there = stays r.inside i.view i.there (subst IsWithin (sym i.within) tt); within = i.within };
            waiting = λ p wait. let h = r.waiting p wait in record { seat = h.seat; view = h.view; there = stays h.seat h.view h.there h.within; is = h.is; within = h.within };
            each = λ j u e. ⊎_elim
                (λ (old : get_elem? (set s.views id w) j ≡ some u). ⊎_elim
                (λ (x : (j ≡ id) × (w ≡ u)). subst (λ (y : ℕ × View S E). Fits waits start r.now r.lists owners (r.made + 1) r.turn r.inside y.0 y.1) (λ i. (sym x.0 i, x.1 i)) maker_fits)
                (λ (x : (j ≢ id) × (get_elem? s.views j ≡ some u)). other_fits j u x.0 (r.each j u x.1)) (at_set s.views id j w u old))
                (λ (new : (j ≡ length (set s.views id w)) × (n ≡ u)). subst (λ (y : ℕ × View S E). Fits waits start r.now r.lists owners (r.made + 1) r.turn r.inside y.0 y.1) (λ i. ((is ∙ sym new.0) i, new.1 i)) newest_fits)
                (at_end (set s.views id w) n u j e);
          }

  -- The maker, which has made so many passes, makes one more.
  pub splits : (id : ℕ) (v : View S E) (made : ℕ) → v.stage ≡ Making made → made + 1 ≤ passes → Splits Rule id v (dealing v) (dealt v)
  splits id v made is few s r at =
      let k = subst (λ (st : Stage S). Stands waits r.now r.made r.turn r.inside id v.number st) is (r.each id v at).stands in
      let same : made ≡ r.made = k.0 in
      let is_now : v.stage ≡ Making r.made = is ∙ ap Making same in
      let w_is : at_stage (Making (r.made + 1)) v ≡ dealing v = ap (λ (st : Stage S). at_stage (one_more st) v) (sym is_now) in
      let n_is : fresh v.opening (r.made + 1) ≡ dealt v = ap (λ (st : Stage S). fresh v.opening (made_of st + 1)) (sym is_now) in
      subst (λ (y : View S E × View S E). Rule record { words = s.words; homes = s.homes; views = set s.views id y.0 ++ y.1 ∷ [] }) (λ i. (w_is i, n_is i))
      (splits_at s r id v at is_now k.1 _ refl (omega arith))

  module _ (s : Table) (r : Rule s) (id : ℕ) (v : View S E) (at : get_elem? s.views id ≡ some v) (other : ℕ) (w : View S E) (away : other ≢ id) (there_w : get_elem? s.views other ≡ some w) (v_out : v.stage ≡ Outside) (w_out : w.stage ≡ Outside) where
    merged : ℕ → ℕ
    merged = handed_over r.owner other id

    kept_lines : (seat : ℕ) (ls : List (Line E)) → seat ≢ other → Each (IsLineOf r.lists r.owner r.made seat) ls → Each (IsLineOf r.lists merged r.made seat) ls
    unfolding merged
    kept_lines seat ls ne = each_map (IsLineOf r.lists r.owner r.made seat) (IsLineOf r.lists merged r.made seat)
        (λ l k. record { has = k.has; owned = handed_over_other r.owner other id l.number (λ e. ne (sym k.owned ∙ e)) ∙ k.owned; low = k.low; high = k.high }) ls

    moved_lines : (ls : List (Line E)) → Each (IsLineOf r.lists r.owner r.made other) ls → Each (IsLineOf r.lists merged r.made id) ls
    unfolding merged
    moved_lines = each_map (IsLineOf r.lists r.owner r.made other) (IsLineOf r.lists merged r.made id)
        (λ l k. record { has = k.has; owned = handed_over_same r.owner other id l.number k.owned; low = k.low; high = k.high })

    f : Fits waits start r.now r.lists r.owner r.made r.turn r.inside id v
    f = r.each id v at

    g : Fits waits start r.now r.lists r.owner r.made r.turn r.inside other w
    g = r.each other w there_w

    act_v : IsActive v.stage
    act_v = subst IsActive (sym v_out) tt

    act_w : IsActive w.stage
    act_w = subst IsActive (sym w_out) tt

    joint : View S E
    joint = both v w

    mine : Each (IsLineOf r.lists r.owner r.made id) (own_line v ∷ v.joined)
    mine = active_listed waits start r.now r.lists r.owner r.made r.turn r.inside id v f act_v

    theirs : Each (IsLineOf r.lists r.owner r.made other) (own_line w ∷ w.joined)
    theirs = active_listed waits start r.now r.lists r.owner r.made r.turn r.inside other w g act_w

    joint_fits : Fits waits start r.now r.lists merged r.made r.turn r.inside id joint
    unfolding joint
    joint_fits = let lines_are : own_line v ∷ (v.joined ++ own_line w ∷ w.joined) ≡ lines joint = sym (active_lines v.stage (own_line v ∷ (v.joined ++ own_line w ∷ w.joined)) act_v) in record {
      agrees = f.agrees;
      stands = subst (λ (st : Stage S). Stands waits r.now r.made r.turn r.inside id v.number st) (sym v_out) (subst (λ (st : Stage S). Stands waits r.now r.made r.turn r.inside id v.number st) v_out f.stands);
      listed = subst (λ (ls : List (Line E)). Each (IsLineOf r.lists merged r.made id) ls) lines_are
          (each_append (IsLineOf r.lists merged r.made id) (own_line v ∷ v.joined) (own_line w ∷ w.joined) (kept_lines id (own_line v ∷ v.joined) (λ e. away (sym e)) mine) (moved_lines (own_line w ∷ w.joined) theirs));
      apart = subst (λ (ls : List (Line E)). AreApart ls) lines_are
          (apart_append r.lists r.owner r.made id other (λ e. away (sym e)) (own_line v ∷ v.joined) (own_line w ∷ w.joined) mine theirs
          (active_apart waits start r.now r.lists r.owner r.made r.turn r.inside id v f act_v) (active_apart waits start r.now r.lists r.owner r.made r.turn r.inside other w g act_w));
    }

    stands_same : (seat number : ℕ) (st : Stage S) → Stands waits r.now r.made r.turn r.inside seat number st → Stands waits r.now r.made r.turn r.inside seat number st
    stands_same seat number st k = k

    still : (seat : ℕ) (u : View S E) → get_elem? s.views seat ≡ some u → IsWithin u.stage → get_elem? (set (set s.views id joint) other spent) seat ≡ some u
    still seat u e h =
        set_else (set s.views id joint) other seat spent (apart s r other w there_w seat u e h (subst (λ (st : Stage S). IsWithin st → ⊥) (sym w_out) (λ z. z)))
        ∙ (set_else s.views id seat joint (apart s r id v at seat u e h (subst (λ (st : Stage S). IsWithin st → ⊥) (sym v_out) (λ z. z))) ∙ e)

    joins_at : Rule record { words = s.words; homes = s.homes; views = set (set s.views id joint) other spent }
    joins_at = record {
      now = r.now;
      lists = r.lists;
      owner = merged;
      made = r.made;
      turn = r.turn;
      marks = r.marks;
      inside = r.inside;
      one_word = r.one_word;
      word_is = r.word_is;
      word_low = r.word_low;
      few = r.few;
      tied = r.tied;
      unmade = r.unmade;
      home = r.home;
      out = r.out;
      free = r.free;
      handed_on = r.handed_on;
      entered = λ one. let i = r.entered one in record { view = i.view; there = still r.inside i.view i.there (subst IsWithin (sym i.within) tt); within = i.within };
      waiting = λ p wait. let h = r.waiting p wait in record { seat = h.seat; view = h.view; there = still h.seat h.view h.there h.within; is = h.is; within = h.within };
      each = λ j u e. ⊎_elim
          (λ (x : (j ≡ other) × (spent ≡ u)). subst (λ (y : View S E). Fits waits start r.now r.lists merged r.made r.turn r.inside j y) x.1 record { agrees = tt; stands = tt; listed = tt; apart = tt })
          (λ (x : (j ≢ other) × (get_elem? (set s.views id joint) j ≡ some u)). ⊎_elim
          (λ (y : (j ≡ id) × (joint ≡ u)). subst (λ (z : ℕ × View S E). Fits waits start r.now r.lists merged r.made r.turn r.inside z.0 z.1) (λ i. (sym y.0 i, y.1 i)) joint_fits)
          (λ (y : (j ≢ id) × (get_elem? s.views j ≡ some u)). let h = r.each j u y.1 in record { agrees = h.agrees; stands = h.stands; listed = kept_lines j (lines u) x.0 h.listed; apart = h.apart })
          (at_set s.views id j joint u x.1))
          (at_set (set s.views id joint) other j spent u e);
    }

  -- One pass that is outside joins another.
  pub joins : (id : ℕ) (v : View S E) (other : ℕ) (w : View S E) → v.stage ≡ Outside → w.stage ≡ Outside → Joins Rule id v other w (both v w) spent
  unfolding joint
  joins id v other w v_out w_out s r at away there_w = joins_at s r id v at other w away (sym (set_else s.views id other (both v w) away) ∙ there_w) v_out w_out
