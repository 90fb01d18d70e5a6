-- Stores into variables, into elements, through references, and of words that are held.
use Rattle.std.proofs.Common.{◌≡◌, ℕ, zero, suc, ◌+◌, ◌<◌, ◌≤◌, true, false, Option, Some, None, List, [], ◌∷◌, length, map, ℤ, pos, ◌+ℤ◌, refl, sym, ◌∙◌, ap, subst, arith}
use Rattle.std.proofs.lemmas.Bool.{lt-ltb, ltb-true}
use Rattle.std.proofs.lemmas.Option.{slice_get_within}
use Rattle.std.specs.Prelude.{slice_get, slice_set, if◌then◌else◌, nat_lt}
use Rattle.solo_base.specs.declared.outcome.ProgResult.TheVariants as result
use Rattle.solo_base.specs.declared.system_call.SysReply.{SysReply}
use Rattle.solo_base.specs.declared.system_call.SysCall.{SysCall}
use Rattle.stack_code.specs.declared.table.Op.TheVariants as op
use Rattle.stack_code.specs.CodeLists.{CodeLists}
use Rattle.stack_machine.specs.States.{Activation}
use Rattle.stack_machine.specs.Activations.{words_from, waiting_with, own_with}
use Rattle.stack_machine.specs.State.{Goes, Stops}
use Rattle.stack_machine.specs.Effects.{store_element, store_named}
use Rattle.stack_machine.specs.Machine.{effect}
use Rattle.stack_machine.proofs.Frames.{waiting_stay, own_written}
use Rattle.pascal_mean.specs.Means.{Owner, OfProgram, OfRoutine, Bounds}
use Rattle.pascal_mean.specs.Situation.{Situation, Place, Map}
use Rattle.pascal_mean.specs.Variables.{map_at, set_map, owner_number, put_value, put_element, put_answer, stored, size_of}
use Rattle.pascal_code.specs.Frames.{Frame, declared_words}
use Rattle.pascal_code.specs.Senses.{Variable, Array, sense_in}
use Rattle.pascal_code.specs.Instructions.{with_a, with_both, store_word}
use Rattle.pascal_code.specs.Instructions as code
use Rattle.code_law.specs.Regions.{region_found}
use Rattle.code_law.specs.Ties.{IsReferred, AreTied, Agree}
use Rattle.code_law.proofs.Words.{other_word}
use Rattle.code_law.proofs.Lists.{references_kept}
use Rattle.code_law.proofs.Tied.{tied_value, tied_element, tied_answer}
use Rattle.code_law.proofs.Agreeing.{agree_on, agree_hold, hold}
use Rattle.code_law.proofs.Reached.{Reached, does, goes, goes_if, is_there}
use Rattle.code_law.proofs.Here.{Fixed, own_number, at_rest, state_at, Here, number_of}
use Rattle.code_law.proofs.Loads.{own_words, named_word}

rest_of_waiting : (below : List Activation) (d : ℕ) (words : List ℤ) → map at_rest (waiting_with below d words) ≡ map at_rest below
rest_of_waiting [] d words = refl
rest_of_waiting (a ∷ above) zero words = refl
rest_of_waiting (a ∷ above) (suc d) words = ap (λ (b : List Activation). at_rest a ∷ b) (rest_of_waiting above d words)

module _ {c : CodeLists} {limit : ℕ} {all : List SysReply} {f : Fixed} where
  -- ---- A word of the activation with a number is written
  module _ {p : ℕ} {operands : List ℤ} {now : Situation} (h : Here c limit all f p operands now) (d : ℕ) (g : Frame) (is : slice_get f.frames d ≡ Some g) where
    abbrev words_there : List ℤ
    words_there = words_from h.below h.words d

    -- its words are others, behind so many ticks and calls
    pub rewritten_at : (ticks : ℕ) (calls : List SysCall) → now.ticks ≤ ticks → (change : Map → Map) → ((m : Map) → (change m).references ≡ m.references)
        → (ws : List ℤ) (q : ℕ) (rest : List ℤ)
        → ((b : ℕ) → declared_words g ≤ b → slice_get ws b ≡ slice_get words_there b) → AreTied f.frames d g (change (map_at now.maps d)) ws
        → Reached c limit all (state_at f.routine (waiting_with h.below d ws) q now.line (own_with h.below h.words d ws) rest ticks) calls
        → Here c limit all f q rest (set_map d change (record now { ticks = ticks; made = calls }))
    rewritten_at ticks calls later change keeps ws q rest behind tied reached = record {
      below = waiting_with h.below d ws;
      words = own_with h.below h.words d ws;
      reached = reached;
      waiting = rest_of_waiting h.below d ws ∙ h.waiting;
      agree = agree_on h.agree d g is change ws f.held (λ e i u apart held. held)
          (λ i u held. behind (declared_words g + i) (omega arith) ∙ h.agree.holds d i g u is held) tied;
      named = λ e low. references_kept now.maps d change keeps e ∙ h.named e low;
      risen = omega (arith, h.risen, later);
    }

    -- one of its words is another
    pub written : (change : Map → Map) → ((m : Map) → (change m).references ≡ m.references) → (a : ℕ) (v : ℤ) (q : ℕ) (rest : List ℤ) → a < declared_words g
        → AreTied f.frames d g (change (map_at now.maps d)) (slice_set words_there a v)
        → (let ws = slice_set words_there a v in Reached c limit all
        (state_at f.routine (waiting_with h.below d ws) q now.line (own_with h.below h.words d ws) rest now.ticks) now.made)
        → Here c limit all f q rest (set_map d change now)
    written change keeps a v q rest low tied reached =
        rewritten_at now.ticks now.made (omega arith) change keeps (slice_set words_there a v) q rest
        (λ b far. other_word words_there a b v (λ same. omega (arith, same, low, far))) tied reached

    -- the same in the state of a store into the own words
    pub own_reached : (ticks : ℕ) (calls : List SysCall) (new : List ℤ) (q : ℕ) (rest : List ℤ) → d ≡ own_number f
        → Reached c limit all (state_at f.routine h.below q now.line new rest ticks) calls
        → Reached c limit all (state_at f.routine (waiting_with h.below d new) q now.line (own_with h.below h.words d new) rest ticks) calls
    own_reached ticks calls new q rest own reached =
        let last : d ≡ length h.below = own ∙ number_of h in
        subst (λ (b : List Activation). Reached c limit all (state_at f.routine b q now.line (own_with h.below h.words d new) rest ticks) calls)
        (sym (waiting_stay h.below d new (omega (arith, last))))
        (subst (λ (w : List ℤ). Reached c limit all (state_at f.routine h.below q now.line w rest ticks) calls)
        (sym (own_written h.below h.words d new last)) reached)

    -- what is stored in a place of these words
    abbrev pub StoredAt : ℕ → ℤ → ℕ → List ℤ → Type 0
    StoredAt a v q rest = let ws = slice_set words_there a v in Reached c limit all
        (state_at f.routine (waiting_with h.below d ws) q now.line (own_with h.below h.words d ws) rest now.ticks) now.made

    pub value_written : (x : List ℕ) (o : Owner) (a : ℕ) (v : ℤ) (q : ℕ) (rest : List ℤ) → sense_in g x ≡ Some (Variable o a) → StoredAt a v q rest
        → Here c limit all f q rest (set_map d (put_value x v) now)
    value_written x o a v q rest at reached =
        let apart = h.agree.apart d g is in
        written (put_value x v) (λ m. refl) a v q rest (omega (arith, apart.inside x (record { first = a; count = 1 }) (ap region_found at)))
        (tied_value apart (h.agree.tied d g is) x o a v at) reached

    pub element_written : (x : List ℕ) (o : Owner) (a : ℕ) (bounds : Bounds) (k : ℕ) (v : ℤ) (q : ℕ) (rest : List ℤ) → sense_in g x ≡ Some (Array o a bounds)
        → k < size_of bounds → StoredAt (a + k) v q rest
        → Here c limit all f q rest (set_map d (put_element x (bounds.low +ℤ pos k) v) now)
    element_written x o a bounds k v q rest at low reached =
        let apart = h.agree.apart d g is in
        written (put_element x (bounds.low +ℤ pos k) v) (λ m. refl) (a + k) v q rest
        (omega (arith, low, apart.inside x (record { first = a; count = size_of bounds }) (ap region_found at)))
        (tied_element apart (h.agree.tied d g is) x o a bounds k v at low) reached

    pub answer_written : (v : ℤ) (q : ℕ) (rest : List ℤ) → g.result ≡ 1 → g.parameters + g.result ≤ declared_words g → StoredAt g.parameters v q rest
        → Here c limit all f q rest (set_map d (put_answer v) now)
    answer_written v q rest has low reached =
        written (put_answer v) (λ m. refl) g.parameters v q rest (omega (arith, has, low))
        (tied_answer (h.agree.apart d g is) (h.agree.tied d g is) v has) reached

  -- ---- Stores
  -- into a word of the program's frame or of the own one, which is there
  word_stored : (owner : Owner) (p : ℕ) (v : ℤ) (rest : List ℤ) (now : Situation) (a : ℕ) (h : Here c limit all f p (v ∷ rest) now) (g : Frame)
      (is : slice_get f.frames (owner_number owner (own_number f)) ≡ Some g)
      → slice_get c.instrs p ≡ Some (store_word owner a) → StoredAt h (owner_number owner (own_number f)) g is a v (p + 1) rest
  unfolding effect
  word_stored OfProgram p v rest now a h g is found =
      let ws = slice_set (words_from h.below h.words 0) a v in
      goes_if (nat_lt a (length (words_from h.below h.words 0)))
      (state_at f.routine (waiting_with h.below 0 ws) (p + 1) now.line (own_with h.below h.words 0 ws) rest now.ticks) h.reached
      (does h.reached (with_a op.StoreG a) found)
  word_stored OfRoutine p v rest now a h g is found =
      let d = own_number f in
      own_reached h d g is now.ticks now.made (slice_set (words_from h.below h.words d) a v) (p + 1) rest refl
      (subst (λ (w : List ℤ). Reached c limit all (state_at f.routine h.below (p + 1) now.line (slice_set w a v) rest now.ticks) now.made) (sym (own_words h))
      (goes_if (nat_lt a (length h.words)) (state_at f.routine h.below (p + 1) now.line (slice_set h.words a v) rest now.ticks) h.reached
      (does h.reached (with_a op.StoreL a) found)))

  pub variable_stored : (owner : Owner) (p : ℕ) (v : ℤ) (rest : List ℤ) (now : Situation) (a : ℕ) (x : List ℕ) (o : Owner) (g : Frame)
      → Here c limit all f p (v ∷ rest) now
      → slice_get f.frames (owner_number owner (own_number f)) ≡ Some g → sense_in g x ≡ Some (Variable o a) → slice_get c.instrs p ≡ Some (store_word owner a)
      → Here c limit all f (p + 1) rest (set_map (owner_number owner (own_number f)) (put_value x v) now)
  variable_stored owner p v rest now a x o g h is at found =
      value_written h (owner_number owner (own_number f)) g is x o a v (p + 1) rest at (word_stored owner p v rest now a h g is found)

  pub answer_stored : (p : ℕ) (v : ℤ) (rest : List ℤ) (now : Situation) (g : Frame) → Here c limit all f p (v ∷ rest) now
      → slice_get f.frames (own_number f) ≡ Some g → g.result ≡ 1 → g.parameters + g.result ≤ declared_words g
      → slice_get c.instrs p ≡ Some (store_word OfRoutine g.parameters) → Here c limit all f (p + 1) rest (set_map (own_number f) (put_answer v) now)
  answer_stored p v rest now g h is has low found = answer_written h (own_number f) g is v (p + 1) rest has low
      (word_stored OfRoutine p v rest now g.parameters h g is found)

  -- into an element
  element_reached : (owner : Owner) (p : ℕ) (v : ℤ) (k : ℕ) (rest : List ℤ) (now : Situation) (a count : ℕ) (h : Here c limit all f p (v ∷ pos k ∷ rest) now)
      (g : Frame) (is : slice_get f.frames (owner_number owner (own_number f)) ≡ Some g)
      → k < count → slice_get c.instrs p ≡ Some (code.store_element owner a count) → StoredAt h (owner_number owner (own_number f)) g is (a + k) v (p + 1) rest
  unfolding effect
  element_reached OfProgram p v k rest now a count h g is low found =
      let s = state_at f.routine h.below p now.line h.words (v ∷ pos k ∷ rest) now.ticks in
      let ws = slice_set (words_from h.below h.words 0) (a + k) v in
      goes_if (nat_lt (a + k) (length (words_from h.below h.words 0)))
      (state_at f.routine (waiting_with h.below 0 ws) (p + 1) now.line (own_with h.below h.words 0 ws) rest now.ticks) h.reached
      (does h.reached (with_both op.StoreGX a count) found ∙ ap (λ b. store_element true s a v rest (if b then Some k else None)) (lt-ltb k count low))
  element_reached OfRoutine p v k rest now a count h g is low found =
      let s = state_at f.routine h.below p now.line h.words (v ∷ pos k ∷ rest) now.ticks in
      let d = own_number f in
      own_reached h d g is now.ticks now.made (slice_set (words_from h.below h.words d) (a + k) v) (p + 1) rest refl
      (subst (λ (w : List ℤ). Reached c limit all (state_at f.routine h.below (p + 1) now.line (slice_set w (a + k) v) rest now.ticks) now.made)
      (sym (own_words h))
      (goes_if (nat_lt (a + k) (length h.words)) (state_at f.routine h.below (p + 1) now.line (slice_set h.words (a + k) v) rest now.ticks) h.reached
      (does h.reached (with_both op.StoreLX a count) found ∙ ap (λ b. store_element false s a v rest (if b then Some k else None)) (lt-ltb k count low))))

  pub element_stored : (owner : Owner) (p : ℕ) (v : ℤ) (k : ℕ) (rest : List ℤ) (now : Situation) (a : ℕ) (bounds : Bounds) (x : List ℕ) (o : Owner) (g : Frame)
      → Here c limit all f p (v ∷ pos k ∷ rest) now
      → slice_get f.frames (owner_number owner (own_number f)) ≡ Some g → sense_in g x ≡ Some (Array o a bounds) → k < size_of bounds
      → slice_get c.instrs p ≡ Some (code.store_element owner a (size_of bounds))
      → Here c limit all f (p + 1) rest (set_map (owner_number owner (own_number f)) (put_element x (bounds.low +ℤ pos k) v) now)
  element_stored owner p v k rest now a bounds x o g h is at low found =
      element_written h (owner_number owner (own_number f)) g is x o a bounds k v (p + 1) rest at low
      (element_reached owner p v k rest now a (size_of bounds) h g is low found)

  -- through a reference
  pub reference_stored : (p : ℕ) (v : ℤ) (rest : List ℤ) (now : Situation) (a : ℕ) (at : Place) (h : Here c limit all f p (v ∷ rest) now)
      → IsReferred f.frames (own_number f) h.words a at → slice_get c.instrs p ≡ Some (with_a op.StoreR a)
      → Here c limit all f (p + 1) rest (stored at v now)
  unfolding effect
  reference_stored p v rest now a at h r found =
      let s = state_at f.routine h.below p now.line h.words (v ∷ rest) now.ticks in
      let d = at.activation in
      let ws = slice_set (words_from h.below h.words d) r.word v in
      let there : r.word < length (words_from h.below h.words d) = slice_get_within (words_from h.below h.words d) r.word _ (named_word h a at r) in
      let t = state_at f.routine (waiting_with h.below d ws) (p + 1) now.line (own_with h.below h.words d ws) rest now.ticks in
      value_written h d r.frame r.frame_is at.letters r.owner r.word v (p + 1) rest r.is
      (goes t h.reached
      (does h.reached (with_a op.StoreR a) found
      ∙ ap (λ (n : Option ℤ). store_named s n (slice_get h.words (a + 1)) v rest) r.numbered
      ∙ ap (λ (n : Option ℤ). store_named s (Some (pos d)) n v rest) r.placed
      ∙ ap (λ b. if b then Goes t else Stops result.RangeError now.line now.ticks) (lt-ltb r.word (length (words_from h.below h.words d)) there)))

  -- ---- The words that are held
  pub held_loaded_word : {p : ℕ} {operands : List ℤ} {now : Situation} (h : Here c limit all f p operands now) (g : Frame) (i : ℕ) (v : ℤ)
      → slice_get f.frames (own_number f) ≡ Some g → f.held (own_number f) i ≡ Some v
      → slice_get (words_from h.below h.words (own_number f)) (declared_words g + i) ≡ Some v
  held_loaded_word h g i v is at = h.agree.holds (own_number f) i g v is at

  -- into a word of the own frame that FOR or CASE holds
  pub held_stored : (p : ℕ) (v : ℤ) (rest : List ℤ) (now : Situation) (g : Frame) (i : ℕ) (owner : Owner) → owner_number owner (own_number f) ≡ own_number f
      → g.parameters + g.result ≤ declared_words g → Here c limit all f p (v ∷ rest) now
      → slice_get f.frames (own_number f) ≡ Some g → slice_get c.instrs p ≡ Some (store_word owner (declared_words g + i))
      → Here c limit all (record f { held = hold (own_number f) i v f.held }) (p + 1) rest now
  unfolding effect
  held_stored p v rest now g i OfRoutine own low h is found =
      let a = declared_words g + i in
      let t = state_at f.routine h.below (p + 1) now.line (slice_set h.words a v) rest now.ticks in
      let step = does h.reached (with_a op.StoreL a) found in
      let wide : a < length h.words = ltb-true a (length h.words) (is_there (nat_lt a (length h.words)) t h.reached step) in
      record {
        below = h.below;
        words = slice_set h.words a v;
        reached = goes_if (nat_lt a (length h.words)) t h.reached step;
        waiting = h.waiting;
        agree = subst (λ n. Agree f.frames (hold n i v f.held) now.maps h.below (slice_set h.words a v)) (sym (number_of h))
            (agree_hold h.agree g i v (ap (slice_get f.frames) (sym (number_of h)) ∙ is) wide low);
        named = h.named;
        risen = h.risen;
      }
  held_stored p v rest now g i OfProgram own low h is found = alone h.below h.words h.reached h.waiting h.agree
    where
      nobody_waits : length h.below ≡ 0
      nobody_waits = omega (arith, own, number_of h)

      alone : (below : List Activation) (words : List ℤ) → Reached c limit all (state_at f.routine below p now.line words (v ∷ rest) now.ticks) now.made
          → map at_rest below ≡ f.callers → Agree f.frames f.held now.maps below words
          → Here c limit all (record f { held = hold (own_number f) i v f.held }) (p + 1) rest now
      alone (b ∷ above) words reached waiting agree = absurd (omega (arith, own, ap length (sym waiting)))
      alone [] words reached waiting agree =
          let a = declared_words g + i in
          let t = state_at f.routine [] (p + 1) now.line (slice_set words a v) rest now.ticks in
          let step = does reached (with_a op.StoreG a) found in
          let wide : a < length words = ltb-true a (length words) (is_there (nat_lt a (length words)) t reached step) in
          let number : own_number f ≡ 0 = ap length (sym waiting) in
          record {
            below = [];
            words = slice_set words a v;
            reached = goes_if (nat_lt a (length words)) t reached step;
            waiting = waiting;
            agree = subst (λ n. Agree f.frames (hold n i v f.held) now.maps [] (slice_set words a v)) (sym number)
                (agree_hold agree g i v (ap (slice_get f.frames) (sym number) ∙ is) wide low);
            named = h.named;
            risen = h.risen;
          }
