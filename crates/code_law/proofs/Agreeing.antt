-- All open activations, where one's words change, where one begins and where one ends.
use Rattle.std.proofs.Common.{◌≡◌, ℕ, zero, suc, ◌+◌, ◌<◌, ◌≤◌, Bool, true, false, List, [], ◌∷◌, ◌++◌, length, take, Some, ℤ, refl, sym, ◌∙◌, ap, subst, arith}
use Rattle.std.specs.Prelude.{slice_get, slice_set, if◌then◌else◌, ◌==◌}
use Rattle.std.proofs.lemmas.Bool.{eqb-true, eqb-false}
use Rattle.std.proofs.lemmas.List.{length-append, length-take-le}
use Rattle.std.proofs.lemmas.Option.{same_Some, slice_get_within}
use Rattle.stack_machine.specs.States.{Activation}
use Rattle.stack_machine.specs.Activations.{words_from, waiting_with, own_with}
use Rattle.stack_machine.proofs.Frames.{as_many_wait, waiting_stay, own_written}
use Rattle.pascal_mean.specs.Situation.{Place, Map}
use Rattle.pascal_mean.specs.Variables.{map_at, with_map}
use Rattle.pascal_code.specs.Frames.{Frame, declared_words}
use Rattle.code_law.specs.Regions.{AreApart}
use Rattle.code_law.specs.Ties.{IsReferred, AreTied, Held, Agree}
use Rattle.code_law.proofs.Words.{other_word, written_word}
use Rattle.code_law.proofs.Tied.{tied_beside}
use Rattle.code_law.proofs.Lists.{this_map, other_map, as_many_maps, this_frame, other_frame, first_of_more, last_of_more, first_map, last_map, first_frames, last_frame, map_below}

module _ {frames : List Frame} {held : Held} {maps : List Map} {below : List Activation} {own : List ℤ} (agree : Agree frames held maps below own) where
  pub open_number : (d : ℕ) (f : Frame) → slice_get frames d ≡ Some f → d ≤ length below
  open_number d f is = omega (arith, slice_get_within frames d f is, agree.all_open)

  -- ---- One activation's words and map change
  module _ (k : ℕ) (f : Frame) (is : slice_get frames k ≡ Some f) (change : Map → Map) (words : List ℤ) where
    number_low : k ≤ length below
    number_low = open_number k f is

    map_there : k < length maps
    map_there = omega (arith, slice_get_within frames k f is, agree.as_many)

    tied_by : AreTied frames k f (change (map_at maps k)) words → (d : ℕ) (g : Frame) (same : Bool) → (d == k) ≡ same → slice_get frames d ≡ Some g
        → AreTied frames d g (map_at (with_map k change maps) d) (words_from (waiting_with below k words) (own_with below own k words) d)
    tied_by new d g true e at =
        let one : k ≡ d = sym (eqb-true d k e) in
        let frame : f ≡ g = same_Some f g (sym is ∙ ap (slice_get frames) one ∙ at) in
        subst (λ n. AreTied frames n g (map_at (with_map k change maps) n) (words_from (waiting_with below k words) (own_with below own k words) n)) one
        (subst (λ (h : Frame). AreTied frames k h (map_at (with_map k change maps) k) (words_from (waiting_with below k words) (own_with below own k words) k))
        frame
        (subst (λ (w : List ℤ). AreTied frames k f (map_at (with_map k change maps) k) w) (sym (this_frame below own k words number_low))
        (subst (λ (m : Map). AreTied frames k f m words) (sym (this_map maps k change map_there)) new)))
    tied_by new d g false e at =
        subst (λ (w : List ℤ). AreTied frames d g (map_at (with_map k change maps) d) w) (sym (other_frame below own k d words (eqb-false d k e)))
        (subst (λ (m : Map). AreTied frames d g m (words_from below own d)) (sym (other_map maps k d change (eqb-false d k e))) (agree.tied d g at))

    module _ (now : Held) (others : (d i : ℕ) (v : ℤ) → (d ≡ k → ⊥) → now d i ≡ Some v → held d i ≡ Some v)
        (kept : (i : ℕ) (v : ℤ) → now k i ≡ Some v → slice_get words (declared_words f + i) ≡ Some v) where
      holds_by : (d i : ℕ) (g : Frame) (v : ℤ) (same : Bool) → (d == k) ≡ same
          → slice_get frames d ≡ Some g → now d i ≡ Some v → slice_get (words_from (waiting_with below k words) (own_with below own k words) d)
          (declared_words g + i) ≡ Some v
      holds_by d i g v true e at is_held =
          let one : k ≡ d = sym (eqb-true d k e) in
          let frame : f ≡ g = same_Some f g (sym is ∙ ap (slice_get frames) one ∙ at) in
          subst (λ n. slice_get (words_from (waiting_with below k words) (own_with below own k words) n) (declared_words g + i) ≡ Some v) one
          (ap (λ (w : List ℤ). slice_get w (declared_words g + i)) (this_frame below own k words number_low)
          ∙ subst (λ (h : Frame). slice_get words (declared_words h + i) ≡ Some v) frame (kept i v (ap (λ n. now n i) one ∙ is_held)))
      holds_by d i g v false e at is_held =
          ap (λ (w : List ℤ). slice_get w (declared_words g + i)) (other_frame below own k d words (eqb-false d k e))
          ∙ agree.holds d i g v at (others d i v (eqb-false d k e) is_held)

      pub agree_on : AreTied frames k f (change (map_at maps k)) words → Agree frames now (with_map k change maps) (waiting_with below k words)
          (own_with below own k words)
      agree_on new = record {
        as_many = as_many_maps maps k change ∙ agree.as_many;
        all_open = omega (arith, agree.all_open, as_many_wait below k words);
        apart = agree.apart;
        tied = λ d g at. tied_by new d g (d == k) refl at;
        holds = λ d i g v at is_held. holds_by d i g v (d == k) refl at is_held;
      }

  -- ---- What is held
  pub agree_weaker : (less : Held) → ((d i : ℕ) (v : ℤ) → less d i ≡ Some v → held d i ≡ Some v) → Agree frames less maps below own
  agree_weaker less weaker = record {
    as_many = agree.as_many;
    all_open = agree.all_open;
    apart = agree.apart;
    tied = agree.tied;
    holds = λ d i f v at is. agree.holds d i f v at (weaker d i v is);
  }

-- ---- The current activation holds one word more

-- at a depth of the activation with a number this is held
abbrev pub hold : ℕ → ℕ → ℤ → Held → Held
hold number i v held = λ d j. if d == number then (if j == i then Some v else held d j) else held d j

other_hold : (number i : ℕ) (v : ℤ) (held : Held) (d j : ℕ) (u : ℤ) → (d ≡ number → ⊥) → hold number i v held d j ≡ Some u → held d j ≡ Some u
other_hold number i v held d j u apart is = by_test (d == number) refl is
  where
    by_test : (same : Bool) → (d == number) ≡ same → (if same then (if j == i then Some v else held d j) else held d j) ≡ Some u → held d j ≡ Some u
    by_test true e is = absurd (apart (eqb-true d number e))
    by_test false e is = is

this_hold : (number i : ℕ) (v : ℤ) (held : Held) (j : ℕ) (u : ℤ) → hold number i v held number j ≡ Some u → (if j == i then Some v else held number j) ≡ Some u
this_hold number i v held j u is = by_test (number == number) refl is
  where
    by_test : (same : Bool) → (number == number) ≡ same → (if same then (if j == i then Some v else held number j) else held number j) ≡ Some u
        → (if j == i then Some v else held number j) ≡ Some u
    by_test true e is = is
    by_test false e is = absurd (eqb-false number number e refl)

pub same_maps : (maps : List Map) (k : ℕ) → with_map k (λ m. m) maps ≡ maps
same_maps [] k = refl
same_maps (m ∷ more) zero = refl
same_maps (m ∷ more) (suc k) = ap (λ (ms : List Map). m ∷ ms) (same_maps more k)

module _ {frames : List Frame} {held : Held} {maps : List Map} {below : List Activation} {own : List ℤ} (agree : Agree frames held maps below own) where
  pub own_tied : (f : Frame) → slice_get frames (length below) ≡ Some f → AreTied frames (length below) f (map_at maps (length below)) own
  own_tied f is = subst (λ (w : List ℤ). AreTied frames (length below) f (map_at maps (length below)) w) (last_frame below own (length below) refl)
      (agree.tied (length below) f is)

  pub own_holds : (f : Frame) (i : ℕ) (v : ℤ) → slice_get frames (length below) ≡ Some f → held (length below) i ≡ Some v
      → slice_get own (declared_words f + i) ≡ Some v
  own_holds f i v is is_held = ap (λ (w : List ℤ). slice_get w (declared_words f + i)) (sym (last_frame below own (length below) refl))
      ∙ agree.holds (length below) i f v is is_held

  -- the current activation's words and map change
  pub own_agree : (f : Frame) → slice_get frames (length below) ≡ Some f → (change : Map → Map) (words : List ℤ) (now : Held)
      → ((d i : ℕ) (v : ℤ) → (d ≡ length below → ⊥) → now d i ≡ Some v → held d i ≡ Some v)
      → ((i : ℕ) (v : ℤ) → now (length below) i ≡ Some v → slice_get words (declared_words f + i) ≡ Some v)
      → AreTied frames (length below) f (change (map_at maps (length below))) words → Agree frames now (with_map (length below) change maps) below words
  own_agree f is change words now others kept new =
      subst (λ (b : List Activation). Agree frames now (with_map (length below) change maps) b words) (waiting_stay below (length below) words (omega arith))
      (subst (λ (w : List ℤ). Agree frames now (with_map (length below) change maps) (waiting_with below (length below) words) w)
      (own_written below own (length below) words refl)
      (agree_on agree (length below) f is change words now others kept new))

  pub agree_hold : (f : Frame) (i : ℕ) (v : ℤ) → slice_get frames (length below) ≡ Some f → declared_words f + i < length own
      → f.parameters + f.result ≤ declared_words f
      → Agree frames (hold (length below) i v held) maps below (slice_set own (declared_words f + i) v)
  agree_hold f i v is wide low =
      subst (λ (ms : List Map). Agree frames (hold (length below) i v held) ms below (slice_set own (declared_words f + i) v)) (same_maps maps (length below))
      (own_agree f is (λ m. m) (slice_set own (declared_words f + i) v) (hold (length below) i v held)
      (λ d j u apart at. other_hold (length below) i v held d j u apart at)
      (λ j u at. by_depth j u (j == i) refl (this_hold (length below) i v held j u at))
      (tied_beside (agree.apart (length below) f is) (own_tied f is) (declared_words f + i) v (omega arith) low))
    where
      by_depth : (j : ℕ) (u : ℤ) (same : Bool) → (j == i) ≡ same → (if same then Some v else held (length below) j) ≡ Some u
          → slice_get (slice_set own (declared_words f + i) v) (declared_words f + j) ≡ Some u
      by_depth j u true e at = subst (λ n. slice_get (slice_set own (declared_words f + i) v) (declared_words f + n) ≡ Some u) (sym (eqb-true j i e))
          (written_word own (declared_words f + i) v wide ∙ at)
      by_depth j u false e at = other_word own (declared_words f + i) (declared_words f + j) v (λ same. eqb-false j i e (omega (arith, same)))
          ∙ own_holds f j u is at

-- ---- One activation more, and one less

below_last : (count n : ℕ) → (n ≡ count → ⊥) → n < count + 1 → n < count
below_last count n differ low = omega (arith, differ, low)

referred_more : {frames : List Frame} (g : Frame) {d : ℕ} {words : List ℤ} {a : ℕ} {p : Place} → d ≤ length frames → IsReferred frames d words a p
    → IsReferred (frames ++ g ∷ []) d words a p
referred_more {frames} g {d} {words} {a} {p} low is = record {
  below = is.below;
  numbered = is.numbered;
  frame = is.frame;
  frame_is = first_of_more frames g p.activation (omega (arith, is.below, low)) ∙ is.frame_is;
  owner = is.owner;
  word = is.word;
  is = is.is;
  placed = is.placed;
}

referred_less : {frames : List Frame} (g : Frame) {d : ℕ} {words : List ℤ} {a : ℕ} {p : Place} → d ≤ length frames → IsReferred (frames ++ g ∷ []) d words a p
    → IsReferred frames d words a p
referred_less {frames} g {d} {words} {a} {p} low is = record {
  below = is.below;
  numbered = is.numbered;
  frame = is.frame;
  frame_is = sym (first_of_more frames g p.activation (omega (arith, is.below, low))) ∙ is.frame_is;
  owner = is.owner;
  word = is.word;
  is = is.is;
  placed = is.placed;
}

pub tied_more : {frames : List Frame} (g : Frame) {d : ℕ} {f : Frame} {m : Map} {words : List ℤ} → d ≤ length frames → AreTied frames d f m words
    → AreTied (frames ++ g ∷ []) d f m words
tied_more g low tied = record {
  scalars = tied.scalars;
  arrays = tied.arrays;
  references = λ x a at. referred_more g low (tied.references x a at);
  answer =
      tied.answer;
}

tied_less : {frames : List Frame} (g : Frame) {d : ℕ} {f : Frame} {m : Map} {words : List ℤ} → d ≤ length frames → AreTied (frames ++ g ∷ []) d f m words
    → AreTied frames d f m words
tied_less g low tied = record {
  scalars = tied.scalars;
  arrays = tied.arrays;
  references = λ x a at. referred_less g low (tied.references x a at);
  answer =
      tied.answer;
}

module _ {frames : List Frame} {held : Held} {maps : List Map} {below : List Activation} (caller : Activation)
    (agree : Agree frames held maps below caller.words) where
  -- an activation begins, in which nothing is held
  pub agree_more : (g : Frame) (m : Map) (words : List ℤ) (now : Held) → AreApart g
      → ((d i : ℕ) (v : ℤ) → d < length frames → now d i ≡ Some v → held d i ≡ Some v)
      → ((i : ℕ) (v : ℤ) → now (length frames) i ≡ Some v → ⊥) → AreTied (frames ++ g ∷ []) (length frames) g m words
      → Agree (frames ++ g ∷ []) now (maps ++ m ∷ []) (below ++ caller ∷ []) words
  agree_more g m words now g_apart less none new = record {
    as_many = omega (arith, agree.as_many, length-append maps (m ∷ []), length-append frames (g ∷ []));
    all_open = omega (arith, agree.all_open, length-append below (caller ∷ []), length-append frames (g ∷ []));
    apart = λ d f at. by_number (λ h. AreApart h) d f (λ low before. agree.apart d f before) (λ last. g_apart) at;
    tied = λ d f at. tied_at d f at;
    holds = λ d i f v at is. holds_at d i f v at is;
  }
    where
      by_number : (P : Frame → Type 0) (d : ℕ) (f : Frame) → (d < length frames → slice_get frames d ≡ Some f → P f) → (d ≡ length frames → P g)
          → slice_get (frames ++ g ∷ []) d ≡ Some f → P f
      by_number P d f first last at = by_test (d == length frames) refl
        where
          by_test : (same : Bool) → (d == length frames) ≡ same → P f
          by_test true e = subst P (same_Some g f (sym (last_of_more frames g d (eqb-true d (length frames) e)) ∙ at)) (last (eqb-true d (length frames) e))
          by_test false e =
              let inside : d < length (frames ++ g ∷ []) = slice_get_within (frames ++ g ∷ []) d f at in
              let low : d < length frames = below_last (length frames) d (eqb-false d (length frames) e)
              (omega (arith, inside, length-append frames (g ∷ []))) in
              first low (sym (first_of_more frames g d low) ∙ at)

      tied_at : (d : ℕ) (f : Frame) → slice_get (frames ++ g ∷ []) d ≡ Some f → AreTied (frames ++ g ∷ []) d f (map_at (maps ++ m ∷ []) d)
          (words_from (below ++ caller ∷ []) words d)
      tied_at d f at = by_number (λ h. AreTied (frames ++ g ∷ []) d h (map_at (maps ++ m ∷ []) d) (words_from (below ++ caller ∷ []) words d)) d f
          (λ low before.
          subst (λ (w : List ℤ). AreTied (frames ++ g ∷ []) d f (map_at (maps ++ m ∷ []) d) w)
          (sym (first_frames below caller words d (omega (arith, low, agree.all_open))))
          (subst (λ (n : Map). AreTied (frames ++ g ∷ []) d f n (words_from below caller.words d))
          (sym (first_map maps m d (omega (arith, low, agree.as_many))))
          (tied_more g (omega (arith, low)) (agree.tied d f before))))
          (λ last.
          subst (λ (w : List ℤ). AreTied (frames ++ g ∷ []) d g (map_at (maps ++ m ∷ []) d) w)
          (sym (last_frame (below ++ caller ∷ []) words d (omega (arith, last, agree.all_open, length-append below (caller ∷ [])))))
          (subst (λ (n : Map). AreTied (frames ++ g ∷ []) d g n words) (sym (last_map maps m d (omega (arith, last, agree.as_many))))
          (subst (λ n. AreTied (frames ++ g ∷ []) n g m words) (sym last) new)))
          at

      holds_at : (d i : ℕ) (f : Frame) (v : ℤ) → slice_get (frames ++ g ∷ []) d ≡ Some f → now d i ≡ Some v
          → slice_get (words_from (below ++ caller ∷ []) words d) (declared_words f + i) ≡ Some v
      holds_at d i f v at is = by_number (λ h. slice_get (words_from (below ++ caller ∷ []) words d) (declared_words h + i) ≡ Some v) d f
          (λ low before. ap (λ (w : List ℤ). slice_get w (declared_words f + i)) (first_frames below caller words d (omega (arith, low, agree.all_open)))
          ∙ agree.holds d i f v before (less d i v low is))
          (λ last. absurd (none i v (ap (λ n. now n i) (sym last) ∙ is)))
          at

module _ {frames : List Frame} {held : Held} {maps : List Map} {below : List Activation} {own : List ℤ} (caller : Activation) (g : Frame)
    (agree : Agree (frames ++ g ∷ []) held maps (below ++ caller ∷ []) own) where
  -- the current activation ends
  pub agree_less : Agree frames held (take (length frames) maps) below caller.words
  agree_less =
      let many : length maps ≡ length frames + 1 = omega (arith, agree.as_many, length-append frames (g ∷ [])) in
      let deep : length frames ≡ length below + 1 = omega (arith, agree.all_open, length-append frames (g ∷ []), length-append below (caller ∷ [])) in
      record {
        as_many = length-take-le (length frames) maps (omega (arith, many));
        all_open = deep;
        apart = λ d f at. agree.apart d f (first_of_more frames g d (slice_get_within frames d f at) ∙ at);
        tied = λ d f at.
            let low : d < length frames = slice_get_within frames d f at in
            subst (λ (w : List ℤ). AreTied frames d f (map_at (take (length frames) maps) d) w) (first_frames below caller own d (omega (arith, low, deep)))
            (subst (λ (n : Map). AreTied frames d f n (words_from (below ++ caller ∷ []) own d)) (sym (map_below maps (length frames) d low))
            (tied_less g (omega (arith, low)) (agree.tied d f (first_of_more frames g d low ∙ at))));
        holds = λ d i f v at is.
            let low : d < length frames = slice_get_within frames d f at in
            ap (λ (w : List ℤ). slice_get w (declared_words f + i)) (sym (first_frames below caller own d (omega (arith, low, deep))))
            ∙ agree.holds d i f v (first_of_more frames g d low ∙ at) is;
      }
