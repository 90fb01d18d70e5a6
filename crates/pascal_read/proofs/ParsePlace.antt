-- What a reader reads to its end is a tree's spelling, and where it is stuck is the place of the first error.
use Rattle.std.proofs.Common.{◌≡◌, ℕ, List, [], ◌∷◌, ◌++◌, Some, None, inl, inr, refl, sym, ap, subst, ◌∙◌, append_assoc}
use Rattle.pascal_tree.specs.Word.{Spot, AreWords}
use Rattle.pascal_tree.specs.Program.{Program}
use Rattle.pascal_tree.specs.Limits.{IsTree}
use Rattle.pascal_tree.specs.SpellProgram.{spelled}
use Rattle.pascal_read.specs.ErrorPlace.{ErrorPlace, SpellATree, EndAtTheEnd, BeginATree}
use Rattle.pascal_read.specs.ParseWants.{Outcome, done, stuck, run, report, stuck_line, program_wants}
use Rattle.pascal_read.proofs.ParseCompleteProgram.{each_is_read}
use Rattle.pascal_read.proofs.ParseStuck.{stuck_there}
use Rattle.pascal_read.proofs.ParseSpells.{AllRead}
use Rattle.pascal_read.proofs.ParseSpellsOffer.{IsSound}
use Rattle.pascal_read.proofs.ParseSpellsBack.{back_from, all_end, read_whole, not_behind_the_end}

pub program_sound : IsSound program_wants
program_sound = inr (inr (tt, inr (tt, inr (tt, inr (tt, inr (tt, inr (tt, inl (refl, refl))))))))

-- the tree that the parts of a whole program make
abbrev pub tree_of : (words : List Spot) → AllRead program_wants words [] → Program
tree_of words r =
    let vars = r.2.2 in
    let body = vars.2.2 in
    let end = body.2.2 in
    record {
      heading = r.1.part;
      consts = r.2.1.part;
      vars = vars.1.part;
      routines = vars.2.1.part;
      body = body.1.part;
      period = body.2.1.part;
      end = end.1.part;
    }

pub tree_spells : (words : List Spot) (r : AllRead program_wants words []) → spelled (tree_of words r) ≡ words
tree_spells words r =
    let vars = r.2.2 in
    let body = vars.2.2 in
    let end = body.2.2 in
    sym (simp (r.1.is, r.2.1.is, vars.1.is, vars.2.1.is, body.1.is, body.2.1.is, end.1.is, end.2) refl)

pub tree_keeps : (words : List Spot) (r : AllRead program_wants words []) → AreWords words → IsTree (tree_of words r)
tree_keeps words r w = record { routines = r.2.2.2.1.keeps; body = r.2.2.2.2.1.keeps; words = subst AreWords (sym (tree_spells words r)) w }

-- the parts of a whole program make its tree
spells : (words : List Spot) → AreWords words → AllRead program_wants words [] → SpellATree words
spells words w r = record { tree = tree_of words r; is_tree = tree_keeps words r w; is = tree_spells words r }

-- words of two lists, and of the first of them
are_words : (xs ys : List Spot) → AreWords xs → AreWords ys → AreWords (xs ++ ys)
are_words [] ys a b = b
are_words (x ∷ xs) ys a b = (a.0, are_words xs ys a.1 b)

front_words : (xs ys : List Spot) → AreWords (xs ++ ys) → AreWords xs
front_words [] ys a = tt
front_words (x ∷ xs) ys a = (a.0, front_words xs ys a.1)

-- what is wanted where a reader is stuck has an ending: with it, the words before spell a tree
some_begins : (front p : List Spot) → AreWords front → run (front ++ p) program_wants ≡ stuck p → BeginATree front
some_begins front p w e =
    let b = back_from front p program_wants program_sound e in
    let a = all_end b.left b.sound in
    let s = spells (front ++ a.words) (are_words front a.words w a.are) (b.joins a.words [] a.read) in
    record { tree = s.tree; is_tree = s.is_tree; more = a.words; is = s.is }

-- A reader that is stuck at a word, whatever follows it, reads no tree whose spelling begins so.
none_begins : (front : List Spot) (t : Spot) → ((z : List Spot) → run (front ++ (t ∷ z)) program_wants ≡ stuck (t ∷ z)) → BeginATree (front ++ t ∷ []) → ⊥
unfolding report
none_begins front t whatever b =
    let is : spelled b.tree ≡ front ++ (t ∷ b.more) = b.is ∙ append_assoc front (t ∷ []) b.more in
    let read : report (spelled b.tree) program_wants ≡ None = each_is_read b.tree b.is_tree in
    let not_read : report (spelled b.tree) program_wants ≡ Some t.line = ap (λ ts. stuck_line (run ts program_wants)) is ∙ ap stuck_line (whatever b.more) in
    absurd cc

by_outcome : (words : List Spot) → AreWords words → (o : Outcome) → run words program_wants ≡ o → stuck_line o ≡ None → SpellATree words
by_outcome words w done r l = spells words w (read_whole words program_wants program_sound r)
by_outcome words w (stuck p) r l = absurd cc

pub read_words_spell : (words : List Spot) → AreWords words → report words program_wants ≡ None → SpellATree words
unfolding report
read_words_spell words w r = by_outcome words w (run words program_wants) refl r

place : (words : List Spot) (line : ℕ) → AreWords words → EndAtTheEnd words → (o : Outcome) → run words program_wants ≡ o → stuck_line o ≡ Some line → ErrorPlace words line
place words line w e done r l = absurd cc
place words line w e (stuck []) r l =
    absurd (not_behind_the_end e.0 e.1 program_wants program_sound (ap (λ ts. run ts program_wants) (sym e.2) ∙ r))
place words line w e (stuck (t ∷ q)) r l =
    let s = stuck_there words program_wants (t ∷ q) r in
    record {
      before = s.front;
      at = t;
      behind = q;
      words_are = s.is;
      line_is = cc;
      possible = some_begins s.front (t ∷ q) (front_words s.front (t ∷ q) (subst AreWords s.is w)) (ap (λ ts. run ts program_wants) (sym s.is) ∙ r);
      impossible = none_begins s.front t (λ z. s.whatever t q z refl);
    }

pub stuck_is_error_place : (words : List Spot) (line : ℕ) → AreWords words → EndAtTheEnd words → report words program_wants ≡ Some line → ErrorPlace words line
unfolding report
stuck_is_error_place words line w e r = place words line w e (run words program_wants) refl r
