-- From where a reader is stuck, back over the words before: with an ending they are read whole.
use Rattle.std.proofs.Common.{◌≡◌, ℕ, List, [], ◌∷◌, ◌++◌, length, Option, Some, None, inl, inr, refl, sym, ap, ◌∙◌, arith, length-append}
use Rattle.pascal_tree.specs.Word.{Spot, AreWords}
use Rattle.pascal_read.specs.ParseFirst.{end_at}
use Rattle.pascal_read.specs.ParseWants.{Want, Outcome, done, stuck, resume, offer, run}
use Rattle.pascal_read.specs.ParseWants as want
use Rattle.pascal_tree.specs.declared.token.Word.TheVariants as word
use Rattle.pascal_read.proofs.ParseSpells.{AllRead, HasLevel}
use Rattle.pascal_read.proofs.ParseEnds.{ending}
use Rattle.pascal_read.proofs.ParseSpellsOffer.{IsSound, inner_level, OffersRight, offers_right, IsLast, end_is_last}

-- what is wanted behind the first words, and that its words make with them what was wanted before
pub record Left (wants : List Want) (front : List Spot) : Type 0 where
  pub left : List Want
  pub sound : IsSound left
  pub joins : (middle after : List Spot) → AllRead left middle after → AllRead wants (front ++ middle) after

-- the words at which a reader is stuck
stuck_words : Outcome → List Spot
stuck_words done = []
stuck_words (stuck p) = p

-- where a reader is stuck is not behind a word of itself
longer : (t : Spot) (front p : List Spot) → stuck (t ∷ (front ++ p)) ≡ stuck p → ⊥
unfolding stuck_words
longer t front p e =
    let n : length (t ∷ (front ++ p)) ≡ length p = ap (λ o. length (stuck_words o)) e in
    absurd (omega (arith, n, length-append front p))

-- one word back
back_by : (t : Spot) (front p : List Spot) (wants : List Want) (o : Option (List Want)) → OffersRight wants t o → resume o (run (front ++ p)) (t ∷ (front ++ p)) ≡ stuck p →
    ((next : List Want) → IsSound next → run (front ++ p) next ≡ stuck p → Left next front) → Left wants (t ∷ front)
back_by t front p wants None r e f = absurd (longer t front p e)
back_by t front p wants (Some next) r e f =
    let b = f next r.sound e in
    record {
      left = b.left;
      sound = b.sound;
      joins = λ middle after a. r.joins (front ++ middle) after (b.joins middle after a);
    }

pub back_from : (front p : List Spot) (wants : List Want) → IsSound wants → run (front ++ p) wants ≡ stuck p → Left wants front
unfolding run
back_from [] p wants s e = record { left = wants; sound = s; joins = λ middle after a. a }
back_from (t ∷ front) p wants s e = back_by t front p wants (offer wants t.word) (offers_right wants t s) e (λ next sn h. back_from front p next sn h)

-- words that are read to their end
whole_by : (t : Spot) (ts : List Spot) (wants : List Want) (o : Option (List Want)) → OffersRight wants t o → resume o (run ts) (t ∷ ts) ≡ done →
    ((next : List Want) → IsSound next → run ts next ≡ done → AllRead next ts []) → AllRead wants (t ∷ ts) []
whole_by t ts wants None r e f = absurd cc
whole_by t ts wants (Some next) r e f = r.joins ts [] (f next r.sound e)

pub read_whole : (ts : List Spot) (wants : List Want) → IsSound wants → run ts wants ≡ done → AllRead wants ts []
unfolding run
read_whole [] [] s e = refl
read_whole [] (x ∷ rest) s e = absurd cc
read_whole (t ∷ ts) wants s e = whole_by t ts wants (offer wants t.word) (offers_right wants t s) e (λ next sn h. read_whole ts next sn h)

-- words that read all that is wanted
pub record AllEnd (wants : List Want) : Type 0 where
  pub words : List Spot
  pub read : AllRead wants words []
  pub are : AreWords words

-- what is wanted first has a level, and what is wanted behind it is sound too
end_level : (x : Want) → x ≡ want.end → HasLevel x
end_level x e = rw e tt

sound_rest : (x : Want) (rest : List Want) → IsSound (x ∷ rest) → HasLevel x × IsSound rest
sound_rest x rest (inl none) = absurd cc
sound_rest x rest (inr (inl last)) = (end_level x last.0, inl last.1)
sound_rest x rest (inr (inr i)) = (inner_level x i.0, inr i.1)

pub all_end : (wants : List Want) → IsSound wants → AllEnd wants
all_end [] s = record { words = []; read = refl; are = tt }
all_end (x ∷ rest) s =
    let p = sound_rest x rest s in
    let b = all_end rest p.1 in
    let e = ending x b.words p.0 in
    record { words = e.before; read = (b.words, e.reads, b.read); are = e.words b.are }

-- a reader of words that end in the end token is not stuck behind them
last_by : (line : ℕ) (o : Option (List Want)) → IsLast o → resume o (run []) (end_at line ∷ []) ≡ stuck [] → ⊥
unfolding run stuck_words
last_by line None l e = absurd (longer (end_at line) [] [] e)
last_by line (Some next) l e =
    let d : run [] [] ≡ stuck [] = ap (run []) (sym l) ∙ e in
    absurd cc

-- nor before them
early_by : (t : Spot) (more : List Spot) (wants : List Want) (o : Option (List Want)) → OffersRight wants t o → resume o (run more) (t ∷ more) ≡ stuck [] →
    ((next : List Want) → IsSound next → run more next ≡ stuck [] → ⊥) → ⊥
unfolding stuck_words
early_by t more wants None r e f =
    let n : t ∷ more ≡ [] = ap stuck_words e in
    absurd cc
early_by t more wants (Some next) r e f = f next r.sound e

pub not_behind_the_end : (others : List Spot) (line : ℕ) (wants : List Want) → IsSound wants → run (others ++ end_at line ∷ []) wants ≡ stuck [] → ⊥
unfolding run
not_behind_the_end [] line wants s e = last_by line (offer wants word.End) (end_is_last wants s) e
not_behind_the_end (t ∷ others) line wants s e =
    early_by t (others ++ end_at line ∷ []) wants (offer wants t.word) (offers_right wants t s) e (λ next sn h. not_behind_the_end others line next sn h)
