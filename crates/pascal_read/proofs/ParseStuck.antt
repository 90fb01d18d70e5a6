-- Where a reader is stuck, and that no more words decide it than those up to there.
use Rattle.std.proofs.Common.{◌≡◌, List, [], ◌∷◌, ◌++◌, Option, Some, None, refl, sym, ap, ◌∙◌}
use Rattle.pascal_tree.specs.Word.{Spot}
use Rattle.pascal_read.specs.ParseWants.{Want, stuck, resume, offer, run}

-- The reader is stuck at the front of p, which is what is left of the words; whatever follows the
-- first of p, it is stuck there.
pub record StuckThere (ts : List Spot) (wants : List Want) (p : List Spot) : Type 0 where
  pub front : List Spot
  pub is : ts ≡ front ++ p
  pub whatever : (t : Spot) (q z : List Spot) → p ≡ t ∷ q → run (front ++ (t ∷ z)) wants ≡ stuck (t ∷ z)

stuck_none : (t : Spot) (ts : List Spot) (wants : List Want) (p : List Spot) → offer wants t.word ≡ None → stuck (t ∷ ts) ≡ stuck p → StuckThere (t ∷ ts) wants p
unfolding run
stuck_none t ts wants p o e =
    let is : t ∷ ts ≡ p = cc in
    record {
      front = [];
      is = is;
      whatever = λ v q z h.
          let tv : t ≡ v = cc in
          ap (λ (a : Spot). resume (offer wants a.word) (run z) (v ∷ z)) (sym tv) ∙ ap (λ x. resume x (run z) (v ∷ z)) o;
    }

stuck_some : (t : Spot) (ts : List Spot) (wants next : List Want) (p : List Spot) → offer wants t.word ≡ Some next → StuckThere ts next p → StuckThere (t ∷ ts) wants p
unfolding run
stuck_some t ts wants next p o s = record {
  front = t ∷ s.front;
  is = ap (λ x. t ∷ x) s.is;
  whatever = λ v q z h. ap (λ x. resume x (run (s.front ++ (v ∷ z))) (t ∷ (s.front ++ (v ∷ z)))) o ∙ s.whatever v q z h;
}

stuck_by : (t : Spot) (ts : List Spot) (wants : List Want) (p : List Spot) (o : Option (List Want)) → offer wants t.word ≡ o → resume o (run ts) (t ∷ ts) ≡ stuck p →
    ((next : List Want) → run ts next ≡ stuck p → StuckThere ts next p) → StuckThere (t ∷ ts) wants p
stuck_by t ts wants p None o e f = stuck_none t ts wants p o e
stuck_by t ts wants p (Some next) o e f = stuck_some t ts wants next p o (f next e)

pub stuck_there : (ts : List Spot) (wants : List Want) (p : List Spot) → run ts wants ≡ stuck p → StuckThere ts wants p
unfolding run
stuck_there [] [] p e = cc
stuck_there [] (x ∷ rest) p e =
    let none : [] ≡ p = cc in
    record {
      front = [];
      is = none;
      whatever = λ t q z h. cc;
    }
stuck_there (t ∷ ts) wants p e = stuck_by t ts wants p (offer wants t.word) refl e (λ next h. stuck_there ts next p h)
