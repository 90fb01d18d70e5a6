-- Lists that were put together from the left are the same lists put together from the right.
use Rattle.std.proofs.Common.{◌≡◌, List, [], ◌∷◌, ◌++◌, append_assoc}

pub joined3 : {X : Type 0} (s : List X) (a : X) (b : List X) (c : X) →
    ((s ++ a ∷ []) ++ b) ++ c ∷ [] ≡ s ++ (a ∷ (b ++ c ∷ []))
joined3 s a b c = simp append_assoc

pub joined4 : {X : Type 0} (s : List X) (a : X) (b c : List X) (d : X) →
    (((s ++ a ∷ []) ++ b) ++ c) ++ d ∷ [] ≡ s ++ (a ∷ (b ++ (c ++ d ∷ [])))
joined4 s a b c d = simp append_assoc

pub turn_joined : {X : Type 0} (s : List X) (a : X) (b : List X) (c : X) (d : List X) →
    (((s ++ a ∷ []) ++ b) ++ c ∷ []) ++ d ≡ s ++ (a ∷ (b ++ (c ∷ d)))
turn_joined s a b c d = simp append_assoc

pub joined6 : {X : Type 0} (s : List X) (a : X) (b : List X) (c : X) (d e : List X) (f : X) →
    (((((s ++ a ∷ []) ++ b) ++ c ∷ []) ++ d) ++ e) ++ f ∷ [] ≡ s ++ (a ∷ (b ++ (c ∷ (d ++ (e ++ f ∷ [])))))
joined6 s a b c d e f = simp append_assoc

pub for_joined : {X : Type 0} (s : List X) (a b c : X) (d : List X) (e : X) (f : List X) (g : X) (h : List X) →
    (((((((s ++ a ∷ []) ++ b ∷ []) ++ c ∷ []) ++ d) ++ e ∷ []) ++ f) ++ g ∷ []) ++ h ≡ s ++ (a ∷ (b ∷ (c ∷ (d ++ (e ∷ (f ++ (g ∷ h)))))))
for_joined s a b c d e f g h = simp append_assoc

pub kind_joined : {X : Type 0} (s : List X) (a o : X) (l : List X) (u : X) (h : List X) (c f n : X) →
    (((((((s ++ a ∷ []) ++ o ∷ []) ++ l) ++ u ∷ []) ++ h) ++ c ∷ []) ++ f ∷ []) ++ n ∷ [] ≡ s ++ (a ∷ (o ∷ (l ++ (u ∷ (h ++ (c ∷ (f ∷ (n ∷ []))))))))
kind_joined s a o l u h c f n = simp append_assoc

pub function_joined : {X : Type 0} (s : List X) (f n : X) (p : List X) (c a m : X) (b : List X) (e : X) →
    (((((((s ++ f ∷ []) ++ n ∷ []) ++ p) ++ c ∷ []) ++ a ∷ []) ++ m ∷ []) ++ b) ++ e ∷ [] ≡ s ++ (f ∷ (n ∷ (p ++ (c ∷ (a ∷ (m ∷ (b ++ e ∷ [])))))))
function_joined s f n p c a m b e = simp append_assoc
