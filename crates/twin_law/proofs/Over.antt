-- Where a process alone comes to in the end it stays; and how far it is on the way there behind a history without a cause.
use Rattle.std.proofs.Common.{◌≡◌, ℕ, zero, suc, ◌+◌, ◌-◌, ◌≤◌, ◌==◌, true, false, if◌then◌else◌, List, [], ◌∷◌, ◌++◌, length, length-append, drop, None, refl, sym, ◌∙◌, ap, subst, arith}
use Rattle.std.proofs.lemmas.List.{append-nil}
use Rattle.solo_base.specs.Prefixes.{IsPrefixOf}
use Rattle.solo_base.specs.declared.page.Page.{Page}
use Rattle.solo_base.specs.declared.outcome.Side.TheVariants.{Sender, Receiver}
use Rattle.solo_base.specs.declared.item.Feed.TheVariants as feed
use Rattle.network_law.specs.Acts.{moved}
use Rattle.network_law.specs.Network.{IsOne, acts}
use Rattle.network_law.specs.Network as law
use Rattle.batch_procs.specs.Jobs.{Jobs, FilesAs}
use Rattle.batch_procs.specs.Parcels.{Parcel, OfPage, mark}
use Rattle.batch_procs.specs.declared.actions.Reply.TheVariants as reply
use Rattle.twin_law.specs.Process.{Entry, PutsPage, TakesPage, Process, place, aim, caused}
use Rattle.twin_law.specs.Table.{process}
use Rattle.twin_law.specs.Twin.{twin}
use Rattle.twin_law.specs.Alone.{Put, Step, step, alone, put_at, puts, reply_of, first_parcel, less_one, AreLoadedSo, before_all, steps_more}
use Rattle.twin_law.proofs.Tells.{Same, IsQuiet, same-number, behind}
use Rattle.twin_law.proofs.After.{Stand, after, after-step, after-same, IsAsOne, as-then, as-same, comes}
use Rattle.twin_law.proofs.Kahn.{seen, before-seen, tied, prefix-trans, put-append, put-sent, puts-alone}
use Rattle.twin_law.proofs.Goes.{Goes, alone-longer}
use Rattle.twin_law.proofs.PrinterAlone.{steps-enough}

no-more : {T : Type 0} (some more : List T) → some ++ more ≡ some → more ≡ []
no-more some [] e = refl
no-more some (x ∷ more) e =
    absurd (let both = length-append some (x ∷ more) in let same = ap length e in omega (arith, both, same))

too-long : {T : Type 0} (all : List T) (x : T) (rest : List T) → (all ++ x ∷ []) ++ rest ≡ all → ⊥
too-long all x rest e =
    let one = length-append all (x ∷ []) in let both = length-append (all ++ x ∷ []) rest in let same = ap length e in omega (arith, one, both, same)

module _ {L : Type 0} (F : FilesAs L) (p : Process L) where
  abbrev W : Type 0
  W = ℕ → List (Parcel L)

  -- it does nothing more at this place
  abbrev pub IsStill : p.Place → Type 0
  IsStill y = (w : W) → after F p 1 y w ≡ (y, w)

  module _ (y : p.Place) (v : W) (still : IsStill y) where
    abbrev ComesOn : ℕ → Type 0
    ComesOn m = (x : p.Place) (w : W) → after F p m x w ≡ (y, v) → after F p (suc m) x w ≡ (y, v)

    step-on : (m : ℕ) → ComesOn m → (s : Step p) → (if s.ended then (s.at, s.inside) else after F p m s.at s.inside) ≡ (y, v)
        → (if s.ended then (s.at, s.inside) else after F p (suc m) s.at s.inside) ≡ (y, v)
    step-on m on s =
        elim s.ended as (λ t. (if t then (s.at, s.inside) else after F p m s.at s.inside) ≡ (y, v)
        → (if t then (s.at, s.inside) else after F p (suc m) s.at s.inside) ≡ (y, v)) [
          | true ↦ (λ e. e)
          | false ↦ on s.at s.inside
        ]

    stays-on : (m : ℕ) → ComesOn m
    stays-on zero x w e = ap (λ (s : Stand F p). after F p 1 s.0 s.1) e ∙ still v
    stays-on (suc m) x w e = step-on m (stays-on m) (step F p x w (p.aims x)) e

    stays-long : (d m : ℕ) (x : p.Place) (w : W) → after F p m x w ≡ (y, v) → after F p (d + m) x w ≡ (y, v)
    stays-long zero m x w e =
        let same : m ≡ 0 + m = omega arith in
        subst (λ k. after F p k x w ≡ (y, v)) same e
    stays-long (suc d) m x w e =
        let same : suc (d + m) ≡ suc d + m = omega arith in
        subst (λ k. after F p k x w ≡ (y, v)) same (stays-on (d + m) x w (stays-long d m x w e))

    pub stays : (m k : ℕ) → m ≤ k → (x : p.Place) (w : W) → after F p m x w ≡ (y, v) → after F p k x w ≡ (y, v)
    stays m k less x w e =
        let d = k - m in
        let whole : d + m ≡ k = omega (arith, less) in
        subst (λ k. after F p k x w ≡ (y, v)) whole (stays-long d m x w e)

  -- at a still place nothing is taken
  pub still-there : (m : ℕ) (y : p.Place) (w : W) → IsStill y → after F p m y w ≡ (y, w)
  still-there m y w still = stays y w still zero m (omega arith) y w refl

  -- who would take where nothing is, stands still too
  pub starves : (b : ℕ) (x : p.Place) → p.aims x ≡ TakesPage b → p.behind x (reply.Feed feed.End) ≡ x → (n : ℕ) (w : W) → w b ≡ []
      → (after F p n x w).0 ≡ x
  starves b x aims same zero w none = refl
  starves b x aims same (suc n) w none =
      let first : after F p (suc n) x w ≡ after F p n (p.behind x (reply_of (first_parcel (w b)))) (less_one w b) = after-step F p n x w (TakesPage b) aims in
      let here : p.behind x (reply_of (first_parcel (w b))) ≡ x = ap (λ ps. p.behind x (reply_of (first_parcel ps))) none ∙ same in
      let left : less_one w b b ≡ [] = ap (λ t. if t then drop 1 (w b) else w b) (same-number F p b) ∙ ap (drop 1) none in
      ap (λ (s : Stand F p). s.0) (first ∙ ap (λ x. after F p n x (less_one w b)) here) ∙ starves b x aims same n (less_one w b) left

-- ---- a history without a cause, of a process that took the first of these lists
module _ {L : Type 0} (J : Jobs L) (p : ℕ) (one : IsOne (twin J) p) (F : FilesAs L) (quiet : IsQuiet (process J p)) (all : ℕ → List (Parcel L))
    (h : List (Entry L)) (follows : law.Follows (twin J) p h) (so : AreLoadedSo F h) (free : caused (process J p) h ≡ None)
    (took : (b : ℕ) → IsPrefixOf (moved b Receiver (acts (twin J) p h)) (all b)) where
  -- what it still finds, and where it comes to with that
  pub record OnTheWay (y : (process J p).Place) (left : ℕ → List (Parcel L)) : Type 0 where
    pub ahead : ℕ → List (Parcel L)
    pub parts : (b : ℕ) → moved b Receiver (acts (twin J) p h) ++ ahead b ≡ all b
    pub steps : ℕ
    pub comes : IsAsOne F (process J p) (after F (process J p) steps (place (process J p) h) ahead) (y, left)

  pub on-the-way : (y : (process J p).Place) (left : ℕ → List (Parcel L)) (puts : List (Put L)) → Goes F (process J p) (process J p).start all puts y left
      → IsStill F (process J p) y → OnTheWay y left
  on-the-way y left puts goes still =
      let (m, low, put, stands) = goes 0 in
      let first : (b : ℕ) → IsPrefixOf (seen b h) (all b) = λ b. prefix-trans (seen b h) (moved b Receiver (acts (twin J) p h)) (all b)
      (tied J p one b h follows).1 (took b) in
      let ahead : ℕ → List (Parcel L) = λ b. (first b).0 in
      let same : Same (before_all h ahead) all = λ b. before-seen J p one b h ahead follows ∙ (first b).1 in
      let k = steps_more h m in
      let end : after F (process J p) k (process J p).start all ≡ (y, left) =
      stays F (process J p) y left still m k (steps-enough h m) (process J p).start all stands in
      record {
        ahead = ahead;
        parts = λ b. ap (λ ms. ms ++ ahead b) (sym ((tied J p one b h follows).0 free)) ∙ (first b).1;
        steps = m;
        comes = as-then F (process J p) _ _ _ (comes J F p one quiet h m ahead follows so)
            (as-then F (process J p) _ _ _ (after-same F (process J p) k (process J p).start (before_all h ahead) all same)
            (as-same F (process J p) _ _ end));
      }

  -- one that is at its end took all of the lists of which nothing is left there
  pub took-whole : (y : (process J p).Place) (left : ℕ → List (Parcel L)) → OnTheWay y left → IsStill F (process J p) y → place (process J p) h ≡ y
      → (b : ℕ) → left b ≡ [] → moved b Receiver (acts (twin J) p h) ≡ all b
  took-whole y left way still at b none =
      let here : after F (process J p) way.steps (place (process J p) h) way.ahead ≡ (y, way.ahead) =
      ap (λ x. after F (process J p) way.steps x way.ahead) at ∙ still-there F (process J p) way.steps y way.ahead still in
      let gone : way.ahead b ≡ [] = ap (λ (s : Stand F (process J p)). s.1 b) (sym here) ∙ way.comes.inside b ∙ none in
      sym (append-nil (moved b Receiver (acts (twin J) p h))) ∙ ap (λ more. moved b Receiver (acts (twin J) p h) ++ more) (sym gone) ∙ way.parts b

  -- one that would take where it took all is at its end
  pub starved : (y : (process J p).Place) (left : ℕ → List (Parcel L)) → OnTheWay y left → (b : ℕ) → aim (process J p) h ≡ TakesPage b
      → (process J p).behind (place (process J p) h) (reply.Feed feed.End) ≡ place (process J p) h → moved b Receiver (acts (twin J) p h) ≡ all b
      → place (process J p) h ≡ y
  starved y left way b aims same took =
      let gone : way.ahead b ≡ [] = no-more (moved b Receiver (acts (twin J) p h)) (way.ahead b) (way.parts b ∙ sym took) in
      sym (starves F (process J p) b (place (process J p) h) aims same way.steps way.ahead gone) ∙ way.comes.place

  -- one that is at its end put all that it puts alone
  pub put-whole : (y : (process J p).Place) (left : ℕ → List (Parcel L)) (given : List (Put L)) → Goes F (process J p) (process J p).start all given y left
      → ((n : ℕ) (w : ℕ → List (Parcel L)) → alone F (process J p) n y w ≡ []) → place (process J p) h ≡ y → (c : ℕ) → (c == 0) ≡ false
      → IsPrefixOf (put_at c given) (moved c Sender (acts (twin J) p h))
  put-whole y left given goes silent at c some =
      let (m, low, whole, stands) = goes 0 in
      let (ahead, told) = puts-alone J p one F quiet all h follows so took m in
      let none : alone F (process J p) m (place (process J p) h) ahead ≡ [] = ap (λ x. alone F (process J p) m x ahead) at ∙ silent m ahead in
      let mine : puts h ≡ alone F (process J p) (steps_more h m) (process J p).start all =
      sym (append-nil (puts h)) ∙ ap (λ more. puts h ++ more) (sym none) ∙ told in
      let (rest, longer) = alone-longer F (process J p) m (steps_more h m) (steps-enough h m) (process J p).start all in
      let parts : given ++ rest ≡ puts h = ap (λ some. some ++ rest) (sym (whole ∙ append-nil given)) ∙ longer ∙ sym mine in
      (put_at c rest, sym (put-append c given rest) ∙ ap (put_at c) parts ∙ put-sent J p one c h some follows)

  -- one that put all has no page to put
  pub put-no_more : (c : ℕ) (page : Page) → (c == 0) ≡ false → aim (process J p) h ≡ PutsPage c page
      → ((n : ℕ) → IsPrefixOf (put_at c (alone F (process J p) n (process J p).start all)) (all c)) → moved c Sender (acts (twin J) p h) ≡ all c → ⊥
  put-no_more c page some aims closed put =
      let (ahead, told) = puts-alone J p one F quiet all h follows so took 1 in
      let next : put_at c (alone F (process J p) 1 (place (process J p) h) ahead) ≡ OfPage page (mark page) ∷ [] =
      ap (λ m. put_at c (behind F (process J p) 0 (step F (process J p) (place (process J p) h) ahead m))) aims
      ∙ ap (λ t. (if t then OfPage page (mark page) ∷ [] else []) ++ []) (same-number F (process J p) c) in
      let sum : all c ++ OfPage page (mark page) ∷ [] ≡ put_at c (alone F (process J p) (steps_more h 1) (process J p).start all) =
      ap (λ old. old ++ OfPage page (mark page) ∷ []) (sym (put-sent J p one c h some follows ∙ put))
      ∙ ap (λ now. put_at c (puts h) ++ now) (sym next) ∙ sym (put-append c (puts h) (alone F (process J p) 1 (place (process J p) h) ahead))
      ∙ ap (put_at c) told in
      let (rest, whole) = closed (steps_more h 1) in
      too-long (all c) (OfPage page (mark page)) rest (ap (λ some. some ++ rest) sum ∙ whole)
