-- The printer process alone prints the lines that it is given, and whatever else happens it prints the first of them; where it is done,
-- all of them.
use Rattle.std.proofs.Common.{◌≡◌, inl, inr, ℕ, zero, suc, ◌≤◌, ◌==◌, if◌then◌else◌, List, [], ◌∷◌, ◌++◌, drop, length, length-append, Some, refl, sym, ◌∙◌, ap, subst, arith}
use Rattle.std.proofs.lemmas.List.{append-nil}
use Rattle.network_law.specs.Acts.{moved}
use Rattle.network_law.specs.Network.{IsOne, acts}
use Rattle.network_law.specs.Network as law
use Rattle.std.proofs.lemmas.Bool.Decides.{eqb_tells}
use Rattle.solo_base.specs.declared.item.Item.TheVariants.{Line}
use Rattle.solo_base.specs.declared.item.Feed.{Feed}
use Rattle.solo_base.specs.declared.outcome.Side.TheVariants.{Receiver}
use Rattle.solo_base.specs.Prefixes.{IsPrefixOf}
use Rattle.page_codec.specs.Packing.{fits}
use Rattle.batch_procs.specs.declared.actions.Reply.{Reply}
use Rattle.batch_procs.specs.Jobs.{Jobs, FilesAs}
use Rattle.batch_procs.specs.Parcels.{Parcel, OfFeed, OfLine}
use Rattle.place_law.specs.Process.{Does, LacksMemory, Delays}
use Rattle.solo_base.specs.declared.item.Feed.TheVariants as feed
use Rattle.batch_procs.specs.declared.actions.Reply.TheVariants as reply
use Rattle.twin_law.specs.Process.{Action, PutFeed, TakeFeed, AwaitRoom, AwaitItem, Request, PutPage, TakePage, Load, Release, Local, Print, Stop, Ended, Entry, Process, place, next_action}
use Rattle.twin_law.specs.Ends.{PrinterPlace, TakesLine, PrintsLine, HasPrinted, printer_aims, behind_line, printer_behind, printer}
use Rattle.twin_law.specs.Table.{process}
use Rattle.twin_law.specs.Twin.{Fits, twin}
use Rattle.twin_law.specs.Alone.{reply_of, first_parcel, less_one, Put, alone, put_at, AreLoadedSo, puts_by, puts, step_more, steps_more}
use Rattle.twin_law.specs.Told.{printed_by, printed}
use Rattle.twin_law.proofs.Marks.{makes, IsAround, made}
use Rattle.twin_law.proofs.Kahn.{put-append, puts-alone, printer-quiet}
use Rattle.twin_law.proofs.After.{after}
use Rattle.twin_law.proofs.Goes.{Goes, goes-on, first-put, alone-longer}
use Rattle.twin_law.proofs.Whole.{line_feeds}
use Rattle.twin_law.proofs.Paper.{due_at}

abbrev pub as_printed : {L : Type 0} → List (List ℕ) → List (Parcel L)
as_printed [] = []
as_printed (line ∷ rest) = OfLine line ∷ as_printed rest

abbrev print_puts : {L : Type 0} → List (List ℕ) → List (Put L)
print_puts [] = []
print_puts (line ∷ rest) = record { at = 0; parcel = OfLine line } ∷ print_puts rest

puts-at : (L : Type 0) (lines : List (List ℕ)) → put_at 0 (print_puts {L = L} lines) ≡ as_printed lines
puts-at L [] = refl
puts-at L (line ∷ rest) = ap (λ more. OfLine line ∷ more) (puts-at L rest)

printed-append : (L : Type 0) (some more : List (List ℕ)) → as_printed {L = L} (some ++ more) ≡ as_printed some ++ as_printed more
printed-append L [] more = refl
printed-append L (line ∷ some) more = ap (λ rest. OfLine line ∷ rest) (printed-append L some more)

-- lines that begin others, by their parcels
same-line : {L : Type 0} (a b : List ℕ) (some more : List (Parcel L)) → OfLine a ∷ some ≡ OfLine b ∷ more → (a ≡ b) × (some ≡ more)
same-line a b some more e = (cc, cc)

lines-first : (L : Type 0) (some all : List (List ℕ)) → IsPrefixOf (as_printed {L = L} some) (as_printed all) → IsPrefixOf some all
lines-first L [] all is = (all, refl)
lines-first L (a ∷ some) [] (rest, e) = absurd cc
lines-first L (a ∷ some) (b ∷ all) (rest, e) =
    let both = same-line a b (as_printed some ++ rest) (as_printed all) e in
    let (more, is) = lines-first L some all (rest, both.1) in
    (more, ap (λ a. a ∷ (some ++ more)) both.0 ∙ ap (λ rest. b ∷ rest) is)

none-longer : {T : Type 0} (some all : List T) → IsPrefixOf some all → length all ≤ length some → some ≡ all
none-longer some all ([], e) few = sym (append-nil some) ∙ e
none-longer some all (x ∷ rest, e) few = absurd (let n = sym (ap length e) ∙ length-append some (x ∷ rest) in omega (arith, n, few))

pub both-first : {T : Type 0} (a b : List T) → IsPrefixOf a b → IsPrefixOf b a → a ≡ b
both-first a b first second =
    let (rest, e) = second in
    let n = sym (ap length e) ∙ length-append b rest in
    none-longer a b first (omega (arith, n))

step-enough : {L : Type 0} (a : Action) (r : Reply L) (n : ℕ) → n ≤ step_more a r n
step-enough (PutFeed b f) reply.Done n = omega arith
step-enough (PutPage b page) reply.Done n = omega arith
step-enough (Print line) reply.Done n = omega arith
step-enough (TakeFeed b) (reply.Feed f) n = omega arith
step-enough (TakePage b) (reply.Page page last) n = omega arith
step-enough (Load file) (reply.Loaded load) n = omega arith
step-enough Local reply.Done n = omega arith
step-enough a r n = omega arith

pub steps-enough : {L : Type 0} (h : List (Entry L)) (n : ℕ) → n ≤ steps_more h n
steps-enough [] n = omega arith
steps-enough (Does a r ∷ h) n = (let one = step-enough a r n in let rest = steps-enough h (step_more a r n) in omega (arith, one, rest))
steps-enough (LacksMemory a r ∷ h) n = steps-enough h n
steps-enough (Delays a ∷ h) n = steps-enough h n

module _ {L : Type 0} where
  -- ---- what a history of it put at 0 is what it printed
  around-put : (a : Action) (r : Reply L) → IsAround a → put_at 0 (puts_by a r) ≡ as_printed (printed_by (Does a r))
  around-put (AwaitRoom b) r around = refl
  around-put (AwaitItem b) r around = refl
  around-put Request r around = refl
  around-put Release r around = refl
  around-put (Stop b) r around = refl
  around-put (Ended how) r around = refl
  around-put a r around = absurd around

  aimed-put : (x : PrinterPlace) (r : Reply L) → Fits (makes (printer_aims x)) r
      → put_at 0 (puts_by (makes (printer_aims x)) r) ≡ as_printed (printed_by (Does (makes (printer_aims x)) r))
  aimed-put TakesLine (reply.Feed f) fits = refl
  aimed-put TakesLine reply.Stopped fits = refl
  aimed-put (PrintsLine line) reply.Done fits = refl
  aimed-put (PrintsLine line) reply.Failed fits = refl
  aimed-put (PrintsLine line) reply.NoMemory fits = refl
  aimed-put HasPrinted reply.Done fits = refl
  aimed-put x r fits = absurd fits

  module _ (J : Jobs L) (one : IsOne (twin J) 6) where
    abbrev IsPutSo : Action → Reply L → Type 0
    IsPutSo a r = put_at 0 (puts_by a r) ≡ as_printed (printed_by (Does a r))

    put-so : (h : List (Entry L)) (a : Action) (r : Reply L) → next_action (process J 6) h ≡ Some a → Fits a r → IsPutSo a r
    put-so h a r next fits =
        elim (made J 6 h a one next) as (λ _. IsPutSo a r) [
          | inl around ↦ around-put a r around
          | inr same ↦ (subst (λ a. Fits a r → IsPutSo a r) same (λ fits. aimed-put (place (printer {L = L}) h) r fits)) fits
        ]

    put-printed : (h : List (Entry L)) → law.Follows (twin J) 6 h → put_at 0 (puts h) ≡ as_printed (printed h)
    put-printed [] follows = refl
    put-printed (Does a r ∷ h) follows =
        put-append 0 (puts h) (puts_by a r) ∙ ap (λ now. put_at 0 (puts h) ++ now) (put-so h a r follows.0 follows.1.0)
        ∙ ap (λ old. old ++ as_printed (printed_by (Does a r))) (put-printed h follows.2) ∙ sym (printed-append L (printed h) (printed_by (Does a r)))
    put-printed (LacksMemory a r ∷ h) follows = absurd (let never = follows.1.0 in cc)
    put-printed (Delays a ∷ h) follows = put-printed h follows.2 ∙ ap as_printed (sym (append-nil (printed h)))

  module _ (F : FilesAs L) where
    abbrev W : Type 0
    W = ℕ → List (Parcel L)

    abbrev Gets : PrinterPlace → W → List (Put L) → PrinterPlace → W → Type 0
    Gets x w puts y v = Goes F (printer {L = L}) x w puts y v

    take-goes : (w : W) (f : Feed) (rest : List (Parcel L)) → w 6 ≡ OfFeed f ∷ rest → Gets TakesLine w [] (behind_line f) (less_one w 6)
    take-goes w f rest e n = (
      suc n,
      omega arith,
      ap (λ ps. alone F printer n (printer_behind TakesLine (reply_of (first_parcel ps))) (less_one w 6)) e,
      ap (λ ps. after F printer n (printer_behind TakesLine (reply_of (first_parcel ps))) (less_one w 6)) e,
    )

    record Printed (lines : List (List ℕ)) (w : W) : Type 0 where
      left : W
      goes : Gets TakesLine w (print_puts lines) HasPrinted left

    prints-all : (lines : List (List ℕ)) (w : W) → w 6 ≡ line_feeds lines → Printed lines w
    prints-all [] w e = record { left = less_one w 6; goes = take-goes w feed.End [] e }
    prints-all (line ∷ rest) w e =
        let v = less_one w 6 in
        let later = prints-all rest v (ap (drop 1) e) in
        let put : Gets (PrintsLine line) v (print_puts (line ∷ [])) TakesLine v = λ n. (suc n, omega arith, refl, refl) in
        record {
          left = later.left;
          goes = goes-on F printer TakesLine (PrintsLine line) HasPrinted w v later.left [] (print_puts (line ∷ rest)) (take-goes w (feed.Item (Line line)) (line_feeds rest) e)
              (goes-on F printer (PrintsLine line) TakesLine HasPrinted v v later.left (print_puts (line ∷ [])) (print_puts rest) put later.goes);
        }

    nothing-more : (n : ℕ) (w : W) → alone F printer n HasPrinted w ≡ []
    nothing-more zero w = refl
    nothing-more (suc n) w = refl

    -- what it puts next, of a line in hand
    due-put : (x : PrinterPlace) (w : W) → put_at 0 (alone F (printer {L = L}) 1 x w) ≡ as_printed (due_at x)
    due-put TakesLine w = refl
    due-put (PrintsLine line) w = refl
    due-put HasPrinted w = refl

    module _ (J : Jobs L) (one : IsOne (twin J) 6) (h : List (Entry L)) (follows : law.Follows (twin J) 6 h) (so : AreLoadedSo F h) (lines : List (List ℕ))
        (took : IsPrefixOf (moved 6 Receiver (acts (twin J) 6 h)) (line_feeds lines)) where
      -- what it takes from 6 in all; elsewhere it takes what it took
      abbrev all : W
      all c = if c == 6 then line_feeds lines else moved c Receiver (acts (twin J) 6 h)

      took-all : (c : ℕ) → IsPrefixOf (moved c Receiver (acts (twin J) 6 h)) (all c)
      took-all c =
          elim (eqb_tells c 6) as (λ _. IsPrefixOf (moved c Receiver (acts (twin J) 6 h)) (all c)) [
            | inl e ↦ subst (λ c. IsPrefixOf (moved c Receiver (acts (twin J) 6 h)) (all c)) (sym e.1) took
            | inr e ↦ subst (λ t. IsPrefixOf (moved c Receiver (acts (twin J) 6 h)) (if t then line_feeds lines else moved c Receiver (acts (twin J) 6 h))) (sym e.0)
                ([], append-nil (moved c Receiver (acts (twin J) 6 h)))
          ]

      abbrev P : Process L
      P = printer

      puts-of : (n : ℕ) → (ahead : W) × (puts h ++ alone F P n (place P h) ahead ≡ alone F P (steps_more h n) P.start all)
      puts-of n = puts-alone J 6 one F printer-quiet all h follows so took-all n

      -- the lines that it printed, and the line in hand, are the first of all
      pub printed-first : IsPrefixOf (printed h ++ due_at (place (printer {L = L}) h)) lines
      printed-first =
          let (ahead, e) = puts-of 1 in
          let done = prints-all lines all refl in
          let first = first-put F P 0 P.start HasPrinted all done.left (print_puts lines) done.goes (λ n. nothing-more n done.left) (steps_more h 1) in
          let here : put_at 0 (alone F P (steps_more h 1) P.start all) ≡ as_printed (printed h ++ due_at (place P h)) =
          sym (ap (put_at 0) e) ∙ put-append 0 (puts h) (alone F P 1 (place P h) ahead)
          ∙ ap (λ now. put_at 0 (puts h) ++ now) (due-put (place P h) ahead) ∙ ap (λ old. old ++ as_printed (due_at (place P h))) (put-printed J one h follows)
          ∙ sym (printed-append L (printed h) (due_at (place P h))) in
          lines-first L (printed h ++ due_at (place P h)) lines
          (subst (λ all. IsPrefixOf (as_printed (printed h ++ due_at (place P h))) all) (puts-at L lines)
          (subst (λ some. IsPrefixOf some (put_at 0 (print_puts lines))) here first))

      -- and where it has printed, all of them
      pub printed-all : place (printer {L = L}) h ≡ HasPrinted → printed h ≡ lines
      printed-all at =
          let done = prints-all lines all refl in
          let (m, low, whole, stands) = done.goes 0 in
          let (ahead, e) = puts-of m in
          let none : alone F P m (place P h) ahead ≡ [] = ap (λ x. alone F P m x ahead) at ∙ nothing-more m ahead in
          let mine : puts h ≡ alone F P (steps_more h m) P.start all = sym (append-nil (puts h)) ∙ ap (λ more. puts h ++ more) (sym none) ∙ e in
          let (rest, longer) = alone-longer F P m (steps_more h m) (steps-enough h m) P.start all in
          let parts : print_puts lines ++ rest ≡ puts h = ap (λ some. some ++ rest) (sym (whole ∙ append-nil (print_puts lines))) ∙ longer ∙ sym mine in
          let second : IsPrefixOf (as_printed {L = L} lines) (as_printed (printed h)) =
          (put_at 0 rest, ap (λ some. some ++ put_at 0 rest) (sym (puts-at L lines)) ∙ sym (put-append 0 (print_puts lines) rest) ∙ ap (put_at 0) parts ∙ put-printed J one h follows) in
          let first : IsPrefixOf (printed h) lines =
          subst (λ due. IsPrefixOf due lines) (ap (λ x. printed h ++ due_at x) at ∙ append-nil (printed h)) printed-first in
          both-first (printed h) lines first (lines-first L lines (printed h) second)
