-- The two laws of the running disk resource: each entry keeps the tie, and whoever gets the turn has the resource.
use Rattle.std.specs.Prelude.{◌≡◌, ◌≢◌, ℕ, ◌==◌, ◌||◌, Bool, true, false, Option, None, Some, List, [], ◌∷◌, ◌++◌, option_to_list}
use Rattle.std.specs.List.{AllByRecursion, list_any}
use Rattle.std.proofs.Common.{refl, sym, ap, ◌∙◌, subst, inl, ne_eqb, eq-eqb}
use Rattle.std.proofs.lemmas.List.Folds.{list_any-append}
use mathlib.Core.Logic.{dite}
use native.Mathlib.Decide.{ℕ_discrete}
use Rattle.monitor_gate.specs.Kind.{with_entry, Completes, Suspends}
use Rattle.monitor_gate.specs.Lists.{with_entry_same, with_entry_other}
use Rattle.resource_mon.specs.declared.call.DiskCall.{DiskCall}
use Rattle.resource_mon.specs.declared.call.DiskCall.TheVariants.{Request, Release}
use Rattle.resource_mon.specs.declared.grant.Grant.TheVariants.{Got, Wait}
use Rattle.resource_mon.specs.Claims.{Claims, IsNoneOf, EachOnce, claimants, grant_by, after_request, first_of, later_of}
use Rattle.resource_mon.specs.History.{request-history, release-history, resumed-history}
use Rattle.resource_mon.specs.DiskCalls.{holds_after, has_grant, IsSeated, IsTied, is_handed, is_waiting, IsWoken, Gets, Resumes, GivesUp, Moves, Rests}
use Rattle.resource_mon.specs.DiskCalls.Granted.{at_once, at_last}

-- ---- one call more
pub holds-granted : (held : Bool) (calls : List DiskCall) → holds_after held (calls ++ Request ∷ []) ≡ true
holds-granted held [] = refl
holds-granted held (Request ∷ later) = holds-granted true later
holds-granted held (Release ∷ later) = holds-granted false later

pub holds-released : (held : Bool) (calls : List DiskCall) → holds_after held (calls ++ Release ∷ []) ≡ false
holds-released held [] = refl
holds-released held (Request ∷ later) = holds-released true later
holds-released held (Release ∷ later) = holds-released false later

module _ (lists : ℕ → List DiskCall) (p : ℕ) where
  pub grant-own : has_grant (with_entry lists p Request p) ≡ true
  grant-own = ap has_grant (with_entry_same lists p Request) ∙ holds-granted false (lists p)

  pub release-own : has_grant (with_entry lists p Release p) ≡ false
  release-own = ap has_grant (with_entry_same lists p Release) ∙ holds-released false (lists p)

  grant-other : (call : DiskCall) (q : ℕ) → q ≢ p → has_grant (with_entry lists p call q) ≡ has_grant (lists q)
  grant-other call q apart = ap has_grant (with_entry_other lists p call q apart)

-- ---- who waits
none-among : (processes : List ℕ) (p : ℕ) → IsNoneOf processes p → list_any (λ q. q == p) processes ≡ false
none-among [] p none = refl
none-among (q ∷ later) p none = ap (λ b. b || list_any (λ q. q == p) later) (ne_eqb q p none.0) ∙ none-among later p none.1

or_false : (b : Bool) → (b || false) ≡ b
or_false true = refl
or_false false = refl

or_true : (b : Bool) → (b || true) ≡ true
or_true true = refl
or_true false = refl

or_swap : (a b : Bool) → (a || b) ≡ (b || a)
or_swap true true = refl
or_swap true false = refl
or_swap false true = refl
or_swap false false = refl

-- the holder doesn't wait
holder_out : (holder : Option ℕ) (waiting : List ℕ) (p : ℕ) → EachOnce (option_to_list holder ++ waiting) → holder ≡ Some p → IsNoneOf waiting p
holder_out None waiting p once is = absurd cc
holder_out (Some q) waiting p once is = let same : q ≡ p = cc in subst (IsNoneOf waiting) same once.0

more-waiting : (waiting : List ℕ) (p q : ℕ) → list_any (λ r. r == q) (waiting ++ p ∷ []) ≡ (list_any (λ r. r == q) waiting || (p == q))
more-waiting waiting p q = list_any-append (λ r. r == q) waiting (p ∷ []) ∙ ap (λ b. list_any (λ r. r == q) waiting || b) (or_false (p == q))

-- after a release: the first that waited has the turn, and the others wait
released-out : (waiting : List ℕ) (p : ℕ) → IsNoneOf waiting p → (list_any (λ q. q == p) (later_of waiting) || is_handed p (first_of waiting)) ≡ false
released-out [] p none = refl
released-out (first ∷ later) p none = ap (λ b. b || (first == p)) (none-among later p none.1) ∙ ne_eqb first p none.0

released-others : (waiting : List ℕ) (q : ℕ) → (list_any (λ r. r == q) (later_of waiting) || is_handed q (first_of waiting)) ≡ (list_any (λ r. r == q) waiting || false)
released-others [] q = refl
released-others (first ∷ later) q = or_swap (list_any (λ r. r == q) later) (first == q) ∙ sym (or_false ((first == q) || list_any (λ r. r == q) later))

released-woken : (waiting : List ℕ) (q : ℕ) → first_of waiting ≡ Some q → (list_any (λ r. r == q) (later_of waiting) || is_handed q (first_of waiting)) ≡ true
released-woken [] q is = absurd cc
released-woken (first ∷ later) q is = let same : first ≡ q = cc in ap (λ b. list_any (λ r. r == q) later || b) (eq-eqb first q same) ∙ or_true (list_any (λ r. r == q) later)

-- ---- who has a seat
seated-more : (processes : List ℕ) (p : ℕ) → AllByRecursion IsSeated processes → IsSeated p → AllByRecursion IsSeated (processes ++ p ∷ [])
seated-more [] p all seat = (seat, tt)
seated-more (q ∷ later) p all seat = (all.0, seated-more later p all.1 seat)

seated-waiting : (holder : Option ℕ) (waiting : List ℕ) → AllByRecursion IsSeated (option_to_list holder ++ waiting) → AllByRecursion IsSeated waiting
seated-waiting None waiting all = all
seated-waiting (Some q) waiting all = all.1

seated-asked : (holder : Option ℕ) (waiting : List ℕ) (handed : Option ℕ) (p : ℕ) → AllByRecursion IsSeated (option_to_list holder ++ waiting) → IsSeated p
    → AllByRecursion IsSeated (claimants (after_request record { holder = holder; waiting = waiting; handed = handed } p (grant_by holder)))
seated-asked None waiting handed p all seat = (seat, all)
seated-asked (Some q) waiting handed p all seat = (all.0, seated-more waiting p all.1 seat)

seated-released : (waiting : List ℕ) → AllByRecursion IsSeated waiting → AllByRecursion IsSeated (option_to_list (first_of waiting) ++ later_of waiting)
seated-released [] all = tt
seated-released (first ∷ later) all = all

module _ (before after : Claims) (lists : ℕ → List DiskCall) (p : ℕ) where
  same-holder : (q : ℕ) → Some p ≡ Some q → p ≡ q
  same-holder q is = cc

  gets_tied : IsTied lists before → Gets p before after → IsTied (with_entry lists p Request) after
  gets_tied tied gets =
      let free = gets.asks.free in record {
        requested = tied.requested ++ p ∷ [];
        granted = tied.granted ++ p ∷ [];
        released = tied.released;
        stands = request-history before after p Got (inl free) gets.asks.no_claim (sym (ap grant_by gets.nobody)) gets.after_is tied.requested tied.granted tied.released tied.stands;
        seated = rw gets.after_is (gets.asks.seat, seated-waiting before.holder before.waiting tied.seated);
        holder = λ q held free. subst (λ r. has_grant (with_entry lists p Request r) ≡ true) (same-holder q (sym (ap (λ (s : Claims). s.holder) gets.after_is) ∙ held)) (grant-own lists p);
        no_other = λ q has. dite (ℕ_discrete q p)
            (λ is. (ap (λ (s : Claims). s.holder) gets.after_is ∙ ap Some (sym is), ap (λ (s : Claims). s.handed) gets.after_is ∙ free))
            (λ apart. let other = tied.no_other q (sym (grant-other lists p Request q apart) ∙ has) in let none = gets.nobody in let some = other.0 in absurd cc);
      }

  resumes_tied : IsTied lists before → Resumes p before after → IsTied (with_entry lists p Request) after
  resumes_tied tied resumes =
      let has_it = tied.stands.handed_to_holder p resumes.turn in record {
        requested = tied.requested;
        granted = tied.granted;
        released = tied.released;
        stands = resumed-history before after resumes.after_is tied.requested tied.granted tied.released tied.stands;
        seated = rw resumes.after_is tied.seated;
        holder = λ q held free. subst (λ r. has_grant (with_entry lists p Request r) ≡ true) (same-holder q (sym has_it ∙ sym (ap (λ (s : Claims). s.holder) resumes.after_is) ∙ held)) (grant-own lists p);
        no_other = λ q has. dite (ℕ_discrete q p)
            (λ is. (ap (λ (s : Claims). s.holder) resumes.after_is ∙ has_it ∙ ap Some (sym is), ap (λ (s : Claims). s.handed) resumes.after_is))
            (λ apart. let other = tied.no_other q (sym (grant-other lists p Request q apart) ∙ has) in let none = other.1 in let some = resumes.turn in absurd cc);
      }

  gives_up_tied : IsTied lists before → GivesUp p before after → IsTied (with_entry lists p Release) after
  gives_up_tied tied gives = record {
    requested = tied.requested;
    granted = tied.granted ++ option_to_list (first_of before.waiting);
    released = tied.released ++ option_to_list before.holder;
    stands = release-history before after (first_of before.waiting) refl gives.after_is tied.requested tied.granted tied.released tied.stands;
    seated = rw gives.after_is (seated-released before.waiting (seated-waiting before.holder before.waiting tied.seated));
    holder = λ q held free. (let first = sym (ap (λ (s : Claims). s.holder) gives.after_is) ∙ held in let none = sym (ap (λ (s : Claims). s.handed) gives.after_is) ∙ free in absurd cc);
    no_other = λ q has. dite (ℕ_discrete q p)
        (λ is. let own = release-own lists p in let other = ap (λ r. has_grant (with_entry lists p Release r)) (sym is) ∙ has in absurd cc)
        (λ apart. let other = tied.no_other q (sym (grant-other lists p Release q apart) ∙ has) in absurd (apart (sym (same-holder q (sym gives.held ∙ other.0)))));
  }

  pub moves_tied : (entry : DiskCall) → IsTied lists before → Moves p before entry after → IsTied (with_entry lists p entry) after
  moves_tied Request tied (at_once gets) = gets_tied tied gets
  moves_tied Request tied (at_last resumes) = resumes_tied tied resumes
  moves_tied Release tied gives = gives_up_tied tied gives

  gets_done : IsTied lists before → Gets p before after → Completes (λ (s : Claims). s.handed) is_waiting IsWoken p before after
  gets_done tied gets =
      let free = gets.asks.free in
      let nobody = tied.stands.idle gets.nobody in record {
        out = rw (gets.after_is, free, nobody) refl;
        others = λ q apart. rw gets.after_is refl;
        woken = λ q is. (let none = ap (λ (s : Claims). s.handed) gets.after_is ∙ free in absurd cc);
      }

  resumes_done : IsTied lists before → Resumes p before after → Completes (λ (s : Claims). s.handed) is_waiting IsWoken p before after
  resumes_done tied resumes =
      let has_it = tied.stands.handed_to_holder p resumes.turn in
      let turn = resumes.turn in record {
        out = rw resumes.after_is (or_false (list_any (λ q. q == p) before.waiting) ∙ none-among before.waiting p (holder_out before.holder before.waiting p tied.stands.each_once has_it));
        others = λ q apart. rw (resumes.after_is, turn) (ap (λ b. list_any (λ r. r == q) before.waiting || b) (sym (ne_eqb p q (λ is. apart (sym is)))));
        woken = λ q is. (let none = ap (λ (s : Claims). s.handed) resumes.after_is in absurd cc);
      }

  pub moves_done : (entry : DiskCall) → IsTied lists before → Moves p before entry after → Completes (λ (s : Claims). s.handed) is_waiting IsWoken p before after
  moves_done Request tied (at_once gets) = gets_done tied gets
  moves_done Request tied (at_last resumes) = resumes_done tied resumes
  moves_done Release tied gives =
      let none = holder_out before.holder before.waiting p tied.stands.each_once gives.held in
      let free = gives.free in record {
        out = rw gives.after_is (released-out before.waiting p none);
        others = λ q apart. rw (gives.after_is, free) (released-others before.waiting q);
        woken = λ q is. (let first = sym (ap (λ (s : Claims). s.handed) gives.after_is) ∙ is in (rw gives.after_is (released-woken before.waiting q first), record { turn = is; has = ap (λ (s : Claims). s.holder) gives.after_is ∙ first }));
      }

  pub rests_tied : IsTied lists before → Rests p before after → IsTied lists after
  rests_tied tied rested =
      let waits : Wait ≡ grant_by before.holder = sym (ap grant_by rested.held) in
      let free = rested.asks.free in record {
        requested = tied.requested ++ p ∷ [];
        granted = tied.granted;
        released = tied.released;
        stands = request-history before after p Wait (inl free) rested.asks.no_claim waits rested.after_is tied.requested tied.granted tied.released tied.stands;
        seated = rw rested.after_is (subst (λ grant. AllByRecursion IsSeated (claimants (after_request before p grant))) (sym waits) (seated-asked before.holder before.waiting before.handed p tied.seated rested.asks.seat));
        holder = λ q held free. tied.holder q (sym (ap (λ (s : Claims). s.holder) rested.after_is) ∙ held) (sym (ap (λ (s : Claims). s.handed) rested.after_is) ∙ free);
        no_other = λ q has. (let other = tied.no_other q has in (ap (λ (s : Claims). s.holder) rested.after_is ∙ other.0, ap (λ (s : Claims). s.handed) rested.after_is ∙ other.1));
      }

  pub rests_done : IsTied lists before → Rests p before after → Suspends (λ (s : Claims). s.handed) is_waiting p before after
  rests_done tied rested = record {
    waiting = rw rested.after_is (ap (λ b. b || is_handed p before.handed) (more-waiting before.waiting p p ∙ ap (λ b. list_any (λ r. r == p) before.waiting || b) (eq-eqb p p refl) ∙ or_true (list_any (λ r. r == p) before.waiting)));
    others = λ q apart. rw rested.after_is (ap (λ b. b || is_handed q before.handed) (more-waiting before.waiting p q ∙ ap (λ b. list_any (λ r. r == q) before.waiting || b) (ne_eqb p q (λ is. apart (sym is))) ∙ or_false (list_any (λ r. r == q) before.waiting)));
    free = ap (λ (s : Claims). s.handed) rested.after_is ∙ rested.asks.free;
  }
