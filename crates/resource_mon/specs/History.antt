-- Each entry of a resource keeps its history.
use Rattle.std.proofs.Common.{◌≡◌, ◌≢◌, ◌⊎◌, ℕ, Option, None, Some, List, [], ◌∷◌, ◌++◌, option_to_list, refl, sym, ◌∙◌, ap, append_assoc}
use Rattle.std.proofs.lemmas.List.{append-nil}
use Rattle.resource_mon.specs.declared.grant.Grant.{Grant}
use Rattle.resource_mon.specs.Claims.{Claims, IsNoneOf, EachOnce, HasOneHolder, claimants, grant_by, after_request, granted_with, first_of, after_release, after_resumed}

each_once-more : (processes : List ℕ) (p : ℕ) → EachOnce processes → IsNoneOf processes p → EachOnce (processes ++ p ∷ [])
each_once-more [] p each none = (tt, tt)
each_once-more (q ∷ qs) p each none = ((none_of-more qs p q each.0 (λ e. none.0 (sym e))), each_once-more qs p each.1 none.1) where
  none_of-more : (processes : List ℕ) (p q : ℕ) → IsNoneOf processes q → p ≢ q → IsNoneOf (processes ++ p ∷ []) q
  none_of-more [] p q none ne = (ne, tt)
  none_of-more (r ∷ rs) p q none ne = (none.0, none_of-more rs p q none.1 ne)

request_at : (holder : Option ℕ) (waiting : List ℕ) (handed : Option ℕ) (p : ℕ) (requested granted released : List ℕ) → IsNoneOf (option_to_list holder ++ waiting) p → (handed ≡ None) ⊎ (handed ≡ Some p) → HasOneHolder requested granted released record { holder = holder; waiting = waiting; handed = handed } → HasOneHolder (requested ++ p ∷ []) (granted_with granted p (grant_by holder)) released (after_request record { holder = holder; waiting = waiting; handed = handed } p (grant_by holder))
request_at None waiting handed p requested granted released none may h =
    let empty = h.idle refl in
    record {
      in_order = (let before = rw (empty, append-nil) at h.in_order in rw (empty, append-nil) (ap (λ ps. ps ++ p ∷ []) before));
      one_holder = ap (λ ps. ps ++ p ∷ []) (sym (append-nil released) ∙ h.one_holder);
      idle = λ e. cc;
      each_once = (none, h.each_once);
      handed_to_holder = λ r e. (let impossible = h.handed_to_holder r e in cc);
    }
request_at (Some q) waiting handed p requested granted released none may h =
    record {
      in_order = sym (append_assoc granted waiting (p ∷ [])) ∙ ap (λ ps. ps ++ p ∷ []) h.in_order;
      one_holder = h.one_holder;
      idle = λ e. cc;
      each_once = each_once-more (q ∷ waiting) p h.each_once none;
      handed_to_holder = h.handed_to_holder;
    }

pub request-history : (claims new : Claims) (p : ℕ) (grant : Grant) → (claims.handed ≡ None) ⊎ (claims.handed ≡ Some p) → IsNoneOf (claimants claims) p → grant ≡ grant_by claims.holder → new ≡ after_request claims p grant → (requested granted released : List ℕ) → HasOneHolder requested granted released claims → HasOneHolder (requested ++ p ∷ []) (granted_with granted p grant) released new
request-history claims new p grant may none g n requested granted released h =
    rw (n, g) (request_at claims.holder claims.waiting claims.handed p requested granted released none may h)

each_once-later : (holder : Option ℕ) (waiting : List ℕ) → EachOnce (option_to_list holder ++ waiting) → EachOnce waiting
each_once-later None waiting each = each
each_once-later (Some q) waiting each = each.1

release_at : (holder : Option ℕ) (waiting : List ℕ) (handed : Option ℕ) (requested granted released : List ℕ) → HasOneHolder requested granted released record { holder = holder; waiting = waiting; handed = handed } → HasOneHolder requested (granted ++ option_to_list (first_of waiting)) (released ++ option_to_list holder) (after_release record { holder = holder; waiting = waiting; handed = handed })
release_at holder [] handed requested granted released h =
    record {
      in_order = append-nil (granted ++ []) ∙ h.in_order;
      one_holder = ap (λ ps. ps ++ []) h.one_holder;
      idle = λ e. refl;
      each_once = tt;
      handed_to_holder = λ r e. cc;
    }
release_at holder (p ∷ later) handed requested granted released h =
    record {
      in_order = append_assoc granted (p ∷ []) later ∙ h.in_order;
      one_holder = ap (λ ps. ps ++ p ∷ []) h.one_holder;
      idle = λ e. cc;
      each_once = each_once-later holder (p ∷ later) h.each_once;
      handed_to_holder = λ r e. e;
    }

pub release-history : (claims new : Claims) (answer : Option ℕ) → answer ≡ first_of claims.waiting → new ≡ after_release claims → (requested granted released : List ℕ) → HasOneHolder requested granted released claims → HasOneHolder requested (granted ++ option_to_list answer) (released ++ option_to_list claims.holder) new
release-history claims new answer a n requested granted released h =
    rw (n, a) (release_at claims.holder claims.waiting claims.handed requested granted released h)

pub resumed-history : (claims new : Claims) → new ≡ after_resumed claims → (requested granted released : List ℕ) → HasOneHolder requested granted released claims → HasOneHolder requested granted released new
resumed-history claims new n requested granted released h =
    rw n record { in_order = h.in_order; one_holder = h.one_holder; idle = h.idle; each_once = h.each_once; handed_to_holder = λ p e. cc }
