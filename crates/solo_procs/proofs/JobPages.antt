-- The pages of a card file that the job process takes.
use Rattle.std.proofs.Common.{◌≡◌, ℕ, ◌+◌, ◌%◌, ◌^◌, Bool, true, false, List, [], ◌∷◌, ◌++◌, None, Some, sym, ◌∙◌, ap, arith, append_assoc}
use Rattle.std.specs.Prelude.{Ok, Err, option_to_list}
use Rattle.std.proofs.lemmas.List.{append-nil}
use Rattle.solo_base.specs.declared.item.Item.{Item}
use Rattle.solo_base.specs.declared.page.Page.{Page}
use Rattle.solo_base.specs.declared.outcome.Outcome.TheVariants as outcome
use Rattle.solo_base.specs.declared.outcome.Cause.{Cause}
use Rattle.page_codec.specs.declared.judge.BadPage.{BadPage}
use Rattle.page_codec.specs.Reading.{PageContent, page_read}
use Rattle.exchange_law.specs.Pages.{is_last, page_gives, lines_of, damage}
use Rattle.exchange_law.proofs.Lines.{lines-append}
use Rattle.place_law.specs.Process.{fault_in}
use Rattle.solo_law.specs.Actions as act
use Rattle.solo_law.specs.Replies.{Fits}
use Rattle.solo_law.specs.JobPlaces.{job, JobPlace, TakesCards, job_does, behind_cards}
use Rattle.solo_procs.specs.declared.job_proc.JobProc.{JobProc}
use Rattle.solo_procs.specs.Commands.{Kind}
use Rattle.solo_procs.specs.Hands.{page_behind}
use Rattle.solo_procs.specs.Job.{JobStands, page_place}
use Rattle.solo_procs.specs.Machine.{Takes}
use Rattle.solo_procs.proofs.JobSteps.{page-taken}

-- one line more of the items of a page
pub adds-line : (all cards lines_then : List (List ℕ)) (line : List ℕ) (cards_now lines_now : List (List ℕ)) → cards ++ lines_then ≡ all
    → lines_then ≡ option_to_list (Some line) ++ lines_now → cards_now ≡ cards ++ line ∷ [] → cards_now ++ lines_now ≡ all
adds-line all cards lines_then line cards_now lines_now so_far next now =
    ap (λ cards. cards ++ lines_now) now ∙ append_assoc cards (line ∷ []) lines_now ∙ ap (λ lines. cards ++ lines) (sym next) ∙ so_far

pub adds-none : (all cards lines_then : List (List ℕ)) → cards ++ lines_then ≡ all → lines_then ≡ [] → cards ≡ all
adds-none all cards lines_then so_far none = sym (append-nil cards) ∙ ap (λ lines. cards ++ lines) (sym none) ∙ so_far

next-after : (n : ℕ) → (n % 2 ^ 16 + 1) % 2 ^ 16 ≡ (n + 1) % 2 ^ 16
next-after n = omega arith

module _ {C : Type 0} (awaits : C → ℕ → Kind → Type 0) (j : JobProc C) where
  page-added : (last : Bool) (taken : ℕ) (items more : List Item) (pages next : ℕ) (cards : List (List ℕ)) → next ≡ page_behind last j.pages
      → cards ≡ j.cards ++ lines_of more → JobStands awaits j (TakesCards taken items pages)
      → JobStands awaits (record j { pages = next; cards = cards; place = page_place last }) (behind_cards last (taken + 1) (items ++ more) pages)
  page-added true taken items more pages next cards behind added kept = record {
    place = tt;
    holds = (added ∙ ap (λ lines. lines ++ lines_of more) kept.holds.0 ∙ sym (lines-append items more), kept.holds.1);
    unmet = kept.unmet;
    taken = behind;
    awaited = kept.awaited;
  }
  page-added false taken items more pages next cards behind added kept = record {
    place = tt;
    holds = (added ∙ ap (λ lines. lines ++ lines_of more) kept.holds.0 ∙ sym (lines-append items more), kept.holds.1);
    unmet = kept.unmet;
    taken = behind ∙ ap (λ n. (n + 1) % 2 ^ 16) kept.taken ∙ next-after taken;
    awaited = kept.awaited;
  }

  -- a page in form
  pub job-takes : (page : Page) (content : PageContent) (last : Bool) (next : ℕ) (cards : List (List ℕ)) → page_read j.pages (is_last page) page ≡ Ok content
      → last ≡ is_last page → next ≡ page_behind (is_last page) j.pages → cards ≡ j.cards ++ lines_of content.items
      → (at : JobPlace) → JobStands awaits j at → Fits (job_does at) (act.OfPage page)
      → Takes job (JobStands awaits (record j { pages = next; cards = cards; place = page_place last })) at (act.OfPage page) None
  job-takes page content last next cards reads is behind added =
      page-taken awaits j page (λ at. Takes job (JobStands awaits (record j { pages = next; cards = cards; place = page_place last })) at (act.OfPage page)
      None)
      (λ taken items pages kept.
      let read : page_gives taken page ≡ Ok content = ap (λ n. page_read n (is_last page) page) (sym kept.taken) ∙ reads in (
        sym (ap (λ r. fault_in (damage r)) read),
        λ none. rw (is, read) (page-added (is_last page) taken items content.items pages next cards behind added kept),
      ))

  -- and one out of form
  pub job-damaged : (page : Page) (bad : BadPage) (cause : Cause) (Now : JobPlace → Type 0) → page_read j.pages (is_last page) page ≡ Err bad
      → damage (Err bad) ≡ Some cause → (at : JobPlace) → JobStands awaits j at → Fits (job_does at) (act.OfPage page)
      → Takes job Now at (act.OfPage page) (Some (outcome.Fault cause))
  job-damaged page bad cause Now reads is_damage =
      page-taken awaits j page (λ at. Takes job Now at (act.OfPage page) (Some (outcome.Fault cause))) (λ taken items pages kept.
      let read : page_gives taken page ≡ Err bad = ap (λ n. page_read n (is_last page) page) (sym kept.taken) ∙ reads in (
        sym (ap (λ r. fault_in (damage r)) read ∙ ap fault_in is_damage),
        λ none. absurd cc,
      ))
