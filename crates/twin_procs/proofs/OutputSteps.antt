-- The steps of the output process.
use Rattle.std.proofs.Common.{◌≡◌, ◌||◌, not, ℕ, ◌+◌, ◌%◌, ◌^◌, ◌&&◌, Bool, true, false, List, Option, None, Some, refl, sym, ◌∙◌, ap, subst, arith}
use Rattle.std.specs.Prelude.{Ok, Err}
use Rattle.solo_base.specs.declared.item.Item.{Item}
use Rattle.solo_base.specs.declared.page.Page.{Page}
use Rattle.solo_base.specs.declared.outcome.Outcome.TheVariants as outcome
use Rattle.solo_base.specs.declared.outcome.Cause.{Cause}
use Rattle.page_codec.specs.declared.judge.BadPage.{BadPage}
use Rattle.page_codec.specs.Reading.{PageContent, page_read, bad_place, content_or_bad}
use Rattle.batch_procs.specs.declared.actions.Reply.{Reply}
use Rattle.batch_procs.specs.declared.actions.Reply.TheVariants as reply
use Rattle.batch_procs.specs.Sends.{lines_of}
use Rattle.place_law.specs.Process.{fault_in}
use Rattle.twin_law.specs.Sides.{other}
use Rattle.twin_law.specs.Job.{damage}
use Rattle.twin_law.specs.Output.{Turn, OutputPlace, TakesLines, PutsLine, PutsOver, HasGathered, output, output_aims, is_some, turn_behind, behind_lines, page_in_turn}
use Rattle.twin_procs.specs.declared.output_proc.OutputProc.{OutputProc}
use Rattle.twin_procs.specs.Said.{twin}
use Rattle.twin_procs.specs.Hands.{page_behind}
use Rattle.twin_procs.specs.Machine.{IsHanded, Takes}
use Rattle.twin_procs.specs.Output.{IsInTurn, OutputStands, GoesOn, Turns}

-- ---- a page
pub last-read : (n : ℕ) (last : Bool) (page : Page) (content : PageContent) → page_read n last page ≡ Ok content → content.last ≡ last
last-read n last page content e = by (bad_place n last page.0) e
  where
    by : (bad : Option ℕ) → content_or_bad n last page.0 bad ≡ Ok content → content.last ≡ last
    by None e = cc
    by (Some at) e = absurd cc

place-next : (n : ℕ) → (n % 2 ^ 16 + 1) % 2 ^ 16 ≡ (n + 1) % 2 ^ 16
place-next n = omega arith

-- the turn behind it
turned : (j new : OutputProc) (items : List Item) (last : Bool) (t : Turn) → twin j.side ≡ t.side → j.some ≡ t.some → j.ended ≡ t.ended
    → j.pages ≡ page_behind last (t.pages % 2 ^ 16) → Turns j new items last → IsInTurn new (turn_behind t last items)
turned j new items false t side some ended pages is = (let st = is.stays refl in record {
  side_is = ap twin st.side ∙ side;
  pages_are = is.pages ∙ pages ∙ place-next t.pages;
  some_is = st.some ∙ ap (λ some. some || is_some items) some;
  ended_is = st.ended ∙ ended;
})
turned j new items true t side some ended pages is = (let st = is.turns refl in record {
  side_is = st.side ∙ ap other side;
  pages_are = is.pages ∙ pages;
  some_is = st.some;
  ended_is = st.ended ∙ ap (λ ended. ended || not (j.some || is_some items)) ended ∙ ap (λ some. t.ended || not (some || is_some items)) some;
})

over-now : (j new : OutputProc) (items : List Item) (last : Bool) (ended : Bool) → j.ended ≡ ended → Turns j new items last → new.over ≡ (last && ended)
over-now j new items false ended e is = (is.stays refl).over
over-now j new items true ended e is = (is.turns refl).over ∙ e

module _ (L : Type 0) (j : OutputProc) (r : Reply L) (page : Page) (last : Bool) (is : r ≡ reply.Page page last) where
  -- the process takes pages
  takes-lines : (Is : OutputPlace → Type 0) → ((t : Turn) → IsInTurn j t → Is (TakesLines t)) → (at : OutputPlace) → OutputStands j at
      → IsHanded (output_aims at) r → Is at
  takes-lines Is takes (TakesLines t) kept handed = takes t kept.1
  takes-lines Is takes (PutsLine line later t over) kept handed = absurd handed
  takes-lines Is takes PutsOver kept handed = absurd handed
  takes-lines Is takes HasGathered kept handed = absurd handed

  -- in form
  pub output-takes : (content : PageContent) (taken next new : OutputProc) → page_read j.pages last page ≡ Ok content
      → taken.pages ≡ page_behind last j.pages → taken.side ≡ j.side → taken.some ≡ j.some → taken.ended ≡ j.ended → Turns taken next content.items last
      → GoesOn (record next { items = Some content }) new → (at : OutputPlace) → OutputStands j at → IsHanded (output_aims at) r
      → Takes output (OutputStands new) at r None
  output-takes content taken next new reads after side some ended turns goes = takes-lines (λ at. Takes output (OutputStands new) at r None) (λ t kept.
      let read : page_in_turn t page last ≡ Ok content = ap (λ n. page_read n last page) (sym kept.pages_are) ∙ reads in
      let marked = last-read j.pages last page content reads in
      let before : taken.pages ≡ page_behind last (t.pages % 2 ^ 16) = after ∙ ap (page_behind last) kept.pages_are in
      let turn = turned taken next content.items last t (ap twin side ∙ kept.side_is) (some ∙ kept.some_is) (ended ∙ kept.ended_is) before turns in
      let over = over-now taken next content.items last t.ended (ended ∙ kept.ended_is) turns in
      rw is (
        sym (ap (λ r. fault_in (damage r)) read),
        λ none. subst (λ r. OutputStands new (behind_lines t r)) (sym read)
            (rw marked (goes (lines_of content.items) (turn_behind t last content.items) (last && t.ended) record {
              lines = refl;
              over_is = over;
              turn = record { side_is = turn.side_is; pages_are = turn.pages_are; some_is = turn.some_is; ended_is = turn.ended_is };
            })),
      ))

  -- and out of form
  pub output-damaged : (bad : BadPage) (cause : Cause) (new : OutputProc) → page_read j.pages last page ≡ Err bad → damage (Err bad) ≡ Some cause
      → (at : OutputPlace) → OutputStands j at → IsHanded (output_aims at) r → Takes output (OutputStands new) at r (Some (outcome.Fault cause))
  output-damaged bad cause new reads is_damage =
      takes-lines (λ at. Takes output (OutputStands new) at r (Some (outcome.Fault cause))) (λ t kept.
      let read : page_in_turn t page last ≡ Err bad = ap (λ n. page_read n last page) (sym kept.pages_are) ∙ reads in
      rw is (sym (ap (λ r. fault_in (damage r)) read ∙ ap fault_in is_damage), λ none. absurd cc))

pub no-page : {L : Type 0} (r : Reply L) → ((page : Page) (last : Bool) → r ≡ reply.Page page last → ⊥) → (at : OutputPlace) → IsHanded (output_aims at) r
    → ⊥
no-page (reply.Page page last) not (TakesLines t) handed = not page last refl
no-page r not (TakesLines t) handed = handed
no-page r not (PutsLine line later t over) handed = handed
no-page r not PutsOver handed = handed
no-page r not HasGathered handed = handed
