-- The job process does its next action, and its side of the buffers stands for one deed more.
use Rattle.std.proofs.Common.{◌≡◌, ◌⊎◌, inl, inr, ℕ, false, List, [], ◌∷◌, None, Some, refl, sym, ◌∙◌, ap, subst}
use Rattle.solo_base.specs.Text.{line_text}
use Rattle.solo_base.specs.declared.outcome.Side.{Side}
use Rattle.solo_base.specs.declared.outcome.Side.TheVariants.{Sender, Receiver}
use Rattle.network_law.specs.Acts.{At, Passes, made_stop}
use Rattle.network_law.specs.Network.{Follows, acts}
use Rattle.place_law.specs.Process.{Does, place, caused, next_action}
use Rattle.solo_law.specs.Work.{Plan}
use Rattle.solo_law.specs.Actions.{Action, Reply}
use Rattle.solo_law.specs.Actions as act
use Rattle.solo_law.specs.Buffers.{call}
use Rattle.solo_law.specs.Replies.{Fits, MayLack, view}
use Rattle.solo_law.specs.JobPlaces.{JobPlace, job_does, job}
use Rattle.solo_law.specs.JobPlaces as at
use Rattle.solo_law.specs.Solo.{solo, SoloEntry}
use Rattle.solo_law.proofs.Placed.{is-2}
use Rattle.solo_threads.specs.Threads.{Deed, entries}
use Rattle.solo_procs.specs.Said.{said}
use Rattle.solo_procs.specs.declared.actions.SoloAction.TheVariants as say
use Rattle.solo_procs.specs.declared.actions.SoloReply.{SoloReply}
use Rattle.solo_procs.specs.declared.actions.SoloReply.TheVariants as hear
use Rattle.slot_buffer.specs.declared.call.SlotCall.TheVariants as slot
use Rattle.solo_run.specs.declared.job_side.JobSide.{JobSide}
use Rattle.solo_run.specs.Job.{JobAtGates, JobMay, JobPerforms, JobWorld, JobRan, ordered_at, reported_at, job_stopped}
use Rattle.solo_run.specs.Running.{IsPlain, DidSo}
use Rattle.solo_run.proofs.DeviceSteps.{gained-of}
use Rattle.solo_run.proofs.JobArgs.{ordered-1, unordered-1, ordered-4, unordered-4, reported-3, unreported-3, reported-6, unreported-6}
use Rattle.solo_run.proofs.JobPagesStops.{paged, unpaged, carded, uncarded, lacked, stopped-1, stopped-2, stopped-3, stopped-4, stopped-5, stopped-6, ended}
use Rattle.solo_run.proofs.JobDevices.{accepted, displayed, undisplayed, unkept}
use Rattle.solo_run.proofs.NextDeeds.{OneOf, Free, Closing, does-so, running-at}

abbrev Same : ℕ → ℕ → Type 0
Same n m = n ≡ m

-- ---- what it does, and at which buffers
abbrev OneOfSix : ℕ → Type 0
OneOfSix b = (b ≡ 1) ⊎ ((b ≡ 2) ⊎ ((b ≡ 3) ⊎ ((b ≡ 4) ⊎ ((b ≡ 5) ⊎ (b ≡ 6)))))

abbrev pub JobDoes : Action → Type 0
JobDoes act.Accept = Unit {0}
JobDoes (act.Display line) = Unit {0}
JobDoes (act.PutArg b x) = (b ≡ 1) ⊎ (b ≡ 4)
JobDoes (act.TakeArg b) = (b ≡ 3) ⊎ (b ≡ 6)
JobDoes (act.PutPage b page) = b ≡ 5
JobDoes (act.TakePage b) = b ≡ 2
JobDoes (act.Works work) = Unit {0}
JobDoes (act.Stop b) = OneOfSix b
JobDoes (act.Ended how) = Unit {0}
JobDoes other = ⊥

at-places : (a : JobPlace) → JobDoes (job_does a)
at-places at.Listens = tt
at-places (at.Toils work) = tt
at-places (at.OrdersCards pages) = inl refl
at-places (at.TakesCards taken items pages) = refl
at-places (at.TakesReport items pages) = inl refl
at-places (at.Accepts pages) = tt
at-places (at.Displays line pages) = tt
at-places (at.OrdersPrinter page behind) = inr refl
at-places (at.PutsPage page behind pages) = refl
at-places (at.TakesPrinted lines) = inr refl
at-places (at.AnswersLine line later) = tt
at-places at.DismissesInput = inl refl
at-places at.DismissesOutput = inr refl
at-places at.HasLeft = tt

abbrev Six : List ℕ
Six = 1 ∷ 2 ∷ 3 ∷ 4 ∷ 5 ∷ 6 ∷ []

closing-does : (a : Action) → OneOf Six a → JobDoes a
closing-does a (inl e) = subst JobDoes (sym e) (inl refl)
closing-does a (inr (inl e)) = subst JobDoes (sym e) (inr (inl refl))
closing-does a (inr (inr (inl e))) = subst JobDoes (sym e) (inr (inr (inl refl)))
closing-does a (inr (inr (inr (inl e)))) = subst JobDoes (sym e) (inr (inr (inr (inl refl))))
closing-does a (inr (inr (inr (inr (inl e))))) = subst JobDoes (sym e) (inr (inr (inr (inr (inl refl)))))
closing-does a (inr (inr (inr (inr (inr (inl e)))))) = subst JobDoes (sym e) (inr (inr (inr (inr (inr refl)))))
closing-does a (inr (inr (inr (inr (inr (inr end)))))) = subst JobDoes (sym end.1) tt

pub job-does : (h : List SoloEntry) (a : Action) → next_action view job h ≡ Some a → JobDoes a
job-does h a next =
    elim (does-so job h a next) as (λ _. JobDoes a) [
      | Free free e ↦ subst JobDoes (sym e) (at-places (place job h))
      | Closing one ↦ closing-does a one
    ]

-- a stop, or the end
abbrev pub Closes : Action → Type 0
Closes (act.Stop b) = Unit {0}
Closes (act.Ended how) = Unit {0}
Closes other = ⊥

closing-closes : (a : Action) → OneOf Six a → Closes a
closing-closes a (inl e) = subst Closes (sym e) tt
closing-closes a (inr (inl e)) = subst Closes (sym e) tt
closing-closes a (inr (inr (inl e))) = subst Closes (sym e) tt
closing-closes a (inr (inr (inr (inl e)))) = subst Closes (sym e) tt
closing-closes a (inr (inr (inr (inr (inl e))))) = subst Closes (sym e) tt
closing-closes a (inr (inr (inr (inr (inr (inl e)))))) = subst Closes (sym e) tt
closing-closes a (inr (inr (inr (inr (inr (inr end)))))) = subst Closes (sym end.1) tt

-- who does anything else has no cause
pub job-free : (h : List SoloEntry) (a : Action) → next_action view job h ≡ Some a → (Closes a → ⊥) → caused view job h ≡ None
job-free h a next not =
    elim (does-so job h a next) as (λ _. caused view job h ≡ None) [
      | Free free e ↦ free
      | Closing one ↦ absurd (not (closing-closes a one))
    ]

module _ {Y T F : Type 0} (w : JobWorld Y T F) (plans : Plan → Type 0) (start old : JobSide Y T F) (deeds : List Deed)
    (ran : JobRan w plans start old deeds) where
  abbrev h : List SoloEntry
  h = entries deeds

  -- ---- it may
  running : (a : Action) (b : ℕ) (side : Side) → Follows solo 2 h → next_action view job h ≡ Some a → call 2 a ≡ At b side Passes
      → made_stop b side (acts solo 2 h) ≡ false
  running a b side follows next calls = running-at 2 h a b side is-2 follows next calls

  at-gates : JobAtGates old
  at-gates = record {
    card_orders = ran.card_orders.at;
    cards = ran.cards.at;
    card_reports = ran.card_reports.at;
    print_orders = ran.print_orders.at;
    pages = ran.pages.at;
    print_reports = ran.print_reports.at;
  }

  pub job-may : (a : Action) → Follows solo 2 h → next_action view job h ≡ Some a → (said a ≡ say.Work → ⊥) → JobMay old (said a)
  job-may a follows next not = by-action a (job-does h a next) next not where
    by-action : (a : Action) → JobDoes a → next_action view job h ≡ Some a → (said a ≡ say.Work → ⊥) → JobMay old (said a)
    by-action act.Accept does next not = ran.keys.live (job-free h act.Accept next (λ closes. closes))
    by-action (act.Display line) does next not = ran.console.live (job-free h (act.Display line) next (λ closes. closes))
    by-action (act.PutArg b x) (inl is) next not = (
      λ one. (
        ran.card_orders.at,
        ran.card_orders.calls.stops ∙ running (act.PutArg 1 x) 1 Sender follows (subst (λ b. next_action view job h ≡ Some
            (act.PutArg b x)) is next) refl,
      ),
      λ other. absurd (other is),
    )
    by-action (act.PutArg b x) (inr is) next not = (
      λ one. absurd (let no : Same 4 1 = sym is ∙ one in cc),
      λ other. (
        ran.print_orders.at,
        ran.print_orders.calls.stops ∙ running (act.PutArg 4 x) 4 Sender follows (subst (λ b. next_action view job h ≡ Some
            (act.PutArg b x)) is next) refl,
      ),
    )
    by-action (act.TakeArg b) (inl is) next not = (
      λ one. (
        ran.card_reports.at,
        ran.card_reports.calls.stops ∙ running (act.TakeArg 3) 3 Receiver follows (subst (λ b. next_action view job h ≡ Some
            (act.TakeArg b)) is next) refl,
      ),
      λ other. absurd (other is),
    )
    by-action (act.TakeArg b) (inr is) next not = (
      λ one. absurd (let no : Same 6 3 = sym is ∙ one in cc),
      λ other. (
        ran.print_reports.at,
        ran.print_reports.calls.stops ∙ running (act.TakeArg 6) 6 Receiver follows (subst (λ b. next_action view job h ≡ Some
            (act.TakeArg b)) is next) refl,
      ),
    )
    by-action (act.PutPage b page) is next not = (
      ran.pages.at,
      ran.pages.calls.stops ∙ running (act.PutPage 5 page) 5 Sender follows (subst (λ b. next_action view job h ≡ Some
          (act.PutPage b page)) is next) refl,
    )
    by-action (act.TakePage b) is next not = (
      ran.cards.at,
      ran.cards.calls.stops ∙ running (act.TakePage 2) 2 Receiver follows (subst (λ b. next_action view job h ≡ Some
          (act.TakePage b)) is next) refl,
    )
    by-action (act.Works work) does next not = absurd (not refl)
    by-action (act.Stop b) does next not = at-gates
    by-action (act.Ended how) does next not = tt
    by-action other does next not = absurd does

  -- ---- and stands for one deed more
  abbrev Did : JobSide Y T F → Action → SoloReply → Type 0
  Did new a reply = DidSo 2 (JobRan w plans start new) deeds a reply

  stop-did : (new : JobSide Y T F) (b : ℕ) → OneOfSix b → new ≡ job_stopped b old → Did new (act.Stop b) hear.Done
  stop-did new b (inl is) e = subst (λ b. Did new (act.Stop b) hear.Done) (sym is) record {
    answer = act.Done;
    gained = [];
    fits = tt;
    plain = refl;
    ran = stopped-1 w plans start old deeds ran new (e ∙ ap (λ b. job_stopped b old) is);
    lacks = λ can may. absurd may;
  }
  stop-did new b (inr (inl is)) e = subst (λ b. Did new (act.Stop b) hear.Done) (sym is) record {
    answer = act.Done;
    gained = [];
    fits = tt;
    plain = refl;
    ran = stopped-2 w plans start old deeds ran new (e ∙ ap (λ b. job_stopped b old) is);
    lacks = λ can may. absurd may;
  }
  stop-did new b (inr (inr (inl is))) e = subst (λ b. Did new (act.Stop b) hear.Done) (sym is) record {
    answer = act.Done;
    gained = [];
    fits = tt;
    plain = refl;
    ran = stopped-3 w plans start old deeds ran new (e ∙ ap (λ b. job_stopped b old) is);
    lacks = λ can may. absurd may;
  }
  stop-did new b (inr (inr (inr (inl is)))) e = subst (λ b. Did new (act.Stop b) hear.Done) (sym is) record {
    answer = act.Done;
    gained = [];
    fits = tt;
    plain = refl;
    ran = stopped-4 w plans start old deeds ran new (e ∙ ap (λ b. job_stopped b old) is);
    lacks = λ can may. absurd may;
  }
  stop-did new b (inr (inr (inr (inr (inl is))))) e = subst (λ b. Did new (act.Stop b) hear.Done) (sym is) record {
    answer = act.Done;
    gained = [];
    fits = tt;
    plain = refl;
    ran = stopped-5 w plans start old deeds ran new (e ∙ ap (λ b. job_stopped b old) is);
    lacks = λ can may. absurd may;
  }
  stop-did new b (inr (inr (inr (inr (inr is))))) e = subst (λ b. Did new (act.Stop b) hear.Done) (sym is) record {
    answer = act.Done;
    gained = [];
    fits = tt;
    plain = refl;
    ran = stopped-6 w plans start old deeds ran new (e ∙ ap (λ b. job_stopped b old) is);
    lacks = λ can may. absurd may;
  }

  -- by what was answered, at the buffer of a number
  plain-did : (new : JobSide Y T F) (a : Action) (reply : SoloReply) (answer : Reply) → Fits a answer → IsPlain reply answer
      → (MayLack a answer → ⊥) → JobRan w plans start new (record { entry = Does a answer; gained = [] } ∷ deeds) → Did new a reply
  plain-did new a reply answer fits plain not ran = record {
    answer = answer;
    gained = [];
    fits = fits;
    plain = plain;
    ran = ran;
    lacks = λ can may. absurd (not may);
  }

  carded-free : next_action view job h ≡ Some (act.TakePage 2) → caused view job h ≡ None
  carded-free next = job-free h (act.TakePage 2) next (λ closes. closes)

  pub job-did : (new : JobSide Y T F) (a : Action) (reply : SoloReply) → JobDoes a → next_action view job h ≡ Some a
      → JobPerforms w.left w.taken w.keys_faults w.given w.console_faults old new (said a) reply → Did new a reply
  job-did new (act.PutArg b x) (hear.Done) (inl is) next e =
      subst (λ b. Did new (act.PutArg b x) (hear.Done)) (sym is) (plain-did new _ (hear.Done) (act.Done) tt refl (λ may. may) (ordered-1 w plans start old deeds ran new x (e ∙ ap (λ b. ordered_at b (slot.Put x) old) is)))
  job-did new (act.PutArg b x) (hear.Done) (inr is) next e =
      subst (λ b. Did new (act.PutArg b x) (hear.Done)) (sym is) (plain-did new _ (hear.Done) (act.Done) tt refl (λ may. may) (ordered-4 w plans start old deeds ran new x (e ∙ ap (λ b. ordered_at b (slot.Put x) old) is)))
  job-did new (act.PutArg b x) (hear.Stopped) (inl is) next e =
      subst (λ b. Did new (act.PutArg b x) (hear.Stopped)) (sym is) (plain-did new _ (hear.Stopped) (act.Stopped) tt refl (λ may. may) (unordered-1 w plans start old deeds ran new x (e ∙ ap (λ b. ordered_at b (slot.PutRefused x) old) is)))
  job-did new (act.PutArg b x) (hear.Stopped) (inr is) next e =
      subst (λ b. Did new (act.PutArg b x) (hear.Stopped)) (sym is) (plain-did new _ (hear.Stopped) (act.Stopped) tt refl (λ may. may) (unordered-4 w plans start old deeds ran new x (e ∙ ap (λ b. ordered_at b (slot.PutRefused x) old) is)))
  job-did new (act.TakeArg b) (hear.Arg x) (inl is) next e =
      subst (λ b. Did new (act.TakeArg b) (hear.Arg x)) (sym is) (plain-did new _ (hear.Arg x) (act.OfArg x) tt refl (λ may. may) (reported-3 w plans start old deeds ran new x (e ∙ ap (λ b. reported_at b (slot.Take x) old) is)))
  job-did new (act.TakeArg b) (hear.Arg x) (inr is) next e =
      subst (λ b. Did new (act.TakeArg b) (hear.Arg x)) (sym is) (plain-did new _ (hear.Arg x) (act.OfArg x) tt refl (λ may. may) (reported-6 w plans start old deeds ran new x (e ∙ ap (λ b. reported_at b (slot.Take x) old) is)))
  job-did new (act.TakeArg b) (hear.Stopped) (inl is) next e =
      subst (λ b. Did new (act.TakeArg b) (hear.Stopped)) (sym is) (plain-did new _ (hear.Stopped) (act.Stopped) tt refl (λ may. may) (unreported-3 w plans start old deeds ran new (e ∙ ap (λ b. reported_at b slot.TakeRefused old) is)))
  job-did new (act.TakeArg b) (hear.Stopped) (inr is) next e =
      subst (λ b. Did new (act.TakeArg b) (hear.Stopped)) (sym is) (plain-did new _ (hear.Stopped) (act.Stopped) tt refl (λ may. may) (unreported-6 w plans start old deeds ran new (e ∙ ap (λ b. reported_at b slot.TakeRefused old) is)))
  job-did new (act.PutPage b page) (hear.Done) is next e =
      subst (λ b. Did new (act.PutPage b page) (hear.Done)) (sym is) (plain-did new _ (hear.Done) (act.Done) tt refl (λ may. may) (paged w plans start old deeds ran new page e))
  job-did new (act.PutPage b page) (hear.Stopped) is next e =
      subst (λ b. Did new (act.PutPage b page) (hear.Stopped)) (sym is) (plain-did new _ (hear.Stopped) (act.Stopped) tt refl (λ may. may) (unpaged w plans start old deeds ran new page e))
  job-did new (act.TakePage b) (hear.Page page) is next e =
      subst (λ b. Did new (act.TakePage b) (hear.Page page)) (sym is) record {
        answer = act.OfPage page;
        gained = [];
        fits = tt;
        plain = refl;
        ran = carded w plans start old deeds ran new page e;
        lacks = λ can may. lacked w plans start old deeds ran new page (carded-free (subst (λ b. next_action view job h ≡ Some (act.TakePage b)) is next)) e;
      }
  job-did new (act.TakePage b) (hear.Stopped) is next e =
      subst (λ b. Did new (act.TakePage b) (hear.Stopped)) (sym is) (plain-did new _ (hear.Stopped) (act.Stopped) tt refl (λ may. may) (uncarded w plans start old deeds ran new e))
  job-did new act.Accept (hear.Card answer) does next e =
      plain-did new act.Accept (hear.Card answer) (act.OfCard answer) e.1.line refl (λ may. may)
      (accepted w plans start old deeds ran new answer (job-free h act.Accept next (λ closes. closes)) e.0 e.1 e.2)
  job-did new (act.Display line) hear.Done does next e = record {
    answer = act.Done;
    gained = (gained-of (w.given old.typewriter.console.sink) (w.given new.typewriter.console.sink) (line_text line) (hear.Done ≡ hear.Done) e.1.gains).gained;
    fits = tt;
    plain = refl;
    ran = displayed w plans start old deeds ran new line (job-free h (act.Display line) next (λ closes. closes)) e.0 e.1 e.2;
    lacks = λ can may. absurd may;
  }
  job-did new (act.Display line) hear.Failed does next e = record {
    answer = act.Failed;
    gained = (gained-of (w.given old.typewriter.console.sink) (w.given new.typewriter.console.sink) (line_text line) (hear.Failed ≡ hear.Done) e.1.gains).gained;
    fits = tt;
    plain = refl;
    ran = undisplayed w plans start old deeds ran new line (job-free h (act.Display line) next (λ closes. closes)) e.0 e.1 e.2;
    lacks = λ can may. absurd may;
  }
  job-did new (act.Display line) hear.NoMemory does next e = record {
    answer = act.NoMemory;
    gained = (gained-of (w.given old.typewriter.console.sink) (w.given new.typewriter.console.sink) (line_text line) (hear.NoMemory ≡ hear.Done) e.1.gains).gained;
    fits = tt;
    plain = refl;
    ran = unkept w plans start old deeds ran new line (job-free h (act.Display line) next (λ closes. closes)) e.0 e.1 e.2;
    lacks = λ can may. absurd may;
  }
  job-did new (act.Stop b) hear.Done does next e = stop-did new b does e
  job-did new (act.Ended how) hear.Done does next e =
      plain-did new (act.Ended how) hear.Done act.Done tt refl (λ may. may) (ended w plans start old deeds ran new how e)
  job-did new (act.Display line) reply does next e = absurd e.1.replies
  job-did new a reply does next e = absurd e
