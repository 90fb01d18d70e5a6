-- From what is done to the entry of the process.
use Rattle.std.proofs.Common.{◌≡◌, ◌↔◌, ℕ, Bool, true, false, List, ◌∷◌, Option, None, Some, refl, sym, ◌∙◌, ap, subst}
use Rattle.std.specs.Prelude.{IsTrue}
use Rattle.batch_procs.specs.declared.actions.Reply.{Reply}
use Rattle.batch_procs.specs.declared.actions.Reply.TheVariants as reply
use Rattle.batch_procs.specs.Jobs.{Jobs}
use Rattle.place_law.specs.Process.{Does, LacksMemory, Delays}
use Rattle.network_run.specs.declared.stepped.Stepped.{Stepped}
use Rattle.network_run.specs.declared.stepped.Stepped.TheVariants.{Delayed}
use Rattle.network_law.specs.Acts.{is_delayed}
use Rattle.network_law.specs.Network.{MayCall}
use Rattle.network_law.specs.Stepping.{is_again, stepped_so}
use Rattle.twin_law.specs.Process.{Action, ReadCard, PutFeed, TakeFeed, AwaitRoom, AwaitItem, Request, PutPage, TakePage, Load, Release, Local, Print, Stop, Ended, Entry, Process, is_end, has_ended, next_by, closing, unless_ended, next_action}
use Rattle.twin_law.specs.Twin.{call, went_by, Fits, MayLack, TwinState}
use Rattle.twin_ends.specs.TwinTells.{TwinTells, TwinCounts}
use Rattle.twin_ends.specs.TwinCalls.{entry_for}
use Rattle.twin_procs.specs.declared.actions.TwinAction.{TwinAction}
use Rattle.twin_procs.specs.Said.{said, is_end_said}
use Rattle.twin_procs.specs.Machine.{NextIs}
use Rattle.twin_net.specs.declared.shared.TwinShared.{TwinShared}
use Rattle.twin_net.specs.TwinStands.{TwinStands}
use Rattle.twin_net.specs.Doing.{meant, DoneSo}
use Rattle.twin_net.specs.Turns.{TwinHasPlace, TwinIsAtTurn}
use Rattle.twin_net.specs.Steps.{TwinEnters, TwinSteps}

-- ---- what is said
pub meant-said : (a : Action) → meant (said a) ≡ a
meant-said ReadCard = refl
meant-said (PutFeed b f) = refl
meant-said (TakeFeed b) = refl
meant-said (AwaitRoom b) = refl
meant-said (AwaitItem b) = refl
meant-said Request = refl
meant-said (PutPage b page) = refl
meant-said (TakePage b) = refl
meant-said (Load file) = refl
meant-said Release = refl
meant-said Local = refl
meant-said (Print line) = refl
meant-said (Stop b) = refl
meant-said (Ended how) = refl

end-said : (a : Action) → is_end_said (said a) ≡ is_end a
end-said ReadCard = refl
end-said (PutFeed b f) = refl
end-said (TakeFeed b) = refl
end-said (AwaitRoom b) = refl
end-said (AwaitItem b) = refl
end-said Request = refl
end-said (PutPage b page) = refl
end-said (TakePage b) = refl
end-said (Load file) = refl
end-said Release = refl
end-said Local = refl
end-said (Print line) = refl
end-said (Stop b) = refl
end-said (Ended how) = refl

-- the action that is next is meant by what is said
pub next-meant : (next : Option Action) (a : Action) (s : TwinAction) → NextIs next s → next ≡ Some a → said a ≡ s
next-meant next a s is e = let P : Option Action → Type 0 = λ n. NextIs n s in (subst P e is)

-- ---- whether it is at its turn
some-next : (t : Bool) (a : Action) → t ≡ false → (b : Action) × (unless_ended t a ≡ Some b)
some-next false a e = (a, refl)
some-next true a e = absurd cc

same-action : (a b : Action) (next : Option Action) → next ≡ Some a → next ≡ Some b → a ≡ b
same-action a b next first second = cc

module _ {L : Type 0} (p : Process L) (h : List (Entry L)) (s : TwinState L) (n : ℕ) where
  pub never-at-turn : (t : Bool) → t ≡ has_ended h → t ≡ true → TwinIsAtTurn p h s n → ⊥
  never-at-turn t is ended at =
      (let none : next_action p h ≡ None = ap (λ t. unless_ended t (next_by p (closing p h) h)) (sym is ∙ ended) in let some = at.next in cc)

  pub at-turn : (t may : Bool) (said_now : TwinAction) → t ≡ has_ended h → t ≡ false → NextIs (next_action p h) said_now
      → (TwinHasPlace s n (meant said_now) → IsTrue may ↔ MayCall s n (call n (meant said_now)))
      → ((action : Action) → next_action p h ≡ Some action → TwinHasPlace s n action) → IsTrue may ↔ TwinIsAtTurn p h s n
  at-turn t may said_now is goes says each places =
      let (a, next) = some-next (has_ended h) (next_by p (closing p h) h) (sym is ∙ goes) in
      let same : meant said_now ≡ a = ap meant (sym (next-meant (next_action p h) a said_now says next)) ∙ meant-said a in
      let both = each (subst (λ a. TwinHasPlace s n a) (sym same) (places a next)) in (
        λ yes_it_is. record { action = a; next = next; may = subst (λ a. MayCall s n (call n a)) same (both.0 yes_it_is) },
        λ at. both.1 (subst (λ a. MayCall s n (call n a)) (same-action at.action a (next_action p h) at.next next ∙ sym same) at.may),
      )

-- ---- a step of a machine
same-stepped : (d e g x y z : Bool) → d ≡ x → e ≡ y → g ≡ z → stepped_so d e g ≡ stepped_so x y z
same-stepped d e g x y z i j k = rw (i, j, k) refl

-- only a call that waits is delayed
answered-by : {L : Type 0} (a : Action) (r : Reply L) → is_delayed (went_by a r) ≡ false
answered-by (PutFeed b f) reply.Done = refl
answered-by (PutPage b page) reply.Done = refl
answered-by (TakeFeed b) (reply.Feed f) = refl
answered-by (TakePage b) (reply.Page page last) = refl
answered-by a reply.Stopped = refl
answered-by a r = refl

module _ {L : Type 0} (J : Jobs L) where
  module _ {X S K F A : Type 0} (tells : TwinTells L S K F A) (counts : TwinCounts S K F A) (old new : TwinShared X S K F A) (p : ℕ) where
    enters : (a : Action) (result : Option (Reply L)) → DoneSo J tells counts old new p a result → TwinEnters tells old new p a (entry_for a result)
    enters a None is = record {
      gained = is.gained;
      deck = is.deck;
      total = is.total;
      files = is.files;
      sound = is.sound;
      deck_live = is.deck_live;
      paper_live = is.paper_live;
      fits = is.fits;
      allowed = is.allowed;
      after = is.after;
    }
    enters a (Some r) is = record {
      gained = is.gained;
      deck = is.deck;
      total = is.total;
      files = is.files;
      sound = is.sound;
      deck_live = is.deck_live;
      paper_live = is.paper_live;
      fits = is.fits;
      allowed = is.allowed;
      after = is.after;
    }

    enters-lacking : (a : Action) (r : Reply L) → MayLack a r → DoneSo J tells counts old new p a (Some r) → TwinEnters tells old new p a (LacksMemory a r)
    enters-lacking (TakePage b) (reply.Page page last) may is = record {
      gained = is.gained;
      deck = is.deck;
      total = is.total;
      files = is.files;
      sound = is.sound;
      deck_live = is.deck_live;
      paper_live = is.paper_live;
      fits = is.fits;
      allowed = is.allowed;
      after = is.after;
    }
    enters-lacking Local reply.Done may is = record {
      gained = is.gained;
      deck = is.deck;
      total = is.total;
      files = is.files;
      sound = is.sound;
      deck_live = is.deck_live;
      paper_live = is.paper_live;
      fits = is.fits;
      allowed = is.allowed;
      after = is.after;
    }
    enters-lacking a r may is = absurd may

  module _ {X S K F A : Type 0} (process : Process L) (Stands : List (Entry L) → Type 0) (tells : TwinTells L S K F A) (counts : TwinCounts S K F A)
      (old new : TwinShared X S K F A) (p : ℕ) (a : Action) (s : TwinAction) (h : List (Entry L)) (same : said a ≡ s) where
    means : meant s ≡ a
    means = ap meant (sym same) ∙ meant-said a

    own : (result : Option (Reply L)) → DoneSo J tells counts old new p (meant s) result → DoneSo J tells counts old new p a result
    own result is = subst (λ a. DoneSo J tells counts old new p a result) means is

    pub steps-delayed : DoneSo J tells counts old new p (meant s) None → Stands (Delays a ∷ h) → TwinSteps J process Stands tells counts old new p a h Delayed
    steps-delayed is stands = (let is = own None is in record {
      entry = Delays a;
      told = λ s stood place. refl;
      action_is = refl;
      suits = is.suits;
      stands = stands;
      causes = is.causes;
      enters = enters tells counts old new p a None is;
    })

    module _ (ends again : Bool) (result : Stepped) (result_is : result ≡ stepped_so false ends again) (ends_is : ends ≡ is_end_said s)
        (again_is : (at : TwinState L) → TwinStands tells old at → TwinHasPlace at p (meant s) → again ≡ is_again at (call p (meant s))) where
      told-so : (r : Reply L) (at : TwinState L) → TwinStands tells old at → TwinHasPlace at p a
          → result ≡ stepped_so (is_delayed (went_by a r)) (is_end a) (is_again at (call p a))
      told-so r at stood place =
          let end : ends ≡ is_end a = ends_is ∙ ap is_end_said (sym same) ∙ end-said a in
          let again_so = again_is at stood (subst (λ a. TwinHasPlace at p a) (sym means) place) ∙ ap (λ a. is_again at (call p a)) means in
          result_is ∙ same-stepped _ _ _ _ _ _ (sym (answered-by a r)) end again_so

      pub steps-acted : (r : Reply L) → DoneSo J tells counts old new p (meant s) (Some r) → (Fits a r → Stands (Does a r ∷ h))
          → TwinSteps J process Stands tells counts old new p a h result
      steps-acted r is stands = (let is = own (Some r) is in record {
        entry = Does a r;
        told = told-so r;
        action_is = refl;
        suits = is.suits;
        stands = stands is.suits.0;
        causes = is.causes;
        enters = enters tells counts old new p a (Some r) is;
      })

      pub steps-lacking : (r : Reply L) → DoneSo J tells counts old new p (meant s) (Some r)
          → (Fits a r → (process.works ≡ true) × MayLack a r × Stands (LacksMemory a r ∷ h)) → TwinSteps J process Stands tells counts old new p a h result
      steps-lacking r is lacks = (let is = own (Some r) is in let lack = lacks is.suits.0 in record {
        entry = LacksMemory a r;
        told = told-so r;
        action_is = refl;
        suits = (lack.0, lack.1);
        stands = lack.2;
        causes = is.causes;
        enters = enters-lacking tells counts old new p a r lack.1 is;
      })
