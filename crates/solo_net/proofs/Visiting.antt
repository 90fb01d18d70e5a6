-- A call on one of the six buffers.
use Rattle.std.proofs.Common.{◌≡◌, inl, inr, ℕ, Option, Some, refl, sym, ◌∙◌, ap, subst, arith, lit≤}
use Rattle.std.proofs.lemmas.Bool.Decides.{eqb_tells}
use Rattle.solo_base.specs.declared.page.Page.{Page}
use Rattle.solo_base.specs.declared.system_call.Arg.{Arg}
use Rattle.solo_base.specs.declared.outcome.Side.{Side}
use Rattle.solo_base.specs.declared.outcome.Side.TheVariants.{Sender, Receiver}
use Rattle.slot_buffer.specs.declared.answers.Put.{Put}
use Rattle.slot_buffer.specs.declared.answers.Take.{Take}
use Rattle.slot_buffer.specs.Slot.{Slot, put_answer, after_put, take_answer, after_take, after_stop}
use Rattle.network_law.specs.Acts.{Visit, At, Passes, Stops}
use Rattle.network_law.specs.Buffer.{Buffer}
use Rattle.exchange_law.specs.Parcels.{Parcel, OfArg, OfPage}
use Rattle.place_law.specs.Process.{went}
use Rattle.solo_law.specs.Actions.{Action}
use Rattle.solo_law.specs.Actions as act
use Rattle.solo_law.specs.Buffers.{call, side_at}
use Rattle.solo_law.specs.Replies.{view}
use Rattle.solo_law.specs.Holds.{IsBuffer}
use Rattle.solo_procs.specs.declared.actions.SoloReply.{SoloReply}
use Rattle.solo_procs.specs.declared.actions.SoloReply.TheVariants as hear
use Rattle.solo_net.specs.declared.buffers.Buffers.{Buffers}
use Rattle.solo_net.specs.Actions.{IsArgBuffer, IsPageBuffer}
use Rattle.solo_net.specs.Replies.{put_said, arg_said, page_said, entry_of, SoloReplyFits}
use Rattle.solo_net.specs.SixBuffers.{SoloBuffersStand, sides_at, SoloVisited}
use Rattle.solo_net.proofs.SlotCalls.{put_went, take_went, SlotVisited, put-visited, take-visited, stop-visited}

-- ---- numbers
pub each-buffer : (P : ℕ → Type 0) (b : ℕ) → IsBuffer b → P 1 → P 2 → P 3 → P 4 → P 5 → P 6 → P b
each-buffer P b is one two three four five six =
    elim (eqb_tells b 1) as (λ _. P b) [
      | inl a ↦ subst P (sym a.1) one
      | inr a ↦ elim (eqb_tells b 2) as (λ _. P b) [
        | inl c ↦ subst P (sym c.1) two
        | inr c ↦ elim (eqb_tells b 3) as (λ _. P b) [
          | inl d ↦ subst P (sym d.1) three
          | inr d ↦ elim (eqb_tells b 4) as (λ _. P b) [
            | inl e ↦ subst P (sym e.1) four
            | inr e ↦ elim (eqb_tells b 5) as (λ _. P b) [
              | inl f ↦ subst P (sym f.1) five
              | inr f ↦
                  let a = a.1 in let c = c.1 in let d = d.1 in let e = e.1 in let f = f.1 in let low = is.0 in let high = is.1 in
                  let last : b ≡ 6 = omega (arith, a, c, d, e, f, low, high) in subst P (sym last) six
            ]
          ]
        ]
      ]
    ]

pub last-arg : (b : ℕ) → IsArgBuffer b → (b ≡ 1 → ⊥) → (b ≡ 3 → ⊥) → (b ≡ 4 → ⊥) → b ≡ 6
last-arg b (inl one) a c d = absurd (a one)
last-arg b (inr (inl three)) a c d = absurd (c three)
last-arg b (inr (inr (inl four))) a c d = absurd (d four)
last-arg b (inr (inr (inr six))) a c d = six

pub last-page : (b : ℕ) → IsPageBuffer b → (b ≡ 2 → ⊥) → b ≡ 5
last-page b (inl two) a = absurd (a two)
last-page b (inr five) a = five

pub last-buffer : (b : ℕ) → IsBuffer b → (b ≡ 1 → ⊥) → (b ≡ 2 → ⊥) → (b ≡ 3 → ⊥) → (b ≡ 4 → ⊥) → (b ≡ 5 → ⊥) → b ≡ 6
last-buffer b is a c d e f = (let low = is.0 in let high = is.1 in omega (arith, a, c, d, e, f, low, high))

pub arg-is : (b : ℕ) → IsArgBuffer b → IsBuffer b
arg-is b (inl is) = subst IsBuffer (sym is) (lit≤ tt, lit≤ tt)
arg-is b (inr (inl is)) = subst IsBuffer (sym is) (lit≤ tt, lit≤ tt)
arg-is b (inr (inr (inl is))) = subst IsBuffer (sym is) (lit≤ tt, lit≤ tt)
arg-is b (inr (inr (inr is))) = subst IsBuffer (sym is) (lit≤ tt, lit≤ tt)

pub page-is : (b : ℕ) → IsPageBuffer b → IsBuffer b
page-is b (inl is) = subst IsBuffer (sym is) (lit≤ tt, lit≤ tt)
page-is b (inr is) = subst IsBuffer (sym is) (lit≤ tt, lit≤ tt)

-- ---- the sides are those of the law's buffers
pub sides-are : (six : Buffers) (buffers : ℕ → Buffer Parcel) → SoloBuffersStand six buffers → (b : ℕ) → IsBuffer b → (buffers b).sides ≡ sides_at six b
sides-are six buffers st b is =
    each-buffer (λ b. (buffers b).sides ≡ sides_at six b) b is
    (ap (λ (x : Buffer Parcel). x.sides) st.card_orders.is)
    (ap (λ (x : Buffer Parcel). x.sides) st.card_pages.is)
    (ap (λ (x : Buffer Parcel). x.sides) st.card_reports.is)
    (ap (λ (x : Buffer Parcel). x.sides) st.print_orders.is)
    (ap (λ (x : Buffer Parcel). x.sides) st.print_pages.is)
    (ap (λ (x : Buffer Parcel). x.sides) st.print_reports.is)

-- ---- a call on one
at-1 : (old : Buffers) (new : Slot Arg) (p : ℕ) (action : Action) (result : Option SoloReply) (side : Side) (visit : Visit)
    → call p action ≡ At 1 side visit → SoloReplyFits action result
    → SlotVisited OfArg old.card_orders new side visit p (went view (entry_of action result))
    → SoloVisited old (record old { card_orders = new }) p action result
at-1 old new p action result side visit e suits v = record {
  suits = suits;
  fits = λ s st. rw e (v.fits (s.buffers 1) st.card_orders);
  after = λ buffers st. record {
    card_orders = rw e (v.after (buffers 1) st.card_orders);
    card_pages = rw e st.card_pages;
    card_reports = rw e st.card_reports;
    print_orders = rw e st.print_orders;
    print_pages = rw e st.print_pages;
    print_reports = rw e st.print_reports;
  };
}

at-2 : (old : Buffers) (new : Slot Page) (p : ℕ) (action : Action) (result : Option SoloReply) (side : Side) (visit : Visit)
    → call p action ≡ At 2 side visit → SoloReplyFits action result
    → SlotVisited OfPage old.card_pages new side visit p (went view (entry_of action result))
    → SoloVisited old (record old { card_pages = new }) p action result
at-2 old new p action result side visit e suits v = record {
  suits = suits;
  fits = λ s st. rw e (v.fits (s.buffers 2) st.card_pages);
  after = λ buffers st. record {
    card_orders = rw e st.card_orders;
    card_pages = rw e (v.after (buffers 2) st.card_pages);
    card_reports = rw e st.card_reports;
    print_orders = rw e st.print_orders;
    print_pages = rw e st.print_pages;
    print_reports = rw e st.print_reports;
  };
}

at-3 : (old : Buffers) (new : Slot Arg) (p : ℕ) (action : Action) (result : Option SoloReply) (side : Side) (visit : Visit)
    → call p action ≡ At 3 side visit → SoloReplyFits action result
    → SlotVisited OfArg old.card_reports new side visit p (went view (entry_of action result))
    → SoloVisited old (record old { card_reports = new }) p action result
at-3 old new p action result side visit e suits v = record {
  suits = suits;
  fits = λ s st. rw e (v.fits (s.buffers 3) st.card_reports);
  after = λ buffers st. record {
    card_orders = rw e st.card_orders;
    card_pages = rw e st.card_pages;
    card_reports = rw e (v.after (buffers 3) st.card_reports);
    print_orders = rw e st.print_orders;
    print_pages = rw e st.print_pages;
    print_reports = rw e st.print_reports;
  };
}

at-4 : (old : Buffers) (new : Slot Arg) (p : ℕ) (action : Action) (result : Option SoloReply) (side : Side) (visit : Visit)
    → call p action ≡ At 4 side visit → SoloReplyFits action result
    → SlotVisited OfArg old.print_orders new side visit p (went view (entry_of action result))
    → SoloVisited old (record old { print_orders = new }) p action result
at-4 old new p action result side visit e suits v = record {
  suits = suits;
  fits = λ s st. rw e (v.fits (s.buffers 4) st.print_orders);
  after = λ buffers st. record {
    card_orders = rw e st.card_orders;
    card_pages = rw e st.card_pages;
    card_reports = rw e st.card_reports;
    print_orders = rw e (v.after (buffers 4) st.print_orders);
    print_pages = rw e st.print_pages;
    print_reports = rw e st.print_reports;
  };
}

at-5 : (old : Buffers) (new : Slot Page) (p : ℕ) (action : Action) (result : Option SoloReply) (side : Side) (visit : Visit)
    → call p action ≡ At 5 side visit → SoloReplyFits action result
    → SlotVisited OfPage old.print_pages new side visit p (went view (entry_of action result))
    → SoloVisited old (record old { print_pages = new }) p action result
at-5 old new p action result side visit e suits v = record {
  suits = suits;
  fits = λ s st. rw e (v.fits (s.buffers 5) st.print_pages);
  after = λ buffers st. record {
    card_orders = rw e st.card_orders;
    card_pages = rw e st.card_pages;
    card_reports = rw e st.card_reports;
    print_orders = rw e st.print_orders;
    print_pages = rw e (v.after (buffers 5) st.print_pages);
    print_reports = rw e st.print_reports;
  };
}

at-6 : (old : Buffers) (new : Slot Arg) (p : ℕ) (action : Action) (result : Option SoloReply) (side : Side) (visit : Visit)
    → call p action ≡ At 6 side visit → SoloReplyFits action result
    → SlotVisited OfArg old.print_reports new side visit p (went view (entry_of action result)) → SoloVisited old
    (record old { print_reports = new }) p action result
at-6 old new p action result side visit e suits v = record {
  suits = suits;
  fits = λ s st. rw e (v.fits (s.buffers 6) st.print_reports);
  after = λ buffers st. record {
    card_orders = rw e st.card_orders;
    card_pages = rw e st.card_pages;
    card_reports = rw e st.card_reports;
    print_orders = rw e st.print_orders;
    print_pages = rw e st.print_pages;
    print_reports = rw e (v.after (buffers 6) st.print_reports);
  };
}

-- ---- puts and takes: arguments
put_arg-suits : (b : ℕ) (x : Arg) (answer : Put Arg) → SoloReplyFits (act.PutArg b x) (put_said answer)
put_arg-suits b x Put.Done = tt
put_arg-suits b x (Put.Delayed back) = tt
put_arg-suits b x (Put.Stopped back) = tt

put_arg-went : (b : ℕ) (x : Arg) (answer : Put Arg) → went view (entry_of (act.PutArg b x) (put_said answer)) ≡ put_went OfArg x answer
put_arg-went b x Put.Done = refl
put_arg-went b x (Put.Delayed back) = refl
put_arg-went b x (Put.Stopped back) = refl

take_arg-suits : (b : ℕ) (answer : Take Arg) → SoloReplyFits (act.TakeArg b) (arg_said answer)
take_arg-suits b (Take.Item x) = tt
take_arg-suits b Take.Delayed = tt
take_arg-suits b Take.Stopped = tt

take_arg-went : (b : ℕ) (answer : Take Arg) → went view (entry_of (act.TakeArg b) (arg_said answer)) ≡ take_went OfArg answer
take_arg-went b (Take.Item x) = refl
take_arg-went b Take.Delayed = refl
take_arg-went b Take.Stopped = refl

-- ---- puts and takes: pages
put_page-suits : (b : ℕ) (x : Page) (answer : Put Page) → SoloReplyFits (act.PutPage b x) (put_said answer)
put_page-suits b x Put.Done = tt
put_page-suits b x (Put.Delayed back) = tt
put_page-suits b x (Put.Stopped back) = tt

put_page-went : (b : ℕ) (x : Page) (answer : Put Page) → went view (entry_of (act.PutPage b x) (put_said answer)) ≡ put_went OfPage x answer
put_page-went b x Put.Done = refl
put_page-went b x (Put.Delayed back) = refl
put_page-went b x (Put.Stopped back) = refl

take_page-suits : (b : ℕ) (answer : Take Page) → SoloReplyFits (act.TakePage b) (page_said answer)
take_page-suits b (Take.Item x) = tt
take_page-suits b Take.Delayed = tt
take_page-suits b Take.Stopped = tt

take_page-went : (b : ℕ) (answer : Take Page) → went view (entry_of (act.TakePage b) (page_said answer)) ≡ take_went OfPage answer
take_page-went b (Take.Item x) = refl
take_page-went b Take.Delayed = refl
take_page-went b Take.Stopped = refl

module _ (old : Buffers) (p b : ℕ) (result : Option SoloReply) where
  pub put-1 : (x : Arg) (answer : Put Arg) (new : Slot Arg) → result ≡ put_said answer → answer ≡ put_answer old.card_orders x
      → new ≡ after_put old.card_orders p x answer → b ≡ 1 → SoloVisited old (record old { card_orders = new }) p (act.PutArg b x) result
  put-1 x answer new said is now number =
      subst (λ r. SoloVisited old (record old { card_orders = new }) p (act.PutArg b x) r) (sym said)
      (at-1 old new p (act.PutArg b x) (put_said answer) Sender Passes (ap (λ b. At b Sender Passes) number) (put_arg-suits b x answer)
      (subst (SlotVisited OfArg old.card_orders new Sender Passes p) (sym (put_arg-went b x answer))
      (put-visited OfArg old.card_orders p x answer new is now)))

  pub take-1 : (answer : Take Arg) (new : Slot Arg) → result ≡ arg_said answer → answer ≡ take_answer old.card_orders
      → new ≡ after_take old.card_orders p answer → b ≡ 1 → SoloVisited old (record old { card_orders = new }) p (act.TakeArg b) result
  take-1 answer new said is now number =
      subst (λ r. SoloVisited old (record old { card_orders = new }) p (act.TakeArg b) r) (sym said)
      (at-1 old new p (act.TakeArg b) (arg_said answer) Receiver Passes (ap (λ b. At b Receiver Passes) number) (take_arg-suits b answer)
      (subst (SlotVisited OfArg old.card_orders new Receiver Passes p) (sym (take_arg-went b answer))
      (take-visited OfArg old.card_orders p answer new is now)))

  pub put-2 : (x : Page) (answer : Put Page) (new : Slot Page) → result ≡ put_said answer → answer ≡ put_answer old.card_pages x
      → new ≡ after_put old.card_pages p x answer → b ≡ 2 → SoloVisited old (record old { card_pages = new }) p (act.PutPage b x) result
  put-2 x answer new said is now number =
      subst (λ r. SoloVisited old (record old { card_pages = new }) p (act.PutPage b x) r) (sym said)
      (at-2 old new p (act.PutPage b x) (put_said answer) Sender Passes (ap (λ b. At b Sender Passes) number) (put_page-suits b x answer)
      (subst (SlotVisited OfPage old.card_pages new Sender Passes p) (sym (put_page-went b x answer))
      (put-visited OfPage old.card_pages p x answer new is now)))

  pub take-2 : (answer : Take Page) (new : Slot Page) → result ≡ page_said answer → answer ≡ take_answer old.card_pages
      → new ≡ after_take old.card_pages p answer → b ≡ 2 → SoloVisited old (record old { card_pages = new }) p (act.TakePage b) result
  take-2 answer new said is now number =
      subst (λ r. SoloVisited old (record old { card_pages = new }) p (act.TakePage b) r) (sym said)
      (at-2 old new p (act.TakePage b) (page_said answer) Receiver Passes (ap (λ b. At b Receiver Passes) number) (take_page-suits b answer)
      (subst (SlotVisited OfPage old.card_pages new Receiver Passes p) (sym (take_page-went b answer))
      (take-visited OfPage old.card_pages p answer new is now)))

  pub put-3 : (x : Arg) (answer : Put Arg) (new : Slot Arg) → result ≡ put_said answer → answer ≡ put_answer old.card_reports x
      → new ≡ after_put old.card_reports p x answer → b ≡ 3 → SoloVisited old (record old { card_reports = new }) p (act.PutArg b x) result
  put-3 x answer new said is now number =
      subst (λ r. SoloVisited old (record old { card_reports = new }) p (act.PutArg b x) r) (sym said)
      (at-3 old new p (act.PutArg b x) (put_said answer) Sender Passes (ap (λ b. At b Sender Passes) number) (put_arg-suits b x answer)
      (subst (SlotVisited OfArg old.card_reports new Sender Passes p) (sym (put_arg-went b x answer))
      (put-visited OfArg old.card_reports p x answer new is now)))

  pub take-3 : (answer : Take Arg) (new : Slot Arg) → result ≡ arg_said answer → answer ≡ take_answer old.card_reports
      → new ≡ after_take old.card_reports p answer → b ≡ 3 → SoloVisited old (record old { card_reports = new }) p (act.TakeArg b) result
  take-3 answer new said is now number =
      subst (λ r. SoloVisited old (record old { card_reports = new }) p (act.TakeArg b) r) (sym said)
      (at-3 old new p (act.TakeArg b) (arg_said answer) Receiver Passes (ap (λ b. At b Receiver Passes) number) (take_arg-suits b answer)
      (subst (SlotVisited OfArg old.card_reports new Receiver Passes p) (sym (take_arg-went b answer))
      (take-visited OfArg old.card_reports p answer new is now)))

  pub put-4 : (x : Arg) (answer : Put Arg) (new : Slot Arg) → result ≡ put_said answer → answer ≡ put_answer old.print_orders x
      → new ≡ after_put old.print_orders p x answer → b ≡ 4 → SoloVisited old (record old { print_orders = new }) p (act.PutArg b x) result
  put-4 x answer new said is now number =
      subst (λ r. SoloVisited old (record old { print_orders = new }) p (act.PutArg b x) r) (sym said)
      (at-4 old new p (act.PutArg b x) (put_said answer) Sender Passes (ap (λ b. At b Sender Passes) number) (put_arg-suits b x answer)
      (subst (SlotVisited OfArg old.print_orders new Sender Passes p) (sym (put_arg-went b x answer))
      (put-visited OfArg old.print_orders p x answer new is now)))

  pub take-4 : (answer : Take Arg) (new : Slot Arg) → result ≡ arg_said answer → answer ≡ take_answer old.print_orders
      → new ≡ after_take old.print_orders p answer → b ≡ 4 → SoloVisited old (record old { print_orders = new }) p (act.TakeArg b) result
  take-4 answer new said is now number =
      subst (λ r. SoloVisited old (record old { print_orders = new }) p (act.TakeArg b) r) (sym said)
      (at-4 old new p (act.TakeArg b) (arg_said answer) Receiver Passes (ap (λ b. At b Receiver Passes) number) (take_arg-suits b answer)
      (subst (SlotVisited OfArg old.print_orders new Receiver Passes p) (sym (take_arg-went b answer))
      (take-visited OfArg old.print_orders p answer new is now)))

  pub put-5 : (x : Page) (answer : Put Page) (new : Slot Page) → result ≡ put_said answer → answer ≡ put_answer old.print_pages x
      → new ≡ after_put old.print_pages p x answer → b ≡ 5 → SoloVisited old (record old { print_pages = new }) p (act.PutPage b x) result
  put-5 x answer new said is now number =
      subst (λ r. SoloVisited old (record old { print_pages = new }) p (act.PutPage b x) r) (sym said)
      (at-5 old new p (act.PutPage b x) (put_said answer) Sender Passes (ap (λ b. At b Sender Passes) number) (put_page-suits b x answer)
      (subst (SlotVisited OfPage old.print_pages new Sender Passes p) (sym (put_page-went b x answer))
      (put-visited OfPage old.print_pages p x answer new is now)))

  pub take-5 : (answer : Take Page) (new : Slot Page) → result ≡ page_said answer → answer ≡ take_answer old.print_pages
      → new ≡ after_take old.print_pages p answer → b ≡ 5 → SoloVisited old (record old { print_pages = new }) p (act.TakePage b) result
  take-5 answer new said is now number =
      subst (λ r. SoloVisited old (record old { print_pages = new }) p (act.TakePage b) r) (sym said)
      (at-5 old new p (act.TakePage b) (page_said answer) Receiver Passes (ap (λ b. At b Receiver Passes) number) (take_page-suits b answer)
      (subst (SlotVisited OfPage old.print_pages new Receiver Passes p) (sym (take_page-went b answer))
      (take-visited OfPage old.print_pages p answer new is now)))

  pub put-6 : (x : Arg) (answer : Put Arg) (new : Slot Arg) → result ≡ put_said answer → answer ≡ put_answer old.print_reports x
      → new ≡ after_put old.print_reports p x answer → b ≡ 6 → SoloVisited old (record old { print_reports = new }) p (act.PutArg b x) result
  put-6 x answer new said is now number =
      subst (λ r. SoloVisited old (record old { print_reports = new }) p (act.PutArg b x) r) (sym said)
      (at-6 old new p (act.PutArg b x) (put_said answer) Sender Passes (ap (λ b. At b Sender Passes) number) (put_arg-suits b x answer)
      (subst (SlotVisited OfArg old.print_reports new Sender Passes p) (sym (put_arg-went b x answer))
      (put-visited OfArg old.print_reports p x answer new is now)))

  pub take-6 : (answer : Take Arg) (new : Slot Arg) → result ≡ arg_said answer → answer ≡ take_answer old.print_reports
      → new ≡ after_take old.print_reports p answer → b ≡ 6 → SoloVisited old (record old { print_reports = new }) p (act.TakeArg b) result
  take-6 answer new said is now number =
      subst (λ r. SoloVisited old (record old { print_reports = new }) p (act.TakeArg b) r) (sym said)
      (at-6 old new p (act.TakeArg b) (arg_said answer) Receiver Passes (ap (λ b. At b Receiver Passes) number) (take_arg-suits b answer)
      (subst (SlotVisited OfArg old.print_reports new Receiver Passes p) (sym (take_arg-went b answer))
      (take-visited OfArg old.print_reports p answer new is now)))

module _ (old : Buffers) (p b : ℕ) (side : Side) (side-is : side ≡ side_at p b) where
  pub stop-1 : (new : Slot Arg) → new ≡ after_stop old.card_orders side → b ≡ 1
      → SoloVisited old (record old { card_orders = new }) p (act.Stop b) (Some hear.Done)
  stop-1 new now number =
      at-1 old new p (act.Stop b) (Some hear.Done) side Stops
      (ap (λ c. At c (side_at p b) Stops) number ∙ ap (λ side. At 1 side Stops) (sym side-is)) tt (stop-visited OfArg old.card_orders p side new now)

  pub stop-2 : (new : Slot Page) → new ≡ after_stop old.card_pages side → b ≡ 2
      → SoloVisited old (record old { card_pages = new }) p (act.Stop b) (Some hear.Done)
  stop-2 new now number =
      at-2 old new p (act.Stop b) (Some hear.Done) side Stops
      (ap (λ c. At c (side_at p b) Stops) number ∙ ap (λ side. At 2 side Stops) (sym side-is)) tt (stop-visited OfPage old.card_pages p side new now)

  pub stop-3 : (new : Slot Arg) → new ≡ after_stop old.card_reports side → b ≡ 3
      → SoloVisited old (record old { card_reports = new }) p (act.Stop b) (Some hear.Done)
  stop-3 new now number =
      at-3 old new p (act.Stop b) (Some hear.Done) side Stops
      (ap (λ c. At c (side_at p b) Stops) number ∙ ap (λ side. At 3 side Stops) (sym side-is)) tt (stop-visited OfArg old.card_reports p side new now)

  pub stop-4 : (new : Slot Arg) → new ≡ after_stop old.print_orders side → b ≡ 4
      → SoloVisited old (record old { print_orders = new }) p (act.Stop b) (Some hear.Done)
  stop-4 new now number =
      at-4 old new p (act.Stop b) (Some hear.Done) side Stops
      (ap (λ c. At c (side_at p b) Stops) number ∙ ap (λ side. At 4 side Stops) (sym side-is)) tt (stop-visited OfArg old.print_orders p side new now)

  pub stop-5 : (new : Slot Page) → new ≡ after_stop old.print_pages side → b ≡ 5
      → SoloVisited old (record old { print_pages = new }) p (act.Stop b) (Some hear.Done)
  stop-5 new now number =
      at-5 old new p (act.Stop b) (Some hear.Done) side Stops
      (ap (λ c. At c (side_at p b) Stops) number ∙ ap (λ side. At 5 side Stops) (sym side-is)) tt (stop-visited OfPage old.print_pages p side new now)

  pub stop-6 : (new : Slot Arg) → new ≡ after_stop old.print_reports side → b ≡ 6
      → SoloVisited old (record old { print_reports = new }) p (act.Stop b) (Some hear.Done)
  stop-6 new now number =
      at-6 old new p (act.Stop b) (Some hear.Done) side Stops
      (ap (λ c. At c (side_at p b) Stops) number ∙ ap (λ side. At 6 side Stops) (sym side-is)) tt (stop-visited OfArg old.print_reports p side new now)
