-- A call that may be made is answered: no device has to fail, and no memory to be refused.
use Rattle.std.proofs.Common.{◌≡◌, ℕ, Bool, true, false, List, [], ◌∷◌, ◌++◌, drop, map, Option, None, Some, refl, sym, ◌∙◌, ap, subst}
use Rattle.std.specs.List.{AllByRecursion}
use Rattle.solo_base.specs.Text.{line_text}
use Rattle.solo_base.specs.declared.item.Item.{Item}
use Rattle.solo_base.specs.declared.item.Item.TheVariants.{Line, Spoiled}
use Rattle.solo_base.specs.declared.page.Page.{Page}
use Rattle.solo_base.specs.declared.system_call.Arg.{Arg}
use Rattle.solo_base.specs.declared.outcome.Side.{Side}
use Rattle.solo_base.specs.declared.outcome.Side.TheVariants.{Sender, Receiver}
use Rattle.queue_var.specs.Sides.{stopped_by}
use Rattle.solo_devices.specs.declared.card_read.CardRead.{CardRead}
use Rattle.solo_devices.specs.declared.card_read.CardRead.TheVariants as read
use Rattle.page_codec.specs.Items.{AreItems}
use Rattle.network_law.specs.Buffer.{Buffer, Found, Ready, Lacking, Closed, found, parcel_found, IsFirst}
use Rattle.network_law.specs.Network.{IsEnabled, MayCall}
use Rattle.network_law.specs.Network as law
use Rattle.network_law.specs.Kept.{IsTold, Stands, passed}
use Rattle.exchange_law.specs.Parcels.{Parcel, OfArg, OfPage, mark}
use Rattle.exchange_law.proofs.Counted.{map-append}
use Rattle.place_law.specs.Process.{Does, Delays, action_of, next_action, EntrySuits, went}
use Rattle.solo_law.specs.Work.{Work, LineNeeded, Plan}
use Rattle.solo_law.specs.Actions.{Action, Reply}
use Rattle.solo_law.specs.Actions as act
use Rattle.solo_law.specs.Buffers.{seat, call}
use Rattle.solo_law.specs.Replies.{IsLineRead, view}
use Rattle.solo_law.specs.Devices.{Reads, AreSound, Allows}
use Rattle.solo_law.specs.Solo.{process, solo, SoloState, SoloEntry, SoloEvent, IsSmooth, IsProcess}
use Rattle.solo_law.proofs.Placed.{calls-so, seats}
use Rattle.solo_law.proofs.HandedKinds.{hands_pages, KindAt, all-kind, next-kind}

-- an entry that may come, with the bytes that the devices gain
pub record Comes (s : SoloState) (p : ℕ) (a : Action) : Type 0 where
  pub entry : SoloEntry
  pub gained : List ℕ
  pub action_is : action_of entry ≡ a
  pub suits : EntrySuits view (process p) entry
  pub fits : law.Fits mark s (call p a) (went view entry)
  pub allowed : Allows s.devices entry gained
  pub smooth : IsSmooth entry

-- ---- cards and typed lines
abbrev first-read : Option (List Item) → CardRead
first-read None = read.End
first-read (Some []) = read.End
first-read (Some (Line line ∷ rest)) = read.Card line
first-read (Some (Spoiled ∷ rest)) = read.Spoiled

first-reads : (deck given : Option (List Item)) → deck ≡ given → Reads deck (first-read given)
first-reads deck None e = record {
  item = λ items told. absurd (let no = sym e ∙ told in cc);
  end = λ items told is. absurd (let no = sym e ∙ told in cc);
}
first-reads deck (Some []) e = record { item = λ items told. (items, refl); end = λ items told is. (let same = sym e ∙ told in cc) }
first-reads deck (Some (Line line ∷ rest)) e =
    record { item = λ items told. (rest, (let same = sym told ∙ e in cc)); end = λ items told is. absurd cc }
first-reads deck (Some (Spoiled ∷ rest)) e =
    record { item = λ items told. (rest, (let same = sym told ∙ e in cc)); end = λ items told is. absurd cc }

smooth-read : (a : Action) (deck : Option (List Item)) → IsSmooth (Does a (act.OfCard (first-read deck)))
smooth-read a None = tt
smooth-read a (Some []) = tt
smooth-read a (Some (Line line ∷ rest)) = tt
smooth-read a (Some (Spoiled ∷ rest)) = tt

is-read : (deck : Option (List Item)) → ((items : List Item) → deck ≡ Some items → AreItems items) → IsLineRead (first-read deck)
is-read None are = tt
is-read (Some []) are = tt
is-read (Some (Line line ∷ rest)) are = (are (Line line ∷ rest) refl).0
is-read (Some (Spoiled ∷ rest)) are = tt

-- ---- a call that puts
arg-comes : (s : SoloState) (p b : ℕ) (x : Arg) (finds : Found) → found (s.buffers b) Sender ≡ finds → Comes s p (act.PutArg b x)
arg-comes s p b x Ready e =
    record { entry = Does (act.PutArg b x) act.Done; gained = []; action_is = refl; suits = tt; fits = rw e tt; allowed = refl; smooth = tt }
arg-comes s p b x Lacking e =
    record { entry = Delays (act.PutArg b x); gained = []; action_is = refl; suits = tt; fits = rw e tt; allowed = refl; smooth = tt }
arg-comes s p b x Closed e =
    record { entry = Does (act.PutArg b x) act.Stopped; gained = []; action_is = refl; suits = tt; fits = rw e tt; allowed = refl; smooth = tt }

page-comes : (s : SoloState) (p b : ℕ) (x : Page) (finds : Found) → found (s.buffers b) Sender ≡ finds → Comes s p (act.PutPage b x)
page-comes s p b x Ready e =
    record { entry = Does (act.PutPage b x) act.Done; gained = []; action_is = refl; suits = tt; fits = rw e tt; allowed = refl; smooth = tt }
page-comes s p b x Lacking e =
    record { entry = Delays (act.PutPage b x); gained = []; action_is = refl; suits = tt; fits = rw e tt; allowed = refl; smooth = tt }
page-comes s p b x Closed e =
    record { entry = Does (act.PutPage b x) act.Stopped; gained = []; action_is = refl; suits = tt; fits = rw e tt; allowed = refl; smooth = tt }

-- ---- what is inside
same-front : (front a b : List Bool) → front ++ a ≡ front ++ b → a ≡ b
same-front [] a b e = e
same-front (x ∷ front) a b e = same-front front a b cc

all-behind : (Is : Parcel → Type 0) (part rest : List Parcel) → AllByRecursion Is (part ++ rest) → AllByRecursion Is rest
all-behind Is [] rest all = all
all-behind Is (x ∷ part) rest all = all-behind Is part rest all.1

first-is : (buffer : Buffer Parcel) (parcel : Parcel) (rest : List Parcel) → buffer.inside ≡ Some (parcel ∷ rest) → buffer.marks ≡ map mark (parcel ∷ rest)
    → IsFirst mark buffer parcel
first-is buffer parcel rest told marks = record {
  marked = marks ∙ ap (λ ms. mark parcel ∷ ms) (ap (drop 1) (sym marks));
  told = λ inside e. (let same : parcel ∷ rest ≡ inside = (let both = sym told ∙ e in cc) in sym same ∙ ap (λ ps. parcel ∷ ps) (ap (drop 1) same));
}

ready-some : (by : Option Side) (marks : List Bool) → parcel_found by marks ≡ Ready → marks ≡ [] → ⊥
ready-some None [] e none = cc
ready-some (Some Sender) [] e none = cc
ready-some (Some Receiver) [] e none = cc
ready-some by (m ∷ marks) e none = cc

not-both : (t : Bool) → t ≡ true → t ≡ false → ⊥
not-both t a b = cc

abbrev FirstArg : Buffer Parcel → Type 0
FirstArg buffer = (x : Arg) × IsFirst mark buffer (OfArg x)

abbrev FirstPage : Buffer Parcel → Type 0
FirstPage buffer = (x : Page) × IsFirst mark buffer (OfPage x)

first-arg : (b : ℕ) (buffer : Buffer Parcel) (inside : List Parcel) → hands_pages b ≡ false → buffer.inside ≡ Some inside → buffer.marks ≡ map mark inside
    → AllByRecursion (KindAt b) inside → found buffer Receiver ≡ Ready → FirstArg buffer
first-arg b buffer [] kind told marks are ready = absurd (ready-some (stopped_by buffer.sides) buffer.marks ready marks)
first-arg b buffer (OfArg x ∷ rest) kind told marks are ready = (x, first-is buffer (OfArg x) rest told marks)
first-arg b buffer (OfPage x ∷ rest) kind told marks are ready = absurd (not-both (hands_pages b) are.0 kind)

first-page : (b : ℕ) (buffer : Buffer Parcel) (inside : List Parcel) → hands_pages b ≡ true → buffer.inside ≡ Some inside → buffer.marks ≡ map mark inside
    → AllByRecursion (KindAt b) inside → found buffer Receiver ≡ Ready → FirstPage buffer
first-page b buffer [] kind told marks are ready = absurd (ready-some (stopped_by buffer.sides) buffer.marks ready marks)
first-page b buffer (OfPage x ∷ rest) kind told marks are ready = (x, first-is buffer (OfPage x) rest told marks)
first-page b buffer (OfArg x ∷ rest) kind told marks are ready = absurd (not-both (hands_pages b) kind are.0)

-- ---- a call that takes
take-arg : (s : SoloState) (p b : ℕ) (finds : Found) → found (s.buffers b) Receiver ≡ finds → (found (s.buffers b) Receiver ≡ Ready → FirstArg (s.buffers b))
    → Comes s p (act.TakeArg b)
take-arg s p b Ready e first = (let (x, is) = first e in
    record { entry = Does (act.TakeArg b) (act.OfArg x); gained = []; action_is = refl; suits = tt; fits = rw e is; allowed = refl; smooth = tt })
take-arg s p b Lacking e first =
    record { entry = Delays (act.TakeArg b); gained = []; action_is = refl; suits = tt; fits = rw e tt; allowed = refl; smooth = tt }
take-arg s p b Closed e first =
    record { entry = Does (act.TakeArg b) act.Stopped; gained = []; action_is = refl; suits = tt; fits = rw e tt; allowed = refl; smooth = tt }

take-page : (s : SoloState) (p b : ℕ) (finds : Found) → found (s.buffers b) Receiver ≡ finds → (found (s.buffers b) Receiver ≡ Ready → FirstPage (s.buffers b))
    → Comes s p (act.TakePage b)
take-page s p b Ready e first = (let (x, is) = first e in
    record { entry = Does (act.TakePage b) (act.OfPage x); gained = []; action_is = refl; suits = tt; fits = rw e is; allowed = refl; smooth = tt })
take-page s p b Lacking e first =
    record { entry = Delays (act.TakePage b); gained = []; action_is = refl; suits = tt; fits = rw e tt; allowed = refl; smooth = tt }
take-page s p b Closed e first =
    record { entry = Does (act.TakePage b) act.Stopped; gained = []; action_is = refl; suits = tt; fits = rw e tt; allowed = refl; smooth = tt }

-- ---- a piece of work: as told files make of it, or anything that fits
work-comes : (s : SoloState) (p : ℕ) (work : Work) (told : Option Plan) → s.devices.work ≡ told → AreSound s.devices → Comes s p (act.Works work)
work-comes s p work None e sound = record {
  entry = Does (act.Works work) (act.Found LineNeeded);
  gained = [];
  action_is = refl;
  suits = tt;
  fits = refl;
  allowed = ((λ plan is. absurd (let no = sym e ∙ is in cc)), refl);
  smooth = tt;
}
work-comes s p work (Some plan) e sound = record {
  entry = Does (act.Works work) (act.Found (plan [] work.given));
  gained = [];
  action_is = refl;
  suits = sound.work plan e [] work.given;
  fits = refl;
  allowed = ((λ other is. ap (λ plan. plan [] work.given) (the-plan other (sym e ∙ is))), refl);
  smooth = tt;
} where
  the-plan : (other : Plan) → Some plan ≡ Some other → plan ≡ other
  the-plan other e = cc

module _ (opening s : SoloState) (st : Stands solo opening s) (told : (b : ℕ) → IsTold (opening.buffers b)) (sound : AreSound s.devices) where
  pub marks-inside : (b : ℕ) (inside : List Parcel) → (s.buffers b).inside ≡ Some inside → (s.buffers b).marks ≡ map mark inside
  marks-inside b inside e =
      let h = st.buffers.hand_over b in
      same-front (map mark (passed solo s b Receiver)) _ _ (h.marks.in_order ∙ ap (map mark) (sym (h.parcels inside e))
      ∙ map-append mark (passed solo s b Receiver) inside)

  kind-inside : (b : ℕ) (inside : List Parcel) → (s.buffers b).inside ≡ Some inside → AllByRecursion (KindAt b) inside
  kind-inside b inside e =
      let q = seat b Sender in
      all-behind (KindAt b) (passed solo s b Receiver) inside
      (subst (λ ps. AllByRecursion (KindAt b) ps) (sym ((st.buffers.hand_over b).parcels inside e))
      (all-kind q b Sender (s.histories q) (seats b Sender) (st.follows q)))

  ready-arg : (b : ℕ) → hands_pages b ≡ false → found (s.buffers b) Receiver ≡ Ready → FirstArg (s.buffers b)
  ready-arg b kind ready =
      let (inside, e) = st.told b (told b) in
      first-arg b (s.buffers b) inside kind e (marks-inside b inside e) (kind-inside b inside e) ready

  ready-page : (b : ℕ) → hands_pages b ≡ true → found (s.buffers b) Receiver ≡ Ready → FirstPage (s.buffers b)
  ready-page b kind ready =
      let (inside, e) = st.told b (told b) in
      first-page b (s.buffers b) inside kind e (marks-inside b inside e) (kind-inside b inside e) ready

  comes : (p : ℕ) (a : Action) → IsProcess p → next_action view (process p) (s.histories p) ≡ Some a → Comes s p a
  comes p act.Accept one next = record {
    entry = Does act.Accept (act.OfCard (first-read s.devices.keys));
    gained = [];
    action_is = refl;
    suits = is-read s.devices.keys sound.keys;
    fits = refl;
    allowed = (first-reads s.devices.keys s.devices.keys refl, refl);
    smooth = smooth-read act.Accept s.devices.keys;
  }
  comes p act.ReadCard one next = record {
    entry = Does act.ReadCard (act.OfCard (first-read s.devices.cards));
    gained = [];
    action_is = refl;
    suits = is-read s.devices.cards sound.cards;
    fits = refl;
    allowed = (first-reads s.devices.cards s.devices.cards refl, refl);
    smooth = smooth-read act.ReadCard s.devices.cards;
  }
  comes p (act.Display line) one next = record {
    entry = Does (act.Display line) act.Done;
    gained = line_text line;
    action_is = refl;
    suits = tt;
    fits = refl;
    allowed = refl;
    smooth = tt;
  }
  comes p (act.Print line) one next = record {
    entry = Does (act.Print line) act.Done;
    gained = line_text line;
    action_is = refl;
    suits = tt;
    fits = refl;
    allowed = refl;
    smooth = tt;
  }
  comes p (act.PutArg b x) one next = arg-comes s p b x (found (s.buffers b) Sender) refl
  comes p (act.PutPage b x) one next = page-comes s p b x (found (s.buffers b) Sender) refl
  comes p (act.TakeArg b) one next =
      take-arg s p b (found (s.buffers b) Receiver) refl (ready-arg b (next-kind p (s.histories p) (act.TakeArg b) one next))
  comes p (act.TakePage b) one next =
      take-page s p b (found (s.buffers b) Receiver) refl (ready-page b (next-kind p (s.histories p) (act.TakePage b) one next))
  comes p (act.Works work) one next = work-comes s p work s.devices.work refl sound
  comes p (act.Stop b) one next =
      record { entry = Does (act.Stop b) act.Done; gained = []; action_is = refl; suits = tt; fits = refl; allowed = refl; smooth = tt }
  comes p (act.Ended how) one next =
      record { entry = Does (act.Ended how) act.Done; gained = []; action_is = refl; suits = tt; fits = refl; allowed = refl; smooth = tt }

  -- An enabled process has an event in which no device fails and no memory is refused.
  pub record SmoothEvent : Type 0 where
    pub event : SoloEvent
    pub enabled : IsEnabled solo s event
    pub smooth : IsSmooth event.entry

  pub smooth-event : (p : ℕ) (a : Action) → IsProcess p → next_action view (process p) (s.histories p) ≡ Some a → MayCall s p ((process p).calls a)
      → SmoothEvent
  smooth-event p a one next may =
      let is = comes p a one next in
      let same : (process p).calls (action_of is.entry) ≡ call p a = calls-so p one (action_of is.entry) ∙ ap (call p) is.action_is in
      record {
        event = record { process = p; entry = is.entry; gained = is.gained };
        enabled = record {
          one = one;
          next = next ∙ ap Some (sym is.action_is);
          may = subst (λ a. MayCall s p ((process p).calls a)) (sym is.action_is) may;
          suits = is.suits;
          fits = subst (λ c. law.Fits mark s c (went view is.entry)) (sym same) is.fits;
          allowed = is.allowed;
        };
        smooth = is.smooth;
      }
