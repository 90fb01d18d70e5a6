-- A run from an opening to its end.
use Rattle.std.proofs.Common.{◌≡◌, ◌≤◌, ◌==◌, if◌then◌else◌, ℕ, Bool, true, false, List, [], ◌∷◌, ◌++◌, map, length, Option, None, Some, refl, sym, ◌∙◌, ap, subst, arith}
use Rattle.solo_base.specs.Card.{lines, before_lines, card_of, cards}
use Rattle.solo_base.specs.declared.item.Item.{Item}
use Rattle.solo_base.specs.declared.outcome.Side.{Side}
use Rattle.solo_devices.specs.CardUnit.{items_ahead, bytes_total, IsAllTaken}
use Rattle.network_run.specs.declared.counts.Counts.{Counts}
use Rattle.network_run.specs.declared.rules.Rule.{Rule}
use Rattle.network_run.specs.Counting.{raised}
use Rattle.network_run.specs.Law.{run}
use Rattle.network_run.specs.Runs.{RunsBy}
use Rattle.network_run.proofs.RunMore.{raised-few}
use Rattle.core_law.specs.Bound.{longest_run}
use Rattle.core_law.specs.Core.{CoreState, Devices}
use Rattle.core_law.specs.Holds.{AreTold, AreFound}
use Rattle.core_law.specs.Opening.{Opening}
use Rattle.core_law.specs.TheLaw.{the_law, IsReached}
use Rattle.core_law.proofs.Bounded.{no-run_longer}
use Rattle.net_core.specs.declared.net.Net.{Net}
use Rattle.net_core.specs.Ended.{EndsSo}
use Rattle.net_core.specs.Net.{Keeps, NetStands, StandsWithin}
use Rattle.net_core.specs.WholeRuns.{RunsToEnd}
use Rattle.batch_procs.specs.Jobs.{Jobs, AreJobs, FilesAs}
use Rattle.batch_ends.specs.Tells.{Tells, devices_of}
use Rattle.batch_ends.specs.declared.units.Units.{Units}
use Rattle.net_core.specs.Faults.{units_of}
use Rattle.batch_ends.specs.declared.ends.Outcomes.{Outcomes}

-- ---- a deck of which no card is left was taken whole
before-some : (code : ℕ) (others : List (List ℕ)) → before_lines code others ≡ [] → ⊥
before-some code [] e = cc
before-some code (first ∷ others) e = cc

lines-none : (bytes : List ℕ) → lines bytes ≡ [] → bytes ≡ []
lines-none [] e = refl
lines-none (code ∷ rest) e =
    absurd (let P : Bool → Type 0 = λ t. (if t then [] ∷ lines rest else before_lines code (lines rest)) ≡ [] → ⊥ in
    elim (code == 10) as P [ true ↦ (λ e. cc) | false ↦ before-some code (lines rest) ] e)

map-none : {X Y : Type 0} (f : X → Y) (xs : List X) → map f xs ≡ [] → xs ≡ []
map-none f [] e = refl
map-none f (x ∷ xs) e = absurd cc

last-none : (front rest : List ℕ) → front ++ rest ≡ [] → rest ≡ []
last-none [] rest e = e
last-none (x ∷ front) rest e = absurd cc

some-none : (items : List Item) → Some items ≡ Some [] → items ≡ []
some-none items e = cc

pub all-taken : (before now : Option (List ℕ)) (taken_before taken_now : ℕ) (first pending : List ℕ) → first ≡ []
    → bytes_total taken_now now ≡ bytes_total taken_before before
    → ((items : List Item) → items_ahead before first ≡ Some items → items_ahead now pending ≡ Some []) → IsAllTaken now
all-taken None None taken_before taken_now first pending none total reads = λ rest is. absurd cc
all-taken None (Some bytes) taken_before taken_now first pending none total reads = absurd cc
all-taken (Some bytes) now taken_before taken_now first pending none total reads = λ rest is.
    let gone : Some (cards (pending ++ rest)) ≡ Some [] = subst (λ now. items_ahead now pending ≡ Some []) is
    (reads (cards bytes) (ap (λ first. Some (cards (first ++ bytes))) none)) in
    last-none pending rest (lines-none (pending ++ rest) (map-none card_of (lines (pending ++ rest)) (some-none (cards (pending ++ rest)) gone)))

module _ {L : Type 0} {J : Jobs L} (jobs : AreJobs J) where
  same-told : (devices : Devices L) (deck : Option (List Item)) (paper : Option (List ℕ)) (files : Option (FilesAs L)) → devices.deck ≡ deck
      → devices.paper ≡ paper
      → devices.files ≡ files → devices ≡ record { deck = deck; paper = paper; files = files }
  same-told devices deck paper files a b c = rw (sym a, sym b, sym c) refl

  module _ {X S K F A B : Type 0} (keeps : Keeps L X) (tells : Tells L S K F A B) where
    -- over told devices it is no longer than its deck allows
    pub run-bounded : (rule : Rule) (net : Net X S K F A B) (o : Opening J) (s : CoreState L) (counts : Counts) (items : List Item) (found : FilesAs L)
        → IsReached o s
        → AreTold o.spools → o.deck ≡ Some items → AreFound J o.files found items
        → RunsBy (the_law J) (StandsWithin J keeps tells net) rule s counts → counts.events ≤ longest_run J found items
    run-bounded rule net o s counts items found reached told deck_is are_found ran =
        let few = no-run_longer jobs o s items found ran.events reached told deck_is are_found ran.enabled in
        let most = raised-few (length ran.events) in
        bounded counts.events (raised 0 (length ran.events)) (length ran.events) (longest_run J found items)
        (ap (λ (c : Counts). c.events) ran.counts_are) most few
      where
        bounded : (n m long most : ℕ) → n ≡ m → m ≤ long → long ≤ most → n ≤ most
        bounded n m long most a b c = omega (arith, a, b, c)

    -- how a run went, once it has ended, told without its network
    pub runs-to-end : (rule : Rule) (net : Net X S K F A B) (s : CoreState L) (counts : Counts) → RunsBy (the_law J)
        (StandsWithin J keeps tells net) rule s counts
        → (outcomes : Outcomes) (stops : List (Option Side)) → ((s : CoreState L) → NetStands J keeps tells net s → EndsSo s outcomes stops)
        → (units : Units S K F A B) → units ≡ units_of net.shared
        → RunsToEnd J rule s counts outcomes stops (devices_of tells units)
    runs-to-end rule net s counts ran outcomes stops ends units units_are = record {
      events = ran.events;
      enabled = ran.enabled;
      by_rule = ran.by_rule;
      counts_are = ran.counts_are;
      ends = ends (run (the_law J) s ran.events) ran.stands.is;
      devices_are =
          same-told (run (the_law J) s ran.events).devices _ _ _ ran.stands.is.shared.deck ran.stands.is.shared.paper ran.stands.is.shared.files
          ∙ ap (devices_of tells) (sym units_are);
    }
