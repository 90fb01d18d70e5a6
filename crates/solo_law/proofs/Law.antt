-- The law of Solo is sound, as who steps its network asks.
use Rattle.std.proofs.Common.{◌≡◌, ℕ, None, [], refl, ap, lit≤}
use Rattle.network_run.specs.Law.{NoneGoes, AllEnded}
use Rattle.network_run.specs.Law as run
use Rattle.network_run.specs.Sound.{IsSoundLaw}
use Rattle.network_law.proofs.Goers as goers
use Rattle.network_law.proofs.Reached.{reached-stands}
use Rattle.place_law.specs.Process.{caused, next_by, unless_ended, next_action}
use Rattle.place_law.specs.Ending.{HasEnded}
use Rattle.solo_law.specs.Replies.{view}
use Rattle.solo_law.specs.Solo.{process, table, solo, opened, SoloState, SoloOpening, openings, the_law}
use Rattle.solo_law.proofs.Placed.{solo-lawful}
use Rattle.solo_law.proofs.Sound.{reached-sound}
use Rattle.solo_law.proofs.NeverStuck.{ended-all}

-- one that has ended has no next action
ended-none : (p : ℕ) (s : SoloState) → HasEnded table s p → next_action view (process p) (s.histories p) ≡ None
ended-none p s ended = ap (λ how. unless_ended how (next_by view (process p) (caused view (process p) (s.histories p)) (s.histories p))) ended.1

never-stuck : (o : SoloOpening) (s : SoloState) → run.IsReached the_law (opened o.devices) s → NoneGoes the_law s → AllEnded the_law s
never-stuck o s reached none p one =
    let st = reached-stands solo-lawful openings o s reached in
    ended-none p s (ended-all (opened o.devices) s st (λ b. ([], refl)) (λ b. refl) (reached-sound o.devices s (record { sound = o.sound; reached = reached }))
    (λ event is smooth. none event.process is.one (goers.enabled-go solo s event is)) p one)

pub sound : IsSoundLaw the_law
sound = goers.sound solo openings solo-lawful (lit≤ tt) never-stuck
