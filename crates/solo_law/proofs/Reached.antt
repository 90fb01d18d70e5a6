-- Every reached state of Solo has all that its law says.
use Rattle.std.proofs.Common.{true, [], refl}
use Rattle.network_law.proofs.Reached.{reached-stands, opening-stands}
use Rattle.place_law.proofs.Ended.{ends-rightly}
use Rattle.place_law.proofs.Faults.{causes-reached}
use Rattle.place_law.proofs.Together.{reasons, together}
use Rattle.solo_law.specs.Devices.{Devices}
use Rattle.solo_law.specs.Solo.{table, solo, opened, SoloState, IsReached, openings}
use Rattle.solo_law.specs.Holds.{Holds}
use Rattle.solo_law.proofs.Placed.{seats, placed, solo-lawful}
use Rattle.solo_law.proofs.Causes.{have-causes}
use Rattle.solo_law.proofs.Working.{works-so}
use Rattle.solo_law.proofs.Consoles.{console-gains}
use Rattle.solo_law.proofs.Papers.{paper-gains}
use Rattle.solo_law.proofs.HandedOn.{begins-so}

pub reached-holds : (devices : Devices) (s : SoloState) → IsReached devices s → Holds devices s
reached-holds devices s reached =
    let st = reached-stands solo-lawful openings (record { devices = devices; sound = reached.sound }) s reached.reached in
    let causes = causes-reached table placed seats openings (opened devices) s (opening-stands solo devices (λ b. 1) (λ b. true))
    (λ p one. refl) reached.reached in
    record {
      hands_over = λ b is. st.buffers.hand_over b;
      one_slot = st.capacity;
      told_inside = λ b. st.told b ([], refl);
      queues = st.queues;
      stops = st.buffers.stops;
      told = st.buffers.told;
      ends_rightly = λ p how one e. ends-rightly table placed p (s.histories p) how one (st.follows p) e;
      ends = together table placed seats (opened devices) s st causes;
      reasons = reasons table placed seats (opened devices) s st causes;
      causes = have-causes (opened devices) s st (λ b. ([], refl));
      works = λ plan e. works-so plan devices s e reached;
      begins = λ cards keys c k. begins-so cards keys devices s c k reached;
      shows = console-gains devices s reached;
      prints = paper-gains devices s reached;
      follows = st.follows;
    }
