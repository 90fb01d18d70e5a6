-- What every history of a process keeps, in one record.
use Rattle.std.proofs.Common.{List}
use Rattle.batch_procs.specs.Jobs.{Jobs}
use Rattle.batch_procs.specs.History.{Entry}
use Rattle.batch_procs.specs.Process.{Process, Follows}
use Rattle.batch_procs.specs.Laws.{IsRelay, Keeps}
use Rattle.batch_procs.proofs.Relay.{sent-is-part, open-next}
use Rattle.batch_procs.proofs.Closing.{unstopped}
use Rattle.batch_procs.proofs.Nexts.{next-load}
use Rattle.batch_procs.proofs.Holding.{none-next, holder-next, ended-holds_not, release-holds, request-holds_not, puts-awaited, takes-awaited}
use Rattle.batch_procs.proofs.Ended.{ended-rightly, done-free}

module _ {L : Type 0} (J : Jobs L) where
  pub histories_keep : (p : Process L) (h : List (Entry L)) → IsRelay p → Follows J p h → Keeps p h
  histories_keep p h relay follows = record {
    prefix = sent-is-part J p h relay follows;
    ends = λ how e. ended-rightly J p h how relay follows e;
    free = done-free J p h follows;
    goes_on = none-next J p h;
    closes = open-next J p h;
    unstopped = λ b none. unstopped J p b h relay follows none;
    holder = holder-next J p h relay follows;
    ended_free = λ ended. ended-holds_not J p h ended.0 relay follows ended.1;
    releases = release-holds J p h relay follows;
    requests = request-holds_not J p h relay follows;
    room = λ page next. puts-awaited J p h page relay follows next;
    item = takes-awaited J p h relay follows;
    load = λ file next. next-load J p h file relay follows next;
  }
