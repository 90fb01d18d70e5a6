-- What a run counts. A count stands still at its last value.
use Rattle.std.specs.Prelude.{◌+◌, ◌==◌, ℕ, min, if◌then◌else◌, List, [], ◌∷◌, length, Option, None, Some}
use Rattle.network_run.specs.declared.counts.Counts.{Counts}
use Rattle.network_run.specs.declared.stepped.Stepped.{Stepped}
use Rattle.network_run.specs.declared.stepped.Stepped.TheVariants.{Acted, Delayed, Resumed, Ended}
use Rattle.network_run.specs.Law.{Law}

-- the count after so many more
abbrev pub raised : ℕ → ℕ → ℕ
raised count more = min (count + more) 18446744073709551615

-- ---- of one event
-- 1 where it ended in a delay
abbrev pub delays_by : Stepped → ℕ
delays_by Delayed = 1
delays_by Acted = 0
delays_by Resumed = 0
delays_by Ended = 0

-- A request was granted where another process holds what is granted than before.
abbrev pub grants_by : Option ℕ → Option ℕ → ℕ
grants_by before None = 0
grants_by None (Some p) = 1
grants_by (Some q) (Some p) = if q == p then 0 else 1

-- with one event more, which has so many delays and grants
abbrev pub counted_by : Counts → ℕ → ℕ → Counts
counted_by counts delays grants = record {
  events = raised counts.events 1;
  delays = raised counts.delays delays;
  grants = raised counts.grants grants;
}

-- ---- of a list of events
abbrev pub no_counts : Counts
no_counts = record { events = 0; delays = 0; grants = 0 }

abbrev pub delays_of : (law : Law) → law.State → List law.Event → ℕ
delays_of law s [] = 0
delays_of law s (event ∷ events) = delays_by (law.went s event) + delays_of law (law.happens s event) events

abbrev pub grants_of : (law : Law) → law.State → List law.Event → ℕ
grants_of law s [] = 0
grants_of law s (event ∷ events) = law.grants s event + grants_of law (law.happens s event) events

-- of the run of these events from a state on
abbrev pub counts_of : (law : Law) → law.State → List law.Event → Counts
counts_of law s events = record {
  events = raised 0 (length events);
  delays = raised 0 (delays_of law s events);
  grants = raised 0 (grants_of law s events);
}
