use Rattle.real_time.proofs.Unstuck.{sound}
use Rattle.real_time.proofs.Sureness.{few-events, sure}
use Rattle.real_time.proofs.Consoles.{timed}
use Rattle.real_time.proofs.Reaching.{holds}
use Rattle.real_time.proofs.Weights.{falls}
use Rattle.real_time.proofs.LineDeeds.{line-shows, line-starts}
use Rattle.real_time.proofs.laws.timing_law.Goals as goal

pub returns-clause-sound : goal.returns-clause-sound
returns-clause-sound c = sound

pub returns-clause-sure : goal.returns-clause-sure
returns-clause-sure c = sure

pub returns-clause-timed : goal.returns-clause-timed
returns-clause-timed c = λ o items s told reached. timed o items told s reached

pub returns-clause-orderly : goal.returns-clause-orderly
returns-clause-orderly c = λ o s reached. (holds o s reached).table

pub returns-clause-falls : goal.returns-clause-falls
returns-clause-falls c = λ o s event reached is. falls s event (holds o s reached) is

pub returns-clause-bound : goal.returns-clause-bound
returns-clause-bound c = few-events

pub returns-clause-lines : goal.returns-clause-lines
returns-clause-lines c = line-shows

pub returns-clause-starts : goal.returns-clause-starts
returns-clause-starts c = line-starts
