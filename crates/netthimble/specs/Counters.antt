-- The answers of the counting player's calls for C: for each case its values and 0, or the refusal's number beside zeros
-- (docs/REFERENCE.md, 'Refusals' and 'Counting player'). Definitions only.
use Rattle.std.specs.Prelude.{false, Result, Ok, Err}
use Rattle.buffer.specs.Refusals.{number}
use Rattle.buffer.specs.declared.refusals.Refusal.{Refusal}
use Rattle.counting.specs.declared.Counter.{Counter}
use Rattle.counting.specs.declared.Counted.{Counted}
use Rattle.netthimble.specs.declared.counters.CounterMade.{CounterMade}
use Rattle.netthimble.specs.declared.counters.CountedBlock.{CountedBlock}

-- no counter: of no channels, so that each block is refused
abbrev pub no_counter : Counter
no_counter = record { channels = 0; frames = 0; next = 0; looping = false }

abbrev pub counter_for : Result Counter Refusal → CounterMade
counter_for (Ok counter) = record { counter = counter; refusal = 0 }
counter_for (Err refused) = record { counter = no_counter; refusal = number refused }

abbrev pub counted_for : Result Counted Refusal → CountedBlock
counted_for (Ok r) = record { channels = r.channels; refusal = 0; keep_alive = r.keep_alive; ended = r.ended }
counted_for (Err refused) = record { channels = 0; refusal = number refused; keep_alive = false; ended = false }

-- the counter that a block leaves: a refused one leaves it as it was
abbrev pub counter_left : Counter → Result Counted Refusal → Counter
counter_left c (Ok r) = r.counter
counter_left c (Err refused) = c
