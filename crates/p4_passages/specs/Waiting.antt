-- What waits between the halves, and where a packet goes. Read `Pass` of the trees' meaning before it.
use Rattle.std.specs.Prelude.{ℕ, List, Option, Some, None}
use Rattle.std.specs.Option.{option_map}
use Rattle.p4_meaning.specs.Pass.{Queued, Going}
use Rattle.p4_packets.specs.Fields.{store_of}
use Rattle.p4_packets.specs.Rests.{rest_in}
use Rattle.p4_passages.specs.declared.waiting.Waiting as code_waiting
use Rattle.p4_passages.specs.declared.gone.Gone as code_gone
use Rattle.p4_passages.specs.declared.gone.Gone.TheVariants as gone

-- a packet that waits for egress
abbrev pub waiting_of : code_waiting.Waiting → Queued
waiting_of w = record { store = store_of w.fields; rest = rest_in w.rest }

-- where a packet goes: the port and the frame, and None where it is dropped
abbrev pub goes_to : Option Going → Option (ℕ × List ℕ)
goes_to g = option_map (λ x. (x.port, x.frame)) g

-- the same of the code's answer
abbrev pub gone_of : code_gone.Gone → Option (ℕ × List ℕ)
gone_of gone.Dropped = None
gone_of (gone.Out port frame) = Some (port, frame.items)
