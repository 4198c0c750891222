-- How the parser of a program ends on a frame. Read `Fields` before it.
use Rattle.std.specs.Prelude.{ℕ, List, length}
use Rattle.bit_values.specs.Bytes.{bits_of}
use Rattle.p4_meaning.specs.Store.{Store}
use Rattle.p4_meaning.specs.Parsing.{ParserEnd, parse_of}
use Rattle.p4_meaning.specs.Parts.{Parts}
use Rattle.p4_meaning.specs.Pass.{store_before}

-- how the parser ends on a frame, with this in sight before it
abbrev pub parser_ends_from : Parts → Store → (frame : List ℕ) → ParserEnd
parser_ends_from p s frame = parse_of p.headers p.states (record { store = s; rest = bits_of frame })

-- how the parser ends on a frame that comes by a port
abbrev pub parser_ends : Parts → (port : ℕ) → (frame : List ℕ) → ParserEnd
parser_ends p port frame = parser_ends_from p (store_before p port (length frame)) frame
