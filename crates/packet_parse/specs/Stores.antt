-- What the parser and the deparser have in sight, as a store of the meaning, in which paths begin with fixed roots; and
-- what they do. Read `Sight` before it.
use Rattle.std.specs.Prelude.{ℕ, ◌-◌, ◌*◌, ◌/◌, List, [], ◌∷◌, ◌++◌, length, Bool, Option, Some, None, if◌then◌else◌, nat_eq}
use Rattle.bit_values.specs.Bits.{Word, word, cast}
use Rattle.bit_values.specs.Widths.{bit, holds}
use Rattle.bit_values.specs.Bytes.{bits_of}
use Rattle.bit_writer.specs.Bytes.{bytes_of}
use Rattle.p4_tree.specs.Tree.{Program, Parser, Control}
use Rattle.p4_meaning.specs.Standard.{ingress_port, egress_spec, egress_port, packet_length, checksum_error, parser_error}
use Rattle.p4_meaning.specs.Store.{Store, blank, set_value, set_valid}
use Rattle.p4_meaning.specs.Scope.{Scope, path_under}
use Rattle.p4_meaning.specs.Under.{no_scope, in_parser, in_control}
use Rattle.p4_meaning.specs.Parsing.{ParserEnd, deparse_of}
use Rattle.p4_meaning.specs.Parts.{parts_of, parser_in, control_in}
use Rattle.p4_meaning.specs.Pass.{error_number, store_behind}
use Rattle.p4_packets.specs.Fields.{Key}
use Rattle.p4_packets.specs.Places.{error_of}
use Rattle.p4_packets.specs.Ends.{parser_ends_from}
use Rattle.p4_packets.specs.declared.parse.ParserError as code_error
use Rattle.p4_packets.specs.declared.parse.ParserError.TheVariants as error
use Rattle.packet_parse.specs.declared.fields.StdMeta.{StdMeta}
use Rattle.packet_parse.specs.declared.fields.Fields.{Fields}

-- ---- names

-- what paths stand for in a parser, whose parameters give the roots; and in a deparser
abbrev pub parser_scope : Option Parser → Scope
parser_scope None = no_scope
parser_scope (Some d) = in_parser no_scope d

abbrev pub deparser_scope : Option Control → Scope
deparser_scope None = no_scope
deparser_scope (Some c) = in_control 1 9 9 no_scope c

-- ---- a store from fields

-- the first word of a path counts
abbrev pub with_values : Scope → List (Key × Word) → Store → Store
with_values sc [] s = s
with_values sc (e ∷ es) s = set_value (with_values sc es s) (path_under sc e.0.items) e.1

abbrev pub with_headers : Scope → List (Key × Bool) → Store → Store
with_headers sc [] s = s
with_headers sc (e ∷ es) s = set_valid (with_headers sc es s) (path_under sc e.0.items) e.1

abbrev pub with_standard : StdMeta → Store → Store
with_standard m s =
    set_value (set_value (set_value (set_value (set_value (set_value s
    ingress_port (word 9 (cast 9 m.ingress_port)))
    egress_spec (word 9 (cast 9 m.egress_spec)))
    egress_port (word 9 (cast 9 m.egress_port)))
    packet_length (word 32 (cast 32 m.packet_length)))
    checksum_error (bit m.checksum_error))
    parser_error (word 2 (error_number (error_of m.parser_error)))

-- what fields stand for at a place with this scope
abbrev pub store_under : Scope → Fields → Store
store_under sc f = with_standard f.std (with_values sc f.values.items (with_headers sc f.valid.items blank))

-- ---- what fields show of a store

abbrev pub valid_or : Option Bool → Bool → Bool
valid_or None b = b
valid_or (Some v) b = v

abbrev pub shown_value : Scope → Store → Key × Word → Key × Word
shown_value sc s e = (e.0, s.values (path_under sc e.0.items))

abbrev pub shown_valid : Scope → Store → Key × Bool → Key × Bool
shown_valid sc s e = (e.0, valid_or (s.headers (path_under sc e.0.items)) e.1)

abbrev pub error_at : ℕ → code_error.ParserError
error_at n = if nat_eq n 0 then error.NoError else if nat_eq n 1 then error.PacketTooShort else error.NoMatch

abbrev pub shown_standard : Store → StdMeta
shown_standard s =
    record {
      ingress_port = cast 9 (s.values ingress_port).value;
      egress_spec = cast 9 (s.values egress_spec).value;
      egress_port = cast 9 (s.values egress_port).value;
      packet_length = cast 32 (s.values packet_length).value;
      checksum_error = holds (s.values checksum_error);
      parser_error = error_at (s.values parser_error).value;
    }

-- ---- the parser and the deparser

-- how the parser ends on a frame
unfoldable pub parser_end : Program → Fields → (frame : List ℕ) → ParserEnd
parser_end p f frame = parser_ends_from (parts_of p) (store_under (parser_scope (parser_in p)) f) frame

-- the store behind it
abbrev pub behind_parser : Program → Fields → (frame : List ℕ) → Store
behind_parser p f frame = store_behind (parser_end p f frame)

-- the bytes that it consumed
abbrev pub consumed : Program → Fields → (frame : List ℕ) → ℕ
consumed p f frame = (8 * length frame - length (parser_end p f frame).reading.rest) / 8

-- the bytes that the deparser makes of the headers and of what the parser left
abbrev pub deparsed : Program → Fields → (rest : List ℕ) → List ℕ
deparsed p f rest = bytes_of (deparse_of (parts_of p).headers (parts_of p).emits (store_under (deparser_scope (control_in p 5)) f) ++ bits_of rest)
