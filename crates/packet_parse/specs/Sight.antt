-- What is in sight at one place of a program, as a store by the paths that are written there. Read `Scope` of the meaning
-- before it and `Stores` after it.
use Rattle.std.specs.Prelude.{◌≡◌, codes, ℕ, List, [], ◌∷◌, Option, Some, None, if◌then◌else◌}
use Rattle.std.specs.Option.{option_or}
use Rattle.bit_values.specs.Bits.{Word, word, cast}
use Rattle.bit_values.specs.Widths.{bit}
use Rattle.lex_text.specs.Names.{same_text}
use Rattle.p4_tree.specs.Tree.{Expr, Program}
use Rattle.p4_tree.specs.Reads.{EachRead}
use Rattle.p4_meaning.specs.Store.{Store, read}
use Rattle.p4_meaning.specs.Scope.{Scope, constant_or, seen}
use Rattle.p4_meaning.specs.Pass.{error_number}
use Rattle.p4_meaning.specs.Laws.{AreWords}
use Rattle.p4_types.specs.Constants.{constant_of}
use Rattle.p4_packets.specs.Fields.{look, header_in}
use Rattle.p4_packets.specs.Places.{error_of}
use Rattle.packet_parse.specs.declared.fields.StdMeta.{StdMeta}
use Rattle.packet_parse.specs.declared.fields.Fields.{Fields}

-- the word of a field of the standard metadata, cut to its bits
abbrev pub standard_field : StdMeta → List ℕ → Option Word
standard_field m x =
    if same_text x (codes "ingress_port") then Some (word 9 (cast 9 m.ingress_port)) else
    if same_text x (codes "egress_spec") then Some (word 9 (cast 9 m.egress_spec)) else
    if same_text x (codes "egress_port") then Some (word 9 (cast 9 m.egress_port)) else
    if same_text x (codes "packet_length") then Some (word 32 (cast 32 m.packet_length)) else
    if same_text x (codes "checksum_error") then Some (bit m.checksum_error) else
    if same_text x (codes "parser_error") then Some (word 2 (error_number (error_of m.parser_error))) else None

-- that of a path
abbrev pub standard_at : Fields → List (List ℕ) → Option Word
standard_at f [] = None
standard_at f (x ∷ []) = None
standard_at f (x ∷ y ∷ []) = if same_text f.std_name x then standard_field f.std y else None
standard_at f (x ∷ y ∷ z ∷ rest) = None

-- the word of the constant at top level that a path is
abbrev pub top_constant : Program → List (List ℕ) → Option Word
top_constant p [] = None
top_constant p (x ∷ []) = constant_of p x
top_constant p (x ∷ y ∷ rest) = None

-- the word of a path: the standard metadata's, else the first that the fields have, else the constant's at top level; and
-- one bit that is 0 where nothing is in sight
abbrev pub word_at : Program → Fields → List (List ℕ) → Word
word_at p f q = constant_or (option_or (standard_at f q) (option_or (look None Some f.values.items q) (top_constant p q))) (word 1 0)

-- what is in sight
abbrev pub in_sight : Program → Fields → Store
in_sight p f = record { values = word_at p f; headers = header_in f.valid.items }

-- the fields show what names in a scope stand for in a store, as far as an expression reads: each path that it reads has the
-- same word, and each header that it asks is valid or not alike. No header has the empty path
pub record Shows (p : Program) (f : Fields) (sc : Scope) (s : Store) (e : Expr) : Type 0 where
  pub words : AreWords sc
  pub nameless : s.headers [] ≡ None
  pub same : EachRead (λ q. read (in_sight p f) q ≡ read (seen sc s) q) (λ q. header_in f.valid.items q ≡ (seen sc s).headers q) e
