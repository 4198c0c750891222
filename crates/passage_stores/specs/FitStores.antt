-- Stores with words of the widths that a program declares. Read `Pass` of `p4_meaning` before it, and `Laws` there.
use Rattle.std.specs.Prelude.{◌≡◌, ℕ, List, [], ◌∷◌, ◌++◌, None}
use Rattle.bit_values.specs.BitLists.{AreBits}
use Rattle.p4_meaning.specs.Standard.{metadata_root, ingress_port, egress_spec, egress_port, packet_length, checksum_error, parser_error}
use Rattle.p4_meaning.specs.Store.{Store}
use Rattle.p4_meaning.specs.Parsing.{Field, Header, Reading}
use Rattle.p4_meaning.specs.Parts.{Parts}
use Rattle.p4_meaning.specs.Pass.{Queued}
use Rattle.p4_meaning.specs.Laws.{IsOf}

-- each field at a path has a word of its width, in range
abbrev pub FieldsFit : (above : List (List ℕ)) → List Field → Store → Type 0
FieldsFit above [] st = Unit {0}
FieldsFit above (f ∷ fs) st = IsOf f.width (st.values (above ++ f.name ∷ [])) × FieldsFit above fs st

-- so it is of each header, valid or not
abbrev pub HeadersFit : List Header → Store → Type 0
HeadersFit [] st = Unit {0}
HeadersFit (h ∷ hs) st = FieldsFit h.path h.fields st × HeadersFit hs st

-- and of the standard metadata
pub record StandardFits (st : Store) : Type 0 where
  pub entry : IsOf 9 (st.values ingress_port)
  pub spec : IsOf 9 (st.values egress_spec)
  pub port : IsOf 9 (st.values egress_port)
  pub length : IsOf 32 (st.values packet_length)
  pub error : IsOf 1 (st.values checksum_error)
  pub parser : IsOf 2 (st.values parser_error)

-- a store fits a program with these parts: all that is declared has words of the declared widths, and no header has the
-- empty path
pub record IsFit (p : Parts) (st : Store) : Type 0 where
  pub headers : HeadersFit p.headers st
  pub metadata : FieldsFit (metadata_root ∷ []) p.metadata st
  pub standard : StandardFits st
  pub plain : st.headers [] ≡ None

-- a queued state whose store fits
abbrev pub IsFitQueued : Parts → Queued → Type 0
IsFitQueued p q = IsFit p q.store

-- what a parser reads fits where its store does, and what is left to read are bits
pub record IsFitReading (p : Parts) (r : Reading) : Type 0 where
  pub store : IsFit p r.store
  pub rest : AreBits r.rest
