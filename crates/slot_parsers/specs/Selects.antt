-- What is made of a `select`: terms that give the words of its keys, and key sets that fit where those of the tree fit. Read
-- `Parses` before it.
use Rattle.std.specs.Prelude.{◌≡◌, ℕ, zero, suc, List, [], ◌∷◌, map}
use Rattle.bit_values.specs.Bits.{word}
use Rattle.p4_tree.specs.Tree as tree
use Rattle.p4_tree.specs.Tree.{Expr, Keyset, ParserState}
use Rattle.p4_meaning.specs.Store.{Store}
use Rattle.p4_meaning.specs.Parsing.{fits}
use Rattle.slot_terms.specs.States.{State}
use Rattle.slot_terms.specs.Terms.{Term, eval}
use Rattle.slot_terms.specs.Typed.{Typed}
use Rattle.slot_terms.specs.Places.{Places, Shows, Means}
use Rattle.slot_parsers.specs.ParserCodes.{Key, any, only, masked, Case, select, fits_key}
use Rattle.slot_parsers.specs.Parses.{target, Leads}

-- the term itself
abbrev pub term_in : Typed → Term
term_in t = t.term

-- terms give the words of expressions, whose places give no width
abbrev pub TermsMean : Places → List Expr → List Typed → Type 0
TermsMean m [] [] = Unit {0}
TermsMean m (e ∷ es) [] = ⊥
TermsMean m [] (t ∷ ts) = ⊥
TermsMean m (e ∷ es) (t ∷ ts) = Means m e 0 t × TermsMean m es ts

-- a key set fits the number of a key's term where the tree's key set fits its word
abbrev pub FitsAlike : Places → Typed → Key → Keyset → Type 0
FitsAlike m t k set = (st : State) (s : Store) → Shows m st.slots st.valid s → fits_key k (eval st.slots st.valid t.term) st ≡ fits set (word t.width (eval st.slots st.valid t.term)) s

-- the same of a key of this width, whatever its term
abbrev pub FitsInWidth : Places → (width : ℕ) → Key → Keyset → Type 0
FitsInWidth m w k set = (t : Typed) → t.width ≡ w → FitsAlike m t k set

-- the width of the key at a place, and 0 where there is none
abbrev pub width_at : List Typed → ℕ → ℕ
width_at [] i = 0
width_at (t ∷ ts) zero = t.width
width_at (t ∷ ts) (suc i) = width_at ts i

-- the same one by one, as far as there are keys
abbrev pub FitEach : Places → List Typed → List Key → List Keyset → Type 0
FitEach m [] [] [] = Unit {0}
FitEach m (t ∷ ts) [] [] = Unit {0}
FitEach m [] (k ∷ ks) (a ∷ sets) = Unit {0}
FitEach m (t ∷ ts) (k ∷ ks) (a ∷ sets) = FitsAlike m t k a × FitEach m ts ks sets
FitEach m ts [] (a ∷ sets) = ⊥
FitEach m ts (k ∷ ks) [] = ⊥

-- both are of one kind
abbrev pub AreOneKind : Key → Keyset → Type 0
AreOneKind any (tree.any p) = Unit {0}
AreOneKind (only t) (tree.only p e) = Unit {0}
AreOneKind (masked t u) (tree.masked p e k) = Unit {0}
AreOneKind _ _ = ⊥

abbrev pub AreOfKinds : List Key → List Keyset → Type 0
AreOfKinds [] [] = Unit {0}
AreOfKinds (k ∷ ks) (a ∷ sets) = AreOneKind k a × AreOfKinds ks sets
AreOfKinds [] (a ∷ sets) = ⊥
AreOfKinds (k ∷ ks) [] = ⊥

-- a case leads where the tree's case leads, and fits where that fits
pub record IsCaseOf (m : Places) (all : List ParserState) (ts : List Typed) (c : Case) (case : tree.Case) : Type 0 where
  pub each : FitEach m ts c.keys case.keys
  pub kinds : AreOfKinds c.keys case.keys
  pub next : c.next ≡ target all case.next

abbrev pub CasesAlike : Places → List ParserState → List Typed → List Case → List tree.Case → Type 0
CasesAlike m all ts [] [] = Unit {0}
CasesAlike m all ts (c ∷ cs) [] = ⊥
CasesAlike m all ts [] (case ∷ cases) = ⊥
CasesAlike m all ts (c ∷ cs) (case ∷ cases) = IsCaseOf m all ts c case × CasesAlike m all ts cs cases

-- where terms give the words of a `select`'s keys and cases are alike, the `select` over slots leads where the tree's leads
abbrev pub SelectsLead : Type 0
SelectsLead =
    (m : Places) (all : List ParserState) (at : ℕ) (es : List Expr) (ts : List Typed) (cs : List Case) (cases : List tree.Case) → TermsMean m es ts → CasesAlike m all ts cs cases
    → Leads m all (select (map term_in ts) cs) (tree.select at es cases)

-- key sets of each kind fit alike
abbrev pub KeysFit : Type 0
KeysFit =
    (m : Places) (w at : ℕ) (e k : Expr) (u v : Typed) → Means m e w u → Means m k w v
    → FitsInWidth m w any (tree.any at) × FitsInWidth m w (only u.term) (tree.only at e) × FitsInWidth m w (masked u.term v.term) (tree.masked at e k)
