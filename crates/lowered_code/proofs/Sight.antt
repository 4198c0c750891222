-- In a run that stands for a state expressions see what the property's see.
use Rattle.std.proofs.Common.{◌≡◌, codes, ℕ, List, [], ◌∷◌, Bool, true, false, cond, Some, None, refl, sym, ap, ap₂, ◌∙◌, subst, arith}
use Rattle.std.specs.Prelude.{MatchBool}
use Rattle.std.proofs.lemmas.List.Elements.{All-head}
use Rattle.bit_values.specs.Bits.{Word, word, IsWord, cast as cast_number}
use Rattle.bit_values.specs.Widths.{bit}
use Rattle.bit_values.proofs.BitsLemmas.{cast_of_small, cast-lt}
use Rattle.lex_text.specs.Names.{same_text, parent}
use Rattle.p4_tree.specs.Tree as p4
use Rattle.p4_meaning.specs.Store.{Store, read, shown}
use Rattle.p4_meaning.specs.Value as p4v
use Rattle.p4_meaning.specs.Statements.{Run}
use Rattle.network_run.specs.PathMeaning.{Doing}
use Rattle.indus_tree.specs.Tree.{Expr, read as reads, Shape, one, list, set, dict, Decl}
use Rattle.indus_tree.specs.State.{Held, lookup, nothing_of, shape_width, width_of}
use Rattle.indus_tree.specs.Reads.{Seen, scalar, word_by_kind, variable_word, name_word}
use Rattle.indus_tree.specs.Shapes.{HasWidth, IsHeld, IsTeleCount}
use Rattle.indus_tree.specs.Meaning.{seen_by}
use Rattle.indus_tree.specs.Value.{value_of}
use Rattle.indus_tree.specs.declared.tree.DeclKind.TheVariants.{Tele, Header}
use Rattle.monitor_laws.specs.Names.{tele_header, first_name, last_name, is_lowered}
use Rattle.monitor_laws.specs.Trees.{number}
use Rattle.monitor_laws.specs.MonitorLaws.{IsView, Others}
use Rattle.monitor_laws.proofs.Paths.{free_lowered}
use Rattle.lookup_names.specs.Keys.{variable}
use Rattle.lowered_code.specs.Environment.{view_of}
use Rattle.lowered_code.specs.Expressions.{value_type, as_bit, is_in, built_in, lowered}
use Rattle.lowered_code.specs.Suiting.{IsBuiltIn, IsScalar, Suits}
use Rattle.lowered_code.specs.Standing.{Setting, environment, Begins, Stands}
use Rattle.lowered_code.proofs.Seen.{word_seen}
use Rattle.lowered_code.proofs.Values.{Same, Covers, HoldsRead, HoldsTele, same}

-- an own path reads what it read when the part began
view_is : (a q : Run) → Others a q → (f : p4.Expr) → IsView f → (u : Word) → p4v.value_of f 0 a.store ≡ u → ((w : ℕ) → p4v.value_of f w q.store ≡ u) × (p4v.own_width f q.store ≡ u.width)
view_is a q o (p4.path p names) i u e =
    let is : read q.store names ≡ u = ap₂ shown (ap (λ g. g (parent names)) o.headers) (o.values names (free_lowered names i.0)) ∙ e in
    (λ w. is, ap (λ (u : Word). u.width) is)
view_is a q o (p4.valid p header) i u e =
    let is : bit (p4v.is_valid (q.store.headers header)) ≡ u = ap (λ g. bit (p4v.is_valid (g header))) o.headers ∙ e in
    (λ w. is, ap (λ (u : Word). u.width) is)
view_is a q o _ i u e = absurd i

-- as one bit it is cast
view_bit : (q : Run) (f : p4.Expr) → IsView f → p4v.own_width (as_bit f) q.store ≡ 1
view_bit q (p4.path p names) i = refl
view_bit q (p4.valid p header) i = refl
view_bit q _ i = absurd i

-- the word of a scalar
pub scalar_has : (s : Shape) → IsScalar s → (ws : List Word) → IsHeld IsTeleCount s ws → HasWidth (width_of (value_type s)) (scalar ws (shape_width s))
scalar_has (one t) i [] k = absurd (let n : 0 ≡ 1 = k.count in omega (arith, n))
scalar_has (one t) i (w ∷ ws) k = All-head (HasWidth (width_of t)) w ws k.words
scalar_has (list t n) i ws k = absurd i
scalar_has (set ks) i ws k = absurd i
scalar_has (dict ks t) i ws k = absurd i

module _ (p : Setting) (b : Begins p) (d : Doing Held Held) where
  abbrev v : Seen
  v = seen_by p.hop [] d

  abbrev ds : List Decl
  ds = p.hop.decls

  -- ---- of a run

  module _ (q : Run) (s : Stands p q d) where
    pub plain_now : q.store.headers [] ≡ None
    plain_now = ap (λ g. g []) s.others.headers ∙ b.plain

    pub valid_now : q.store.headers tele_header ≡ Some true
    valid_now = ap (λ g. g tele_header) s.others.headers ∙ b.valid

    pub words_now : (e : Expr) (w : ℕ) → IsWord (value_of v e w)
    words_now e w = word_seen p.hop b.hop d s.shaped e w

    tele_word : (x : List ℕ) (c : Decl) → lookup ds x ≡ Some c → c.kind ≡ Tele → name_word v x ≡ scalar (d.tele x) (shape_width c.shape)
    tele_word x c is k = ap (variable_word v x) is ∙ ap (λ k. word_by_kind k v x (shape_width c.shape)) k

    holds_tele : (base : ℕ) (before : List Expr) (x : List ℕ) (c : Decl) → lookup ds x ≡ Some c → c.kind ≡ Tele → HoldsTele p d base before q.store x c
    holds_tele base before x c is k =
        record {
          value = ap₂ shown valid_now (s.tele x c is k) ∙ sym (tele_word x c is k);
          fits = subst (HasWidth (width_of (value_type c.shape))) (sym (tele_word x c is k)) (scalar_has c.shape (b.scalars x c is k) (d.tele x) (s.shaped.tele x c is k));
        }

    shows_view : (x : List ℕ) (c : Decl) → lookup ds x ≡ Some c → c.kind ≡ Header → Same q.store v (view_of c) (reads 0 x)
    shows_view x c is k =
        let name : name_word v x ≡ p.hop.headers x = ap (variable_word v x) is ∙ ap (λ k. word_by_kind k v x (shape_width c.shape)) k in
        let shown = view_is p.start q s.others (view_of c) (b.own x c is k) (p.hop.headers x) (b.view x c is k) in
        record { value = λ w. shown.0 w ∙ sym name; own = shown.1 ∙ sym (ap (λ (u : Word). u.width) name); narrow = view_bit q (view_of c) (b.own x c is k) }

    -- a flag that the linker set
    reads_flag : (x : List ℕ) (t : Bool) → is_lowered (x ∷ []) ≡ false → p.start.store.values (x ∷ []) ≡ bit t → read q.store (x ∷ []) ≡ bit t
    reads_flag x t out is = ap₂ shown plain_now (s.others.values (x ∷ []) out ∙ is)

    shows_flag : (y x : List ℕ) (u : Word) → read q.store (y ∷ []) ≡ u → name_word v x ≡ u → Same q.store v (variable y) (reads 0 x)
    shows_flag y x u is name = record { value = λ w. is ∙ sym name; own = ap (λ (u : Word). u.width) (is ∙ sym name); narrow = refl }

    shows_switch : (x : List ℕ) → name_word v x ≡ word 16 (cast_number 16 p.hop.switch) → Same q.store v (number 16 (cast_number 16 p.hop.switch)) (reads 0 x)
    shows_switch x name =
        let n = p.hop.switch in
        record { value = λ w. ap (word 16) (cast_of_small 16 (cast_number 16 n) (cast-lt 16 n)) ∙ sym name; own = sym (ap (λ (u : Word). u.width) name); narrow = refl }

    shows_built_in : (x : List ℕ) → lookup ds x ≡ None → IsBuiltIn p.exits x → Same q.store v (built_in (environment p) x) (reads 0 x)
    shows_built_in x is i = go (same_text x (codes "first_hop")) (same_text x (codes "last_hop")) (same_text x (codes "switch_id")) i (ap (variable_word v x) is)
      where
        go : (first last switch : Bool) → MatchBool first (p.exits ≡ true) (MatchBool last (p.exits ≡ true) (switch ≡ true)) → name_word v x ≡ cond first (bit p.hop.first) (cond last (bit p.hop.last) (cond switch (word 16 (cast_number 16 p.hop.switch)) (nothing_of 0))) →
            Same q.store v (cond first (variable first_name) (cond last (variable last_name) (number 16 (cast_number 16 p.hop.switch)))) (reads 0 x)
        go true last switch e name = shows_flag first_name x (bit p.hop.first) (reads_flag first_name p.hop.first refl (b.first e)) name
        go false true switch e name = shows_flag last_name x (bit p.hop.last) (reads_flag last_name p.hop.last refl (b.last e)) name
        go false false true e name = shows_switch x name
        go false false false e name = absurd (cc)

  -- ---- where something was read before

  module _ (base : ℕ) (before : List Expr) where
    -- it stands in its variables
    abbrev pub AllHeld : Store → Type 0
    AllHeld s = (e : Expr) → is_in before e ≡ true → HoldsRead p d base before s e

    -- a run stands for the state, and what was read stands in variables
    pub record Known (q : Run) : Type 0 where
      pub stands : Stands p q d
      pub held : AllHeld q.store

    pub same_now : (q : Run) → Known q → (e : Expr) → Suits p.exits v e → Covers ds before e → Same q.store v (lowered (environment p) ds base before e) e
    same_now q k e suits covers =
        same p d base before q.store
        (record {
          words = λ e w. words_now q k.stands e w;
          built_in = λ x is i. shows_built_in q k.stands x is i;
          sound = b.hop.sound;
          held = k.held;
          tele = λ x c is i. holds_tele q k.stands base before x c is i;
          view = λ x c is i. shows_view q k.stands x c is i;
        })
        e suits covers
