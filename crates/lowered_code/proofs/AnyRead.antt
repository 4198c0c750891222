-- The statements of any read leave the value of its expression in its variable.
use Rattle.std.proofs.Common.{◌≡◌, ℕ, ◌<◌, ◌^◌, List, [], ◌∷◌, length, get_or, Some, refl, sym, ap, ap₂, ◌∙◌, subst, arith}
use Rattle.std.specs.Prelude.{slice_get}
use Rattle.std.proofs.lemmas.List.Elements.{All-get_or}
use Rattle.bit_values.specs.Bits.{Word, word}
use Rattle.bit_values.specs.Widths.{bit}
use Rattle.p4_meaning.specs.Statements.{Run, meaning_of}
use Rattle.network_run.specs.PathMeaning.{Doing}
use Rattle.indus_tree.specs.Tree.{Expr, Exprs, read, index, member, none, more, Shape, one, list, set, dict, Decl}
use Rattle.indus_tree.specs.State.{Hop, Held, lookup, shape_width, width_of, nothing_of}
use Rattle.indus_tree.specs.Reads.{Seen, scalar, single_word, or_word, word_by_kind, variable_word}
use Rattle.indus_tree.specs.Keys.{at_key, at_key_by_kind, has, has_by_kind, widths, widths_for, index_widths, member_widths}
use Rattle.indus_tree.specs.Shapes.{HasWidth, IsSensorCount}
use Rattle.indus_tree.specs.Meaning.{seen_by}
use Rattle.indus_tree.specs.Value.{value_of, key_of}
use Rattle.indus_tree.specs.declared.tree.DeclKind.{DeclKind}
use Rattle.indus_tree.specs.declared.tree.DeclKind.TheVariants.{Sensor, Control}
use Rattle.indus_tree.specs.declared.tree.Ty.{Ty}
use Rattle.monitor_laws.specs.Trees.{number}
use Rattle.lookup_names.specs.Keys.{key_types}
use Rattle.lowered_code.specs.Names.{sensor_name}
use Rattle.lowered_code.specs.Expressions.{read_decl}
use Rattle.lowered_code.specs.Reads.{keys_of, read_sensor, read_kind, read_stmts}
use Rattle.lowered_code.specs.Statements.{key_vars, kept_types, read_vars}
use Rattle.lowered_code.specs.Suiting.{IsScalar, PartsFit, OneIndex, ShapeIndexed, ShapeHolds, AllSuit}
use Rattle.lowered_code.specs.Standing.{Setting, environment, HasWidths, Begins, Ends}
use Rattle.lowered_code.specs.Lookups.{looked_up, Finds}
use Rattle.lowered_code.proofs.Values.{AllCovered}
use Rattle.lowered_code.proofs.Sight.{plain_now, words_now, Known}
use Rattle.lowered_code.proofs.Cells.{index_number, key_index}
use Rattle.lowered_code.proofs.Keys.{IsNew}
use Rattle.lowered_code.proofs.SensorReads.{ReadInto, cell_reads, array_reads}
use Rattle.lowered_code.proofs.LookupReads.{lookup_name, found_width, control_reads}

-- ---- what a read has for its value

module _ (h : Hop) (d : Doing Held Held) where
  abbrev seen : Seen
  seen = seen_by h [] d

  name_value : (p : ℕ) (x : List ℕ) (c : Decl) (k : DeclKind) → lookup h.decls x ≡ Some c → c.kind ≡ k → value_of seen (read p x) 0 ≡ word_by_kind k seen x (shape_width c.shape)
  name_value p x c k is e = ap (variable_word seen x) is ∙ ap (λ k. word_by_kind k seen x (shape_width c.shape)) e

  index_value : (p : ℕ) (x : List ℕ) (ks : Exprs) (c : Decl) (k : DeclKind) (s : Shape) → lookup h.decls x ≡ Some c → c.kind ≡ k → c.shape ≡ s → value_of seen (index p x ks) 0 ≡ at_key_by_kind k seen x (key_of seen ks (index_widths s)) (shape_width s)
  index_value p x ks c k s is e f =
      ap (λ o. at_key seen x o (key_of seen ks (widths_for index_widths o))) is
      ∙ ap₂ (λ k s. at_key_by_kind k seen x (key_of seen ks (index_widths s)) (shape_width s)) e f

  member_value : (p : ℕ) (x : List ℕ) (ks : Exprs) (c : Decl) (k : DeclKind) (s : Shape) → lookup h.decls x ≡ Some c → c.kind ≡ k → c.shape ≡ s → value_of seen (member p ks x) 0 ≡ bit (has_by_kind k seen x (key_of seen ks (member_widths s)))
  member_value p x ks c k s is e f =
      ap (λ o. bit (has seen x o (key_of seen ks (widths_for member_widths o)))) is
      ∙ ap₂ (λ k s. bit (has_by_kind k seen x (key_of seen ks (member_widths s)))) e f

-- the one word of a scalar
pub scalar_is : (ws : List Word) (w : ℕ) (z : Word) → length ws ≡ 1 → scalar ws w ≡ get_or ws 0 z
scalar_is [] w z e = absurd (omega (arith, e))
scalar_is (x ∷ ws) w z e = refl

-- ---- its statements

module _ (p : Setting) (b : Begins p) (d : Doing Held Held) (base : ℕ) (l : List Expr) (n : ℕ) (new : IsNew base l n) (q : Run) (known : Known p b d base l q) where
  abbrev v : Seen
  v = seen_by p.hop [] d

  abbrev ds : List Decl
  ds = p.hop.decls

  abbrev Into : Word → Run → Type 0
  Into w = ReadInto p.vars n w q

  -- they leave its value in the variable
  abbrev pub ReadsIt : Expr → Type 0
  ReadsIt e = Ends (Into (value_of v e 0)) (meaning_of p.calls (read_stmts (environment p) ds base (read_decl ds e) l n (keys_of e)) q)

  -- by the kind of the variable
  by_kind : (e : Expr) (x : List ℕ) (c : Decl) (k : DeclKind) → read_decl ds e ≡ lookup ds x → lookup ds x ≡ Some c → c.kind ≡ k → Ends (Into (value_of v e 0)) (meaning_of p.calls (read_kind (environment p) ds base k l n c (keys_of e)) q) → ReadsIt e
  by_kind e x c k r is kind h =
      subst (λ o. Ends (Into (value_of v e 0)) (meaning_of p.calls (read_stmts (environment p) ds base o l n (keys_of e)) q)) (sym (r ∙ is))
      (subst (λ k. Ends (Into (value_of v e 0)) (meaning_of p.calls (read_kind (environment p) ds base k l n c (keys_of e)) q)) (sym kind) h)

  by_shape : (e : Expr) (x : List ℕ) (c : Decl) (s : Shape) (w : Word) → read_decl ds e ≡ lookup ds x → lookup ds x ≡ Some c → c.kind ≡ Sensor → c.shape ≡ s → value_of v e 0 ≡ w → Ends (Into w) (meaning_of p.calls (read_sensor (environment p) ds base l n c s (keys_of e)) q) → ReadsIt e
  by_shape e x c s w r is kind shape value h =
      by_kind e x c Sensor r is kind
      (subst (λ u. Ends (Into u) (meaning_of p.calls (read_sensor (environment p) ds base l n c c.shape (keys_of e)) q)) (sym value)
      (subst (λ s. Ends (Into w) (meaning_of p.calls (read_sensor (environment p) ds base l n c s (keys_of e)) q)) (sym shape) h))

  -- ---- sensors

  pub sensor_reads : (i : ℕ) (x : List ℕ) (c : Decl) (s : Shape) → lookup ds x ≡ Some c → c.kind ≡ Sensor → c.shape ≡ s → IsScalar s → HasWidths (read_vars n (Some c)) q.store → ReadsIt (read i x)
  sensor_reads i x c (one t) is k shape scalar_shape wide =
      let w = shape_width c.shape in
      let vs = d.sensors x in
      let z = word w 0 in
      let kept = known.stands.shaped.sensors x c is k in
      let long : length vs ≡ 1 = subst (λ s. IsSensorCount s (length vs)) shape kept.count in
      let lt : 0 < length vs = omega (arith, long) in
      by_shape (read i x) x c (one t) (get_or vs 0 z) refl is k shape (name_value p.hop d i x c Sensor is k ∙ scalar_is vs w z long)
      (cell_reads p.calls p.vars n c (number 1 0) vs 0 z q (plain_now p b d q known.stands) (b.hop.sound x c is) (All-get_or (HasWidth w) vs 0 z lt kept.words) lt (wide.0 ∙ found_width c)
      (ap (λ y. q.cells (sensor_name y)) (lookup_name ds x c is) ∙ known.stands.sensors x c is k) refl)
  sensor_reads i x c (list t m) is k shape scalar_shape wide = absurd scalar_shape
  sensor_reads i x c (set ts) is k shape scalar_shape wide = absurd scalar_shape
  sensor_reads i x c (dict ts t) is k shape scalar_shape wide = absurd scalar_shape

  -- a cell of an array
  at_index : (i : ℕ) (x : List ℕ) (c : Decl) (t : Ty) (size : ℕ) (ks : Exprs) → lookup ds x ≡ Some c → c.kind ≡ Sensor → c.shape ≡ list t size → size < 2 ^ 128 → OneIndex p.exits v ks → AllSuit p.exits v ks → AllCovered ds l ks → HasWidths (read_vars n (Some c)) q.store → ReadsIt (index i x ks)
  at_index i x c t size none is k shape small ix suit covers wide = absurd ix
  at_index i x c t size (more e none) is k shape small ix suit covers wide =
      let w = shape_width c.shape in
      let vs = d.sensors x in
      let kept = known.stands.shaped.sensors x c is k in
      let long : length vs ≡ size = subst (λ s. IsSensorCount s (length vs)) shape kept.count in
      let keys : HasWidths (key_vars n 0 (kept_types Sensor (list t size))) q.store =
      subst (λ s. HasWidths (key_vars n 0 (kept_types Sensor s)) q.store) shape (subst (λ k. HasWidths (key_vars n 0 (kept_types k c.shape)) q.store) k wide.1) in
      let value : value_of v (index i x (more e none)) 0 ≡ or_word (slice_get vs (index_number v e)) (nothing_of w) =
      index_value p.hop d i x (more e none) c Sensor (list t size) is k shape
      ∙ ap (λ (u : Word). or_word (slice_get vs u.value) (nothing_of (width_of t))) (key_index v e ix (words_now p b d q known.stands e 128))
      ∙ ap (λ s. or_word (slice_get vs (index_number v e)) (nothing_of (shape_width s))) (sym shape) in
      by_shape (index i x (more e none)) x c (list t size) _ refl is k shape value
      (array_reads p b d base l n new c size vs e q known suit.0 covers.0 ix (b.hop.sound x c is) kept.words long small (wide.0 ∙ found_width c) keys.0
      (ap (λ y. q.cells (sensor_name y)) (lookup_name ds x c is) ∙ known.stands.sensors x c is k))
  at_index i x c t size (more e (more f es)) is k shape small ix suit covers wide = absurd ix

  -- ---- control variables

  looks_up : (e : Expr) (x : List ℕ) (c : Decl) (s : Shape) → read_decl ds e ≡ lookup ds x → lookup ds x ≡ Some c → c.kind ≡ Control → c.shape ≡ s → Finds p (n, c) → length (key_types s) < 2 ^ 64 → PartsFit p.exits v (key_types s) (keys_of e) → AllSuit p.exits v (keys_of e) → AllCovered ds l (keys_of e) → HasWidths (read_vars n (Some c)) q.store
      → value_of v e 0 ≡ looked_up s (p.hop.contents x) (key_of v (keys_of e) (widths (key_types s))) → ReadsIt e
  looks_up e x c s r is k shape finds few fits suit covers wide value =
      by_kind e x c Control r is k
      (subst (λ u. Ends (Into u) (meaning_of p.calls (read_kind (environment p) ds base Control l n c (keys_of e)) q)) (sym (value ∙ ap (λ s. looked_up s (p.hop.contents x) (key_of v (keys_of e) (widths (key_types s)))) (sym shape)))
      (control_reads p b d base l n new x c (keys_of e) q known is k finds (subst (λ s. length (key_types s) < 2 ^ 64) (sym shape) few) (subst (λ s. PartsFit p.exits v (key_types s) (keys_of e)) (sym shape) fits) suit covers wide))

  pub control_scalar_reads : (i : ℕ) (x : List ℕ) (c : Decl) (s : Shape) → lookup ds x ≡ Some c → c.kind ≡ Control → c.shape ≡ s → IsScalar s → Finds p (n, c) → HasWidths (read_vars n (Some c)) q.store → ReadsIt (read i x)
  control_scalar_reads i x c (one t) is k shape scalar_shape finds wide =
      looks_up (read i x) x c (one t) refl is k shape finds (omega arith) tt tt tt wide (name_value p.hop d i x c Control is k ∙ ap (λ s. single_word (p.hop.contents x) (shape_width s)) shape)
  control_scalar_reads i x c (list t m) is k shape scalar_shape finds wide = absurd scalar_shape
  control_scalar_reads i x c (set ts) is k shape scalar_shape finds wide = absurd scalar_shape
  control_scalar_reads i x c (dict ts t) is k shape scalar_shape finds wide = absurd scalar_shape

  -- ---- what is read at a key, and whether a key is there

  pub index_reads : (i : ℕ) (x : List ℕ) (ks : Exprs) (c : Decl) (k : DeclKind) (s : Shape) → lookup ds x ≡ Some c → c.kind ≡ k → c.shape ≡ s → ShapeIndexed p.exits v k s ks → AllSuit p.exits v ks → AllCovered ds l ks → (c.kind ≡ Control → Finds p (n, c)) → HasWidths (read_vars n (Some c)) q.store → ReadsIt (index i x ks)
  index_reads i x ks c Sensor (list t m) is k shape ix suit covers finds wide = at_index i x c t m ks is k shape ix.1 ix.0 suit covers wide
  index_reads i x ks c Control (dict ts t) is k shape ix suit covers finds wide = looks_up (index i x ks) x c (dict ts t) refl is k shape (finds k) ix.1 ix.0 suit covers wide (index_value p.hop d i x ks c Control (dict ts t) is k shape)
  index_reads i x ks c _ _ is k shape ix suit covers finds wide = absurd ix

  pub member_reads : (i : ℕ) (x : List ℕ) (ks : Exprs) (c : Decl) (k : DeclKind) (s : Shape) → lookup ds x ≡ Some c → c.kind ≡ k → c.shape ≡ s → ShapeHolds p.exits v k s ks → AllSuit p.exits v ks → AllCovered ds l ks → (c.kind ≡ Control → Finds p (n, c)) → HasWidths (read_vars n (Some c)) q.store → ReadsIt (member i ks x)
  member_reads i x ks c Control (set ts) is k shape ix suit covers finds wide = looks_up (member i ks x) x c (set ts) refl is k shape (finds k) ix.1 ix.0 suit covers wide (member_value p.hop d i x ks c Control (set ts) is k shape)
  member_reads i x ks c _ _ is k shape ix suit covers finds wide = absurd ix
