-- Behind reads in turn what was read stands in variables.
use Rattle.std.proofs.Common.{◌≡◌, ℕ, suc, ◌+◌, ◌≤◌, ◌<◌, ◌^◌, List, [], ◌∷◌, ◌++◌, length, Bool, true, false, Option, Some, None, refl, sym, ap, ap₂, ◌∙◌, subst, arith, append_assoc, append-nil, length-append}
use Rattle.std.specs.List.{AllByRecursion}
use Rattle.bit_values.specs.Bits.{Word}
use Rattle.bit_values.specs.Widths.{sound_width}
use Rattle.p4_meaning.specs.Store.{Store, read as word_at, shown}
use Rattle.p4_meaning.specs.Statements.{Run, meaning_of}
use Rattle.network_run.specs.PathMeaning.{Doing}
use Rattle.indus_tree.specs.Tree.{Expr, Exprs, read, index, member, Decl}
use Rattle.indus_tree.specs.State.{Held, lookup, width_of}
use Rattle.indus_tree.specs.Reads.{Seen}
use Rattle.indus_tree.specs.Shapes.{HasWidth}
use Rattle.indus_tree.specs.Meaning.{seen_by}
use Rattle.indus_tree.specs.Value.{value_of}
use Rattle.indus_tree.specs.declared.tree.DeclKind.{DeclKind}
use Rattle.indus_tree.specs.declared.tree.DeclKind.TheVariants.{Tele, Sensor, Header, Control}
use Rattle.lookup_names.specs.Names.{found_name}
use Rattle.lowered_code.specs.Expressions.{value_type, read_decl, is_in, place_in}
use Rattle.lowered_code.specs.Reads.{keys_of, read_stmts, reads_stmts}
use Rattle.lowered_code.specs.Statements.{read_vars, control_kind, read_lookups, numbered_reads}
use Rattle.lowered_code.specs.Suiting.{SuitsName, SuitsIndex, SuitsMember, Suits, AllSuit}
use Rattle.lowered_code.specs.Standing.{Setting, environment, HasWidths, Begins, Ends}
use Rattle.lowered_code.specs.Lookups.{Finds, AreServed}
use Rattle.lowered_code.proofs.Lists.{place_more, place_low, place_last, is_last}
use Rattle.lowered_code.proofs.Numbers.{found_apart}
use Rattle.lowered_code.proofs.Steps.{ends_some, steps, nothing_more}
use Rattle.lowered_code.proofs.Values.{AllCovered, type_in, HoldsRead}
use Rattle.lowered_code.proofs.Sight.{plain_now, words_now, AllHeld, Known}
use Rattle.lowered_code.proofs.Cells.{bits_width}
use Rattle.lowered_code.proofs.Keys.{IsNew, scratch_known}
use Rattle.lowered_code.proofs.SensorReads.{ReadInto}
use Rattle.lowered_code.proofs.AnyRead.{ReadsIt, sensor_reads, control_scalar_reads, index_reads, member_reads}
use Rattle.lowered_code.proofs.Served.{all_left, served_left, served_right}
use Rattle.lowered_code.proofs.Turns.{IsKindTaken, IsNameTaken, IsTaken, IsNext, InTurn}

module _ (p : Setting) (b : Begins p) (d : Doing Held Held) (base : ℕ) where
  abbrev v : Seen
  v = seen_by p.hop [] d

  abbrev ds : List Decl
  ds = p.hop.decls

  -- ---- what serves one read

  one_widths : (n : ℕ) (o : Option Decl) → AreServed p ((n, o) ∷ []) → (s : Store) → HasWidths p.vars s → HasWidths (read_vars n o) s
  one_widths n o h s w = all_left _ (read_vars n o) [] (h.declared s w)

  one_finds : (n : ℕ) (c : Decl) → AreServed p ((n, Some c) ∷ []) → c.kind ≡ Control → Finds p (n, c)
  one_finds n c h k = (subst (λ k. AllByRecursion (Finds p) (control_kind k n c)) k (all_left (Finds p) (read_lookups n (Some c)) [] h.found)).0

  -- ---- one read

  -- what is read is declared
  declared_of : (e : Expr) → IsTaken ds e → Suits p.exits v e → (c : Decl) × (read_decl ds e ≡ Some c)
  declared_of (read i x) t s = go (lookup ds x) refl t
    where
      go : (o : Option Decl) → lookup ds x ≡ o → IsNameTaken ds o → (c : Decl) × (lookup ds x ≡ Some c)
      go None is t = absurd t
      go (Some c) is t = (c, is)
  declared_of (index i x ks) t s = go (lookup ds x) refl s.0
    where
      go : (o : Option Decl) → lookup ds x ≡ o → SuitsIndex p.exits v o ks → (c : Decl) × (lookup ds x ≡ Some c)
      go None is t = absurd t
      go (Some c) is t = (c, is)
  declared_of (member i ks x) t s = go (lookup ds x) refl s.0
    where
      go : (o : Option Decl) → lookup ds x ≡ o → SuitsMember p.exits v o ks → (c : Decl) × (lookup ds x ≡ Some c)
      go None is t = absurd t
      go (Some c) is t = (c, is)
  declared_of _ t s = absurd t

  -- the read that has the number n behind l
  module _ (l : List Expr) (n : ℕ) (at : n ≡ base + length l) (low : n < 2 ^ 64) where
    is_new : IsNew base l n
    is_new = λ e i. (let lt = place_low l e i in found_apart n (base + place_in l e) low (omega (arith, low, lt, at)) (λ same. omega (arith, lt, at, same)))

    module _ (q : Run) (known : Known p b d base l q) where
      abbrev IsRead : Expr → Type 0
      IsRead e = ReadsIt p b d base l n is_new q known e

      at_name : (i : ℕ) (x : List ℕ) (o : Option Decl) → lookup ds x ≡ o → IsNameTaken ds o → SuitsName p.exits v o x → AreServed p ((n, o) ∷ []) → IsRead (read i x)
      at_name i x None is t s h = absurd t
      at_name i x (Some c) is t s h = go c.kind refl t
        where
          wide : HasWidths (read_vars n (Some c)) q.store
          wide = one_widths n (Some c) h q.store known.stands.widths

          go : (k : DeclKind) → c.kind ≡ k → IsKindTaken ds k → IsRead (read i x)
          go Tele k t = absurd t
          go Sensor k t = sensor_reads p b d base l n is_new q known i x c c.shape is k refl s wide
          go Header k t = absurd t
          go Control k t = control_scalar_reads p b d base l n is_new q known i x c c.shape is k refl s (one_finds n c h k) wide

      at_index : (i : ℕ) (x : List ℕ) (ks : Exprs) (o : Option Decl) → lookup ds x ≡ o → SuitsIndex p.exits v o ks → AllSuit p.exits v ks → AllCovered ds l ks → AreServed p ((n, o) ∷ []) → IsRead (index i x ks)
      at_index i x ks None is s suit covered h = absurd s
      at_index i x ks (Some c) is s suit covered h =
          index_reads p b d base l n is_new q known i x ks c c.kind c.shape is refl refl s suit covered (λ k. one_finds n c h k) (one_widths n (Some c) h q.store known.stands.widths)

      at_member : (i : ℕ) (x : List ℕ) (ks : Exprs) (o : Option Decl) → lookup ds x ≡ o → SuitsMember p.exits v o ks → AllSuit p.exits v ks → AllCovered ds l ks → AreServed p ((n, o) ∷ []) → IsRead (member i ks x)
      at_member i x ks None is s suit covered h = absurd s
      at_member i x ks (Some c) is s suit covered h =
          member_reads p b d base l n is_new q known i x ks c c.kind c.shape is refl refl s suit covered (λ k. one_finds n c h k) (one_widths n (Some c) h q.store known.stands.widths)

      is_read : (e : Expr) → IsNext p.exits v l e → AreServed p ((n, read_decl ds e) ∷ []) → IsRead e
      is_read (read i x) f h = at_name i x (lookup ds x) refl f.taken f.suits h
      is_read (index i x ks) f h = at_index i x ks (lookup ds x) refl f.suits.0 f.suit f.covered h
      is_read (member i ks x) f h = at_member i x ks (lookup ds x) refl f.suits.0 f.suit f.covered h
      is_read _ f h = absurd f.taken

      -- behind it one read more stands in its variable
      one_more : (e : Expr) (r : Run) → IsNext p.exits v l e → AreServed p ((n, read_decl ds e) ∷ []) → ReadInto p.vars n (value_of v e 0) q r → Known p b d base (l ++ e ∷ []) r
      one_more e r f h into =
          let u = value_of v e 0 in
          let old = scratch_known p b d base l n is_new q r into.scratch known in
          let decl = declared_of e f.taken f.suits in
          let c = decl.0 in
          let wide = one_widths n (Some c) (subst (λ o. AreServed p ((n, o) ∷ [])) decl.1 h) r.store old.stands.widths in
          let width : u.width ≡ sound_width (width_of (value_type c.shape)) = ap (λ (u : Word). u.width) (sym into.found) ∙ wide.0 ∙ ap sound_width (bits_width (value_type c.shape)) in
          let fits : HasWidth (width_of (value_type c.shape)) u = record { width = width; in_range = subst (λ m. u.value < 2 ^ m) width (words_now p b d q known.stands e 0).in_range } in
          let here : HoldsRead p d base (l ++ e ∷ []) r.store e =
          record {
            value = ap (λ j. word_at r.store (found_name (base + j) ∷ [])) (place_last l e f.new) ∙ ap (λ m. word_at r.store (found_name m ∷ [])) (sym at) ∙ ap₂ shown (plain_now p b d r old.stands) into.found;
            fits = subst (λ o. HasWidth (width_of (type_in o)) u) (sym decl.1) fits;
          } in
          record { stands = old.stands; held = λ g i. go g i (is_in l g) refl old.held here }
        where
          go : (g : Expr) → is_in (l ++ e ∷ []) g ≡ true → (t : Bool) → is_in l g ≡ t → AllHeld p b d base l r.store → HoldsRead p d base (l ++ e ∷ []) r.store e → HoldsRead p d base (l ++ e ∷ []) r.store g
          go g is true i old here = (let one = old g i in record { value = ap (λ j. word_at r.store (found_name (base + j) ∷ [])) (place_more l (e ∷ []) g i) ∙ one.value; fits = one.fits })
          go g is false i old here = subst (λ g. HoldsRead p d base (l ++ e ∷ []) r.store g) (is_last l e g is i) here

      next_runs : (e : Expr) → IsNext p.exits v l e → AreServed p ((n, read_decl ds e) ∷ []) → Ends (Known p b d base (l ++ e ∷ [])) (meaning_of p.calls (read_stmts (environment p) ds base (read_decl ds e) l n (keys_of e)) q)
      next_runs e f h = ends_some (ReadInto p.vars n (value_of v e 0) q) (Known p b d base (l ++ e ∷ [])) _ (λ r i. one_more e r f h i) (is_read e f h)

  -- ---- reads in turn

  pub reads_run : (l es : List Expr) (n : ℕ) → InTurn p.exits v l es → n ≡ base + length l → n + length es ≤ 2 ^ 64 → AreServed p (numbered_reads ds n es) → (q : Run) → Known p b d base l q
      → Ends (Known p b d base (l ++ es)) (meaning_of p.calls (reads_stmts (environment p) ds base l n es) q)
  reads_run l [] n turn at few h q k = nothing_more p.calls (Known p b d base (l ++ [])) q (subst (λ m. Known p b d base m q) (sym (append-nil l)) k)
  reads_run l (e ∷ es) n turn at few h q k =
      let r : ℕ × Option Decl = (n, read_decl ds e) in
      let rest = numbered_reads ds (suc n) es in
      let behind : suc n ≡ base + length (l ++ e ∷ []) = (let long = length-append l (e ∷ []) in omega (arith, at, long)) in
      steps p.calls (Known p b d base (l ++ e ∷ [])) (Known p b d base (l ++ e ∷ es)) (read_stmts (environment p) ds base (read_decl ds e) l n (keys_of e)) (reads_stmts (environment p) ds base (l ++ e ∷ []) (suc n) es) q
      (next_runs l n at (omega (arith, few)) q k e turn.0 (served_left p (r ∷ []) rest h))
      (λ s j. subst (λ m. Ends (Known p b d base m) (meaning_of p.calls (reads_stmts (environment p) ds base (l ++ e ∷ []) (suc n) es) s)) (append_assoc l (e ∷ []) es)
      (reads_run (l ++ e ∷ []) es (suc n) turn.1 behind (omega (arith, few)) (served_right p (r ∷ []) rest h) s j))
