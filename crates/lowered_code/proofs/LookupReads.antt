-- A control variable is looked up, by its table.
use Rattle.std.proofs.Common.{◌≡◌, ℕ, suc, ◌<◌, ◌^◌, List, [], ◌∷◌, length, Bool, true, false, cond, Some, None, refl, sym, ap, ◌∙◌, subst, arith}
use Rattle.bit_values.specs.Bits.{Word, word}
use Rattle.bit_values.specs.Widths.{sound_width}
use Rattle.lex_text.specs.Names.{same_text}
use Rattle.p4_tree.specs.Tree.{done, next}
use Rattle.p4_meaning.specs.Store.{Store}
use Rattle.p4_meaning.specs.Value as p4v
use Rattle.p4_meaning.specs.Statements.{Run, Calls, meaning_of}
use Rattle.network_run.specs.PathMeaning.{Doing}
use Rattle.indus_tree.specs.Tree.{Expr, Exprs, none, more, Shape, one, list, set, dict, Decl}
use Rattle.indus_tree.specs.State.{Held, lookup, shape_width, width_of}
use Rattle.indus_tree.specs.Reads.{Seen}
use Rattle.indus_tree.specs.Keys.{widths}
use Rattle.indus_tree.specs.Meaning.{seen_by}
use Rattle.indus_tree.specs.Value.{key_of}
use Rattle.indus_tree.specs.declared.tree.DeclKind.TheVariants.{Control}
use Rattle.indus_tree.specs.declared.tree.Ty.{Ty}
use Rattle.own_code.proofs.Apart.{text_decides}
use Rattle.lookup_names.specs.Names.{found_name, key_name}
use Rattle.lookup_names.specs.Keys.{key_types}
use Rattle.lowered_code.specs.Expressions.{value_type, bits_type}
use Rattle.lowered_code.specs.Reads.{clear, cleared, apply, keyed, read_control}
use Rattle.lowered_code.specs.Statements.{Var, key_vars, kept_types, read_vars}
use Rattle.lowered_code.specs.Suiting.{PartsFit, AllSuit}
use Rattle.lowered_code.specs.Standing.{Setting, environment, HasWidths, Begins, Ends}
use Rattle.lowered_code.specs.Lookups.{looked_up, Scratch, IsReady, Finds}
use Rattle.lowered_code.proofs.Widths.{value_width}
use Rattle.lowered_code.proofs.Steps.{ends_some, nothing_more, alone, steps}
use Rattle.lowered_code.proofs.Scratch.{scratch_same, scratch_then}
use Rattle.lowered_code.proofs.Values.{AllCovered}
use Rattle.lowered_code.proofs.Sight.{plain_now, Known}
use Rattle.lowered_code.proofs.Cells.{bits_width}
use Rattle.lowered_code.proofs.Keys.{IsNew, scratch_known, keyed_runs}
use Rattle.lowered_code.proofs.SensorReads.{ReadInto, Cleared, clears}

-- a declaration that is found has the name
pub lookup_name : (ds : List Decl) (x : List ℕ) (c : Decl) → lookup ds x ≡ Some c → c.name ≡ x
lookup_name [] x c is = absurd (cc)
lookup_name (e ∷ ds) x c is = go (same_text e.name x) refl is (lookup_name ds x c)
  where
    go : (b : Bool) → same_text e.name x ≡ b → cond b (Some e) (lookup ds x) ≡ Some c → (lookup ds x ≡ Some c → c.name ≡ x) → c.name ≡ x
    go true k i j = let same : e ≡ c = cc in ap (λ (d : Decl). d.name) (sym same) ∙ (text_decides e.name x).0 k
    go false k i j = j i

-- the variable of what is found has the width of its declaration
pub found_width : (c : Decl) → sound_width (p4v.width_of (bits_type (value_type c.shape))) ≡ sound_width (shape_width c.shape)
found_width c = ap sound_width (bits_width (value_type c.shape) ∙ value_width c.shape)

-- the variables of a key keep their widths where only that of what is found is written
pub keys_kept : (n i : ℕ) (ts : List Ty) (s r : Store) → ((x : List ℕ) → same_text (found_name n) x ≡ false → r.values (x ∷ []) ≡ s.values (x ∷ [])) → HasWidths (key_vars n i ts) s → HasWidths (key_vars n i ts) r
keys_kept n i [] s r o h = tt
keys_kept n i (t ∷ ts) s r o h = (ap (λ (u : Word). u.width) (o (key_name n i) refl) ∙ h.0, keys_kept n (suc i) ts s r o h.1)

-- from q to r the variable was made ready for a lookup, and other variables stayed
record MadeReady (vars : List Var) (n : ℕ) (s : Shape) (q r : Run) : Type 0 where
  scratch : Scratch vars n q r
  ready : IsReady s (r.store.values (found_name n ∷ []))
  others : (x : List ℕ) → same_text (found_name n) x ≡ false → r.store.values (x ∷ []) ≡ q.store.values (x ∷ [])

module _ (calls : Calls) (vars : List Var) (n : ℕ) (q : Run) (plain : q.store.headers [] ≡ None) where
  as_it_is : (s : Shape) → IsReady s (q.store.values (found_name n ∷ [])) → Ends (MadeReady vars n s q) (meaning_of calls done q)
  as_it_is s ready = nothing_more calls (MadeReady vars n s q) q (record { scratch = scratch_same vars n q; ready = ready; others = λ x o. refl })

  by_clearing : (s : Shape) (w : ℕ) → ((u : Word) → u ≡ word w 0 → IsReady s u) → (q.store.values (found_name n ∷ [])).width ≡ sound_width w → sound_width w ≡ w → Ends (MadeReady vars n s q) (meaning_of calls (next (clear n w) done) q)
  by_clearing s w ready wide k =
      alone calls (MadeReady vars n s q) (clear n w) q
      (ends_some (Cleared vars n w q) (MadeReady vars n s q) _ (λ r g. record { scratch = g.into.scratch; ready = ready _ g.into.found; others = g.others })
      (clears calls vars n w q plain wide k))

  readies : (s : Shape) → (q.store.values (found_name n ∷ [])).width ≡ sound_width (shape_width s) → sound_width (shape_width s) ≡ shape_width s → Ends (MadeReady vars n s q) (meaning_of calls (cleared n s) q)
  readies (one t) wide k = as_it_is (one t) (wide ∙ k)
  readies (list t m) wide k = as_it_is (list t m) (wide ∙ k)
  readies (set ts) wide k = by_clearing (set ts) 1 (λ u i. i) wide k
  readies (dict ts t) wide k = by_clearing (dict ts t) (width_of t) (λ u i. i) wide k

module _ (p : Setting) (b : Begins p) (d : Doing Held Held) (base : ℕ) (l : List Expr) (n : ℕ) (new : IsNew base l n) where
  abbrev v : Seen
  v = seen_by p.hop [] d

  abbrev ds : List Decl
  ds = p.hop.decls

  -- a key has as many words as types
  as_many : (ts : List Ty) (ks : Exprs) → PartsFit p.exits v ts ks → length (key_of v ks (widths ts)) ≡ length ts
  as_many [] none f = refl
  as_many [] (more e es) f = absurd f
  as_many (t ∷ ts) none f = absurd f
  as_many (t ∷ ts) (more e es) f = ap suc (as_many ts es f.2)

  pub control_reads : (x : List ℕ) (c : Decl) (ks : Exprs) (q : Run) → Known p b d base l q → lookup ds x ≡ Some c → c.kind ≡ Control → Finds p (n, c) → length (key_types c.shape) < 2 ^ 64 → PartsFit p.exits v (key_types c.shape) ks → AllSuit p.exits v ks → AllCovered ds l ks → HasWidths (read_vars n (Some c)) q.store
      → Ends (ReadInto p.vars n (looked_up c.shape (p.hop.contents x) (key_of v ks (widths (key_types c.shape)))) q) (meaning_of p.calls (read_control (environment p) ds base l n c ks) q)
  control_reads x c ks q known is k finds few fits suit covers wide =
      let ts = key_types c.shape in
      let key = key_of v ks (widths ts) in
      let R : Run → Type 0 = ReadInto p.vars n (looked_up c.shape (p.hop.contents x) key) q in
      let app = apply (environment p) ds base n in
      let keys : HasWidths (key_vars n 0 ts) q.store = subst (λ k. HasWidths (key_vars n 0 (kept_types k c.shape)) q.store) k wide.1 in
      let plain = plain_now p b d q known.stands in
      steps p.calls (MadeReady p.vars n c.shape q) R (cleared n c.shape) (keyed (environment p) ds base l n 0 ts ks (next app done)) q
      (readies p.calls p.vars n q plain c.shape (wide.0 ∙ found_width c) (b.hop.sound x c is))
      (λ q1 g.
      (let known1 = scratch_known p b d base l n new q q1 g.scratch known in
      keyed_runs p b d base l n new R (next app done) 0 ts ks (omega (arith, few)) fits suit covers q1 known1 (keys_kept n 0 ts q.store q1.store g.others keys)
      (λ r i.
      (let there = finds (subst (λ y. lookup ds y ≡ Some c) (sym (lookup_name ds x c is)) is) k r key (ap (λ f. f []) i.scratch.headers ∙ plain_now p b d q1 known1.stands) (subst (IsReady c.shape) (sym i.found) g.ready) i.keys (as_many ts ks fits) in
      alone p.calls R app r
      (record {
        run = record {
          scratch = scratch_then p.vars n q r _ (scratch_then p.vars n q q1 r g.scratch i.scratch) there.scratch;
          found = there.found ∙ ap (λ y. looked_up c.shape (p.hop.contents y) key) (lookup_name ds x c is);
        };
        goes = there.goes;
      })))))
