-- The statements of a read keep what was read before, and the parts of a key come to stand in their variables.
use Rattle.std.proofs.Common.{◌≡◌, ℕ, suc, ◌+◌, ◌<◌, ◌^◌, List, [], ◌∷◌, length, true, false, cond, ◌&&◌, refl, ap, ap₂, ◌∙◌, arith}
use Rattle.bit_values.specs.Bits.{Word}
use Rattle.bit_values.specs.Widths.{sound_width}
use Rattle.lex_text.specs.Names.{same_text}
use Rattle.p4_tree.specs.Tree.{Stmts}
use Rattle.p4_meaning.specs.Store.{shown}
use Rattle.p4_meaning.specs.Value as p4v
use Rattle.p4_meaning.specs.Statements.{Run, meaning_of}
use Rattle.network_run.specs.PathMeaning.{Doing}
use Rattle.indus_tree.specs.Tree.{Expr, Exprs, none, more, Decl}
use Rattle.indus_tree.specs.State.{Held}
use Rattle.indus_tree.specs.Reads.{Seen}
use Rattle.indus_tree.specs.Keys.{widths}
use Rattle.indus_tree.specs.Meaning.{seen_by}
use Rattle.indus_tree.specs.Value.{key_of}
use Rattle.indus_tree.specs.declared.tree.Ty.{Ty}
use Rattle.lookup_names.specs.Names.{found_name, key_name}
use Rattle.lowered_code.specs.Expressions.{to_bits, is_in, place_in, lowered}
use Rattle.lowered_code.specs.Reads.{keyed}
use Rattle.lowered_code.specs.Statements.{Var, key_vars}
use Rattle.lowered_code.specs.Suiting.{PartsFit, AllSuit}
use Rattle.lowered_code.specs.Standing.{Setting, environment, HasWidths, Begins, Ends}
use Rattle.lowered_code.specs.Lookups.{AreKeys, Scratch}
use Rattle.lowered_code.proofs.Numbers.{parts_apart}
use Rattle.lowered_code.proofs.Steps.{value_in, run_with, sets_then}
use Rattle.lowered_code.proofs.Scratch.{reads_back, widths_set, scratch_same, scratch_then, scratch_key, scratch_stands}
use Rattle.lowered_code.proofs.Values.{AllCovered}
use Rattle.lowered_code.proofs.Sight.{plain_now, Known, same_now}
use Rattle.lowered_code.proofs.Cells.{bits_width, bits_are}

-- behind the statements of a key its words stand in their variables, from the i-th on
pub record Keyed (vars : List Var) (n i : ℕ) (ws : List Word) (q r : Run) : Type 0 where
  pub scratch : Scratch vars n q r
  pub keys : AreKeys n i ws r.store
  pub found : r.store.values (found_name n ∷ []) ≡ q.store.values (found_name n ∷ [])
  pub before : (j : ℕ) → j < i → r.store.values (key_name n j ∷ []) ≡ q.store.values (key_name n j ∷ [])

-- the number is that of none of the reads before
abbrev pub IsNew : (base : ℕ) → List Expr → (n : ℕ) → Type 0
IsNew base l n = (e : Expr) → is_in l e ≡ true → same_text (found_name n) (found_name (base + place_in l e)) ≡ false

module _ (p : Setting) (b : Begins p) (d : Doing Held Held) (base : ℕ) (l : List Expr) (n : ℕ) (new : IsNew base l n) where
  abbrev v : Seen
  v = seen_by p.hop [] d

  abbrev ds : List Decl
  ds = p.hop.decls

  pub scratch_known : (q r : Run) → Scratch p.vars n q r → Known p b d base l q → Known p b d base l r
  scratch_known q r i k =
      record {
        stands = scratch_stands p n q r d i k.stands;
        held = λ e m. let one = k.held e m in record { value = ap₂ shown (ap (λ g. g []) i.headers) (i.found _ (new e m)) ∙ one.value; fits = one.fits };
      }

  -- what follows a key's statements is the statements `rest`
  module _ (R : Run → Type 0) (rest : Stmts) where
    pub keyed_runs : (i : ℕ) (ts : List Ty) (ks : Exprs) → i + length ts < 2 ^ 64 → PartsFit p.exits v ts ks → AllSuit p.exits v ks → AllCovered ds l ks → (q : Run) → Known p b d base l q → HasWidths (key_vars n i ts) q.store
        → ((r : Run) → Keyed p.vars n i (key_of v ks (widths ts)) q r → Ends R (meaning_of p.calls rest r)) → Ends R (meaning_of p.calls (keyed (environment p) ds base l n i ts ks rest) q)
    keyed_runs i [] none few fits suit covers q k w then = then q (record { scratch = scratch_same p.vars n q; keys = tt; found = refl; before = λ j lt. refl })
    keyed_runs i [] (more e es) few fits suit covers q k w then = absurd fits
    keyed_runs i (t ∷ ts) none few fits suit covers q k w then = absurd fits
    keyed_runs i (t ∷ ts) (more e es) few fits suit covers q k w then =
        let x = key_name n i in
        let f = lowered (environment p) ds base l e in
        let g = to_bits t f in
        let u = value_in p.calls q x g in
        let q1 = run_with p.calls q x g in
        let old = q.store.values (x ∷ []) in
        let one = scratch_key p.vars n n i q (p4v.value_of g old.width q.store) in
        let is = bits_are q.store v t f e (same_now p b d base l q k e suit.0 covers.0) fits.0 fits.1 old.width (w.0 ∙ ap sound_width (bits_width t)) in
        sets_then p.calls R q x g (keyed (environment p) ds base l n (suc i) ts es rest) (plain_now p b d q k.stands)
        (keyed_runs (suc i) ts es (omega (arith, few)) fits.2 suit.1 covers.1 q1 (scratch_known q q1 one k) (widths_set (key_vars n (suc i) ts) q.store (x ∷ []) (p4v.value_of g old.width q.store) w.1)
        (λ r h. then r (record {
          scratch = scratch_then p.vars n q q1 r one h.scratch;
          keys = (h.before i (omega arith) ∙ reads_back q.store (x ∷ []) u ∙ is, h.keys);
          found = h.found;
          before = λ j lt. h.before j (omega (arith, lt)) ∙ ap (λ b. cond (b && true) u (q.store.values (key_name n j ∷ []))) (parts_apart n i j (omega (arith, few)) (omega (arith, few, lt)) (λ e. omega (arith, e, lt)));
        })))
